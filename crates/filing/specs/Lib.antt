-- Stored files written: what the writer and the converter answer.
pub mod Filed
pub mod Writer
pub mod Convert
pub mod Put
pub mod PutFile
pub mod WriterLaws
pub mod ConvertLaws
