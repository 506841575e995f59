-- What the readers of a stored file hand back, as numbers.
use Rattle.std.specs.Prelude.{Bool, true, false, Result, Ok, Err, ℕ, zero, suc}
use Rattle.refusals.specs.Refusal.{number}
use Rattle.refusals.specs.declared.Refusal.{Refusal}
use Rattle.stored.specs.declared.Form.{Form}
use Rattle.stored.specs.declared.Form.TheVariants.{One, Two}
use Rattle.stored.specs.declared.Reading.{Reading}

-- 1 for form 1, 2 for form 2
abbrev pub form_code : Form → ℕ
form_code One = 1
form_code Two = 2

-- the bytes of a symbol
abbrev pub symbol_bytes : Bool → ℕ
symbol_bytes true = 1
symbol_bytes false = 2

-- of a refused file: the number of the refusal, and zeros with form 1 and two bytes
abbrev pub refused_place : Refusal → ℕ → ℕ
refused_place e zero = number e
refused_place e (suc zero) = 0
refused_place e (suc (suc zero)) = 0
refused_place e (suc (suc (suc zero))) = 0
refused_place e (suc (suc (suc (suc zero)))) = form_code One
refused_place e (suc (suc (suc (suc (suc zero))))) = symbol_bytes false
refused_place e (suc (suc (suc (suc (suc (suc n)))))) = 0

-- a number by its place: the refusal, where the word and the proof begin and where the last record ends, the form, the bytes of a symbol,
-- and the shift
abbrev pub place_of : Result Reading Refusal → ℕ → ℕ
place_of (Ok r) zero = 0
place_of (Ok r) (suc zero) = r.word
place_of (Ok r) (suc (suc zero)) = r.proof
place_of (Ok r) (suc (suc (suc zero))) = r.end
place_of (Ok r) (suc (suc (suc (suc zero)))) = form_code r.form
place_of (Ok r) (suc (suc (suc (suc (suc zero))))) = symbol_bytes r.narrow
place_of (Ok r) (suc (suc (suc (suc (suc (suc n)))))) = r.setting.shift
place_of (Err e) n = refused_place e n
