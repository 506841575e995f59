-- The scratch of the call. Definitions only.
use Rattle.std.specs.Prelude.{ℕ, ◌*◌, ◌^◌}

-- its size, in words of 2^k symbols
abbrev pub scratch_words : ℕ
scratch_words = 16

-- the symbols of scratch at dimension k
abbrev pub correction_scratch : ℕ → ℕ
correction_scratch k = scratch_words * 2 ^ k
