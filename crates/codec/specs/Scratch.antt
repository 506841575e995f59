-- The scratch of a call. Definitions only.
use Rattle.std.specs.Prelude.{ℕ, ◌*◌, ◌^◌}

-- the symbols of scratch that encoder, decoder and prover take at dimension k
abbrev pub scratch_for : ℕ → ℕ
scratch_for k = 4 * 2 ^ k
