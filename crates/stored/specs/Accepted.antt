-- What an accepted file holds, and its places. Assumes nothing.
use Rattle.std.specs.Prelude.{◌≡◌, List, ℕ, ◌^◌, length}
use Rattle.space.specs.Sound.{Sound}
use Rattle.proximity.specs.Dim.{S}
use Rattle.stored.specs.File.{word_mark, proof_mark, word_record_at, word_start, proof_record_at, proof_start, form_in, modulus_in, degree_in, dim_in, basis_in, shift_in, narrow_in, end_in}
use Rattle.stored.specs.Passed.{Head, Held}
use Rattle.stored.specs.declared.Reading.{Reading}

-- the records of the setting, the word and the proof
pub record Prefix (f : List ℕ) : Type 0 where
  pub head : Head f
  pub setting : Sound (modulus_in f) (basis_in f) (shift_in f)
  pub word : Held (narrow_in f) f (word_record_at (form_in f) (dim_in f)) 87 (word_mark (form_in f)) (2 ^ dim_in f) (degree_in f)
  pub proof : Held (narrow_in f) f (proof_record_at (form_in f) (degree_in f) (dim_in f)) 80 (proof_mark (form_in f)) (S (dim_in f)) (degree_in f)

-- and nothing after them
pub record Accepted (f : List ℕ) : Type 0 where
  pub records : Prefix f
  pub whole : length f ≡ end_in f

module _ (f : List ℕ) where
  abbrev k : ℕ
  k = dim_in f

  abbrev l : ℕ
  l = degree_in f

  -- the places of an accepted file
  pub record Places (r : Reading) : Type 0 where
    pub form : r.form ≡ form_in f
    pub narrow : r.narrow ≡ narrow_in f
    pub word : r.word ≡ word_start (form_in f) k
    pub proof : r.proof ≡ proof_start (form_in f) l k
    pub end : r.end ≡ end_in f
    pub whole : length f ≡ end_in f
