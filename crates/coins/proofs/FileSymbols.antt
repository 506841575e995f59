-- The symbols of an accepted file within the limit. Assumes nothing.
use mathlib.Core.Path.{◌≡◌, sym, ap, ◌∙◌, subst, transport}
use mathlib.Core.List.{List}
use Prim.Native.Nat.{ℕ, ◌*◌, ◌%◌, ◌^◌, ◌≤◌}
use native.Mathlib.Omega.{arith}
use lib.ListN.{length, take}
use lib.Pow.{pow_mono}
use Rattle.lists.specs.All.{Below}
use Rattle.lists.specs.Answers.{Passes}
use Rattle.field.specs.Binary.{degree}
use Rattle.space.specs.Fits.{sound_fits}
use Rattle.space.specs.Ready.{Ready}
use Rattle.space.specs.Usable.{own_ready}
use Rattle.correction.specs.Start.{InSetting}
use Rattle.proximity.specs.Dim.{S}
use Rattle.verifier.proofs.Laws.{one_shifted}
use Rattle.stored.proofs.Accepted.{accepted, read_places}
use Rattle.stored.specs.Bytes.{numbers_at}
use Rattle.stored.proofs.CheckLaws.{read-passes, read_ready, read_dimension, read_below}
use Rattle.stored.specs.File.{file_limit, small_dim, form_in, modulus_in, degree_in, dim_in, basis_in, word_in}
use Rattle.stored.specs.Packed.{length_numbers}
use Rattle.stored.specs.Passed.{length_basis}
use Rattle.stored.specs.Reader.{file_checks}
use Rattle.stored.specs.Short.{short-proof, short-file}
use Rattle.stored.specs.declared.Reading.{Reading}
use Rattle.coins.specs.Tally.{Readable}
use Rattle.coins.specs.Totals.{Off}
use Rattle.std.specs.Prelude.{Option}

-- the dimension is small
pub small_dimension : (f : List ℕ) → Passes (file_checks f) → length f ≤ file_limit → dim_in f ≤ small_dim
small_dimension f p h =
    let a = accepted f p in
    short-file (form_in f) (degree_in f) (dim_in f) (omega (arith, sound_fits a.records.setting, length_basis f)) a.records.head.high (omega (arith, a.whole))

-- the number of symbols, as it is computed
abbrev pub symbol_count : ℕ → ℕ
symbol_count k = 1 * 2 ^ k % 18446744073709551616

module _ (f : List ℕ) (r : Reading) (a : Readable f r) where
  abbrev k : ℕ
  k = r.setting.space.k

  -- the setting that was read is ready, by its own modulus
  set : Ready r.setting.field.modulus (basis_in f) r.setting
  set = own_ready (read_ready f r a)

  pub small : length f ≤ file_limit → k ≤ small_dim
  small h = omega (arith, read_dimension f r a, small_dimension f (read-passes f r a) h)

  module _ (h : length f ≤ file_limit) where
    pub count-is : symbol_count k ≡ 2 ^ k
    count-is = one_shifted k (omega (arith, small h))

    pub few_symbols : symbol_count k ≤ 2 ^ small_dim
    few_symbols = omega (arith, count-is, pow_mono {i = k} {j = small_dim} (small h))

    -- the word in the first places of a list
    pub word-front : (xs : List ℕ) → take (2 ^ k) xs ≡ numbers_at r.narrow f r.word (2 ^ k) → take (symbol_count k) xs ≡ numbers_at r.narrow f r.word (2 ^ k)
    word-front xs e = ap (λ (i : ℕ). take i xs) count-is ∙ e

    pub short : S k ≤ S small_dim
    short = short-proof k (small h)

    -- the word that was read, in the setting that was read
    pub word_set : (w : List ℕ) → w ≡ numbers_at r.narrow f r.word (2 ^ k) → InSetting r.setting w
    word_set w e =
        record {
          basis = basis_in f;
          ready = set;
          whole = ap length e ∙ length_numbers r.narrow f r.word (2 ^ k);
          symbols = subst (Below (2 ^ degree r.setting.field.modulus)) (sym e) (read_below f r a);
        }

    -- how far it is off
    pub word_off : (w : List ℕ) (d : Option ℕ) → w ≡ numbers_at r.narrow f r.word (2 ^ k) → ((bs : List ℕ) → Ready r.setting.field.modulus bs r.setting → Off r.setting.field.modulus bs w d)
        → Off (modulus_in f) (basis_in f) (word_in f) d
    unfolding word_in
    word_off w d e o =
        let modulus : r.setting.field.modulus ≡ modulus_in f = (read_ready f r a).modulus in
        let dimension : k ≡ dim_in f = read_dimension f r a in
        let places = read_places f r a in
        let same : w ≡ word_in f = e ∙ (λ i. numbers_at (places.narrow i) f (places.word i) (2 ^ dimension i)) in
        transport (λ i. Off (modulus i) (basis_in f) (same i) d) (o (basis_in f) set)
