-- The dimensions whose files are within the limit. Assumes nothing.
use Rattle.std.specs.Prelude.{◌≡◌, refl, Bool, List, ℕ, ◌+◌, ◌*◌, ◌-◌, ◌^◌, ◌≤◌, ◌<◌, take, drop, get_or}
use Rattle.std.proofs.Common.{sym, subst, ap, ◌∙◌, arith, le-ltb, pow_mono}
use Rattle.std.proofs.Math.Decide.{dec_le}
use Rattle.lists.specs.All.{All-at, All-inside}
use Rattle.lists.specs.Tables.{table_at}
use Rattle.space.specs.Sizes.{max_dim}
use Rattle.proximity.specs.Dim.{S}
use Rattle.proximity.specs.Tree.{lengths, tables_right}
use Rattle.stored.specs.Bytes.{packed_size}
use Rattle.stored.specs.File.{narrow_of, file_end, file_limit, small_dim, small_proof}
use Rattle.stored.specs.Packed.{size_double}
use Rattle.stored.specs.Passed.{record_size}
use Rattle.stored.specs.declared.Form.{Form}
use Rattle.stored.specs.declared.Form.TheVariants.{One, Two}

-- the lengths of their proofs
abbrev shorts : List ℕ
shorts = take (small_dim + 1) lengths

short-at : (k : ℕ) → k ≤ small_dim → get_or shorts k 0 ≡ S k
short-at k h = table_at S shorts (small_dim + 1) (ap (take (small_dim + 1)) tables_right.0) k (omega arith)

-- the longest of them
pub small-proof : S small_dim ≡ small_proof
small-proof = sym (short-at small_dim (omega arith))

pub short-proof : (k : ℕ) → k ≤ small_dim → S k ≤ S small_dim
short-proof k h =
    subst (λ (x : ℕ). x ≤ S small_dim) (short-at k h)
    (All-at (λ (x : ℕ). x ≤ S small_dim) shorts 0 (omega (arith, small-proof)) (omega arith) k)

long-proof : (k : ℕ) → small_dim < k → k ≤ max_dim → file_limit < 2 * S k
long-proof k l h =
    subst (λ (x : ℕ). file_limit < 2 * x)
    (table_at (λ i. S (small_dim + 1 + i)) (drop (small_dim + 1) lengths) (max_dim - small_dim) (ap (drop (small_dim + 1)) tables_right.0) (k - (small_dim + 1)) (omega arith) ∙ ap S {x = small_dim + 1 + (k - (small_dim + 1))} {y = k} (omega arith))
    (All-inside (λ (x : ℕ). file_limit < 2 * x) (drop (small_dim + 1) lengths) 0 (omega arith) (k - (small_dim + 1)) (omega arith))

-- ---- the files of these dimensions are within the limit in either form, and none of a larger dimension

pub small-file : (form : Form) (l k : ℕ) → k ≤ small_dim → file_end form l k ≤ file_limit
small-file form l k h =
    omega (
      arith,
      short-proof k h,
      small-proof,
      record_size form k,
      size_double (narrow_of form l) (2 ^ k),
      size_double (narrow_of form l) (S k),
      pow_mono {i = k} {j = small_dim} h,
    )

-- symbols of one byte have l ≤ 8, and k ≤ l; symbols of two make a long file
wide-proof : (form : Form) (l : ℕ) → small_dim < l → (n : ℕ) → packed_size (narrow_of form l) n ≡ 2 * n
wide-proof One l h n = refl
wide-proof Two l h n = ap (λ (t : Bool). packed_size t n) (le-ltb l 9 (omega arith))

pub short-file : (form : Form) (l k : ℕ) → k ≤ l → k ≤ max_dim → file_end form l k ≤ file_limit → k ≤ small_dim
short-file form l k f h e = by (dec_le k small_dim)
  where
    by : Dec (k ≤ small_dim) → k ≤ small_dim
    by (yes g) = g
    by (no g) = absurd (omega (arith, long-proof k (omega arith) h, wide-proof form l (omega arith) (S k)))
