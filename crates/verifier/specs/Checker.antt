-- What the checker answers: its checks in order, and then the verdict with the number of symbols read; a reject also tells the degree behind it.
use Rattle.std.specs.Prelude.{◌≡◌, ◌⊎◌, Result, List, [], ◌∷◌, ◌++◌, map, ℕ, ◌^◌, ◌≤◌, length}
use Rattle.lists.specs.All.{All}
use Rattle.lists.specs.Answers.{Checks}
use Rattle.refusals.specs.Gives.{Gives}
use Rattle.refusals.specs.declared.Refusal.{Refusal}
use Rattle.field.specs.Laws.{Ops}
use Rattle.field.specs.Symbols.{symbols}
use Rattle.poly.specs.Codeword.{word_of}
use Rattle.poly.specs.LeastDegree.{LeastDegree}
use Rattle.space.specs.Setting.{setting_checks}
use Rattle.proximity.specs.Dim.{dim, S, R}
use Rattle.proximity.specs.Verifier.{Accepts, positions, read_at, leaf_dim, leaf_basis}
use Rattle.verifier.specs.declared.Verdict.{Verdict}
use Rattle.verifier.specs.declared.Verdict.TheVariants.{Accept, Reject}

-- the symbols at a coin's positions, and how many they are
abbrev pub symbols_at : ℕ → List ℕ → List ℕ → ℕ → List ℕ
symbols_at k w π coin = map (read_at w π) (positions (dim k) coin)

abbrev pub reads_of : ℕ → ℕ → ℕ
reads_of k coin = length (positions (dim k) coin)

-- checks 6 and 8, of the lengths of word and proof and of the coin
abbrev pub delivery_checks : ℕ → ℕ → ℕ → ℕ → Checks
delivery_checks k word proof coin = (6, (word ≡ 2 ^ k → ⊥) ⊎ (proof ≡ S k → ⊥)) ∷ (8, 2 ^ R k ≤ coin) ∷ []

-- check 9, of the symbols at this coin's positions alone
abbrev pub read_checks : Ops → ℕ → List ℕ → List ℕ → ℕ → Checks
read_checks K k w π coin = (9, (All K.Sym (symbols_at k w π coin) → ⊥)) ∷ []

abbrev pub checker_checks : ℕ → List ℕ → ℕ → List ℕ → List ℕ → ℕ → Checks
checker_checks m bs σ w π coin =
    setting_checks m bs σ ++ delivery_checks (length bs) (length w) (length π) coin ++ read_checks (symbols m) (length bs) w π coin

-- what a verdict says, where A says that the pair is accepted, and the n symbols xs that are read are a word over the space of dimension m with the basis b.
-- A reject tells the number of symbols read, the least degree of a polynomial through them, and m.
abbrev pub Judges : Ops → Type 0 → ℕ → ℕ → List ℕ → List ℕ → Verdict → Type 0
Judges K A n m b xs (Accept r) = (r ≡ n) × A
Judges K A n m b xs (Reject r) = (r.reads ≡ n) × (A → ⊥) × LeastDegree K (word_of K m b) xs r.degree × (r.dimension ≡ m)

-- the answer past the checks cs
abbrev pub Judged : Checks → Ops → Type 0 → ℕ → ℕ → List ℕ → List ℕ → Result Verdict Refusal → Type 0
Judged cs K A n m b xs = Gives cs (Judges K A n m b xs)

-- the answer at a coin, past the checks cs: the symbols at its positions are a word over the space at which it ends
abbrev pub Answered : Checks → Ops → ℕ → List ℕ → List ℕ → List ℕ → ℕ → Result Verdict Refusal → Type 0
Answered cs K k bs w π coin =
    Judged cs K (Accepts K (dim k) bs w π coin) (reads_of k coin) (leaf_dim (dim k) coin) (leaf_basis K (dim k) bs coin) (symbols_at k w π coin)

-- the checker's answer for a modulus, a basis, a shift, a word, a proof and a coin: rows and columns are those of the span; of the shift only check 4 speaks
abbrev pub Told : ℕ → List ℕ → ℕ → List ℕ → List ℕ → ℕ → Result Verdict Refusal → Type 0
Told m bs σ w π coin = Answered (checker_checks m bs σ w π coin) (symbols m) (length bs) bs w π coin

-- the answer past checks 1 to 8
abbrev pub OnCoin : Ops → ℕ → List ℕ → List ℕ → List ℕ → ℕ → Result Verdict Refusal → Type 0
OnCoin K k bs w π coin = Answered (read_checks K k w π coin) K k bs w π coin
