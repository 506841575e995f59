-- The order of checks of a call: a table of refusal numbers, each with the sentence under which it is given.
use Rattle.std.specs.Prelude.{◌≡◌, refl, ◌⊎◌, List, [], ◌∷◌, ◌++◌, ℕ, ◌<◌}
use Rattle.std.proofs.Common.{sym, ◌∙◌, inl, inr, arith}

abbrev pub Checks : Type 1
Checks = List (ℕ × Type 0)

-- r is the number of the first check whose sentence holds, and 0 where none does
abbrev pub Answers : Checks → ℕ → Type 0
Answers [] r = r ≡ 0
Answers ((n, P) ∷ cs) r = (P × (r ≡ n)) ⊎ ((P → ⊥) × Answers cs r)

-- no check refuses
abbrev pub Passes : Checks → Type 0
Passes cs = Answers cs 0

-- the call is refused with the number r
abbrev pub Refuses : Checks → ℕ → Type 0
Refuses cs r = (0 < r) × Answers cs r

-- at most one number answers
pub answers_one : (cs : Checks) {r s : ℕ} → Answers cs r → Answers cs s → r ≡ s
answers_one [] a b = a ∙ sym b
answers_one ((n, P) ∷ cs) (inl a) (inl b) = a.1 ∙ sym b.1
answers_one ((n, P) ∷ cs) (inl a) (inr b) = absurd (b.0 a.0)
answers_one ((n, P) ∷ cs) (inr a) (inl b) = absurd (a.0 b.0)
answers_one ((n, P) ∷ cs) (inr a) (inr b) = answers_one cs a.1 b.1

-- no call that passes its checks is refused
pub not_refused : {n : ℕ} (cs : Checks) → Passes cs → Refuses cs n → ⊥
not_refused cs p (l, a) = let z = answers_one cs a p in omega arith

-- ---- two tables, one after the other

-- no number of the table is 0, which means that no check refuses
abbrev pub Numbered : Checks → Type 0
Numbered [] = Unit {0}
Numbered ((n, P) ∷ cs) = (0 < n) × Numbered cs

-- past the first table the second answers
pub answers-after : (cs ds : Checks) (r : ℕ) → Numbered cs → Passes cs → Answers ds r → Answers (cs ++ ds) r
answers-after [] ds r k p a = a
answers-after ((n, P) ∷ cs) ds r k (inl p) a = absurd (omega arith)
answers-after ((n, P) ∷ cs) ds r k (inr p) a = inr (p.0, answers-after cs ds r k.1 p.1 a)

-- a refusal by the first table
pub refused_first : (cs ds : Checks) (r : ℕ) → 0 < r → Answers cs r → Answers (cs ++ ds) r
refused_first [] ds r l a = absurd (omega arith)
refused_first ((n, P) ∷ cs) ds r l (inl a) = inl a
refused_first ((n, P) ∷ cs) ds r l (inr a) = inr (a.0, refused_first cs ds r l a.1)

-- what passes both passes each
pub passes-each : (cs ds : Checks) → Numbered cs → Passes (cs ++ ds) → Passes cs × Passes ds
passes-each [] ds k p = (refl, p)
passes-each ((n, P) ∷ cs) ds k (inl p) = absurd (omega arith)
passes-each ((n, P) ∷ cs) ds k (inr p) = let rest = passes-each cs ds k.1 p.1 in (inr (p.0, rest.0), rest.1)

pub numbered_append : (cs ds : Checks) → Numbered cs → Numbered ds → Numbered (cs ++ ds)
numbered_append [] ds h k = k
numbered_append ((n, P) ∷ cs) ds h k = (h.0, numbered_append cs ds h.1 k)
