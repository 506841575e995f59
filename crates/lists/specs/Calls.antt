-- What a call with an output and scratch leaves: by its checks, whether it is accepted, and else by the number that refuses it.
use Rattle.std.specs.Prelude.{◌≡◌, refl, List, [], ◌∷◌, ◌++◌, ℕ, ◌≤◌, ◌<◌, length, replicate}
use Rattle.std.proofs.Common.{inl, inr, arith}
use Rattle.lists.specs.Answers.{Checks, Answers, Passes, Refuses, Numbered, answers_one, answers-after, refused_first}

abbrev pub zeros : ℕ → List ℕ
zeros n = replicate n 0

-- an accepted call: no check refuses, the output is right, and the scratch is zero
pub record Accepted (cs : Checks) (Right : List ℕ → Type 0) (new scratch left : List ℕ) : Type 0 where
  pub passes : Passes cs
  pub right : Right new
  pub cleared : left ≡ zeros (length scratch)

-- a call refused with the number n: the output is as it came; the scratch is as it came up to check 7, and zero past it
pub record RefusedWith (cs : Checks) (n : ℕ) (old new scratch left : List ℕ) : Type 0 where
  pub refuses : Refuses cs n
  pub untouched : new ≡ old
  pub early : n ≤ 7 → left ≡ scratch
  pub late : 7 < n → left ≡ zeros (length scratch)

-- ---- a table of checks in two parts: those of number 7 and below, which leave the scratch, and those past them

-- no number of the table is above n
abbrev pub Within : ℕ → Checks → Type 0
Within n [] = Unit {0}
Within n ((k, P) ∷ cs) = (k ≤ n) × Within n cs

pub answer-within : {n r : ℕ} (cs : Checks) → Within n cs → Answers cs r → r ≤ n
answer-within [] w a = omega arith
answer-within ((k, P) ∷ cs) w (inl a) = omega (arith, a.1)
answer-within ((k, P) ∷ cs) w (inr a) = answer-within cs w.1 a.1

-- what passes the second of two tables is refused by the first, if at all
pub answer-first : {n r : ℕ} (cs ds : Checks) → Within n cs → Passes ds → Answers (cs ++ ds) r → r ≤ n
answer-first [] ds w p a = let z = answers_one ds a p in omega arith
answer-first ((k, P) ∷ cs) ds w p (inl a) = omega (arith, a.1, w.0)
answer-first ((k, P) ∷ cs) ds w p (inr a) = answer-first cs ds w.1 p a.1

-- a number above those of the first table is answered by the second
pub answer-second : {n r : ℕ} (cs ds : Checks) → Within n cs → n < r → Answers (cs ++ ds) r → Passes cs × Answers ds r
answer-second [] ds w h a = (refl, a)
answer-second ((k, P) ∷ cs) ds w h (inl a) = absurd (omega (arith, a.1, w.0))
answer-second ((k, P) ∷ cs) ds w h (inr a) = let rest = answer-second cs ds w.1 h a.1 in (inr (a.0, rest.0), rest.1)

module _ (cs ds : Checks) where
  pub refused_early : (n : ℕ) (old scratch : List ℕ) → Within 7 cs → 0 < n → Answers cs n → RefusedWith (cs ++ ds) n old old scratch scratch
  refused_early n old scratch w l a =
      record { refuses = (l, refused_first cs ds n l a); untouched = refl; early = λ h. refl; late = λ h. absurd (omega (arith, answer-within cs w a)) }

  module _ (k : Numbered cs) (p : Passes cs) where
    pub refused_late : (n : ℕ) (old new scratch left : List ℕ) → 7 < n → Answers ds n → new ≡ old → left ≡ zeros (length scratch) → RefusedWith (cs ++ ds) n old new scratch left
    refused_late n old new scratch left l a e z =
        record { refuses = (omega arith, answers-after cs ds n k p a); untouched = e; early = λ h. absurd (omega arith); late = λ h. z }

    pub accepted : (Right : List ℕ → Type 0) (new scratch left : List ℕ) → Passes ds → Right new → left ≡ zeros (length scratch) → Accepted (cs ++ ds) Right new scratch left
    accepted Right new scratch left a r z = record { passes = answers-after cs ds 0 k p a; right = r; cleared = z }
