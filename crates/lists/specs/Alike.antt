-- Two tables of checks that answer alike. Assumes nothing.
use Rattle.std.specs.Prelude.{◌≡◌, refl, ◌↔◌, [], ◌∷◌, ◌++◌, ℕ}
use Rattle.std.proofs.Common.{sym, ◌∙◌, subst, inl, inr}
use Rattle.lists.specs.Answers.{Checks, Answers, Passes}

-- the same numbers in the same order, and each sentence holds in both or in none where those before it do not
abbrev pub Alike : Checks → Checks → Type 0
Alike [] [] = Unit {0}
Alike [] (d ∷ ds) = ⊥
Alike (c ∷ cs) [] = ⊥
Alike ((n, P) ∷ cs) ((m, Q) ∷ ds) = (n ≡ m) × (P ↔ Q) × ((P → ⊥) → Alike cs ds)

pub alike_answers : (cs ds : Checks) → Alike cs ds → (r : ℕ) → Answers cs r → Answers ds r
alike_answers [] [] a r x = x
alike_answers [] (d ∷ ds) a r x = absurd a
alike_answers (c ∷ cs) [] a r x = absurd a
alike_answers ((n, P) ∷ cs) ((m, Q) ∷ ds) (e, i, f) r (inl (p, g)) = inl (i.0 p, g ∙ e)
alike_answers ((n, P) ∷ cs) ((m, Q) ∷ ds) (e, i, f) r (inr (p, x)) = inr ((λ q. p (i.1 q)), alike_answers cs ds (f p) r x)

pub alike_back : (cs ds : Checks) → Alike cs ds → (r : ℕ) → Answers ds r → Answers cs r
alike_back [] [] a r x = x
alike_back [] (d ∷ ds) a r x = absurd a
alike_back (c ∷ cs) [] a r x = absurd a
alike_back ((n, P) ∷ cs) ((m, Q) ∷ ds) (e, i, f) r (inl (q, g)) = inl (i.1 q, g ∙ sym e)
alike_back ((n, P) ∷ cs) ((m, Q) ∷ ds) (e, i, f) r (inr (q, x)) = inr ((λ p. q (i.0 p)), alike_back cs ds (f (λ p. q (i.0 p))) r x)

pub alike_refl : (cs : Checks) → Alike cs cs
alike_refl [] = tt
alike_refl ((n, P) ∷ cs) = (refl, ((λ p. p), λ p. p), λ f. alike_refl cs)

-- by a number on which the table depends
pub alike_path : (g : ℕ → Checks) {x y : ℕ} → x ≡ y → Alike (g x) (g y)
alike_path g {x} {y} e = subst (λ (z : ℕ). Alike (g x) (g z)) e (alike_refl (g x))

-- one table after the other
pub alike_append : (cs ds es gs : Checks) → Alike cs ds → (Passes cs → Alike es gs) → Alike (cs ++ es) (ds ++ gs)
alike_append [] [] es gs a f = f refl
alike_append [] (d ∷ ds) es gs a f = absurd a
alike_append (c ∷ cs) [] es gs a f = absurd a
alike_append ((n, P) ∷ cs) ((m, Q) ∷ ds) es gs (e, i, h) f = (e, i, λ p. alike_append cs ds es gs (h p) (λ x. f (inr (p, x))))

-- not, on both sides
pub iff_not : {P Q : Type 0} → P ↔ Q → (P → ⊥) ↔ (Q → ⊥)
iff_not i = ((λ f q. f (i.1 q)), λ f p. f (i.0 p))

pub iff_path : (T : ℕ → Type 0) {x y : ℕ} → x ≡ y → T x ↔ T y
iff_path T e = (subst T e, subst T (sym e))
