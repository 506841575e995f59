-- A call with an output and scratch: its contract leaves one answer, one output and one scratch. Assumes nothing.
use Rattle.std.specs.Prelude.{◌≡◌, refl, Result, Ok, Err, List, ℕ, ◌<◌}
use Rattle.std.proofs.Common.{sym, ap, ◌∙◌, subst, arith}
use Rattle.std.proofs.Math.Decide.{dec_lt}
use Rattle.lists.specs.Answers.{Checks, Passes, answers_one, not_refused}
use Rattle.lists.specs.Calls.{RefusedWith}
use Rattle.refusals.specs.Gives.{one_reason}
use Rattle.refusals.specs.Refusal.{number}
use Rattle.refusals.specs.declared.Refusal.{Refusal}
use Rattle.codec.specs.Calls.{Told}

-- the answer, the output and the scratch afterwards
pub record SameEnd {A : Type 0} (u v : A) (new new' left left' : List ℕ) : Type 0 where
  pub answer : u ≡ v
  pub output : new ≡ new'
  pub scratch : left ≡ left'

module _ (cs : Checks) (old scratch : List ℕ) where
  same_scratch : (n : ℕ) (new new' left left' : List ℕ) → RefusedWith cs n old new scratch left → RefusedWith cs n old new' scratch left' → left ≡ left'
  same_scratch n new new' left left' r s = by (dec_lt 7 n)
    where
      by : Dec (7 < n) → left ≡ left'
      by (yes h) = r.late h ∙ sym (s.late h)
      by (no h) = r.early (omega (arith, h)) ∙ sym (s.early (omega (arith, h)))

  -- two refused calls
  pub refused_end : {A : Type 0} (d e : Refusal) (new new' left left' : List ℕ)
      → RefusedWith cs (number d) old new scratch left → RefusedWith cs (number e) old new' scratch left' → SameEnd {A = Result A Refusal} (Err d) (Err e) new new' left left'
  refused_end {A} d e new new' left left' r s = by (one_reason {d = d} {e = e} (answers_one cs r.refuses.1 s.refuses.1))
    where
      by : d ≡ e → SameEnd {A = Result A Refusal} (Err d) (Err e) new new' left left'
      by f =
          record {
            answer = ap Err f;
            output = r.untouched ∙ sym s.untouched;
            scratch = same_scratch (number e) new new' left left' (subst (λ (x : Refusal). RefusedWith cs (number x) old new scratch left) f r) s;
          }

module _ (cs : Checks) (Right : List ℕ → Type 0) (one : Passes cs → (a b : List ℕ) → Right a → Right b → a ≡ b) (old scratch : List ℕ) where
  pub told-end : (u v : Result (Unit {0}) Refusal) (new new' left left' : List ℕ) → Told cs Right old new scratch left u → Told cs Right old new' scratch left' v → SameEnd u v new new' left left'
  told-end (Ok x) (Ok y) new new' left left' a b =
      record { answer = refl; output = one a.passes new new' a.right b.right; scratch = a.cleared ∙ sym b.cleared }
  told-end (Ok x) (Err e) new new' left left' a r = absurd (not_refused cs a.passes r.refuses)
  told-end (Err d) (Ok y) new new' left left' r b = absurd (not_refused cs b.passes r.refuses)
  told-end (Err d) (Err e) new new' left left' r s = refused_end cs old scratch d e new new' left left' r s
