-- What a call with checks gives: past them a value, and else the first check that refuses. Assumes nothing.
use Rattle.std.specs.Prelude.{◌≡◌, refl, ◌++◌, ℕ, zero, suc, ◌<◌, Result, Ok, Err, MatchResult}
use Rattle.std.proofs.Common.{sym, ap, ◌∙◌, subst, inl, inr, arith}
use Rattle.lists.specs.Answers.{Checks, Answers, Passes, Refuses, Numbered, answers_one, answers-after, refused_first}
use Rattle.refusals.specs.Refusal.{number, answer_of}
use Rattle.refusals.specs.declared.Refusal.{Refusal}
use Rattle.refusals.specs.declared.Refusal.TheVariants.{ModulusOutOfRange, ModulusReducible, BasisLength, SettingSymbol, BasisDependent, Length, ScratchShort, NoCoin, NoSymbol, NoCodeword, NoRecord, WrongCount, Far, Shifted}

-- past the checks a value with the property P; or the first check that refuses, by its number
abbrev pub Gives : {A : Type 0} → Checks → (A → Type 0) → Result A Refusal → Type 0
Gives cs P r = MatchResult r (λ x. Passes cs × P x) (λ e. Refuses cs (number e))

-- the reason of a number
reason : ℕ → Refusal
reason zero = Shifted
reason (suc zero) = ModulusOutOfRange
reason (suc (suc zero)) = ModulusReducible
reason (suc (suc (suc zero))) = BasisLength
reason (suc (suc (suc (suc zero)))) = SettingSymbol
reason (suc (suc (suc (suc (suc zero))))) = BasisDependent
reason (suc (suc (suc (suc (suc (suc zero)))))) = Length
reason (suc (suc (suc (suc (suc (suc (suc zero))))))) = ScratchShort
reason (suc (suc (suc (suc (suc (suc (suc (suc zero)))))))) = NoCoin
reason (suc (suc (suc (suc (suc (suc (suc (suc (suc zero))))))))) = NoSymbol
reason (suc (suc (suc (suc (suc (suc (suc (suc (suc (suc zero)))))))))) = NoCodeword
reason (suc (suc (suc (suc (suc (suc (suc (suc (suc (suc (suc zero))))))))))) = NoRecord
reason (suc (suc (suc (suc (suc (suc (suc (suc (suc (suc (suc (suc zero)))))))))))) = WrongCount
reason (suc (suc (suc (suc (suc (suc (suc (suc (suc (suc (suc (suc (suc zero))))))))))))) = Far
reason (suc (suc (suc (suc (suc (suc (suc (suc (suc (suc (suc (suc (suc (suc n)))))))))))))) = Shifted

reason_number : (e : Refusal) → reason (number e) ≡ e
unfolding reason
reason_number ModulusOutOfRange = refl
reason_number ModulusReducible = refl
reason_number BasisLength = refl
reason_number SettingSymbol = refl
reason_number BasisDependent = refl
reason_number Length = refl
reason_number ScratchShort = refl
reason_number NoCoin = refl
reason_number NoSymbol = refl
reason_number NoCodeword = refl
reason_number NoRecord = refl
reason_number WrongCount = refl
reason_number Far = refl
reason_number Shifted = refl

-- a number has one reason
pub one_reason : {d e : Refusal} → number d ≡ number e → d ≡ e
one_reason {d} {e} h = sym (reason_number d) ∙ ap reason h ∙ reason_number e

pub number_positive : (e : Refusal) → 0 < number e
number_positive ModulusOutOfRange = omega arith
number_positive ModulusReducible = omega arith
number_positive BasisLength = omega arith
number_positive SettingSymbol = omega arith
number_positive BasisDependent = omega arith
number_positive Length = omega arith
number_positive ScratchShort = omega arith
number_positive NoCoin = omega arith
number_positive NoSymbol = omega arith
number_positive NoCodeword = omega arith
number_positive NoRecord = omega arith
number_positive WrongCount = omega arith
number_positive Far = omega arith
number_positive Shifted = omega arith

module _ {A : Type 0} (P : A → Type 0) where
  -- the number that answers
  pub gives-answer : (cs : Checks) (r : Result A Refusal) → Gives cs P r → Answers cs (answer_of r)
  gives-answer cs (Ok x) g = g.0
  gives-answer cs (Err e) g = g.1

  -- what is given is one, where the property has one value
  pub gives_one : (cs : Checks) → ((x y : A) → Passes cs → P x → P y → x ≡ y) → (r s : Result A Refusal) → Gives cs P r → Gives cs P s → r ≡ s
  gives_one cs one (Ok x) (Ok y) g h = ap Ok (one x y g.0 g.1 h.1)
  gives_one cs one (Ok x) (Err e) g h = absurd (omega (arith, answers_one cs g.0 h.1, h.0))
  gives_one cs one (Err d) (Ok y) g h = absurd (omega (arith, answers_one cs g.1 h.0, g.0))
  gives_one cs one (Err d) (Err e) g h = ap Err (one_reason (answers_one cs g.1 h.1))

  -- a refusal by a check
  pub gives_err : (cs : Checks) (e : Refusal) → Answers cs (number e) → Gives cs P (Err e)
  gives_err cs e a = (number_positive e, a)

  -- ---- one table of checks after another

  pub gives_after : (cs ds : Checks) (r : Result A Refusal) → Numbered cs → Passes cs → Gives ds P r → Gives (cs ++ ds) P r
  gives_after cs ds (Ok x) n p g = (answers-after cs ds 0 n p g.0, g.1)
  gives_after cs ds (Err e) n p g = (g.0, answers-after cs ds (number e) n p g.1)

  pub gives_first : (cs ds : Checks) (e : Refusal) → Refuses cs (number e) → Gives (cs ++ ds) P (Err e)
  gives_first cs ds e f = (f.0, refused_first cs ds (number e) f.0 f.1)
