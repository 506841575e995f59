-- The checker's answer from its stages: a refusal, or the answer on the coin. Assumes nothing.
use Rattle.std.specs.Prelude.{◌≡◌, refl, ◌⊎◌, Result, Ok, Err, List, ◌++◌, ℕ, ◌^◌, ◌<◌, length}
use Rattle.std.proofs.Common.{inl, inr, arith}
use Rattle.lists.specs.Answers.{Checks, Answers, Passes, Refuses, Numbered, answers-after, refused_first, numbered_append}
use Rattle.lists.specs.Decides.{equal_stable}
use Rattle.field.specs.Laws.{Ops}
use Rattle.field.specs.Symbols.{symbols}
use Rattle.space.specs.Setting.{setting_checks}
use Rattle.space.specs.Sound.{setting_numbered}
use Rattle.proximity.specs.Dim.{S, R}
use Rattle.verifier.specs.Checker.{delivery_checks, read_checks, checker_checks, Answered, OnCoin, Told}
use Rattle.refusals.specs.Refusal.{number}
use Rattle.refusals.specs.declared.Refusal.{Refusal}
use Rattle.verifier.specs.declared.Verdict.{Verdict}

-- tables that give the same number give the same answer
pub answered_alike : (cs ds : Checks) → ((r : ℕ) → Answers cs r → Answers ds r) → (K : Ops) (k : ℕ) (b w π : List ℕ) (coin : ℕ) (v : Result Verdict Refusal) → Answered cs K k b w π coin v → Answered ds K k b w π coin v
answered_alike cs ds f K k b w π coin (Ok v) (p, a) = (f 0 p, a)
answered_alike cs ds f K k b w π coin (Err r) (l, a) = (l, f (number r) a)

pub delivery_numbered : (k w p coin : ℕ) → Numbered (delivery_checks k w p coin)
delivery_numbered k w p coin = (omega arith, (omega arith, tt))

-- right lengths and a coin in range
pub record Right (k w p coin : ℕ) : Type 0 where
  pub word : w ≡ 2 ^ k
  pub proof : p ≡ S k
  pub coin_fits : coin < 2 ^ R k

pub right_of : (k w p coin : ℕ) → Passes (delivery_checks k w p coin) → Right k w p coin
right_of k w p coin (inl a) = absurd (omega arith)
right_of k w p coin (inr (a, inl b)) = absurd (omega arith)
right_of k w p coin (inr (a, inr b)) = record { word = equal_stable w (2 ^ k) (λ f. a (inl f)); proof = equal_stable p (S k) (λ f. a (inr f)); coin_fits = omega (arith, b.0) }

pub delivery-passes : (k w p coin : ℕ) → w ≡ 2 ^ k → p ≡ S k → coin < 2 ^ R k → Passes (delivery_checks k w p coin)
delivery-passes k w p coin ew ep h = inr (lengths, inr ((λ l. omega arith), refl))
  where
    lengths : (w ≡ 2 ^ k → ⊥) ⊎ (p ≡ S k → ⊥) → ⊥
    lengths (inl f) = f ew
    lengths (inr f) = f ep

module _ (m : ℕ) (bs : List ℕ) (σ : ℕ) (w π : List ℕ) (coin : ℕ) where
  abbrev delivery : Checks
  delivery = delivery_checks (length bs) (length w) (length π) coin

  abbrev reading : Checks
  reading = read_checks (symbols m) (length bs) w π coin

  pub told-setting : (e : Refusal) → Refuses (setting_checks m bs σ) (number e) → Told m bs σ w π coin (Err e)
  told-setting e (l, a) = (l, refused_first (setting_checks m bs σ ++ delivery) reading (number e) l (refused_first (setting_checks m bs σ) delivery (number e) l a))

  both : Passes (setting_checks m bs σ) → (n : ℕ) → Answers delivery n → Answers (setting_checks m bs σ ++ delivery) n
  both p n a = answers-after (setting_checks m bs σ) delivery n (setting_numbered m bs σ) p a

  pub told-delivery : Passes (setting_checks m bs σ) → (e : Refusal) → Refuses delivery (number e) → Told m bs σ w π coin (Err e)
  told-delivery p e (l, a) = (l, refused_first (setting_checks m bs σ ++ delivery) reading (number e) l (both p (number e) a))

  after : Passes (setting_checks m bs σ) → Passes delivery → (n : ℕ) → Answers reading n → Answers (checker_checks m bs σ w π coin) n
  after p d n a = answers-after (setting_checks m bs σ ++ delivery) reading n (numbered_append (setting_checks m bs σ) delivery (setting_numbered m bs σ) (delivery_numbered (length bs) (length w) (length π) coin)) (both p 0 d) a

  pub told_coin : Passes (setting_checks m bs σ) → Passes delivery → (v : Result Verdict Refusal) → OnCoin (symbols m) (length bs) bs w π coin v → Told m bs σ w π coin v
  told_coin p d = answered_alike reading (checker_checks m bs σ w π coin) (after p d) (symbols m) (length bs) bs w π coin
