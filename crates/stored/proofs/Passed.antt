-- What the checks of a record of symbols say where they pass. Assumes nothing.
use Rattle.std.specs.Prelude.{refl, Bool, List, ℕ, ◌+◌, ◌^◌}
use Rattle.std.proofs.Common.{inl, inr, arith}
use Rattle.lists.specs.All.{below_stable}
use Rattle.lists.specs.Answers.{Passes, Numbered}
use Rattle.lists.specs.Decides.{equal_stable}
use Rattle.field.specs.Checks.{not-less}
use Rattle.stored.specs.Bytes.{four_at, numbers_at}
use Rattle.stored.specs.Reader.{record_checks}
use Rattle.stored.specs.Passed.{opens_stable, Held}

module _ (t : Bool) (f : List ℕ) (p a b n l : ℕ) where
  pub record_numbered : Numbered (record_checks t f p a b n l)
  record_numbered = (omega arith, (omega arith, (omega arith, (omega arith, tt))))

  pub record_passed : Passes (record_checks t f p a b n l) → Held t f p a b n l
  record_passed (inl x) = absurd (omega arith)
  record_passed (inr (o, inl x)) = absurd (omega arith)
  record_passed (inr (o, inr (e, inl x))) = absurd (omega arith)
  record_passed (inr (o, inr (e, inr (u, inl x)))) = absurd (omega arith)
  record_passed (inr (o, inr (e, inr (u, inr (s, z))))) =
      record { opened = opens_stable f p 6 a b o; count = equal_stable (four_at f (p + 2)) n e; present = not-less u; symbols = below_stable (2 ^ l) (numbers_at t f (p + 6) n) s }

  pub record_passes : Held t f p a b n l → Passes (record_checks t f p a b n l)
  record_passes h = inr ((λ g. g h.opened), inr ((λ g. g h.count), inr ((λ u. omega (arith, h.present)), inr ((λ g. g h.symbols), refl))))
