-- The outcome of a call that writes a file into a lent output. Definitions only.
use Rattle.std.specs.Prelude.{◌≡◌, Result, Ok, Err, List, ℕ}
use Rattle.lists.specs.Answers.{Checks, Passes, Refuses}
use Rattle.refusals.specs.Refusal.{number}
use Rattle.refusals.specs.declared.Refusal.{Refusal}

-- past the checks the output becomes the bytes; refused, it is as it came
abbrev pub Filed : Checks → List ℕ → List ℕ → List ℕ → Result (Unit {0}) Refusal → Type 0
Filed cs bytes old new (Ok u) = Passes cs × (new ≡ bytes)
Filed cs bytes old new (Err e) = Refuses cs (number e) × (new ≡ old)
