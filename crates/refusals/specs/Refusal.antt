-- The reasons by their numbers, as the order of checks of each call names them.
use Rattle.std.specs.Prelude.{◌≡◌, refl, ℕ, Result, Ok, Err, ◌<◌}
use Rattle.refusals.specs.declared.Refusal.{Refusal}
use Rattle.refusals.specs.declared.Refusal.TheVariants.{ModulusOutOfRange, ModulusReducible, BasisLength, SettingSymbol, BasisDependent, Length, ScratchShort, NoCoin, NoSymbol, NoCodeword, NoRecord, WrongCount, Far, Shifted}

abbrev pub number : Refusal → ℕ
number ModulusOutOfRange = 1
number ModulusReducible = 2
number BasisLength = 3
number SettingSymbol = 4
number BasisDependent = 5
number Length = 6
number ScratchShort = 7
number NoCoin = 8
number NoSymbol = 9
number NoCodeword = 10
number NoRecord = 11
number WrongCount = 12
number Far = 13
number Shifted = 14

-- the number that answers a call: 0, or that of the refusal
abbrev pub answer_of : {A : Type 0} → Result A Refusal → ℕ
answer_of (Ok x) = 0
answer_of (Err e) = number e
