-- `setting_cases::second_value` meets what it calls: a setting that passed has symbols for steps.
use native.Mathlib.Omega.{arith}
use Rattle.lists.specs.Decides.{decides_true}
use Rattle.space.specs.Ready.{Ready, ready, steps-below}
use Rattle.setting_cases.proofs.second_value.Goals as goal

pub is_symbol-requires : goal.is_symbol-requires
is_symbol-requires c = let passed : Ready c.args.modulus c.args.basis.now c.in-Ok.s = ready _ _ _ _ c.in-Ok.ensures in
    passed.sized

pub value-requires : goal.value-requires
value-requires c = let passed : Ready c.args.modulus c.args.basis.now c.in-Ok.s = ready _ _ _ _ c.in-Ok.ensures in
    (passed.sized, rw passed.modulus (steps-below passed), omega arith, decides_true _ c.is_symbol.ensures c.if-not-is_symbol.false)
