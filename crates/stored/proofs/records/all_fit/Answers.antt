use Prim.Native.Nat.{◌^◌, ◌<◌}
use lib.Pow.{pow_pos}
use Rattle.lists.specs.All.{Below}
use Rattle.lists.specs.Decides.{decides_same}
use Rattle.field.specs.Binary.{degree}
use Rattle.stored.specs.Bytes.{numbers_at}
use Rattle.stored.proofs.records.all_fit.Goals as goal

pub returns : goal.returns
returns c = let a = c.args in
    let n = 2 ^ degree a.f.modulus in
    let top = c.largest.ensures n (pow_pos (degree a.f.modulus)) in
    decides_same (c.largest.result < n) (Below n (numbers_at a.narrow a.file.now a.at a.count)) top.0 top.1 c.is_symbol.ensures
