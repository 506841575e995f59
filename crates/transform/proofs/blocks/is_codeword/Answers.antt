use Rattle.transform.proofs.CodewordTest.{work_blocks, word_tested}
use Rattle.transform.proofs.blocks.is_codeword.Goals as goal

pub interpolate_blocks-requires : goal.interpolate_blocks-requires
interpolate_blocks-requires c =
    let a = c.args in
    work_blocks a.f a.images.now a.k a.word.now c.requires.0 a.work.now c.transpose.new.to c.requires.1 c.transpose.ensures

pub returns : goal.returns
returns c =
    let a = c.args in
    word_tested a.f a.images.now a.k a.word.now c.requires.0 a.work.now c.transpose.new.to c.requires.1
    c.transpose.ensures c.interpolate_blocks.new.values c.equal_lanes.result c.interpolate_blocks.ensures c.equal_lanes.ensures
