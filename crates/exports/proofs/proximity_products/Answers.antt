use Rattle.exports.proofs.proximity_products.Goals as goal

pub returns : goal.returns
returns c = rw c.answer_code.ensures c.add.ensures
