use Rattle.exports.proofs.proximity_setting.Goals as goal

pub returns-in-Err : goal.returns-in-Err
returns-in-Err c = rw (c.from-in-Err.ensures, c.from.ensures) c.in-Err.ensures.1
