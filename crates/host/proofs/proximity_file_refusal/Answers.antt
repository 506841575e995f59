use Rattle.host.proofs.proximity_file_refusal.Goals as goal

pub returns-in-Err : goal.returns-in-Err
returns-in-Err c = rw c.code.ensures (c.in-Err.ensures.1)
