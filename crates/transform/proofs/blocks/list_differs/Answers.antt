use Rattle.transform.proofs.Alike.{list_alike}
use Rattle.transform.proofs.blocks.list_differs.Goals as goal

pub returns : goal.returns
returns c = list_alike c.args.v.now
