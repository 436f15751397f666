use Rattle.tree_check.proofs.Covering.{leaves_cover}
use Rattle.tree_check.proofs.law.leaves_cover.Goals as goal

pub returns : goal.returns
returns c = leaves_cover
