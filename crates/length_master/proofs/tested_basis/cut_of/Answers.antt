use Rattle.std.proofs.Common.{[], ◌∙◌}
use Rattle.net_core.proofs.Library.{get_or_default}
use Rattle.length_master.proofs.tested_basis.cut_of.Goals as goal

pub returns : goal.returns
returns c = c.index-cuts-k.is ∙ get_or_default c.args.cuts.now c.args.k c.index-cuts-k.result (record { state = record { 0 = 0 }; lengths = []; right = 0 }) c.requires
