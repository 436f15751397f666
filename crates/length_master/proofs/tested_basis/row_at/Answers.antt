use Rattle.std.proofs.Common.{[], ◌∙◌, pos}
use Rattle.net_core.proofs.Library.{get_or_default}
use Rattle.length_master.specs.declared.slot.Slot.TheVariants.{Slack}
use Rattle.length_master.proofs.tested_basis.row_at.Goals as goal

pub returns : goal.returns
returns c = c.index-rows-i.is ∙ get_or_default c.args.rows.now c.args.i c.index-rows-i.result (record { slot = Slack 0; nums = []; den = pos 0; value = pos 0; product = pos 0 }) c.requires
