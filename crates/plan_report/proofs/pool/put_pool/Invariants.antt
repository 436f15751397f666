use Rattle.std.proofs.Common.{◌∷◌, take, flat_map}
use Rattle.text_kit.specs.Terms.{Opening, AddsItems}
use Rattle.plan_report.specs.Items.{numbered_from, pool_line_items}
use Rattle.plan_report.proofs.pool.put_pool.Given as goal

abbrev pub invariant-loop-i : goal.invariant-loop-i
invariant-loop-i l = AddsItems l.fn.text (Opening ∷ flat_map pool_line_items (take l.i (numbered_from 0 l.pool))) l.text
