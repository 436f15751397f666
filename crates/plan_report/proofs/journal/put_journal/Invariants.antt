use Rattle.std.proofs.Common.{◌∷◌, take, flat_map}
use Rattle.text_kit.specs.Terms.{Opening, AddsItems}
use Rattle.plan_report.specs.Items.{entry_items, numbered_from}
use Rattle.plan_report.proofs.journal.put_journal.Given as goal

abbrev pub invariant-loop-i : goal.invariant-loop-i
invariant-loop-i l = AddsItems l.fn.text (Opening ∷ flat_map (entry_items l.places) (take l.i (numbered_from 1 l.entries))) l.text
