use Rattle.std.proofs.Common.{◌∷◌, take, flat_map, codes}
use Rattle.text_kit.specs.Terms.{AddsItems, Opening, Verbatim}
use Rattle.failure_texts.specs.inner.FateItems.{fate_items}
use Rattle.failure_texts.proofs.states.put_states.Given as goal

-- the failures so far
abbrev pub invariant-loop-fate : goal.invariant-loop-fate
invariant-loop-fate l = AddsItems l.fn.text (Verbatim (codes "FAILURES") ∷ Opening ∷ flat_map (fate_items l.links) (take l.fate-index l.fates)) l.text
