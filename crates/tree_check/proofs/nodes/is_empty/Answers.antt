use Rattle.std.{proofs.Common.{◌∙◌, refl}, proofs.lemmas.Bool.both_ways}
use Rattle.tree_check.proofs.NodesHeld.{emptied_sound, emptied_told}
use Rattle.tree_check.proofs.nodes.is_empty.Goals as goal

pub returns-then-is_sound : goal.returns-then-is_sound
returns-then-is_sound c =
    emptied_told c.args.tests.now c.args.boxed.now c.args.cut c.line_in.result.now c.items.result.now c.items-then-is_sound.result.now c.is_emptied.result
    (c.if-is_sound.ensures.0 refl) c.line_in.ensures (c.items.ensures ∙ c.links.ensures) c.items-then-is_sound.ensures c.is_emptied.ensures

pub returns-else-is_sound : goal.returns-else-is_sound
returns-else-is_sound c = (
  λ yes. absurd (both_ways c.is_sound.result c.if-is_sound.false yes),
  λ empties. c.is_sound.ensures.1 (emptied_sound c.args.tests.now c.args.boxed.now c.args.cut empties),
)
