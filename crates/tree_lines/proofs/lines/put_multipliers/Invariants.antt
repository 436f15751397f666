use Rattle.std.proofs.Common.{[], ◌∷◌, take, flat_map}
use Rattle.text_kit.specs.Terms.{Whole}
use Rattle.report_comments.specs.Comments.{AddsSpaced}
use Rattle.tree_lines.proofs.lines.put_multipliers.Given as goal

abbrev pub invariant-loop-m : goal.invariant-loop-m
invariant-loop-m l = AddsSpaced l.fn.text (flat_map (λ m. Whole m.num ∷ Whole m.cut ∷ []) (take l.m-index l.multipliers)) l.text
