use Rattle.std.proofs.Common.{◌∷◌, [], take, flat_map}
use Rattle.text_kit.specs.Terms.{Whole}
use Rattle.report_comments.specs.Comments.{AddsSpaced}
use Rattle.report_comments.proofs.puts.put_lengths.Given as goal

abbrev pub invariant-loop-n : goal.invariant-loop-n
invariant-loop-n l = AddsSpaced l.fn.text (flat_map (λ n. Whole n ∷ []) (take l.n-index l.lengths)) l.text
