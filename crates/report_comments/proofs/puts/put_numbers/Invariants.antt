use Rattle.std.proofs.Common.{◌∷◌, [], take, flat_map}
use Rattle.text_kit.specs.Terms.{Whole, Opening}
use Rattle.report_comments.specs.Comments.{AddsSpaced}
use Rattle.report_comments.proofs.puts.put_numbers.Given as goal

abbrev pub invariant-loop-n : goal.invariant-loop-n
invariant-loop-n l = AddsSpaced l.fn.text (Opening ∷ flat_map (λ n. Whole n ∷ []) (take l.n-index l.nums)) l.text
