use Rattle.std.proofs.Common.{take, flat_map}
use Rattle.report_comments.specs.Comments.{AddsLines}
use Rattle.failure_texts.specs.FailureTexts.{left_out}
use Rattle.failure_texts.proofs.comments.put_comments.Given as goal

-- the comments so far
abbrev pub invariant-loop-fate : goal.invariant-loop-fate
invariant-loop-fate l = AddsLines l.fn.text (flat_map (left_out l.links l.demands) (take l.fate-index l.fates)) l.text
