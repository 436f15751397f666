use Rattle.std.{proofs.Common.arith, proofs.lemmas.Bool.both_ways}
use Rattle.tree_check.{proofs.ValuesTold.nums_own, proofs.value.box_value.Goals.{then-of-eq0-via-then-of-eq0, then-of-eq0-via-else-of-eq0+then-not-are_narrow}}
use Rattle.tree_check.proofs.value.box_value.Goals as goal

pub returns-then-of-eq0 : goal.returns-then-of-eq0
returns-then-of-eq0 c = λ v is. elim c.then-of-eq0.branch [
  | then-of-eq0-via-then-of-eq0 w ↦ absurd (omega (arith, is.certificate.positive, w.if-of-eq0.true))
  | then-of-eq0-via-else-of-eq0+then-not-are_narrow w ↦ both_ways w.are_narrow.result w.if-not-are_narrow.true (w.are_narrow.ensures.1 (nums_own c.args.of.now is.certificate.nums))
]
