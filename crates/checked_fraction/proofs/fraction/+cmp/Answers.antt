use Rattle.std.proofs.Common.{arith, inl, inr, ◌∙◌}
use Rattle.checked_fraction.{proofs.Fractions.{less_whole, more_whole, no_rest, turned}, proofs.fraction.+cmp.Goals.{then-left-eq0-via-then-left-eq0, then-left-eq0-via-else-left-eq0+then-right-eq0}}
use Rattle.checked_fraction.proofs.fraction.+cmp.Goals as goal

pub returns-then-whole-other : goal.returns-then-whole-other
returns-then-whole-other t c = less_whole _ _ _ _ c.requires.first c.requires.second c.if-whole-other.true

pub returns-then-other-whole : goal.returns-then-other-whole
returns-then-other-whole t c = more_whole _ _ _ _ c.requires.first c.requires.second c.if-other-whole.true

pub returns-then-left-eq0 : goal.returns-then-left-eq0
returns-then-left-eq0 t c = c.cmp.ensures ∙ no_rest _ _ _ _ c.requires.first c.requires.second (omega arith)
    (elim c.then-left-eq0.branch [
      | then-left-eq0-via-then-left-eq0 w ↦ inl w.if-left-eq0.true
      | then-left-eq0-via-else-left-eq0+then-right-eq0 w ↦ inr w.if-right-eq0.true
    ])

pub returns : goal.returns
returns t c = c.cmp-2.ensures ∙ turned c.args.a c.args.b c.args.c c.args.d (omega arith)
