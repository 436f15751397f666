use Rattle.std.proofs.Common.{◌∙◌, ◌≤◌, List, All, get_or, length, subst, arith, take_all}
use Rattle.net_core.proofs.Library.{All-more}
use Rattle.tree_check.{specs.Boxes.IsFixedSpan, specs.declared.boxes.Span.Span}
use Rattle.tree_search.proofs.choice.first_free.Goals as goal

pub loop-link-preserved : goal.loop-link-preserved
loop-link-preserved c =
    let d = c.index-boxed-link.result in
    let here : All IsFixedSpan (get_or c.args.boxed.now c.loop-link.link d) =
    subst (λ (ss : List Span). All IsFixedSpan ss) (c.items.ensures ∙ c.index-boxed-link.is) c.in_default.ensures in
    All-more (λ (ss : List Span). All IsFixedSpan ss) c.args.boxed.now c.loop-link.link d c.loop-link-test.true c.loop-link.invariant here

pub returns : goal.returns
returns c =
    let all : length c.args.boxed.now ≤ c.loop-link.link = omega (arith, c.loop-link-test.false) in
    subst (λ (box : List (List Span)). All (All IsFixedSpan) box) (take_all c.loop-link.link c.args.boxed.now all) c.loop-link.invariant
