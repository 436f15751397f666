use Rattle.std.proofs.lemmas.List.{map_more}
use Rattle.net_core.proofs.Library.{All-more}
use Rattle.tree_check.{specs.Boxes.{IsFixedSpan, any_count}, specs.declared.boxes.Span.Span}
use Rattle.tree_check.proofs.fixed_counts.only_counts.Goals as goal

pub loop-s-preserved : goal.loop-s-preserved
loop-s-preserved c =
    let spans = c.args.spans.now in
    let i = c.loop-s.s-index in
    let more = map_more (λ (s : Span). s.least) spans i any_count c.loop-s-test.true in
    let pushed = c.in_ok-push-in-Some.ensures.ok in
    let so_far = c.loop-s.invariant.1 in
    let own = c.in-Some.ensures.1 in
    (All-more IsFixedSpan spans i any_count c.loop-s-test.true c.loop-s.invariant.0 c.in-Some.ensures.0, cc (pushed, so_far, own, more))
