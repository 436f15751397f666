use Rattle.std.{proofs.Common.{◌≡◌, ℕ, List, Option, All, MatchOption, map, subst}, proofs.lemmas.List.map_more}
use Rattle.net_core.proofs.Library.{All-more}
use Rattle.tree_check.{specs.Boxes.IsFixedSpan, specs.declared.boxes.Span.Span}
use Rattle.tree_check.proofs.fixed_counts.fixed_counts.Goals as goal

pub loop-spans-preserved : goal.loop-spans-preserved
loop-spans-preserved c =
    let box = c.args.boxed.now in
    let i = c.loop-spans.spans-index in
    let spans = c.spans-item.result in
    let more = map_more (λ (ss : List Span). map (λ (s : Span). s.least) ss) box i spans c.loop-spans-test.true in
    let told = subst (λ (ss : List Span). All IsFixedSpan ss × (c.in-Some.c ≡ map (λ (s : Span). s.least) ss)) c.items.ensures
    (subst (λ (o : Option (List ℕ)). MatchOption o (All IsFixedSpan c.items.result.now → ⊥) (λ counts. All IsFixedSpan c.items.result.now × (counts ≡ map (λ s. s.least) c.items.result.now))) c.in-Some.is c.in_ok-only_counts.ensures) in
    let pushed = c.in_ok-push-in-Some.ensures.ok in
    let so_far = c.loop-spans.invariant.1 in
    let own = told.1 in
    let item = c.spans-item.is in
    (All-more (All IsFixedSpan) box i spans c.loop-spans-test.true c.loop-spans.invariant.0 (subst (All IsFixedSpan) item told.0), cc (pushed, so_far, own, item, more))
