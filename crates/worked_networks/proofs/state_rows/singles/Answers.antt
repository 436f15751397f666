use Rattle.std.proofs.Common.{◌≡◌, arith, get_or, [], ◌∷◌, length-append, ap, ◌∙◌}
use Rattle.net_core.{proofs.Library.get_or_default, specs.declared.network.Link.Link, specs.Terms.single_state}
use Rattle.worked_networks.proofs.Singles.{single_more}
use Rattle.worked_networks.proofs.state_rows.singles.Goals as goal

pub loop-e-preserved : goal.loop-e-preserved
loop-e-preserved c =
    let links = c.args.links.now in
    let e = c.loop-e.e in
    let t = c.in_ok-single.field-0 in
    let is : (k : Link) → t ≡ single_state e (get_or links e k).name =
    λ k. c.in_ok-single.ensures ∙ ap (λ (l : Link). single_state e l.name) (c.index-links-e.is ∙ get_or_default links e c.index-links-e.result k c.loop-e-test.true) in
    rw (c.in_ok-push.ensures.ok) (
      omega (arith, length-append c.loop-e.listed (t ∷ []), c.loop-e.invariant.0),
      single_more links c.loop-e.listed t e c.loop-e.invariant.0 is c.loop-e.invariant.1,
    )
