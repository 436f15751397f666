use Rattle.std.proofs.Common.{◌+◌, ◌<◌, ◌∙◌, ℕ, List, ap, arith, length, subst, sym}
use Rattle.plan_terms.specs.Terms.{Caps, Routing, case_of, graph_in}
use Rattle.module_choice.proofs.Pairs.{capacities_long}
use Rattle.share_covers.{specs.InstalledRoutes.installed_caps, specs.inner.SharedRoutes.IsStateAnswer, proofs.Sharing.{caps_same, carried_told, item_at, scale_told, states_told}, proofs.StateRoutes.{AreRoutedTo, routed_more}}
use Rattle.share_covers.proofs.shared_routes.routes_of_share.Goals as goal

pub mended_or_anew-requires-clause-caps : goal.mended_or_anew-requires-clause-caps
mended_or_anew-requires-clause-caps c = ap (λ (ns : List ℕ). length ns) c.in_ok-caps.ensures.1 ∙ capacities_long c.args.instance.now.net.now.links c.args.counts.now c.requires.shape

pub mended_or_anew-requires-clause-scale : goal.mended_or_anew-requires-clause-scale
mended_or_anew-requires-clause-scale c = scale_told (case_of c.args.instance.now) c.args.instance.now.belong c.args.fractional.now c.args.counts.now c.requires.covered

pub mended_or_anew-requires-clause-carries : goal.mended_or_anew-requires-clause-carries
mended_or_anew-requires-clause-carries c =
    let instance = c.args.instance.now in
    let p = case_of instance in
    let fractional = c.args.fractional.now in
    let counts = c.args.counts.now in
    let s = c.loop-s.s in
    let r = c.index-shared-s.result in
    let inside : s < length c.items-shared.result.now = omega (arith, c.loop-s-test.true, c.count-s-end.ensures, states_told p instance.belong fractional counts c.requires.covered, ap (λ (rs : List Routing). length rs) c.items-shared.ensures) in
    carried_told p instance.belong fractional counts c.requires.covered s r c.in_ok-caps.caps
    (item_at fractional.routings c.items-shared.result.now s r c.items-shared.ensures inside c.index-shared-s.is)
    (caps_same p.links counts c.in_ok-caps.caps c.in_ok-caps.ensures.0 c.in_ok-caps.ensures.1)

pub returns-in-None : goal.returns-in-None
returns-in-None c =
    let instance = c.args.instance.now in
    let p = case_of instance in
    let fractional = c.args.fractional.now in
    let s = c.loop-s.s in
    let r = c.index-shared-s.result in
    let inside : s < length c.items-shared.result.now = omega (arith, c.loop-s-test.true, c.count-s-end.ensures, states_told p instance.belong fractional c.args.counts.now c.requires.covered, ap (λ (rs : List Routing). length rs) c.items-shared.ensures) in
    record {
      state = s;
      routing = r;
      at = item_at fractional.routings c.items-shared.result.now s r c.items-shared.ensures inside c.index-shared-s.is;
      large = subst (IsStateAnswer (graph_in p s) p.demands c.in_ok-caps.caps fractional.share.scale r) c.in-None.is c.in_ok-routing.ensures;
    }

pub loop-s-preserved : goal.loop-s-preserved
loop-s-preserved c =
    let p = case_of c.args.instance.now in
    let counts = c.args.counts.now in
    let caps = installed_caps p.links counts in
    let s = c.loop-s.s in
    let same = caps_same p.links counts c.in_ok-caps.caps c.in_ok-caps.ensures.0 c.in_ok-caps.ensures.1 in
    let answer = subst (λ (x : Caps). IsStateAnswer (graph_in p s) p.demands x c.args.fractional.now.share.scale c.index-shared-s.result c.in_ok-routing.field-0) same c.in_ok-routing.ensures in
    subst (AreRoutedTo p caps (s + 1)) (sym c.in_ok-push-in-Some.ensures.ok)
    (routed_more p caps s c.loop-s.routings c.in-Some.routing c.loop-s.invariant
    (subst (IsStateAnswer (graph_in p s) p.demands caps c.args.fractional.now.share.scale c.index-shared-s.result) c.in-Some.is answer))
