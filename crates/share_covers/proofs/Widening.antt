-- evidence at the covers of a share
use Rattle.std.proofs.Common.{◌≤◌, inr, length, sym, subst}
use Rattle.plan_terms.specs.Terms.{graph_in, Route, Master, Caps}
use Rattle.route_law.specs.Terms.{IsRouteEvidence}
use Rattle.share_covers.specs.Laws.{WideCoversAreLoose}

pub wide_covers_are_loose : WideCoversAreLoose
wide_covers_are_loose p pairs share plan rounds cuts (Route state caps basis kind) units least raw wide =
    let here = wide.wide.here in
    let s = wide.wide.state in
    record {
      listed_state = subst (λ n. n ≤ length p.listed) (sym here.0) wide.wide.listed_state;
      share = share;
      least = least;
      raw = raw;
      of_share = inr (record { counts = wide.installed.counts; covers = wide.covers.covers pairs units; small = wide.covers.small; are = here.1 });
      evidence = subst (λ n. IsRouteEvidence (graph_in p n) p.demands caps basis kind) (sym here.0)
          (subst (λ (c : Caps). IsRouteEvidence (graph_in p s) p.demands c basis kind) (sym here.1) here.2);
    }
wide_covers_are_loose p pairs share plan rounds cuts (Master basis kind) units least raw wide = absurd wide.wide.here
