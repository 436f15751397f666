use Rattle.std.proofs.Common.{◌≡◌, List, ap, length, refl, subst, ◌∙◌}
use Rattle.plan_report.specs.Terms.{known_of}
use Rattle.plan_terms.specs.Terms.{Link, case_of}
use Rattle.text_kit.proofs.Lemmas.{on_ok}
use Rattle.plan_view.specs.Terms.{den_in, routing_in}
use Rattle.view_svg.{specs.Changes.{AreRoundedLoads, changed_flows}, specs.Pictures.picture_text, proofs.ChangedLoads.load_within}
use Rattle.view_svg.proofs.picture.put_picture.Goals as goal

pub plan_changes-requires-clause-within : goal.plan_changes-requires-clause-within
plan_changes-requires-clause-within c e = load_within (case_of c.args.instance.now) c.args.plan.now c.requires c.args.state e

pub returns : goal.returns
returns c =
    let a = c.args in
    let known = known_of a.instance.now.net.now a.instance.now.states.now in
    let many : c.len-links.result ≡ length a.instance.now.net.now.links = c.len-links.ensures ∙ ap (λ (links : List Link). length links) c.links.ensures in
    on_ok c.put_drawn.result (λ q. (
      picture_text a.network.now known a.state c.in_ok-rows.rows c.in_ok-layout.layout c.in_ok-changes.changes,
      record {
        rows = c.in_ok-rows.rows;
        layout = c.in_ok-layout.layout;
        changes = c.in_ok-changes.changes;
        are_rows = c.in_ok-rows.ensures;
        are_changes = subst (λ n. AreRoundedLoads (changed_flows (routing_in a.plan.now.routings 0).flows (routing_in a.plan.now.routings a.state).flows)
            (den_in a.plan.now.routings a.state) n c.in_ok-changes.changes) many c.in_ok-changes.ensures;
        all_nodes = c.in_ok-layout.ensures.nodes;
        all_links = c.in_ok-layout.ensures.links;
        drawn = refl;
      },
      q,
    )) c.put_drawn.ensures
