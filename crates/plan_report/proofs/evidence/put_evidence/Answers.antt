use Rattle.text_kit.proofs.Lemmas.{on_ok, adds_then}
use Rattle.plan_report.{specs.Forms.{IsMasterEvidenceInForm, IsRouteEvidenceInForm}, specs.inner.Naming.known_in}
use Rattle.plan_report.proofs.evidence.put_evidence.Goals as goal

pub put_route_kind-requires : goal.put_route_kind-requires
put_route_kind-requires c =
    let h : IsRouteEvidenceInForm (known_in c.args.names.now) c.args.demands.now c.in-Route.state c.in-Route.caps c.in-Route.basis c.in-Route.kind = rw c.in-Route.is at c.requires in
    h.wide

pub put_master_basis-requires : goal.put_master_basis-requires
put_master_basis-requires c =
    let h : IsMasterEvidenceInForm c.args.names.now.links.now c.args.names.now.listed.now c.in-Master.basis c.in-Master.kind = rw c.in-Master.is at c.requires in
    (c.args.names.now.listed.now, rw c.items-in-Master.ensures h.columns)

pub put_master_kind-requires : goal.put_master_kind-requires
put_master_kind-requires c =
    let h : IsMasterEvidenceInForm c.args.names.now.links.now c.args.names.now.listed.now c.in-Master.basis c.in-Master.kind = rw c.in-Master.is at c.requires in
    (c.args.names.now.listed.now, h.wide)

pub returns-in_ok-put_route_basis-in-Route : goal.returns-in_ok-put_route_basis-in-Route
returns-in_ok-put_route_basis-in-Route c = rw c.in-Route.is (on_ok _ (λ q. adds_then (adds_then (adds_then c.in_ok-put_field-in-Route.ensures c.in_ok-put_caps-in-Route.ensures) (rw c.items.ensures at c.in_ok-put_route_basis-in-Route.ensures)) q) c.put_route_kind.ensures)

pub returns-in_ok-put_master_basis-in-Master : goal.returns-in_ok-put_master_basis-in-Master
returns-in_ok-put_master_basis-in-Master c = rw c.in-Master.is (on_ok _ (λ q. adds_then c.in_ok-put_keyword-in-Master.ensures (adds_then (rw c.items-in-Master.ensures at c.in_ok-put_master_basis-in-Master.ensures) q)) c.put_master_kind.ensures)
