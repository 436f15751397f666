use Rattle.std.proofs.Common.{◌∙◌, ◌*◌, ap, sym, subst}
use Rattle.cut_pool.{specs.inner.Shares.{IsShareOfDemand, asked_by}, proofs.Following.kept_distance}
use Rattle.cut_pool.proofs.pooled_cut.PooledCut.asked.Goals as goal

pub returns-clause-value : goal.returns-clause-value
returns-clause-value c =
    let cut = c.args.self.now.cut in
    let s = c.in-Some.field-0 in
    let of = subst (IsShareOfDemand cut.table.nodes) c.in-Some.is c.requires.share in
    ap (λ d. s.need * d) (c.unwrap_or.ensures ∙ kept_distance cut c.requires.cut s.from.0 s.to.0 of.0 of.1 c.distance.result c.distance.ensures)
    ∙ ap (asked_by cut.table) (sym c.in-Some.is)
