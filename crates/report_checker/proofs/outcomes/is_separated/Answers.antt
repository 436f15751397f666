use Rattle.std.proofs.Common.{length, refl, arith}
use Rattle.net_core.proofs.Library.{slice_get_read}
use Rattle.plan_terms.specs.Terms.{case_of}
use Rattle.report_checker.proofs.Apart.{its_demand, told_separated}
use Rattle.report_checker.proofs.outcomes.is_separated.Goals as goal

pub returns : goal.returns
returns c =
    let p = case_of c.args.instance.now in
    let d = c.index-items-k.result in
    told_separated p c.args.state.0 c.args.name.now c.args.k d c.are_apart.result
    (slice_get_read p.demands (length p.demands) c.args.k d refl c.requires.inside (rw c.items.ensures at c.index-items-k.is)) (c.same.ensures.0 c.if-not-same.false) (omega (arith, c.if-demand-eq0.false)) c.are_apart.ensures

pub returns-then-not-same : goal.returns-then-not-same
returns-then-not-same c = (
  λ no. absurd cc no,
  λ found.
      let p = case_of c.args.instance.now in
      let d = c.index-items-k.result in
      let own = its_demand p c.args.state.0 c.args.name.now c.args.k d (slice_get_read p.demands (length p.demands) c.args.k d refl c.requires.inside (rw c.items.ensures at c.index-items-k.is)) found in
      absurd cc (c.same.ensures.1 own.0, c.if-not-same.true),
)

pub returns-then-demand-eq0 : goal.returns-then-demand-eq0
returns-then-demand-eq0 c = (
  λ no. absurd cc no,
  λ found.
      let p = case_of c.args.instance.now in
      let d = c.index-items-k.result in
      let own = its_demand p c.args.state.0 c.args.name.now c.args.k d (slice_get_read p.demands (length p.demands) c.args.k d refl c.requires.inside (rw c.items.ensures at c.index-items-k.is)) found in
      absurd (omega (arith, own.1, c.if-demand-eq0.true)),
)
