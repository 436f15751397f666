use Rattle.std.proofs.Common.{ap, ◌∙◌}
use Rattle.rayon.proofs.ToStd.{slice-map}
use Rattle.cut_pool.specs.declared.pooled_cut.PooledCut.{PooledCut}
use Rattle.cut_pool.proofs.audit.rights_of.Goals as goal

pub collect-requires-clause-ready : goal.collect-requires-clause-ready
collect-requires-clause-ready g c κs within =
    rw (c.map.ensures.base, c.map.ensures.f, c.with_min_len.ensures.base, c.par_iter.ensures) (λ k d lt x is. (rw is (c.requires k d lt), λ y of. tt))

pub returns : goal.returns
returns g c =
    let slice = ap (λ it. it.base.slice.now) c.map.ensures.base ∙ (ap (λ it. it.slice.now) c.with_min_len.ensures.base ∙ c.par_iter.ensures) in
    let given = c.in_ok-rights.ensures in
    let chain = given.1 in
    c.from_vec.ensures ∙ rw given.2 (slice-map chain.0 c.args.pool.now (chain.1 ∙ slice) (λ (c : PooledCut). c.right) given.0 chain.2)
