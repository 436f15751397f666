use Rattle.std.proofs.Common.{All, subst}
use Rattle.net_core.specs.declared.instance.Instance.{Instance}
use Rattle.plan_terms.specs.Terms.{case_of}
use Rattle.table_maker.{specs.SetCuts.IsSetCut, proofs.Parting.all_cuts}
use Rattle.table_maker.proofs.boundaries.set_cuts.Goals as goal

pub returns-clause-cuts : goal.returns-clause-cuts
returns-clause-cuts c =
    let cuts = c.loop-cut.sets.cuts in
    all_cuts (case_of c.args.instance.now) cuts (subst (λ (i : Instance). All (IsSetCut (case_of i)) cuts) c.loop-cut.invariant.same.0 c.loop-cut.invariant.found.0)
