use Rattle.std.{proofs.Common.{◌≡◌, ◌∙◌, All, List, ap, arith, reverse, subst, sym}, proofs.lemmas.List.reverse-reverse}
use Rattle.net_core.proofs.Library.{∥∥₁_elim, ∥∥₁_map, props, All-tail}
use Rattle.plan_terms.specs.Terms.{graph_in, case_of}
use Rattle.metric_cut.{specs.Cuts.IsCutOf, specs.declared.cut.Cut.Cut}
use Rattle.plan_rounds.{specs.inner.Listing.TakesCuts, proofs.Multiplying.last_first, proofs.OwnPool.{pools_both, pools_none}, proofs.Seeing.{goes_both, goes_none, planning_on}}
use Rattle.plan_rounds.proofs.openings.take_cuts.Goals as goal

pub loop-cut-init : goal.loop-cut-init
loop-cut-init g c =
    let is : Cut → Type 0 = λ x. IsCutOf (graph_in (case_of c.args.instance.now) x.state.0) x in
    let same : reverse c.reverse.new.self.items ≡ c.args.cuts = ap reverse c.reverse.ensures.items ∙ (reverse-reverse _ ∙ c.into_vec-left.ensures) in (
      subst (All is) (sym same) c.requires.cuts,
      goes_none _ _,
      c.requires.planning,
      λ end takes. subst (λ (cs : List Cut). TakesCuts c.args.instance.now.demands.now cs c.args.candidates.now.lines end) same takes,
      ∣ pools_none (g.S.Separate.seen_of c.args.separator.now) c.args.candidates.now.lines ∣₁,
    )

pub take_cut-requires-clause-cut : goal.take_cut-requires-clause-cut
take_cut-requires-clause-cut g c =
    let cut = c.in-Some.cut in
    let is : Cut → Type 0 = λ x. IsCutOf (graph_in (case_of c.args.instance.now) x.state.0) x in
    let first = last_first c.loop-cut.left.items c.pop.new.self.items cut c.in-Some.ensures.items in
    subst (All is) first c.loop-cut.invariant.0 0 cut (omega arith)

pub returns-in_err-take_cut-clause-on : goal.returns-in_err-take_cut-clause-on
returns-in_err-take_cut-clause-on g c = goes_both _ _ _ _ _ _ c.loop-cut.invariant.1 c.in_err-take_cut.ensures.on

pub loop-cut-preserved : goal.loop-cut-preserved
loop-cut-preserved g c =
    let rest = reverse c.pop.new.self.items in
    let cut = c.in-Some.cut in
    let is : Cut → Type 0 = λ x. IsCutOf (graph_in (case_of c.args.instance.now) x.state.0) x in
    let first = last_first c.loop-cut.left.items c.pop.new.self.items cut c.in-Some.ensures.items in
    let so_far = c.loop-cut.invariant in (
      All-tail is cut rest (subst (All is) first so_far.0),
      goes_both _ _ _ _ _ _ so_far.1 c.in_ok-take_cut.ensures.on,
      planning_on _ _ _ _ _ _ _ so_far.2 c.in_ok-take_cut.ensures.on c.in_ok-take_cut.ensures.listed,
      λ end takes. so_far.3 end (subst (λ (cs : List Cut). TakesCuts c.args.instance.now.demands.now cs c.loop-cut.candidates.lines end) (sym first) (c.take_cut.new.candidates.lines, c.in_ok-take_cut.ensures.taken, takes)),
      ∥∥₁_elim (g.met.S.Separate.seen c.loop-cut.separator) (hlevel props) (λ seen. ∥∥₁_elim so_far.4 (hlevel props) (λ first. ∥∥₁_map c.in_ok-take_cut.ensures.alone (λ second.
          pools_both (g.S.Separate.seen_of c.args.separator.now) (g.S.Separate.seen_of c.loop-cut.separator) (g.S.Separate.seen_of c.take_cut.new.separator)
          c.args.candidates.now.lines c.loop-cut.candidates.lines c.take_cut.new.candidates.lines seen.own_among c.in_ok-take_cut.ensures.on.more first second))),
    )
