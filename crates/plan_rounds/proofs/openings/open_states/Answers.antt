use Rattle.std.proofs.Common.{arith, subst}
use Rattle.net_core.proofs.Library.{∥∥₁_elim, ∥∥₁_map, props}
use Rattle.plan_terms.specs.Terms.{case_of}
use Rattle.plan_law.proofs.Begun.{opened_none}
use Rattle.plan_rounds.{specs.inner.Listing.AreFirstSpots, proofs.Listing.pool_listed, proofs.OwnPool.{pools_both, pools_none}, proofs.Seeing.{goes_both, goes_none, planning_on}}
use Rattle.plan_rounds.proofs.openings.open_states.Goals as goal

pub returns-in_err-spots-clause-on : goal.returns-in_err-spots-clause-on
returns-in_err-spots-clause-on g c = goes_none _ _

pub loop-s-init : goal.loop-s-init
loop-s-init g c =
    let p = case_of c.args.instance.now in
    let now = c.args.separator.now in (
      goes_none _ _,
      record {
        network = c.requires.network;
        states = c.requires.states;
        listed = ∥∥₁_elim c.requires.pool (hlevel props) (λ pool. ∥∥₁_map (g.met.S.Separate.seen now) (λ seen.
            pool_listed p (g.S.Separate.frame now).network (g.S.Separate.frame now).states (g.S.Separate.seen_of now) c.args.pool c.in_ok-spots.spots seen pool (subst (λ n. AreFirstSpots n c.in_ok-spots.spots) c.len.ensures c.in_ok-spots.ensures)));
      },
      opened_none p c.args.pool,
      omega arith,
      ∣ pools_none (g.S.Separate.seen_of c.args.separator.now) c.args.pool ∣₁,
    )

pub returns-in_err-open_state-clause-on : goal.returns-in_err-open_state-clause-on
returns-in_err-open_state-clause-on g c = goes_both _ _ _ _ _ _ c.loop-s.invariant.0 c.in_err-open_state.ensures.on

pub loop-s-preserved : goal.loop-s-preserved
loop-s-preserved g c =
    let so_far = c.loop-s.invariant in (
      goes_both _ _ _ _ _ _ so_far.0 c.in_ok-open_state.ensures.on,
      planning_on _ _ _ _ _ _ _ so_far.1 c.in_ok-open_state.ensures.on c.in_ok-open_state.ensures.listed,
      c.in_ok-open_state.ensures.opened c.args.pool so_far.2,
      omega (arith, so_far.3, c.in_ok-open_state.ensures.few),
      ∥∥₁_elim (g.met.S.Separate.seen c.loop-s.separator) (hlevel props) (λ seen. ∥∥₁_elim so_far.4 (hlevel props) (λ first. ∥∥₁_map c.in_ok-open_state.ensures.alone (λ second.
          pools_both (g.S.Separate.seen_of c.args.separator.now) (g.S.Separate.seen_of c.loop-s.separator) (g.S.Separate.seen_of c.open_state.new.separator)
          c.args.pool c.loop-s.candidates.lines c.open_state.new.candidates.lines seen.own_among c.in_ok-open_state.ensures.on.more first second))),
    )
