use Rattle.std.proofs.Common.{◌+◌, length, get_or, arith}
use Rattle.net_core.proofs.Library.{∥∥₁_elim, ∥∥₁_map, props, slice_get-get_or}
use Rattle.plan_terms.specs.Terms.{graph_in, case_of}
use Rattle.plan_rounds.proofs.Undividing.{flows_fit, states_routed}
use Rattle.plan_rounds.proofs.fractional.carried.Goals as goal

pub returns-in-Some : goal.returns-in-Some
returns-in-Some c = ∣ (0, omega arith, c.in_ok-evidence.ensures) ∣₁

pub undivided_all-requires-clause-den : goal.undivided_all-requires-clause-den
undivided_all-requires-clause-den c k d lt =
    ∥∥₁_elim c.requires.routed (hlevel props) (λ are. (are.each k (get_or c.args.routings k d) (slice_get-get_or c.args.routings k d lt)).carries.den)

pub undivided_all-requires-clause-fits : goal.undivided_all-requires-clause-fits
undivided_all-requires-clause-fits c k d lt j f inside =
    ∥∥₁_elim c.requires.routed (hlevel props) (λ are.
    flows_fit (graph_in (case_of c.args.instance.now) k) c.args.instance.now.demands.now c.args.caps.divisor c.args.caps.divided c.args.caps.whole c.requires.divided.positive c.requires.divided.times (rw c.items.ensures at c.in_default.ensures)
    (get_or c.args.routings k d) (are.each k (get_or c.args.routings k d) (slice_get-get_or c.args.routings k d lt)) j f inside)

pub returns : goal.returns
returns c =
    ∥∥₁_map c.requires.routed (λ are. (
      c.in_ok-copy.ensures,
      states_routed (case_of c.args.instance.now) c.args.caps.divisor (length c.args.instance.now.states.now.listed + 1) c.args.caps.divided c.args.caps.whole c.args.routings c.in_ok-undivided_all.field-0
          c.requires.divided.positive c.requires.divided.times (rw c.items.ensures at c.in_default.ensures) are c.in_ok-undivided_all.ensures,
    ))
