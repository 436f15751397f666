use Rattle.std.proofs.Common.{◌∙◌, MatchOption, subst, sym, refl}
use Rattle.plan_terms.specs.Terms.{graph_of}
use Rattle.route_law.proofs.Lemmas.{route_packing}
use Rattle.key_rows.specs.Terms.{IsRoom}
use Rattle.key_paths.{specs.inner.Gaining.{IsGaining, NoneGains}, proofs.Answering.keyed_answer, proofs.Fitting.{apart_places, fitting}, proofs.Looping.{at_start, has_gaining, at_next, some_role_limits, wide_evidence, turn_falls}}
use Rattle.key_paths.proofs.solver.solved.Goals as goal

pub loop-keyed-init : goal.loop-keyed-init
loop-keyed-init c =
    let task = c.args.task.now in
    let g = graph_of task.graph in
    record {
      at = at_start g task.demands.now task.caps.now task.graph.net.now.checked task.belong (route_packing g task.demands.now task.caps.now c.requires.narrow) c.args.keyed c.requires.start;
      room = c.requires.room;
      waiting = c.requires.waiting;
    }

pub finish-requires-clause-apart : goal.finish-requires-clause-apart
finish-requires-clause-apart c = apart_places c.loop-keyed.invariant.at.held.keyed

pub finish-requires-clause-fit : goal.finish-requires-clause-fit
finish-requires-clause-fit c =
    let task = c.args.task.now in
    let g = graph_of task.graph in
    let at = c.loop-keyed.invariant.at in
    fitting at.held.keyed (Rattle.route_law.specs.RoutingPrograms.IsRouteColumn g task.demands.now) (route_packing g task.demands.now task.caps.now c.requires.narrow) at.reached.here.columns

pub returns-in_default : goal.returns-in_default
returns-in_default c =
    let task = c.args.task.now in
    let g = graph_of task.graph in
    let at = c.loop-keyed.invariant.at in
    keyed_answer g task.demands.now at.held.keyed (route_packing g task.demands.now task.caps.now c.requires.narrow) at.reached
    (subst (λ o. MatchOption o (NoneGains g task.demands.now c.loop-keyed.keyed) (IsGaining g task.demands.now c.loop-keyed.keyed)) c.in_default.is c.in_ok-name.ensures.found) c.finish.result c.finish.ensures

pub enter-requires-clause-gains : goal.enter-requires-clause-gains
enter-requires-clause-gains c =
    let task = c.args.task.now in
    let g = graph_of task.graph in
    has_gaining g task.demands.now task.caps.now task.graph.net.now.checked task.belong (route_packing g task.demands.now task.caps.now c.requires.narrow) c.loop-keyed.keyed c.loop-keyed.invariant.at c.in-Some.name (subst (λ o. MatchOption o (NoneGains g task.demands.now c.loop-keyed.keyed) (IsGaining g task.demands.now c.loop-keyed.keyed)) c.in-Some.is c.in_ok-name.ensures.found)

pub loop-keyed-smaller : goal.loop-keyed-smaller
loop-keyed-smaller c =
    let task = c.args.task.now in
    let g = graph_of task.graph in
    turn_falls g task.demands.now task.caps.now task.graph.net.now.checked task.belong (route_packing g task.demands.now task.caps.now c.requires.narrow) c.loop-keyed.keyed c.loop-keyed.invariant.at c.in-Some.name
    (subst (λ o. MatchOption o (NoneGains g task.demands.now c.loop-keyed.keyed) (IsGaining g task.demands.now c.loop-keyed.keyed)) c.in-Some.is c.in_ok-name.ensures.found) c.enter.new.keyed c.in-Again.ensures.entered

pub loop-keyed-preserved : goal.loop-keyed-preserved
loop-keyed-preserved c =
    let task = c.args.task.now in
    let g = graph_of task.graph in
    let at = at_next g task.demands.now task.caps.now task.graph.net.now.checked task.belong (route_packing g task.demands.now task.caps.now c.requires.narrow) c.loop-keyed.keyed c.loop-keyed.invariant.at c.in-Some.name
    (subst (λ o. MatchOption o (NoneGains g task.demands.now c.loop-keyed.keyed) (IsGaining g task.demands.now c.loop-keyed.keyed)) c.in-Some.is c.in_ok-name.ensures.found) c.enter.new.keyed c.in-Again.ensures.entered in
    record {
      at = at;
      room = subst (λ n. IsRoom n c.enter.new.room) (c.loop-keyed.invariant.at.held.keyed.shaped.rows ∙ sym at.held.keyed.shaped.rows) (c.in-Again.ensures.room refl);
      waiting = c.price.ensures.waiting;
    }

pub unreachable-requires : goal.unreachable-requires
unreachable-requires c =
    let task = c.args.task.now in
    let g = graph_of task.graph in
    some_role_limits g task.demands.now task.caps.now task.graph.net.now.checked task.belong (route_packing g task.demands.now task.caps.now c.requires.narrow) c.loop-keyed.keyed c.loop-keyed.invariant.at c.in-Some.name
    (subst (λ o. MatchOption o (NoneGains g task.demands.now c.loop-keyed.keyed) (IsGaining g task.demands.now c.loop-keyed.keyed)) c.in-Some.is c.in_ok-name.ensures.found) c.enter.new.keyed c.in-Unbounded.ensures.entered

pub returns-in-Wide : goal.returns-in-Wide
returns-in-Wide c =
    let task = c.args.task.now in
    let g = graph_of task.graph in
    rw c.stopped.ensures
    (wide_evidence g task.demands.now task.caps.now task.graph.net.now.checked task.belong (route_packing g task.demands.now task.caps.now c.requires.narrow) c.loop-keyed.keyed c.loop-keyed.invariant.at c.in-Some.name
    (subst (λ o. MatchOption o (NoneGains g task.demands.now c.loop-keyed.keyed) (IsGaining g task.demands.now c.loop-keyed.keyed)) c.in-Some.is c.in_ok-name.ensures.found) c.in-Wide.kind c.enter.new.keyed c.in-Wide.ensures.entered)
