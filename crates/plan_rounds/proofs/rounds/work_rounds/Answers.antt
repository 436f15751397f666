use Rattle.std.proofs.Common.{◌≡◌, ◌+◌, ◌≤◌, List, [], ap, arith, length, map, subst, sym, ◌∙◌}
use Rattle.net_core.proofs.Library.{∥∥₁_elim, props}
use Rattle.plan_terms.specs.Terms.{CutLine, case_of}
use Rattle.cut_pool.specs.Terms.{cut_of_line, cuts_of}
use Rattle.plan_law.specs.WorkedLists.{IsBeginning}
use Rattle.separator.{specs.Separators.SeesMore, proofs.Seeing.{sees_both, sees_none}}
use Rattle.plan_rounds.{specs.WorkedRounds.IsPoolOf, specs.inner.Alone.IsAlone, proofs.OwnPool.alone_before, proofs.OwnTurns.{alone_from_none, part_none, pool_none}}
use Rattle.plan_rounds.proofs.rounds.work_rounds.Goals as goal

pub returns-in_err-pairs-clause-more : goal.returns-in_err-pairs-clause-more
returns-in_err-pairs-clause-more g c = sees_none (g.S.Separate.seen_of c.args.separator.now)

pub returns-in_err-candidates-clause-frame : goal.returns-in_err-candidates-clause-frame
returns-in_err-candidates-clause-frame g c = c.in_err-candidates.ensures.on.same

pub returns-in_err-candidates-clause-more : goal.returns-in_err-candidates-clause-more
returns-in_err-candidates-clause-more g c = c.in_err-candidates.ensures.on.more

pub invariant_of-rounds : goal.invariant_of-rounds
invariant_of-rounds g c = record {
  survivable = c.requires.survivable;
  few = omega (arith, c.requires.few, c.len-most.ensures);
}

pub turns-requires-clause-planning : goal.turns-requires-clause-planning
turns-requires-clause-planning g c =
    let opened = c.in_ok-candidates.ensures in
    record { network = c.requires.network ∙ ap (λ f. f.network) (sym opened.on.same); states = c.requires.states ∙ ap (λ f. f.states) (sym opened.on.same); listed = opened.listed }

pub turns-requires-clause-fits : goal.turns-requires-clause-fits
turns-requires-clause-fits g c =
    let states : length c.args.instance.now.states.now.listed ≤ 256 = ∥∥₁_elim c.args.instance.now.states.now.checked (hlevel props) (λ is. is.few) in
    omega (arith, states, c.in_ok-candidates.ensures.few, c.len-most.ensures)

pub returns-in-Ok-clause-frame : goal.returns-in-Ok-clause-frame
returns-in-Ok-clause-frame g c = c.turns.ensures.on.same ∙ c.in_ok-candidates.ensures.on.same

pub returns-in-Ok-clause-more : goal.returns-in-Ok-clause-more
returns-in-Ok-clause-more g c = sees_both _ _ _ c.in_ok-candidates.ensures.on.more c.turns.ensures.on.more

pub returns-clause-more : goal.returns-clause-more
returns-clause-more g c = sees_both _ _ _ c.in_ok-candidates.ensures.on.more c.turns.ensures.on.more

pub returns-in-Ok-clause-worked : goal.returns-in-Ok-clause-worked
returns-in-Ok-clause-worked g c =
    ∥∥₁_elim c.requires.pool (hlevel props) (λ pool. c.in-Ok.ensures.worked c.args.pool (ap (λ n. n + 4096) (sym c.len-most.ensures)) pool.cuts c.in_ok-candidates.ensures.begins)

pub returns-in-Ok-clause-alone : goal.returns-in-Ok-clause-alone
returns-in-Ok-clause-alone g c none same =
    let before = g.S.Separate.seen_of c.args.separator.now in
    let opened = g.S.Separate.seen_of c.open_states.new.separator in
    let now = g.S.Separate.seen_of c.turns.new.separator in
    let lines = c.in_ok-candidates.candidates.lines in
    let more : SeesMore before now = sees_both _ _ _ c.in_ok-candidates.ensures.on.more c.turns.ensures.on.more in
    let states : length c.args.instance.now.states.now.listed ≤ 256 = ∥∥₁_elim c.args.instance.now.states.now.checked (hlevel props) (λ is. is.few) in
    ∥∥₁_elim c.requires.pool (hlevel props) (λ is_pool.
    ∥∥₁_elim (g.met.S.Separate.seen c.args.separator.now) (hlevel props) (λ seen_before.
    ∥∥₁_elim (g.met.S.Separate.seen c.open_states.new.separator) (hlevel props) (λ seen_opened.
    ∥∥₁_elim c.in_ok-candidates.ensures.alone (hlevel props) (λ opens.
    let empty : c.args.pool ≡ [] = pool_none (case_of c.args.instance.now) c.args.pool (subst (λ es. IsPoolOf (case_of c.args.instance.now) es c.args.pool) none is_pool) in
    let alone : IsAlone now = alone_from_none before now (part_none before.own before.history none seen_before.own_among) more same in
    let alone_opened = alone_before opened now seen_opened.own_among c.turns.ensures.on.more alone in
    let none_pooled : cuts_of before.history ≡ map cut_of_line c.args.pool = ap cuts_of none ∙ sym (ap (map cut_of_line) empty) in
    let count : length c.args.pool ≡ 0 = ap length empty in
    c.in-Ok.ensures.alone alone (omega (arith, count, c.len-most.ensures)) (subst (λ (xs : List CutLine). IsBeginning (case_of c.args.instance.now) xs lines) empty c.in_ok-candidates.ensures.begins)
    (opens.pools alone_opened (let few = c.in_ok-candidates.ensures.few in omega (arith, few, states, count)) none_pooled)))))
