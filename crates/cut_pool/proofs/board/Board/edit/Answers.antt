use Rattle.std.proofs.Common.{◌≡◌, ◌∙◌, All, List, length, sym, subst, refl, ap, true, arith, IfOk}
use Rattle.net_core.proofs.Library.{length-map}
use Rattle.plan_terms.specs.Terms.{Demand, case, edit_reply}
use Rattle.cut_pool.{specs.declared.pooled_cut.PooledCut.PooledCut, specs.Boards.opening_case, specs.Rooms.{left_spare, sets_known}, proofs.Boards.{edit_committed, one_more, reply_told, standing, still_told}, proofs.Following.at_demands, proofs.Sides.IsAtDemands, proofs.Told.demands_told}
use Rattle.cut_pool.proofs.board.Board.edit.Goals as goal

pub returns-then-len-ge-MOST_ENTRIES-clause-answer : goal.returns-then-len-ge-MOST_ENTRIES-clause-answer
returns-then-len-ge-MOST_ENTRIES-clause-answer c =
    (omega (arith, c.len.ensures, c.if-len-ge-MOST_ENTRIES.true, c.args.self.now.few), refl, record { entries = refl; book = refl; pool = refl; origin = refl })

pub commit_edit-requires-clause-pool : goal.commit_edit-requires-clause-pool
commit_edit-requires-clause-pool c =
    let self = c.args.self.now in
    standing (case self.net.now self.states.now self.opening.value) self.entries self.book self.pool (ap length (sym self.nodes)) self.cuts_are self.stands self.low

-- each cut has its right side at the demands after the edit
at_new : (c : goal.After-commit_edit) → All (IsAtDemands c.commit_edit.new.book.demands) c.commit_edit.new.pool
at_new c = λ k d lt. at_demands _ c.commit_edit.new.book.demands _ c.commit_edit.new.book.belong (c.commit_edit.ensures.pool k d lt)

pub invariant_of-self-clause-few : goal.invariant_of-self-clause-few
invariant_of-self-clause-few c =
    let self = c.args.self.now in
    omega (arith, one_more self.entries c.commit_edit.new.told c.args.caller c.args.edit c.commit_edit.new.book self.book self.pool c.commit_edit.new.pool c.commit_edit.result c.commit_edit.ensures.entries c.commit_edit.ensures.same, c.len.ensures, c.if-len-ge-MOST_ENTRIES.false)

pub invariant_of-self-clause-few_cuts : goal.invariant_of-self-clause-few_cuts
invariant_of-self-clause-few_cuts c =
    omega (arith, c.args.self.now.few_cuts, ap length c.commit_edit.ensures.cuts, length-map c.commit_edit.new.pool (λ (p : PooledCut). p.cut), length-map c.args.self.now.pool (λ (p : PooledCut). p.cut))

pub invariant_of-self-clause-low : goal.invariant_of-self-clause-low
invariant_of-self-clause-low c = λ k d lt. (c.commit_edit.ensures.pool k d lt).low

pub invariant_of-self-clause-cuts_are : goal.invariant_of-self-clause-cuts_are
invariant_of-self-clause-cuts_are c =
    let self = c.args.self.now in
    still_told (case self.net.now self.states.now self.opening.value) self.pool c.commit_edit.new.pool c.commit_edit.ensures.cuts self.cuts_are

pub invariant_of-self-clause-stands : goal.invariant_of-self-clause-stands
invariant_of-self-clause-stands c =
    let self = c.args.self.now in
    let e = c.commit_edit.ensures in
    edit_committed (case self.net.now self.states.now self.opening.value) self.entries c.commit_edit.new.told self.book c.commit_edit.new.book self.pool c.commit_edit.new.pool self.cuts_are self.stands
    c.args.caller c.args.edit c.commit_edit.result e.entries
    (subst (λ (ns : List (List _)). IfOk c.commit_edit.result (λ r. (r, c.commit_edit.new.book.demands) ≡ edit_reply ns self.book.demands self.book.version c.args.edit)) self.nodes e.answer)
    e.version e.same e.cuts (at_new c)

pub returns-in-Ok-clause-answer : goal.returns-in-Ok-clause-answer
returns-in-Ok-clause-answer c =
    let self = c.args.self.now in
    let p = case self.net.now self.states.now self.opening.value in (
      omega (arith, c.len.ensures, c.if-len-ge-MOST_ENTRIES.false),
      record {
        legal = reply_told p self.entries self.book.demands self.book.version self.pool self.stands c.args.caller c.args.edit c.in-Ok.reply c.commit_edit.new.book.demands
            (subst (λ (ns : List (List _)). (c.in-Ok.reply, c.commit_edit.new.book.demands) ≡ edit_reply ns self.book.demands self.book.version c.args.edit) self.nodes c.in-Ok.ensures.answer);
        entries = c.in-Ok.ensures.entries;
        origin = refl;
      },
      c.len-in-Ok.ensures,
    )

pub returns-in-Err-clause-answer : goal.returns-in-Err-clause-answer
returns-in-Err-clause-answer c =
    (omega (arith, c.len.ensures, c.if-len-ge-MOST_ENTRIES.false), c.in-Err.ensures.same.0, record { entries = c.in-Err.ensures.same.1; book = c.in-Err.ensures.same.2; pool = c.in-Err.ensures.same.3; origin = refl })

pub returns-in-Ok-clause-spare : goal.returns-in-Ok-clause-spare
returns-in-Ok-clause-spare c =
    let self = c.args.self.now in
    c.in-Ok.ensures.spare ∙ ap (λ (ds : List Demand). left_spare ds c.args.edit self.storage.spare)
    (demands_told (opening_case self) self.entries self.book.demands self.book.version self.pool self.stands)

pub returns-in-Err-clause-spare : goal.returns-in-Err-clause-spare
returns-in-Err-clause-spare c =
    let self = c.args.self.now in (
      c.in-Err.ensures.kept,
      subst (λ (ds : List Demand). sets_known ds c.args.edit ≡ true → self.storage.spare ≡ 0)
          (demands_told (opening_case self) self.entries self.book.demands self.book.version self.pool self.stands) c.in-Err.ensures.none,
    )
