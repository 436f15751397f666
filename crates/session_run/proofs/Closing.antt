-- the board at the end, when all have met
use Rattle.std.proofs.Common.{◌≡◌, ◌∙◌, List, [], ap, length, subst, sym, arith, Result, Ok, Err, Vec}
use Rattle.net_core.proofs.Library.{range_with_len}
use Rattle.plan_terms.specs.Terms.{Entry, Case}
use Rattle.plan_types.specs.declared.report.Outcome.{Outcome}
use Rattle.planner.proofs.Histories.{board_few}
use Rattle.cut_pool.{specs.declared.board.Board.Board, specs.Terms.opening_case}
use Rattle.session_script.{specs.declared.script.Command.Command, specs.Terms.IsScript}
use Rattle.turn_lock.{specs.declared.chronicle.Chronicle.Ghosts, specs.declared.desk.Pass.Pass, specs.Passes.{Seen, items_at, own_items, own_places, seen_by, seen_of}}
use Rattle.separation_workers.proofs.Places.{items_added}
use Rattle.session_run.{specs.inner.Running.{EndsRun, HaveRun, all_own, commands_of}, specs.declared.setting.Stop.Stop, specs.declared.setting.Stop.TheVariants.Full, proofs.Dealt.of_all_callers}

-- all entries are those of the pass that closes the desk
module _ {T O : Type 0} {g : Ghosts T Entry O} (pass : Pass T Entry O g) (entries : List Entry) (stands : entries ≡ seen_by pass) (places : own_places pass ≡ range_with_len 0 (length entries)) where
  own_all : own_items pass ≡ entries
  own_all =
      ap (items_at (seen_by pass)) places
      ∙ (ap (λ es. items_at es (range_with_len 0 (length entries))) (sym stands) ∙ items_added [] entries)

  pub seen_all : seen_of pass ≡ all_own entries
  seen_all =
      let with_own : List Entry → Seen Entry = λ es. record { history = es; own = own_items pass } in
      let with_all : List Entry → Seen Entry = λ es. record { history = entries; own = es } in
      let one : seen_of pass ≡ with_own entries = ap with_own (sym stands) in
      one ∙ ap with_all own_all

module _ (closed : Board) (seen : Seen Entry) (all : seen ≡ all_own closed.entries) (p : Case) (cs : List Command) (script : IsScript cs) {A : Type 0} (ended : Result (Vec Outcome A) Stop)
    (ends : EndsRun p (commands_of 1 9 cs) seen ended) where
  abbrev whole : Seen Entry
  whole = all_own closed.entries

  ends_whole : EndsRun p cs whole ended
  ends_whole = subst (λ l. EndsRun p l whole ended) (of_all_callers cs script.each) (subst (λ s. EndsRun p (commands_of 1 9 cs) s ended) all ends)

  pub closed_run : (outcomes : Vec Outcome A) → ended ≡ Ok outcomes → opening_case closed ≡ p → HaveRun (opening_case closed) whole cs outcomes.items
  closed_run outcomes is same = subst (λ q. HaveRun q whole cs outcomes.items) (sym same) (subst (EndsRun p cs whole) is ends_whole)

  -- there was room at all times
  pub never_full : (stop : Stop) → ended ≡ Err stop → stop ≡ Full → ⊥
  never_full stop is full =
      let told : EndsRun {A = A} p cs whole (Err Full) = subst (λ s. EndsRun {A = A} p cs whole (Err s)) full (subst (EndsRun p cs whole) is ends_whole) in
      let few = script.few in
      omega (arith, told.0, told.1, few, board_few closed)
