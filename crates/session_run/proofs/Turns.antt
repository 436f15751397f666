-- callers at their desk, and what a caller's turn leaves of its own entries
use Rattle.std.proofs.Common.{◌≡◌, ◌∙◌, ◌-◌, ◌≤◌, ◌++◌, [], ◌∷◌, List, length, sym, ap, subst, arith, Result, append-nil, length-append}
use Rattle.net_core.proofs.Library.{range_with_len}
use Rattle.plan_terms.specs.Terms.{Edit, Entry, Edited}
use Rattle.cut_pool.{specs.declared.answers.EditAnswer.EditAnswer, specs.declared.answers.EditAnswer.TheVariants.{At, Full, NoMemory}, specs.declared.board.Board.Board}
use Rattle.turn_lock.specs.Passes.{items_at, opening_of}
use Rattle.board_desk.{specs.declared.caller.Caller.Caller, specs.Turns.{EditsInTurn, HasTurn, IsSameCaller, caller_places, caller_seen}, proofs.Passes.{BoardDesk, own_at, placed_in}}
use Rattle.separation_workers.proofs.Places.{items_after}
use Rattle.session_run.{specs.declared.setting.Setting.Setting, specs.declared.setting.Stop.Stop, specs.inner.Running.IsOfSetting, specs.inner.Turns.{EndsEdit, IsDoneBy}}

-- ---- callers

pub same_both : (a b c : Caller) → IsSameCaller a b → IsSameCaller b c → IsSameCaller a c
same_both a b c x y = record { own = y.own; desk = y.desk ∙ x.desk; number = y.number ∙ x.number; units = y.units ∙ x.units }

-- a caller stays one of the setting
pub still_of : (s : Setting) (a b : Caller) → IsOfSetting s a → IsSameCaller a b → IsOfSetting s b
still_of s a b of same = record {
  own = same.own;
  net = subst (λ (d : BoardDesk). (opening_of d).net.now ≡ s.net.now) (sym same.desk) of.net;
  states = subst (λ (d : BoardDesk). (opening_of d).states.now ≡ s.states.now) (sym same.desk) of.states;
}

-- ---- turns

-- the caller's own entries are those that it had, and those by which the board has grown
pub own_after : (old new : Caller) (found left : Board) (more : List Entry) → HasTurn old found left new → left.entries ≡ found.entries ++ more
    → (caller_seen new).own ≡ (caller_seen old).own ++ more
own_after old new found left more turn grown =
    let seen = (caller_seen old).history in
    let rest = turn.begins.0 in
    let left_is : (seen ++ rest) ++ more ≡ left.entries = ap (λ es. es ++ more) turn.begins.1 ∙ sym grown in
    let count : length left.entries - length found.entries ≡ length more = omega (arith, ap length grown, length-append found.entries more) in
    let places : caller_places new ≡ caller_places old ++ range_with_len (length (seen ++ rest)) (length more) =
    turn.places
    ∙ (ap (λ n. caller_places old ++ range_with_len (length found.entries) n) count
    ∙ ap (λ es. caller_places old ++ range_with_len (length es) (length more)) (sym turn.begins.1)) in
    let history : (caller_seen new).history ≡ (seen ++ rest) ++ more = turn.seen ∙ sym left_is in
    own_at new.pass
    ∙ (ap (λ es. items_at es (caller_places new)) history
    ∙ (ap (λ ps. items_at ((seen ++ rest) ++ more) ps) places
    ∙ (items_after seen rest more (caller_places old) (placed_in old.pass) ∙ ap (λ es. es ++ more) (sym (own_at old.pass)))))

-- a board that hasn't grown leaves it those that it had
pub own_same : (old new : Caller) (found left : Board) → HasTurn old found left new → left.entries ≡ found.entries → (caller_seen new).own ≡ (caller_seen old).own
own_same old new found left turn same =
    own_after old new found left [] turn (same ∙ sym (append-nil found.entries)) ∙ append-nil (caller_seen old).own

-- the result of an edit's turn
pub edit_ends : (edit : Edit) (old new : Caller) (answer : EditAnswer) (done : Result (Unit {0}) Stop) → EditsInTurn old edit answer new → IsDoneBy answer done
    → EndsEdit old.number edit (caller_seen old) (caller_seen new) done
edit_ends edit old new (At position reply) done t is =
    let entry = Edited old.number edit reply in
    let grown = t.2.1.entries in
    let turn = t.3 in
    subst (EndsEdit old.number edit (caller_seen old) (caller_seen new)) (sym is) (
      turn.begins.0,
      reply,
      turn.seen ∙ (grown ∙ ap (λ es. es ++ entry ∷ []) (sym turn.begins.1)),
      own_after old new t.0 t.1 (entry ∷ []) turn grown,
    )
edit_ends edit old new (Full back) done t is =
    let same = t.2.2.entries in
    let turn = t.3 in
    let long : 65536 ≤ length (caller_seen new).history = omega (arith, t.2.0, ap length turn.seen, ap length same) in
    subst (EndsEdit old.number edit (caller_seen old) (caller_seen new)) (sym is) (own_same old new t.0 t.1 turn same, long)
edit_ends edit old new (NoMemory back) done t is =
    subst (EndsEdit old.number edit (caller_seen old) (caller_seen new)) (sym is) (own_same old new t.0 t.1 t.3 t.2.2.entries, tt)
