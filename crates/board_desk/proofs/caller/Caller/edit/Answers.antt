use Rattle.std.proofs.Common.{◌≡◌, ◌∙◌, Some, refl, subst, sym}
use Rattle.turn_lock.specs.Passes.{turn_origin}
use Rattle.board_desk.{specs.inner.Endings.{IsGrown, edit_enters}, proofs.Passes.{no_pass, some_pass}, proofs.Turns.{edit_grows, edit_keeps, left_grown, left_same}}
use Rattle.board_desk.proofs.caller.Caller.edit.Goals as goal

pub unreachable-requires : goal.unreachable-requires
unreachable-requires g c = no_pass c.args.self.now.desk.now c.args.self.now.pass c.requires.own (sym c.take.ensures.value ∙ c.in_default.is)

pub enter-board-requires : goal.enter-board-requires
enter-board-requires g c = some_pass c.args.self.now.desk.now c.args.self.now.pass c.requires.own c.in-Some.pass (sym c.take.ensures.value ∙ c.in-Some.is)

pub end_turn-requires-clause-origin : goal.end_turn-requires-clause-origin
end_turn-requires-clause-origin g c =
    let a = c.edit-answer in
    subst (λ o. turn_origin c.enter-board.result.1 ≡ Some o) (sym (edit_keeps c.enter-board.result.0 a.new.self c.args.self.now.number c.args.edit a.result a.ensures.answer)) c.enter-board.ensures.turn

pub end_turn-requires-clause-grown : goal.end_turn-requires-clause-grown
end_turn-requires-clause-grown g c =
    let a = c.edit-answer in
    rw c.edit_enters.ensures
    (subst (λ h. IsGrown (edit_enters a.result) h a.new.self.entries) c.enter-board.ensures.stands
    (edit_grows c.enter-board.result.0 a.new.self c.args.self.now.number c.args.edit a.result a.ensures.answer))

pub returns-clause-same : goal.returns-clause-same
returns-clause-same g c =
    let e = c.enter-board.ensures in
    let l = c.end_turn.ensures in
    left_same c.args.self.now _ c.in-Some.pass c.end_turn.result c.enter-board.result.1 (sym c.take.ensures.value ∙ c.in-Some.is) refl refl refl c.requires.own e.own l.own e.units l.units

pub returns-clause-turn : goal.returns-clause-turn
returns-clause-turn g c =
    let e = c.enter-board.ensures in
    let l = c.end_turn.ensures in (
      c.enter-board.result.0,
      c.edit-answer.new.self,
      c.edit-answer.ensures.answer,
      left_grown c.args.self.now _ c.in-Some.pass c.end_turn.result c.enter-board.result.1 (sym c.take.ensures.value ∙ c.in-Some.is) refl
          c.enter-board.result.0 c.edit-answer.new.self e.origin e.stands e.begins e.places l.seen l.places,
    )
