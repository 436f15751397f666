use Rattle.std.proofs.Common.{◌∙◌, refl, sym}
use Rattle.board_desk.{proofs.Passes.{no_pass, some_pass}, proofs.Turns.{left_as_found, left_same}}
use Rattle.board_desk.proofs.caller.Caller.snapshot.Goals as goal

pub unreachable-requires : goal.unreachable-requires
unreachable-requires g c = no_pass c.args.self.now.desk.now c.args.self.now.pass c.requires (sym c.take.ensures.value ∙ c.in_default.is)

pub enter-board-requires : goal.enter-board-requires
enter-board-requires g c = some_pass c.args.self.now.desk.now c.args.self.now.pass c.requires c.in-Some.pass (sym c.take.ensures.value ∙ c.in-Some.is)

pub returns-clause-same : goal.returns-clause-same
returns-clause-same g c =
    let e = c.enter-board.ensures in
    let l = c.leave.ensures in
    left_same c.args.self.now _ c.in-Some.pass c.leave.result c.enter-board.result.1 (sym c.take.ensures.value ∙ c.in-Some.is) refl refl refl c.requires e.own l.own e.units l.units

pub returns-clause-turn : goal.returns-clause-turn
returns-clause-turn g c =
    let e = c.enter-board.ensures in
    let l = c.leave.ensures in (
      c.enter-board.result.0,
      c.snapshot-snapshot.ensures,
      left_as_found c.args.self.now _ c.in-Some.pass c.leave.result c.enter-board.result.1 (sym c.take.ensures.value ∙ c.in-Some.is) refl
          c.enter-board.result.0 c.enter-board.result.0 e.origin e.stands e.begins e.places refl l.seen l.places,
    )
