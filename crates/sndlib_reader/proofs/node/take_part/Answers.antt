use Rattle.net_core.proofs.Library.{err_from_is_err_and}
use Rattle.snd_tokens.specs.Terms.{left}
use Rattle.sndlib_reader.proofs.Nodes.{coordinates_fail, coordinates_turn, name_fails, name_turn, no_coordinates, nodes_end, nodes_ended, skip_shorter}
use Rattle.sndlib_reader.proofs.node.take_part.Goals as goal

pub returns-in_err-name-in-Word-clause-turn : goal.returns-in_err-name-in-Word-clause-turn
returns-in_err-name-in-Word-clause-turn c =
    let p = err_from_is_err_and c.from_residual.result c.from_residual.ensures.1 in
    rw (p.1, p.2, c.in-Word.ensures.0)
    (name_fails c.args.nodes.now c.args.after_name.now c.in-Word.at c.in-Word.word.now (left c.next.new.self) _ (rw (c.node_fault.ensures.value, c.requires.named) at c.in_err-name-in-Word.ensures.reads))

pub returns-then-not-after_name-clause-turn : goal.returns-then-not-after_name-clause-turn
returns-then-not-after_name-clause-turn c = rw (c.bad.ensures, c.in-Open.ensures, c.if-not-after_name.true) (no_coordinates c.args.nodes.now c.in-Open.at (left c.next.new.self))

pub returns-in_err-skip-in-Open-clause-turn : goal.returns-in_err-skip-in-Open-clause-turn
returns-in_err-skip-in-Open-clause-turn c =
    let p = err_from_is_err_and c.from_residual-in_err-skip-in-Open.result c.from_residual-in_err-skip-in-Open.ensures.1 in
    rw (p.1, p.2, c.in-Open.ensures, c.if-not-after_name.false)
    (coordinates_fail c.args.nodes.now c.in-Open.at (left c.next.new.self) _ (c.requires.some c.if-not-after_name.false) c.in_err-skip-in-Open.ensures)

pub returns-in_ok-push-in-Word-clause-turn : goal.returns-in_ok-push-in-Word-clause-turn
returns-in_ok-push-in-Word-clause-turn c =
    rw (c.in-Word.ensures.0, c.in_ok-push-in-Word.ensures.ok)
    (name_turn c.args.nodes.now c.args.after_name.now c.in-Word.at c.in-Word.word.now _ (left c.next.new.self) (rw (c.node_fault.ensures.value, c.requires.named) at c.in_ok-name-in-Word.ensures.reads))

pub returns-in_ok-skip-in-Open-clause-turn : goal.returns-in_ok-skip-in-Open-clause-turn
returns-in_ok-skip-in-Open-clause-turn c =
    rw (c.in-Open.ensures, c.if-not-after_name.false)
    (coordinates_turn c.args.nodes.now c.in-Open.at (left c.next.new.self) (left c.skip.new.text) (c.requires.some c.if-not-after_name.false) c.in_ok-skip-in-Open.ensures)

pub returns-in_ok-skip-in-Open-clause-shorter : goal.returns-in_ok-skip-in-Open-clause-shorter
returns-in_ok-skip-in-Open-clause-shorter c more = rw c.in-Open.ensures (skip_shorter c.in-Open.at (left c.next.new.self) (left c.skip.new.text) c.in_ok-skip-in-Open.ensures)

pub returns-in-Close-clause-turn : goal.returns-in-Close-clause-turn
returns-in-Close-clause-turn c = rw c.in-Close.ensures (nodes_end c.args.nodes.now c.args.after_name.now c.in-Close.field-0 (left c.next.new.self))

pub returns-in-End-clause-turn : goal.returns-in-End-clause-turn
returns-in-End-clause-turn c = rw (c.bad-in-End.ensures, c.in-End.ensures.0) (nodes_ended c.args.nodes.now c.args.after_name.now c.in-End.at)
