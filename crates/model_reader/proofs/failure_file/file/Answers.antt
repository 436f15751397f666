use Rattle.text_kit.specs.Terms.{body}
use Rattle.model_reader.proofs.FailureLaws.{failures_read, read_in_form}
use Rattle.model_reader.proofs.failure_file.file.Goals as goal

pub states_of-requires : goal.states_of-requires
states_of-requires c = read_in_form c.args.net.now.nodes c.args.net.now.links c.args.net.now.checked (body c.args.bytes.now) c.in_ok-list.list _ (rw (c.in_ok-text.ensures.text, c.items.ensures, c.links.ensures) at c.in_ok-list.ensures)

pub returns : goal.returns
returns c =
    rw c.in_ok-states_of.ensures
    (failures_read c.args.net.now.nodes c.args.net.now.links c.args.net.now.checked c.args.bytes.now c.in_ok-list.list _ c.in_ok-text.ensures.line
    (rw (c.in_ok-text.ensures.text, c.items.ensures, c.links.ensures) at c.in_ok-list.ensures))
