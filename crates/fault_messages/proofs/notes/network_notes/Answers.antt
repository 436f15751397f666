use Rattle.std.proofs.Common.{◌++◌, ◌∙◌, ap, subst, sym}
use Rattle.fault_messages.specs.Notes.{AreNetworkNotes}
use Rattle.fault_messages.proofs.notes.network_notes.Goals as goal

pub returns : goal.returns
returns c =
    let put = c.in_ok-put_network_notes.ensures in
    subst (AreNetworkNotes c.args.bytes.now c.args.at c.args.kind) (sym (put.2 ∙ ap (λ t. t ++ put.0) c.new-text.ensures)) put.1
