use Rattle.std.proofs.Common.{◌++◌, ◌∙◌, ap, subst, sym}
use Rattle.fault_messages.specs.Notes.{AreFailuresNotes}
use Rattle.fault_messages.proofs.notes.failures_notes.Goals as goal

pub returns : goal.returns
returns c =
    let put = c.in_ok-put_failures_notes.ensures in
    subst (AreFailuresNotes c.args.links.now c.args.bytes.now c.args.at c.args.kind) (sym (put.2 ∙ ap (λ t. t ++ put.0) c.new-text.ensures)) put.1
