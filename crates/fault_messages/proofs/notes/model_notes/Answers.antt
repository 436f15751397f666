use Rattle.std.proofs.Common.{◌++◌, ◌∙◌, ap, subst, sym}
use Rattle.fault_messages.specs.Notes.{AreModelNotes}
use Rattle.fault_messages.proofs.notes.model_notes.Goals as goal

pub returns : goal.returns
returns c =
    let put = c.in_ok-put_model_notes.ensures in
    subst (AreModelNotes c.args.bytes.now c.args.at c.args.kind) (sym (put.2 ∙ ap (λ t. t ++ put.0) c.new-text.ensures)) put.1
