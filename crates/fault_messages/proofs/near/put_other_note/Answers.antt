use Rattle.std.proofs.Common.{◌∙◌, arith, inr, subst}
use Rattle.text_kit.proofs.Lemmas.{on_ok}
use Rattle.fault_messages.specs.NearNames.{IsNearestNote}
use Rattle.fault_messages.proofs.near.put_other_note.Goals as goal

pub returns : goal.returns
returns c =
    let words = c.items.ensures ∙ c.in_ok-words.ensures in
    on_ok c.put_nearest_note.result
    (λ q. (q.0, inr (omega (arith, c.if-word-gt-NAME_BYTES.false), subst (λ ws. IsNearestNote c.args.word.now ws q.0) words q.1), q.2))
    c.put_nearest_note.ensures
