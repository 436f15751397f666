use Rattle.text_kit.proofs.Lemmas.{on_ok}
use Rattle.fault_messages.proofs.Questions.{question_put}
use Rattle.fault_messages.proofs.near.put_question.Goals as goal

pub returns : goal.returns
returns c =
    let h = c.in_ok-put_quote.ensures in
    on_ok c.append-2.result (λ q. (h.0, h.1, question_put c.args.text.now h.0 _ _ _ c.in_ok-append.ensures.ok h.2 q)) c.append-2.ensures.ok
