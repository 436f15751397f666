use Rattle.std.proofs.Common.{MatchOption, [], inl, inr, refl, subst, sym, append-nil}
use Rattle.text_kit.proofs.Lemmas.{on_ok}
use Rattle.fault_texts.specs.Quotes.{IsQuote}
use Rattle.fault_messages.specs.NearNames.{HasNoneNear, IsNearestName}
use Rattle.fault_messages.proofs.near.put_nearest_note.Goals as goal

pub returns-in-Some : goal.returns-in-Some
returns-in-Some c =
    let near = subst (λ o. MatchOption o (HasNoneNear c.args.name.now c.args.names.now) (λ i. IsNearestName c.args.name.now c.args.names.now i)) c.in-Some.is c.in_ok-found.ensures in
    on_ok c.put_question.result (λ q. (_, inr (c.in-Some.i, q.0, near, subst (λ n. IsQuote n q.0) c.name_at-near.ensures q.1, refl), q.2)) c.put_question.ensures

pub returns-in-None : goal.returns-in-None
returns-in-None c =
    let none = subst (λ o. MatchOption o (HasNoneNear c.args.name.now c.args.names.now) (λ i. IsNearestName c.args.name.now c.args.names.now i)) c.in-None.is c.in_ok-found.ensures in
    ([], inl (none, refl), sym (append-nil c.args.text.now))
