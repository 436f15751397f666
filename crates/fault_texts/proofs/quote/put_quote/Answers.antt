use Rattle.std.proofs.Common.{refl}
use Rattle.text_kit.proofs.Lemmas.{on_ok}
use Rattle.fault_texts.specs.Quotes.{quote_text}
use Rattle.fault_texts.proofs.quote.put_quote.Goals as goal

pub returns : goal.returns
returns c =
    let end = c.quote_end-end in
    on_ok c.put_front.result (λ q. (quote_text c.args.word.now end.result, (end.result, end.ensures, refl), q)) c.put_front.ensures
