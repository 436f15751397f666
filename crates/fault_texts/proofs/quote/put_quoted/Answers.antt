use Rattle.std.proofs.Common.{◌≡◌, ◌++◌, OnOk, length, subst}
use Rattle.fault_texts.specs.Quotes.{quoted_below}
use Rattle.fault_texts.proofs.quote.put_quoted.Goals as goal

pub returns : goal.returns
returns c =
    let word = c.args.word.now in
    subst (λ u. OnOk c.put_bytes.result (c.put_bytes.new.text ≡ c.args.text.now ++ quoted_below (length word) u word)) c.is_utf8-utf8.ensures c.put_bytes.ensures
