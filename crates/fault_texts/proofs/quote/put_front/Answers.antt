use Rattle.std.proofs.Common.{◌++◌, ◌∙◌, ap, codes, cond, length, take, [], ◌==◌}
use Rattle.text_kit.proofs.Lemmas.{on_ok}
use Rattle.fault_texts.{specs.Quotes.quoted, proofs.Telling.front_put}
use Rattle.fault_texts.proofs.quote.put_front.Goals as goal

pub returns : goal.returns
returns c = on_ok c.append-3.result (λ q. front_put c.args.text.now (quoted (take c.args.end c.args.word.now)) (cond (c.args.end == length c.args.word.now) [] (codes ".."))
    _ _ _ _ c.in_ok-append.ensures.ok c.in_ok-put_quoted.ensures (c.in_ok-append-2.ensures.ok ∙ ap (λ d. c.put_quoted.new.text ++ d) c.dots.ensures) q) c.append-3.ensures.ok
