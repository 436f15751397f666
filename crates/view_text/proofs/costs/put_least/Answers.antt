use Rattle.std.proofs.Common.{◌++◌, ap, codes, ◌∙◌}
use Rattle.text_kit.{proofs.Lemmas.on_ok, specs.Terms.money_word}
use Rattle.view_cells.proofs.Lemmas.{appended}
use Rattle.view_text.specs.CostCells.{least_known}
use Rattle.view_text.proofs.costs.put_least.Goals as goal

pub returns : goal.returns
returns c = on_ok c.put_money_word.result (λ q.
    appended c.args.text.now (codes "no plan costs less than ") (money_word c.args.places (least_known c.args.whole.now c.args.proof))
    c.append.new.self c.put_money_word.new.text
    c.in_ok-append.ensures.ok (q ∙ ap (λ n. c.append.new.self ++ money_word c.args.places n) c.least_known.ensures)) c.put_money_word.ensures
