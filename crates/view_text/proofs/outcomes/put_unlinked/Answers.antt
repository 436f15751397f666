use Rattle.std.proofs.Common.{◌++◌, ap, codes, ◌∙◌}
use Rattle.text_kit.proofs.Lemmas.{on_ok}
use Rattle.view_cells.proofs.Lemmas.{appended_three}
use Rattle.view_text.proofs.outcomes.put_unlinked.Goals as goal

pub returns : goal.returns
returns c = on_ok c.append-3.result (λ q.
    appended_three c.args.text.now (codes "  no plan: without any failure the ends of demand ") c.args.demand.now (codes " are apart\n")
    c.append.new.self c.append-2.new.self c.append-3.new.self
    c.in_ok-append.ensures.ok (c.in_ok-append-2.ensures.ok ∙ ap (λ b. c.append.new.self ++ b) c.bytes.ensures.value) q) c.append-3.ensures.ok
