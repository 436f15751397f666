use Rattle.std.proofs.Common.{◌++◌, codes, cond, nat_eq}
use Rattle.text_kit.proofs.Lemmas.{on_ok}
use Rattle.view_cells.{specs.Terms.tenths_per_cent, proofs.Lemmas.appended}
use Rattle.view_text.proofs.costs.put_gap.Goals as goal

pub returns : goal.returns
returns c = on_ok c.put_some_gap.result (λ q.
    appended c.args.text.now (codes "by one certificate of cuts; ") (cond (nat_eq c.args.gap 0) (codes "no gap") (codes "gap " ++ tenths_per_cent c.args.gap))
    c.append.new.self c.put_some_gap.new.text c.in_ok-append.ensures.ok q) c.put_some_gap.ensures
