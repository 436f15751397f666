use Rattle.text_kit.proofs.Lemmas.{on_ok}
use Rattle.plan_progress.proofs.lines.put_split.Goals as goal

pub returns : goal.returns
returns c = on_ok c.put_split_gap.result (λ q. (c.gap_of-gap.result, c.gap_of-gap.ensures, q)) c.put_split_gap.ensures
