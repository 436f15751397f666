use Rattle.text_kit.proofs.Lemmas.{on_ok}
use Rattle.report_comments.proofs.Lines.{line_put}
use Rattle.plan_reports.specs.BlockLines.{block_items}
use Rattle.plan_reports.proofs.comments.put_block.Goals as goal

pub returns : goal.returns
returns c = on_ok _ (λ ended. line_put _ _ _ _ (block_items c.args.links.now c.args.demands.now c.args.block.now) c.in_ok-append.ensures.ok c.in_ok-put_words.ensures ended) c.append-2.ensures.ok
