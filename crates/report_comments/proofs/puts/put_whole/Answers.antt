use Rattle.std.proofs.Common.{arith}
use Rattle.text_kit.proofs.Lemmas.{on_ok}
use Rattle.report_comments.proofs.OneLine.{spaced_whole}
use Rattle.report_comments.proofs.puts.put_whole.Goals as goal

pub returns : goal.returns
returns c = on_ok _ (λ q. spaced_whole c.args.text.now c.append.new.self c.put_decimal.new.text c.args.n (omega (arith, c.ranges.n.fits)) c.in_ok-append.ensures.ok q) c.put_decimal.ensures
