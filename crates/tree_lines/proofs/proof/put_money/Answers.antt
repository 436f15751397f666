use Rattle.std.proofs.Common.{arith}
use Rattle.text_kit.proofs.Lemmas.{on_ok}
use Rattle.tree_lines.proofs.Money.{spaced_money}
use Rattle.tree_lines.proofs.proof.put_money.Goals as goal

pub returns : goal.returns
returns c = on_ok _ (λ q. spaced_money _ _ _ c.args.places c.args.n (omega (arith, c.ranges.n.fits)) c.in_ok-append.ensures.ok q) c.put_money_word.ensures
