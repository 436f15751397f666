use Rattle.std.proofs.Common.{◌≡◌, true, false}
use Rattle.report_words.proofs.Lemmas.{named_among}
use Rattle.report_parts.proofs.demands.put_name.Goals as goal

pub returns-then-branch-clause-known : goal.returns-then-branch-clause-known
returns-then-branch-clause-known c =
    named_among (λ d. d.name) c.args.name.now c.args.sofar.now c.args.places.now false c.requires (c.in_ok-add.ensures.fresh (let t : c.in_ok-add.field-0 ≡ true = c.if-branch.true in cc))

pub returns-clause-known : goal.returns-clause-known
returns-clause-known c =
    named_among (λ d. d.name) c.args.name.now c.args.sofar.now c.args.places.now true c.requires (c.in_ok-add.ensures.old (let t : c.in_ok-add.field-0 ≡ false = c.if-branch.false in cc))
