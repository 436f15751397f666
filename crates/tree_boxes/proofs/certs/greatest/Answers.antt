use Rattle.std.proofs.Common.{arith}
use Rattle.tree_boxes.{specs.Searches.aimed, proofs.FreeValues.free_once, proofs.OwnValues.own_has, proofs.Results.ok_both}
use Rattle.tree_boxes.proofs.certs.greatest.Goals as goal

pub returns-clause-valued : goal.returns-clause-valued
returns-clause-valued c =
    let a = c.args.aim.now in
    ok_both c.greater-2.result _ _ _
    (λ v has more. record {
      has = has;
      least = λ value is.
          let own = c.in_ok-best.ensures.most value (own_has (aimed a) c.args.known.now c.requires.known a.plan.now a.own.now c.args.boxed.now value c.requires.aim.own is) in
          omega (arith, own, more);
    })
    c.greater-2.ensures.has c.greater-2.ensures.more

pub returns-clause-free : goal.returns-clause-free
returns-clause-free c =
    ok_both c.greater-2.result _ _ _
    (λ v has more. λ value is.
    let same = free_once (aimed c.args.aim.now).links c.args.boxed.now value c.empty_valued-empty.result.value is c.empty_valued-empty.ensures.is in
    omega (arith, same, c.in_ok-best.ensures.more, more))
    c.greater-2.ensures.has c.greater-2.ensures.more
