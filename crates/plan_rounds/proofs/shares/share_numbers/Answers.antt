use Rattle.std.proofs.Common.{arith, ◌++◌, ◌∷◌, [], ◌≡◌, ◌+◌, ◌*◌, ◌∙◌, get_or, take, subst, sym, take_all}
use Rattle.plan_terms.specs.Terms.{Link}
use Rattle.master_law.{specs.Terms.share_capacities, proofs.Capacities.share_count}
use Rattle.plan_rounds.proofs.Sharing.{number_more}
use Rattle.plan_rounds.proofs.shares.share_numbers.Goals as goal

pub loop-e-preserved : goal.loop-e-preserved
loop-e-preserved c =
    let links = c.args.links.now in
    let pairs = c.args.pairs.now in
    let share = c.args.share.now in
    let e = c.loop-e.e in
    let l = c.index-links-e.result in
    let whole = share_capacities links pairs share in
    let more = number_more links pairs share e l (record { capacity = 0; cost = 0 }) 0 c.requires.pairs c.requires.count c.loop-e-test.true in
    let here = subst (λ (k : Link). take (e + 1) whole ≡ take e whole ++ (k.fixed * share.scale + (get_or pairs e (record { capacity = 0; cost = 0 })).capacity * get_or share.units e 0) ∷ []) (sym c.index-links-e.is) more in
    rw (c.in_ok-push.ensures.ok, c.share_number.ensures, c.items.ensures, c.loop-e.invariant) (sym here)

pub returns : goal.returns
returns c = c.loop-e.invariant ∙ take_all c.loop-e.e _ (omega (arith, c.loop-e-test.false, share_count c.args.links.now c.args.pairs.now c.args.share.now c.requires.pairs c.requires.count))
