use Rattle.std.proofs.Common.{◌<◌, ◌^◌, All, IfOk, ap, arith, get_or, subst, sym}
use Rattle.module_choice.{specs.Coverings.CoverNeeds, proofs.SameModules.{all_loads_covered, needs_small}}
use Rattle.module_choice.proofs.alike.cover_links.Goals as goal

pub cover_each-requires-clause-small : goal.cover_each-requires-clause-small
cover_each-requires-clause-small c = subst (λ ns. All (λ n. n < 2 ^ 44) ns) (sym c.items.ensures) (needs_small c.args.links.now c.args.peaks.now c.in_ok-needs.needs c.in_ok-needs.ensures.count c.in_ok-needs.ensures.each c.requires.size c.requires.small)

pub cover_each-requires-clause-served : goal.cover_each-requires-clause-served
cover_each-requires-clause-served c e l at none = omega (arith, ap (λ ns. get_or ns e 0) c.items.ensures, c.in_ok-needs.ensures.each e l at, c.requires.served e l at none)

pub returns : goal.returns
returns c = all_loads_covered c.args.links.now c.in_ok-needs.needs c.args.peaks.now c.cover_each.result c.in_ok-needs.ensures.each
    (subst (λ ns. IfOk c.cover_each.result (CoverNeeds c.args.links.now ns)) c.items.ensures c.cover_each.ensures)
