use Rattle.std.proofs.Common.{◌/◌, [], arith, get_or, inl, inr, length, sym, ◌∙◌}
use Rattle.net_core.proofs.Library.{false≢true}
use Rattle.master_law.proofs.Lines.{lines_none}
use Rattle.master_bound.{proofs.Amounts.{all_narrow, wide_place}, specs.Answers.lines_of, specs.Optima.IsMasterOptimum, proofs.Certifying.{best_of_lines, few_lines, narrow_nums, some_den}, proofs.Lowest.common_some, proofs.Networks.{network_few, network_modules}, proofs.Optima.{listed, wide_value}}
use Rattle.master_bound.proofs.bound.lines_of.Goals as goal

pub has_wide-requires : goal.has_wide-requires
has_wide-requires c =
    common_some c.args.optimum.now.den c.in_ok-amounts.amounts c.common_divisor-common.result (some_den c.args.optimum.now.den c.requires.solution.optimum.positive) (rw c.items-2.ensures at c.common_divisor-common.ensures)

pub returns-then-has_wide : goal.returns-then-has_wide
returns-then-has_wide c =
    let task = c.args.task.now in
    let links = task.net.now.links in
    let cuts = task.cuts.now in
    let best = c.args.optimum.now in
    let amounts = c.in_ok-amounts.amounts in
    let common = c.common_divisor-common.result in
    let are = rw (c.items-basis.ensures, c.items.ensures) at c.in_ok-amounts.ensures in
    let divisor = rw c.items-2.ensures at c.common_divisor-common.ensures in
    let some = some_den best.den c.requires.solution.optimum.positive in
    let any = wide_place amounts common ((rw c.items-3.ensures at c.has_wide.ensures.0) c.if-has_wide.true) in
    λ o. wide_value links task.pairs.now cuts best o amounts are common some divisor 0 [] (omega arith) (lines_none links o.basis (λ j. get_or amounts j 0 / common))
    (inl (any.0, omega (arith, any.1, are.count, o.names.count), any.2))

pub multipliers_of-requires-clause-common : goal.multipliers_of-requires-clause-common
multipliers_of-requires-clause-common c =
    common_some c.args.optimum.now.den c.in_ok-amounts.amounts c.common_divisor-common.result (some_den c.args.optimum.now.den c.requires.solution.optimum.positive) (rw c.items-2.ensures at c.common_divisor-common.ensures)

pub multipliers_of-requires-clause-listed : goal.multipliers_of-requires-clause-listed
multipliers_of-requires-clause-listed c =
    let task = c.args.task.now in
    let are = rw (c.items-basis.ensures, c.items.ensures) at c.in_ok-amounts.ensures in
    rw (c.items-basis.ensures, c.items-4.ensures, c.items-cuts.ensures)
    (listed task.net.now.links task.pairs.now task.cuts.now c.args.optimum.now c.requires.solution c.in_ok-amounts.amounts are)

pub asks_too_much-requires-clause-narrow : goal.asks_too_much-requires-clause-narrow
asks_too_much-requires-clause-narrow c =
    let task = c.args.task.now in
    let amounts = c.in_ok-amounts.amounts in
    let common = c.common_divisor-common.result in
    let are = rw (c.items-basis.ensures, c.items.ensures) at c.in_ok-amounts.ensures in
    let of = rw (c.items-basis.ensures, c.items-cuts.ensures, c.items-4.ensures) at c.in_ok-multipliers.ensures in
    let narrow = all_narrow amounts common (λ any. false≢true (sym c.if-has_wide.false ∙ (rw c.items-3.ensures at c.has_wide.ensures.1) any)) in
    rw c.items-5.ensures
    (narrow_nums task.net.now.links task.pairs.now task.cuts.now (network_modules task.net.now) c.requires.units c.args.optimum.now c.requires.solution c.args.share.now c.requires.share c.args.raw.now.num c.args.raw.now.den c.requires.raw
    amounts are common (rw c.items-2.ensures at c.common_divisor-common.ensures) c.in_ok-multipliers.multipliers of c.requires.different narrow)

pub returns-then-asks_too_much : goal.returns-then-asks_too_much
returns-then-asks_too_much c =
    let task = c.args.task.now in
    let links = task.net.now.links in
    let cuts = task.cuts.now in
    let best = c.args.optimum.now in
    let amounts = c.in_ok-amounts.amounts in
    let common = c.common_divisor-common.result in
    let are = rw (c.items-basis.ensures, c.items.ensures) at c.in_ok-amounts.ensures in
    let divisor = rw c.items-2.ensures at c.common_divisor-common.ensures in
    let some = some_den best.den c.requires.solution.optimum.positive in
    let of = rw (c.items-basis.ensures, c.items-cuts.ensures, c.items-4.ensures) at c.in_ok-multipliers.ensures in
    let lines = λ (o : IsMasterOptimum links task.pairs.now cuts best). few_lines links task.pairs.now cuts (network_modules task.net.now) c.requires.units best o c.args.share.now c.requires.share c.args.raw.now.num c.args.raw.now.den c.requires.raw amounts are common divisor
    c.in_ok-multipliers.multipliers of c.requires.different in
    λ o. wide_value links task.pairs.now cuts best o amounts are common some divisor (length links) (lines_of cuts c.in_ok-multipliers.multipliers) (omega arith) (lines o)
    (inr ((rw (c.items-cuts.ensures, c.items-5.ensures) at c.asks_too_much.ensures.yes) c.if-asks_too_much.true))

pub nonzero_div-result : goal.nonzero_div-result
nonzero_div-result c =
    common_some c.args.optimum.now.den c.in_ok-amounts.amounts c.common_divisor-common.result (some_den c.args.optimum.now.den c.requires.solution.optimum.positive) (rw c.items-2.ensures at c.common_divisor-common.ensures)

pub returns : goal.returns
returns c =
    let task = c.args.task.now in
    let links = task.net.now.links in
    let cuts = task.cuts.now in
    let best = c.args.optimum.now in
    let amounts = c.in_ok-amounts.amounts in
    let common = c.common_divisor-common.result in
    let are = rw (c.items-basis.ensures, c.items.ensures) at c.in_ok-amounts.ensures in
    let divisor = rw c.items-2.ensures at c.common_divisor-common.ensures in
    let of = rw (c.items-basis.ensures, c.items-cuts.ensures, c.items-4.ensures) at c.in_ok-multipliers.ensures in
    let narrow = all_narrow amounts common (λ any. false≢true (sym c.if-has_wide.false ∙ (rw c.items-3.ensures at c.has_wide.ensures.1) any)) in
    best_of_lines links task.pairs.now cuts (network_modules task.net.now) c.requires.units best c.requires.solution c.args.share.now c.requires.share c.args.raw.now.num c.args.raw.now.den c.requires.raw amounts are common divisor
    c.in_ok-multipliers.multipliers of c.requires.different c.requires.packing narrow ((rw (c.items-cuts.ensures, c.items-5.ensures) at c.asks_too_much.ensures.no) c.if-asks_too_much.false) (network_few task.net.now) c.requires.some
