use Rattle.std.proofs.Common.{◌≡◌, ◌*◌, ◌<◌, ◌-◌, ◌≤◌, IfOk, Some, arith, get_or, length, slice_get, subst}
use Rattle.net_core.proofs.Library.{slice_get-get_or}
use Rattle.module_choice.{specs.declared.tables.Entry.Entry, specs.inner.Tables.AreTaken, proofs.Choices.answers_also, proofs.LeastCosts.nothing, proofs.Steps.{many_steps, table_cheapest}}
use Rattle.module_choice.proofs.covers.cover_by.Goals as goal

pub cover_by_kind-requires-clause-many : goal.cover_by_kind-requires-clause-many
cover_by_kind-requires-clause-many c = many_steps c.args.modules.now c.args.table.now c.args.need c.requires.table c.if-need-table.true

pub returns : goal.returns
returns c =
    let table = c.args.table.now in
    let steps = c.few_steps-steps.result in
    let few : c.args.need ≤ 100000 * table.step = omega (arith, c.if-need-table.false) in
    let inside : steps < length table.entries = omega (arith, c.few_steps-steps.ensures.least (length table.entries - 1) (c.requires.answers few), c.requires.table.least.some) in
    let at : slice_get table.entries steps ≡ Some (get_or table.entries steps nothing) = slice_get-get_or table.entries steps nothing inside in
    answers_also c.counts_for.result
    (λ cs taken. table_cheapest c.args.modules.now table c.args.need steps (get_or table.entries steps nothing) cs c.requires.each c.requires.limit c.requires.table few c.few_steps-steps.ensures.few (c.few_steps-steps.ensures.reached few) c.few_steps-steps.ensures.least at
    (subst (λ ms. AreTaken ms steps (get_or table.entries steps nothing).cost cs) c.items.ensures (taken (get_or table.entries steps nothing) at)))
    (subst (λ es. IfOk c.counts_for.result (λ cs. (x : Entry) → slice_get es steps ≡ Some x → AreTaken c.items.result.now steps x.cost cs)) c.items-2.ensures c.counts_for.ensures)
