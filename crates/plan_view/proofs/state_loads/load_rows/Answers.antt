use Rattle.std.proofs.Common.{◌≡◌, List, ℕ, get_or, length, ap, ◌∙◌, arith}
use Rattle.net_core.proofs.Library.{IfOk-weaker, few_links}
use Rattle.module_choice.proofs.Pairs.{capacities_long}
use Rattle.plan_terms.specs.Terms.{Routing, capacities, case_of}
use Rattle.plan_view.{specs.Loads.routing_in, specs.Rows.AreLoadRows, proofs.Plans.{low_of, routing_is}, proofs.RowLists.loads_are}
use Rattle.plan_view.proofs.state_loads.load_rows.Goals as goal

pub rows_of-requires-clause-few : goal.rows_of-requires-clause-few
rows_of-requires-clause-few c =
    omega (arith, few_links c.args.instance.now.net.now.nodes c.args.instance.now.net.now.links c.args.instance.now.net.now.checked, ap (λ (xs : List ℕ). length xs) (c.items-nums.ensures ∙ c.in_ok-caps.ensures.1), capacities_long c.args.instance.now.net.now.links c.args.plan.now.counts c.requires.sound.form.counts)

pub rows_of-requires-clause-low : goal.rows_of-requires-clause-low
rows_of-requires-clause-low c =
    let r = c.index-routings-state.result in
    low_of (case_of c.args.instance.now) c.args.plan.now c.requires.sound c.items-nums.result.now c.args.state r (c.items-nums.ensures ∙ c.in_ok-caps.ensures.1) c.requires.state
    (c.index-routings-state.is ∙ ap (λ (xs : List Routing). get_or xs c.args.state r) c.items-routings.ensures)

pub returns : goal.returns
returns c =
    let p = case_of c.args.instance.now in
    let plan = c.args.plan.now in
    let links = c.args.instance.now.net.now.links in
    let s = c.args.state in
    let r = c.index-routings-state.result in
    let nums = c.items-nums.result.now in
    let same : nums ≡ capacities links plan.counts = c.items-nums.ensures ∙ c.in_ok-caps.ensures.1 in
    let is : r ≡ routing_in plan.routings s = routing_is p plan c.requires.sound s r c.requires.state (c.index-routings-state.is ∙ ap (λ (xs : List Routing). get_or xs s r) c.items-routings.ensures) in
    let long : length nums ≡ length links = omega (arith, ap (λ (xs : List ℕ). length xs) same, capacities_long links plan.counts c.requires.sound.form.counts) in
    IfOk-weaker c.rows_of.result (AreLoadRows nums r (length nums)) (AreLoadRows (capacities links plan.counts) (routing_in plan.routings s) (length links))
    (λ rows are. loads_are (capacities links plan.counts) nums (routing_in plan.routings s) r (length links) rows same is long are)
    c.rows_of.ensures
