use Rattle.std.proofs.Common.{◌≡◌, ◌*◌, ◌<◌, List, ℕ, get_or, length, ap, subst, ◌∙◌, arith, refl}
use Rattle.net_core.proofs.Networks.{few_links}
use Rattle.module_choice.proofs.Pairs.{capacities_long}
use Rattle.plan_terms.specs.Terms.{Link, Listed, Routing, case_of, raw_value}
use Rattle.plan_types.specs.Terms.{lines_of_certificate}
use Rattle.plan_view.{specs.Parts.paid_by, specs.Rounding.IsNearest, specs.Rows.failed_links, specs.declared.rows.StateRow.StateRow, proofs.Plans.{brought_of, low_of, row_of, small_fixed}}
use Rattle.plan_view.proofs.states.state_row.Goals as goal

pub fullest_of-fullest-requires-clause-few : goal.fullest_of-fullest-requires-clause-few
fullest_of-fullest-requires-clause-few c =
    omega (arith, few_links c.args.instance.now.net.now.nodes c.args.instance.now.net.now.links c.args.instance.now.net.now.checked, ap (λ (xs : List ℕ). length xs) c.requires.capacities, capacities_long c.args.instance.now.net.now.links c.args.plan.now.counts c.requires.sound.form.counts)

pub fullest_of-fullest-requires-clause-low : goal.fullest_of-fullest-requires-clause-low
fullest_of-fullest-requires-clause-low c =
    let r = c.index-routings-state.result in
    low_of (case_of c.args.instance.now) c.args.plan.now c.requires.sound c.args.caps.now c.args.state r c.requires.capacities c.requires.state
    (c.index-routings-state.is ∙ ap (λ (xs : List Routing). get_or xs c.args.state r) c.items-routings.ensures)

pub rerouted_amount-requires-clause-now : goal.rerouted_amount-requires-clause-now
rerouted_amount-requires-clause-now c =
    let r = c.index-routings-state.result in
    let is : r ≡ get_or c.args.plan.now.routings c.args.state r = c.index-routings-state.is ∙ ap (λ (xs : List Routing). get_or xs c.args.state r) c.items-routings.ensures in
    brought_of (case_of c.args.instance.now) c.args.plan.now c.requires.sound (length c.args.instance.now.net.now.nodes) c.args.instance.now.belong c.args.state c.args.state r r c.requires.state c.requires.state is is

pub rerouted_amount-requires-clause-before : goal.rerouted_amount-requires-clause-before
rerouted_amount-requires-clause-before c =
    let r = c.index-routings-state.result in
    let normal = c.index-routings-0.result in
    let is : r ≡ get_or c.args.plan.now.routings c.args.state r = c.index-routings-state.is ∙ ap (λ (xs : List Routing). get_or xs c.args.state r) c.items-routings.ensures in
    let zero_is : normal ≡ get_or c.args.plan.now.routings 0 normal = c.index-routings-0.is ∙ ap (λ (xs : List Routing). get_or xs 0 normal) c.items-routings.ensures in
    brought_of (case_of c.args.instance.now) c.args.plan.now c.requires.sound (length c.args.instance.now.net.now.nodes) c.args.instance.now.belong c.args.state 0 r normal c.requires.state (omega arith) is zero_is

pub part_of-requires-clause-few : goal.part_of-requires-clause-few
part_of-requires-clause-few c =
    omega (arith, few_links c.args.instance.now.net.now.nodes c.args.instance.now.net.now.links c.args.instance.now.net.now.checked, ap (λ (xs : List Link). length xs) (c.items-2.ensures ∙ c.links.ensures))

pub part_of-requires-clause-sound : goal.part_of-requires-clause-sound
part_of-requires-clause-sound c k d lt =
    let same = c.items-2.ensures ∙ c.links.ensures in
    let inside : k < length c.args.instance.now.net.now.links = omega (arith, lt, ap (λ (xs : List Link). length xs) same) in
    let low = small_fixed c.args.instance.now.net.now.nodes c.args.instance.now.net.now.links c.args.instance.now.net.now.checked k d inside in
    omega (arith, low, ap (λ (xs : List Link). (get_or xs k d).fixed) same)

pub returns : goal.returns
returns c =
    let s = c.args.state in
    let plan = c.args.plan.now in
    let r = c.index-routings-state.result in
    let normal = c.index-routings-0.result in
    let is : r ≡ get_or plan.routings s r = c.index-routings-state.is ∙ ap (λ (xs : List Routing). get_or xs s r) c.items-routings.ensures in
    let zero_is : normal ≡ get_or plan.routings 0 normal = c.index-routings-0.is ∙ ap (λ (xs : List Routing). get_or xs 0 normal) c.items-routings.ensures in
    let row : StateRow = record {
      state = record { 0 = s };
      failed = c.in_ok-failed_links.field-0;
      rerouted = c.rerouted_amount.result;
      fullest = c.fullest_of-fullest.result.link;
      used = c.fullest_of-fullest.result.used;
      part = c.part_of.result;
    } in
    row_of (case_of c.args.instance.now) plan c.requires.sound s c.args.caps.now normal r row c.requires.capacities c.requires.state zero_is is refl
    (c.in_ok-failed_links.ensures ∙ ap (λ (xs : List Listed). failed_links xs s) (c.items.ensures ∙ c.listed.ensures))
    c.rerouted_amount.ensures
    c.fullest_of-fullest.ensures.link
    c.fullest_of-fullest.ensures.used
    (subst (λ (links : List Link). IsNearest (1000 * paid_by links plan.certificate s) (raw_value links (lines_of_certificate plan.certificate)) c.part_of.result) (c.items-2.ensures ∙ c.links.ensures) c.part_of.ensures)
