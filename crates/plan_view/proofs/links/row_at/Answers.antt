use Rattle.std.proofs.Common.{◌≡◌, ◌*◌, ◌^◌, ◌<◌, ◌≤◌, List, ℕ, Some, get_or, length, slice_get, sym, ap, subst, ◌∙◌, arith}
use Rattle.net_core.proofs.Library.{IfOk-weaker, slice_get-get_or}
use Rattle.module_choice.proofs.Pairs.{capacities_long, counts_long}
use Rattle.plan_terms.specs.Terms.{Link, case_of}
use Rattle.plan_view.{specs.Loads.{den_in, load_in}, specs.Rows.{IsLinkRow, IsRowAt}, proofs.Plans.{capacity_at, capacity_low, den_low, den_positive, few_modules, few_routings, load_fits, load_within, shape_at, sound_modules}, proofs.RowLists.row_from}
use Rattle.plan_view.proofs.links.row_at.Goals as goal

pub bounds-items-e : goal.bounds-items-e
bounds-items-e c = omega (arith, c.requires.inside, ap (λ (xs : List Link). length xs) (c.items.ensures ∙ c.links.ensures))

pub bounds-items-e-2 : goal.bounds-items-e-2
bounds-items-e-2 c =
    omega (arith, c.requires.inside, ap (λ (xs : List (List ℕ)). length xs) c.items-2.ensures, counts_long c.args.instance.now.net.now.links c.args.plan.now.counts c.requires.sound.form.counts)

pub bounds-caps-e : goal.bounds-caps-e
bounds-caps-e c =
    omega (arith, c.requires.inside, ap (λ (xs : List ℕ). length xs) c.requires.capacities, capacities_long c.args.instance.now.net.now.links c.args.plan.now.counts c.requires.sound.form.counts)

pub link_row-requires : goal.link_row-requires
link_row-requires c =
    let p = case_of c.args.instance.now in
    let plan = c.args.plan.now in
    let links = c.args.instance.now.net.now.links in
    let nodes = c.args.instance.now.net.now.nodes in
    let network = c.args.instance.now.net.now.checked in
    let sound = c.requires.sound in
    let e = c.args.e in
    let l = c.index-items-e.result in
    let cs = c.index-items-e-2.result in
    let is_link : l ≡ get_or links e l = c.index-items-e.is ∙ ap (λ (xs : List Link). get_or xs e l) (c.items.ensures ∙ c.links.ensures) in
    let is_counts : cs ≡ get_or plan.counts e cs = c.index-items-e-2.is ∙ ap (λ (xs : List (List ℕ)). get_or xs e cs) c.items-2.ensures in
    record {
      shape = shape_at p plan sound e l cs c.requires.inside is_link is_counts;
      few = few_modules nodes links network e l c.requires.inside is_link;
      each = sound_modules nodes links network e l c.requires.inside is_link;
      capacity = ap (λ (xs : List ℕ). get_or xs e 0) c.requires.capacities ∙ capacity_at p plan sound e l cs 0 c.requires.inside is_link is_counts;
      small = subst (λ (xs : List ℕ). get_or xs e 0 < 2 ^ 46) (sym c.requires.capacities) (capacity_low p plan sound e);
      some = omega (arith, sound.carrying.states);
      states = few_routings p plan sound c.args.instance.now.states.now.checked;
      within = λ s. subst (λ (xs : List ℕ). load_in plan.routings s e ≤ get_or xs e 0 * den_in plan.routings s) (sym c.requires.capacities) (load_within p plan sound s e);
      low = λ s. load_fits p plan sound s e;
      positive = λ s lt. den_positive p plan sound s lt;
      dens = λ s. den_low p plan sound s;
    }

pub returns : goal.returns
returns c =
    let plan = c.args.plan.now in
    let links = c.args.instance.now.net.now.links in
    let e = c.args.e in
    let l = c.index-items-e.result in
    let cs = c.index-items-e-2.result in
    let is_link : l ≡ get_or links e l = c.index-items-e.is ∙ ap (λ (xs : List Link). get_or xs e l) (c.items.ensures ∙ c.links.ensures) in
    let is_counts : cs ≡ get_or plan.counts e cs = c.index-items-e-2.is ∙ ap (λ (xs : List (List ℕ)). get_or xs e cs) c.items-2.ensures in
    let long : e < length plan.counts = omega (arith, c.requires.inside, counts_long links plan.counts c.requires.sound.form.counts) in
    let at_link : slice_get links e ≡ Some l = slice_get-get_or links e l c.requires.inside ∙ ap (λ (x : Link). Some x) (sym is_link) in
    let at_counts : slice_get plan.counts e ≡ Some cs = slice_get-get_or plan.counts e cs long ∙ ap (λ (x : List ℕ). Some x) (sym is_counts) in
    IfOk-weaker c.link_row.result (IsLinkRow plan l cs e) (IsRowAt links plan e) (λ row is. row_from links plan e l cs row at_link at_counts is) c.link_row.ensures
