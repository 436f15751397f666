-- no counts of a box that meet the lines of a certificate cost less than its value
use Rattle.std.{proofs.Common.{◌≡◌, ℕ, zero, suc, ◌+◌, ◌-◌, ◌*◌, ◌≤◌, ◌<◌, Bool, true, false, if◌then◌else◌, ◌||◌, List, [], ◌∷◌, Option, IfSome, IsSome, unwrap_or, ⊎_elim, length, map, zip, nat_lt, slice_index, refl, ap, ◌∙◌, arith, mul-le-mul_left}, specs.List.{AllZip, AllByRecursion, list_any}}
use Rattle.net_core.proofs.Library.{cases_lt, nat_tests, recursion_from_All, sum_by-cons, below-first}
use Rattle.plan_terms.{specs.Terms.{AreCounts, Link, Module, installs, link_cost, modules_cost, sum_below, total_cost}, proofs.Duality.bound_met}
use Rattle.line_check.{specs.Inequalities.{MeetsLine, WeightedLine, entry, module_price, over_modules}, proofs.OverModules.{over-first, over-le, over-plus, over-same, over-times}}
use Rattle.tree_check.{specs.Boxes.{AreInBox, IsInSpan, span_at}, specs.BoxValues.{IsBoxCertificate, all_gains, all_losses, asked_right, certain_setup, certain_setups, given_free, module_charge, module_costs, module_gain, module_loss}, specs.Laws.BoxValueHolds, specs.Trees.TreeBox, specs.declared.boxes.Span.Span, proofs.InBoxes.count_in_span, proofs.EmptiedBoxes.at_most}

-- ---- what lines ask for is given, or has a price

along_more : (links : List Link) (t : WeightedLine) (ts : List WeightedLine) (counts : List (List ℕ))
    → over_modules links (λ e m. module_price (t ∷ ts) e m * entry counts e m) ≡ t.num * over_modules links (λ e m. entry t.line.coefs e m * entry counts e m) + over_modules links (λ e m. module_price ts e m * entry counts e m)
along_more links t ts counts =
    over-same links _ (λ e m. t.num * (entry t.line.coefs e m * entry counts e m) + module_price ts e m * entry counts e m)
    (λ e m le lm. omega (arith, ap (λ s. s * entry counts e m) (sum_by-cons (λ (x : WeightedLine). x.num * entry x.line.coefs e m) t ts)))
    ∙ (over-plus links (λ e m. t.num * (entry t.line.coefs e m * entry counts e m)) (λ e m. module_price ts e m * entry counts e m)
    ∙ ap (λ s. s + over_modules links (λ e m. module_price ts e m * entry counts e m)) (over-times links t.num (λ e m. entry t.line.coefs e m * entry counts e m)))

lines_met : (links : List Link) (terms : List WeightedLine) (counts : List (List ℕ)) → AllByRecursion (λ t. MeetsLine links t.line counts) terms
    → asked_right terms ≤ given_free terms + over_modules links (λ e m. module_price terms e m * entry counts e m)
lines_met links [] counts met = omega arith
lines_met links (t ∷ ts) counts met =
    let first : t.num * t.line.right ≤ t.num * (t.line.given + over_modules links (λ e m. entry t.line.coefs e m * entry counts e m)) = mul-le-mul_left t.num met.0 in
    omega (
      arith,
      first,
      lines_met links ts counts met.1,
      along_more links t ts counts,
      sum_by-cons (λ (x : WeightedLine). x.num * x.line.right) t ts,
      sum_by-cons (λ (x : WeightedLine). x.num * x.line.given) t ts,
    )

-- ---- what a module's price is paid by

span_paid : (charge price least n : ℕ) (most : Option ℕ) → (charge < price → IsSome most) → least ≤ n → IfSome most (λ t. n ≤ t)
    → price * n + (charge - price) * least ≤ charge * n + (price - charge) * unwrap_or most 0
span_paid charge price least n most some from to = ⊎_elim
    (λ (lt : charge < price).
    let all : (price - charge) * n ≤ (price - charge) * unwrap_or most 0 = mul-le-mul_left (price - charge) (at_most most n (some lt) to) in
    let whole : charge * n + (price - charge) * n ≡ price * n = let e : charge + (price - charge) ≡ price = omega arith in omega (arith, ap (λ i. i * n) e) in
    let none : (charge - price) * least ≡ 0 = let e : charge - price ≡ 0 = omega arith in omega (arith, ap (λ i. i * least) e) in
    omega (arith, all, whole, none))
    (λ (le : price ≤ charge).
    let all : (charge - price) * least ≤ (charge - price) * n = mul-le-mul_left (charge - price) from in
    let whole : price * n + (charge - price) * n ≡ charge * n = let e : price + (charge - price) ≡ charge = omega arith in omega (arith, ap (λ i. i * n) e) in
    omega (arith, all, whole))
    (cases_lt charge price)

modules_paid : (links : List Link) (box : TreeBox) (den : ℕ) (terms : List WeightedLine) (counts : List (List ℕ))
    → IsBoxCertificate links box den terms → AreCounts links counts → AreInBox box counts
    → over_modules links (λ e m. module_price terms e m * entry counts e m) + all_gains links box den terms ≤ over_modules links (λ e m. module_charge links den e m * entry counts e m) + all_losses links box den terms
modules_paid links box den terms counts is shape within =
    let each = over-le links (λ e m. module_price terms e m * entry counts e m + module_gain links box den terms e m) (λ e m. module_charge links den e m * entry counts e m + module_loss links box den terms e m)
    (λ e m le lm. let at = count_in_span links box counts e m shape within lm in
    span_paid (module_charge links den e m) (module_price terms e m) (span_at box e m).least (entry counts e m) (span_at box e m).most ((is.modules e m le lm).bounded) at.0 at.1) in
    omega (
      arith,
      each,
      over-plus links (λ e m. module_price terms e m * entry counts e m) (module_gain links box den terms),
      over-plus links (λ e m. module_charge links den e m * entry counts e m) (module_loss links box den terms),
    )

-- ---- modules and certain setups are among the cost

costs_summed : (modules : List Module) (counts : List ℕ) → length counts ≡ length modules
    → sum_below (length modules) (λ m. slice_index (map (λ x. x.cost) modules) m * slice_index counts m) ≡ modules_cost modules counts
costs_summed [] counts same = refl
costs_summed (x ∷ ms) [] same = absurd (omega (arith, same))
costs_summed (x ∷ ms) (c ∷ cs) same =
    omega (
      arith,
      costs_summed ms cs (omega (arith, same)),
      sum_by-cons (λ (p : Module × ℕ). p.0.cost * p.1) (x, c) (zip ms cs),
      below-first (length ms) (λ m. slice_index (map (λ y. y.cost) (x ∷ ms)) m * slice_index (c ∷ cs) m),
    )

positive_test : (n : ℕ) → 0 < n → nat_lt 0 n ≡ true
positive_test n lt = grind (arith, nat_tests)

or_second : (p q : Bool) → q ≡ true → (p || q) ≡ true
or_second true q _ = refl
or_second false q is = is

-- where a least count is positive, something is installed
installs_certain : (spans : List Span) (counts : List ℕ) → AllZip IsInSpan spans counts → list_any (λ s. nat_lt 0 s.least) spans ≡ true → installs counts ≡ true
installs_certain [] counts all some = absurd (let e : false ≡ true = some in cc e)
installs_certain (s ∷ ss) [] all some = absurd all
installs_certain (s ∷ ss) (c ∷ cs) all some = installs_from s.least c (list_any (λ x. nat_lt 0 x.least) ss) (installs cs) all.0.0 (installs_certain ss cs all.1) some
  where
    installs_from : (least n : ℕ) (others installed : Bool) → least ≤ n → (others ≡ true → installed ≡ true) → (nat_lt 0 least || others) ≡ true → (nat_lt 0 n || installed) ≡ true
    installs_from zero n others installed le rest some = or_second (nat_lt 0 n) installed (rest some)
    installs_from (suc k) n others installed le rest some = ap (λ (t : Bool). t || installed) (positive_test n (omega (arith, le)))

setup_more : (setup : ℕ) (one other : Bool) → (one ≡ true → other ≡ true) → (if one then setup else 0) ≤ (if other then setup else 0)
setup_more setup false other h = omega arith
setup_more setup true false h = absurd (let e : false ≡ true = h refl in cc e)
setup_more setup true true h = omega arith

costs_paid : (links : List Link) (box : TreeBox) (counts : List (List ℕ)) → AreCounts links counts → AreInBox box counts
    → over_modules links (λ e m. entry (module_costs links) e m * entry counts e m) + certain_setups links box ≤ total_cost links counts
costs_paid [] box [] shape within = omega arith
costs_paid [] box (c ∷ counts) shape within = absurd shape
costs_paid (l ∷ ls) box [] shape within = absurd shape
costs_paid (l ∷ ls) [] (c ∷ counts) shape within = absurd within
costs_paid (l ∷ ls) (ss ∷ box) (c ∷ counts) shape within =
    omega (
      arith,
      costs_paid ls box counts shape.1 within.1,
      costs_summed l.modules c shape.0,
      setup_more l.setup (list_any (λ s. nat_lt 0 s.least) ss) (installs c) (installs_certain ss c within.0),
      over-first l ls (λ e m. entry (module_costs (l ∷ ls)) e m * entry (c ∷ counts) e m),
      below-first (length ls) (certain_setup (l ∷ ls) (ss ∷ box)),
      sum_by-cons (λ (p : Link × List ℕ). link_cost p.0 p.1) (l, c) (zip ls counts),
    )

charges_paid : (links : List Link) (den : ℕ) (counts : List (List ℕ))
    → over_modules links (λ e m. module_charge links den e m * entry counts e m) ≡ den * over_modules links (λ e m. entry (module_costs links) e m * entry counts e m)
charges_paid links den counts =
    over-same links _ (λ e m. den * (entry (module_costs links) e m * entry counts e m)) (λ e m le lm. omega arith)
    ∙ over-times links den (λ e m. entry (module_costs links) e m * entry counts e m)

pub box_value_holds : BoxValueHolds
box_value_holds links box den terms value counts is shape within met =
    let asked = lines_met links terms counts (recursion_from_All (λ (t : WeightedLine). MeetsLine links t.line counts) terms met) in
    let paid = modules_paid links box den terms counts is.certificate shape within in
    let cost : den * (over_modules links (λ e m. entry (module_costs links) e m * entry counts e m) + certain_setups links box) ≤ den * total_cost links counts = mul-le-mul_left den (costs_paid links box counts shape within) in
    bound_met links _ den value counts shape is.rounded (omega (arith, asked, paid, cost, charges_paid links den counts))
