-- counts of which each is at most the other
use Rattle.std.{proofs.Common.{◌≡◌, ◌∙◌, ℕ, zero, suc, ◌-◌, ◌*◌, ◌^◌, ◌≤◌, ◌<◌, Bool, true, false, if◌then◌else◌, ◌||◌, List, [], ◌∷◌, All, get_or, zip, nat_lt, slice_index, refl, ap, arith, set, mul-le-mul_left}, proofs.lemmas.List.Elements.length_all_zip, specs.List.AllZip}
use Rattle.net_core.proofs.Library.{nat_tests, All-cons, All-nil, All-head, All-tail, sum_by-cons}
use Rattle.plan_terms.specs.Terms.{Link, Module, AreCounts, AreWithinLimits, capacities, installs, link_cost, modules_capacity, modules_cost, total_cost}
use Rattle.trim_plan.specs.Trimmed.{AreAtMost, module_count, one_less}

-- ---- numbers

numbers_same : (xs : List ℕ) → AllZip ◌≤◌ xs xs
numbers_same [] = tt
numbers_same (x ∷ xs) = (omega arith, numbers_same xs)

numbers_both : (xs ys zs : List ℕ) → AllZip ◌≤◌ xs ys → AllZip ◌≤◌ ys zs → AllZip ◌≤◌ xs zs
numbers_both [] [] [] one two = tt
numbers_both [] [] (z ∷ zs) one two = absurd two
numbers_both [] (y ∷ ys) zs one two = absurd one
numbers_both (x ∷ xs) [] zs one two = absurd one
numbers_both (x ∷ xs) (y ∷ ys) [] one two = absurd two
numbers_both (x ∷ xs) (y ∷ ys) (z ∷ zs) one two =
    let le : x ≤ y = one.0 in
    let more : y ≤ z = two.0 in
    (omega (arith, le, more), numbers_both xs ys zs one.1 two.1)

numbers_set : (xs : List ℕ) (m v : ℕ) → v ≤ slice_index xs m → AllZip ◌≤◌ (set xs m v) xs
numbers_set [] m v le = tt
numbers_set (x ∷ xs) zero v le = (le, numbers_same xs)
numbers_set (x ∷ xs) (suc m) v le = (omega arith, numbers_set xs m v le)

pub number_at_most : (xs ys : List ℕ) → AllZip ◌≤◌ xs ys → (k : ℕ) → slice_index xs k ≤ slice_index ys k
number_at_most [] [] le k = omega arith
number_at_most [] (y ∷ ys) le k = absurd le
number_at_most (x ∷ xs) [] le k = absurd le
number_at_most (x ∷ xs) (y ∷ ys) le zero = le.0
number_at_most (x ∷ xs) (y ∷ ys) le (suc k) = number_at_most xs ys le.1 k

numbers_below : (n : ℕ) (xs ys : List ℕ) → AllZip ◌≤◌ xs ys → All (λ y. y < n) ys → All (λ x. x < n) xs
numbers_below n [] ys le below = All-nil (λ (x : ℕ). x < n)
numbers_below n (x ∷ xs) [] le below = absurd le
numbers_below n (x ∷ xs) (y ∷ ys) le below =
    let one : x ≤ y = le.0 in
    let lt : y < n = All-head (λ (z : ℕ). z < n) y ys below in
    All-cons (λ (z : ℕ). z < n) x xs (omega (arith, one, lt)) (numbers_below n xs ys le.1 (All-tail (λ (z : ℕ). z < n) y ys below))

-- ---- counts

pub counts_same : (counts : List (List ℕ)) → AreAtMost counts counts
counts_same [] = tt
counts_same (c ∷ cs) = (numbers_same c, counts_same cs)

pub counts_both : (a b c : List (List ℕ)) → AreAtMost a b → AreAtMost b c → AreAtMost a c
counts_both [] [] [] one two = tt
counts_both [] [] (z ∷ zs) one two = absurd two
counts_both [] (y ∷ ys) zs one two = absurd one
counts_both (x ∷ xs) [] zs one two = absurd one
counts_both (x ∷ xs) (y ∷ ys) [] one two = absurd two
counts_both (x ∷ xs) (y ∷ ys) (z ∷ zs) one two = (numbers_both x y z one.0 two.0, counts_both xs ys zs one.1 two.1)

counts_set : (counts : List (List ℕ)) (e : ℕ) (c : List ℕ) → AllZip ◌≤◌ c (get_or counts e []) → AreAtMost (set counts e c) counts
counts_set [] e c le = tt
counts_set (x ∷ xs) zero c le = (le, counts_same xs)
counts_set (x ∷ xs) (suc e) c le = (numbers_same x, counts_set xs e c le)

pub one_less_at_most : (counts : List (List ℕ)) (e m : ℕ) → AreAtMost (one_less counts e m) counts
one_less_at_most counts e m = counts_set counts e (set (get_or counts e []) m (module_count counts e m - 1)) (numbers_set (get_or counts e []) m (module_count counts e m - 1) (omega arith))

pub shape_at_most : (links : List Link) (a b : List (List ℕ)) → AreAtMost a b → AreCounts links b → AreCounts links a
shape_at_most [] [] [] le are = tt
shape_at_most [] [] (y ∷ ys) le are = absurd le
shape_at_most [] (x ∷ xs) [] le are = absurd le
shape_at_most [] (x ∷ xs) (y ∷ ys) le are = absurd are
shape_at_most (l ∷ ls) [] [] le are = absurd are
shape_at_most (l ∷ ls) [] (y ∷ ys) le are = absurd le
shape_at_most (l ∷ ls) (x ∷ xs) [] le are = absurd le
shape_at_most (l ∷ ls) (x ∷ xs) (y ∷ ys) le are = (length_all_zip ◌≤◌ x y le.0 ∙ are.0, shape_at_most ls xs ys le.1 are.1)

-- ---- capacities

capacity_at_most : (ms : List Module) (a b : List ℕ) → AllZip ◌≤◌ a b → modules_capacity ms a ≤ modules_capacity ms b
capacity_at_most [] a b le = omega arith
capacity_at_most (m ∷ ms) [] b le = omega arith
capacity_at_most (m ∷ ms) (x ∷ a) [] le = absurd le
capacity_at_most (m ∷ ms) (x ∷ a) (y ∷ b) le =
    let one : m.capacity * x ≤ m.capacity * y = mul-le-mul_left m.capacity le.0 in
    let rest = capacity_at_most ms a b le.1 in
    omega (arith, one, rest, sum_by-cons (λ (p : Module × ℕ). p.0.capacity * p.1) (m, x) (zip ms a), sum_by-cons (λ (p : Module × ℕ). p.0.capacity * p.1) (m, y) (zip ms b))

pub capacities_at_most : (links : List Link) (a b : List (List ℕ)) → AreAtMost a b → AllZip ◌≤◌ (capacities links a) (capacities links b)
capacities_at_most [] a b le = tt
capacities_at_most (l ∷ ls) [] [] le = tt
capacities_at_most (l ∷ ls) [] (y ∷ b) le = absurd le
capacities_at_most (l ∷ ls) (x ∷ a) [] le = absurd le
capacities_at_most (l ∷ ls) (x ∷ a) (y ∷ b) le = (let one = capacity_at_most l.modules x y le.0 in omega (arith, one), capacities_at_most ls a b le.1)

lists_below : (a b : List (List ℕ)) → AreAtMost a b → All (λ c. All (λ n. n < 2 ^ 44) c) b → All (λ c. All (λ n. n < 2 ^ 44) c) a
lists_below [] b le below = All-nil (λ (c : List ℕ). All (λ n. n < 2 ^ 44) c)
lists_below (x ∷ a) [] le below = absurd le
lists_below (x ∷ a) (y ∷ b) le below =
    All-cons (λ (c : List ℕ). All (λ n. n < 2 ^ 44) c) x a
    (numbers_below (2 ^ 44) x y le.0 (All-head (λ (c : List ℕ). All (λ n. n < 2 ^ 44) c) y b below))
    (lists_below a b le.1 (All-tail (λ (c : List ℕ). All (λ n. n < 2 ^ 44) c) y b below))

pub limits_at_most : (links : List Link) (a b : List (List ℕ)) → AreAtMost a b → AreWithinLimits links b → AreWithinLimits links a
limits_at_most links a b le limits = record {
  few = lists_below a b le limits.few;
  small = numbers_below (2 ^ 46) (capacities links a) (capacities links b) (capacities_at_most links a b le) limits.small;
}

-- ---- costs

cost_at_most : (ms : List Module) (a b : List ℕ) → AllZip ◌≤◌ a b → modules_cost ms a ≤ modules_cost ms b
cost_at_most [] a b le = omega arith
cost_at_most (m ∷ ms) [] b le = omega arith
cost_at_most (m ∷ ms) (x ∷ a) [] le = absurd le
cost_at_most (m ∷ ms) (x ∷ a) (y ∷ b) le =
    let one : m.cost * x ≤ m.cost * y = mul-le-mul_left m.cost le.0 in
    let rest = cost_at_most ms a b le.1 in
    omega (arith, one, rest, sum_by-cons (λ (p : Module × ℕ). p.0.cost * p.1) (m, x) (zip ms a), sum_by-cons (λ (p : Module × ℕ). p.0.cost * p.1) (m, y) (zip ms b))

positive_test : (n : ℕ) → 0 < n → nat_lt 0 n ≡ true
positive_test n lt = grind (arith, nat_tests)

or_second : (p q : Bool) → q ≡ true → (p || q) ≡ true
or_second true q _ = refl
or_second false q is = is

-- what installs something still does where counts are greater
installs_more : (a b : List ℕ) → AllZip ◌≤◌ a b → installs a ≡ true → installs b ≡ true
installs_more [] b le some = absurd (let e : false ≡ true = some in cc e)
installs_more (x ∷ a) [] le some = absurd le
installs_more (zero ∷ a) (y ∷ b) le some = or_second (nat_lt 0 y) (installs b) (installs_more a b le.1 some)
installs_more (suc x ∷ a) (y ∷ b) le some = let more : suc x ≤ y = le.0 in ap (λ (t : Bool). t || installs b) (positive_test y (omega (arith, more)))

setup_more : (setup : ℕ) (one other : Bool) → (one ≡ true → other ≡ true) → (if one then setup else 0) ≤ (if other then setup else 0)
setup_more setup false other h = omega arith
setup_more setup true false h = absurd (let e : false ≡ true = h refl in cc e)
setup_more setup true true h = omega arith

pub total_at_most : (links : List Link) (a b : List (List ℕ)) → AreAtMost a b → total_cost links a ≤ total_cost links b
total_at_most [] a b le = omega arith
total_at_most (l ∷ ls) [] b le = omega arith
total_at_most (l ∷ ls) (x ∷ a) [] le = absurd le
total_at_most (l ∷ ls) (x ∷ a) (y ∷ b) le =
    let one = cost_at_most l.modules x y le.0 in
    let setup = setup_more l.setup (installs x) (installs y) (installs_more x y le.0) in
    let rest = total_at_most ls a b le.1 in
    let here : link_cost l x ≤ link_cost l y = omega (arith, one, setup) in
    omega (arith, here, rest, sum_by-cons (λ (p : Link × List ℕ). link_cost p.0 p.1) (l, x) (zip ls a), sum_by-cons (λ (p : Link × List ℕ). link_cost p.0 p.1) (l, y) (zip ls b))
