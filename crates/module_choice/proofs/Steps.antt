-- capacities in steps of their greatest common divisor, and covers by a table
use Rattle.std.{proofs.Common.{◌≡◌, ◌≢◌, ℕ, zero, suc, ◌+◌, ◌*◌, ◌^◌, ◌/◌, ◌<◌, ◌≤◌, List, [], ◌∷◌, All, Some, ap, arith, inl, length, map, refl, slice_get, subst, sym, ◌∙◌, ⊎_elim}, proofs.Math.Nat.{mul-div-le, mul-le-mul_left}}
use Rattle.net_core.proofs.Library.{◌∣◌, AllByRecursion, le_of_dvd, mul-div_cancel', cases_eq, cases_lt, All-cons, All-from_recursion, All-nil, recursion_from_All, le-div, positive_divisor}
use Rattle.plan_terms.{specs.Terms.{Module, IsModule, IsGreatestDivisor, modules_capacity, modules_cost, IsFewSteps, Reaches}, proofs.Lemmas.{divisor_limit, divisor_unique}}
use Rattle.module_choice.{specs.declared.tables.Entry.Entry, specs.declared.tables.Table.Table, specs.inner.Cheapest.AreCheapest, specs.inner.Tables.{AreTaken, IsTable, in_units}, proofs.Choices.{fewest-capacity, value-cons}}

capacities_small : (ms : List Module) → All IsModule ms → AllByRecursion (λ x. x < 2 ^ 40) (map (λ m. m.capacity) ms)
capacities_small [] sound = tt
capacities_small (m ∷ ms) sound = ((sound 0 m (omega arith)).capacity, capacities_small ms (λ i d lt. sound (suc i) d (omega arith)))

-- a divisor of capacities is as small as they are
pub capacity_limit : (ms : List Module) (g : ℕ) → All IsModule ms → IsGreatestDivisor (map (λ m. m.capacity) ms) g → g < 2 ^ 40
capacity_limit ms g sound is = divisor_limit (map (λ m. m.capacity) ms) g (2 ^ 40) (omega arith) (capacities_small ms sound) is

factor_positive : (a b n : ℕ) → a * b ≡ n → 0 < n → 0 < b
factor_positive a zero n is some = absurd (omega (arith, is, some))
factor_positive a (suc b) n is some = omega arith

-- a capacity in steps
pub quotient_sound : (m : Module) (step : ℕ) → IsModule m → step ∣ m.capacity → IsModule (record { capacity = m.capacity / step; cost = m.cost })
quotient_sound m step sound divides =
    let whole : step * (m.capacity / step) ≡ m.capacity = mul-div_cancel' step divides in
    let some = positive_divisor step m.capacity sound.carries divides in
    let more : m.capacity / step * 1 ≤ m.capacity / step * step = mul-le-mul_left (m.capacity / step) some in
    record {
      carries = factor_positive step (m.capacity / step) m.capacity whole sound.carries;
      capacity = omega (arith, whole, more, sound.capacity);
      cost = sound.cost;
    }

divides_recursion : (step : ℕ) (ms : List Module) → AllByRecursion (λ x. step ∣ x) (map (λ m. m.capacity) ms) → AllByRecursion (λ m. step ∣ m.capacity) ms
divides_recursion step [] all = tt
divides_recursion step (m ∷ ms) all = (all.0, divides_recursion step ms all.1)

-- the common divisor divides each capacity
pub divides_each : (step : ℕ) (ms : List Module) → IsGreatestDivisor (map (λ m. m.capacity) ms) step → All (λ m. step ∣ m.capacity) ms
divides_each step ms is = All-from_recursion (λ m. step ∣ m.capacity) ms (divides_recursion step ms (recursion_from_All (λ x. step ∣ x) (map (λ m. m.capacity) ms) is.divides))

-- a step is one of some modules
pub some_scaled : (step : ℕ) (ms scaled : List Module) → ms ≡ in_units step scaled → IsGreatestDivisor (map (λ m. m.capacity) ms) step → 0 < step → 0 < length scaled
some_scaled step ms [] same is some =
    let none : IsGreatestDivisor [] step = subst (λ xs. IsGreatestDivisor (map (λ (m : Module). m.capacity) xs) step) same is in
    let le : step + 1 ≤ step = le_of_dvd some (none.greatest (step + 1) (All-nil (λ x. step + 1 ∣ x))) in
    absurd (omega (arith, le))
some_scaled step ms (m ∷ scaled) same is some = omega arith

capacity_scaled : (step : ℕ) (ms : List Module) (cs : List ℕ) → modules_capacity (in_units step ms) cs ≡ step * modules_capacity ms cs
capacity_scaled step [] cs = omega arith
capacity_scaled step (m ∷ ms) [] = omega arith
capacity_scaled step (m ∷ ms) (c ∷ cs) =
    let k : Module = record { capacity = step * m.capacity; cost = m.cost } in
    let both : step * modules_capacity (m ∷ ms) (c ∷ cs) ≡ step * (m.capacity * c + modules_capacity ms cs) = ap (λ x. step * x) (value-cons (λ m. m.capacity) m ms c cs) in
    omega (arith, value-cons (λ m. m.capacity) k (in_units step ms) c cs, both, capacity_scaled step ms cs)

cost_scaled : (step : ℕ) (ms : List Module) (cs : List ℕ) → modules_cost (in_units step ms) cs ≡ modules_cost ms cs
cost_scaled step [] cs = refl
cost_scaled step (m ∷ ms) [] = refl
cost_scaled step (m ∷ ms) (c ∷ cs) =
    let k : Module = record { capacity = step * m.capacity; cost = m.cost } in
    omega (arith, value-cons (λ m. m.cost) k (in_units step ms) c cs, value-cons (λ m. m.cost) m ms c cs, cost_scaled step ms cs)

length_scaled : (step : ℕ) (ms : List Module) → length (in_units step ms) ≡ length ms
length_scaled step [] = refl
length_scaled step (m ∷ ms) = ap suc (length_scaled step ms)

limits : (step : ℕ) (ms : List Module) → 0 < step → All IsModule (in_units step ms) → All (λ m. m.capacity ≤ 2 ^ 40 / step) ms
limits step [] some sound = All-nil (λ (m : Module). m.capacity ≤ 2 ^ 40 / step)
limits step (m ∷ ms) some sound =
    let is = sound 0 m (omega arith) in
    All-cons (λ (m : Module). m.capacity ≤ 2 ^ 40 / step) m ms (le-div m.capacity (2 ^ 40) step some (omega (arith, is.capacity))) (limits step ms some (λ i d lt. sound (suc i) d (omega arith)))

-- a need of more than few steps
pub many_steps : (ms : List Module) (table : Table) (need : ℕ) → IsTable ms table → 100000 * table.step < need → IsFewSteps ms need → ⊥
many_steps ms table need is many few =
    let same : few.step ≡ table.step = divisor_unique (map (λ m. m.capacity) ms) few.step table.step few.divisor is.divisor in
    omega (arith, same, many, few.few)

-- the steps of a need reach it by less than one step
steps_short : (step need steps : ℕ) → ((n : ℕ) → need ≤ step * n → steps ≤ n) → step * steps ≤ need + step
steps_short step need steps least = ⊎_elim
    (λ some. omega (arith, fewest-capacity step need steps some least))
    (λ none. let zero' : steps ≡ 0 = omega (arith, none) in omega (arith, ap (λ n. step * n) zero'))
    (cases_lt 0 steps)

-- the capacity of counts that are read from a table
read_narrow : (step need steps : ℕ) (ms : List Module) (cost : ℕ) (cs : List ℕ) → All IsModule (in_units step ms) → need < 2 ^ 44 → step < 2 ^ 40 → ((n : ℕ) → need ≤ step * n → steps ≤ n) → AreTaken ms steps cost cs → step * modules_capacity ms cs < 2 ^ 45
read_narrow step need steps ms cost cs sound small low least taken = ⊎_elim
    (λ (none : step ≡ 0). omega (arith, ap (λ x. x * modules_capacity ms cs) none))
    (λ (some : step ≢ 0).
    let positive : 0 < step = omega (arith, some) in
    let over : step * modules_capacity ms cs ≤ step * (steps + 2 ^ 40 / step) = mul-le-mul_left step (taken.narrow (2 ^ 40 / step) (limits step ms positive sound)) in
    let limit : step * (2 ^ 40 / step) ≤ 2 ^ 40 = mul-div-le (2 ^ 40) step in
    omega (arith, over, limit, steps_short step need steps least, small, low))
    (cases_eq step 0)

-- counts that are read from the table are the cheapest for the need
pub table_cheapest : (ms : List Module) (table : Table) (need steps : ℕ) (x : Entry) (cs : List ℕ) → All IsModule ms → need < 2 ^ 44 → IsTable ms table → need ≤ 100000 * table.step → steps ≤ 100000 → need ≤ table.step * steps → ((n : ℕ) → need ≤ table.step * n → steps ≤ n) → slice_get table.entries steps ≡ Some x → AreTaken table.modules steps x.cost cs → AreCheapest ms need cs
table_cheapest ms table need steps x cs sound small is few most reached least at taken =
    let step = table.step in
    let capacity : (ns : List ℕ) → modules_capacity ms ns ≡ step * modules_capacity table.modules ns = λ ns. ap (λ xs. modules_capacity xs ns) is.scaled ∙ capacity_scaled step table.modules ns in
    let price : (ns : List ℕ) → modules_cost ms ns ≡ modules_cost table.modules ns = λ ns. ap (λ xs. modules_cost xs ns) is.scaled ∙ cost_scaled step table.modules ns in
    let size : length ms ≡ length table.modules = ap (λ (xs : List Module). length xs) is.scaled ∙ length_scaled step table.modules in
    let more : step * steps ≤ step * modules_capacity table.modules cs = mul-le-mul_left step taken.reaches.reached in
    let entry = is.least.least steps x at in
    record {
      reaches = record { shape = taken.reaches.shape ∙ sym size; reached = omega (arith, reached, more, capacity cs) };
      may = inl (record { step = step; divisor = is.divisor; few = few });
      least = λ others may reach.
          let enough : Reaches table.modules steps others = record { shape = reach.shape ∙ size; reached = least (modules_capacity table.modules others) (omega (arith, reach.reached, capacity others)) } in
          omega (arith, price cs, price others, taken.paid, entry.least others enough);
      none = λ zero' i d lt. omega (arith, taken.few i d lt, least 0 (omega (arith, zero')));
      few = λ i d lt. omega (arith, taken.few i d lt, most);
      narrow = omega (arith, capacity cs, read_narrow step need steps table.modules x.cost cs (subst (All IsModule) is.scaled sound) small is.small least taken);
    }
