-- a shortest path under scaled prices is a cheapest one
use Rattle.std.proofs.Common.{◌≡◌, ℕ, ◌+◌, ◌*◌, ◌^◌, ◌<◌, ◌≤◌, List, [], ◌∷◌, length, get_or, map, take, ⊎_elim, ap, ◌∙◌, arith, All}
use Rattle.net_core.proofs.Library.{cases_lt, get_or-map, get_or_past, length-map, take_more}
use Rattle.plan_terms.{specs.Terms.{LinkId, IsLeastPath, IsPath, Leads, length_of}, proofs.Lemmas.{path_few, length_push}}
use Rattle.short_paths.{specs.PricedPaths.IsPricedPath, specs.declared.priced_paths.PricedPath.PricedPath, specs.inner.Scales.scaled}

-- a scaled price is above 0
pub scaled_long : (prices : List ℕ) (e : ℕ) → e < length prices → 0 < get_or (map scaled prices) e 0
scaled_long prices e lt = let is : get_or (map scaled prices) e 0 ≡ scaled (get_or prices e 0) = get_or-map scaled prices e 0 0 lt in omega arith

-- and one of a price below 2^62 is below 2^100
pub scaled_short : (prices : List ℕ) → All (λ p. p < 2 ^ 62) prices → (e : ℕ) → get_or (map scaled prices) e 0 < 2 ^ 100
scaled_short prices low e = ⊎_elim
    (λ lt.
    let is : get_or (map scaled prices) e 0 ≡ scaled (get_or prices e 0) = get_or-map scaled prices e 0 0 lt in
    let small : get_or prices e 0 < 2 ^ 62 = low e 0 lt in
    omega arith)
    (λ past. let none = get_or_past (map scaled prices) e 0 (omega (arith, length-map prices scaled)) in omega (arith, none))
    (cases_lt e (length prices))

-- the length of a path is its price 2^20 times, and its number of links
led_scaled : (joins : ℕ → ℕ → ℕ → Type 0) (prices : List ℕ) → ((e x y : ℕ) → joins e x y → e < length prices) → (a : ℕ) (es : List LinkId) (cs : List ℕ) → Leads joins a es cs → length_of (map scaled prices) es ≡ 2 ^ 20 * length_of prices es + length es
led_scaled joins prices known a [] [] leads = omega arith
led_scaled joins prices known a (e ∷ es) (c ∷ cs) leads =
    let is : get_or (map scaled prices) e.0 0 ≡ scaled (get_or prices e.0 0) = get_or-map scaled prices e.0 0 0 (known e.0 a c leads.0) in
    omega (arith, is, led_scaled joins prices known c es cs leads.1)
led_scaled joins prices known a [] (c ∷ cs) leads = absurd leads
led_scaled joins prices known a (e ∷ es) [] leads = absurd leads

module _ (joins : ℕ → ℕ → ℕ → Type 0) (n : ℕ) (few : n ≤ 2 ^ 20) (inside : (e x y : ℕ) → joins e x y → y < n) (prices : List ℕ) (known : (e x y : ℕ) → joins e x y → e < length prices) (a b : ℕ) (lt : a < n) where
  cheapest : (es others : List LinkId) → IsPath joins a b es → IsPath joins a b others → length_of (map scaled prices) es ≤ length_of (map scaled prices) others → length_of prices es ≤ length_of prices others
  cheapest es others p q short =
      omega (arith, short, led_scaled joins prices known a es p.0 p.1, led_scaled joins prices known a others q.0 q.1, path_few joins n inside a b lt others q)

  pub least_priced : (p : PricedPath) → IsLeastPath joins (map scaled prices) a b p.path → p.total ≡ length_of prices p.path → IsPricedPath joins prices a b p
  least_priced p least total = record {
    path = least.path;
    total = total;
    least = λ others q. omega (arith, total, cheapest p.path others least.path q (least.shortest others q));
  }

-- the sum with the next link's price
pub total_more : (prices : List ℕ) (path : List LinkId) (i : ℕ) (d : LinkId) → i < length path → length_of prices (take (i + 1) path) ≡ length_of prices (take i path) + get_or prices (get_or path i d).0 0
total_more prices path i d lt = ap (length_of prices) (take_more path i d lt) ∙ length_push prices (take i path) (get_or path i d)
