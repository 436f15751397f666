-- common divisors of costs and setups, module by module and link by link, and quotients that are rounded up
use Rattle.std.{proofs.Common.{◌≡◌, ℕ, ◌+◌, ◌*◌, ◌≤◌, ◌<◌, List, [], ◌∷◌, ◌++◌, length, get_or, map, take, sym, ap, ◌∙◌, subst, arith, append-nil, add-one, take-suc, mul-le-mul_right}, proofs.lemmas.Grind.div_ceil_times, specs.Int.div_ceil}
use Rattle.net_core.proofs.Library.{map-append, flat_map-append, IsGcd}
use Rattle.plan_terms.{specs.Terms.{Link, Module, IsGreatestDivisor, with_setup, link_charges, charges}, proofs.Lemmas.{divisor_none, divisor_both, divisor_one, divisor_limit, quotient_least}}

-- a number of one module more
pub module_divisor_step : (f : Module → ℕ) (n : ℕ) (modules : List Module) (d : Module) (g h : ℕ) → n < length modules → IsGreatestDivisor (map f (take n modules)) g → IsGcd g (f (get_or modules n d)) h → IsGreatestDivisor (map f (take (n + 1) modules)) h
module_divisor_step f n modules d g h lt before gcd =
    let m = get_or modules n d in
    let more : take (n + 1) modules ≡ take n modules ++ m ∷ [] = rw add-one (take-suc modules n d lt) in
    let numbers : map f (take (n + 1) modules) ≡ map f (take n modules) ++ f m ∷ [] = ap (map f) more ∙ map-append f (take n modules) (m ∷ []) in
    subst (λ xs. IsGreatestDivisor xs h) (sym numbers) (divisor_both (map f (take n modules)) (f m ∷ []) g (f m) h before (divisor_one (f m)) gcd)

-- a setup beside the costs of its link's modules
pub link_divisor_whole : (setup : ℕ) (modules : List Module) (g h : ℕ) → 0 < length modules → IsGreatestDivisor (map (λ m. m.cost) modules) g → IsGcd setup g h → IsGreatestDivisor (with_setup setup (map (λ m. m.cost) modules)) h
link_divisor_whole setup [] g h some costs gcd = absurd (omega (arith, some))
link_divisor_whole setup (m ∷ ms) g h some costs gcd = divisor_both (setup ∷ []) (map (λ (x : Module). x.cost) (m ∷ ms)) setup g h (divisor_one setup) costs gcd

-- a link without modules charges nothing
pub link_divisor_none : (setup : ℕ) (modules : List Module) → length modules ≡ 0 → IsGreatestDivisor (with_setup setup (map (λ m. m.cost) modules)) 0
link_divisor_none setup [] none = divisor_none
link_divisor_none setup (m ∷ ms) none = absurd (omega (arith, none))

-- what one link more charges
pub link_divisor_step : (n : ℕ) (links : List Link) (d : Link) (g k h : ℕ) → n < length links → IsGreatestDivisor (charges (take n links)) g → IsGreatestDivisor (link_charges (get_or links n d)) k → IsGcd g k h → IsGreatestDivisor (charges (take (n + 1) links)) h
link_divisor_step n links d g k h lt before here gcd =
    let l = get_or links n d in
    let more : take (n + 1) links ≡ take n links ++ l ∷ [] = rw add-one (take-suc links n d lt) in
    let all : charges (take (n + 1) links) ≡ charges (take n links) ++ link_charges l = ap charges more ∙ (flat_map-append link_charges (take n links) (l ∷ []) ∙ ap (λ xs. charges (take n links) ++ xs) (append-nil (link_charges l))) in
    subst (λ xs. IsGreatestDivisor xs h) (sym all) (divisor_both (charges (take n links)) (link_charges l) g k h before here gcd)

-- the common divisor of two numbers is as small as they are
pub divisor_low : (a b g limit : ℕ) → a < limit → b < limit → IsGcd a b g → g < limit
divisor_low a b g limit low_a low_b gcd =
    divisor_limit (a ∷ b ∷ []) g limit (omega (arith, low_a)) (low_a, (low_b, tt)) (divisor_both (a ∷ []) (b ∷ []) a b g (divisor_one a) (divisor_one b) gcd)

-- a quotient that is rounded up twice
pub rounded_up : (raw den g r q : ℕ) → 0 < den → 0 < g → r ≡ div_ceil raw den → q ≡ div_ceil r g → (raw ≤ den * g * q) × ((c : ℕ) → raw ≤ den * g * c → q ≤ c) × (g * q < raw + 1 + g)
rounded_up raw den g r q some_den some_g first second =
    let once : (raw ≤ r * den) × (r * den < raw + den) = subst (λ i. (raw ≤ i * den) × (i * den < raw + den)) (sym first) (div_ceil_times raw den some_den) in
    let twice : (r ≤ q * g) × (q * g < r + g) = subst (λ i. (r ≤ i * g) × (i * g < r + g)) (sym second) (div_ceil_times r g some_g) in
    let times : r * den ≤ q * g * den = mul-le-mul_right den twice.0 in
    let least : (c : ℕ) → raw ≤ den * c → r ≤ c = quotient_least raw den r once.1 in
    let whole : raw ≤ den * raw = omega (arith, mul-le-mul_right raw some_den) in (
      omega (arith, once.0, times),
      λ c reached. quotient_least r g q twice.1 c (least (g * c) (omega (arith, reached))),
      omega (arith, twice.1, least raw whole),
    )
