-- counts that meet lines meet the sum of them, capped, divided and rounded up
use Rattle.std.{proofs.Common.{◌≡◌, ℕ, ◌+◌, ◌-◌, ◌*◌, ◌/◌, ◌%◌, ◌<◌, ◌≤◌, ⊎_elim, List, [], ◌∷◌, length, min, ap, subst, sym, ◌∙◌, arith}, proofs.Math.Nat.{div-add-mod, mul-le-mul_left}, proofs.lemmas.Grind.div_ceil_times}
use Rattle.net_core.proofs.Library.{cases_lt, mod_below, sum_by-cons, AllByRecursion}
use Rattle.master_bound.specs.declared.answer.Multiplier.{Multiplier}
use Rattle.plan_terms.specs.Terms.{Link}
use Rattle.line_check.{specs.Inequalities.{AreNamedBy, MeetsLine, WeightedLine, entry, module_number, module_price, need_of, over_modules, summed_need, table_of}, specs.Lines.{IsDividedLine, divided_line, divided_up}, specs.declared.inequality.Inequality.Inequality, proofs.KindWeights.{capped_term, over_min, table_entry}, proofs.OverModules.{over-le, over-plus, over-same, over-times}}

-- ---- sums

term_met : (links : List Link) (counts : List (List ℕ)) (t : WeightedLine) → MeetsLine links t.line counts
    → t.num * need_of t.line ≤ over_modules links (λ e m. t.num * (entry t.line.coefs e m * entry counts e m))
term_met links counts t meets =
    let sum = over_modules links (λ e m. entry t.line.coefs e m * entry counts e m) in
    let least : t.num * need_of t.line ≤ t.num * sum = mul-le-mul_left t.num (omega (arith, meets)) in
    omega (arith, least, over-times links t.num (λ e m. entry t.line.coefs e m * entry counts e m))

-- counts meet the sum of lines that they meet
pub sum_met : (links : List Link) (counts : List (List ℕ)) (terms : List WeightedLine) → AllByRecursion (λ t. MeetsLine links t.line counts) terms
    → summed_need terms ≤ over_modules links (λ e m. module_price terms e m * entry counts e m)
sum_met links counts [] met = omega arith
sum_met links counts (t ∷ ts) met =
    let first : ℕ → ℕ → ℕ = λ e m. t.num * (entry t.line.coefs e m * entry counts e m) in
    let rest : ℕ → ℕ → ℕ = λ e m. module_price ts e m * entry counts e m in
    let each = over-same links (λ e m. module_price (t ∷ ts) e m * entry counts e m) (λ e m. first e m + rest e m)
    (λ e m here inside. ap (λ n. n * entry counts e m) (sum_by-cons (λ (x : WeightedLine). x.num * entry x.line.coefs e m) t ts) ∙ omega arith) in
    omega (arith, term_met links counts t met.0, sum_met links counts ts met.1, each, over-plus links first rest, sum_by-cons (λ (x : WeightedLine). x.num * need_of x.line) t ts)

-- what is needed is met by numbers that are capped there
pub capped_met : (links : List Link) (need : ℕ) (f x : ℕ → ℕ → ℕ) → need ≤ over_modules links (λ e m. f e m * x e m) → need ≤ over_modules links (λ e m. min (f e m) need * x e m)
capped_met links need f x met =
    omega (arith, met, over_min links need (λ e m. f e m * x e m) (λ e m. min (f e m) need * x e m) (λ e m here inside. capped_term (f e m) (x e m) need))

-- ---- rounding up

-- the quotient that is rounded up, between its neighbours
up_between : (n d : ℕ) → 1 ≤ d → (n ≤ d * divided_up n d) × (d * divided_up n d < n + d)
up_between n d positive =
    let whole : d * ((n + d - 1) / d) + (n + d - 1) % d ≡ n + d - 1 = div-add-mod (n + d - 1) d in
    let rest : (n + d - 1) % d < d = mod_below (n + d - 1) d (omega (arith, positive)) in
    (omega (arith, whole, rest, positive), omega (arith, whole, rest, positive))

-- it is the least number that times the divisor reaches the number
up_least : (n d k : ℕ) → 1 ≤ d → n ≤ d * k → divided_up n d ≤ k
up_least n d k positive h = ⊎_elim
    (λ (more : k < divided_up n d).
    let times : d * (k + 1) ≤ d * divided_up n d = mul-le-mul_left d (omega (arith, more)) in
    omega (arith, times, h, (up_between n d positive).1))
    (λ (few : divided_up n d ≤ k). few)
    (cases_lt k (divided_up n d))

-- a quotient with one more where a rest is left is the quotient rounded up
pub up_is : (n d : ℕ) → 1 ≤ d → n / d + min 1 (n % d) ≡ divided_up n d
up_is n d positive =
    let own = div_ceil_times n d (omega (arith, positive)) in
    let up = up_between n d positive in
    let q : ℕ = n / d + min 1 (n % d) in
    let low : divided_up n d ≤ q = up_least n d q positive (omega (arith, own.0)) in
    let high : q ≤ divided_up n d = ⊎_elim
    (λ (more : divided_up n d < q).
    let times : d * (divided_up n d + 1) ≤ d * q = mul-le-mul_left d (omega (arith, more)) in
    omega (arith, times, own.1, up.0))
    (λ (few : q ≤ divided_up n d). few)
    (cases_lt (divided_up n d) q) in
    omega (arith, low, high)

-- numbers that are divided and rounded up meet what is divided and rounded up
pub divided_met : (links : List Link) (need d : ℕ) (f x : ℕ → ℕ → ℕ) → 1 ≤ d → need ≤ over_modules links (λ e m. f e m * x e m)
    → divided_up need d ≤ over_modules links (λ e m. divided_up (f e m) d * x e m)
divided_met links need d f x positive met =
    let each : (e m : ℕ) → e < length links → m < module_number links e → f e m * x e m ≤ d * (divided_up (f e m) d * x e m) = λ e m here inside.
    let times : x e m * f e m ≤ x e m * (d * divided_up (f e m) d) = mul-le-mul_left (x e m) (up_between (f e m) d positive).0 in
    omega (arith, times) in
    up_least need d (over_modules links (λ e m. divided_up (f e m) d * x e m)) positive (
    omega (
      arith,
      met,
      over-le links (λ e m. f e m * x e m) (λ e m. d * (divided_up (f e m) d * x e m)) each,
      over-times links d (λ e m. divided_up (f e m) d * x e m),
    ))

-- ---- divided lines

named_met : (names : ℕ → Inequality → Type 0) (P : Inequality → Type 0) → ((i : ℕ) (l : Inequality) → names i l → P l)
    → (ms : List Multiplier) (terms : List WeightedLine) → AreNamedBy names ms terms → AllByRecursion (λ t. P t.line) terms
named_met names P met [] [] named = tt
named_met names P met [] (t ∷ ts) named = absurd named
named_met names P met (m ∷ ms) [] named = absurd named
named_met names P met (m ∷ ms) (t ∷ ts) named = (met m.cut t.line named.0.0, named_met names P met ms ts named.1)

-- counts that meet the lines that indices name meet the divided line of them
pub divided_line_met : (links : List Link) (counts : List (List ℕ)) (names : ℕ → Inequality → Type 0) → ((i : ℕ) (l : Inequality) → names i l → MeetsLine links l counts)
    → (divisor : ℕ) (ms : List Multiplier) (made : Inequality) → IsDividedLine links names divisor ms made → MeetsLine links made counts
divided_line_met links counts names met divisor ms made is =
    let need = summed_need is.terms in
    let price : ℕ → ℕ → ℕ = λ e m. module_price is.terms e m in
    let x : ℕ → ℕ → ℕ = λ e m. entry counts e m in
    let summed : need ≤ over_modules links (λ e m. price e m * x e m) = sum_met links counts is.terms (named_met names (λ l. MeetsLine links l counts) met ms is.terms is.named) in
    let capped : need ≤ over_modules links (λ e m. min (price e m) need * x e m) = capped_met links need price x summed in
    let divided : divided_up need divisor ≤ over_modules links (λ e m. divided_up (min (price e m) need) divisor * x e m) = divided_met links need divisor (λ e m. min (price e m) need) x is.positive capped in
    let coef : ℕ → ℕ → ℕ = λ e m. divided_up (min (price e m) need) divisor in
    let same : over_modules links (λ e m. entry (table_of links coef) e m * x e m) ≡ over_modules links (λ e m. coef e m * x e m) =
    over-same links _ _ (λ e m here inside. ap (λ n. n * x e m) (table_entry links coef e m here inside)) in
    let line_met : MeetsLine links (divided_line links divisor is.terms) counts = omega (arith, divided, same) in
    subst (λ l. MeetsLine links l counts) (sym is.is) line_met
