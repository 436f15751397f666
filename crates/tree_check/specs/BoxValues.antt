-- what lines show about the counts of a box: a least cost, or that there are none
use Rattle.std.{specs.Prelude.{◌≢◌, ℕ, ◌+◌, ◌-◌, ◌*◌, ◌^◌, ◌≤◌, ◌<◌, List, All, Bool, IsSome, if◌then◌else◌, length, map, nat_lt, slice_index, sum_by, unwrap_or}, specs.List.list_any}
use Rattle.plan_terms.specs.Terms.{IsBound, Link, sum_below}
use Rattle.line_check.{specs.Terms.{AreNamedBy, WeightedLine, entry, module_number, module_price, over_modules}, specs.declared.inequality.Inequality.Inequality}
use Rattle.tree_check.{specs.Boxes.{span_at, spans_of}, specs.declared.boxes.Span.Span, specs.declared.proof.BoxCert.BoxCert}

-- ---- sums of a certificate

-- what the lines ask for
abbrev pub asked_right : List WeightedLine → ℕ
asked_right terms = sum_by (λ t. t.num * t.line.right) terms

-- what they are given without modules
abbrev pub given_free : List WeightedLine → ℕ
given_free terms = sum_by (λ t. t.num * t.line.given) terms

-- the cost of each module of each link
abbrev pub module_costs : List Link → List (List ℕ)
module_costs links = map (λ l. map (λ m. m.cost) l.modules) links

-- the cost of module m of link e, over the denominator
abbrev pub module_charge : List Link → ℕ → ℕ → ℕ → ℕ
module_charge links den e m = den * entry (module_costs links) e m

-- what the least count of a module that costs more than its price adds to the value
abbrev pub gain_by : ℕ → ℕ → Span → ℕ
gain_by charge price s = (charge - price) * s.least

-- what the greatest count of a module that costs less than its price takes off the value
abbrev pub loss_by : ℕ → ℕ → Span → ℕ
loss_by charge price s = (price - charge) * unwrap_or s.most 0

-- what module m of link e adds to the value of lines over a denominator
abbrev pub module_gain : List Link → List (List Span) → ℕ → List WeightedLine → ℕ → ℕ → ℕ
module_gain links box den terms e m = gain_by (module_charge links den e m) (module_price terms e m) (span_at box e m)

-- what it takes off
abbrev pub module_loss : List Link → List (List Span) → ℕ → List WeightedLine → ℕ → ℕ → ℕ
module_loss links box den terms e m = loss_by (module_charge links den e m) (module_price terms e m) (span_at box e m)

-- what all least counts add
abbrev pub all_gains : List Link → List (List Span) → ℕ → List WeightedLine → ℕ
all_gains links box den terms = over_modules links (module_gain links box den terms)

-- what all greatest counts take off
abbrev pub all_losses : List Link → List (List Span) → ℕ → List WeightedLine → ℕ
all_losses links box den terms = over_modules links (module_loss links box den terms)

-- a least count is positive, so that all counts of the spans install something
abbrev pub installs_always : List Span → Bool
installs_always spans = list_any (λ s. nat_lt 0 s.least) spans

-- the setup of link e where all counts of the box install something there, else 0
abbrev pub certain_setup : List Link → List (List Span) → ℕ → ℕ
certain_setup links box e = if installs_always (spans_of box e) then slice_index (map (λ l. l.setup) links) e else 0

-- such setups of all links
abbrev pub certain_setups : List Link → List (List Span) → ℕ
certain_setups links box = sum_below (length links) (certain_setup links box)

-- all that adds to the value, over the denominator
abbrev pub value_gains : List Link → List (List Span) → ℕ → List WeightedLine → ℕ
value_gains links box den terms = asked_right terms + all_gains links box den terms + den * certain_setups links box

-- all that is taken off
abbrev pub value_losses : List Link → List (List Span) → ℕ → List WeightedLine → ℕ
value_losses links box den terms = given_free terms + all_losses links box den terms

-- ---- certificates and values

-- two numbers are less than 2^126 apart
pub record AreNear (a b : ℕ) : Type 0 where
  pub above : a < b + 2 ^ 126
  pub under : b < a + 2 ^ 126

-- a module whose price is more than its cost has a greatest count, and its numbers are below 2^126
pub record IsBounded (charge price : ℕ) (s : Span) : Type 0 where
  pub bounded : charge < price → IsSome s.most
  pub price_limit : price < 2 ^ 126
  pub gain_limit : gain_by charge price s < 2 ^ 126
  pub loss_limit : loss_by charge price s < 2 ^ 126

-- Lines with numerators over a denominator are a certificate of a box: their numbers and sums keep their limits.
pub record IsBoxCertificate (links : List Link) (box : List (List Span)) (den : ℕ) (terms : List WeightedLine) : Type 0 where
  pub positive : 1 ≤ den
  pub den_limit : den < 2 ^ 72
  pub nums : All (λ t. t.num < 2 ^ 62) terms
  pub asked_limit : asked_right terms < 2 ^ 126
  pub given_limit : given_free terms < 2 ^ 126
  pub modules : (e m : ℕ) → e < length links → m < module_number links e → IsBounded (module_charge links den e m) (module_price terms e m) (span_at box e m)
  pub modules_limit : AreNear (all_gains links box den terms) (all_losses links box den terms)
  pub value_limit : AreNear (value_gains links box den terms) (value_losses links box den terms)

-- The box value: what is left over the denominator, raised to 0, and rounded up to a multiple of the greatest common divisor of all charges.
pub record IsBoxValue (links : List Link) (box : List (List Span)) (den : ℕ) (terms : List WeightedLine) (value : ℕ) : Type 0 where
  pub certificate : IsBoxCertificate links box den terms
  pub rounded : IsBound links (value_gains links box den terms - value_losses links box den terms) den value

-- a certificate by indices of lines has a value for a box
pub record HasBoxValue (names : ℕ → Inequality → Type 0) (links : List Link) (box : List (List Span)) (cert : BoxCert) (value : ℕ) : Type 0 where
  pub terms : List WeightedLine
  pub named : AreNamedBy names cert.lines terms
  pub is : IsBoxValue links box cert.den terms value

-- ---- emptied boxes

-- the greatest counts of a box, times their coefficients
abbrev pub most_along : List Link → List (List Span) → Inequality → ℕ
most_along links box line = over_modules links (λ e m. entry line.coefs e m * unwrap_or (span_at box e m).most 0)

-- A line empties a box: each module of positive coefficient has a greatest count, and these counts don't meet the line.
pub record IsEmptiedBy (links : List Link) (box : List (List Span)) (line : Inequality) : Type 0 where
  pub bounded : (e m : ℕ) → e < length links → m < module_number links e → entry line.coefs e m ≢ 0 → IsSome (span_at box e m).most
  pub short : line.given + most_along links box line < line.right
