-- a line over its divisor is narrow
use Rattle.std.proofs.Common.{◌≡◌, ◌≢◌, ⊎_elim, ℕ, ◌+◌, ◌-◌, ◌*◌, ◌^◌, ◌<◌, ◌≤◌, List, [], ◌∷◌, false, length, refl, ap, subst, sym, ◌∙◌, arith, inr, div-lt_iff_lt-mul}
use Rattle.net_core.proofs.Library.{All-cons, All-nil, cases_eq, le-div, sum_by-cons}
use Rattle.plan_terms.specs.Terms.{Case, Link}
use Rattle.line_check.{specs.Terms.{WeightedLine, entry, module_price, need_of, summed_need, IsDividedLine, divided_line, divided_up, IsTestedAs, names_by, test_at, weighed, Multiplier}, specs.declared.inequality.Inequality.Inequality, specs.declared.line.Line.Line, specs.declared.tested_lines.Tested.Tested}
use Rattle.table_maker.specs.Made.{HasLineOver, IsWideLine, MayCarryTable, line_over}

-- a quotient that is rounded up is between 1 and what it is of
up_some : (n d : ℕ) → 1 ≤ d → 1 ≤ n → 1 ≤ divided_up n d
up_some n d positive some = le-div 1 (n + d - 1) d (omega (arith, positive)) (omega (arith, positive, some))

up_few : (n d k : ℕ) → 1 ≤ d → n ≤ k * d → divided_up n d ≤ k
up_few n d k positive few =
    let next : (k + 1) * d ≡ k * d + d = omega arith in
    let below : divided_up n d < k + 1 = (div-lt_iff_lt-mul {k = d} {x = n + d - 1} {y = k + 1} (omega (arith, positive))).1 (omega (arith, next, few, positive)) in
    omega (arith, below)

module _ (p : Case) (tested : List Tested) (i divisor : ℕ) where
  abbrev once : List Multiplier
  once = record { num = 1; cut = i } ∷ []

  abbrev own : Inequality
  own = (test_at tested i).line

  need_once : summed_need (weighed tested once) ≡ need_of own
  need_once = omega (arith, sum_by-cons (λ (t : WeightedLine). t.num * need_of t.line) (record { line = own; num = 1 }) [])

  price_once : (e m : ℕ) → module_price (weighed tested once) e m ≡ entry own.coefs e m
  price_once e m = omega (arith, sum_by-cons (λ (t : WeightedLine). t.num * entry t.line.coefs e m) (record { line = own; num = 1 }) [])

  made_over : i < length tested → IsWideLine p.links (test_at tested i) → 1 ≤ divisor → divisor ≤ need_of own
      → IsDividedLine p.links (names_by tested false) divisor once (divided_line p.links divisor (weighed tested once))
  made_over inside wide positive low = record {
    terms = weighed tested once;
    named = (((inside, wide.sound, refl), refl), tt);
    some = omega arith;
    few = omega arith;
    nums = All-cons (λ (m : Multiplier). (1 ≤ m.num) × (m.num < 2 ^ 62)) (record { num = 1; cut = i }) [] (omega arith, omega arith) (All-nil _);
    positive = positive;
    divisor_limit = omega (arith, low, wide.need_limit);
    need_limit = omega (arith, need_once, wide.need_limit);
    price_limit = λ e m e_lt m_lt. omega (arith, price_once e m, wide.coef_limit e m e_lt m_lt);
    is = refl;
  }

  -- a wide line over a divisor that is large enough is narrow
  pub narrow_over : (t : Tested) → i < length tested → IsWideLine p.links (test_at tested i) → 1 ≤ divisor → divisor ≤ need_of own → need_of own ≤ 4096 * divisor
      → IsTestedAs p tested (inr (line_over i divisor)) t → MayCarryTable t
  narrow_over t inside wide positive low enough is =
      let told = (is false (divided_line p.links divisor (weighed tested once))).0 (made_over inside wide positive low) in
      let right : (divided_line p.links divisor (weighed tested once)).right ≡ t.line.right = ap (λ (l : Inequality). l.right) told.1 in
      let given : 0 ≡ t.line.given = ap (λ (l : Inequality). l.given) told.1 in
      let need : divided_up (need_of own) divisor ≡ need_of t.line = ap (λ n. divided_up n divisor) (sym need_once) ∙ omega (arith, right, given) in (
        told.0,
        omega (arith, need, up_some (need_of own) divisor positive (omega (arith, wide.wide))),
        omega (arith, need, up_few (need_of own) divisor 4096 positive enough),
      )

-- a line more
pub over_more : (links : List Link) (tested : List Tested) (old new : List Line) (i : ℕ) → ((k : ℕ) → HasLineOver links tested old k → HasLineOver links tested new k)
    → (IsWideLine links (test_at tested i) → HasLineOver links tested new i) → ((k : ℕ) → k < i → IsWideLine links (test_at tested k) → HasLineOver links tested old k)
    → (k : ℕ) → k < i + 1 → IsWideLine links (test_at tested k) → HasLineOver links tested new k
over_more links tested old new i kept next so_far k lt wide = ⊎_elim
    (λ (is : k ≡ i). subst (HasLineOver links tested new) (sym is) (next (subst (λ j. IsWideLine links (test_at tested j)) is wide)))
    (λ (other : k ≢ i). kept k (so_far k (omega (arith, lt, other)) wide))
    (cases_eq k i)
