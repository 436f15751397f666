-- gains of modules, and their sums
use Rattle.std.specs.Prelude.{◌≡◌, ℕ, ◌+◌, ◌*◌, ◌<◌, ◌≤◌, ◌^◌, Option, None, Some}
use Rattle.plan_terms.specs.Terms.{sum_below}
use Rattle.line_check.specs.Terms.{module_number, module_price, weighed}
use Rattle.tree_check.{specs.BoxValues.{IsBounded, IsBoxValue, gain_by, loss_by, module_charge, module_gain, module_loss}, specs.Boxes.span_at, specs.declared.gains.Gain.Gain, specs.declared.gains.Gains.Gains, specs.declared.weighing.Weighing.Weighing, specs.declared.boxes.Span.Span, specs.declared.total.Total.Total, specs.inner.Totals.of_parts}

-- the number that a sum in two parts means
abbrev pub total_of : Total → ℕ
total_of t = of_parts t.high t.low

-- the gain and the loss of a module that is bounded, and none where it isn't
abbrev pub IsGainOf : ℕ → ℕ → Span → Option Gain → Type 0
IsGainOf charge price s None = IsBounded charge price s → ⊥
IsGainOf charge price s (Some g) = IsBounded charge price s × (g.gain ≡ gain_by charge price s) × (g.loss ≡ loss_by charge price s)

-- module m of link e is bounded
abbrev pub IsBoundedIn : Weighing → ℕ → ℕ → Type 0
IsBoundedIn w e m =
    IsBounded (module_charge w.links.now w.den e m) (module_price (weighed w.tested.now w.lines.now) e m) (span_at w.boxed.now e m)

-- what it adds
abbrev pub gain_in : Weighing → ℕ → ℕ → ℕ
gain_in w e m = module_gain w.links.now w.boxed.now w.den (weighed w.tested.now w.lines.now) e m

-- what it takes off
abbrev pub loss_in : Weighing → ℕ → ℕ → ℕ
loss_in w e m = module_loss w.links.now w.boxed.now w.den (weighed w.tested.now w.lines.now) e m

-- the gains so far with those of the first n modules of link e, all of them bounded
pub record AddsModules (w : Weighing) (e n : ℕ) (old new : Gains) : Type 0 where
  pub bounded : (m : ℕ) → m < n → IsBoundedIn w e m
  pub gains : total_of new.gains ≡ total_of old.gains + sum_below n (gain_in w e)
  pub losses : total_of new.losses ≡ total_of old.losses + sum_below n (loss_in w e)
  pub gains_high : new.gains.high ≤ old.gains.high + n * 2 ^ 64
  pub losses_high : new.losses.high ≤ old.losses.high + n * 2 ^ 64

-- the gains of the modules of the first n links, all of them bounded
pub record AreGainsOf (w : Weighing) (n : ℕ) (s : Gains) : Type 0 where
  pub bounded : (e m : ℕ) → e < n → m < module_number w.links.now e → IsBoundedIn w e m
  pub gains : total_of s.gains ≡ sum_below n (λ e. sum_below (module_number w.links.now e) (gain_in w e))
  pub losses : total_of s.losses ≡ sum_below n (λ e. sum_below (module_number w.links.now e) (loss_in w e))
  pub gains_high : s.gains.high ≤ n * 2 ^ 68
  pub losses_high : s.losses.high ≤ n * 2 ^ 68

-- the value that the lines have for the box
abbrev pub IsValueIn : Weighing → ℕ → Type 0
IsValueIn w value = IsBoxValue w.links.now w.boxed.now w.den (weighed w.tested.now w.lines.now) value
