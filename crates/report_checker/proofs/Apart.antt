-- distances that tell whether nodes are apart
use Rattle.std.proofs.Common.{ℕ, ◌≡◌, ◌<◌, ◌∙◌, List, Option, None, Some, Bool, length, refl, sym, ap, slice_get, subst, ◌↔◌, IsTrue, IfOk, Result, Ok, Err}
use Rattle.net_core.proofs.Library.{slice_get_within}
use Rattle.plan_terms.specs.Terms.{Demand, NoMemory, Case, graph_in, Joins, AreApart, IsDistance}
use Rattle.plan_checker.{specs.Terms.HoldsNone, specs.declared.finding.Finding.TheVariants.Survivable}
use Rattle.report_checker.{specs.Outcomes.{HoldsSurvivable, SeparatesNamed}, specs.inner.Said.IsSaidSeparation}

-- nodes are apart where there is no distance
pub told_apart : (joins : ℕ → ℕ → ℕ → Type 0) (lengths : List ℕ) (a b : ℕ) (far : Option ℕ) (r : Bool) → (IsTrue r ↔ (far ≡ None)) → IsDistance joins lengths a b far → IsTrue r ↔ AreApart joins a b
told_apart joins lengths a b None r is distance = (λ _. distance, λ _. is.1 refl)
told_apart joins lengths a b (Some d) r is distance = (λ yes. let no : Some d ≡ None = is.0 yes in absurd cc no, λ apart. absurd (apart distance.0.0 distance.0.1))

-- a demand of this name that has a need is separated exactly where its ends are apart
pub told_separated : (p : Case) (state : ℕ) (name : List ℕ) (k : ℕ) (d : Demand) (r : Result Bool NoMemory) → slice_get p.demands k ≡ Some d → d.name ≡ name → 0 < d.need
    → IfOk r (λ b. IsTrue b ↔ AreApart (Joins (graph_in p state)) d.from.0 d.to.0) → IfOk r (λ b. IsTrue b ↔ IsSaidSeparation p state name k)
told_separated p state name k d (Err e) at named needed is = tt
told_separated p state name k d (Ok b) at named needed is = (
  λ yes. (record { demand = d; at = at; needed = needed; apart = is.0 yes }, named),
  λ found. let same : found.0.demand ≡ d = cc (at, found.0.at) in
      is.1 (subst (λ (x : Demand). AreApart (Joins (graph_in p state)) x.from.0 x.to.0) same found.0.apart),
)

-- the demand at a place is the one that is separated there
pub its_demand : (p : Case) (state : ℕ) (name : List ℕ) (k : ℕ) (d : Demand) → slice_get p.demands k ≡ Some d → IsSaidSeparation p state name k → (d.name ≡ name) × (0 < d.need)
its_demand p state name k d at found =
    let same : found.0.demand ≡ d = cc (at, found.0.at) in
    (sym (ap (λ (x : Demand). x.name) same) ∙ found.1, subst (λ (x : Demand). 0 < x.need) same found.0.needed)

-- the first demand of the name that is separated
pub none_named : (p : Case) (state : ℕ) (name : List ℕ) → ((k : ℕ) → k < length p.demands → IsSaidSeparation p state name k → ⊥) → SeparatesNamed p state name → ⊥
none_named p state name none found =
    none found.place (slice_get_within p.demands found.place found.separates.demand found.separates.at) (found.separates, found.named)

pub no_survivable : (p : Case) (state : ℕ) (name : List ℕ) → SeparatesNamed p state name → HoldsNone (HoldsSurvivable p state name)
no_survivable p state name found Survivable h = h found
no_survivable p state name found _ h = h
