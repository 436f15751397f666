-- a demand that is separated where nothing fails
use Rattle.std.{proofs.Common.{◌≡◌, ℕ, List, [], ◌++◌, refl, subst}, specs.Option.option_map_or}
use Rattle.plan_terms.specs.Terms.{Demand, IsFirstSeparation, Network}
use Rattle.plan_report.specs.Terms.{demand_name}
use Rattle.outside_io.specs.declared.status.Status.TheVariants.{NotSurvivable}
use Rattle.failure_texts.specs.Fates.{with_states}
use Rattle.people_commands.{specs.Endings.{SaysApart, apart_words}, specs.inner.Causes.apart_line}

-- its name is that of the demand at its place
name_at : (net : Network) (demands : List Demand) (k : ℕ) (name : List ℕ) (first : IsFirstSeparation (with_states net demands []) 0 k) → name ≡ demand_name demands k
    → name ≡ first.separates.demand.name
name_at net demands k name first is = subst (λ d. name ≡ option_map_or (λ e. e.name) d []) first.separates.at is

-- the message of such a demand
pub says_apart : (net : Network) (demands : List Demand) (k : ℕ) (name : List ℕ) → IsFirstSeparation (with_states net demands []) 0 k → name ≡ demand_name demands k
    → (message : List ℕ) → message ≡ apart_words name ++ apart_line name → SaysApart net demands NotSurvivable message
says_apart net demands k name first is message printed =
    let same = name_at net demands k name first is in
    let line : apart_line name ≡ apart_line first.separates.demand.name = subst (λ n. apart_line name ≡ apart_line n) same refl in
    let whole : message ≡ apart_words first.separates.demand.name ++ apart_line name = subst (λ n. message ≡ apart_words n ++ apart_line name) same printed in
    (refl, (apart_line name, record { state = 0; place = k; first = first; printed = line }, whole))
