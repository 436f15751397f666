-- demands with another need of one of them
use Rattle.std.proofs.Common.{◌≡◌, ◌≢◌, ◌<◌, ℕ, List, cond, get_or, length, map, refl, sym, ap, ◌∙◌, arith, AllPairs}
use Rattle.net_core.{proofs.Library.{cond_both, get_or-map, length-map}, specs.declared.demand.Demand.Demand, specs.Terms.are_same}
use Rattle.plan_terms.specs.Edits.{set_need}

abbrev pub with_need : ℕ → Demand → Demand
with_need need d = record { name = d.name; from = d.from; to = d.to; need = need }

-- the demand, with this need where it has this name
abbrev pub changed : List ℕ → ℕ → Demand → Demand
changed name need d = cond (are_same d.name name) (with_need need d) d

keeps_name : (name : List ℕ) (need : ℕ) (d : Demand) → (changed name need d).name ≡ d.name
keeps_name name need d = cond_both (are_same d.name name) (with_need need d) d (λ x. x.name ≡ d.name) (λ _. refl) (λ _. refl)

-- names that differ still do
pub set_different : (name : List ℕ) (need : ℕ) (ds : List Demand) → AllPairs (λ x y. x.name ≢ y.name) ds → AllPairs (λ x y. x.name ≢ y.name) (set_need name need ds)
set_different name need ds all = λ i j d below lt same.
    let f = changed name need in
    let within : j < length ds = omega (arith, lt, length-map ds f) in
    let first : (get_or (map f ds) i d).name ≡ (get_or ds i d).name = ap (λ (x : Demand). x.name) (get_or-map f ds i d d (omega (arith, below, within))) ∙ keeps_name name need (get_or ds i d) in
    let second : (get_or (map f ds) j d).name ≡ (get_or ds j d).name = ap (λ (x : Demand). x.name) (get_or-map f ds j d d within) ∙ keeps_name name need (get_or ds j d) in
    all i j d below within (sym first ∙ (same ∙ second))
