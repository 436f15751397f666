-- lists of demands that don't differ are one
use Rattle.std.proofs.Common.{◌≡◌, ◌≢◌, ◌==◌, ◌&&◌, Bool, true, ℕ, List, ap, sym, ◌∙◌, refl, ⊎_elim}
use Rattle.net_core.proofs.Library.{Decides-and, Decides-eqb, bytes_eq-Decides, cases_Bool, false≢true, pointwise, slice_eq-Decides}
use Rattle.plan_terms.specs.Terms.{Demand, are_same}

-- a demand by its parts
abbrev demand_of : List ℕ → ℕ → ℕ → ℕ → Demand
demand_of name from to need = record { name = name; from = record { 0 = from }; to = record { 0 = to }; need = need }

parts_same : (n m : List ℕ) (f g t u k l : ℕ) → n ≡ m → f ≡ g → t ≡ u → k ≡ l → demand_of n f t k ≡ demand_of m g u l
parts_same n m f g t u k l p q r s =
    ap (λ x. demand_of x f t k) p ∙ (ap (λ x. demand_of m x t k) q ∙ (ap (λ x. demand_of m g x k) r ∙ ap (λ x. demand_of m g u x) s))

-- the test of the parts of two demands
abbrev parts_eq : Demand → Demand → Bool
parts_eq a b = are_same a.name b.name && ((a.from.0 == b.from.0) && ((a.to.0 == b.to.0) && (a.need == b.need)))

-- it decides whether they are one
demands_decided : (a b : Demand) → (parts_eq a b ≡ true → a ≡ b) × (a ≡ b → parts_eq a b ≡ true)
demands_decided a b =
    let parts = Decides-and _ _ (bytes_eq-Decides a.name b.name) (Decides-and _ _ (Decides-eqb a.from.0 b.from.0) (Decides-and _ _ (Decides-eqb a.to.0 b.to.0) (Decides-eqb a.need b.need))) in (
      λ all. let is = parts.0 all in parts_same a.name b.name a.from.0 b.from.0 a.to.0 b.to.0 a.need b.need is.0 is.1.0 is.1.1.0 is.1.1.1,
      λ same. parts.1 (ap (λ d. d.name) same, (ap (λ d. d.from.0) same, (ap (λ d. d.to.0) same, ap (λ d. d.need) same))),
    )

pub same_demands : (a b : List Demand) → (a ≢ b → ⊥) → a ≡ b
same_demands a b alike =
    let decided = slice_eq-Decides demands_decided a b (pointwise parts_eq a b) refl in
    ⊎_elim decided.0 (λ other. absurd (alike (λ same. false≢true (sym other ∙ decided.1 same)))) (cases_Bool (pointwise parts_eq a b))
