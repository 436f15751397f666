-- a flow that takes along its path what is left there
use Rattle.std.proofs.Common.{◌≡◌, ℕ, ◌+◌, ◌<◌, ◌⊎◌, inl, inr, ◌++◌, ◌∷◌, [], List, All, Any, cond, eqb, true, length, get_or, ⊎_elim, refl, sym, ap, subst, arith, eq-eqb}
use Rattle.net_core.proofs.Library.{list_any_at}
use Rattle.plan_terms.specs.Terms.{names_link, LinkId, Flow}
use Rattle.greedy_router.{specs.declared.draft.Draft.Draft, specs.inner.Drafts.Sends}

-- the path names the link at one of its places
named_at : (path : List LinkId) (i : ℕ) (e : LinkId) → i < length path → get_or path i e ≡ e → names_link e.0 path ≡ true
named_at path i e lt at = list_any_at (λ (x : LinkId). eqb x.0 e.0) path i e lt (subst (λ (x : LinkId). eqb x.0 e.0 ≡ true) (sym at) (eq-eqb e.0 e.0 refl))

pub sends_along : (k : ℕ) (path : List LinkId) (num : ℕ) (old : Draft) (flows : List Flow) (rest spares : List ℕ)
    → 0 < get_or old.rest k 0
    → All (λ e. 0 < get_or old.spares e.0 0) path
    → (num ≡ get_or old.rest k 0) ⊎ Any (λ e. num ≡ get_or old.spares e.0 0) path
    → flows ≡ old.flows ++ record { demand = k; path = path; num = num } ∷ []
    → length rest ≡ length old.rest
    → ((j : ℕ) → get_or rest j 0 + cond (eqb k j) num 0 ≡ get_or old.rest j 0)
    → length spares ≡ length old.spares
    → ((e : ℕ) → get_or spares e 0 + cond (names_link e path) num 0 ≡ get_or old.spares e 0)
    → Sends k path old (record { flows = flows; rest = rest; spares = spares })
sends_along k path num old flows rest spares missing some reached sent rests rest_is links spares_are = record {
  num = num;
  positive = ⊎_elim (λ same. subst (λ n. 0 < n) (sym same) missing)
      (λ hit. subst (λ n. 0 < n) (sym hit.4) (subst (λ (e : LinkId). 0 < get_or old.spares e.0 0) hit.3 (some hit.0 hit.1 hit.2))) reached;
  flows = sent;
  rests = rests;
  links = links;
  rest = rest_is;
  spares = spares_are;
  ends = ⊎_elim
      (λ same.
      let whole : cond (eqb k k) num 0 ≡ num = ap (λ b. cond b num 0) (eq-eqb k k refl) in
      inl (omega (arith, whole, same, rest_is k)))
      (λ hit.
      let whole : cond (names_link hit.1.0 path) num 0 ≡ num = ap (λ b. cond b num 0) (named_at path hit.0 hit.1 hit.2 hit.3) in
      inr (hit.0, hit.1, hit.2, hit.3, omega (arith, whole, hit.4, spares_are hit.1.0)))
      reached;
}
