-- rows, one more after another
use Rattle.std.proofs.Common.{◌≡◌, ℕ, zero, suc, ◌+◌, List, [], ◌∷◌, ◌++◌, None, Some, ◌⊎◌, inl, inr, length, length-append, slice_get, refl, ap, subst, arith, ⊎_elim}
use Rattle.net_core.proofs.Library.{slice_get_within}
use Rattle.plan_terms.specs.Terms.{Case, Link, Routing}
use Rattle.plan_types.specs.declared.plan.Plan.{Plan}
use Rattle.plan_view.{specs.Rows.{AreLinkRows, AreLoadRows, AreStateRows, IsLinkRow, IsLoadRow, IsRowAt, IsStateRow}, specs.declared.rows.LinkRow.LinkRow, specs.declared.rows.LoadRow.LoadRow, specs.declared.rows.StateRow.StateRow}

-- what is at a place of a list with one item more
pub pushed : {X : Type 0} (xs : List X) (x : X) (k : ℕ) (y : X) → slice_get (xs ++ x ∷ []) k ≡ Some y → (slice_get xs k ≡ Some y) ⊎ ((k ≡ length xs) × (x ≡ y))
pushed [] x zero y same = inr (refl, let e : Some x ≡ Some y = same in cc e)
pushed [] x (suc k) y same = absurd (let e : None ≡ Some y = same in cc e)
pushed (z ∷ xs) x zero y same = inl same
pushed (z ∷ xs) x (suc k) y same = ⊎_elim (λ h. inl h) (λ h. inr (ap suc h.0, h.1)) (pushed xs x k y same)

pub links_none : (links : List Link) (plan : Plan) → AreLinkRows links plan 0 []
links_none links plan = record { long = refl; each = λ e row there. absurd (let lt = slice_get_within [] e row there in omega (arith, lt)) }

pub links_more : (links : List Link) (plan : Plan) (n : ℕ) (rows : List LinkRow) (row : LinkRow) → AreLinkRows links plan n rows → IsRowAt links plan n row → AreLinkRows links plan (n + 1) (rows ++ row ∷ [])
links_more links plan n rows row are is = record {
  long = omega (arith, length-append rows (row ∷ []), are.long);
  each = λ e other there. ⊎_elim
      (λ h. are.each e other h)
      (λ h. let same : n ≡ e = omega (arith, h.0, are.long) in
      subst (λ i. IsRowAt links plan i other) same (subst (λ r. IsRowAt links plan n r) h.1 is))
      (pushed rows row e other there);
}

-- the row of the link and the counts at a place
pub row_from : (links : List Link) (plan : Plan) (e : ℕ) (l : Link) (c : List ℕ) (row : LinkRow) → slice_get links e ≡ Some l → slice_get plan.counts e ≡ Some c → IsLinkRow plan l c e row
    → IsRowAt links plan e row
row_from links plan e l c row at count is k d one two =
    let link : l ≡ k = cc (at, one) in
    let counts : c ≡ d = cc (count, two) in
    subst (λ x. IsLinkRow plan k x e row) counts (subst (λ x. IsLinkRow plan x c e row) link is)

pub states_none : (p : Case) (plan : Plan) → AreStateRows p plan 0 []
states_none p plan = record { long = refl; each = λ s row there. absurd (let lt = slice_get_within [] s row there in omega (arith, lt)) }

pub states_more : (p : Case) (plan : Plan) (n : ℕ) (rows : List StateRow) (row : StateRow) → AreStateRows p plan n rows → IsStateRow p plan n row → AreStateRows p plan (n + 1) (rows ++ row ∷ [])
states_more p plan n rows row are is = record {
  long = omega (arith, length-append rows (row ∷ []), are.long);
  each = λ s other there. ⊎_elim
      (λ h. are.each s other h)
      (λ h. let same : n ≡ s = omega (arith, h.0, are.long) in
      subst (λ i. IsStateRow p plan i other) same (subst (λ r. IsStateRow p plan n r) h.1 is))
      (pushed rows row s other there);
}

pub loads_none : (capacities : List ℕ) (routing : Routing) → AreLoadRows capacities routing 0 []
loads_none capacities routing = record { long = refl; each = λ e row there. absurd (let lt = slice_get_within [] e row there in omega (arith, lt)) }

pub loads_more : (capacities : List ℕ) (routing : Routing) (n : ℕ) (rows : List LoadRow) (row : LoadRow) → AreLoadRows capacities routing n rows → IsLoadRow capacities routing n row
    → AreLoadRows capacities routing (n + 1) (rows ++ row ∷ [])
loads_more capacities routing n rows row are is = record {
  long = omega (arith, length-append rows (row ∷ []), are.long);
  each = λ e other there. ⊎_elim
      (λ h. are.each e other h)
      (λ h. let same : n ≡ e = omega (arith, h.0, are.long) in
      subst (λ i. IsLoadRow capacities routing i other) same (subst (λ r. IsLoadRow capacities routing n r) h.1 is))
      (pushed rows row e other there);
}

-- the rows of all links in a state, by its routing and the capacities
pub loads_are : (capacities caps : List ℕ) (routing r : Routing) (n : ℕ) (rows : List LoadRow) → caps ≡ capacities → r ≡ routing → length caps ≡ n → AreLoadRows caps r (length caps) rows
    → AreLoadRows capacities routing n rows
loads_are capacities caps routing r n rows same is long are =
    subst (λ xs. AreLoadRows xs routing n rows) same (subst (λ x. AreLoadRows caps x n rows) is (subst (λ k. AreLoadRows caps r k rows) long are))
