-- the least of the modules' ratios, module by module and link by link
use Rattle.std.proofs.Common.{◌≡◌, ◌≢◌, ◌⊎◌, ℕ, ◌*◌, ◌≤◌, ◌<◌, List, [], ◌∷◌, All, Any, Some, get_or, length, slice_get, slice_index, ⊎_elim, refl, ◌∙◌, subst, arith, mul-pos}
use Rattle.net_core.proofs.Library.{slice_get-get_or, slice_get_within, get_or_default}
use Rattle.plan_terms.specs.Terms.{Link, Module, IsModule, IsLeastRatio}
use Rattle.metric_cut.{specs.declared.ratio.Ratio.Ratio, specs.Bounded.HaveBound, specs.inner.Ratios.{IsLeastOf, IsRatioOf, IsSmall}}

-- the ratio is that of a module of some link
pub record IsRatioAmong (links : List Link) (lengths : List ℕ) (r : Ratio) : Type 0 where
  pub number : ℕ
  pub link : Link
  pub at : slice_get links number ≡ Some link
  pub of : Any (IsRatioOf (slice_index lengths number) r) link.modules

-- no module of the first n links has a ratio below this one, which is infinite or that of a module
pub record IsLeastSoFar (links : List Link) (lengths : List ℕ) (n : ℕ) (r : Ratio) : Type 0 where
  pub before : (e : ℕ) (l : Link) → e < n → slice_get links e ≡ Some l → IsLeastOf l.modules (slice_index lengths e) r
  pub is : (r ≡ record { cost = 1; size = 0 }) ⊎ IsRatioAmong links lengths r
  pub small : IsSmall r

abbrev no_link : Link
no_link = record { name = []; a = record { 0 = 0 }; b = record { 0 = 0 }; fixed = 0; setup = 0; modules = [] }

-- none of the first n modules has a ratio below this one
abbrev pub IsLeastBefore : List Module → ℕ → ℕ → Ratio → Type 0
IsLeastBefore modules len n r = (k : ℕ) (d : Module) → k < n → k < length modules → r.cost * ((get_or modules k d).capacity * len) ≤ (get_or modules k d).cost * r.size

-- a list that is not empty has a first element
some_first : {X : Type 0} (xs : List X) → xs ≢ [] → (x : X) × (slice_get xs 0 ≡ Some x)
some_first [] some = absurd (some refl)
some_first (x ∷ xs) some = (x, refl)

-- a module of a link of positive length has a lesser ratio than the infinite one
not_infinite : (links : List Link) (lengths : List ℕ) (n : ℕ) → length links ≤ n → All (λ l. All IsModule l.modules) links → HaveBound links lengths → IsLeastSoFar links lengths n (record { cost = 1; size = 0 }) → ⊥
not_infinite links lengths n all sound bound so_far =
    let e = bound.positive.0 in
    let len : slice_index lengths e ≡ bound.positive.1 = get_or_default lengths e 0 bound.positive.1 bound.positive.2 ∙ bound.positive.3 in
    let inside : e < length links = omega (arith, bound.positive.2, bound.count) in
    let link = get_or links e no_link in
    let at : slice_get links e ≡ Some link = slice_get-get_or links e no_link inside in
    let first = some_first link.modules (bound.served e link at (λ z. omega (arith, z, len, bound.positive.4))) in
    let some : 0 < length link.modules = slice_get_within link.modules 0 first.0 first.1 in
    let m = get_or link.modules 0 first.0 in
    let carries : 0 < m.capacity = (sound e no_link inside 0 first.0 some).carries in
    let least : 1 * (m.capacity * slice_index lengths e) ≤ m.cost * 0 = so_far.before e link (omega (arith, inside)) at 0 first.0 some in
    let positive : 0 < m.capacity * slice_index lengths e = mul-pos carries (omega (arith, len, bound.positive.4)) in
    omega (arith, least, positive)

-- the least over all links
pub least_of_all : (links : List Link) (lengths : List ℕ) (n : ℕ) (r : Ratio) → length links ≤ n → All (λ l. All IsModule l.modules) links → HaveBound links lengths → IsLeastSoFar links lengths n r → IsLeastRatio links lengths r.cost r.size
least_of_all links lengths n r all sound bound so_far = ⊎_elim
    (λ infinite. absurd (not_infinite links lengths n all sound bound (subst (IsLeastSoFar links lengths n) infinite so_far)))
    (λ among.
    let of = among.of.4 in
    record {
      positive = of.some;
      number = among.number;
      link = among.link;
      at = among.at;
      reached = (among.of.0, among.of.1, among.of.2, among.of.3, (of.cost, of.size));
      least = λ e l at. so_far.before e l (omega (arith, slice_get_within links e l at)) at;
    })
    so_far.is
