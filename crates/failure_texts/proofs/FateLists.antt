-- fates, one more after another
use Rattle.std.proofs.Common.{◌≡◌, ℕ, zero, suc, ◌+◌, ◌<◌, List, [], ◌∷◌, ◌++◌, None, Some, ◌⊎◌, inl, inr, length, length-append, slice_get, get_or, All, refl, sym, ap, subst, arith, ⊎_elim}
use Rattle.net_core.proofs.Library.{slice_get-get_or, slice_get_read, slice_get_within}
use Rattle.plan_terms.specs.Terms.{Demand, Link, Network}
use Rattle.failure_texts.{specs.Fates.{AreFates, IsFate}, specs.declared.fates.Fate.Fate}

-- an item of a list with one added at its end is the list's item at the same place, or the added one
pushed : {X : Type 0} (xs : List X) (x : X) (k : ℕ) (y : X) → slice_get (xs ++ x ∷ []) k ≡ Some y → (slice_get xs k ≡ Some y) ⊎ ((k ≡ length xs) × (x ≡ y))
pushed [] x zero y same = inr (refl, let e : Some x ≡ Some y = same in cc e)
pushed [] x (suc k) y same = absurd (let e : None ≡ Some y = same in cc e)
pushed (z ∷ xs) x zero y same = inl same
pushed (z ∷ xs) x (suc k) y same = ⊎_elim (λ h. inl h) (λ h. inr (ap suc h.0, h.1)) (pushed xs x k y same)

pub none_told : (net : Network) (demands : List Demand) → AreFates net demands 0 []
none_told net demands = record { long = refl; each = λ e l f one there. absurd (let lt = slice_get_within [] e f there in omega (arith, lt)) }

pub more_told : (net : Network) (demands : List Demand) (n : ℕ) (fates : List Fate) (link : Link) (fate : Fate) → AreFates net demands n fates
    → slice_get net.links n ≡ Some link → IsFate net demands n link fate → AreFates net demands (n + 1) (fates ++ fate ∷ [])
more_told net demands n fates link fate are at is = record {
  long = omega (arith, length-append fates (fate ∷ []), are.long);
  each = λ e l other one there. ⊎_elim
      (λ h. are.each e l other one h)
      (λ h. let same : e ≡ n = omega (arith, h.0, are.long) in
      let here : link ≡ l = cc (at, subst (λ k. slice_get net.links k ≡ Some l) same one) in
      subst (λ k. IsFate net demands k l other) (sym same) (subst (λ f. IsFate net demands n l f) h.1 (subst (λ x. IsFate net demands n x fate) here is)))
      (pushed fates fate e other there);
}

abbrev no_link : Link
no_link = record { name = []; a = record { 0 = 0 }; b = record { 0 = 0 }; fixed = 0; setup = 0; modules = [] }

-- the fates of all links are of links that are there
pub fates_inside : (net : Network) (demands : List Demand) (fates : List Fate) (links : List Link) → links ≡ net.links → AreFates net demands (length net.links) fates → All (λ f. f.link.0 < length links) fates
fates_inside net demands fates links is are k d lt =
    let within : k < length net.links = omega (arith, lt, are.long) in
    let fate = are.each k (get_or net.links k no_link) (get_or fates k d) (slice_get-get_or net.links k no_link within) (slice_get-get_or fates k d lt) in
    omega (arith, fate.of_link, within, ap length is)

-- a link that is read from a list equal to the network's links is the network's link of that index
pub link_at : (links others : List Link) (e : ℕ) (link : Link) → links ≡ others → e < length links → link ≡ get_or links e link → slice_get others e ≡ Some link
link_at links others e link same within is = subst (λ ls. slice_get ls e ≡ Some link) same (slice_get_read links (length links) e link refl within is)
