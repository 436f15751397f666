-- the arc of least link number, among those that lead on along a shortest path
use Rattle.std.proofs.Common.{◌≡◌, ℕ, ◌+◌, ◌<◌, ◌≤◌, List, length, get_or, take, Option, None, Some, Bool, true, false, ⊎_elim, refl, subst, arith, MatchOption, IsTrue, ◌↔◌, All, Contains, take_all}
use Rattle.net_core.proofs.Library.{cases_lt, All-more, All-weaker, All-contains, Contains-get_or}
use Rattle.short_paths.{specs.declared.forward_star.Arc.Arc, specs.inner.TightLinks.{IsFirstTight, IsTightLink}, specs.inner.ForwardStars.HasArc, proofs.ForwardStars.arc}

-- the arc leads on along a shortest path from a node at length `here`
abbrev pub Fits : List ℕ → List ℕ → ℕ → Arc → Type 0
Fits lengths back here h = here ≡ get_or lengths h.link.0 0 + get_or back h.to.0 0

-- the first of the fitting arcs among the first n, if there is one
abbrev pub IsBest : List Arc → List ℕ → List ℕ → ℕ → ℕ → Option Arc → Type 0
IsBest arcs lengths back here n None = All (λ g. Fits lengths back here g → ⊥) (take n arcs)
IsBest arcs lengths back here n (Some h) = Contains arcs h × Fits lengths back here h × All (λ g. Fits lengths back here g → h.link.0 ≤ g.link.0) (take n arcs)

-- whether the arc's link comes before that of the best so far
abbrev pub IsBefore : Arc → Option Arc → Bool → Type 0
IsBefore h best told = MatchOption best (IsTrue told) (λ o. IsTrue told ↔ (h.link.0 < o.link.0))

module _ (arcs : List Arc) (lengths back : List ℕ) (here : ℕ) where
  -- a arc that doesn't fit changes nothing
  pub best_other : (i : ℕ) (d : Arc) (best : Option Arc) → i < length arcs → (Fits lengths back here (get_or arcs i d) → ⊥) → IsBest arcs lengths back here i best → IsBest arcs lengths back here (i + 1) best
  best_other i d None lt not b = All-more (λ g. Fits lengths back here g → ⊥) arcs i d lt b not
  best_other i d (Some h) lt not b = (b.0, b.1, All-more (λ g. Fits lengths back here g → h.link.0 ≤ g.link.0) arcs i d lt b.2 (λ fits. absurd (not fits)))

  -- nor does one that doesn't come before the best so far
  pub best_later : (i : ℕ) (d : Arc) (best : Option Arc) → i < length arcs → IsBefore (get_or arcs i d) best false → IsBest arcs lengths back here i best → IsBest arcs lengths back here (i + 1) best
  best_later i d None lt told b = absurd (cc told)
  best_later i d (Some h) lt told b =
      let le : h.link.0 ≤ (get_or arcs i d).link.0 = ⊎_elim (λ less. absurd (cc (told.1 less))) (λ more. more) (cases_lt (get_or arcs i d).link.0 h.link.0) in
      (b.0, b.1, All-more (λ g. Fits lengths back here g → h.link.0 ≤ g.link.0) arcs i d lt b.2 (λ fits. le))

  -- one that fits and comes before is the best
  pub best_now : (i : ℕ) (d : Arc) (best : Option Arc) → i < length arcs → Fits lengths back here (get_or arcs i d) → IsBefore (get_or arcs i d) best true → IsBest arcs lengths back here i best → IsBest arcs lengths back here (i + 1) (Some (get_or arcs i d))
  best_now i d None lt fits told b =
      let h : Arc = get_or arcs i d in (
        Contains-get_or arcs i d lt,
        fits,
        All-more (λ g. Fits lengths back here g → h.link.0 ≤ g.link.0) arcs i d lt
            (All-weaker (λ g. Fits lengths back here g → ⊥) (λ g. Fits lengths back here g → h.link.0 ≤ g.link.0) (λ g no_fit f. absurd (no_fit f)) (take i arcs) b)
            (λ f. omega arith),
      )
  best_now i d (Some o) lt fits told b =
      let h : Arc = get_or arcs i d in
      let before : h.link.0 < o.link.0 = told.0 refl in (
        Contains-get_or arcs i d lt,
        fits,
        All-more (λ g. Fits lengths back here g → h.link.0 ≤ g.link.0) arcs i d lt
            (All-weaker (λ g. Fits lengths back here g → o.link.0 ≤ g.link.0) (λ g. Fits lengths back here g → h.link.0 ≤ g.link.0) (λ g le f. omega (arith, le f, before)) (take i arcs) b.2)
            (λ f. omega arith),
      )

  -- the best of all arcs that leave a node is the next
  pub best_next : (all : List Arc) (at n m : ℕ) (best : Option Arc) → ((e x y : ℕ) → HasArc arcs e x y → (x ≡ at) × HasArc all e x y) → ((e y : ℕ) → HasArc all e at y → HasArc arcs e at y) → All (λ h. (h.from.0 + 1 < m) × (h.to.0 + 1 < m)) all → m ≡ length back + 1 → length arcs ≤ n → here ≡ get_or back at 0 → IsBest arcs lengths back here n best → MatchOption best
      ((e y : ℕ) → IsTightLink (HasArc all) lengths back at e y → ⊥)
      (λ h. (h.to.0 < length back) × IsFirstTight (HasArc all) lengths back at h.link.0 h.to.0)
  best_next all at n m None leave whole within size done is b = λ e y t.
      All-contains (λ g. Fits lengths back here g → ⊥) arcs (arc e at y) (rw take_all at b) (whole e y t.joined) (omega (arith, t.exact, is))
  best_next all at n m (Some h) leave whole within size done is b =
      let left = leave h.link.0 h.from.0 h.to.0 b.0 in
      let ends = All-contains (λ h. (h.from.0 + 1 < m) × (h.to.0 + 1 < m)) all h within left.1 in (
        omega (arith, ends.1, size),
        record {
          tight = record { joined = subst (λ x. HasArc all h.link.0 x h.to.0) left.0 left.1; exact = omega (arith, b.1, is) };
          first = λ f z t. All-contains (λ g. Fits lengths back here g → h.link.0 ≤ g.link.0) arcs (arc f at z) (rw take_all at b.2) (whole f z t.joined) (omega (arith, t.exact, is));
        },
      )
