-- how the arcs over the joining links are gathered, and where those of a node are
use Rattle.std.{proofs.Common.{◌≡◌, ℕ, ◌+◌, ◌-◌, ◌<◌, ◌≤◌, List, [], ◌∷◌, ◌++◌, length, get_or, take, drop, true, false, ltb, ◌⊎◌, inl, inr, ⊎_elim, refl, sym, ap, subst, ◌∙◌, arith, length-take, length-drop, All, Contains, ltb-true, ltb-false, get_or-take, get_or-drop}, specs.List.Sorted.{IsPermutation, IsPartitionPoint}, proofs.lemmas.List.Elements.Contains-push_cases, proofs.lemmas.List.Sorted.Contains-permutation}
use Rattle.net_core.proofs.Library.{cases_lt, All-contains, Contains-append_left, Contains-append_right, Contains-append_cases, Contains-get_or, IsPermutation-sym, none_within}
use Rattle.short_paths.{specs.declared.forward_star.Arc.Arc, specs.inner.ForwardStars.{AddsArcs, AreArcs, IsStartOf, HasArc}}

-- the arc over link e from x to y
abbrev pub arc : ℕ → ℕ → ℕ → Arc
arc e x y = record { link = record { 0 = e }; from = record { 0 = x }; to = record { 0 = y } }

one_of_two : (a b x : Arc) → Contains (a ∷ b ∷ []) x → (a ≡ x) ⊎ (b ≡ x)
one_of_two a b x h =
    ⊎_elim
    (λ first. ⊎_elim (λ none. absurd (none_within x none)) (λ e. inl e) (Contains-push_cases [] a x first))
    (λ e. inr e)
    (Contains-push_cases (a ∷ []) b x h)

-- a link that joins a and b adds both arcs
pub adds_both : (joins : ℕ → ℕ → ℕ → Type 0) (e a b : ℕ) (old : List Arc) → joins e a b → joins e b a → ((x y : ℕ) → joins e x y → ((a ≡ x) × (b ≡ y)) ⊎ ((b ≡ x) × (a ≡ y))) → AddsArcs joins e old (old ++ arc e a b ∷ arc e b a ∷ [])
adds_both joins e a b old there back only = record {
  kept = λ f x y h. Contains-append_left old (arc e a b ∷ arc e b a ∷ []) (arc f x y) h;
  sound = λ f x y h.
      ⊎_elim
      (λ before. inl before)
      (λ new. ⊎_elim
      (λ s. inr (came f x y a b s there))
      (λ s. inr (came f x y b a s back))
      (one_of_two (arc e a b) (arc e b a) (arc f x y) new))
      (Contains-append_cases old (arc e a b ∷ arc e b a ∷ []) (arc f x y) h);
  whole = λ x y j. Contains-append_right old (arc e a b ∷ arc e b a ∷ []) (arc e x y) (⊎_elim
      (λ p. rw (← p.0, ← p.1) (0, omega arith, refl))
      (λ p. rw (← p.0, ← p.1) (1, omega arith, refl))
      (only x y j));
}
  where
    came : (f x y a b : ℕ) → arc e a b ≡ arc f x y → joins e a b → (f ≡ e) × joins f x y
    came f x y a b s j =
        let link : e ≡ f = ap (λ h. h.link.0) s in
        let from : a ≡ x = ap (λ h. h.from.0) s in
        let to : b ≡ y = ap (λ h. h.to.0) s in
        (sym link, rw (← link, ← from, ← to) j)

-- the arcs so far are those over the joining links below n
pub record ArcsBelow (joins : ℕ → ℕ → ℕ → Type 0) (n : ℕ) (arcs : List Arc) : Type 0 where
  pub sound : (e x y : ℕ) → HasArc arcs e x y → joins e x y
  pub whole : (e x y : ℕ) → e < n → joins e x y → HasArc arcs e x y

pub arcs_more : (joins : ℕ → ℕ → ℕ → Type 0) (n : ℕ) (old new : List Arc) → ArcsBelow joins n old → AddsArcs joins n old new → ArcsBelow joins (n + 1) new
arcs_more joins n old new below adds = record {
  sound = λ e x y h. ⊎_elim (λ before. below.sound e x y before) (λ now. now.1) (adds.sound e x y h);
  whole = λ e x y lt j. ⊎_elim
      (λ before. adds.kept e x y (below.whole e x y before j))
      (λ past. let same : e ≡ n = omega arith in
      subst (λ k. HasArc new k x y) (sym same) (adds.whole x y (subst (λ k. joins k x y) same j)))
      (cases_lt e n);
}

pub arcs_all : (joins : ℕ → ℕ → ℕ → Type 0) (n : ℕ) (arcs : List Arc) → ((e x y : ℕ) → joins e x y → e < n) → ArcsBelow joins n arcs → AreArcs joins arcs
arcs_all joins n arcs inside below = record {
  sound = below.sound;
  whole = λ e x y j. below.whole e x y (inside e x y j) j;
}

-- in another order they are the same arcs
pub arcs_moved : (joins : ℕ → ℕ → ℕ → Type 0) (old new : List Arc) → IsPermutation old new → AreArcs joins old → AreArcs joins new
arcs_moved joins old new moved are = record {
  sound = λ e x y h. are.sound e x y (Contains-permutation new old (arc e x y) (IsPermutation-sym old new moved) h);
  whole = λ e x y j. Contains-permutation old new (arc e x y) moved (are.whole e x y j);
}

-- what holds of the ends of each joining link holds of each arc's
pub arcs_within : (joins : ℕ → ℕ → ℕ → Type 0) (arcs : List Arc) (n : ℕ) → AreArcs joins arcs → ((e x y : ℕ) → joins e x y → (x < n) × (y < n)) → All (λ h. (h.from.0 + 1 < n + 1) × (h.to.0 + 1 < n + 1)) arcs
arcs_within joins arcs n are inside = λ k d lt.
    let h = get_or arcs k d in
    let both = inside h.link.0 h.from.0 h.to.0 (are.sound h.link.0 h.from.0 h.to.0 (Contains-get_or arcs k d lt)) in
    (omega (arith, both.0), omega (arith, both.1))

pub arcs_below : (joins : ℕ → ℕ → ℕ → Type 0) (arcs : List Arc) (n : ℕ) → AreArcs joins arcs → ((e x y : ℕ) → joins e x y → e < n) → All (λ h. h.link.0 < n) arcs
arcs_below joins arcs n are inside = λ k d lt.
    let h = get_or arcs k d in
    inside h.link.0 h.from.0 h.to.0 (are.sound h.link.0 h.from.0 h.to.0 (Contains-get_or arcs k d lt))

pub arc_within : (arcs : List Arc) (n e x y : ℕ) → All (λ h. (h.from.0 + 1 < n) × (h.to.0 + 1 < n)) arcs → HasArc arcs e x y → (x + 1 < n) × (y + 1 < n)
arc_within arcs n e x y all has = All-contains (λ h. (h.from.0 + 1 < n) × (h.to.0 + 1 < n)) arcs (arc e x y) all has

-- where the arcs of a node begin, by a search in the middle of what is left
pub start_from_point : (arcs : List Arc) (x i : ℕ) → i ≤ length arcs → IsPartitionPoint (λ h. ltb h.from.0 x ≡ true) (λ h. ltb h.from.0 x ≡ false) arcs i → IsStartOf arcs x i
start_from_point arcs x i within point = record {
  within = within;
  before = λ k d low high. ltb-true (get_or arcs k d).from.0 x (point.0 k d low high);
  after = λ k d low high. ltb-false (get_or arcs k d).from.0 x (point.1 k d low high);
}

-- the arcs of a node begin before those of the next
pub starts_rise : (arcs : List Arc) (x s t : ℕ) → IsStartOf arcs x s → IsStartOf arcs (x + 1) t → s ≤ t
starts_rise arcs x s t here next =
    ⊎_elim
    (λ less.
    let d : Arc = arc 0 0 0 in
    let low : (get_or arcs t d).from.0 < x = here.before t d (omega arith) less in
    let high : x + 1 ≤ (get_or arcs t d).from.0 = next.after t d (omega arith) (omega (arith, here.within)) in
    absurd (omega arith))
    (λ more. more)
    (cases_lt t s)

-- an arc that leaves a node is between these places
pub leaves_between : (arcs : List Arc) (e x y s t : ℕ) → IsStartOf arcs x s → IsStartOf arcs (x + 1) t → HasArc arcs e x y → HasArc (take (t - s) (drop s arcs)) e x y
leaves_between arcs e x y s t here next has =
    let k : ℕ = has.0 in
    let h : Arc = arc e x y in
    let from : (get_or arcs k h).from.0 ≡ x = ap (λ i. i.from.0) has.2 in
    let low : s ≤ k = ⊎_elim (λ less. absurd (omega (arith, here.before k h (omega arith) less))) (λ more. more) (cases_lt k s) in
    let high : k < t = ⊎_elim (λ less. less) (λ more. absurd (omega (arith, next.after k h more has.1))) (cases_lt k t) in (
      k - s,
      omega (arith, length-take (t - s) (drop s arcs), length-drop s arcs, next.within, has.1),
      get_or-take (t - s) (drop s arcs) (k - s) h (omega arith)
          ∙ (get_or-drop s arcs (k - s) h
          ∙ (ap (λ i. get_or arcs i h) (let same : s + (k - s) ≡ k = omega arith in same) ∙ has.2)),
    )
