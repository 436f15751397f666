-- the arcs of a node that are tried one after another
use Rattle.std.{proofs.Common.{◌≡◌, ℕ, ◌+◌, ◌<◌, ◌≤◌, List, length, get_or, take, min, ◌⊎◌, inl, inr, ⊎_elim, refl, sym, subst, arith, All, Contains, slice_set, take_all}, proofs.lemmas.Grind.common_steps}
use Rattle.net_core.proofs.Library.{cases_eq, cases_lt, All-more, All-weaker, All-contains, Contains-get_or}
use Rattle.short_paths.{specs.declared.forward_star.Arc.Arc, specs.inner.ForwardStars.HasArc}

-- a number that is lowered to what is tried
lowered : (now : List ℕ) (at by : ℕ) → (k : ℕ) → get_or (slice_set now at (min (get_or now at 0) by)) k 0 ≤ get_or now k 0
lowered now at by k = ⊎_elim
    (λ e. ⊎_elim (λ lt. grind (arith, common_steps)) (λ past. grind (arith, common_steps)) (cases_lt at (length now)))
    (λ ne. grind (arith, common_steps))
    (cases_eq k at)

lowered_at : (now : List ℕ) (at by : ℕ) → at < length now → get_or (slice_set now at (min (get_or now at 0) by)) at 0 ≤ by
lowered_at now at by lt = grind (arith, common_steps)

lowered_cases : (now : List ℕ) (at by : ℕ) → at < length now → (k : ℕ) → (get_or (slice_set now at (min (get_or now at 0) by)) k 0 ≡ get_or now k 0) ⊎ ((k ≡ at) × (get_or (slice_set now at (min (get_or now at 0) by)) k 0 ≡ by))
lowered_cases now at by lt k = ⊎_elim
    (λ e. ⊎_elim (λ less. inr (e, grind (arith, common_steps))) (λ more. inl (grind (arith, common_steps))) (cases_lt by (get_or now at 0)))
    (λ ne. inl (grind (arith, common_steps)))
    (cases_eq k at)

-- what is found once the first n of these arcs are tried, from a node at length far
pub record Relaxed (arcs : List Arc) (lengths : List ℕ) (far n : ℕ) (old new : List ℕ) : Type 0 where
  pub lower : (k : ℕ) → get_or new k 0 ≤ get_or old k 0
  pub all : All (λ h. get_or new h.to.0 0 ≤ far + get_or lengths h.link.0 0) (take n arcs)
  pub sound : (k : ℕ) → (get_or new k 0 ≡ get_or old k 0) ⊎ ((h : Arc) × Contains arcs h × (h.to.0 ≡ k) × (get_or new k 0 ≡ far + get_or lengths h.link.0 0))

pub relaxed_none : (arcs : List Arc) (lengths : List ℕ) (far : ℕ) (old : List ℕ) → Relaxed arcs lengths far 0 old old
relaxed_none arcs lengths far old = record {
  lower = λ k. omega arith;
  all = λ k d lt. absurd (omega arith);
  sound = λ k. inl refl;
}

pub relaxed_more : (arcs : List Arc) (lengths : List ℕ) (far i : ℕ) (old now : List ℕ) (d : Arc) → i < length arcs → (get_or arcs i d).to.0 < length now → Relaxed arcs lengths far i old now → Relaxed arcs lengths far (i + 1) old (slice_set now (get_or arcs i d).to.0 (min (get_or now (get_or arcs i d).to.0 0) (far + get_or lengths (get_or arcs i d).link.0 0)))
relaxed_more arcs lengths far i old now d lt end r =
    let h : Arc = get_or arcs i d in
    let by : ℕ = far + get_or lengths h.link.0 0 in
    let new : List ℕ = slice_set now h.to.0 (min (get_or now h.to.0 0) by) in
    let down : (k : ℕ) → get_or new k 0 ≤ get_or now k 0 = lowered now h.to.0 by in
    record {
      lower = λ k. omega (arith, down k, r.lower k);
      all = All-more (λ g. get_or new g.to.0 0 ≤ far + get_or lengths g.link.0 0) arcs i d lt
          (All-weaker (λ g. get_or now g.to.0 0 ≤ far + get_or lengths g.link.0 0) (λ g. get_or new g.to.0 0 ≤ far + get_or lengths g.link.0 0) (λ g le. omega (arith, down g.to.0, le)) (take i arcs) r.all)
          (lowered_at now h.to.0 by end);
      sound = λ k. ⊎_elim
          (λ same. rw same (r.sound k))
          (λ new. inr (h, Contains-get_or arcs i d lt, sym new.0, new.1))
          (lowered_cases now h.to.0 by end k);
    }

-- the first number found over a arc is not above what it gives
pub relaxed_all : (arcs : List Arc) (lengths : List ℕ) (far n : ℕ) (old new : List ℕ) → length arcs ≤ n → Relaxed arcs lengths far n old new → (e x y : ℕ) → HasArc arcs e x y → get_or new y 0 ≤ far + get_or lengths e 0
relaxed_all arcs lengths far n old new done r e x y has =
    All-contains (λ g. get_or new g.to.0 0 ≤ far + get_or lengths g.link.0 0) arcs (record { link = record { 0 = e }; from = record { 0 = x }; to = record { 0 = y } }) (rw take_all at r.all) has

-- and a number that is changed is found over one of the arcs that leave the node
pub relaxed_sound : (all arcs : List Arc) (lengths : List ℕ) (far n at : ℕ) (old new : List ℕ) → ((e x y : ℕ) → HasArc arcs e x y → (x ≡ at) × HasArc all e x y) → Relaxed arcs lengths far n old new → (k : ℕ) → (get_or new k 0 ≡ get_or old k 0) ⊎ ((e : ℕ) × HasArc all e at k × (get_or new k 0 ≡ far + get_or lengths e 0))
relaxed_sound all arcs lengths far n at old new here r k = ⊎_elim
    (λ same. inl same)
    (λ w.
    let h = w.0 in
    let leaves = here h.link.0 h.from.0 h.to.0 w.1 in
    inr (h.link.0, subst (λ x. HasArc all h.link.0 x k) leaves.0 (subst (HasArc all h.link.0 h.from.0) w.2 leaves.1), w.3))
    (r.sound k)

-- what holds of all arcs holds of each of these
pub held : (P : Arc → Type 0) (all arcs : List Arc) (at i : ℕ) (d : Arc) → ((e x y : ℕ) → HasArc arcs e x y → (x ≡ at) × HasArc all e x y) → All P all → i < length arcs → P (get_or arcs i d)
held P all arcs at i d here each lt =
    let h = get_or arcs i d in
    All-contains P all h each (here h.link.0 h.from.0 h.to.0 (Contains-get_or arcs i d lt)).1

pub held_end : (all arcs : List Arc) (n at i : ℕ) (d : Arc) → ((e x y : ℕ) → HasArc arcs e x y → (x ≡ at) × HasArc all e x y) → All (λ h. (h.from.0 + 1 < n) × (h.to.0 + 1 < n)) all → i < length arcs → (get_or arcs i d).to.0 + 1 < n
held_end all arcs n at i d here each lt = (held (λ h. (h.from.0 + 1 < n) × (h.to.0 + 1 < n)) all arcs at i d here each lt).1
