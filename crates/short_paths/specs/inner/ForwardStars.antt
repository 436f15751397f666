-- the arcs of surviving links, and where those of a node start
use Rattle.std.{specs.Prelude.{◌≡◌, ℕ, ◌<◌, ◌≤◌, ◌^◌, ◌⊎◌, List, All, Contains, length, slice_index}, specs.List.AllWithin}
use Rattle.short_paths.specs.declared.forward_star.Arc.{Arc}

-- one of the arcs goes over link e from x to y
abbrev pub HasArc : List Arc → ℕ → ℕ → ℕ → Type 0
HasArc arcs e x y = Contains arcs (record { link = record { 0 = e }; from = record { 0 = x }; to = record { 0 = y } })

-- the arcs are those over the links that join
pub record AreArcs (joins : ℕ → ℕ → ℕ → Type 0) (arcs : List Arc) : Type 0 where
  pub sound : (e x y : ℕ) → HasArc arcs e x y → joins e x y
  pub whole : (e x y : ℕ) → joins e x y → HasArc arcs e x y

-- the arcs over link e have been added to the others
pub record AddsArcs (joins : ℕ → ℕ → ℕ → Type 0) (e : ℕ) (old new : List Arc) : Type 0 where
  pub kept : (f x y : ℕ) → HasArc old f x y → HasArc new f x y
  pub sound : (f x y : ℕ) → HasArc new f x y → HasArc old f x y ⊎ ((f ≡ e) × joins f x y)
  pub whole : (x y : ℕ) → joins e x y → HasArc new e x y

-- the arcs from place s on leave node x or a later one, and those before it earlier ones
pub record IsStartOf (arcs : List Arc) (x s : ℕ) : Type 0 where
  pub within : s ≤ length arcs
  pub before : AllWithin (λ h. h.from.0 < x) arcs 0 s
  pub after : AllWithin (λ h. x ≤ h.from.0) arcs s (length arcs)

-- number x is the place from which on arcs leave node x or a later one
abbrev pub AreStarts : List Arc → List ℕ → Type 0
AreStarts arcs starts = (x : ℕ) → x < length starts → IsStartOf arcs x (slice_index starts x)

-- there is a length for each arc's link, and each is below 2^100
pub record HaveLengths (arcs : List Arc) (lengths : List ℕ) : Type 0 where
  pub each : All (λ a. a.link.0 < length lengths) arcs
  pub short : (e : ℕ) → slice_index lengths e < 2 ^ 100
