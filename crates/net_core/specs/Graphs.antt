-- the network in one of its states, and the links that survive there (the surviving graph of SNDlib)
use Rattle.std.specs.Prelude.{◌≡◌, ◌≢◌, ℕ, List, [], false, ◌⊎◌, Some, slice_get}
use Rattle.net_core.{specs.declared.network.Link.Link, specs.declared.states.Listed.Listed, specs.States.fails}

-- a network in one of its states; its links are all those of the network, and `Survives` says which are left
pub record Graph : Type 0 where
  pub nodes : List (List ℕ)
  pub links : List Link
  pub listed : List Listed
  pub state : ℕ

-- link e survives: the state doesn't fail it, and it has a module
pub record Survives (g : Graph) (e : ℕ) : Type 0 where
  pub link : Link
  pub at : slice_get g.links e ≡ Some link
  pub has_module : link.modules ≢ []
  pub unfailed : fails g.listed g.state e ≡ false

-- the ends of the link are x and y, in either order
abbrev pub HasEnds : Link → ℕ → ℕ → Type 0
HasEnds l x y = ((l.a.0 ≡ x) × (l.b.0 ≡ y)) ⊎ ((l.b.0 ≡ x) × (l.a.0 ≡ y))

-- link e survives and joins x and y
pub record Joins (g : Graph) (e x y : ℕ) : Type 0 where
  pub survives : Survives g e
  pub ends : HasEnds survives.link x y
