-- the components once a link is taken
use Rattle.std.proofs.Common.{◌≡◌, ℕ, ◌+◌, ◌<◌, List, length, get_or, inl, refl}
use Rattle.plan_terms.{specs.Terms.{Link, Graph, Joins, Survives, IsNetwork}, proofs.Lemmas.{joins_from, joins_ends, joins_inside, joins_turned}}
use Rattle.failure_states.{specs.inner.Components.{AreComponents, IsMerged}, proofs.Labelling.{components_merge, components_skip}}

-- a surviving link
pub take_survivor : (g : Graph) (e : ℕ) (l : Link) (old new : List ℕ) → ∥ IsNetwork g.nodes g.links ∥₁ → e < length g.links → l ≡ get_or g.links e l → Survives g e → IsMerged l.a.0 l.b.0 old new → AreComponents (Joins g) (length g.nodes) e old → AreComponents (Joins g) (length g.nodes) (e + 1) new
take_survivor g e l old new checked lt is alive m h =
    let there : Joins g e l.a.0 l.b.0 = joins_from g e l.a.0 l.b.0 l lt is alive (inl (refl, refl)) in
    let inside = joins_inside g e l.a.0 l.b.0 checked there in
    components_merge (Joins g) (length g.nodes) e l.a.0 l.b.0 old new inside.0 inside.1 there
    (joins_turned g e l.a.0 l.b.0 there)
    (λ x y j. joins_ends g e x y l lt is j)
    (λ f x y j. joins_inside g f x y checked j)
    m h

-- any other
pub take_other : (g : Graph) (n e : ℕ) (labels : List ℕ) → (Survives g e → ⊥) → AreComponents (Joins g) n e labels → AreComponents (Joins g) n (e + 1) labels
take_other g n e labels dead h = components_skip (Joins g) n e labels (λ x y j. dead j.survives) h
