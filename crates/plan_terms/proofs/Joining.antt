-- what `Joins` says of a link that is given
use Rattle.std.proofs.Common.{◌≡◌, ℕ, ◌<◌, length, get_or, Some, inl, inr, refl, sym, arith, subst, All, slice_get}
use Rattle.net_core.{proofs.Library.{∥∥₁_elim, props, slice_get_read, slice_get_within, get_or_from_slice_get}, specs.declared.network.Link.Link, specs.Terms.{IsLink, IsNetwork, Graph, HasEnds, Joins, Survives}}

turned_ends : (l : Link) (x y : ℕ) → HasEnds l x y → HasEnds l y x
turned_ends l x y (inl p) = inr (p.1, p.0)
turned_ends l x y (inr p) = inl (p.1, p.0)

-- links join both ways
pub joins_turned : (g : Graph) (e x y : ℕ) → Joins g e x y → Joins g e y x
joins_turned g e x y j = record { survives = j.survives; ends = turned_ends j.survives.link x y j.ends }

one_end : (l : Link) (x y z : ℕ) → HasEnds l x y → HasEnds l x z → y ≡ z
one_end l x y z (inl p) (inl q) = omega arith
one_end l x y z (inl p) (inr q) = omega arith
one_end l x y z (inr p) (inl q) = omega arith
one_end l x y z (inr p) (inr q) = omega arith

-- one end of a link fixes the other
pub joins_one : (g : Graph) (e x y z : ℕ) → Joins g e x y → Joins g e x z → y ≡ z
joins_one g e x y z j k =
    let same : k.survives.link ≡ j.survives.link = cc (j.survives.at, k.survives.at) in
    one_end j.survives.link x y z j.ends (subst (λ (l : Link). HasEnds l x z) same k.ends)

-- the link at a place is that of `Survives`
pub survives_same : (g : Graph) (e : ℕ) (l : Link) → e < length g.links → l ≡ get_or g.links e l → (v : Survives g e) → v.link ≡ l
survives_same g e l lt is v =
    let here : slice_get g.links e ≡ Some l = slice_get_read g.links (length g.links) e l refl lt is in
    cc (v.at, here)

pub joins_from : (g : Graph) (e x y : ℕ) (l : Link) → e < length g.links → l ≡ get_or g.links e l → Survives g e → HasEnds l x y → Joins g e x y
joins_from g e x y l lt is v ends =
    let same : v.link ≡ l = survives_same g e l lt is v in
    record { survives = v; ends = subst (λ (k : Link). HasEnds k x y) (sym same) ends }

pub joins_ends : (g : Graph) (e x y : ℕ) (l : Link) → e < length g.links → l ≡ get_or g.links e l → Joins g e x y → HasEnds l x y
joins_ends g e x y l lt is j =
    subst (λ (k : Link). HasEnds k x y) (survives_same g e l lt is j.survives) j.ends

-- both ends of a link are nodes
pub joins_within : (n : ℕ) (g : Graph) (e x y : ℕ) → All (IsLink n) g.links → Joins g e x y → (x < n) × (y < n)
joins_within n g e x y all j =
    let l = j.survives.link in
    let lt : e < length g.links = slice_get_within g.links e l j.survives.at in
    let is : IsLink n l = subst (IsLink n) (get_or_from_slice_get g.links e l l j.survives.at) (all e l lt) in
    elim j.ends [ inl p ↦ (omega (arith, is.from), omega (arith, is.to)) | inr p ↦ (omega (arith, is.to), omega (arith, is.from)) ]

-- a link that joins nodes is one of the list
pub joins_below : (g : Graph) (e x y : ℕ) → Joins g e x y → e < length g.links
joins_below g e x y j = slice_get_within g.links e j.survives.link j.survives.at

-- both ends of a network's link are nodes
pub joins_inside : (g : Graph) (e x y : ℕ) → ∥ IsNetwork g.nodes g.links ∥₁ → Joins g e x y → (x < length g.nodes) × (y < length g.nodes)
joins_inside g e x y checked j =
    ∥∥₁_elim checked (hlevel props) (λ net. joins_within (length g.nodes) g e x y net.sound j)
