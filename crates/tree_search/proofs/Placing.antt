-- items in preorder: what is known of one, and what may take its place
use Rattle.std.proofs.Common.{◌≡◌, ℕ, zero, suc, ◌+◌, List, [], ◌∷◌, ◌++◌, Some, take, drop, slice_get, subst}
use Rattle.tree_search.specs.inner.Preorder.{ArePlaced}

module _ {P T : Type 0} (below : P → T → List P) where
  -- what is known of the items may be weakened
  pub placed_weaker : (was is : P → T → Type 0) → ((p : P) (t : T) → was p t → is p t) → (ps : List P) (ts : List T) → ArePlaced below was ps ts → ArePlaced below is ps ts
  placed_weaker was is f [] [] placed = tt
  placed_weaker was is f [] (t ∷ ts) placed = absurd placed
  placed_weaker was is f (p ∷ ps) [] placed = absurd placed
  placed_weaker was is f (p ∷ ps) (t ∷ ts) placed = (f p t placed.0, placed_weaker was is f (below p t ++ ps) ts placed.1)

  -- the place of an item, the places after it, and what is known of it and of the items from it on
  pub record PlaceOf (is : P → T → Type 0) (ts : List T) (i : ℕ) (t : T) : Type 0 where
    pub place : P
    pub later : List P
    pub here : is place t
    pub after : ArePlaced below is (below place t ++ later) (drop (suc i) ts)

  -- with whatever items from there on that take the same places
  abbrev pub Follows : (is : P → T → Type 0) → List P → List T → ℕ → P → List P → Type 0
  Follows is ps ts i place later = (us : List T) → ArePlaced below is (place ∷ later) us → ArePlaced below is ps (take i ts ++ us)

  pub place_of : (is : P → T → Type 0) (ps : List P) (ts : List T) (i : ℕ) (t : T) → ArePlaced below is ps ts → slice_get ts i ≡ Some t
      → (found : PlaceOf is ts i t) × Follows is ps ts i found.place found.later
  place_of is ps [] i t placed at = absurd (cc at)
  place_of is [] (x ∷ xs) i t placed at = absurd placed
  place_of is (p ∷ ps) (x ∷ xs) zero t placed at =
      let same : x ≡ t = cc at in (
        record {
          place = p;
          later = ps;
          here = subst (is p) same placed.0;
          after = subst (λ (y : T). ArePlaced below is (below p y ++ ps) xs) same placed.1;
        },
        λ us us_placed. us_placed,
      )
  place_of is (p ∷ ps) (x ∷ xs) (suc i) t placed at =
      let found = place_of is (below p x ++ ps) xs i t placed.1 at in
      (record { place = found.0.place; later = found.0.later; here = found.0.here; after = found.0.after }, λ us us_placed. (placed.0, found.1 us us_placed))
