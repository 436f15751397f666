-- Names, and what is looked up among them.
use Rattle.std.proofs.Common.{◌≡◌, ℕ, ◌==◌, false, List, [], ◌∷◌, ◌++◌, map, refl, sym, subst, ◌∙◌, ⊎_elim, Bor, position, ne_eqb}
use Rattle.net_core.{proofs.Library.{list_any, position_or_len, pointwise, cases_eq, length-map, map_push}, specs.Terms.{are_same, is_named}}
use Rattle.indexmap.specs.IndexSet.{insert_key}

-- the names of some things, and a name among them
pub named_map : {X : Type 0} (name_of : X → List ℕ) (w : List ℕ) (xs : List X) → is_named (λ n. n) w (map name_of xs) ≡ is_named name_of w xs
named_map name_of w [] = refl
named_map name_of w (x ∷ xs) = rw (named_map name_of w xs) refl

equal_turned : (a b : ℕ) → (a == b) ≡ (b == a)
equal_turned a b = ⊎_elim (λ e. subst (λ (x : ℕ). (a == x) ≡ (x == a)) e refl) (λ ne. rw (ne_eqb a b ne, ne_eqb b a (λ e. ne (sym e))) refl) (cases_eq a b)

same_turned : (a b : List ℕ) → pointwise ◌==◌ a b ≡ are_same b a
same_turned [] [] = refl
same_turned [] (y ∷ b) = refl
same_turned (x ∷ a) [] = refl
same_turned (x ∷ a) (y ∷ b) = rw (equal_turned x y, same_turned a b) refl

-- words as a set has them
abbrev pub shown : List (Bor (List ℕ)) → List (List ℕ)
shown ks = map (λ k. k.now) ks

pub named_keys : (w : List ℕ) (ks : List (Bor (List ℕ))) → list_any (λ k. pointwise ◌==◌ w k.now) ks ≡ is_named (λ n. n) w (shown ks)
named_keys w [] = refl
named_keys w (k ∷ ks) = rw (same_turned w k.now, named_keys w ks) refl

first_keys : (w : List ℕ) (ks : List (Bor (List ℕ))) → position_or_len (λ k. pointwise ◌==◌ w k.now) ks ≡ position_or_len (λ n. are_same n w) (shown ks)
first_keys w [] = refl
first_keys w (k ∷ ks) = rw (same_turned w k.now, first_keys w ks) refl

pub place_keys : (w : List ℕ) (ks : List (Bor (List ℕ))) → position (λ k. pointwise ◌==◌ w k.now) ks ≡ position (λ n. are_same n w) (shown ks)
place_keys w ks = rw (first_keys w ks, length-map ks (λ k. k.now)) refl

pub key_pushed : (w : Bor (List ℕ)) (ks : List (Bor (List ℕ))) → is_named (λ n. n) w.now (shown ks) ≡ false → shown (insert_key (λ a b. pointwise ◌==◌ a.now b.now) ks w) ≡ shown ks ++ w.now ∷ []
key_pushed w ks free = rw (named_keys w.now ks ∙ free) (map_push (λ (k : Bor (List ℕ)). k.now) ks w)
