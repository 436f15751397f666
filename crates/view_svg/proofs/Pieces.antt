-- the pieces of a text, one after another
use Rattle.std.proofs.Common.{◌≡◌, ℕ, zero, suc, ◌+◌, ◌<◌, List, [], ◌∷◌, ◌++◌, add-one, append-nil, append_assoc, ap, arith, flat_map, get_or, length, sym, take, ◌∙◌}

one_more : {X : Type 0} (f : X → List ℕ) (xs : List X) (i : ℕ) (d : X) → i < length xs → flat_map f (take (suc i) xs) ≡ flat_map f (take i xs) ++ f (get_or xs i d)
one_more f [] i d low = absurd (omega (arith, low))
one_more f (x ∷ xs) zero d low = append-nil (f x)
one_more f (x ∷ xs) (suc i) d low =
    ap (λ t. f x ++ t) (one_more f xs i d (omega (arith, low))) ∙ sym (append_assoc (f x) (flat_map f (take i xs)) (f (get_or xs i d)))

-- a text with the pieces of the first i items, and then with that of one more
pub next_piece : {X : Type 0} (f : X → List ℕ) (xs : List X) (i : ℕ) (d : X) (old mid new : List ℕ) → i < length xs → mid ≡ old ++ flat_map f (take i xs)
    → new ≡ mid ++ f (get_or xs i d) → new ≡ old ++ flat_map f (take (i + 1) xs)
next_piece f xs i d old mid new low before step =
    let here = f (get_or xs i d) in
    let more : flat_map f (take (i + 1) xs) ≡ flat_map f (take i xs) ++ here = rw add-one (one_more f xs i d low) in
    step ∙ ap (λ t. t ++ here) before ∙ append_assoc old (flat_map f (take i xs)) here ∙ ap (λ t. old ++ t) (sym more)
