-- elements with their places
use Rattle.std.proofs.Common.{◌≡◌, ℕ, ◌+◌, ◌<◌, List, length, get_or, zip, sym, ap, subst, ◌∙◌, arith}
use Rattle.net_core.proofs.Library.{get_or-range_with_len, get_or-zip, length-range_with_len, length-zip, range_with_len}

-- with places from a first one on
abbrev with_places_from : {X : Type 0} → ℕ → List X → List (ℕ × X)
with_places_from first xs = zip (range_with_len first (length xs)) xs

pub placed_from_length : {X : Type 0} (first : ℕ) (xs : List X) → length (with_places_from first xs) ≡ length xs
placed_from_length first xs = omega (arith, length-zip (range_with_len first (length xs)) xs, length-range_with_len first (length xs))

pub placed_from : {X : Type 0} (first : ℕ) (xs : List X) (i : ℕ) (x : X) → i < length xs → x ≡ get_or xs i x → (first + i, x) ≡ get_or (with_places_from first xs) i (first + i, x)
placed_from first xs i x lt e =
    let count = length-range_with_len first (length xs) in
    let place : first + i ≡ get_or (range_with_len first (length xs)) i (first + i) = omega (arith, get_or-range_with_len first (length xs) i (first + i) lt) in
    ap (λ y. (first + i, y)) e ∙ (ap (λ k. (k, get_or xs i x)) place ∙ sym (get_or-zip (range_with_len first (length xs)) xs i (first + i, x) (omega (arith, lt, count)) (omega (arith, lt))))

-- with places from 0 on
pub placed_length : {X : Type 0} (xs : List X) → length (with_places_from 0 xs) ≡ length xs
placed_length xs = placed_from_length 0 xs

pub placed_at : {X : Type 0} (xs : List X) (i : ℕ) (x : X) → i < length xs → x ≡ get_or xs i x → (i, x) ≡ get_or (with_places_from 0 xs) i (i, x)
placed_at {X = X} xs i x lt e =
    let same : 0 + i ≡ i = omega arith in
    subst (λ (k : ℕ). ◌≡◌ {0} {A = ℕ × X} (k, x) (get_or (with_places_from 0 xs) i (k, x))) same (placed_from 0 xs i x lt e)
