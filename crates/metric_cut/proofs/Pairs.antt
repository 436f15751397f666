-- sums over pairs
use Rattle.std.proofs.Common.{◌≡◌, ℕ, zero, suc, ◌+◌, ◌<◌, List, [], ◌∷◌, length, get_or, take, sum_by, zip, arith, add-one}
use Rattle.net_core.proofs.Library.{sum_by-cons}

sum_next : {X Y : Type 0} (f : X × Y → ℕ) (n : ℕ) (xs : List X) (ys : List Y) (x : X) (y : Y) → n < length xs → n < length ys → sum_by f (zip (take (suc n) xs) (take (suc n) ys)) ≡ sum_by f (zip (take n xs) (take n ys)) + f (get_or xs n x, get_or ys n y)
sum_next f zero (a ∷ xs) (b ∷ ys) x y first second = omega (arith, sum_by-cons f (a, b) [])
sum_next f (suc n) (a ∷ xs) (b ∷ ys) x y first second = omega (
  arith,
  sum_by-cons f (a, b) (zip (take (suc n) xs) (take (suc n) ys)),
  sum_by-cons f (a, b) (zip (take n xs) (take n ys)),
  sum_next f n xs ys x y (omega arith) (omega arith),
)
sum_next f n [] ys x y first second = absurd (omega arith)
sum_next f n (a ∷ xs) [] x y first second = absurd (omega arith)

-- a sum over pairs with the next pair
pub sum_more : {X Y : Type 0} (f : X × Y → ℕ) (n : ℕ) (xs : List X) (ys : List Y) (x : X) (y : Y) → n < length xs → n < length ys → sum_by f (zip (take (n + 1) xs) (take (n + 1) ys)) ≡ sum_by f (zip (take n xs) (take n ys)) + f (get_or xs n x, get_or ys n y)
sum_more f n xs ys x y first second = rw add-one (sum_next f n xs ys x y first second)
