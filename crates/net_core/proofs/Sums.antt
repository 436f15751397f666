-- sums below a number, and how they go with sums over lists
use Rattle.std.{proofs.Common.{◌≡◌, ℕ, zero, suc, ◌+◌, ◌*◌, ◌≤◌, ◌<◌, List, [], ◌∷◌, length, cond, eqb, ⊎_elim, refl, sym, ap, ◌∙◌, arith, sum_by, zip, Some, slice_get}, proofs.lemmas.List.Sums.sum_by-cons, proofs.lemmas.Bool.{cases_lt, eq-eqb, ne_eqb}, specs.List.AllByRecursion}
use Rattle.net_core.specs.Sums.{sum_below}

pub below-same : (n : ℕ) (f g : ℕ → ℕ) → ((k : ℕ) → k < n → f k ≡ g k) → sum_below n f ≡ sum_below n g
below-same zero f g e = refl
below-same (suc n) f g e = omega (arith, e n (omega arith), below-same n f g (λ k l. e k (omega arith)))

pub below-le : (n : ℕ) (f g : ℕ → ℕ) → ((k : ℕ) → k < n → f k ≤ g k) → sum_below n f ≤ sum_below n g
below-le zero f g e = omega arith
below-le (suc n) f g e = omega (arith, e n (omega arith), below-le n f g (λ k l. e k (omega arith)))

pub below-plus : (n : ℕ) (f g : ℕ → ℕ) → sum_below n (λ k. f k + g k) ≡ sum_below n f + sum_below n g
below-plus zero f g = omega arith
below-plus (suc n) f g = omega (arith, below-plus n f g)

pub below-times : (n c : ℕ) (f : ℕ → ℕ) → sum_below n (λ k. c * f k) ≡ c * sum_below n f
below-times zero c f = omega arith
below-times (suc n) c f = omega (arith, below-times n c f)

pub below-none : (n : ℕ) → sum_below n (λ k. 0) ≡ 0
below-none zero = refl
below-none (suc n) = omega (arith, below-none n)

-- the first one apart
pub below-first : (n : ℕ) (f : ℕ → ℕ) → sum_below (suc n) f ≡ f 0 + sum_below n (λ k. f (suc k))
below-first zero f = omega arith
below-first (suc n) f = omega (arith, below-first n f)

-- a sum below n and a sum over a list may be swapped
pub below-swapped : {X : Type 0} (n : ℕ) (f : ℕ → X → ℕ) (xs : List X) → sum_below n (λ k. sum_by (f k) xs) ≡ sum_by (λ x. sum_below n (λ k. f k x)) xs
below-swapped n f [] = below-none n
below-swapped n f (x ∷ xs) =
    below-same n _ (λ k. f k x + sum_by (f k) xs) (λ k l. sum_by-cons (f k) x xs)
    ∙ (below-plus n (λ k. f k x) (λ k. sum_by (f k) xs)
    ∙ (ap (λ s. sum_below n (λ k. f k x) + s) (below-swapped n f xs)
    ∙ sym (sum_by-cons (λ y. sum_below n (λ k. f k y)) x xs)))

-- a sum of which one place alone counts
past-one : (n i : ℕ) (f : ℕ → ℕ) → n ≤ i → sum_below n (λ k. cond (eqb i k) (f k) 0) ≡ 0
past-one zero i f le = refl
past-one (suc n) i f le = omega (arith, past-one n i f (omega arith), ap (λ b. cond b (f n) 0) (ne_eqb i n (λ e. omega arith)))

pub below-one : (n i : ℕ) (f : ℕ → ℕ) → i < n → sum_below n (λ k. cond (eqb i k) (f k) 0) ≡ f i
below-one zero i f lt = absurd (omega arith)
below-one (suc n) i f lt = ⊎_elim
    (λ l. omega (arith, below-one n i f l, ap (λ b. cond b (f n) 0) (ne_eqb i n (λ e. omega arith))))
    (λ g. let e : i ≡ n = omega arith in
    omega (arith, past-one n i f g, ap (λ b. cond b (f n) 0) (eq-eqb i n e), ap f e))
    (cases_lt i n)

-- sums over a list whose elements are known
pub sums-le : {X : Type 0} (f g : X → ℕ) (P : X → Type 0) (xs : List X) → AllByRecursion P xs → ((x : X) → P x → f x ≤ g x) → sum_by f xs ≤ sum_by g xs
sums-le f g P [] all h = omega arith
sums-le f g P (x ∷ xs) all h = omega (arith, sum_by-cons f x xs, sum_by-cons g x xs, h x all.0, sums-le f g P xs all.1 h)

pub sums-same : {X : Type 0} (f g : X → ℕ) (P : X → Type 0) (xs : List X) → AllByRecursion P xs → ((x : X) → P x → f x ≡ g x) → sum_by f xs ≡ sum_by g xs
sums-same f g P [] all h = refl
sums-same f g P (x ∷ xs) all h = omega (arith, sum_by-cons f x xs, sum_by-cons g x xs, h x all.0, sums-same f g P xs all.1 h)

pub sums-equal : {X : Type 0} (f g : X → ℕ) (xs : List X) → ((x : X) → f x ≡ g x) → sum_by f xs ≡ sum_by g xs
sums-equal f g [] h = refl
sums-equal f g (x ∷ xs) h = omega (arith, sum_by-cons f x xs, sum_by-cons g x xs, h x, sums-equal f g xs h)

pub sums-times : {X : Type 0} (c : ℕ) (f : X → ℕ) (xs : List X) → sum_by (λ x. c * f x) xs ≡ c * sum_by f xs
sums-times c f [] = omega arith
sums-times c f (x ∷ xs) = omega (arith, sum_by-cons (λ y. c * f y) x xs, ap (λ s. c * s) (sum_by-cons f x xs), sums-times c f xs)

-- a sum over pairs, place by place
pub paired : {X Y : Type 0} (f : X × Y → ℕ) (xs : List X) (ys : List Y) (g : ℕ → ℕ) → length ys ≡ length xs
    → ((k : ℕ) (x : X) (y : Y) → slice_get xs k ≡ Some x → slice_get ys k ≡ Some y → f (x, y) ≡ g k)
    → sum_by f (zip xs ys) ≡ sum_below (length xs) g
paired f [] [] g same h = refl
paired f (x ∷ xs) (y ∷ ys) g same h =
    sum_by-cons f (x, y) (zip xs ys)
    ∙ (omega (arith, h 0 x y refl refl, paired f xs ys (λ k. g (suc k)) (omega arith) (λ k. h (suc k)))
    ∙ sym (below-first (length xs) g))
paired f [] (y ∷ ys) g same h = absurd (omega arith)
paired f (x ∷ xs) [] g same h = absurd (omega arith)
