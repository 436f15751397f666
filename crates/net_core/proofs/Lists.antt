-- lists and their elements
use Rattle.std.{proofs.Common.{◌≡◌, ℕ, zero, suc, ◌<◌, List, [], ◌∷◌, ◌++◌, All, Any, Contains, None, Some, ◌⊎◌, inl, inr, ⊎_elim, length, take, drop, slice_get, refl, sym, ap, subst, ◌∙◌, arith}, proofs.Math.Seq.take-append_seam, proofs.lemmas.List.Elements.{All-cons, All-nil, All-head, All-tail}, proofs.lemmas.Option.{get_or_from_slice_get, slice_get_within}}

-- what holds of the one item of a list
pub all_one : {X : Type 0} (P : X → Type 0) (x : X) → P x → All P (x ∷ [])
all_one P x p = All-cons P x [] p (All-nil P)

-- what holds of all holds of the one at a place
pub all_at : {X : Type 0} (P : X → Type 0) (xs : List X) (k : ℕ) (x : X) → All P xs → slice_get xs k ≡ Some x → P x
all_at P xs k x all at = subst P (get_or_from_slice_get xs k x x at) (all k x (slice_get_within xs k x at))

-- what is read of a list's beginning
pub get_front : {X : Type 0} (xs ys : List X) (i : ℕ) (x : X) → slice_get xs i ≡ Some x → slice_get (xs ++ ys) i ≡ Some x
get_front [] ys i x at = absurd (let e : None ≡ Some x = at in cc e)
get_front (y ∷ xs) ys zero x at = at
get_front (y ∷ xs) ys (suc i) x at = get_front xs ys i x at

pub get_some : {X : Type 0} → (xs : List X) (i : ℕ) → i < length xs → (x : X) × (slice_get xs i ≡ Some x)
get_some [] i lt = absurd (omega arith)
get_some (x ∷ xs) zero lt = (x, refl)
get_some (x ∷ xs) (suc i) lt = get_some xs i (omega arith)

pub none_within : {X : Type 0} (x : X) → Contains [] x → ⊥
none_within x h = omega (arith, h.1)

-- what is written back to the whole of a list
pub all_written : {X : Type 0} (xs ys : List X) → length ys ≡ length xs → take (length xs) (ys ++ drop (length ys) xs) ≡ ys
all_written xs ys same = ap (λ n. take n (ys ++ drop (length ys) xs)) (sym same) ∙ take-append_seam ys (drop (length ys) xs)

pub front_all : {X : Type 0} (P : X → Type 0) (xs ys : List X) → All P (xs ++ ys) → All P xs
front_all P [] ys all = All-nil P
front_all P (x ∷ xs) ys all = All-cons P x xs (All-head P x (xs ++ ys) all) (front_all P xs ys (All-tail P x (xs ++ ys) all))

pub some_same : {A : Type 0} (a b : A) → Some a ≡ Some b → a ≡ b
some_same a b e = cc e

pub positive_or_none : (xs : List ℕ) → Any (λ x. 0 < x) xs ⊎ All (λ x. x ≡ 0) xs
positive_or_none [] = inr (All-nil (λ x. x ≡ 0))
positive_or_none (zero ∷ xs) = ⊎_elim
    (λ (some : Any (λ x. 0 < x) xs). inl (suc some.0, some.1, omega (arith, some.2), some.3, some.4))
    (λ none. inr (All-cons (λ x. x ≡ 0) 0 xs refl none))
    (positive_or_none xs)
positive_or_none (suc n ∷ xs) = inl (0, suc n, omega arith, refl, omega arith)
