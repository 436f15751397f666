-- Names that are found by their bytes, whatever holds them.
use Rattle.std.proofs.Common.{◌≡◌, ℕ, suc, ◌+◌, Bool, true, false, cond, not, List, [], ◌∷◌, length, map, Option, Result, Ok, refl, sym, ap, ◌∙◌, position, ◌||◌}
use Rattle.net_core.{proofs.Library.{list_any, prefix_len, same_is}, specs.Terms.{are_same, is_named}}
use Rattle.text_kit.proofs.Lemmas.{is_same}
use mathlib.Core.Path.{fun_ext}

same_both : (a b : List ℕ) (v w : Bool) → are_same a b ≡ v → are_same b a ≡ w → v ≡ w
same_both a b true true p q = refl
same_both a b false false p q = refl
same_both a b true false p q = sym (is_same a) ∙ (ap (λ (x : List ℕ). are_same x a) (same_is a b p) ∙ q)
same_both a b false true p q = sym p ∙ (ap (λ (x : List ℕ). are_same a x) (same_is b a q) ∙ is_same a)

-- in either order
pub same_turned : (a b : List ℕ) → are_same a b ≡ are_same b a
same_turned a b = same_both a b (are_same a b) (are_same b a) refl refl

length_map : {X Y : Type 0} (f : X → Y) (xs : List X) → length (map f xs) ≡ length xs
length_map f [] = refl
length_map f (x ∷ xs) = ap suc (length_map f xs)

prefix_map : {X Y : Type 0} (p : Y → Bool) (f : X → Y) (xs : List X) → prefix_len p (map f xs) ≡ prefix_len (λ x. p (f x)) xs
prefix_map p f [] = refl
prefix_map p f (x ∷ xs) = ap (λ (n : ℕ). cond (p (f x)) (1 + n) 0) (prefix_map p f xs)

-- a place among names is the place of what has the name
pub position_map : {X Y : Type 0} (p : Y → Bool) (f : X → Y) (xs : List X) → position p (map f xs) ≡ position (λ x. p (f x)) xs
position_map p f xs = rw (prefix_map (λ y. not (p y)) f xs, length_map f xs) refl

pub any_map : {X Y : Type 0} (p : Y → Bool) (f : X → Y) (xs : List X) → list_any p (map f xs) ≡ list_any (λ x. p (f x)) xs
any_map p f [] = refl
any_map p f (x ∷ xs) = ap (λ (b : Bool). p (f x) || b) (any_map p f xs)

-- a name is found by its bytes, in either order of the comparison
pub found_by : {X : Type 0} (name_of : X → List ℕ) (w : List ℕ) (xs : List X) → position (λ x. are_same w (name_of x)) xs ≡ position (λ n. are_same n w) (map name_of xs)
found_by name_of w xs =
    ap (λ t. position t xs) (fun_ext (λ x. same_turned w (name_of x))) ∙ sym (position_map (λ n. are_same n w) name_of xs)

pub known_by : {X : Type 0} (name_of : X → List ℕ) (w : List ℕ) (xs : List X) → list_any (λ x. are_same w (name_of x)) xs ≡ is_named (λ n. n) w (map name_of xs)
known_by name_of w xs =
    ap (λ t. list_any t xs) (fun_ext (λ x. same_turned w (name_of x))) ∙ sym (any_map (λ n. are_same n w) name_of xs)

-- what was put in is new, unless it was there
pub new_by : {E : Type 0} (any added : Bool) → added ≡ not any → (let r : Result Bool E = Ok added in r ≡ Ok true) → any ≡ false
new_by true added e is = absurd (let t : true ≡ false = sym (let s : added ≡ true = cc in s) ∙ e in cc)
new_by false added e is = refl

pub old_by : {E : Type 0} (any added : Bool) → added ≡ not any → (let r : Result Bool E = Ok added in r ≡ Ok false) → any ≡ true
old_by true added e is = refl
old_by false added e is = absurd (let t : false ≡ true = sym (let s : added ≡ false = cc in s) ∙ e in cc)

-- the place of what has the name is that of its name
pub named_in : {X : Type 0} (name_of : X → List ℕ) (w : List ℕ) (xs : List X) (names : List (List ℕ)) (o : Option ℕ) → names ≡ map name_of xs → o ≡ position (λ n. are_same n w) names
    → position (λ x. are_same (name_of x) w) xs ≡ o
named_in name_of w xs names o same found =
    sym (found ∙ (ap (λ (ns : List (List ℕ)). position (λ n. are_same n w) ns) same ∙ position_map (λ n. are_same n w) name_of xs))

-- whether a name is one of them
pub named_among : {X : Type 0} (name_of : X → List ℕ) (w : List ℕ) (xs : List X) (names : List (List ℕ)) (b : Bool) → names ≡ map name_of xs → is_named (λ n. n) w names ≡ b → is_named name_of w xs ≡ b
named_among name_of w xs names b same known =
    sym (any_map (λ n. are_same n w) name_of xs) ∙ (ap (λ (ns : List (List ℕ)). is_named (λ n. n) w ns) (sym same) ∙ known)
