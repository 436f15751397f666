-- tests that are made in order
use Rattle.std.{proofs.Common.{◌≡◌, ◌≢◌, ℕ, ◌<◌, Bool, true, false, cond, not, List, [], ◌∷◌, ◌++◌, All, AllPairs, Option, None, Some, is_some, get_or, length, refl, arith}, specs.Option.option_or, specs.List.list_any, proofs.lemmas.List.Elements.{All-cons, All-nil}, proofs.lemmas.Bool.Decides.Decides-eqb, proofs.lemmas.Slice.Eq.slice_eq-Decides, proofs.lemmas.Bool.or_parts}
use Rattle.net_core.specs.Tests.{first_fault, are_same, is_named}

-- no test before finds anything, so the later ones tell
pub first_fault-append : {F : Type 0} → (a b : List (Bool × F)) → first_fault (a ++ b) ≡ option_or (first_fault a) (first_fault b)
first_fault-append [] b = refl
first_fault-append (t ∷ ts) b =
    elim t.0 as (λ v. cond v (Some t.1) (first_fault (ts ++ b)) ≡ option_or (cond v (Some t.1) (first_fault ts)) (first_fault b)) [
      | true ↦ refl
      | false ↦ first_fault-append ts b
    ]

-- where no test finds a fault, the first finds none, and the others neither
pub none_head : {F : Type 0} → (b : Bool) (f : F) (rest : Option F) → cond b (Some f) rest ≡ None → (b ≡ false) × (rest ≡ None)
none_head true f rest h = absurd (cc)
none_head false f rest h = (refl, h)

pub none_or : {F : Type 0} → (a b : Option F) → option_or a b ≡ None → (a ≡ None) × (b ≡ None)
none_or None b h = (refl, h)
none_or (Some x) b h = absurd (cc)

-- where none passes the test, each fails it
pub none_passes : {X : Type 0} (p : X → Bool) → (xs : List X) → list_any p xs ≡ false → All (λ x. p x ≡ false) xs
none_passes p [] h = All-nil (λ x. p x ≡ false)
none_passes p (x ∷ xs) h =
    let both : (p x ≡ false) × (list_any p xs ≡ false) = or_parts (p x) (list_any p xs) h in
    All-cons (λ y. p y ≡ false) x xs both.0 (none_passes p xs both.1)

pub not_same : (a b : List ℕ) → are_same a b ≡ false → a ≢ b
not_same a b h e =
    let told : are_same a b ≡ true = (slice_eq-Decides Decides-eqb a b (are_same a b) refl).1 e in
    absurd (cc)

-- where no name equals this one, each name differs from it
pub none_named : {X : Type 0} (name_of : X → List ℕ) (name : List ℕ) (xs : List X) → is_named name_of name xs ≡ false → (k : ℕ) (d : X) → k < length xs → name_of (get_or xs k d) ≢ name
none_named name_of name xs h k d lt =
    not_same (name_of (get_or xs k d)) name (none_passes (λ x. are_same (name_of x) name) xs h k d lt)

pub not_true : (b : Bool) → not b ≡ false → b ≡ true
not_true true h = refl
not_true false h = absurd (cc)

-- an empty list has no pairs
pub no_pairs : {X : Type 0} (R : X → X → Type 0) → AllPairs R []
no_pairs R i j d lt in_range = absurd (omega arith)

-- what the first tests find is found
pub or_some : {F : Type 0} → (a b : Option F) → is_some a ≡ true → option_or a b ≡ a
or_some None b h = absurd (cc)
or_some (Some x) b h = refl

pub or_none : {F : Type 0} → (a b : Option F) → is_some a ≡ false → option_or a b ≡ b
or_none None b h = refl
or_none (Some x) b h = absurd (cc)

-- words with the same bytes are equal
pub same_is : (a b : List ℕ) → are_same a b ≡ true → a ≡ b
same_is a b h = (slice_eq-Decides Decides-eqb a b (are_same a b) refl).0 h
