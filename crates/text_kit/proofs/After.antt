-- What each element is after those before it, and what all of them are.
use Rattle.std.proofs.Common.{◌≡◌, ◌≢◌, ℕ, false, List, [], ◌∷◌, ◌++◌, All, AllPairs, subst, sym, append-nil, append_assoc}
use Rattle.net_core.{proofs.Library.{All-cons, All-nil, All-head, All-tail, all_pairs_push, new_name, no_pairs, none_named}, specs.Terms.is_named}
use Rattle.text_kit.specs.Items.{ComeAfter}

-- what each is, said otherwise
pub after_as : {X : Type 0} (P Q : List X → X → Type 0) (sofar xs : List X) → ((before : List X) (x : X) → P before x → Q before x) → ComeAfter P sofar xs → ComeAfter Q sofar xs
after_as P Q sofar [] to all = tt
after_as P Q sofar (x ∷ xs) to all = (to sofar x all.0, after_as P Q (sofar ++ x ∷ []) xs to all.1)

pub after_both : {X : Type 0} (P Q : List X → X → Type 0) (sofar xs : List X) → ComeAfter P sofar xs → ComeAfter Q sofar xs → ComeAfter (λ before x. P before x × Q before x) sofar xs
after_both P Q sofar [] p q = tt
after_both P Q sofar (x ∷ xs) p q = ((p.0, q.0), after_both P Q (sofar ++ x ∷ []) xs p.1 q.1)

-- what doesn't depend on those before it
pub after_all : {X : Type 0} (P : X → Type 0) (sofar xs : List X) → ComeAfter (λ before x. P x) sofar xs → All P xs
after_all P sofar [] all = All-nil P
after_all P sofar (x ∷ xs) all = All-cons P x xs all.0 (after_all P (sofar ++ x ∷ []) xs all.1)

pub all_after : {X : Type 0} (P : X → Type 0) (sofar xs : List X) → All P xs → ComeAfter (λ before x. P x) sofar xs
all_after P sofar [] all = tt
all_after P sofar (x ∷ xs) all = (All-head P x xs all, all_after P (sofar ++ x ∷ []) xs (All-tail P x xs all))

-- names that no earlier element has
module _ {X : Type 0} (name_of : X → List ℕ) where
  differ_more : (sofar xs : List X) → AllPairs (λ x y. name_of x ≢ name_of y) sofar → ComeAfter (λ before x. is_named name_of (name_of x) before ≡ false) sofar xs → AllPairs (λ x y. name_of x ≢ name_of y) (sofar ++ xs)
  differ_more sofar [] pairs all = subst (λ (ys : List X). AllPairs (λ x y. name_of x ≢ name_of y) ys) (sym (append-nil sofar)) pairs
  differ_more sofar (x ∷ xs) pairs all =
      subst (λ (ys : List X). AllPairs (λ x y. name_of x ≢ name_of y) ys) (append_assoc sofar (x ∷ []) xs)
      (differ_more (sofar ++ x ∷ []) xs (all_pairs_push (λ x y. name_of x ≢ name_of y) sofar x pairs (none_named name_of (name_of x) sofar all.0)) all.1)

  pub after_differ : (xs : List X) → ComeAfter (λ before x. is_named name_of (name_of x) before ≡ false) [] xs → AllPairs (λ x y. name_of x ≢ name_of y) xs
  after_differ xs all = differ_more [] xs (no_pairs (λ x y. name_of x ≢ name_of y)) all

  pub differ_after : (sofar xs : List X) → AllPairs (λ x y. name_of x ≢ name_of y) (sofar ++ xs) → ComeAfter (λ before x. is_named name_of (name_of x) before ≡ false) sofar xs
  differ_after sofar [] pairs = tt
  differ_after sofar (x ∷ xs) pairs = (
    new_name name_of sofar x xs pairs,
    differ_after (sofar ++ x ∷ []) xs (subst (λ (ys : List X). AllPairs (λ x y. name_of x ≢ name_of y) ys) (sym (append_assoc sofar (x ∷ []) xs)) pairs),
  )
