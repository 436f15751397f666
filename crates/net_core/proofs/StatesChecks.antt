-- what the tests of a list of failure states tell
use Rattle.std.{proofs.Common.{◌≡◌, ◌≢◌, ℕ, ◌<◌, ◌≤◌, false, not, ◌==◌, nat_lt, List, [], ◌∷◌, ◌++◌, All, AllPairs, None, get_or, length, sym, ◌∙◌, subst, arith, append_assoc, append-nil}, specs.List.list_any, proofs.lemmas.List.Elements.{All-cons, All-nil, All-append}, proofs.lemmas.List.Quantifiers.all_pairs_push, proofs.lemmas.Bool.{ltb-false, ltb-true, eqb-false}}
use Rattle.net_core.{specs.declared.states.Listed.Listed, specs.declared.states.StatesFault.TheVariants.{TooMany, Empty, UnknownLink, DoubleState}, specs.Tests.{first_fault, is_named}, specs.States.{AreStates, listed_tests, all_listed_tests, states_fault}, proofs.Checks.{first_fault-append, none_head, none_or, none_passes, none_named, not_true, no_pairs}}

-- a listed state fails some links, all known ones
pub record IsListed (n : ℕ) (l : Listed) : Type 0 where
  pub some : 1 ≤ length l.links
  pub known : All (λ e. e.0 < n) l.links

-- a state that passes its tests is sound, and no earlier one has its name
sound_listed : (n : ℕ) (earlier : List Listed) (l : Listed) → first_fault (listed_tests n earlier l) ≡ None → (is_named (λ x. x.name) l.name earlier ≡ false) × IsListed n l
sound_listed n earlier l h =
    let at = length earlier in
    let some = none_head (length l.links == 0) (Empty at) _ h in
    let known = none_head (list_any (λ e. not (nat_lt e.0 n)) l.links) (UnknownLink at) _ some.1 in
    let double = none_head (is_named (λ x. x.name) l.name earlier) (DoubleState at) _ known.1 in (
      double.0,
      record {
        some = let none : length l.links ≡ 0 → ⊥ = eqb-false (length l.links) 0 some.0 in omega arith;
        known = λ k d lt. ltb-true (get_or l.links k d).0 n (not_true _ (none_passes (λ e. not (nat_lt e.0 n)) l.links known.0 k d lt));
      },
    )

-- states that pass their tests are sound and different
sound_all : (n : ℕ) (earlier listed : List Listed) → AllPairs (λ x y. x.name ≢ y.name) earlier → All (IsListed n) earlier → first_fault (all_listed_tests n earlier listed) ≡ None → AllPairs (λ x y. x.name ≢ y.name) (earlier ++ listed) × All (IsListed n) (earlier ++ listed)
sound_all n earlier [] pairs each h =
    subst (λ xs. AllPairs (λ x y. x.name ≢ y.name) xs × All (IsListed n) xs) (sym (append-nil earlier)) (pairs, each)
sound_all n earlier (l ∷ ls) pairs each h =
    let split = none_or (first_fault (listed_tests n earlier l)) (first_fault (all_listed_tests n (earlier ++ l ∷ []) ls)) (sym (first_fault-append (listed_tests n earlier l) (all_listed_tests n (earlier ++ l ∷ []) ls)) ∙ h) in
    let now = sound_listed n earlier l split.0 in
    let pairs' : AllPairs (λ x y. x.name ≢ y.name) (earlier ++ l ∷ []) = all_pairs_push (λ x y. x.name ≢ y.name) earlier l pairs (none_named (λ x. x.name) l.name earlier now.0) in
    let each' : All (IsListed n) (earlier ++ l ∷ []) = All-append (IsListed n) earlier (l ∷ []) each (All-cons (IsListed n) l [] now.1 (All-nil (IsListed n))) in
    subst (λ xs. AllPairs (λ x y. x.name ≢ y.name) xs × All (IsListed n) xs) (append_assoc earlier (l ∷ []) ls) (sound_all n (earlier ++ l ∷ []) ls pairs' each' split.1)

-- a list without fault is a list of states
pub sound_states : (n : ℕ) (listed : List Listed) → states_fault n listed ≡ None → AreStates n listed
sound_states n listed h =
    let count = none_head (nat_lt 256 (length listed)) TooMany _ h in
    let sound = sound_all n [] listed (no_pairs (λ x y. x.name ≢ y.name)) (All-nil (IsListed n)) count.1 in
    record {
      checked = record {
        few = ltb-false 256 (length listed) count.0;
        some = λ k d lt. (sound.1 k d lt).some;
        different = sound.0;
      };
      known = λ k d lt. (sound.1 k d lt).known;
    }
