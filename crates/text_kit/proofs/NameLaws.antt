-- Which words are names: any, new ones, and those that name something.
use Rattle.std.proofs.Common.{◌≡◌, ◌≢◌, ℕ, ◌<◌, ◌≤◌, Bool, true, false, cond, nat_lt, List, [], ◌∷◌, length, get_or, All, AllPairs, Option, None, Some, Ok, refl, sym, ap, subst, ◌∙◌, arith, position, ltb-true, ltb-false, le-ltb, lt-ltb}
use Rattle.net_core.{proofs.Library.{position_or_len, position-Some, position_or_len_is, differ, same_is}, specs.Terms.{are_same, is_named}}
use Rattle.text_kit.{specs.Items.{ComeAfter, Verbatim}, specs.Names.{any_name, found_or, long_name_fault, named_place, new_name, new_name_fault}, specs.Reading.{sound, word_at}, proofs.After.{all_after, after_all, after_as, after_both, after_differ, differ_after}, proofs.Lawful.{AnyText, Lawful, after_few, few_after, is_same, lawful_word, sound_ok}, proofs.Outcomes.unless_ok}

-- ---- any name

long_none : {K : Type 0} (long : K) (b : Bool) → (let o : Option K = cond b (Some long) None in o ≡ None) → b ≡ false
long_none long true e = absurd cc
long_none long false e = refl

any_takes : {K : Type 0} (long : K) (w n : List ℕ) → any_name long w ≡ Ok n → (length n ≤ 255) × (w ≡ n)
any_takes long w n e =
    let s = sound_ok w n (long_name_fault long w) e in
    (subst (λ (v : List ℕ). length v ≤ 255) s.1 (ltb-false 255 (length w) (long_none long (nat_lt 255 (length w)) s.0)), s.1)

any_again : {K : Type 0} (long : K) (w n : List ℕ) → length n ≤ 255 → w ≡ n → any_name long w ≡ Ok n
any_again long w n short same = ap (any_name long) same ∙ rw (le-ltb 255 (length n) short) refl

pub lawful_any_name : {K : Type 0} (other ended long : K) → Lawful (word_at other ended (any_name long)) (λ n. Verbatim n ∷ []) (λ n. length n ≤ 255) AnyText
lawful_any_name other ended long = lawful_word other ended (any_name long) (λ n. Verbatim n) (λ n. length n ≤ 255) (λ n. tt) (any_takes long) (any_again long)

-- ---- new names

-- a name that may come after earlier ones
abbrev pub IsNew : {X : Type 0} → (X → List ℕ) → ℕ → List X → List ℕ → Type 0
IsNew name_of most sofar w = (length sofar < most) × (is_named name_of w sofar ≡ false) × (length w ≤ 255)

module _ {X K : Type 0} (name_of : X → List ℕ) (most : ℕ) (long double limit : K) where
  abbrev fault : List X → List ℕ → Option K
  fault sofar w = new_name_fault long double limit most (length sofar) (is_named name_of w sofar) w

  no_fault_is : (far taken few : Bool) → (let o : Option K = cond far (Some long) (cond taken (Some double) (cond few None (Some limit))) in o ≡ None) → (far ≡ false) × (taken ≡ false) × (few ≡ true)
  no_fault_is true taken few e = absurd cc
  no_fault_is false true few e = absurd cc
  no_fault_is false false true e = (refl, refl, refl)
  no_fault_is false false false e = absurd cc

  pub fault_none : (sofar : List X) (w : List ℕ) → fault sofar w ≡ None → IsNew name_of most sofar w
  fault_none sofar w e =
      let t = no_fault_is (nat_lt 255 (length w)) (is_named name_of w sofar) (nat_lt (length sofar) most) e in
      (ltb-true (length sofar) most t.2, t.1, ltb-false 255 (length w) t.0)

  pub none_fault : (sofar : List X) (w : List ℕ) → IsNew name_of most sofar w → fault sofar w ≡ None
  none_fault sofar w is = rw (le-ltb 255 (length w) is.2, is.1, lt-ltb (length sofar) most is.0) refl

  new_takes : (sofar : List X) (w n : List ℕ) → new_name name_of most long double limit sofar w ≡ Ok n → IsNew name_of most sofar n × (w ≡ n)
  new_takes sofar w n e =
      let s = sound_ok w n (fault sofar w) e in
      (subst (IsNew name_of most sofar) s.1 (fault_none sofar w s.0), s.1)

  new_again : (sofar : List X) (w n : List ℕ) → IsNew name_of most sofar n → w ≡ n → new_name name_of most long double limit sofar w ≡ Ok n
  new_again sofar w n is same =
      ap (λ (v : List ℕ). new_name name_of most long double limit sofar v) same ∙ ap (λ (o : Option K). sound n o) (none_fault sofar n is)

  pub lawful_new_name : (other ended : K) (sofar : List X) → Lawful (word_at other ended (new_name name_of most long double limit sofar)) (λ n. Verbatim n ∷ []) (IsNew name_of most sofar) AnyText
  lawful_new_name other ended sofar = lawful_word other ended (new_name name_of most long double limit sofar) (λ n. Verbatim n) (IsNew name_of most sofar) (λ n. tt) (new_takes sofar) (new_again sofar)

-- names that are new, all together
pub are_new : {X : Type 0} (name_of : X → List ℕ) (most : ℕ) (xs : List X) → ComeAfter (λ before x. IsNew name_of most before (name_of x)) [] xs → (length xs ≤ most) × AllPairs (λ x y. name_of x ≢ name_of y) xs × All (λ x. length (name_of x) ≤ 255) xs
are_new {X} name_of most xs all = (
  (few_after most (λ before x. Unit {0}) [] xs (omega arith) (after_as _ (λ before x. (length before < most) × Unit {0}) [] xs (λ before x h. (h.0, tt)) all)).0,
  after_differ name_of xs (after_as _ (λ before x. is_named name_of (name_of x) before ≡ false) [] xs (λ before x h. h.1) all),
  after_all (λ x. length (name_of x) ≤ 255) [] xs (after_as _ (λ before x. length (name_of x) ≤ 255) [] xs (λ before x h. h.2) all),
)

pub new_are : {X : Type 0} (name_of : X → List ℕ) (most : ℕ) (xs : List X) → length xs ≤ most → AllPairs (λ x y. name_of x ≢ name_of y) xs → All (λ x. length (name_of x) ≤ 255) xs → ComeAfter (λ before x. IsNew name_of most before (name_of x)) [] xs
new_are {X} name_of most xs few different short =
    after_as _ (λ before x. IsNew name_of most before (name_of x)) [] xs (λ before x h. (h.0.0, h.1.0, h.1.1))
    (after_both (λ before x. (length before < most) × Unit {0}) (λ before x. (is_named name_of (name_of x) before ≡ false) × (length (name_of x) ≤ 255)) [] xs (after_few most (λ before x. Unit {0}) [] xs few (all_after (λ x. Unit {0}) [] xs (λ k d lt. tt)))
    (after_both (λ before x. is_named name_of (name_of x) before ≡ false) (λ before x. length (name_of x) ≤ 255) [] xs (differ_after name_of [] xs different) (all_after (λ x. length (name_of x) ≤ 255) [] xs short)))

-- ---- the place of a name; `d` is read where there is none

pub found_takes : {K : Type 0} (unknown : K) (o : Option ℕ) (i : ℕ) → found_or unknown o ≡ Ok i → o ≡ Some i
found_takes unknown None i e = absurd cc
found_takes unknown (Some k) i e = cc

module _ {X K : Type 0} (name_of : X → List ℕ) (long unknown : K) (xs : List X) (d : X) where
  -- there is such a place, and the name there isn't too long
  abbrev pub IsPlaceIn : ℕ → Type 0
  IsPlaceIn i = (i < length xs) × (length (name_of (get_or xs i d)) ≤ 255)

  pub place_takes : (w : List ℕ) (i : ℕ) → named_place name_of long unknown xs w ≡ Ok i → IsPlaceIn i × (w ≡ name_of (get_or xs i d))
  place_takes w i e =
      let t = unless_ok (nat_lt 255 (length w)) long (found_or unknown (position (λ x. are_same (name_of x) w) xs)) i e in
      let p = position-Some (λ x. are_same (name_of x) w) xs i d (found_takes unknown (position (λ x. are_same (name_of x) w) xs) i t.1) in
      let is : w ≡ name_of (get_or xs i d) = sym (same_is (name_of (get_or xs i d)) w p.1) in
      ((p.0, subst (λ (v : List ℕ). length v ≤ 255) is (ltb-false 255 (length w) t.0)), is)

  pub place_again : AllPairs (λ x y. name_of x ≢ name_of y) xs → (w : List ℕ) (i : ℕ) → IsPlaceIn i → w ≡ name_of (get_or xs i d) → named_place name_of long unknown xs w ≡ Ok i
  place_again pairs w i is same =
      let name = name_of (get_or xs i d) in
      let first : position_or_len (λ x. are_same (name_of x) name) xs ≡ i =
      position_or_len_is (λ x. are_same (name_of x) name) xs i d (omega (arith, is.0))
      (λ k below. differ (name_of (get_or xs k d)) name (λ equal. pairs k i d below is.0 equal))
      (λ within. is_same name) in
      ap (named_place name_of long unknown xs) same ∙ rw (le-ltb 255 (length name) is.1, first, lt-ltb i (length xs) is.0) refl

  pub lawful_place : (other ended : K) → AllPairs (λ x y. name_of x ≢ name_of y) xs → Lawful (word_at other ended (named_place name_of long unknown xs)) (λ i. Verbatim (name_of (get_or xs i d)) ∷ []) IsPlaceIn AnyText
  lawful_place other ended pairs = lawful_word other ended (named_place name_of long unknown xs) (λ i. Verbatim (name_of (get_or xs i d))) IsPlaceIn (λ i. tt) place_takes (place_again pairs)
