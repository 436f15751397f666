-- Keys and their words.
use Rattle.std.{proofs.Common.{◌≡◌, ℕ, ◌<◌, Bool, true, false, cond, not, List, [], ◌∷◌, get_or, Option, None, Some, Result, Ok, Err, refl, sym, ap, subst, ◌∙◌, arith, ⊎_elim, option_map}, proofs.lemmas.List.Folds.{Any-from_list_any, list_any-from_Any}}
use Rattle.net_core.{proofs.Library.{list_any, and_parts, cases_Bool, none_passes, not_true, same_is}, specs.Terms.are_same}
use Rattle.text_kit.{specs.Terms.ComeAfter, proofs.Lemmas.{after_differ, differ_after, is_same}}
use Rattle.model_reader.{specs.declared.model.ModelKey.ModelKey, specs.declared.model.ModelKey.TheVariants.{Demand, Link, LinkCapacity, FixedCharge, Routing, AdmissiblePath, HopLimit, Survivability}, specs.declared.model.ModelKind.ModelKind, specs.declared.model.Setting.Setting, specs.declared.model.Setting.TheVariants.{Charge, Plain, Reconfiguration}, specs.Models.{IsEachOnce, key_of, key_word, plain_word, value_word}, specs.ModelReading.{all_keys, first_key, has_key, is_setting, key_after, missing, new_key, value_of}}
use Rattle.model_reader.specs.declared.model.ModelKind.TheVariants as kinds

abbrev key_of_word : List ℕ → Option ModelKey
key_of_word w = first_key (λ k. are_same (key_word k) w) all_keys

-- the word of a key is its own
key_again : (k : ModelKey) → key_of_word (key_word k) ≡ Some k
key_again Demand = refl
key_again Link = refl
key_again LinkCapacity = refl
key_again FixedCharge = refl
key_again Routing = refl
key_again AdmissiblePath = refl
key_again HopLimit = refl
key_again Survivability = refl

some_is : (x k : ModelKey) → Some x ≡ Some k → x ≡ k
some_is x k e = cc

words_apart : (a b : ModelKey) → key_word a ≡ key_word b → a ≡ b
words_apart a b same = some_is a b (sym (key_again a) ∙ (ap key_of_word same ∙ key_again b))

first_passes : (p : ModelKey → Bool) (ks : List ModelKey) (k : ModelKey) → first_key p ks ≡ Some k → p k ≡ true
first_passes p [] k h = absurd cc
first_passes p (x ∷ xs) k h =
    ⊎_elim
    (λ (yes : p x ≡ true). let is : x ≡ k = some_is x k (sym (ap (λ (b : Bool). cond b (Some x) (first_key p xs)) yes) ∙ h) in subst (λ (y : ModelKey). p y ≡ true) is yes)
    (λ (not_this : p x ≡ false). first_passes p xs k (sym (ap (λ (b : Bool). cond b (Some x) (first_key p xs)) not_this) ∙ h))
    (cases_Bool (p x))

-- ---- a key after earlier settings

new_takes : (sofar : List Setting) (o : Option ModelKey) (k : ModelKey) → new_key sofar o ≡ Ok k → (o ≡ Some k) × (has_key sofar k ≡ false)
new_takes sofar None k e = absurd cc
new_takes sofar (Some x) k e = by (has_key sofar x) refl e
  where
    by : (b : Bool) → has_key sofar x ≡ b → (let r : Result ModelKey ModelKind = cond b (Err kinds.DoubleKey) (Ok x) in r ≡ Ok k) → (Some x ≡ Some k) × (has_key sofar k ≡ false)
    by true new h = absurd cc
    by false new h = let is : x ≡ k = cc in (ap (λ (y : ModelKey). Some y) is, subst (λ (y : ModelKey). has_key sofar y ≡ false) is new)

pub key_takes : (sofar : List Setting) (w : List ℕ) (k : ModelKey) → key_after sofar w ≡ Ok k → (has_key sofar k ≡ false) × (w ≡ key_word k)
key_takes sofar w k e =
    let t = new_takes sofar (key_of_word w) k e in
    (t.1, sym (same_is (key_word k) w (first_passes (λ x. are_same (key_word x) w) all_keys k t.0)))

pub key_after_again : (sofar : List Setting) (w : List ℕ) (k : ModelKey) → has_key sofar k ≡ false → w ≡ key_word k → key_after sofar w ≡ Ok k
key_after_again sofar w k new is = ap (key_after sofar) is ∙ (ap (new_key sofar) (key_again k) ∙ ap (λ (b : Bool). cond b (Err kinds.DoubleKey) (Ok k)) new)

-- ---- a value of a key

setting_takes : (s : Setting) (k : ModelKey) (w : List ℕ) → is_setting s k w ≡ true → (k ≡ key_of s) × (w ≡ value_word s)
setting_takes s k w e =
    let both = and_parts (are_same (key_word k) (key_word (key_of s))) (are_same w (value_word s)) e in
    (words_apart k (key_of s) (same_is (key_word k) (key_word (key_of s)) both.0), same_is w (value_word s) both.1)

value_if : (k : ModelKey) (w : List ℕ) (s : Setting) (a b c : Bool) → are_same w (plain_word k) ≡ a → is_setting Reconfiguration k w ≡ b → is_setting Charge k w ≡ c
    → (let r : Result Setting ModelKind = cond a (Ok (Plain k)) (cond b (Ok Reconfiguration) (cond c (Ok Charge) (Err (kinds.Unsupported k)))) in r ≡ Ok s) → (k ≡ key_of s) × (w ≡ value_word s)
value_if k w s true b c p q r e = let is : Plain k ≡ s = cc in subst (λ (t : Setting). (k ≡ key_of t) × (w ≡ value_word t)) is (refl, same_is w (plain_word k) p)
value_if k w s false true c p q r e = let is : Reconfiguration ≡ s = cc in subst (λ (t : Setting). (k ≡ key_of t) × (w ≡ value_word t)) is (setting_takes Reconfiguration k w q)
value_if k w s false false true p q r e = let is : Charge ≡ s = cc in subst (λ (t : Setting). (k ≡ key_of t) × (w ≡ value_word t)) is (setting_takes Charge k w r)
value_if k w s false false false p q r e = absurd cc

pub value_takes : (k : ModelKey) (w : List ℕ) (s : Setting) → value_of k w ≡ Ok s → (k ≡ key_of s) × (w ≡ value_word s)
value_takes k w s e = value_if k w s (are_same w (plain_word k)) (is_setting Reconfiguration k w) (is_setting Charge k w) refl refl refl e

pub value_again : (k : ModelKey) (w : List ℕ) (s : Setting) → k ≡ key_of s → w ≡ value_word s → value_of k w ≡ Ok s
value_again k w (Plain j) key value = rw (key, value, is_same (plain_word j)) refl
value_again k w Reconfiguration key value = rw (key, value) refl
value_again k w Charge key value = rw (key, value) refl

-- ---- each key is there once

none_some : (x : ModelKey) → Some x ≡ None → ⊥
none_some x e = absurd cc

none_pass : (p : ModelKey → Bool) (ks : List ModelKey) → first_key p ks ≡ None → list_any p ks ≡ false
none_pass p [] h = refl
none_pass p (x ∷ xs) h =
    ⊎_elim
    (λ (yes : p x ≡ true). absurd (none_some x (sym (ap (λ (b : Bool). cond b (Some x) (first_key p xs)) yes) ∙ h)))
    (λ (not_this : p x ≡ false). rw not_this (none_pass p xs (sym (ap (λ (b : Bool). cond b (Some x) (first_key p xs)) not_this) ∙ h)))
    (cases_Bool (p x))

abbrev place : ModelKey → ℕ
place Demand = 0
place Link = 1
place LinkCapacity = 2
place FixedCharge = 3
place Routing = 4
place AdmissiblePath = 5
place HopLimit = 6
place Survivability = 7

at_place : (k : ModelKey) → (place k < 8) × (get_or all_keys (place k) k ≡ k)
at_place Demand = (omega arith, refl)
at_place Link = (omega arith, refl)
at_place LinkCapacity = (omega arith, refl)
at_place FixedCharge = (omega arith, refl)
at_place Routing = (omega arith, refl)
at_place AdmissiblePath = (omega arith, refl)
at_place HopLimit = (omega arith, refl)
at_place Survivability = (omega arith, refl)

no_fault_none : (o : Option ModelKey) → option_map (λ k. kinds.Missing k) o ≡ None → o ≡ None
no_fault_none None e = refl
no_fault_none (Some k) e = absurd cc

has_all : (settings : List Setting) → missing settings ≡ None → (k : ModelKey) → has_key settings k ≡ true
has_all settings e k =
    let p = at_place k in
    let none = no_fault_none (first_key (λ x. not (has_key settings x)) all_keys) e in
    let passes : not (has_key settings (get_or all_keys (place k) k)) ≡ false = none_passes (λ x. not (has_key settings x)) all_keys (none_pass (λ x. not (has_key settings x)) all_keys none) (place k) k p.0 in
    subst (λ (x : ModelKey). has_key settings x ≡ true) p.1 (not_true (has_key settings (get_or all_keys (place k) k)) passes)

first_none : (p : ModelKey → Bool) (ks : List ModelKey) → ((k : ModelKey) → p k ≡ false) → first_key p ks ≡ None
first_none p [] h = refl
first_none p (x ∷ xs) h = rw (h x) (first_none p xs h)

-- none missing, and none twice
abbrev pub IsComplete : List Setting → Type 0
IsComplete settings = (missing settings ≡ None) × ComeAfter (λ sofar s. has_key sofar (key_of s) ≡ false) [] settings

pub each_once : (settings : List Setting) → IsComplete settings → IsEachOnce settings
each_once settings h = record {
  different = λ i j d lt within same. after_differ (λ s. key_word (key_of s)) settings h.1 i j d lt within (ap key_word same);
  all = λ k.
      let a = Any-from_list_any (λ s. are_same (key_word (key_of s)) (key_word k)) settings (has_all settings h.0 k) in
      (a.0, a.1, a.2, a.3, words_apart (key_of a.1) k (same_is (key_word (key_of a.1)) (key_word k) a.4));
}

pub complete : (settings : List Setting) → IsEachOnce settings → IsComplete settings
complete settings once = (
  ap (option_map (λ k. kinds.Missing k)) (first_none (λ k. not (has_key settings k)) all_keys (λ k.
      let a = once.all k in
      ap not (list_any-from_Any (λ s. are_same (key_word (key_of s)) (key_word k)) settings (a.0, a.1, a.2, a.3, ap (λ x. are_same (key_word x) (key_word k)) a.4 ∙ is_same (key_word k))))),
  differ_after (λ s. key_word (key_of s)) [] settings (λ i j d lt within same. once.different i j d lt within (words_apart _ _ same)),
)
