-- Readings that take exactly the texts of what they give.
use Rattle.std.proofs.Common.{◌≡◌, ℕ, ◌<◌, ◌≤◌, Bool, true, false, cond, List, [], ◌∷◌, ◌++◌, length, Option, None, Result, Ok, Err, refl, sym, ap, subst, ◌∙◌, arith, append-nil, length-append, flat_map}
use Rattle.net_core.{specs.Terms.are_same, proofs.Checks.same_is}
use Rattle.snd_tokens.specs.Terms.{Text, WordAt, OpenAt, CloseAt, EndAt}
use Rattle.text_kit.{specs.Items.{ComeAfter, AreSpelled, Item, Verbatim, Whole, Money, Opening, Closing, SpellsItem, Begins}, specs.Reading.{Read, Reading, after, ◌>>=◌, give, word_at, open_at, close_at, end_at, expected, Ending, Parenthesis, list_at, not_empty, whole_at}, proofs.Online.{ok_parts, placed_ok}, proofs.Spelled.{after_parts, law_spelled, parts_after, spelled_as, spelled_elements, spelled_law}}
pub use Rattle.text_kit.proofs.Beginnings.{AnyText, IsEnd, IsLeftBy, Starts, StartsBefore, begins_both, begins_parts, ending_again, ending_items, ending_takes, is_same, no_ending, sound_ok, starts_less}
pub use Rattle.text_kit.proofs.Spelled.{Lawful}

pub lawful_give : {K X : Type 0} (v : X) → Lawful {K = K} (give v) (λ x. []) (λ x. v ≡ x) AnyText
lawful_give {K} v = record {
  takes = λ text x rest e. let p = ok_parts {K = K} v x text rest e in (p.0, p.1, tt);
  again = λ text x rest is begins left. let e : give {K = K} v text ≡ Ok (x, rest) = cc in e;
}

-- ---- one lexeme

open_takes : {K : Type 0} (other ended : K) (text : Text) (x : Unit {0}) (rest : Text) → open_at other ended text ≡ Ok (x, rest) → Begins (Opening ∷ []) text rest
open_takes other ended (WordAt at w t) x rest e = absurd cc
open_takes {K} other ended (OpenAt at t) x rest e = (refl, (ok_parts {K = K} tt x t rest e).1)
open_takes other ended (CloseAt at t) x rest e = absurd cc
open_takes other ended (EndAt at) x rest e = absurd cc

open_again : {K : Type 0} (other ended : K) (text : Text) (rest : Text) → Begins (Opening ∷ []) text rest → open_at other ended text ≡ Ok (tt, rest)
open_again other ended (WordAt at w t) rest b = absurd b.0
open_again other ended (OpenAt at t) rest b = ap (λ (u : Text). Ok (tt, u)) b.1
open_again other ended (CloseAt at t) rest b = absurd (let e : Opening ≡ Closing = b.0 in cc)
open_again other ended (EndAt at) rest b = absurd b

pub lawful_open : {K : Type 0} (other ended : K) → Lawful (open_at other ended) (λ x. Opening ∷ []) (λ x. Unit {0}) AnyText
lawful_open other ended = record {
  takes = λ text x rest e. (tt, open_takes other ended text x rest e, tt);
  again = λ text x rest is b left. open_again other ended text rest b;
}

close_takes : {K : Type 0} (other ended : K) (text : Text) (x : Unit {0}) (rest : Text) → close_at other ended text ≡ Ok (x, rest) → Begins (Closing ∷ []) text rest
close_takes other ended (WordAt at w t) x rest e = absurd cc
close_takes other ended (OpenAt at t) x rest e = absurd cc
close_takes {K} other ended (CloseAt at t) x rest e = (refl, (ok_parts {K = K} tt x t rest e).1)
close_takes other ended (EndAt at) x rest e = absurd cc

close_again : {K : Type 0} (other ended : K) (text : Text) (rest : Text) → Begins (Closing ∷ []) text rest → close_at other ended text ≡ Ok (tt, rest)
close_again other ended (WordAt at w t) rest b = absurd b.0
close_again other ended (OpenAt at t) rest b = absurd (let e : Closing ≡ Opening = b.0 in cc)
close_again other ended (CloseAt at t) rest b = ap (λ (u : Text). Ok (tt, u)) b.1
close_again other ended (EndAt at) rest b = absurd b

pub lawful_close : {K : Type 0} (other ended : K) → Lawful (close_at other ended) (λ x. Closing ∷ []) (λ x. Unit {0}) AnyText
lawful_close other ended = record {
  takes = λ text x rest e. (tt, close_takes other ended text x rest e, tt);
  again = λ text x rest is b left. close_again other ended text rest b;
}

end_takes : {K X : Type 0} (other : K) (x y : X) (text rest : Text) → after (end_at other text) (λ _. give x) ≡ Ok (y, rest) → (x ≡ y) × (text ≡ rest) × IsEnd rest
end_takes other x y (WordAt at w t) rest e = absurd cc
end_takes other x y (OpenAt at t) rest e = absurd cc
end_takes other x y (CloseAt at t) rest e = absurd cc
end_takes {K} other x y (EndAt at) rest e = let p = ok_parts {K = K} x y (EndAt at) rest e in (p.0, p.1, (at, sym p.1))

-- the end, after what was read
pub lawful_end : {K X : Type 0} (other : K) (x : X) → Lawful (end_at other >>= λ _. give x) (λ y. []) (λ y. x ≡ y) IsEnd
lawful_end {K} {X} other x = record {
  takes = λ text y rest e. end_takes other x y text rest e;
  again = λ text y rest is b left. rw (b, left.1) (ap (λ (z : X). Ok (z, EndAt left.0)) is);
}

-- a word's item is no parenthesis
abbrev pub IsWord : Item → Type 0
IsWord (Verbatim v) = Unit {0}
IsWord (Whole n) = Unit {0}
IsWord (Money p n) = Unit {0}
IsWord Opening = ⊥
IsWord Closing = ⊥

module _ {K X : Type 0} (other ended : K) (test : List ℕ → Result X K) (item : X → Item) (is : X → Type 0) (word : (x : X) → IsWord (item x)) (passed : (w : List ℕ) (x : X) → test w ≡ Ok x → is x × SpellsItem w (item x)) (passes : (w : List ℕ) (x : X) → is x → SpellsItem w (item x) → test w ≡ Ok x) where
  word_takes : (text : Text) (x : X) (rest : Text) → word_at other ended test text ≡ Ok (x, rest) → is x × Begins (item x ∷ []) text rest × AnyText rest
  word_takes (WordAt at w t) x rest e = let p = placed_ok at t (test w) x rest e in let q = passed w x p.0 in (q.0, (q.1, p.1), tt)
  word_takes (OpenAt at t) x rest e = absurd cc
  word_takes (CloseAt at t) x rest e = absurd cc
  word_takes (EndAt at) x rest e = absurd cc

  word_again : (text : Text) (x : X) (rest : Text) → is x → Begins (item x ∷ []) text rest → word_at other ended test text ≡ Ok (x, rest)
  word_again (WordAt at w t) x rest form b = rw (passes w x form b.0) (ap (λ (u : Text). Ok (x, u)) b.1)
  word_again (OpenAt at t) x rest form b = absurd (subst IsWord b.0 (word x))
  word_again (CloseAt at t) x rest form b = absurd (subst IsWord b.0 (word x))
  word_again (EndAt at) x rest form b = absurd b

  pub lawful_word : Lawful (word_at other ended test) (λ x. item x ∷ []) is AnyText
  lawful_word = record { takes = word_takes; again = λ text x rest form b left. word_again text x rest form b }

pub key_if : {K : Type 0} (other : K) (b : Bool) (x : Unit {0}) → (let r : Result (Unit {0}) K = cond b (Ok tt) (Err other) in r ≡ Ok x) → b ≡ true
key_if other true x e = refl
key_if other false x e = absurd cc

-- one expected word
pub lawful_key : {K : Type 0} (other ended wrong : K) (wanted : List ℕ) → Lawful (word_at other ended (expected wrong wanted)) (λ x. Verbatim wanted ∷ []) (λ x. Unit {0}) AnyText
lawful_key other ended wrong wanted = lawful_word other ended (expected wrong wanted) (λ x. Verbatim wanted) (λ x. Unit {0}) (λ x. tt)
    (λ w x e. (tt, same_is w wanted (key_if wrong (are_same w wanted) x e)))
    (λ w x is same. ap (expected wrong wanted) same ∙ rw (is_same wanted) refl)

-- ---- one reading after another, whose answer tells what the first gave

module _ {K A B : Type 0} (r : Reading K A) (f : A → Reading K B) (ia : A → List Item) (ib : B → List Item) (pa : A → Type 0) (pb : A → B → Type 0) (IsLeft : Text → Type 0) (first : B → A) (known : (a : A) (b : B) → pb a b → a ≡ first b) (one : Lawful r ia pa AnyText) (two : (a : A) → Lawful (f a) ib (pb a) IsLeft) where
  then_takes : (text : Text) (q : Read K A) (b : B) (rest : Text) → r text ≡ q → after q f ≡ Ok (b, rest) → (pa (first b) × pb (first b) b) × Begins (ia (first b) ++ ib b) text rest × IsLeft rest
  then_takes text (Ok x) b rest is e =
      let h = one.takes text x.0 x.1 is in
      let k = (two x.0).takes x.1 b rest e in
      let same : x.0 ≡ first b = known x.0 b k.0 in
      ((subst pa same h.0, subst (λ (a : A). pb a b) same k.0), subst (λ (a : A). Begins (ia a ++ ib b) text rest) same (begins_both (ia x.0) (ib b) text x.1 rest h.1 k.1), k.2)
  then_takes text (Err d) b rest is e = absurd cc

  then_again : (text : Text) (b : B) (rest : Text) → pa (first b) × pb (first b) b → Begins (ia (first b) ++ ib b) text rest → IsLeft rest → after (r text) f ≡ Ok (b, rest)
  then_again text b rest form begins left =
      let p = begins_parts (ia (first b)) (ib b) text rest begins in
      rw (one.again text (first b) p.0 form.0 p.1 tt) ((two (first b)).again p.0 b rest form.1 p.2 left)

  pub lawful_then : Lawful (r >>= f) (λ b. ia (first b) ++ ib b) (λ b. pa (first b) × pb (first b) b) IsLeft
  lawful_then = record { takes = λ text b rest e. then_takes text (r text) b rest refl e; again = then_again }

-- a reading that is lawful by items and a form is so by equal items and an equivalent form
pub lawful_as : {K X : Type 0} (r : Reading K X) (items items' : X → List Item) (is is' : X → Type 0) (IsLeft : Text → Type 0) → ((x : X) → is x → items x ≡ items' x) → ((x : X) → is x → is' x) → ((x : X) → is' x → is x) → Lawful r items is IsLeft → Lawful r items' is' IsLeft
lawful_as r items items' is is' IsLeft same to fro l = record {
  takes = λ text x rest e. let h = l.takes text x rest e in (to x h.0, subst (λ (xs : List Item). Begins xs text rest) (same x h.0) h.1, h.2);
  again = λ text x rest form b left. l.again text x rest (fro x form) (subst (λ (xs : List Item). Begins xs text rest) (sym (same x (fro x form))) b) left;
}

-- a whole text
pub lawful_whole : {K X : Type 0} (other : K) (r : Reading K X) (items : X → List Item) (is : X → Type 0) → Lawful r items is AnyText → Lawful (whole_at other r) items is IsEnd
lawful_whole other r items is law = lawful_as (whole_at other r) _ items _ is IsEnd (λ x h. append-nil (items x)) (λ x h. h.0) (λ x h. (h, refl))
    (lawful_then r (λ x. end_at other >>= λ _. give x) items (λ x. []) is (λ a x. a ≡ x) IsEnd (λ x. x) (λ a x e. e) law (λ a. lawful_end other a))

-- ---- lists

-- the items of elements, one after another
spelled_flat : {X : Type 0} (items : X → List Item) (xs : List X) (is : List Item) → AreSpelled (λ x js. js ≡ items x) xs is → is ≡ flat_map items xs
spelled_flat items [] is s = s
spelled_flat items (x ∷ xs) is s = s.4 ∙ rw (s.2, spelled_flat items xs s.1 s.3) refl

flat_spelled : {X : Type 0} (items : X → List Item) (xs : List X) → AreSpelled (λ x js. js ≡ items x) xs (flat_map items xs)
flat_spelled items [] = refl
flat_spelled items (x ∷ xs) = (items x, flat_map items xs, refl, flat_spelled items xs, refl)

pub lawful_list : {K X : Type 0} (ending : Ending) (fault : List X → Option K) (one : List X → Reading K X) (items : X → List Item) (is : List X → X → Type 0) (starts : (x : X) → StartsBefore ending (items x)) (law : (sofar : List X) → Lawful (one sofar) items (is sofar) AnyText)
    → Lawful (list_at ending fault one []) (λ xs. flat_map items xs ++ ending_items ending) (λ xs. (fault xs ≡ None) × ComeAfter is [] xs) (IsLeftBy ending)
lawful_list {X} ending fault one items is starts law = law_spelled _ _ _ _ (spelled_as _ _ (λ xs js. ((fault xs ≡ None) × ComeAfter is [] xs) × (js ≡ flat_map items xs ++ ending_items ending)) _
    (λ xs js s. let p = after_parts is (λ x ks. ks ≡ items x) [] xs s.1.0 s.1.1 in ((s.0, p.0), s.1.2 ∙ ap (λ (ks : List Item). ks ++ ending_items ending) (spelled_flat items xs s.1.0 p.1)))
    (λ xs js s. (s.0.0, (flat_map items xs, parts_after is (λ x ks. ks ≡ items x) [] xs (flat_map items xs) s.0.1 (flat_spelled items xs), s.1)))
    (spelled_elements ending fault one (λ sofar x js. is sofar x × (js ≡ items x)) (λ sofar x js s. subst (StartsBefore ending) (sym s.1) (starts x)) (λ sofar. spelled_law (one sofar) items (is sofar) AnyText (law sofar))))

-- ---- limits

-- so there are n at most
pub few_after : {X : Type 0} (n : ℕ) (is : List X → X → Type 0) (sofar xs : List X) → length sofar ≤ n → ComeAfter (λ before x. (length before < n) × is before x) sofar xs → (length (sofar ++ xs) ≤ n) × ComeAfter is sofar xs
few_after n is sofar [] le all = (omega (arith, le, length-append sofar []), tt)
few_after n is sofar (x ∷ xs) le all =
    let h = few_after n is (sofar ++ x ∷ []) xs (omega (arith, all.0.0, length-append sofar (x ∷ []))) all.1 in
    (omega (arith, h.0, length-append (sofar ++ x ∷ []) xs, length-append sofar (x ∷ []), length-append sofar (x ∷ xs)), (all.0.1, h.1))

pub after_few : {X : Type 0} (n : ℕ) (is : List X → X → Type 0) (sofar xs : List X) → length (sofar ++ xs) ≤ n → ComeAfter is sofar xs → ComeAfter (λ before x. (length before < n) × is before x) sofar xs
after_few n is sofar [] le all = tt
after_few n is sofar (x ∷ xs) le all = (
  (omega (arith, le, length-append sofar (x ∷ xs)), all.0),
  after_few n is (sofar ++ x ∷ []) xs (omega (arith, le, length-append (sofar ++ x ∷ []) xs, length-append sofar (x ∷ []), length-append sofar (x ∷ xs))) all.1,
)

some_there : {K X : Type 0} (kind : K) (xs : List X) → not_empty kind xs ≡ None → 1 ≤ length xs
some_there kind [] e = absurd cc
some_there kind (x ∷ xs) e = omega arith

no_fault_there : {K X : Type 0} (kind : K) (xs : List X) → 1 ≤ length xs → not_empty kind xs ≡ None
no_fault_there kind [] some = absurd (omega (arith, some))
no_fault_there kind (x ∷ xs) some = refl

-- a list of one element or more
pub lawful_some : {K X : Type 0} (kind : K) (one : List X → Reading K X) (items : X → List Item) (is : List X → X → Type 0) (starts : (x : X) → Starts (items x)) (law : (sofar : List X) → Lawful (one sofar) items (is sofar) AnyText)
    → Lawful (list_at Parenthesis (not_empty kind) one []) (λ xs. flat_map items xs ++ Closing ∷ []) (λ xs. (1 ≤ length xs) × ComeAfter is [] xs) AnyText
lawful_some kind one items is starts law = lawful_as (list_at Parenthesis (not_empty kind) one []) _ (λ xs. flat_map items xs ++ Closing ∷ []) _ _ AnyText
    (λ xs h. refl) (λ xs h. (some_there kind xs h.0, h.1)) (λ xs h. (no_fault_there kind xs h.0, h.1))
    (lawful_list Parenthesis (not_empty kind) one items is starts law)
