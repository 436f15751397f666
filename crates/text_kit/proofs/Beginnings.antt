-- Texts that begin with items, and where lists of items end.
use Rattle.std.proofs.Common.{◌≡◌, ℕ, ◌<◌, ◌≤◌, Bool, true, false, cond, List, [], ◌∷◌, ◌++◌, Option, None, Some, Ok, refl, sym, ap, subst, arith}
use Rattle.net_core.{proofs.Library.{Decides-eqb, slice_eq-Decides, same_is}, specs.Terms.are_same}
use Rattle.snd_tokens.specs.Terms.{Text, WordAt, OpenAt, CloseAt, EndAt, size}
use Rattle.text_kit.{specs.Items.{Item, Verbatim, Whole, Money, Opening, Closing, SpellsItem, Begins}, specs.Reading.{Ending, Parenthesis, TheEnd, TheWord, past_ending, sound}}

-- what is left is any text, or the end
abbrev pub AnyText : Text → Type 0
AnyText text = Unit {0}

abbrev pub IsEnd : Text → Type 0
IsEnd text = (at : ℕ) × (text ≡ EndAt at)

-- items after items
pub begins_both : (a b : List Item) (text mid rest : Text) → Begins a text mid → Begins b mid rest → Begins (a ++ b) text rest
begins_both [] b text mid rest p q = subst (λ t. Begins b t rest) (sym p) q
begins_both (i ∷ a) b (WordAt at w text) mid rest p q = (p.0, begins_both a b text mid rest p.1 q)
begins_both (i ∷ a) b (OpenAt at text) mid rest p q = (p.0, begins_both a b text mid rest p.1 q)
begins_both (i ∷ a) b (CloseAt at text) mid rest p q = (p.0, begins_both a b text mid rest p.1 q)
begins_both (i ∷ a) b (EndAt at) mid rest p q = absurd p

pub begins_parts : (a b : List Item) (text rest : Text) → Begins (a ++ b) text rest → (mid : Text) × Begins a text mid × Begins b mid rest
begins_parts [] b text rest p = (text, refl, p)
begins_parts (i ∷ a) b (WordAt at w text) rest p = let r = begins_parts a b text rest p.1 in (r.0, (p.0, r.1), r.2)
begins_parts (i ∷ a) b (OpenAt at text) rest p = let r = begins_parts a b text rest p.1 in (r.0, (p.0, r.1), r.2)
begins_parts (i ∷ a) b (CloseAt at text) rest p = let r = begins_parts a b text rest p.1 in (r.0, (p.0, r.1), r.2)
begins_parts (i ∷ a) b (EndAt at) rest p = absurd p

pub begins_size : (a : List Item) (text rest : Text) → Begins a text rest → size rest ≤ size text
begins_size [] text rest p = subst (λ (t : Text). size t ≤ size text) p (omega arith)
begins_size (i ∷ a) (WordAt at w text) rest p = omega (arith, begins_size a text rest p.1)
begins_size (i ∷ a) (OpenAt at text) rest p = omega (arith, begins_size a text rest p.1)
begins_size (i ∷ a) (CloseAt at text) rest p = omega (arith, begins_size a text rest p.1)
begins_size (i ∷ a) (EndAt at) rest p = absurd p

-- the first item is none that closes
abbrev pub Starts : List Item → Type 0
Starts [] = ⊥
Starts (Verbatim v ∷ is) = Unit {0}
Starts (Whole n ∷ is) = Unit {0}
Starts (Money p n ∷ is) = Unit {0}
Starts (Opening ∷ is) = Unit {0}
Starts (Closing ∷ is) = ⊥

starts_open : (is more : List Item) (at : ℕ) (t rest : Text) → Starts is → Begins (is ++ more) (CloseAt at t) rest → ⊥
starts_open [] more at t rest s b = s
starts_open (Closing ∷ is) more at t rest s b = s
starts_open (i ∷ is) more at t rest s b = let e : i ≡ Closing = b.0 in cc

starts_text : (is more : List Item) (at : ℕ) (rest : Text) → Starts is → Begins (is ++ more) (EndAt at) rest → ⊥
starts_text [] more at rest s b = s
starts_text (i ∷ is) more at rest s b = b

-- this word doesn't spell the first item
abbrev pub IsOther : List ℕ → List Item → Type 0
IsOther w [] = ⊥
IsOther w (i ∷ is) = SpellsItem w i → ⊥

pub is_same : (a : List ℕ) → are_same a a ≡ true
is_same a = (slice_eq-Decides Decides-eqb a a (are_same a a) refl).1 refl

-- the word that is next
pub this_word : (v w : List ℕ) (t r : Text) (same : Bool) → are_same w v ≡ same → (let o : Option Text = cond same (Some t) None in o ≡ Some r) → (w ≡ v) × (t ≡ r)
this_word v w t r true s e = (same_is w v s, cc)
this_word v w t r false s e = absurd cc

-- a word that isn't next
other_word : (v : List ℕ) (is more : List Item) (at : ℕ) (w : List ℕ) (t rest : Text) → IsOther v is → Begins (is ++ more) (WordAt at w t) rest → past_ending (TheWord v) (WordAt at w t) ≡ None
other_word v [] more at w t rest s b = absurd s
other_word v (i ∷ is) more at w t rest s b =
    elim (are_same w v) as (λ same. are_same w v ≡ same → (let o : Option Text = cond same (Some t) None in o ≡ None)) [
      | true ↦ λ e. absurd (s (subst (λ x. SpellsItem x i) (same_is w v e) b.0))
      | false ↦ λ e. refl
    ] refl

-- the first item is none that ends the list
abbrev pub StartsBefore : Ending → List Item → Type 0
StartsBefore Parenthesis is = Starts is
StartsBefore TheEnd is = Starts is
StartsBefore (TheWord w) is = IsOther w is

none_starts : (e : Ending) → StartsBefore e [] → ⊥
none_starts Parenthesis s = s
none_starts TheEnd s = s
none_starts (TheWord w) s = s

pub starts_less : (e : Ending) (is : List Item) (text rest : Text) → StartsBefore e is → Begins is text rest → size rest < size text
starts_less e [] text rest s b = absurd (none_starts e s)
starts_less e (i ∷ is) (WordAt at w t) rest s b = omega (arith, begins_size is t rest b.1)
starts_less e (i ∷ is) (OpenAt at t) rest s b = omega (arith, begins_size is t rest b.1)
starts_less e (i ∷ is) (CloseAt at t) rest s b = omega (arith, begins_size is t rest b.1)
starts_less e (i ∷ is) (EndAt at) rest s b = absurd b

pub no_ending : (e : Ending) (is more : List Item) (text rest : Text) → StartsBefore e is → Begins (is ++ more) text rest → past_ending e text ≡ None
no_ending Parenthesis is more (CloseAt at t) rest s b = absurd (starts_open is more at t rest s b)
no_ending TheEnd is more (EndAt at) rest s b = absurd (starts_text is more at rest s b)
no_ending (TheWord v) is more (WordAt at w t) rest s b = other_word v is more at w t rest s b
no_ending _ is more _ rest s b = refl

-- the items of an ending, and what it leaves
abbrev pub ending_items : Ending → List Item
ending_items Parenthesis = Closing ∷ []
ending_items TheEnd = []
ending_items (TheWord w) = Verbatim w ∷ []

abbrev pub IsLeftBy : Ending → Text → Type 0
IsLeftBy Parenthesis text = Unit {0}
IsLeftBy TheEnd text = IsEnd text
IsLeftBy (TheWord w) text = Unit {0}

pub ending_takes : (e : Ending) (t r : Text) → past_ending e t ≡ Some r → Begins (ending_items e) t r × IsLeftBy e r
ending_takes Parenthesis (CloseAt p t) r e = let is : t ≡ r = cc in ((refl, is), tt)
ending_takes TheEnd (EndAt p) r e = let is : EndAt p ≡ r = cc in (is, (p, sym is))
ending_takes (TheWord v) (WordAt p w t) r e = (this_word v w t r (are_same w v) refl e, tt)
ending_takes _ _ r e = absurd cc

pub ending_again : (e : Ending) (t r : Text) → Begins (ending_items e) t r → IsLeftBy e r → past_ending e t ≡ Some r
ending_again Parenthesis (CloseAt p t) r b left = ap (λ (u : Text). Some u) b.1
ending_again Parenthesis (OpenAt p t) r b left = absurd (let e : Closing ≡ Opening = b.0 in cc)
ending_again Parenthesis (WordAt p w t) r b left = absurd b.0
ending_again Parenthesis (EndAt p) r b left = absurd b
ending_again TheEnd t r b left = rw (b, left.1) refl
ending_again (TheWord v) (WordAt p w t) r b left = rw (b.0, is_same v) (ap (λ (u : Text). Some u) b.1)
ending_again (TheWord v) (OpenAt p t) r b left = absurd (let e : Verbatim v ≡ Opening = b.0 in cc)
ending_again (TheWord v) (CloseAt p t) r b left = absurd (let e : Verbatim v ≡ Closing = b.0 in cc)
ending_again (TheWord v) (EndAt p) r b left = absurd b

pub sound_ok : {K X : Type 0} (x y : X) (o : Option K) → sound x o ≡ Ok y → (o ≡ None) × (x ≡ y)
sound_ok x y None e = (refl, cc)
sound_ok x y (Some k) e = absurd cc
