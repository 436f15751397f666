-- a file that begins in none of the known ways, or in the first that is found
use Rattle.std.proofs.Common.{◌≡◌, ◌∙◌, ◌<◌, ℕ, zero, suc, Bool, List, [], ◌∷◌, get_or, length, MatchOption, None, Option, Some, cond, false, true, ap, arith, subst, sym, ⊎_elim}
use Rattle.net_core.proofs.Library.{cases_Bool}
use Rattle.fault_messages.{specs.Headers.{HasNoGuess, begins_as, first_beginning}, specs.declared.header.Beginning.Beginning}
use Rattle.fault_messages.specs.declared.header.Beginning.TheVariants as beginnings
use Rattle.fault_messages.specs.declared.header.FileFormat.TheVariants as formats

abbrev pub all_beginnings : List Beginning
all_beginnings =
    beginnings.Mark
    ∷ beginnings.Utf16
    ∷ beginnings.Gzip
    ∷ beginnings.Zip
    ∷ beginnings.Xml
    ∷ beginnings.Format formats.Network
    ∷ beginnings.Format formats.Model
    ∷ beginnings.Format formats.Failures
    ∷ beginnings.Format formats.Script
    ∷ beginnings.Format formats.Report
    ∷ beginnings.Format formats.Flows ∷ []

some_is_none : (b : Beginning) → Some b ≡ None → ⊥
some_is_none b e = absurd cc

same_some : (b c : Beginning) → Some b ≡ Some c → b ≡ c
same_some b c e = cc

-- what is left of the list once its first way fits, or doesn't
after : (bytes : List ℕ) (b : Beginning) (bs : List Beginning) (found : Option Beginning) (fits : Bool) → begins_as b bytes ≡ fits → first_beginning bytes (b ∷ bs) ≡ found
    → cond fits (Some b) (first_beginning bytes bs) ≡ found
after bytes b bs found fits is h = sym (ap (λ (x : Bool). cond x (Some b) (first_beginning bytes bs)) is) ∙ h

none_at : (bytes : List ℕ) (bs : List Beginning) → first_beginning bytes bs ≡ None → (i : ℕ) (d : Beginning) → i < length bs → begins_as (get_or bs i d) bytes ≡ false
none_at bytes [] h i d lt = absurd (omega (arith, lt))
none_at bytes (b ∷ bs) h zero d lt = ⊎_elim
    (λ (yes : begins_as b bytes ≡ true). absurd (some_is_none b (after bytes b bs None true yes h)))
    (λ (no : begins_as b bytes ≡ false). no)
    (cases_Bool (begins_as b bytes))
none_at bytes (b ∷ bs) h (suc i) d lt = ⊎_elim
    (λ (yes : begins_as b bytes ≡ true). absurd (some_is_none b (after bytes b bs None true yes h)))
    (λ (no : begins_as b bytes ≡ false). none_at bytes bs (after bytes b bs None false no h) i d (omega (arith, lt)))
    (cases_Bool (begins_as b bytes))

found_fits : (bytes : List ℕ) (bs : List Beginning) (c : Beginning) → first_beginning bytes bs ≡ Some c → begins_as c bytes ≡ true
found_fits bytes [] c h = absurd cc
found_fits bytes (b ∷ bs) c h = ⊎_elim
    (λ (yes : begins_as b bytes ≡ true). subst (λ (x : Beginning). begins_as x bytes ≡ true) (same_some b c (after bytes b bs (Some c) true yes h)) yes)
    (λ (no : begins_as b bytes ≡ false). found_fits bytes bs c (after bytes b bs (Some c) false no h))
    (cases_Bool (begins_as b bytes))

none_fits : (bytes : List ℕ) → first_beginning bytes all_beginnings ≡ None → HasNoGuess bytes
none_fits bytes h beginnings.Mark = none_at bytes all_beginnings h 0 beginnings.Mark (omega arith)
none_fits bytes h beginnings.Utf16 = none_at bytes all_beginnings h 1 beginnings.Mark (omega arith)
none_fits bytes h beginnings.Gzip = none_at bytes all_beginnings h 2 beginnings.Mark (omega arith)
none_fits bytes h beginnings.Zip = none_at bytes all_beginnings h 3 beginnings.Mark (omega arith)
none_fits bytes h beginnings.Xml = none_at bytes all_beginnings h 4 beginnings.Mark (omega arith)
none_fits bytes h (beginnings.Format formats.Network) = none_at bytes all_beginnings h 5 beginnings.Mark (omega arith)
none_fits bytes h (beginnings.Format formats.Model) = none_at bytes all_beginnings h 6 beginnings.Mark (omega arith)
none_fits bytes h (beginnings.Format formats.Failures) = none_at bytes all_beginnings h 7 beginnings.Mark (omega arith)
none_fits bytes h (beginnings.Format formats.Script) = none_at bytes all_beginnings h 8 beginnings.Mark (omega arith)
none_fits bytes h (beginnings.Format formats.Report) = none_at bytes all_beginnings h 9 beginnings.Mark (omega arith)
none_fits bytes h (beginnings.Format formats.Flows) = none_at bytes all_beginnings h 10 beginnings.Mark (omega arith)

-- a search of all beginnings finds one that the bytes have, or none where they have none
pub first_fits : (bytes : List ℕ) (found : Option Beginning) → found ≡ first_beginning bytes all_beginnings → MatchOption found (HasNoGuess bytes) (λ b. begins_as b bytes ≡ true)
first_fits bytes None is = none_fits bytes (sym is)
first_fits bytes (Some b) is = found_fits bytes all_beginnings b (sym is)
