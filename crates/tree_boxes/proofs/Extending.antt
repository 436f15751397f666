-- what is known of a search and its tree stays where cuts are put after
use Rattle.std.{proofs.Common.{◌≡◌, ℕ, ◌+◌, ◌^◌, ◌≤◌, false, List, [], ◌∷◌, ◌++◌, All, Some, append-nil, length, length-append, map, slice_get, take, refl, ap, subst, sym, ◌∙◌, arith, append_assoc}, proofs.lemmas.List.take-append-le, specs.List.AllZip}
use Rattle.net_core.proofs.Library.{All-weaker, get_front}
use Rattle.plan_terms.specs.Terms.{Case, CutLine, Link}
use Rattle.plan_report.specs.Terms.{CertLine, Plan}
use Rattle.line_check.{specs.Terms.{names_by, Multiplier}, proofs.NamesOn.tested_front}
use Rattle.tree_check.{specs.Terms.{Tested, Inequality, TreeBox}, specs.declared.boxes.Span.Span, specs.declared.proof.BoxCert.BoxCert, proofs.Naming.{holds_map, value_map}}
use Rattle.plan_swaps.specs.Terms.{IsTestOf as IsAbleTestOf}
use Rattle.line_maker.{specs.Orders.cuts_among, specs.declared.entry.Entry.Entry}
use Rattle.tree_boxes.{specs.declared.aim.Aim.Aim, specs.declared.known.Known.Known, specs.declared.certs.Valued.Valued, specs.declared.search.Search.Search, specs.declared.twigs.OpenBox.OpenBox, specs.declared.twigs.Twig.Twig, specs.Searches.{Extends, HasLearned, IsAim, IsKnown, IsSearch, IsOwnCert, handed_in, most_entries}, specs.Finds.{IsOpenBox, IsSearchBox, IsTwigOf, IsValued}, proofs.Knowing.known_same, proofs.OwnValues.IsOwnLine}
use Rattle.line_maker.specs.declared.entry.Entry.TheVariants as entry
use Rattle.tree_boxes.specs.declared.twigs.Twig.TheVariants as twig

-- ---- items after items

module _ {X : Type 0} where
  pub extends_none : (xs : List X) → Extends xs xs
  extends_none xs = record { more = []; is = sym (append-nil xs) }

  pub extends_push : (xs ys : List X) (x : X) → ys ≡ xs ++ x ∷ [] → Extends xs ys
  extends_push xs ys x is = record { more = x ∷ []; is = is }

  pub extends_on : (a b c : List X) → Extends a b → Extends b c → Extends a c
  extends_on a b c one other = record {
    more = one.more ++ other.more;
    is = other.is ∙ (ap (λ (xs : List X). xs ++ other.more) one.is ∙ append_assoc a one.more other.more);
  }

  -- an item stays at its place
  pub at_still : (old new : List X) → Extends old new → (i : ℕ) (x : X) → slice_get old i ≡ Some x → slice_get new i ≡ Some x
  at_still old new extends i x there = subst (λ (xs : List X). slice_get xs i ≡ Some x) (sym extends.is) (get_front old extends.more i x there)

-- ---- a search that has learned more

pub learned_none : (s : Search) → HasLearned s s
learned_none s = record { extends = extends_none s.known.entries; tested = extends_none s.known.tested; divides = refl; handed = refl; room = refl }

pub learned_on : (a b c : Search) → HasLearned a b → HasLearned b c → HasLearned a c
learned_on a b c one other = record {
  extends = extends_on a.known.entries b.known.entries c.known.entries one.extends other.extends;
  tested = extends_on a.known.tested b.known.tested c.known.tested one.tested other.tested;
  divides = other.divides ∙ one.divides;
  handed = other.handed ∙ one.handed;
  room = other.room ∙ one.room;
}

-- the handed-in ones are the same
taken_same : (old new : Search) → HasLearned old new → old.handed ≤ length old.known.entries → take new.handed new.known.entries ≡ take old.handed old.known.entries
taken_same old new learned inside =
    ap (λ n. take n new.known.entries) learned.handed
    ∙ (ap (λ (es : List Entry). take old.handed es) learned.extends.is ∙ take-append-le old.handed old.known.entries learned.extends.more inside)

pub handed_same : (old new : Search) → HasLearned old new → old.handed ≤ length old.known.entries → handed_in new ≡ handed_in old
handed_same old new learned inside = ap (λ (es : List Entry). cuts_among es) (taken_same old new learned inside)

pub more_entries : (old new : List Entry) → Extends old new → length old ≤ length new
more_entries old new extends = omega (arith, ap (λ (es : List Entry). length es) extends.is, length-append old extends.more)

-- a search with the same handed-in cuts
pub search_with : (p : Case) (old new : Search) → IsSearch p old → IsKnown p new.known → IsAbleTestOf p new.test → new.handed ≡ old.handed → new.room ≡ old.room
    → take new.handed new.known.entries ≡ take old.handed old.known.entries → new.handed ≤ length new.known.entries → IsSearch p new
search_with p old new was known test handed room taken inside = record {
  known = known;
  test = test;
  first = taken ∙ (was.first ∙ ap (λ (es : List Entry). map entry.Cut (cuts_among es)) (sym taken));
  inside = inside;
  few = omega (arith, was.few, handed);
  enough = omega (arith, was.enough, handed, room);
  small = omega (arith, was.small, room);
}

-- and one that has learned more
pub search_on : (p : Case) (old new : Search) → IsSearch p old → IsKnown p new.known → IsAbleTestOf p new.test → HasLearned old new → IsSearch p new
search_on p old new was known test learned =
    search_with p old new was known test learned.handed learned.room (taken_same old new learned was.inside)
    (omega (arith, was.inside, learned.handed, more_entries old.known.entries new.known.entries learned.extends))

-- ---- a search whose programs take other lines

module _ (old : Search) (k : Known) (entries : k.entries ≡ old.known.entries) (tested : k.tested ≡ old.known.tested) (divides : k.divides ≡ old.known.divides) where
  abbrev pub aside : Search
  aside = record { known = k; test = old.test; handed = old.handed; room = old.room }

  pub aside_learned : HasLearned old aside
  aside_learned = record {
    extends = subst (λ (es : List Entry). Extends old.known.entries es) (sym entries) (extends_none old.known.entries);
    tested = subst (λ (ts : List Tested). Extends old.known.tested ts) (sym tested) (extends_none old.known.tested);
    divides = divides;
    handed = refl;
    room = refl;
  }

  pub aside_search : (p : Case) → IsSearch p old → IsSearch p aside
  aside_search p was = search_on p old aside was (known_same p old.known k was.known entries tested divides) was.test aside_learned

-- ---- boxes and places

pub low_box : (links : List Link) (n m : ℕ) (box : TreeBox) → n ≤ m → IsSearchBox links n box → IsSearchBox links m box
low_box links n m box le is = record {
  shape = is.shape;
  some = is.some;
  low = All-weaker (All (λ s. s.least ≤ 2 ^ 44 + n)) (All (λ s. s.least ≤ 2 ^ 44 + m))
      (λ (spans : List Span) few. All-weaker (λ (s : Span). s.least ≤ 2 ^ 44 + n) (λ s. s.least ≤ 2 ^ 44 + m) (λ (s : Span) low. omega (arith, le, low)) spans few) box is.low;
}

-- ---- the plan's certificate

own_on : (old new : List Entry) → Extends old new → (ms : List Multiplier) (ls : List CertLine)
    → AllZip (IsOwnLine old) ms ls → AllZip (IsOwnLine new) ms ls
own_on old new extends [] [] own = tt
own_on old new extends [] (l ∷ ls) own = absurd own
own_on old new extends (m ∷ ms) [] own = absurd own
own_on old new extends (m ∷ ms) (l ∷ ls) own = ((at_still old new extends m.cut (entry.Cut l.cut) own.0.0, own.0.1), own_on old new extends ms ls own.1)

-- it stays the plan's by indices
pub cert_on : (old new : List Entry) → Extends old new → (plan : Plan) (cert : BoxCert) → IsOwnCert old plan cert → IsOwnCert new plan cert
cert_on old new extends plan cert own = record { den = own.den; named = own_on old new extends cert.lines plan.certificate.lines own.named }

-- an aim stays one
pub aim_on : (a : Aim) (old new : List Entry) → Extends old new → IsAim old a → IsAim new a
aim_on a old new extends is = record {
  survivable = is.survivable;
  demands = is.demands;
  routed = is.routed;
  own = cert_on old new extends a.plan.now a.own.now is.own;
}

-- ---- what lines show

module _ (p : Case) (plan : Plan) (old new : List Tested) (extends : Extends old new) where
  names_on : (i : ℕ) (line : Inequality) → names_by old false i line → names_by new false i line
  names_on i line names = subst (λ (tested : List Tested). names_by tested false i line) (sym extends.is) (tested_front old extends.more false i line names)

  pub valued_on : (box : TreeBox) (v : Valued) → IsValued p plan old box v → IsValued p plan new box v
  valued_on box v is = record { has = value_map (names_by old false) (names_by new false) names_on p.links box v.cert v.value is.has; least = is.least }

  module _ (handed : List CutLine) (n m : ℕ) (le : n ≤ m) where
    open_on : (box : TreeBox) (o : OpenBox) → IsOpenBox p plan handed old n box o → IsOpenBox p plan handed new m box o
    open_on box o is = record {
      same = is.same;
      search_box = low_box p.links n m box le is.search_box;
      valued = valued_on box o.best is.valued;
      below = is.below;
      unsettled = is.unsettled;
      unfixed = is.unfixed;
    }

    -- what is known of the box at a place, also where there are more splits
    pub twig_on : (box : TreeBox) (t : Twig) → IsTwigOf p plan handed old n box t → IsTwigOf p plan handed new m box t
    twig_on box (twig.Settled node) is = (holds_map (names_by old false) (names_by new false) names_on p plan.cost box node is.0, is.1)
    twig_on box (twig.Stuck v evidence) is = record { valued = valued_on box v is.valued; below = is.below; fixed = is.fixed; form = is.form; wide = is.wide }
    twig_on box (twig.Open o) is = open_on box o is

pub entries_most : (s : Search) → length s.known.entries ≤ most_entries s
entries_most s = first_of (omega arith, grind arith)

-- how many entries there are at most grows by no more than the entries
pub most_more : (a b : Search) (n : ℕ) → HasLearned a b → length b.known.entries ≤ most_entries a + n → most_entries b ≤ most_entries a + n
most_more a b n learned few = first_of (omega (arith, few, learned.room), grind (arith, few, learned.room))

-- how many entries there are at most stays
pub most_on : (a b : Search) → HasLearned a b → length b.known.entries ≤ most_entries a → most_entries b ≤ most_entries a
most_on a b learned few = first_of (omega (arith, few, learned.room), grind (arith, few, learned.room))
