-- cuts and lines that are known, with their tests
use Rattle.std.{proofs.Common.{◌≡◌, ◌∙◌, ℕ, ◌+◌, ◌≤◌, ◌<◌, ◌^◌, zero, suc, true, false, inl, List, [], ◌∷◌, ◌++◌, All, Some, length, map, slice_get, refl, ap, subst, sym, arith}, proofs.lemmas.List.{append_assoc, length-map, length_push, map_push}}
use Rattle.net_core.proofs.Library.{All-map, All-push, get_or_from_slice_get, slice_get_within}
use Rattle.plan_terms.specs.Terms.{Case, CutLine, IsCut, Link}
use Rattle.line_check.{specs.Terms.{line_of_cut, Source, sources_of, AreTested, IsTestedAs, names_by}, proofs.NamesOn.cut_names, proofs.TestedMore.tested_more}
use Rattle.tree_check.{specs.Terms.{HasBoxValue, TreeBox, EmptiesBox, HasValueIn, names_in, Tested}, specs.declared.proof.BoxCert.BoxCert, specs.declared.tests.Tests.Tests}
use Rattle.line_maker.{specs.Orders.{cuts_among, is_cut_entry, lines_among, source_of}, specs.declared.entry.Entry.Entry, proofs.NamesKept.source_at}
use Rattle.tree_boxes.{specs.declared.aim.Aim.Aim, specs.declared.known.Known.Known, specs.Searches.{IsKnown, IsSoundEntry, aimed}}
use Rattle.line_maker.specs.declared.entry.Entry.TheVariants as entry

-- ---- entries

no_line : (es : List Entry) (e : Entry) → lines_among es ≡ [] → is_cut_entry e ≡ true → lines_among (es ++ e ∷ []) ≡ []
no_line [] (entry.Cut c) none is = refl
no_line [] (entry.Line l) none is = absurd (cc is)
no_line (entry.Cut c ∷ es) e none is = no_line es e none is
no_line (entry.Line l ∷ es) e none is = absurd (cc none)

no_lines : (cuts : List CutLine) → lines_among (map entry.Cut cuts) ≡ []
no_lines [] = refl
no_lines (c ∷ cs) = no_lines cs

pub cuts_same : (cuts : List CutLine) → cuts_among (map entry.Cut cuts) ≡ cuts
cuts_same [] = refl
cuts_same (c ∷ cs) = ap (λ (rest : List CutLine). c ∷ rest) (cuts_same cs)

cut_entries : (cuts : List CutLine) → map source_of (map entry.Cut cuts) ≡ sources_of cuts []
cut_entries [] = refl
cut_entries (c ∷ cs) = ap (λ (rest : List Source). inl c ∷ rest) (cut_entries cs)

pub entry_at : (cuts : List CutLine) (i : ℕ) (cut : CutLine) → slice_get cuts i ≡ Some cut → slice_get (map entry.Cut cuts) i ≡ Some (entry.Cut cut)
entry_at [] i cut at = absurd (cc at)
entry_at (c ∷ cs) zero cut at = let same : c ≡ cut = cc at in ap (λ (x : CutLine). Some (entry.Cut x)) same
entry_at (c ∷ cs) (suc i) cut at = entry_at cs i cut at

-- an entry more of those that are left
pub entries_more : (entries all : List Entry) (left rest : List CutLine) (cut : CutLine) → left ≡ cut ∷ rest → entries ++ map entry.Cut left ≡ all
    → (entries ++ entry.Cut cut ∷ []) ++ map entry.Cut rest ≡ all
entries_more entries all left rest cut is so_far =
    append_assoc entries (entry.Cut cut ∷ []) (map entry.Cut rest) ∙ (ap (λ (cs : List CutLine). entries ++ map entry.Cut cs) (sym is) ∙ so_far)

-- ---- what is known

-- cuts alone
pub known_cuts : (p : Case) (cuts : List CutLine) (k : Known) → length cuts < 2 ^ 31 → All (IsCut p) cuts → AreTested p (sources_of cuts []) k.tested
    → k.entries ≡ map entry.Cut cuts → IsKnown p k
known_cuts p cuts k few sound tested is = record {
  sound = subst (All (IsSoundEntry p)) (sym is) (All-map (IsSoundEntry p) entry.Cut cuts sound);
  tested = subst (λ (ss : List Source). AreTested p ss k.tested) (sym (ap (map source_of) is ∙ cut_entries cuts)) tested;
  few = omega (arith, few, ap (λ (es : List Entry). length es) is, length-map cuts entry.Cut);
  plain = λ _. ap (λ (es : List Entry). lines_among es) is ∙ no_lines cuts;
}

-- an entry more
pub known_more : (p : Case) (k new : Known) (e : Entry) (t : Tested) → IsKnown p k → length k.entries + 1 < 2 ^ 31 → IsSoundEntry p e
    → IsTestedAs p k.tested (source_of e) t → (k.divides ≡ false → is_cut_entry e ≡ true) → new.entries ≡ k.entries ++ e ∷ []
    → new.tested ≡ k.tested ++ t ∷ [] → new.divides ≡ k.divides → IsKnown p new
known_more p k new e t known room sound test plain entries tested divides =
    let sources : map source_of new.entries ≡ map source_of k.entries ++ source_of e ∷ [] = ap (map source_of) entries ∙ map_push source_of k.entries e in
    record {
      sound = subst (All (IsSoundEntry p)) (sym entries) (All-push (IsSoundEntry p) k.entries e known.sound sound);
      tested = subst (λ (ts : List Tested). AreTested p (map source_of new.entries) ts) (sym tested)
          (subst (λ (ss : List Source). AreTested p ss (k.tested ++ t ∷ [])) (sym sources)
          (tested_more p (map source_of k.entries) k.tested (source_of e) t known.tested test));
      few = omega (arith, room, length_push k.entries e, ap (λ (es : List Entry). length es) entries);
      plain = λ none. ap (λ (es : List Entry). lines_among es) entries
          ∙ no_line k.entries e (known.plain (sym divides ∙ none)) (plain (sym divides ∙ none));
    }

-- the same entries with the same tests
pub known_same : (p : Case) (k new : Known) → IsKnown p k → new.entries ≡ k.entries → new.tested ≡ k.tested → new.divides ≡ k.divides → IsKnown p new
known_same p k new known entries tested divides = record {
  sound = subst (All (IsSoundEntry p)) (sym entries) known.sound;
  tested = subst (λ (ts : List Tested). AreTested p (map source_of new.entries) ts) (sym tested)
      (subst (λ (es : List Entry). AreTested p (map source_of es) k.tested) (sym entries) known.tested);
  few = omega (arith, known.few, ap (λ (es : List Entry). length es) entries);
  plain = λ none. ap (λ (es : List Entry). lines_among es) entries ∙ known.plain (sym divides ∙ none);
}

-- as many tests as entries
pub tests_length : (p : Case) (k : Known) → IsKnown p k → length k.tested ≡ length k.entries
tests_length p k known = known.tested.same ∙ length-map k.entries source_of

-- the place of a cut names its line
pub place_names : (p : Case) (k : Known) → IsKnown p k → (i : ℕ) (cut : CutLine) → slice_get k.entries i ≡ Some (entry.Cut cut)
    → names_by k.tested false i (line_of_cut p.links cut)
place_names p k known i cut at =
    cut_names p (map source_of k.entries) k.tested i cut known.tested (source_at k.entries i (entry.Cut cut) at)
    (subst (IsSoundEntry p) (get_or_from_slice_get k.entries i (entry.Cut cut) (entry.Cut cut) at)
    (known.sound i (entry.Cut cut) (slice_get_within k.entries i (entry.Cut cut) at)))

-- where no line of the list empties a box, no index does
pub none_empties : (tested : List Tested) (links : List Link) (box : TreeBox) (n : ℕ) → length tested ≤ n
    → ((k : ℕ) → k < n → EmptiesBox (names_by tested false) links box k → ⊥) → (i : ℕ) → EmptiesBox (names_by tested false) links box i → ⊥
none_empties tested links box n long none i empties = none i (omega (arith, long, empties.1.0)) empties

-- ---- what these tests tell

module _ (a : Aim) (tested : List Tested) (t : Tests) (same : t.instance.now ≡ a.instance.now) (own : t.tested.now ≡ tested) (box : TreeBox) where
  pub empties_told : (i : ℕ) → EmptiesBox (names_by tested false) (aimed a).links box i → EmptiesBox (names_in t) t.instance.now.net.now.links box i
  empties_told i empties =
      subst (λ x. EmptiesBox (names_by t.tested.now false) x.net.now.links box i) (sym same)
      (subst (λ ts. EmptiesBox (names_by ts false) (aimed a).links box i) (sym own) empties)

  pub value_told : (cert : BoxCert) (value : ℕ) → HasBoxValue (names_by tested false) (aimed a).links box cert value → HasValueIn t box cert value
  value_told cert value has =
      subst (λ x. HasBoxValue (names_by t.tested.now false) x.net.now.links box cert value) (sym same)
      (subst (λ ts. HasBoxValue (names_by ts false) (aimed a).links box cert value) (sym own) has)

  pub value_here : (cert : BoxCert) (value : ℕ) → HasValueIn t box cert value → HasBoxValue (names_by tested false) (aimed a).links box cert value
  value_here cert value has =
      subst (λ ts. HasBoxValue (names_by ts false) (aimed a).links box cert value) own
      (subst (λ x. HasBoxValue (names_by t.tested.now false) x.net.now.links box cert value) same has)
