-- a plan's certificate, by the indices of its cuts
use Rattle.std.{proofs.Common.{◌≡◌, ℕ, ◌+◌, ◌<◌, false, List, [], ◌∷◌, ◌++◌, Some, get_or, length, map, refl, ap, sym, subst, ◌∙◌, slice_get, take}, proofs.lemmas.List.take_more, proofs.lemmas.Slice.Zip.all_zipped_more, specs.List.AllZip}
use Rattle.plan_terms.specs.Terms.{Case, CutLine}
use Rattle.plan_report.specs.Terms.{CertLine, Plan}
use Rattle.line_check.specs.Terms.{AreNamedBy, line_of_cut, names_by, Multiplier}
use Rattle.tree_check.{specs.Terms.{HasBoxValue, IsBoxValue, TreeBox}, specs.declared.proof.BoxCert.BoxCert}
use Rattle.line_maker.specs.declared.entry.Entry.{Entry}
use Rattle.tree_boxes.{specs.Causes.{HasPlanValue, lines_of_plan}, specs.declared.known.Known.Known, specs.Searches.{IsKnown, IsOwnCert}, proofs.Knowing.{entry_at, place_names}}
use Rattle.line_maker.specs.declared.entry.Entry.TheVariants as entry

-- an index with its numerator is a line of the plan's certificate
abbrev pub IsOwnLine : List Entry → Multiplier → CertLine → Type 0
IsOwnLine entries m l = (slice_get entries m.cut ≡ Some (entry.Cut l.cut)) × (m.num ≡ l.num)

-- a line more
pub own_more : (cuts : List CutLine) (ms : List Multiplier) (ls : List CertLine) (i cut : ℕ) (l d : CertLine) → i < length ls → l ≡ get_or ls i d
    → slice_get cuts cut ≡ Some l.cut → AllZip (IsOwnLine (map entry.Cut cuts)) ms (take i ls)
    → AllZip (IsOwnLine (map entry.Cut cuts)) (ms ++ record { cut = cut; num = l.num } ∷ []) (take (i + 1) ls)
own_more cuts ms ls i cut l d lt is at so_far =
    let more : take (i + 1) ls ≡ take i ls ++ l ∷ [] = take_more ls i d lt ∙ ap (λ (x : CertLine). take i ls ++ x ∷ []) (sym is) in
    subst (AllZip (IsOwnLine (map entry.Cut cuts)) (ms ++ record { cut = cut; num = l.num } ∷ [])) (sym more)
    (all_zipped_more (IsOwnLine (map entry.Cut cuts)) ms (take i ls) (record { cut = cut; num = l.num }) l so_far (entry_at cuts cut l.cut at, refl))

module _ (p : Case) (k : Known) (known : IsKnown p k) where
  own_named : (ms : List Multiplier) (ls : List CertLine) → AllZip (IsOwnLine k.entries) ms ls
      → AreNamedBy (names_by k.tested false) ms (map (λ (l : CertLine). record { line = line_of_cut p.links l.cut; num = l.num }) ls)
  own_named [] [] own = tt
  own_named [] (l ∷ ls) own = absurd own
  own_named (m ∷ ms) [] own = absurd own
  own_named (m ∷ ms) (l ∷ ls) own = ((place_names p k known m.cut l.cut own.0.0, own.0.1), own_named ms ls own.1)

  -- a value that the plan's certificate has is that of the certificate by indices
  pub own_has : (plan : Plan) (cert : BoxCert) (box : TreeBox) (value : ℕ) → IsOwnCert k.entries plan cert
      → HasPlanValue p.links plan.certificate box value → HasBoxValue (names_by k.tested false) p.links box cert value
  own_has plan cert box value own is = record {
    terms = lines_of_plan p.links plan.certificate;
    named = own_named cert.lines plan.certificate.lines own.named;
    is = subst (λ (den : ℕ). IsBoxValue p.links box den (lines_of_plan p.links plan.certificate) value) (sym own.den) is;
  }
