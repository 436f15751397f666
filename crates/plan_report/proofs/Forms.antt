-- What the writer draws from a report's form, and that its text spells the report.
use Rattle.std.proofs.Common.{◌≡◌, ℕ, List, [], ◌∷◌, ◌++◌, All, refl, sym, subst, ◌∙◌, append_assoc}
use Rattle.plan_terms.specs.Terms.{Demand, Places, Three, Six}
use Rattle.plan_types.specs.declared.report.Report.{Report}
use Rattle.text_kit.{specs.Terms.{IsFileOf, ComeAfter, Item, IsHeaderLine, AddsItems, written}, proofs.Lemmas.{writable, after_all, after_as, written_is_read}}
use Rattle.plan_report.{specs.Forms.{IsDemandInForm, IsReportInForm}, specs.Items.report_items, specs.KnownNames.KnownNames, specs.Texts.{SpellsReport, report_header}, specs.inner.Writable.IsWritableDemand}

pub writable_demands : (nodes : List (List ℕ)) (demands : List Demand) → ComeAfter (IsDemandInForm nodes) [] demands → All (IsWritableDemand nodes) demands
writable_demands nodes demands all =
    after_all (IsWritableDemand nodes) [] demands
    (after_as (IsDemandInForm nodes) (λ before d. IsWritableDemand nodes d) [] demands (λ before d h. record { from = h.from; to = h.to; need = h.need }) all)

-- the first line has no line end and no blank at its ends
header_line : (p : Places) → IsHeaderLine (report_header p)
header_line Three = record { one = refl; no_blank = refl }
header_line Six = record { one = refl; no_blank = refl }

-- what was added after the first line
pub text_is : (header : List ℕ) (items : List Item) (text : List ℕ) → AddsItems (header ++ 10 ∷ []) items text → text ≡ header ++ 10 ∷ written items
text_is header items text p = p.text ∙ append_assoc header (10 ∷ []) (written items)

pub text_spells : (known : KnownNames) (r : Report) (text : List ℕ)
    → IsReportInForm known r → AddsItems (report_header known.places ++ 10 ∷ []) (report_items known r) text → SpellsReport known text r
text_spells known r text form p = record {
  form = form;
  file = subst (λ (bytes : List ℕ). IsFileOf (report_header known.places) (report_items known r) bytes) (sym (text_is (report_header known.places) (report_items known r) text p))
      (written_is_read (report_header known.places) (report_items known r) (header_line known.places) (writable (report_items known r) p.each));
}
