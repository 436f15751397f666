-- The reading of evidence takes exactly its texts, since that of a bound with evidence does.
use Rattle.std.proofs.Common.{◌≡◌, List, Ok, Err, refl, sym, ap, ◌∙◌, codes}
use Rattle.plan_terms.specs.Terms.{Demand, Evidence}
use Rattle.plan_report.specs.Terms.{IsEvidenceInForm, KnownNames, evidence_items, Wide, Loose}
use Rattle.snd_tokens.specs.Terms.{Text, WordAt}
use Rattle.text_kit.{specs.Terms.{Read, after, give}, proofs.Beginnings.AnyText, proofs.Lemmas.ok_parts, proofs.Spelled.Lawful}
use Rattle.report_words.{specs.declared.fault.ReportKind.ReportKind, proofs.Lemmas.AreApart}
use Rattle.report_parts.{specs.ReadingQuality.{evidence_at, quality_at, too_wide_at}, proofs.Lemmas.{quality_law, AreLinksApart}}

wide_only : (q : Read ReportKind Evidence) (e : Evidence) (rest : Text) → after q (λ x. give {K = ReportKind} (Loose (Wide x))) ≡ Ok (Loose (Wide e), rest) → q ≡ Ok (e, rest)
wide_only (Ok x) e rest h =
    let p = ok_parts {K = ReportKind} (Loose (Wide x.0)) (Loose (Wide e)) x.1 rest h in
    let a : Loose (Wide x.0) ≡ Loose (Wide e) = p.0 in
    let b : x.0 ≡ e = cc in
    ap (λ (y : Evidence). Ok (y, x.1)) b ∙ ap (λ (t : Text). Ok (e, t)) p.1
wide_only (Err d) e rest h = absurd cc

module _ (names : KnownNames) (apart : AreLinksApart names.links) (demands : List Demand) (differ : AreApart demands) where
  -- a text after the words that come before evidence in a bound
  abbrev after_wide : Text → Text
  after_wide text = WordAt 0 (codes "loose") (WordAt 0 (codes "wide") text)

  bound_is : (text : Text) (q : Read ReportKind Evidence) → evidence_at names demands text ≡ q → quality_at names demands (after_wide text) ≡ after q (λ x. give {K = ReportKind} (Loose (Wide x)))
  unfolding too_wide_at
  bound_is text q e = ap (λ (r : Read ReportKind Evidence). after r (λ x. give {K = ReportKind} (Loose (Wide x)))) e

  pub evidence_law : Lawful (evidence_at names demands) (evidence_items names.links demands) (IsEvidenceInForm names demands) AnyText
  evidence_law = record {
    takes = λ text e rest is.
        let h = (quality_law names apart demands differ).takes (after_wide text) (Loose (Wide e)) rest (bound_is text (Ok (e, rest)) is) in
        (h.0, h.1.1.1, tt);
    again = λ text e rest form b left.
        wide_only (evidence_at names demands text) e rest (sym (bound_is text (evidence_at names demands text) refl) ∙ (quality_law names apart demands differ).again (after_wide text) (Loose (Wide e)) rest form (refl, (refl, b)) tt);
  }
