-- a report with a first finding isn't clean, and is judged so
use Rattle.std.proofs.Common.{◌≡◌, ℕ, zero, suc, List, [], ◌∷◌, All, get_or, inl, inr, subst}
use Rattle.net_core.proofs.Library.{get_or_from_slice_get, slice_get_within}
use Rattle.plan_terms.specs.Terms.{Case, Notes}
use Rattle.plan_report.specs.Terms.{Outcome, Report}
use Rattle.plan_checker.specs.Terms.{HoldNone, HoldsAt, IsFirstFinding, Kind}
use Rattle.report_checker.specs.Terms.{Finding, outcome_findings, HasNoFinding, IsFirstOfReport, whole_findings}
use Rattle.check_answers.specs.Checks.{IsJudged}
use Rattle.outside_io.{specs.declared.status.Status.Status, specs.declared.status.Status.TheVariants.Rejected}

none_first : (kinds : List Kind) (f : Finding) → HoldNone kinds → IsFirstFinding kinds f → ⊥
none_first [] f none first = first
none_first (kind ∷ kinds) f none (inl holds) = none.0 f holds
none_first (kind ∷ kinds) f none (inr later) = none_first kinds f none.1 later.1

-- what all outcomes keep, one of them keeps
kept_at : (outcomes : List Outcome) (P Q : Outcome → Type 0) (j : ℕ) → All P outcomes → HoldsAt outcomes j Q → ((o : Outcome) → P o → Q o → ⊥) → ⊥
kept_at outcomes P Q j all there not_both =
    let same : get_or outcomes j there.item ≡ there.item = get_or_from_slice_get outcomes j there.item there.item there.at in
    not_both there.item (subst P same (all j there.item (slice_get_within outcomes j there.item there.at))) there.holds

pub unclean : (notes : Notes) (p : Case) (r : Report) (outcome : ℕ) (f : Finding) → IsFirstOfReport notes p r outcome f → HasNoFinding notes p r → ⊥
unclean notes p r zero f first clean = none_first (whole_findings notes p r) f clean.whole first
unclean notes p r (suc j) f first clean =
    kept_at r.outcomes (λ o. HoldNone (outcome_findings p r o)) (λ o. IsFirstFinding (outcome_findings p r o) f) j clean.outcomes first.2
    (λ o none holds. none_first (outcome_findings p r o) f none holds)

-- what is judged of a report that isn't clean
pub judged_so : (p : Case) (notes : Notes) (r : Report) (status : Status) (line : List ℕ) → (HasNoFinding notes p r → ⊥) → IsJudged p notes r status line → IsJudged p notes r Rejected line
judged_so p notes r status line not_clean (inl accepted) = absurd (not_clean accepted.1)
judged_so p notes r status line not_clean (inr rejected) = subst (λ s. IsJudged p notes r s line) rejected.0 (inr rejected)
