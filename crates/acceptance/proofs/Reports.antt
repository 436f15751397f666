-- a sound report has no finding, kind by kind
use Rattle.std.proofs.Common.{◌≡◌, ◌∙◌, ℕ, ◌≤◌, List, Some, length, get_or, take, nat_le, sym, ap, arith, slice_get, ⊎_elim, option_map}
use Rattle.net_core.proofs.Library.{length-map, get_or_from_slice_get, slice_get-map, slice_get_within, all_at}
use Rattle.plan_terms.{specs.Terms.{Entry, Edited, Pooled, Notes, CutLine, Case, graph_in, Joins, AreKept, IsRight}, proofs.Lemmas.right_once}
use Rattle.plan_types.{specs.declared.report.Outcome.Outcome, specs.declared.report.Outcome.TheVariants.{Planned, Unsurvivable}, specs.declared.report.Report.Report}
use Rattle.cut_pool.specs.Terms.{IsLegalHistory, IsPoolAfter, cut_of_line, cuts_of, demands_left, version_at, case_left}
use Rattle.plan_checker.specs.Terms.{HoldNone, HoldsNone, HoldsAt}
use Rattle.report_checker.{specs.Terms.{HoldsEntryDiffers, HoldsNotesDiffer, IsOtherEntry, HoldsVersionDiffers, case_at, outcome_findings, HoldsBadCut, HoldsPoolCount, HoldsPoolDiffers, IsBadCut}, proofs.Apart.no_survivable}
use Rattle.acceptance.{specs.Reports.{IsSoundOutcomeOf, SoundReportsAreAccepted}, proofs.Histories.history_cuts, proofs.Sound.sound_plans_are_accepted}
use Rattle.plan_checker.specs.declared.finding.Finding.TheVariants as finding

no_notes : (own printed : Notes) → printed ≡ own → HoldsNone (HoldsNotesDiffer own printed)
no_notes own printed same finding.NotesDiffer h = h same
no_notes own printed same _ h = h

module _ (p : Case) (entries : List Entry) (legal : IsLegalHistory p entries) where
  no_other : (k : ℕ) (e : Entry) → slice_get entries k ≡ Some e → IsOtherEntry p (take k entries) e → ⊥
  no_other k (Edited caller edit reply) at other = other (legal k (Edited caller edit reply) at)
  no_other k (Pooled index state lengths) at other = other (legal k (Pooled index state lengths) at).3

  no_entry : HoldsNone (HoldsEntryDiffers p entries)
  no_entry (finding.EntryDiffers position) h = let bad = h.2.0 in no_other h.0 bad.item bad.at bad.holds
  no_entry _ h = h

  module _ (pool : List CutLine) (is : IsPoolAfter p entries pool) where
    no_count : HoldsNone (HoldsPoolCount entries pool)
    no_count (finding.PoolCount a b) h = h.2 (sym h.0 ∙ (sym (length-map pool cut_of_line) ∙ (ap length is.cuts ∙ h.1)))
    no_count _ h = h

    -- the cut of a pool line is at the line's place among the history's cuts
    cut_there : (k : ℕ) (l : CutLine) → slice_get pool k ≡ Some l → slice_get (cuts_of entries) k ≡ Some (cut_of_line l)
    cut_there k l at = ap (λ cuts. slice_get cuts k) (sym is.cuts) ∙ (slice_get-map cut_of_line pool k ∙ ap (option_map cut_of_line) at)

    no_bad : (k : ℕ) → HoldsAt pool k (IsBadCut p pool k) → ⊥
    no_bad k bad = ⊎_elim
        (λ lost. lost (all_at (λ (c : ℕ × List ℕ). AreKept (graph_in p c.0) c.1) (cuts_of entries) k (cut_of_line bad.item) (history_cuts p entries legal).kept (cut_there k bad.item bad.at)))
        (λ twice.
        let j = twice.0 in
        let line = cut_of_line bad.item in
        let here = cut_there k bad.item bad.at in
        let there = cut_there j twice.2.item twice.2.at in
        (history_cuts p entries legal).different j k line twice.1 (slice_get_within (cuts_of entries) k line here)
        (get_or_from_slice_get (cuts_of entries) j (cut_of_line twice.2.item) line there ∙ (twice.2.holds ∙ sym (get_or_from_slice_get (cuts_of entries) k line line here))))
        bad.holds

    no_cut : HoldsNone (HoldsBadCut p pool)
    no_cut (finding.BadCut i) h = no_bad i h.0
    no_cut _ h = h

    no_stale : HoldsNone (HoldsPoolDiffers (case_left p entries) pool)
    no_stale (finding.PoolDiffers i a b) h =
        let bad = h.0 in
        let right = all_at (λ (l : CutLine). IsRight (Joins (graph_in p l.state.0)) l.lengths (demands_left p entries) l.right) pool i bad.item is.rights bad.at in
        bad.holds.differ (sym bad.holds.printed ∙ right_once (Joins (graph_in p bad.item.state.0)) bad.item.lengths (demands_left p entries) bad.item.right b right bad.holds.right)
    no_stale _ h = h

no_version : (p : Case) (entries : List Entry) (version position : ℕ) → position ≤ length entries → version ≡ version_at p entries position → HoldsNone (HoldsVersionDiffers p entries version position)
no_version p entries version position within same (finding.VersionDiffers a b) h = ⊎_elim (λ differ. differ (sym h.0 ∙ (same ∙ h.1))) (λ past. omega (arith, within, past)) h.2
no_version p entries version position within same _ h = h

pub outcome_none : (p : Case) (r : Report) (o : Outcome) → IsSoundOutcomeOf p r o → HoldNone (outcome_findings p r o)
outcome_none p r (Planned caller serial plan) sound = (
  no_version p r.entries plan.version plan.position sound.position sound.version,
  sound_plans_are_accepted (case_at p r.entries plan.position) (nat_le 4096 (length r.pool)) plan sound.demands sound.carrying sound.costed sound.certified sound.pooled sound.tight,
)
outcome_none p r (Unsurvivable caller serial version position state demand) sound = (
  no_version p r.entries version position sound.within sound.version_there,
  (no_survivable (case_at p r.entries position) state.0 demand sound.separates, tt),
)

pub sound_reports_are_accepted : SoundReportsAreAccepted
sound_reports_are_accepted notes p r same legal pool outcomes = record {
  whole = (
    no_notes notes r.notes same,
    (
      no_entry p r.entries legal,
      (
        no_count p r.entries legal r.pool pool,
        (
          no_cut p r.entries legal r.pool pool,
          (no_stale p r.entries legal r.pool pool, tt),
        ),
      ),
    ),
  );
  outcomes = λ i d lt. outcome_none p r (get_or r.outcomes i d) (outcomes i d lt);
}
