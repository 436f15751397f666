-- cuts as they are added to the list
use Rattle.std.proofs.Common.{◌≡◌, ◌≢◌, ◌^◌, ◌<◌, ◌≤◌, inl, inr, ⊎_elim, List, [], ◌++◌, AllPairs, Some, get_or, length, map, take, drop, slice_get, sym, ap, subst, ◌∙◌, arith, option_map, take-append-drop}
use Rattle.net_core.proofs.Library.{get_or-map, length-map, All-push, all_pairs_push, slice_get-map, slice_get_within, get_front}
use Rattle.plan_terms.specs.Terms.{Demand, Entry, Network, CutLine, States, Case, graph_in, case, IsCut}
use Rattle.plan_types.{specs.declared.certificate.Spot.Spot, specs.declared.certificate.Spot.TheVariants.Pool}
use Rattle.metric_cut.{specs.Cuts.{IsCutOf, IsLineAt}, specs.declared.cut.Cut.Cut, proofs.Lines.line_is_cut}
use Rattle.cut_pool.specs.Terms.{cut_of_line, cuts_of}
use Rattle.master_law.specs.Terms.{IsSameCut}
use Rattle.plan_law.specs.WorkedLists.{AreDifferentCuts, HasCut}
use Rattle.turn_lock.specs.Passes.{Seen}
use Rattle.separator.{specs.Separators.{IsSeenHistory, IsSpotIn, SeesMore}, proofs.Lemmas.{line_is, cuts_both}}
use Rattle.plan_rounds.{specs.WorkedRounds.{IsPoolOf, StandAtSpots}, specs.inner.Listing.{AreFirstSpots, AreListed, PutsLine, TakesCut}, specs.declared.candidates.Candidates.Candidates, proofs.Seeing.{cuts_differ, stand_later, stand_more}}

listed_put : (p : Case) (h : List Entry) (line : CutLine) (spot : Spot) (old new : Candidates) → IsCut p line → line.right < 2 ^ 84 → IsSpotIn h (cut_of_line line) spot → AreListed p h old → PutsLine line spot old new → AreListed p h new
listed_put p h line spot old new is low at are puts = ⊎_elim
    (λ known. subst (AreListed p h) (sym known.1) are)
    (λ lacks. subst (AreListed p h) (sym lacks.1) (record {
      cuts = All-push (IsCut p) old.lines line are.cuts is;
      low = All-push (λ (l : CutLine). l.right < 2 ^ 84) old.lines line are.low low;
      different = all_pairs_push (λ a b. IsSameCut a b → ⊥) old.lines line are.different (λ k d lt same. lacks.0 k d lt (sym same.0, sym same.1));
      spots = stand_more h old.lines old.spots line spot are.spots at;
    }))
    puts

-- the list as a separator has seen more
pub listed_later : (p : Case) (net : Network) (states : States) (old new : Seen Entry) (c : Candidates) → SeesMore old new → IsSeenHistory net states new → AreListed p old.history c → AreListed p new.history c
listed_later p net states old new c more seen are = record {
  cuts = are.cuts;
  low = are.low;
  different = are.different;
  spots = subst (λ es. StandAtSpots es c.lines c.spots) (sym more.seen)
      (stand_later old.history more.further c.lines c.spots (subst (λ es. length es ≤ 65536) more.seen seen.few) (subst (λ es. length (cuts_of es) ≤ 4096) more.seen seen.few_cuts) are.spots);
}

-- a cut that is admitted is added to the list
pub listed_take : (p : Case) (h : List Entry) (cut : Cut) (line : CutLine) (spot : Spot) (old new : Candidates) → IsCutOf (graph_in p cut.state.0) cut → IsLineAt p.demands cut line → IsSpotIn h (cut.state.0, cut.lengths) spot → AreListed p h old → PutsLine line spot old new → AreListed p h new
listed_take p h cut line spot old new of is at are puts =
    listed_put p h line spot old new (line_is_cut p cut.state.0 cut line of is) is.low (subst (λ c. IsSpotIn h c spot) (sym (line_is p.demands cut line is)) at) are puts

pub takes_put : (demands : List Demand) (cut : Cut) (line : CutLine) (spot : Spot) (old new : Candidates) → IsLineAt demands cut line → PutsLine line spot old new → TakesCut demands cut old.lines new.lines
takes_put demands cut line spot old new is puts = ⊎_elim
    (λ known. inl (subst (λ s. HasCut old.lines s cut.lengths) (ap (λ st. st.0) is.state) (subst (λ ls. HasCut old.lines line.state.0 ls) is.lengths known.0), ap (λ (c : Candidates). c.lines) known.1))
    (λ lacks. inr (line, is, lacks.0, ap (λ (c : Candidates). c.lines) lacks.1))
    puts

-- ---- the pool

-- cuts that differ as pairs of state and lengths differ as cuts
lines_differ : (lines : List CutLine) → AllPairs (λ a b. a ≢ b) (map cut_of_line lines) → AreDifferentCuts lines
lines_differ lines all i j d ij lj same =
    let pair : cut_of_line (get_or lines i d) ≡ cut_of_line (get_or lines j d) = let one = ap (λ st. st.0) same.0 in let two = same.1 in cc (one, two) in
    all i j (cut_of_line d) ij (subst (λ n. j < n) (sym (length-map lines cut_of_line)) lj)
    (get_or-map cut_of_line lines i d (cut_of_line d) (omega (arith, ij, lj)) ∙ (pair ∙ sym (get_or-map cut_of_line lines j d (cut_of_line d) lj)))

pub pool_listed : (p : Case) (net : Network) (states : States) (seen : Seen Entry) (lines : List CutLine) (spots : List Spot) → IsSeenHistory net states seen → IsPoolOf p seen.history lines → AreFirstSpots (length lines) spots
    → AreListed p seen.history (record { lines = lines; spots = spots })
pool_listed p net states s lines spots seen pool are = record {
  cuts = pool.cuts;
  low = pool.low;
  different = lines_differ lines (subst (AllPairs (λ a b. a ≢ b)) (sym pool.pooled) (cuts_differ (case net states []) s.history seen.legal pool.position));
  spots = record {
    count = are.count;
    each = λ i line spot one two.
        let within = slice_get_within lines i line one in
        let same : Some (Pool i) ≡ Some spot = sym (are.each i within) ∙ two in
        let is : Pool i ≡ spot = cc same in
        let at : slice_get (cuts_of (take pool.position s.history)) i ≡ Some (cut_of_line line) =
        ap (λ cuts. slice_get cuts i) (sym pool.pooled) ∙ (slice_get-map cut_of_line lines i ∙ ap (option_map cut_of_line) one) in
        let whole : cuts_of (take pool.position s.history) ++ cuts_of (drop pool.position s.history) ≡ cuts_of s.history = sym (cuts_both (take pool.position s.history) (drop pool.position s.history)) ∙ ap cuts_of (take-append-drop pool.position s.history) in
        subst (IsSpotIn s.history (cut_of_line line)) is (subst (λ cs. slice_get cs i ≡ Some (cut_of_line line)) whole (get_front (cuts_of (take pool.position s.history)) (cuts_of (drop pool.position s.history)) i (cut_of_line line) at));
  };
}
