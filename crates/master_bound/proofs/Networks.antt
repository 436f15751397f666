-- the master program of cuts of a network whose numbers are narrow
use Rattle.std.proofs.Common.{◌≡◌, ℕ, ◌^◌, ◌<◌, ◌≤◌, List, All, AllPairs, Contains, Some, length, inl, inr, ⊎_elim, ap, ◌∙◌, sym, subst, arith}
use Rattle.net_core.proofs.Library.{∥∥₁_elim, props, get_or-map, All-contains}
use Rattle.checked_fraction.specs.Terms.{IsNarrow}
use Rattle.module_prices.specs.declared.cheapest.UnitPair.{UnitPair}
use Rattle.plan_terms.specs.Terms.{MasterColumn, Metric, Number, Link, Network, CutLine, IsModule}
use Rattle.metric_cut.specs.Bounded.{HaveBound}
use Rattle.simplex_law.specs.Terms.{IsPacking, slack_basis, AreNames}
use Rattle.simplex_core.{specs.Terms.AtEach, proofs.Starts.each_at}
use Rattle.master_law.{specs.Terms.{IsMasterEvidence, IsMasterColumn, IsSameCut, master_bound, master_slack, AreUnitPairs}, proofs.Packing.master_packing, proofs.Slacks.{cut_evidence, right_evidence}}
use Rattle.master_bound.specs.Narrow.{HaveWideEntry, IsNarrowCut, IsWideCut}

-- the modules of a network are sound, and its links are few
pub network_modules : (net : Network) → All (λ l. All IsModule l.modules) net.links
network_modules net = ∥∥₁_elim net.checked (hlevel props) (λ is. λ k d lt. (is.sound k d lt).each)

pub network_few : (net : Network) → length net.links ≤ 256
network_few net = ∥∥₁_elim net.checked (hlevel props) (λ is. is.few_links)

pub task_packing : (links : List Link) (pairs : List UnitPair) (cuts : List CutLine) → All (λ l. All IsModule l.modules) links → AreUnitPairs links pairs → All (λ cut. HaveBound links cut.lengths) cuts → All (IsNarrowCut links pairs) cuts
    → All (λ p. p.cost < 2 ^ 40) pairs → AllPairs (λ a b. IsSameCut a b → ⊥) cuts → IsPacking (length links) (master_bound pairs) (IsMasterColumn links pairs cuts)
task_packing links pairs cuts sound units bound narrow costs different =
    master_packing links pairs cuts sound units (λ cut held. (of cut held).count) (λ cut held. (of cut held).positive) (λ cut held. (of cut held).served)
    cost_low
    (λ cut held. let n = All-contains (IsNarrowCut links pairs) cuts cut narrow held in (n.gain, λ e l. n.entries e (subst (λ m. e < m) (sym (of cut held).count) l)))
    different
  where
    of : (cut : CutLine) → Contains cuts cut → HaveBound links cut.lengths
    of cut held = All-contains (λ (c : CutLine). HaveBound links c.lengths) cuts cut bound held

    cost_low : (e : ℕ) → e < length links → IsNarrow (master_bound pairs e)
    cost_low e l =
        let none : UnitPair = record { capacity = 0; cost = 0 } in
        let inside : e < length pairs = subst (λ n. e < n) (sym units.count) l in
        let same = get_or-map (λ (p : UnitPair). p.cost) pairs e none 0 inside in
        let low = costs e none inside in
        omega (arith, same, low)

-- a number of a cut that is too wide is evidence
pub number_evidence : (links : List Link) (pairs : List UnitPair) (cuts : List CutLine) (cut : CutLine) (names : List MasterColumn) → Contains cuts cut → length cut.lengths ≡ length links → IsWideCut links pairs cut
    → AreNames (length links) (slack_basis master_slack) names → IsMasterEvidence links pairs cuts names (Number (Metric cut.state cut.lengths))
number_evidence links pairs cuts cut names held count wide named = ⊎_elim
    (λ right. right_evidence links pairs cuts cut names held right named)
    (λ rest. cut_evidence links pairs cuts cut names held (⊎_elim
    (λ gain. inl gain)
    (λ (entry : HaveWideEntry pairs cut.lengths). inr (entry.0, subst (λ n. entry.0 < n) count entry.1, entry.2))
    rest) named)
    wide

-- slacks by name
pub slacks_named : (n : ℕ) (names : List MasterColumn) → length names ≡ n → AtEach (λ i name. name ≡ master_slack i) names → AreNames n (slack_basis master_slack) names
slacks_named n names count each = record {
  count = count;
  each = λ j l. let x = each_at (λ i name. name ≡ master_slack i) names j (omega (arith, l, count)) each in x.1 ∙ ap Some x.2;
}
