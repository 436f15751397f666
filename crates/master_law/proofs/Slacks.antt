-- evidence of the slack basis, and evidence of the master program from that of a packing program
use Rattle.std.proofs.Common.{ℕ, ◌≤◌, ◌<◌, ◌^◌, ◌⊎◌, List, Contains, length, refl, arith, inl, inr, pos}
use Rattle.net_core.proofs.Library.{ints}
use Rattle.module_prices.specs.declared.cheapest.UnitPair.{UnitPair}
use Rattle.plan_terms.specs.Terms.{MasterColumn, Metric, WideKind, Number, Link, CutLine}
use Rattle.simplex_law.{specs.Terms.{unit_vector, slack_basis, AreNames, IsWide}, proofs.Lemmas.{start_reached, started}}
use Rattle.master_law.{specs.MasterEvidence.{HoldsOfMaster, IsMasterEvidence}, specs.MasterPrograms.{master_bound, master_slack, cut_gain, cut_entry, IsCutColumn}, proofs.Columns.{column_of, is_column_of}}

module _ (links : List Link) (pairs : List UnitPair) (cuts : List CutLine) where
  -- what holds of the slack basis is evidence
  slack_evidence : (names : List MasterColumn) (kind : WideKind MasterColumn) → AreNames (length links) (slack_basis master_slack) names → HoldsOfMaster links pairs cuts (slack_basis master_slack) kind
      → IsMasterEvidence links pairs cuts names kind
  slack_evidence names kind named holds =
      let start = started (length links) (master_bound pairs) master_slack unit_vector (λ i. pos 1) (λ k. pos 0) (pos 1)
      (λ k l. omega (arith, ints)) (λ i k li lk. refl) (λ i l. refl) (λ k l. refl) refl in
      let reached = start_reached (length links) (master_bound pairs) master_slack (IsCutColumn links pairs cuts) unit_vector (λ i. pos 1) (λ k. pos 0) (pos 1) start in
      record {
        basis = slack_basis master_slack;
        evidence = record { named = named; feasible = reached.here; holds = holds };
        reached = reached;
      }

  -- a gain or an entry of a cut
  pub cut_evidence : (cut : CutLine) (names : List MasterColumn) → Contains cuts cut → IsWide (cut_gain links cut) ⊎ ((e : ℕ) × (e < length links) × IsWide (cut_entry pairs cut e))
      → AreNames (length links) (slack_basis master_slack) names → IsMasterEvidence links pairs cuts names (Number (Metric cut.state cut.lengths))
  cut_evidence cut names held wide named =
      slack_evidence names (Number (Metric cut.state cut.lengths)) named (inl (λ j l. refl, inr (column_of links pairs cut, inl (is_column_of links pairs cuts cut held), refl, wide)))

  -- a right side
  pub right_evidence : (cut : CutLine) (names : List MasterColumn) → Contains cuts cut → 2 ^ 62 ≤ cut.right
      → AreNames (length links) (slack_basis master_slack) names → IsMasterEvidence links pairs cuts names (Number (Metric cut.state cut.lengths))
  right_evidence cut names held wide named =
      slack_evidence names (Number (Metric cut.state cut.lengths)) named (inr (λ j l. refl, record { cut = cut; listed = held; named = refl; wide = wide }))
