-- route evidence at the capacities of counts
use Rattle.std.{proofs.Common.{◌≡◌, ℕ, ◌<◌, ◌^◌, Bool, false, IsTrue, ◌↔◌, List, All, length, ap, subst, sym, ◌∙◌, arith}, proofs.lemmas.Bool.both_ways}
use Rattle.module_choice.proofs.Pairs.{capacities_long}
use Rattle.plan_terms.specs.Terms.{AreCounts, Caps, Case, Evidence, Route, RouteColumn, StateId, WideKind, capacities}
use Rattle.tree_check.{specs.Proofs.IsEvidenceAt, specs.inner.Evidences.IsProgramInForm}

module _ (p : Case) (counts : List (List ℕ)) (shape : AreCounts p.links counts) (state : StateId) (caps : Caps) (basis : List RouteColumn) (kind : WideKind RouteColumn) where
  pub evidence_from : (caps.scale ≡ 1) × (caps.nums ≡ capacities p.links counts) × All (λ n. n < 2 ^ 126) caps.nums → IsProgramInForm p state basis kind
      → IsEvidenceAt p counts (Route state caps basis kind)
  evidence_from own program = (
    record {
      state_listed = program.state_listed;
      capacities = record {
        positive = omega (arith, own.0);
        scale = omega (arith, own.0);
        nums = record { long = ap length own.1 ∙ capacities_long p.links counts shape; each = own.2 };
      };
      long = program.basis_in_form.0;
      columns = program.basis_in_form.1;
      wide = program.wide;
    },
    own.0,
    own.1,
  )

  pub evidence_has : IsEvidenceAt p counts (Route state caps basis kind)
      → ((caps.scale ≡ 1) × (caps.nums ≡ capacities p.links counts) × All (λ n. n < 2 ^ 126) caps.nums) × IsProgramInForm p state basis kind
  evidence_has is = (
    (is.1, is.2, is.0.capacities.nums.each),
    record { state_listed = is.0.state_listed; basis_in_form = (is.0.long, is.0.columns); wide = is.0.wide },
  )

  module _ (own nums : List ℕ) (columns : List RouteColumn) (evidence : Evidence) (is : evidence ≡ Route state caps basis kind) (own_is : own ≡ nums) (nums_are : nums ≡ capacities p.links counts) (columns_are : columns ≡ basis) where
    own_are : own ≡ capacities p.links counts
    own_are = own_is ∙ nums_are

    -- a test of the other parts tells of evidence of these capacities
    pub evidence_told : (r : Bool) → (caps.scale ≡ 1) × (caps.nums ≡ own) × All (λ n. n < 2 ^ 126) caps.nums → (IsTrue r ↔ IsProgramInForm p state columns kind)
        → (IsTrue r ↔ IsEvidenceAt p counts evidence)
    evidence_told r of tells = (
      λ yes. subst (IsEvidenceAt p counts) (sym is) (evidence_from (of.0, of.1 ∙ own_are, of.2) (subst (λ (cs : List RouteColumn). IsProgramInForm p state cs kind) columns_are (tells.0 yes))),
      λ e. tells.1 (subst (λ (cs : List RouteColumn). IsProgramInForm p state cs kind) (sym columns_are) (evidence_has (subst (IsEvidenceAt p counts) is e)).1),
    )

    -- there is no evidence of other capacities
    pub no_evidence : (r test : Bool) → (IsTrue test ↔ ((caps.scale ≡ 1) × (caps.nums ≡ own) × All (λ n. n < 2 ^ 126) caps.nums)) → test ≡ false → r ≡ test
        → (IsTrue r ↔ IsEvidenceAt p counts evidence)
    no_evidence r test tells fails same = (
      λ yes. absurd (both_ways r (same ∙ fails) yes),
      λ e. let of = (evidence_has (subst (IsEvidenceAt p counts) is e)).0 in absurd (both_ways test fails (tells.1 (of.0, of.1 ∙ sym own_are, of.2))),
    )
