-- what an accepted tree shows of its plan's cost
use Rattle.std.proofs.Common.{◌≡◌, ℕ, refl, subst}
use Rattle.plan_terms.specs.Terms.{Case}
use Rattle.plan_types.specs.declared.plan.Plan.{Plan}
use Rattle.tree_check.{specs.declared.proof.Proof.Proof, specs.declared.proof.Verdict.Verdict, specs.declared.proof.Verdict.TheVariants.{Cheapest, Above}}
use Rattle.tree_reader.specs.declared.tree.ReadTree.{ReadTree}
use Rattle.view_text.specs.Terms.{CostsAtLeast, HoldsProof}
use Rattle.people_views.specs.ProofLines.{proof_by, told_by}

-- what a proof with this verdict shows, if no able counts cost less
abbrev pub ShowsLeast : Case → Proof → Type 0
ShowsLeast p proof = (proof.verdict ≡ Cheapest → CostsAtLeast p proof.plan.cost) × ((least : ℕ) → proof.verdict ≡ Above least → CostsAtLeast p least)

verdict_holds : (p : Case) (plan : Plan) (boxes : ℕ) (v : Verdict) → (v ≡ Cheapest → CostsAtLeast p plan.cost) → ((least : ℕ) → v ≡ Above least → CostsAtLeast p least)
    → HoldsProof p plan (told_by boxes v)
verdict_holds p plan boxes Cheapest cheapest above = cheapest refl
verdict_holds p plan boxes (Above least) cheapest above = above least refl

pub tree_holds : (p : Case) (plan : Plan) (t : ReadTree) (proof : Proof) (boxes : ℕ) → proof ≡ proof_by plan t → ShowsLeast p proof → HoldsProof p plan (told_by boxes t.verdict)
tree_holds p plan t proof boxes is least =
    let shows : ShowsLeast p (proof_by plan t) = subst (λ (q : Proof). ShowsLeast p q) is least in
    verdict_holds p plan boxes t.verdict shows.0 shows.1
