use Rattle.std.{proofs.Common.{◌≡◌, ◌∙◌, []}, proofs.lemmas.Result.IfOk-weaker}
use Rattle.plan_terms.specs.Terms.{case_of}
use Rattle.tree_check.{specs.declared.proof.Proof.Proof, proofs.Verdicts.{cheapest_holds, open_leaves_hold}}
use Rattle.tree_search.{specs.Proving.{IsProofOf, ShowsBound, ShowsCheapest}, specs.inner.Making.IsProofWith, proofs.Restarts.{certified_still, demands_still, handed_still, proof_still}}
use Rattle.tree_search.proofs.proof_search.prove_instance.Goals as goal

pub searched-requires-clause-demands : goal.searched-requires-clause-demands
searched-requires-clause-demands g c = demands_still (case_of c.args.instance.now) c.args.plan c.in_ok-better.better c.in_ok-better.ensures ∙ c.requires.demands

pub searched-requires-clause-routed : goal.searched-requires-clause-routed
searched-requires-clause-routed g c = c.in_ok-better.ensures.routed

pub searched-requires-clause-certified : goal.searched-requires-clause-certified
searched-requires-clause-certified g c = certified_still (case_of c.args.instance.now) c.args.plan c.in_ok-better.better c.in_ok-better.ensures c.requires.certified

pub searched-requires-clause-cuts : goal.searched-requires-clause-cuts
searched-requires-clause-cuts g c = handed_still (case_of c.args.instance.now) c.args.plan c.in_ok-better.better c.args.cuts c.in_ok-better.ensures c.requires.cuts

pub returns-clause-proof : goal.returns-clause-proof
returns-clause-proof g c =
    let p = case_of c.args.instance.now in
    let better = c.in_ok-better.better in
    IfOk-weaker c.searched.result (IsProofWith p c.args.divides better c.args.cuts c.args.limit) (IsProofOf p c.args.plan c.args.cuts c.args.limit)
    (λ (proof : Proof) of. proof_still p c.args.plan better c.args.cuts c.args.limit proof c.in_ok-better.ensures of.proof_is) c.searched.ensures

pub returns-clause-lines : goal.returns-clause-lines
returns-clause-lines g c = λ none.
    IfOk-weaker c.searched.result (IsProofWith (case_of c.args.instance.now) c.args.divides c.in_ok-better.better c.args.cuts c.args.limit)
    (λ (r : Proof). r.lines ≡ []) (λ (proof : Proof) of. of.plain none) c.searched.ensures

pub returns-clause-cheapest : goal.returns-clause-cheapest
returns-clause-cheapest g c =
    let p = case_of c.args.instance.now in
    IfOk-weaker c.searched.result (IsProofWith p c.args.divides c.in_ok-better.better c.args.cuts c.args.limit) (ShowsCheapest p)
    (λ (proof : Proof) of. λ verdict counts able. cheapest_holds p proof counts of.proof_is.accepted verdict able) c.searched.ensures

pub returns-clause-above : goal.returns-clause-above
returns-clause-above g c =
    let p = case_of c.args.instance.now in
    IfOk-weaker c.searched.result (IsProofWith p c.args.divides c.in_ok-better.better c.args.cuts c.args.limit) (ShowsBound p)
    (λ (proof : Proof) of. λ least verdict counts able. open_leaves_hold p proof least counts of.proof_is.accepted verdict able) c.searched.ensures
