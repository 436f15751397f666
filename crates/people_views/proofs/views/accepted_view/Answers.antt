use Rattle.std.proofs.Common.{◌≡◌, [], List, ℕ, inl, inr, refl, subst, sym}
use Rattle.net_core.proofs.Library.{err_from_is_err_and}
use Rattle.plan_view.specs.Terms.{problem_case}
use Rattle.people_files.proofs.Causing.{halt_map}
use Rattle.people_views.{specs.Forms.HasForm, specs.ProofLines.FailsAtLines, specs.ReportEnds.ViewsAccepted, proofs.SoundOutcomes.outcomes_sound}
use Rattle.people_views.proofs.views.accepted_view.Goals as goal

pub returns-in_err-proof : goal.returns-in_err-proof
returns-in_err-proof c =
    let e = err_from_is_err_and c.from_residual.result c.from_residual.ensures.1 in
    let p = problem_case c.args.problem.now in
    let network = c.args.network.now in
    let name = c.args.name.now in
    let r = c.args.report.now in
    let bytes = c.args.bytes.now in
    rw (e.1, e.2) (halt_map (FailsAtLines name p r.outcomes bytes)
    (λ s message. ViewsAccepted c.args.form network name p r bytes s [] message) c.in_err-proof.field-0.0
    (λ s message fails. inl (refl, fails)) (rw c.items.ensures at c.in_err-proof.ensures.fails))

pub returns : goal.returns
returns c =
    let p = problem_case c.args.problem.now in
    let proof = c.in_ok-proof.proof in
    let put = c.in_ok-put_accepted_form.ensures in
    let Shows : List ℕ → Type 0 = λ text. HasForm c.args.form c.args.network.now p c.args.report.now.outcomes proof text in
    let shown : c.put_accepted_form.new.text ≡ put.0 = rw c.new-text.ensures at put.2 in
    let view : Shows put.0 = rw c.as_bytes.ensures.value at put.1 in
    inr (refl, refl, (proof, rw c.items.ensures at c.in_ok-proof.ensures.reads, subst Shows (sym shown) view))

pub read_proof-requires : goal.read_proof-requires
read_proof-requires c =
    let problem = c.args.problem.now in
    rw c.items.ensures (outcomes_sound (problem_case problem) c.args.report.now problem.belong problem.net.notes c.requires.accepted)

pub put_accepted_form-requires-clause-holds : goal.put_accepted_form-requires-clause-holds
put_accepted_form-requires-clause-holds c = rw c.items.ensures at c.in_ok-proof.ensures.holds
