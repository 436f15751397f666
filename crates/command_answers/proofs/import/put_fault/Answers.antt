use Rattle.std.proofs.Common.{◌≡◌, ◌++◌, [], ◌∷◌, List, ℕ, OnOk, codes, refl, subst, sym}
use Rattle.plan_terms.specs.Terms.{case_of}
use Rattle.plan_report.specs.Terms.{demand_name, node_name, state_name}
use Rattle.flow_import.specs.declared.fault.ImportFault.{ImportFault}
use Rattle.check_answers.specs.Findings.{spaced}
use Rattle.command_answers.specs.ImportFaults.{import_fault_words}
use Rattle.command_answers.proofs.import.put_fault.Goals as goal

pub returns-in-Unbalanced : goal.returns-in-Unbalanced
returns-in-Unbalanced c =
    let i = c.args.instance.now in
    let arm = c.in-Unbalanced in
    let put = c.put_three_names in
    let words : c.state_name-in-Unbalanced.result.now ∷ c.demand_name.result.now ∷ c.node_name.result.now ∷ []
    ≡ state_name i.states.now.listed arm.s.0 ∷ demand_name i.demands.now arm.k ∷ node_name i.net.now.nodes arm.n ∷ [] =
    rw (c.state_name-in-Unbalanced.ensures, c.demand_name.ensures, c.node_name.ensures, c.items-listed.ensures, c.listed.ensures, c.items.ensures, c.items-in-Unbalanced.ensures, c.nodes.ensures) refl in
    subst (λ (f : ImportFault). OnOk put.result (put.new.text ≡ c.args.text.now ++ spaced (import_fault_words (case_of i) f))) (sym arm.is)
    (subst (λ (ws : List (List ℕ)). OnOk put.result (put.new.text ≡ c.args.text.now ++ spaced (codes "unbalanced" ∷ ws))) words put.ensures)
