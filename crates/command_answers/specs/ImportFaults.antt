-- the line of an import that has a fault
use Rattle.std.specs.Prelude.{ℕ, List, [], ◌∷◌, ◌++◌, codes}
use Rattle.plan_terms.specs.Terms.{Case}
use Rattle.plan_report.specs.Terms.{demand_name, link_name, node_name, state_name}
use Rattle.flow_import.specs.declared.fault.ImportFault.{ImportFault}
use Rattle.check_answers.specs.Findings.{spaced}
use Rattle.flow_import.specs.declared.fault.ImportFault.TheVariants as import_fault

-- the words of an import's fault: what it is, and the names of the state, of the link or the demand, and of the node
abbrev pub import_fault_words : Case → ImportFault → List (List ℕ)
import_fault_words p (import_fault.Dead s e) = codes "dead" ∷ state_name p.listed s.0 ∷ link_name p.links e ∷ []
import_fault_words p (import_fault.Unbalanced s k n) = codes "unbalanced" ∷ state_name p.listed s.0 ∷ demand_name p.demands k ∷ node_name p.nodes n ∷ []
import_fault_words p (import_fault.Overloaded s e) = codes "overloaded" ∷ state_name p.listed s.0 ∷ link_name p.links e ∷ []
import_fault_words p import_fault.NoMemory = []

-- the line of an import with this fault
abbrev pub import_fault_line : Case → ImportFault → List ℕ
import_fault_line p fault = codes "rejected import" ++ spaced (import_fault_words p fault) ++ 10 ∷ []
