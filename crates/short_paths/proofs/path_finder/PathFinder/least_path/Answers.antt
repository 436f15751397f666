use Rattle.net_core.proofs.Library.{IfOk-weaker}
use Rattle.short_paths.proofs.Leading.{leads_on, way_least, unfound_apart}
use Rattle.short_paths.proofs.path_finder.PathFinder.least_path.Goals as goal

pub way_back-requires-clause-leads : goal.way_back-requires-clause-leads
way_back-requires-clause-leads c =
    let all = c.args.self.now in
    rw c.found.ensures (leads_on _ _ _ _ _ _ c.requires.long all.arcs_are ∣ c.run.ensures.table ∣₁)

pub returns-clause-found : goal.returns-clause-found
returns-clause-found c =
    let all = c.args.self.now in
    IfOk-weaker c.way_back.result _ _
    (λ path f. way_least _ _ _ _ _ _ c.requires.long all.arcs_are ∣ c.run.ensures.table ∣₁ _ path f)
    (rw c.found.ensures at c.way_back.ensures.found)

pub returns-clause-apart : goal.returns-clause-apart
returns-clause-apart c = λ fault.
    let all = c.args.self.now in
    unfound_apart _ _ _ _ _ _ c.requires.long all.arcs_are ∣ c.run.ensures.table ∣₁ _ (rw c.found.ensures at c.way_back.ensures.apart.0 fault)
