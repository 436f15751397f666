use Rattle.std.proofs.Common.{arith}
use Rattle.net_core.proofs.Library.{IfOk-weaker}
use Rattle.short_paths.proofs.Leading.{leads_on, way_least, unfound_apart, apart_unfound}
use Rattle.short_paths.proofs.least_paths.LeastPaths.path.Goals as goal

pub way_back-requires-clause-leads : goal.way_back-requires-clause-leads
way_back-requires-clause-leads c =
    let all = c.args.self.now in
    rw c.items.ensures (leads_on _ _ _ _ _ _ all.long all.arcs_are c.distances_to-back.ensures.table)

pub returns-clause-found : goal.returns-clause-found
returns-clause-found c =
    let all = c.args.self.now in
    IfOk-weaker c.way_back.result _ _
    (λ path f. way_least _ _ _ _ _ _ all.long all.arcs_are c.distances_to-back.ensures.table _ path f)
    (rw c.items.ensures at c.way_back.ensures.found)

pub returns-clause-apart : goal.returns-clause-apart
returns-clause-apart c =
    let all = c.args.self.now in
    let table = c.distances_to-back.ensures.table in (
      λ fault. unfound_apart _ _ _ _ _ _ all.long all.arcs_are table _ (c.way_back.ensures.apart.0 fault),
      λ apart. c.way_back.ensures.apart.1 (apart_unfound _ _ _ _ _ _ all.long all.arcs_are table _ (omega (arith, c.requires.from, c.distances_to-back.ensures.size)) apart),
    )
