use Rattle.std.proofs.Common.{refl}
use Rattle.plan_terms.specs.Terms.{case_of}
use Rattle.tree_search.proofs.Restarts.{begun_search}
use Rattle.tree_search.proofs.proof_search.begin_anew.Goals as goal

pub returns-clause-search : goal.returns-clause-search
returns-clause-search c =
    let told = c.in_ok-keep_first.ensures in
    (begun_search (case_of c.args.instance.now) c.args.search.now _ c.requires told.known refl refl refl told.entries).0

pub returns-clause-handed : goal.returns-clause-handed
returns-clause-handed c =
    let told = c.in_ok-keep_first.ensures in
    (begun_search (case_of c.args.instance.now) c.args.search.now (record c.args.search.now { known = c.keep_first.new.known }) c.requires told.known refl refl refl told.entries).1.0

pub returns-clause-few : goal.returns-clause-few
returns-clause-few c =
    let told = c.in_ok-keep_first.ensures in
    (begun_search (case_of c.args.instance.now) c.args.search.now (record c.args.search.now { known = c.keep_first.new.known }) c.requires told.known refl refl refl told.entries).1.1
