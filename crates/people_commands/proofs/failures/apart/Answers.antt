use Rattle.std.proofs.Common.{◌≡◌, ◌++◌}
use Rattle.outside_io.specs.declared.status.Status.TheVariants.{NotSurvivable}
use Rattle.people_files.proofs.Causing.{told_so}
use Rattle.people_commands.{specs.Endings.{SaysApart, apart_words}, specs.inner.Causes.apart_line, proofs.Separated.says_apart}
use Rattle.people_commands.proofs.failures.apart.Goals as goal

pub returns : goal.returns
returns c =
    let name = c.demand_name-name.result.now in
    told_so NotSurvivable (λ m. m ≡ apart_words name ++ apart_line name) (SaysApart c.args.net.now c.args.demands.now) c.apart_text.result c.told.result
    c.apart_text.ensures c.told.ensures
    (says_apart c.args.net.now c.args.demands.now c.args.k name c.requires (rw c.items.ensures at c.demand_name-name.ensures))
