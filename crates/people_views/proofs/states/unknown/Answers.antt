use Rattle.std.proofs.Common.{refl}
use Rattle.outside_io.specs.declared.status.Status.TheVariants.{BadWords}
use Rattle.people_files.proofs.Causing.{told_so}
use Rattle.people_views.specs.StateForms.{IsStateMessage, LacksState}
use Rattle.people_views.proofs.states.unknown.Goals as goal

pub returns : goal.returns
returns c =
    let listed = c.args.states.now.listed in
    told_so BadWords (IsStateMessage listed c.args.name.now) (LacksState listed c.args.name.now) c.unknown_text.result c.told.result
    c.unknown_text.ensures c.told.ensures (λ m is. (c.requires, refl, is))
