use Rattle.checked_fraction.specs.Terms.{num}
use Rattle.key_rows.specs.Terms.{path_uses}
use Rattle.key_paths.proofs.Moving.{moved}
use Rattle.key_paths.proofs.move_rest.move_rest.Goals as goal

pub returns-clause-each : goal.returns-clause-each
returns-clause-each c = λ k. moved (num c.args.rest.now k) (num c.shift_list.new.rest k) (num c.shift_back_list.new.rest k) c.args.bound.now (path_uses c.args.from.now k) (path_uses c.args.to.now k)
    (c.shift_list.ensures.each k) (c.shift_back_list.ensures.each k)
