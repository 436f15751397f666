use Rattle.std.proofs.Common.{refl}
use Rattle.plan_terms.specs.Terms.{case_of}
use Rattle.tree_boxes.{proofs.Extending.extends_push, proofs.Knowing.known_more}
use Rattle.line_maker.specs.declared.entry.Entry.TheVariants as entry
use Rattle.tree_boxes.proofs.known.Known.push.Goals as goal

pub returns-clause-known : goal.returns-clause-known
returns-clause-known c =
    let told = c.in_ok-put.ensures in
    known_more (case_of c.args.instance.now) c.args.self.now _ (entry.Cut c.args.cut) c.in_ok-tested.tested c.requires.known c.requires.room
    c.requires.sound (c.in_ok-tested.ensures c.args.self.now.tested) (λ _. refl) told.entries told.tested c.put.ensures.divides

pub returns-clause-tested : goal.returns-clause-tested
returns-clause-tested c = extends_push c.args.self.now.tested c.put.new.self.tested c.in_ok-tested.tested c.in_ok-put.ensures.tested
