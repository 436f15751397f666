use Rattle.std.proofs.Common.{List, inr, subst}
use Rattle.plan_terms.specs.Terms.{case_of}
use Rattle.line_check.{specs.Terms.IsTestedAs, specs.declared.tested_lines.Tested.Tested}
use Rattle.tree_boxes.proofs.Knowing.{known_more}
use Rattle.line_maker.specs.declared.entry.Entry.TheVariants as entry
use Rattle.tree_boxes.proofs.known.Known.push_line.Goals as goal

pub returns-clause-known : goal.returns-clause-known
returns-clause-known c =
    let p = case_of c.args.instance.now in
    let told = c.in_ok-put.ensures in
    let test = subst (λ (ts : List Tested). IsTestedAs p ts (inr c.args.line) c.in_ok-tested.tested) c.items.ensures c.in_ok-tested.ensures in
    known_more p c.args.self.now c.put.new.self (entry.Line c.args.line) c.in_ok-tested.tested c.requires.known c.requires.room tt test
    (λ none. absurd (let some = c.requires.divides in cc (some, none))) told.entries told.tested c.put.ensures.divides
