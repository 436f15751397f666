use Rattle.std.proofs.Common.{◌≡◌, ℕ, ◌≤◌, ◌<◌, ⊎_elim, arith, subst}
use Rattle.net_core.proofs.Library.{cases_lt, both_ways}
use Rattle.tree_check.specs.Terms.{EmptiesBox, names_in}
use Rattle.tree_boxes.{specs.Searches.aimed, proofs.Knowing.{empties_told, none_empties, tests_length}}
use Rattle.tree_boxes.proofs.known.Known.emptied_by.Goals as goal

pub loop-i-preserved : goal.loop-i-preserved
loop-i-preserved c = λ k lt empties. ⊎_elim
    (λ (before : k < c.loop-i.i). c.loop-i.invariant k before empties)
    (λ (here : c.loop-i.i ≤ k).
    let same : k ≡ c.loop-i.i = omega (arith, lt, here) in
    both_ways c.is_empty.result c.if-is_empty.false
    (c.is_empty.ensures.1 (subst (λ (i : ℕ). EmptiesBox (names_in c.tests-tests.result) c.tests-tests.result.instance.now.net.now.links c.args.boxed.now i) same empties)))
    (cases_lt k c.loop-i.i)

pub returns-clause-none : goal.returns-clause-none
returns-clause-none c = λ _.
    let long = tests_length (aimed c.args.aim.now) c.args.self.now c.requires in
    let told = c.tests-tests.ensures in
    none_empties c.args.self.now.tested (aimed c.args.aim.now).links c.args.boxed.now c.loop-i.i (omega (arith, c.loop-i-test.false, c.len-i-end.ensures, long))
    (λ k lt empties. c.loop-i.invariant k lt
    (empties_told c.args.aim.now c.args.self.now.tested c.tests-tests.result told.instance told.tested c.args.boxed.now k empties))
