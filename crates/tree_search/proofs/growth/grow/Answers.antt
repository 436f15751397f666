use Rattle.std.proofs.Common.{◌+◌, ◌*◌, List, arith, subst}
use Rattle.plan_terms.specs.Terms.{CutLine}
use Rattle.tree_boxes.{specs.Terms.{aimed, handed_in}, proofs.Extending.{aim_on, entries_most, handed_same, learned_none, learned_on, most_more}}
use Rattle.tree_search.{specs.declared.growth.Turn.Turn, specs.inner.Growing.{IsGrowing, IsTurnTo}}
use Rattle.tree_search.proofs.growth.grow.Goals as goal

pub loop-splits-init : goal.loop-splits-init
loop-splits-init g c = record {
  search = c.requires.search;
  learned = learned_none c.args.search.now;
  few = omega (arith, entries_most c.args.search.now);
  growing = c.requires.growing;
}

pub grow_once-requires-clause-aim : goal.grow_once-requires-clause-aim
grow_once-requires-clause-aim g c = aim_on c.args.aim.now c.args.search.now.known.entries c.loop-splits.search.known.entries c.loop-splits.invariant.learned.extends c.requires.aim

pub grow_once-requires-clause-room : goal.grow_once-requires-clause-room
grow_once-requires-clause-room g c =
    let was = c.loop-splits.invariant in
    omega (arith, most_more c.args.search.now c.loop-splits.search (2 * c.loop-splits.splits) was.learned was.few, c.loop-splits-test.true, c.requires.room)

pub returns-in-Done-clause-learned : goal.returns-in-Done-clause-learned
returns-in-Done-clause-learned g c =
    learned_on c.args.search.now c.loop-splits.search c.grow_once.new.search c.loop-splits.invariant.learned c.in_ok-grow_once.ensures.learned

pub returns-in-Done-clause-few : goal.returns-in-Done-clause-few
returns-in-Done-clause-few g c =
    let was = c.loop-splits.invariant in
    omega (arith, c.in_ok-grow_once.ensures.few, most_more c.args.search.now c.loop-splits.search (2 * c.loop-splits.splits) was.learned was.few, c.loop-splits-test.true)

pub returns-in-Cheaper-clause-learned : goal.returns-in-Cheaper-clause-learned
returns-in-Cheaper-clause-learned g c =
    learned_on c.args.search.now c.loop-splits.search c.grow_once.new.search c.loop-splits.invariant.learned c.in_ok-grow_once.ensures.learned

pub returns-in-Cheaper-clause-few : goal.returns-in-Cheaper-clause-few
returns-in-Cheaper-clause-few g c =
    let was = c.loop-splits.invariant in
    omega (arith, c.in_ok-grow_once.ensures.few, most_more c.args.search.now c.loop-splits.search (2 * c.loop-splits.splits) was.learned was.few, c.loop-splits-test.true)

pub loop-splits-preserved : goal.loop-splits-preserved
loop-splits-preserved g c =
    let a = c.args.aim.now in
    let s = c.loop-splits.search in
    let new = c.grow_once.new.search in
    let n = c.loop-splits.splits in
    let twigs = c.grow_once.new.tree.twigs.items in
    let was = c.loop-splits.invariant in
    let told = c.in_ok-grow_once.ensures in
    let most = most_more c.args.search.now s (2 * n) was.learned was.few in
    let turn = subst (λ (t : Turn). IsTurnTo (aimed a) a.plan.now (handed_in s) new.known.tested n twigs t) c.in-Split.is told.turn in
    record {
      search = told.search;
      learned = learned_on c.args.search.now s new was.learned told.learned;
      few = omega (arith, told.few, most);
      growing = subst (λ (handed : List CutLine). IsGrowing (aimed a) a.plan.now handed new.known.tested (n + 1) twigs)
          (handed_same c.args.search.now s was.learned c.requires.search.inside) turn;
    }
