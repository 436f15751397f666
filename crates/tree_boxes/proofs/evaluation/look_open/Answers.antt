use Rattle.std.proofs.Common.{arith, refl, subst, sym}
use Rattle.tree_check.specs.Terms.{IsFixedBox, TreeBox}
use Rattle.tree_boxes.{specs.declared.evaluation.Round.Round, specs.declared.found.Found.Found, specs.Finds.{IsFoundAt, IsSearchBox}, specs.inner.Rounds.IsRoundTo, specs.Searches.{IsUnsettledIn, aimed, handed_in}, proofs.Extending.{aim_on, entries_most, learned_none, learned_on, most_on}, proofs.Looking.open_found}
use Rattle.tree_boxes.proofs.evaluation.look_open.Goals as goal

pub loop-init : goal.loop-init
loop-init c = record {
  aim = c.requires.aim;
  sound = c.requires.search;
  learned = learned_none c.args.search.now;
  box = refl;
  few = entries_most c.args.search.now;
  valued = c.requires.valued;
  below = c.requires.below;
}

pub look_once-requires-clause-room : goal.look_once-requires-clause-room
look_once-requires-clause-room c = omega (arith, most_on c.args.search.now c.loop.search c.loop.invariant.learned c.loop.invariant.few, c.requires.room)

pub loop-preserved : goal.loop-preserved
loop-preserved c =
    let a = c.args.aim.now in
    let old = c.loop.search in
    let new = c.look_once.new.search in
    let told = c.in_ok-found.ensures in
    let round = subst (λ (r : Round). IsRoundTo (aimed a) a.plan.now new.known.tested c.loop.boxed r) c.in-Open.is told.round in
    record {
      aim = aim_on a old.known.entries new.known.entries told.learned.extends c.loop.invariant.aim;
      sound = told.search;
      learned = learned_on c.args.search.now old new c.loop.invariant.learned told.learned;
      box = c.loop.invariant.box;
      few = omega (arith, told.few, most_on c.args.search.now old c.loop.invariant.learned c.loop.invariant.few);
      valued = round.0;
      below = round.1;
    }

pub returns-in-Found-clause-learned : goal.returns-in-Found-clause-learned
returns-in-Found-clause-learned c =
    learned_on c.args.search.now c.loop.search c.look_once.new.search c.loop.invariant.learned c.in_ok-found.ensures.learned

pub returns-then-not-again-clause-learned : goal.returns-then-not-again-clause-learned
returns-then-not-again-clause-learned c =
    learned_on c.args.search.now c.loop.search c.look_once.new.search c.loop.invariant.learned c.in_ok-found.ensures.learned

pub returns-in-Found-clause-found : goal.returns-in-Found-clause-found
returns-in-Found-clause-found c =
    let a = c.args.aim.now in
    let tested = c.look_once.new.search.known.tested in
    let handed = handed_in c.args.search.now in
    let round = subst (λ (r : Round). IsRoundTo (aimed a) a.plan.now tested c.loop.boxed r) c.in-Found.is c.in_ok-found.ensures.round in
    subst (λ (box : TreeBox). IsFoundAt (aimed a) a.plan.now handed tested c.args.depth box c.in-Found.found) c.loop.invariant.box (round handed c.args.depth)

pub returns-then-not-again-clause-found : goal.returns-then-not-again-clause-found
returns-then-not-again-clause-found c =
    let a = c.args.aim.now in
    let tested = c.look_once.new.search.known.tested in
    let handed = handed_in c.args.search.now in
    let box = c.loop.boxed in
    let same = c.loop.invariant.box in
    let round = subst (λ (r : Round). IsRoundTo (aimed a) a.plan.now tested box r) c.in-Open.is c.in_ok-found.ensures.round in
    let here = open_found (aimed a) a.plan.now handed tested c.args.depth box c.in-Open.better c.in-Open.worth c.look_once.new.search.known.cuts_end
    (subst (IsSearchBox (aimed a).links c.args.depth) (sym same) c.requires.search_box) round.0 round.1
    (subst (IsUnsettledIn (aimed a) a.plan.now c.args.search.now) (sym same) c.requires.unsettled)
    (subst (λ (b : TreeBox). IsFixedBox b → ⊥) (sym same) c.requires.unfixed) in
    subst (λ (b : TreeBox). IsFoundAt (aimed a) a.plan.now handed tested c.args.depth b c.open.result) same
    (subst (λ (f : Found). IsFoundAt (aimed a) a.plan.now handed tested c.args.depth box f) (sym c.open.ensures) here)

pub returns-clause-found : goal.returns-clause-found
returns-clause-found c =
    let a = c.args.aim.now in
    let tested = c.loop.search.known.tested in
    let handed = handed_in c.args.search.now in
    let box = c.loop.boxed in
    let same = c.loop.invariant.box in
    let here = open_found (aimed a) a.plan.now handed tested c.args.depth box c.loop.best c.loop.rank c.loop.search.known.cuts_end
    (subst (IsSearchBox (aimed a).links c.args.depth) (sym same) c.requires.search_box) c.loop.invariant.valued c.loop.invariant.below
    (subst (IsUnsettledIn (aimed a) a.plan.now c.args.search.now) (sym same) c.requires.unsettled)
    (subst (λ (b : TreeBox). IsFixedBox b → ⊥) (sym same) c.requires.unfixed) in
    subst (λ (b : TreeBox). IsFoundAt (aimed a) a.plan.now handed tested c.args.depth b c.open-2.result) same
    (subst (λ (f : Found). IsFoundAt (aimed a) a.plan.now handed tested c.args.depth box f) (sym c.open-2.ensures) here)
