use Rattle.std.proofs.Common.{◌∙◌, ◌≤◌, ◌<◌, ◌++◌, All, IsTrue, ap, arith, get_or, length, List, [], ℕ, refl, subst, sym, rules, take_all}
use Rattle.net_core.proofs.Library.{All-nil}
use Rattle.plan_terms.specs.Terms.{case_of}
use Rattle.able_counts.specs.AbleTests.{AreRoutedCounts}
use Rattle.module_choice.proofs.Pairs.{counts_long}
use Rattle.trim_plan.{specs.Trimmed.{IsBlockAt, links_in_use, modules_in_use}, specs.inner.Sparing.block_places, proofs.Lowering.links_more}
use Rattle.trim_plan.proofs.blocks.add_all_blocks.Goals as goal

pub returns-clause-trimmed : goal.returns-clause-trimmed
returns-clause-trimmed c _ =
    let links = c.args.instance.now.net.now.links in
    let counts = c.args.counts.now in
    let long = counts_long links counts c.requires.routed.shape in
    let all : length counts ≤ c.loop-e.e = omega (arith, long, c.loop-e-test.false, c.len-e-end.ensures, ap length c.links.ensures) in (
      c.loop-e.invariant.same,
      record {
        places = c.loop-e.invariant.places ∙ ap (λ cs. links_in_use 0 cs) (take_all c.loop-e.e counts all);
        blocked = c.loop-e.invariant.blocked;
      },
    )

pub loop-e-init : goal.loop-e-init
loop-e-init c = record {
  same = refl;
  routed = c.requires.routed;
  blocked = subst (All (IsBlockAt (case_of c.args.instance.now) c.args.counts.now)) (sym c.requires.empty) (All-nil (IsBlockAt (case_of c.args.instance.now) c.args.counts.now));
  places = ap block_places c.requires.empty;
}

pub loop-e-preserved : goal.loop-e-preserved
loop-e-preserved c =
    let p = case_of c.args.instance.now in
    let counts = c.args.counts.now in
    let so_far = c.loop-e.invariant in
    let done = c.in_ok-add_blocks.ensures in
    let long = counts_long p.links counts c.requires.routed.shape in
    let inside : c.loop-e.e < length counts = omega (arith, long, c.loop-e-test.true, c.len-e-end.ensures, ap length c.links.ensures) in
    let yes : IsTrue c.in_ok-add_blocks.field-0 = search rules in
    let as_given = done.same yes ∙ so_far.same in
    record {
      same = as_given;
      routed = subst (λ (cs : List (List ℕ)). AreRoutedCounts p cs c.add_blocks.new.test) as_given done.routed;
      blocked = subst (λ (cs : List (List ℕ)). All (IsBlockAt p cs) c.add_blocks.new.blocks) so_far.same (done.blocked yes);
      places = done.places yes
          ∙ ap (λ (cs : List (List ℕ)). block_places c.loop-e.blocks ++ modules_in_use c.loop-e.e 0 (get_or cs c.loop-e.e [])) so_far.same
          ∙ ap (λ ps. ps ++ modules_in_use c.loop-e.e 0 (get_or counts c.loop-e.e [])) so_far.places
          ∙ sym (links_more counts c.loop-e.e inside);
    }
