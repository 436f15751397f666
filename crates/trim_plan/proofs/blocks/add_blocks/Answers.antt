use Rattle.std.proofs.Common.{◌≡◌, ◌∙◌, ◌<◌, All, ap, get_or, length, refl, slice_index, subst, sym, [], List, ℕ, arith}
use Rattle.net_core.proofs.Library.{All-push}
use Rattle.plan_terms.specs.Terms.{Link, case_of, capacities}
use Rattle.module_choice.proofs.Pairs.{counts_shape}
use Rattle.able_counts.specs.AbleTests.{AreRoutedCounts, IsStopAt, whole_caps}
use Rattle.trim_plan.{specs.declared.trimmed_plan.Block.Block, specs.Trimmed.{IsBlockAt, module_count, one_less}, specs.inner.Sparing.block_places, proofs.Placing.{place_added, place_skipped, places_all}, proofs.blocks.add_blocks.Goals.{then-module_count-gt0+in_ok-why+in-Some+in_ok-push-in-Some, else-module_count-gt0}}
use Rattle.trim_plan.proofs.blocks.add_blocks.Goals as goal

pub returns-clause-places : goal.returns-clause-places
returns-clause-places c _ =
    let links = c.args.instance.now.net.now.links in
    let counts = c.args.counts.now in
    let long = counts_shape links counts c.requires.routed.shape c.args.link c.index-items-link.result [] c.requires.link in
    let l = c.index-items-link.result in
    let here = ap (λ (x : Link). length x.modules) c.index-items-link.is in
    let modules = ap (λ (ls : List Link). length (get_or ls c.args.link l).modules) (c.items.ensures ∙ c.links.ensures) in
    places_all c.loop-m.blocks c.args.blocks.now c.args.link c.loop-m.m (get_or counts c.args.link []) (omega (arith, long, c.loop-m-test.false, c.len-m-end.ensures, here, modules)) c.loop-m.invariant.places

pub loop-m-preserved : goal.loop-m-preserved
loop-m-preserved c =
    let p = case_of c.args.instance.now in
    let counts = c.args.counts.now in
    let e = c.args.link in
    let m = c.loop-m.m in
    let so_far = c.loop-m.invariant in
    let long = counts_shape p.links counts c.requires.routed.shape e c.index-items-link.result [] c.requires.link in
    let here = ap (λ (x : Link). length x.modules) c.index-items-link.is in
    let modules = ap (λ (ls : List Link). length (get_or ls e c.index-items-link.result).modules) (c.items.ensures ∙ c.links.ensures) in
    let inside : m < length (get_or counts e []) = omega (arith, long, c.loop-m-test.true, c.len-m-end.ensures, here, modules) in
    let count : c.module_count.result ≡ slice_index (get_or counts e []) m = c.module_count.ensures ∙ ap (λ (cs : List (List ℕ)). module_count cs e m) so_far.same in
    elim c.if-module_count-gt0.branch [
      | then-module_count-gt0+in_ok-why+in-Some+in_ok-push-in-Some w ↦
          let kept = rw w.in-Some.is at w.in_ok-why.ensures.kept in
          let stop : IsStopAt p (whole_caps (capacities p.links (one_less counts e m))) w.in-Some.why =
          subst (λ (cs : List (List ℕ)). IsStopAt p (whole_caps (capacities p.links (one_less cs e m))) w.in-Some.why) so_far.same kept.1 in
          let b : Block = record { link = record { 0 = e }; «module» = m; why = w.in-Some.why } in
          let pushed = w.blocks-is ∙ w.in_ok-push-in-Some.ensures.ok in
          let some : 0 < slice_index (get_or counts e []) m = omega (arith, count, w.if-module_count-gt0.true) in
          record {
            same = w.counts-is ∙ kept.0 ∙ so_far.same;
            routed = subst (AreRoutedCounts p counts) (sym w.test-is) (subst (λ (cs : List (List ℕ)). AreRoutedCounts p cs w.take_off.new.test) (kept.0 ∙ so_far.same) w.in_ok-why.ensures.routed);
            blocked = subst (All (IsBlockAt p counts)) (sym pushed) (All-push (IsBlockAt p counts) c.loop-m.blocks b so_far.blocked stop);
            places = ap block_places pushed ∙ place_added c.loop-m.blocks c.args.blocks.now b e m (get_or counts e []) inside some refl so_far.places;
          }
      | else-module_count-gt0 w ↦
          let none : slice_index (get_or counts e []) m ≡ 0 = omega (arith, count, w.if-module_count-gt0.false) in
          record {
            same = w.counts-is ∙ so_far.same;
            routed = subst (AreRoutedCounts p counts) (sym w.test-is) so_far.routed;
            blocked = subst (All (IsBlockAt p counts)) (sym w.blocks-is) so_far.blocked;
            places = ap block_places w.blocks-is ∙ place_skipped c.loop-m.blocks c.args.blocks.now e m (get_or counts e []) inside none so_far.places;
          }
    ]
