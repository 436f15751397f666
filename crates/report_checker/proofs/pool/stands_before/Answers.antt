use Rattle.std.proofs.Common.{◌≡◌, ◌∙◌, ap, arith, refl, sym}
use Rattle.net_core.proofs.Library.{get_or_from_slice_get}
use Rattle.plan_terms.specs.Terms.{CutLine}
use Rattle.cut_pool.specs.Terms.{cut_of_line}
use Rattle.plan_checker.proofs.Places.{holds_here, none_more}
use Rattle.report_checker.proofs.pool.stands_before.Goals as goal

pub loop-j-preserved : goal.loop-j-preserved
loop-j-preserved c line at =
    let one : c.index-pool-k.result ≡ line = c.index-pool-k.is ∙ get_or_from_slice_get c.args.pool.now c.args.k line c.index-pool-k.result at in
    none_more c.args.pool.now (λ _ (x : CutLine). cut_of_line x ≡ cut_of_line line) c.loop-j.j c.index-pool-j.result c.index-pool-j.is (c.loop-j.invariant line at)
    (λ same. let yes = c.is_same_cut.ensures.1 (same ∙ sym (ap cut_of_line one)) in absurd cc (yes, c.if-is_same_cut.false))

pub returns-then-is_same_cut : goal.returns-then-is_same_cut
returns-then-is_same_cut c line at =
    let one : c.index-pool-k.result ≡ line = c.index-pool-k.is ∙ get_or_from_slice_get c.args.pool.now c.args.k line c.index-pool-k.result at in
    let same = c.is_same_cut.ensures.0 c.if-is_same_cut.true in (
      λ yes. (c.loop-j.j, omega arith, holds_here c.args.pool.now (λ _ (x : CutLine). cut_of_line x ≡ cut_of_line line) c.loop-j.j c.index-pool-j.result (omega arith) c.index-pool-j.is (same ∙ ap cut_of_line one)),
      λ found. refl,
    )

pub returns : goal.returns
returns c line at = (λ no. absurd cc no, λ found. absurd (c.loop-j.invariant line at found.0 (omega (arith, found.1, c.loop-j-test.false)) found.2))
