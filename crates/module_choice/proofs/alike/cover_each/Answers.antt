use Rattle.std.proofs.Common.{◌≡◌, ◌∙◌, ◌+◌, Some, ap, arith, length, refl, slice_get, subst, sym}
use Rattle.net_core.proofs.Library.{slice_get_read, slice_get_within, all_written}
use Rattle.plan_terms.specs.Terms.{Link}
use Rattle.module_choice.{specs.inner.Routes.AlikeAreCovered, proofs.SameModules.{AllCovered, covered_again, covered_next, needs_covered}, proofs.alike.cover_each.Goals.{then-not-has_earlier+in_ok-cover_alike, else-not-has_earlier}}
use Rattle.module_choice.proofs.alike.cover_each.Goals as goal

pub loop-e-preserved : goal.loop-e-preserved
loop-e-preserved c =
    let links = c.args.links.now in
    let needs = c.args.needs.now in
    let e = c.loop-e.e in
    elim c.if-not-has_earlier.branch [
      | then-not-has_earlier+in_ok-cover_alike w ↦
          let l = w.index-links-e.result in
          let at : slice_get links e ≡ Some l = slice_get_read links (length links) e l refl c.loop-e-test.true w.index-links-e.is in
          let new = w.cover_alike.new.counts in
          let lent : w.items_mut.result.now ≡ c.loop-e.counts = w.items_mut.ensures.value in
          let count : length new ≡ length c.loop-e.counts = w.in_ok-cover_alike.ensures.count ∙ ap length lent in
          let all : c.if-not-has_earlier.counts ≡ new = w.counts-is ∙ all_written c.loop-e.counts new count in
          let these = subst (AlikeAreCovered links needs new) (w.items-modules.ensures ∙ ap (λ (x : Link). x.modules) (sym w.index-links-e.is)) w.in_ok-cover_alike.ensures.these in
          record {
            count = ap length all ∙ (count ∙ c.loop-e.invariant.count);
            covered = subst (λ cs. AllCovered links needs cs (e + 1)) (sym all) (covered_next links needs c.loop-e.counts new e l at these (λ ms before. w.in_ok-cover_alike.ensures.others ms (subst (λ cs. AlikeAreCovered links needs cs ms) (sym lent) before)) c.loop-e.invariant.covered);
          }
      | else-not-has_earlier w ↦
          record {
            count = ap length w.counts-is ∙ c.loop-e.invariant.count;
            covered = subst (λ cs. AllCovered links needs cs (e + 1)) (sym w.counts-is) (covered_again links needs c.loop-e.counts e (w.if-not-has_earlier.ensures.0 refl) c.loop-e.invariant.covered);
          }
    ]

pub returns : goal.returns
returns c = needs_covered c.args.links.now c.args.needs.now c.loop-e.counts c.loop-e.invariant.count (λ e l at. c.loop-e.invariant.covered e l (omega (arith, slice_get_within c.args.links.now e l at, c.loop-e-test.false)) at)
