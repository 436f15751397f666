use Rattle.std.proofs.Common.{◌≡◌, ◌∙◌, ◌+◌, Some, ap, arith, get_or, length, refl, slice_get, subst, sym, length-set}
use Rattle.net_core.proofs.Library.{false≢true, slice_get_read, slice_get_within}
use Rattle.module_choice.{specs.inner.Cheapest.AreCheapest, specs.inner.Routes.AlikeAreCovered, proofs.SameModules.{TheseAreCovered, covered_set, these_set, these_skip}, proofs.alike.cover_by_table.Goals.{then-has_modules+in_ok-counts, else-has_modules}}
use Rattle.module_choice.proofs.alike.cover_by_table.Goals as goal

pub loop-e-preserved : goal.loop-e-preserved
loop-e-preserved c =
    let links = c.args.links.now in
    let needs = c.args.needs.now in
    let modules = c.args.modules.now in
    let e = c.loop-e.e in
    let l = c.index-links-e.result in
    let at : slice_get links e ≡ Some l = slice_get_read links (length links) e l refl c.loop-e-test.true c.index-links-e.is in
    elim c.if-has_modules.branch [
      | then-has_modules+in_ok-counts w ↦
          let new = w.in_ok-counts.field-0 in
          let alike : l.modules ≡ modules = w.if-has_modules.ensures.0 refl in
          let covered : AreCheapest l.modules (get_or needs e 0) new = subst (λ ms. AreCheapest ms (get_or needs e 0) new) (sym alike) w.in_ok-counts.ensures in
          record {
            count = ap length w.counts-is ∙ (length-set c.loop-e.counts e new ∙ c.loop-e.invariant.count);
            these = subst (λ cs. TheseAreCovered links needs cs modules (e + 1)) (sym w.counts-is) (these_set links needs c.loop-e.counts e l new modules at covered c.loop-e.invariant.these);
            others = λ ms before. subst (λ cs. AlikeAreCovered links needs cs ms) (sym w.counts-is) (covered_set links needs c.loop-e.counts e l new ms at covered (c.loop-e.invariant.others ms before));
          }
      | else-has_modules w ↦
          record {
            count = ap length w.counts-is ∙ c.loop-e.invariant.count;
            these = subst (λ cs. TheseAreCovered links needs cs modules (e + 1)) (sym w.counts-is) (these_skip links needs c.loop-e.counts e l modules at (λ same. absurd (false≢true (w.if-has_modules.ensures.1 same))) c.loop-e.invariant.these);
            others = λ ms before. subst (λ cs. AlikeAreCovered links needs cs ms) (sym w.counts-is) (c.loop-e.invariant.others ms before);
          }
    ]

pub returns-clause-these : goal.returns-clause-these
returns-clause-these c e l counts at got alike = c.loop-e.invariant.these e l counts (omega (arith, slice_get_within c.args.links.now e l at, c.loop-e-test.false)) at got alike
