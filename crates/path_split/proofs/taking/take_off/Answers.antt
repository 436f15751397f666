use Rattle.std.proofs.Common.{ap, sym, ◌∙◌}
use Rattle.net_core.proofs.Library.{at_drop_more}
use Rattle.path_split.{specs.inner.Trails.less, proofs.Lessening.enough_step}
use Rattle.path_split.proofs.taking.take_off.Goals as goal

pub loop-k-preserved : goal.loop-k-preserved
loop-k-preserved c =
    let rest = at_drop_more (λ ks. ks) c.args.trail.now c.loop-k.k-index 0 c.loop-k-test.true in
    record {
      enough = enough_step c.loop-k.lefts c.args.num _ _ _ rest c.loop-k.invariant.enough;
      same = sym (ap (λ ks. less c.loop-k.lefts ks c.args.num) rest) ∙ c.loop-k.invariant.same;
    }
