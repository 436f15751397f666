use Rattle.std.proofs.Common.{◌≡◌, ap, arith, length, refl, subst}
use Rattle.net_core.proofs.Library.{slice_get_read}
use Rattle.plan_terms.specs.Terms.{graph_of}
use Rattle.key_paths.{specs.inner.Gaining.{AreOffers, Offers}, proofs.Carried.offers_more}
use Rattle.key_paths.proofs.path_offers.offers_of.Goals as goal

pub loop-k-preserved : goal.loop-k-preserved
loop-k-preserved c =
    let demands = c.args.task.now.demands.now in
    let d = c.index-demands-k.result in
    let keyed = c.args.keyed.now in
    let old = c.loop-k.found in
    let new = c.offer.new.found in
    offers_more (graph_of c.args.task.now.graph) demands keyed c.loop-k.k d old new
    (slice_get_read demands (length demands) c.loop-k.k d refl (omega (arith, c.loop-k-test.true, ap length c.items-demands.ensures)) (rw c.items-demands.ensures at c.index-demands-k.is))
    (subst (λ g. Offers g keyed c.loop-k.k d old new) c.requires.graph c.in_ok-offer.ensures)
    c.loop-k.invariant

pub returns : goal.returns
returns c =
    let n : c.loop-k.k ≡ length c.args.task.now.demands.now = omega (arith, c.loop-k-test.false, c.loop-k.auto.k-end, ap length c.items-demands.ensures) in
    subst (λ n. AreOffers (graph_of c.args.task.now.graph) c.args.task.now.demands.now c.args.keyed.now n c.loop-k.found) n c.loop-k.invariant
