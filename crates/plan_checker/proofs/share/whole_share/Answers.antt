use Rattle.std.proofs.Common.{List, [], ◌∷◌, ℕ, ◌+◌, ◌<◌, ◌^◌, All, get_or, subst, sym, arith}
use Rattle.net_core.proofs.Library.{All-append, All-from_recursion}
use Rattle.plan_terms.specs.Terms.{Link}
use Rattle.plan_checker.{specs.Shares.IsShareOf, proofs.SharesKept.{GivesBefore, share_all, share_more}}
use Rattle.plan_checker.proofs.share.whole_share.Goals as goal

pub loop-e-preserved : goal.loop-e-preserved
loop-e-preserved c =
    let links = c.args.links.now in
    let share = c.args.share.now in
    let e = c.loop-e.e in
    let given = c.share_of-given.result in
    record {
      value = subst (λ (ns : List ℕ). GivesBefore links share (e + 1) ns (c.loop-e.cost + given.cost)) (sym c.in_ok-push.ensures.ok)
          (share_more links e c.index-links-e.result share c.loop-e.nums c.loop-e.cost given.num given.cost c.loop-e-test.true
          (subst (λ (us : List ℕ). IsShareOf (get_or links e c.index-links-e.result) share.scale (get_or us e 0) given.num given.cost) c.items.ensures
          (subst (λ (l : Link). IsShareOf l share.scale (get_or c.items.result.now e 0) given.num given.cost) c.index-links-e.is c.share_of-given.ensures.value)) c.loop-e.invariant.value);
      low = subst (λ (ns : List ℕ). All (λ n. n < 2 ^ 127) ns) (sym c.in_ok-push.ensures.ok) (All-append (λ n. n < 2 ^ 127) c.loop-e.nums (given.num ∷ []) c.loop-e.invariant.low (All-from_recursion (λ n. n < 2 ^ 127) (given.num ∷ []) (c.share_of-given.ensures.num, tt)));
      small = omega (arith, c.loop-e.invariant.small, c.share_of-given.ensures.cost);
    }

pub returns-clause-value : goal.returns-clause-value
returns-clause-value c = share_all c.args.links.now c.args.share.now c.loop-e.e c.loop-e.nums c.loop-e.cost (omega (arith, c.loop-e-test.false, c.loop-e.auto.e-end)) c.loop-e.invariant.value
