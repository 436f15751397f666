-- cut after cut, the first of greatest own bound
use Rattle.std.proofs.Common.{◌≡◌, ℕ, ◌+◌, ◌<◌, ◌≤◌, List, Some, length, slice_get, ⊎_elim, arith, subst, sym}
use Rattle.net_core.proofs.Library.{cases_eq, slice_get_within}
use Rattle.plan_terms.specs.Terms.{Link, CutLine, IsBestOwn, IsOwnBound}
use Rattle.master_bound.{specs.declared.best.GreatestOwn.GreatestOwn, specs.inner.Bests.{IsBestBelow, IsBetterOwn}}

same_cut : (cuts : List CutLine) (i : ℕ) (a b : CutLine) → slice_get cuts i ≡ Some a → slice_get cuts i ≡ Some b → a ≡ b
same_cut cuts i a b first second = cc (first, second)

module _ (links : List Link) (cuts : List CutLine) where
  -- the first cut alone
  pub best_first : (c : CutLine) (best : GreatestOwn) → slice_get cuts 0 ≡ Some c → best.cut ≡ 0 → IsOwnBound links c.lengths c.right best.bound → IsBestBelow links cuts 1 best
  best_first c best at is own =
      let own_of : (d : CutLine) → slice_get cuts 0 ≡ Some d → IsOwnBound links d.lengths d.right best.bound = λ d got. subst (λ (x : CutLine). IsOwnBound links x.lengths x.right best.bound) (same_cut cuts 0 c d at got) own in
      record {
        below = omega (arith, is);
        own = λ d got. own_of d (subst (λ i. slice_get cuts i ≡ Some d) is got);
        each = λ i d lt got. record {
          bound = best.bound;
          own = own_of d (subst (λ j. slice_get cuts j ≡ Some d) (zero_of i lt) got);
          most = omega arith;
          less = λ less. absurd (omega (arith, less, is));
        };
      }
    where
      zero_of : (i : ℕ) → i < 1 → i ≡ 0
      zero_of i lt = omega (arith, lt)

  -- the best so far stays
  best_stays : (k b : ℕ) (c : CutLine) (best : GreatestOwn) → slice_get cuts k ≡ Some c → IsOwnBound links c.lengths c.right b → b ≤ best.bound → IsBestBelow links cuts k best → IsBestBelow links cuts (k + 1) best
  best_stays k b c best at own less so_far = record {
    below = omega (arith, so_far.below);
    own = so_far.own;
    each = λ i d lt got. ⊎_elim
        (λ same. record {
          bound = b;
          own = subst (λ (x : CutLine). IsOwnBound links x.lengths x.right b) (same_cut cuts k c d at (subst (λ j. slice_get cuts j ≡ Some d) same got)) own;
          most = less;
          less = λ before. absurd (omega (arith, before, same, so_far.below));
        })
        (λ other. so_far.each i d (omega (arith, lt, other)) got)
        (cases_eq i k);
  }

  -- the next cut is the best
  best_moves : (k b : ℕ) (c : CutLine) (old : GreatestOwn) → slice_get cuts k ≡ Some c → IsOwnBound links c.lengths c.right b → old.bound < b → IsBestBelow links cuts k old → IsBestBelow links cuts (k + 1) (record { cut = k; bound = b })
  best_moves k b c old at own more so_far =
      let own_of : (d : CutLine) → slice_get cuts k ≡ Some d → IsOwnBound links d.lengths d.right b = λ d got. subst (λ (x : CutLine). IsOwnBound links x.lengths x.right b) (same_cut cuts k c d at got) own in
      record {
        below = omega arith;
        own = own_of;
        each = λ i d lt got. ⊎_elim
            (λ same. record {
              bound = b;
              own = own_of d (subst (λ j. slice_get cuts j ≡ Some d) same got);
              most = omega arith;
              less = λ before. absurd (omega (arith, before, same));
            })
            (λ other.
            let before = so_far.each i d (omega (arith, lt, other)) got in
            record { bound = before.bound; own = before.own; most = omega (arith, before.most, more); less = λ _. omega (arith, before.most, more) })
            (cases_eq i k);
      }

  -- one cut more
  pub best_more : (k : ℕ) (c : CutLine) (old new : GreatestOwn) → slice_get cuts k ≡ Some c → IsBestBelow links cuts k old → IsBetterOwn links old k c new → IsBestBelow links cuts (k + 1) new
  best_more k c old new at so_far better = ⊎_elim
      (λ stays. subst (IsBestBelow links cuts (k + 1)) (sym stays.1) (best_stays k better.bound c old at better.own stays.0 so_far))
      (λ moves. subst (IsBestBelow links cuts (k + 1)) (sym moves.1) (best_moves k better.bound c old at better.own moves.0 so_far))
      better.is

  -- the best of all
  pub best_of_all : (c : CutLine) (best : GreatestOwn) → slice_get cuts best.cut ≡ Some c → IsBestBelow links cuts (length cuts) best → IsBestOwn links cuts best.cut
  best_of_all c best at is = record {
    cut = c;
    at = at;
    best = best.bound;
    own = is.own c at;
    each = λ i d got. let one = is.each i d (slice_get_within cuts i d got) got in (one.bound, one.own, one.most, one.less);
  }
