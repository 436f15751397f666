-- the circle at the end of a trail that is back at a node
use Rattle.std.proofs.Common.{◌≡◌, ℕ, zero, suc, ◌-◌, ◌<◌, ◌≤◌, ◌⊎◌, List, [], ◌∷◌, length, get_or, drop, take, ⊎_elim, refl, sym, ap, subst, arith, All, Any}
use Rattle.net_core.proofs.Library.{AllByRecursion}
use Rattle.plan_terms.specs.Terms.{AreDifferent}
use Rattle.path_split.{specs.declared.leg.Leg.Leg, specs.inner.Legs.leg_at, specs.inner.Trails.{AreEnough, IsLive, froms, less}, specs.inner.Remains.TakesCircle, proofs.Trailing.{all_drop, any_positive, are_enough}}

different_rest : (legs : List Leg) (ks : List ℕ) (i : ℕ) → AreDifferent (froms legs ks) → AreDifferent (froms legs (drop i ks))
different_rest legs [] zero different = different
different_rest legs [] (suc i) different = different
different_rest legs (k ∷ ks) zero different = different
different_rest legs (k ∷ ks) (suc i) different = different_rest legs ks i different.1

any_first : (lefts : List ℕ) (num : ℕ) (ks : List ℕ) (i : ℕ) → i < length ks → num ≡ get_or lefts (get_or ks i 0) 0 → Any (λ k. num ≡ get_or lefts k 0) (drop i ks)
any_first lefts num [] i lt is = absurd (omega (arith, lt))
any_first lefts num (k ∷ ks) zero lt is = (0, k, omega arith, refl, is)
any_first lefts num (k ∷ ks) (suc i) lt is = any_first lefts num ks i (omega (arith, lt)) is

-- the least of a circle may be taken off each of its legs, and empties one
module _ (legs : List Leg) (lefts : List ℕ) (trail rest : List ℕ) (start num : ℕ) (is : rest ≡ drop start trail) (long : length lefts ≡ length legs)
    (live : AllByRecursion (λ k. IsLive legs lefts k) trail) (different : AreDifferent (froms legs trail)) (least : All (λ k. num ≤ get_or lefts k 0) rest) where
  pub circle_enough : AreEnough lefts rest num
  circle_enough = are_enough legs lefts num rest long
      (subst (AllByRecursion (λ k. IsLive legs lefts k)) (sym is) (all_drop (λ k. IsLive legs lefts k) trail start live))
      least
      (subst (λ ks. AreDifferent (froms legs ks)) (sym is) (different_rest legs trail start different))

  pub circle_taken : (at : ℕ) (new : List ℕ) → start < length trail → (leg_at legs (get_or trail start 0)).from.0 ≡ at
      → (num ≡ get_or lefts (get_or trail start 0) 0) ⊎ Any (λ k. num ≡ get_or lefts k 0) rest → new ≡ less lefts rest num → TakesCircle legs trail at lefts new
  circle_taken at new within from reached taken =
      let one : Any (λ k. num ≡ get_or lefts k 0) (drop start trail) = ⊎_elim (λ e. any_first lefts num trail start within e) (λ any. subst (λ ks. Any (λ k. num ≡ get_or lefts k 0) ks) is any) reached in
      record {
        start = start;
        within = within;
        from = from;
        num = num;
        takes = record {
          positive = any_positive legs lefts num (drop start trail) (all_drop (λ k. IsLive legs lefts k) trail start live) one;
          enough = subst (λ ks. AreEnough lefts ks num) is circle_enough;
          taken = subst (λ ks. new ≡ less lefts ks num) is taken;
        };
        ends = one;
      }

take_whole : (ks : List ℕ) (n : ℕ) → n ≡ length ks → take n ks ≡ ks
take_whole [] zero same = refl
take_whole [] (suc n) same = absurd (omega (arith, same))
take_whole (k ∷ ks) zero same = absurd (omega (arith, same))
take_whole (k ∷ ks) (suc n) same = ap (λ r. k ∷ r) (take_whole ks n (omega (arith, same)))

-- all of a list from a place on
pub take_rest : (ks : List ℕ) (i : ℕ) → length (drop i ks) ≡ length ks - i → take (length ks - i) (drop i ks) ≡ drop i ks
take_rest ks i same = take_whole (drop i ks) (length ks - i) (sym same)
