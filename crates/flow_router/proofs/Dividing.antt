-- flows over a common divisor of their numerators
use Rattle.std.proofs.Common.{◌≡◌, ℕ, zero, suc, ◌+◌, ◌*◌, ◌/◌, ◌<◌, ◌≤◌, ◌++◌, List, [], ◌∷◌, All, length, get_or, map, take, slice_set, refl, sym, ap, ◌∙◌, subst, arith, get_or-set_other, length-set, take_all}
use Rattle.net_core.proofs.Library.{IsGcd, ◌∣◌, take_more, take_more_set, get_or_default, dvd_trans, div-mul_cancel, mul-dvd-mul_left, dvd_of_mul-dvd-mul_left, eq-one_of_dvd-one, All-push, All-cons, positive_divisor}
use Rattle.plan_terms.specs.Terms.{Flow}
use Rattle.route_law.specs.Terms.{flow_times}
use Rattle.flow_router.specs.Lowest.{IsCommonDivisor, IsInLowest}

-- what holds of all holds of those before the last, and of the last
all_parts : {X : Type 0} (P : X → Type 0) (xs : List X) (x : X) → All P (xs ++ x ∷ []) → All P xs × P x
all_parts P [] x all = (λ k d lt. absurd (omega (arith, lt)), all 0 x (omega arith))
all_parts P (y ∷ ys) x all =
    let rest = all_parts P ys x (λ k d lt. all (suc k) d (omega (arith, lt))) in
    (All-cons P y ys (all 0 y (omega arith)) rest.0, rest.1)

-- one flow more
pub common_more : (den : ℕ) (flows : List Flow) (n g h : ℕ) (d : Flow) → n < length flows → IsCommonDivisor den (take n flows) g → IsGcd g (get_or flows n d).num h → IsCommonDivisor den (take (n + 1) flows) h
common_more den flows n g h d lt c gcd =
    let more = take_more flows n d lt in
    record {
      positive = positive_divisor h g c.positive gcd.0;
      of_den = dvd_trans h gcd.0 c.of_den;
      of_nums = subst (All (λ f. h ∣ f.num)) (sym more) (All-push (λ f. h ∣ f.num) (take n flows) (get_or flows n d) (λ k e l. dvd_trans h gcd.0 (c.of_nums k e l)) gcd.1);
      greatest = λ x of_den all.
          let parts = all_parts (λ f. x ∣ f.num) (take n flows) (get_or flows n d) (subst (All (λ f. x ∣ f.num)) more all) in
          gcd.2 x (c.greatest x of_den parts.0) parts.1;
    }

-- the first n flows are divided, and the others are as they were
pub record AreDividedFlows (common n : ℕ) (old new : List Flow) : Type 0 where
  pub count : length new ≡ length old
  pub done : map (flow_times common) (take n new) ≡ take n old
  pub rest : (k : ℕ) (d : Flow) → n ≤ k → get_or new k d ≡ get_or old k d

map_push : (common : ℕ) (fs : List Flow) (f : Flow) → map (flow_times common) (fs ++ f ∷ []) ≡ map (flow_times common) fs ++ flow_times common f ∷ []
map_push common [] f = refl
map_push common (x ∷ xs) f = ap (λ ys. flow_times common x ∷ ys) (map_push common xs f)

abbrev flow_over : ℕ → Flow → Flow
flow_over common f = record { demand = f.demand; path = f.path; num = f.num / common }

pub divided_none : (common : ℕ) (flows : List Flow) → AreDividedFlows common 0 flows flows
divided_none common flows = record { count = refl; done = refl; rest = λ k d le. refl }

pub divided_more : (common n : ℕ) (old new : List Flow) (d : Flow) → n < length new → All (λ f. common ∣ f.num) old → AreDividedFlows common n old new
    → AreDividedFlows common (n + 1) old (slice_set new n (flow_over common (get_or new n d)))
divided_more common n old new d lt divides sofar =
    let here : get_or new n d ≡ get_or old n d = sofar.rest n d (omega arith) in
    let inside : n < length old = omega (arith, lt, sofar.count) in
    let back : flow_times common (flow_over common (get_or new n d)) ≡ get_or old n d =
    ap (λ (f : Flow). flow_times common (flow_over common f)) here ∙ times_over common (get_or old n d) (divides n d inside) in
    record {
      count = length-set new n (flow_over common (get_or new n d)) ∙ sofar.count;
      done = ap (map (flow_times common)) (take_more_set new n (flow_over common (get_or new n d)) lt)
          ∙ (map_push common (take n new) (flow_over common (get_or new n d))
          ∙ (ap (λ fs. fs ++ flow_times common (flow_over common (get_or new n d)) ∷ []) sofar.done
          ∙ (ap (λ f. take n old ++ f ∷ []) back ∙ sym (take_more old n d inside))));
      rest = λ k e le. get_or-set_other new n k (flow_over common (get_or new n d)) e (λ same. omega (arith, same, le)) ∙ sofar.rest k e (omega (arith, le));
    }
  where
    times_over : (c : ℕ) (f : Flow) → c ∣ f.num → flow_times c (flow_over c f) ≡ f
    times_over c f h = ap (λ n. record { demand = f.demand; path = f.path; num = n }) (swap c (f.num / c) ∙ div-mul_cancel c h)
      where
        swap : (a b : ℕ) → a * b ≡ b * a
        swap a b = omega arith

-- the flow as it is written
pub divided_write : (common n : ℕ) (old new : List Flow) (d e : Flow) → n < length new → All (λ f. common ∣ f.num) old → AreDividedFlows common n old new
    → AreDividedFlows common (n + 1) old (slice_set new n (record { demand = (get_or new n d).demand; path = (get_or new n d).path; num = (get_or new n e).num / common }))
divided_write common n old new d e lt divides sofar =
    subst (λ m. AreDividedFlows common (n + 1) old (slice_set new n (record { demand = (get_or new n d).demand; path = (get_or new n d).path; num = m / common })))
    (ap (λ (f : Flow). f.num) (get_or_default new n d e lt)) (divided_more common n old new d lt divides sofar)

pub divided_end : (common n : ℕ) (old new : List Flow) → length new ≤ n → AreDividedFlows common n old new → old ≡ map (flow_times common) new
divided_end common n old new le sofar =
    sym (take_all n old (omega (arith, le, sofar.count))) ∙ (sym sofar.done ∙ ap (map (flow_times common)) (take_all n new le))

-- over their greatest common divisor the numbers have none above 1
pub in_lowest : (den common : ℕ) (old new : List Flow) → 0 < den → IsCommonDivisor den old common → old ≡ map (flow_times common) new
    → IsInLowest (record { den = den; flows = old }) (record { den = den / common; flows = new })
in_lowest den common old new pd c is =
    let whole : common * (den / common) ≡ den = swap common (den / common) ∙ div-mul_cancel common c.of_den in
    record {
      common = common;
      positive = c.positive;
      is = ap (λ n. record { den = n; flows = old }) (sym whole) ∙ ap (λ fs. record { den = common * (den / common); flows = fs }) is;
      lowest_terms = λ d of_den of_nums.
          let up : common * d ∣ den = subst (λ n. common * d ∣ n) whole (mul-dvd-mul_left d common of_den) in
          let all : All (λ f. common * d ∣ f.num) old = subst (All (λ f. common * d ∣ f.num)) (sym is) (each common d new of_nums) in
          let low : common * d ∣ common * 1 = subst (λ n. common * d ∣ n) (once common) (c.greatest (common * d) up all) in
          eq-one_of_dvd-one (dvd_of_mul-dvd-mul_left d c.positive low);
    }
  where
    swap : (a b : ℕ) → a * b ≡ b * a
    swap a b = omega arith

    once : (n : ℕ) → n ≡ n * 1
    once n = omega arith

    each : (c d : ℕ) (fs : List Flow) → All (λ f. d ∣ f.num) fs → All (λ f. c * d ∣ f.num) (map (flow_times c) fs)
    each c d [] all k e lt = absurd (omega (arith, lt))
    each c d (f ∷ fs) all zero e lt = mul-dvd-mul_left d c (all 0 f (omega arith))
    each c d (f ∷ fs) all (suc k) e lt = each c d fs (λ i x l. all (suc i) x (omega (arith, l))) k e (omega (arith, lt))
