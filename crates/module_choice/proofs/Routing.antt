-- one demand after another gets its flow
use Rattle.std.proofs.Common.{◌≡◌, ℕ, ◌+◌, ◌<◌, ◌≤◌, List, [], ◌∷◌, ◌++◌, All, Any, Some, length, length-append, refl, sym, ◌∙◌, ap, subst, arith, slice_get, sum_by, take, ⊎_elim, take_all}
use Rattle.net_core.proofs.Library.{get_or_append_left, sum_by-append, sum_by-cons, sum_by_more, All-push, Any-push, all_pairs_push, cases_eq, get_or_from_slice_get, slice_get_within}
use Rattle.plan_terms.specs.Terms.{Demand, LinkId, Flow, IsLeastFlow, IsLeastRouting, IsLeastPath}
use Rattle.module_choice.specs.inner.Routes.{AreLeastFlows, TakesDemand}

any_before : {X : Type 0} (P : X → Type 0) (xs : List X) (x : X) → Any P xs → Any P (xs ++ x ∷ [])
any_before P xs x a = (a.0, a.1, omega (arith, a.2, length-append xs (x ∷ [])), get_or_append_left xs (x ∷ []) a.1 a.0 a.2 ∙ a.3, a.4)

module _ (joins : ℕ → ℕ → ℕ → Type 0) (lengths : List ℕ) (demands : List Demand) where
  pub same_demand : (k : ℕ) (d e : Demand) → slice_get demands k ≡ Some d → slice_get demands k ≡ Some e → e ≡ d
  same_demand k d e p q = cc (p, q)

  weaker : (k : ℕ) (flows : List Flow) → All (λ f. f.demand < k) flows → All (λ f. f.demand < k + 1) flows
  weaker k flows early i d lt = let h = early i d lt in omega (arith, h)

  needed : (k : ℕ) (d : Demand) → slice_get demands k ≡ Some d → sum_by (λ d. d.need) (take (k + 1) demands) ≡ sum_by (λ d. d.need) (take k demands) + d.need
  needed k d at = sum_by_more (λ (x : Demand). x.need) demands k d (slice_get_within demands k d at) ∙ ap (λ (x : Demand). sum_by (λ d. d.need) (take k demands) + x.need) (get_or_from_slice_get demands k d d at)

  -- a demand without need
  flows_skip : (k : ℕ) (flows : List Flow) (d : Demand) → slice_get demands k ≡ Some d → d.need ≡ 0 → AreLeastFlows joins lengths demands k flows → AreLeastFlows joins lengths demands (k + 1) flows
  flows_skip k flows d at none r = record {
    each = r.each;
    early = weaker k flows r.early;
    every = λ j e lt is some. ⊎_elim
        (λ same. let one : e ≡ d = same_demand k d e at (subst (λ x. slice_get demands x ≡ Some e) same is) in
        absurd (omega (arith, some, none, ap (λ (x : Demand). x.need) one)))
        (λ other. r.every j e (omega (arith, lt, other)) is some)
        (cases_eq j k);
    ordered = r.ordered;
    total = omega (arith, r.total, needed k d at, none);
  }

  -- a demand with the flow of its need
  flows_more : (k : ℕ) (flows : List Flow) (d : Demand) (es : List LinkId) (f : Flow) → slice_get demands k ≡ Some d → 0 < d.need → IsLeastPath joins lengths d.from.0 d.to.0 es → f ≡ record { demand = k; path = es; num = d.need } → AreLeastFlows joins lengths demands k flows → AreLeastFlows joins lengths demands (k + 1) (flows ++ f ∷ [])
  flows_more k flows d es f at some path is r =
      let of : f.demand ≡ k = ap (λ (g : Flow). g.demand) is in
      let num : f.num ≡ d.need = ap (λ (g : Flow). g.num) is in
      let flow : IsLeastFlow joins lengths demands f = subst (IsLeastFlow joins lengths demands) (sym is) (record { of = d; at = at; positive = some; num = refl; path = path }) in
      record {
        each = All-push (IsLeastFlow joins lengths demands) flows f r.each flow;
        early = All-push (λ g. g.demand < k + 1) flows f (weaker k flows r.early) (omega (arith, of));
        every = λ j e lt at' some'. ⊎_elim
            (λ same. Any-push (λ g. g.demand ≡ j) flows f (of ∙ sym same))
            (λ other. any_before (λ g. g.demand ≡ j) flows f (r.every j e (omega (arith, lt, other)) at' some'))
            (cases_eq j k);
        ordered = all_pairs_push (λ g h. g.demand < h.demand) flows f r.ordered (λ i g lt. let h = r.early i g lt in omega (arith, h, of));
        total = omega (arith, sum_by-append (λ (g : Flow). g.num) flows (f ∷ []), sum_by-cons (λ (g : Flow). g.num) f [], r.total, needed k d at, num);
      }

  -- a demand that was taken
  pub flows_taken : (k : ℕ) (flows new : List Flow) (d : Demand) → slice_get demands k ≡ Some d → TakesDemand joins lengths d k flows new → AreLeastFlows joins lengths demands k flows → AreLeastFlows joins lengths demands (k + 1) new
  flows_taken k flows new d at taken r = ⊎_elim
      (λ none. subst (AreLeastFlows joins lengths demands (k + 1)) (sym none.1) (flows_skip k flows d at none.0 r))
      (λ more. subst (AreLeastFlows joins lengths demands (k + 1)) (sym more.3) (flows_more k flows d more.1 _ at more.0 more.2 refl r))
      taken

  -- the flows of all demands are the routing
  pub flows_routing : (k : ℕ) (flows : List Flow) → length demands ≤ k → AreLeastFlows joins lengths demands k flows → IsLeastRouting joins lengths demands (record { den = 1; flows = flows })
  flows_routing k flows all r = record {
    whole = refl;
    each = r.each;
    every = λ j d at some. r.every j d (omega (arith, slice_get_within demands j d at, all)) at some;
    ordered = r.ordered;
  }

  -- they need what the demands do
  pub flows_total : (k : ℕ) (flows : List Flow) → length demands ≤ k → AreLeastFlows joins lengths demands k flows → sum_by (λ f. f.num) flows ≡ sum_by (λ d. d.need) demands
  flows_total k flows all r = r.total ∙ ap (λ (ds : List Demand). sum_by (λ d. d.need) ds) (take_all k demands all)
