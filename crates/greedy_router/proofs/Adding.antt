-- flows of one demand are added to a routing
use Rattle.std.proofs.Common.{◌≡◌, ℕ, ◌+◌, ◌*◌, ◌<◌, ◌≤◌, ◌==◌, ◌⊎◌, ◌++◌, All, Some, if◌then◌else◌, List, [], ◌∷◌, get_or, length, length-append, map, slice_get, take, ⊎_elim, refl, sym, ap, subst, ◌∙◌, arith, append_assoc, append-nil, IsPermutation}
use Rattle.net_core.proofs.Library.{get_or-map, length-map, All-append, All-contains, All-more, All-nil, All-push, All-weaker, range_with_len, get_or-range_with_len, length-range_with_len, All-permutation, IsPermutation-sym, sum_by-append, sum_by_push, get_or_from_slice_get, slice_get_within}
use Rattle.plan_terms.specs.Terms.{Demand, LinkId, Flow, names_link, IsFlow, load, sent, IsPath}
use Rattle.greedy_router.{specs.Blocked.{HasSpare, IsBlocked}, specs.Left.IsLeft, specs.declared.draft.Draft.Draft, specs.inner.Drafts.{Adds, AreRouted, IsDraft, IsEnded, IsFlowOf, Sends, SendsOpen}, specs.inner.FullLinks.positives, proofs.Positives.{few_positives, fewer, one_fewer}}

-- a flow ends a rest or fills a link
pub sent_fewer : (k : ℕ) (path : List LinkId) (old new : Draft) → Sends k path old new → All (λ e. 0 < get_or old.spares e.0 0) path → 0 < get_or old.rest k 0 → positives new.spares + positives new.rest < positives old.spares + positives old.rest
sent_fewer k path old new s room some =
    let rests : (j : ℕ) → get_or new.rest j 0 ≤ get_or old.rest j 0 = λ j. omega (arith, s.rest j) in
    let spares : (e : ℕ) → get_or new.spares e 0 ≤ get_or old.spares e 0 = λ e. omega (arith, s.spares e) in
    ⊎_elim
    (λ none. omega (arith, one_fewer old.rest new.rest k s.rests rests some none, fewer old.spares new.spares s.links spares))
    (λ full.
    let wide = All-contains (λ (e : LinkId). 0 < get_or old.spares e.0 0) path full.1 room (full.0, full.2, full.3) in
    omega (arith, one_fewer old.spares new.spares full.1.0 s.links spares wide full.4, fewer old.rest new.rest s.rests rests))
    s.ends

module _ (joins : ℕ → ℕ → ℕ → Type 0) (k : ℕ) (d : Demand) where
  pub adds_none : (draft : Draft) → Adds joins k d draft draft
  adds_none draft = record {
    added = [];
    flows = sym (append-nil draft.flows);
    each = All-nil (IsFlowOf joins k d);
    rests = refl;
    links = refl;
    rest = λ j. omega arith;
    spares = λ e. omega arith;
    few = omega arith;
  }

  pub adds_more : (path : List LinkId) (old mid new : Draft) → Adds joins k d old mid → IsPath joins d.from.0 d.to.0 path → All (λ e. 0 < get_or mid.spares e.0 0) path → 0 < get_or mid.rest k 0 → Sends k path mid new → Adds joins k d old new
  adds_more path old mid new a p room some s =
      let f : Flow = record { demand = k; path = path; num = s.num } in
      let fewer_left = sent_fewer k path mid new s room some in
      record {
        added = a.added ++ f ∷ [];
        flows = s.flows ∙ (ap (λ fs. fs ++ f ∷ []) a.flows ∙ append_assoc old.flows a.added (f ∷ []));
        each = All-push (IsFlowOf joins k d) a.added f a.each (record { demand = refl; positive = s.positive; path = p });
        rests = s.rests ∙ a.rests;
        links = s.links ∙ a.links;
        rest = λ j.
            let more : sent (a.added ++ f ∷ []) j ≡ sent a.added j + (if k == j then s.num else 0) = sum_by_push (λ (g : Flow). (if g.demand == j then g.num else 0)) a.added f in
            omega (arith, more, a.rest j, s.rest j);
        spares = λ e.
            let more : load (a.added ++ f ∷ []) e ≡ load a.added e + (if names_link e path then s.num else 0) = sum_by_push (λ (g : Flow). (if names_link e g.path then g.num else 0)) a.added f in
            omega (arith, more, a.spares e, s.spares e);
        few = let more : length (a.added ++ f ∷ []) ≡ length a.added + 1 = length-append a.added (f ∷ []) in
            omega (arith, more, a.few, fewer_left);
      }

module _ (joins : ℕ → ℕ → ℕ → Type 0) (demands : List Demand) (scale : ℕ) (nums : List ℕ) where
  flow_of : (k : ℕ) (d : Demand) → slice_get demands k ≡ Some d → (f : Flow) → IsFlowOf joins k d f → IsFlow joins demands f
  flow_of k d at f h = record { positive = h.positive; of = d; at = ap (slice_get demands) h.demand ∙ at; path = h.path }

  draft_added : (k : ℕ) (d : Demand) (old new : Draft) → slice_get demands k ≡ Some d → Adds joins k d old new → IsDraft joins demands scale nums old → IsDraft joins demands scale nums new
  draft_added k d old new at a r = record {
    flows = subst (All (IsFlow joins demands)) (sym a.flows) (All-append (IsFlow joins demands) old.flows a.added r.flows (All-weaker (IsFlowOf joins k d) (IsFlow joins demands) (flow_of k d at) a.added a.each));
    rests = a.rests ∙ r.rests;
    links = a.links ∙ r.links;
    met = λ j e here.
        let more : sent new.flows j ≡ sent old.flows j + sent a.added j = ap (λ fs. sent fs j) a.flows ∙ sum_by-append (λ (g : Flow). (if g.demand == j then g.num else 0)) old.flows a.added in
        omega (arith, more, a.rest j, r.met j e here);
    spares = λ e.
        let more : load new.flows e ≡ load old.flows e + load a.added e = ap (λ fs. load fs e) a.flows ∙ sum_by-append (λ (g : Flow). (if names_link e g.path then g.num else 0)) old.flows a.added in
        omega (arith, more, a.spares e, r.spares e);
    few = let more : length new.flows ≡ length old.flows + length a.added = ap length a.flows ∙ length-append old.flows a.added in
        omega (arith, more, a.few, r.few);
  }

  -- an earlier flow's path was taken again, or wasn't
  pub draft_again : (f : Flow) (old new : Draft) → IsFlow joins demands f → (new ≡ old) ⊎ SendsOpen f.demand f.path old new → IsDraft joins demands scale nums old → IsDraft joins demands scale nums new
  draft_again f old new is may was = ⊎_elim
      (λ same. subst (IsDraft joins demands scale nums) (sym same) was)
      (λ s. draft_added f.demand is.of old new is.at (adds_more joins f.demand is.of f.path old old new (adds_none joins f.demand is.of old) is.path s.open_links s.missing s.sends) was)
      may

  -- nothing is routed yet
  pub draft_none : (draft : Draft) → draft.flows ≡ [] → draft.rest ≡ map (λ d. d.need * scale) demands → draft.spares ≡ nums → IsDraft joins demands scale nums draft
  draft_none draft flows rest spares =
      let none : length draft.flows ≡ 0 = ap length flows in
      let rests : length draft.rest ≡ length demands = ap length rest ∙ length-map demands (λ (d : Demand). d.need * scale) in
      let links : length draft.spares ≡ length nums = ap length spares in
      record {
        flows = subst (All (IsFlow joins demands)) (sym flows) (All-nil (IsFlow joins demands));
        rests = rests;
        links = links;
        met = λ k d at.
            let zero_sent : sent draft.flows k ≡ 0 = ap (λ fs. sent fs k) flows in
            let is : get_or draft.rest k 0 ≡ (get_or demands k d).need * scale = ap (λ xs. get_or xs k 0) rest ∙ get_or-map (λ (x : Demand). x.need * scale) demands k d 0 (slice_get_within demands k d at) in
            let same : (get_or demands k d).need * scale ≡ d.need * scale = ap (λ (x : Demand). x.need * scale) (get_or_from_slice_get demands k d d at) in
            omega (arith, zero_sent, is, same);
        spares = λ e.
            let zero_load : load draft.flows e ≡ 0 = ap (λ fs. load fs e) flows in
            let is : get_or draft.spares e 0 ≡ get_or nums e 0 = ap (λ xs. get_or xs e 0) spares in
            omega (arith, zero_load, is);
        few = omega (arith, none, rests, links, few_positives draft.spares, few_positives draft.rest);
      }

  -- no demand was routed yet
  pub routed_none : (draft : Draft) → IsDraft joins demands scale nums draft → AreRouted joins demands scale nums [] draft
  routed_none draft is = record { whole = is; ended = All-nil (IsEnded joins demands draft) }

  -- one demand more was routed
  pub routed_more : (order : List ℕ) (i : ℕ) (d : Demand) (old new : Draft) → i < length order → slice_get demands (get_or order i 0) ≡ Some d → Adds joins (get_or order i 0) d old new
      → (0 < get_or new.rest (get_or order i 0) 0 → IsBlocked joins (λ e. 0 < get_or new.spares e 0) d.from.0 d.to.0)
      → AreRouted joins demands scale nums (take i order) old → AreRouted joins demands scale nums (take (i + 1) order) new
  routed_more order i d old new lt at a blocked r =
      let k : ℕ = get_or order i 0 in
      let now : IsEnded joins demands new k = λ e here some. let one : d ≡ e = cc (at, here) in subst (λ (x : Demand). IsBlocked joins (λ e. 0 < get_or new.spares e 0) x.from.0 x.to.0) one (blocked some) in
      let still : (j : ℕ) → IsEnded joins demands old j → IsEnded joins demands new j = λ j h e here some es q room.
      h e here (omega (arith, some, a.rest j)) es q
      (All-weaker (λ (x : LinkId). 0 < get_or new.spares x.0 0) (λ (x : LinkId). 0 < get_or old.spares x.0 0) (λ x g. omega (arith, g, a.spares x.0)) es room) in
      record {
        whole = draft_added k d old new at a r.whole;
        ended = All-more (IsEnded joins demands new) order i 0 lt (All-weaker (IsEnded joins demands old) (IsEnded joins demands new) still (take i order) r.ended) now;
      }

  -- the demands in another order
  pub routed_all : (done all : List ℕ) (draft : Draft) → IsPermutation all done → AreRouted joins demands scale nums done draft → AreRouted joins demands scale nums all draft
  routed_all done all draft moved r = record {
    whole = r.whole;
    ended = All-permutation (IsEnded joins demands draft) done all (IsPermutation-sym all done moved) r.ended;
  }

  ended_at : (draft : Draft) → All (IsEnded joins demands draft) (range_with_len 0 (length demands)) → (k : ℕ) → k < length demands → IsEnded joins demands draft k
  ended_at draft all k lt =
      let place : get_or (range_with_len 0 (length demands)) k 0 ≡ k = omega (arith, get_or-range_with_len 0 (length demands) k 0 lt) in
      subst (IsEnded joins demands draft) place (all k 0 (omega (arith, lt, length-range_with_len 0 (length demands))))

  -- all demands were routed
  pub left_of : (draft : Draft) → AreRouted joins demands scale nums (range_with_len 0 (length demands)) draft → IsLeft joins demands scale nums (record { routing = record { den = 1; flows = draft.flows }; rest = draft.rest })
  left_of draft r = record {
    whole = refl;
    flows = r.whole.flows;
    count = r.whole.rests;
    met = r.whole.met;
    within = λ e. omega (arith, r.whole.spares e);
    blocked = λ k d at some. λ es q room.
        ended_at draft r.ended k (slice_get_within demands k d at) d at some es q
        (All-weaker (λ (x : LinkId). HasSpare nums draft.flows x.0) (λ (x : LinkId). 0 < get_or draft.spares x.0 0) (λ x h. omega (arith, h, r.whole.spares x.0)) es room);
    few = omega (arith, r.whole.few);
  }
