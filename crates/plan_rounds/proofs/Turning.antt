-- turns of the rounds
use Rattle.std.proofs.Common.{◌≡◌, ℕ, zero, suc, ◌+◌, ◌-◌, ◌*◌, ◌^◌, ◌<◌, ◌≤◌, inl, inr, ⊎_elim, List, [], ◌∷◌, ◌++◌, All, AllPairs, Option, Some, None, get_or, length, min, take, slice_get, refl, sym, ap, subst, ◌∙◌, arith, length-append, length-take}
use Rattle.net_core.proofs.Library.{ints, All-append, All-take, All-weaker, Contains-get_or}
use Rattle.plan_terms.specs.Terms.{Evidence, Route, Master, Entry, Caps, CutLine, Case, graph_in, AreDemands, Joins, IsModule, IsNetwork, IsCut, Carries, Violates, HasShortLengths}
use Rattle.module_prices.specs.declared.cheapest.UnitPair.{UnitPair}
use Rattle.plan_types.{specs.declared.certificate.Spot.Spot, specs.declared.quality.Cause.TheVariants.{Wide, Cuts}, specs.declared.quality.Quality.Quality, specs.declared.quality.Quality.TheVariants.{Tight, Loose}, specs.declared.quality.Share.Share}
use Rattle.route_law.{specs.Terms.{flows_times, IsRouteEvidence}, proofs.Lemmas.{divided_are_wide, divided_are_carried, divided_are_violated}}
use Rattle.separator.{specs.Terms.{IsEvidenceHere, IsRouted, IsSeparatingCut}, proofs.Lemmas.get_both}
use Rattle.master_law.{specs.Terms.{IsLeastShare, IsMasterEvidence, IsSameCut, AreUnitPairs, share_caps, share_cost}, proofs.PairsOnce.links_once}
use Rattle.master_bound.{specs.Answers.{IsBestOf, IsEvidenceOf}, specs.declared.answer.Best.Best}
use Rattle.plan_law.{specs.Terms.{IsProperShare, Round, IsBeginning, IsFoundCut, IsRound, IsWorkedList}, proofs.Pairs.pairs_append, proofs.Rounds.{begun_worked, found_is_new, short_round, worked_on}}
use Rattle.plan_rounds.{specs.WorkedRounds.{AreWorkedRounds, EndsBy, IsBestAt, IsBestOfLast, IsCarriedOrWide, StandAtSpots, AreCarriedOrWide}, specs.inner.Answered.AreSorted, specs.inner.Listing.AreListed, specs.inner.Sharing.{IsDividedCaps, IsDividedShare, IsQualityAt}, specs.inner.Turns.{AddsFirst, IsFurther, IsTurnOf, Judges, worked_of}, specs.declared.candidates.Candidates.Candidates, specs.declared.rounds.Turn.Turn, specs.declared.rounds.Turn.TheVariants.Last, specs.declared.shares.ShareCaps.ShareCaps, specs.declared.sorted_answers.Answered.Answered, proofs.Rights.right_low}

-- a worked list of the pool, and what is known of the best certificate before it
pub record IsWorking (p : Case) (pairs : List UnitPair) (pool lines : List CutLine) (before : Option Best) : Type 0 where
  pub rounds : List Round
  pub list : IsWorkedList p pairs pool rounds lines
  pub last : IsBestOfLast p pairs list.start rounds before

-- ---- spots of two lists

get_take : {X : Type 0} (n : ℕ) (xs : List X) (i : ℕ) (x : X) → slice_get (take n xs) i ≡ Some x → slice_get xs i ≡ Some x
get_take zero xs i x at = absurd (let e : None ≡ Some x = at in cc e)
get_take (suc n) [] i x at = at
get_take (suc n) (y ∷ ys) zero x at = at
get_take (suc n) (y ∷ ys) (suc i) x at = get_take n ys i x at

stand_take : (h : List Entry) (n : ℕ) (lines : List CutLine) (spots : List Spot) → StandAtSpots h lines spots → StandAtSpots h (take n lines) (take n spots)
stand_take h n lines spots s = record {
  count = length-take n spots ∙ (ap (min n) s.count ∙ sym (length-take n lines));
  each = λ i line spot one two. s.each i line spot (get_take n lines i line one) (get_take n spots i spot two);
}

stand_append : (h : List Entry) (xs ys : List CutLine) (ss ts : List Spot) → StandAtSpots h xs ss → StandAtSpots h ys ts → StandAtSpots h (xs ++ ys) (ss ++ ts)
stand_append h xs ys ss ts first second = record {
  count = let a = first.count in let b = second.count in omega (arith, a, b, length-append xs ys, length-append ss ts);
  each = λ i line spot one two. ⊎_elim
      (λ (front : (i < length xs) × (slice_get xs i ≡ Some line)). ⊎_elim
      (λ (there : (i < length ss) × (slice_get ss i ≡ Some spot)). first.each i line spot front.1 there.1)
      (λ (following : (j : ℕ) × (i ≡ length ss + j) × (slice_get ts j ≡ Some spot)). absurd (let a = first.count in omega (arith, front.0, following.1, a)))
      (get_both ss ts i spot two))
      (λ (back : (j : ℕ) × (i ≡ length xs + j) × (slice_get ys j ≡ Some line)). ⊎_elim
      (λ (there : (i < length ss) × (slice_get ss i ≡ Some spot)). absurd (let a = first.count in omega (arith, there.0, back.1, a)))
      (λ (following : (j : ℕ) × (i ≡ length ss + j) × (slice_get ts j ≡ Some spot)).
      let same : following.0 ≡ back.0 = let a = first.count in omega (arith, back.1, following.1, a) in
      second.each back.0 line spot back.2 (subst (λ j. slice_get ts j ≡ Some spot) same following.2))
      (get_both ss ts i spot two))
      (get_both xs ys i line one);
}

module _ (p : Case) (pairs : List UnitPair) where
  -- ---- the share of the best certificate

  pub proper : (cuts : List CutLine) (share : Share) → IsLeastShare p.links pairs cuts share → IsProperShare p.links share
  proper cuts share least = record {
    positive = let some = least.best.objective.0 in let same = least.scale in omega (arith, ints, some, same);
    long = least.count;
    lowest = least.lowest;
  }

  -- what the capacities violate, the share violates
  abbrev pub GivesNoLess : Caps → Share → Type 0
  GivesNoLess caps share = (line : CutLine) → Violates caps line → Violates (share_caps p.links pairs share) line

  pub divided_gives : (caps : Caps) (c : ShareCaps) (line : CutLine) → IsDividedCaps caps c → Violates c.divided line → Violates caps line
  divided_gives caps c line is violated = subst (λ k. Violates k line) (is.times ∙ is.whole) ((divided_are_violated c.divisor c.divided line is.positive).0 violated)

  pub share_gives : (share : Share) (c : ShareCaps) → IsDividedShare p.links pairs share c → GivesNoLess c.divided share
  share_gives share c is line violated = divided_gives (share_caps p.links pairs share) c line is violated

  -- a cut that such capacities violate is found at the share
  pub found_of : (share : Share) (caps : Caps) (line : CutLine) → GivesNoLess caps share → IsSeparatingCut p caps line → IsFoundCut p pairs share line
  found_of share caps line gives cut = record {
    is_cut = cut.cut;
    violated = gives line cut.violated;
    lengths = cut.lengths;
    priced = cut.priced;
    kept = cut.keeps;
  }

  -- ---- how the rounds end

  ends_at : (cuts : List CutLine) (Full : Type 0) (IsLast : Option Best → Type 0) (best : Best) (c : ShareCaps) (quality : Quality) → IsBestAt p pairs cuts best → IsDividedShare p.links pairs best.share c
      → (Full → AreCarriedOrWide p pairs best) → IsQualityAt p c.whole best.share quality → EndsBy p pairs cuts Full IsLast (Some best) quality
  ends_at cuts Full IsLast best c (Tight fractional) at is none q = record {
    best_of = at;
    share = q.0;
    proper = subst (IsProperShare p.links) (sym q.0) (proper cuts best.share at.least);
    states = q.1.count;
    routed = λ s r here. subst (λ k. IsRouted (graph_in p s) p.demands k r) (is.whole ∙ ap (share_caps p.links pairs) (sym q.0)) (q.1.each s r here);
  }
  ends_at cuts Full IsLast best c (Loose (Wide (Route state caps basis kind))) at is none q = (
    record {
      best_of = at;
      listed_state = subst (λ k. k ≤ length p.listed) (sym q.2.0) q.1;
      of_share = q.2.1 ∙ is.whole;
      evidence = subst (λ k. IsRouteEvidence (graph_in p state.0) p.demands k basis kind) (sym q.2.1) (subst (λ k. IsRouteEvidence (graph_in p k) p.demands c.whole basis kind) (sym q.2.0) q.2.2);
    },
    none,
  )
  ends_at cuts Full IsLast best c (Loose (Wide (Master basis kind))) at is none q = absurd q.2
  ends_at cuts Full IsLast best c (Loose Cuts) at is none q = absurd q

  ends_as : (cuts : List CutLine) (Full Other : Type 0) (IsLast IsAfter : Option Best → Type 0) (best : Option Best) (quality : Quality) → (Full → Other) → (Other → Full) → ((b : Option Best) → IsLast b → IsAfter b)
      → EndsBy p pairs cuts Full IsLast best quality → EndsBy p pairs cuts Other IsAfter best quality
  ends_as cuts Full Other IsLast IsAfter best (Tight fractional) full back last e = e
  ends_as cuts Full Other IsLast IsAfter None (Loose (Wide (Route state caps basis kind))) full back last e = e
  ends_as cuts Full Other IsLast IsAfter (Some best) (Loose (Wide (Route state caps basis kind))) full back last e = (e.0, λ other. e.1 (back other))
  ends_as cuts Full Other IsLast IsAfter best (Loose (Wide (Master basis kind))) full back last e = (e.0, last best e.1)
  ends_as cuts Full Other IsLast IsAfter best (Loose Cuts) full back last e = (full e.0, e.1)

  -- ---- what is found of the answers of the states

  pub taken_some : (m l : ℕ) → 0 < m → 0 < l → 0 < min m l
  taken_some m l some more = omega (arith, some, more)

  pub taken_few : (m l : ℕ) → min m l ≤ m
  taken_few m l = omega arith

  module _ (h : List Entry) (n room : ℕ) (share : Share) (caps : Caps) (a : Answered) (old : Candidates)
      (units : AreUnitPairs p.links pairs) (least : IsLeastShare p.links pairs old.lines share) (gives : GivesNoLess caps share) (sorted : AreSorted p caps h n a) where
    pub found : All (IsFoundCut p pairs share) a.found.lines
    found = All-weaker (IsSeparatingCut p caps) (IsFoundCut p pairs share) (λ line cut. found_of share caps line gives cut) a.found.lines sorted.cuts

    -- as many as there is room for
    pub round : IsRound p pairs old.lines (record { share = share; cuts = take room a.found.lines })
    round = short_round p pairs old.lines (record { share = share; cuts = a.found.lines }) room (record { least = least; found = found; states = sorted.states })

    pub listed_round : (new : Candidates) → ∥ IsNetwork p.nodes p.links ∥₁ → length p.nodes ≤ 128 → AreDemands (length p.nodes) p.demands → AreListed p h old → AddsFirst room a.found old new → AreListed p h new
    listed_round new checked few belong are adds = record {
      cuts = subst (λ ls. All (IsCut p) ls) (sym adds.lines) (All-append (IsCut p) old.lines cuts are.cuts are_cuts);
      low = subst (λ ls. All (λ (l : CutLine). l.right < 2 ^ 84) ls) (sym adds.lines) (All-append (λ (l : CutLine). l.right < 2 ^ 84) old.lines cuts are.low are_low);
      different = subst (λ ls. AllPairs (λ x y. IsSameCut x y → ⊥) ls) (sym adds.lines) (pairs_append (λ x y. IsSameCut x y → ⊥) old.lines cuts are.different
          (λ i j d ij lj same. round.states i j d ij lj same.0)
          (λ i j d li lj same. found_is_new p pairs units old.lines share (get_or cuts j d) (get_or old.lines i d) least (round.found j d lj) (Contains-get_or old.lines i d li) (are.cuts i d li) same));
      spots = subst (λ ss. StandAtSpots h new.lines ss) (sym adds.spots) (subst (λ ls. StandAtSpots h ls (old.spots ++ take room a.found.spots)) (sym adds.lines)
          (stand_append h old.lines cuts old.spots (take room a.found.spots) are.spots (stand_take h room a.found.lines a.found.spots sorted.spots)));
    }
      where
        cuts : List CutLine
        cuts = take room a.found.lines

        are_cuts : All (IsCut p) cuts
        are_cuts = All-weaker (IsFoundCut p pairs share) (IsCut p) (λ line f. f.is_cut) cuts round.found

        are_low : All (λ l. l.right < 2 ^ 84) cuts
        are_low k d lt =
            let line = get_or cuts k d in
            right_low (graph_in p line.state.0) checked few p.demands belong line.lengths (All-take HasShortLengths room a.found.lines sorted.short k d lt) line.right (are_cuts k d lt).right

    pub some_found : 0 < length a.found.lines → (line : CutLine) × IsFoundCut p pairs share line
    some_found some = let none : CutLine = record { state = record { 0 = 0 }; lengths = []; right = 0 } in (get_or a.found.lines 0 none, found 0 none some)

  module _ (h : List Entry) (n room : ℕ) (before : Option Best) (best : Best) (c : ShareCaps) (a : Answered) (old : Candidates)
      (units : AreUnitPairs p.links pairs) (at : IsBestAt p pairs old.lines best) (is : IsDividedShare p.links pairs best.share c) (sorted : AreSorted p c.divided h n a) where
    abbrev gives : GivesNoLess c.divided best.share
    gives = share_gives best.share c is

    -- evidence at the divided capacities is evidence at the share
    wide_within : (s : ℕ) (evidence : Evidence) → IsEvidenceHere (graph_in p s) p.demands c.divided evidence → IsCarriedOrWide p pairs best s
    wide_within s (Route state within basis kind) e = inr (
      basis,
      kind,
      subst (λ (k : Caps). IsRouteEvidence (graph_in p s) p.demands k basis kind) (is.times ∙ is.whole) (divided_are_wide (graph_in p s) p.demands c.divisor c.divided basis kind is.positive e.2),
    )
    wide_within s (Master basis kind) e = absurd e

    -- a routing at the divided capacities, with each flow taken the divisor times, is one at the share
    carried_or_wide : length p.listed < n → length a.found.lines ≡ 0 → AreCarriedOrWide p pairs best
    carried_or_wide all none s inside = ⊎_elim
        (λ carried. inl (
          flows_times c.divisor carried.0,
          subst (λ (k : Caps). Carries (Joins (graph_in p s)) p.demands k.scale k.nums (flows_times c.divisor carried.0)) (is.times ∙ is.whole)
              (divided_are_carried (graph_in p s) p.demands c.divisor c.divided carried.0 is.positive carried.1.carries),
        ))
        (λ wide. wide_within s wide.0 wide.1)
        (sorted.cutless none s (omega (arith, inside, all)))

    pub judged_turn : (new : Candidates) (turn : Turn) → length p.listed < n → Judges p room c.whole a best old new turn → IsTurnOf p pairs room before old.lines new.lines turn
    judged_turn new turn all judges = ⊎_elim
        (λ full.
        subst (IsTurnOf p pairs room before old.lines new.lines) (sym full.3)
        (ap (λ (x : Candidates). x.lines) full.2, (full.1, let f = some_found h n room best.share c.divided a old units at.least gives sorted full.0 in record { best_of = at; further = f.0; found = f.1 })))
        (⊎_elim
        (λ further.
        subst (IsTurnOf p pairs room before old.lines new.lines) (sym further.3) (record {
          best_of = at;
          found = take room a.found.lines;
          lines = further.2.lines;
          some = subst (λ k. 0 < k) (sym (length-take room a.found.lines)) (taken_some room (length a.found.lines) further.1 further.0);
          few = subst (λ k. k ≤ room) (sym (length-take room a.found.lines)) (taken_few room (length a.found.lines));
          round = round h n room best.share c.divided a old units at.least gives sorted;
        }))
        (λ end.
        subst (IsTurnOf p pairs room before old.lines new.lines) (sym end.2.1) (
          ap (λ (x : Candidates). x.lines) end.1,
          ends_at old.lines (room ≡ 0) (λ b. b ≡ before) best c end.2.0 at is
              (λ full. ⊎_elim (λ none. carried_or_wide all none) (λ some. absurd (omega (arith, some, full))) end.0)
              end.2.2,
        )))
        judges

    pub judged_listed : (new : Candidates) (turn : Turn) → ∥ IsNetwork p.nodes p.links ∥₁ → length p.nodes ≤ 128 → AreDemands (length p.nodes) p.demands → AreListed p h old → Judges p room c.whole a best old new turn → AreListed p h new
    judged_listed new turn checked few belong are judges = ⊎_elim
        (λ full. subst (AreListed p h) (sym full.2) are)
        (⊎_elim
        (λ further. listed_round h n room best.share c.divided a old units at.least gives sorted new checked few belong are further.2)
        (λ end. subst (AreListed p h) (sym end.1) are))
        judges

  -- ---- what the master answers

  module _ (sound : All (λ l. All IsModule l.modules) p.links) (units : AreUnitPairs p.links pairs) where
    pub best_at : (cuts : List CutLine) (best : Best) → IsBestOf p.links cuts best → IsBestAt p pairs cuts best
    best_at cuts best is =
        let same = links_once p.links sound is.pairs pairs is.units units in
        record {
          of = is;
          least = subst (λ ps. IsLeastShare p.links ps cuts best.share) same is.least;
          raw = subst (λ ps. share_cost ps best.share * best.raw_den ≡ best.raw_num * best.share.scale) same is.cost;
        }

    pub wide_turn : (room : ℕ) (before : Option Best) (cuts : List CutLine) (evidence : Evidence) → IsEvidenceOf p.links cuts evidence → IsTurnOf p pairs room before cuts cuts (Last before (Loose (Wide evidence)))
    wide_turn room before cuts (Route state caps basis kind) is = absurd is
    wide_turn room before cuts (Master basis kind) is =
        (refl, (subst (λ ps. IsMasterEvidence p.links ps cuts basis kind) (links_once p.links sound is.0 pairs is.1 units) is.2, refl))

  -- ---- turn by turn

  pub working_begins : (pool lines : List CutLine) → AreUnitPairs p.links pairs → IsBeginning p pool lines → length lines ≤ length pool + 4096 → IsWorking p pairs pool lines None
  working_begins pool lines units begins few = record { rounds = []; list = begun_worked p pairs units pool lines begins few; last = refl }

  pub working_on : (pool lines new : List CutLine) (before : Option Best) (room : ℕ) (best : Best) → All (IsCut p) pool → length lines + room ≤ length pool + 4096 → (rounds : List Round)
      → (list : IsWorkedList p pairs pool rounds lines) → IsFurther p pairs room before lines new best → IsWorking p pairs pool new (Some best)
  working_on pool lines new before room best known fits rounds list f = subst (λ ls. IsWorking p pairs pool ls (Some best)) (sym f.lines) (record {
    rounds = here ∷ rounds;
    list = record {
      units = list.units;
      start = list.start;
      begins = list.begins;
      are_rounds = (subst (λ cs. IsRound p pairs cs here) list.whole f.round, list.are_rounds);
      whole = ap (λ cs. cs ++ f.found) list.whole;
      added = longer.added;
      following = longer.following;
      few = longer.few;
      different = longer.different;
    };
    last = (refl, subst (λ cs. IsBestAt p pairs cs best) list.whole f.best_of);
  })
    where
      here : Round
      here = record { share = best.share; cuts = f.found }

      longer : IsWorkedList p pairs pool (here ∷ rounds) (lines ++ f.found)
      longer = worked_on p pairs pool rounds lines known list here f.round (omega (arith, fits, f.few))

  -- an end of the rounds, where IsLast says what is known of the best certificate before this list's
  pub working_ends : (IsLast : Option Best → Type 0) (h : List Entry) (pool : List CutLine) (c : Candidates) (best : Option Best) (room : ℕ) (quality : Quality) → AreListed p h c → length c.lines + room ≡ length pool + 4096 → (rounds : List Round)
      → (list : IsWorkedList p pairs pool rounds c.lines) → ((b : Option Best) → IsLast b → IsBestOfLast p pairs list.start rounds b) → EndsBy p pairs c.lines (room ≡ 0) IsLast best quality
      → AreWorkedRounds p h pool (worked_of c best quality)
  working_ends IsLast h pool c best room quality are fits rounds list last e = record {
    pairs = pairs;
    rounds = rounds;
    list = list;
    low = are.low;
    spots = are.spots;
    ends = ends_as c.lines (room ≡ 0) (length c.lines ≡ length pool + 4096) IsLast (IsBestOfLast p pairs list.start rounds) best quality
        (λ none. omega (arith, none, fits))
        (λ long. omega (arith, long, fits))
        last
        e;
  }

-- a further round leaves less room
pub further_room : (p : Case) (pairs : List UnitPair) (room most : ℕ) (before : Option Best) (old new : List CutLine) (best : Best) → room ≡ most - length old → length old ≤ most → IsFurther p pairs room before old new best
    → (length new ≤ most) × (most - length new < most - length old)
further_room p pairs room most before old new best is fits f =
    let long : length new ≡ length old + length f.found = ap length f.lines ∙ length-append old f.found in
    (omega (arith, long, f.few, is, fits), omega (arith, long, f.few, f.some, is, fits))
