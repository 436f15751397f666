-- a turn of a separator that alone writes its history
use Rattle.std.proofs.Common.{◌≡◌, ◌≢◌, ℕ, zero, suc, ◌+◌, ◌<◌, ◌≤◌, ◌⊎◌, inl, inr, ⊎_elim, Bool, true, false, List, [], ◌∷◌, ◌++◌, All, AllPairs, Contains, get_or, length, map, take, refl, sym, ap, subst, ◌∙◌, arith, length-append, take_all}
use Rattle.net_core.proofs.Library.{∥∥₁_elim, props, cases_eq, get_or-map, length-map, All-append, All-contains, All-map, All-nil, All-weaker, Contains-append_cases, Contains-append_left, Contains-append_right, Contains-get_or, get_or_from_slice_get, slice_get-get_or, slice_get_within}
use Rattle.plan_terms.{specs.Terms.{Caps, Entry, Network, CutLine, States, Case, graph_in, Joins, IsCut, IsRight}, proofs.Lemmas.right_once}
use Rattle.module_prices.specs.declared.cheapest.UnitPair.{UnitPair}
use Rattle.plan_types.{specs.declared.certificate.Spot.Spot, specs.declared.quality.Share.Share, specs.declared.certificate.Spot.TheVariants.{Pool, Local}}
use Rattle.cut_pool.specs.Terms.{cut_of_line, cuts_of}
use Rattle.master_law.specs.Terms.{AreUnitPairs, IsLeastShare, IsSameCut}
use Rattle.master_bound.specs.declared.answer.Best.{Best}
use Rattle.plan_law.{specs.WorkedLists.{AreDifferentCuts, IsBeginning}, proofs.Pairs.pairs_append, proofs.Rounds.{begun_worked, found_is_new, worked_cuts}}
use Rattle.turn_lock.specs.Passes.{Seen}
use Rattle.separator.{specs.declared.answers.StateAnswer.StateAnswer, specs.Separators.{IsCutEntry, IsFullHistory, IsPartOf, IsSeenHistory, IsSeparatingCut, IsSpotIn, SeesMore, SeparatesAt, cuts_answered, cuts_since}}
use Rattle.plan_rounds.{specs.WorkedRounds.{IsPoolOf, IsWorkedPool}, specs.inner.Alone.{HasSameCuts, IsAlone, IsPoolAfterTurn, IsPoolAsFar, IsPoolOfList}, specs.inner.Answered.{AreAnswers, AreSorted}, specs.inner.Listing.AreListed, specs.inner.Turns.{AddsFirst, AddsFound, Judges}, specs.declared.candidates.Candidates.Candidates, specs.declared.rounds.Turn.Turn, specs.declared.rounds.Turn.TheVariants.{Further, Last}, specs.declared.sorted_answers.Answered.Answered, proofs.OwnPool.{IsRoundOfPool, all_cuts, alone_since, few_within, pool_round}, proofs.Turning.{GivesNoLess, found_of}}

-- and so one line for a state and lengths
line_once : (p : Case) (a b : CutLine) → IsCut p a → IsCut p b → cut_of_line a ≡ cut_of_line b → a ≡ b
line_once p a b first second same =
    let state : a.state.0 ≡ b.state.0 = ap (λ x. x.0) same in
    let lengths : a.lengths ≡ b.lengths = ap (λ x. x.1) same in
    let other : IsRight (Joins (graph_in p b.state.0)) b.lengths p.demands a.right =
    subst (λ s. IsRight (Joins (graph_in p s)) b.lengths p.demands a.right) state (subst (λ ls. IsRight (Joins (graph_in p a.state.0)) ls p.demands a.right) lengths first.right) in
    let right = right_once (Joins (graph_in p b.state.0)) b.lengths p.demands a.right b.right other second.right in
    ap (λ s. record { state = record { 0 = s }; lengths = a.lengths; right = a.right }) state
    ∙ (ap (λ ls. record { state = b.state; lengths = ls; right = a.right }) lengths
    ∙ ap (λ r. record { state = b.state; lengths = b.lengths; right = r }) right)

-- the line of a cut that is among those of lines
line_of_cut : (lines : List CutLine) (cut : ℕ × List ℕ) → Contains (map cut_of_line lines) cut → (line : CutLine) × Contains lines line × (cut_of_line line ≡ cut)
line_of_cut lines cut at =
    let inside : at.0 < length lines = subst (λ n. at.0 < n) (length-map lines cut_of_line) at.1 in
    let line : CutLine = get_or lines at.0 (record { state = record { 0 = 0 }; lengths = []; right = 0 }) in
    (line, Contains-get_or lines at.0 (record { state = record { 0 = 0 }; lengths = []; right = 0 }) inside, sym (get_or-map cut_of_line lines at.0 (record { state = record { 0 = 0 }; lengths = []; right = 0 }) cut inside) ∙ at.2)

cut_among : (lines : List CutLine) (line : CutLine) → Contains lines line → Contains (map cut_of_line lines) (cut_of_line line)
cut_among lines line at = (at.0, subst (λ n. at.0 < n) (sym (length-map lines cut_of_line)) at.1, get_or-map cut_of_line lines at.0 line (cut_of_line line) at.1 ∙ ap cut_of_line at.2)

-- different cuts have different states and lengths
pairs_differ : (lines : List CutLine) → AreDifferentCuts lines → AllPairs (λ a b. a ≢ b) (map cut_of_line lines)
pairs_differ lines different i j d ij lj same =
    let none : CutLine = record { state = record { 0 = d.0 }; lengths = d.1; right = 0 } in
    let inside : j < length lines = subst (λ n. j < n) (length-map lines cut_of_line) lj in
    let at : (k : ℕ) → k < length lines → get_or (map cut_of_line lines) k d ≡ cut_of_line (get_or lines k none) = λ k lt. get_or-map cut_of_line lines k none d lt in
    let pair : cut_of_line (get_or lines i none) ≡ cut_of_line (get_or lines j none) = sym (at i (omega (arith, ij, inside))) ∙ (same ∙ at j inside) in
    let state : (get_or lines i none).state.0 ≡ (get_or lines j none).state.0 = ap (λ x. x.0) pair in
    different i j none ij inside (ap (λ n. record { 0 = n }) state, ap (λ x. x.1) pair)

module _ (p : Case) (pairs : List UnitPair) (units : AreUnitPairs p.links pairs) (net : Network) (states : States) (past now : Seen Entry) (part : IsPartOf past.own past.history) (more : SeesMore past now) (seen : IsSeenHistory net states now) (alone : IsAlone now)
    (share : Share) (caps : Caps) (a : Answered) (old : Candidates) (least : IsLeastShare p.links pairs old.lines share) (gives : GivesNoLess p pairs caps share)
    (answers : List StateAnswer) (told : AreAnswers p caps past now answers) (separates : All (SeparatesAt p caps) (cuts_since past now)) (found_is : map cut_of_line a.found.lines ≡ cuts_answered answers)
    (sorted : AreSorted p caps now.history (length p.listed + 1) a) (listed : AreListed p past.history old) (pool : IsPoolOfList p pairs (cuts_of past.history) old.lines) where
  since : cuts_of now.history ≡ cuts_of past.history ++ cuts_since past now
  since = alone_since past now part more alone

  among : All (Contains (map cut_of_line a.found.lines)) (cuts_since past now)
  among = subst (λ cuts. All (Contains cuts) (cuts_since past now)) (sym found_is) told.among

  round : IsRoundOfPool p pairs pool.made (cuts_of past.history) (cuts_since past now)
  round = pool_round p pairs caps (cuts_of past.history) old.lines share (cuts_since past now) pool least (λ line cut. found_of p pairs share caps line gives cut) separates told.different (subst (λ xs. length xs ≤ 4096) since seen.few_cuts)

  pub worked : IsWorkedPool p now.history
  worked = record { pairs = pairs; rounds = round.rounds; lines = round.made; list = round.list; pooled = round.pooled ∙ sym since }

  made_cuts : All (IsCut p) round.made
  made_cuts = worked_cuts p pairs [] round.rounds round.made (All-nil (IsCut p)) round.list

  found_cuts : All (IsCut p) a.found.lines
  found_cuts = All-weaker (IsSeparatingCut p caps) (IsCut p) (λ line cut. cut.cut) a.found.lines sorted.cuts

  both_differ : AreDifferentCuts (old.lines ++ a.found.lines)
  both_differ = pairs_append (λ x y. IsSameCut x y → ⊥) old.lines a.found.lines listed.different
      (λ i j d ij lj same. sorted.states i j d ij lj same.0)
      (λ i j d li lj same. found_is_new p pairs units old.lines share (get_or a.found.lines j d) (get_or old.lines i d) least (found_of p pairs share caps (get_or a.found.lines j d) gives (sorted.cuts j d lj)) (Contains-get_or old.lines i d li) (listed.cuts i d li) same)

  module _ (room : length (cuts_of now.history) ≢ 4096) (same : HasSameCuts old.lines pool.made) where
    open_history : IsFullHistory now.history → ⊥
    open_history full = ⊎_elim room (λ entries. let count = all_cuts now.history alone.pooled in let few = seen.few_cuts in omega (arith, entries, count, few)) full

    stands : (cut : ℕ × List ℕ) (spot : Spot) → IsSpotIn now.history cut spot → Contains (cuts_of now.history) cut
    stands cut (Pool i) here = (i, slice_get_within (cuts_of now.history) i cut here, get_or_from_slice_get (cuts_of now.history) i cut cut here)
    stands cut Local here = absurd (open_history here.0)

    found_stands : All (λ line. Contains (cuts_of now.history) (cut_of_line line)) a.found.lines
    found_stands k d lt =
        let count = sorted.spots.count in
        let spot : Spot = get_or a.found.spots k Local in
        stands (cut_of_line (get_or a.found.lines k d)) spot (sorted.spots.each k (get_or a.found.lines k d) spot (slice_get-get_or a.found.lines k d lt) (slice_get-get_or a.found.spots k Local (omega (arith, lt, count))))

    of_made : (line : CutLine) → IsCut p line → Contains (cuts_of now.history) (cut_of_line line) → Contains round.made line
    of_made line cut here =
        let found = line_of_cut round.made (cut_of_line line) (subst (λ xs. Contains xs (cut_of_line line)) (since ∙ sym round.pooled) here) in
        subst (Contains round.made) (line_once p found.0 line (All-contains (IsCut p) round.made found.0 made_cuts found.1) cut found.2) found.1

    old_stands : All (λ line. Contains (cuts_of now.history) (cut_of_line line)) old.lines
    old_stands k d lt =
        let line : CutLine = get_or old.lines k d in
        let held : Contains round.made line = subst (λ xs. Contains xs line) (sym round.following) (Contains-append_left pool.made round.found line (same.to line (Contains-get_or old.lines k d lt))) in
        subst (λ xs. Contains xs (cut_of_line line)) (round.pooled ∙ sym since) (cut_among round.made line held)

    few_both : length old.lines + length a.found.lines ≤ length (cuts_of now.history)
    few_both =
        let most = few_within (map cut_of_line (old.lines ++ a.found.lines)) (cuts_of now.history) (pairs_differ (old.lines ++ a.found.lines) both_differ)
        (All-map (Contains (cuts_of now.history)) cut_of_line (old.lines ++ a.found.lines) (All-append (λ line. Contains (cuts_of now.history) (cut_of_line line)) old.lines a.found.lines old_stands found_stands)) in
        omega (arith, most, length-map (old.lines ++ a.found.lines) cut_of_line, length-append old.lines a.found.lines)

    few_since : length (cuts_since past now) ≤ length a.found.lines
    few_since =
        let most = few_within (cuts_since past now) (map cut_of_line a.found.lines) (λ i j d ij lj e. told.different i j d ij lj (ap (λ x. x.0) e)) among in
        omega (arith, most, length-map a.found.lines cut_of_line)

    all_found : (room_left : ℕ) → length old.lines + room_left ≡ 4096 → take room_left a.found.lines ≡ a.found.lines
    all_found room_left full = take_all room_left a.found.lines (let few = few_both in let limit = seen.few_cuts in omega (arith, few, limit, full))

    same_after : HasSameCuts (old.lines ++ a.found.lines) round.made
    same_after = record {
      count =
          let one = few_both in
          let two = few_since in
          let all = ap length since in
          let following = ap length round.following in
          let are = ap length round.are in
          let before = ap length pool.pooled in
          let count = same.count in
          omega (arith, one, two, all, following, are, before, count, length-append old.lines a.found.lines, length-append (cuts_of past.history) (cuts_since past now), length-append pool.made round.found, length-map round.found cut_of_line, length-map pool.made cut_of_line);
      to = λ line here. ⊎_elim
          (λ first. subst (λ xs. Contains xs line) (sym round.following) (Contains-append_left pool.made round.found line (same.to line first)))
          (λ second. of_made line (All-contains (IsCut p) a.found.lines line found_cuts second) (All-contains (λ x. Contains (cuts_of now.history) (cut_of_line x)) a.found.lines line found_stands second))
          (Contains-append_cases old.lines a.found.lines line here);
      back = λ line here. ⊎_elim
          (λ first. Contains-append_left old.lines a.found.lines line (same.back line first))
          (λ second.
          let of : Contains (cuts_since past now) (cut_of_line line) = subst (λ xs. Contains xs (cut_of_line line)) round.are (cut_among round.found line second) in
          let found = line_of_cut a.found.lines (cut_of_line line) (All-contains (Contains (map cut_of_line a.found.lines)) (cuts_since past now) (cut_of_line line) among of) in
          let once = line_once p found.0 line (All-contains (IsCut p) a.found.lines found.0 found_cuts found.1) (All-contains (IsCut p) round.found line round.are_cuts second) found.2 in
          Contains-append_right old.lines a.found.lines line (subst (Contains a.found.lines) once found.1))
          (Contains-append_cases pool.made round.found line (subst (λ xs. Contains xs line) round.following here));
    }

  same_or_full : (room : ℕ) (new : Candidates) → length old.lines + room ≡ 4096 → AddsFirst room a.found old new → HasSameCuts new.lines round.made ⊎ (length (cuts_of now.history) ≡ 4096)
  same_or_full room new full adds = ⊎_elim
      (λ (is_full : length (cuts_of now.history) ≡ 4096). inr is_full)
      (λ (left : length (cuts_of now.history) ≢ 4096). ⊎_elim
      (λ (same : HasSameCuts old.lines pool.made).
      inl (subst (λ ls. HasSameCuts ls round.made) (sym (adds.lines ∙ ap (λ ls. old.lines ++ ls) (all_found left same room full))) (same_after left same)))
      (λ (before : length (cuts_of past.history) ≡ 4096).
      absurd (left (let all = ap length since in let few = seen.few_cuts in omega (arith, all, few, before, length-append (cuts_of past.history) (cuts_since past now)))))
      pool.same)
      (cases_eq (length (cuts_of now.history)) 4096)

  -- the pool with a further round
  pub pool_with_round : (room : ℕ) (new : Candidates) → length old.lines + room ≡ 4096 → AddsFirst room a.found old new → IsPoolOfList p pairs (cuts_of now.history) new.lines
  pool_with_round room new full adds = record {
    rounds = round.rounds;
    made = round.made;
    list = round.list;
    pooled = round.pooled ∙ sym since;
    same = same_or_full room new full adds;
  }

  pub judged_pool : (whole : Caps) (best : Best) (room : ℕ) (new : Candidates) (turn : Turn) → length old.lines + room ≡ 4096 → Judges p room whole a best old new turn → IsPoolAfterTurn p pairs now.history new.lines turn
  judged_pool whole best room new turn full judges = ⊎_elim
      (λ end. subst (IsPoolAfterTurn p pairs now.history new.lines) (sym end.3) ∣ worked ∣₁)
      (⊎_elim
      (λ further. subst (IsPoolAfterTurn p pairs now.history new.lines) (sym further.3) ∣ pool_with_round room new full further.2 ∣₁)
      (λ end. subst (IsPoolAfterTurn p pairs now.history new.lines) (sym end.2.1) ∣ worked ∣₁))
      judges

  -- the pool with the cuts that were found, if they were added
  pub pool_as_far : (room : ℕ) (new : Candidates) (added : Bool) → length old.lines + room ≡ 4096 → AddsFound room a old new added → IsPoolAsFar p pairs now.history new.lines added
  pool_as_far room new true full adds = ∣ pool_with_round room new full adds.0 ∣₁
  pool_as_far room new false full same = ∣ worked ∣₁

-- what is told of a pool, known once
pub far_told : (p : Case) (pairs : List UnitPair) (h : List Entry) (lines : List CutLine) (far : Bool) → ∥ IsPoolAsFar p pairs h lines far ∥₁ → IsPoolAsFar p pairs h lines far
far_told p pairs h lines true told = ∥∥₁_elim told (hlevel props) (λ x. x)
far_told p pairs h lines false told = ∥∥₁_elim told (hlevel props) (λ x. x)

-- what is told of a turn's pool, known once
pub after_told : (p : Case) (pairs : List UnitPair) (h : List Entry) (lines : List CutLine) (turn : Turn) → ∥ IsPoolAfterTurn p pairs h lines turn ∥₁ → IsPoolAfterTurn p pairs h lines turn
after_told p pairs h lines (Further best) told = ∥∥₁_elim told (hlevel props) (λ x. x)
after_told p pairs h lines (Last best quality) told = ∥∥₁_elim told (hlevel props) (λ x. x)

-- ---- the whole of the rounds

-- what a worked list begins with is pooled, where the list's cuts are
pub pool_begins : (p : Case) (pairs : List UnitPair) (h : List Entry) (lines : List CutLine) → AreUnitPairs p.links pairs → IsBeginning p [] lines → length lines ≤ 4096 → cuts_of h ≡ map cut_of_line lines → IsPoolOfList p pairs (cuts_of h) lines
pool_begins p pairs h lines units begins few same = record {
  rounds = [];
  made = lines;
  list = begun_worked p pairs units [] lines begins few;
  pooled = sym same;
  same = inl (record { count = refl; to = λ c here. here; back = λ c here. here });
}

pub pool_worked : (p : Case) (pairs : List UnitPair) (h : List Entry) (lines : List CutLine) → IsPoolOfList p pairs (cuts_of h) lines → IsWorkedPool p h
pool_worked p pairs h lines pool = record { pairs = pairs; rounds = pool.rounds; lines = pool.made; list = pool.list; pooled = pool.pooled }

-- a separator whose history was empty, and is its own, is alone
pub alone_from_none : (old now : Seen Entry) → old.own ≡ [] → SeesMore old now → now.history ≡ now.own → IsAlone now
alone_from_none old now none more same = record { same = same; pooled = subst (All IsCutEntry) (sym (same ∙ (more.own_is ∙ ap (λ es. es ++ more.committed) none))) more.pooled }

-- a part of nothing is nothing
pub part_none : {X : Type 0} (xs ys : List X) → ys ≡ [] → IsPartOf xs ys → xs ≡ []
part_none [] ys none part = refl
part_none (x ∷ xs) [] none part = absurd part
part_none (x ∷ xs) (y ∷ ys) none part = absurd (let e : y ∷ ys ≡ [] = none in cc e)

-- no cuts are pooled before the first entry
pub pool_none : (p : Case) (pool : List CutLine) → IsPoolOf p [] pool → pool ≡ []
pool_none p pool is = empty pool (ap length (is.pooled ∙ ap cuts_of (none is.position)))
  where
    nothing : List Entry
    nothing = []

    none : (n : ℕ) → take n [] ≡ nothing
    none zero = refl
    none (suc n) = refl

    empty : (pool : List CutLine) → length (map cut_of_line pool) ≡ 0 → pool ≡ []
    empty [] e = refl
    empty (l ∷ ls) e = absurd (omega (arith, e))
