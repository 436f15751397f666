-- a separator that alone writes its history: what it pools is a worked list
use Rattle.std.proofs.Common.{◌≡◌, ◌≢◌, ℕ, zero, suc, ◌+◌, ◌<◌, ◌≤◌, ◌⊎◌, inl, inr, ⊎_elim, List, [], ◌∷◌, ◌++◌, All, AllPairs, Contains, get_or, length, map, drop, refl, sym, ap, subst, ◌∙◌, arith, append-nil, get_or-append-add, length-append}
use Rattle.net_core.proofs.Library.{take-length, get_or_append_left, get_or-map, length-map, map-append, nil_from_length, All-cons, All-head, All-nil, All-tail, All-weaker, get_or_from_slice_get, slice_get_within, front_all}
use Rattle.plan_terms.specs.Terms.{Demand, Entry, Edited, Pooled, Link, Network, Caps, CutLine, States, Case, case, IsCut, MasterColumn}
use Rattle.module_prices.specs.declared.cheapest.UnitPair.{UnitPair}
use Rattle.plan_types.{specs.declared.quality.Share.Share, specs.declared.certificate.Spot.Spot, specs.declared.certificate.Spot.TheVariants.{Pool, Local}}
use Rattle.metric_cut.{specs.Cuts.IsLineAt, specs.declared.cut.Cut.Cut}
use Rattle.cut_pool.specs.Terms.{cut_of_line, cuts_of}
use Rattle.simplex_law.specs.Terms.{ColumnOf}
use Rattle.master_law.specs.Terms.{IsLeastShare, IsCutColumn, IsMasterColumn}
use Rattle.plan_law.{specs.WorkedLists.{HasCut, IsFoundCut, IsRound, IsWorkedList, Lacks, Round}, proofs.Rounds.worked_on}
use Rattle.turn_lock.specs.Passes.{Seen}
use Rattle.separator.{specs.Separators.{IsCutEntry, IsFullHistory, IsPartOf, IsSeenHistory, IsSeparatingCut, IsSpotIn, SeesMore, SeparatesAt, cuts_since}, proofs.Lemmas.{line_is, cuts_both, part_few}}
use Rattle.plan_rounds.{specs.inner.Alone.{HasSameCuts, IsAlone, IsPoolOfList, PoolsOpening, Within}, specs.inner.Listing.PutsLine, specs.declared.candidates.Candidates.Candidates, proofs.Seeing.cuts_differ}

-- ---- what is the separator's own

-- a part as long as the whole is the whole
part_whole : {X : Type 0} (xs ys : List X) → IsPartOf xs ys → length ys ≤ length xs → xs ≡ ys
part_whole [] [] part le = refl
part_whole [] (y ∷ ys) part le = absurd (omega (arith, le))
part_whole (x ∷ xs) [] part le = absurd part
part_whole (x ∷ xs) (y ∷ ys) part le = ⊎_elim
    (λ l. ap (λ z. z ∷ xs) l.0 ∙ ap (λ zs. y ∷ zs) (part_whole xs ys l.1 (omega (arith, le))))
    (λ r. absurd (let few = part_few (x ∷ xs) ys r in omega (arith, few, le)))
    part

drop_front : {X : Type 0} (xs ys : List X) → drop (length xs) (xs ++ ys) ≡ ys
drop_front [] ys = refl
drop_front (x ∷ xs) ys = drop_front xs ys

module _ (old now : Seen Entry) (part : IsPartOf old.own old.history) (more : SeesMore old now) (alone : IsAlone now) where
  long : length old.history + length more.further ≡ length old.own + length more.committed
  long =
      let same = ap length (sym more.seen ∙ (alone.same ∙ more.own_is)) in
      omega (arith, same, length-append old.history more.further, length-append old.own more.committed)

  -- all entries were its own before
  pub alone_before : IsAlone old
  alone_before = record {
    same = let few = part_few more.committed more.further more.among in sym (part_whole old.own old.history part (omega (arith, long, few)));
    pooled = front_all IsCutEntry old.history more.further (subst (All IsCutEntry) more.seen alone.pooled);
  }

  -- what it has committed is all that it has seen since
  pub alone_since : cuts_of now.history ≡ cuts_of old.history ++ cuts_since old now
  alone_since =
      let few = part_few old.own old.history part in
      let all : more.committed ≡ more.further = part_whole more.committed more.further more.among (omega (arith, long, few)) in
      let since : cuts_since old now ≡ cuts_of more.further = ap (λ es. cuts_of (drop (length old.own) es)) more.own_is ∙ (ap cuts_of (drop_front old.own more.committed) ∙ ap cuts_of all) in
      ap cuts_of more.seen ∙ (cuts_both old.history more.further ∙ ap (λ cs. cuts_of old.history ++ cs) (sym since))

-- as many entries as cuts
pub all_cuts : (h : List Entry) → All IsCutEntry h → length h ≡ length (cuts_of h)
all_cuts [] all = refl
all_cuts (Edited caller edit reply ∷ es) all = absurd (All-head IsCutEntry (Edited caller edit reply) es all)
all_cuts (Pooled index state lengths ∷ es) all = ap suc (all_cuts es (All-tail IsCutEntry (Pooled index state lengths) es all))

pub seen_differ : (net : Network) (states : States) (s : Seen Entry) → IsSeenHistory net states s → AllPairs (λ a b. a ≢ b) (cuts_of s.history)
seen_differ net states s seen = subst (λ es. AllPairs (λ a b. a ≢ b) (cuts_of es)) (take-length s.history) (cuts_differ (case net states []) s.history seen.legal (length s.history))

-- ---- opening cuts

-- nothing, or this cut
one_more : (xs cs : List (ℕ × List ℕ)) (cut : ℕ × List ℕ) → AllPairs (λ a b. a ≢ b) (xs ++ cs) → All (λ c. c ≡ cut) cs → (cs ≡ []) ⊎ (cs ≡ cut ∷ [])
one_more xs [] cut different all = inl refl
one_more xs (c ∷ []) cut different all = inr (ap (λ z. z ∷ []) (all 0 cut (omega arith)))
one_more xs (c ∷ d ∷ cs) cut different all = absurd (
    different (length xs + 0) (length xs + 1) cut (omega arith) (omega (arith, length-append xs (c ∷ d ∷ cs)))
    (get_or-append-add xs (c ∷ d ∷ cs) 0 cut ∙ (all 0 cut (omega arith) ∙ (sym (all 1 cut (omega arith)) ∙ sym (get_or-append-add xs (c ∷ d ∷ cs) 1 cut)))))

-- a cut that is there isn't pooled again
none_more : (xs : List (ℕ × List ℕ)) (cut : ℕ × List ℕ) → AllPairs (λ a b. a ≢ b) (xs ++ cut ∷ []) → Contains xs cut → ⊥
none_more xs cut different at =
    different at.0 (length xs + 0) cut (omega (arith, at.1)) (omega (arith, length-append xs (cut ∷ [])))
    (get_or_append_left xs (cut ∷ []) cut at.0 at.1 ∙ (at.2 ∙ sym (get_or-append-add xs (cut ∷ []) 0 cut)))

module _ (net : Network) (states : States) (old now : Seen Entry) (cut : ℕ × List ℕ) (spot : Spot) (lines : List CutLine) (part : IsPartOf old.own old.history) (more : SeesMore old now)
    (seen : IsSeenHistory net states now) (only : All (λ c. c ≡ cut) (cuts_since old now)) (at : IsSpotIn now.history cut spot) (alone : IsAlone now) (few : length lines ≤ 4000) (same : cuts_of old.history ≡ map cut_of_line lines) where
  either : (cuts_since old now ≡ []) ⊎ (cuts_since old now ≡ cut ∷ [])
  either = one_more (cuts_of old.history) (cuts_since old now) cut (subst (AllPairs (λ a b. a ≢ b)) (alone_since old now part more alone) (seen_differ net states now seen)) only

  now_is : (cs : List (ℕ × List ℕ)) → cuts_since old now ≡ cs → cuts_of now.history ≡ cuts_of old.history ++ cs
  now_is cs e = alone_since old now part more alone ∙ ap (λ xs. cuts_of old.history ++ xs) e

  pub stood_before : Contains (cuts_of old.history) cut → cuts_of now.history ≡ cuts_of old.history
  stood_before known = ⊎_elim
      (λ none. now_is [] none ∙ append-nil (cuts_of old.history))
      (λ one. absurd (none_more (cuts_of old.history) cut (subst (AllPairs (λ a b. a ≢ b)) (now_is (cut ∷ []) one) (seen_differ net states now seen)) known))
      either

  not_full : cuts_since old now ≡ [] → IsFullHistory now.history → ⊥
  not_full none full =
      let count : length (cuts_of now.history) ≡ length lines = ap length (now_is [] none ∙ (append-nil (cuts_of old.history) ∙ same)) ∙ length-map lines cut_of_line in
      ⊎_elim
      (λ cuts. omega (arith, cuts, count, few))
      (λ entries. omega (arith, entries, all_cuts now.history alone.pooled, count, few))
      full

  stands_now : (s : Spot) → IsSpotIn now.history cut s → cuts_since old now ≡ [] → Contains (cuts_of now.history) cut
  stands_now (Pool i) here none = (i, slice_get_within (cuts_of now.history) i cut here, get_or_from_slice_get (cuts_of now.history) i cut cut here)
  stands_now Local here none = absurd (not_full none here.0)

  pub stands_new : (Contains (cuts_of old.history) cut → ⊥) → cuts_of now.history ≡ cuts_of old.history ++ cut ∷ []
  stands_new unknown = ⊎_elim
      (λ none. absurd (unknown (subst (λ xs. Contains xs cut) (now_is [] none ∙ append-nil (cuts_of old.history)) (stands_now spot at none))))
      (λ one. now_is (cut ∷ []) one)
      either

-- a cut of a list is among its states and lengths
pub among_cuts : (lines : List CutLine) (line : CutLine) → HasCut lines line.state.0 line.lengths → Contains (map cut_of_line lines) (cut_of_line line)
among_cuts lines line has =
    let l : CutLine = has.1 in
    let one = has.4.0 in
    let two = has.4.1 in
    let pair : cut_of_line l ≡ cut_of_line line = cc (one, two) in
    let here : get_or (map cut_of_line lines) has.0 (cut_of_line l) ≡ cut_of_line l = get_or-map cut_of_line lines has.0 l (cut_of_line l) has.2 ∙ ap cut_of_line has.3 in
    subst (Contains (map cut_of_line lines)) pair (has.0, subst (λ n. has.0 < n) (sym (length-map lines cut_of_line)) has.2, here)

pub not_among : (lines : List CutLine) (line : CutLine) → Lacks lines line → Contains (map cut_of_line lines) (cut_of_line line) → ⊥
not_among lines line lacks at =
    let inside : at.0 < length lines = subst (λ n. at.0 < n) (length-map lines cut_of_line) at.1 in
    let l : CutLine = get_or lines at.0 line in
    let pair : cut_of_line l ≡ cut_of_line line = sym (get_or-map cut_of_line lines at.0 line (cut_of_line line) inside) ∙ at.2 in
    let state : l.state.0 ≡ line.state.0 = ap (λ x. x.0) pair in
    let lengths : l.lengths ≡ line.lengths = ap (λ x. x.1) pair in
    lacks at.0 line inside (sym (ap (λ n. record { 0 = n }) state), sym lengths)

-- ---- least shares of equal cuts

module _ (links : List Link) (pairs : List UnitPair) (xs ys : List CutLine) (within : Within xs ys) where
  cut_column : (c : ColumnOf MasterColumn) → IsCutColumn links pairs xs c → IsCutColumn links pairs ys c
  cut_column c is = record { cut = is.cut; listed = within is.cut is.listed; named = is.named; gain = is.gain; entry = is.entry }

  master_column : (c : ColumnOf MasterColumn) → IsMasterColumn links pairs xs c → IsMasterColumn links pairs ys c
  master_column c is = ⊎_elim (λ l. inl (cut_column c l)) (λ r. inr r) is

pub least_same : (links : List Link) (pairs : List UnitPair) (xs ys : List CutLine) (share : Share) → Within xs ys → Within ys xs → IsLeastShare links pairs xs share → IsLeastShare links pairs ys share
least_same links pairs xs ys share to back least = record {
  basis = least.basis;
  duals = least.duals;
  den = least.den;
  best = record {
    feasible = record { columns = λ j lt. master_column links pairs xs ys to (least.basis j) (least.best.feasible.columns j lt); filled = least.best.feasible.filled };
    objective = least.best.objective;
    none = λ c is gains. least.best.none c (master_column links pairs ys xs back c is) gains;
  };
  scale = least.scale;
  count = least.count;
  units = least.units;
  lowest = least.lowest;
}

-- ---- the cuts that are committed, as lines

-- lines with these states and lengths that the capacities separate
record AreLinesFor (p : Case) (caps : Caps) (cuts : List (ℕ × List ℕ)) (lines : List CutLine) : Type 0 where
  pub same : map cut_of_line lines ≡ cuts
  pub separating : All (IsSeparatingCut p caps) lines

lines_for : (p : Case) (caps : Caps) (cuts : List (ℕ × List ℕ)) → All (SeparatesAt p caps) cuts → (lines : List CutLine) × AreLinesFor p caps cuts lines
lines_for p caps [] all = ([], record { same = refl; separating = All-nil (IsSeparatingCut p caps) })
lines_for p caps (c ∷ cs) all =
    let first = All-head (SeparatesAt p caps) c cs all in
    let rest = lines_for p caps cs (All-tail (SeparatesAt p caps) c cs all) in (
      first.line ∷ rest.0,
      record {
        same = ap (λ x. x ∷ map cut_of_line rest.0) first.same ∙ ap (λ xs. c ∷ xs) rest.1.same;
        separating = All-cons (IsSeparatingCut p caps) first.line rest.0 first.separating rest.1.separating;
      },
    )

-- lines of different states
different_lines : (cuts : List (ℕ × List ℕ)) (lines : List CutLine) → map cut_of_line lines ≡ cuts → AllPairs (λ x y. x.0 ≢ y.0) cuts → AllPairs (λ a b. a.state ≢ b.state) lines
different_lines cuts lines same different i j d less inside e =
    let count : length cuts ≡ length lines = ap length (sym same) ∙ length-map lines cut_of_line in
    let at : (k : ℕ) → k < length lines → get_or cuts k (cut_of_line d) ≡ cut_of_line (get_or lines k d) = λ k lt. ap (λ xs. get_or xs k (cut_of_line d)) (sym same) ∙ get_or-map cut_of_line lines k d (cut_of_line d) lt in
    let apart = different i j (cut_of_line d) less (omega (arith, inside, count)) in
    apart (ap (λ x. x.0) (at i (omega (arith, less, inside))) ∙ (ap (λ s. s.0) e ∙ sym (ap (λ x. x.0) (at j inside))))

-- what follows of the pool, when further cuts are committed
pub record IsRoundOfPool (p : Case) (pairs : List UnitPair) (old_made : List CutLine) (pool cuts : List (ℕ × List ℕ)) : Type 0 where
  pub rounds : List Round
  pub made : List CutLine
  pub list : IsWorkedList p pairs [] rounds made
  pub pooled : map cut_of_line made ≡ pool ++ cuts
  pub found : List CutLine
  pub following : made ≡ old_made ++ found
  pub are : map cut_of_line found ≡ cuts
  pub are_cuts : All (IsCut p) found

-- the cuts that are committed at a least share of the list are a round of the pool's own list
pub pool_round : (p : Case) (pairs : List UnitPair) (caps : Caps) (pool : List (ℕ × List ℕ)) (lines : List CutLine) (share : Share) (cuts : List (ℕ × List ℕ))
    → (old : IsPoolOfList p pairs pool lines) → IsLeastShare p.links pairs lines share → ((line : CutLine) → IsSeparatingCut p caps line → IsFoundCut p pairs share line)
    → All (SeparatesAt p caps) cuts → AllPairs (λ x y. x.0 ≢ y.0) cuts → length (pool ++ cuts) ≤ 4096
    → IsRoundOfPool p pairs old.made pool cuts
pool_round p pairs caps pool lines share cuts old least found separates different few = ⊎_elim
    (λ (same : HasSameCuts lines old.made).
    let of_cuts = lines_for p caps cuts separates in
    let ls = of_cuts.0 in
    let round : Round = record { share = share; cuts = ls } in
    let is_found = All-weaker (IsSeparatingCut p caps) (IsFoundCut p pairs share) found ls of_cuts.1.separating in
    let is : IsRound p pairs old.made round = record {
      least = least_same p.links pairs lines old.made share same.to same.back least;
      found = is_found;
      states = different_lines cuts ls of_cuts.1.same different;
    } in
    let one : length old.made ≡ length pool = sym (length-map old.made cut_of_line) ∙ ap length old.pooled in
    let two : length ls ≡ length cuts = sym (length-map ls cut_of_line) ∙ ap length of_cuts.1.same in
    record {
      rounds = round ∷ old.rounds;
      made = old.made ++ ls;
      list = worked_on p pairs [] old.rounds old.made (All-nil (IsCut p)) old.list round is (omega (arith, one, two, few, length-append pool cuts));
      pooled = map-append cut_of_line old.made ls ∙ (ap (λ xs. xs ++ map cut_of_line ls) old.pooled ∙ ap (λ xs. pool ++ xs) of_cuts.1.same);
      found = ls;
      following = refl;
      are = of_cuts.1.same;
      are_cuts = All-weaker (IsFoundCut p pairs share) (IsCut p) (λ l f. f.is_cut) ls is_found;
    })
    (λ full.
    let none : cuts ≡ [] = nil_from_length cuts (omega (arith, few, full, length-append pool cuts)) in
    record {
      rounds = old.rounds;
      made = old.made;
      list = old.list;
      pooled = old.pooled ∙ sym (ap (λ xs. pool ++ xs) none ∙ append-nil pool);
      found = [];
      following = sym (append-nil old.made);
      are = sym none;
      are_cuts = All-nil (IsCut p);
    })
    old.same

-- ---- opening cuts that are added to the list

-- a cut that is admitted is pooled where it is added to the list
pub opening_taken : (net : Network) (states : States) (before now : Seen Entry) (cut : Cut) (demands : List Demand) (line : CutLine) (spot : Spot) (old new : Candidates) → IsPartOf before.own before.history → SeesMore before now → IsSeenHistory net states now
    → All (λ c. c ≡ (cut.state.0, cut.lengths)) (cuts_since before now) → IsSpotIn now.history (cut.state.0, cut.lengths) spot → IsLineAt demands cut line → PutsLine line spot old new → PoolsOpening before now old.lines new.lines
opening_taken net states before now cut demands line spot old new part more seen only at is puts = record { grows = grows; pools = pools }
  where
    grows : length old.lines ≤ length new.lines
    grows = ⊎_elim
        (λ known. let same = ap (λ (x : Candidates). length x.lines) known.1 in omega (arith, same))
        (λ lacks. let same = ap (λ (x : Candidates). length x.lines) lacks.1 in omega (arith, same, length-append old.lines (line ∷ [])))
        puts

    pools : IsAlone now → length new.lines ≤ 4000 → cuts_of before.history ≡ map cut_of_line old.lines → cuts_of now.history ≡ map cut_of_line new.lines
    pools alone few same = ⊎_elim
        (λ known.
        let lines : new.lines ≡ old.lines = ap (λ (x : Candidates). x.lines) known.1 in
        let few_old : length old.lines ≤ 4000 = subst (λ ls. length ls ≤ 4000) lines few in
        let stood : Contains (cuts_of before.history) (cut.state.0, cut.lengths) = subst (λ xs. Contains xs (cut.state.0, cut.lengths)) (sym same) (subst (Contains (map cut_of_line old.lines)) (line_is demands cut line is) (among_cuts old.lines line known.0)) in
        stood_before net states before now (cut.state.0, cut.lengths) spot old.lines part more seen only at alone few_old same stood ∙ (same ∙ ap (map cut_of_line) (sym lines)))
        (λ lacks.
        let lines : new.lines ≡ old.lines ++ line ∷ [] = ap (λ (x : Candidates). x.lines) lacks.1 in
        let few_old : length old.lines ≤ 4000 = let long = ap length lines in omega (arith, few, long, length-append old.lines (line ∷ [])) in
        let unknown : Contains (cuts_of before.history) (cut.state.0, cut.lengths) → ⊥ = λ has. not_among old.lines line lacks.0 (subst (Contains (map cut_of_line old.lines)) (sym (line_is demands cut line is)) (subst (λ xs. Contains xs (cut.state.0, cut.lengths)) same has)) in
        stands_new net states before now (cut.state.0, cut.lengths) spot old.lines part more seen only at alone few_old same unknown
        ∙ (ap (λ xs. xs ++ (cut.state.0, cut.lengths) ∷ []) same
        ∙ (ap (λ x. map cut_of_line old.lines ++ x ∷ []) (sym (line_is demands cut line is))
        ∙ (sym (map-append cut_of_line old.lines (line ∷ [])) ∙ ap (map cut_of_line) (sym lines)))))
        puts

pub pools_none : (seen : Seen Entry) (lines : List CutLine) → PoolsOpening seen seen lines lines
pools_none seen lines = record { grows = omega arith; pools = λ alone few same. same }

-- one after another
pub pools_both : (s0 s s1 : Seen Entry) (lines0 lines lines1 : List CutLine) → IsPartOf s.own s.history → SeesMore s s1 → PoolsOpening s0 s lines0 lines → PoolsOpening s s1 lines lines1 → PoolsOpening s0 s1 lines0 lines1
pools_both s0 s s1 lines0 lines lines1 part more first second = record {
  grows = omega (arith, first.grows, second.grows);
  pools = λ alone few same. second.pools alone few (first.pools (alone_before s s1 part more alone) (omega (arith, few, second.grows)) same);
}

-- ---- pigeonholes

abbrev without : {X : Type 0} → List X → ℕ → List X
without [] n = []
without (y ∷ ys) zero = ys
without (y ∷ ys) (suc n) = y ∷ without ys n

without_count : {X : Type 0} (ys : List X) (n : ℕ) → n < length ys → length ys ≡ suc (length (without ys n))
without_count [] n lt = absurd (omega (arith, lt))
without_count (y ∷ ys) zero lt = refl
without_count (y ∷ ys) (suc n) lt = let h = without_count ys n (omega (arith, lt)) in omega (arith, h)

push_within : {X : Type 0} (y : X) (ys : List X) (z : X) → Contains ys z → Contains (y ∷ ys) z
push_within y ys z at = (suc at.0, let lt = at.1 in omega (arith, lt), at.2)

without_keeps : {X : Type 0} (ys : List X) (n : ℕ) (x z : X) → n < length ys → get_or ys n x ≡ x → z ≢ x → Contains ys z → Contains (without ys n) z
without_keeps [] n x z lt here other at = absurd (omega (arith, lt))
without_keeps (y ∷ ys) zero x z lt here other (zero, inside, is) = absurd (let a : y ≡ x = here in let b : y ≡ z = is in other (sym b ∙ a))
without_keeps (y ∷ ys) zero x z lt here other (suc k, inside, is) = (k, omega (arith, inside), is)
without_keeps (y ∷ ys) (suc n) x z lt here other (zero, inside, is) = (zero, omega arith, is)
without_keeps (y ∷ ys) (suc n) x z lt here other (suc k, inside, is) = push_within y (without ys n) z (without_keeps ys n x z (omega (arith, lt)) here other (k, omega (arith, inside), is))

-- different items that are among others are no more than those
pub few_within : {X : Type 0} (xs ys : List X) → AllPairs (λ a b. a ≢ b) xs → All (Contains ys) xs → length xs ≤ length ys
few_within [] ys different inside = omega arith
few_within (x ∷ xs) ys different inside =
    let at : Contains ys x = All-head (Contains ys) x xs inside in
    let rest = few_within xs (without ys at.0)
    (λ i j d ij lj. different (suc i) (suc j) d (omega (arith, ij)) (omega (arith, lj)))
    (λ k d lt. without_keeps ys at.0 x (get_or xs k d) at.1 at.2 (λ e. different 0 (suc k) d (omega arith) (omega (arith, lt)) (sym e)) (All-tail (Contains ys) x xs inside k d lt)) in
    let count = without_count ys at.0 at.1 in
    omega (arith, rest, count)
