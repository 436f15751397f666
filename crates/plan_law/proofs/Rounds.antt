-- a round after a worked list makes a worked list
use Rattle.std.proofs.Common.{◌≡◌, ◌≢◌, ℕ, ◌+◌, ◌*◌, ◌<◌, ◌≤◌, List, [], ◌∷◌, ◌++◌, All, Contains, length, min, take, sum_by, zip, get_or, refl, sym, ap, ◌∙◌, arith, subst, append_assoc, length-append, length-take}
use Rattle.net_core.proofs.Library.{All-append, All-take, All-weaker, Contains-append_right, Contains-get_or}
use Rattle.plan_terms.{specs.Terms.{CutLine, Case, graph_in, Joins, IsCut, IsRight, Violates}, proofs.Lemmas.right_once}
use Rattle.module_prices.specs.declared.cheapest.UnitPair.{UnitPair}
use Rattle.plan_types.specs.declared.quality.Share.{Share}
use Rattle.master_law.{specs.Terms.{IsLeastShare, IsSameCut, AreUnitPairs, share_caps}, proofs.Shares.least_violates_none}
use Rattle.plan_law.{specs.WorkedLists.{Round, after_rounds, AreDifferentCuts, AreRounds, cut_short, IsBeginning, IsFoundCut, IsRound, IsWorkedList}, proofs.Begun.{beginning_cuts, beginning_differ, opened_differ}, proofs.Pairs.{pairs_append, pairs_take}}

module _ (p : Case) (pairs : List UnitPair) (units : AreUnitPairs p.links pairs) where
  -- a cut that is found at a least share of cuts isn't one of them
  pub found_is_new : (cuts : List CutLine) (share : Share) (cut held : CutLine) → IsLeastShare p.links pairs cuts share → IsFoundCut p pairs share cut → Contains cuts held → IsCut p held → IsSameCut held cut → ⊥
  found_is_new cuts share cut held least found inside is same = least_violates_none p.links pairs cuts share held units.count is.kept.count least inside violated
    where
      right : cut.right ≡ held.right
      right = right_once (Joins (graph_in p cut.state.0)) cut.lengths p.demands cut.right held.right found.is_cut.right
          (subst (λ s. IsRight (Joins (graph_in p s.0)) cut.lengths p.demands held.right) same.0 (subst (λ ls. IsRight (Joins (graph_in p held.state.0)) ls p.demands held.right) same.1 is.right))

      short : List ℕ → ℕ → Type 0
      short lengths side = sum_by (λ (q : ℕ × ℕ). q.0 * q.1) (zip lengths (share_caps p.links pairs share).nums) < side * share.scale

      violated : Violates (share_caps p.links pairs share) held
      violated = subst (λ r. short held.lengths r) right (subst (λ ls. short ls cut.right) (sym same.1) found.violated)

  -- the cuts after rounds are cuts of the case
  pub rounds_cuts : (start : List CutLine) (rounds : List Round) → All (IsCut p) start → AreRounds p pairs start rounds → All (IsCut p) (after_rounds start rounds)
  rounds_cuts start [] cuts are = cuts
  rounds_cuts start (last ∷ earlier) cuts are =
      All-append (IsCut p) (after_rounds start earlier) last.cuts (rounds_cuts start earlier cuts are.1) (All-weaker (IsFoundCut p pairs last.share) (IsCut p) (λ c found. found.is_cut) last.cuts are.0.found)

  -- the cuts of a round are different, and none is one of the list before it
  round_differs : (before : List CutLine) (round : Round) (cuts : List CutLine) → All (IsCut p) before → IsRound p pairs before round → ((c : CutLine) → Contains cuts c → Contains before c) → AreDifferentCuts cuts → AreDifferentCuts (cuts ++ round.cuts)
  round_differs before round cuts are is inside different = pairs_append (λ a b. IsSameCut a b → ⊥) cuts round.cuts different
      (λ i j d ij lj same. is.states i j d ij lj same.0)
      (λ i j d li lj same. let held = inside (get_or cuts i d) (Contains-get_or cuts i d li) in
      found_is_new before round.share (get_or round.cuts j d) (get_or cuts i d) is.least (is.found j d lj) held (subst (IsCut p) held.2 (are held.0 (get_or cuts i d) held.1)) same)

  -- all cuts after rounds are different, where those before the rounds are
  pub rounds_differ : (start : List CutLine) (rounds : List Round) → All (IsCut p) start → AreDifferentCuts start → AreRounds p pairs start rounds → AreDifferentCuts (after_rounds start rounds)
  rounds_differ start [] cuts different are = different
  rounds_differ start (last ∷ earlier) cuts different are =
      round_differs (after_rounds start earlier) last (after_rounds start earlier) (rounds_cuts start earlier cuts are.1) are.0 (λ c h. h) (rounds_differ start earlier cuts different are.1)

  -- what a planning begins with is a worked list, of no round
  pub begun_worked : (snapshot start : List CutLine) → IsBeginning p snapshot start → length start ≤ length snapshot + 4096 → IsWorkedList p pairs snapshot [] start
  begun_worked snapshot start begins room = record {
    units = units;
    start = start;
    begins = begins;
    are_rounds = tt;
    whole = refl;
    added = begins.opened;
    following = begins.whole;
    few = let long : length start ≡ length snapshot + length begins.opened = ap length begins.whole ∙ length-append snapshot begins.opened in omega (arith, long, room);
    different = opened_differ p begins.opened begins.ordered;
  }

-- a round that is cut short is a round
pub short_round : (p : Case) (pairs : List UnitPair) (before : List CutLine) (round : Round) (n : ℕ) → IsRound p pairs before round → IsRound p pairs before (cut_short n round)
short_round p pairs before round n is = record {
  least = is.least;
  found = All-take (IsFoundCut p pairs round.share) n round.cuts is.found;
  states = pairs_take (λ a b. a.state ≢ b.state) n round.cuts is.states;
}

module _ (p : Case) (pairs : List UnitPair) (snapshot : List CutLine) (rounds : List Round) (cuts : List CutLine) (known : All (IsCut p) snapshot) (w : IsWorkedList p pairs snapshot rounds cuts) where
  -- the cuts of a worked list are cuts of the case
  pub worked_cuts : All (IsCut p) cuts
  worked_cuts = subst (λ cs. All (IsCut p) cs) (sym w.whole) (rounds_cuts p pairs w.units w.start rounds (beginning_cuts p snapshot w.start known w.begins) w.are_rounds)

  -- and all different, where those of the snapshot are
  pub worked_differ : AreDifferentCuts snapshot → AreDifferentCuts cuts
  worked_differ different = subst AreDifferentCuts (sym w.whole)
      (rounds_differ p pairs w.units w.start rounds (beginning_cuts p snapshot w.start known w.begins) (beginning_differ p snapshot w.start different w.begins) w.are_rounds)

  -- a worked list and a round after it are a worked list, as long as there is room
  pub worked_on : (round : Round) → IsRound p pairs cuts round → length cuts + length round.cuts ≤ length snapshot + 4096 → IsWorkedList p pairs snapshot (round ∷ rounds) (cuts ++ round.cuts)
  worked_on round is room = record {
    units = w.units;
    start = w.start;
    begins = w.begins;
    are_rounds = (subst (λ cs. IsRound p pairs cs round) w.whole is, w.are_rounds);
    whole = ap (λ cs. cs ++ round.cuts) w.whole;
    added = w.added ++ round.cuts;
    following = ap (λ cs. cs ++ round.cuts) w.following ∙ append_assoc snapshot w.added round.cuts;
    few =
        let long : length cuts ≡ length snapshot + length w.added = ap length w.following ∙ length-append snapshot w.added in
        omega (arith, long, room, length-append w.added round.cuts);
    different = round_differs p pairs w.units cuts round w.added worked_cuts is (λ c h. subst (λ cs. Contains cs c) (sym w.following) (Contains-append_right snapshot w.added c h)) w.different;
  }

  -- a worked list and as many cuts of a round after it as there is room for are a worked list
  pub worked_short : (round : Round) (n : ℕ) → IsRound p pairs cuts round → length cuts + n ≤ length snapshot + 4096 → IsWorkedList p pairs snapshot (cut_short n round ∷ rounds) (cuts ++ take n round.cuts)
  worked_short round n is room = worked_on (cut_short n round) (short_round p pairs cuts round n is) (fits (length cuts) (length snapshot) n (length round.cuts) (length (take n round.cuts)) (length-take n round.cuts) room)
    where
      fits : (c s n l t : ℕ) → t ≡ min n l → c + n ≤ s + 4096 → c + t ≤ s + 4096
      fits c s n l t e h = omega (arith, e, h)
