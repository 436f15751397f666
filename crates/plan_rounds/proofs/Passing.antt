-- rounds at least shares whose units are too wide
use Rattle.std.proofs.Common.{◌≡◌, ℕ, zero, suc, ◌+◌, ◌-◌, ◌*◌, ◌<◌, ◌≤◌, ⊎_elim, Bool, true, false, List, [], ◌∷◌, ◌++◌, All, Option, Some, None, length, mul-pos, take, refl, sym, ap, subst, ◌∙◌, arith, append-nil, append_assoc, length-append, length-take}
use Rattle.net_core.proofs.Library.{length-map, take-append_seam}
use Rattle.plan_terms.specs.Terms.{Caps, CutLine, Entry, Route, Master, Case, AreDemands, IsModule, IsNetwork, IsCut, Violates}
use Rattle.module_prices.specs.declared.cheapest.UnitPair.{UnitPair}
use Rattle.plan_types.{specs.declared.quality.Share.Share, specs.declared.quality.Cause.TheVariants.{Wide, Cuts}, specs.declared.quality.Quality.Quality, specs.declared.quality.Quality.TheVariants.{Tight, Loose}}
use Rattle.route_law.proofs.Lemmas.{divided_are_violated}
use Rattle.master_law.{specs.Terms.{AreUnitPairs, IsLeastShare, share_capacities, share_caps}, proofs.Capacities.share_count, proofs.PairsOnce.links_once}
use Rattle.master_bound.specs.declared.answer.Best.{Best}
use Rattle.length_master.specs.WideShares.{AreLeastCaps}
use Rattle.plan_law.{specs.WorkedLists.{AreRounds, IsRound, IsWorkedList, Round, after_rounds}, proofs.Rounds.worked_on}
use Rattle.plan_rounds.{specs.WorkedRounds.{AreWorkedRounds, EndsBy, IsBestOfLast}, specs.inner.Answered.AreSorted, specs.inner.Listing.AreListed, specs.inner.Turns.{AddsFound, AddsRound, ArePassed, Extends, IsFurther, IsLaterTurn, IsOpenTurn, IsPast, IsTurnAfter, IsTurnOf, worked_of}, specs.declared.candidates.Candidates.Candidates, specs.inner.Sharing.IsDividedCaps, specs.declared.shares.ShareCaps.ShareCaps, specs.declared.rounds.Turn.Turn, specs.declared.rounds.Turn.TheVariants.{Further, Last}, specs.declared.sorted_answers.Answered.Answered, proofs.Turning.{GivesNoLess, IsWorking, divided_gives, further_room, listed_round, proper, round, taken_few, taken_some, working_ends, working_on}}

module _ (p : Case) (pairs : List UnitPair) where
  -- ---- the share behind capacities

  -- what capacities of a least share violate, that share violates
  pub least_of : (lines : List CutLine) (caps : Caps) → All (λ l. All IsModule l.modules) p.links → AreUnitPairs p.links pairs → AreLeastCaps p.links lines caps
      → (share : Share) × IsLeastShare p.links pairs lines share × GivesNoLess p pairs caps share
  least_of lines caps sound units is =
      let same = links_once p.links sound is.pairs pairs is.units units in (
        is.share,
        subst (λ ps. IsLeastShare p.links ps lines is.share) same is.least,
        λ line violated. subst (λ ps. Violates (share_caps p.links ps is.share) line) same
            ((divided_are_violated is.of_share (share_caps p.links is.pairs is.share) line is.positive.1).1
            (subst (λ k. Violates k line) is.same ((divided_are_violated is.factor caps line is.positive.0).0 violated))),
      )

  pub least_scale : (lines : List CutLine) (caps : Caps) → AreLeastCaps p.links lines caps → 0 < caps.scale
  least_scale lines caps is = positive caps.scale (ap (λ k. k.scale) is.same)
    where
      some : 0 < is.of_share * is.share.scale
      some = mul-pos is.positive.1 (proper p is.pairs lines is.share is.least).positive

      positive : (s : ℕ) → is.factor * s ≡ is.of_share * is.share.scale → 0 < s
      positive zero e = absurd (let h = some in omega (arith, e, h))
      positive (suc s) e = omega arith

  pub least_count : (lines : List CutLine) (caps : Caps) → AreLeastCaps p.links lines caps → length caps.nums ≡ length p.links
  least_count lines caps is =
      sym (length-map caps.nums (λ n. is.factor * n))
      ∙ (ap (λ k. length k.nums) is.same
      ∙ (length-map (share_capacities p.links is.pairs is.share) (λ n. is.of_share * n) ∙ share_count p.links is.pairs is.share is.units.count is.least.count))

  pub divided_least : (caps : Caps) (c : ShareCaps) (share : Share) → IsDividedCaps caps c → GivesNoLess p pairs caps share → GivesNoLess p pairs c.divided share
  divided_least caps c share is gives line violated = gives line (divided_gives p pairs caps c line is violated)

  -- ---- a round

  module _ (h : List Entry) (n room : ℕ) (share : Share) (caps : Caps) (a : Answered) (old new : Candidates)
      (units : AreUnitPairs p.links pairs) (least : IsLeastShare p.links pairs old.lines share) (gives : GivesNoLess p pairs caps share) (sorted : AreSorted p caps h n a) where
    pub added_listed : (added : Bool) → ∥ IsNetwork p.nodes p.links ∥₁ → length p.nodes ≤ 128 → AreDemands (length p.nodes) p.demands → AreListed p h old → AddsFound room a old new added → AreListed p h new
    added_listed true checked few belong are adds = listed_round p pairs h n room share caps a old units least gives sorted new checked few belong are adds.0
    added_listed false checked few belong are same = subst (AreListed p h) (sym same) are

    pub added_round : (added : Bool) → AddsFound room a old new added → AddsRound p pairs room old new added
    added_round true adds = (
      record { share = share; cuts = take room a.found.lines },
      round p pairs h n room share caps a old units least gives sorted,
      adds.0.lines,
      subst (λ k. 0 < k) (sym (length-take room a.found.lines)) (taken_some p pairs room (length a.found.lines) adds.1 adds.2),
      subst (λ k. k ≤ room) (sym (length-take room a.found.lines)) (taken_few p pairs room (length a.found.lines)),
      record { more_lines = take room a.found.lines; more_spots = take room a.found.spots; lines = adds.0.lines; spots = adds.0.spots },
    )
    added_round false same = same

  -- ---- rounds

  passed_more : (most room : ℕ) (old mid new : List CutLine) (one : Round) → ArePassed p pairs most old mid → IsRound p pairs mid one → new ≡ mid ++ one.cuts → length one.cuts ≤ room → length mid + room ≤ most
      → ArePassed p pairs most old new
  passed_more most room old mid new one passed is whole few fits = record {
    rounds = one ∷ passed.rounds;
    are_rounds = (subst (λ cs. IsRound p pairs cs one) passed.whole is, passed.are_rounds);
    whole = whole ∙ ap (λ cs. cs ++ one.cuts) passed.whole;
    few = let long = ap length whole ∙ length-append mid one.cuts in omega (arith, long, few, fits);
  }

  pub past_none : (most : ℕ) (c : Candidates) → length c.lines ≤ most → IsPast p pairs most c c
  past_none most c few = record {
    passed = record { rounds = []; are_rounds = tt; whole = refl; few = few };
    extends = record { more_lines = []; more_spots = []; lines = sym (append-nil c.lines); spots = sym (append-nil c.spots) };
  }

  extends_both : (a b c : Candidates) → Extends a b → Extends b c → Extends a c
  extends_both a b c one two = record {
    more_lines = one.more_lines ++ two.more_lines;
    more_spots = one.more_spots ++ two.more_spots;
    lines = two.lines ∙ (ap (λ xs. xs ++ two.more_lines) one.lines ∙ append_assoc a.lines one.more_lines two.more_lines);
    spots = two.spots ∙ (ap (λ xs. xs ++ two.more_spots) one.spots ∙ append_assoc a.spots one.more_spots two.more_spots);
  }

  -- without what has come, the cuts and spots are those of before
  pub taken_back : (count : ℕ) (old mid back : Candidates) → count ≡ length old.lines → length old.spots ≡ length old.lines → Extends old mid → back.lines ≡ take count mid.lines → back.spots ≡ take count mid.spots → back ≡ old
  taken_back count old mid back is spots extends back_lines back_spots =
      let lines_are : back.lines ≡ old.lines = back_lines ∙ (ap (λ xs. take count xs) extends.lines ∙ (ap (λ n. take n (old.lines ++ extends.more_lines)) is ∙ take-append_seam old.lines extends.more_lines)) in
      let spots_are : back.spots ≡ old.spots = back_spots ∙ (ap (λ xs. take count xs) extends.spots ∙ (ap (λ n. take n (old.spots ++ extends.more_spots)) (is ∙ sym spots) ∙ take-append_seam old.spots extends.more_spots)) in
      ap (λ xs. record { lines = xs; spots = back.spots }) lines_are ∙ ap (λ xs. record { lines = old.lines; spots = xs }) spots_are

  -- a round that is added, or not, after those that have come
  pub past_added : (most : ℕ) (old mid new : Candidates) (added : Bool) → IsPast p pairs most old mid → AddsRound p pairs (most - length mid.lines) mid new added → IsPast p pairs most old new
  past_added most old mid new true past adds = record {
    passed = let few = past.passed.few in passed_more most (most - length mid.lines) old.lines mid.lines new.lines adds.0 past.passed adds.1 adds.2 adds.4 (omega (arith, few));
    extends = extends_both old mid new past.extends adds.5;
  }
  past_added most old mid new false past same = subst (IsPast p pairs most old) (sym same) past

  -- a round that is added leaves less room
  pub less_room : (most : ℕ) (mid new : Candidates) → length mid.lines ≤ most → AddsRound p pairs (most - length mid.lines) mid new true → most - length new.lines < most - length mid.lines
  less_room most mid new fits adds = let long = ap length adds.2 ∙ length-append mid.lines adds.0.cuts in let some = adds.3 in let few = adds.4 in omega (arith, long, some, few, fits)

  -- rounds after a worked list make a worked list
  pub worked_past : (pool : List CutLine) (rounds passed : List Round) (lines : List CutLine) → All (IsCut p) pool → IsWorkedList p pairs pool rounds lines → AreRounds p pairs lines passed
      → length (after_rounds lines passed) ≤ length pool + 4096 → IsWorkedList p pairs pool (passed ++ rounds) (after_rounds lines passed)
  worked_past pool rounds [] lines known worked are few = worked
  worked_past pool rounds (last ∷ earlier) lines known worked are few =
      let long = length-append (after_rounds lines earlier) last.cuts in
      let before = worked_past pool rounds earlier lines known worked are.1 (omega (arith, long, few)) in
      worked_on p pairs pool (earlier ++ rounds) (after_rounds lines earlier) known before last are.0 (omega (arith, long, few))

  -- rounds make a list no shorter
  longer : (old : List CutLine) (rounds : List Round) → length old ≤ length (after_rounds old rounds)
  longer old [] = omega arith
  longer old (last ∷ earlier) = let before = longer old earlier in let more = length-append (after_rounds old earlier) last.cuts in omega (arith, before, more)

  later_long : (old mid : List CutLine) (most : ℕ) → ArePassed p pairs most old mid → length old ≤ length mid
  later_long old mid most passed = subst (λ ls. length old ≤ length ls) (sym passed.whole) (longer old passed.rounds)

  later_list : (pool old mid : List CutLine) (most : ℕ) → All (IsCut p) pool → most ≤ length pool + 4096 → (before : Option Best) (w : IsWorking p pairs pool old before) (passed : ArePassed p pairs most old mid)
      → IsWorkedList p pairs pool (passed.rounds ++ w.rounds) mid
  later_list pool old mid most known fits before w passed =
      subst (λ ls. IsWorkedList p pairs pool (passed.rounds ++ w.rounds) ls) (sym passed.whole)
      (worked_past pool w.rounds passed.rounds old known w.list passed.are_rounds (let few = passed.few in let long = ap length passed.whole in omega (arith, few, fits, long)))

  -- ---- turns after such rounds

  -- where the end doesn't hang on what came before, no evidence of the program brings it
  pub never_master : (cuts : List CutLine) (Full : Type 0) (some : Best) (best : Option Best) (quality : Quality) → EndsBy p pairs cuts Full (λ b. b ≡ None) best quality → EndsBy p pairs cuts Full (λ b. b ≡ Some some) best quality
      → EndsBy p pairs cuts Full (λ b. ⊥) best quality
  never_master cuts Full some best (Tight fractional) one two = one
  never_master cuts Full some None (Loose (Wide (Route state caps basis kind))) one two = one
  never_master cuts Full some (Some b) (Loose (Wide (Route state caps basis kind))) one two = one
  never_master cuts Full some best (Loose (Wide (Master basis kind))) one two = absurd (let e : None ≡ Some some = sym one.1 ∙ two.1 in cc e)
  never_master cuts Full some best (Loose Cuts) one two = one

  -- so a turn that is one whatever came before is open
  pub open_turn : (room : ℕ) (some : Best) (mid new : List CutLine) (turn : Turn) → IsTurnOf p pairs room None mid new turn → IsTurnOf p pairs room (Some some) mid new turn → IsOpenTurn p pairs room mid new turn
  open_turn room some mid new (Further best) one two = one
  open_turn room some mid new (Last best quality) one two = (one.0, never_master mid (room ≡ 0) some best quality one.1 two.1)

  pub turn_room : (most : ℕ) (before : Option Best) (old new : List CutLine) (best : Best) → length old ≤ most → IsTurnAfter p pairs most before old new (Further best) → (length new ≤ most) × (most - length new < most - length old)
  turn_room most before old new best fits turn = ⊎_elim
      (λ (f : IsFurther p pairs (most - length old) before old new best). further_room p pairs (most - length old) most before old new best refl fits f)
      (λ (later : IsLaterTurn p pairs most old new (Further best)).
      let f = later.after in
      let few = later.passed.few in
      let long : length new ≡ length later.mid + length f.found = ap length f.lines ∙ length-append later.mid f.found in
      let long_mid = later_long old later.mid most later.passed in
      (omega (arith, long, f.few, few), omega (arith, long, f.few, f.some, few, long_mid)))
      turn

  pub turn_further : (pool old new : List CutLine) (before : Option Best) (most : ℕ) (best : Best) → All (IsCut p) pool → length pool + 4096 ≡ most → length old ≤ most → IsWorking p pairs pool old before
      → IsTurnAfter p pairs most before old new (Further best) → IsWorking p pairs pool new (Some best)
  turn_further pool old new before most best known same fits w turn = ⊎_elim
      (λ (f : IsFurther p pairs (most - length old) before old new best). working_on p pairs pool old new before (most - length old) best known (omega (arith, same, fits)) w.rounds w.list f)
      (λ (later : IsLaterTurn p pairs most old new (Further best)).
      let few = later.passed.few in
      let list = later_list pool old later.mid most known (omega (arith, same)) before w later.passed in
      working_on p pairs pool later.mid new None (most - length later.mid) best known (omega (arith, same, few)) (later.passed.rounds ++ w.rounds) list later.after)
      turn

  pub turn_ends : (h : List Entry) (pool old : List CutLine) (c : Candidates) (before best : Option Best) (most : ℕ) (quality : Quality) → All (IsCut p) pool → AreListed p h c → length pool + 4096 ≡ most → length old ≤ most → IsWorking p pairs pool old before
      → IsTurnAfter p pairs most before old c.lines (Last best quality) → AreWorkedRounds p h pool (worked_of c best quality)
  turn_ends h pool old c before best most quality known are same fits w turn = ⊎_elim
      (λ (here : IsTurnOf p pairs (most - length old) before old c.lines (Last best quality)).
      let long = ap length here.0 in
      let worked = subst (λ ls. IsWorking p pairs pool ls before) (sym here.0) w in
      working_ends p pairs (λ b. b ≡ before) h pool c best (most - length old) quality are (omega (arith, long, same, fits)) worked.rounds worked.list
      (λ b last. subst (IsBestOfLast p pairs worked.list.start worked.rounds) (sym last) worked.last) (subst (λ ls. EndsBy p pairs ls (most - length old ≡ 0) (λ b. b ≡ before) best quality) (sym here.0) here.1))
      (λ (later : IsLaterTurn p pairs most old c.lines (Last best quality)).
      let few = later.passed.few in
      let long = ap length later.after.0 in
      let list = later_list pool old later.mid most known (omega (arith, same)) before w later.passed in
      working_ends p pairs (λ b. ⊥) h pool c best (most - length later.mid) quality are (omega (arith, long, same, few)) (later.passed.rounds ++ w.rounds) (subst (λ ls. IsWorkedList p pairs pool (later.passed.rounds ++ w.rounds) ls) (sym later.after.0) list)
      (λ b none. absurd none) (subst (λ ls. EndsBy p pairs ls (most - length later.mid ≡ 0) (λ b. ⊥) best quality) (sym later.after.0) later.after.1))
      turn
