-- the bound of a plan of a snapshot: certified, and at least all own bounds
use Rattle.std.proofs.Common.{◌≡◌, ℕ, ◌+◌, ◌*◌, ◌<◌, ◌≤◌, inl, inr, ⊎_elim, List, [], ◌∷◌, ◌++◌, All, Contains, ◌⊎◌, Option, Some, None, IfSome, get_or, length, map, slice_get, refl, sym, ap, subst, ◌∙◌, arith, append-nil, append_assoc}
use Rattle.net_core.proofs.Library.{cases_eq, All-map, All-weaker, Contains-append_left, Contains-get_or, get_or_from_slice_get, slice_get-get_or, slice_get_within}
use Rattle.plan_terms.{specs.Terms.{Entry, CutLine, Case, IsNetwork, IsBound, CertificateLine, IsCut, raw_value, HasShortLengths}, proofs.Lemmas.bound_same}
use Rattle.plan_types.specs.Terms.{lines_of_certificate}
use Rattle.plan_report.specs.Terms.{CertLine, Spot, Pool, Local}
use Rattle.cut_pool.specs.Terms.{cut_of_line, cuts_of}
use Rattle.plan_rounds.{specs.Terms.{Best, IsFullHistory, IsSpotIn, AreWorkedRounds, EndsBy, IsBestAt, IsBestOfLast}, specs.declared.rounds.Worked.Worked}
use Rattle.master_law.{specs.Terms.share_cost, proofs.Greatest.greatest_raw, proofs.Own.bound_rises}
use Rattle.plan_law.{specs.WorkedLists.{HasCut, Round, after_rounds}, proofs.Rounds.worked_cuts}
use Rattle.planner.{specs.SnapshotPlans.AreHeld, specs.SoundPlans.{AreOpeningAtMost, IsAboveOwnBounds, IsOwnAtMost}, specs.declared.own_bound.CertifiedBound.CertifiedBound, specs.inner.Finishing.{AreMultipliersOf, IsBetterBound, IsBoundOfMaster, IsGreaterBound, IsShareFor, bound_made}, proofs.BestBounds.{best_certified, each_at_most}, proofs.Candidates.{AreCandidates, IsCertifiedBound}, proofs.GreaterBounds.{best_is_certified, best_multipliers, lines_of_best, lines_of_own, no_greater}, proofs.SnapshotQuality.{HasBest, best_there, if_some, scale_positive, share_for}}

-- rounds only add to a list
rounds_after : (start : List CutLine) (rounds : List Round) → (more : List CutLine) × (after_rounds start rounds ≡ start ++ more)
rounds_after start [] = ([], sym (append-nil start))
rounds_after start (last ∷ earlier) =
    let before = rounds_after start earlier in
    (before.0 ++ last.cuts, ap (λ xs. xs ++ last.cuts) before.1 ∙ append_assoc start before.0 last.cuts)

-- where there is room, a cut with a spot is pooled
spot_held : (history : List Entry) (cut : ℕ × List ℕ) (spot : Spot) → (IsFullHistory history → ⊥) → IsSpotIn history cut spot → Contains (cuts_of history) cut
spot_held history cut (Pool i) room at = (i, slice_get_within (cuts_of history) i cut at, get_or_from_slice_get (cuts_of history) i cut cut at)
spot_held history cut Local room at = absurd (room at.0)

-- The rounds on a pool's cuts, with what is known of the network, of these cuts, and of the history now.
pub record IsWorkedFor (p : Case) (history : List Entry) (pool : List CutLine) (w : Worked) : Type 0 where
  pub net : IsNetwork p.nodes p.links
  pub cuts : All (IsCut p) pool
  pub few_pool : length pool ≤ 4096
  pub few : length (cuts_of history) ≤ 4096
  pub are : AreWorkedRounds p history pool w

module _ {p : Case} {history : List Entry} {pool : List CutLine} {w : Worked} (f : IsWorkedFor p history pool w) where
  abbrev are : AreWorkedRounds p history pool w
  are = f.are

  pub lines_are : All (IsCut p) w.lines
  lines_are = worked_cuts p are.pairs pool are.rounds w.lines f.cuts are.list

  pub candidates_are : AreCandidates p history w
  candidates_are = record { cuts = λ k d lt. record { cut_is = lines_are k d lt; low = are.low k d lt }; stand = are.spots }

  abbrev pub EndsAs : Option Best → Type 0
  EndsAs o = EndsBy p are.pairs w.lines (length w.lines ≡ length pool + 4096) (IsBestOfLast p are.pairs are.list.start are.rounds) o w.quality

  pub has_best : (best : Best) → w.best ≡ Some best → HasBest p w.lines best
  has_best best e = best_there p are.pairs pool w.lines are.rounds are.list w.quality best (subst EndsAs e are.ends)

  pub multipliers_are : IfSome w.best (AreMultipliersOf w)
  multipliers_are = if_some (AreMultipliersOf w) w.best (λ best e. let h = has_best best e in best_multipliers p history w candidates_are h.cuts h.more h.following best h.of)

  pub shares_are : IfSome w.best (IsShareFor p w.quality)
  shares_are = if_some (IsShareFor p w.quality) w.best (λ best e. share_for p are.pairs pool w.lines are.rounds are.list w.quality best (subst EndsAs e are.ends))

  -- each cut is in the history, or that takes no further one
  pub lines_held : AreHeld history w.lines
  lines_held = ⊎_elim
      (λ (full : length (cuts_of history) ≡ 4096). inr (inl full))
      (λ cuts_room. ⊎_elim
      (λ (full : length history ≡ 65536). inr (inr full))
      (λ room. inl (λ k d lt.
      let spot : Spot = get_or w.spots k Local in
      let inside : k < length w.spots = let same = are.spots.count in omega (arith, lt, same) in
      spot_held history (cut_of_line (get_or w.lines k d)) spot (⊎_elim cuts_room room)
      (are.spots.each k (get_or w.lines k d) spot (slice_get-get_or w.lines k d lt) (slice_get-get_or w.spots k Local inside))))
      (cases_eq (length history) 65536))
      (cases_eq (length (cuts_of history)) 4096)

  line_among : (i : ℕ) (line : CutLine) → slice_get w.lines i ≡ Some line → Contains w.lines line
  line_among i line at = (i, slice_get_within w.lines i line at, get_or_from_slice_get w.lines i line line at)

  module _ (short : All HasShortLengths w.lines) (b : CertifiedBound) (better : IsBetterBound p.links w b) where
    own_certified : IsCertifiedBound p history better.own
    own_certified = best_certified p ∣ f.net ∣₁ history f.few w better.own candidates_are better.of_own

    -- ---- the bound is that of the best certificate, or that of the best cut alone

    record IsOfBest : Type 0 where
      pub best : Best
      pub there : HasBest p w.lines best
      pub of : IsBoundOfMaster p.links w best b
      pub at_least : better.own.raw.num * best.raw_den ≤ best.raw_num * better.own.raw.den

    which : (o : Option Best) → w.best ≡ o → IsGreaterBound p.links w better.own o b → IsOfBest ⊎ (b ≡ better.own)
    which None e same = inr same
    which (Some best) e h = ⊎_elim (λ one. inl (record { best = best; there = has_best best e; of = one.0; at_least = one.1 })) (λ two. inr two.0) h

    by_bound : (P : CertifiedBound → Type 0) → ((m : IsOfBest) → P (bound_made w m.best m.of.bound)) → P better.own → P b
    by_bound P best own = ⊎_elim (λ m. subst P (sym m.of.is) (best m)) (λ same. subst P (sym same) own) (which w.best refl better.greater)

    pub bound_certified : IsCertifiedBound p history b
    bound_certified = by_bound (IsCertifiedBound p history)
        (λ m. best_is_certified p history w candidates_are m.there.cuts m.there.more m.there.following m.best m.there.of f.few short m.of.bound m.of.rounded)
        own_certified

    -- each cut of the certificate is one of the lines
    own_among : All (λ (l : CertLine). Contains w.lines l.cut) better.own.certificate.lines
    own_among = lines_of_own p.links w better.own (λ line spot. Contains w.lines line) (λ i line spot at at_spot. line_among i line at) better.of_own

    pub certificate_cuts : All (λ (l : CertLine). Contains w.lines l.cut) b.certificate.lines
    certificate_cuts = by_bound (λ x. All (λ (l : CertLine). Contains w.lines l.cut) x.certificate.lines)
        (λ m. lines_of_best p history w candidates_are m.there.cuts m.there.more m.there.following m.best m.there.of (λ line spot. Contains w.lines line) (λ i line spot at at_spot. line_among i line at))
        own_among

    -- ---- the own bounds

    own_rounded : IsBound p.links better.own.raw.num better.own.raw.den better.own.bound
    own_rounded =
        let is = own_certified in
        bound_same p.links (raw_value p.links (lines_of_certificate better.own.certificate)) better.own.certificate.den better.own.raw.num better.own.raw.den better.own.bound is.certificate.positive is.raw is.rounded

    own_at_most : better.own.bound ≤ b.bound
    own_at_most = by_bound (λ x. better.own.bound ≤ x.bound)
        (λ m.
        let positive = (best_multipliers p history w candidates_are m.there.cuts m.there.more m.there.following m.best m.there.of).positive in
        bound_rises p.links better.own.raw.num better.own.raw.den m.best.raw_num m.best.raw_den m.of.bound better.own.bound positive m.at_least m.of.rounded own_rounded)
        (omega arith)

    listed_at_most : (cut : CutLine) → Contains w.lines cut → IsOwnAtMost p b.bound cut.state.0 cut.lengths
    listed_at_most cut has =
        let at : slice_get w.lines has.0 ≡ Some cut = slice_get-get_or w.lines has.0 cut has.1 ∙ ap Some has.2 in
        let most = each_at_most p history w better.own candidates_are better.of_own has.0 cut at in
        let le = own_at_most in
        record { right = most.right; is_right = most.is_right; own = most.own; is_own = most.is_own; at_most = let one = most.at_most in omega (arith, one, le) }

    opening_at_most : (n : ℕ) → n ≤ length p.listed → AreOpeningAtMost p b.bound n
    opening_at_most n inside =
        let h = are.list.begins.every n inside in
        let following = rounds_after are.list.start are.rounds in
        record {
          lengths = h.lengths;
          opening = h.opening;
          each = All-weaker (λ ls. HasCut are.list.start n ls) (IsOwnAtMost p b.bound n) (λ ls has.
              let cut : CutLine = has.1 in
              let among : Contains w.lines cut = subst (λ xs. Contains xs cut) (sym (are.list.whole ∙ following.1)) (Contains-append_left are.list.start following.0 cut (has.0, has.2, has.3)) in
              subst (λ t. IsOwnAtMost p b.bound t ls) has.4.0 (subst (IsOwnAtMost p b.bound cut.state.0) has.4.1 (listed_at_most cut among))) h.lengths h.each;
        }

    pub above_own : IsAboveOwnBounds p (map cut_of_line pool) b.bound
    above_own = record {
      known = All-map (λ (x : ℕ × List ℕ). IsOwnAtMost p b.bound x.0 x.1) cut_of_line pool (λ k d lt.
          let cut : CutLine = get_or pool k d in
          listed_at_most cut (subst (λ xs. Contains xs cut) (sym are.list.following) (Contains-append_left pool are.list.added cut (Contains-get_or pool k d lt))));
      opening = opening_at_most;
    }

    -- ---- the raw value

    -- where the best certificate is that of all cuts, the raw value is its own
    pub raw_at : (best : Best) → IsGreaterBound p.links w better.own (Some best) b → IsBestAt p are.pairs w.lines best → (b.raw.num ≡ best.raw_num) × (b.raw.den ≡ best.raw_den)
    raw_at best h at = ⊎_elim
        (λ one. (ap (λ (x : CertifiedBound). x.raw.num) one.0.is, ap (λ (x : CertifiedBound). x.raw.den) one.0.is))
        (λ two. absurd (
        let is = own_certified in
        let lines = lines_of_certificate better.own.certificate in
        let listed : All (λ (l : CertificateLine). Contains w.lines l.cut) lines = All-map (λ (l : CertificateLine). Contains w.lines l.cut) (λ (l : CertLine). record { cut = l.cut; num = l.num }) better.own.certificate.lines
        own_among in
        let most = greatest_raw p are.pairs w.lines best.share better.own.certificate.den lines (λ k d lt. (f.net.sound k d lt).each) are.list.units at.least is.certificate listed in
        no_greater (raw_value p.links lines) better.own.certificate.den best.share.scale (share_cost are.pairs best.share) better.own.raw.num better.own.raw.den best.raw_num best.raw_den
        is.certificate.positive (scale_positive p are.pairs w.lines best.share at.least) most is.raw.same at.raw two.1))
        h

    -- it is never below that of the best certificate
    pub raw_more : (best : Best) → IsGreaterBound p.links w better.own (Some best) b → best.raw_num * b.raw.den ≤ b.raw.num * best.raw_den
    raw_more best h = ⊎_elim
        (λ one. subst (λ (x : CertifiedBound). best.raw_num * x.raw.den ≤ x.raw.num * best.raw_den) (sym one.0.is) (omega arith))
        (λ two. subst (λ (x : CertifiedBound). best.raw_num * x.raw.den ≤ x.raw.num * best.raw_den) (sym two.0) (let lt = two.1 in omega (arith, lt)))
        h
