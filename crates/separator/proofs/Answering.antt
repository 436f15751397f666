-- what is answered of the states, one after another
use Rattle.std.{proofs.Common.{◌≡◌, ◌≢◌, ◌∙◌, ℕ, ◌+◌, ◌*◌, ◌<◌, ◌≤◌, ◌⊎◌, inl, inr, ⊎_elim, List, [], ◌∷◌, ◌++◌, All, AllPairs, Contains, None, Some, drop, get_or, length, slice_get, refl, sym, ap, subst, arith, sum_by, zip, append-nil, length-append}, proofs.lemmas.List.Concat.flat_map-append}
use Rattle.net_core.proofs.Library.{drop-append-le, All-append, All-cons, All-nil, All-weaker, Contains-append_left, Contains-append_right, front_rest, all_pairs_push}
use Rattle.plan_terms.specs.Terms.{Demand, Entry, Caps, Network, CutLine, States, Case, graph_in, IsCut, Keeps}
use Rattle.metric_cut.{specs.Cuts.IsLineAt, specs.declared.cut.Cut.Cut, proofs.Lines.line_is_cut}
use Rattle.plan_types.specs.declared.certificate.Spot.{Spot}
use Rattle.cut_pool.{specs.declared.board.Board.Board, specs.Terms.{origin_of, cut_of_line, cuts_of}}
use Rattle.separator.{specs.declared.answers.Separated.Separated, specs.declared.answers.Separated.TheVariants.{Routed, Violated, Wide}, specs.declared.answers.StateAnswer.StateAnswer, specs.Findings.IsFoundCutOf, specs.declared.one_by_one.Beginning.Beginning, specs.Separators.{Frame, IsAnswerOf, IsSeparatingCut, IsSpotIn, SeparatesAt, SeesMore, cut_answered, cuts_answered, cuts_after}, specs.inner.Seen.drop_is_part, specs.inner.Working.{AreAnswersBelow, AreCutsBelow, AreCutsOf, PoolsBelow, PoolsMore, PoolsOf, PoolsOnly, state_and_lengths}, proofs.Pooling.{pools_both, pools_none, pools_since, spot_later}, proofs.Seeing.get_more}

-- ---- the cut of a state

-- the line of a cut has its state and its lengths
pub line_is : (demands : List Demand) (cut : Cut) (line : CutLine) → IsLineAt demands cut line → cut_of_line line ≡ state_and_lengths cut
line_is demands cut line is = let one = ap (λ st. st.0) is.state in let two = is.lengths in cc (one, two)

-- it is the cut that is answered
pub cut_named : (demands : List Demand) (cut : Cut) (line : CutLine) → IsLineAt demands cut line → (spot : Spot) (cuts : List (ℕ × List ℕ)) → (cuts ≡ []) ⊎ (cuts ≡ state_and_lengths cut ∷ [])
    → All (Contains (cut_answered (Violated line spot))) cuts
cut_named demands cut line is spot cuts only =
    let named = cut_answered (Violated line spot) in
    ⊎_elim
    (λ none. subst (All (Contains named)) (sym none) (All-nil (Contains named)))
    (λ one. subst (All (Contains named)) (sym one) (All-cons (Contains named) (state_and_lengths cut) [] (0, omega arith, line_is demands cut line is) (All-nil (Contains named))))
    only

-- no cuts
pub no_cuts : (p : Case) (caps : Caps) (s : ℕ) → AreCutsOf p caps s []
no_cuts p caps s = record { few = omega arith; of = All-nil (λ (c : ℕ × List ℕ). c.0 ≡ s); separating = All-nil (SeparatesAt p caps) }

-- the cuts of a board that pools nothing more, or this cut
at_most_since : (old new : Board) (cut : ℕ × List ℕ) → PoolsOnly old new cut → (cuts_after old.entries new.entries ≡ []) ⊎ (cuts_after old.entries new.entries ≡ cut ∷ [])
at_most_since old new cut only = ⊎_elim
    (λ (none : PoolsMore old new []). inl (pools_since old new [] none))
    (λ (one : PoolsMore old new (cut ∷ [])). inr (pools_since old new (cut ∷ []) one))
    only

module _ (p : Case) (caps : Caps) (s : ℕ) (cut : Cut) (line : CutLine) (found : IsFoundCutOf (graph_in p s) p.demands caps cut) (is : IsLineAt p.demands cut line) where
  -- its state is the one that was asked
  pub state_asked : line.state.0 ≡ s
  state_asked = ap (λ st. st.0) is.state ∙ sym found.of.state

  -- and it is a cut that the capacities violate
  pub line_separates : IsSeparatingCut p caps line
  line_separates =
      let there : s ≡ line.state.0 = sym state_asked in
      let same : cut.lengths ≡ line.lengths = sym is.lengths in
      let violated = found.violated line.right (is.right (graph_in p s) found.of) in
      record {
        cut = line_is_cut p s cut line found.of is;
        violated = subst (λ ls. sum_by (λ x. x.0 * x.1) (zip ls caps.nums) < line.right * caps.scale) same violated;
        lengths = found.lengths;
        priced = found.priced;
        keeps = subst (λ k. Keeps (graph_in p k) found.lengths line.lengths) there (subst (Keeps (graph_in p s) found.lengths) same found.keeps);
      }

  pub cut_separates : SeparatesAt p caps (state_and_lengths cut)
  cut_separates = record { line = line; same = line_is p.demands cut line is; separating = line_separates }

  -- what is answered of the state, where the cut has a spot
  pub violated_answer : (history : List Entry) (spot : Spot) → IsSpotIn history (state_and_lengths cut) spot → IsAnswerOf p caps history s (Violated line spot)
  violated_answer history spot at = (state_asked, line_separates, subst (λ c. IsSpotIn history c spot) (sym (line_is p.demands cut line is)) at)

  -- what is pooled for the state: nothing, or this cut
  pub cuts_at_most : (cuts : List (ℕ × List ℕ)) → (cuts ≡ []) ⊎ (cuts ≡ state_and_lengths cut ∷ []) → AreCutsOf p caps s cuts
  cuts_at_most cuts only = ⊎_elim
      (λ none. subst (AreCutsOf p caps s) (sym none) (no_cuts p caps s))
      (λ one. subst (AreCutsOf p caps s) (sym one) (record {
        few = omega arith;
        of = All-cons (λ (c : ℕ × List ℕ). c.0 ≡ s) (state_and_lengths cut) [] (sym found.of.state) (All-nil (λ (c : ℕ × List ℕ). c.0 ≡ s));
        separating = All-cons (SeparatesAt p caps) (state_and_lengths cut) [] cut_separates (All-nil (SeparatesAt p caps));
      }))
      only

  -- so it is on a board
  pub pools_only : (old new : Board) → PoolsOnly old new (state_and_lengths cut) → PoolsOf p caps s old new (cuts_after old.entries new.entries)
  pools_only old new only =
      let since = cuts_after old.entries new.entries in
      record {
        pools = ⊎_elim
            (λ (none : PoolsMore old new []). subst (PoolsMore old new) (sym (pools_since old new [] none)) none)
            (λ (one : PoolsMore old new (state_and_lengths cut ∷ [])). subst (PoolsMore old new) (sym (pools_since old new (state_and_lengths cut ∷ []) one)) one)
            only;
        cuts_are = cuts_at_most since (at_most_since old new (state_and_lengths cut) only);
      }

-- where a board pools nothing more, or this cut, it is the cut that is answered
pub among_answered : (demands : List Demand) (cut : Cut) (line : CutLine) → IsLineAt demands cut line → (old new : Board) (spot : Spot) → PoolsOnly old new (state_and_lengths cut)
    → All (Contains (cut_answered (Violated line spot))) (cuts_after old.entries new.entries)
among_answered demands cut line is old new spot only = cut_named demands cut line is spot (cuts_after old.entries new.entries) (at_most_since old new (state_and_lengths cut) only)

-- a board whose pool stays as it is
pub of_same : (p : Case) (caps : Caps) (s : ℕ) (old new : Board) → PoolsMore old new [] → PoolsOf p caps s old new (cuts_after old.entries new.entries)
of_same p caps s old new pools = subst (PoolsOf p caps s old new) (sym (pools_since old new [] pools)) (record { pools = pools; cuts_are = no_cuts p caps s })

pub of_none : (p : Case) (caps : Caps) (s : ℕ) (b : Board) → PoolsOf p caps s b b (cuts_after b.entries b.entries)
of_none p caps s b = of_same p caps s b b (pools_none b)

pub none_among : (b : Board) (named : List (ℕ × List ℕ)) → All (Contains named) (cuts_after b.entries b.entries)
none_among b named = subst (All (Contains named)) (sym (pools_since b b [] (pools_none b))) (All-nil (Contains named))

-- ---- one state after another

-- cuts of different states, and at most one of a further state
different_more : (n : ℕ) (xs ys : List (ℕ × List ℕ)) → All (λ c. c.0 < n) xs → AllPairs (λ x y. x.0 ≢ y.0) xs → length ys ≤ 1 → All (λ c. c.0 ≡ n) ys → AllPairs (λ x y. x.0 ≢ y.0) (xs ++ ys)
different_more n xs [] below different few of = subst (AllPairs (λ x y. x.0 ≢ y.0)) (sym (append-nil xs)) different
different_more n xs (y ∷ []) below different few of = all_pairs_push (λ x y. x.0 ≢ y.0) xs y different
    (λ k d lt same. let low = below k d lt in let last : y.0 ≡ n = of 0 y (omega arith) in omega (arith, low, last, same))
different_more n xs (y ∷ z ∷ ys) below different few of = absurd (omega (arith, few))

module _ (p : Case) (caps : Caps) where
  pub cuts_none : AreCutsBelow p caps 0 []
  cuts_none = record {
    below = All-nil (λ (c : ℕ × List ℕ). c.0 < 0);
    different = λ i j d lt within. absurd (omega (arith, within));
    separating = All-nil (SeparatesAt p caps);
  }

  pub cuts_more : (n : ℕ) (xs ys : List (ℕ × List ℕ)) → AreCutsBelow p caps n xs → AreCutsOf p caps n ys → AreCutsBelow p caps (n + 1) (xs ++ ys)
  cuts_more n xs ys one two = record {
    below = All-append (λ (x : ℕ × List ℕ). x.0 < n + 1) xs ys
        (All-weaker (λ (x : ℕ × List ℕ). x.0 < n) (λ (x : ℕ × List ℕ). x.0 < n + 1) (λ x lt. omega (arith, lt)) xs one.below)
        (All-weaker (λ (x : ℕ × List ℕ). x.0 ≡ n) (λ (x : ℕ × List ℕ). x.0 < n + 1) (λ x is. omega (arith, is)) ys two.of);
    different = different_more n xs ys one.below one.different two.few two.of;
    separating = All-append (SeparatesAt p caps) xs ys one.separating two.separating;
  }

  pub cuts_weaker : (m n : ℕ) (cuts : List (ℕ × List ℕ)) → m ≤ n → AreCutsBelow p caps m cuts → AreCutsBelow p caps n cuts
  cuts_weaker m n cuts le one = record {
    below = All-weaker (λ (x : ℕ × List ℕ). x.0 < m) (λ (x : ℕ × List ℕ). x.0 < n) (λ x lt. omega (arith, lt, le)) cuts one.below;
    different = one.different;
    separating = one.separating;
  }

  pub below_none : (b : Board) → PoolsBelow p caps 0 b b (cuts_after b.entries b.entries)
  below_none b = subst (PoolsBelow p caps 0 b b) (sym (pools_since b b [] (pools_none b))) (record { pools = pools_none b; cuts_are = cuts_none })

  pub below_more : (n : ℕ) (a b c : Board) → PoolsBelow p caps n a b (cuts_after a.entries b.entries) → PoolsOf p caps n b c (cuts_after b.entries c.entries)
      → PoolsBelow p caps (n + 1) a c (cuts_after a.entries c.entries)
  below_more n a b c one two =
      let xs = cuts_after a.entries b.entries in
      let ys = cuts_after b.entries c.entries in
      let both = pools_both a b c xs ys one.pools two.pools in
      subst (PoolsBelow p caps (n + 1) a c) (sym (pools_since a c (xs ++ ys) both)) (record { pools = both; cuts_are = cuts_more n xs ys one.cuts_are two.cuts_are })

  pub below_weaker : (m n : ℕ) (a b : Board) → m ≤ n → PoolsBelow p caps m a b (cuts_after a.entries b.entries) → PoolsBelow p caps n a b (cuts_after a.entries b.entries)
  below_weaker m n a b le one = record { pools = one.pools; cuts_are = cuts_weaker m n (cuts_after a.entries b.entries) le one.cuts_are }

  -- in a later history in which each cut keeps its spot
  module _ (h later : List Entry) (stands : (cut : ℕ × List ℕ) (spot : Spot) → IsSpotIn h cut spot → IsSpotIn later cut spot) where
    pub answer_later : (s : ℕ) (answer : Separated) → IsAnswerOf p caps h s answer → IsAnswerOf p caps later s answer
    answer_later s (Routed routing) is = is
    answer_later s (Violated line spot) is = (is.0, is.1, stands (cut_of_line line) spot is.2)
    answer_later s (Wide evidence) is = is

    pub answers_more : (n : ℕ) (xs ys : List (ℕ × List ℕ)) (answers : List StateAnswer) (answer : StateAnswer) → AreAnswersBelow p caps n h xs answers
        → answer.state.0 ≡ n → IsAnswerOf p caps later n answer.answer → All (Contains (cut_answered answer.answer)) ys
        → AreAnswersBelow p caps (n + 1) later (xs ++ ys) (answers ++ answer ∷ [])
    answers_more n xs ys answers answer so_far state is named =
        let all = cuts_answered (answers ++ answer ∷ []) in
        let both : all ≡ cuts_answered answers ++ (cut_answered answer.answer ++ []) = flat_map-append (λ (x : StateAnswer). cut_answered x.answer) answers (answer ∷ []) in
        record {
          count = let few = so_far.count in omega (arith, few, length-append answers (answer ∷ []));
          each = λ s x at. ⊎_elim
              (λ (before : (s < length answers) × (slice_get answers s ≡ Some x)).
              let old = so_far.each s x before.1 in (old.0, answer_later s x.answer old.1))
              (λ (last : (s ≡ length answers) × (answer ≡ x)).
              let here : s ≡ n = last.0 ∙ so_far.count in
              let there : (answer.state.0 ≡ s) × IsAnswerOf p caps later s answer.answer = (state ∙ sym here, subst (λ k. IsAnswerOf p caps later k answer.answer) (sym here) is) in
              subst (λ (y : StateAnswer). (y.state.0 ≡ s) × IsAnswerOf p caps later s y.answer) last.1 there)
              (get_more answers answer s x at);
          among = subst (λ (cs : List (ℕ × List ℕ)). All (Contains cs) (xs ++ ys)) (sym both)
              (All-append (Contains (cuts_answered answers ++ (cut_answered answer.answer ++ []))) xs ys
              (λ k d lt. Contains-append_left (cuts_answered answers) (cut_answered answer.answer ++ []) (get_or xs k d) (so_far.among k d lt))
              (λ k d lt. Contains-append_right (cuts_answered answers) (cut_answered answer.answer ++ []) (get_or ys k d)
              (Contains-append_left (cut_answered answer.answer) [] (get_or ys k d) (named k d lt))));
        }

  pub board_answers_more : (n : ℕ) (a b c : Board) (answers : List StateAnswer) (answer : StateAnswer) → PoolsMore a b (cuts_after a.entries b.entries) → PoolsMore b c (cuts_after b.entries c.entries)
      → AreAnswersBelow p caps n b.entries (cuts_after a.entries b.entries) answers
      → answer.state.0 ≡ n → IsAnswerOf p caps c.entries n answer.answer → All (Contains (cut_answered answer.answer)) (cuts_after b.entries c.entries)
      → AreAnswersBelow p caps (n + 1) c.entries (cuts_after a.entries c.entries) (answers ++ answer ∷ [])
  board_answers_more n a b c answers answer first second so_far state is named =
      let xs = cuts_after a.entries b.entries in
      let ys = cuts_after b.entries c.entries in
      subst (λ cuts. AreAnswersBelow p caps (n + 1) c.entries cuts (answers ++ answer ∷ [])) (sym (pools_since a c (xs ++ ys) (pools_both a b c xs ys first second)))
      (answers_more b.entries c.entries (λ cut spot. spot_later b c ys cut spot second) n xs ys answers answer so_far state is named)

  -- at first no state is answered
  pub board_unasked : (b : Board) (answers : List StateAnswer) → answers ≡ [] → AreAnswersBelow p caps 0 b.entries (cuts_after b.entries b.entries) answers
  board_unasked b answers none = subst (AreAnswersBelow p caps 0 b.entries (cuts_after b.entries b.entries)) (sym none) (record {
    count = refl;
    each = λ s a at. absurd (let e : None ≡ Some a = at in cc e);
    among = none_among b [];
  })

-- ---- the separator

-- what no call changes, by the origin of the board and the number of entries that it began with
abbrev frame_by : ℕ → Network × States × List Demand → Frame Beginning
frame_by began origin = record { network = origin.0; states = origin.1; mark = record { opening = origin.2; entries = began } }

pub same_frame : (began : ℕ) (old new : Board) → origin_of new ≡ origin_of old → frame_by began (origin_of new) ≡ frame_by began (origin_of old)
same_frame began old new same = ap (frame_by began) same

module _ (began : ℕ) (old new : Board) (cuts : List (ℕ × List ℕ)) (within : began ≤ length old.entries) (pools : PoolsMore old new cuts) where
  own_now : drop began new.entries ≡ drop began old.entries ++ pools.more
  own_now = ap (drop began) pools.entries ∙ drop-append-le began old.entries pools.more within

  -- its own entries are what the board has got
  pub sees_more : SeesMore (record { history = old.entries; own = drop began old.entries }) (record { history = new.entries; own = drop began new.entries })
  sees_more = record {
    further = pools.more;
    seen = pools.entries;
    committed = pools.more;
    own_is = own_now;
    among = drop_is_part 0 pools.more;
    pooled = pools.pooled;
  }

  -- its own new cuts are those that the board has got
  pub own_cuts : cuts_after (drop began old.entries) (drop began new.entries) ≡ cuts
  own_cuts = ap cuts_of (front_rest (drop began new.entries) (drop began old.entries) pools.more own_now) ∙ pools.are
