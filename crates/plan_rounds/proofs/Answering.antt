-- the answers of all states, sorted
use Rattle.std.{proofs.Common.{◌≡◌, ◌≢◌, ℕ, ◌+◌, ◌<◌, ◌≤◌, inl, inr, ⊎_elim, List, [], ◌∷◌, ◌++◌, All, AllPairs, IfSome, Some, None, get_or, length, map, slice_get, refl, sym, ap, subst, ◌∙◌, arith, suc}, proofs.lemmas.List.{append-nil, append_assoc, length-append, length-map}}
use Rattle.net_core.proofs.Library.{cases_lt, map-append, All-head, All-nil, All-push, All-tail, All-weaker, all_pairs_push}
use Rattle.plan_terms.specs.Terms.{Entry, Caps, CutLine, Routing, Case, graph_in, HasShortLengths}
use Rattle.separator.{specs.Terms.{IsRouted, AreStateAnswers, AreViolatedStates, IsAnswerOf, IsSeparatingCut, cut_answered, cuts_answered}, specs.declared.answers.Separated.Separated, specs.declared.answers.Separated.TheVariants.{Routed, Violated, Wide}, specs.declared.answers.StateAnswer.StateAnswer, proofs.Seeing.get_more}
use Rattle.cut_pool.specs.Terms.{cut_of_line}
use Rattle.plan_rounds.{specs.WorkedRounds.StandAtSpots, specs.inner.Answered.{AnswersShort, AreSorted, IsEvidenceOfState, IsRoutedOrWide, PutsAnswer}, specs.declared.sorted_answers.Answered.Answered, proofs.Seeing.stand_more}

module _ (p : Case) (caps : Caps) (history : List Entry) where
  -- the answers of the states from n on
  pub record AreAnswersFrom (n : ℕ) (answers : List StateAnswer) : Type 0 where
    pub count : n + length answers ≡ length p.listed + 1
    pub each : (i : ℕ) (a : StateAnswer) → slice_get answers i ≡ Some a → (a.state.0 ≡ n + i) × IsAnswerOf p caps history (n + i) a.answer

module _ (p : Case) (caps : Caps) (history : List Entry) where
  pub answers_all : (answers : List StateAnswer) → AreStateAnswers p caps history answers → AreAnswersFrom p caps history 0 answers
  answers_all answers are = record {
    count = omega (arith, are.count);
    each = λ i a at.
        let h = are.each i a at in
        let same : i ≡ 0 + i = omega arith in
        (h.0 ∙ same, subst (λ s. IsAnswerOf p caps history s a.answer) same h.1);
  }

  -- the first answer, and the others
  pub answers_rest : (n : ℕ) (a : StateAnswer) (rest : List StateAnswer) → AreAnswersFrom p caps history n (a ∷ rest) → IsAnswerOf p caps history n a.answer × AreAnswersFrom p caps history (n + 1) rest
  answers_rest n a rest are = (
    subst (λ s. IsAnswerOf p caps history s a.answer) (let same : n + 0 ≡ n = omega arith in same) (are.each 0 a refl).1,
    record {
      count = omega (arith, are.count);
      each = λ i x at.
          let h = are.each (suc i) x at in
          let same : n + suc i ≡ n + 1 + i = omega arith in
          (h.0 ∙ same, subst (λ s. IsAnswerOf p caps history s x.answer) same h.1);
    },
  )

  pub answers_some : (n : ℕ) (a : StateAnswer) (rest : List StateAnswer) → AreAnswersFrom p caps history n (a ∷ rest) → n ≤ length p.listed
  answers_some n a rest are = omega (arith, are.count)

  pub sorted_none : AreSorted p caps history 0 (record { routings = []; found = record { lines = []; spots = [] }; wide = None })
  sorted_none = record {
    cuts = All-nil (IsSeparatingCut p caps);
    short = All-nil HasShortLengths;
    states = λ i j d ij lj. absurd (omega (arith, lj));
    before = All-nil (λ (c : CutLine). c.state.0 < 0);
    spots = record { count = refl; each = λ i line spot one two. absurd (let e : None ≡ Some line = one in cc e) };
    wide = tt;
    cutless = λ none s inside. absurd (omega (arith, inside));
    routed = λ none not_wide. record { count = refl; each = λ s r at. absurd (let e : None ≡ Some r = at in cc e) };
  }

  one_more : (n : ℕ) → ((s : ℕ) → s < n → IsRoutedOrWide p caps s) → IsRoutedOrWide p caps n → (s : ℕ) → s < n + 1 → IsRoutedOrWide p caps s
  one_more n before here s inside = ⊎_elim
      (λ earlier. before s earlier)
      (λ later. subst (IsRoutedOrWide p caps) (let same : n ≡ s = omega (arith, inside, later) in same) here)
      (cases_lt s n)

  -- one answer more
  pub sorted_more : (n : ℕ) (answer : Separated) (old new : Answered) → n ≤ length p.listed → AreSorted p caps history n old → IsAnswerOf p caps history n answer → AnswersShort answer → PutsAnswer answer old new → AreSorted p caps history (n + 1) new
  sorted_more n (Routed routing) old new inside are is short puts = subst (AreSorted p caps history (n + 1)) (sym puts) (record {
    cuts = are.cuts;
    short = are.short;
    states = are.states;
    before = All-weaker (λ (c : CutLine). c.state.0 < n) (λ c. c.state.0 < n + 1) (λ c lt. omega (arith, lt)) old.found.lines are.before;
    spots = are.spots;
    wide = are.wide;
    cutless = λ none. one_more n (are.cutless none) (inl (routing, is));
    routed = λ none not_wide.
        let before = are.routed none not_wide in
        record {
          count = let same = before.count in omega (arith, same, length-append old.routings (routing ∷ []));
          each = λ s r at. ⊎_elim
              (λ (front : (s < length old.routings) × (slice_get old.routings s ≡ Some r)). before.each s r front.1)
              (λ (last : (s ≡ length old.routings) × (routing ≡ r)).
              subst (λ (x : Routing). IsRouted (graph_in p s) p.demands caps x) last.1
              (subst (λ k. IsRouted (graph_in p k) p.demands caps routing) (sym (last.0 ∙ before.count)) is))
              (get_more old.routings routing s r at);
        };
  })
  sorted_more n (Violated line spot) old new inside are is short puts = subst (AreSorted p caps history (n + 1)) (sym puts) (record {
    cuts = All-push (IsSeparatingCut p caps) old.found.lines line are.cuts is.1;
    short = All-push HasShortLengths old.found.lines line are.short short;
    states = all_pairs_push (λ x y. x.state ≢ y.state) old.found.lines line are.states
        (λ k d lt same. let back : (get_or old.found.lines k d).state.0 ≡ line.state.0 = ap (λ st. st.0) same in omega (arith, are.before k d lt, back, is.0));
    before = All-push (λ (c : CutLine). c.state.0 < n + 1) old.found.lines line
        (All-weaker (λ (c : CutLine). c.state.0 < n) (λ c. c.state.0 < n + 1) (λ c lt. omega (arith, lt)) old.found.lines are.before) (omega (arith, is.0));
    spots = stand_more history old.found.lines old.found.spots line spot are.spots is.2;
    wide = are.wide;
    cutless = λ none. absurd (omega (arith, none, length-append old.found.lines (line ∷ [])));
    routed = λ none. absurd (omega (arith, none, length-append old.found.lines (line ∷ [])));
  })
  sorted_more n (Wide evidence) old new inside are is short puts = subst (AreSorted p caps history (n + 1)) (sym puts) (record {
    cuts = are.cuts;
    short = are.short;
    states = are.states;
    before = All-weaker (λ (c : CutLine). c.state.0 < n) (λ c. c.state.0 < n + 1) (λ c lt. omega (arith, lt)) old.found.lines are.before;
    spots = are.spots;
    wide = (n, inside, is);
    cutless = λ none. one_more n (are.cutless none) (inr (evidence, is));
    routed = λ none not_wide. absurd (let e : Some evidence ≡ None = not_wide in cc e);
  })

-- the cuts that are found, one answer after another
pub found_more : (a : StateAnswer) (rest : List StateAnswer) (old new : Answered) → PutsAnswer a.answer old new → map cut_of_line new.found.lines ++ cuts_answered rest ≡ map cut_of_line old.found.lines ++ cuts_answered (a ∷ rest)
found_more a rest old new puts = ap (λ xs. xs ++ cuts_answered rest) (found_put a.answer old new puts) ∙ append_assoc (map cut_of_line old.found.lines) (cut_answered a.answer) (cuts_answered rest)
  where
    found_put : (answer : Separated) (old new : Answered) → PutsAnswer answer old new → map cut_of_line new.found.lines ≡ map cut_of_line old.found.lines ++ cut_answered answer
    found_put (Routed routing) old new puts = ap (λ (x : Answered). map cut_of_line x.found.lines) puts ∙ sym (append-nil (map cut_of_line old.found.lines))
    found_put (Violated line spot) old new puts = ap (λ (x : Answered). map cut_of_line x.found.lines) puts ∙ map-append cut_of_line old.found.lines (line ∷ [])
    found_put (Wide evidence) old new puts = ap (λ (x : Answered). map cut_of_line x.found.lines) puts ∙ sym (append-nil (map cut_of_line old.found.lines))

-- ---- the answers of some states

module _ (p : Case) (caps : Caps) (history : List Entry) where
  -- the answers so far are sorted, and those that are left are right ones of other states
  pub record AreSomeSorted (rest : List StateAnswer) (a : Answered) : Type 0 where
    pub cuts : All (IsSeparatingCut p caps) a.found.lines
    pub short : All HasShortLengths a.found.lines
    pub states : AllPairs (λ x y. x.state ≢ y.state) a.found.lines
    pub before : All (λ c. c.state.0 < length p.listed + 1) a.found.lines
    pub spots : StandAtSpots history a.found.lines a.found.spots
    pub wide : IfSome a.wide (IsEvidenceOfState p caps)
    pub right : All (λ x. (x.state.0 ≤ length p.listed) × IsAnswerOf p caps history x.state.0 x.answer) rest
    pub different : AllPairs (λ x y. x.state.0 ≢ y.state.0) rest
    pub apart : All (λ x. All (λ c. c.state.0 ≢ x.state.0) a.found.lines) rest

module _ (p : Case) (caps : Caps) (history : List Entry) where
  some_sorted_none : (answers : List StateAnswer) → AreViolatedStates p caps history answers → AreSomeSorted p caps history answers (record { routings = []; found = record { lines = []; spots = [] }; wide = None })
  some_sorted_none answers are = record {
    cuts = All-nil (IsSeparatingCut p caps);
    short = All-nil HasShortLengths;
    states = λ i j d ij lj. absurd (omega (arith, lj));
    before = All-nil (λ (c : CutLine). c.state.0 < length p.listed + 1);
    spots = record { count = refl; each = λ i line spot one two. absurd (let e : None ≡ Some line = one in cc e) };
    wide = tt;
    right = are.right;
    different = are.different;
    apart = λ k d lt. All-nil (λ (c : CutLine). c.state.0 ≢ (get_or answers k d).state.0);
  }

  -- one answer more
  some_sorted_more : (a : StateAnswer) (rest : List StateAnswer) (answer : Separated) (old new : Answered) → AreSomeSorted p caps history (a ∷ rest) old → a.state.0 ≤ length p.listed → IsAnswerOf p caps history a.state.0 answer
      → AnswersShort answer → PutsAnswer answer old new → AreSomeSorted p caps history rest new
  some_sorted_more a rest (Routed routing) old new are inside is short puts = subst (AreSomeSorted p caps history rest) (sym puts) (record {
    cuts = are.cuts;
    short = are.short;
    states = are.states;
    before = are.before;
    spots = are.spots;
    wide = are.wide;
    right = All-tail (λ (x : StateAnswer). (x.state.0 ≤ length p.listed) × IsAnswerOf p caps history x.state.0 x.answer) a rest are.right;
    different = λ i j d ij lj. are.different (suc i) (suc j) d (omega (arith, ij)) (omega (arith, lj));
    apart = All-tail (λ (x : StateAnswer). All (λ (c : CutLine). c.state.0 ≢ x.state.0) old.found.lines) a rest are.apart;
  })
  some_sorted_more a rest (Violated line spot) old new are inside is short puts = subst (AreSomeSorted p caps history rest) (sym puts) (record {
    cuts = All-push (IsSeparatingCut p caps) old.found.lines line are.cuts is.1;
    short = All-push HasShortLengths old.found.lines line are.short short;
    states = all_pairs_push (λ x y. x.state ≢ y.state) old.found.lines line are.states
        (λ k d lt same. are.apart 0 a (omega arith) k d lt (ap (λ st. st.0) same ∙ is.0));
    before = All-push (λ (c : CutLine). c.state.0 < length p.listed + 1) old.found.lines line are.before (omega (arith, is.0, inside));
    spots = stand_more history old.found.lines old.found.spots line spot are.spots is.2;
    wide = are.wide;
    right = All-tail (λ (x : StateAnswer). (x.state.0 ≤ length p.listed) × IsAnswerOf p caps history x.state.0 x.answer) a rest are.right;
    different = λ i j d ij lj. are.different (suc i) (suc j) d (omega (arith, ij)) (omega (arith, lj));
    apart = λ k d lt.
        let x = get_or rest k d in
        let other : a.state.0 ≢ x.state.0 = are.different 0 (suc k) d (omega arith) (omega (arith, lt)) in
        All-push (λ (c : CutLine). c.state.0 ≢ x.state.0) old.found.lines line (are.apart (suc k) d (omega (arith, lt))) (λ same. other (sym is.0 ∙ same));
  })
  some_sorted_more a rest (Wide evidence) old new are inside is short puts = subst (AreSomeSorted p caps history rest) (sym puts) (record {
    cuts = are.cuts;
    short = are.short;
    states = are.states;
    before = are.before;
    spots = are.spots;
    wide = (a.state.0, inside, is);
    right = All-tail (λ (x : StateAnswer). (x.state.0 ≤ length p.listed) × IsAnswerOf p caps history x.state.0 x.answer) a rest are.right;
    different = λ i j d ij lj. are.different (suc i) (suc j) d (omega (arith, ij)) (omega (arith, lj));
    apart = All-tail (λ (x : StateAnswer). All (λ (c : CutLine). c.state.0 ≢ x.state.0) old.found.lines) a rest are.apart;
  })

  pub some_begun : (answers left : List StateAnswer) (made : Answered) → left ≡ answers → made ≡ record { routings = []; found = record { lines = []; spots = [] }; wide = None }
      → AreViolatedStates p caps history answers → AreSomeSorted p caps history left made
  some_begun answers left made same is are =
      subst (AreSomeSorted p caps history left) (sym is) (subst (λ (xs : List StateAnswer). AreSomeSorted p caps history xs (record { routings = []; found = record { lines = []; spots = [] }; wide = None })) (sym same) (some_sorted_none answers are))

  pub some_further : (a : StateAnswer) (rest : List StateAnswer) (old new : Answered) → AreSomeSorted p caps history (a ∷ rest) old → AnswersShort a.answer → PutsAnswer a.answer old new → AreSomeSorted p caps history rest new
  some_further a rest old new are short puts =
      let is = All-head (λ (x : StateAnswer). (x.state.0 ≤ length p.listed) × IsAnswerOf p caps history x.state.0 x.answer) a rest are.right in
      some_sorted_more a rest a.answer old new are is.0 is.1 short puts

  -- all of them, with a cut among them
  pub some_are_sorted : (answers rest : List StateAnswer) (a : Answered) → AreViolatedStates p caps history answers → AreSomeSorted p caps history rest a → map cut_of_line a.found.lines ≡ cuts_answered answers
      → AreSorted p caps history (length p.listed + 1) a
  some_are_sorted answers rest a are some found =
      let cut : 0 < length a.found.lines = omega (arith, are.some, are.cuts, ap length found, length-map a.found.lines cut_of_line) in
      record {
        cuts = some.cuts;
        short = some.short;
        states = some.states;
        before = some.before;
        spots = some.spots;
        wide = some.wide;
        cutless = λ none. absurd (omega (arith, none, cut));
        routed = λ none. absurd (omega (arith, none, cut));
      }
