-- answers of some states: cuts, or the answers of all where none is found
use Rattle.std.proofs.Common.{◌≡◌, ◌≢◌, ◌∙◌, ℕ, zero, suc, ◌+◌, ◌<◌, ◌≤◌, ◌⊎◌, inl, inr, ⊎_elim, List, [], ◌∷◌, ◌++◌, All, Contains, None, Some, get_or, length, slice_get, refl, sym, ap, subst, arith, length-append}
use Rattle.net_core.proofs.Library.{All-append, All-nil, All-push, All-weaker, Contains-append_left, Contains-append_right, all_pairs_push, flat_map-append, none_within}
use Rattle.plan_terms.specs.Terms.{Entry, Caps, Case}
use Rattle.plan_types.specs.declared.certificate.Spot.{Spot}
use Rattle.cut_pool.specs.Terms.{cut_of_line}
use Rattle.separator.{specs.declared.answers.Separated.Separated, specs.declared.answers.Separated.TheVariants.{Routed, Violated, Wide}, specs.declared.answers.StateAnswer.StateAnswer, specs.Separators.{AreAnswersUntilCut, AreRoundAnswers, AreStateAnswers, AreViolatedStates, IsAnswerOf, IsSpotIn, cut_answered, cuts_answered}, specs.inner.Working.{AreCutsAnswered, AreOtherAnswers}, proofs.Answering.answer_later, proofs.Seeing.get_more}

-- an item of two lists is one of the first, or one of the second
pub get_both : {X : Type 0} (xs ys : List X) (i : ℕ) (c : X) → slice_get (xs ++ ys) i ≡ Some c
    → ((i < length xs) × (slice_get xs i ≡ Some c)) ⊎ ((j : ℕ) × (i ≡ length xs + j) × (slice_get ys j ≡ Some c))
get_both [] ys i c at = inr (i, omega arith, at)
get_both (x ∷ xs) ys zero c at = inl (omega arith, at)
get_both (x ∷ xs) ys (suc i) c at = ⊎_elim
    (λ p. inl (omega (arith, p.0), p.1))
    (λ p. inr (p.0, omega (arith, p.1), p.2))
    (get_both xs ys i c at)

-- where nothing is answered, no cut is pooled
pub none_pooled : (cuts : List (ℕ × List ℕ)) → All (Contains []) cuts → cuts ≡ []
none_pooled [] among = refl
none_pooled (c ∷ cs) among = absurd (none_within c (among 0 c (omega arith)))

pub among_none : (answered cuts : List (ℕ × List ℕ)) → answered ≡ [] → All (Contains answered) cuts → cuts ≡ []
among_none answered cuts is among = none_pooled cuts (subst (λ (named : List (ℕ × List ℕ)). All (Contains named) cuts) is among)

among_more : (answers : List StateAnswer) (a : StateAnswer) (xs ys : List (ℕ × List ℕ)) → All (Contains (cuts_answered answers)) xs → All (Contains (cut_answered a.answer)) ys
    → All (Contains (cuts_answered (answers ++ a ∷ []))) (xs ++ ys)
among_more answers a xs ys so_far named =
    let both : cuts_answered (answers ++ a ∷ []) ≡ cuts_answered answers ++ (cut_answered a.answer ++ []) = flat_map-append (λ (x : StateAnswer). cut_answered x.answer) answers (a ∷ []) in
    subst (λ (cs : List (ℕ × List ℕ)). All (Contains cs) (xs ++ ys)) (sym both)
    (All-append (Contains (cuts_answered answers ++ (cut_answered a.answer ++ []))) xs ys
    (λ k d lt. Contains-append_left (cuts_answered answers) (cut_answered a.answer ++ []) (get_or xs k d) (so_far k d lt))
    (λ k d lt. Contains-append_right (cuts_answered answers) (cut_answered a.answer ++ []) (get_or ys k d)
    (Contains-append_left (cut_answered a.answer) [] (get_or ys k d) (named k d lt))))

none_both : (xs ys : List StateAnswer) → cuts_answered xs ≡ [] → cuts_answered ys ≡ [] → cuts_answered (xs ++ ys) ≡ []
none_both xs ys one two = flat_map-append (λ (x : StateAnswer). cut_answered x.answer) xs ys ∙ (ap (λ (cs : List (ℕ × List ℕ)). cs ++ cuts_answered ys) one ∙ two)

module _ (p : Case) (caps : Caps) where
  -- ---- answers that are no cuts

  -- an answer without a cut holds at any history
  any_history : (h now : List Entry) (s : ℕ) (answer : Separated) → cut_answered answer ≡ [] → IsAnswerOf p caps h s answer → IsAnswerOf p caps now s answer
  any_history h now s (Routed routing) none is = is
  any_history h now s (Violated line spot) none is = absurd (let e : cut_of_line line ∷ [] ≡ [] = none in cc e)
  any_history h now s (Wide evidence) none is = is

  pub others_none : (m : ℕ) (answers : List StateAnswer) → answers ≡ [] → AreOtherAnswers p caps m m answers
  others_none m answers is = record {
    count = let none = ap length is in omega (arith, none);
    each = λ now i a at. absurd (let e : None ≡ Some a = ap (λ (xs : List StateAnswer). slice_get xs i) (sym is) ∙ at in cc e);
    none = ap cuts_answered is;
  }

  pub others_more : (h : List Entry) (m n : ℕ) (answers : List StateAnswer) (a : StateAnswer) → AreOtherAnswers p caps m n answers → a.state.0 ≡ n → cut_answered a.answer ≡ []
      → IsAnswerOf p caps h n a.answer → AreOtherAnswers p caps m (n + 1) (answers ++ a ∷ [])
  others_more h m n answers a are state none is = record {
    count = let few = are.count in omega (arith, few, length-append answers (a ∷ []));
    each = λ now i x at. ⊎_elim
        (λ (before : (i < length answers) × (slice_get answers i ≡ Some x)). are.each now i x before.1)
        (λ (last : (i ≡ length answers) × (a ≡ x)).
        let here : n ≡ m + i = let few = are.count in omega (arith, few, last.0) in
        let there : (a.state.0 ≡ m + i) × IsAnswerOf p caps now (m + i) a.answer = (state ∙ here, subst (λ k. IsAnswerOf p caps now k a.answer) here (any_history h now n a.answer none is)) in
        subst (λ (y : StateAnswer). (y.state.0 ≡ m + i) × IsAnswerOf p caps now (m + i) y.answer) last.1 there)
        (get_more answers a i x at);
    none = none_both answers (a ∷ []) are.none (ap (λ (cs : List (ℕ × List ℕ)). cs ++ []) none);
  }

  pub others_both : (m n t : ℕ) (xs ys : List StateAnswer) → AreOtherAnswers p caps m n xs → AreOtherAnswers p caps n t ys → AreOtherAnswers p caps m t (xs ++ ys)
  others_both m n t xs ys one two = record {
    count = let first = one.count in let second = two.count in omega (arith, first, second, length-append xs ys);
    each = λ now i x at. ⊎_elim
        (λ (before : (i < length xs) × (slice_get xs i ≡ Some x)). one.each now i x before.1)
        (λ (after : (j : ℕ) × (i ≡ length xs + j) × (slice_get ys j ≡ Some x)).
        let here : n + after.0 ≡ m + i = let first = one.count in omega (arith, first, after.1) in
        let is = two.each now after.0 x after.2 in
        (is.0 ∙ here, subst (λ k. IsAnswerOf p caps now k x.answer) here is.1))
        (get_both xs ys i x at);
    none = none_both xs ys one.none two.none;
  }

  others_all : (h : List Entry) (answers : List StateAnswer) → AreOtherAnswers p caps 0 (length p.listed + 1) answers → AreStateAnswers p caps h answers
  others_all h answers are = record {
    count = let all = are.count in omega (arith, all);
    each = λ s a at.
        let is = are.each h s a at in
        let same : 0 + s ≡ s = omega arith in
        (is.0 ∙ same, subst (λ k. IsAnswerOf p caps h k a.answer) same is.1);
  }

  -- the answers from a state on, after those of the states before it
  pub ring_answers : (h : List Entry) (start : ℕ) (answers later all : List StateAnswer) → AreOtherAnswers p caps 0 start answers
      → AreOtherAnswers p caps start (length p.listed + 1) later → all ≡ answers ++ later → AreAnswersUntilCut p caps h all
  ring_answers h start answers later all one two is =
      let both = others_both 0 start (length p.listed + 1) answers later one two in
      subst (AreAnswersUntilCut p caps h) (sym is) (inr (others_all h (answers ++ later) both, both.none))

  -- a round that stops early
  pub until_cut_are_of_round : (h : List Entry) (answers : List StateAnswer) → AreAnswersUntilCut p caps h answers → AreRoundAnswers p caps h answers
  until_cut_are_of_round h answers are = ⊎_elim
      (λ (cuts : AreViolatedStates p caps h answers). inr cuts)
      (λ (all : AreStateAnswers p caps h answers × (cuts_answered answers ≡ [])). inl all.0)
      are

  -- ---- answers that are cuts

  pub cuts_unanswered : (n : ℕ) (h : List Entry) (answers : List StateAnswer) → answers ≡ [] → AreCutsAnswered p caps n h [] answers
  cuts_unanswered n h answers is = subst (AreCutsAnswered p caps n h []) (sym is) (record {
    below = All-nil (λ (a : StateAnswer). a.state.0 < n);
    different = λ i j d ij lj. absurd (omega (arith, lj));
    right = All-nil (λ (a : StateAnswer). IsAnswerOf p caps h a.state.0 a.answer);
    are_cuts = refl;
    among = All-nil (Contains []);
  })

  pub answered_wider : (m n : ℕ) (h : List Entry) (cuts : List (ℕ × List ℕ)) (answers : List StateAnswer) → m ≤ n → AreCutsAnswered p caps m h cuts answers → AreCutsAnswered p caps n h cuts answers
  answered_wider m n h cuts answers le are = record {
    below = All-weaker (λ (a : StateAnswer). a.state.0 < m) (λ (a : StateAnswer). a.state.0 < n) (λ a lt. omega (arith, lt, le)) answers are.below;
    different = are.different;
    right = are.right;
    are_cuts = are.are_cuts;
    among = are.among;
  }

  pub answered_later : (h later : List Entry) → ((cut : ℕ × List ℕ) (spot : Spot) → IsSpotIn h cut spot → IsSpotIn later cut spot)
      → (n : ℕ) (cuts : List (ℕ × List ℕ)) (answers : List StateAnswer) → AreCutsAnswered p caps n h cuts answers → AreCutsAnswered p caps n later cuts answers
  answered_later h later stands n cuts answers are = record {
    below = are.below;
    different = are.different;
    right = All-weaker (λ (x : StateAnswer). IsAnswerOf p caps h x.state.0 x.answer) (λ (x : StateAnswer). IsAnswerOf p caps later x.state.0 x.answer)
        (λ x old. answer_later p caps h later stands x.state.0 x.answer old) answers are.right;
    are_cuts = are.are_cuts;
    among = are.among;
  }

  -- in a later history in which each cut keeps its spot
  pub cut_more : (h later : List Entry) → ((cut : ℕ × List ℕ) (spot : Spot) → IsSpotIn h cut spot → IsSpotIn later cut spot)
      → (n : ℕ) (xs ys : List (ℕ × List ℕ)) (answers : List StateAnswer) (a : StateAnswer) → AreCutsAnswered p caps n h xs answers
      → a.state.0 ≡ n → IsAnswerOf p caps later n a.answer → length (cut_answered a.answer) ≡ 1 → All (Contains (cut_answered a.answer)) ys
      → AreCutsAnswered p caps (n + 1) later (xs ++ ys) (answers ++ a ∷ [])
  cut_more h later stands n xs ys answers a so_far state is one named =
      let both : cuts_answered (answers ++ a ∷ []) ≡ cuts_answered answers ++ (cut_answered a.answer ++ []) = flat_map-append (λ (x : StateAnswer). cut_answered x.answer) answers (a ∷ []) in
      record {
        below = All-push (λ (x : StateAnswer). x.state.0 < n + 1) answers a
            (All-weaker (λ (x : StateAnswer). x.state.0 < n) (λ (x : StateAnswer). x.state.0 < n + 1) (λ x lt. omega (arith, lt)) answers so_far.below) (omega (arith, state));
        different = all_pairs_push (λ (x y : StateAnswer). x.state.0 ≢ y.state.0) answers a so_far.different (λ k d lt same. let low = so_far.below k d lt in omega (arith, low, same, state));
        right = All-push (λ (x : StateAnswer). IsAnswerOf p caps later x.state.0 x.answer) answers a
            (All-weaker (λ (x : StateAnswer). IsAnswerOf p caps h x.state.0 x.answer) (λ (x : StateAnswer). IsAnswerOf p caps later x.state.0 x.answer)
            (λ x old. answer_later p caps h later stands x.state.0 x.answer old) answers so_far.right)
            (subst (λ k. IsAnswerOf p caps later k a.answer) (sym state) is);
        are_cuts =
            let count = so_far.are_cuts in
            let long = ap length both in
            omega (arith, long, count, one, length-append (cuts_answered answers) (cut_answered a.answer ++ []), length-append (cut_answered a.answer) [], length-append answers (a ∷ []));
        among = among_more answers a xs ys so_far.among named;
      }

  -- the cut of one state
  pub cut_alone : (h : List Entry) (s n : ℕ) (cuts : List (ℕ × List ℕ)) (a : StateAnswer) → s < n → a.state.0 ≡ s → IsAnswerOf p caps h s a.answer → length (cut_answered a.answer) ≡ 1
      → All (Contains (cut_answered a.answer)) cuts → AreCutsAnswered p caps n h cuts (a ∷ [])
  cut_alone h s n cuts a lt state is one named =
      answered_wider (s + 1) n h cuts (a ∷ []) (omega (arith, lt)) (cut_more h h (λ cut spot at. at) s [] cuts [] a (cuts_unanswered s h [] refl) state is one named)

  pub cuts_are_some : (h : List Entry) (cuts : List (ℕ × List ℕ)) (answers : List StateAnswer) → AreCutsAnswered p caps (length p.listed + 1) h cuts answers → 0 < length answers
      → AreAnswersUntilCut p caps h answers
  cuts_are_some h cuts answers are some = inl (record {
    some = some;
    different = are.different;
    right = λ k d lt. let low = are.below k d lt in (omega (arith, low), are.right k d lt);
    cuts = are.are_cuts;
  })
