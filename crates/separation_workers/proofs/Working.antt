-- what a caller pools and answers while it goes through the states
use Rattle.std.proofs.Common.{◌≡◌, ◌∙◌, ℕ, ◌+◌, ◌≤◌, ⊎_elim, List, [], ◌∷◌, ◌++◌, All, Contains, length, refl, sym, ap, arith, subst, append-nil, append_assoc, length-append}
use Rattle.net_core.proofs.Library.{∥∥₁_elim, props, front_rest}
use Rattle.plan_terms.specs.Terms.{Entry, Caps, Case}
use Rattle.plan_types.specs.declared.certificate.Spot.{Spot}
use Rattle.board_desk.{specs.declared.caller.Caller.Caller, specs.Turns.{IsSameCaller, caller_seen}, proofs.Passes.BoardDesk}
use Rattle.turn_lock.specs.Passes.{opening_of}
use Rattle.cut_pool.specs.Terms.{cuts_of}
use Rattle.separator.{specs.declared.answers.StateAnswer.StateAnswer, specs.Separators.{IsAnswerOf, IsSpotIn, cut_answered, cuts_since}, specs.inner.Working.{AddsCut, AreAnswersBelow, AreCutsAnswered, AreCutsBelow, AreCutsOf, AreOtherAnswers, ContinueTo, IsCutAnswer}, proofs.Lemmas.{answers_more, cuts_more, cuts_none, cuts_weaker, no_cuts, cuts_both, sees_both, sees_none, spot_later, among_none, answered_later, answered_wider, cut_more, cuts_unanswered, others_more}}
use Rattle.separation_workers.{specs.declared.round.Round.Round, specs.Callers.SeesOn, specs.inner.Rounds.{IsInRound, IsPutApart}}

abbrev pub cuts_pooled : Caller → Caller → List (ℕ × List ℕ)
cuts_pooled a b = cuts_since (caller_seen a) (caller_seen b)

-- a caller of a round is in the round after each step
module _ (r : Round) where
  pub stays : (a : Caller) → IsInRound r a → SeesOn a a
  stays a at = record { same = record { own = at.own; desk = refl; number = refl; units = refl }; seen = at.seen; more = sees_none (caller_seen a) }

  pub still_in : (a b : Caller) → IsInRound r a → SeesOn a b → IsInRound r b
  still_in a b at goes = record {
    own = goes.same.own;
    seen = goes.seen;
    net = ap (λ (d : BoardDesk). (opening_of d).net.now) goes.same.desk ∙ at.net;
    states = ap (λ (d : BoardDesk). (opening_of d).states.now) goes.same.desk ∙ at.states;
  }

same_both : (a b t : Caller) → IsSameCaller a b → IsSameCaller b t → IsSameCaller a t
same_both a b t one two = record { own = two.own; desk = two.desk ∙ one.desk; number = two.number ∙ one.number; units = two.units ∙ one.units }

pub goes_on : (a b t : Caller) → SeesOn a b → SeesOn b t → SeesOn a t
goes_on a b t first second = record {
  same = same_both a b t first.same second.same;
  seen = second.seen;
  more = sees_both (caller_seen a) (caller_seen b) (caller_seen t) first.more second.more;
}

-- the cuts of two steps
pub pooled_none : (a : Caller) → [] ≡ cuts_pooled a a
pooled_none a = let own = (caller_seen a).own in sym (ap cuts_of (front_rest own own [] (sym (append-nil own))))

-- no cut is pooled, so all that are have any property
pub none_among : (a : Caller) (P : ℕ × List ℕ → Type 0) → All P (cuts_pooled a a)
none_among a P = subst (All P) (pooled_none a) (λ k d lt. absurd (omega (arith, lt)))

pooled_both : (a b t : Caller) → SeesOn a b → SeesOn b t → cuts_pooled a b ++ cuts_pooled b t ≡ cuts_pooled a t
pooled_both a b t one_step next_step =
    let first = one_step.more in
    let second = next_step.more in
    let own = λ (c : Caller). (caller_seen c).own in
    let one : cuts_pooled a b ≡ cuts_of first.committed = ap cuts_of (front_rest (own b) (own a) first.committed first.own_is) in
    let two : cuts_pooled b t ≡ cuts_of second.committed = ap cuts_of (front_rest (own t) (own b) second.committed second.own_is) in
    let all : cuts_pooled a t ≡ cuts_of (first.committed ++ second.committed) =
    ap cuts_of (front_rest (own t) (own a) (first.committed ++ second.committed)
    (second.own_is ∙ (ap (λ es. es ++ second.committed) first.own_is ∙ append_assoc (own a) first.committed second.committed))) in
    ap (λ cs. cs ++ cuts_pooled b t) one ∙ (ap (λ cs. cuts_of first.committed ++ cs) two ∙ (sym (cuts_both first.committed second.committed) ∙ sym all))

-- where nothing is answered, no cut is pooled
pub pooled_nothing : (a b : Caller) (answered : List (ℕ × List ℕ)) → answered ≡ [] → All (Contains answered) (cuts_pooled a b) → cuts_pooled a b ≡ []
pooled_nothing a b answered is among = among_none answered (cuts_pooled a b) is among

pub pooled_after_nothing : (a b t : Caller) → SeesOn a b → SeesOn b t → cuts_pooled a b ≡ [] → cuts_pooled b t ≡ cuts_pooled a t
pooled_after_nothing a b t first second none = ap (λ (cs : List (ℕ × List ℕ)). cs ++ cuts_pooled b t) (sym none) ∙ pooled_both a b t first second

-- cuts that are pooled after nothing was
pub among_after_nothing : (a b t : Caller) (answered : List (ℕ × List ℕ)) → SeesOn a b → SeesOn b t → cuts_pooled a b ≡ [] → All (Contains answered) (cuts_pooled b t) → All (Contains answered) (cuts_pooled a t)
among_after_nothing a b t answered first second none among = subst (All (Contains answered)) (pooled_after_nothing a b t first second none) among

pub among_nothing : (a b : Caller) (answered : List (ℕ × List ℕ)) → cuts_pooled a b ≡ [] → All (Contains answered) (cuts_pooled a b)
among_nothing a b answered none = subst (All (Contains answered)) (sym none) (λ k d lt. absurd (omega (arith, lt)))

-- a cut keeps its spot after a step
stands_later : (a b : Caller) → SeesOn a b → (cut : ℕ × List ℕ) (spot : Spot) → IsSpotIn (caller_seen a).history cut spot → IsSpotIn (caller_seen b).history cut spot
stands_later a b goes cut spot at =
    let more = goes.more in
    let few : length (caller_seen b).history ≤ 65536 = ∥∥₁_elim goes.seen (hlevel props) (λ s. s.few) in
    let few_cuts : length (cuts_of (caller_seen b).history) ≤ 4096 = ∥∥₁_elim goes.seen (hlevel props) (λ s. s.few_cuts) in
    subst (λ es. IsSpotIn es cut spot) (sym more.seen)
    (spot_later (caller_seen a).history more.further cut spot (subst (λ es. length es ≤ 65536) more.seen few) (subst (λ es. length (cuts_of es) ≤ 4096) more.seen few_cuts) at)

module _ (p : Case) (caps : Caps) where
  pub none_of_state : (s : ℕ) (a : Caller) → AreCutsOf p caps s (cuts_pooled a a)
  none_of_state s a = subst (AreCutsOf p caps s) (pooled_none a) (no_cuts p caps s)

  pub none_so_far : (a : Caller) → AreCutsBelow p caps 0 (cuts_pooled a a)
  none_so_far a = subst (AreCutsBelow p caps 0) (pooled_none a) (cuts_none p caps)

  pub none_below : (all : ℕ) (a : Caller) → AreCutsBelow p caps all (cuts_pooled a a)
  none_below all a = cuts_weaker p caps 0 all (cuts_pooled a a) (omega arith) (none_so_far a)

  module _ (n : ℕ) (a b t : Caller) (first : SeesOn a b) (second : SeesOn b t) where
    pub one_state_more : AreCutsBelow p caps n (cuts_pooled a b) → AreCutsOf p caps n (cuts_pooled b t) → AreCutsBelow p caps (n + 1) (cuts_pooled a t)
    one_state_more one two = subst (AreCutsBelow p caps (n + 1)) (pooled_both a b t first second) (cuts_more p caps n (cuts_pooled a b) (cuts_pooled b t) one two)

    pub stopped_at : (all : ℕ) → n + 1 ≤ all → AreCutsBelow p caps n (cuts_pooled a b) → AreCutsOf p caps n (cuts_pooled b t) → AreCutsBelow p caps all (cuts_pooled a t)
    stopped_at all le one two = cuts_weaker p caps (n + 1) all (cuts_pooled a t) le (one_state_more one two)

    pub one_answer_more : (answers : List StateAnswer) (answer : StateAnswer) → AreAnswersBelow p caps n (caller_seen b).history (cuts_pooled a b) answers
        → answer.state.0 ≡ n → IsAnswerOf p caps (caller_seen t).history n answer.answer → All (Contains (cut_answered answer.answer)) (cuts_pooled b t)
        → AreAnswersBelow p caps (n + 1) (caller_seen t).history (cuts_pooled a t) (answers ++ answer ∷ [])
    one_answer_more answers answer so_far state is named =
        subst (λ cuts. AreAnswersBelow p caps (n + 1) (caller_seen t).history cuts (answers ++ answer ∷ [])) (pooled_both a b t first second)
        (answers_more p caps (caller_seen b).history (caller_seen t).history (stands_later b t second) n (cuts_pooled a b) (cuts_pooled b t) answers answer so_far state is named)

  -- ---- some states

  pub unanswered : (n : ℕ) (a : Caller) (answers : List StateAnswer) → answers ≡ [] → AreCutsAnswered p caps n (caller_seen a).history (cuts_pooled a a) answers
  unanswered n a answers is = subst (λ (cuts : List (ℕ × List ℕ)). AreCutsAnswered p caps n (caller_seen a).history cuts answers) (pooled_none a) (cuts_unanswered p caps n (caller_seen a).history answers is)

  pub nothing_below : (n : ℕ) (a b : Caller) → cuts_pooled a b ≡ [] → AreCutsBelow p caps n (cuts_pooled a b)
  nothing_below n a b none = subst (AreCutsBelow p caps n) (sym none) (cuts_weaker p caps 0 n [] (omega arith) (cuts_none p caps))

  pub answered_none : (n : ℕ) (a b : Caller) (answers : List StateAnswer) → cuts_pooled a b ≡ [] → answers ≡ [] → AreCutsAnswered p caps n (caller_seen b).history (cuts_pooled a b) answers
  answered_none n a b answers none is =
      subst (λ (cuts : List (ℕ × List ℕ)). AreCutsAnswered p caps n (caller_seen b).history cuts answers) (sym none) (cuts_unanswered p caps n (caller_seen b).history answers is)

  -- a caller that has pooled nothing, and then cuts of states below m
  pub below_after_nothing : (m n : ℕ) (a b t : Caller) → m ≤ n → SeesOn a b → SeesOn b t → cuts_pooled a b ≡ [] → AreCutsBelow p caps m (cuts_pooled b t) → AreCutsBelow p caps n (cuts_pooled a t)
  below_after_nothing m n a b t le first second none two = cuts_weaker p caps m n (cuts_pooled a t) le (subst (AreCutsBelow p caps m) (pooled_after_nothing a b t first second none) two)

  pub answered_after_nothing : (m n : ℕ) (a b t : Caller) (answers : List StateAnswer) → m ≤ n → SeesOn a b → SeesOn b t → cuts_pooled a b ≡ []
      → AreCutsAnswered p caps m (caller_seen t).history (cuts_pooled b t) answers → AreCutsAnswered p caps n (caller_seen t).history (cuts_pooled a t) answers
  answered_after_nothing m n a b t answers le first second none are =
      answered_wider p caps m n (caller_seen t).history (cuts_pooled a t) answers le
      (subst (λ (cuts : List (ℕ × List ℕ)). AreCutsAnswered p caps m (caller_seen t).history cuts answers) (pooled_after_nothing a b t first second none) are)

  module _ (n : ℕ) (a b t : Caller) (first : SeesOn a b) (second : SeesOn b t) where
    pub one_cut_more : (answers : List StateAnswer) (answer : StateAnswer) → AreCutsAnswered p caps n (caller_seen b).history (cuts_pooled a b) answers
        → answer.state.0 ≡ n → IsAnswerOf p caps (caller_seen t).history n answer.answer → length (cut_answered answer.answer) ≡ 1 → All (Contains (cut_answered answer.answer)) (cuts_pooled b t)
        → AreCutsAnswered p caps (n + 1) (caller_seen t).history (cuts_pooled a t) (answers ++ answer ∷ [])
    one_cut_more answers answer so_far state is one named =
        subst (λ (cuts : List (ℕ × List ℕ)). AreCutsAnswered p caps (n + 1) (caller_seen t).history cuts (answers ++ answer ∷ [])) (pooled_both a b t first second)
        (cut_more p caps (caller_seen b).history (caller_seen t).history (stands_later b t second) n (cuts_pooled a b) (cuts_pooled b t) answers answer so_far state is one named)

    -- a state without a cut
    pub no_cut_more : (answers : List StateAnswer) → AreCutsAnswered p caps n (caller_seen b).history (cuts_pooled a b) answers → cuts_pooled b t ≡ []
        → AreCutsAnswered p caps (n + 1) (caller_seen t).history (cuts_pooled a t) answers
    no_cut_more answers so_far none =
        let same : cuts_pooled a b ≡ cuts_pooled a t = sym (append-nil (cuts_pooled a b)) ∙ (ap (λ (cs : List (ℕ × List ℕ)). cuts_pooled a b ++ cs) (sym none) ∙ pooled_both a b t first second) in
        answered_wider p caps n (n + 1) (caller_seen t).history (cuts_pooled a t) answers (omega arith)
        (subst (λ (cuts : List (ℕ × List ℕ)). AreCutsAnswered p caps n (caller_seen t).history cuts answers) same
        (answered_later p caps (caller_seen b).history (caller_seen t).history (stands_later b t second) n (cuts_pooled a b) answers so_far))

    -- a state of which a cut may be answered
    pub adds_more : (answers now : List StateAnswer) → AreCutsAnswered p caps n (caller_seen b).history (cuts_pooled a b) answers
        → AddsCut p caps n (caller_seen t).history (cuts_pooled b t) answers now → AreCutsAnswered p caps (n + 1) (caller_seen t).history (cuts_pooled a t) now
    adds_more answers now so_far adds = ⊎_elim
        (λ (none : (now ≡ answers) × (cuts_pooled b t ≡ [])).
        subst (AreCutsAnswered p caps (n + 1) (caller_seen t).history (cuts_pooled a t)) (sym none.0) (no_cut_more answers so_far none.1))
        (λ (one : (x : StateAnswer) × (now ≡ answers ++ x ∷ []) × IsCutAnswer p caps n (caller_seen t).history (cuts_pooled b t) x).
        subst (AreCutsAnswered p caps (n + 1) (caller_seen t).history (cuts_pooled a t)) (sym one.1)
        (one_cut_more answers one.0 so_far one.2.state one.2.answer one.2.one one.2.among))
        adds

    -- an answer that goes to the cuts or to the others
    pub put_more : (x : StateAnswer) (cuts cuts_now others others_now : List StateAnswer) → IsPutApart x cuts cuts_now others others_now
        → x.state.0 ≡ n → IsAnswerOf p caps (caller_seen t).history n x.answer → All (Contains (cut_answered x.answer)) (cuts_pooled b t)
        → AreCutsAnswered p caps n (caller_seen b).history (cuts_pooled a b) cuts → AreCutsAnswered p caps (n + 1) (caller_seen t).history (cuts_pooled a t) cuts_now
    put_more x cuts cuts_now others others_now put state is named so_far = ⊎_elim
        (λ (one : (length (cut_answered x.answer) ≡ 1) × (cuts_now ≡ cuts ++ x ∷ []) × (others_now ≡ others)).
        subst (AreCutsAnswered p caps (n + 1) (caller_seen t).history (cuts_pooled a t)) (sym one.1) (one_cut_more cuts x so_far state is one.0 named))
        (λ (none : (cut_answered x.answer ≡ []) × (cuts_now ≡ cuts) × (others_now ≡ others ++ x ∷ [])).
        subst (AreCutsAnswered p caps (n + 1) (caller_seen t).history (cuts_pooled a t)) (sym none.1) (no_cut_more cuts so_far (pooled_nothing b t (cut_answered x.answer) none.0 named)))
        put

  -- an answer more among those that are no cuts, while there is no cut
  pub put_goes_on : (h : List Entry) (from n : ℕ) (start : List StateAnswer) (x : StateAnswer) (cuts cuts_now others others_now : List StateAnswer) → IsPutApart x cuts cuts_now others others_now
      → x.state.0 ≡ n → IsAnswerOf p caps h n x.answer → (cuts ≡ [] → ContinueTo p caps from n start others) → cuts_now ≡ [] → ContinueTo p caps from (n + 1) start others_now
  put_goes_on h from n start x cuts cuts_now others others_now put state is so_far empty m are = ⊎_elim
      (λ (one : (length (cut_answered x.answer) ≡ 1) × (cuts_now ≡ cuts ++ x ∷ []) × (others_now ≡ others)).
      absurd (let none = ap length (sym one.1 ∙ empty) in omega (arith, none, length-append cuts (x ∷ []))))
      (λ (none : (cut_answered x.answer ≡ []) × (cuts_now ≡ cuts) × (others_now ≡ others ++ x ∷ [])).
      subst (AreOtherAnswers p caps m (n + 1)) (sym none.2) (others_more p caps h m n others x (so_far (sym none.1 ∙ empty) m are) state none.0 is))
      put
