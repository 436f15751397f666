-- boards while some states are asked
use Rattle.std.proofs.Common.{◌≡◌, ◌∙◌, ℕ, ◌+◌, ◌<◌, ◌≤◌, ⊎_elim, List, [], ◌∷◌, ◌++◌, All, Contains, length, sym, ap, subst, arith, append-nil}
use Rattle.net_core.proofs.Library.{All-nil}
use Rattle.plan_terms.specs.Terms.{Caps, Case}
use Rattle.cut_pool.specs.declared.board.Board.{Board}
use Rattle.separator.{specs.declared.answers.StateAnswer.StateAnswer, specs.Separators.{AreAnswersUntilCut, IsAnswerOf, cut_answered, cuts_answered, cuts_after}, specs.inner.Working.{AddsCut, AreCutsAnswered, IsCutAnswer, PoolsBelow, PoolsMore, PoolsOf}, proofs.Answering.{cuts_more, cuts_none, cuts_weaker}, proofs.Pooling.{pools_both, pools_none, pools_since, spot_later}, proofs.SomeAnswers.{among_none, answered_later, answered_wider, cut_more, cuts_are_some, cuts_unanswered}}

-- where nothing is answered, the board pools nothing
pub pools_nothing : (a b : Board) (answered : List (ℕ × List ℕ)) → answered ≡ [] → All (Contains answered) (cuts_after a.entries b.entries) → PoolsMore a b (cuts_after a.entries b.entries) → PoolsMore a b []
pools_nothing a b answered is among pools = subst (PoolsMore a b) (among_none answered (cuts_after a.entries b.entries) is among) pools

pub nothing_both : (a b c : Board) → PoolsMore a b [] → PoolsMore b c [] → PoolsMore a c []
nothing_both a b c one two = pools_both a b c [] [] one two

-- what a board pools after it has pooled nothing
pub cuts_after_nothing : (a b c : Board) → PoolsMore a b [] → PoolsMore b c (cuts_after b.entries c.entries) → cuts_after b.entries c.entries ≡ cuts_after a.entries c.entries
cuts_after_nothing a b c one two = let ys = cuts_after b.entries c.entries in sym (pools_since a c ys (pools_both a b c [] ys one two))

pub among_after_nothing : (a b c : Board) (answered : List (ℕ × List ℕ)) → PoolsMore a b [] → PoolsMore b c (cuts_after b.entries c.entries) → All (Contains answered) (cuts_after b.entries c.entries)
    → All (Contains answered) (cuts_after a.entries c.entries)
among_after_nothing a b c answered none more among = subst (All (Contains answered)) (cuts_after_nothing a b c none more) among

module _ (p : Case) (caps : Caps) where
  pub nothing_below : (n : ℕ) (a b : Board) → PoolsMore a b [] → PoolsBelow p caps n a b (cuts_after a.entries b.entries)
  nothing_below n a b none = subst (PoolsBelow p caps n a b) (sym (pools_since a b [] none)) (record { pools = none; cuts_are = cuts_weaker p caps 0 n [] (omega arith) (cuts_none p caps) })

  -- the cut of a state below n
  pub of_is_below : (s n : ℕ) (a b : Board) → s < n → PoolsOf p caps s a b (cuts_after a.entries b.entries) → PoolsBelow p caps n a b (cuts_after a.entries b.entries)
  of_is_below s n a b lt one =
      let cuts = cuts_after a.entries b.entries in
      record {
        pools = one.pools;
        cuts_are = cuts_weaker p caps (s + 1) n cuts (omega (arith, lt)) (cuts_more p caps s [] cuts (cuts_weaker p caps 0 s [] (omega arith) (cuts_none p caps)) one.cuts_are);
      }

  pub below_after_nothing : (m n : ℕ) (a b c : Board) → m ≤ n → PoolsMore a b [] → PoolsBelow p caps m b c (cuts_after b.entries c.entries) → PoolsBelow p caps n a c (cuts_after a.entries c.entries)
  below_after_nothing m n a b c le one two =
      let ys = cuts_after b.entries c.entries in
      let both = pools_both a b c [] ys one two.pools in
      subst (PoolsBelow p caps n a c) (sym (pools_since a c ys both)) (record { pools = both; cuts_are = cuts_weaker p caps m n ys le two.cuts_are })

  -- cuts that are answered after nothing was pooled
  pub answered_after_nothing : (n : ℕ) (a b c : Board) (answers : List StateAnswer) → PoolsMore a b [] → PoolsMore b c (cuts_after b.entries c.entries)
      → AreCutsAnswered p caps n c.entries (cuts_after b.entries c.entries) answers → AreCutsAnswered p caps n c.entries (cuts_after a.entries c.entries) answers
  answered_after_nothing n a b c answers none more are =
      subst (λ (cuts : List (ℕ × List ℕ)). AreCutsAnswered p caps n c.entries cuts answers) (cuts_after_nothing a b c none more) are

  pub board_unanswered : (n : ℕ) (b : Board) (answers : List StateAnswer) → answers ≡ [] → AreCutsAnswered p caps n b.entries (cuts_after b.entries b.entries) answers
  board_unanswered n b answers is =
      subst (λ (cuts : List (ℕ × List ℕ)). AreCutsAnswered p caps n b.entries cuts answers) (sym (pools_since b b [] (pools_none b))) (cuts_unanswered p caps n b.entries answers is)

  pub board_cut_more : (n : ℕ) (a b c : Board) (answers : List StateAnswer) (x : StateAnswer) → PoolsMore a b (cuts_after a.entries b.entries) → PoolsMore b c (cuts_after b.entries c.entries)
      → AreCutsAnswered p caps n b.entries (cuts_after a.entries b.entries) answers
      → x.state.0 ≡ n → IsAnswerOf p caps c.entries n x.answer → length (cut_answered x.answer) ≡ 1 → All (Contains (cut_answered x.answer)) (cuts_after b.entries c.entries)
      → AreCutsAnswered p caps (n + 1) c.entries (cuts_after a.entries c.entries) (answers ++ x ∷ [])
  board_cut_more n a b c answers x first second so_far state is one named =
      let xs = cuts_after a.entries b.entries in
      let ys = cuts_after b.entries c.entries in
      subst (λ (cuts : List (ℕ × List ℕ)). AreCutsAnswered p caps (n + 1) c.entries cuts (answers ++ x ∷ [])) (sym (pools_since a c (xs ++ ys) (pools_both a b c xs ys first second)))
      (cut_more p caps b.entries c.entries (λ cut spot. spot_later b c ys cut spot second) n xs ys answers x so_far state is one named)

  -- one state more, a cut of which may be answered
  pub board_adds : (n : ℕ) (a b c : Board) (answers now : List StateAnswer) → PoolsMore a b (cuts_after a.entries b.entries) → PoolsMore b c (cuts_after b.entries c.entries)
      → AreCutsAnswered p caps n b.entries (cuts_after a.entries b.entries) answers → AddsCut p caps n c.entries (cuts_after b.entries c.entries) answers now
      → AreCutsAnswered p caps (n + 1) c.entries (cuts_after a.entries c.entries) now
  board_adds n a b c answers now first second so_far adds =
      let xs = cuts_after a.entries b.entries in
      let ys = cuts_after b.entries c.entries in
      ⊎_elim
      (λ (none : (now ≡ answers) × (ys ≡ [])).
      let all : cuts_after a.entries c.entries ≡ xs = pools_since a c (xs ++ ys) (pools_both a b c xs ys first second) ∙ (ap (λ (cs : List (ℕ × List ℕ)). xs ++ cs) none.1 ∙ append-nil xs) in
      subst (AreCutsAnswered p caps (n + 1) c.entries (cuts_after a.entries c.entries)) (sym none.0)
      (subst (λ (cuts : List (ℕ × List ℕ)). AreCutsAnswered p caps (n + 1) c.entries cuts answers) (sym all)
      (answered_wider p caps n (n + 1) c.entries xs answers (omega arith)
      (answered_later p caps b.entries c.entries (λ cut spot. spot_later b c ys cut spot second) n xs answers so_far))))
      (λ (one : (x : StateAnswer) × (now ≡ answers ++ x ∷ []) × IsCutAnswer p caps n c.entries ys x).
      subst (AreCutsAnswered p caps (n + 1) c.entries (cuts_after a.entries c.entries)) (sym one.1)
      (board_cut_more n a b c answers one.0 first second so_far one.2.state one.2.answer one.2.one one.2.among))
      adds

  -- the one cut that is answered, after nothing was
  pub only_is_some : (n : ℕ) (a b c : Board) (x : StateAnswer) (answers : List StateAnswer) → n ≤ length p.listed + 1 → PoolsMore a b [] → PoolsMore b c (cuts_after b.entries c.entries)
      → AreCutsAnswered p caps n c.entries (cuts_after b.entries c.entries) (x ∷ []) → answers ≡ x ∷ []
      → AreAnswersUntilCut p caps c.entries answers × All (Contains (cuts_answered answers)) (cuts_after a.entries c.entries)
  only_is_some n a b c x answers le none more are is =
      let all = length p.listed + 1 in
      let wide : AreCutsAnswered p caps all c.entries (cuts_after a.entries c.entries) (x ∷ []) =
      subst (λ (cuts : List (ℕ × List ℕ)). AreCutsAnswered p caps all c.entries cuts (x ∷ [])) (cuts_after_nothing a b c none more)
      (answered_wider p caps n all c.entries (cuts_after b.entries c.entries) (x ∷ []) le are) in
      subst (λ (xs : List StateAnswer). AreAnswersUntilCut p caps c.entries xs × All (Contains (cuts_answered xs)) (cuts_after a.entries c.entries)) (sym is)
      (cuts_are_some p caps c.entries (cuts_after a.entries c.entries) (x ∷ []) wide (omega arith), wide.among)

  -- no cut is pooled where none is found
  pub none_is_among : (a c : Board) (answers : List (ℕ × List ℕ)) → PoolsMore a c [] → All (Contains answers) (cuts_after a.entries c.entries)
  none_is_among a c answers none = subst (All (Contains answers)) (sym (pools_since a c [] none)) (All-nil (Contains answers))
