-- what a board tells of itself
use Rattle.std.proofs.Common.{◌≡◌, ◌≢◌, ◌∙◌, ℕ, ◌<◌, ◌^◌, List, [], ◌∷◌, All, Some, None, length, map, get_or, slice_get, refl, sym, ap, subst, arith, Option, option_map, position}
use Rattle.net_core.proofs.Library.{∥∥₁_elim, props, get_or-map, length-map, All-map, get_or_from_slice_get, slice_get-get_or, slice_get-map, slice_get_within}
use Rattle.plan_terms.specs.Terms.{Demand, Entry, CutLine, Case, graph_in, Joins, IsCut, IsRight}
use Rattle.metric_cut.specs.declared.cut.Cut.{Cut}
use Rattle.cut_pool.{specs.declared.pooled_cut.PooledCut.PooledCut, specs.declared.board.Board.Board, specs.Boards.{AreLinesNow, opening_case}, specs.Histories.{IsBoardAfter, IsPoolAfter, cut_of_line, cuts_of, demands_left}, specs.Pools.{ArePooledCuts, line_of_pooled}, specs.inner.Pooling.is_pooled_cut, proofs.Boards.IsFollowed, proofs.Places.{known_at, new_of_all, with_state}}

-- the case with the demands that entries leave
abbrev case_now : Case → List Entry → Case
case_now p es = record { nodes = p.nodes; links = p.links; listed = p.listed; demands = demands_left p es; places = p.places }

states_of : (pool : List PooledCut) → map cut_of_line (map line_of_pooled pool) ≡ map (λ c. with_state c.cut) pool
states_of [] = refl
states_of (c ∷ pool) = ap (λ (cuts : List (ℕ × List ℕ)). with_state c.cut ∷ cuts) (states_of pool)

module _ (p : Case) (es : List Entry) (demands : List Demand) (version : ℕ) (pool : List PooledCut) (told : ∥ IsBoardAfter p es demands version (map line_of_pooled pool) ∥₁) where
  pub demands_told : demands ≡ demands_left p es
  demands_told = ∥∥₁_elim told (hlevel props) (λ b. b.demands_are)

  pub cuts_told : map (λ c. with_state c.cut) pool ≡ cuts_of es
  cuts_told = ∥∥₁_elim told (hlevel props) (λ b. sym (states_of pool) ∙ b.pool.cuts)

  pub count_told : length pool ≡ length (cuts_of es)
  count_told = sym (length-map pool (λ (c : PooledCut). with_state c.cut)) ∙ ap length cuts_told

  -- the cut of an index
  pub cut_at : (k : ℕ) (d : PooledCut) → k < length pool → slice_get (cuts_of es) k ≡ Some (with_state (get_or pool k d).cut)
  cut_at k d lt =
      let v : PooledCut → ℕ × List ℕ = λ c. with_state c.cut in
      ap (λ cuts. slice_get cuts k) (sym cuts_told) ∙ (slice_get-get_or (map v pool) k (v d) (omega (arith, lt, length-map pool v)) ∙ ap Some (get_or-map v pool k d (v d) lt))

  -- a cut that has a place, and one that has none
  pub known_told : (cut : Cut) (k : ℕ) → position (is_pooled_cut cut) pool ≡ Some k → slice_get (cuts_of es) k ≡ Some (with_state cut)
  known_told cut k at = ap (λ cuts. slice_get cuts k) (sym cuts_told) ∙ known_at cut pool k at

  pub new_told : (cut : Cut) → position (is_pooled_cut cut) pool ≡ None → All (λ c. c ≢ with_state cut) (cuts_of es)
  new_told cut none = subst (All (λ c. c ≢ with_state cut)) cuts_told (new_of_all cut pool none)

  pub pool_told : ∥ IsPoolAfter p es (map line_of_pooled pool) ∥₁
  pool_told = ∥∥₁_elim told (hlevel props) (λ b. ∣ b.pool ∣₁)

  -- the right side of a cut of the pool
  pub side_told : (k : ℕ) (d : PooledCut) → k < length pool → ∥ IsFollowed p (demands_left p es) (line_of_pooled (get_or pool k d)) ∥₁
  side_told k d lt = ∥∥₁_elim told (hlevel props) (λ b.
      ∣ subst (IsFollowed p (demands_left p es)) (get_or-map line_of_pooled pool k d (line_of_pooled d) lt) (b.pool.rights k (line_of_pooled d) (omega (arith, lt, length-map pool line_of_pooled))) ∣₁)

  pub right_told : (k : ℕ) (d : PooledCut) → k < length pool → (cut : ℕ × List ℕ) → slice_get (cuts_of es) k ≡ Some cut → ∥ IsRight (Joins (graph_in p cut.0)) cut.1 (demands_left p es) (get_or pool k d).right ∥₁
  right_told k d lt cut at =
      let both : Some (with_state (get_or pool k d).cut) ≡ Some cut = sym (cut_at k d lt) ∙ at in
      let is : with_state (get_or pool k d).cut ≡ cut = cc both in
      subst (λ (c : ℕ × List ℕ). ∥ IsRight (Joins (graph_in p c.0)) c.1 (demands_left p es) (get_or pool k d).right ∥₁) is (side_told k d lt)

  -- the right sides of the pool, in its order
  pub rights_told : (rights : List ℕ) → rights ≡ map (λ c. c.right) pool → (k right : ℕ) → slice_get rights k ≡ Some right → (cut : ℕ × List ℕ) → slice_get (cuts_of es) k ≡ Some cut
      → ∥ IsRight (Joins (graph_in p cut.0)) cut.1 (demands_left p es) right ∥₁
  rights_told rights is k right at cut there = of (slice_get pool k) refl
    where
      shown : option_map (λ (c : PooledCut). c.right) (slice_get pool k) ≡ Some right
      shown = sym (slice_get-map (λ (c : PooledCut). c.right) pool k) ∙ (ap (λ (all : List ℕ). slice_get all k) (sym is) ∙ at)

      of : (found : Option PooledCut) → slice_get pool k ≡ found → ∥ IsRight (Joins (graph_in p cut.0)) cut.1 (demands_left p es) right ∥₁
      of None none = let no : None ≡ Some right = ap (option_map (λ (c : PooledCut). c.right)) (sym none) ∙ shown in absurd (cc no)
      of (Some c) some =
          let same : Some c.right ≡ Some right = ap (option_map (λ (d : PooledCut). d.right)) (sym some) ∙ shown in
          let right_is : c.right ≡ right = cc same in
          subst (λ (n : ℕ). ∥ IsRight (Joins (graph_in p cut.0)) cut.1 (demands_left p es) n ∥₁) (ap (λ (d : PooledCut). d.right) (get_or_from_slice_get pool k c c some) ∙ right_is)
          (right_told k c (slice_get_within pool k c some) cut there)

  -- the lines of the pool are cuts at the demands now
  pub lines_told : ∥ ArePooledCuts p pool ∥₁ → ∥ All (IsCut (case_now p es)) (map line_of_pooled pool) ∥₁
  lines_told all = ∥∥₁_elim all (hlevel props) (λ cuts. ∥∥₁_elim told (hlevel props) (λ b.
      ∣ All-map (IsCut (case_now p es)) line_of_pooled pool (λ k d lt. record {
        listed_state = (cuts k d lt).listed_state;
        kept = (cuts k d lt).kept;
        right = subst (IsFollowed p (demands_left p es)) (get_or-map line_of_pooled pool k d (line_of_pooled d) lt) (b.pool.rights k (line_of_pooled d) (omega (arith, lt, length-map pool line_of_pooled)));
      }) ∣₁))

-- the lines of a board's pool
pub lines_now : (b : Board) (lines : List CutLine) → lines ≡ map line_of_pooled b.pool → AreLinesNow b lines
lines_now b lines is =
    let p = opening_case b in
    subst (AreLinesNow b) (sym is) (record {
      pool = pool_told p b.entries b.book.demands b.book.version b.pool b.stands;
      cuts = lines_told p b.entries b.book.demands b.book.version b.pool b.stands b.cuts_are;
      low = All-map (λ (l : CutLine). l.right < 2 ^ 84) line_of_pooled b.pool b.low;
    })
