-- boards with one entry more
use Rattle.std.proofs.Common.{◌≡◌, ◌∙◌, ℕ, ◌<◌, ◌++◌, List, [], ◌∷◌, All, length, map, get_or, refl, sym, ap, subst, arith, ◌≤◌, ◌+◌, ◌^◌, IfErr, IfOk, OnOk, Ok, Err, Result, append-nil, length-append}
use Rattle.net_core.proofs.Library.{∥∥₁_elim, props, get_or-map, length-map, map-append, All-map, All-push}
use Rattle.plan_terms.specs.Terms.{Demand, Edit, Entry, Edited, Pooled, Reply, CutLine, Case, graph_in, Joins, IsRight, Answered, edit_reply, version_after}
use Rattle.demand_book.specs.declared.book.Book.{Book}
use Rattle.metric_cut.{specs.Cuts.IsCutOf, specs.declared.cut.Cut.Cut}
use Rattle.cut_pool.{specs.declared.pooled_cut.PooledCut.PooledCut, specs.Histories.{Dated, IsBoardAfter, IsLegalAfter, cut_of_line, cuts_of, demands_left, left_by, left_by_entry, version_left}, specs.Pools.{ArePooledCuts, line_of_pooled}, specs.inner.Pooling.StandsAt, proofs.Following.stands_now, proofs.Growing.{cuts_more, left_more, legal_more}, proofs.Sides.IsAtDemands}

-- what holds of the cuts of a pool holds where only their right sides change
same_cuts : (P : Cut → Type 0) (old new : List PooledCut) → map (λ c. c.cut) new ≡ map (λ c. c.cut) old → All (λ c. P c.cut) old → All (λ c. P c.cut) new
same_cuts P old new same all k c lt =
    let cut_of : PooledCut → Cut = λ d. d.cut in
    let count : length new ≡ length old = sym (length-map new cut_of) ∙ (ap length same ∙ length-map old cut_of) in
    let within : k < length old = omega (arith, lt, count) in
    let is : (get_or old k c).cut ≡ (get_or new k c).cut =
    sym (get_or-map cut_of old k c c.cut within) ∙ (ap (λ cuts. get_or cuts k c.cut) (sym same) ∙ get_or-map cut_of new k c c.cut lt) in
    subst P is (all k c within)

pub still_cuts : (p : Case) (old new : List PooledCut) → map (λ c. c.cut) new ≡ map (λ c. c.cut) old → ArePooledCuts p old → ArePooledCuts p new
still_cuts p old new same = same_cuts (λ cut. IsCutOf (graph_in p cut.state.0) cut) old new same

-- the cuts of the lines are those of the pool
abbrev cut_with_state : Cut → ℕ × List ℕ
cut_with_state cut = (cut.state.0, cut.lengths)

lines_cuts : (pool : List PooledCut) → map cut_of_line (map line_of_pooled pool) ≡ map cut_with_state (map (λ c. c.cut) pool)
lines_cuts [] = refl
lines_cuts (c ∷ pool) = ap (λ (cuts : List (ℕ × List ℕ)). cut_with_state c.cut ∷ cuts) (lines_cuts pool)

-- the line has its right side at the demands
abbrev pub IsFollowed : Case → List Demand → CutLine → Type 0
IsFollowed p demands l = IsRight (Joins (graph_in p l.state.0)) l.lengths demands l.right

-- the right sides of pooled cuts, as lines
right_sides : (p : Case) (demands : List Demand) (pool : List PooledCut) → ArePooledCuts p pool → All (IsAtDemands demands) pool
    → All (IsFollowed p demands) (map line_of_pooled pool)
right_sides p demands pool cuts at = All-map (IsFollowed p demands) line_of_pooled pool (λ k c lt. (at k c lt).right_is (graph_in p (get_or pool k c).cut.state.0) (cuts k c lt))

-- demands and version as one
dated : (d : Dated) (demands : List Demand) (version : ℕ) → demands ≡ d.demands → version ≡ d.version → d ≡ record { demands = demands; version = version }
dated d demands version first second = ap (λ (ds : List Demand). record { demands = ds; version = d.version }) (sym first) ∙ ap (λ v. record { demands = demands; version = v }) (sym second)

-- what entries leave of the opening demands
abbrev all_left : Case → List Entry → Dated
all_left p es = left_by p.nodes (record { demands = p.demands; version = 0 }) es

module _ (p : Case) (es : List Entry) (demands : List Demand) (version : ℕ) (old : List PooledCut) (board : IsBoardAfter p es demands version (map line_of_pooled old)) where
  -- what one entry more leaves
  left_now : (e : Entry) → all_left p (es ++ e ∷ []) ≡ left_by_entry p.nodes (record { demands = demands; version = version }) e
  left_now e = left_more p.nodes (record { demands = p.demands; version = 0 }) es e ∙ ap (λ d. left_by_entry p.nodes d e) (dated (all_left p es) demands version board.demands_are board.version_is)

  -- an edit has the reply there
  pub reply_there : (caller : ℕ) (edit : Edit) (reply : Reply) (after : List Demand) → (reply, after) ≡ edit_reply p.nodes demands version edit → IsLegalAfter p es (Edited caller edit reply)
  reply_there caller edit reply after answer =
      ap (λ (ds : List Demand). (edit_reply p.nodes ds (version_left p es) edit).0) (sym board.demands_are)
      ∙ (ap (λ v. (edit_reply p.nodes demands v edit).0) (sym board.version_is) ∙ ap (λ (a : Answered). a.0) (sym answer))

  -- an edit was made
  pub edited : (caller : ℕ) (edit : Edit) (reply : Reply) (after : List Demand) (next : ℕ) (new : List PooledCut)
      → (reply, after) ≡ edit_reply p.nodes demands version edit → next ≡ version_after version reply
      → map (λ c. c.cut) new ≡ map (λ c. c.cut) old → ArePooledCuts p new → All (IsAtDemands after) new
      → IsBoardAfter p (es ++ Edited caller edit reply ∷ []) after next (map line_of_pooled new)
  edited caller edit reply after next new answer counted same cuts at =
      let e = Edited caller edit reply in
      let demands_are : after ≡ demands_left p (es ++ e ∷ []) = ap (λ (a : Answered). a.1) answer ∙ ap (λ (d : Dated). d.demands) (sym (left_now e)) in
      record {
        legal = legal_more p es e board.legal (reply_there caller edit reply after answer);
        demands_are = demands_are;
        version_is = counted ∙ (ap (λ (a : Answered). version_after version a.0) answer ∙ ap (λ (d : Dated). d.version) (sym (left_now e)));
        pool = record {
          cuts = lines_cuts new ∙ (ap (map cut_with_state) same ∙ (sym (lines_cuts old) ∙ (board.pool.cuts ∙ (sym (append-nil (cuts_of es)) ∙ sym (cuts_more es e)))));
          rights = subst (λ (ds : List Demand). All (IsFollowed p ds) (map line_of_pooled new)) demands_are (right_sides p after new cuts at);
        };
      }

  -- a cut was pooled
  pub pooled : (index : ℕ) (new : PooledCut) → IsLegalAfter p es (Pooled index new.cut.state new.cut.lengths) → IsCutOf (graph_in p new.cut.state.0) new.cut → IsAtDemands demands new
      → IsBoardAfter p (es ++ Pooled index new.cut.state new.cut.lengths ∷ []) demands version (map line_of_pooled (old ++ new ∷ []))
  pooled index new legal cut at =
      let e = Pooled index new.cut.state new.cut.lengths in
      let demands_are : demands ≡ demands_left p (es ++ e ∷ []) = ap (λ (d : Dated). d.demands) (sym (left_now e)) in
      record {
        legal = legal_more p es e board.legal legal;
        demands_are = demands_are;
        version_is = ap (λ (d : Dated). d.version) (sym (left_now e));
        pool = record {
          cuts = ap (map cut_of_line) (map-append line_of_pooled old (new ∷ []))
              ∙ (map-append cut_of_line (map line_of_pooled old) (line_of_pooled new ∷ [])
              ∙ (ap (λ (cuts : List (ℕ × List ℕ)). cuts ++ cut_with_state new.cut ∷ []) board.pool.cuts ∙ sym (cuts_more es e)));
          rights = subst (λ (lines : List CutLine). All (IsFollowed p (demands_left p (es ++ e ∷ []))) lines) (sym (map-append line_of_pooled old (new ∷ [])))
              (All-push (IsFollowed p (demands_left p (es ++ e ∷ []))) (map line_of_pooled old) (line_of_pooled new)
              (subst (λ (ds : List Demand). All (IsFollowed p ds) (map line_of_pooled old)) (sym board.demands_are ∙ demands_are) board.pool.rights)
              (subst (λ (ds : List Demand). IsFollowed p ds (line_of_pooled new)) demands_are (at.right_is (graph_in p new.cut.state.0) cut)));
        };
      }

-- what entries leave of a board, where only the existence of its pool and its history is told

pub still_told : (p : Case) (old new : List PooledCut) → map (λ c. c.cut) new ≡ map (λ c. c.cut) old → ∥ ArePooledCuts p old ∥₁ → ∥ ArePooledCuts p new ∥₁
still_told p old new same told = ∥∥₁_elim told (hlevel props) (λ cuts. ∣ still_cuts p old new same cuts ∣₁)

pub reply_told : (p : Case) (es : List Entry) (demands : List Demand) (version : ℕ) (old : List PooledCut) → ∥ IsBoardAfter p es demands version (map line_of_pooled old) ∥₁
    → (caller : ℕ) (edit : Edit) (reply : Reply) (after : List Demand) → (reply, after) ≡ edit_reply p.nodes demands version edit → IsLegalAfter p es (Edited caller edit reply)
reply_told p es demands version old told caller edit reply after answer = ∥∥₁_elim told (hlevel props) (λ board. reply_there p es demands version old board caller edit reply after answer)

pub edited_told : (p : Case) (es : List Entry) (demands : List Demand) (version : ℕ) (old : List PooledCut) → ∥ ArePooledCuts p old ∥₁ → ∥ IsBoardAfter p es demands version (map line_of_pooled old) ∥₁
    → (caller : ℕ) (edit : Edit) (reply : Reply) (after : List Demand) (next : ℕ) (new : List PooledCut)
    → (reply, after) ≡ edit_reply p.nodes demands version edit → next ≡ version_after version reply
    → map (λ c. c.cut) new ≡ map (λ c. c.cut) old → All (IsAtDemands after) new
    → ∥ IsBoardAfter p (es ++ Edited caller edit reply ∷ []) after next (map line_of_pooled new) ∥₁
edited_told p es demands version old cuts told caller edit reply after next new answer counted same at =
    ∥∥₁_elim cuts (hlevel props) (λ all. ∥∥₁_elim told (hlevel props) (λ board.
    ∣ edited p es demands version old board caller edit reply after next new answer counted same (still_cuts p old new same all) at ∣₁))

-- what a history and a pool are after an edit was committed, or refused with nothing changed
pub edit_committed : (p : Case) (es es' : List Entry) (old book : Book) (pool pool' : List PooledCut) → ∥ ArePooledCuts p pool ∥₁ → ∥ IsBoardAfter p es old.demands old.version (map line_of_pooled pool) ∥₁
    → (caller : ℕ) (edit : Edit) (r : Result Reply Edit) → IfOk r (λ reply. es' ≡ es ++ Edited caller edit reply ∷ []) → IfOk r (λ reply. (reply, book.demands) ≡ edit_reply p.nodes old.demands old.version edit)
    → IfOk r (λ reply. book.version ≡ version_after old.version reply) → IfErr r (λ e. (e ≡ edit) × (es' ≡ es) × (book ≡ old) × (pool' ≡ pool))
    → map (λ c. c.cut) pool' ≡ map (λ c. c.cut) pool → All (IsAtDemands book.demands) pool'
    → ∥ IsBoardAfter p es' book.demands book.version (map line_of_pooled pool') ∥₁
edit_committed p es es' old book pool pool' cuts told caller edit (Ok reply) entries answer version same still at =
    subst (λ xs. ∥ IsBoardAfter p xs book.demands book.version (map line_of_pooled pool') ∥₁) (sym entries)
    (edited_told p es old.demands old.version pool cuts told caller edit reply book.demands book.version pool' answer version still at)
edit_committed p es es' old book pool pool' cuts told caller edit (Err e) entries answer version same still at =
    subst (λ xs. ∥ IsBoardAfter p xs book.demands book.version (map line_of_pooled pool') ∥₁) (sym same.1)
    (subst (λ (b : Book). ∥ IsBoardAfter p es b.demands b.version (map line_of_pooled pool') ∥₁) (sym same.2)
    (subst (λ (cs : List PooledCut). ∥ IsBoardAfter p es old.demands old.version (map line_of_pooled cs) ∥₁) (sym same.3) told))

-- a history has at most one entry more
pub one_more : (es es' : List Entry) (caller : ℕ) (edit : Edit) (book old : Book) (pool pool' : List PooledCut) (r : Result Reply Edit) → IfOk r (λ reply. es' ≡ es ++ Edited caller edit reply ∷ [])
    → IfErr r (λ e. (e ≡ edit) × (es' ≡ es) × (book ≡ old) × (pool' ≡ pool)) → length es' ≤ length es + 1
one_more es es' caller edit book old pool pool' (Ok reply) entries same = omega (arith, ap length entries, length-append es (Edited caller edit reply ∷ []))
one_more es es' caller edit book old pool pool' (Err e) entries same = omega (arith, ap length same.1)

-- each pooled cut of a board has its right side at the board's demands
pub standing : (p : Case) (es : List Entry) (book : Book) (pool : List PooledCut) → length p.nodes ≡ length book.nodes → ∥ ArePooledCuts p pool ∥₁ → ∥ IsBoardAfter p es book.demands book.version (map line_of_pooled pool) ∥₁
    → All (λ c. c.right < 2 ^ 84) pool → All (StandsAt (length book.nodes) book.demands) pool
standing p es book pool nodes cuts told low k d lt =
    let c = get_or pool k d in
    let right : IsBoardAfter p es book.demands book.version (map line_of_pooled pool) → IsRight (Joins (graph_in p c.cut.state.0)) c.cut.lengths book.demands c.right = λ board.
    subst (λ (ds : List Demand). IsFollowed p ds (line_of_pooled c)) (sym board.demands_are)
    (subst (IsFollowed p (demands_left p es)) (get_or-map line_of_pooled pool k d (line_of_pooled d) lt) (board.pool.rights k (line_of_pooled d) (omega (arith, lt, length-map pool line_of_pooled)))) in
    let at : ArePooledCuts p pool → IsBoardAfter p es book.demands book.version (map line_of_pooled pool) → StandsAt (length book.nodes) book.demands c = λ all board.
    stands_now (graph_in p c.cut.state.0) (length book.nodes) book.demands c (all k d lt) nodes book.belong (right board) (low k d lt) in
    record {
      cut = ∥∥₁_elim cuts (hlevel props) (λ all. ∥∥₁_elim told (hlevel props) (λ board. (at all board).cut));
      nodes = ∥∥₁_elim cuts (hlevel props) (λ all. ∥∥₁_elim told (hlevel props) (λ board. (at all board).nodes));
      right = ∥∥₁_elim cuts (hlevel props) (λ all. ∥∥₁_elim told (hlevel props) (λ board. (at all board).right));
      low = low k d lt;
    }

pub pooled_told : (p : Case) (es : List Entry) (demands : List Demand) (version : ℕ) (old : List PooledCut) → ∥ IsBoardAfter p es demands version (map line_of_pooled old) ∥₁
    → (index : ℕ) (new : PooledCut) → IsLegalAfter p es (Pooled index new.cut.state new.cut.lengths) → IsCutOf (graph_in p new.cut.state.0) new.cut → IsAtDemands demands new
    → ∥ IsBoardAfter p (es ++ Pooled index new.cut.state new.cut.lengths ∷ []) demands version (map line_of_pooled (old ++ new ∷ [])) ∥₁
pooled_told p es demands version old told index new legal cut at = ∥∥₁_elim told (hlevel props) (λ board. ∣ pooled p es demands version old board index new legal cut at ∣₁)

pub more_cuts : (p : Case) (old : List PooledCut) (new : PooledCut) → IsCutOf (graph_in p new.cut.state.0) new.cut → ∥ ArePooledCuts p old ∥₁ → ∥ ArePooledCuts p (old ++ new ∷ []) ∥₁
more_cuts p old new cut told = ∥∥₁_elim told (hlevel props) (λ cuts. ∣ All-push (λ (c : PooledCut). IsCutOf (graph_in p c.cut.state.0) c.cut) old new cuts cut ∣₁)

-- what holds of a history and a pool, and also with one cut more, holds after a cut was committed or refused
pub committed : (P : List Entry → List PooledCut → Type 0) (r : Result (Unit {0}) Cut) (es es' : List Entry) (e : Entry) (pool pool' : List PooledCut) (new : PooledCut)
    → OnOk r (es' ≡ es ++ e ∷ []) → OnOk r (pool' ≡ pool ++ new ∷ []) → IfErr r (λ cut. (cut ≡ new.cut) × (es' ≡ es) × (pool' ≡ pool))
    → P (es ++ e ∷ []) (pool ++ new ∷ []) → P es pool → P es' pool'
committed P (Ok u) es es' e pool pool' new entries cuts same more before = subst (λ xs. P xs pool') (sym entries) (subst (P (es ++ e ∷ [])) (sym cuts) more)
committed P (Err cut) es es' e pool pool' new entries cuts same more before = subst (λ xs. P xs pool') (sym same.1) (subst (P es) (sym same.2) before)
