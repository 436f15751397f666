use Rattle.std.proofs.Common.{◌∙◌, ◌<◌, ◌≤◌, ◌^◌, ◌++◌, ◌∷◌, [], All, List, ap, length, map, refl, sym, subst, arith, position, length-append}
use Rattle.net_core.proofs.Library.{All-push}
use Rattle.plan_terms.specs.Terms.{Demand, Entry, Pooled}
use Rattle.cut_pool.{specs.declared.pooled_cut.PooledCut.PooledCut, specs.Boards.opening_case, specs.Histories.IsBoardAfter, specs.Pools.{ArePooledCuts, line_of_pooled}, specs.inner.Pooling.is_pooled_cut, proofs.Admitting.{board_count, is_legal, is_new}, proofs.Boards.{committed, more_cuts, pooled_told}, proofs.Sides.IsAtDemands, proofs.Told.known_told}
use Rattle.cut_pool.proofs.board.Board.admit.Goals as goal

pub returns-in-Some-clause-answer : goal.returns-in-Some-clause-answer
returns-in-Some-clause-answer c =
    let self = c.args.self.now in (
      known_told (opening_case self) self.entries self.book.demands self.book.version self.pool self.stands c.args.cut c.in-Some.index
          (ap (position (is_pooled_cut c.args.cut)) (sym c.items.ensures) ∙ (sym c.place_of.ensures ∙ c.in-Some.is)),
      refl,
      record { entries = refl; book = refl; pool = refl; origin = refl },
    )

pub returns-then-len-ge-MOST_CUTS-clause-answer : goal.returns-then-len-ge-MOST_CUTS-clause-answer
returns-then-len-ge-MOST_CUTS-clause-answer c =
    let self = c.args.self.now in (
      is_new self c.args.cut c.items.result.now c.place_of.result c.items.ensures c.place_of.ensures c.in_default.is,
      omega (arith, c.if-len-ge-MOST_CUTS.true, c.len.ensures, board_count self, self.few_cuts),
      refl,
      record { entries = refl; book = refl; pool = refl; origin = refl },
    )

pub returns-then-len-ge-MOST_ENTRIES-clause-answer : goal.returns-then-len-ge-MOST_ENTRIES-clause-answer
returns-then-len-ge-MOST_ENTRIES-clause-answer c =
    let self = c.args.self.now in (
      is_new self c.args.cut c.items.result.now c.place_of.result c.items.ensures c.place_of.ensures c.in_default.is,
      omega (arith, c.if-len-ge-MOST_CUTS.false, c.len.ensures, board_count self),
      omega (arith, c.if-len-ge-MOST_ENTRIES.true, c.len-2.ensures, self.few),
      refl,
      record { entries = refl; book = refl; pool = refl; origin = refl },
    )

-- the cut with its right side
abbrev new_of : (c : goal.After-commit_cut) → PooledCut
new_of c = record { cut = c.args.cut; right = c.right-right.result }

at_now : (c : goal.After-commit_cut) → IsAtDemands c.args.self.now.book.demands (new_of c)
at_now c = subst (λ (ds : List Demand). IsAtDemands ds (new_of c)) c.demands.ensures (record { right_is = c.right-right.ensures.right; low = c.right-right.ensures.low })

-- what holds before and with one cut more holds after
after : (c : goal.After-commit_cut) (P : List Entry → List PooledCut → Type 0)
    → P (c.args.self.now.entries ++ Pooled (length c.args.self.now.pool) c.args.cut.state c.args.cut.lengths ∷ []) (c.args.self.now.pool ++ new_of c ∷ [])
    → P c.args.self.now.entries c.args.self.now.pool → P c.commit_cut.new.told c.commit_cut.new.pool
after c P =
    let self = c.args.self.now in
    committed P c.commit_cut.result self.entries c.commit_cut.new.told (Pooled (length self.pool) c.args.cut.state c.args.cut.lengths) self.pool c.commit_cut.new.pool (new_of c)
    c.commit_cut.ensures.entries c.commit_cut.ensures.pool c.commit_cut.ensures.same

pub invariant_of-self-clause-few : goal.invariant_of-self-clause-few
invariant_of-self-clause-few c =
    let self = c.args.self.now in
    after c (λ es pool. length es ≤ 65536)
    (omega (arith, length-append self.entries (Pooled (length self.pool) c.args.cut.state c.args.cut.lengths ∷ []), c.len-2.ensures, c.if-len-ge-MOST_ENTRIES.false))
    self.few

pub invariant_of-self-clause-few_cuts : goal.invariant_of-self-clause-few_cuts
invariant_of-self-clause-few_cuts c =
    let self = c.args.self.now in
    after c (λ es pool. length pool ≤ 4096) (omega (arith, length-append self.pool (new_of c ∷ []), c.len.ensures, c.if-len-ge-MOST_CUTS.false)) self.few_cuts

pub invariant_of-self-clause-low : goal.invariant_of-self-clause-low
invariant_of-self-clause-low c =
    let self = c.args.self.now in
    after c (λ es pool. All (λ x. x.right < 2 ^ 84) pool) (All-push (λ (x : PooledCut). x.right < 2 ^ 84) self.pool (new_of c) self.low (at_now c).low) self.low

pub invariant_of-self-clause-cuts_are : goal.invariant_of-self-clause-cuts_are
invariant_of-self-clause-cuts_are c =
    let self = c.args.self.now in
    after c (λ es pool. ∥ ArePooledCuts (opening_case self) pool ∥₁) (more_cuts (opening_case self) self.pool (new_of c) c.requires self.cuts_are) self.cuts_are

pub invariant_of-self-clause-stands : goal.invariant_of-self-clause-stands
invariant_of-self-clause-stands c =
    let self = c.args.self.now in
    let new = is_new self c.args.cut c.items.result.now c.place_of.result c.items.ensures c.place_of.ensures c.in_default.is in
    after c (λ es pool. ∥ IsBoardAfter (opening_case self) es self.book.demands self.book.version (map line_of_pooled pool) ∥₁)
    (pooled_told (opening_case self) self.entries self.book.demands self.book.version self.pool self.stands (length self.pool) (new_of c)
    (is_legal self c.args.cut (length self.pool) c.requires new refl) c.requires (at_now c))
    self.stands

pub returns-in-Ok-clause-answer : goal.returns-in-Ok-clause-answer
returns-in-Ok-clause-answer c =
    let self = c.args.self.now in
    let new = is_new self c.args.cut c.items.result.now c.place_of.result c.items.ensures c.place_of.ensures c.in_default.is in (
      new,
      omega (arith, c.if-len-ge-MOST_CUTS.false, c.len.ensures, board_count self),
      omega (arith, c.if-len-ge-MOST_ENTRIES.false, c.len-2.ensures),
      record {
        legal = is_legal self c.args.cut c.len-index.result c.requires new c.len-index.ensures;
        entries = c.in-Ok.ensures.entries ∙ ap (λ n. self.entries ++ Pooled n c.args.cut.state c.args.cut.lengths ∷ []) (sym c.len-index.ensures);
        origin = refl;
      },
      c.len-index.ensures ∙ board_count self,
      c.len-in-Ok.ensures,
    )

pub returns-in-Err-clause-answer : goal.returns-in-Err-clause-answer
returns-in-Err-clause-answer c =
    let self = c.args.self.now in (
      is_new self c.args.cut c.items.result.now c.place_of.result c.items.ensures c.place_of.ensures c.in_default.is,
      omega (arith, c.if-len-ge-MOST_CUTS.false, c.len.ensures, board_count self),
      omega (arith, c.if-len-ge-MOST_ENTRIES.false, c.len-2.ensures),
      c.in-Err.ensures.same.0,
      record { entries = c.in-Err.ensures.same.1; book = refl; pool = c.in-Err.ensures.same.2; origin = refl },
    )
