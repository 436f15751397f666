-- Splitting, joining, the look at the count, and the end.
use Rattle.std.proofs.Common.{◌≡◌, ℕ, ◌+◌, ◌^◌, ◌≤◌, List, [], ◌∷◌, length, sum_by, set, Some, Option, ⊎_elim, refl, sym, ap, subst, ◌∙◌, arith, true}
use Rattle.net_core.proofs.Library.{set-get_or, sum_by_push, cases_lt, range_with_len}
use Rattle.atomic_table.{specs.Table.{State, Allows, keeps, Splits, Joins, Final, Seen}, proofs.Lists.set_else}
use Rattle.turn_lock.{specs.declared.rule.View.View, specs.declared.rule.Stage.Stage, specs.declared.rule.Stage.TheVariants.{Idle, Waiting, Holding, Joined}, specs.Histories.{IsPrefix, longer, are_places, merged}, specs.inner.Tests.stage_number, specs.inner.Rule.{one_within, times_at, tickets_of, ticket_at, turns_of, reach, KnowsStage, Knows, Kept}, specs.inner.Plays.{OwnItemsStand, also_seen, first_half, second_half, joined_view, spent_view, Settles}, proofs.Lists.{each_set, each_snoc, sum_set, sum_zero, two_below, one_below}, proofs.Places.{within_few, within_from, prefix_all, both_begin_longer, longer_of, longer_le, wider, times_merged, times_after, merged_ascends, all_places}, proofs.Turns.{idle_from_number, slot_set, slot_snoc}}
use mathlib.Core.Option.{some, some-injective}
use lib.ListN.{get_elem?}

module _ {T I O : Type 0} (history : T → List I) (made : T → O) (origin : O) where
  -- the own items of an idle pass are in what it has seen
  idle_placed : (v : View I O) → v.stage ≡ Idle → are_places 0 (reach v.seen v.stage) v.places ≡ true → are_places 0 (length v.seen) v.places ≡ true
  idle_placed v idle h = subst (λ (st : Stage I). are_places 0 (reach v.seen st) v.places ≡ true) idle h

  -- step 7
  pub splits : (id : ℕ) (v : View I O) → stage_number v.stage ≡ 0 → 2 ≤ v.units → Splits (Kept history made origin) id v (first_half v) (second_half v)
  splits id v idle some_units s k at =
      let is : v.stage ≡ Idle = idle_from_number v.stage idle in
      let left = first_half v in
      let right = second_half v in
      let mine : Knows k.log k.served origin v = k.each_view id v at in
      let vs = set s.views id left in
      record {
        log = k.log;
        drawn = k.drawn;
        served = k.served;
        words = k.words;
        units = omega (arith, sum_by_push (λ (x : View I O). x.units) vs right, sum_set (λ (x : View I O). x.units) s.views id v left at, k.units);
        tickets = omega (arith, sum_by_push (λ (x : View I O). tickets_of x.stage) vs right, sum_set (λ (x : View I O). tickets_of x.stage) s.views id v left at, k.tickets);
        each_ticket = λ t. omega (arith, sum_by_push (λ (x : View I O). ticket_at t x.stage) vs right, sum_set (λ (x : View I O). ticket_at t x.stage) s.views id v left at, k.each_ticket t);
        each_place = λ p. omega (arith, sum_by_push (λ (x : View I O). times_at p x.places) vs right, sum_set (λ (x : View I O). times_at p x.places) s.views id v left at, k.each_place p);
        each_view = each_snoc (Knows k.log k.served origin) vs right
            (each_set (Knows k.log k.served origin) s.views id left
            (record {
              begins = mine.begins;
              stage = mine.stage;
              placed = mine.placed;
              few = omega (arith, ap {B = ℕ} tickets_of is);
              spent = λ z. absurd (omega (arith, z, some_units));
              made = λ _. mine.made (λ z. omega (arith, z, some_units));
            })
            (λ j x ne e. k.each_view j x e))
            (record { begins = mine.begins; stage = tt; placed = refl; few = omega arith; spent = λ _. refl; made = λ _. mine.made (λ z. omega (arith, z, some_units)) });
        slot = slot_snoc history made origin k.log s.homes vs right refl (slot_set history made origin k.log s.homes s.views id v left at (ap turns_of is) (ap turns_of is) k.slot);
      }

  -- step 8
  pub joins : (id : ℕ) (v : View I O) (other : ℕ) (u : View I O) → stage_number v.stage ≡ 0 → stage_number u.stage ≡ 0 → 1 ≤ v.units → Joins (Kept history made origin) id v other u (joined_view v u) spent_view
  joins id v other u idle_v idle_u some_units s k at apart there =
      let is_v : v.stage ≡ Idle = idle_from_number v.stage idle_v in
      let is_u : u.stage ≡ Idle = idle_from_number u.stage idle_u in
      let w : View I O = joined_view v u in
      let z : View I O = spent_view in
      let vs = set s.views id w in
      let at_u : get_elem? s.views other ≡ some u = sym (set_else s.views id other w apart) ∙ there in
      let mine : Knows k.log k.served origin v = k.each_view id v at in
      let theirs : Knows k.log k.served origin u = k.each_view other u at_u in
      let le = longer_le v.seen u.seen in
      let once : (p : ℕ) → times_at p v.places + times_at p u.places ≤ 1 = λ p. omega (arith, two_below (λ (x : View I O). times_at p x.places) s.views id other v u apart at at_u, k.each_place p, within_few 0 (length k.log) p) in
      let placed : are_places 0 (length (longer v.seen u.seen)) (merged v.places u.places) ≡ true = merged_ascends 0 (length (longer v.seen u.seen)) v.places u.places
      (wider 0 0 (length v.seen) (length (longer v.seen u.seen)) v.places (omega arith) le.0 (idle_placed v is_v mine.placed))
      (wider 0 0 (length u.seen) (length (longer v.seen u.seen)) u.places (omega arith) le.1 (idle_placed u is_u theirs.placed))
      once in
      record {
        log = k.log;
        drawn = k.drawn;
        served = k.served;
        words = k.words;
        units = omega (arith, sum_set (λ (x : View I O). x.units) vs other u z there, sum_set (λ (x : View I O). x.units) s.views id v w at, k.units);
        tickets = omega (arith, ap {B = ℕ} tickets_of is_v, ap {B = ℕ} tickets_of is_u, sum_set (λ (x : View I O). tickets_of x.stage) vs other u z there, sum_set (λ (x : View I O). tickets_of x.stage) s.views id v w at, k.tickets);
        each_ticket = λ t. omega (arith, ap {B = ℕ} (ticket_at t) is_v, ap {B = ℕ} (ticket_at t) is_u, sum_set (λ (x : View I O). ticket_at t x.stage) vs other u z there, sum_set (λ (x : View I O). ticket_at t x.stage) s.views id v w at, k.each_ticket t);
        each_place = λ p. omega (arith, sum_set (λ (x : View I O). times_at p x.places) vs other u z there, sum_set (λ (x : View I O). times_at p x.places) s.views id v w at, times_merged p v.places u.places, k.each_place p);
        each_view = each_set (Knows k.log k.served origin) vs other z
            (record { begins = (k.log, refl); stage = tt; placed = refl; few = omega arith; spent = λ _. refl; made = λ n. absurd (n refl) })
            (λ j y ne e. each_set (Knows k.log k.served origin) s.views id w
            (record { begins = mine.begins; stage = theirs.begins; placed = placed; few = omega arith; spent = λ n. absurd (omega (arith, n, some_units)); made = λ _. mine.made (λ n. omega (arith, n, some_units)) })
            (λ l x ne' a. k.each_view l x a) j y e);
        slot = slot_set history made origin k.log s.homes vs other u z there (ap turns_of is_u) refl (slot_set history made origin k.log s.homes s.views id v w at (ap turns_of is_v) refl k.slot);
      }

  -- step 9
  pub settle_allows : (slots id : ℕ) (v : View I O) (cs : List (ℕ × Option T)) (ys : List I) → v.stage ≡ Joined ys
      → Allows (Kept history made origin) slots id (v, cs) 2 (λ n. n) (λ _. Settles (v, cs))
  settle_allows slots id v cs ys is s k len at small =
      let mine : Knows k.log k.served origin v = k.each_view id v at in
      let w : View I O = record v { stage = Idle; seen = longer v.seen ys } in
      let second : IsPrefix ys k.log = subst (KnowsStage k.log k.served v.seen) is mine.stage in
      let begin = both_begin_longer k.log v.seen ys mine.begins second in
      let placed : are_places 0 (length (longer v.seen ys)) v.places ≡ true = subst (λ (st : Stage I). are_places 0 (reach v.seen st) v.places ≡ true) is mine.placed in (
        w,
        keeps,
        tt,
        record {
          log = k.log;
          drawn = k.drawn;
          served = k.served;
          words = set-get_or s.words 2 0 ∙ k.words;
          units = omega (arith, sum_set (λ (x : View I O). x.units) s.views id v w at, k.units);
          tickets = omega (arith, ap {B = ℕ} tickets_of is, sum_set (λ (x : View I O). tickets_of x.stage) s.views id v w at, k.tickets);
          each_ticket = λ t. omega (arith, ap {B = ℕ} (ticket_at t) is, sum_set (λ (x : View I O). ticket_at t x.stage) s.views id v w at, k.each_ticket t);
          each_place = λ p. omega (arith, sum_set (λ (x : View I O). times_at p x.places) s.views id v w at, k.each_place p);
          each_view = each_set (Knows k.log k.served origin) s.views id w
              (record { begins = longer_of (λ (xs : List I). IsPrefix xs k.log) v.seen ys mine.begins second; stage = tt; placed = placed; few = omega arith; spent = mine.spent; made = mine.made })
              (λ j x ne e. k.each_view j x e);
          slot = slot_set history made origin k.log s.homes s.views id v w at (ap turns_of is) refl k.slot;
        },
        subst (λ (xs : List I). (w ≡ record v { stage = Idle; seen = longer v.seen xs }) × (cs ≡ cs) × IsPrefix v.seen w.seen × IsPrefix xs w.seen × OwnItemsStand w) (sym (ap also_seen is)) (refl, refl, begin.0, begin.1, placed),
      )

  -- what a pass with all units finds at the end
  pub record IsClosed (v : View I O) (x : T) : Type 0 where
    pub made_of : v.origin ≡ Some (made x)
    pub stands : history x ≡ v.seen
    pub places : v.places ≡ range_with_len 0 (length (history x))

  turns_le : (st : Stage I) → turns_of st ≤ tickets_of st
  turns_le Idle = omega arith
  turns_le (Waiting t) = omega arith
  turns_le (Holding t) = omega arith
  turns_le (Joined ys) = omega arith

  closed_state : (id : ℕ) (v : View I O) (s : State (Option T) (View I O)) → stage_number v.stage ≡ 0 → v.units ≡ 2 ^ 32 → Kept history made origin s → get_elem? s.views id ≡ some v
      → (x : T) × (s.homes ≡ some (Some x) ∷ []) × IsClosed v x
  closed_state id v s idle all k at =
      let is : v.stage ≡ Idle = idle_from_number v.stage idle in
      let mine : Knows k.log k.served origin v = k.each_view id v at in
      let own_placed : are_places 0 (length v.seen) v.places ≡ true = idle_placed v is mine.placed in
      let z : View I O = spent_view in
      let others = set s.views id z in
      let none_left : sum_by (λ (x : View I O). x.units) others ≡ 0 = omega (arith, sum_set (λ (x : View I O). x.units) s.views id v z at, k.units, all) in
      let knows : (j : ℕ) (u : View I O) → get_elem? others j ≡ some u → (tickets_of u.stage ≤ u.units) × (u.units ≡ 0 → u.places ≡ []) =
      each_set (λ (u : View I O). (tickets_of u.stage ≤ u.units) × (u.units ≡ 0 → u.places ≡ [])) s.views id z (omega arith, λ _. refl) (λ j u ne e. let o = k.each_view j u e in (o.few, o.spent)) in
      let spent : (j : ℕ) (u : View I O) → get_elem? others j ≡ some u → u.units ≡ 0 = λ j u e. omega (arith, none_left, one_below (λ (x : View I O). x.units) others j u e) in
      let no_places : (p : ℕ) → sum_by (λ (x : View I O). times_at p x.places) others ≡ 0 = λ p. sum_zero (λ (x : View I O). times_at p x.places) others
      (λ j u e. ap (times_at p) ((knows j u e).1 (spent j u e))) in
      let no_turns : sum_by (λ (x : View I O). turns_of x.stage) others ≡ 0 = sum_zero (λ (x : View I O). turns_of x.stage) others
      (λ j u e. omega (arith, turns_le u.stage, (knows j u e).0, spent j u e)) in
      let own : (p : ℕ) → times_at p v.places ≡ one_within 0 (length k.log) p = λ p. omega (arith, sum_set (λ (x : View I O). times_at p x.places) s.views id v z at, no_places p, k.each_place p) in
      let whole : length k.log ≤ length v.seen = ⊎_elim
      (λ l. absurd (omega (arith, own (length v.seen), within_from (length k.log) (length v.seen) l, times_after 0 (length v.seen) (length v.seen) v.places (omega arith) own_placed)))
      (λ g. g)
      (cases_lt (length v.seen) (length k.log)) in
      let stands : k.log ≡ v.seen = prefix_all v.seen k.log mine.begins whole in
      let places : v.places ≡ range_with_len 0 (length k.log) = all_places 0 (length k.log) v.places
      (wider 0 0 (length v.seen) (0 + length k.log) v.places (omega arith) (omega (arith, ap length stands)) own_placed)
      (λ p a b. own p ∙ within_from (length k.log) p (omega (arith, b))) in
      ⊎_elim
      (λ h. (
        h.1.0,
        h.1.1,
        record {
          made_of = mine.made (λ n. omega (arith, n, all)) ∙ ap Some (sym h.1.3);
          stands = h.1.2 ∙ stands;
          places = places ∙ ap (λ xs. range_with_len 0 (length xs)) (sym h.1.2);
        },
      ))
      (λ h. absurd (omega (arith, h.0, no_turns, ap {B = ℕ} turns_of is, sum_set (λ (x : View I O). turns_of x.stage) s.views id v z at)))
      k.slot

  pub closed_slot : (id : ℕ) (v : View I O) (words : List ℕ) (slots : List (Option T)) (r : Option T) → stage_number v.stage ≡ 0 → v.units ≡ 2 ^ 32 → Final (Seen (Kept history made origin) id v) words slots → get_elem? slots 0 ≡ some r
      → (x : T) × (r ≡ Some x) × IsClosed v x
  closed_slot id v words slots r idle all final there =
      let c = closed_state id v final.0 idle all final.1.0 final.1.1 in
      (c.0, some-injective r (Some c.0) (sym there ∙ final.4 0 (Some c.0) (ap (λ hs. get_elem? hs 0) c.1)), c.2)

  pub closed_as : (id : ℕ) (v : View I O) (words : List ℕ) (slots : List (Option T)) (r : Option T) (y : T) → stage_number v.stage ≡ 0 → v.units ≡ 2 ^ 32 → Final (Seen (Kept history made origin) id v) words slots → get_elem? slots 0 ≡ some r → r ≡ Some y
      → IsClosed v y
  closed_as id v words slots r y idle all final there is =
      let c = closed_slot id v words slots r idle all final there in
      let same : c.0 ≡ y = cc (c.1, is) in
      subst (IsClosed v) same c.2
