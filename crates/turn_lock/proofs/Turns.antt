-- The steps of a turn keep the rule: draw, look, commit, serve.
use Rattle.std.proofs.Common.{◌≡◌, ◌≢◌, ℕ, zero, suc, ◌+◌, ◌%◌, ◌^◌, ◌<◌, ◌≤◌, List, [], ◌∷◌, ◌++◌, length, get_or, sum_by, eqb, set, Some, Option, inl, inr, ⊎_elim, refl, sym, ap, subst, ◌∙◌, arith, length-append, map, true}
use Rattle.net_core.proofs.Library.{set-get_or, sum_by_push, cases_eq, some_same}
use Rattle.atomic_table.{specs.Table.{State, Me, Allows, keeps, takes, gives, stepped, rest, opening}, proofs.Lists.one_turn}
use Rattle.turn_lock.{specs.declared.rule.View.View, specs.declared.rule.Stage.Stage, specs.declared.rule.Stage.TheVariants.{Idle, Waiting, Holding, Joined}, specs.Histories.{IsPrefix, are_places}, specs.inner.Tests.stage_number, specs.inner.Rule.{one_where, one_within, times_at, tickets_of, ticket_at, turns_of, reach, KnowsStage, Knows, HasSlot, Kept, first_view}, specs.inner.Plays.{Awaits, Draws, Looks, Took, Commits, Serves}, proofs.Lists.{each_set, sum_set, one_below, two_below, sums_le, sums_lt}, proofs.Places.{one_if, within_after, within_few, within_some, within_more, within_less, prefix_same, prefix_le, prefix_more, wider, place_last}}
use mathlib.Core.Option.{some, none, some-injective, some-ne-none}
use lib.ListN.{get_elem?}

module _ {I : Type 0} where
  pub idle_from_number : (st : Stage I) → stage_number st ≡ 0 → st ≡ Idle
  idle_from_number Idle e = refl
  idle_from_number (Waiting k) e = absurd (omega arith)
  idle_from_number (Holding k) e = absurd (omega arith)
  idle_from_number (Joined ys) e = absurd (omega arith)

  pub holding_from_number : (st : Stage I) → stage_number st ≡ 2 → (k : ℕ) × (st ≡ Holding k)
  holding_from_number Idle e = absurd (omega arith)
  holding_from_number (Waiting k) e = absurd (omega arith)
  holding_from_number (Holding k) e = (k, refl)
  holding_from_number (Joined ys) e = absurd (omega arith)

  -- a pass whose turn is out has the ticket that is served
  turn_ticket : (log : List I) (served : ℕ) (seen : List I) (st : Stage I) → KnowsStage log served seen st → turns_of st ≤ ticket_at served st
  turn_ticket log served seen Idle know = omega arith
  turn_ticket log served seen (Waiting t) know = omega arith
  turn_ticket log served seen (Holding t) know = omega (arith, one_if t served know.0)
  turn_ticket log served seen (Joined ys) know = omega arith

  -- what a pass whose turn isn't out knows also holds of a longer history and a later ticket
  later_stage : (log new : List I) (served next : ℕ) (seen : List I) (st : Stage I) → turns_of st ≡ 0 → ((ys : List I) → IsPrefix ys log → IsPrefix ys new) → KnowsStage log served seen st → KnowsStage new next seen st
  later_stage log new served next seen Idle off longer know = tt
  later_stage log new served next seen (Waiting t) off longer know = tt
  later_stage log new served next seen (Holding t) off longer know = absurd (omega (arith, off))
  later_stage log new served next seen (Joined ys) off longer know = longer ys know

carried_same : {T : Type 0} (x y : T) (cs ds : List (ℕ × Option T)) → (0, Some x) ∷ cs ≡ (0, Some y) ∷ ds → x ≡ y
carried_same {T} x y cs ds same =
    let head : (0, Some x) ≡ (0, Some y) = cc same in
    let inner : Some x ≡ Some y = ap (λ (p : ℕ × Option T). p.1) head in
    cc inner

module _ {T I O : Type 0} (history : T → List I) (made : T → O) (origin : O) where
  -- a pass whose turn isn't out changes its view, and isn't out then
  pub slot_set : (log : List I) (homes : List (mathlib.Core.Option.Option (Option T))) (vs : List (View I O)) (id : ℕ) (v w : View I O) → get_elem? vs id ≡ some v → turns_of v.stage ≡ 0 → turns_of w.stage ≡ 0
      → HasSlot history made origin log homes vs → HasSlot history made origin log homes (set vs id w)
  slot_set log homes vs id v w at off_v off_w h =
      let same : sum_by (λ (x : View I O). turns_of x.stage) (set vs id w) ≡ sum_by (λ (x : View I O). turns_of x.stage) vs = omega (arith, off_v, off_w, sum_set (λ (x : View I O). turns_of x.stage) vs id v w at) in
      ⊎_elim (λ a. inl (same ∙ a.0, a.1)) (λ b. inr (same ∙ b.0, b.1)) h

  pub slot_snoc : (log : List I) (homes : List (mathlib.Core.Option.Option (Option T))) (vs : List (View I O)) (w : View I O) → turns_of w.stage ≡ 0 → HasSlot history made origin log homes vs → HasSlot history made origin log homes (vs ++ w ∷ [])
  slot_snoc log homes vs w off h =
      let same : sum_by (λ (x : View I O). turns_of x.stage) (vs ++ w ∷ []) ≡ sum_by (λ (x : View I O). turns_of x.stage) vs = omega (arith, off, sum_by_push (λ (x : View I O). turns_of x.stage) vs w) in
      ⊎_elim (λ a. inl (same ∙ a.0, a.1)) (λ b. inr (same ∙ b.0, b.1)) h

  -- step 1
  pub draw_allows : (slots id : ℕ) (v : View I O) (cs : List (ℕ × Option T)) → v.stage ≡ Idle → 1 ≤ v.units
      → Allows (Kept history made origin) slots id (v, cs) 0 (λ n. (n + 1) % 2 ^ 64) (Draws (v, cs))
  draw_allows slots id v cs idle some_units s k len at small =
      let w : View I O = record v { stage = Waiting k.drawn } in
      let found : get_or s.words 0 0 ≡ k.drawn % 2 ^ 64 = ap (λ ws. get_or ws 0 0) k.words in
      let next : (get_or s.words 0 0 + 1) % 2 ^ 64 ≡ (k.drawn + 1) % 2 ^ 64 = omega (arith, found) in
      let mine : Knows k.log k.served origin v = k.each_view id v at in
      let no_ticket : tickets_of v.stage ≡ 0 = ap tickets_of idle in
      let drawn : k.served ≤ k.drawn = omega (arith, k.tickets) in (
        w,
        keeps,
        tt,
        record {
          log = k.log;
          drawn = k.drawn + 1;
          served = k.served;
          words = ap (λ ws. set ws 0 ((get_or s.words 0 0 + 1) % 2 ^ 64)) k.words ∙ ap (λ n. n ∷ k.served % 2 ^ 64 ∷ length k.log % 2 ^ 64 ∷ []) next;
          units = omega (arith, sum_set (λ (x : View I O). x.units) s.views id v w at, k.units);
          tickets = omega (arith, sum_set (λ (x : View I O). tickets_of x.stage) s.views id v w at, no_ticket, k.tickets);
          each_ticket = λ t. omega (arith, sum_set (λ (x : View I O). ticket_at t x.stage) s.views id v w at, ap {B = ℕ} (ticket_at t) idle, k.each_ticket t, within_more k.served k.drawn t drawn);
          each_place = λ p. omega (arith, sum_set (λ (x : View I O). times_at p x.places) s.views id v w at, k.each_place p);
          each_view = each_set (Knows k.log k.served origin) s.views id w
              (record { begins = mine.begins; stage = tt; placed = subst (λ (st : Stage I). are_places 0 (reach v.seen st) v.places ≡ true) idle mine.placed; few = some_units; spent = mine.spent; made = mine.made })
              (λ j x ne e. k.each_view j x e);
          slot = slot_set k.log s.homes s.views id v w at (ap turns_of idle) refl k.slot;
        },
        (k.drawn, found, refl, refl),
      )

  -- at most 2 ^ 32 tickets are out
  few_tickets : (s : State (Option T) (View I O)) (k : Kept history made origin s) → k.drawn ≤ k.served + 2 ^ 32
  few_tickets s k = omega (arith, k.tickets, k.units, sums_le (λ (x : View I O). tickets_of x.stage) (λ (x : View I O). x.units) s.views (λ j x e. (k.each_view j x e).few))

  -- where a pass waits for the ticket that is served, no turn is out
  no_turn_out : (s : State (Option T) (View I O)) (k : Kept history made origin s) (id : ℕ) (v : View I O) → get_elem? s.views id ≡ some v → v.stage ≡ Waiting k.served → sum_by (λ (x : View I O). turns_of x.stage) s.views ≡ 0
  no_turn_out s k id v at waits =
      let has : ticket_at k.served v.stage ≡ 1 = ap {B = ℕ} (ticket_at k.served) waits ∙ one_if k.served k.served refl in
      let less = sums_lt (λ (x : View I O). turns_of x.stage) (λ (x : View I O). ticket_at k.served x.stage) s.views id v at
      (λ j x e. turn_ticket k.log k.served x.seen x.stage (k.each_view j x e).stage)
      (omega (arith, has, ap {B = ℕ} turns_of waits)) in
      omega (arith, less, k.each_ticket k.served, within_few k.served k.drawn k.served)

  -- a look that changes nothing
  looked : (s : State (Option T) (View I O)) (k : Kept history made origin s) (i id : ℕ) (v : View I O) (cs : List (ℕ × Option T)) → get_elem? s.views id ≡ some v → Kept history made origin (stepped s i (get_or s.words i 0) id cs v keeps)
  looked s k i id v cs at = record {
    log = k.log;
    drawn = k.drawn;
    served = k.served;
    words = set-get_or s.words i 0 ∙ k.words;
    units = omega (arith, sum_set (λ (x : View I O). x.units) s.views id v v at, k.units);
    tickets = omega (arith, sum_set (λ (x : View I O). tickets_of x.stage) s.views id v v at, k.tickets);
    each_ticket = λ t. omega (arith, sum_set (λ (x : View I O). ticket_at t x.stage) s.views id v v at, k.each_ticket t);
    each_place = λ p. omega (arith, sum_set (λ (x : View I O). times_at p x.places) s.views id v v at, k.each_place p);
    each_view = each_set (Knows k.log k.served origin) s.views id v (k.each_view id v at) (λ j x ne e. k.each_view j x e);
    slot =
        let same : sum_by (λ (x : View I O). turns_of x.stage) (set s.views id v) ≡ sum_by (λ (x : View I O). turns_of x.stage) s.views = omega (arith, sum_set (λ (x : View I O). turns_of x.stage) s.views id v v at) in
        ⊎_elim (λ a. inl (same ∙ a.0, a.1)) (λ b. inr (same ∙ b.0, b.1)) k.slot;
  }

  -- the own items of a pass that waits or holds are in any history that begins with what it has seen
  placed_later : (log : List I) (v : View I O) (st : Stage I) (new : List I) → v.stage ≡ st → reach v.seen st ≡ length v.seen → IsPrefix v.seen new → are_places 0 (reach v.seen v.stage) v.places ≡ true → are_places 0 (length new) v.places ≡ true
  placed_later log v st new is same b h = wider 0 0 (reach v.seen v.stage) (length new) v.places (omega arith) (omega (arith, ap {B = ℕ} (reach v.seen) is, same, prefix_le v.seen new b)) h

  -- steps 2 and 3, where the pass's ticket is served: the value comes into its hand
  taken : (s : State (Option T) (View I O)) (k : Kept history made origin s) (id : ℕ) (v : View I O) (cs : List (ℕ × Option T)) → get_elem? s.views id ≡ some v → v.stage ≡ Waiting k.served
      → (x : T) → s.homes ≡ some (Some x) ∷ [] → history x ≡ k.log → IsPrefix v.seen (history x)
      → Kept history made origin (stepped s 1 (get_or s.words 1 0) id cs record v { stage = Holding k.served; seen = history x } (takes 0 (Some x)))
  taken s k id v cs at waits x home is begins =
      let w : View I O = record v { stage = Holding k.served; seen = history x } in
      let mine : Knows k.log k.served origin v = k.each_view id v at in
      let one : tickets_of v.stage ≡ 1 = ap {B = ℕ} tickets_of waits in
      record {
        log = k.log;
        drawn = k.drawn;
        served = k.served;
        words = set-get_or s.words 1 0 ∙ k.words;
        units = omega (arith, sum_set (λ (y : View I O). y.units) s.views id v w at, k.units);
        tickets = omega (arith, sum_set (λ (y : View I O). tickets_of y.stage) s.views id v w at, one, k.tickets);
        each_ticket = λ t. omega (arith, sum_set (λ (y : View I O). ticket_at t y.stage) s.views id v w at, ap {B = ℕ} (ticket_at t) waits, k.each_ticket t);
        each_place = λ p. omega (arith, sum_set (λ (y : View I O). times_at p y.places) s.views id v w at, k.each_place p);
        each_view = each_set (Knows k.log k.served origin) s.views id w
            (record {
              begins = subst (λ (ys : List I). IsPrefix (history x) ys) is (prefix_same (history x));
              stage = (refl, is);
              placed = placed_later k.log v (Waiting k.served) (history x) waits refl begins mine.placed;
              few = omega (arith, one, mine.few);
              spent = mine.spent;
              made = mine.made;
            })
            (λ j y ne e. k.each_view j y e);
        slot = inr (
          omega (arith, sum_set (λ (y : View I O). turns_of y.stage) s.views id v w at, ap {B = ℕ} turns_of waits, no_turn_out s k id v at waits),
          ap (λ hs. set hs 0 none) home,
        );
      }

  -- step 2
  pub look_allows : (slots id t : ℕ) (v : View I O) (cs : List (ℕ × Option T)) → v.stage ≡ Waiting t
      → Allows (Kept history made origin) slots id (v, cs) 1 (λ n. n) (Looks history made (v, cs))
  look_allows slots id t v cs waits s k len at small =
      let found : get_or s.words 1 0 ≡ k.served % 2 ^ 64 = ap (λ ws. get_or ws 1 0) k.words in
      let mine : Knows k.log k.served origin v = k.each_view id v at in
      let has : ticket_at t v.stage ≡ 1 = ap {B = ℕ} (ticket_at t) waits ∙ one_if t t refl in
      let bounds : (k.served ≤ t) × (t < k.drawn) = within_some k.served k.drawn t (omega (arith, has, k.each_ticket t, one_below (λ (x : View I O). ticket_at t x.stage) s.views id v at)) in
      ⊎_elim
      (λ hit.
      let now : k.served ≡ t = one_turn k.served t (2 ^ 64) bounds.0 (omega (arith, few_tickets s k, bounds.1)) (sym found ∙ hit) in
      let waits' : v.stage ≡ Waiting k.served = waits ∙ ap Waiting (sym now) in
      ⊎_elim
      (λ h.
      let x = h.1.0 in
      let begins : IsPrefix v.seen (history x) = (mine.begins.0, mine.begins.1 ∙ sym h.1.2) in
      let made_of : v.origin ≡ Some (made x) = mine.made (λ z. omega (arith, z, mine.few, ap {B = ℕ} tickets_of waits)) ∙ ap Some (sym h.1.3) in (
        record v { stage = Holding k.served; seen = history x },
        takes 0 (Some x),
        ap (λ hs. get_elem? hs 0) h.1.1,
        taken s k id v cs at waits' x h.1.1 h.1.2 begins,
        λ n is. let same : k.served ≡ n = now ∙ cc (waits, is) in
            inl (found ∙ ap (λ m. m % 2 ^ 64) same, (x, record { view = (k.served, refl); begins = begins; made = made_of; placed = placed_later k.log v (Waiting t) (history x) waits refl begins mine.placed }, refl)),
      ))
      (λ h. absurd (omega (arith, h.0, no_turn_out s k id v at waits')))
      k.slot)
      (λ miss. (v, keeps, tt, looked s k 1 id v cs at, λ n is. let same : t ≡ n = cc (waits, is) in inr ((λ e. miss (e ∙ ap (λ m. m % 2 ^ 64) (sym same))), refl)))
      (cases_eq (get_or s.words 1 0) (t % 2 ^ 64))

  -- while a turn is out, the slot is empty
  empty_slot : (s : State (Option T) (View I O)) (k : Kept history made origin s) (id : ℕ) (v : View I O) → get_elem? s.views id ≡ some v → turns_of v.stage ≡ 1 → (sum_by (λ (x : View I O). turns_of x.stage) s.views ≡ 1) × (s.homes ≡ none ∷ [])
  empty_slot s k id v at out = ⊎_elim (λ h. absurd (omega (arith, h.0, out, one_below (λ (x : View I O). turns_of x.stage) s.views id v at))) (λ h. h) k.slot

  -- what another pass knows, after the history or the ticket that is served has changed in a turn
  others_know : (s : State (Option T) (View I O)) (k : Kept history made origin s) (id : ℕ) (v : View I O) → get_elem? s.views id ≡ some v → turns_of v.stage ≡ 1
      → (new : List I) (next : ℕ) → ((ys : List I) → IsPrefix ys k.log → IsPrefix ys new)
      → (j : ℕ) (u : View I O) → j ≢ id → get_elem? s.views j ≡ some u → Knows new next origin u
  others_know s k id v at out new next longer j u ne e =
      let o : Knows k.log k.served origin u = k.each_view j u e in
      let off : turns_of u.stage ≡ 0 = omega (arith, out, (empty_slot s k id v at out).0, two_below (λ (x : View I O). turns_of x.stage) s.views id j v u ne at e) in
      record { begins = longer u.seen o.begins; stage = later_stage k.log new k.served next u.seen u.stage off longer o.stage; placed = o.placed; few = o.few; spent = o.spent; made = o.made }

  -- step 4
  pub commit_allows : (slots id t : ℕ) (v : View I O) (cs : List (ℕ × Option T)) (x : T) (item : I) → v.stage ≡ Holding t → history x ≡ v.seen ++ item ∷ []
      → Allows (Kept history made origin) slots id (v, (0, Some x) ∷ cs) 2 (λ n. (n + 1) % 2 ^ 64) (λ _. Commits history (v, (0, Some x) ∷ cs))
  commit_allows slots id t v cs x item holds more s k len at small =
      let w : View I O = record v { seen = history x; places = v.places ++ length v.seen ∷ [] } in
      let mine : Knows k.log k.served origin v = k.each_view id v at in
      let out : turns_of v.stage ≡ 1 = ap {B = ℕ} turns_of holds in
      let one : tickets_of v.stage ≡ 1 = ap {B = ℕ} tickets_of holds in
      let know : (t ≡ k.served) × (v.seen ≡ k.log) = subst (KnowsStage k.log k.served v.seen) holds mine.stage in
      let more' : history x ≡ k.log ++ item ∷ [] = more ∙ ap (λ xs. xs ++ item ∷ []) know.1 in
      let found : get_or s.words 2 0 ≡ length k.log % 2 ^ 64 = ap (λ ws. get_or ws 2 0) k.words in
      let longer : length (history x) ≡ length k.log + 1 = ap length more' ∙ length-append k.log (item ∷ []) in
      let next : (get_or s.words 2 0 + 1) % 2 ^ 64 ≡ length (history x) % 2 ^ 64 = omega (arith, found, longer) in
      let same_length : length v.seen ≡ length k.log = ap length know.1 in (
        w,
        keeps,
        tt,
        record {
          log = history x;
          drawn = k.drawn;
          served = k.served;
          words = ap (λ ws. set ws 2 ((get_or s.words 2 0 + 1) % 2 ^ 64)) k.words ∙ ap (λ n. k.drawn % 2 ^ 64 ∷ k.served % 2 ^ 64 ∷ n ∷ []) next;
          units = omega (arith, sum_set (λ (y : View I O). y.units) s.views id v w at, k.units);
          tickets = omega (arith, sum_set (λ (y : View I O). tickets_of y.stage) s.views id v w at, k.tickets);
          each_ticket = λ n. omega (arith, sum_set (λ (y : View I O). ticket_at n y.stage) s.views id v w at, k.each_ticket n);
          each_place = λ p. omega (
            arith,
            sum_set (λ (y : View I O). times_at p y.places) s.views id v w at,
            sum_by_push (λ (q : ℕ). one_where (eqb q p)) v.places (length v.seen),
            k.each_place p,
            within_more 0 (length k.log) p (omega arith),
            ap {B = ℕ} (λ n. one_within 0 n p) longer,
            ap {B = ℕ} (λ n. one_where (eqb n p)) same_length,
          );
          each_view = each_set (Knows (history x) k.served origin) s.views id w
              (record {
                begins = prefix_same (history x);
                stage = subst (KnowsStage (history x) k.served (history x)) (sym holds) (know.0, refl);
                placed = wider 0 0 (length v.seen + 1) (reach (history x) v.stage) (v.places ++ length v.seen ∷ []) (omega arith) (omega (arith, ap {B = ℕ} (reach (history x)) holds, longer, same_length))
                    (place_last 0 (length v.seen) v.places (omega arith) (placed_later k.log v (Holding t) v.seen holds refl (prefix_same v.seen) mine.placed));
                few = mine.few;
                spent = λ z. absurd (omega (arith, one, mine.few, z));
                made = mine.made;
              })
              (others_know s k id v at out (history x) k.served (λ ys b. prefix_more ys k.log (history x) item more' b));
          slot = inr (omega (arith, sum_set (λ (y : View I O). turns_of y.stage) s.views id v w at, (empty_slot s k id v at out).0), (empty_slot s k id v at out).1);
        },
        (history x, refl, λ y ds same. ap history (carried_same x y cs ds same)),
      )

  -- steps 5 and 6
  pub serve_allows : (slots id t : ℕ) (v : View I O) (cs : List (ℕ × Option T)) (x : T) → v.stage ≡ Holding t → history x ≡ v.seen → v.origin ≡ Some (made x)
      → Allows (Kept history made origin) slots id (v, (0, Some x) ∷ cs) 1 (λ n. (n + 1) % 2 ^ 64) (λ _. Serves (v, (0, Some x) ∷ cs))
  serve_allows slots id t v cs x holds is made_of s k len at small =
      let w : View I O = record v { stage = Idle } in
      let mine : Knows k.log k.served origin v = k.each_view id v at in
      let out : turns_of v.stage ≡ 1 = ap {B = ℕ} turns_of holds in
      let one : tickets_of v.stage ≡ 1 = ap {B = ℕ} tickets_of holds in
      let know : (t ≡ k.served) × (v.seen ≡ k.log) = subst (KnowsStage k.log k.served v.seen) holds mine.stage in
      let found : get_or s.words 1 0 ≡ k.served % 2 ^ 64 = ap (λ ws. get_or ws 1 0) k.words in
      let next : (get_or s.words 1 0 + 1) % 2 ^ 64 ≡ (k.served + 1) % 2 ^ 64 = omega (arith, found) in
      let placed : are_places 0 (length v.seen) v.places ≡ true = placed_later k.log v (Holding t) v.seen holds refl (prefix_same v.seen) mine.placed in
      let more : k.served < k.drawn = omega (arith, k.tickets, one, one_below (λ (y : View I O). tickets_of y.stage) s.views id v at) in
      let kept_origin : made x ≡ origin = some_same (made x) origin (sym made_of ∙ mine.made (λ z. omega (arith, z, mine.few, one))) in (
        w,
        gives,
        tt,
        record {
          log = k.log;
          drawn = k.drawn;
          served = k.served + 1;
          words = ap (λ ws. set ws 1 ((get_or s.words 1 0 + 1) % 2 ^ 64)) k.words ∙ ap (λ n. k.drawn % 2 ^ 64 ∷ n ∷ length k.log % 2 ^ 64 ∷ []) next;
          units = omega (arith, sum_set (λ (y : View I O). y.units) s.views id v w at, k.units);
          tickets = omega (arith, sum_set (λ (y : View I O). tickets_of y.stage) s.views id v w at, one, k.tickets);
          each_ticket = λ n. omega (
            arith,
            sum_set (λ (y : View I O). ticket_at n y.stage) s.views id v w at,
            ap {B = ℕ} (ticket_at n) holds,
            ap {B = ℕ} (λ m. one_where (eqb m n)) know.0,
            k.each_ticket n,
            within_less k.served k.drawn n more,
          );
          each_place = λ p. omega (arith, sum_set (λ (y : View I O). times_at p y.places) s.views id v w at, k.each_place p);
          each_view = each_set (Knows k.log (k.served + 1) origin) s.views id w
              (record { begins = mine.begins; stage = tt; placed = placed; few = omega arith; spent = mine.spent; made = mine.made })
              (others_know s k id v at out k.log (k.served + 1) (λ ys b. b));
          slot = inl (
            omega (arith, sum_set (λ (y : View I O). turns_of y.stage) s.views id v w at, out, (empty_slot s k id v at out).0),
            (x, ap (λ hs. set hs 0 (some (Some x))) (empty_slot s k id v at out).1, is ∙ know.1, kept_origin),
          );
        },
        (refl, refl, placed),
      )

  -- a commit, for a hand that is known by an equation
  pub commit_at : (slots id t : ℕ) (v : View I O) (hand : List (ℕ × Option T)) (x : T) (item : I) → hand ≡ (0, Some x) ∷ [] → v.stage ≡ Holding t → history x ≡ v.seen ++ item ∷ []
      → Allows (Kept history made origin) slots id (v, hand) 2 (λ n. (n + 1) % 2 ^ 64) (λ _. Commits history (v, hand))
  commit_at slots id t v hand x item e holds more = subst (λ (cs : List (ℕ × Option T)). Allows (Kept history made origin) slots id (v, cs) 2 (λ n. (n + 1) % 2 ^ 64) (λ _. Commits history (v, cs))) (sym e)
      (commit_allows slots id t v [] x item holds more)

  pub serve_at : (slots id t : ℕ) (v : View I O) (hand : List (ℕ × Option T)) (x : T) → hand ≡ (0, Some x) ∷ [] → v.stage ≡ Holding t → history x ≡ v.seen → v.origin ≡ Some (made x)
      → Allows (Kept history made origin) slots id (v, hand) 1 (λ n. (n + 1) % 2 ^ 64) (λ _. Serves (v, hand))
  serve_at slots id t v hand x e holds is made_of = subst (λ (cs : List (ℕ × Option T)). Allows (Kept history made origin) slots id (v, cs) 1 (λ n. (n + 1) % 2 ^ 64) (λ _. Serves (v, cs))) (sym e)
      (serve_allows slots id t v [] x holds is made_of)

  -- the rule at the start
  pub opens : (x : T) (slots : List (Option T)) → slots ≡ Some x ∷ [] → history x ≡ [] → made x ≡ origin → Kept history made origin (opening (0 ∷ 0 ∷ 0 ∷ []) slots (first_view origin))
  opens x slots one empty is = record {
    log = [];
    drawn = 0;
    served = 0;
    words = refl;
    units = refl;
    tickets = refl;
    each_ticket = λ k. sym (within_after 0 0 k (omega arith));
    each_place = λ p. sym (within_after 0 0 p (omega arith));
    each_view = only;
    slot = inl (refl, (x, ap (map some) one, empty, is));
  } where
    only : (j : ℕ) (v : View I O) → get_elem? (first_view origin ∷ []) j ≡ some v → Knows [] 0 origin v
    only zero v e = subst (Knows [] 0 origin) (some-injective (first_view origin) v e) (record { begins = ([], refl); stage = tt; placed = refl; few = omega arith; spent = λ z. refl; made = λ _. refl })
    only (suc j) v e = absurd (some-ne-none v (sym e))

-- the slot that a hand took last
pub hand_is : {T : Type 0} (hand cs : List (ℕ × Option T)) (y : Option T) → hand ≡ (0, y) ∷ cs → hand ≡ (0, y) ∷ rest hand
hand_is hand cs y e = e ∙ ap (λ r. (0, y) ∷ r) (sym (ap rest e))

-- a look that found the pass's own ticket
pub taken_now : {T I O : Type 0} (history : T → List I) (made : T → O) (m n : Me (Option T) (View I O)) (word found : ℕ) → Awaits word m.0 → found ≡ word → Looks history made m found n
    → (x : T) × Took history made x m.0 n.0 × (n.1 ≡ (0, Some x) ∷ m.1)
taken_now history made m n word found waits is looks = ⊎_elim (λ h. h.1) (λ h. absurd (h.0 (is ∙ waits.1))) (looks waits.0 waits.2)
