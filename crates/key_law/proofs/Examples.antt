-- a triangle worked out by hand: links 0 and 1 from one end of a demand to the other over a third node, and link 2 straight
use Rattle.std.proofs.Common.{◌≡◌, ◌≢◌, ℕ, zero, suc, ◌<◌, ◌+◌, refl, arith, inl, inr, cond, eqb, ℤ, pos, negsuc, ◌-ℤ◌, ◌*ℤ◌, ◌≤ℤ◌}
use Rattle.net_core.proofs.Library.{ints, eq-one_of_dvd-one}
use Rattle.checked_fraction.specs.Terms.{IsReduced}
use Rattle.simplex_law.specs.Terms.{dot, unit_vector, put, ColumnOf, slack_basis}
use Rattle.key_law.{specs.Keys.swap, specs.KeyRows.{key_nums, role_value, AreKeyRows}, specs.Kept.IsKept, specs.KeyedBases.{KeyedBasis, left_of, whole_cost, whole_prices, KeyedTurn}, specs.Turns.{IsBlockTurned, IsExchanged}, proofs.Laws.turn_pick, proofs.Roles.demand_rows}
use Rattle.key_law.proofs.Ends
use Rattle.key_law.proofs.Exchange
use Rattle.key_law.proofs.Leaving
use Rattle.key_law.proofs.Turns

-- numbers in the rows of the links, and in that of the demand
abbrev numbers : ℤ → ℤ → ℤ → ℤ → ℕ → ℤ
numbers x y z d k = cond (eqb 0 k) x (cond (eqb 1 k) y (cond (eqb 2 k) z d))

abbrev slacks : ℕ → ℕ
slacks k = k + 10

-- the demand straight, and over the third node
abbrev straight : ColumnOf ℕ
straight = record { name = 0; gain = pos 1; entry = numbers (pos 0) (pos 0) (pos 1) (pos 1) }

abbrev around : ColumnOf ℕ
around = record { name = 1; gain = pos 1; entry = numbers (pos 1) (pos 1) (pos 0) (pos 1) }

three : (P : ℕ → Type 0) → P 0 → P 1 → P 2 → (j : ℕ) → j < 3 → P j
three P a b c zero l = a
three P a b c (suc zero) l = b
three P a b c (suc (suc zero)) l = c
three P a b c (suc (suc (suc j))) l = absurd (omega (arith, l))

four : (P : ℕ → Type 0) → P 0 → P 1 → P 2 → P 3 → (j : ℕ) → j < 4 → P j
four P a b c d zero l = a
four P a b c d (suc zero) l = b
four P a b c d (suc (suc zero)) l = c
four P a b c d (suc (suc (suc zero))) l = d
four P a b c d (suc (suc (suc (suc j)))) l = absurd (omega (arith, l))

-- all rows are over 1
over_one : {raw nums : ℕ → ℤ} {whole : ℤ} → ((k : ℕ) → k < 3 → nums k *ℤ whole ≡ raw k *ℤ pos 1) → IsReduced 3 raw whole nums (pos 1)
over_one same = record { positive = omega (arith, ints); same = same; lowest = λ d of_den of_nums. eq-one_of_dvd-one of_den }

-- the start of both examples: the slacks, of which that of the demand is its key
abbrev start : (bound : ℕ → ℤ) → ((j : ℕ) → j < 4 → pos 0 ≤ℤ bound j) → KeyedBasis ℕ
start bound bounds = record {
  links = 3;
  demands = 1;
  bound = bound;
  basis = slack_basis slacks;
  place = λ r. r;
  role = λ j. j;
  kept = unit_vector;
  den = λ i. pos 1;
  prices = λ k. pos 0;
  prices_den = pos 1;
  is_kept = Ends.kept_start 3 1 bound slacks _ _ _ _ bounds (λ i k li lk. refl) (λ i l. refl) (λ k l. refl) refl;
}

-- the row of the key, where all denominators are 1
abbrev ones : ℕ → ℤ
ones i = pos 1

abbrev key_rows_of : (k : KeyedBasis ℕ) → ℕ → ℕ → ℤ
key_rows_of k = key_nums k.links k.demands k.basis k.place k.kept ones

are_key_rows : (k : KeyedBasis ℕ) → k.den ≡ ones → AreKeyRows k.links k.demands k.basis k.place (key_rows_of k) ones
are_key_rows k e = demand_rows k.is_kept (λ d. ones) ones (λ d l. omega (arith, ints)) (λ d l i li. rw e refl)

-- The first example: each link carries 2, and the demand needs 1. It goes straight: its slack, which is its key, leaves.

abbrev little : ℕ → ℤ
little = numbers (pos 2) (pos 2) (pos 2) (pos 1)

little_high : (j : ℕ) → j < 4 → pos 0 ≤ℤ little j
little_high = four _ (omega (arith, ints)) (omega (arith, ints)) (omega (arith, ints)) (omega (arith, ints))

-- the key's ratio is 1, and that of link 2 is 2
abbrev first_turn : KeyedTurn ℕ
first_turn = record {
  before = start little little_high;
  of_keys = key_rows_of (start little little_high);
  of_den = ones;
  key_rows = are_key_rows (start little little_high) refl;
  enters = straight;
  leaves = 3;
  pick = record {
    inside = omega arith;
    positive = omega (arith, ints);
    gains = omega (arith, ints);
    ratio = four _
        (λ ne more. absurd (omega (arith, ints, more)))
        (λ ne more. absurd (omega (arith, ints, more)))
        (λ ne more. inl (omega (arith, ints)))
        (λ ne more. absurd (ne refl));
  };
}

-- only the key changes
after_first : IsKept 3 1 little (put (slack_basis slacks) 3 straight) (λ r. r) (λ j. j) unit_vector ones (λ k. pos 0) (pos 1)
after_first = Turns.key_turned first_turn.before.is_kept first_turn.key_rows first_turn.enters first_turn.leaves first_turn.pick.inside (turn_pick first_turn) 0 refl (record {
  inside = omega arith;
  owned = λ e l. one e l;
  alone = three _ refl refl refl;
})
  where
    one : (e : ℕ) → e < 1 → straight.entry (3 + e) ≡ unit_vector 0 e
    one zero l = refl
    one (suc e) l = absurd (omega (arith, l))

-- The second example: link 2 carries 1, and the demand needs 3. One goes straight, until link 2 is full; then the rest goes around, and
-- the slack of the demand leaves, which is its key still.

abbrev more : ℕ → ℤ
more = numbers (pos 2) (pos 2) (pos 1) (pos 3)

more_high : (j : ℕ) → j < 4 → pos 0 ≤ℤ more j
more_high = four _ (omega (arith, ints)) (omega (arith, ints)) (omega (arith, ints)) (omega (arith, ints))

abbrev filling_turn : KeyedTurn ℕ
filling_turn = record {
  before = start more more_high;
  of_keys = key_rows_of (start more more_high);
  of_den = ones;
  key_rows = are_key_rows (start more more_high) refl;
  enters = straight;
  leaves = 2;
  pick = record {
    inside = omega arith;
    positive = omega (arith, ints);
    gains = omega (arith, ints);
    ratio = four _
        (λ ne more. absurd (omega (arith, ints, more)))
        (λ ne more. absurd (omega (arith, ints, more)))
        (λ ne more. absurd (ne refl))
        (λ ne more. inl (omega (arith, ints)));
  };
}

-- link 2 has the price 1
filling_turned : IsBlockTurned 3 1 (slack_basis slacks) (λ r. r) straight 2 unit_vector unit_vector ones ones (λ k. pos 0) (unit_vector 2) (pos 1) (pos 1)
filling_turned = record {
  others = three _
      (λ ne. over_one (three _ refl refl refl))
      (λ ne. over_one (three _ refl refl refl))
      (λ ne. absurd (ne refl));
  pivot = over_one (three _ refl refl refl);
  prices_are = over_one (three _ refl refl refl);
}

abbrev filled : KeyedBasis ℕ
filled = record {
  links = 3;
  demands = 1;
  bound = more;
  basis = put (slack_basis slacks) 2 straight;
  place = λ r. r;
  role = λ j. j;
  kept = unit_vector;
  den = ones;
  prices = unit_vector 2;
  prices_den = pos 1;
  is_kept = Turns.block_turned filling_turn.before.is_kept filling_turn.key_rows filling_turn.enters filling_turn.leaves filling_turn.pick.inside (turn_pick filling_turn) (omega arith) filling_turned;
}

-- links 0 and 1 and the key have the ratio 2, and the key's link entries are the least: 0, 0 and -1
abbrev key_leaves : KeyedTurn ℕ
key_leaves = record {
  before = filled;
  of_keys = key_rows_of filled;
  of_den = ones;
  key_rows = are_key_rows filled refl;
  enters = around;
  leaves = 3;
  pick = record {
    inside = omega arith;
    positive = omega (arith, ints);
    gains = omega (arith, ints);
    ratio = four _
        (λ ne more. inr (refl, inl (omega (arith, ints))))
        (λ ne more. inr (refl, inr (refl, inl (omega (arith, ints)))))
        (λ ne more. absurd (omega (arith, ints, more)))
        (λ ne more. absurd (ne refl));
  };
}

-- the straight path becomes key, and its row of the block that of the slack: 0, 0 and -1
abbrev exchanged_rows : ℕ → ℕ → ℤ
exchanged_rows = put unit_vector 2 (λ k. pos 0 -ℤ unit_vector 2 k)

is_exchanged : IsExchanged 3 1 filled.basis (λ r. r) 2 0 unit_vector exchanged_rows ones ones ones (pos 1)
is_exchanged = record {
  row_in = omega arith;
  demand_in = omega arith;
  owned = λ e l. one e l;
  weights = three _ refl refl refl;
  positive = omega (arith, ints);
  row = over_one (three _ refl refl refl);
  rest = λ j k lj. three (λ j. j ≢ 2 → k < 3 → exchanged_rows j k ≡ unit_vector j k) (λ ne lk. refl) (λ ne lk. refl) (λ ne lk. absurd (ne refl)) j lj;
  rest_den = λ j lj ne. refl;
}
  where
    one : (e : ℕ) → e < 1 → straight.entry (3 + e) ≡ unit_vector 0 e
    one zero l = refl
    one (suc e) l = absurd (omega (arith, l))

abbrev exchanged : KeyedBasis ℕ
exchanged = record {
  links = 3;
  demands = 1;
  bound = more;
  basis = filled.basis;
  place = swap 2 3;
  role = swap 2 3;
  kept = exchanged_rows;
  den = ones;
  prices = unit_vector 2;
  prices_den = pos 1;
  is_kept = Exchange.exchanged filled.is_kept is_exchanged;
}

-- of the path around the new key leaves 1, 1 and -1, and its cost stays
left_around : (k : ℕ) → k < 3 → left_of exchanged around.entry k ≡ numbers (pos 1) (pos 1) (negsuc 0) (pos 0) k
left_around = three _ refl refl refl

same_cost : whole_cost exchanged around ≡ whole_cost filled around
same_cost = refl

-- the products and values of the other rows stay, and the last row has those that the key had
same_products : (i : ℕ) → i < 3 → dot 3 (exchanged.kept i) (left_of exchanged around.entry) ≡ pos 1
same_products = three _ refl refl refl

same_values : (i : ℕ) → i < 3 → dot 3 (exchanged.kept i) (left_of exchanged more) ≡ pos 2
same_values = three _ refl refl refl

-- the rows after the turn
abbrev last_rows : ℕ → ℕ → ℤ
last_rows i = cond (eqb 0 i) (numbers (pos 1) (pos 0) (pos 1) (pos 0)) (cond (eqb 1 i) (numbers (pos 0) (pos 1) (pos 1) (pos 0)) (numbers (pos 0) (pos 0) (negsuc 0) (pos 0)))

last_turned : IsBlockTurned 3 1 filled.basis (swap 2 3) around 2 exchanged_rows last_rows ones ones (unit_vector 2) (λ k. pos 0) (pos 1) (pos 1)
last_turned = record {
  others = three _
      (λ ne. over_one (three _ refl refl refl))
      (λ ne. over_one (three _ refl refl refl))
      (λ ne. absurd (ne refl));
  pivot = over_one (three _ refl refl refl);
  prices_are = over_one (three _ refl refl refl);
}

-- the path around is where the slack was, and has the last row
abbrev last : KeyedBasis ℕ
last = record {
  links = 3;
  demands = 1;
  bound = more;
  basis = put filled.basis 3 around;
  place = swap 2 3;
  role = swap 2 3;
  kept = last_rows;
  den = ones;
  prices = λ k. pos 0;
  prices_den = pos 1;
  is_kept = Leaving.exchanged_turned key_leaves.before.is_kept key_leaves.key_rows is_exchanged (are_key_rows exchanged refl) key_leaves.enters key_leaves.leaves refl (turn_pick key_leaves) last_turned;
}

-- links 0 and 1 are full, 2 goes around and 1 straight, and the demand alone has a price
last_values : (r : ℕ) → r < 4 → role_value 3 1 last.basis last.place last_rows ones (pos 1) more r ≡ numbers (pos 0) (pos 0) (pos 2) (pos 1) r
last_values = four _ refl refl refl refl

last_prices : (k : ℕ) → k < 4 → whole_prices last k ≡ numbers (pos 0) (pos 0) (pos 0) (pos 1) k
last_prices = four _ refl refl refl refl
