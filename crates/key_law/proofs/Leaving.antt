-- a key leaves that has other basic columns of its demand, and what the products are then
use Rattle.std.proofs.Common.{◌≡◌, ◌≢◌, ℕ, ◌<◌, ◌+◌, refl, sym, ap, ◌∙◌, arith, subst, ℤ, ◌-ℤ◌, ◌*ℤ◌}
use Rattle.simplex_law.{specs.Terms.{dot, put, ColumnOf, IsPick}, proofs.Lemmas.{pick_again, dot-same, row_unique}}
use Rattle.checked_fraction.proofs.Products.{cancelled}
use Rattle.key_law.{proofs.Kept.prices_row, specs.Keys.{swap, key_part, left_column}, specs.Kept.IsKept, specs.KeyRows.{full_prices, key_nums, key_dot, role_nums, AreKeyRows}, specs.Turns.{IsBlockTurned, IsLoneKey, IsExchanged}, proofs.Exchange.{exchanged, swap_first, swap_second, different, key_at}, proofs.Change.{key_turn_product, exchange_product, exchange_key_product}, proofs.Roles.role_tableau, proofs.Turns.{block_turned, new_key, old_key}}

module _ {N : Type 0} {links demands : ℕ} {bound : ℕ → ℤ} {basis : ℕ → ColumnOf N} {place role : ℕ → ℕ} {kept next : ℕ → ℕ → ℤ} {den next_den prices weight : ℕ → ℤ} {prices_den all : ℤ}
    {of_keys other_keys : ℕ → ℕ → ℤ} {of_den other_den : ℕ → ℤ} {i d : ℕ}
    (h : IsKept links demands bound basis place role kept den prices prices_den) (k : AreKeyRows links demands basis place of_keys of_den)
    (x : IsExchanged links demands basis place i d kept next den next_den weight all) (o : AreKeyRows links demands basis (λ r. place (swap i (links + d) r)) other_keys other_den)
    (c : ColumnOf N) (r : ℕ) (is : r ≡ links + d)
    (pick : IsPick (links + demands) bound (λ j. role_nums links demands basis place kept den of_keys of_den (role j)) (full_prices links demands basis place prices prices_den) prices_den c (place r)) where
  same_place : place r ≡ place (swap i (links + d) i)
  same_place = ap place (is ∙ sym (swap_first i (links + d)))

  -- the pick is one after the exchange
  pub exchanged_pick : IsPick (links + demands) bound (λ j. role_nums links demands basis (λ r. place (swap i (links + d) r)) next next_den other_keys other_den (swap i (links + d) (role j)))
      (full_prices links demands basis (λ r. place (swap i (links + d) r)) prices prices_den) prices_den c (place (swap i (links + d) i))
  exchanged_pick = pick_again (links + demands) bound basis _ _ _ _ _ _ _ _ c (place (swap i (links + d) i)) (role_tableau h k) (role_tableau (exchanged h x) o)
      (subst (λ p. IsPick (links + demands) bound (λ j. role_nums links demands basis place kept den of_keys of_den (role j)) (full_prices links demands basis place prices prices_den) prices_den c p) same_place pick)

  -- so its row of the block is the pivot
  pub exchanged_turned : {last : ℕ → ℕ → ℤ} {last_den later : ℕ → ℤ} {later_den : ℤ}
      → IsBlockTurned links demands basis (λ r. place (swap i (links + d) r)) c i next last next_den last_den prices later prices_den later_den
      → IsKept links demands bound (put basis (place r) c) (λ r. place (swap i (links + d) r)) (λ j. swap i (links + d) (role j)) last last_den later later_den
  exchanged_turned {last} {last_den} {later} {later_den} t =
      subst (λ p. IsKept links demands bound (put basis p c) (λ r. place (swap i (links + d) r)) (λ j. swap i (links + d) (role j)) last last_den later later_den) (sym same_place)
      (block_turned (exchanged h x) o c i (omega (arith, x.row_in)) exchanged_pick x.row_in t)

-- what an exchange and a new key do to products, and so to values
module _ {N : Type 0} {links demands : ℕ} {bound : ℕ → ℤ} {basis : ℕ → ColumnOf N} {place role : ℕ → ℕ} {kept next : ℕ → ℕ → ℤ} {den next_den prices weight : ℕ → ℤ} {prices_den all : ℤ}
    {i d : ℕ} (h : IsKept links demands bound basis place role kept den prices prices_den) (x : IsExchanged links demands basis place i d kept next den next_den weight all) where
  abbrev others : ℕ → ℕ → ℤ
  others = key_part links demands basis (λ r. place (swap i (links + d) r))

  is_other : (k : ℕ) → others d k ≡ (basis (place i)).entry k
  is_other k = ap (λ y. (basis (place y)).entry k) (swap_second i (links + d) (different h x))

  same_other : (e k : ℕ) → e < demands → e ≢ d → others e k ≡ key_part links demands basis place e k
  same_other e k le ne = ap (λ y. (basis y).entry k) (key_at h x e le ne)

  -- the other rows keep theirs
  pub exchanged_product : (a : ℕ → ℤ) (j : ℕ) → j < links → j ≢ i → dot links (next j) (left_column links demands basis (λ r. place (swap i (links + d) r)) a) ≡ dot links (kept j) (left_column links demands basis place a)
  exchanged_product a j lj ne = dot-same links (next j) (kept j) _ _ (λ k lk. x.rest j k lj ne lk) (λ k lk. refl) ∙ exchange_product h i d x.row_in x.demand_in x.owned others is_other same_other j a lj ne

  -- the prices of all rows stay
  pub exchanged_prices : (k : ℕ) → k < links + demands → full_prices links demands basis (λ r. place (swap i (links + d) r)) prices prices_den k ≡ full_prices links demands basis place prices prices_den k
  exchanged_prices k lk = cancelled prices_den _ _ h.above
      (row_unique (links + demands) (λ j. (basis j).entry) h.whole.nums h.whole.den h.whole.tableau.filling.0 h.whole.tableau.filling.1 (λ j. (basis j).gain) _ _ prices_den prices_den k
      h.whole.tableau.filling.2 (prices_row (exchanged h x)) (prices_row h) lk)

  -- and the old key's row has those of the key
  pub exchanged_key_product : (a : ℕ → ℤ) → dot links (key_nums links demands basis place kept weight d) (left_column links demands basis (λ r. place (swap i (links + d) r)) a) ≡ key_dot links demands basis place kept weight all d a
  exchanged_key_product a = exchange_key_product h i d x.row_in x.demand_in x.owned others is_other same_other weight all a x.weights

module _ {N : Type 0} {links demands : ℕ} {bound : ℕ → ℤ} {basis : ℕ → ColumnOf N} {place role : ℕ → ℕ} {kept : ℕ → ℕ → ℤ} {den prices : ℕ → ℤ} {prices_den : ℤ}
    {of_keys : ℕ → ℕ → ℤ} {of_den : ℕ → ℤ} (h : IsKept links demands bound basis place role kept den prices prices_den) (k : AreKeyRows links demands basis place of_keys of_den)
    (c : ColumnOf N) (r : ℕ) (inside : r < links + demands)
    (pick : IsPick (links + demands) bound (λ j. role_nums links demands basis place kept den of_keys of_den (role j)) (full_prices links demands basis place prices prices_den) prices_den c (place r))
    (d : ℕ) (is : r ≡ links + d) (lone : IsLoneKey links demands basis place c d) where
  -- where a key leaves for c, products fall by that with what the old keys leave of c, times the column's entry in the demand
  pub key_turned_product : (nums a : ℕ → ℤ) → dot links nums (left_column links demands (put basis (place r) c) place a)
      ≡ dot links nums (left_column links demands basis place a) -ℤ (a (links + d) *ℤ dot links nums (left_column links demands basis place c.entry))
  key_turned_product nums a = key_turn_product links demands (key_part links demands basis place) (key_part links demands (put basis (place r) c) place) d lone.inside
      (λ e x le ne. ap (λ y. y.entry x) (old_key h k c r inside pick d is lone e le ne)) nums a c.entry lone.owned (λ x lx. ap (λ y. y.entry x) (new_key h k c r inside pick d is lone))
