-- the definitions on a network of one link, worked out by hand
use Rattle.std.proofs.Common.{◌≡◌, ℕ, zero, suc, ◌*◌, ◌<◌, List, [], ◌∷◌, get_or, slice_index, refl, sym, ap, arith, subst, inl, pos, ◌*ℤ◌, ◌<ℤ◌}
use Rattle.net_core.proofs.Library.{eq-one_of_dvd-one, ints, Contains-get_or}
use Rattle.module_prices.specs.declared.cheapest.UnitPair.{UnitPair}
use Rattle.plan_terms.specs.Terms.{MasterColumn, Link, CutLine, Violates}
use Rattle.plan_types.specs.declared.quality.Share.{Share}
use Rattle.simplex_law.{specs.Terms.{dot, unit_vector, ColumnOf}, proofs.Lemmas.none_gains}
use Rattle.master_law.{specs.LeastShares.IsLeastShare, specs.MasterPrograms.{master_bound, master_slack, cut_gain, IsCutColumn}, specs.UnitPairs.{share_capacities, share_caps, share_cost}, proofs.Columns.{column_of, is_column_of}}

-- a link between two nodes, with 1 unit installed, and a module of capacity 2 at a cost of 6: the unit pair is 1 at 3
abbrev one_link : List Link
one_link = record { name = 65 ∷ []; a = record { 0 = 0 }; b = record { 0 = 1 }; fixed = 1; setup = 0; modules = record { capacity = 2; cost = 6 } ∷ [] } ∷ []

abbrev one_pair : List UnitPair
one_pair = record { capacity = 1; cost = 3 } ∷ []

-- a demand of 5 across it gives the cut of length 1 with the right side 5
abbrev the_cut : CutLine
the_cut = record { state = record { 0 = 0 }; lengths = 1 ∷ []; right = 5 }

-- 4 units
abbrev four_units : Share
four_units = record { scale = 1; units = 4 ∷ [] }

first : (P : ℕ → Type 0) → P 0 → (j : ℕ) → j < 1 → P j
first P a zero l = a
first P a (suc j) l = absurd (omega (arith, l))

gain_four : (c : ColumnOf MasterColumn) → IsCutColumn one_link one_pair (the_cut ∷ []) c → dot 1 (λ e. pos 4) c.entry <ℤ (pos 1 *ℤ c.gain) → ⊥
gain_four c is gains =
    let same : the_cut ≡ is.cut = only is.cut is.listed.0 is.listed.1 is.listed.2 in
    let entry : c.entry 0 ≡ pos 1 = subst (λ (k : CutLine). c.entry 0 ≡ pos (slice_index k.lengths 0 * 1)) (sym same) (is.entry 0 (omega arith)) in
    let gain : c.gain ≡ pos 4 = subst (λ (k : CutLine). c.gain ≡ cut_gain one_link k) (sym same) is.gain in
    let left : pos 4 *ℤ c.entry 0 ≡ pos 4 = ap (λ x. pos 4 *ℤ x) entry in
    omega (arith, ints, gains, left, gain)
  where
    only : (cut : CutLine) (k : ℕ) → k < 1 → get_or (the_cut ∷ []) k cut ≡ cut → the_cut ≡ cut
    only cut zero l e = e
    only cut (suc k) l e = absurd (omega (arith, l))

-- they are a least share of the cut
four_is_least : IsLeastShare one_link one_pair (the_cut ∷ []) four_units
four_is_least = record {
  basis = λ j. column_of one_link one_pair the_cut;
  duals = λ e. pos 4;
  den = pos 1;
  best = record {
    feasible = record {
      columns = λ j l. inl (is_column_of one_link one_pair (the_cut ∷ []) the_cut (Contains-get_or (the_cut ∷ []) 0 the_cut (omega arith)));
      filled = first _ (unit_vector 0, pos 1, (omega (arith, ints), first _ refl), omega (arith, ints));
    };
    objective = (omega (arith, ints), first _ refl);
    none = none_gains 1 (master_bound one_pair) master_slack (IsCutColumn one_link one_pair (the_cut ∷ [])) (λ e. pos 4) (pos 1) (λ k l. omega (arith, ints)) gain_four;
  };
  scale = refl;
  count = refl;
  units = first _ refl;
  lowest = λ d of_scale of_units. eq-one_of_dvd-one of_scale;
}

-- its capacity is 5, and its cost 12
capacity_five : share_capacities one_link one_pair four_units ≡ 5 ∷ []
capacity_five = refl

cost_twelve : share_cost one_pair four_units ≡ 12
cost_twelve = refl

-- 3 units violate the cut
three_violate : Violates (share_caps one_link one_pair (record { scale = 1; units = 3 ∷ [] })) the_cut
three_violate = omega arith
