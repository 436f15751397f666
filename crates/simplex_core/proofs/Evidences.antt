-- what is too wide is evidence
use Rattle.std.proofs.Common.{◌≡◌, ℕ, ◌<◌, ◌≤◌, ◌^◌, List, length, slice_set, sym, subst, arith, ⊎_elim, ℤ}
use Rattle.checked_fraction.specs.Terms.{num, IsInLowestTerms}
use Rattle.net_core.{specs.declared.columns.WideKind.WideKind, specs.declared.columns.WideKind.TheVariants.{Number, Row as RowOf, Product, Sum, Common, Value, Length}, proofs.Library.{◌∣◌, dvd_trans}}
use Rattle.simplex_law.{specs.Terms.{dot, put, ColumnOf, IsProgramColumn, slack_basis, AreNames, IsReached, HoldsRow, HoldsProduct, HoldsSum, HoldsKind, IsReachedEvidence}, proofs.Lemmas.{sizes, turn_reached, wide_row, wide_duals, wide_product, wide_price, wide_sum, wide_value, wide_common}}
use Rattle.simplex_core.{specs.inner.Commons.{IsFractionOf, den_of_fraction}, proofs.Starts.each_at, specs.Tables.{nums_at, den_at}, proofs.Solving.{IsAt, names_turn, lowest_at, pick_at, state_turn, bounds_turn}, specs.inner.Outcomes.IsWideEnd, specs.inner.Turns.{Picks, GetsWide}, specs.inner.Values.sizes_of, specs.declared.basis.Basis.Basis}

module _ {N : Type 0} (m : ℕ) (bound : ℕ → ℤ) (slack : ℕ → N) (is_listed : ColumnOf N → Type 0) where
  lowest : (b : Basis N) → IsAt m bound slack is_listed b → (i : ℕ) → i < m → IsInLowestTerms m (nums_at b.rows i) (den_at b.rows i)
  lowest b a i l = lowest_at m b.rows i a.shaped.rows a.shaped.rectangle l

  lowest_duals : (b : Basis N) → length b.duals.nums ≡ m → IsInLowestTerms m (num b.duals.nums) b.duals.den
  lowest_duals b width = subst (λ w. IsInLowestTerms w (num b.duals.nums) b.duals.den) width b.duals.lowest

  -- the basis after the turn is reached, whatever becomes of its rows
  next_reached : (b : Basis N) (c : ColumnOf N) (r : ℕ) → IsProgramColumn m slack is_listed c → (a : IsAt m bound slack is_listed b) → Picks m b c r
      → IsReached m bound (IsProgramColumn m slack is_listed) (slack_basis slack) (put a.basis r c)
  next_reached b c r is_c a pick = turn_reached m bound (IsProgramColumn m slack is_listed) (slack_basis slack) a.basis (nums_at b.rows) (den_at b.rows) (num b.duals.nums) b.duals.den c r is_c a.state (pick_at m bound slack is_listed b c r a pick) a.reached

  next_names : (b : Basis N) (c : ColumnOf N) (r : ℕ) (names : List N) → (a : IsAt m bound slack is_listed b) → Picks m b c r → names ≡ slice_set b.names r c.name → AreNames m (put a.basis r c) names
  next_names b c r names a pick is = subst (λ n. AreNames m (put a.basis r c) n) (sym is) (names_turn m a.basis b.names c r a.names pick.inside)

  pub evidence : (b : Basis N) (c : ColumnOf N) (kind : WideKind N) (new : Basis N) → IsProgramColumn m slack is_listed c → IsAt m bound slack is_listed b
      → GetsWide m b c kind new → IsReachedEvidence m bound slack (IsProgramColumn m slack is_listed) (HoldsKind m bound slack (IsProgramColumn m slack is_listed)) new.names kind
  evidence b c (RowOf i) new is_c a w = record {
    basis = put a.basis w.0 c;
    evidence = record {
      named = next_names b c w.0 new.names a w.1 w.2;
      feasible = (next_reached b c w.0 is_c a w.1).here;
      holds = ⊎_elim
          (λ h. subst (λ j. HoldsRow m (put a.basis w.0 c) j) (sym h.0)
          (wide_duals m bound (IsProgramColumn m slack is_listed) a.basis (nums_at b.rows) (den_at b.rows) (num b.duals.nums) b.duals.den c w.0 h.1.0 a.state (pick_at m bound slack is_listed b c w.0 a w.1) h.1.1))
          (λ h. wide_row m bound (IsProgramColumn m slack is_listed) a.basis (nums_at b.rows) (den_at b.rows) (num b.duals.nums) b.duals.den c w.0 i h.2.0 a.state (pick_at m bound slack is_listed b c w.0 a w.1) h.0 h.1 h.2.1)
          w.3;
    };
    reached = next_reached b c w.0 is_c a w.1;
  }
  evidence b c (Product i name) new is_c a w = record {
    basis = a.basis;
    evidence = record {
      named = subst (λ n. AreNames m a.basis n) (sym w.0) a.names;
      feasible = (a.reached).here;
      holds = subst (λ n. HoldsProduct m (IsProgramColumn m slack is_listed) a.basis i n) (sym w.1) (⊎_elim
          (λ h. subst (λ j. HoldsProduct m (IsProgramColumn m slack is_listed) a.basis j c.name) (sym h.0)
          (wide_price m bound (IsProgramColumn m slack is_listed) a.basis (nums_at b.rows) (den_at b.rows) (num b.duals.nums) b.duals.den c a.state (lowest_duals b a.shaped.duals) is_c h.1))
          (λ h. wide_product m bound (IsProgramColumn m slack is_listed) a.basis (nums_at b.rows) (den_at b.rows) (num b.duals.nums) b.duals.den c i a.state h.0 (lowest b a i h.0) is_c h.1)
          w.2);
    };
    reached = a.reached;
  }
  evidence b c (Sum i) new is_c a w = ⊎_elim
      (λ h. record {
        basis = a.basis;
        evidence = record {
          named = subst (λ n. AreNames m a.basis n) (sym h.0) a.names;
          feasible = (a.reached).here;
          holds = wide_sum m bound (IsProgramColumn m slack is_listed) a.basis (nums_at b.rows) (den_at b.rows) (num b.duals.nums) b.duals.den i a.state h.1 (lowest b a i h.1)
              (subst (λ x. 2 ^ 126 ≤ x) (sizes m (num b.bounds) bound (IsProgramColumn m slack is_listed) a.bounds m (nums_at b.rows i) (omega arith)) h.2);
        };
        reached = a.reached;
      })
      (λ h. let r = h.1.0 in let t = h.1.1 in record {
        basis = put a.basis r c;
        evidence = record {
          named = next_names b c r new.names a t.pick t.names;
          feasible = (next_reached b c r is_c a t.pick).here;
          holds = subst (λ j. HoldsSum m bound (put a.basis r c) j) (sym h.0)
              (wide_value m bound (IsProgramColumn m slack is_listed) (put a.basis r c) (nums_at new.rows) (den_at new.rows) (num new.duals.nums) new.duals.den (state_turn m bound slack is_listed b new c r a t)
              (lowest_duals new t.shaped.duals)
              (subst (λ x. 2 ^ 126 ≤ x) (sizes m (num new.bounds) bound (IsProgramColumn m slack is_listed) (bounds_turn m bound slack is_listed b new c r a t) m (num new.duals.nums) (omega arith)) h.2));
        };
        reached = next_reached b c r is_c a t.pick;
      })
      w
  evidence b c (Number name) new is_c a w = absurd w
  evidence b c Common new is_c a w = absurd w
  evidence b c Value new is_c a w = absurd w
  evidence b c (Length link) new is_c a w = absurd w

  -- and so it is at the end
  pub end_evidence : (b : Basis N) (names : List N) (kind : WideKind N) → IsAt m bound slack is_listed b → names ≡ b.names → IsWideEnd b kind → IsReachedEvidence m bound slack (IsProgramColumn m slack is_listed) (HoldsKind m bound slack (IsProgramColumn m slack is_listed)) names kind
  end_evidence b names Common a is w = record {
    basis = a.basis;
    evidence = record {
      named = subst (λ n. AreNames m a.basis n) (sym is) a.names;
      feasible = (a.reached).here;
      holds = wide_common m bound (IsProgramColumn m slack is_listed) a.basis (nums_at b.rows) (den_at b.rows) (num b.duals.nums) b.duals.den w.2.0 a.state (lowest b a) (lowest_duals b a.shaped.duals)
          (λ multiple each last. w.2.2 multiple (λ i l.
          let f = each_at (λ j f. IsFractionOf (dot (length b.rows) (nums_at b.rows j) (num b.bounds)) (den_at b.rows j) f) w.0 i l w.1.each in
          subst (λ o. den_of_fraction o ∣ multiple) (sym f.1) (dvd_trans f.0.den f.2.divides (each i (omega (arith, w.1.count, a.shaped.rows, l)))))) w.2.1;
    };
    reached = a.reached;
  }
  end_evidence b names (Sum i) a is w = record {
    basis = a.basis;
    evidence = record {
      named = subst (λ n. AreNames m a.basis n) (sym is) a.names;
      feasible = (a.reached).here;
      holds = wide_sum m bound (IsProgramColumn m slack is_listed) a.basis (nums_at b.rows) (den_at b.rows) (num b.duals.nums) b.duals.den i a.state (omega (arith, a.shaped.rows, w.0)) (lowest b a i (omega (arith, a.shaped.rows, w.0)))
          (subst (λ x. 2 ^ 126 ≤ x) (sizes m (num b.bounds) bound (IsProgramColumn m slack is_listed) a.bounds m (nums_at b.rows i) (omega arith))
          (subst (λ n. 2 ^ 126 ≤ sizes_of n (nums_at b.rows i) (num b.bounds)) a.shaped.rows w.1));
    };
    reached = a.reached;
  }
  end_evidence b names (RowOf i) a is w = absurd w
  end_evidence b names (Product i name) a is w = absurd w
  end_evidence b names (Number name) a is w = absurd w
  end_evidence b names Value a is w = absurd w
  end_evidence b names (Length link) a is w = absurd w
