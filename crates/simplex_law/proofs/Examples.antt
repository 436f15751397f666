-- the definitions on small programs, worked out by hand
use Rattle.std.proofs.Common.{◌≡◌, ℕ, zero, suc, ◌+◌, ◌<◌, ◌^◌, ◌⊎◌, refl, sym, arith, inl, inr, ⊎_elim, cond, eqb, subst, ℤ, pos, negsuc, ◌*ℤ◌, ◌<ℤ◌}
use Rattle.net_core.proofs.Library.{ints, eq-one_of_dvd-one}
use Rattle.simplex_law.{specs.Sums.{dot, unit_vector, put}, specs.Programs.{ColumnOf, IsProgramColumn, slack_basis}, specs.Bases.{IsFeasible, IsBest, IsReached}, specs.Evidence.{HoldsRow, HoldsProduct}, specs.Optima.IsOptimum, proofs.Reached.slack_is, proofs.Optimal.none_gains}

both : (P : ℕ → Type 0) → P 0 → P 1 → (j : ℕ) → j < 2 → P j
both P a b zero l = a
both P a b (suc zero) l = b
both P a b (suc (suc j)) l = absurd (omega (arith, l))

-- a number at the first row and one at the second
abbrev two : {X : Type 0} → X → X → ℕ → X
two x y j = cond (eqb 0 j) x y

abbrev column : ℕ → ℤ → ℤ → ℤ → ColumnOf ℕ
column name gain x y = record { name = name; gain = gain; entry = two x y }

abbrev slacks : ℕ → ℕ
slacks k = k + 10

-- the columns of a program are a and b, and the slacks
abbrev Of : ColumnOf ℕ → ColumnOf ℕ → ColumnOf ℕ → Type 0
Of a b = IsProgramColumn 2 slacks (λ c. (c ≡ a) ⊎ (c ≡ b))

-- bounds 4 and 4; a with gain 1 and entries 2, 1; b with gain 1 and entries 1, 2
abbrev a1 : ColumnOf ℕ
a1 = column 0 (pos 1) (pos 2) (pos 1)

abbrev b1 : ColumnOf ℕ
b1 = column 1 (pos 1) (pos 1) (pos 2)

feasible1 : IsFeasible 2 (λ k. pos 4) (Of a1 b1) (two a1 b1)
feasible1 = record {
  columns = both (λ j. Of a1 b1 (two a1 b1 j)) (inl (inl refl)) (inl (inr refl));
  filled = both _
      (two (pos 2) (negsuc 0), pos 3, (omega (arith, ints), both _ refl refl), omega (arith, ints))
      (two (negsuc 0) (pos 2), pos 3, (omega (arith, ints), both _ refl refl), omega (arith, ints));
}

-- no column gains at the prices 1/3 and 1/3
best1 : IsBest 2 (λ k. pos 4) (Of a1 b1) (two a1 b1) (λ k. pos 1) (pos 3)
best1 = record {
  feasible = feasible1;
  objective = (omega (arith, ints), both _ refl refl);
  none = none_gains 2 (λ k. pos 4) slacks (λ c. (c ≡ a1) ⊎ (c ≡ b1)) (λ k. pos 1) (pos 3) (λ k l. omega (arith, ints))
      (λ c is_c. ⊎_elim
      (λ e. subst (λ x. dot 2 (λ k. pos 1) x.entry <ℤ (pos 3 *ℤ x.gain) → ⊥) (sym e) (λ h. omega (arith, ints, h)))
      (λ e. subst (λ x. dot 2 (λ k. pos 1) x.entry <ℤ (pos 3 *ℤ x.gain) → ⊥) (sym e) (λ h. omega (arith, ints, h)))
      is_c);
}

-- values 4/3 and 4/3, duals 1/3 and 1/3
optimum1 : IsOptimum 2 (λ k. pos 4) (Of a1 b1) (two a1 b1) (λ j. pos 4) (pos 3) (λ k. pos 1) (pos 3)
optimum1 = record {
  best = best1;
  lowest = λ d of_den of_nums. eq-one_of_dvd-one (of_nums 0 (omega arith));
  positive = omega (arith, ints);
  values_positive = λ j l. omega (arith, ints);
  filled = both _ refl refl;
  equal = refl;
}

-- the slack basis, then a in the first row, then b in the second
start1 : IsFeasible 2 (λ k. pos 4) (Of a1 b1) (slack_basis slacks)
start1 = record {
  columns = λ j l. inr (slack_is 2 slacks j l);
  filled = both _
      (unit_vector 0, pos 1, (omega (arith, ints), both _ refl refl), omega (arith, ints))
      (unit_vector 1, pos 1, (omega (arith, ints), both _ refl refl), omega (arith, ints));
}

after1 : IsFeasible 2 (λ k. pos 4) (Of a1 b1) (put (slack_basis slacks) 0 a1)
after1 = record {
  columns = both (λ j. Of a1 b1 (put (slack_basis slacks) 0 a1 j)) (inl (inl refl)) (inr (slack_is 2 slacks 1 (omega arith)));
  filled = both _
      (two (pos 1) (pos 0), pos 2, (omega (arith, ints), both _ refl refl), omega (arith, ints))
      (two (negsuc 0) (pos 2), pos 2, (omega (arith, ints), both _ refl refl), omega (arith, ints));
}

reached1 : IsReached 2 (λ k. pos 4) (Of a1 b1) (slack_basis slacks) (two a1 b1)
reached1 = record {
  from = start1;
  here = feasible1;
  steps = 2;
  path = (
    put (slack_basis slacks) 0 a1,
    (
      slack_basis slacks,
      λ j l. refl,
      start1,
      record {
        row = 0;
        inside = omega arith;
        enters = a1;
        is_column_of = inl (inl refl);
        duals = λ k. pos 0;
        den = pos 1;
        objective = (omega (arith, ints), both _ refl refl);
        gains = omega (arith, ints);
        after_is = λ j l. refl;
      },
    ),
    after1,
    record {
      row = 1;
      inside = omega arith;
      enters = b1;
      is_column_of = inl (inr refl);
      duals = two (pos 1) (pos 0);
      den = pos 2;
      objective = (omega (arith, ints), both _ refl refl);
      gains = omega (arith, ints);
      after_is = both _ refl refl;
    },
  );
}

-- that basis at bounds 0 and 0: its values are 0 and 0
optimum2 : IsOptimum 2 (λ k. pos 0) (Of a1 b1) (two a1 b1) (λ j. pos 0) (pos 3) (λ k. pos 1) (pos 3)
optimum2 = record {
  best = record {
    feasible = record {
      columns = feasible1.columns;
      filled = both _
          (two (pos 2) (negsuc 0), pos 3, (omega (arith, ints), both _ refl refl), omega (arith, ints))
          (two (negsuc 0) (pos 2), pos 3, (omega (arith, ints), both _ refl refl), omega (arith, ints));
    };
    objective = (omega (arith, ints), both _ refl refl);
    none = none_gains 2 (λ k. pos 0) slacks (λ c. (c ≡ a1) ⊎ (c ≡ b1)) (λ k. pos 1) (pos 3) (λ k l. omega (arith, ints)) (λ c is_c gains. best1.none c (inl is_c) gains);
  };
  lowest = λ d of_den of_nums. eq-one_of_dvd-one (of_nums 0 (omega arith));
  positive = omega (arith, ints);
  values_positive = λ j l. omega (arith, ints);
  filled = both _ refl refl;
  equal = refl;
}

-- no columns: the slack basis, the bounds as values, duals 0
optimum3 : IsOptimum 2 (λ k. pos 4) (IsProgramColumn 2 slacks (λ c. ⊥)) (slack_basis slacks) (λ j. pos 4) (pos 1) (λ k. pos 0) (pos 1)
optimum3 = record {
  best = record {
    feasible = record { columns = λ j l. inr (slack_is 2 slacks j l); filled = start1.filled };
    objective = (omega (arith, ints), both _ refl refl);
    none = none_gains 2 (λ k. pos 4) slacks (λ c. ⊥) (λ k. pos 0) (pos 1) (λ k l. omega (arith, ints)) (λ c none gains. none);
  };
  lowest = λ d of_den of_nums. eq-one_of_dvd-one of_den;
  positive = omega (arith, ints);
  values_positive = λ j l. omega (arith, ints);
  filled = both _ refl refl;
  equal = refl;
}

-- bounds 2 ^ 50 and 2 ^ 50; a with gain 2 ^ 40 and entry 2 ^ 40 in the first row; b with gain 2 and entries 1 and 2 ^ 40
abbrev a4 : ColumnOf ℕ
a4 = column 0 (pos (2 ^ 40)) (pos (2 ^ 40)) (pos 0)

abbrev b4 : ColumnOf ℕ
b4 = column 1 (pos 2) (pos 1) (pos (2 ^ 40))

-- the first row of the basis of a and b has the denominator 2 ^ 80
wide_row4 : HoldsRow 2 (two a4 b4) 0
wide_row4 = (
  two (pos (2 ^ 40)) (negsuc 0),
  pos (2 ^ 80),
  record {
    place = omega arith;
    row = (omega (arith, ints), both _ refl refl);
    lowest = λ d of_den of_nums. eq-one_of_dvd-one (of_nums 1 (omega arith));
  },
  inl (omega (arith, ints)),
)

-- the first row of the basis of b and the slack of the first row has the product 2 ^ 80 with a
wide_product4 : HoldsProduct 2 (Of a4 b4) (put (slack_basis slacks) 1 b4) 0 0
wide_product4 = (
  two (pos (2 ^ 40)) (negsuc 0),
  pos (2 ^ 40),
  a4,
  record {
    place = omega arith;
    row = (omega (arith, ints), both _ refl refl);
    lowest = λ d of_den of_nums. eq-one_of_dvd-one (of_nums 1 (omega arith));
  },
  inl (inl refl),
  refl,
  omega (arith, ints),
)
