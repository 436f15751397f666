use Rattle.std.proofs.Common.{length, ◌≡◌, ◌<◌, ap, sym, subst, inl, inr, pos, ◌<ℤ◌, arith, w64, to_z, of_z, [], ◌∷◌}
use Rattle.net_core.proofs.Library.{AllByRecursion, ints}
use Rattle.checked_fraction.specs.Terms.{num}
use Rattle.simplex_law.specs.Terms.{ColumnOf}
use Rattle.simplex_core.{specs.Columns.{column_from, column_of, IsEntry}, specs.inner.Turns.{Enters, reduced_cost}, proofs.Ending.same_program, proofs.Turning.{entered, is_slack, slack_gains, gains_price}}
use Rattle.simplex_core.proofs.solver.take_turn.Goals as goal

pub enter-requires-clause-gains : goal.enter-requires-clause-gains
enter-requires-clause-gains g c =
    let old = c.args.basis.now in
    let row = c.in-Some.row in
    slack_gains (length old.rows) old.duals c.slack.result row
    (omega (arith, c.in-Some.ensures.0, ap length c.nums.ensures, c.requires.shaped.duals, c.requires.shaped.rows))
    (subst (λ xs. num xs row <ℤ pos 0) c.nums.ensures c.in-Some.ensures.1)

pub returns-in-Some-clause-turn : goal.returns-in-Some-clause-turn
returns-in-Some-clause-turn g c =
    let old = c.args.basis.now in
    let row = c.in-Some.row in
    let m = g.C.Columns.rows c.args.cols.now in
    let slack = g.C.Columns.slack c.args.cols.now in
    let column : ColumnOf g.row.C-Name.Denot = column_from c.slack.result (pos 0) (record { row = row; value = pos 1 } ∷ []) in
    let lt : row < m = omega (arith, c.in-Some.ensures.0, ap length c.nums.ensures, c.requires.shaped.duals) in
    entered m slack (g.C.Columns.is_listed c.args.cols.now) old c.enter.result c.enter.new.basis (record {
      column = column;
      is_column = inr (is_slack m slack c.slack.result row lt c.slack.ensures);
      gains = slack_gains m old.duals c.slack.result row lt (subst (λ xs. num xs row <ℤ pos 0) c.nums.ensures c.in-Some.ensures.1);
      enters = subst (λ n. Enters n old column c.enter.result c.enter.new.basis) c.requires.shaped.rows c.enter.ensures;
    })

pub returns-in-Gain-clause-turn : goal.returns-in-Gain-clause-turn
returns-in-Gain-clause-turn g c =
    let old = c.args.basis.now in
    let found = c.in-Gain.ensures.found in
    let m = g.C.Columns.rows c.args.cols.now in
    let parts = c.in-Gain.field-0 in
    let result = c.enter-in-Gain.result in
    let new = c.enter-in-Gain.new.basis in
    let gain = to_z w64 (of_z w64 parts.gain) in
    let back : gain ≡ parts.gain = omega (arith, ints, found.gain) in
    entered m (g.C.Columns.slack c.args.cols.now) (g.C.Columns.is_listed c.args.cols.now) old result new (record {
      column = column_of parts;
      is_column = inl found.listed;
      gains = gains_price m old.duals (column_of parts) found.gains;
      enters =
          subst (λ n. Enters n old (column_of parts) result new) c.requires.shaped.rows
          (subst (λ z. Enters (length old.rows) old (column_from parts.name z parts.entries) result new) back
          (subst (λ es. Enters (length old.rows) old (column_from parts.name gain es) result new) c.items.ensures c.enter-in-Gain.ensures));
    })

pub enter-requires-in-Gain-clause-entries : goal.enter-requires-in-Gain-clause-entries
enter-requires-in-Gain-clause-entries g c =
    let parts = c.in-Gain.field-0 in
    subst (λ es. AllByRecursion (IsEntry (length c.args.basis.now.rows)) es) (sym c.items.ensures)
    (subst (λ n. AllByRecursion (IsEntry n) parts.entries) (sym c.requires.shaped.rows) c.in-Gain.ensures.found.entries.each)

pub enter-requires-in-Gain-clause-gains : goal.enter-requires-in-Gain-clause-gains
enter-requires-in-Gain-clause-gains g c =
    let old = c.args.basis.now in
    let found = c.in-Gain.ensures.found in
    let m = g.C.Columns.rows c.args.cols.now in
    let parts = c.in-Gain.field-0 in
    let gain = to_z w64 (of_z w64 parts.gain) in
    let back : gain ≡ parts.gain = omega (arith, ints, found.gain) in
    subst (λ n. reduced_cost n old.duals (column_from parts.name gain c.items.result.now) <ℤ pos 0) (sym c.requires.shaped.rows)
    (subst (λ es. reduced_cost m old.duals (column_from parts.name gain es) <ℤ pos 0) (sym c.items.ensures)
    (subst (λ z. reduced_cost m old.duals (column_from parts.name z parts.entries) <ℤ pos 0) (sym back) (gains_price m old.duals (column_of parts) found.gains)))

pub returns-in-Some-clause-same : goal.returns-in-Some-clause-same
returns-in-Some-clause-same g c =
    let p = g.C.Columns in
    let cols = c.args.cols.now in
    same_program (p.rows cols) (p.bound cols) (p.slack cols) (p.is_listed cols)

pub returns-in-Gain-clause-same : goal.returns-in-Gain-clause-same
returns-in-Gain-clause-same g c = let is = c.in-Gain.ensures in record { count = is.rows; limits = is.bound; slacks_are = is.slack; listed = is.listed }

pub returns-in-Optimal-clause-same : goal.returns-in-Optimal-clause-same
returns-in-Optimal-clause-same g c = let is = c.in-Optimal.ensures in record { count = is.rows; limits = is.bound; slacks_are = is.slack; listed = is.listed }

pub returns-in-NoMemory-clause-same : goal.returns-in-NoMemory-clause-same
returns-in-NoMemory-clause-same g c = let is = c.in-NoMemory.ensures in record { count = is.rows; limits = is.bound; slacks_are = is.slack; listed = is.listed }
