use Rattle.std.proofs.Common.{inl, inr, refl, sym}
use Rattle.key_rows.proofs.ratio_test.better_row.Goals as goal

pub returns-in-Less : goal.returns-in-Less
returns-in-Less c = record { one = inr (refl, inl c.in-Less.ensures) }

pub returns-in-Greater : goal.returns-in-Greater
returns-in-Greater c = record { one = inl (refl, inl c.in-Greater.ensures) }

pub returns-then-row_before : goal.returns-then-row_before
returns-then-row_before c = record { one = inr (refl, inr (c.in-Equal.ensures, c.row_before.ensures.yes c.if-row_before.true)) }

pub returns-else-row_before : goal.returns-else-row_before
returns-else-row_before c = record { one = inl (refl, inr (sym c.in-Equal.ensures, c.row_before.ensures.no c.if-row_before.false)) }
