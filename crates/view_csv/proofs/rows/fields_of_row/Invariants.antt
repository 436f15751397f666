use Rattle.std.proofs.Common.{◌≡◌, [], take}
use Rattle.csv.specs.Records.{fields_of, partial_of}
use Rattle.view_csv.proofs.rows.fields_of_row.Given as goal

-- the fields so far, and no field begun
abbrev pub invariant-loop-field : goal.invariant-loop-field
invariant-loop-field l = (fields_of l.fields ≡ take l.field-index l.row) × (partial_of l.fields ≡ [])
