use Rattle.row_cuts.proofs.row_numbers.has_shortest_keys.Goals as goal

pub returns : goal.returns
returns c far = record {
  table = c.in_ok-table.table;
  distances = c.in_ok-table.ensures;
  far = c.are_far.ensures far;
  long = c.has_long_key.ensures c.if-not-has_long_key.false;
}
