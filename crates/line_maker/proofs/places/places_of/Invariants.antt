use Rattle.std.proofs.Common.{◌≡◌, ◌+◌, length}
use Rattle.line_maker.{specs.Orders.{cuts_among, cuts_before, lines_before}, proofs.Placed.ArePlaces}
use Rattle.line_maker.proofs.places.places_of.Given as goal

-- the places of the first entries, and those of the next cut and the next line
abbrev pub invariant-loop-entry : goal.invariant-loop-entry
invariant-loop-entry l = record {
  places : ArePlaces l.fn.entries l.entry-index l.places;
  cut : l.next.cut ≡ cuts_before l.fn.entries l.entry-index;
  line : l.next.line ≡ length (cuts_among l.fn.entries) + lines_before l.fn.entries l.entry-index;
}
