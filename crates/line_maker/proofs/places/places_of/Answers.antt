use Rattle.std.proofs.Common.{◌∙◌, ◌+◌, ◌<◌, ℕ, ap, arith, if◌then◌else◌, length, refl, subst, sym}
use Rattle.line_maker.{specs.Orders.{cuts_before, is_cut_entry}, proofs.Placed.{ArePlaces, before_few, cuts_more, lines_more, parts_length, place_here, places_push, places_read}}
use Rattle.line_maker.proofs.places.places_of.Goals as goal

pub loop-entry-init : goal.loop-entry-init
loop-entry-init c = record {
  places = subst (ArePlaces c.args.entries.now 0) (sym c.new-places.ensures) (refl, λ k lt. absurd (omega (arith, lt)));
  cut = refl;
  line = let told = c.cut_number.ensures in omega (arith, told);
}

pub entry_place-requires-clause-cut : goal.entry_place-requires-clause-cut
entry_place-requires-clause-cut c =
    omega (arith, c.loop-entry.invariant.cut, before_few c.args.entries.now c.loop-entry.entry-index, c.requires)

pub entry_place-requires-clause-line : goal.entry_place-requires-clause-line
entry_place-requires-clause-line c =
    omega (arith, c.loop-entry.invariant.line, before_few c.args.entries.now c.loop-entry.entry-index, parts_length c.args.entries.now, c.requires)

pub next_after-after-requires-clause-cut : goal.next_after-after-requires-clause-cut
next_after-after-requires-clause-cut c =
    omega (arith, c.loop-entry.invariant.cut, before_few c.args.entries.now c.loop-entry.entry-index, c.requires)

pub next_after-after-requires-clause-line : goal.next_after-after-requires-clause-line
next_after-after-requires-clause-line c =
    omega (arith, c.loop-entry.invariant.line, before_few c.args.entries.now c.loop-entry.entry-index, parts_length c.args.entries.now, c.requires)

pub loop-entry-preserved : goal.loop-entry-preserved
loop-entry-preserved c =
    let es = c.args.entries.now in
    let i = c.loop-entry.entry-index in
    let e = c.entry-item.result in
    let next = c.loop-entry.next in
    let so_far = c.loop-entry.invariant in
    let inside : i < length es = omega (arith, c.loop-entry-test.true) in
    let is = c.entry-item.is in
    let told = c.next_after-after.ensures in
    let stands = c.entry_place.ensures
    ∙ (ap (λ (n : ℕ). if is_cut_entry e then n else next.line) so_far.cut
    ∙ (ap (λ (n : ℕ). if is_cut_entry e then cuts_before es i else n) so_far.line ∙ sym (place_here es i e inside is))) in
    record {
      places = subst (ArePlaces es (i + 1)) (sym c.in_ok-push.ensures.ok) (places_push es i c.loop-entry.places c.entry_place.result so_far.places stands);
      cut = let more = cuts_more es i e inside is in let n = so_far.cut in let step = told.cut in omega (arith, more, n, step);
      line = let more = lines_more es i e inside is in let n = so_far.line in let step = told.line in omega (arith, more, n, step);
    }

pub returns : goal.returns
returns c =
    let es = c.args.entries.now in
    places_read es c.loop-entry.entry-index c.loop-entry.places c.loop-entry.invariant.places (omega (arith, c.loop-entry-test.false))
