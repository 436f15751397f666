use Rattle.std.proofs.Common.{◌∙◌, ◌<◌, List, ap, arith, length, take_all}
use Rattle.line_maker.{specs.Orders.cuts_among, specs.declared.entry.Entry.Entry, proofs.Placed.cuts_more}
use Rattle.line_maker.proofs.places.cut_number.Goals as goal

pub loop-entry-preserved : goal.loop-entry-preserved
loop-entry-preserved c =
    let es = c.args.entries.now in
    let i = c.loop-entry.entry-index in
    let e = c.entry-item.result in
    let inside : i < length es = omega (arith, c.loop-entry-test.true) in
    let more = cuts_more es i e inside c.entry-item.is in
    let so_far = c.loop-entry.invariant in
    let told = c.cut_count-count.ensures in
    (omega (arith, more, told.count, so_far.0), omega (arith, told.few, so_far.1))

pub returns : goal.returns
returns c =
    let es = c.args.entries.now in
    c.loop-entry.invariant.0 ∙ ap (λ (xs : List Entry). length (cuts_among xs)) (take_all c.loop-entry.entry-index es (omega (arith, c.loop-entry-test.false)))
