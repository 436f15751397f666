use Rattle.std.proofs.Common.{◌≡◌, ◌<◌, ◌^◌, ℕ, ap, arith, length, slice_index_or, sym, to_z, w64, ◌∙◌, pos}
use Rattle.net_core.proofs.Library.{ints, get_or-map}
use Rattle.module_prices.specs.declared.cheapest.UnitPair.{UnitPair}
use Rattle.master_bound.proofs.columns.MasterProgramColumns.bound.Goals as goal

pub overflow_cast-result-2 : goal.overflow_cast-result-2
overflow_cast-result-2 c =
    let task = c.args.self.now.task in
    let none : UnitPair = record { capacity = 0; cost = 0 } in
    let low = task.costs c.args.row none (omega (arith, c.requires, task.pairs_count)) in
    rw c.items.ensures (omega (arith, ints, low))

pub returns : goal.returns
returns c =
    let task = c.args.self.now.task in
    let none : UnitPair = record { capacity = 0; cost = 0 } in
    let inside : c.args.row < length task.pairs.now = omega (arith, c.requires, task.pairs_count) in
    rw c.items.ensures (whole (slice_index_or task.pairs.now c.args.row none).cost (task.costs c.args.row none inside) ∙ ap pos (sym (get_or-map (λ (p : UnitPair). p.cost) task.pairs.now c.args.row none 0 inside)))
  where
    whole : (n : ℕ) → n < 2 ^ 40 → to_z w64 n ≡ pos n
    whole n h = omega (arith, ints, h)
