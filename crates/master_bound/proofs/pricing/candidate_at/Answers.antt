use Rattle.std.proofs.Common.{length, refl, sym, Some, ◌≡◌, slice_get}
use Rattle.net_core.proofs.Library.{slice_get_read}
use Rattle.master_bound.proofs.Entering.{counted, none_gains, rated, surplus_gains}
use Rattle.master_bound.proofs.pricing.candidate_at.Goals as goal

pub returns-in-Some : goal.returns-in-Some
returns-in-Some c =
    let task = c.args.program.now.task in
    let links = task.net.now.links in
    let cuts = task.cuts.now in
    let cut = c.index-items-k-2.result in
    let rating = c.index-items-k.result in
    let at : slice_get cuts c.args.k ≡ Some cut = slice_get_read cuts (length cuts) c.args.k cut refl c.requires.inside (rw c.items-2.ensures at c.index-items-k-2.is) in
    let gain = rated links cuts c.args.program.now.ratings c.args.k rating rating cut c.args.program.now.gains at (rw c.items.ensures at c.index-items-k.is) in
    let left = rw (c.items-3.ensures, c.items-lengths.ensures, sym c.index-items-k-2.is) at c.in-Some.ensures in
    (cut, at, surplus_gains links task.pairs.now c.args.duals.now cut rating.gain c.in-Some.surplus (counted (length links) cuts c.args.k cut at task.counts) gain left.0 left.1)

pub returns-in-None : goal.returns-in-None
returns-in-None c other got gains =
    let task = c.args.program.now.task in
    let links = task.net.now.links in
    let cuts = task.cuts.now in
    let cut = c.index-items-k-2.result in
    let rating = c.index-items-k.result in
    let at : slice_get cuts c.args.k ≡ Some cut = slice_get_read cuts (length cuts) c.args.k cut refl c.requires.inside (rw c.items-2.ensures at c.index-items-k-2.is) in
    let gain = rated links cuts c.args.program.now.ratings c.args.k rating rating cut c.args.program.now.gains at (rw c.items.ensures at c.index-items-k.is) in
    let low = rw (c.items-3.ensures, c.items-lengths.ensures, sym c.index-items-k-2.is) at c.in-None.ensures in
    let same : other ≡ cut = cc (at, got) in
    none_gains links task.pairs.now c.args.duals.now cut rating.gain (counted (length links) cuts c.args.k cut at task.counts) gain low (rw same at gains)
