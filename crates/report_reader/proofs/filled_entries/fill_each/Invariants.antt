use Rattle.std.proofs.Common.{◌≡◌, map}
use Rattle.net_core.proofs.Library.{AllWithin}
use Rattle.report_reader.specs.ReadingReport.{filled}
use Rattle.report_reader.proofs.filled_entries.fill_each.Given as goal

-- the entries so far have their cuts, and no entry gets another one
abbrev pub invariant-loop-k : goal.invariant-loop-k
invariant-loop-k l = record {
  same : map (filled l.pool) l.entries ≡ map (filled l.pool) l.fn.entries;
  done : AllWithin (λ e. e ≡ filled l.pool e) l.entries 0 l.k;
}
