-- that no finding of a kind holds
use Rattle.std.proofs.Common.{ℕ, List, take}
use Rattle.plan_terms.specs.Terms.{Entry, CutLine, Case}
use Rattle.plan_checker.{specs.Terms.{HoldsNone, HoldsAt, HasStaleRight}, specs.declared.finding.Finding.TheVariants.{BadCut, EntryDiffers, PoolDiffers}}
use Rattle.report_checker.{specs.Journals.{HoldsEntryDiffers, IsOtherEntry}, specs.Pools.{HoldsBadCut, HoldsPoolDiffers, IsBadCut}}

pub no_entry : (p : Case) (entries : List Entry) → ((k : ℕ) → HoldsAt entries k (IsOtherEntry p (take k entries)) → ⊥) → HoldsNone (HoldsEntryDiffers p entries)
no_entry p entries none (EntryDiffers position) h = none h.0 h.2.0
no_entry p entries none _ h = h

pub no_bad : (p : Case) (pool : List CutLine) → ((k : ℕ) → HoldsAt pool k (IsBadCut p pool k) → ⊥) → HoldsNone (HoldsBadCut p pool)
no_bad p pool none (BadCut i) h = none i h.0
no_bad p pool none _ h = h

pub no_stale : (p : Case) (pool : List CutLine) → ((i a b : ℕ) → HoldsAt pool i (λ l. HasStaleRight p l a b) → ⊥) → HoldsNone (HoldsPoolDiffers p pool)
no_stale p pool none (PoolDiffers i a b) h = none i a b h.0
no_stale p pool none _ h = h
