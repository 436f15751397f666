-- what is said of each finding of a report
use Rattle.std.specs.Prelude.{ℕ, List, codes}
use Rattle.plan_checker.specs.declared.finding.Finding.{Finding}
use Rattle.plan_checker.specs.declared.finding.Finding.TheVariants as kinds

-- what is wrong, for each finding
abbrev pub finding_wrong : Finding → List ℕ
finding_wrong kinds.NotesDiffer = codes "the report leaves out other costs than those that the network's file has"
finding_wrong (kinds.EntryDiffers x) = codes "an entry of the journal has another answer, or another number, than it must have"
finding_wrong (kinds.PoolCount x y) = codes "the pool has another number of cuts than the journal"
finding_wrong (kinds.BadCut x) = codes "a cut of the pool is none in its state, or stands there twice"
finding_wrong (kinds.PoolDiffers x y z) = codes "the right side of a cut of the pool is another one at the last demands"
finding_wrong (kinds.VersionDiffers x y) = codes "the version of an outcome isn't the number of edits accepted before its place in the journal, or that place is past the journal"
finding_wrong kinds.DemandsDiffer = codes "the demands of a plan aren't those of the network after the edits before it"
finding_wrong kinds.Survivable = codes "a state is said to separate a demand, and doesn't"
finding_wrong (kinds.BadPath x y) = codes "a flow follows no path of its demand that its state leaves"
finding_wrong (kinds.NotCarried x y) = codes "the flows of a demand don't sum to what it needs"
finding_wrong (kinds.Overloaded x y) = codes "the flows over a link are more than its capacity"
finding_wrong (kinds.CostDiffers x y) = codes "the cost isn't what the modules and setups cost"
finding_wrong (kinds.LocalCut x) = codes "a cut of the certificate isn't in the pool, which has room for it, or is none in its state"
finding_wrong (kinds.RightDiffers x y z) = codes "the right side of a cut of the certificate is another one at the plan's demands"
finding_wrong (kinds.PriceExceeded x y) = codes "the certificate asks more for a module than it costs"
finding_wrong kinds.CertificateWide = codes "a sum of the certificate is too large"
finding_wrong kinds.RawDiffers = codes "the raw value isn't that of the certificate in lowest terms"
finding_wrong (kinds.BoundDiffers x y) = codes "the bound isn't what the raw value rounds up to"
finding_wrong kinds.NotTight = codes "the fractional capacities don't cost the raw value, or don't carry the demands in a state"

-- what is wrong, and what that means
abbrev pub finding_message : Finding → List ℕ × List ℕ
finding_message finding = (finding_wrong finding, codes "the report isn't one that the planner prints for these files; nothing of it is shown")
