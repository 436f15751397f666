-- findings on the journal of a report
use Rattle.std.specs.Prelude.{◌≡◌, ◌≢◌, ℕ, ◌+◌, List, length, take}
use Rattle.plan_terms.specs.Terms.{Entry, Edited, Pooled, Notes, Case, edit_reply}
use Rattle.cut_pool.specs.Terms.{cuts_of, demands_left, version_left}
use Rattle.plan_checker.{specs.Terms.{HoldsAt, IsLeastPlace}, specs.declared.finding.Finding.Finding, specs.declared.finding.Finding.TheVariants.{EntryDiffers, NotesDiffer}}

-- the notes aren't the network's
abbrev pub HoldsNotesDiffer : Notes → Notes → Finding → Type 0
HoldsNotesDiffer own printed NotesDiffer = printed ≢ own
HoldsNotesDiffer own printed _ = ⊥

-- the entry has another reply than that after these entries, or another index than the next
abbrev pub IsOtherEntry : Case → List Entry → Entry → Type 0
IsOtherEntry p before (Edited caller edit reply) = (edit_reply p.nodes (demands_left p before) (version_left p before) edit).0 ≢ reply
IsOtherEntry p before (Pooled index state lengths) = index ≢ length (cuts_of before)

-- the position, from 1, of the first such entry
abbrev pub HoldsEntryDiffers : Case → List Entry → Finding → Type 0
HoldsEntryDiffers p entries (EntryDiffers position) =
    (k : ℕ) × (position ≡ k + 1) × IsLeastPlace (λ j. HoldsAt entries j (IsOtherEntry p (take j entries))) k
HoldsEntryDiffers p entries _ = ⊥
