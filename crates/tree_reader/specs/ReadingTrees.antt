-- Reading the comment lines of a branch tree one after another.
use Rattle.std.specs.Prelude.{◌≡◌, ℕ, ◌+◌, ◌==◌, if◌then◌else◌, List, [], ◌∷◌, ◌++◌, Option, None, Some, Result, Ok, Err, length}
use Rattle.plan_terms.specs.Terms.{Demand}
use Rattle.plan_report.specs.Terms.{KnownNames}
use Rattle.text_kit.{specs.Terms.{Read, Reading, place}, specs.declared.refusal.Refusal.Refusal, specs.declared.refusal.Refusal.TheVariants.{Bad, NoMemory}}
use Rattle.report_words.{specs.declared.fault.ReportKind.ReportKind, specs.declared.fault.ReportKind.TheVariants.{Token, Ended, Limit}, specs.Terms.{Branches, branch_at}}
use Rattle.tree_check.specs.declared.proof.Verdict.{Verdict}
use Rattle.tree_reader.{specs.declared.sofar.Sofar.Sofar, specs.declared.sofar.TreeLine.TreeLine, specs.declared.sofar.TreeLine.TheVariants.{Cut, Further, Branch, Last}, specs.declared.tree.ReadTree.ReadTree, specs.CommentTexts.{Comments, CommentAt, OtherAt, NoneAt, comments_from}, specs.ReadingLines.{cut_branches, line_branches, node_branches}}

-- the index of the next cut or further line
abbrev pub next_index : Sofar → ℕ
next_index s = length s.cuts + length s.lines

-- a line by those before it: cuts come first, then further lines, then nodes
abbrev pub branches_after : KnownNames → List Demand → Sofar → Branches TreeLine
branches_after known demands s =
    if length s.tree == 0 then (if length s.lines == 0 then cut_branches known demands (next_index s) else line_branches known demands (next_index s))
    else node_branches known demands

abbrev pub tree_line_at : KnownNames → List Demand → Sofar → Reading ReportKind TreeLine
tree_line_at known demands s = branch_at (branches_after known demands s)

-- a tree, or the first fault by place
abbrev pub TreeRead : Type 0
TreeRead = Result ReadTree (ℕ × ReportKind)

abbrev pub whole_tree : Sofar → Verdict → ReadTree
whole_tree s v = record { cuts = s.cuts; lines = s.lines; tree = s.tree; verdict = v }

-- nothing comes after the verdict
abbrev pub ended_by : Sofar → Verdict → Comments → TreeRead
ended_by s v (CommentAt text more) = Err (place text, Limit)
ended_by s v (OtherAt at) = Err (at, Token)
ended_by s v (NoneAt at) = Ok (whole_tree s v)

-- what is left to be read after a line
abbrev pub put_line : {A : Type 0} → Sofar → TreeLine → (Sofar → A) → (Verdict → A) → A
put_line s (Cut cut) more last = more (record { cuts = s.cuts ++ cut ∷ []; lines = s.lines; tree = s.tree })
put_line s (Further line) more last = more (record { cuts = s.cuts; lines = s.lines ++ line ∷ []; tree = s.tree })
put_line s (Branch node) more last = more (record { cuts = s.cuts; lines = s.lines; tree = s.tree ++ node ∷ [] })
put_line s (Last v) more last = last v

-- how a line changes what was read so far: its cut, further line or node is added at the end, or it gives the verdict
abbrev pub PutsLine : Sofar → TreeLine → Option Verdict → Sofar → Type 0
PutsLine old (Cut cut) v new = (v ≡ None) × (new ≡ record { cuts = old.cuts ++ cut ∷ []; lines = old.lines; tree = old.tree })
PutsLine old (Further line) v new = (v ≡ None) × (new ≡ record { cuts = old.cuts; lines = old.lines ++ line ∷ []; tree = old.tree })
PutsLine old (Branch node) v new = (v ≡ None) × (new ≡ record { cuts = old.cuts; lines = old.lines; tree = old.tree ++ node ∷ [] })
PutsLine old (Last x) v new = (v ≡ Some x) × (new ≡ old)

abbrev pub after_line : Sofar → Read ReportKind TreeLine → (Sofar → TreeRead) → (Verdict → TreeRead) → TreeRead
after_line s (Ok x) more last = put_line s x.0 more last
after_line s (Err e) more last = Err e

-- the lines that are left, up to the verdict, after which nothing comes
abbrev pub lines_at : KnownNames → List Demand → Sofar → Comments → TreeRead
lines_at known demands s (CommentAt text more) =
    after_line s (tree_line_at known demands s text) (λ t. lines_at known demands t more) (λ v. ended_by s v more)
lines_at known demands s (OtherAt at) = Err (at, Token)
lines_at known demands s (NoneAt at) = Err (at, Ended)

-- nothing so far
abbrev pub no_lines : Sofar
no_lines = record { cuts = []; lines = []; tree = [] }

-- the tree below a report that ends at a place
abbrev pub tree_at : KnownNames → List Demand → ℕ → List ℕ → TreeRead
tree_at known demands from bytes = lines_at known demands no_lines (comments_from from bytes)

-- what was answered is what reading gives, unless memory ran out
abbrev pub Gives : {X : Type 0} → Result X (Refusal ReportKind) → Result X (ℕ × ReportKind) → Type 0
Gives (Ok x) read = read ≡ Ok x
Gives (Err (Bad at kind)) read = read ≡ Err (at, kind)
Gives (Err NoMemory) read = Unit {0}

-- a line was taken: there is more to come, or it was the last, or it has the first fault
abbrev pub TakesLine : KnownNames → List Demand → List ℕ → Result (Option Verdict) (Refusal ReportKind) → Sofar → ℕ → Sofar → ℕ → Type 0
TakesLine known demands bytes (Ok None) old from new at =
    lines_at known demands old (comments_from from bytes) ≡ lines_at known demands new (comments_from at bytes)
TakesLine known demands bytes (Ok (Some v)) old from new at = lines_at known demands old (comments_from from bytes) ≡ ended_by new v (comments_from at bytes)
TakesLine known demands bytes (Err (Bad place kind)) old from new at = lines_at known demands old (comments_from from bytes) ≡ Err (place, kind)
TakesLine known demands bytes (Err NoMemory) old from new at = Unit {0}
