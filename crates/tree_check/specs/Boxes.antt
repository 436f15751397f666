-- boxes: for each module a least count and perhaps a greatest one, and all counts between
use Rattle.std.{specs.Prelude.{◌≡◌, ℕ, ◌+◌, ◌≤◌, ◌<◌, List, [], None, Some, IfSome, All, length, map, replicate, slice_index_or, slice_set}, specs.List.AllZip}
use Rattle.plan_terms.specs.Terms.{Link}
use Rattle.tree_check.specs.declared.boxes.Span.{Span}

-- a count is in a span
abbrev pub IsInSpan : Span → ℕ → Type 0
IsInSpan s n = (s.least ≤ n) × IfSome s.most (λ most. n ≤ most)

-- counts are in a box: one count for each of its modules, in the module's span
abbrev pub AreInBox : List (List Span) → List (List ℕ) → Type 0
AreInBox box counts = AllZip (AllZip IsInSpan) box counts

-- the span of all counts
abbrev pub any_count : Span
any_count = record { least = 0; most = None }

-- the whole box: all counts of each module
abbrev pub whole_box : List Link → List (List Span)
whole_box links = map (λ l. replicate (length l.modules) any_count) links

-- the spans of link e; none where there is no such link
abbrev pub spans_of : List (List Span) → ℕ → List Span
spans_of box e = slice_index_or box e []

-- the span of module m of link e; all counts where there is no such module
abbrev pub span_at : List (List Span) → ℕ → ℕ → Span
span_at box e m = slice_index_or (spans_of box e) m any_count

-- the box with another span of module m of link e
abbrev pub with_span : List (List Span) → ℕ → ℕ → Span → List (List Span)
with_span box e m s = slice_set box e (slice_set (spans_of box e) m s)

-- the counts of a span up to a
abbrev pub up_to : ℕ → Span → Span
up_to a s = record { least = s.least; most = Some a }

-- the counts of a span beyond a
abbrev pub beyond : ℕ → Span → Span
beyond a s = record { least = a + 1; most = s.most }

-- the box of the counts with at most a modules m of link e
abbrev pub lower_side : List (List Span) → ℕ → ℕ → ℕ → List (List Span)
lower_side box e m a = with_span box e m (up_to a (span_at box e m))

-- the box of the counts with more than a modules m of link e
abbrev pub upper_side : List (List Span) → ℕ → ℕ → ℕ → List (List Span)
upper_side box e m a = with_span box e m (beyond a (span_at box e m))

-- A box can be split at module m of link e and the number a: the module is there, and a is at least its least count and below its greatest.
pub record IsSplitOf (box : List (List Span)) (e m a : ℕ) : Type 0 where
  pub link : e < length box
  pub inside : m < length (spans_of box e)
  pub from_least : (span_at box e m).least ≤ a
  pub below_most : IfSome (span_at box e m).most (λ most. a < most)

-- a span of one count alone
abbrev pub IsFixedSpan : Span → Type 0
IsFixedSpan s = s.most ≡ Some s.least

-- each module has one count alone
abbrev pub IsFixedBox : List (List Span) → Type 0
IsFixedBox box = All (All IsFixedSpan) box

-- the least counts of a box
abbrev pub least_counts : List (List Span) → List (List ℕ)
least_counts box = map (λ spans. map (λ s. s.least) spans) box
