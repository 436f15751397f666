-- what a search for a branch tree knows
use Rattle.std.{specs.Prelude.{◌≡◌, ℕ, ◌^◌, ◌≤◌, ◌<◌, ◌++◌, List, [], Some, All, false, length, map, max, slice_get, take}, specs.List.AllZip}
use Rattle.plan_terms.specs.Terms.{Case, CutLine, IsCut, IsSurvivable, case_of}
use Rattle.plan_types.specs.declared.plan.Plan.{Plan}
use Rattle.plan_swaps.specs.Terms.{IsTestOf as IsAbleTestOf, IsRoutedPlan}
use Rattle.line_check.specs.Testing.{AreTested}
use Rattle.tree_check.{specs.Trees.TreeBox, specs.declared.proof.BoxCert.BoxCert}
use Rattle.line_maker.{specs.Orders.{cuts_among, lines_among, source_of}, specs.declared.entry.Entry.Entry}
use Rattle.tree_boxes.{specs.Causes.IsUnsettled, specs.declared.aim.Aim.Aim, specs.declared.search.Search.Search, specs.declared.known.Known.Known}
use Rattle.line_maker.specs.declared.entry.Entry.TheVariants as entry

-- a cut of the case, or a line
abbrev pub IsSoundEntry : Case → Entry → Type 0
IsSoundEntry p (entry.Cut cut) = IsCut p cut
IsSoundEntry p (entry.Line line) = Unit {0}

-- cuts of the case and lines, each with its test; there are no lines where none are made
pub record IsKnown (p : Case) (k : Known) : Type 0 where
  pub sound : All (IsSoundEntry p) k.entries
  pub tested : AreTested p (map source_of k.entries) k.tested
  pub few : length k.entries < 2 ^ 31
  pub plain : k.divides ≡ false → lines_among k.entries ≡ []

-- the new list begins with the old one
pub record Extends {X : Type 0} (old new : List X) : Type 0 where
  pub more : List X
  pub is : new ≡ old ++ more

-- the case of the aim's instance
abbrev pub aimed : Aim → Case
aimed a = case_of a.instance.now

-- the certificate is the plan's, with its cuts given by their indices in the entries
pub record IsOwnCert (entries : List Entry) (plan : Plan) (cert : BoxCert) : Type 0 where
  pub den : cert.den ≡ plan.certificate.den
  pub named : AllZip (λ m l. (slice_get entries m.cut ≡ Some (entry.Cut l.cut)) × (m.num ≡ l.num)) cert.lines plan.certificate.lines

-- what a search can aim at: a plan of the case that carries its demands
pub record IsAim (entries : List Entry) (a : Aim) : Type 0 where
  pub survivable : IsSurvivable (aimed a)
  pub demands : a.plan.now.demands ≡ (aimed a).demands
  pub routed : IsRoutedPlan (aimed a) a.plan.now
  pub own : IsOwnCert entries a.plan.now a.own.now

-- the cuts that were handed in
abbrev pub handed_in : Search → List CutLine
handed_in s = cuts_among (take s.handed s.known.entries)

-- how many entries there are at most after whole points were asked about, and lines were made
abbrev pub most_entries : Search → ℕ
most_entries s = max (length s.known.entries) s.room

-- a box that isn't settled at once by what was handed in
abbrev pub IsUnsettledIn : Case → Plan → Search → TreeBox → Type 0
IsUnsettledIn p plan s box = IsUnsettled p.links plan (handed_in s) box

-- what a search of the case has learned
pub record IsSearch (p : Case) (s : Search) : Type 0 where
  pub known : IsKnown p s.known
  pub test : IsAbleTestOf p s.test
  pub first : take s.handed s.known.entries ≡ map entry.Cut (handed_in s)
  pub inside : s.handed ≤ length s.known.entries
  pub few : s.handed ≤ 8192
  pub enough : s.handed ≤ s.room
  pub small : s.room ≤ 2 ^ 15

-- a search has learned more: its old entries are the first of the new ones
pub record HasLearned (old new : Search) : Type 0 where
  pub extends : Extends old.known.entries new.known.entries
  pub tested : Extends old.known.tested new.known.tested
  pub divides : new.known.divides ≡ old.known.divides
  pub handed : new.handed ≡ old.handed
  pub room : new.room ≡ old.room
