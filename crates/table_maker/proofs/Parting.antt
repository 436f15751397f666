-- what a state keeps of the boundary of a set of nodes
use Rattle.std.proofs.Common.{◌≡◌, ℕ, zero, suc, ◌+◌, ◌*◌, ◌<◌, ◌≤◌, ◌++◌, List, [], ◌∷◌, Some, All, AllPairs, Bool, true, false, if◌then◌else◌, length, length-append, map, ap, subst, sym, ◌∙◌, arith, slice_get, slice_index}
use Rattle.net_core.proofs.Library.{All-push, All-weaker, all_pairs_push, get_or-map, get_or_from_slice_get, slice_get_within}
use Rattle.plan_terms.specs.Terms.{Case, CutLine, Graph, IsCut, Keeps, Link, graph_in}
use Rattle.metric_cut.{specs.Cuts.{IsLineAt, MayKeepCut}, specs.declared.cut.Cut.Cut, proofs.Lines.line_is_cut}
use Rattle.master_law.specs.Terms.{IsSameCut}
use Rattle.table_maker.{specs.SetCuts.{IsNewTo, IsSetCut, PartsNodes, boundary_of}, specs.inner.Finding.{CutsNodes, IsBoundary}}

-- the number of a link in a list with one for each
number_of : (f : Link → ℕ) (links : List Link) (e : ℕ) (l : Link) → slice_get links e ≡ Some l → slice_index (map f links) e ≡ f l
number_of f links e l at = get_or-map f links e l 0 (slice_get_within links e l at) ∙ ap f (get_or_from_slice_get links e l l at)

between-le : (a b : Bool) → (if a then (if b then 0 else 1) else (if b then 1 else 0)) ≤ 1
between-le true true = omega arith
between-le true false = omega arith
between-le false true = omega arith
between-le false false = omega arith

-- a number that is 0 or 1 after it is multiplied is 0 or 1 before
undivided : (a c b : ℕ) → a * c ≡ b → 0 < c → b ≤ 1 → a ≡ b
undivided zero c b is positive low = omega (arith, is)
undivided (suc zero) c b is positive low = omega (arith, is, positive, low)
undivided (suc (suc a)) c b is positive low =
    let whole : suc (suc a) * c ≡ c + (c + a * c) = omega arith in
    absurd (omega (arith, whole, is, positive, low))

-- what a state keeps of a boundary is the boundary, as far as its links survive
kept_parts : (g : Graph) (full kept : List ℕ) → IsBoundary g.links full → Keeps g full kept → PartsNodes g kept
kept_parts g full kept is keeps = record {
  inside = is.0;
  each = λ e s.
      let whole : slice_index full e ≡ boundary_of is.0 s.link = ap (λ (xs : List ℕ). slice_index xs e) is.1 ∙ number_of (boundary_of is.0) g.links e s.link s.at in
      undivided (slice_index kept e) keeps.common (boundary_of is.0 s.link) (keeps.divided e s ∙ whole) keeps.positive (between-le (is.0 s.link.a.0) (is.0 s.link.b.0));
}

module _ (p : Case) where
  -- the cut of what a state keeps of a boundary
  pub cut_is : (s : ℕ) (full : List ℕ) (made : Cut) (line : CutLine) → IsBoundary p.links full → MayKeepCut (graph_in p s) full (Some made) → IsLineAt p.demands made line
      → CutsNodes p line
  cut_is s full made line boundary keeps is =
      let there : s ≡ line.state.0 = keeps.1.state ∙ sym (ap (λ st. st.0) is.state) in
      let parts : PartsNodes (graph_in p s) made.lengths = kept_parts (graph_in p s) full made.lengths boundary keeps.0 in
      record {
        is_cut = line_is_cut p s made line keeps.1 is;
        parts = subst (λ k. PartsNodes (graph_in p k) line.lengths) there (subst (PartsNodes (graph_in p s)) (sym is.lengths) parts);
      }

  -- a cut more
  pub cuts_more : (cuts new : List CutLine) (cut : CutLine) → new ≡ cuts ++ cut ∷ [] → All (IsSetCut p) cuts → CutsNodes p cut → 0 < cut.right → All (IsSetCut p) new
  cuts_more cuts new cut is so_far own asks =
      subst (All (IsSetCut p)) (sym is) (All-push (IsSetCut p) cuts cut so_far (record { is_cut = own.is_cut; asks = asks; parts = own.parts }))

  -- cuts of node sets are cuts
  pub all_cuts : (cuts : List CutLine) → All (IsSetCut p) cuts → All (IsCut p) cuts
  all_cuts cuts are = All-weaker (IsSetCut p) (IsCut p) (λ cut h. h.is_cut) cuts are

-- a cut more, below the limit
pub few_more : (cuts new : List CutLine) (cut : CutLine) → new ≡ cuts ++ cut ∷ [] → length cuts < 1024 → length new ≤ 1024
few_more cuts new cut is low = omega (arith, low, ap (λ (xs : List CutLine). length xs) is, length-append cuts (cut ∷ []))

-- a new cut more, among different ones
pub different_more : (cuts new : List CutLine) (cut : CutLine) → new ≡ cuts ++ cut ∷ [] → AllPairs (λ a b. IsSameCut a b → ⊥) cuts → IsNewTo cuts cut
    → AllPairs (λ a b. IsSameCut a b → ⊥) new
different_more cuts new cut is so_far own = subst (AllPairs (λ a b. IsSameCut a b → ⊥)) (sym is) (all_pairs_push (λ a b. IsSameCut a b → ⊥) cuts cut so_far own)

-- a cut more that none of the known ones is
pub new_more : (known cuts new : List CutLine) (cut : CutLine) → new ≡ cuts ++ cut ∷ [] → All (IsNewTo known) cuts → IsNewTo known cut → All (IsNewTo known) new
new_more known cuts new cut is so_far own = subst (All (IsNewTo known)) (sym is) (All-push (IsNewTo known) cuts cut so_far own)
