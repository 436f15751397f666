-- the places of a tree in turn: whether one is open, what nodes they become, and what these show
use Rattle.std.proofs.Common.{◌≡◌, ◌≢◌, ◌∙◌, ℕ, ◌+◌, ◌<◌, ◌⊎◌, ⊎_elim, List, [], ◌∷◌, ◌++◌, None, Some, Option, MatchOption, append_assoc, map, slice_get, refl, sym, ap, subst, arith}
use Rattle.net_core.proofs.Library.{cases_eq}
use Rattle.tree_boxes.{specs.Terms.{Node, twig_node}, specs.declared.twigs.Twig.Twig}
use Rattle.tree_search.{specs.inner.Places.{IsOpenPlace, IsOpenTwig}, specs.inner.Showing.{shown_more, shown_with}, specs.declared.tree.Ranked.Ranked, specs.declared.tree.Shown.Shown}
use Rattle.tree_boxes.specs.declared.twigs.Twig.TheVariants as twig

-- ---- an open place

module _ (twigs : List Twig) where
  -- an open place, or none among the first i
  abbrev pub IsBestOf : ℕ → Option Ranked → Type 0
  IsBestOf i best = MatchOption best ((k : ℕ) → k < i → IsOpenPlace twigs k → ⊥) (λ r. IsOpenPlace twigs r.at)

  -- place i with its rank, or it isn't open
  abbrev pub IsRankedOf : Twig → ℕ → Option Ranked → Type 0
  IsRankedOf t i here = MatchOption here (IsOpenTwig t → ⊥) (λ r. (r.at ≡ i) × IsOpenTwig t)

  open_at : (t : Twig) (i : ℕ) → slice_get twigs i ≡ Some t → IsOpenTwig t → IsOpenPlace twigs i
  open_at (twig.Settled node) i at is = absurd is
  open_at (twig.Stuck v evidence) i at is = absurd is
  open_at (twig.Open o) i at is = record { opened = o; at = at }

  is_open_at : (t : Twig) (i : ℕ) → slice_get twigs i ≡ Some t → IsOpenPlace twigs i → IsOpenTwig t
  is_open_at t i at place =
      let both : Some t ≡ Some (twig.Open place.opened) = sym at ∙ place.at in
      let same : t ≡ twig.Open place.opened = cc both in
      subst (λ (x : Twig). IsOpenTwig x) (sym same) tt

  -- one place more
  pub best_more : (i : ℕ) (t : Twig) (best here next : Option Ranked) → slice_get twigs i ≡ Some t → IsBestOf i best → IsRankedOf t i here → (next ≡ best) ⊎ (next ≡ here)
      → (next ≡ None → (best ≡ None) × (here ≡ None)) → IsBestOf (i + 1) next
  best_more i t best here None at was is either none = λ k lt place.
      let both = none refl in
      let before : (j : ℕ) → j < i → IsOpenPlace twigs j → ⊥ = subst (λ (o : Option Ranked). IsBestOf i o) both.0 was in
      let not_here : IsOpenTwig t → ⊥ = subst (λ (o : Option Ranked). IsRankedOf t i o) both.1 is in
      ⊎_elim
      (λ (same : k ≡ i). not_here (is_open_at t i at (subst (λ n. IsOpenPlace twigs n) same place)))
      (λ (other : k ≢ i). before k (omega (arith, lt, other)) place)
      (cases_eq k i)
  best_more i t best here (Some r) at was is either none = ⊎_elim
      (λ (same : Some r ≡ best). subst (λ (o : Option Ranked). IsBestOf i o) (sym same) was)
      (λ (same : Some r ≡ here).
      let found : (r.at ≡ i) × IsOpenTwig t = subst (λ (o : Option Ranked). IsRankedOf t i o) (sym same) is in
      subst (λ n. IsOpenPlace twigs n) (sym found.0) (open_at t i at found.1))
      either

-- ---- the nodes, and what they show

-- one node more
pub nodes_more : (nodes all : List Node) (left rest : List Twig) (t : Twig) (node : Node) → left ≡ t ∷ rest → nodes ++ map twig_node left ≡ all → node ≡ twig_node t
    → (nodes ++ (node ∷ [])) ++ map twig_node rest ≡ all
nodes_more nodes all left rest t node is so_far same =
    let added : (nodes ++ (node ∷ [])) ++ map twig_node rest ≡ nodes ++ (node ∷ map twig_node rest) = append_assoc nodes (node ∷ []) (map twig_node rest) in
    let named : nodes ++ (node ∷ map twig_node rest) ≡ nodes ++ map twig_node (t ∷ rest) = ap (λ (n : Node). nodes ++ (n ∷ map twig_node rest)) same in
    let before : nodes ++ map twig_node (t ∷ rest) ≡ nodes ++ map twig_node left = ap (λ (l : List Twig). nodes ++ map twig_node l) (sym is) in
    added ∙ (named ∙ (before ∙ so_far))

-- one place more is shown
pub more_shown : (shown next whole : Shown) (left rest : List Twig) (t : Twig) → left ≡ t ∷ rest → shown_more shown left ≡ whole → next ≡ shown_with shown t → shown_more next rest ≡ whole
more_shown shown next whole left rest t is so_far same =
    let named : shown_more next rest ≡ shown_more (shown_with shown t) rest = ap (λ (s : Shown). shown_more s rest) same in
    let before : shown_more (shown_with shown t) rest ≡ shown_more shown left = ap (λ (l : List Twig). shown_more shown l) (sym is) in
    named ∙ (before ∙ so_far)
