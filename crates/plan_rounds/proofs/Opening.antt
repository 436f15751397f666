-- opening cuts, taken one after another
use Rattle.std.proofs.Common.{◌≡◌, ℕ, ◌+◌, ◌≤◌, ⊎_elim, List, [], ◌∷◌, ◌++◌, All, length, map, sym, ap, subst, ◌∙◌, arith, append_assoc, append-nil, length-append}
use Rattle.net_core.proofs.Library.{length-map, All-tail}
use Rattle.plan_terms.specs.Terms.{Demand, CutLine, Case, graph_in, Graph, AreOpening, each_once}
use Rattle.metric_cut.{specs.Cuts.IsCutOf, specs.declared.cut.Cut.Cut, proofs.Lines.line_is_cut}
use Rattle.plan_law.{specs.WorkedLists.HasCut, specs.inner.Openings.IsOpenedTo, proofs.Begun.{opened_known, opened_new, opened_state, once_few}}
use Rattle.plan_rounds.specs.inner.Listing.{TakesCut, TakesCuts}

abbrev pub lengths_of_cuts : List Cut → List (List ℕ)
lengths_of_cuts cuts = map (λ c. c.lengths) cuts

module _ (p : Case) (pool : List CutLine) (s : ℕ) where
  -- one cut
  opened_take : (taken : List (List ℕ)) (cut : Cut) (rest : List (List ℕ)) (old new : List CutLine) → IsCutOf (graph_in p s) cut → AreOpening (graph_in p s) (taken ++ cut.lengths ∷ rest)
      → IsOpenedTo p pool s taken old → TakesCut p.demands cut old new → IsOpenedTo p pool s (taken ++ cut.lengths ∷ []) new
  opened_take taken cut rest old new of opening o takes = ⊎_elim
      (λ known. subst (IsOpenedTo p pool s (taken ++ cut.lengths ∷ [])) (sym known.1)
      (opened_known p pool s taken old o cut.lengths (subst (λ t. HasCut old t cut.lengths) (sym of.state) known.0)))
      (λ lacks.
      let line = lacks.0 in
      let is = lacks.1 in
      let state : line.state.0 ≡ s = ap (λ st. st.0) is.state ∙ sym of.state in
      let here : IsCutOf (graph_in p cut.state.0) cut = subst (λ t. IsCutOf (graph_in p t) cut) of.state of in
      let taken_line = opened_new p pool s taken old o line rest state (line_is_cut p cut.state.0 cut line here is) (subst (λ ls. AreOpening (graph_in p s) (taken ++ ls ∷ rest)) (sym is.lengths) opening) lacks.2 in
      subst (IsOpenedTo p pool s (taken ++ cut.lengths ∷ [])) (sym lacks.3) (subst (λ ls. IsOpenedTo p pool s (taken ++ ls ∷ []) (old ++ line ∷ [])) is.lengths taken_line))
      takes

  -- one after another
  opened_takes : (cuts : List Cut) (taken : List (List ℕ)) (old new : List CutLine) → All (IsCutOf (graph_in p s)) cuts → AreOpening (graph_in p s) (taken ++ lengths_of_cuts cuts)
      → IsOpenedTo p pool s taken old → TakesCuts p.demands cuts old new → IsOpenedTo p pool s (taken ++ lengths_of_cuts cuts) new
  opened_takes [] taken old new of opening o takes = subst (λ ls. IsOpenedTo p pool s ls new) (sym (append-nil taken)) (subst (IsOpenedTo p pool s taken) takes o)
  opened_takes (cut ∷ cuts) taken old new of opening o takes =
      let rest = lengths_of_cuts cuts in
      let first = opened_take taken cut rest old takes.0 (of 0 cut (omega arith)) opening o takes.1 in
      subst (λ ls. IsOpenedTo p pool s ls new) (append_assoc taken (cut.lengths ∷ []) rest)
      (opened_takes cuts (taken ++ cut.lengths ∷ []) takes.0 new (All-tail (IsCutOf (graph_in p s)) cut cuts of)
      (subst (AreOpening (graph_in p s)) (sym (append_assoc taken (cut.lengths ∷ []) rest)) opening) first takes.2)

  -- those of a whole state
  pub state_opened : (cuts : List Cut) (old new : List CutLine) → All (IsCutOf (graph_in p s)) cuts → AreOpening (graph_in p s) (lengths_of_cuts cuts) → TakesCuts p.demands cuts old new
      → IsOpenedTo p pool s [] old → IsOpenedTo p pool (s + 1) [] new
  state_opened cuts old new of opening takes o = opened_state p pool s (lengths_of_cuts cuts) new (opened_takes cuts [] old new of opening o takes) opening

takes_few : (demands : List Demand) (cuts : List Cut) (old new : List CutLine) → TakesCuts demands cuts old new → length new ≤ length old + length cuts
takes_few demands [] old new takes = let same : length old ≡ length new = ap length takes in omega (arith, same)
takes_few demands (cut ∷ cuts) old new takes =
    let rest = takes_few demands cuts takes.0 new takes.2 in
    let one : length takes.0 ≤ length old + 1 = ⊎_elim
    (λ known. let same : length takes.0 ≡ length old = ap length known.1 in omega (arith, same))
    (λ lacks. let more : length takes.0 ≡ length (old ++ lacks.0 ∷ []) = ap length lacks.3 in omega (arith, more, length-append old (lacks.0 ∷ [])))
    takes.1 in
    omega (arith, rest, one)

pub state_few : (g : Graph) (demands : List Demand) (cuts : List Cut) (old new : List CutLine) → AreOpening g (lengths_of_cuts cuts) → TakesCuts demands cuts old new → length new ≤ length old + 2
state_few g demands cuts old new opening takes =
    let lengths : Cut → List ℕ = λ c. c.lengths in
    let same : length (lengths_of_cuts cuts) ≡ length (each_once opening.unit opening.price) = ap length opening.are in
    omega (arith, takes_few demands cuts old new takes, once_few opening.unit opening.price, same, length-map cuts lengths)
