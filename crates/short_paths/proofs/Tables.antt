-- from the table of a search to distances
use Rattle.std.proofs.Common.{◌≡◌, ℕ, ◌+◌, ◌-◌, ◌^◌, ◌<◌, ◌≤◌, List, [], ◌∷◌, length, get_or, Option, None, Some, cond, eqb, true, false, map, ap, refl, sym, subst, ◌∙◌, arith, eqb-true}
use Rattle.net_core.proofs.Library.{eqb-false, length-map, get_or-map}
use Rattle.plan_terms.{specs.Terms.{LinkId, Leads, last_node, length_of, IsPath, IsDistance}, proofs.Lemmas.{distance_alike, shortcut}}
use Rattle.short_paths.{specs.declared.forward_star.Arc.Arc, specs.inner.ForwardStars.{AreArcs, HasArc}, specs.inner.Tables.{IsTable, answer_of}, specs.DistanceRows.AreDistances}

module _ (joins : ℕ → ℕ → ℕ → Type 0) (lengths : List ℕ) (far a : ℕ) (found : List ℕ) (t : IsTable joins lengths far a found) where
  -- no walk from a node that is found is shorter than the table says
  bounded : (c : ℕ) (es : List LinkId) (cs : List ℕ) → Leads joins c es cs → get_or found c 0 < far → (get_or found (last_node c cs) 0 < far) × (get_or found (last_node c cs) 0 ≤ get_or found c 0 + length_of lengths es)
  bounded c [] [] leads near = (near, omega arith)
  bounded c (e ∷ es) (k ∷ cs) leads near =
      let step = t.closed e.0 c k near leads.0 in
      let rest = bounded k es cs leads.1 step.0 in
      (rest.0, omega (arith, step.1, rest.1))
  bounded c [] (k ∷ cs) leads near = absurd leads
  bounded c (e ∷ es) [] leads near = absurd leads

  least : (b : ℕ) (es : List LinkId) → IsPath joins a b es → (get_or found b 0 < far) × (get_or found b 0 ≤ length_of lengths es)
  least b es p =
      let r = bounded a es p.0 p.1 (omega (arith, t.start, t.zero)) in
      let there = subst (λ k. (get_or found k 0 < far) × (get_or found k 0 ≤ get_or found a 0 + length_of lengths es)) p.2 r in
      (there.0, omega (arith, there.1, t.start))

  -- the number at a node means its distance
  pub table_distance : (b : ℕ) → b < length found → IsDistance joins lengths a b (answer_of far (get_or found b 0))
  table_distance b lt =
      elim (eqb (get_or found b 0) far) as (λ v. eqb (get_or found b 0) far ≡ v → IsDistance joins lengths a b (cond v None (Some (get_or found b 0)))) [
        | true ↦ λ e. λ es p. omega (arith, (least b es p).0, eqb-true (get_or found b 0) far e)
        | false ↦ λ e.
            let near : get_or found b 0 < far = omega (arith, t.most b, eqb-false (get_or found b 0) far e) in
            let w = t.sound b lt near in
            let v = shortcut joins lengths a b w.along w.nodes w.leads w.ends in
            ((v.along, v.path, omega (arith, v.short, w.long, (least b v.along v.path).1)), λ es p. (least b es p).1)
      ] refl

-- distances of lengths below 2^32 are below 2^39
pub found_low : (joins : ℕ → ℕ → ℕ → Type 0) (lengths : List ℕ) (far a : ℕ) (found : List ℕ) → IsTable joins lengths far a found → ((e : ℕ) → get_or lengths e 0 < 2 ^ 32) → length found ≤ 128 → (k : ℕ) → get_or found k 0 < far → get_or found k 0 < 2 ^ 39
found_low joins lengths far a found t short few k near = omega (arith, t.low (2 ^ 32 - 1) (λ e. omega (arith, short e)) k near)

-- arcs join what their links join, so distances over them are distances over the links
pub arcs_distance : (joins : ℕ → ℕ → ℕ → Type 0) (lengths : List ℕ) (a b : ℕ) (d : Option ℕ) (arcs : List Arc) → AreArcs joins arcs → IsDistance (HasArc arcs) lengths a b d → IsDistance joins lengths a b d
arcs_distance joins lengths a b d arcs are h = distance_alike (HasArc arcs) joins are.sound are.whole lengths a b d h

-- arcs go both ways where links do
pub arcs_turned : (joins : ℕ → ℕ → ℕ → Type 0) → ((e x y : ℕ) → joins e x y → joins e y x) → (arcs : List Arc) → AreArcs joins arcs → (e x y : ℕ) → HasArc arcs e x y → HasArc arcs e y x
arcs_turned joins turns arcs are e x y h = are.whole e y x (turns e x y (are.sound e x y h))

-- the answers of a whole row
pub are_distances : (joins : ℕ → ℕ → ℕ → Type 0) (lengths : List ℕ) (far a n : ℕ) (found : List ℕ) (arcs : List Arc) (answers : List (Option ℕ)) → answers ≡ map (answer_of far) found → AreArcs joins arcs → length found ≡ n → IsTable (HasArc arcs) lengths far a found → AreDistances joins lengths a n answers
are_distances joins lengths far a n found arcs answers is are size t = record {
  count = ap length is ∙ (length-map found (answer_of far) ∙ size);
  each = λ b lt.
      let same : get_or answers b None ≡ answer_of far (get_or found b 0) =
      ap (λ xs. get_or xs b None) is ∙ get_or-map (answer_of far) found b 0 None (omega arith) in
      subst (IsDistance joins lengths a b) (sym same)
      (arcs_distance joins lengths a b (answer_of far (get_or found b 0)) arcs are (table_distance (HasArc arcs) lengths far a found t b (omega arith)));
}
