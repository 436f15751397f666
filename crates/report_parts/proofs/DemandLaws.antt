-- The reading of the demands of a plan takes exactly their texts.
use Rattle.std.proofs.Common.{◌≡◌, ◌≢◌, ℕ, ◌<◌, false, List, [], length, AllPairs, refl, codes, flat_map}
use Rattle.plan_terms.specs.Terms.{Demand, Places, is_named}
use Rattle.text_kit.{specs.Terms.{ComeAfter, no_fault, Parenthesis, ends_items, section}, proofs.Beginnings.AnyText, proofs.Lemmas.{after_as, after_differ, lawful_list}, proofs.Spelled.Lawful}
use Rattle.plan_report.specs.Terms.{IsDemandInForm, demand_items, node_name}
use Rattle.report_words.{specs.Terms.closing_at, proofs.Lemmas.{law_made, made_last, made_law, made_then, AreApart, amount_law, closing_law, keyword_law, new_demand_law, node_law, opening_law}}
use Rattle.report_parts.specs.ReadingParts.{nodes_at, plan_demand_at, plan_demands_at}

module _ (nodes : List (List ℕ)) (nodes_apart : AllPairs (λ x y. x ≢ y) nodes) where
  nodes_law : Lawful (nodes_at nodes) (λ e. ends_items (node_name nodes e.0) (node_name nodes e.1)) (λ e. (e.0.0 < length nodes) × (e.1.0 < length nodes)) AnyText
  unfolding nodes_at
  nodes_law = law_made (nodes_at nodes) _ _ _ (λ e. ends_items (node_name nodes e.0) (node_name nodes e.1)) (λ e. (e.0.0 < length nodes) × (e.1.0 < length nodes))
      (λ q h. (h.1.0, h.1.1.0))
      (λ q h. refl)
      (λ e h. record { parts = (tt, (e.0, (e.1, tt))); right = (tt, (h.0, (h.1, tt))); gives = refl })
      (made_then _ _ _ _ _ _ _ _ opening_law (λ x h.
      made_then _ _ _ _ _ _ _ _ (node_law nodes nodes_apart) (λ from h.
      made_then _ _ _ _ _ _ _ _ (node_law nodes nodes_apart) (λ to h.
      made_last closing_at (λ (u : Unit {0}). (from, to)) _ _ closing_law))))

  demand_after_law : (p : Places) (sofar : List Demand) → Lawful (plan_demand_at p nodes sofar) (demand_items p nodes) (IsDemandInForm nodes sofar) AnyText
  unfolding plan_demand_at
  demand_after_law p sofar = law_made (plan_demand_at p nodes sofar) _ _ _ (demand_items p nodes) (IsDemandInForm nodes sofar)
      (λ q h. record { short = h.0.0; new = h.0.1; from = h.1.0.0; to = h.1.0.1; need = h.1.1 })
      (λ q h. refl)
      (λ d h. record { parts = (d.name, ((d.from, d.to), d.need)); right = ((h.short, h.new), ((h.from, h.to), h.need)); gives = refl })
      (made_then _ _ _ _ _ _ _ _ (new_demand_law sofar) (λ name h.
      made_then _ _ _ _ _ _ _ _ nodes_law (λ ends h.
      made_last _ (λ (need : ℕ). record { name = name; from = ends.0; to = ends.1; need = need }) _ _ (amount_law p))))

  pub demands_law : (p : Places) → Lawful (plan_demands_at p nodes) (λ ds. section (codes "DEMANDS") (flat_map (demand_items p nodes) ds)) (λ ds. ComeAfter (IsDemandInForm nodes) [] ds) AnyText
  unfolding plan_demands_at
  demands_law p = law_made (plan_demands_at p nodes) _ _ _ (λ ds. section (codes "DEMANDS") (flat_map (demand_items p nodes) ds)) (λ ds. ComeAfter (IsDemandInForm nodes) [] ds)
      (λ q h. h.1.1.1)
      (λ q h. refl)
      (λ ds h. record { parts = (tt, (tt, ds)); right = (tt, (tt, (refl, h))); gives = refl })
      (made_then _ _ _ _ _ _ _ _ (keyword_law (codes "DEMANDS")) (λ x h.
      made_then _ _ _ _ _ _ _ _ opening_law (λ x h.
      made_law _ _ _ (lawful_list Parenthesis no_fault (plan_demand_at p nodes) (demand_items p nodes) (IsDemandInForm nodes) (λ d. tt) (demand_after_law p)))))

  pub demands_apart : (ds : List Demand) → ComeAfter (IsDemandInForm nodes) [] ds → AreApart ds
  demands_apart ds all = after_differ (λ (d : Demand). d.name) ds (after_as (IsDemandInForm nodes) (λ before d. is_named (λ x. x.name) d.name before ≡ false) [] ds (λ before d h. h.new) all)
