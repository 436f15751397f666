-- The readings of outcomes take exactly their texts.
use Rattle.std.proofs.Common.{◌≡◌, ◌≢◌, inl, inr, ℕ, ◌+◌, ◌≤◌, Bool, true, List, [], ◌∷◌, ◌++◌, length, All, AllPairs, Err, refl, ap, ◌∙◌, arith, codes, flat_map, slice_get}
use Rattle.plan_terms.specs.Terms.{CutLine}
use Rattle.text_kit.{specs.Terms.{Item, Verbatim, Opening, Closing}, proofs.Beginnings.AnyText, proofs.Spelled.Lawful}
use Rattle.plan_report.specs.Terms.{IsHeadInForm, IsOutcomeInForm, head_items, outcome_items, plan_items, state_name, KnownNames, Plan, Outcome, Planned, Unsurvivable}
use Rattle.report_words.{specs.declared.fault.ReportKind.TheVariants.Token, specs.Terms.{closing_at, has_room, branch_within}, proofs.Lemmas.{branches_law, either_form, lawful_branch, lawful_no_branch, field_law, few_law, law_made, made_last, made_then, closing_law, keyword_law, name_law, opening_law, this_name_law}}
use Rattle.report_parts.proofs.Lemmas.{IsSound, IsPoolInForm, AreLinksApart}
use Rattle.report_reader.{specs.declared.parts.Head.Head, specs.ReadingReport.{head_at, outcome_branches, outcomes_at, planned_at, separated_at, unsurvivable_at}, proofs.PlanLaws.{IsPlanOf, form_plan, plan_form, plan_law}, proofs.Variants.outcome_cases}

abbrev items_of : Head → List Item
items_of h = head_items h.caller h.serial h.version h.position

abbrev IsHead : Head → Type 0
IsHead h = IsHeadInForm h.caller h.serial h.version h.position

head_law : Lawful head_at items_of IsHead AnyText
unfolding head_at
head_law = law_made head_at _ _ _ items_of IsHead
    (λ q h. record {
      some_caller = h.0.0;
      most_caller = omega (arith, h.0.1);
      some_serial = h.1.0.0;
      most_serial = omega (arith, h.1.0.1);
      most_version = omega (arith, h.1.1.0.1);
      most_position = omega (arith, h.1.1.1.1);
    })
    (λ q h. refl)
    (λ d h. record {
      parts = (d.caller, (d.serial, (d.version, d.position)));
      right = ((h.some_caller, omega (arith, h.most_caller)), ((h.some_serial, omega (arith, h.most_serial)), ((omega arith, omega (arith, h.most_version)), (omega arith, omega (arith, h.most_position)))));
      gives = refl;
    })
    (made_then _ _ _ _ _ _ _ _ (field_law (codes "caller") 1 9) (λ caller h.
    made_then _ _ _ _ _ _ _ _ (field_law (codes "plan") 1 65) (λ serial h.
    made_then _ _ _ _ _ _ _ _ (field_law (codes "version") 0 65537) (λ version h.
    made_last _ (λ (position : ℕ). record { caller = caller; serial = serial; version = version; position = position }) _ _ (field_law (codes "position") 0 65537)))))

module _ (names : KnownNames) (pool : List CutLine) (nodes_apart : AllPairs (λ x y. x ≢ y) names.nodes) (apart : AreLinksApart names.links) (sound : (k : ℕ) → IsSound (slice_get names.links k)) (form : IsPoolInForm names pool) where
  abbrev IsOutcome : Bool → Outcome → Type 0
  IsOutcome room o = (room ≡ true) × IsOutcomeInForm names pool o

  abbrev all_items : Outcome → List Item
  all_items o = outcome_items names o

  -- a plan's head tells its version and position
  same_head : (head : Head) (p : Plan) → IsPlanOf names pool head p → Verbatim (codes "PLAN") ∷ Opening ∷ (items_of head ++ (plan_items names p ++ Closing ∷ [])) ≡ all_items (Planned head.caller head.serial p)
  same_head head p h =
      ap (λ (v : ℕ). Verbatim (codes "PLAN") ∷ Opening ∷ (head_items head.caller head.serial v head.position ++ (plan_items names p ++ Closing ∷ []))) h.0.0
      ∙ ap (λ (w : ℕ). Verbatim (codes "PLAN") ∷ Opening ∷ (head_items head.caller head.serial p.version w ++ (plan_items names p ++ Closing ∷ []))) h.0.1

  planned_form : (head : Head) (p : Plan) → IsHead head → IsPlanOf names pool head p → IsOutcomeInForm names pool (Planned head.caller head.serial p)
  planned_form head p d h =
      let f = plan_form names pool head p d.most_version d.most_position h in
      record {
        command = record { some_caller = d.some_caller; most_caller = d.most_caller; some_serial = d.some_serial; most_serial = d.most_serial; most_version = omega (arith, d.most_version, h.0.0); most_position = omega (arith, d.most_position, h.0.1) };
        plan = f.0;
        pooled = f.1;
      }

  outcome_law : (room : Bool) → Lawful (branch_within room (outcome_branches names pool)) all_items (IsOutcome room) AnyText
  unfolding planned_at unsurvivable_at separated_at
  outcome_law room = branches_law room (Err Token) (outcome_branches names pool) all_items _ (IsOutcome room)
      (either_form room _ _ _ (IsOutcome room) (λ q m h. (m, planned_form q.1.0 q.1.1.0 h.1.0 h.1.1.0))
      (either_form room _ _ _ (IsOutcome room) (λ q m h. (m, record { command = h.1.0; state_listed = omega (arith, h.1.1.0.1); short = h.1.1.1.1.1.0 }))
      (λ o n. absurd n)))
      (outcome_cases _
      (λ caller serial p h. inl (
        h.0,
        record {
          parts = (tt, (record { caller = caller; serial = serial; version = p.version; position = p.position }, (p, tt)));
          right = (tt, (h.1.command, (form_plan names pool (record { caller = caller; serial = serial; version = p.version; position = p.position }) p refl refl h.1.plan h.1.pooled, tt)));
          gives = refl;
        },
      ))
      (λ caller serial version position state demand h. inr (inl (
        h.0,
        record {
          parts = (tt, (record { caller = caller; serial = serial; version = version; position = position }, (state.0, (tt, (tt, (demand, tt))))));
          right = (tt, (h.1.command, ((omega arith, omega (arith, h.1.state_listed)), (tt, (tt, (h.1.short, tt))))));
          gives = refl;
        },
      ))))
      (lawful_branch room (Err Token) (codes "PLAN") (planned_at names pool) _ _ _ _ all_items _ refl (λ q h. same_head q.1.0 q.1.1.0 h.1.1.0)
      (made_then _ _ _ _ _ _ _ _ opening_law (λ x h.
      made_then _ _ _ _ _ _ _ _ head_law (λ head h.
      made_then _ _ _ _ _ _ _ _ (plan_law names pool nodes_apart apart sound form head) (λ plan h.
      made_last closing_at (λ (u : Unit {0}). Planned head.caller head.serial plan) _ _ closing_law))))
      (lawful_branch room (Err Token) (codes "UNSURVIVABLE") (unsurvivable_at names.listed) _ _ _ _ all_items _ refl (λ q h. refl)
      (made_then _ _ _ _ _ _ _ _ opening_law (λ x h.
      made_then _ _ _ _ _ _ _ _ head_law (λ head h.
      made_then _ _ _ _ _ _ _ _ (field_law (codes "state") 0 (length names.listed + 1)) (λ state h.
      made_then _ _ _ _ _ _ _ _ (this_name_law (state_name names.listed state)) (λ x h.
      made_then _ _ _ _ _ _ _ _ (keyword_law (codes "demand")) (λ x h.
      made_then _ _ _ _ _ _ _ _ name_law (λ demand h.
      made_last closing_at (λ (u : Unit {0}). Unsurvivable head.caller head.serial head.version head.position (record { 0 = state }) demand) _ _ closing_law)))))))
      (lawful_no_branch room Token all_items)))

  pub outcomes_law : Lawful (outcomes_at names pool) (λ os. flat_map all_items os ++ Closing ∷ []) (λ os. (length os ≤ 64) × All (IsOutcomeInForm names pool) os) AnyText
  outcomes_law = few_law 64 (λ sofar. branch_within (has_room 64 sofar) (outcome_branches names pool)) all_items (IsOutcomeInForm names pool) (outcome_cases _ (λ c s p. tt) (λ c s v w e d. tt)) (λ sofar. outcome_law (has_room 64 sofar))
