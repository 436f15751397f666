-- flows of one state more
use Rattle.std.{proofs.Common.{◌≡◌, ◌≤◌, ℕ, ◌+◌, List, ◌++◌, add-one, append-nil, append_assoc, ap, length, sym, ◌∙◌}, proofs.lemmas.Option.slice_get_past}
use Rattle.plan_terms.specs.Terms.{Case}
use Rattle.plan_types.specs.declared.plan.Plan.{Plan}
use Rattle.view_csv.specs.Sheets.{flows_of_state, flows_of_states}

pub next_state : (p : Case) (caller serial : ℕ) (plan : Plan) (s : ℕ) (old mid new : List (List (List ℕ)))
    → mid ≡ old ++ flows_of_states p caller serial plan s → new ≡ mid ++ flows_of_state p caller serial plan s
    → new ≡ old ++ flows_of_states p caller serial plan (s + 1)
next_state p caller serial plan s old mid new before step =
    rw add-one (step ∙ ap (λ t. t ++ flows_of_state p caller serial plan s) before
    ∙ append_assoc old (flows_of_states p caller serial plan s) (flows_of_state p caller serial plan s))

-- a state without a routing adds nothing
pub none_in : (p : Case) (caller serial : ℕ) (plan : Plan) (s : ℕ) (old : List (List (List ℕ))) → length plan.routings ≤ s
    → old ≡ old ++ flows_of_state p caller serial plan s
none_in p caller serial plan s old past = rw (slice_get_past plan.routings s past) (sym (append-nil old))
