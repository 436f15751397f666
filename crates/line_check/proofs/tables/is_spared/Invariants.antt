use Rattle.std.proofs.Common.{◌≡◌, ℕ, ◌<◌}
use Rattle.plan_terms.specs.Terms.{case_of}
use Rattle.line_check.{specs.Inequalities.module_number, specs.Lines.{NeverFails, capped}}
use Rattle.line_check.proofs.tables.is_spared.Given as goal

-- none of the links so far
abbrev pub invariant-loop-e : goal.invariant-loop-e
invariant-loop-e l = (i m : ℕ) → i < l.e → m < module_number l.links i → capped l.over i m ≡ l.kind → NeverFails (case_of l.instance) i → ⊥
