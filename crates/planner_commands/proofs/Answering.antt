-- how the result of one step becomes the result of the run
use Rattle.std.proofs.Common.{ℕ, List, Option, Result, Ok, Err, inr}
use Rattle.plan_terms.specs.Terms.{Problem, Notes, Case, case}
use Rattle.outside_io.{specs.Outside.Files, specs.declared.answer.Answer.Answer, specs.declared.status.Status.Status}
use Rattle.input_files.{specs.Terms.{PlanWords, EndsAfterInputs, HasInputs, Stops}, specs.declared.stop.Stop.Stop, proofs.Stopping.stop_map}
use Rattle.planner_commands.{specs.Run.Ends, specs.inner.Steps.HasCause}

-- the input files are all read, and the run ends with this result
module _ (files : Option Files) (w : PlanWords) (EndsWith : Case → Notes → Status → List ℕ → Type 0) (problem : Problem) (has : HasInputs files w problem.net problem.demands problem.states.listed) where
  pub after_inputs : (status : Status) (text : List ℕ) → EndsWith (case problem.net problem.states problem.demands) problem.net.notes status text → EndsAfterInputs files w EndsWith status text
  after_inputs status text ends = inr (problem.net, problem.demands, problem.states.listed, has, ends)

  -- a further file ends the run
  pub last_ends : (Ends : Status → List ℕ → Type 0) → ((status : Status) (text : List ℕ) → Ends status text → EndsWith (case problem.net problem.states problem.demands) problem.net.notes status text)
      → (s : Stop) → Stops Ends s → Stops (EndsAfterInputs files w EndsWith) s
  last_ends Ends so s = stop_map Ends (EndsAfterInputs files w EndsWith) s (λ status text e. after_inputs status text (so status text e))

  -- the run ends with what is answered
  pub answer_ends : (r : Result Answer Stop) → HasCause (EndsWith (case problem.net problem.states problem.demands) problem.net.notes) r → HasCause (EndsAfterInputs files w EndsWith) r
  answer_ends (Ok a) h = after_inputs a.status a.text h
  answer_ends (Err s) h = last_ends (EndsWith (case problem.net problem.states problem.demands) problem.net.notes) (λ status text e. e) s h
