-- planning prints a text only if it has made a plan
use Rattle.std.{proofs.Common.{◌≡◌, ◌∙◌, ◌≤◌, ℕ, Bool, List, [], Option, None, Some, inl, inr, sym, ◌≢◌, IfSome}, specs.Option.option_map_or}
use Rattle.plan_terms.specs.Terms.{Case, Notes}
use Rattle.outside_io.{specs.declared.status.Status.Status, specs.declared.status.Status.TheVariants.{Done, ReadFault}}
use Rattle.people_plans.specs.PlansForPeople.{EndsPlanForPeople}

module _ (network : List ℕ) (splits : Option ℕ) (wanted : Bool) (p : Case) (notes : Notes) (status : Status) (text message : List ℕ) where
  -- a text is printed only of a plan
  pub no_text : EndsPlanForPeople network splits wanted p notes status text message → status ≢ Done → text ≡ []
  no_text (limit, is, inl (bad, none, says)) other = none
  no_text (limit, is, inr (charged, inl (done, prints))) other = absurd (other done)
  no_text (limit, is, inr (charged, inr (bad, none, says))) other = none

  -- no file is read
  pub nothing_read : EndsPlanForPeople network splits wanted p notes status text message → status ≡ ReadFault → ⊥
  nothing_read (limit, is, inl (bad, none, says)) fails = cc (sym bad ∙ fails)
  nothing_read (limit, is, inr (charged, inl (done, prints))) fails = cc (sym done ∙ fails)
  nothing_read (limit, is, inr (charged, inr (bad, none, says))) fails = cc (sym bad ∙ fails)

-- the number of splits that somebody says is small
pub few_splits : (splits : Option ℕ) → option_map_or (λ n. n) splits 0 ≤ 9999 → IfSome splits (λ n. n ≤ 9999)
few_splits None few = tt
few_splits (Some n) few = few
