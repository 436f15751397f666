-- what a board answers to a cut
use Rattle.std.proofs.Common.{IfOk, OnErr, Ok, Err, Result, [], inl, inr, subst, sym}
use Rattle.plan_terms.specs.Terms.{NoMemory}
use Rattle.metric_cut.specs.declared.cut.Cut.{Cut}
use Rattle.plan_types.{specs.declared.certificate.Spot.Spot, specs.declared.certificate.Spot.TheVariants.{Pool, Local}}
use Rattle.cut_pool.{specs.declared.answers.AdmitAnswer.AdmitAnswer, specs.declared.board.Board.Board, specs.Terms.AnswersAdmit}
use Rattle.separator.{specs.Separators.IsSpotIn, specs.Spots.IsSpotAfter, specs.inner.Working.{PoolsMore, PoolsOnly, state_and_lengths}, proofs.Pooling.{pooled_spot, pools_one, pools_same}}
use Rattle.cut_pool.specs.declared.answers.AdmitAnswer.TheVariants as admitting

module _ (old new : Board) (cut : Cut) where
  -- the board pools nothing more, or the cut
  pub admit_pools : (answer : AdmitAnswer) → AnswersAdmit old cut answer new → PoolsOnly old new (state_and_lengths cut)
  admit_pools (admitting.Admitted index position) a = inr (pools_one old new index cut a.1 a.2 a.3)
  admit_pools (admitting.Known index back) a = inl (pools_same old new a.2)
  admit_pools (admitting.PoolFull back) a = inl (pools_same old new a.3)
  admit_pools (admitting.Full back) a = inl (pools_same old new a.4)
  admit_pools (admitting.NoMemory back) a = inl (pools_same old new a.4)

  -- without memory it pools nothing
  pub admit_none : (answer : AdmitAnswer) (found : Result Spot NoMemory) → AnswersAdmit old cut answer new → IsSpotAfter answer found → OnErr found (PoolsMore old new [])
  admit_none (admitting.Admitted index position) found a is = subst (λ r. OnErr r (PoolsMore old new [])) (sym is) tt
  admit_none (admitting.Known index back) found a is = subst (λ r. OnErr r (PoolsMore old new [])) (sym is) tt
  admit_none (admitting.PoolFull back) found a is = subst (λ r. OnErr r (PoolsMore old new [])) (sym is) tt
  admit_none (admitting.Full back) found a is = subst (λ r. OnErr r (PoolsMore old new [])) (sym is) tt
  admit_none (admitting.NoMemory back) (Ok spot) a is = absurd is
  admit_none (admitting.NoMemory back) (Err fault) a is = pools_same old new a.4

  abbrev Stands : Result Spot NoMemory → Type 0
  Stands found = IfOk found (IsSpotIn new.entries (state_and_lengths cut))

  -- the spot of the cut
  pub admit_spot : (answer : AdmitAnswer) (found : Result Spot NoMemory) → AnswersAdmit old cut answer new → IsSpotAfter answer found → Stands found
  admit_spot (admitting.Admitted index position) found a is = subst Stands (sym is) (pooled_spot old new index cut a.3 a.4)
  admit_spot (admitting.Known index back) found a is =
      subst Stands (sym is) (subst (λ es. IsSpotIn es (state_and_lengths cut) (Pool index)) (sym a.2.entries) a.0)
  admit_spot (admitting.PoolFull back) found a is =
      subst Stands (sym is) (subst (λ es. IsSpotIn es (state_and_lengths cut) Local) (sym a.3.entries) (inl a.1, a.0))
  admit_spot (admitting.Full back) found a is =
      subst Stands (sym is) (subst (λ es. IsSpotIn es (state_and_lengths cut) Local) (sym a.4.entries) (inr a.2, a.0))
  admit_spot (admitting.NoMemory back) (Ok spot) a is = absurd is
  admit_spot (admitting.NoMemory back) (Err fault) a is = tt
