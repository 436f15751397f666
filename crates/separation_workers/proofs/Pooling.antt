-- what a turn does in which a cut is put into the pool
use Rattle.std.proofs.Common.{◌≡◌, ◌∙◌, ℕ, ◌-◌, inl, inr, ⊎_elim, IfOk, List, Result, [], ◌∷◌, ◌++◌, length, sym, ap, subst, arith, append_assoc, length-append}
use Rattle.net_core.proofs.Library.{range_with_len, front_rest}
use Rattle.plan_terms.specs.Terms.{Entry, NoMemory}
use Rattle.metric_cut.specs.declared.cut.Cut.{Cut}
use Rattle.plan_types.specs.declared.certificate.Spot.{Spot}
use Rattle.cut_pool.{specs.declared.answers.AdmitAnswer.AdmitAnswer, specs.declared.board.Board.Board, specs.Terms.cuts_of}
use Rattle.turn_lock.specs.Passes.{items_at}
use Rattle.board_desk.{specs.declared.caller.Caller.Caller, specs.Turns.{AdmitsInTurn, HasTurn, IsSameCaller, caller_places, caller_seen}, proofs.Passes.{own_at, placed_in}}
use Rattle.separator.{specs.inner.Working.{PoolsMore, state_and_lengths}, specs.Terms.{IsSpotAfter, IsSpotIn, SeesMore, cuts_since}, proofs.Admitting.{admit_pools, admit_spot}}
use Rattle.separation_workers.{specs.Callers.SeesOn, specs.inner.Turns.PoolsAtMost, proofs.Places.{items_after, part_end}, proofs.Seen.seen_after_turn}

-- the caller's own entries grow by what the board grows by
module _ (old new : Caller) (found left : Board) (turn : HasTurn old found left new) (cuts : List (ℕ × List ℕ)) (pools : PoolsMore found left cuts) where
  abbrev more : List Entry
  more = pools.more

  abbrev seen : List Entry
  seen = (caller_seen old).history

  abbrev rest : List Entry
  rest = turn.begins.0

  turn_history : (caller_seen new).history ≡ (seen ++ rest) ++ more
  turn_history = turn.seen ∙ (pools.entries ∙ ap (λ es. es ++ more) (sym turn.begins.1))

  turn_own : (caller_seen new).own ≡ (caller_seen old).own ++ more
  turn_own =
      let count : length left.entries - length found.entries ≡ length more = omega (arith, ap length pools.entries, length-append found.entries more) in
      let places : caller_places new ≡ caller_places old ++ range_with_len (length (seen ++ rest)) (length more) =
      turn.places
      ∙ (ap (λ n. caller_places old ++ range_with_len (length found.entries) n) count
      ∙ ap (λ es. caller_places old ++ range_with_len (length es) (length more)) (sym turn.begins.1)) in
      own_at new.pass
      ∙ (ap (λ es. items_at es (caller_places new)) turn_history
      ∙ (ap (λ ps. items_at ((seen ++ rest) ++ more) ps) places
      ∙ (items_after seen rest more (caller_places old) (placed_in old.pass)
      ∙ ap (λ es. es ++ more) (sym (own_at old.pass)))))

  turn_sees : SeesMore (caller_seen old) (caller_seen new)
  turn_sees = record {
    further = rest ++ more;
    seen = turn_history ∙ append_assoc seen rest more;
    committed = more;
    own_is = turn_own;
    among = part_end rest more;
    pooled = pools.pooled;
  }

  turn_since : cuts_since (caller_seen old) (caller_seen new) ≡ cuts
  turn_since = ap cuts_of (front_rest (caller_seen new).own (caller_seen old).own pools.more turn_own) ∙ pools.are

  turn_goes : IsSameCaller old new → SeesOn old new
  turn_goes same = record { same = same; seen = seen_after_turn old new found left turn pools.origin same; more = turn_sees }

module _ (cut : Cut) (answer : AdmitAnswer) (old new : Caller) (t : AdmitsInTurn old cut answer new) where
  pub answer_pools : PoolsAtMost (state_and_lengths cut) (caller_seen old) (caller_seen new)
  answer_pools = ⊎_elim
      (λ none. inl (turn_since old new t.0 t.1 t.3 [] none))
      (λ one. inr (turn_since old new t.0 t.1 t.3 (state_and_lengths cut ∷ []) one))
      (admit_pools t.0 t.1 cut answer t.2)

  pub answer_sees : IsSameCaller old new → SeesOn old new
  answer_sees same = ⊎_elim
      (λ none. turn_goes old new t.0 t.1 t.3 [] none same)
      (λ one. turn_goes old new t.0 t.1 t.3 (state_and_lengths cut ∷ []) one same)
      (admit_pools t.0 t.1 cut answer t.2)

  -- the spot of the cut
  pub answer_spot : (found : Result Spot NoMemory) → IsSpotAfter answer found → IfOk found (IsSpotIn (caller_seen new).history (state_and_lengths cut))
  answer_spot found is =
      subst (λ es. IfOk found (IsSpotIn es (state_and_lengths cut))) (sym t.3.seen) (admit_spot t.0 t.1 cut answer found t.2 is)
