-- Why a caller's turn is as its contract says.
use Rattle.std.proofs.Common.{◌≡◌, ◌∙◌, ℕ, ◌-◌, ◌++◌, List, Some, length, subst, sym, ap, arith, append-nil}
use Rattle.net_core.proofs.Library.{range_with_len}
use Rattle.plan_terms.specs.Terms.{Edit, Entry, Edited, Pooled}
use Rattle.metric_cut.specs.declared.cut.Cut.{Cut}
use Rattle.cut_pool.{specs.declared.answers.AdmitAnswer.AdmitAnswer, specs.declared.answers.EditAnswer.EditAnswer, specs.declared.board.Board.Board, specs.Terms.{AnswersAdmit, AnswersEdit, origin_of}}
use Rattle.turn_lock.specs.Terms.{IsPrefix, AreOfOneDesk, IsPassOf, own_places, own_units, seen_by, turn_history, turn_places, turn_units}
use Rattle.board_desk.{specs.declared.caller.Caller.Caller, specs.Turns.{HasTurn, IsPassThere, IsSameCaller, board_made, places_in, seen_in, units_in}, specs.inner.Endings.{IsGrown, cut_enters, edit_enters}, proofs.Passes.{BoardPass, BoardTurn, some_pass}}
use Rattle.cut_pool.specs.declared.answers.AdmitAnswer.TheVariants as admitting
use Rattle.cut_pool.specs.declared.answers.EditAnswer.TheVariants as editing

-- no entry more has no place
place_of_none : (own : List ℕ) (before after : List Entry) → after ≡ before → own ≡ own ++ range_with_len (length before) (length after - length before)
place_of_none own before after same =
    let none : 0 ≡ length after - length before = omega (arith, ap length same) in
    sym (append-nil own) ∙ ap (λ n. own ++ range_with_len (length before) n) none

-- what an answer says of the board that is left
pub edit_grows : (found left : Board) (caller : ℕ) (edit : Edit) (answer : EditAnswer) → AnswersEdit found caller edit answer left → IsGrown (edit_enters answer) found.entries left.entries
edit_grows found left caller edit (editing.At position reply) answers = (Edited caller edit reply, answers.1.entries)
edit_grows found left caller edit (editing.Full back) answers = answers.2.entries
edit_grows found left caller edit (editing.NoMemory back) answers = answers.2.entries

pub edit_keeps : (found left : Board) (caller : ℕ) (edit : Edit) (answer : EditAnswer) → AnswersEdit found caller edit answer left → origin_of left ≡ origin_of found
edit_keeps found left caller edit (editing.At position reply) answers = answers.1.origin
edit_keeps found left caller edit (editing.Full back) answers = answers.2.origin
edit_keeps found left caller edit (editing.NoMemory back) answers = answers.2.origin

pub cut_grows : (found left : Board) (cut : Cut) (answer : AdmitAnswer) → AnswersAdmit found cut answer left → IsGrown (cut_enters answer) found.entries left.entries
cut_grows found left cut (admitting.Admitted index position) answers = (Pooled index cut.state cut.lengths, answers.3.entries)
cut_grows found left cut (admitting.Known index back) answers = answers.2.entries
cut_grows found left cut (admitting.PoolFull back) answers = answers.3.entries
cut_grows found left cut (admitting.Full back) answers = answers.4.entries
cut_grows found left cut (admitting.NoMemory back) answers = answers.4.entries

pub cut_keeps : (found left : Board) (cut : Cut) (answer : AdmitAnswer) → AnswersAdmit found cut answer left → origin_of left ≡ origin_of found
cut_keeps found left cut (admitting.Admitted index position) answers = answers.3.origin
cut_keeps found left cut (admitting.Known index back) answers = answers.2.origin
cut_keeps found left cut (admitting.PoolFull back) answers = answers.3.origin
cut_keeps found left cut (admitting.Full back) answers = answers.4.origin
cut_keeps found left cut (admitting.NoMemory back) answers = answers.4.origin

-- a caller has taken a turn with its pass, and has another pass after it
module _ (old new : Caller) (pass left : BoardPass) (turn : BoardTurn) (had : old.pass ≡ Some pass) (has : new.pass ≡ Some left) where
  -- it is this caller
  pub left_same : new.desk.now ≡ old.desk.now → new.number ≡ old.number → IsPassThere old.desk.now old.pass
      → AreOfOneDesk pass turn → AreOfOneDesk left turn → turn_units turn ≡ own_units pass → own_units left ≡ turn_units turn
      → IsSameCaller old new
  left_same desk number there entered ended units units_left =
      let own = some_pass old.desk.now old.pass there pass had in
      record {
        own = subst (IsPassThere new.desk.now) (sym has)
            (subst (λ d. IsPassOf d left) (sym desk) (ended.0 ∙ (sym entered.0 ∙ own.0), ended.1 ∙ (sym entered.1 ∙ own.1)));
        desk = desk;
        number = number;
        units = ap units_in has ∙ (units_left ∙ (units ∙ sym (ap units_in had)));
      }

  module _ (found after : Board) (origin : origin_of found ≡ origin_of (board_made old)) (stands : found.entries ≡ turn_history turn)
      (begins : IsPrefix (seen_by pass) (turn_history turn)) (entered : turn_places turn ≡ own_places pass) where
    begins_found : IsPrefix (seen_in old.pass).history found.entries
    begins_found = subst (λ p. IsPrefix (seen_in p).history found.entries) (sym had) (subst (IsPrefix (seen_by pass)) (sym stands) begins)

    places_had : turn_places turn ≡ places_in old.pass
    places_had = entered ∙ sym (ap places_in had)

    -- it left with what its board has grown by
    pub left_grown : seen_by left ≡ after.entries
        → own_places left ≡ turn_places turn ++ range_with_len (length (turn_history turn)) (length after.entries - length (turn_history turn))
        → HasTurn old found after new
    left_grown seen places = record {
      begins = begins_found;
      origin = origin;
      seen = ap (λ p. (seen_in p).history) has ∙ seen;
      places = ap places_in has
          ∙ (places
          ∙ (ap (λ ps. ps ++ range_with_len (length (turn_history turn)) (length after.entries - length (turn_history turn))) places_had
          ∙ ap (λ h. places_in old.pass ++ range_with_len (length h) (length after.entries - length h)) (sym stands)));
    }

    -- it left with the entries as they were
    pub left_as_found : after.entries ≡ found.entries → seen_by left ≡ turn_history turn → own_places left ≡ turn_places turn → HasTurn old found after new
    left_as_found same seen places = record {
      begins = begins_found;
      origin = origin;
      seen = ap (λ p. (seen_in p).history) has ∙ (seen ∙ (sym stands ∙ sym same));
      places = ap places_in has ∙ (places ∙ (places_had ∙ place_of_none (places_in old.pass) found.entries after.entries same));
    }
