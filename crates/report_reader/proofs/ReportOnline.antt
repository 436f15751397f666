-- Each part of a report is read without a look at what comes after it.
use Rattle.std.proofs.Common.{◌≡◌, ℕ, ◌+◌, ◌^◌, Bool, true, false, cond, List, [], ◌∷◌, length, None, Some, Result, Ok, Err, refl, codes}
use Rattle.plan_terms.specs.Terms.{are_same, Entry, Demand, Places, CutLine, Listed}
use Rattle.snd_tokens.specs.Terms.{Text, WordAt, OpenAt, CloseAt, EndAt}
use Rattle.text_kit.{specs.Reading.ended_or, specs.Terms.{Read, Reading, after, ◌>>=◌, give, no_fault, Parenthesis}, proofs.Lemmas.{IsOnline, TakesSome, online_close, online_give, online_list, online_open, online_then, online_whole, online_word, takes_some}}
use Rattle.plan_report.specs.Terms.{KnownNames, Outcome}
use Rattle.report_words.{specs.declared.fault.ReportKind.ReportKind, specs.declared.fault.ReportKind.TheVariants.{Section, Token, Ended}, specs.ReportChoices.branch_of, specs.Terms.{Branches, branch_at, branch_or, branch_within, closing_at, has_room}, proofs.Branching.{AllOnline, online_same}, proofs.Lemmas.{online_branch, field_online, column_some, numbers_online, opening_within_online}}
use Rattle.report_parts.proofs.PartsOnline.{certificate_online, modules_online, plan_demands_online, quality_online, routings_online}
use Rattle.report_reader.{specs.declared.parts.Head.Head, specs.ReadingJournal.{accepted_at, add_at, drop_at, edit_at, edited_at, entries_at, journal_entry_at, event_at, flag_at, notes_at, pool_at, pool_cut_at, pool_line_at, pooled_at, set_at, too_much_at, two_names_at, reply_branches}, specs.ReadingPlan.{plan_at, plan_parts_at, routed_at, values_at}, specs.ReadingReport.{head_at, last_sections_at, separated_at, outcome_branches, outcomes_at, planned_at, report_at, section_at, sections_at, unsurvivable_at}}

-- ---- the notes

-- a reading that answers as branches do
record Chosen {X : Type 0} (r : Reading ReportKind X) : Type 0 where
  pub closing : Result X ReportKind
  pub branches : Branches X
  pub all : AllOnline branches
  pub same : (t : Text) → branch_or true closing branches t ≡ r t

chosen_online : {X : Type 0} (r : Reading ReportKind X) → Chosen r → IsOnline r
chosen_online r c = online_same (branch_or true c.closing c.branches) r c.same (online_branch true c.closing c.branches c.all)

-- a word that may come before such a reading is one branch more
flag_same : {X : Type 0} (w : List ℕ) (f : Bool → Reading ReportKind X) (c : Chosen (f false)) (t : Text) → branch_or true c.closing ((w, f true) ∷ c.branches) t ≡ (flag_at w >>= f) t
flag_same w f c (WordAt at v rest) =
    elim (are_same v w) as (λ s. cond s (f true rest) (branch_of true c.branches at v rest) ≡ after (ended_or {A = Read ReportKind Bool} (cond s (Some rest) None) (λ t. Ok (true, t)) (Ok (false, WordAt at v rest))) f) [
      | true ↦ refl
      | false ↦ c.same (WordAt at v rest)
    ]
flag_same w f c (OpenAt at rest) = c.same (OpenAt at rest)
flag_same w f c (CloseAt at rest) = c.same (CloseAt at rest)
flag_same w f c (EndAt at) = c.same (EndAt at)

flag_chosen : {X : Type 0} (w : List ℕ) (f : Bool → Reading ReportKind X) → ((b : Bool) → Chosen (f b)) → Chosen (flag_at w >>= f)
flag_chosen w f each = record { closing = (each false).closing; branches = (w, f true) ∷ (each false).branches; all = (chosen_online (f true) (each true), (each false).all); same = flag_same w f (each false) }

end_same : {X : Type 0} (x : X) (t : Text) → branch_or true (Ok x) [] t ≡ (closing_at >>= λ u. give x) t
end_same x (WordAt at w rest) = refl
end_same x (OpenAt at rest) = refl
end_same x (CloseAt at rest) = refl
end_same x (EndAt at) = refl

end_chosen : {X : Type 0} (x : X) → Chosen (closing_at >>= λ u. give x)
end_chosen x = record { closing = Ok x; branches = []; all = tt; same = end_same x }

pub notes_online : IsOnline notes_at
unfolding notes_at
notes_online = chosen_online _ (flag_chosen (codes "fixed") _ (λ fixed. flag_chosen (codes "routing") _ (λ routing. flag_chosen (codes "setup") _ (λ setup. end_chosen _))))

-- ---- the journal and the pool

pub set_online : (p : Places) → IsOnline (set_at p)
unfolding set_at
set_online p =
    online_then _ _ (online_word Token Ended _) (λ name.
    online_then _ _ (online_word Token Ended _) (λ need.
    online_give _))

pub two_names_online : IsOnline (two_names_at)
unfolding two_names_at
two_names_online =
    online_then _ _ (online_open Token Ended) (λ x.
    online_then _ _ (online_word Token Ended _) (λ from.
    online_then _ _ (online_word Token Ended _) (λ to.
    online_then _ _ (online_close Token Ended) (λ x.
    online_give _))))

pub add_online : (p : Places) → IsOnline (add_at p)
unfolding add_at
add_online p =
    online_then _ _ (online_word Token Ended _) (λ name.
    online_then _ _ (two_names_online) (λ ends.
    online_then _ _ (online_word Token Ended _) (λ need.
    online_give _)))

pub drop_online : IsOnline (drop_at)
unfolding drop_at
drop_online =
    online_then _ _ (online_word Token Ended _) (λ name.
    online_give _)

pub edit_online : (p : Places) → IsOnline (edit_at p)
edit_online p = online_branch true (Err Token) ((_, _) ∷ (_, _) ∷ (_, _) ∷ []) (set_online p, (add_online p, (drop_online, tt)))

pub accepted_online : IsOnline (accepted_at)
unfolding accepted_at
accepted_online =
    online_then _ _ (online_word Token Ended _) (λ version.
    online_give _)

pub too_much_online : (p : Places) → IsOnline (too_much_at p)
unfolding too_much_at
too_much_online p =
    online_then _ _ (online_word Token Ended _) (λ total.
    online_give _)

pub reply_online : (p : Places) → IsOnline (branch_at (reply_branches p))
reply_online p = online_branch true (Err Token) (reply_branches p) (accepted_online, (online_give _, (online_give _, (online_give _, (online_give _, (online_give _, (too_much_online p, tt)))))))

pub edited_online : (p : Places) → IsOnline (edited_at p)
unfolding edited_at
edited_online p =
    online_then _ _ (online_word Token Ended _) (λ caller.
    online_then _ _ (edit_online p) (λ edit.
    online_then _ _ (reply_online p) (λ reply.
    online_give _)))

pub pooled_online : IsOnline (pooled_at)
unfolding pooled_at
pooled_online =
    online_then _ _ (online_word Token Ended _) (λ index.
    online_give _)

pub event_online : (p : Places) → IsOnline (event_at p)
event_online p = online_branch true (Err Token) ((_, _) ∷ (_, _) ∷ []) (edited_online p, (pooled_online, tt))

pub entry_online : (p : Places) (sofar : List Entry) → IsOnline (journal_entry_at p sofar)
unfolding journal_entry_at
entry_online p sofar =
    online_then _ _ (opening_within_online (has_room 65536 sofar)) (λ x.
    online_then _ _ (online_word Token Ended _) (λ x.
    online_then _ _ (event_online p) (λ event.
    online_then _ _ (online_close Token Ended) (λ x.
    online_give _))))

pub entry_some : (p : Places) (sofar : List Entry) → TakesSome (journal_entry_at p sofar)
unfolding journal_entry_at
entry_some p sofar = takes_some (journal_entry_at p sofar) (entry_online p sofar) (λ t. Ended) (λ t. refl)

pub entries_online : (p : Places) → IsOnline (entries_at p)
entries_online p = online_list Parenthesis no_fault (journal_entry_at p) (entry_online p) (entry_some p) []

pub pool_line_online : (names : KnownNames) (sofar : List CutLine) → IsOnline (pool_line_at names sofar)
unfolding pool_line_at pool_cut_at
pool_line_online names sofar =
    online_then _ _ (opening_within_online (has_room 4096 sofar)) (λ x.
    online_then _ _ (online_word Token Ended _) (λ x.
    online_then _ _ (field_online (codes "state") 0 (length names.listed + 1)) (λ state.
    online_then _ _ (field_online (codes "right") 0 (2 ^ 84)) (λ right.
    online_then _ _ (numbers_online (length names.links) (2 ^ 32)) (λ lengths.
    online_then _ _ (online_close Token Ended) (λ x.
    online_give _))))))

pub pool_line_some : (names : KnownNames) (sofar : List CutLine) → TakesSome (pool_line_at names sofar)
unfolding pool_line_at
pool_line_some names sofar = takes_some (pool_line_at names sofar) (pool_line_online names sofar) (λ p. Ended) (λ p. refl)

pub pool_online : (names : KnownNames) → IsOnline (pool_at names)
pool_online names = online_list Parenthesis no_fault (pool_line_at names) (pool_line_online names) (pool_line_some names) []

-- ---- plans

pub values_online : (p : Places) → IsOnline (values_at p)
unfolding values_at
values_online p =
    online_then _ _ (online_word Token Ended _) (λ x.
    online_then _ _ (online_word Token Ended _) (λ cost.
    online_then _ _ (online_word Token Ended _) (λ x.
    online_then _ _ (online_word Token Ended _) (λ bound.
    online_then _ _ (field_online (codes "raw") 0 (2 ^ 126)) (λ num.
    online_then _ _ (online_word Token Ended _) (λ den.
    online_give _))))))

pub routed_online : (names : KnownNames) (demands : List Demand) → IsOnline (routed_at names demands)
unfolding routed_at
routed_online names demands =
    online_then _ _ (online_word Token Ended _) (λ x.
    online_then _ _ (routings_online names demands) (λ routings.
    online_then _ _ (quality_online names demands) (λ quality.
    online_give _)))

pub plan_parts_online : (names : KnownNames) (pool : List CutLine) (demands : List Demand) → IsOnline (plan_parts_at names pool demands)
unfolding plan_parts_at
plan_parts_online names pool demands =
    online_then _ _ (values_online names.places) (λ values.
    online_then _ _ (modules_online names.links) (λ counts.
    online_then _ _ (certificate_online names pool) (λ certificate.
    online_then _ _ (routed_online names demands) (λ routed.
    online_give _))))

pub plan_online : (names : KnownNames) (pool : List CutLine) (head : Head) → IsOnline (plan_at names pool head)
unfolding plan_at
plan_online names pool head =
    online_then _ _ (plan_demands_online names.places names.nodes) (λ demands.
    online_then _ _ (plan_parts_online names pool demands) (λ parts.
    online_give _))

pub head_online : IsOnline (head_at)
unfolding head_at
head_online =
    online_then _ _ (field_online (codes "caller") 1 9) (λ caller.
    online_then _ _ (field_online (codes "plan") 1 65) (λ serial.
    online_then _ _ (field_online (codes "version") 0 65537) (λ version.
    online_then _ _ (field_online (codes "position") 0 65537) (λ position.
    online_give _))))

pub planned_online : (names : KnownNames) (pool : List CutLine) → IsOnline (planned_at names pool)
unfolding planned_at
planned_online names pool =
    online_then _ _ (online_open Token Ended) (λ x.
    online_then _ _ (head_online) (λ head.
    online_then _ _ (plan_online names pool head) (λ plan.
    online_then _ _ (online_close Token Ended) (λ x.
    online_give _))))

pub unsurvivable_online : (listed : List Listed) → IsOnline (unsurvivable_at listed)
unfolding unsurvivable_at separated_at
unsurvivable_online listed =
    online_then _ _ (online_open Token Ended) (λ x.
    online_then _ _ (head_online) (λ head.
    online_then _ _ (field_online (codes "state") 0 (length listed + 1)) (λ state.
    online_then _ _ (online_word Token Ended _) (λ x.
    online_then _ _ (online_word Token Ended _) (λ x.
    online_then _ _ (online_word Token Ended _) (λ demand.
    online_then _ _ (online_close Token Ended) (λ x.
    online_give _)))))))

pub outcome_online : (names : KnownNames) (pool : List CutLine) (sofar : List Outcome) → IsOnline (branch_within (has_room 64 sofar) (outcome_branches names pool))
outcome_online names pool sofar = online_branch (has_room 64 sofar) (Err Token) (outcome_branches names pool) (planned_online names pool, (unsurvivable_online names.listed, tt))

pub outcome_some : (names : KnownNames) (pool : List CutLine) (sofar : List Outcome) → TakesSome (branch_within (has_room 64 sofar) (outcome_branches names pool))
outcome_some names pool sofar = column_some (has_room 64 sofar) (outcome_branches names pool) (planned_online names pool, (unsurvivable_online names.listed, tt))

pub outcomes_online : (names : KnownNames) (pool : List CutLine) → IsOnline (outcomes_at names pool)
outcomes_online names pool = online_list Parenthesis no_fault (λ sofar. branch_within (has_room 64 sofar) (outcome_branches names pool)) (outcome_online names pool) (outcome_some names pool) []

pub section_online : (w : List ℕ) → IsOnline (section_at w)
unfolding section_at
section_online w = online_then _ _ (online_word Section Ended _) (λ x. online_open Section Ended)

pub sections_online : (names : KnownNames) → IsOnline (sections_at names)
unfolding sections_at last_sections_at
sections_online names =
    online_then _ _ (section_online (codes "NOTES")) (λ x.
    online_then _ _ (notes_online) (λ notes.
    online_then _ _ (section_online (codes "JOURNAL")) (λ x.
    online_then _ _ (entries_online names.places) (λ entries.
    online_then _ _ (section_online (codes "POOL")) (λ x.
    online_then _ _ (pool_online names) (λ pool.
    online_then _ _ (section_online (codes "OUTCOMES")) (λ x.
    online_then _ _ (outcomes_online names pool) (λ outcomes.
    online_give _))))))))

pub report_online : (names : KnownNames) → IsOnline (report_at names)
report_online names = online_whole Section (sections_at names) (sections_online names)
