-- The reading of a script takes exactly the texts of scripts.
use Rattle.std.proofs.Common.{◌≡◌, ℕ, ◌+◌, ◌^◌, ◌<◌, ◌≤◌, true, cond, List, [], ◌∷◌, ◌++◌, length, Result, Ok, IfOk, IfErr, refl, sym, ap, subst, ◌∙◌, arith, append-nil, append_assoc, count_by, codes, flat_map}
use Rattle.net_core.{proofs.Library.sum_by-append, specs.Terms.are_same, specs.declared.places.Places.Places}
use Rattle.snd_tokens.specs.Terms.{first_line, trimmed, Text, EndAt}
use Rattle.text_kit.{specs.Terms.{AnswersAs, ReadsAllAs, IsNotTooEarly, body, ComeAfter, Item, Verbatim, Whole, Money, Opening, Closing, word_at, TheEnd, list_at, no_fault, any_name}, specs.declared.refusal.Refusal.Refusal, proofs.Lemmas.{lawful_amount, lawful_any_name, all_after, after_all, after_as, after_both, answer_found, answer_only, answer_first, file_read, AnyText, IsEnd, Lawful, after_few, few_after, lawful_as, lawful_close, lawful_give, lawful_list, lawful_open, lawful_then, lawful_word, IsOnline, TakesSome, online_close, online_give, online_list, online_open, online_then, online_word, takes_some}}
use Rattle.session_script.{specs.declared.fault.ScriptKind.ScriptKind, specs.declared.fault.ScriptKind.TheVariants.{Header, Token, Ended, LimitName, Number}, specs.declared.script.Act.Act, specs.declared.script.Act.TheVariants.{Change, Plan}, specs.declared.script.Command.Command, specs.declared.script.Script.Script, specs.declared.script.Verb.Verb, specs.Scripts.{IsActInForm, IsCommandInForm, IsScript, SpellsScript, act_items, command_items, is_plan, script_header, script_of_commands}, specs.ScriptReading.{act_at, begun_command, caller_of, command_at, need_in_script, script_of, verb_after}, proofs.ScriptWords.{HasRoom, IsCallerNumber, begun_again, begun_takes, caller_again, caller_takes, verb_again, verb_takes, verb_word}}
use Rattle.net_core.specs.declared.journal.Edit.TheVariants as edits
use Rattle.session_script.specs.declared.script.Verb.TheVariants as verbs

-- ---- words

begun_lawful : (sofar : List Command) → Lawful (word_at Token Ended (begun_command sofar)) (λ x. Verbatim (codes "caller") ∷ []) (λ x. length sofar < 1000) AnyText
begun_lawful sofar = lawful_word Token Ended (begun_command sofar) (λ x. Verbatim (codes "caller")) (λ x. length sofar < 1000) (λ x. tt) (begun_takes sofar) (begun_again sofar)

caller_lawful : Lawful (word_at Token Ended caller_of) (λ n. Whole n ∷ []) IsCallerNumber AnyText
caller_lawful = lawful_word Token Ended caller_of (λ n. Whole n) IsCallerNumber (λ n. tt) caller_takes (λ w n is same. caller_again w n is same)

verb_lawful : (sofar : List Command) → Lawful (word_at Token Ended (verb_after sofar)) (λ v. Verbatim (verb_word v) ∷ []) (HasRoom sofar) AnyText
verb_lawful sofar = lawful_word Token Ended (verb_after sofar) (λ v. Verbatim (verb_word v)) (HasRoom sofar) (λ v. tt) (verb_takes sofar) (verb_again sofar)

name_lawful : Lawful (word_at Token Ended (any_name LimitName)) (λ n. Verbatim n ∷ []) (λ n. length n ≤ 255) AnyText
name_lawful = lawful_any_name Token Ended LimitName

need_lawful : (p : Places) → Lawful (word_at Token Ended (need_in_script p)) (λ n. Money p n ∷ []) (λ n. n < 2 ^ 40) AnyText
need_lawful p = lawful_amount Token Ended Number p

-- ---- acts

-- the word of what is asked for, and what comes after it
abbrev verb_for : Act → Verb
verb_for (Change (edits.Set name need)) = verbs.Set
verb_for (Change (edits.Add name from to need)) = verbs.Add
verb_for (Change (edits.Drop name)) = verbs.Drop
verb_for Plan = verbs.Plan

abbrev items_after : Places → Act → List Item
items_after p (Change (edits.Set name need)) = Verbatim name ∷ Money p need ∷ []
items_after p (Change (edits.Add name from to need)) = Verbatim name ∷ Opening ∷ Verbatim from ∷ Verbatim to ∷ Closing ∷ Money p need ∷ []
items_after p (Change (edits.Drop name)) = Verbatim name ∷ []
items_after p Plan = []

all_items : (p : Places) (a : Act) → Verbatim (verb_word (verb_for a)) ∷ items_after p a ≡ act_items p a
all_items p (Change (edits.Set name need)) = refl
all_items p (Change (edits.Add name from to need)) = refl
all_items p (Change (edits.Drop name)) = refl
all_items p Plan = refl

-- the parts of an edit
abbrev name_part : Act → List ℕ
name_part (Change (edits.Set name need)) = name
name_part (Change (edits.Add name from to need)) = name
name_part (Change (edits.Drop name)) = name
name_part Plan = []

abbrev from_part : Act → List ℕ
from_part (Change (edits.Set name need)) = []
from_part (Change (edits.Add name from to need)) = from
from_part (Change (edits.Drop name)) = []
from_part Plan = []

abbrev to_part : Act → List ℕ
to_part (Change (edits.Set name need)) = []
to_part (Change (edits.Add name from to need)) = to
to_part (Change (edits.Drop name)) = []
to_part Plan = []

abbrev need_part : Act → ℕ
need_part (Change (edits.Set name need)) = need
need_part (Change (edits.Add name from to need)) = need
need_part (Change (edits.Drop name)) = 0
need_part Plan = 0

-- what a word asks for, in form
abbrev IsOf : Verb → Act → Type 0
IsOf v a = (v ≡ verb_for a) × IsActInForm a

-- what was read after each word
abbrev WasSet : Act → Type 0
WasSet a = (length (name_part a) ≤ 255) × ((need_part a < 2 ^ 40) × (Change (edits.Set (name_part a) (need_part a)) ≡ a))

abbrev WasAdd : Act → Type 0
WasAdd a = (length (name_part a) ≤ 255) × (Unit {0} × ((length (from_part a) ≤ 255) × ((length (to_part a) ≤ 255) × (Unit {0} × ((need_part a < 2 ^ 40) × (Change (edits.Add (name_part a) (from_part a) (to_part a) (need_part a)) ≡ a))))))

abbrev WasDrop : Act → Type 0
WasDrop a = (length (name_part a) ≤ 255) × (Change (edits.Drop (name_part a)) ≡ a)

was_set : (a : Act) → IsOf verbs.Set a → WasSet a
was_set (Change (edits.Set name need)) h = (h.1.0, (h.1.1, refl))
was_set (Change (edits.Add name from to need)) h = absurd (let e : verbs.Set ≡ verbs.Add = h.0 in cc)
was_set (Change (edits.Drop name)) h = absurd (let e : verbs.Set ≡ verbs.Drop = h.0 in cc)
was_set Plan h = absurd (let e : verbs.Set ≡ verbs.Plan = h.0 in cc)

was_add : (a : Act) → IsOf verbs.Add a → WasAdd a
was_add (Change (edits.Set name need)) h = absurd (let e : verbs.Add ≡ verbs.Set = h.0 in cc)
was_add (Change (edits.Add name from to need)) h = (h.1.0, (tt, (h.1.1, (h.1.2, (tt, (h.1.3, refl))))))
was_add (Change (edits.Drop name)) h = absurd (let e : verbs.Add ≡ verbs.Drop = h.0 in cc)
was_add Plan h = absurd (let e : verbs.Add ≡ verbs.Plan = h.0 in cc)

was_drop : (a : Act) → IsOf verbs.Drop a → WasDrop a
was_drop (Change (edits.Set name need)) h = absurd (let e : verbs.Drop ≡ verbs.Set = h.0 in cc)
was_drop (Change (edits.Add name from to need)) h = absurd (let e : verbs.Drop ≡ verbs.Add = h.0 in cc)
was_drop (Change (edits.Drop name)) h = (h.1, refl)
was_drop Plan h = absurd (let e : verbs.Drop ≡ verbs.Plan = h.0 in cc)

was_plan : (a : Act) → IsOf verbs.Plan a → Plan ≡ a
was_plan (Change (edits.Set name need)) h = absurd (let e : verbs.Plan ≡ verbs.Set = h.0 in cc)
was_plan (Change (edits.Add name from to need)) h = absurd (let e : verbs.Plan ≡ verbs.Add = h.0 in cc)
was_plan (Change (edits.Drop name)) h = absurd (let e : verbs.Plan ≡ verbs.Drop = h.0 in cc)
was_plan Plan h = refl

act_lawful : (p : Places) (v : Verb) → Lawful (act_at p v) (items_after p) (IsOf v) AnyText
unfolding act_at
act_lawful p verbs.Set = lawful_as (act_at p verbs.Set) _ (items_after p) WasSet (IsOf verbs.Set) AnyText
    (λ a h. ap (items_after p) h.1.1) (λ a h. subst (IsOf verbs.Set) h.1.1 (refl, (h.0, h.1.0))) was_set
    (lawful_then _ _ _ _ _ _ AnyText name_part (λ n a h. ap name_part h.1) name_lawful (λ name.
    lawful_then _ _ _ _ _ _ AnyText need_part (λ n a h. ap need_part h) (need_lawful p) (λ need.
    lawful_give (Change (edits.Set name need)))))
act_lawful p verbs.Add = lawful_as (act_at p verbs.Add) _ (items_after p) WasAdd (IsOf verbs.Add) AnyText
    (λ a h. ap (items_after p) h.1.1.1.1.1.1) (λ a h. subst (IsOf verbs.Add) h.1.1.1.1.1.1 (refl, (h.0, h.1.1.0, h.1.1.1.0, h.1.1.1.1.1.0))) was_add
    (lawful_then _ _ _ _ _ _ AnyText name_part (λ n a h. ap name_part h.1.1.1.1.1) name_lawful (λ name.
    lawful_then _ _ _ _ _ _ AnyText (λ a. tt) (λ x a h. refl) (lawful_open Token Ended) (λ o.
    lawful_then _ _ _ _ _ _ AnyText from_part (λ n a h. ap from_part h.1.1.1) name_lawful (λ from.
    lawful_then _ _ _ _ _ _ AnyText to_part (λ n a h. ap to_part h.1.1) name_lawful (λ to.
    lawful_then _ _ _ _ _ _ AnyText (λ a. tt) (λ x a h. refl) (lawful_close Token Ended) (λ c.
    lawful_then _ _ _ _ _ _ AnyText need_part (λ n a h. ap need_part h) (need_lawful p) (λ need.
    lawful_give (Change (edits.Add name from to need)))))))))
act_lawful p verbs.Drop = lawful_as (act_at p verbs.Drop) _ (items_after p) WasDrop (IsOf verbs.Drop) AnyText
    (λ a h. ap (items_after p) h.1) (λ a h. subst (IsOf verbs.Drop) h.1 (refl, h.0)) was_drop
    (lawful_then _ _ _ _ _ _ AnyText name_part (λ n a h. ap name_part h) name_lawful (λ name.
    lawful_give (Change (edits.Drop name))))
act_lawful p verbs.Plan = lawful_as (act_at p verbs.Plan) _ (items_after p) _ (IsOf verbs.Plan) AnyText
    (λ a e. ap (items_after p) e) (λ a e. subst (IsOf verbs.Plan) e (refl, tt)) was_plan (lawful_give Plan)

-- ---- commands

-- a command that may come after earlier ones
abbrev IsCommandAfter : List Command → Command → Type 0
IsCommandAfter sofar c = (length sofar < 1000) × (IsCallerNumber c.caller × (HasRoom sofar (verb_for c.act) × IsActInForm c.act))

command_lawful : (p : Places) (sofar : List Command) → Lawful (command_at p sofar) (command_items p) (IsCommandAfter sofar) AnyText
unfolding command_at
command_lawful p sofar = lawful_as (command_at p sofar) _ (command_items p) _ (IsCommandAfter sofar) AnyText
    (λ c h. ap (λ (is : List Item). Verbatim (codes "caller") ∷ Whole c.caller ∷ is) (ap (λ (is : List Item). Verbatim (verb_word (verb_for c.act)) ∷ is) (append-nil (items_after p c.act)) ∙ all_items p c.act))
    (λ c h. (h.0, (h.1.0, (h.1.1.0, h.1.1.1.0.1))))
    (λ c h. (h.0, (h.1.0, (h.1.1.0, ((refl, h.1.1.1), refl)))))
    (lawful_then _ _ _ _ _ _ AnyText (λ c. tt) (λ x c h. refl) (begun_lawful sofar) (λ x.
    lawful_then _ _ _ _ _ _ AnyText (λ c. c.caller) (λ n c h. ap (λ (x : Command). x.caller) h.1.1) caller_lawful (λ caller.
    lawful_then _ _ _ _ _ _ AnyText (λ c. verb_for c.act) (λ v c h. h.0.0) (verb_lawful sofar) (λ verb.
    lawful_then _ _ _ _ _ _ AnyText (λ c. c.act) (λ a c h. ap (λ (x : Command). x.act) h) (act_lawful p verb) (λ act.
    lawful_give (record { caller = caller; act = act }))))))

-- ---- how many ask for a plan

abbrev plans : List Command → ℕ
plans commands = count_by is_plan commands

plans_both : (xs ys : List Command) → plans (xs ++ ys) ≡ plans xs + plans ys
plans_both xs ys = sum_by-append (λ c. cond (is_plan c) 1 0) xs ys

plan_room : (sofar : List Command) (caller : ℕ) (act : Act) → HasRoom sofar (verb_for act) → plans sofar ≤ 64 → plans (sofar ++ record { caller = caller; act = act } ∷ []) ≤ 64
plan_room sofar caller (Change (edits.Set name need)) room le = omega (arith, le, plans_both sofar (record { caller = caller; act = Change (edits.Set name need) } ∷ []))
plan_room sofar caller (Change (edits.Add name from to need)) room le = omega (arith, le, plans_both sofar (record { caller = caller; act = Change (edits.Add name from to need) } ∷ []))
plan_room sofar caller (Change (edits.Drop name)) room le = omega (arith, le, plans_both sofar (record { caller = caller; act = Change (edits.Drop name) } ∷ []))
plan_room sofar caller Plan room le = let r : plans sofar < 64 = room in omega (arith, r, plans_both sofar (record { caller = caller; act = Plan } ∷ []))

room_left : (sofar : List Command) (caller : ℕ) (act : Act) → plans (sofar ++ record { caller = caller; act = act } ∷ []) ≤ 64 → HasRoom sofar (verb_for act)
room_left sofar caller (Change (edits.Set name need)) le = tt
room_left sofar caller (Change (edits.Add name from to need)) le = tt
room_left sofar caller (Change (edits.Drop name)) le = tt
room_left sofar caller Plan le = omega (arith, le, plans_both sofar (record { caller = caller; act = Plan } ∷ []))

plans_more : (sofar cs : List Command) → plans sofar ≤ 64 → ComeAfter (λ before c. HasRoom before (verb_for c.act)) sofar cs → plans (sofar ++ cs) ≤ 64
plans_more sofar [] le all = subst (λ (xs : List Command). plans xs ≤ 64) (sym (append-nil sofar)) le
plans_more sofar (c ∷ cs) le all =
    subst (λ (xs : List Command). plans xs ≤ 64) (append_assoc sofar (c ∷ []) cs)
    (plans_more (sofar ++ c ∷ []) cs (plan_room sofar c.caller c.act all.0 le) all.1)

more_plans : (sofar cs : List Command) → plans (sofar ++ cs) ≤ 64 → ComeAfter (λ before c. HasRoom before (verb_for c.act)) sofar cs
more_plans sofar [] le = tt
more_plans sofar (c ∷ cs) le =
    let all : plans ((sofar ++ c ∷ []) ++ cs) ≤ 64 = subst (λ (xs : List Command). plans xs ≤ 64) (sym (append_assoc sofar (c ∷ []) cs)) le in
    (room_left sofar c.caller c.act (omega (arith, all, plans_both (sofar ++ c ∷ []) cs)), more_plans (sofar ++ c ∷ []) cs all)

-- ---- scripts

is_script : (cs : List Command) → ComeAfter IsCommandAfter [] cs → IsScript cs
is_script cs all = record {
  few = (few_after 1000 (λ before c. Unit {0}) [] cs (omega arith) (after_as IsCommandAfter (λ before c. (length before < 1000) × Unit {0}) [] cs (λ before c h. (h.0, tt)) all)).0;
  plans = plans_more [] cs (omega arith) (after_as IsCommandAfter (λ before c. HasRoom before (verb_for c.act)) [] cs (λ before c h. h.1.1.0) all);
  each = after_all IsCommandInForm [] cs (after_as IsCommandAfter (λ before c. IsCommandInForm c) [] cs (λ before c h. record { some = h.1.0.0; most = h.1.0.1; act = h.1.1.1 }) all);
}

are_commands : (cs : List Command) → IsScript cs → ComeAfter IsCommandAfter [] cs
are_commands cs is =
    after_as _ IsCommandAfter [] cs (λ before c h. (h.0.0, ((h.1.1.some, h.1.1.most), (h.1.0, h.1.1.act))))
    (after_both (λ before c. (length before < 1000) × Unit {0}) (λ before c. HasRoom before (verb_for c.act) × IsCommandInForm c) [] cs
    (after_few 1000 (λ before c. Unit {0}) [] cs is.few (all_after (λ c. Unit {0}) [] cs (λ k d lt. tt)))
    (after_both (λ before c. HasRoom before (verb_for c.act)) (λ before c. IsCommandInForm c) [] cs (more_plans [] cs is.plans) (all_after IsCommandInForm [] cs is.each)))

commands_lawful : (p : Places) → Lawful (list_at TheEnd no_fault (command_at p) []) (λ cs. flat_map (command_items p) cs) IsScript IsEnd
commands_lawful p = lawful_as (list_at TheEnd no_fault (command_at p) []) _ (λ cs. flat_map (command_items p) cs) _ IsScript IsEnd (λ cs h. append-nil (flat_map (command_items p) cs)) (λ cs h. is_script cs h.1) (λ cs h. (refl, are_commands cs h))
    (lawful_list TheEnd no_fault (command_at p) (command_items p) IsCommandAfter (λ c. tt) (command_lawful p))

-- ---- a fault is at the place where it is met

act_online : (p : Places) (v : Verb) → IsOnline (act_at p v)
unfolding act_at
act_online p verbs.Set =
    online_then _ _ (online_word Token Ended (any_name LimitName)) (λ name.
    online_then _ _ (online_word Token Ended (need_in_script p)) (λ need.
    online_give (Change (edits.Set name need))))
act_online p verbs.Add =
    online_then _ _ (online_word Token Ended (any_name LimitName)) (λ name.
    online_then _ _ (online_open Token Ended) (λ o.
    online_then _ _ (online_word Token Ended (any_name LimitName)) (λ from.
    online_then _ _ (online_word Token Ended (any_name LimitName)) (λ to.
    online_then _ _ (online_close Token Ended) (λ c.
    online_then _ _ (online_word Token Ended (need_in_script p)) (λ need.
    online_give (Change (edits.Add name from to need))))))))
act_online p verbs.Drop =
    online_then _ _ (online_word Token Ended (any_name LimitName)) (λ name.
    online_give (Change (edits.Drop name)))
act_online p verbs.Plan = online_give Plan

command_online : (p : Places) (sofar : List Command) → IsOnline (command_at p sofar)
unfolding command_at
command_online p sofar =
    online_then _ _ (online_word Token Ended (begun_command sofar)) (λ x.
    online_then _ _ (online_word Token Ended caller_of) (λ caller.
    online_then _ _ (online_word Token Ended (verb_after sofar)) (λ verb.
    online_then _ _ (act_online p verb) (λ act.
    online_give (record { caller = caller; act = act })))))

pub command_some : (p : Places) (sofar : List Command) → TakesSome (command_at p sofar)
unfolding command_at
command_some p sofar = takes_some (command_at p sofar) (command_online p sofar) (λ p. Ended) (λ p. refl)

-- ---- whole files

pub script_read : (p : Places) (bytes : List ℕ) (cs : List Command) (rest : Text) → are_same (trimmed (first_line bytes)) script_header ≡ true → list_at TheEnd no_fault (command_at p) [] (body bytes) ≡ Ok (cs, rest) → (at : ℕ) × (script_of p bytes ≡ Ok (script_of_commands cs, EndAt at))
script_read p bytes cs rest line read = file_read Header script_header (list_at TheEnd no_fault (command_at p) []) script_of_commands (λ xs. flat_map (command_items p) xs) IsScript (commands_lawful p) bytes cs rest line read

pub script_found : (p : Places) (bytes : List ℕ) (a : Result Script (Refusal ScriptKind)) → ReadsAllAs (λ s. s) a (script_of p bytes) → IfOk a (λ s. SpellsScript p bytes s)
script_found p bytes a h = answer_found Header script_header (list_at TheEnd no_fault (command_at p) []) script_of_commands (λ xs. flat_map (command_items p) xs) IsScript (commands_lawful p) (λ s. s) bytes a h

pub script_only : (p : Places) (bytes : List ℕ) (a : Result Script (Refusal ScriptKind)) → ReadsAllAs (λ s. s) a (script_of p bytes) → (s : Script) → SpellsScript p bytes s → AnswersAs (λ x. x) a s
script_only p bytes a h = answer_only Header script_header (list_at TheEnd no_fault (command_at p) []) script_of_commands (λ xs. flat_map (command_items p) xs) IsScript (commands_lawful p) (λ s. s) bytes a h

pub script_first : (p : Places) (bytes : List ℕ) (a : Result Script (Refusal ScriptKind)) → ReadsAllAs (λ s. s) a (script_of p bytes) → IfErr a (IsNotTooEarly (SpellsScript p) bytes)
script_first p bytes a h = answer_first Header script_header (list_at TheEnd no_fault (command_at p) []) script_of_commands (λ xs. flat_map (command_items p) xs) IsScript (commands_lawful p) (λ s. s)
    (online_list TheEnd no_fault (command_at p) (command_online p) (command_some p) []) bytes a h
