-- What a word of a script says, and which words say it.
use Rattle.std.proofs.Common.{◌≡◌, ℕ, ◌<◌, ◌≤◌, ◌&&◌, Bool, true, false, cond, nat_lt, List, length, Result, Ok, Err, refl, ap, subst, ◌∙◌, arith, count_by, codes, ltb-true, lt-ltb}
use Rattle.net_core.{proofs.Library.{and_parts, same_is}, specs.Terms.are_same}
use Rattle.snd_tokens.{specs.declared.whole_number.WholeFault.WholeFault, specs.Terms.whole_of}
use Rattle.text_kit.proofs.Lemmas.{if_ok, ok_is}
use Rattle.session_script.{specs.declared.fault.ScriptKind.ScriptKind, specs.declared.fault.ScriptKind.TheVariants.{Token, Caller, LimitCommands, LimitPlans}, specs.declared.script.Command.Command, specs.declared.script.Verb.Verb, specs.Scripts.is_plan, specs.ScriptReading.{begun_command, caller_within, caller_of, verb_of, verb_within, verb_after}}
use Rattle.session_script.specs.declared.script.Verb.TheVariants as verbs

-- ---- the word of a command

pub begun_takes : (sofar : List Command) (w : List ℕ) (x : Unit {0}) → begun_command sofar w ≡ Ok x → (length sofar < 1000) × (w ≡ codes "caller")
begun_takes sofar w x e =
    let a = if_ok (are_same w (codes "caller")) Token (cond (nat_lt (length sofar) 1000) (Ok tt) (Err LimitCommands)) x e in
    let b = if_ok (nat_lt (length sofar) 1000) LimitCommands (Ok tt) x a.1 in
    (ltb-true (length sofar) 1000 b.0, same_is w (codes "caller") a.0)

pub begun_again : (sofar : List Command) (w : List ℕ) (x : Unit {0}) → length sofar < 1000 → w ≡ codes "caller" → begun_command sofar w ≡ Ok x
begun_again sofar w x few same = ap (begun_command sofar) same ∙ rw (lt-ltb (length sofar) 1000 few) refl

-- ---- callers

-- a caller's number
abbrev pub IsCallerNumber : ℕ → Type 0
IsCallerNumber n = (1 ≤ n) × (n ≤ 8)

within_takes : (r : Result ℕ WholeFault) (n : ℕ) → caller_within r ≡ Ok n → IsCallerNumber n × (r ≡ Ok n)
within_takes (Ok k) n e =
    let a = if_ok (nat_lt 0 k && nat_lt k 9) Caller (Ok k) n e in
    let b = and_parts (nat_lt 0 k) (nat_lt k 9) a.0 in
    let is : k ≡ n = ok_is {E = ScriptKind} k n a.1 in
    let low = ltb-true 0 k b.0 in
    let high = ltb-true k 9 b.1 in
    (subst IsCallerNumber is (omega (arith, low), omega (arith, high)), ap (λ (i : ℕ). Ok i) is)
within_takes (Err f) n e = absurd cc

pub caller_takes : (w : List ℕ) (n : ℕ) → caller_of w ≡ Ok n → IsCallerNumber n × (whole_of w ≡ Ok n)
caller_takes w n e = within_takes (whole_of w) n e

pub caller_again : (w : List ℕ) (n : ℕ) → IsCallerNumber n → whole_of w ≡ Ok n → caller_of w ≡ Ok n
caller_again w n is same =
    let low : 0 < n = omega (arith, is.0) in
    let high : n < 9 = omega (arith, is.1) in
    ap caller_within same ∙ rw (lt-ltb 0 n low, lt-ltb n 9 high) refl

-- ---- what is asked for

-- the word for it
abbrev pub verb_word : Verb → List ℕ
verb_word verbs.Set = codes "set"
verb_word verbs.Add = codes "add"
verb_word verbs.Drop = codes "drop"
verb_word verbs.Plan = codes "plan"

-- fewer than 64 plans were asked for before a further one
abbrev pub HasRoom : List Command → Verb → Type 0
HasRoom sofar verbs.Plan = count_by is_plan sofar < 64
HasRoom sofar verbs.Set = Unit {0}
HasRoom sofar verbs.Add = Unit {0}
HasRoom sofar verbs.Drop = Unit {0}

verb_if : (w : List ℕ) (set add drop plan : Bool) (v : Verb) → are_same w (codes "set") ≡ set → are_same w (codes "add") ≡ add → are_same w (codes "drop") ≡ drop → are_same w (codes "plan") ≡ plan
    → (let r : Result Verb ScriptKind = cond set (Ok verbs.Set) (cond add (Ok verbs.Add) (cond drop (Ok verbs.Drop) (cond plan (Ok verbs.Plan) (Err Token)))) in r ≡ Ok v) → w ≡ verb_word v
verb_if w true add drop plan v s a d p e = same_is w (codes "set") s ∙ ap verb_word (ok_is {E = ScriptKind} verbs.Set v e)
verb_if w false true drop plan v s a d p e = same_is w (codes "add") a ∙ ap verb_word (ok_is {E = ScriptKind} verbs.Add v e)
verb_if w false false true plan v s a d p e = same_is w (codes "drop") d ∙ ap verb_word (ok_is {E = ScriptKind} verbs.Drop v e)
verb_if w false false false true v s a d p e = same_is w (codes "plan") p ∙ ap verb_word (ok_is {E = ScriptKind} verbs.Plan v e)
verb_if w false false false false v s a d p e = absurd cc

word_is : (w : List ℕ) (v : Verb) → verb_of w ≡ Ok v → w ≡ verb_word v
word_is w v e = verb_if w (are_same w (codes "set")) (are_same w (codes "add")) (are_same w (codes "drop")) (are_same w (codes "plan")) v refl refl refl refl e

word_again : (v : Verb) → verb_of (verb_word v) ≡ Ok v
word_again verbs.Set = refl
word_again verbs.Add = refl
word_again verbs.Drop = refl
word_again verbs.Plan = refl

room_takes : (sofar : List Command) (r : Result Verb ScriptKind) (v : Verb) → verb_within (nat_lt (count_by is_plan sofar) 64) r ≡ Ok v → HasRoom sofar v × (r ≡ Ok v)
room_takes sofar (Ok verbs.Plan) v e =
    let a = if_ok (nat_lt (count_by is_plan sofar) 64) LimitPlans (Ok verbs.Plan) v e in
    (subst (HasRoom sofar) (ok_is {E = ScriptKind} verbs.Plan v a.1) (ltb-true (count_by is_plan sofar) 64 a.0), a.1)
room_takes sofar (Ok verbs.Set) v e = (subst (HasRoom sofar) (ok_is {E = ScriptKind} verbs.Set v e) tt, e)
room_takes sofar (Ok verbs.Add) v e = (subst (HasRoom sofar) (ok_is {E = ScriptKind} verbs.Add v e) tt, e)
room_takes sofar (Ok verbs.Drop) v e = (subst (HasRoom sofar) (ok_is {E = ScriptKind} verbs.Drop v e) tt, e)
room_takes sofar (Err k) v e = absurd cc

room_again : (sofar : List Command) (v : Verb) → HasRoom sofar v → verb_within (nat_lt (count_by is_plan sofar) 64) (Ok v) ≡ Ok v
room_again sofar verbs.Plan room = rw (lt-ltb (count_by is_plan sofar) 64 room) refl
room_again sofar verbs.Set room = refl
room_again sofar verbs.Add room = refl
room_again sofar verbs.Drop room = refl

pub verb_takes : (sofar : List Command) (w : List ℕ) (v : Verb) → verb_after sofar w ≡ Ok v → HasRoom sofar v × (w ≡ verb_word v)
verb_takes sofar w v e = let r = room_takes sofar (verb_of w) v e in (r.0, word_is w v r.1)

pub verb_again : (sofar : List Command) (w : List ℕ) (v : Verb) → HasRoom sofar v → w ≡ verb_word v → verb_after sofar w ≡ Ok v
verb_again sofar w v room same =
    ap (verb_after sofar) same ∙ (ap (verb_within (nat_lt (count_by is_plan sofar) 64)) (word_again v) ∙ room_again sofar v room)
