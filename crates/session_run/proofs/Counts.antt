-- how many entries the journal of a transcript has: no more than there are commands and lines of the pool
use Rattle.std.proofs.Common.{◌≡◌, ◌≢◌, ◌∙◌, ℕ, zero, suc, ◌+◌, ◌<◌, ◌≤◌, ◌==◌, ◌++◌, Bool, true, false, List, [], ◌∷◌, flat_map, if◌then◌else◌, length, refl, sym, ap, arith, ⊎_elim, eq-eqb, ne_eqb}
use Rattle.net_core.proofs.Library.{∥∥₁_elim, props, cases_eq, length-map}
use Rattle.plan_terms.specs.Terms.{Edit, Entry, Edited, Pooled, Notes, Case}
use Rattle.plan_types.specs.declared.report.Report.{Report}
use Rattle.cut_pool.specs.Terms.{cut_of_line, cuts_of}
use Rattle.session_script.{specs.declared.script.Act.Act, specs.declared.script.Command.Command}
use Rattle.session_run.specs.Transcripts.{IsTranscript, acts_of, edit_asked, edit_made}
use Rattle.session_script.specs.declared.script.Act.TheVariants as acts

-- ---- sums over callers

-- added up over the callers below n
abbrev total : ℕ → (ℕ → ℕ) → ℕ
total zero f = 0
total (suc n) f = f n + total n f

total_none : (n : ℕ) → total n (λ c. 0) ≡ 0
total_none zero = refl
total_none (suc n) = let rest = total_none n in omega (arith, rest)

total_le : (n : ℕ) (f g : ℕ → ℕ) → ((c : ℕ) → f c ≤ g c) → total n f ≤ total n g
total_le zero f g each = omega arith
total_le (suc n) f g each = let here = each n in let rest = total_le n f g each in omega (arith, here, rest)

total_both : (n : ℕ) (f g : ℕ → ℕ) → total n (λ c. f c + g c) ≡ total n f + total n g
total_both zero f g = refl
total_both (suc n) f g = let rest = total_both n f g in omega (arith, rest)

-- 1 for one caller, and 0 for each other
abbrev own : ℕ → ℕ → ℕ
own caller c = if caller == c then 1 else 0

own_same : (caller n : ℕ) → caller ≡ n → own caller n ≡ 1
own_same caller n same = ap (λ b. if b then 1 else 0) (eq-eqb caller n same)

own_other : (caller n : ℕ) → caller ≢ n → own caller n ≡ 0
own_other caller n other = ap (λ b. if b then 1 else 0) (ne_eqb caller n other)

own_none : (caller n : ℕ) → n ≤ caller → total n (own caller) ≡ 0
own_none caller zero le = refl
own_none caller (suc n) le =
    let here = own_other caller n (λ same. omega (arith, le, same)) in
    let rest = own_none caller n (omega (arith, le)) in
    omega (arith, here, rest)

own_most : (caller n : ℕ) → total n (own caller) ≤ 1
own_most caller zero = omega arith
own_most caller (suc n) = ⊎_elim
    (λ same. let here = own_same caller n same in let rest = own_none caller n (omega (arith, same)) in omega (arith, here, rest))
    (λ other. let here = own_other caller n other in let rest = own_most caller n in omega (arith, here, rest))
    (cases_eq caller n)

own_least : (caller n : ℕ) → caller < n → 1 ≤ total n (own caller)
own_least caller zero lt = absurd (omega (arith, lt))
own_least caller (suc n) lt = ⊎_elim
    (λ same. let here = own_same caller n same in omega (arith, here))
    (λ other. let here = own_other caller n other in let rest = own_least caller n (omega (arith, lt, other)) in omega (arith, here, rest))
    (cases_eq caller n)

-- ---- the edits of a journal

abbrev edits : List Entry → ℕ
edits [] = 0
edits (Edited by edit reply ∷ es) = 1 + edits es
edits (Pooled index state lengths ∷ es) = edits es

-- above the callers of all edits
abbrev above : List Entry → ℕ
above [] = 0
above (Edited by edit reply ∷ es) = by + 1 + above es
above (Pooled index state lengths ∷ es) = above es

-- each entry is an edit or pools a cut
all_entries : (es : List Entry) → length es ≡ edits es + length (cuts_of es)
all_entries [] = refl
all_entries (Edited by edit reply ∷ es) = let rest = all_entries es in omega (arith, rest)
all_entries (Pooled index state lengths ∷ es) = let rest = all_entries es in omega (arith, rest)

one_made : (b : Bool) (edit : Edit) (made : List Edit) → (if b then 1 else 0) + length made ≤ length ((if b then edit ∷ [] else []) ++ made)
one_made true edit made = omega arith
one_made false edit made = omega arith

-- each edit is some caller's
made_total : (es : List Entry) (n : ℕ) → above es ≤ n → edits es ≤ total n (λ c. length (flat_map (edit_made c) es))
made_total [] n le = omega arith
made_total (Edited by edit reply ∷ es) n le =
    let rest = made_total es n (omega (arith, le)) in
    let both = total_both n (own by) (λ c. length (flat_map (edit_made c) es)) in
    let some = own_least by n (omega (arith, le)) in
    let each = total_le n (λ c. own by c + length (flat_map (edit_made c) es)) (λ c. length (flat_map (edit_made c) (Edited by edit reply ∷ es)))
    (λ c. one_made (by == c) edit (flat_map (edit_made c) es)) in
    omega (arith, rest, both, some, each)
made_total (Pooled index state lengths ∷ es) n le = made_total es n le

-- ---- the edits that commands ask for

one_asked : (b : Bool) (act : Act) (rest : List Act) → length (flat_map edit_asked ((if b then act ∷ [] else []) ++ rest)) ≤ (if b then 1 else 0) + length (flat_map edit_asked rest)
one_asked true (acts.Change edit) rest = omega arith
one_asked true acts.Plan rest = omega arith
one_asked false act rest = omega arith

-- each command is one caller's
asked_total : (cs : List Command) (n : ℕ) → total n (λ c. length (flat_map edit_asked (acts_of c cs))) ≤ length cs
asked_total [] n = let none = total_none n in omega (arith, none)
asked_total (k ∷ ks) n =
    let rest = asked_total ks n in
    let both = total_both n (own k.caller) (λ c. length (flat_map edit_asked (acts_of c ks))) in
    let most = own_most k.caller n in
    let each = total_le n (λ c. length (flat_map edit_asked (acts_of c (k ∷ ks)))) (λ c. own k.caller c + length (flat_map edit_asked (acts_of c ks)))
    (λ c. one_asked (k.caller == c) k.act (acts_of c ks)) in
    omega (arith, rest, both, most, each)

-- ---- the whole

pub few_entries : (p : Case) (notes : Notes) (commands : List Command) (r : Report) → IsTranscript p notes commands r → length r.entries ≤ length commands + length r.pool
few_entries p notes commands r t = ∥∥₁_elim t.pool_is (hlevel props) (λ is.
    let n = above r.entries in
    let made = made_total r.entries n (omega arith) in
    let asked = asked_total commands n in
    let same = total_le n (λ c. length (flat_map (edit_made c) r.entries)) (λ c. length (flat_map edit_asked (acts_of c commands))) (λ c. let e = ap length (t.edits c) in omega (arith, e)) in
    let all = all_entries r.entries in
    let pooled : length r.pool ≡ length (cuts_of r.entries) = sym (length-map r.pool cut_of_line) ∙ ap length is.cuts in
    omega (arith, made, asked, same, all, pooled))
