-- commands dealt to two groups of callers
use Rattle.std.proofs.Common.{◌≡◌, ◌∙◌, ℕ, zero, suc, ◌+◌, ◌<◌, ◌≤◌, ◌==◌, ◌&&◌, ◌||◌, ◌⊎◌, inl, inr, ⊎_elim, Bool, true, false, cond, List, [], ◌∷◌, ◌++◌, All, filter, if◌then◌else◌, length, leb, ltb, get_or, take, add-one, refl, sym, ap, subst, arith, count_by, le-leb, le-ltb, lt-ltb, length-append, take-suc}
use Rattle.net_core.proofs.Library.{list_any, cases_lt, cond_both, lt-leb, or_parts, All-head, All-tail, filter-append, sum_by-append}
use Rattle.session_script.{specs.declared.script.Command.Command, specs.Terms.{IsCommandInForm, is_plan}}
use Rattle.session_run.{specs.Transcripts.acts_of, specs.inner.Running.{commands_of, is_of}, proofs.Steps.choose_other}

-- ---- the test of a caller

and_false : (b : Bool) → (b && false) ≡ false
and_false true = refl
and_false false = refl

inside : (low high x : ℕ) → low ≤ x → x < high → (leb low x && ltb x high) ≡ true
inside low high x l h = ap (λ b. b && ltb x high) (le-leb low x l) ∙ lt-ltb x high h

below : (low high x : ℕ) → x < low → (leb low x && ltb x high) ≡ false
below low high x l = ap (λ b. b && ltb x high) (lt-leb low x l)

above : (low high x : ℕ) → high ≤ x → (leb low x && ltb x high) ≡ false
above low high x h = ap (λ b. leb low x && b) (le-ltb x high h) ∙ and_false (leb low x)

not_both : (b : Bool) → b ≡ true → b ≡ false → ⊥
not_both b t f = let z : true ≡ false = sym t ∙ f in cc z

-- ---- what a caller asks for, among the commands that pass a test

acts_kept : (test : Command → Bool) (caller : ℕ) → ((k : Command) → k.caller ≡ caller → test k ≡ true) → (cs : List Command) → acts_of caller (filter test cs) ≡ acts_of caller cs
acts_kept test caller passes [] = refl
acts_kept test caller passes (k ∷ ks) =
    cond_both (test k) (k ∷ filter test ks) (filter test ks) (λ l. acts_of caller l ≡ acts_of caller (k ∷ ks))
    (λ _. ap (λ xs. (if k.caller == caller then k.act ∷ [] else []) ++ xs) (acts_kept test caller passes ks))
    (λ e. acts_kept test caller passes ks ∙ ap (λ xs. xs ++ acts_of caller ks) (sym (choose_other k.caller caller (k.act ∷ []) [] (λ same. not_both (test k) (passes k same) e))))

acts_gone : (test : Command → Bool) (caller : ℕ) → ((k : Command) → k.caller ≡ caller → test k ≡ false) → (cs : List Command) → acts_of caller (filter test cs) ≡ []
acts_gone test caller fails [] = refl
acts_gone test caller fails (k ∷ ks) =
    cond_both (test k) (k ∷ filter test ks) (filter test ks) (λ l. acts_of caller l ≡ [])
    (λ e. ap (λ xs. xs ++ acts_of caller (filter test ks)) (choose_other k.caller caller (k.act ∷ []) [] (λ same. not_both (test k) e (fails k same))) ∙ acts_gone test caller fails ks)
    (λ _. acts_gone test caller fails ks)

-- ---- two groups

chosen : (one two : Command → Bool) (k : Command) (ks : List Command) (b : Bool) → one k ≡ b → two k ≡ b → filter one ks ≡ filter two ks → filter one (k ∷ ks) ≡ filter two (k ∷ ks)
chosen one two k ks b a c same =
    ap (λ t. cond t (k ∷ filter one ks) (filter one ks)) a
    ∙ (ap (λ xs. cond b (k ∷ xs) xs) same ∙ sym (ap (λ t. cond t (k ∷ filter two ks) (filter two ks)) c))

from_zero : (n : ℕ) → n ≡ 0 + n
from_zero n = omega arith

-- the commands are those of two groups, of which each caller is in one at most
pub record IsDealt (one two all : List Command) : Type 0 where
  pub acts : (caller : ℕ) → ((acts_of caller one ≡ []) × (acts_of caller all ≡ acts_of caller two)) ⊎ ((acts_of caller two ≡ []) × (acts_of caller all ≡ acts_of caller one))
  pub count : length all ≡ length one + length two
  pub plans : count_by is_plan all ≡ count_by is_plan one + count_by is_plan two

module _ (low middle high : ℕ) (first : low < middle) (second : middle < high) where
  -- a caller is in the first group, in the second, or in none
  abbrev Falls : ℕ → Type 0
  Falls x =
      (((leb low x && ltb x middle) ≡ true) × ((leb middle x && ltb x high) ≡ false) × ((leb low x && ltb x high) ≡ true))
      ⊎ ((((leb low x && ltb x middle) ≡ false) × ((leb middle x && ltb x high) ≡ true) × ((leb low x && ltb x high) ≡ true))
      ⊎ (((leb low x && ltb x middle) ≡ false) × ((leb middle x && ltb x high) ≡ false) × ((leb low x && ltb x high) ≡ false)))

  falls : (x : ℕ) → Falls x
  falls x = ⊎_elim
      (λ (l : x < low). inr (inr (below low middle x l, below middle high x (omega (arith, l, first)), below low high x l)))
      (λ (l : low ≤ x). ⊎_elim
      (λ (m : x < middle). inl (inside low middle x l m, below middle high x m, inside low high x l (omega (arith, m, second))))
      (λ (m : middle ≤ x). ⊎_elim
      (λ (h : x < high). inr (inl (above low middle x m, inside middle high x m h, inside low high x l h)))
      (λ (h : high ≤ x). inr (inr (above low middle x m, above middle high x h, above low high x h)))
      (cases_lt x high))
      (cases_lt x middle))
      (cases_lt x low)

  abbrev at_caller : (from to caller : ℕ) (b : Bool) → (leb from caller && ltb caller to) ≡ b → (k : Command) → k.caller ≡ caller → is_of from to k ≡ b
  at_caller from to caller b e k same = subst (λ x. (leb from x && ltb x to) ≡ b) (sym same) e

  dealt_acts : (cs : List Command) (caller : ℕ)
      → ((acts_of caller (commands_of low middle cs) ≡ []) × (acts_of caller (commands_of low high cs) ≡ acts_of caller (commands_of middle high cs)))
      ⊎ ((acts_of caller (commands_of middle high cs) ≡ []) × (acts_of caller (commands_of low high cs) ≡ acts_of caller (commands_of low middle cs)))
  dealt_acts cs caller = ⊎_elim
      (λ f. inr (
        acts_gone (is_of middle high) caller (at_caller middle high caller false f.1) cs,
        acts_kept (is_of low high) caller (at_caller low high caller true f.2) cs ∙ sym (acts_kept (is_of low middle) caller (at_caller low middle caller true f.0) cs),
      ))
      (λ rest. ⊎_elim
      (λ f. inl (
        acts_gone (is_of low middle) caller (at_caller low middle caller false f.0) cs,
        acts_kept (is_of low high) caller (at_caller low high caller true f.2) cs ∙ sym (acts_kept (is_of middle high) caller (at_caller middle high caller true f.1) cs),
      ))
      (λ f. inl (
        acts_gone (is_of low middle) caller (at_caller low middle caller false f.0) cs,
        acts_gone (is_of low high) caller (at_caller low high caller false f.2) cs ∙ sym (acts_gone (is_of middle high) caller (at_caller middle high caller false f.1) cs),
      ))
      rest)
      (falls caller)

  -- what is added up over commands is added up over the two groups
  module _ (f : List Command → ℕ) (none : f [] ≡ 0) (both : (xs ys : List Command) → f (xs ++ ys) ≡ f xs + f ys) where
    counted : (test : Command → Bool) (k : Command) (ks : List Command) (b : Bool) → test k ≡ b → f (filter test (k ∷ ks)) ≡ cond b (f (k ∷ [])) 0 + f (filter test ks)
    counted test k ks true e = ap (λ b. f (cond b (k ∷ filter test ks) (filter test ks))) e ∙ both (k ∷ []) (filter test ks)
    counted test k ks false e = ap (λ b. f (cond b (k ∷ filter test ks) (filter test ks))) e ∙ from_zero (f (filter test ks))

    dealt_sum : (cs : List Command) → f (commands_of low high cs) ≡ f (commands_of low middle cs) + f (commands_of middle high cs)
    dealt_sum [] = omega (arith, none)
    dealt_sum (k ∷ ks) =
        let rest = dealt_sum ks in
        ⊎_elim
        (λ c. omega (arith, rest, counted (is_of low middle) k ks true c.0, counted (is_of middle high) k ks false c.1, counted (is_of low high) k ks true c.2))
        (λ other. ⊎_elim
        (λ c. omega (arith, rest, counted (is_of low middle) k ks false c.0, counted (is_of middle high) k ks true c.1, counted (is_of low high) k ks true c.2))
        (λ c. omega (arith, rest, counted (is_of low middle) k ks false c.0, counted (is_of middle high) k ks false c.1, counted (is_of low high) k ks false c.2))
        other)
        (falls k.caller)

  pub dealt : (cs : List Command) → IsDealt (commands_of low middle cs) (commands_of middle high cs) (commands_of low high cs)
  dealt cs = record {
    acts = dealt_acts cs;
    count = dealt_sum (λ xs. length xs) refl (λ xs ys. length-append xs ys) cs;
    plans = dealt_sum (count_by is_plan) refl (λ xs ys. sum_by-append (λ (k : Command). cond (is_plan k) 1 0) xs ys) cs;
  }

  -- where a group has no command, the other has all
  pub all_first : (cs : List Command) → list_any (is_of middle high) cs ≡ false → commands_of low high cs ≡ commands_of low middle cs
  all_first [] none = refl
  all_first (k ∷ ks) none =
      let parts = or_parts (is_of middle high k) (list_any (is_of middle high) ks) none in
      ⊎_elim
      (λ c. chosen (is_of low high) (is_of low middle) k ks true c.2 c.0 (all_first ks parts.1))
      (λ other. ⊎_elim
      (λ c. absurd (not_both (is_of middle high k) c.1 parts.0))
      (λ c. chosen (is_of low high) (is_of low middle) k ks false c.2 c.0 (all_first ks parts.1))
      other)
      (falls k.caller)

  pub all_second : (cs : List Command) → list_any (is_of low middle) cs ≡ false → commands_of low high cs ≡ commands_of middle high cs
  all_second [] none = refl
  all_second (k ∷ ks) none =
      let parts = or_parts (is_of low middle k) (list_any (is_of low middle) ks) none in
      ⊎_elim
      (λ c. absurd (not_both (is_of low middle k) c.0 parts.0))
      (λ other. ⊎_elim
      (λ c. chosen (is_of low high) (is_of middle high) k ks true c.2 c.1 (all_second ks parts.1))
      (λ c. chosen (is_of low high) (is_of middle high) k ks false c.2 c.1 (all_second ks parts.1))
      other)
      (falls k.caller)

-- a group that any command is of has one
pub some_command : (test : Command → Bool) (cs : List Command) → list_any test cs ≡ true → 1 ≤ length (filter test cs)
some_command test [] any = absurd (let z : false ≡ true = any in cc z)
some_command test (k ∷ ks) any =
    cond_both (test k) (k ∷ filter test ks) (filter test ks) (λ l. 1 ≤ length l)
    (λ _. omega arith)
    (λ e. some_command test ks (ap (λ b. b || list_any test ks) (sym e) ∙ any))

-- all commands of a script are of callers 1 to 8
pub of_all_callers : (cs : List Command) → All IsCommandInForm cs → commands_of 1 9 cs ≡ cs
of_all_callers [] all = refl
of_all_callers (k ∷ ks) all =
    let form = All-head IsCommandInForm k ks all in
    ap (λ b. cond b (k ∷ commands_of 1 9 ks) (commands_of 1 9 ks)) (inside 1 9 k.caller form.some (omega (arith, form.most)))
    ∙ ap (λ xs. k ∷ xs) (of_all_callers ks (All-tail IsCommandInForm k ks all))

-- ---- one caller, command by command

module _ (caller : ℕ) (cs : List Command) (i : ℕ) (k : Command) (lt : i < length cs) (is : k ≡ get_or cs i k) where
  taken : take (i + 1) cs ≡ take i cs ++ k ∷ []
  taken = rw add-one (take-suc cs i k lt) ∙ ap (λ x. take i cs ++ x ∷ []) (sym is)

  next_of : (b : Bool) → is_of caller (caller + 1) k ≡ b → commands_of caller (caller + 1) (take (i + 1) cs) ≡ commands_of caller (caller + 1) (take i cs) ++ cond b (k ∷ []) []
  next_of b e =
      ap (commands_of caller (caller + 1)) taken
      ∙ (filter-append (is_of caller (caller + 1)) (take i cs) (k ∷ []) ∙ ap (λ t. commands_of caller (caller + 1) (take i cs) ++ cond t (k ∷ []) []) e)

  pub next_own : k.caller ≡ caller → commands_of caller (caller + 1) (take (i + 1) cs) ≡ commands_of caller (caller + 1) (take i cs) ++ k ∷ []
  next_own same = next_of true (inside caller (caller + 1) k.caller (omega (arith, same)) (omega (arith, same)))

  pub next_other : (k.caller ≡ caller → ⊥) → commands_of caller (caller + 1) (take (i + 1) cs) ≡ commands_of caller (caller + 1) (take i cs)
  next_other ne =
      next_of false (⊎_elim
      (λ (l : k.caller < caller). below caller (caller + 1) k.caller l)
      (λ (g : caller ≤ k.caller). above caller (caller + 1) k.caller (⊎_elim (λ (m : k.caller < caller + 1). absurd (ne (omega (arith, g, m)))) (λ m. m) (cases_lt k.caller (caller + 1))))
      (cases_lt k.caller caller))
      ∙ no_more (commands_of caller (caller + 1) (take i cs))
    where
      no_more : {X : Type 0} (xs : List X) → xs ++ [] ≡ xs
      no_more [] = refl
      no_more (x ∷ xs) = ap (λ ys. x ∷ ys) (no_more xs)

-- the commands so far are some of all
pub few_so_far : (test : Command → Bool) (cs : List Command) (i : ℕ) → length (filter test (take i cs)) ≤ length (filter test cs)
few_so_far test cs zero = omega arith
few_so_far test [] (suc i) = omega arith
few_so_far test (k ∷ ks) (suc i) =
    cond_both (test k) (k ∷ filter test ks) (filter test ks) (λ l. length (cond (test k) (k ∷ filter test (take i ks)) (filter test (take i ks))) ≤ length l)
    (λ e. subst (λ b. length (cond b (k ∷ filter test (take i ks)) (filter test (take i ks))) ≤ length (k ∷ filter test ks)) (sym e) (let rest = few_so_far test ks i in omega (arith, rest)))
    (λ e. subst (λ b. length (cond b (k ∷ filter test (take i ks)) (filter test (take i ks))) ≤ length (filter test ks)) (sym e) (few_so_far test ks i))
