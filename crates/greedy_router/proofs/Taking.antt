-- an amount is taken from one link of a path after another
use Rattle.std.{proofs.Common.{◌≡◌, ◌≢◌, ℕ, ◌+◌, ◌-◌, ◌<◌, ◌≤◌, ◌||◌, Bool, cond, true, false, eqb, List, get_or, set, length, take, ⊎_elim, sym, ap, subst, ◌∙◌, refl, arith, get_or-set_same, get_or-set_other, AllPairs, eq-eqb, ne_eqb, get_or-take, length-take-le}, proofs.lemmas.List.Folds.list_any_more}
use Rattle.net_core.proofs.Library.{cases_eq, All-from_get_or, list_any_none}
use Rattle.plan_terms.specs.Terms.{LinkId, names_link}

abbrev Differ : List LinkId → Type 0
Differ path = AllPairs (λ x y. x.0 ≢ y.0) path

-- what is left, and the amount on the first links of the path, are what was there
abbrev Taken : List LinkId → ℕ → ℕ → List ℕ → List ℕ → Type 0
Taken path i num now old = (e : ℕ) → get_or now e 0 + cond (names_link e (take i path)) num 0 ≡ get_or old e 0

-- no link comes before itself
not_before : (path : List LinkId) (i : ℕ) (d : LinkId) → Differ path → i < length path → names_link (get_or path i d).0 (take i path) ≡ false
not_before path i d differ lt =
    let same : length (take i path) ≡ i = length-take-le i path (omega (arith, lt)) in
    list_any_none (λ (x : LinkId). eqb x.0 (get_or path i d).0) (take i path)
    (All-from_get_or (λ (x : LinkId). eqb x.0 (get_or path i d).0 ≡ false) (take i path) d
    (λ k within.
    let before : k < i = omega (arith, within, same) in
    ne_eqb (get_or (take i path) k d).0 (get_or path i d).0
    (subst (λ (x : LinkId). x.0 ≢ (get_or path i d).0) (sym (get_or-take i path k d before)) (differ k i d before lt))))

named_more : (path : List LinkId) (i e : ℕ) (d : LinkId) → i < length path → names_link e (take (i + 1) path) ≡ (names_link e (take i path) || eqb (get_or path i d).0 e)
named_more path i e d lt = list_any_more (λ (x : LinkId). eqb x.0 e) path i d lt

or_false : (b : Bool) → (b || false) ≡ b
or_false true = refl
or_false false = refl

module _ (path : List LinkId) (i num : ℕ) (d : LinkId) (now old : List ℕ) (differ : Differ path) (lt : i < length path) (enough : num ≤ get_or old (get_or path i d).0 0) (taken : Taken path i num now old) where
  pub enough_left : num ≤ get_or now (get_or path i d).0 0
  enough_left =
      let none : cond (names_link (get_or path i d).0 (take i path)) num 0 ≡ 0 = ap (λ b. cond b num 0) (not_before path i d differ lt) in
      omega (arith, none, enough, taken (get_or path i d).0)

  pub take_step : (get_or path i d).0 < length now → Taken path (i + 1) num (set now (get_or path i d).0 (get_or now (get_or path i d).0 0 - num)) old
  take_step within e =
      let x : ℕ = (get_or path i d).0 in
      let v : ℕ = get_or now x 0 - num in
      let new : List ℕ = set now x v in
      ⊎_elim
      (λ same.
      let named : names_link x (take (i + 1) path) ≡ true = named_more path i x d lt ∙ (ap (λ b. b || eqb x x) (not_before path i d differ lt) ∙ eq-eqb x x refl) in
      let whole : cond (names_link x (take (i + 1) path)) num 0 ≡ num = ap (λ b. cond b num 0) named in
      let none : cond (names_link x (take i path)) num 0 ≡ 0 = ap (λ b. cond b num 0) (not_before path i d differ lt) in
      let here : get_or new x 0 ≡ v = get_or-set_same now x v 0 within in
      let at : get_or new x 0 + cond (names_link x (take (i + 1) path)) num 0 ≡ get_or old x 0 = omega (arith, whole, none, here, enough, taken x) in
      subst (λ j. get_or new j 0 + cond (names_link j (take (i + 1) path)) num 0 ≡ get_or old j 0) (sym same) at)
      (λ other.
      let named : names_link e (take (i + 1) path) ≡ names_link e (take i path) = named_more path i e d lt ∙ (ap (λ b. names_link e (take i path) || b) (ne_eqb x e (λ q. other (sym q))) ∙ or_false (names_link e (take i path))) in
      let kept : cond (names_link e (take (i + 1) path)) num 0 ≡ cond (names_link e (take i path)) num 0 = ap (λ b. cond b num 0) named in
      let there : get_or new e 0 ≡ get_or now e 0 = get_or-set_other now x e v 0 other in
      omega (arith, kept, there, taken e))
      (cases_eq e x)
