-- what flows bring onto links
use Rattle.std.proofs.Common.{◌≡◌, ◌≢◌, ℕ, ◌+◌, ◌*◌, ◌<◌, ◌==◌, cond, List, get_or, set, length, sym, ◌∙◌, ap, subst, arith, take, ⊎_elim, get_or-set_same, get_or-set_other, eq-eqb, ne_eqb}
use Rattle.net_core.proofs.Library.{sum_by_more, cases_eq}
use Rattle.plan_terms.specs.Terms.{LinkId}
use Rattle.module_choice.{specs.inner.Routes.times, proofs.Numbers.one_if}

-- one link more has been counted where it is this one
pub times_here : (path : List LinkId) (i e : ℕ) (d : LinkId) → i < length path → (get_or path i d).0 ≡ e → times e (take (i + 1) path) ≡ times e (take i path) + 1
times_here path i e d lt same =
    sum_by_more (λ (x : LinkId). cond (x.0 == e) 1 0) path i d lt
    ∙ ap (λ b. times e (take i path) + cond b 1 0) (eq-eqb (get_or path i d).0 e same)

-- and none where it is another
pub times_else : (path : List LinkId) (i e : ℕ) (d : LinkId) → i < length path → (get_or path i d).0 ≢ e → times e (take (i + 1) path) ≡ times e (take i path)
times_else path i e d lt other =
    let more = sum_by_more (λ (x : LinkId). cond (x.0 == e) 1 0) path i d lt in
    let none : one_if ((get_or path i d).0 == e) ≡ 0 = ap one_if (ne_eqb (get_or path i d).0 e other) in
    omega (arith, more, none)

-- a link counted keeps what the loads are
pub add_step : (path : List LinkId) (i by : ℕ) (d : LinkId) (loads : List ℕ) (e before : ℕ) → i < length path → e < length loads → get_or loads e 0 ≡ before + by * times e (take i path) → get_or (set loads (get_or path i d).0 (get_or loads (get_or path i d).0 0 + by)) e 0 ≡ before + by * times e (take (i + 1) path)
add_step path i by d loads e before lt in_range so_far = ⊎_elim
    (λ same. let lt' : (get_or path i d).0 < length loads = omega (arith, same, in_range) in
    let here : get_or (set loads (get_or path i d).0 (get_or loads (get_or path i d).0 0 + by)) e 0 ≡ get_or loads e 0 + by = subst (λ k. get_or (set loads (get_or path i d).0 (get_or loads (get_or path i d).0 0 + by)) k 0 ≡ get_or loads k 0 + by) same (get_or-set_same loads (get_or path i d).0 (get_or loads (get_or path i d).0 0 + by) 0 lt') in
    omega (arith, here, so_far, ap (λ t. by * t) (times_here path i e d lt same)))
    (λ other. let there : get_or (set loads (get_or path i d).0 (get_or loads (get_or path i d).0 0 + by)) e 0 ≡ get_or loads e 0 = get_or-set_other loads (get_or path i d).0 e (get_or loads (get_or path i d).0 0 + by) 0 (λ q. other (sym q)) in
    omega (arith, there, so_far, ap (λ t. by * t) (times_else path i e d lt other)))
    (cases_eq (get_or path i d).0 e)
