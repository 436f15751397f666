-- a number added at each link of a path
use Rattle.std.proofs.Common.{◌≡◌, ℕ, ℤ, zero, suc, ◌<◌, ◌≤◌, ◌+◌, ◌*◌, ◌^◌, ◌+ℤ◌, ◌-ℤ◌, ◌*ℤ◌, List, [], ◌∷◌, pos, cond, eqb, length, drop, get_or, slice_set, unsigned_abs, refl, sym, ap, ◌∙◌, subst, arith, ⊎_elim, eq-eqb, ne_eqb, get_or-set_same, get_or-set_other}
use Rattle.net_core.{proofs.Library.{*ℤ-zero, zero-*ℤ, cases_eq, ints}, specs.declared.ids.LinkId.LinkId}
use Rattle.checked_fraction.specs.Terms.{num}
use Rattle.simplex_law.proofs.Lemmas.{distribute_left, distribute_minus}
use Rattle.key_rows.specs.Names.{path_uses}

uses_after : (path : List LinkId) (k : ℕ) (d : LinkId) (j : ℕ) → k < length path → path_uses (drop k path) j ≡ cond (eqb (get_or path k d).0 j) (pos 1) (pos 0) +ℤ path_uses (drop (suc k) path) j
uses_after [] k d j lt = absurd (omega arith)
uses_after (l ∷ path) zero d j lt = refl
uses_after (l ∷ path) (suc k) d j lt = uses_after path k d j (omega arith)

uses_rest : (path : List LinkId) (k : ℕ) (d : LinkId) (j : ℕ) → k < length path → path_uses (drop k path) j ≡ cond (eqb (get_or path k d).0 j) (pos 1) (pos 0) +ℤ path_uses (drop (k + 1) path) j
uses_rest path k d j lt =
    let next : suc k ≡ k + 1 = omega arith in
    subst (λ n. path_uses (drop k path) j ≡ cond (eqb (get_or path k d).0 j) (pos 1) (pos 0) +ℤ path_uses (drop n path) j) next (uses_after path k d j lt)

pub uses_end : (path : List LinkId) (k j : ℕ) → length path ≤ k → path_uses (drop k path) j ≡ pos 0
uses_end [] zero j le = refl
uses_end [] (suc k) j le = refl
uses_end (l ∷ path) zero j le = absurd (omega arith)
uses_end (l ∷ path) (suc k) j le = uses_end path k j (omega arith)

-- one link more
pub shift_more : (rest : List ℤ) (path : List LinkId) (k : ℕ) (d : LinkId) (by v whole : ℤ) (j : ℕ) → k < length path → (get_or path k d).0 < length rest → v ≡ num rest (get_or path k d).0 +ℤ by
    → num rest j +ℤ (by *ℤ path_uses (drop k path) j) ≡ whole → num (slice_set rest (get_or path k d).0 v) j +ℤ (by *ℤ path_uses (drop (k + 1) path) j) ≡ whole
shift_more rest path k d by v whole j lt inside is before = ⊎_elim
    (λ e.
    let one : by *ℤ path_uses (drop k path) j ≡ by +ℤ (by *ℤ path_uses (drop (k + 1) path) j) =
    ap (λ x. by *ℤ x) (uses_rest path k d j lt ∙ ap (λ t. cond t (pos 1) (pos 0) +ℤ path_uses (drop (k + 1) path) j) (eq-eqb at j (sym e))) ∙ (distribute_left (pos 1) (path_uses (drop (k + 1) path) j) by ∙ once by _) in
    let here : num (slice_set rest at v) j ≡ num rest j +ℤ by = subst (λ y. num (slice_set rest at v) y ≡ num rest y +ℤ by) (sym e) (get_or-set_same rest at v (pos 0) inside ∙ is) in
    ap (λ x. x +ℤ (by *ℤ path_uses (drop (k + 1) path) j)) here ∙ together (num rest j) by _ _ whole one before)
    (λ ne.
    let none : by *ℤ path_uses (drop k path) j ≡ by *ℤ path_uses (drop (k + 1) path) j =
    ap (λ x. by *ℤ x) (uses_rest path k d j lt ∙ (ap (λ t. cond t (pos 1) (pos 0) +ℤ path_uses (drop (k + 1) path) j) (ne_eqb at j (λ e. ne (sym e))) ∙ nothing (path_uses (drop (k + 1) path) j))) in
    ap (λ x. x +ℤ (by *ℤ path_uses (drop (k + 1) path) j)) (get_or-set_other rest at j v (pos 0) ne) ∙ (ap (λ x. num rest j +ℤ x) (sym none) ∙ before))
    (cases_eq j at)
  where
    at : ℕ
    at = (get_or path k d).0

    once : (b x : ℤ) → (b *ℤ pos 1) +ℤ x ≡ b +ℤ x
    once b x = omega (arith, ints)

    nothing : (x : ℤ) → pos 0 +ℤ x ≡ x
    nothing x = omega (arith, ints)

    together : (r b s t w : ℤ) → s ≡ b +ℤ t → r +ℤ s ≡ w → (r +ℤ b) +ℤ t ≡ w
    together r b s t w e h = omega (arith, ints, e, h)

pub bound_more : (rest : List ℤ) (at : ℕ) (v : ℤ) (top : ℕ → ℕ) (k : ℕ) → at < length rest → unsigned_abs v ≤ top at + (k + 1) * 2 ^ 62
    → ((j : ℕ) → unsigned_abs (num rest j) ≤ top j + k * 2 ^ 62) → (j : ℕ) → unsigned_abs (num (slice_set rest at v) j) ≤ top j + (k + 1) * 2 ^ 62
bound_more rest at v top k inside low all j = ⊎_elim
    (λ e. subst (λ y. unsigned_abs (num (slice_set rest at v) y) ≤ top y + (k + 1) * 2 ^ 62) (sym e) (subst (λ x. unsigned_abs x ≤ top at + (k + 1) * 2 ^ 62) (sym (get_or-set_same rest at v (pos 0) inside)) low))
    (λ ne. subst (λ x. unsigned_abs x ≤ top j + (k + 1) * 2 ^ 62) (sym (get_or-set_other rest at j v (pos 0) ne)) (wider (all j)))
    (cases_eq j at)
  where
    wider : {x : ℕ} → x ≤ top j + k * 2 ^ 62 → x ≤ top j + (k + 1) * 2 ^ 62
    wider {x} h = omega (arith, h)

pub shifted : (by : ℤ) {r u w : ℤ} → u ≡ pos 0 → r +ℤ (by *ℤ u) ≡ w → r ≡ w
shifted by {r} {u} {w} none e = plain (ap (λ x. r +ℤ (by *ℤ x)) (sym none) ∙ e)
  where
    plain : r +ℤ (by *ℤ pos 0) ≡ w → r ≡ w
    plain h = omega (arith, ints, h, *ℤ-zero by)

-- the opposite number added
pub shifted_back : (by n u r new : ℤ) → n ≡ pos 0 -ℤ by → new ≡ r +ℤ (n *ℤ u) → new ≡ r -ℤ (by *ℤ u)
shifted_back by n u r new is e =
    let less : n *ℤ u ≡ pos 0 -ℤ (by *ℤ u) = ap (λ x. x *ℤ u) is ∙ (distribute_minus (pos 0) by u ∙ ap (λ x. x -ℤ (by *ℤ u)) (zero-*ℤ u)) in
    omega (arith, ints, e, less)

-- what is given back and what is taken away
pub given_and_taken : (old s : ℤ) {new mid t u : ℤ} → new ≡ mid -ℤ t → mid ≡ old +ℤ s → t ≡ u → new ≡ (old +ℤ s) -ℤ u
given_and_taken old s {new} {mid} {t} {u} a b c = omega (arith, ints, a, b, c)
