-- histories with one entry more
use Rattle.std.{proofs.Common.{◌≡◌, ◌∙◌, ℕ, ◌<◌, ◌≤◌, ◌++◌, List, [], ◌∷◌, Some, length, slice_get, get_or, take, refl, sym, ap, subst, arith, ⊎_elim}, proofs.lemmas.List.{length-append, take-append-le}}
use Rattle.net_core.proofs.Library.{get_or-append_seam, take-append_seam, cases_lt, flat_map-append, get_or_append_left, get_or_from_slice_get, slice_get-get_or, slice_get_within}
use Rattle.plan_terms.specs.Terms.{Entry, Case}
use Rattle.cut_pool.specs.Histories.{Dated, IsLegalAfter, IsLegalHistory, cuts_of, left_by, left_by_entry, pooled_by}

pub left_more : (nodes : List (List ℕ)) (d : Dated) (es : List Entry) (e : Entry) → left_by nodes d (es ++ e ∷ []) ≡ left_by_entry nodes (left_by nodes d es) e
left_more nodes d [] e = refl
left_more nodes d (x ∷ es) e = left_more nodes (left_by_entry nodes d x) es e

pub cuts_more : (es : List Entry) (e : Entry) → cuts_of (es ++ e ∷ []) ≡ cuts_of es ++ (pooled_by e ++ [])
cuts_more es e = flat_map-append pooled_by es (e ∷ [])

pub legal_more : (p : Case) (es : List Entry) (e : Entry) → IsLegalHistory p es → IsLegalAfter p es e → IsLegalHistory p (es ++ e ∷ [])
legal_more p es e legal one = λ n x at. ⊎_elim (before n x at) (last n x at) (cases_lt n (length es))
  where
    before : (n : ℕ) (x : Entry) → slice_get (es ++ e ∷ []) n ≡ Some x → n < length es → IsLegalAfter p (take n (es ++ e ∷ [])) x
    before n x at lt =
        let here : get_or es n x ≡ x = sym (get_or_append_left es (e ∷ []) x n lt) ∙ get_or_from_slice_get (es ++ e ∷ []) n x x at in
        subst (λ (b : List Entry). IsLegalAfter p b x) (sym (take-append-le n es (e ∷ []) (omega (arith, lt))))
        (legal n x (slice_get-get_or es n x lt ∙ ap Some here))

    last : (n : ℕ) (x : Entry) → slice_get (es ++ e ∷ []) n ≡ Some x → length es ≤ n → IsLegalAfter p (take n (es ++ e ∷ [])) x
    last n x at le =
        let is : n ≡ length es = omega (arith, le, slice_get_within (es ++ e ∷ []) n x at, length-append es (e ∷ [])) in
        let before_it : take n (es ++ e ∷ []) ≡ es = ap (λ k. take k (es ++ e ∷ [])) is ∙ take-append_seam es (e ∷ []) in
        let here : e ≡ x = sym (get_or-append_seam es e [] x) ∙ (ap (λ k. get_or (es ++ e ∷ []) k x) (sym is) ∙ get_or_from_slice_get (es ++ e ∷ []) n x x at) in
        subst (λ (b : List Entry). IsLegalAfter p b x) (sym before_it) (subst (IsLegalAfter p es) here one)
