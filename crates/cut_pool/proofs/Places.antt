-- the place of a cut in a pool
use Rattle.std.{proofs.Common.{◌≡◌, ◌≢◌, ◌∙◌, ◌<◌, ◌+◌, ℕ, zero, suc, Bool, true, false, cond, List, [], ◌∷◌, All, Option, Some, None, length, map, get_or, slice_get, refl, sym, ap, arith, position, Decides, option_map}, specs.List.position_from, proofs.lemmas.Iterator.Adapters.position_from-zero}
use Rattle.net_core.proofs.Library.{false≢true, Decides-and, Decides-eqb, get_or-map, length-map, position-Some, slice_get-get_or, slice_get-map, bytes_eq-Decides}
use Rattle.metric_cut.specs.declared.cut.Cut.{Cut}
use Rattle.cut_pool.{specs.declared.pooled_cut.PooledCut.PooledCut, specs.inner.Pooling.is_pooled_cut}

-- a cut by its state and lengths
abbrev pub with_state : Cut → ℕ × List ℕ
with_state cut = (cut.state.0, cut.lengths)

is_pooled-Decides : (cut : Cut) (c : PooledCut) → Decides (is_pooled_cut cut c) ((c.cut.state.0 ≡ cut.state.0) × (c.cut.lengths ≡ cut.lengths))
is_pooled-Decides cut c = Decides-and _ _ (Decides-eqb c.cut.state.0 cut.state.0) (bytes_eq-Decides c.cut.lengths cut.lengths)

same_cut : (cut : Cut) (c : PooledCut) → is_pooled_cut cut c ≡ true → with_state c.cut ≡ with_state cut
same_cut cut c h =
    let same = (is_pooled-Decides cut c).0 h in
    ap (λ s. (s, c.cut.lengths)) same.0 ∙ ap (λ (ls : List ℕ). (cut.state.0, ls)) same.1

cut_same : (cut : Cut) (c : PooledCut) → with_state c.cut ≡ with_state cut → is_pooled_cut cut c ≡ true
cut_same cut c h = (is_pooled-Decides cut c).1 (ap (λ (q : ℕ × List ℕ). q.0) h, ap (λ (q : ℕ × List ℕ). q.1) h)

-- none passes a test that has no place
not_first : (b : Bool) (i : ℕ) (rest : Option ℕ) → cond b (Some i) rest ≡ None → (b ≡ false) × (rest ≡ None)
not_first true i rest h = absurd (cc h)
not_first false i rest h = (refl, h)

none_passes : {X : Type 0} (test : X → Bool) (xs : List X) (i : ℕ) → position_from test i xs ≡ None → (k : ℕ) (d : X) → k < length xs → test (get_or xs k d) ≡ false
none_passes test [] i h k d lt = absurd (omega (arith, lt))
none_passes test (x ∷ xs) i h zero d lt = (not_first (test x) i (position_from test (i + 1) xs) h).0
none_passes test (x ∷ xs) i h (suc k) d lt = none_passes test xs (i + 1) (not_first (test x) i (position_from test (i + 1) xs) h).1 k d (omega (arith, lt))

-- what has no place passes nowhere
pub passes_nowhere : {X : Type 0} (test : X → Bool) (xs : List X) → position test xs ≡ None → (k : ℕ) (d : X) → k < length xs → test (get_or xs k d) ≡ false
passes_nowhere test xs none = none_passes test xs 0 (sym (position_from-zero test xs) ∙ none)

-- a cut that has a place is there
pub known_at : (cut : Cut) (pool : List PooledCut) (k : ℕ) → position (is_pooled_cut cut) pool ≡ Some k → slice_get (map (λ c. with_state c.cut) pool) k ≡ Some (with_state cut)
known_at cut pool k at =
    let blank : PooledCut = record { cut = cut; right = 0 } in
    let found = position-Some (is_pooled_cut cut) pool k blank at in
    slice_get-map (λ (c : PooledCut). with_state c.cut) pool k ∙ (ap (option_map (λ (c : PooledCut). with_state c.cut)) (slice_get-get_or pool k blank found.0) ∙ ap Some (same_cut cut (get_or pool k blank) found.1))

-- a cut that has no place differs from each one there
pub new_of_all : (cut : Cut) (pool : List PooledCut) → position (is_pooled_cut cut) pool ≡ None → All (λ c. c ≢ with_state cut) (map (λ c. with_state c.cut) pool)
new_of_all cut pool none = λ k d lt same.
    let v : PooledCut → ℕ × List ℕ = λ c. with_state c.cut in
    let blank : PooledCut = record { cut = cut; right = 0 } in
    let within : k < length pool = omega (arith, lt, length-map pool v) in
    let here : with_state (get_or pool k blank).cut ≡ with_state cut = sym (get_or-map v pool k blank d within) ∙ same in
    false≢true (sym (passes_nowhere (is_pooled_cut cut) pool none k blank within) ∙ cut_same cut (get_or pool k blank) here)
