-- where the legs of each node start, one node after another
use Rattle.std.proofs.Common.{◌≡◌, ℕ, ◌+◌, ◌<◌, List, [], ◌∷◌, ◌++◌, length, get_or, ⊎_elim, sym, ap, subst, ◌∙◌, arith, length-append}
use Rattle.net_core.proofs.Library.{cases_lt, get_or_append_left, get_or_push}
use Rattle.path_split.{specs.declared.leg.Leg.Leg, specs.inner.Legs.IsStartPlace}

pub starts_push : (legs : List Leg) (starts : List ℕ) (x s : ℕ) → length starts ≡ x → ((y : ℕ) → y < x → IsStartPlace legs y (get_or starts y 0)) → IsStartPlace legs x s
    → (length (starts ++ s ∷ []) ≡ x + 1) × ((y : ℕ) → y < x + 1 → IsStartPlace legs y (get_or (starts ++ s ∷ []) y 0))
starts_push legs starts x s size before now = (
  length-append starts (s ∷ []) ∙ ap (λ n. n + 1) size,
  λ y lt. ⊎_elim
      (λ less. subst (IsStartPlace legs y) (sym (get_or_append_left starts (s ∷ []) 0 y (omega (arith, less, size)))) (before y less))
      (λ past.
      let same : y ≡ x = omega (arith, lt, past) in
      subst (λ k. IsStartPlace legs k (get_or (starts ++ s ∷ []) k 0)) (sym same) (subst (IsStartPlace legs x) (sym (get_or_push starts s 0 x size)) now))
      (cases_lt y x),
)
