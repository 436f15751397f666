-- rows of the block and rows of the whole basis
use Rattle.std.proofs.Common.{◌≡◌, ℕ, ◌<◌, ◌+◌, ◌-◌, sym, ap, ◌∙◌, arith, ⊎_elim, subst, ℤ, pos, ◌+ℤ◌, ◌-ℤ◌, ◌*ℤ◌}
use Rattle.net_core.proofs.Library.{cases_lt, *ℤ_comm, ints}
use Rattle.simplex_law.{specs.Terms.{int_sum, dot, unit_vector, ColumnOf, IsRow}, proofs.Lemmas.{minus_left, sum-same, sum-unit, dot-none-column}}
use Rattle.key_law.{specs.Keys.{difference, IsSpread, AreRoles, AreKeys, IsBlockRow, key, key_part}, proofs.Spread.{dot-spread, spread_of}}

sum-of-unit : (m d : ℕ) (v : ℕ → ℤ) → d < m → int_sum m (λ e. unit_vector d e *ℤ v e) ≡ v d
sum-of-unit m d v lt = sum-same m _ (λ e. v e *ℤ unit_vector d e) (λ e l. *ℤ_comm (unit_vector d e) (v e)) ∙ sum-unit m d v lt

module _ {N : Type 0} (links demands : ℕ) (basis : ℕ → ColumnOf N) (place role : ℕ → ℕ) where
  -- the keys leave nothing of a key
  pub no_difference : AreKeys links demands basis place → (d k : ℕ) → d < demands → difference links demands (key_part links demands basis place) ((key links demands basis place d).entry) k ≡ pos 0
  no_difference keys_are d k l = gone ((key links demands basis place d).entry k) _
      (sum-same demands _ (λ e. unit_vector d e *ℤ key_part links demands basis place e k) (λ e le. ap (λ x. x *ℤ key_part links demands basis place e k) (keys_are d e l le))
      ∙ sum-of-unit demands d (λ e. key_part links demands basis place e k) l)
    where
      gone : (x s : ℤ) → s ≡ x → x -ℤ s ≡ pos 0
      gone x s e = omega (arith, ints, e)

  -- what holds of the block's places and of the keys' holds of all
  by_role : (P : ℕ → Type 0) → AreRoles (links + demands) place role → ((j : ℕ) → j < links → P (place j)) → ((d : ℕ) → d < demands → P (place (links + d)))
      → (j : ℕ) → j < links + demands → P j
  by_role P roles first last j l =
      let here : P (place (role j)) = ⊎_elim
      (λ lt. first (role j) lt)
      (λ ge. let e : links + (role j - links) ≡ role j = omega (arith, ge) in
      subst (λ r. P (place r)) e (last (role j - links) (omega (arith, ge, roles.role_in j l))))
      (cases_lt (role j) links) in
      subst P (roles.back j l) here

  -- a row of the block, spread, is a row of the whole basis
  pub full_of : (target nums full : ℕ → ℤ) (den : ℤ) → AreRoles (links + demands) place role → AreKeys links demands basis place
      → IsBlockRow links demands basis place target nums den
      → IsSpread links demands (key_part links demands basis place) (λ d. target (place (links + d))) nums den full
      → IsRow (links + demands) (λ j. (basis j).entry) target full den
  full_of target nums full den roles keys_are row s =
      by_role (λ j. dot (links + demands) full ((basis j).entry) ≡ den *ℤ target j) roles
      (λ j l. dot-spread links demands (key_part links demands basis place) (λ d. target (place (links + d))) nums den full ((basis (place j)).entry) s
      ∙ (ap (λ x. x +ℤ (den *ℤ int_sum demands (λ d. (basis (place j)).entry (links + d) *ℤ target (place (links + d))))) (row j l)
      ∙ whole den (target (place j)) (int_sum demands (λ d. (basis (place j)).entry (links + d) *ℤ target (place (links + d))))))
      (λ d l. dot-spread links demands (key_part links demands basis place) (λ e. target (place (links + e))) nums den full ((basis (place (links + d))).entry) s
      ∙ (ap (λ x. x +ℤ (den *ℤ int_sum demands (λ e. (basis (place (links + d))).entry (links + e) *ℤ target (place (links + e))))) (dot-none-column links nums _ (λ k lk. no_difference keys_are d k l))
      ∙ none_more (den *ℤ int_sum demands (λ e. (basis (place (links + d))).entry (links + e) *ℤ target (place (links + e))))
      ∙ ap (λ x. den *ℤ x) (sum-same demands _ (λ e. unit_vector d e *ℤ target (place (links + e))) (λ e le. ap (λ x. x *ℤ target (place (links + e))) (keys_are d e l le))
      ∙ sum-of-unit demands d (λ e. target (place (links + e))) l)))
    where
      whole : (den t s : ℤ) → (den *ℤ (t -ℤ s)) +ℤ (den *ℤ s) ≡ den *ℤ t
      whole den t s = omega (arith, ints, minus_left t s den)

      none_more : (x : ℤ) → pos 0 +ℤ x ≡ x
      none_more x = omega (arith, ints)

  -- each row of the whole basis is spread
  pub spread_row : (target full : ℕ → ℤ) (den : ℤ) → AreRoles (links + demands) place role → AreKeys links demands basis place
      → IsRow (links + demands) (λ j. (basis j).entry) target full den
      → IsSpread links demands (key_part links demands basis place) (λ d. target (place (links + d))) full den full
  spread_row target full den roles keys_are row = spread_of links demands (key_part links demands basis place) (key_part links demands basis place) (λ d. target (place (links + d))) full den
      keys_are (λ d l. row (place (links + d)) (roles.place_in (links + d) (omega (arith, l))))

  -- and its link entries are a row of the block
  pub block_of : (target full : ℕ → ℤ) (den : ℤ) → AreRoles (links + demands) place role → AreKeys links demands basis place
      → IsRow (links + demands) (λ j. (basis j).entry) target full den → IsBlockRow links demands basis place target full den
  block_of target full den roles keys_are row j l =
      let s = spread_row target full den roles keys_are row in
      let here = row (place j) (roles.place_in j (omega (arith, l))) in
      let product = dot-spread links demands (key_part links demands basis place) (λ d. target (place (links + d))) full den full ((basis (place j)).entry) s in
      rest den (target (place j)) (int_sum demands (λ d. (basis (place j)).entry (links + d) *ℤ target (place (links + d)))) _ (sym product ∙ here)
    where
      rest : (den t s x : ℤ) → x +ℤ (den *ℤ s) ≡ den *ℤ t → x ≡ den *ℤ (t -ℤ s)
      rest den t s x e = omega (arith, ints, e, minus_left t s den)
