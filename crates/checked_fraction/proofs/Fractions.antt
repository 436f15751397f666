-- the order of fractions, by whole parts and rests
use Rattle.std.{proofs.Common.{◌≡◌, ℕ, ◌+◌, ◌*◌, ◌/◌, ◌%◌, ◌<◌, ◌≤◌, ◌⊎◌, inl, inr, ⊎_elim, sym, ap, ◌∙◌, arith, nat_cmp, Less, Equal, Greater, div-add-mod'}, proofs.Math.Nat.{lt-div-mul-add, mul-le-mul_left}}
use Rattle.net_core.proofs.Library.{nat_cmp_is, cases_order}

-- two pairs compare alike where each order of the first is that of the second
alike : (x y v w : ℕ) → (x < y → v < w) → (x ≡ y → v ≡ w) → (y < x → w < v) → nat_cmp x y ≡ nat_cmp v w
alike x y v w less same more = ⊎_elim
    (λ e. sym (nat_cmp_is x y Equal e) ∙ nat_cmp_is v w Equal (same e))
    (λ s. ⊎_elim
    (λ l. sym (nat_cmp_is x y Less l) ∙ nat_cmp_is v w Less (less l))
    (λ m. sym (nat_cmp_is x y Greater m) ∙ nat_cmp_is v w Greater (more m))
    s)
    (cases_order x y)

-- a lower whole part is a lower fraction
lower : (a b c d : ℕ) → 0 < b → 0 < d → a / b < c / d → a * d < c * b
lower a b c d pos_b pos_d less =
    let above : a < a / b * b + b = lt-div-mul-add pos_b in
    let first : d * (a + 1) ≤ d * (a / b * b + b) = mul-le-mul_left d (omega arith) in
    let second : b * d * (a / b + 1) ≤ b * d * (c / d) = mul-le-mul_left (b * d) (omega arith) in
    let third : b * (c / d * d) ≤ b * c = mul-le-mul_left b (omega (arith, div-add-mod' c d)) in
    omega arith

-- fractions of one whole part compare as their rests
rests : (a b c d : ℕ) → a / b ≡ c / d → nat_cmp (a * d) (c * b) ≡ nat_cmp (a % b * d) (c % d * b)
rests a b c d same =
    let left : a * d ≡ c / d * b * d + a % b * d = ap (λ x. x * d) (sym (div-add-mod' a b)) ∙ omega (arith, ap (λ q. q * b * d) same) in
    let right : c * b ≡ c / d * d * b + c % d * b = ap (λ x. x * b) (sym (div-add-mod' c d)) ∙ omega arith in
    alike (a * d) (c * b) (a % b * d) (c % d * b) (λ l. omega arith) (λ e. omega arith) (λ m. omega arith)

pub less_whole : (a b c d : ℕ) → 0 < b → 0 < d → a / b < c / d → Less ≡ nat_cmp (a * d) (c * b)
less_whole a b c d pos_b pos_d l = nat_cmp_is (a * d) (c * b) Less (lower a b c d pos_b pos_d l)

pub more_whole : (a b c d : ℕ) → 0 < b → 0 < d → c / d < a / b → Greater ≡ nat_cmp (a * d) (c * b)
more_whole a b c d pos_b pos_d m = nat_cmp_is (a * d) (c * b) Greater (lower c d a b pos_d pos_b m)

-- rests of which one is 0 compare as the rests' fractions
zeros : (r s b d : ℕ) → 0 < b → 0 < d → (r ≡ 0) ⊎ (s ≡ 0) → nat_cmp r s ≡ nat_cmp (r * d) (s * b)
zeros r s b d pos_b pos_d zero = alike r s (r * d) (s * b)
    (λ l. elim zero [
      | inl z ↦ let more : b * 1 ≤ b * s = mul-le-mul_left b (omega arith) in omega (arith, ap (λ x. x * d) z)
      | inr z ↦ absurd (omega arith)
    ])
    (λ e. let left : r ≡ 0 = elim zero [ inl z ↦ z | inr z ↦ omega arith ] in
    let right : s ≡ 0 = omega arith in
    omega (arith, ap (λ x. x * d) left, ap (λ x. x * b) right))
    (λ m. elim zero [
      | inl z ↦ absurd (omega arith)
      | inr z ↦ let more : d * 1 ≤ d * r = mul-le-mul_left d (omega arith) in omega (arith, ap (λ x. x * b) z)
    ])

pub no_rest : (a b c d : ℕ) → 0 < b → 0 < d → a / b ≡ c / d → (a % b ≡ 0) ⊎ (c % d ≡ 0) → nat_cmp (a % b) (c % d) ≡ nat_cmp (a * d) (c * b)
no_rest a b c d pos_b pos_d same zero = zeros (a % b) (c % d) b d pos_b pos_d zero ∙ sym (rests a b c d same)

-- the rests turned over
pub turned : (a b c d : ℕ) → a / b ≡ c / d → nat_cmp (d * (a % b)) (b * (c % d)) ≡ nat_cmp (a * d) (c * b)
turned a b c d same = alike (d * (a % b)) (b * (c % d)) (a % b * d) (c % d * b) (λ l. omega arith) (λ e. omega arith) (λ m. omega arith) ∙ sym (rests a b c d same)
