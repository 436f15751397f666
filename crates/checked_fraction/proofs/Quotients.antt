-- exact quotients of signed numbers
use Rattle.std.{proofs.Common.{◌≡◌, ℕ, ℤ, zero, suc, pos, negsuc, ◌<◌, ◌≤◌, ◌*◌, ◌/◌, ◌*ℤ◌, int_div, unsigned_abs, refl, ap, ◌∙◌, arith, div-mul-le_self}, proofs.Math.IntN.{neg_ℤ, pos-*ℤ-negsuc}}
use Rattle.net_core.proofs.Library.{ints, mul-div_cancel', le-div, ◌∣◌}

times_neg : (g q : ℕ) → pos g *ℤ neg_ℤ (pos q) ≡ neg_ℤ (pos (g * q))
times_neg g zero = omega (arith, ints)
times_neg g (suc q) = pos-*ℤ-negsuc g q

pub exact_quotient : (g : ℕ) (a : ℤ) → g ∣ unsigned_abs a → pos g *ℤ int_div a (pos g) ≡ a
exact_quotient g (pos a) h = let e = mul-div_cancel' g h in omega (arith, ints)
exact_quotient g (negsuc a) h = times_neg g (suc a / g) ∙ ap (λ x. neg_ℤ (pos x)) (mul-div_cancel' g h)

size_of_neg : (n : ℕ) → unsigned_abs (neg_ℤ (pos n)) ≡ n
size_of_neg zero = refl
size_of_neg (suc n) = refl

pub size_of_quotient : (a : ℤ) (g : ℕ) → unsigned_abs (int_div a (pos g)) ≡ unsigned_abs a / g
size_of_quotient (pos a) g = refl
size_of_quotient (negsuc a) g = size_of_neg (suc a / g)

-- a quotient is no greater than that of a greater number
pub quotient_below : (a : ℤ) (g top limit : ℕ) → 0 < g → unsigned_abs a ≤ top → top / g < limit → unsigned_abs (int_div a (pos g)) < limit
quotient_below a g top limit pg le lt =
    let e = size_of_quotient a g in
    let less : unsigned_abs a / g ≤ top / g = le-div (unsigned_abs a / g) top g pg (omega (arith, div-mul-le_self (unsigned_abs a) g)) in
    omega arith
