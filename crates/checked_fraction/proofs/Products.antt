-- products of signed numbers
use Rattle.std.{proofs.Common.{◌≡◌, ℕ, zero, suc, ◌+◌, ◌*◌, ◌^◌, ◌<◌, ◌≤◌, unsigned_abs, ap, sym, ◌∙◌, arith, ℤ, pos, negsuc, ◌+ℤ◌, ◌-ℤ◌, ◌*ℤ◌, ◌<ℤ◌, mul-le-mul_left}, proofs.lemmas.Nat.mul-lt}
use Rattle.net_core.proofs.Library.{*ℤ_comm, zero-*ℤ, ints, by_lt_z, unsigned_abs-mul}
use borrow.Author.Differences.{up, down, sum_is_lem, product_is}

pub regroup : (a b c : ℤ) → (a *ℤ b) *ℤ c ≡ a *ℤ (b *ℤ c)
regroup a b c =
    let p = product_is a b in
    let r = product_is b c in
    let u = ap (λ t. t * up c) p.0 in
    let u' = ap (λ t. t * down c) p.0 in
    let d = ap (λ t. t * up c) p.1 in
    let d' = ap (λ t. t * down c) p.1 in
    let x = ap (λ t. up a * t) r.0 in
    let x' = ap (λ t. down a * t) r.0 in
    let y = ap (λ t. up a * t) r.1 in
    let y' = ap (λ t. down a * t) r.1 in
    omega (arith, ints)

-- the factor g goes from one product to the other
pub moved : (g x y : ℤ) → x *ℤ (g *ℤ y) ≡ (g *ℤ x) *ℤ y
moved g x y = sym (regroup x g y) ∙ ap (λ t. t *ℤ y) (*ℤ_comm x g)

-- a row with nothing taken from it, times q
pub nothing_taken : (a q b den : ℤ) → a *ℤ (den *ℤ q) ≡ ((a *ℤ q) -ℤ (pos 0 *ℤ b)) *ℤ den
nothing_taken a q b den =
    ap (λ t. a *ℤ t) (*ℤ_comm den q) ∙ (sym (regroup a q den) ∙ ap (λ t. t *ℤ den) (omega (arith, ints, zero-*ℤ b)))

pub positive_product : (a b : ℤ) → pos 0 <ℤ a → pos 0 <ℤ b → pos 0 <ℤ (a *ℤ b)
positive_product (pos zero) b pa pb = absurd (omega (arith, ints))
positive_product (pos (suc a)) (pos zero) pa pb = absurd (omega (arith, ints))
positive_product (pos (suc a)) (pos (suc b)) pa pb = omega (arith, ints)
positive_product (negsuc a) b pa pb = absurd (omega (arith, ints))
positive_product (pos (suc a)) (negsuc b) pa pb = absurd (omega (arith, ints))

-- one factor above 0 and the product too: so is the other factor
pub positive_factor : (g : ℕ) (a b : ℤ) → b ≡ pos g *ℤ a → pos 0 <ℤ b → pos 0 <ℤ a
positive_factor g (pos zero) b e p = absurd (omega (arith, ints, e))
positive_factor g (pos (suc a)) b e p = omega (arith, ints)
positive_factor g (negsuc a) b e p = absurd (omega (arith, ints, e))

pub times_minus : (g x y : ℤ) → g *ℤ (x -ℤ y) ≡ (g *ℤ x) -ℤ (g *ℤ y)
times_minus g x y =
    let z = x -ℤ y in
    let e : up z + down x + up y ≡ down z + up x + down y = omega (arith, ints) in
    let u = ap (λ t. up g * t) e in
    let d = ap (λ t. down g * t) e in
    omega (arith, ints)

pub times_plus : (g x y : ℤ) → g *ℤ (x +ℤ y) ≡ (g *ℤ x) +ℤ (g *ℤ y)
times_plus g x y =
    let u = ap (λ t. up g * t) (sum_is_lem x y) in
    let d = ap (λ t. down g * t) (sum_is_lem x y) in
    omega (arith, ints)

-- where both factors are d times as large, the number is, too
pub mixed_times : (d a q p b : ℤ) → (a *ℤ (d *ℤ q)) -ℤ ((d *ℤ p) *ℤ b) ≡ d *ℤ ((a *ℤ q) -ℤ (p *ℤ b))
mixed_times d a q p b = omega (arith, ints, moved d a q, regroup d a q, regroup d p b, times_minus d (a *ℤ q) (p *ℤ b))

pub cancelled : (g x y : ℤ) → pos 0 <ℤ g → g *ℤ x ≡ g *ℤ y → x ≡ y
cancelled g x y pg e = by_lt_z x y
    (λ l. let more : pos 0 <ℤ (y -ℤ x) = omega (arith, ints) in let t = positive_product g (y -ℤ x) pg more in absurd (omega (arith, ints, times_minus g y x, t, e)))
    (λ ge. by_lt_z y x
    (λ l. let more : pos 0 <ℤ (x -ℤ y) = omega (arith, ints) in let t = positive_product g (x -ℤ y) pg more in absurd (omega (arith, ints, times_minus g x y, t, e)))
    (λ le. omega (arith, ints, ge, le)))

-- a multiple is at least as large
pub size_times : (d : ℕ) (z : ℤ) → 0 < d → unsigned_abs z ≤ unsigned_abs (pos d *ℤ z)
size_times d z pd = let m : unsigned_abs z * 1 ≤ unsigned_abs z * d = mul-le-mul_left (unsigned_abs z) (omega (arith, pd)) in omega (arith, m, unsigned_abs-mul (pos d) z)

-- the size of a product of narrow numbers
pub narrow_product : (a b : ℤ) → unsigned_abs a < 2 ^ 62 → unsigned_abs b < 2 ^ 62 → unsigned_abs (a *ℤ b) < 2 ^ 124
narrow_product a b na nb = let m : unsigned_abs a * unsigned_abs b < 2 ^ 62 * 2 ^ 62 = mul-lt (unsigned_abs a) (unsigned_abs b) (2 ^ 62) (2 ^ 62) na nb in omega (arith, m, unsigned_abs-mul a b)

-- where one of them is small
pub small_product : (a b : ℤ) → unsigned_abs a < 2 ^ 62 → unsigned_abs b ≤ 2 ^ 14 → unsigned_abs (a *ℤ b) ≤ 2 ^ 76
small_product a b na sb = let m : unsigned_abs a * unsigned_abs b ≤ unsigned_abs a * 2 ^ 14 = mul-le-mul_left (unsigned_abs a) sb in omega (arith, m, unsigned_abs-mul a b, na)
