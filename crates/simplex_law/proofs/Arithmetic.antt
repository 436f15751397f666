-- the ring laws and the order of whole numbers
use Rattle.std.proofs.Common.{◌≡◌, zero, suc, ◌≤◌, ◌+◌, ◌*◌, sym, ap, ◌∙◌, arith, subst, ℤ, pos, negsuc, ◌+ℤ◌, ◌-ℤ◌, ◌*ℤ◌, mul-le-mul_left, ◌<ℤ◌, ◌≤ℤ◌}
use Rattle.net_core.proofs.Library.{*ℤ_comm, *ℤ-zero, ints, by_lt_z}
use Rattle.checked_fraction.proofs.Products.{regroup, positive_product, cancelled}
use borrow.Author.Differences.{up, down, sum_is_lem}

pub distribute : (a b c : ℤ) → (a +ℤ b) *ℤ c ≡ (a *ℤ c) +ℤ (b *ℤ c)
distribute a b c = let u = ap (λ t. t * up c) (sum_is_lem a b) in let d = ap (λ t. t * down c) (sum_is_lem a b) in omega (arith, ints)

pub distribute_minus : (a b c : ℤ) → (a -ℤ b) *ℤ c ≡ (a *ℤ c) -ℤ (b *ℤ c)
distribute_minus a b c =
    let z = a -ℤ b in
    let e : up z + down a + up b ≡ down z + up a + down b = omega (arith, ints) in
    let u = ap (λ t. t * up c) e in let d = ap (λ t. t * down c) e in omega (arith, ints)

pub distribute_left : (a b c : ℤ) → c *ℤ (a +ℤ b) ≡ (c *ℤ a) +ℤ (c *ℤ b)
distribute_left a b c = let u = ap (λ t. t * up c) (sum_is_lem a b) in let d = ap (λ t. t * down c) (sum_is_lem a b) in omega (arith, ints)

pub minus_left : (a b c : ℤ) → c *ℤ (a -ℤ b) ≡ (c *ℤ a) -ℤ (c *ℤ b)
minus_left a b c = *ℤ_comm c (a -ℤ b) ∙ (distribute_minus a b c ∙ omega (arith, ints))

ruleset ring = (distribute, distribute_left, distribute_minus, regroup, *ℤ_comm)

-- the factors of a product of three in other orders
pub swap_last : (a b c : ℤ) → (a *ℤ b) *ℤ c ≡ (a *ℤ c) *ℤ b
swap_last a b c = regroup a b c ∙ (ap (λ s. a *ℤ s) (*ℤ_comm b c) ∙ sym (regroup a c b))

pub moved_out : (a b c : ℤ) → a *ℤ (b *ℤ c) ≡ b *ℤ (a *ℤ c)
moved_out a b c = sym (regroup a b c) ∙ (ap (λ s. s *ℤ c) (*ℤ_comm a b) ∙ regroup b a c)

pub combined_times : (a q p b c : ℤ) → ((a *ℤ q) -ℤ (p *ℤ b)) *ℤ c ≡ ((a *ℤ c) *ℤ q) -ℤ (p *ℤ (b *ℤ c))
combined_times a q p b c = grind (arith, ints, ring)

pub times_negative : (a b : ℤ) → a <ℤ pos 0 → pos 0 <ℤ b → (a *ℤ b) <ℤ pos 0
times_negative (pos a) b x y = absurd (omega (arith, ints))
times_negative (negsuc a) (pos zero) x y = absurd (omega (arith, ints))
times_negative (negsuc a) (negsuc b) x y = absurd (omega (arith, ints))
times_negative (negsuc a) (pos (suc b)) x y = omega (arith, ints)

pub le_times : (c a b : ℤ) → pos 0 ≤ℤ c → a ≤ℤ b → (c *ℤ a) ≤ℤ (c *ℤ b)
le_times (pos c) a b h le = let m : c * (up a + down b) ≤ c * (up b + down a) = mul-le-mul_left c (omega (arith, ints)) in omega (arith, ints)
le_times (negsuc c) a b h le = absurd (omega (arith, ints))

pub times_nonneg : (a b : ℤ) → pos 0 ≤ℤ a → pos 0 ≤ℤ b → pos 0 ≤ℤ (a *ℤ b)
times_nonneg a b ha hb = subst (λ z. z ≤ℤ (a *ℤ b)) (*ℤ-zero a) (le_times a (pos 0) b ha hb)

pub times_nonpositive : (a b : ℤ) → pos 0 ≤ℤ a → b ≤ℤ pos 0 → (a *ℤ b) ≤ℤ pos 0
times_nonpositive a b ha hb = subst (λ z. (a *ℤ b) ≤ℤ z) (*ℤ-zero a) (le_times a b (pos 0) ha hb)

pub times_less : (c a b : ℤ) → pos 0 <ℤ c → a <ℤ b → (c *ℤ a) <ℤ (c *ℤ b)
times_less c a b pc l = omega (arith, ints, positive_product c (b -ℤ a) pc (omega (arith, ints, l)), minus_left b a c)

-- a positive number isn't negative
pub weaken : (x : ℤ) → pos 0 <ℤ x → pos 0 ≤ℤ x
weaken x h = omega (arith, ints, h)

-- a positive factor may be taken away
pub lt_cancel : (g a b : ℤ) → pos 0 <ℤ g → (g *ℤ a) <ℤ (g *ℤ b) → a <ℤ b
lt_cancel g a b pg h = by_lt_z a b (λ lt. lt)
    (λ ge. let back : (g *ℤ b) ≤ℤ (g *ℤ a) = le_times g b a (omega (arith, ints, pg)) ge in absurd (omega (arith, ints, h, back)))

pub le_cancel : (g a b : ℤ) → pos 0 <ℤ g → (g *ℤ a) ≤ℤ (g *ℤ b) → a ≤ℤ b
le_cancel g a b pg h = by_lt_z b a
    (λ lt. let more : pos 0 <ℤ (a -ℤ b) = omega (arith, ints) in
    let t = positive_product g (a -ℤ b) pg more in
    absurd (omega (arith, ints, minus_left a b g, h, t)))
    (λ le. le)

pub positive_cancel : (g a : ℤ) → pos 0 <ℤ g → pos 0 <ℤ (g *ℤ a) → pos 0 <ℤ a
positive_cancel g a pg h = lt_cancel g (pos 0) a pg (subst (λ z. z <ℤ (g *ℤ a)) (sym (*ℤ-zero g)) h)

pub zero_cancel : (g a : ℤ) → pos 0 <ℤ g → g *ℤ a ≡ pos 0 → a ≡ pos 0
zero_cancel g a pg h = cancelled g a (pos 0) pg (h ∙ sym (*ℤ-zero g))
