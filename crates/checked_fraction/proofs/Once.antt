-- there is one row in lowest terms
use Rattle.std.{proofs.Common.{ℕ, ℤ, zero, suc, pos, ◌≡◌, ◌+◌, ◌-◌, ◌*◌, ◌/◌, ◌%◌, ◌<◌, ◌*ℤ◌, unsigned_abs, sym, ap, subst, ◌∙◌, arith, ◌<ℤ◌, div-add-mod'}, proofs.Math.Nat.dvd-sub}
use Rattle.net_core.proofs.Library.{◌∣◌, ints, unsigned_abs-mul, dvd_refl, dvd-zero, dvd_antisymm, *ℤ_comm, dvd-add, dvd-mul_left, dvd-mul_left_of_dvd, dvd_of_mul-dvd-mul_left, mul-div_cancel', positive_divisor}
use Rattle.checked_fraction.{specs.Rows.IsReduced, proofs.Products.{regroup, moved, cancelled}}

pub divides_back : (g a b : ℕ) → g ∣ b → g ∣ a % b → g ∣ a
divides_back g a b h r = subst (λ x. g ∣ x) (div-add-mod' a b) (dvd-add g (dvd-mul_left_of_dvd g h (a / b)) r)

-- what two numbers are and rests keep, a common divisor of the two is
pub shared_divisor : (P : ℕ → Type 0) → ((x y : ℕ) → P x → P y → P (x % y)) → (fuel a b : ℕ) → b < fuel → P a → P b → (g : ℕ) × (g ∣ a) × (g ∣ b) × P g
shared_divisor P rest zero a b lt pa pb = absurd (omega arith)
shared_divisor P rest (suc fuel) a zero lt pa pb = (a, dvd_refl a, dvd-zero a, pa)
shared_divisor P rest (suc fuel) a (suc b) lt pa pb =
    let s = shared_divisor P rest fuel (suc b) (a % suc b) (omega arith) pb (rest a (suc b) pa pb) in
    (s.0, divides_back s.0 a (suc b) s.1 s.2, s.1, s.3)

-- what divides multiples of two numbers divides that multiple of their rest
pub divides_rest : (n c x y : ℕ) → n ∣ c * x → n ∣ c * y → n ∣ c * (x % y)
divides_rest n c x y dx dy =
    let h : c * (x / y * y + x % y) ≡ c * x = ap (λ t. c * t) (div-add-mod' x y) in
    let e : c * x - x / y * (c * y) ≡ c * (x % y) = omega arith in
    subst (λ t. n ∣ t) e (dvd-sub n dx (dvd-mul_left_of_dvd n dy (x / y)))

-- d divides each number times m
Divides : ℕ → (ℕ → ℕ) → ℕ → ℕ → Type 0
Divides n sizes d m = (k : ℕ) → k < n → d ∣ sizes k * m

all_divide_rest : (n : ℕ) (sizes : ℕ → ℕ) (d x y : ℕ) → Divides n sizes d x → Divides n sizes d y → Divides n sizes d (x % y)
unfolding Divides
all_divide_rest n sizes d x y dx dy k lt = divides_rest d (sizes k) x y (dx k lt) (dy k lt)

-- a divisor of the numbers times w that is lowest beside them divides w
lowest_divides : (n : ℕ) (sizes : ℕ → ℕ) (d w : ℕ) → 0 < d → Divides n sizes d w → ((e : ℕ) → e ∣ d → ((k : ℕ) → k < n → e ∣ sizes k) → e ≡ 1) → d ∣ w
unfolding Divides
lowest_divides n sizes d w pd all lowest =
    let s = shared_divisor (Divides n sizes d) (all_divide_rest n sizes d) (suc w) d w (omega arith) (λ k l. dvd-mul_left d (sizes k)) all in
    let g = s.0 in
    let back : g * (d / g) ≡ d = mul-div_cancel' g s.1 in
    let pg : 0 < g = positive_divisor g d pd s.1 in
    let one : d / g ≡ 1 = lowest (d / g)
    (subst (λ x. d / g ∣ x) back (dvd-mul_left (d / g) g))
    (λ k l. dvd_of_mul-dvd-mul_left {k = g} (d / g) {n = sizes k} pg (subst (λ x. x ∣ g * sizes k) (sym back) (subst (λ x. d ∣ x) (turned (sizes k) g) (s.3 k l)))) in
    let same : g ≡ d = omega (arith, ap (λ t. g * t) one) in
    subst (λ x. x ∣ w) same s.2
  where
    turned : (a b : ℕ) → a * b ≡ b * a
    turned a b = omega arith

den_divides : (n : ℕ) (raw : ℕ → ℤ) (whole : ℤ) (nums : ℕ → ℤ) (den : ℤ) → IsReduced n raw whole nums den → unsigned_abs den ∣ unsigned_abs whole
unfolding Divides
den_divides n raw whole nums den r = lowest_divides n (λ k. unsigned_abs (nums k)) (unsigned_abs den) (unsigned_abs whole)
    (size_positive den r.positive)
    (λ k l. subst (λ x. unsigned_abs den ∣ x)
    (sym (unsigned_abs-mul (raw k) den) ∙ (ap unsigned_abs (sym (r.same k l)) ∙ unsigned_abs-mul (nums k) whole))
    (dvd-mul_left (unsigned_abs den) (unsigned_abs (raw k))))
    r.lowest
  where
    size_positive : (a : ℤ) → pos 0 <ℤ a → 0 < unsigned_abs a
    size_positive a p = omega (arith, ints)

of_size : (a : ℤ) → pos 0 <ℤ a → pos (unsigned_abs a) ≡ a
of_size a p = omega (arith, ints)

-- the row before was a whole number of times the row in lowest terms
pub times_reduced : (n : ℕ) (raw : ℕ → ℤ) (whole : ℤ) (nums : ℕ → ℤ) (den : ℤ) → pos 0 <ℤ whole → IsReduced n raw whole nums den
    → (g : ℕ) × (whole ≡ pos g *ℤ den) × ((k : ℕ) → k < n → raw k ≡ pos g *ℤ nums k)
times_reduced n raw whole nums den pw r =
    let d = unsigned_abs den in
    let g = unsigned_abs whole / d in
    let back : d * g ≡ unsigned_abs whole = mul-div_cancel' d (den_divides n raw whole nums den r) in
    let all : whole ≡ pos g *ℤ den = sym (of_size whole pw) ∙ (product_of d g (unsigned_abs whole) back ∙ ap (λ t. pos g *ℤ t) (of_size den r.positive)) in (
      g,
      all,
      λ k l. cancelled den (raw k) (pos g *ℤ nums k) r.positive
          (*ℤ_comm den (raw k) ∙ (sym (r.same k l) ∙ (ap (λ t. nums k *ℤ t) all ∙ (moved (pos g) (nums k) den ∙ *ℤ_comm (pos g *ℤ nums k) den)))),
    )
  where
    product_of : (d g w : ℕ) → d * g ≡ w → pos w ≡ pos g *ℤ pos d
    product_of d g w e = omega (arith, ints)

-- of two rows in lowest terms that reduce one row of fractions, each reduces the other
over_other : (n : ℕ) (raw : ℕ → ℤ) (whole : ℤ) (nums : ℕ → ℤ) (den : ℤ) (others : ℕ → ℤ) (other : ℤ) → pos 0 <ℤ whole
    → IsReduced n raw whole nums den → IsReduced n raw whole others other → IsReduced n others other nums den
over_other n raw whole nums den others other pw r s = record {
  positive = r.positive;
  same = λ k l. cancelled whole (nums k *ℤ other) (others k *ℤ den) pw (crossed whole (nums k) other (others k) den (raw k) (r.same k l) (s.same k l));
  lowest = r.lowest;
}
  where
    crossed : (w a e b d x : ℤ) → a *ℤ w ≡ x *ℤ d → b *ℤ w ≡ x *ℤ e → w *ℤ (a *ℤ e) ≡ w *ℤ (b *ℤ d)
    crossed w a e b d x p q =
        sym (regroup w a e) ∙ (ap (λ t. t *ℤ e) (*ℤ_comm w a ∙ p) ∙ (regroup x d e ∙ (ap (λ t. x *ℤ t) (*ℤ_comm d e)
        ∙ (sym (regroup x e d) ∙ (ap (λ t. t *ℤ d) (sym q ∙ *ℤ_comm b w) ∙ regroup w b d)))))

pub reduced_once : (n : ℕ) (raw : ℕ → ℤ) (whole : ℤ) (nums : ℕ → ℤ) (den : ℤ) (others : ℕ → ℤ) (other : ℤ) → pos 0 <ℤ whole
    → IsReduced n raw whole nums den → IsReduced n raw whole others other → (den ≡ other) × ((k : ℕ) → k < n → nums k ≡ others k)
reduced_once n raw whole nums den others other pw r s =
    let there = over_other n raw whole nums den others other pw r s in
    let back = over_other n raw whole others other nums den pw s r in
    let size : unsigned_abs den ≡ unsigned_abs other = dvd_antisymm (den_divides n others other nums den there) (den_divides n nums den others other back) in
    let dens : den ≡ other = sym (of_size den r.positive) ∙ (ap pos size ∙ of_size other s.positive) in (
      dens,
      λ k l. cancelled den (nums k) (others k) r.positive
          (ap (λ t. t *ℤ nums k) dens ∙ (*ℤ_comm other (nums k) ∙ (there.same k l ∙ *ℤ_comm (others k) den))),
    )
