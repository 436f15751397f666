-- the capacities of a share, over a common divisor of theirs
use Rattle.std.proofs.Common.{◌≡◌, ℕ, zero, suc, ◌+◌, ◌*◌, ◌/◌, ◌<◌, List, [], ◌∷◌, ◌++◌, get_or, length, map, take, zip, refl, sym, ap, subst, ◌∙◌, arith}
use Rattle.net_core.proofs.Library.{◌∣◌, get_or-map, length-map, map-append, take_more, All-head, All-tail, get_or-zip, length-zip, mul-div_cancel', positive_divisor}
use Rattle.plan_terms.specs.Terms.{Caps, IsGreatestDivisor, Link}
use Rattle.module_prices.specs.declared.cheapest.UnitPair.{UnitPair}
use Rattle.plan_types.specs.declared.quality.Share.{Share}
use Rattle.master_law.{specs.Terms.{share_capacities, share_caps}, proofs.Capacities.share_count}
use Rattle.plan_rounds.{specs.inner.Sharing.{DividesAll, IsDividedCaps, IsDividedShare}, specs.declared.shares.ShareCaps.ShareCaps}

-- the capacity of one link more
pub number_more : (links : List Link) (pairs : List UnitPair) (share : Share) (e : ℕ) (l : Link) (p : UnitPair) (u : ℕ) → length pairs ≡ length links → length share.units ≡ length links → e < length links
    → take (e + 1) (share_capacities links pairs share) ≡ take e (share_capacities links pairs share) ++ ((get_or links e l).fixed * share.scale + (get_or pairs e p).capacity * get_or share.units e u) ∷ []
number_more links pairs share e l p u same units inside =
    take_more (share_capacities links pairs share) e 0 (subst (λ n. e < n) (sym (length-map rows number)) in_rows)
    ∙ ap (λ n. take e (share_capacities links pairs share) ++ n ∷ []) (get_or-map number rows e (l, (p, u)) 0 in_rows ∙ ap number here)
  where
    rows : List (Link × (UnitPair × ℕ))
    rows = zip links (zip pairs share.units)

    number : Link × (UnitPair × ℕ) → ℕ
    number r = r.0.fixed * share.scale + r.1.0.capacity * r.1.1

    in_pairs : e < length (zip pairs share.units)
    in_pairs = omega (arith, inside, same, units, length-zip pairs share.units)

    in_rows : e < length rows
    in_rows = omega (arith, inside, in_pairs, length-zip links (zip pairs share.units))

    here : get_or rows e (l, (p, u)) ≡ (get_or links e l, (get_or pairs e p, get_or share.units e u))
    here = get_or-zip links (zip pairs share.units) e (l, (p, u)) inside in_pairs
        ∙ ap (λ q. (get_or links e l, q)) (get_or-zip pairs share.units e (p, u) (omega (arith, inside, same)) (omega (arith, inside, units)))

-- the greatest common divisor of a positive scale and of numbers
pub divides_all : (scale : ℕ) (nums : List ℕ) (g : ℕ) → 0 < scale → IsGreatestDivisor (scale ∷ nums) g → DividesAll scale nums g
divides_all scale nums g some is =
    let of_scale : g ∣ scale = All-head (λ n. g ∣ n) scale nums is.divides in
    record { positive = positive_divisor g scale some of_scale; of_scale = of_scale; of_nums = All-tail (λ n. g ∣ n) scale nums is.divides }

pub over_more : (divisor : ℕ) (nums divided : List ℕ) (n d : ℕ) → n < length nums → divisor ∣ get_or nums n d → map (λ x. divisor * x) divided ≡ take n nums → map (λ x. divisor * x) (divided ++ get_or nums n d / divisor ∷ []) ≡ take (n + 1) nums
over_more divisor nums divided n d lt divides sofar =
    map-append (λ x. divisor * x) divided (get_or nums n d / divisor ∷ [])
    ∙ (ap (λ xs. xs ++ divisor * (get_or nums n d / divisor) ∷ []) sofar
    ∙ (ap (λ x. take n nums ++ x ∷ []) (mul-div_cancel' divisor divides) ∙ sym (take_more nums n d lt)))

abbrev caps_with : ℕ → List ℕ → Caps
caps_with scale nums = record { scale = scale; nums = nums }

pub divided_caps : (whole : Caps) (divided : List ℕ) (divisor : ℕ) → DividesAll whole.scale whole.nums divisor → map (λ x. divisor * x) divided ≡ whole.nums
    → IsDividedCaps whole (record { whole = whole; divided = record { scale = whole.scale / divisor; nums = divided }; divisor = divisor })
divided_caps whole divided divisor all times = record {
  whole = refl;
  positive = all.positive;
  times = same_caps _ _ _ _ (mul-div_cancel' divisor all.of_scale) times;
}
  where
    same_caps : (a b : ℕ) (xs ys : List ℕ) → a ≡ b → xs ≡ ys → caps_with a xs ≡ caps_with b ys
    same_caps a b xs ys scale nums = cc (scale, nums)

-- the divided capacities have a positive scale and a number for each link
pub divided_scale : (caps : Caps) (c : ShareCaps) → 0 < caps.scale → IsDividedCaps caps c → 0 < c.divided.scale
divided_scale caps c some is = positive c.divisor c.divided.scale (ap (λ k. k.scale) is.times ∙ ap (λ k. k.scale) is.whole)
  where
    positive : (d s : ℕ) → d * s ≡ caps.scale → 0 < s
    positive d zero e = absurd (omega (arith, e, some))
    positive d (suc s) e = omega arith

pub divided_length : (caps : Caps) (c : ShareCaps) → IsDividedCaps caps c → length c.divided.nums ≡ length caps.nums
divided_length caps c is = sym (length-map c.divided.nums (λ n. c.divisor * n)) ∙ (ap (λ k. length k.nums) is.times ∙ ap (λ k. length k.nums) is.whole)

pub divided_count : (links : List Link) (pairs : List UnitPair) (share : Share) (c : ShareCaps) → length pairs ≡ length links → length share.units ≡ length links → IsDividedShare links pairs share c → length c.divided.nums ≡ length links
divided_count links pairs share c same units is = divided_length (share_caps links pairs share) c is ∙ share_count links pairs share same units
