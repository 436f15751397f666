-- numbers, digit by digit
use Rattle.std.proofs.Common.{◌≡◌, ℕ, true, zero, suc, ◌+◌, ◌-◌, ◌*◌, ◌^◌, ◌<◌, ◌≤◌, min, List, [], ◌∷◌, ◌++◌, length, get_or, take, drop, replicate, ap, ◌∙◌, subst, refl, sym, arith, drop-cons, add-one, length-append, length-take, pow-add, pow-suc, mul-le-mul_left}
use Rattle.net_core.proofs.Library.{list_all, and_from, and_parts, length-replicate, pow-le-pow_right}
use Rattle.snd_tokens.{specs.Digits.{is_digit, number_of, number_after}, specs.Amounts.first_places}

-- the first of the digits goes after the number
cons : (n b : ℕ) (bytes : List ℕ) → number_after n (b ∷ bytes) ≡ number_after (n * 10 + (b - 48)) bytes
cons n b bytes =
    let p : ℕ = 10 ^ length bytes in
    let s : 10 ^ suc (length bytes) ≡ p * 10 = pow-suc 10 (length bytes) in
    rw s (omega arith)

pub number_after-digit : (n : ℕ) (bytes : List ℕ) (i : ℕ) → i < length bytes → number_after n (drop i bytes) ≡ number_after (n * 10 + (get_or bytes i 0 - 48)) (drop (i + 1) bytes)
number_after-digit n bytes i h =
    let split : drop i bytes ≡ get_or bytes i 0 ∷ drop (i + 1) bytes = rw (add-one) (drop-cons bytes i 0 h) in
    ap (number_after n) split ∙ cons n (get_or bytes i 0) (drop (i + 1) bytes)

-- more digits make no less
pub number_after-le : (n : ℕ) (bytes : List ℕ) → n ≤ number_after n bytes
number_after-le n bytes =
    let positive_base : 0 < 10 = omega arith in
    let zero_le : 0 ≤ length bytes = omega arith in
    let positive : 10 ^ 0 ≤ 10 ^ length bytes = pow-le-pow_right positive_base zero_le in
    let more : n * 1 ≤ n * 10 ^ length bytes = mul-le-mul_left n positive in
    omega arith

pub number_after-zero : (bytes : List ℕ) → number_after 0 bytes ≡ number_of bytes
number_after-zero bytes = omega arith

-- one makes at least one unit
pub units_more : (count w : ℕ) → w ≤ 10 ^ count * w
units_more count w =
    let positive_base : 0 < 10 = omega arith in
    let zero_le : 0 ≤ count = omega arith in
    let positive : 10 ^ 0 ≤ 10 ^ count = pow-le-pow_right positive_base zero_le in
    let more : w * 1 ≤ w * 10 ^ count = mul-le-mul_left w positive in
    omega (arith, more)

-- the first of some digits
pub first_digits : (n : ℕ) (ds : List ℕ) → list_all is_digit ds ≡ true → list_all is_digit (take n ds) ≡ true
first_digits zero ds all = refl
first_digits (suc n) [] all = refl
first_digits (suc n) (d ∷ ds) all =
    let p = and_parts (is_digit d) (list_all is_digit ds) all in
    and_from (is_digit d) (list_all is_digit (take n ds)) p.0 (first_digits n ds p.1)

-- digits after digits
number_of-append : (xs ys : List ℕ) → number_of (xs ++ ys) ≡ number_of xs * 10 ^ length ys + number_of ys
number_of-append [] ys = omega arith
number_of-append (x ∷ xs) ys =
    let power : 10 ^ length (xs ++ ys) ≡ 10 ^ length xs * 10 ^ length ys = ap (λ n. 10 ^ n) (length-append xs ys) ∙ pow-add 10 (length xs) (length ys) in
    rw (power, number_of-append xs ys) (omega arith)

number_after-append : (n : ℕ) (xs ys : List ℕ) → number_after (number_after n xs) ys ≡ number_after n (xs ++ ys)
number_after-append n xs ys =
    let power : 10 ^ length (xs ++ ys) ≡ 10 ^ length xs * 10 ^ length ys = ap (λ k. 10 ^ k) (length-append xs ys) ∙ pow-add 10 (length xs) (length ys) in
    rw (power, number_of-append xs ys) (omega arith)

zeros_few : (n m : ℕ) → n ≤ m → take {A = ℕ} n (replicate m 48) ≡ replicate n 48
zeros_few zero m le = refl
zeros_few (suc n) zero le = absurd (omega (arith, le))
zeros_few (suc n) (suc m) le = ap (λ (zs : List ℕ). 48 ∷ zs) (zeros_few n m (omega (arith, le)))

-- the shown places, and the zeros that fill them up
shown_filled : (n m shown : ℕ) (places : List ℕ) → n ≤ m → shown ≡ min (length places) n → take n (places ++ replicate m 48) ≡ take shown places ++ replicate (n - shown) 48
shown_filled n m shown [] le e =
    let none : 0 ≡ shown = omega (arith, e) in
    let all : n ≡ n - 0 = omega arith in
    subst (λ k. take {A = ℕ} n (replicate m 48) ≡ take k [] ++ replicate (n - k) 48) none (zeros_few n m le ∙ ap (λ k. replicate {A = ℕ} k 48) all)
shown_filled zero m shown (b ∷ places) le e =
    let none : 0 ≡ shown = omega (arith, e) in
    subst (λ k. [] ≡ take k (b ∷ places) ++ replicate (0 - k) 48) none refl
shown_filled (suc n) m shown (b ∷ places) le e =
    let k : ℕ = min (length places) n in
    let one : suc k ≡ shown = omega (arith, e) in
    let size : n - k ≡ suc n - suc k = omega arith in
    subst (λ j. b ∷ take n (places ++ replicate m 48) ≡ take j (b ∷ places) ++ replicate (suc n - j) 48) one
    (ap (λ (bs : List ℕ). b ∷ bs) (shown_filled n m k places (omega (arith, le)) refl ∙ ap (λ j. take k places ++ replicate j 48) size))

first_size : (count : ℕ) (places : List ℕ) → length (first_places count places) ≡ count
first_size count places =
    let filling : length (replicate {A = ℕ} count 48) ≡ count = length-replicate {A = ℕ} count 48 in
    omega (arith, length-take count (places ++ replicate count 48), length-append places (replicate count 48), filling)

-- what is shown and filled up is a number of units
pub units_value : (w count : ℕ) (places : List ℕ) (shown : ℕ) → count ≤ 6 → shown ≡ min (length places) count → number_after (number_after w (take shown places)) (take (count - shown) (replicate 6 48)) ≡ 10 ^ count * w + number_of (first_places count places)
units_value w count places shown few e =
    let some : count - shown ≤ 6 = omega (arith, few) in
    let enough : count ≤ count = omega arith in
    let filled : take shown places ++ take (count - shown) (replicate 6 48) ≡ first_places count places =
    ap (λ (zs : List ℕ). take shown places ++ zs) (zeros_few (count - shown) 6 some) ∙ sym (shown_filled count count shown places enough e) in
    number_after-append w (take shown places) (take (count - shown) (replicate 6 48)) ∙ ap (number_after w) filled ∙ rw (first_size count places) (omega arith)
