-- Numbers and money as they are written, and read again.
use Rattle.std.{proofs.Common.{◌≡◌, ℕ, zero, suc, ◌+◌, ◌-◌, ◌*◌, ◌^◌, ◌/◌, ◌%◌, ◌≤◌, ◌<◌, ◌==◌, ◌||◌, Bool, true, false, nat_le, List, [], ◌∷◌, ◌++◌, length, take, drop, replicate, Ok, refl, sym, ap, ◌∙◌, arith, append-nil, length-append, subst, decimal, bytes_eq, ne_eqb, lt-ltb, le-leb, leb-true, drop-drop}, proofs.Math.Nat.{pow-suc, mul-le-mul_left, div-div-eq-div-mul}, proofs.lemmas.List.Folds.list_all-append, proofs.lemmas.Fmt.decimal_by_steps_wide}
use Rattle.net_core.{proofs.Library.{list_all, position_or_len, and_from, or_right, and_parts, pow-le-pow_right, drop_all}, specs.declared.places.Places.Places, specs.declared.places.Places.TheVariants.{Three, Six}, specs.Terms.{digits_after_point, is_plain, is_word_byte}}
use Rattle.snd_tokens.specs.Terms.{decimal_below, first_places, is_coarse, is_decimal, is_point, money_of, places_of, units, whole_part, is_digit, are_digits, number_of, begins_with_zero, whole_of}
use Rattle.text_kit.specs.Written.{last_digit, last_digits, money_word}

or_true : (a : Bool) → (a || true) ≡ true
or_true true = refl
or_true false = refl

pub take_first : (w bytes : List ℕ) → take (length w) (w ++ bytes) ≡ w
take_first [] bytes = refl
take_first (b ∷ w) bytes = ap (λ (ws : List ℕ). b ∷ ws) (take_first w bytes)

pub drop_first : (w bytes : List ℕ) → drop (length w) (w ++ bytes) ≡ bytes
drop_first [] bytes = refl
drop_first (b ∷ w) bytes = drop_first w bytes

-- digits without a zero in front write a number
pub record Writes (n : ℕ) (ds : List ℕ) : Type 0 where
  pub value : number_of ds ≡ n
  pub digits : list_all is_digit ds ≡ true
  pub some : 1 ≤ length ds
  pub zero : n ≡ 0 → ds ≡ 48 ∷ []
  pub other : 0 < n → begins_with_zero ds ≡ false

number_push : (ds : List ℕ) (d : ℕ) → number_of (ds ++ d ∷ []) ≡ number_of ds * 10 + (d - 48)
number_push [] d = omega arith
number_push (b ∷ ds) d =
    let size : length (ds ++ d ∷ []) ≡ suc (length ds) = omega (arith, length-append ds (d ∷ [])) in
    let power : 10 ^ length (ds ++ d ∷ []) ≡ 10 ^ length ds * 10 = ap (λ k. 10 ^ k) size ∙ pow-suc 10 (length ds) in
    rw (power, number_push ds d) (omega arith)

digit_is : (d : ℕ) → d < 10 → is_digit (48 + d) ≡ true
digit_is d lt = rw (le-leb 48 (48 + d) (omega arith), le-leb (48 + d) 57 (omega (arith, lt))) refl

one_digit : (n : ℕ) → n < 10 → Writes n ((48 + n) ∷ [])
one_digit n lt = record {
  value = omega arith;
  digits = rw (digit_is n lt) refl;
  some = omega arith;
  zero = λ e. rw e refl;
  other = λ some. ne_eqb (48 + n) 48 (λ e. omega (arith, some, e));
}

push_begins : (ds : List ℕ) (d : ℕ) → 1 ≤ length ds → begins_with_zero ds ≡ false → begins_with_zero (ds ++ d ∷ []) ≡ false
push_begins [] d some e = absurd (omega (arith, some))
push_begins (b ∷ ds) d some e = e

more_digits : (n : ℕ) (ds : List ℕ) → 10 ≤ n → Writes (n / 10) ds → Writes n (ds ++ (48 + n % 10) ∷ [])
more_digits n ds large w =
    let low : n % 10 < 10 = omega arith in
    record {
      value = number_push ds (48 + n % 10) ∙ omega (arith, w.value);
      digits = list_all-append is_digit ds ((48 + n % 10) ∷ []) ∙ rw (w.digits, digit_is (n % 10) low) refl;
      some = omega (arith, length-append ds ((48 + n % 10) ∷ []));
      zero = λ e. absurd (omega (arith, large, e));
      other = λ some. push_begins ds (48 + n % 10) w.some (w.other (omega (arith, large)));
    }

pub decimal_writes : (n : ℕ) → n < 2 ^ 126 → Writes n (decimal n)
decimal_writes n lt = decimal_by_steps_wide Writes one_digit more_digits n (omega (arith, lt))

are_some : (ds : List ℕ) → 1 ≤ length ds → list_all is_digit ds ≡ true → are_digits ds ≡ true
are_some [] some all = absurd (omega (arith, some))
are_some (b ∷ ds) some all = all

-- a number is read again
pub whole_again : (n : ℕ) (ds : List ℕ) → n < 2 ^ 126 → Writes n ds → whole_of ds ≡ Ok n
unfolding whole_of
whole_again zero ds lt w = rw (w.zero refl) refl
whole_again (suc n) ds lt w =
    rw (are_some ds w.some w.digits, w.other (omega arith), w.value, or_true (bytes_eq ds (48 ∷ [])), lt-ltb (suc n) (2 ^ 126) lt) refl

-- ---- the point

digit_no_point : (b : ℕ) → is_digit b ≡ true → is_point b ≡ false
digit_no_point b e =
    let low = leb-true 48 b (and_parts (nat_le 48 b) (nat_le b 57) e).0 in
    ne_eqb b 46 (λ i. omega (arith, low, i))

point_place : (ds more : List ℕ) → list_all is_digit ds ≡ true → position_or_len is_point (ds ++ 46 ∷ more) ≡ length ds
point_place [] more all = refl
point_place (b ∷ ds) more all =
    let p = and_parts (is_digit b) (list_all is_digit ds) all in
    rw (digit_no_point b p.0, point_place ds more p.1) (omega arith)

drop_past : (ds more : List ℕ) → drop (length ds + 1) (ds ++ 46 ∷ more) ≡ more
drop_past ds more = sym (drop-drop 1 (length ds) (ds ++ 46 ∷ more)) ∙ ap (drop 1) (drop_first ds (46 ∷ more))

-- ---- the last digits

last_digits_are : (k n : ℕ) → list_all is_digit (last_digits k n) ≡ true
last_digits_are zero n = refl
last_digits_are (suc k) n = rw (digit_is (n / 10 ^ k % 10) (omega arith), last_digits_are k n) refl

pub last_few : (k n : ℕ) → length (last_digits k n) ≡ k
last_few zero n = refl
last_few (suc k) n = omega (arith, last_few k n)

-- the digits that are left, and the last one of them
last_value : (k n : ℕ) → 10 ^ k * (n / 10 ^ k) + number_of (last_digits k n) ≡ n
last_value zero n = omega arith
last_value (suc k) n =
    let p : ℕ = 10 ^ k in
    let q : ℕ = n / p in
    let power : 10 ^ suc k ≡ p * 10 = pow-suc 10 k in
    let whole : n / (p * 10) ≡ q / 10 = sym (div-div-eq-div-mul n p 10) in
    let digit : last_digit q - 48 ≡ q % 10 = omega arith in
    let tens : q ≡ q / 10 * 10 + q % 10 = omega arith in
    let split : p * q ≡ p * (q / 10 * 10 + q % 10) = ap (λ x. p * x) tens in
    rw (power, whole, last_few k n, digit) (omega (arith, last_value k n, split))

pub whole_below : (k n : ℕ) → n / 10 ^ k ≤ n
whole_below k n =
    let positive_base : 0 < 10 = omega arith in
    let zero_le : 0 ≤ k = omega arith in
    let positive : 10 ^ 0 ≤ 10 ^ k = pow-le-pow_right positive_base zero_le in
    let more : n / 10 ^ k * 1 ≤ n / 10 ^ k * 10 ^ k = mul-le-mul_left (n / 10 ^ k) positive in
    omega (arith, more, last_value k n)

-- ---- money

pub places_few : (p : Places) → (1 ≤ digits_after_point p) × (digits_after_point p ≤ 6)
places_few Three = (omega arith, omega arith)
places_few Six = (omega arith, omega arith)

decimal_read : (k limit n : ℕ) (w : List ℕ) → is_decimal w ≡ true → is_coarse k w ≡ true → units k w ≡ n → n < limit → decimal_below k limit w ≡ Ok n
decimal_read k limit n w d c u lt = rw (d, c, u, lt-ltb n limit lt) refl

-- as many digits as count are all of the first places
first_all : (k : ℕ) (ds : List ℕ) → length ds ≡ k → first_places k ds ≡ ds
first_all k ds e = subst (λ m. take m (ds ++ replicate k 48) ≡ ds) e (take_first ds (replicate k 48))

no_more : (k : ℕ) (ds : List ℕ) → length ds ≡ k → list_all (λ b. b == 48) (drop k ds) ≡ true
no_more k ds e = ap (λ (v : List ℕ). list_all (λ b. b == 48) v) (drop_all k ds (omega (arith, e)))

-- money is read again
pub money_again : (p : Places) (n : ℕ) → n < 2 ^ 126 → money_of p (money_word p n) ≡ Ok n
unfolding money_of
money_again p n lt =
    let k = digits_after_point p in
    let ds = decimal (n / 10 ^ k) in
    let w = decimal_writes (n / 10 ^ k) (omega (arith, lt, whole_below k n)) in
    let places = last_digits k n in
    let word = money_word p n in
    let point : position_or_len is_point word ≡ length ds = point_place ds places w.digits in
    let front : whole_part word ≡ ds = ap (λ k. take k word) point ∙ take_first ds (46 ∷ places) in
    let back : places_of word ≡ places = ap (λ k. drop (k + 1) word) point ∙ drop_past ds places in
    let shown : first_places k (places_of word) ≡ places = ap (first_places k) back ∙ first_all k places (last_few k n) in
    let value : units k word ≡ n = ap (λ (v : List ℕ). 10 ^ k * number_of v + number_of (first_places k (places_of word))) front ∙ ap (λ (v : List ℕ). 10 ^ k * number_of ds + number_of v) shown ∙ (ap (λ m. 10 ^ k * m + number_of places) w.value ∙ last_value k n) in
    let first : are_digits (whole_part word) ≡ true = ap are_digits front ∙ are_some ds w.some w.digits in
    let last : are_digits (places_of word) ≡ true = ap are_digits back ∙ are_some places (omega (arith, last_few k n, places_few p)) (last_digits_are k n) in
    let coarse : is_coarse k word ≡ true = ap (λ (v : List ℕ). list_all (λ b. b == 48) (drop k v)) back ∙ no_more k places (last_few k n) in
    decimal_read k (2 ^ 126) n word (and_from _ _ first (or_right _ _ last)) coarse value lt

-- ---- words

-- a digit is a byte of a word
digit_word : (b : ℕ) → is_digit b ≡ true → (is_word_byte b ≡ true) × ((b == 35) ≡ false)
digit_word b e =
    let low = leb-true 48 b (and_parts (nat_le 48 b) (nat_le b 57) e).0 in (
      rw (ne_eqb b 9 (λ i. omega (arith, low, i)), ne_eqb b 10 (λ i. omega (arith, low, i)), ne_eqb b 13 (λ i. omega (arith, low, i)), ne_eqb b 32 (λ i. omega (arith, low, i)), ne_eqb b 40 (λ i. omega (arith, low, i)), ne_eqb b 41 (λ i. omega (arith, low, i))) refl,
      ne_eqb b 35 (λ i. omega (arith, low, i)),
    )

digits_words : (ds : List ℕ) → list_all is_digit ds ≡ true → list_all is_word_byte ds ≡ true
digits_words [] e = refl
digits_words (b ∷ ds) e =
    let p = and_parts (is_digit b) (list_all is_digit ds) e in
    rw ((digit_word b p.0).0, digits_words ds p.1) refl

-- digits and other bytes of words after them
digits_begin : (ds more : List ℕ) → 1 ≤ length ds → list_all is_digit ds ≡ true → list_all is_word_byte more ≡ true → is_plain (ds ++ more) ≡ true
digits_begin [] more some e rest = absurd (omega (arith, some))
digits_begin (b ∷ ds) more some e rest =
    let p = and_parts (is_digit b) (list_all is_digit ds) e in
    rw ((digit_word b p.0).1, (digit_word b p.0).0, list_all-append is_word_byte ds more, digits_words ds p.1, rest) refl

pub decimal_plain : (n : ℕ) → n < 2 ^ 126 → (1 ≤ length (decimal n)) × (is_plain (decimal n) ≡ true)
decimal_plain n lt = let w = decimal_writes n lt in (w.some, subst (λ (v : List ℕ). is_plain v ≡ true) (append-nil (decimal n)) (digits_begin (decimal n) [] w.some w.digits refl))

pub money_plain : (p : Places) (n : ℕ) → n < 2 ^ 126 → (1 ≤ length (money_word p n)) × (is_plain (money_word p n) ≡ true)
money_plain p n lt =
    let k = digits_after_point p in
    let w = decimal_writes (n / 10 ^ k) (omega (arith, lt, whole_below k n)) in
    (omega (arith, w.some, length-append (decimal (n / 10 ^ k)) (46 ∷ last_digits k n)), digits_begin (decimal (n / 10 ^ k)) (46 ∷ last_digits k n) w.some w.digits (digits_words (last_digits k n) (last_digits_are k n)))
