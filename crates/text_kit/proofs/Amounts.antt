-- Words of amounts are those of money below 2^40 units of the network.
use Rattle.std.proofs.Common.{◌≡◌, ℕ, ◌^◌, ◌<◌, true, cond, not, nat_lt, List, [], ◌∷◌, Result, Ok, Err, ap, subst, arith, refl, ltb-true, lt-ltb}
use Rattle.net_core.{specs.declared.places.Places.Places, specs.Terms.digits_after_point, proofs.Checks.not_true}
use Rattle.snd_tokens.{specs.declared.amounts.NumberFault.NumberFault, specs.declared.amounts.NumberFault.TheVariants.{NotANumber, TooFine, TooLarge}, specs.Terms.{amount_of, money_of, decimal_below, is_coarse, is_decimal, units}}
use Rattle.text_kit.{specs.Items.Money, specs.Numbers.number_or, specs.Reading.word_at, proofs.Lawful.{AnyText, Lawful, lawful_word}, proofs.Outcomes.{unless_ok, if_ok, ok_is}}

-- a number that was read: its word is a decimal without digits that are too fine, and it is below the limit
record IsBelow (places limit : ℕ) (w : List ℕ) (n : ℕ) : Type 0 where
  pub decimal : is_decimal w ≡ true
  pub coarse : is_coarse places w ≡ true
  pub value : units places w ≡ n
  pub below : n < limit

below_takes : (places limit : ℕ) (w : List ℕ) (n : ℕ) → decimal_below places limit w ≡ Ok n → IsBelow places limit w n
below_takes places limit w n e =
    let a = unless_ok (not (is_decimal w)) NotANumber (cond (not (is_coarse places w)) (Err TooFine) (cond (nat_lt (units places w) limit) (Ok (units places w)) (Err TooLarge))) n e in
    let b = unless_ok (not (is_coarse places w)) TooFine (cond (nat_lt (units places w) limit) (Ok (units places w)) (Err TooLarge)) n a.1 in
    let c = if_ok (nat_lt (units places w) limit) TooLarge (Ok (units places w)) n b.1 in
    let is : units places w ≡ n = ok_is {E = NumberFault} (units places w) n c.1 in
    record {
      decimal = not_true (is_decimal w) a.0;
      coarse = not_true (is_coarse places w) b.0;
      value = is;
      below = subst (λ (k : ℕ). k < limit) is (ltb-true (units places w) limit c.0);
    }

below_again : (places limit other : ℕ) (w : List ℕ) (n : ℕ) → n < limit → IsBelow places other w n → decimal_below places limit w ≡ Ok n
below_again places limit other w n lt is = rw (is.decimal, is.coarse, is.value, lt-ltb n limit lt) refl

pub number_takes : {K : Type 0} (kind : NumberFault → K) (r : Result ℕ NumberFault) (n : ℕ) → number_or kind r ≡ Ok n → r ≡ Ok n
number_takes {K} kind (Ok k) n e = ap (λ (i : ℕ). Ok i) (ok_is {E = K} k n e)
number_takes kind (Err f) n e = absurd cc

pub amount_takes : {K : Type 0} (kind : NumberFault → K) (p : Places) (w : List ℕ) (n : ℕ) → number_or kind (amount_of p w) ≡ Ok n → (n < 2 ^ 40) × (money_of p w ≡ Ok n)
unfolding amount_of money_of
amount_takes kind p w n e =
    let is = below_takes (digits_after_point p) (2 ^ 40) w n (number_takes kind (amount_of p w) n e) in
    let small = is.below in
    (small, below_again (digits_after_point p) (2 ^ 126) (2 ^ 40) w n (omega (arith, small)) is)

pub amount_again : {K : Type 0} (kind : NumberFault → K) (p : Places) (w : List ℕ) (n : ℕ) → n < 2 ^ 40 → money_of p w ≡ Ok n → number_or kind (amount_of p w) ≡ Ok n
unfolding amount_of money_of
amount_again kind p w n small e = ap (number_or kind) (below_again (digits_after_point p) (2 ^ 40) (2 ^ 126) w n small (below_takes (digits_after_point p) (2 ^ 126) w n e))

-- an amount
pub lawful_amount : {K : Type 0} (other ended : K) (kind : NumberFault → K) (p : Places) → Lawful (word_at other ended (λ w. number_or kind (amount_of p w))) (λ n. Money p n ∷ []) (λ n. n < 2 ^ 40) AnyText
lawful_amount other ended kind p = lawful_word other ended (λ w. number_or kind (amount_of p w)) (λ n. Money p n) (λ n. n < 2 ^ 40) (λ n. tt) (amount_takes kind p) (λ w n is e. amount_again kind p w n is e)
