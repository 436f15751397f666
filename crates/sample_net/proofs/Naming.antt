-- a letter and a number make a name
use Rattle.std.{proofs.Common.{◌≡◌, ◌≢◌, ℕ, ◌≤◌, ◌<◌, ◌^◌, ◌==◌, drop, true, false, not, arith, ap, refl, decimal, ne_eqb}, proofs.lemmas.Fmt.decimal_injective}
use Rattle.net_core.proofs.Library.{list_all, and_parts, length-decimal-le}
use Rattle.plan_terms.specs.Terms.{IsName, begins_comment, is_word_byte}
use Rattle.text_kit.proofs.Lemmas.{decimal_plain}
use Rattle.sample_net.specs.Samples.{numbered}

-- a letter is a byte of a word, and begins no comment
letter_word : (b : ℕ) → 97 ≤ b → (is_word_byte b ≡ true) × ((b == 35) ≡ false)
letter_word b low = (
  rw (ne_eqb b 9 (λ i. omega (arith, low, i)), ne_eqb b 10 (λ i. omega (arith, low, i)), ne_eqb b 13 (λ i. omega (arith, low, i)), ne_eqb b 32 (λ i. omega (arith, low, i)), ne_eqb b 40 (λ i. omega (arith, low, i)), ne_eqb b 41 (λ i. omega (arith, low, i))) refl,
  ne_eqb b 35 (λ i. omega (arith, low, i)),
)

pub numbered_is_name : (letter k : ℕ) → 97 ≤ letter → k < 2 ^ 32 → IsName (numbered letter k)
numbered_is_name letter k low lt =
    let digits = (decimal_plain k (omega (arith, lt))).1 in
    let w = letter_word letter low in
    let all : list_all is_word_byte (decimal k) ≡ true = (and_parts (not (begins_comment (decimal k))) (list_all is_word_byte (decimal k)) digits).1 in
    record {
      some = omega arith;
      short = omega (arith, length-decimal-le 10 k (omega arith) (omega (arith, lt)) (omega (arith, lt)));
      plain = rw (w.1, w.0, all) refl;
    }

-- different numbers give different names
pub numbered_differ : (letter j k : ℕ) → j < 2 ^ 32 → k < 2 ^ 32 → j ≢ k → numbered letter j ≢ numbered letter k
numbered_differ letter j k in_j in_k apart same = apart (decimal_injective j k (omega (arith, in_j)) (omega (arith, in_k)) (ap (drop 1) same))
