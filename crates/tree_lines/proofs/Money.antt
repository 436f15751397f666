-- money ends no line
use Rattle.std.{proofs.Common.{◌≡◌, ℕ, zero, suc, ◌/◌, ◌^◌, ◌<◌, ◌==◌, not, List, [], ◌∷◌, ◌++◌, refl, ap, sym, ◌∙◌, append-nil, append_assoc, decimal, arith, ne_eqb}, proofs.lemmas.List.Folds.list_all-append}
use Rattle.net_core.{proofs.Library.{and_from, list_all}, specs.declared.places.Places.Places, specs.Terms.digits_after_point}
use Rattle.text_kit.specs.Terms.{Money, money_word, last_digit, last_digits}
use Rattle.report_comments.{specs.Comments.{AddsSpaced, IsOneLine}, proofs.OneLine.decimal_one_line}

digits_one_line : (k n : ℕ) → IsOneLine (last_digits k n)
digits_one_line zero n = refl
digits_one_line (suc k) n =
    let d = last_digit (n / 10 ^ k) in
    and_from (not (d == 10)) (list_all (λ b. not (b == 10)) (last_digits k n)) (ap not (ne_eqb d 10 (λ e. omega (arith, e)))) (digits_one_line k n)

money_one_line : (p : Places) (n : ℕ) → n / 10 ^ digits_after_point p < 2 ^ 128 → IsOneLine (money_word p n)
money_one_line p n lt =
    list_all-append (λ b. not (b == 10)) (decimal (n / 10 ^ digits_after_point p)) (46 ∷ last_digits (digits_after_point p) n)
    ∙ rw (decimal_one_line (n / 10 ^ digits_after_point p) lt, digits_one_line (digits_after_point p) n) refl

-- money after a space
pub spaced_money : (a b c : List ℕ) (p : Places) (n : ℕ) → n / 10 ^ digits_after_point p < 2 ^ 128 → b ≡ a ++ 32 ∷ [] → c ≡ b ++ money_word p n → AddsSpaced a (Money p n ∷ []) c
spaced_money a b c p n lt begun put = record {
  text = put ∙ (ap (λ (t : List ℕ). t ++ money_word p n) begun ∙ (append_assoc a (32 ∷ []) (money_word p n) ∙ ap (λ (t : List ℕ). a ++ 32 ∷ t) (sym (append-nil (money_word p n)))));
  each = (money_one_line p n lt, tt);
}
