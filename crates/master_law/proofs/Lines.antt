-- the lines of one basic column more, and lines in lowest terms
use Rattle.std.proofs.Common.{◌≡◌, ℕ, suc, ◌-◌, ◌*◌, ◌<◌, ◌≤◌, List, [], ◌∷◌, ◌++◌, All, Some, map, sum_by, slice_get, slice_index, get_or, refl, sym, ap, ◌∙◌, arith, pos, ◌+ℤ◌, ◌*ℤ◌}
use Rattle.net_core.proofs.Library.{sum_by-cons, sum_by_push, le_of_mul-le-mul_left, mul-sub, zero-*ℤ, pos-*ℤ-pos, ints}
use Rattle.plan_terms.specs.Terms.{MasterColumn, Metric, Link, CutLine, CertificateLine, price, asked, fixed_along, given, raw_value}
use Rattle.simplex_law.specs.Terms.{ColumnOf}
use Rattle.master_law.{specs.BasisLines.AreLinesOf, specs.MasterPrograms.{cut_gain, column_lengths, column_given}}

module _ (links : List Link) (basis : ℕ → ColumnOf MasterColumn) (amounts : ℕ → ℕ) where
  pub lines_none : AreLinesOf links 0 basis amounts []
  lines_none = record { price_is = λ e. refl; asked_is = refl }

  -- a column without amount gives no line
  pub lines_pass : (n : ℕ) (lines : List CertificateLine) → amounts n ≡ 0 → AreLinesOf links n basis amounts lines → AreLinesOf links (suc n) basis amounts lines
  lines_pass n lines z of = record {
    price_is = λ e. omega (arith, of.price_is e, ap (λ a. a * slice_index (column_lengths (basis n).name) e) z);
    asked_is = omega (arith, ints, of.asked_is, ap (λ a. pos a *ℤ ((basis n).gain +ℤ pos (column_given links (basis n).name))) z ∙ zero-*ℤ ((basis n).gain +ℤ pos (column_given links (basis n).name)));
  }

  -- nor does a slack
  pub lines_slack : (n : ℕ) (lines : List CertificateLine) → column_lengths (basis n).name ≡ [] → (basis n).gain ≡ pos 0 → AreLinesOf links n basis amounts lines → AreLinesOf links (suc n) basis amounts lines
  lines_slack n lines none free of =
      let given : column_given links (basis n).name ≡ 0 = ap (λ ls. fixed_along ls links) none in
      let nothing : (basis n).gain +ℤ pos (column_given links (basis n).name) ≡ pos 0 = omega (arith, ints, free, given) in
      record {
        price_is = λ e. omega (arith, of.price_is e, ap (λ ls. amounts n * slice_index ls e) none);
        asked_is = omega (arith, ints, of.asked_is, ap (λ x. pos (amounts n) *ℤ x) nothing);
      }

  -- a cut gives one line
  pub lines_push : (n : ℕ) (lines : List CertificateLine) (line : CertificateLine) → line.num ≡ amounts n → (basis n).name ≡ Metric line.cut.state line.cut.lengths → (basis n).gain ≡ cut_gain links line.cut
      → AreLinesOf links n basis amounts lines → AreLinesOf links (suc n) basis amounts (lines ++ line ∷ [])
  lines_push n lines line num named gain of =
      let lengths : column_lengths (basis n).name ≡ line.cut.lengths = ap column_lengths named in
      let given : column_given links (basis n).name ≡ fixed_along line.cut.lengths links = ap (λ ls. fixed_along ls links) lengths in
      let right : pos line.cut.right ≡ (basis n).gain +ℤ pos (column_given links (basis n).name) = omega (arith, ints, gain, given) in
      record {
        price_is = λ e. sum_by_push (λ (l : CertificateLine). l.num * slice_index l.cut.lengths e) lines line
            ∙ omega (arith, of.price_is e, ap (λ a. a * slice_index line.cut.lengths e) num, ap (λ ls. amounts n * slice_index ls e) lengths);
        asked_is =
            let one : pos (line.num * line.cut.right) ≡ pos (amounts n) *ℤ ((basis n).gain +ℤ pos (column_given links (basis n).name)) =
            sym (pos-*ℤ-pos line.num line.cut.right) ∙ (ap (λ a. pos a *ℤ pos line.cut.right) num ∙ ap (λ x. pos (amounts n) *ℤ x) right) in
            ap pos (sum_by_push (λ (l : CertificateLine). l.num * l.cut.right) lines line) ∙ omega (arith, ints, of.asked_is, one);
      }

-- the line with its numerator g times
abbrev pub line_times : ℕ → CertificateLine → CertificateLine
line_times g l = record { cut = l.cut; num = g * l.num }

-- a sum over lines, each g times
lines_times : (g : ℕ) (f : CutLine → ℕ) (lines : List CertificateLine) → sum_by (λ l. l.num * f l.cut) (map (line_times g) lines) ≡ g * sum_by (λ l. l.num * f l.cut) lines
lines_times g f [] = omega arith
lines_times g f (l ∷ ls) =
    omega (
      arith,
      sum_by-cons (λ (k : CertificateLine). k.num * f k.cut) (line_times g l) (map (line_times g) ls),
      ap (λ x. g * x) (sum_by-cons (λ (k : CertificateLine). k.num * f k.cut) l ls),
      lines_times g f ls,
    )

pub price_times : (g : ℕ) (lines : List CertificateLine) (e : ℕ) → price (map (line_times g) lines) e ≡ g * price lines e
price_times g lines e = lines_times g (λ cut. slice_index cut.lengths e) lines

pub asked_times : (g : ℕ) (lines : List CertificateLine) → asked (map (line_times g) lines) ≡ g * asked lines
asked_times g lines = lines_times g (λ cut. cut.right) lines

pub given_times : (links : List Link) (g : ℕ) (lines : List CertificateLine) → given links (map (line_times g) lines) ≡ g * given links lines
given_times links g lines = lines_times g (λ cut. fixed_along cut.lengths links) lines

-- prices over a denominator stay valid where numerators and denominator are divided by a common divisor
pub priced_lowest : (links : List Link) (g den : ℕ) (lines : List CertificateLine) → 0 < g
    → ((e : ℕ) (l : Link) → slice_get links e ≡ Some l → All (λ m. price (map (line_times g) lines) e * m.capacity ≤ (g * den) * m.cost) l.modules)
    → (e : ℕ) (l : Link) → slice_get links e ≡ Some l → All (λ m. price lines e * m.capacity ≤ den * m.cost) l.modules
priced_lowest links g den lines pg h e l at k m lt =
    let p : g * (price lines e * (get_or l.modules k m).capacity) ≤ g * (den * (get_or l.modules k m).cost) = omega (arith, h e l at k m lt, ap (λ x. x * (get_or l.modules k m).capacity) (price_times g lines e)) in
    le_of_mul-le-mul_left p pg

-- lines with g times the numerators have g times the raw value
pub raw_times : (links : List Link) (g : ℕ) (lines : List CertificateLine) → raw_value links (map (line_times g) lines) ≡ g * raw_value links lines
raw_times links g lines = minus (asked (map (line_times g) lines)) (given links (map (line_times g) lines)) (asked lines) (given links lines) (asked_times g lines) (given_times links g lines)
  where
    minus : (x y a b : ℕ) → x ≡ g * a → y ≡ g * b → x - y ≡ g * (a - b)
    minus x y a b ex ey = ap (λ v. v - y) ex ∙ (ap (λ v. g * a - v) ey ∙ sym (mul-sub g a b))
