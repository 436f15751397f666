-- sums over the lines of a certificate
use Rattle.std.{proofs.Common.{◌≡◌, ℕ, ◌+◌, ◌-◌, ◌*◌, ◌<◌, ◌≤◌, Bool, true, false, if◌then◌else◌, List, [], ◌∷◌, None, Option, get_or, length, map, take, refl, sym, subst, arith, sum_by}, proofs.lemmas.List.Sums.{sum_by-cons, sum_by_more, sum_by_more_le_part}}
use Rattle.plan_terms.specs.Terms.{CertificateLine, Link, asked, fixed_along, given, raw_value}
use Rattle.plan_types.specs.Terms.{lines_of_certificate}
use Rattle.plan_report.specs.Terms.{CertLine, Certificate}
use Rattle.plan_view.specs.inner.Lines.{asked_among, given_among, is_among}

sum_mapped : {X Y : Type 0} (f : Y → ℕ) (g : X → Y) (xs : List X) → sum_by f (map g xs) ≡ sum_by (λ x. f (g x)) xs
sum_mapped f g [] = refl
sum_mapped f g (x ∷ xs) = omega (arith, sum_by-cons f (g x) (map g xs), sum_by-cons (λ y. f (g y)) x xs, sum_mapped f g xs)

-- all lines together
pub asked_is : (c : Certificate) → asked (lines_of_certificate c) ≡ asked_among None c.lines
asked_is c = sum_mapped (λ (l : CertificateLine). l.num * l.cut.right) (λ (l : CertLine). record { cut = l.cut; num = l.num }) c.lines

pub given_is : (links : List Link) (c : Certificate) → given links (lines_of_certificate c) ≡ given_among links None c.lines
given_is links c = sum_mapped (λ (l : CertificateLine). l.num * fixed_along l.cut.lengths links) (λ (l : CertLine). record { cut = l.cut; num = l.num }) c.lines

pub raw_is : (links : List Link) (c : Certificate) → raw_value links (lines_of_certificate c) ≡ asked_among None c.lines - given_among links None c.lines
raw_is links c = omega (arith, asked_is c, given_is links c)

part_le : (b : Bool) (n : ℕ) → (if b then n else 0) ≤ n
part_le true n = omega arith
part_le false n = omega arith

-- the sum with the next line
module _ (which : Option ℕ) (lines : List CertLine) (i : ℕ) (d : CertLine) (lt : i < length lines) where
  pub asked_more : asked_among which (take (i + 1) lines) ≡ asked_among which (take i lines) + (if is_among which (get_or lines i d) then (get_or lines i d).num * (get_or lines i d).cut.right else 0)
  asked_more = sum_by_more (λ (l : CertLine). (if is_among which l then l.num * l.cut.right else 0)) lines i d lt

  pub given_more : (links : List Link) → given_among links which (take (i + 1) lines) ≡ given_among links which (take i lines) + (if is_among which (get_or lines i d) then (get_or lines i d).num * fixed_along (get_or lines i d).cut.lengths links else 0)
  given_more links = sum_by_more (λ (l : CertLine). (if is_among which l then l.num * fixed_along l.cut.lengths links else 0)) lines i d lt

  pub asked_item_le : (l : CertLine) → l ≡ get_or lines i l → asked_among which (take i lines) + l.num * l.cut.right ≤ asked_among None lines
  asked_item_le l is = subst (λ (x : CertLine). asked_among which (take i lines) + x.num * x.cut.right ≤ asked_among None lines) (sym is) (sum_by_more_le_part (λ (x : CertLine). (if is_among which x then x.num * x.cut.right else 0)) (λ (x : CertLine). x.num * x.cut.right) lines i l lt
      (λ x. part_le (is_among which x) (x.num * x.cut.right)))

  pub given_item_le : (links : List Link) (l : CertLine) → l ≡ get_or lines i l → given_among links which (take i lines) + l.num * fixed_along l.cut.lengths links ≤ given_among links None lines
  given_item_le links l is = subst (λ (x : CertLine). given_among links which (take i lines) + x.num * fixed_along x.cut.lengths links ≤ given_among links None lines) (sym is) (sum_by_more_le_part (λ (x : CertLine). (if is_among which x then x.num * fixed_along x.cut.lengths links else 0)) (λ (x : CertLine). x.num * fixed_along x.cut.lengths links) lines i l lt
      (λ x. part_le (is_among which x) (x.num * fixed_along x.cut.lengths links)))
