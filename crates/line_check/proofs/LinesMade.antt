-- lines of cuts, link by link
use Rattle.std.proofs.Common.{◌≡◌, ℕ, ◌+◌, ◌*◌, ◌<◌, ◌≤◌, List, [], ◌∷◌, ◌++◌, get_or, length, map, take, zip, ap, ◌∙◌, arith, take_all}
use Rattle.net_core.proofs.Library.{map-append}
use Rattle.module_choice.proofs.Pairs.{zip_more}
use Rattle.plan_terms.specs.Terms.{Link}
use Rattle.line_check.specs.Inequalities.{coefficients_of}

-- the coefficients with those of the next link
pub coefficients_more : (lengths : List ℕ) (links : List Link) (i : ℕ) (d : Link) → i < length lengths → i < length links
    → coefficients_of (take (i + 1) lengths) (take (i + 1) links) ≡ coefficients_of (take i lengths) (take i links) ++ map (λ m. get_or lengths i 0 * m.capacity) (get_or links i d).modules ∷ []
coefficients_more lengths links i d lt low =
    ap (λ ps. map (λ (p : ℕ × Link). map (λ m. p.0 * m.capacity) p.1.modules) ps) (zip_more lengths links i 0 d lt low)
    ∙ map-append (λ (p : ℕ × Link). map (λ m. p.0 * m.capacity) p.1.modules) (zip (take i lengths) (take i links)) ((get_or lengths i 0, get_or links i d) ∷ [])

pub coefficients_all : (lengths : List ℕ) (links : List Link) (i : ℕ) → length lengths ≡ length links → length links ≤ i → coefficients_of (take i lengths) (take i links) ≡ coefficients_of lengths links
coefficients_all lengths links i same all =
    ap (λ ls. coefficients_of (take i lengths) ls) (take_all i links all) ∙ ap (λ xs. coefficients_of xs links) (take_all i lengths (omega (arith, same, all)))
