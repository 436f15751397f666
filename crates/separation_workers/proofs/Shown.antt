-- lengths that are shown
use Rattle.std.{proofs.Common.{◌≡◌, ℕ, ◌≤◌, List, All, Contains, length, slice_index, arith, ⊎_elim}, proofs.lemmas.List.Elements.at_from_Contains}
use Rattle.net_core.proofs.Library.{cases_lt, get_or_past, All-get_or}
use Rattle.hint_board.specs.Priced.{AreHintLengths}
use Rattle.route_law.specs.Terms.{ZerosAndOnesArePriced}

-- a number of a list whose numbers are 0 and 1, also past its end
at_most_one : (lengths : List ℕ) → All (λ l. l ≤ 1) lengths → (k : ℕ) → slice_index lengths k ≤ 1
at_most_one lengths low k =
    ⊎_elim (λ lt. All-get_or (λ l. l ≤ 1) lengths k 0 lt low)
    (λ le. let none : slice_index lengths k ≡ 0 = get_or_past lengths k 0 le in omega (arith, none))
    (cases_lt k (length lengths))

-- zeros and ones with a one may be shown
pub zeros_and_ones_are_hints : ZerosAndOnesArePriced → (links : ℕ) (lengths : List ℕ) → length lengths ≡ links → length lengths ≤ 256
    → All (λ l. l ≤ 1) lengths → Contains lengths 1 → AreHintLengths links lengths
zeros_and_ones_are_hints law links lengths count few low one =
    let found = at_from_Contains lengths 1 one in
    record { count = count; priced = law lengths found.0 few (at_most_one lengths low) (found.2 0) }
