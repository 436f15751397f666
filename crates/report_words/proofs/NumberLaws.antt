-- The reading of a list of numbers takes exactly its texts.
use Rattle.std.proofs.Common.{◌≡◌, ℕ, ◌<◌, true, [], ◌∷◌, length, All, refl, arith}
use Rattle.text_kit.{specs.Terms.Whole, proofs.Beginnings.AnyText, proofs.Lemmas.lawful_as, proofs.Spelled.Lawful}
use Rattle.plan_report.specs.Terms.{numbers_items}
use Rattle.report_words.{specs.ReportWords.has_room, specs.ReportChoices.{next_number_at, numbers_at}, proofs.ListLaws.exact_law, proofs.WordLaws.number_within_law}

pub numbers_law : (n limit : ℕ) → Lawful (numbers_at n limit) numbers_items (λ ns. (length ns ≡ n) × All (λ k. k < limit) ns) AnyText
unfolding numbers_at
numbers_law n limit = exact_law n (next_number_at n limit) (λ k. Whole k ∷ []) (λ k. k < limit) (λ k. tt)
    (λ sofar. lawful_as (next_number_at n limit sofar) (λ k. Whole k ∷ []) (λ k. Whole k ∷ []) _ (λ k. (has_room n sofar ≡ true) × (k < limit)) AnyText (λ k h. refl) (λ k h. (h.0, h.1.1)) (λ k h. (h.0, (omega arith, h.1)))
    (number_within_law (has_room n sofar) 0 limit))
