-- The reading of a field takes exactly its texts, and has no look at what comes after them.
use Rattle.std.proofs.Common.{ℕ, ◌≤◌, ◌<◌, List, [], ◌∷◌, refl}
use Rattle.text_kit.{specs.Terms.{Verbatim, Whole}, proofs.Beginnings.AnyText, proofs.Lemmas.{IsOnline, online_then, online_word}, proofs.Spelled.Lawful}
use Rattle.report_words.{specs.declared.fault.ReportKind.TheVariants.{Token, Ended}, specs.ReportFields.field_at, proofs.Making.{law_made, made_law, made_then}, proofs.WordLaws.{keyword_law, number_law}}

pub field_law : (w : List ℕ) (least limit : ℕ) → Lawful (field_at w least limit) (λ n. Verbatim w ∷ Whole n ∷ []) (λ n. (least ≤ n) × (n < limit)) AnyText
unfolding field_at
field_law w least limit = law_made (field_at w least limit) _ _ _ (λ n. Verbatim w ∷ Whole n ∷ []) (λ n. (least ≤ n) × (n < limit))
    (λ q h. h.1)
    (λ q h. refl)
    (λ n h. record { parts = (tt, n); right = (tt, h); gives = refl })
    (made_then _ _ _ _ _ _ _ _ (keyword_law w) (λ x h.
    made_law _ _ _ (number_law least limit)))

pub field_online : (w : List ℕ) (least limit : ℕ) → IsOnline (field_at w least limit)
unfolding field_at
field_online w least limit = online_then _ _ (online_word Token Ended _) (λ x. online_word Token Ended _)
