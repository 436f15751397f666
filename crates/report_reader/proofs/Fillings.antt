-- Entries that have their cuts keep them.
use Rattle.std.proofs.Common.{◌≡◌, List, [], ◌∷◌, map, All, refl, ap, ◌∙◌}
use Rattle.net_core.proofs.Library.{All-head, All-tail}
use Rattle.plan_terms.specs.Terms.{Entry, Edited, Pooled, CutLine}
use Rattle.report_reader.specs.ReadingReport.{filled}

pub filled_again : (pool : List CutLine) (e : Entry) → filled pool (filled pool e) ≡ filled pool e
filled_again pool (Edited caller edit reply) = refl
filled_again pool (Pooled index state lengths) = refl

pub all_same : (pool : List CutLine) (es : List Entry) → All (λ e. e ≡ filled pool e) es → es ≡ map (filled pool) es
all_same pool [] all = refl
all_same pool (e ∷ es) all =
    ap (λ (x : Entry). x ∷ es) (All-head (λ (x : Entry). x ≡ filled pool x) e es all)
    ∙ ap (λ (xs : List Entry). filled pool e ∷ xs) (all_same pool es (All-tail (λ (x : Entry). x ≡ filled pool x) e es all))
