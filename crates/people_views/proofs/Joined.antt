-- texts put one after another
use Rattle.std.proofs.Common.{◌≡◌, ℕ, List, ◌++◌, append_assoc, ap, ◌∙◌}

pub three_joined : (old a b c first second new : List ℕ) → first ≡ old ++ a → second ≡ first ++ b → new ≡ second ++ c → new ≡ old ++ (a ++ b ++ c)
three_joined old a b c first second new p q r =
    r ∙ ap (λ t. t ++ c) (q ∙ ap (λ t. t ++ b) p ∙ append_assoc old a b) ∙ append_assoc old (a ++ b) c
