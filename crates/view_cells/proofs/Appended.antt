-- texts put one after another
use Rattle.std.proofs.Common.{◌≡◌, ℕ, List, ◌++◌, append_assoc, ap, ◌∙◌}

pub appended : (old a b mid new : List ℕ) → mid ≡ old ++ a → new ≡ mid ++ b → new ≡ old ++ (a ++ b)
appended old a b mid new p q = q ∙ ap (λ t. t ++ b) p ∙ append_assoc old a b

pub appended_three : (old a b c first second new : List ℕ) → first ≡ old ++ a → second ≡ first ++ b → new ≡ second ++ c → new ≡ old ++ (a ++ b ++ c)
appended_three old a b c first second new p q r = appended old (a ++ b) c second new (appended old a b first second p q) r

pub appended_five : (old a b c d e first second third fourth new : List ℕ) → first ≡ old ++ a → second ≡ first ++ b → third ≡ second ++ c
    → fourth ≡ third ++ d → new ≡ fourth ++ e
    → new ≡ old ++ (a ++ b ++ c ++ d ++ e)
appended_five old a b c d e first second third fourth new p q r s t =
    appended_three old (a ++ b ++ c) d e third fourth new (appended_three old a b c first second third p q r) s t
