-- counts of which those of one link change
use Rattle.std.proofs.Common.{◌≡◌, ◌∙◌, ◌++◌, ℕ, zero, suc, List, [], ◌∷◌, ap, drop, get_or, length, set, take, take_at}
use Rattle.plan_terms.specs.Terms.{Link, AreCounts}

pub shape_set : (links : List Link) (counts : List (List ℕ)) (e : ℕ) (c past : List ℕ) → length c ≡ length (get_or counts e past) → AreCounts links counts → AreCounts links (set counts e c)
shape_set [] [] e c past same are = tt
shape_set [] (x ∷ xs) e c past same are = absurd are
shape_set (l ∷ ls) [] e c past same are = absurd are
shape_set (l ∷ ls) (x ∷ xs) zero c past same are = (same ∙ are.0, are.1)
shape_set (l ∷ ls) (x ∷ xs) (suc e) c past same are = (are.0, shape_set ls xs e c past same are.1)

-- as many as before
pub length_written : (old new : List ℕ) → length new ≡ length old → length (take (length old) (new ++ drop (length new) old)) ≡ length old
length_written old new same = ap (λ (xs : List ℕ). length xs) (take_at new (drop (length new) old) (length old) same) ∙ same
