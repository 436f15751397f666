-- counts of a whole point: one for each module
use Rattle.std.{proofs.Common.{◌≡◌, ℕ, ◌+◌, ◌<◌, List, [], ◌∷◌, ◌++◌, get_or, length, take, ap, subst, sym, ◌∙◌}, proofs.lemmas.List.take_more, proofs.lemmas.Slice.Zip.all_zipped_more}
use Rattle.plan_terms.specs.Terms.{AreCounts, Link}

-- the counts of a link more
pub counts_more : (links : List Link) (counts : List (List ℕ)) (i : ℕ) (l d : Link) (c : List ℕ) → i < length links → l ≡ get_or links i d → length c ≡ length l.modules
    → AreCounts (take i links) counts → AreCounts (take (i + 1) links) (counts ++ c ∷ [])
counts_more links counts i l d c lt is long shape =
    let more : take (i + 1) links ≡ take i links ++ l ∷ [] = take_more links i d lt ∙ ap (λ (x : Link). take i links ++ x ∷ []) (sym is) in
    subst (λ (ls : List Link). AreCounts ls (counts ++ c ∷ [])) (sym more) (all_zipped_more (λ (x : Link) (y : List ℕ). length y ≡ length x.modules) (take i links) counts l c shape long)
