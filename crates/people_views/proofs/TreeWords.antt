-- what is wrong with a tree, case by case
use Rattle.std.{proofs.Common.{◌≡◌, ◌∙◌, ℕ, ◌+◌, ◌<◌, ◌≤◌, List, ◌++◌, ap, append_assoc, codes, decimal, sym}, proofs.lemmas.Bool.{cond-false, cond-true, le-ltb, lt-ltb}}
use Rattle.people_views.specs.ProofLines.{end_wrong, tree_wrong}

grouped : (text a b c : List ℕ) → ((text ++ a) ++ b) ++ c ≡ text ++ ((a ++ b) ++ c)
grouped text a b c = simp append_assoc

wrong_node : (nodes k : ℕ) → k < nodes → tree_wrong nodes k ≡ codes "line " ++ decimal (k + 1) ++ codes " of its nodes doesn't hold"
wrong_node nodes k below = cond-true _ _ _ (lt-ltb k nodes below)

-- a text with what is wrong with a node
pub node_put : (text new : List ℕ) (nodes k : ℕ) → k < nodes → new ≡ ((text ++ codes "line ") ++ decimal (k + 1)) ++ codes " of its nodes doesn't hold" → new ≡ text ++ tree_wrong nodes k
node_put text new nodes k below put =
    put ∙ (grouped text (codes "line ") (decimal (k + 1)) (codes " of its nodes doesn't hold") ∙ ap (λ (w : List ℕ). text ++ w) (sym (wrong_node nodes k below)))

pub wrong_end : (nodes k : ℕ) → nodes ≤ k → tree_wrong nodes k ≡ end_wrong nodes k
wrong_end nodes k past = cond-false _ _ _ (le-ltb k nodes past)
