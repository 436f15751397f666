-- one link more of a path
use Rattle.std.proofs.Common.{◌≡◌, ℕ, ◌+◌, ◌<◌, List, [], ◌∷◌, ◌++◌, ap, get_or, length, refl, sym, take, ◌∙◌}
use Rattle.net_core.proofs.Library.{take_more}
use Rattle.plan_terms.specs.Terms.{Link, LinkId, NodeId}
use Rattle.plan_view.{specs.FlowRows.{end_beyond, nodes_along}, specs.inner.Ends.node_after}

after_one : (links : List Link) (n : NodeId) (es : List LinkId) (e : LinkId)
    → node_after links n (es ++ e ∷ []) ≡ end_beyond links (node_after links n es) e
after_one links n [] e = refl
after_one links n (x ∷ es) e = after_one links (end_beyond links n x) es e

along_one : (links : List Link) (n : NodeId) (es : List LinkId) (e : LinkId)
    → nodes_along links n (es ++ e ∷ []) ≡ nodes_along links n es ++ end_beyond links (node_after links n es) e ∷ []
along_one links n [] e = refl
along_one links n (x ∷ es) e = ap (λ ns. n ∷ ns) (along_one links (end_beyond links n x) es e)

pub after_more : (links : List Link) (n : NodeId) (path : List LinkId) (i : ℕ) (d : LinkId) (here next : NodeId) → i < length path
    → here ≡ node_after links n (take i path) → next ≡ end_beyond links here (get_or path i d) → next ≡ node_after links n (take (i + 1) path)
after_more links n path i d here next lt at is =
    is ∙ ap (λ x. end_beyond links x (get_or path i d)) at
    ∙ sym (ap (λ es. node_after links n es) (take_more path i d lt) ∙ after_one links n (take i path) (get_or path i d))

pub along_more : (links : List Link) (n : NodeId) (path : List LinkId) (i : ℕ) (d : LinkId) (here next : NodeId) (nodes new : List NodeId) → i < length path
    → here ≡ node_after links n (take i path) → nodes ≡ nodes_along links n (take i path) → next ≡ end_beyond links here (get_or path i d)
    → new ≡ nodes ++ next ∷ [] → new ≡ nodes_along links n (take (i + 1) path)
along_more links n path i d here next nodes new lt at are is put =
    put ∙ ap (λ x. nodes ++ x ∷ []) (is ∙ ap (λ x. end_beyond links x (get_or path i d)) at)
    ∙ ap (λ ns. ns ++ end_beyond links (node_after links n (take i path)) (get_or path i d) ∷ []) are
    ∙ sym (ap (λ es. nodes_along links n es) (take_more path i d lt) ∙ along_one links n (take i path) (get_or path i d))
