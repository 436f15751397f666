-- the names of the first nodes
use Rattle.std.proofs.Common.{◌≡◌, ℕ, zero, suc, ◌+◌, ◌<◌, List, [], ◌∷◌, ◌++◌, append-nil, append_assoc, ap, arith, get_or, length, min, refl, sym, take, ◌∙◌, add-one}
use Rattle.picture_layout.specs.declared.layout.Spot.{Spot}
use Rattle.view_svg.specs.Pictures.{drawn_name, drawn_names}

next_node : (ns : List (List ℕ)) (ss : List Spot) (i : ℕ) (n : List ℕ) (s : Spot) → i < length ns → i < length ss
    → drawn_names (take (suc i) ns) (take (suc i) ss) ≡ drawn_names (take i ns) (take i ss) ++ drawn_name (get_or ns i n) (get_or ss i s)
next_node [] ss i n s lt low = absurd (omega (arith, lt))
next_node (x ∷ ns) [] i n s lt low = absurd (omega (arith, low))
next_node (x ∷ ns) (y ∷ ss) zero n s lt low = append-nil (drawn_name x y)
next_node (x ∷ ns) (y ∷ ss) (suc i) n s lt low =
    ap (λ t. drawn_name x y ++ t) (next_node ns ss i n s (omega (arith, lt)) (omega (arith, low)))
    ∙ sym (append_assoc (drawn_name x y) (drawn_names (take i ns) (take i ss)) (drawn_name (get_or ns i n) (get_or ss i s)))

more_nodes : (ns : List (List ℕ)) (ss : List Spot) (i : ℕ) (n : List ℕ) (s : Spot) → i < length ns → i < length ss
    → drawn_names (take (i + 1) ns) (take (i + 1) ss) ≡ drawn_names (take i ns) (take i ss) ++ drawn_name (get_or ns i n) (get_or ss i s)
more_nodes ns ss i n s lt low = rw add-one (next_node ns ss i n s lt low)

pub all_nodes : (ns : List (List ℕ)) (ss : List Spot) (k : ℕ) → k ≡ min (length ns) (length ss) → drawn_names (take k ns) (take k ss) ≡ drawn_names ns ss
all_nodes [] ss zero is = refl
all_nodes [] ss (suc k) is = refl
all_nodes (n ∷ ns) [] zero is = refl
all_nodes (n ∷ ns) [] (suc k) is = refl
all_nodes (n ∷ ns) (s ∷ ss) zero is = absurd (omega (arith, is))
all_nodes (n ∷ ns) (s ∷ ss) (suc k) is = ap (λ t. drawn_name n s ++ t) (all_nodes ns ss k (omega (arith, is)))

pub next_nodes : (ns : List (List ℕ)) (ss : List Spot) (i : ℕ) (n : List ℕ) (s : Spot) (old mid new : List ℕ) → i < length ns → i < length ss
    → n ≡ get_or ns i n → mid ≡ old ++ drawn_names (take i ns) (take i ss) → new ≡ mid ++ drawn_name n (get_or ss i s)
    → new ≡ old ++ drawn_names (take (i + 1) ns) (take (i + 1) ss)
next_nodes ns ss i n s old mid new lt low is before step =
    let here = drawn_name (get_or ns i n) (get_or ss i s) in
    step ∙ ap (λ name. mid ++ drawn_name name (get_or ss i s)) is ∙ ap (λ t. t ++ here) before ∙ append_assoc old (drawn_names (take i ns) (take i ss)) here
    ∙ ap (λ t. old ++ t) (sym (more_nodes ns ss i n s lt low))
