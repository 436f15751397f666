-- Names that are all different are new, one after another.
use Rattle.std.proofs.Common.{◌≡◌, ◌≢◌, ℕ, suc, ◌<◌, Bool, true, false, List, ◌∷◌, ◌++◌, length, map, take, drop, get_or, AllPairs, sym, ap, subst, ◌∙◌, drop-cons, take-append-drop}
use Rattle.net_core.{proofs.Library.{∥∥₁_elim, props, new_name}, specs.Terms.{IsNetwork, are_same, is_named}, specs.declared.network.Link.Link}
use Rattle.report_words.proofs.Lookups.{any_map}

-- of things with different names none before the i-th has its name
new_at : {X : Type 0} (name_of : X → List ℕ) (xs : List X) (i : ℕ) (x : X) → i < length xs → x ≡ get_or xs i x → AllPairs (λ a b. name_of a ≢ name_of b) xs → is_named name_of (name_of x) (take i xs) ≡ false
new_at name_of xs i x lt is pairs =
    let there : drop i xs ≡ x ∷ drop (suc i) xs = drop-cons xs i x lt ∙ ap (λ y. y ∷ drop (suc i) xs) (sym is) in
    let whole : take i xs ++ x ∷ drop (suc i) xs ≡ xs = ap (λ ys. take i xs ++ ys) (sym there) ∙ take-append-drop i xs in
    new_name name_of (take i xs) x (drop (suc i) xs) (subst (λ ys. AllPairs (λ a b. name_of a ≢ name_of b) ys) (sym whole) pairs)

not_both : (b : Bool) → b ≡ false → b ≡ true → ⊥
not_both true p q = absurd cc
not_both false p q = absurd cc

-- no link of a network has the name of an earlier one
pub link_once : (nodes : List (List ℕ)) (links ls : List Link) (i : ℕ) (l : Link) (w : List ℕ) (names : List (List ℕ)) → ∥ IsNetwork nodes links ∥₁ → ls ≡ links → i < length ls → l ≡ get_or ls i l
    → w ≡ l.name → names ≡ map (λ e. e.name) (take i ls) → is_named (λ n. n) w names ≡ true → ⊥
link_once nodes links ls i l w names net same lt is word sofar twice =
    ∥∥₁_elim net (hlevel props) (λ n.
    let pairs : AllPairs (λ (x y : Link). x.name ≢ y.name) ls = subst (λ (xs : List Link). AllPairs (λ (x y : Link). x.name ≢ y.name) xs) (sym same) n.different_links in
    let here : is_named (λ n. n) l.name (map (λ (e : Link). e.name) (take i ls)) ≡ true = ap (λ (v : List ℕ). is_named (λ n. n) v (map (λ (e : Link). e.name) (take i ls))) (sym word) ∙ (ap (λ (ns : List (List ℕ)). is_named (λ n. n) w ns) (sym sofar) ∙ twice) in
    not_both (is_named (λ (e : Link). e.name) l.name (take i ls)) (new_at (λ (e : Link). e.name) ls i l lt is pairs) (sym (any_map (λ n. are_same n l.name) (λ (e : Link). e.name) (take i ls)) ∙ here))

-- no node of a network has the name of an earlier one
pub node_once : (nodes : List (List ℕ)) (links : List Link) (ns : List (List ℕ)) (i : ℕ) (name w : List ℕ) (names : List (List ℕ)) → ∥ IsNetwork nodes links ∥₁ → ns ≡ nodes → i < length ns → name ≡ get_or ns i name
    → w ≡ name → names ≡ take i ns → is_named (λ n. n) w names ≡ true → ⊥
node_once nodes links ns i name w names net same lt is word sofar twice =
    ∥∥₁_elim net (hlevel props) (λ n.
    let pairs : AllPairs (λ (x y : List ℕ). x ≢ y) ns = subst (λ (xs : List (List ℕ)). AllPairs (λ (x y : List ℕ). x ≢ y) xs) (sym same) n.different_nodes in
    let here : is_named (λ n. n) name (take i ns) ≡ true = ap (λ (v : List ℕ). is_named (λ n. n) v (take i ns)) (sym word) ∙ (ap (λ (xs : List (List ℕ)). is_named (λ n. n) w xs) (sym sofar) ∙ twice) in
    not_both (is_named (λ n. n) name (take i ns)) (new_at (λ n. n) ns i name lt is pairs) here)
