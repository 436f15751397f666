-- demands with different names are new, one after another
use Rattle.std.proofs.Common.{◌≡◌, ◌≢◌, ℕ, suc, ◌<◌, true, false, List, ◌∷◌, ◌++◌, length, map, take, drop, get_or, AllPairs, sym, ap, subst, ◌∙◌, drop-cons, take-append-drop}
use Rattle.plan_terms.specs.Terms.{is_named, Demand}
use Rattle.net_core.proofs.Accepted.{new_name}
use Rattle.report_words.proofs.Lemmas.{named_among}

-- no demand before the i-th has its name
new_demand_at : (xs : List Demand) (i : ℕ) (x : Demand) → i < length xs → x ≡ get_or xs i x → AllPairs (λ (a b : Demand). a.name ≢ b.name) xs → is_named (λ (d : Demand). d.name) x.name (take i xs) ≡ false
new_demand_at xs i x lt is pairs =
    let there : drop i xs ≡ x ∷ drop (suc i) xs = drop-cons xs i x lt ∙ ap (λ y. y ∷ drop (suc i) xs) (sym is) in
    let whole : take i xs ++ x ∷ drop (suc i) xs ≡ xs = ap (λ ys. take i xs ++ ys) (sym there) ∙ take-append-drop i xs in
    new_name (λ (d : Demand). d.name) (take i xs) x (drop (suc i) xs) (subst (λ (ys : List Demand). AllPairs (λ (a b : Demand). a.name ≢ b.name) ys) (sym whole) pairs)

-- so its name isn't among theirs
pub demand_once : (xs : List Demand) (i : ℕ) (x : Demand) (w : List ℕ) (names : List (List ℕ)) → AllPairs (λ (a b : Demand). a.name ≢ b.name) xs → i < length xs → x ≡ get_or xs i x
    → w ≡ x.name → names ≡ map (λ (d : Demand). d.name) (take i xs) → is_named (λ n. n) w names ≡ true → ⊥
demand_once xs i x w names pairs lt is word sofar twice =
    let known : is_named (λ (d : Demand). d.name) w (take i xs) ≡ true = named_among (λ (d : Demand). d.name) w (take i xs) names true sofar twice in
    let fresh = new_demand_at xs i x lt is pairs in
    let same : is_named (λ (d : Demand). d.name) x.name (take i xs) ≡ true = subst (λ (v : List ℕ). is_named (λ (d : Demand). d.name) v (take i xs) ≡ true) word known in
    let no : false ≡ true = sym fresh ∙ same in
    absurd cc
