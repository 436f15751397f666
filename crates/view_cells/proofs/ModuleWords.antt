-- words on the first kinds of modules
use Rattle.std.proofs.Common.{◌≡◌, ℕ, zero, suc, ◌+◌, ◌<◌, List, [], ◌∷◌, ◌++◌, append-nil, append_assoc, ap, arith, get_or, length, min, refl, sym, take, ◌∙◌, add-one}
use Rattle.plan_terms.specs.Terms.{Module, Places}
use Rattle.view_cells.specs.ModuleWords.{kind_words, kinds_words}

next_kind : (places : Places) (ms : List Module) (ns : List ℕ) (i : ℕ) (m : Module) (n : ℕ) → i < length ms → i < length ns
    → kinds_words places (take (suc i) ms) (take (suc i) ns) ≡ kinds_words places (take i ms) (take i ns) ++ kind_words places (get_or ms i m) (get_or ns i n)
next_kind places [] ns i m n lt low = absurd (omega (arith, lt))
next_kind places (x ∷ ms) [] i m n lt low = absurd (omega (arith, low))
next_kind places (x ∷ ms) (y ∷ ns) zero m n lt low = append-nil (kind_words places x y)
next_kind places (x ∷ ms) (y ∷ ns) (suc i) m n lt low =
    ap (λ ws. kind_words places x y ++ ws) (next_kind places ms ns i m n (omega (arith, lt)) (omega (arith, low)))
    ∙ sym (append_assoc (kind_words places x y) (kinds_words places (take i ms) (take i ns)) (kind_words places (get_or ms i m) (get_or ns i n)))

pub more_kinds : (places : Places) (ms : List Module) (ns : List ℕ) (i : ℕ) (m : Module) (n : ℕ) → i < length ms → i < length ns
    → kinds_words places (take (i + 1) ms) (take (i + 1) ns) ≡ kinds_words places (take i ms) (take i ns) ++ kind_words places (get_or ms i m) (get_or ns i n)
more_kinds places ms ns i m n lt low = rw add-one (next_kind places ms ns i m n lt low)

pub all_kinds : (places : Places) (ms : List Module) (ns : List ℕ) (k : ℕ) → k ≡ min (length ms) (length ns)
    → kinds_words places (take k ms) (take k ns) ≡ kinds_words places ms ns
all_kinds places [] ns zero is = refl
all_kinds places [] ns (suc k) is = refl
all_kinds places (m ∷ ms) [] zero is = refl
all_kinds places (m ∷ ms) [] (suc k) is = refl
all_kinds places (m ∷ ms) (n ∷ ns) zero is = absurd (omega (arith, is))
all_kinds places (m ∷ ms) (n ∷ ns) (suc k) is = ap (λ ws. kind_words places m n ++ ws) (all_kinds places ms ns k (omega (arith, is)))

pub next_kinds : (places : Places) (ms : List Module) (ns : List ℕ) (i : ℕ) (m : Module) (n : ℕ) (old mid new : List (List ℕ)) → i < length ms → i < length ns
    → mid ≡ old ++ kinds_words places (take i ms) (take i ns) → new ≡ mid ++ kind_words places (get_or ms i m) (get_or ns i n)
    → new ≡ old ++ kinds_words places (take (i + 1) ms) (take (i + 1) ns)
next_kinds places ms ns i m n old mid new lt low before step =
    let here = kind_words places (get_or ms i m) (get_or ns i n) in
    step ∙ ap (λ ws. ws ++ here) before ∙ append_assoc old (kinds_words places (take i ms) (take i ns)) here
    ∙ ap (λ ws. old ++ ws) (sym (more_kinds places ms ns i m n lt low))
