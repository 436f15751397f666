-- the steps of walks that give new indices
use Rattle.std.{proofs.Common.{◌≡◌, ℕ, List, [], ◌∷◌, ◌++◌, map, ap, sym, ◌∙◌}, proofs.lemmas.List.{append_assoc, map-append}}
use Rattle.master_bound.specs.declared.answer.Multiplier.{Multiplier}
use Rattle.plan_terms.specs.Terms.{CutLine}
use Rattle.line_check.specs.declared.line.Line.{Line}
use Rattle.tree_check.specs.declared.proof.Node.{Node}
use Rattle.line_maker.{specs.Orders.{cuts_among, lines_among, moved_line, moved_multipliers, moved_node}, specs.declared.entry.Entry.Entry, proofs.Placed.{cuts_append, lines_append}}

-- ---- numerators

pub multipliers_more : (to : ℕ → ℕ) (moved all : List Multiplier) (left rest : List Multiplier) (m : Multiplier) (cut : ℕ) → left ≡ m ∷ rest
    → moved ++ moved_multipliers to left ≡ all → cut ≡ to m.cut → (moved ++ record { cut = cut; num = m.num } ∷ []) ++ moved_multipliers to rest ≡ all
multipliers_more to moved all left rest m cut is so_far same =
    append_assoc moved (record { cut = cut; num = m.num } ∷ []) (moved_multipliers to rest)
    ∙ (ap (λ (n : ℕ). moved ++ (record { cut = n; num = m.num } ∷ moved_multipliers to rest)) same
    ∙ (ap (λ (ms : List Multiplier). moved ++ moved_multipliers to ms) (sym is) ∙ so_far))

-- ---- nodes

pub moved_more : (to : ℕ → ℕ) (moved all : List Node) (left rest : List Node) (node next : Node) → left ≡ node ∷ rest → moved ++ map (moved_node to) left ≡ all
    → next ≡ moved_node to node → (moved ++ next ∷ []) ++ map (moved_node to) rest ≡ all
moved_more to moved all left rest node next is so_far same =
    append_assoc moved (next ∷ []) (map (moved_node to) rest)
    ∙ (ap (λ (n : Node). moved ++ (n ∷ map (moved_node to) rest)) same ∙ (ap (λ (ns : List Node). moved ++ map (moved_node to) ns) (sym is) ∙ so_far))

-- ---- entries

pub cuts_on : (cuts next all : List CutLine) (left rest : List Entry) (e : Entry) → left ≡ e ∷ rest → cuts ++ cuts_among left ≡ all
    → next ≡ cuts ++ cuts_among (e ∷ []) → next ++ cuts_among rest ≡ all
cuts_on cuts next all left rest e is so_far put =
    ap (λ (xs : List CutLine). xs ++ cuts_among rest) put
    ∙ (append_assoc cuts (cuts_among (e ∷ [])) (cuts_among rest)
    ∙ (ap (λ (xs : List CutLine). cuts ++ xs) (sym (cuts_append (e ∷ []) rest)) ∙ (ap (λ (es : List Entry). cuts ++ cuts_among es) (sym is) ∙ so_far)))

pub lines_on : (to : ℕ → ℕ) (lines next all : List Line) (left rest : List Entry) (e : Entry) → left ≡ e ∷ rest → lines ++ map (moved_line to) (lines_among left) ≡ all
    → next ≡ lines ++ map (moved_line to) (lines_among (e ∷ [])) → next ++ map (moved_line to) (lines_among rest) ≡ all
lines_on to lines next all left rest e is so_far put =
    let f = moved_line to in
    let apart : map f (lines_among (e ∷ [])) ++ map f (lines_among rest) ≡ map f (lines_among (e ∷ rest)) =
    sym (map-append f (lines_among (e ∷ [])) (lines_among rest)) ∙ ap (map f) (sym (lines_append (e ∷ []) rest)) in
    ap (λ (xs : List Line). xs ++ map f (lines_among rest)) put
    ∙ (append_assoc lines (map f (lines_among (e ∷ []))) (map f (lines_among rest))
    ∙ (ap (λ (xs : List Line). lines ++ xs) apart ∙ (ap (λ (es : List Entry). lines ++ map f (lines_among es)) (sym is) ∙ so_far)))
