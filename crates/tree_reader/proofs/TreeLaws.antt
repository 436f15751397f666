-- The reading of all comment lines of a tree takes exactly the texts that spell it.
use Rattle.std.proofs.Common.{◌≡◌, ℕ, ◌+◌, ◌≤◌, ◌==◌, Bool, true, false, cond, List, [], ◌∷◌, ◌++◌, length, All, Result, Ok, Err, refl, sym, ap, subst, ◌∙◌, arith, append-nil, append_assoc, length-append, map, zip, IfOk, eqb-true, eq-eqb}
use Rattle.net_core.proofs.Library.{All-cons, All-head, All-nil, All-tail, false≢true, range_with_len}
use Rattle.plan_terms.specs.Terms.{CutLine, Demand}
use Rattle.plan_report.specs.Terms.{KnownNames}
use Rattle.snd_tokens.specs.Terms.{Text, EndAt}
use Rattle.text_kit.{specs.Terms.{AnswersAs, Begins, Item, Read, IsMadeOf}, specs.declared.refusal.Refusal.Refusal, specs.declared.refusal.Refusal.TheVariants.{Bad, NoMemory}, proofs.Beginnings.IsEnd, proofs.Lemmas.lawful_as, proofs.Spelled.Lawful}
use Rattle.report_words.{specs.declared.fault.ReportKind.ReportKind, specs.Terms.branch_at, proofs.Lemmas.AreApart}
use Rattle.report_parts.proofs.RoutingLaws.{AreLinksApart}
use Rattle.line_check.specs.declared.line.Line.{Line}
use Rattle.tree_check.{specs.declared.proof.Node.Node, specs.declared.proof.Verdict.Verdict}
use Rattle.tree_lines.specs.TreeLines.{box_cut_items, line_items, node_items, verdict_items}
use Rattle.tree_reader.{specs.declared.sofar.Sofar.Sofar, specs.declared.sofar.TreeLine.TreeLine, specs.declared.sofar.TreeLine.TheVariants.{Cut, Further, Branch, Last}, specs.declared.tree.ReadTree.ReadTree, specs.CommentTexts.{AreCommentsOf, Comments, CommentAt, OtherAt, NoneAt, comments_from}, specs.ReadingLines.{cut_branches, line_branches, node_branches}, specs.ReadingTrees.{Gives, TreeRead, after_line, ended_by, lines_at, next_index, no_lines, put_line, tree_at, tree_line_at, whole_tree}, specs.Trees.{IsBoxCutInForm, IsLineInForm, IsNodeInForm, IsVerdictInForm, SpellsTree, tree_lines}, proofs.LineLaws.{IsToldLine, any_law, later_law, node_law, told_items}}

-- ---- elements with their places

-- the items of elements, each with its place
abbrev pub numbered : {X : Type 0} → (ℕ × X → List Item) → ℕ → List X → List (List Item)
numbered f n [] = []
numbered f n (x ∷ xs) = f (n, x) ∷ numbered f (n + 1) xs

pub numbered_is : {X : Type 0} (f : ℕ × X → List Item) (n : ℕ) (xs : List X) → map f (zip (range_with_len n (length xs)) xs) ≡ numbered f n xs
numbered_is f n [] = refl
numbered_is f n (x ∷ xs) = ap (λ (ls : List (List Item)). f (n, x) ∷ ls) (numbered_is f (n + 1) xs)

one_more : {X : Type 0} (xs : List X) (x : X) → length (xs ++ x ∷ []) ≡ length xs + 1
one_more xs x = omega (arith, length-append xs (x ∷ []))

none_of : {X : Type 0} (xs : List X) → (1 ≤ length xs → ⊥) → xs ≡ []
none_of [] h = refl
none_of (x ∷ xs) h = absurd (h (omega arith))

module _ (known : KnownNames) (demands : List Demand) where
  -- the lines of the nodes and the verdict
  abbrev last_lines : List Node → Verdict → List (List Item)
  last_lines nodes v = map (node_items known.links demands) nodes ++ verdict_items known.places v ∷ []

  -- the lines that are left, the cuts from one index on and the further lines from another
  abbrev lines_from : ℕ → ℕ → List CutLine → List Line → List Node → Verdict → List (List Item)
  lines_from a b cuts lines nodes v = numbered box_cut_items a cuts ++ (numbered line_items b lines ++ last_lines nodes v)

  pub lines_are : (t : ReadTree) → tree_lines known demands t ≡ lines_from 0 (length t.cuts) t.cuts t.lines t.tree t.verdict
  lines_are t =
      append_assoc (map box_cut_items (zip (range_with_len 0 (length t.cuts)) t.cuts) ++ map line_items (zip (range_with_len (length t.cuts) (length t.lines)) t.lines)) (map (node_items known.links demands) t.tree) (verdict_items known.places t.verdict ∷ [])
      ∙ append_assoc (map box_cut_items (zip (range_with_len 0 (length t.cuts)) t.cuts)) (map line_items (zip (range_with_len (length t.cuts) (length t.lines)) t.lines)) (last_lines t.tree t.verdict)
      ∙ ap (λ (ls : List (List Item)). ls ++ (map line_items (zip (range_with_len (length t.cuts) (length t.lines)) t.lines) ++ last_lines t.tree t.verdict)) (numbered_is box_cut_items 0 t.cuts)
      ∙ ap (λ (ls : List (List Item)). numbered box_cut_items 0 t.cuts ++ (ls ++ last_lines t.tree t.verdict)) (numbered_is line_items (length t.cuts) t.lines)

  abbrev with_cut : Sofar → CutLine → Sofar
  with_cut s c = record { cuts = s.cuts ++ c ∷ []; lines = s.lines; tree = s.tree }

  abbrev with_line : Sofar → Line → Sofar
  with_line s l = record { cuts = s.cuts; lines = s.lines ++ l ∷ []; tree = s.tree }

  abbrev with_node : Sofar → Node → Sofar
  with_node s n = record { cuts = s.cuts; lines = s.lines; tree = s.tree ++ n ∷ [] }

  -- what may follow the lines so far
  abbrev IsNext : Sofar → TreeLine → Type 0
  IsNext s x = IsToldLine known demands ((length s.lines ≡ 0) × (length s.tree ≡ 0)) (length s.tree ≡ 0) x

  abbrev items_after : Sofar → TreeLine → List Item
  items_after s x = told_items known demands (next_index s) x

  module _ (apart : AreLinksApart known.links) (differ : AreApart demands) where
    any_next : (s : Sofar) → length s.lines ≡ 0 → length s.tree ≡ 0 → (x : TreeLine) → IsToldLine known demands (Unit {0}) (Unit {0}) x → IsNext s x
    any_next s l t (Cut c) h = ((l, t), h.1)
    any_next s l t (Further c) h = (t, h.1)
    any_next s l t (Branch n) h = h
    any_next s l t (Last v) h = h

    next_any : (s : Sofar) (x : TreeLine) → IsNext s x → IsToldLine known demands (Unit {0}) (Unit {0}) x
    next_any s (Cut c) h = (tt, h.1)
    next_any s (Further c) h = (tt, h.1)
    next_any s (Branch n) h = h
    next_any s (Last v) h = h

    later_next : (s : Sofar) → length s.tree ≡ 0 → (x : TreeLine) → IsToldLine known demands ⊥ (Unit {0}) x → IsNext s x
    later_next s t (Cut c) h = absurd h.0
    later_next s t (Further c) h = (t, h.1)
    later_next s t (Branch n) h = h
    later_next s t (Last v) h = h

    not_zero : (n : ℕ) → (n == 0) ≡ false → n ≡ 0 → ⊥
    not_zero n f e = false≢true (sym f ∙ eq-eqb n 0 e)

    next_later : (s : Sofar) → (length s.lines == 0) ≡ false → (x : TreeLine) → IsNext s x → IsToldLine known demands ⊥ (Unit {0}) x
    next_later s l (Cut c) h = absurd (not_zero (length s.lines) l h.0.0)
    next_later s l (Further c) h = (tt, h.1)
    next_later s l (Branch n) h = h
    next_later s l (Last v) h = h

    node_next : (s : Sofar) (x : TreeLine) → IsToldLine known demands ⊥ ⊥ x → IsNext s x
    node_next s (Cut c) h = absurd h.0
    node_next s (Further c) h = absurd h.0
    node_next s (Branch n) h = h
    node_next s (Last v) h = h

    next_node : (s : Sofar) → (length s.tree == 0) ≡ false → (x : TreeLine) → IsNext s x → IsToldLine known demands ⊥ ⊥ x
    next_node s t (Cut c) h = absurd (not_zero (length s.tree) t h.0.1)
    next_node s t (Further c) h = absurd (not_zero (length s.tree) t h.0)
    next_node s t (Branch n) h = h
    next_node s t (Last v) h = h

    line_by : (s : Sofar) (u v : Bool) → (length s.tree == 0) ≡ u → (length s.lines == 0) ≡ v
        → Lawful (branch_at (cond u (cond v (cut_branches known demands (next_index s)) (line_branches known demands (next_index s))) (node_branches known demands))) (items_after s) (IsNext s) IsEnd
    line_by s true true t l = lawful_as _ (items_after s) (items_after s) _ (IsNext s) IsEnd (λ x h. refl)
        (any_next s (eqb-true (length s.lines) 0 l) (eqb-true (length s.tree) 0 t)) (next_any s) (any_law known demands apart differ (next_index s)).law
    line_by s true false t l = lawful_as _ (items_after s) (items_after s) _ (IsNext s) IsEnd (λ x h. refl)
        (later_next s (eqb-true (length s.tree) 0 t)) (next_later s l) (later_law known demands apart differ (next_index s)).law
    line_by s false v t l = lawful_as _ (items_after s) (items_after s) _ (IsNext s) IsEnd (λ x h. refl)
        (node_next s) (next_node s t) (node_law known demands apart differ (next_index s)).law

    line_law : (s : Sofar) → Lawful (tree_line_at known demands s) (items_after s) (IsNext s) IsEnd
    line_law s = line_by s (length s.tree == 0) (length s.lines == 0) refl refl

    -- ---- what was read is in the comments

    -- what follows the lines so far
    record Rest (s : Sofar) (cs : Comments) (t : ReadTree) : Type 0 where
      pub cuts : List CutLine
      pub lines : List Line
      pub nodes : List Node
      pub verdict : Verdict
      pub is : t ≡ record { cuts = s.cuts ++ cuts; lines = s.lines ++ lines; tree = s.tree ++ nodes; verdict = verdict }
      pub cuts_first : 1 ≤ length cuts → (length s.lines ≡ 0) × (length s.tree ≡ 0)
      pub lines_first : 1 ≤ length lines → length s.tree ≡ 0
      pub cuts_form : All (IsBoxCutInForm known) cuts
      pub lines_form : All IsLineInForm lines
      pub nodes_form : All (IsNodeInForm known demands) nodes
      pub verdict_form : IsVerdictInForm verdict
      pub told : AreCommentsOf (lines_from (length s.cuts) (length s.cuts + length cuts + length s.lines) cuts lines nodes verdict) cs

    rest_cut : (s : Sofar) (text : Text) (more : Comments) (t : ReadTree) (c : CutLine) → (length s.lines ≡ 0) × (length s.tree ≡ 0) → IsBoxCutInForm known c → IsMadeOf (box_cut_items (next_index s, c)) text → Rest (with_cut s c) more t → Rest s (CommentAt text more) t
    rest_cut s text more t c first form made r =
        let here : next_index s ≡ length s.cuts = omega (arith, first.0) in
        let a : length (s.cuts ++ c ∷ []) ≡ length s.cuts + 1 = one_more s.cuts c in
        let b : length (s.cuts ++ c ∷ []) + length r.cuts + length s.lines ≡ length s.cuts + length (c ∷ r.cuts) + length s.lines = omega (arith, a) in
        record {
          cuts = c ∷ r.cuts;
          lines = r.lines;
          nodes = r.nodes;
          verdict = r.verdict;
          is = r.is ∙ ap (λ (cs : List CutLine). record { cuts = cs; lines = s.lines ++ r.lines; tree = s.tree ++ r.nodes; verdict = r.verdict }) (append_assoc s.cuts (c ∷ []) r.cuts);
          cuts_first = λ some. first;
          lines_first = λ some. first.1;
          cuts_form = All-cons (IsBoxCutInForm known) c r.cuts form r.cuts_form;
          lines_form = r.lines_form;
          nodes_form = r.nodes_form;
          verdict_form = r.verdict_form;
          told = (
            subst (λ (n : ℕ). IsMadeOf (box_cut_items (n, c)) text) here made,
            subst (λ (n : ℕ). AreCommentsOf (lines_from n (length s.cuts + length (c ∷ r.cuts) + length s.lines) r.cuts r.lines r.nodes r.verdict) more) a
                (subst (λ (m : ℕ). AreCommentsOf (lines_from (length (s.cuts ++ c ∷ [])) m r.cuts r.lines r.nodes r.verdict) more) b r.told),
          );
        }

    rest_line : (s : Sofar) (text : Text) (more : Comments) (t : ReadTree) (l : Line) → length s.tree ≡ 0 → IsLineInForm l → IsMadeOf (line_items (next_index s, l)) text → Rest (with_line s l) more t → Rest s (CommentAt text more) t
    rest_line s text more t l first form made r =
        let a : length (s.lines ++ l ∷ []) ≡ length s.lines + 1 = one_more s.lines l in
        let none : r.cuts ≡ [] = none_of r.cuts (λ some. let z = (r.cuts_first some).0 in omega (arith, z, a)) in
        let here : next_index s ≡ length s.cuts + 0 + length s.lines = omega arith in
        let b : length s.cuts + 0 + length (s.lines ++ l ∷ []) ≡ length s.cuts + 0 + length s.lines + 1 = omega (arith, a) in
        let later : AreCommentsOf (lines_from (length s.cuts) (length s.cuts + 0 + length (s.lines ++ l ∷ [])) [] r.lines r.nodes r.verdict) more =
        subst (λ (cs : List CutLine). AreCommentsOf (lines_from (length s.cuts) (length s.cuts + length cs + length (s.lines ++ l ∷ [])) cs r.lines r.nodes r.verdict) more) none r.told in
        let all : AreCommentsOf (lines_from (length s.cuts) (length s.cuts + 0 + length s.lines) [] (l ∷ r.lines) r.nodes r.verdict) (CommentAt text more) = (
          subst (λ (n : ℕ). IsMadeOf (line_items (n, l)) text) here made,
          subst (λ (m : ℕ). AreCommentsOf (lines_from (length s.cuts) m [] r.lines r.nodes r.verdict) more) b later,
        ) in
        record {
          cuts = r.cuts;
          lines = l ∷ r.lines;
          nodes = r.nodes;
          verdict = r.verdict;
          is = r.is ∙ ap (λ (ls : List Line). record { cuts = s.cuts ++ r.cuts; lines = ls; tree = s.tree ++ r.nodes; verdict = r.verdict }) (append_assoc s.lines (l ∷ []) r.lines);
          cuts_first = λ some. absurd (let z = (r.cuts_first some).0 in omega (arith, z, a));
          lines_first = λ some. first;
          cuts_form = r.cuts_form;
          lines_form = All-cons IsLineInForm l r.lines form r.lines_form;
          nodes_form = r.nodes_form;
          verdict_form = r.verdict_form;
          told = subst (λ (cs : List CutLine). AreCommentsOf (lines_from (length s.cuts) (length s.cuts + length cs + length s.lines) cs (l ∷ r.lines) r.nodes r.verdict) (CommentAt text more)) (sym none) all;
        }

    rest_node : (s : Sofar) (text : Text) (more : Comments) (t : ReadTree) (n : Node) → IsNodeInForm known demands n → IsMadeOf (node_items known.links demands n) text → Rest (with_node s n) more t → Rest s (CommentAt text more) t
    rest_node s text more t n form made r =
        let a : length (s.tree ++ n ∷ []) ≡ length s.tree + 1 = one_more s.tree n in
        let no_cuts : r.cuts ≡ [] = none_of r.cuts (λ some. let z = (r.cuts_first some).1 in omega (arith, z, a)) in
        let no_more : r.lines ≡ [] = none_of r.lines (λ some. let z = r.lines_first some in omega (arith, z, a)) in
        let index : ℕ = length s.cuts in
        let later : AreCommentsOf (lines_from index (index + 0 + length s.lines) [] [] r.nodes r.verdict) more =
        subst (λ (ls : List Line). AreCommentsOf (lines_from index (index + 0 + length s.lines) [] ls r.nodes r.verdict) more) no_more
        (subst (λ (cs : List CutLine). AreCommentsOf (lines_from index (index + length cs + length s.lines) cs r.lines r.nodes r.verdict) more) no_cuts r.told) in
        let all : AreCommentsOf (lines_from index (index + 0 + length s.lines) [] [] (n ∷ r.nodes) r.verdict) (CommentAt text more) = (made, later) in
        record {
          cuts = r.cuts;
          lines = r.lines;
          nodes = n ∷ r.nodes;
          verdict = r.verdict;
          is = r.is ∙ ap (λ (ns : List Node). record { cuts = s.cuts ++ r.cuts; lines = s.lines ++ r.lines; tree = ns; verdict = r.verdict }) (append_assoc s.tree (n ∷ []) r.nodes);
          cuts_first = λ some. absurd (let z = (r.cuts_first some).1 in omega (arith, z, a));
          lines_first = λ some. absurd (let z = r.lines_first some in omega (arith, z, a));
          cuts_form = r.cuts_form;
          lines_form = r.lines_form;
          nodes_form = All-cons (IsNodeInForm known demands) n r.nodes form r.nodes_form;
          verdict_form = r.verdict_form;
          told = subst (λ (cs : List CutLine). AreCommentsOf (lines_from index (index + length cs + length s.lines) cs r.lines (n ∷ r.nodes) r.verdict) (CommentAt text more)) (sym no_cuts)
              (subst (λ (ls : List Line). AreCommentsOf (lines_from index (index + 0 + length s.lines) [] ls (n ∷ r.nodes) r.verdict) (CommentAt text more)) (sym no_more) all);
        }

    rest_last : (s : Sofar) (text : Text) (more : Comments) (t : ReadTree) (v : Verdict) → IsVerdictInForm v → IsMadeOf (verdict_items known.places v) text → ended_by s v more ≡ Ok t → Rest s (CommentAt text more) t
    rest_last s text (CommentAt other more) t v form made e = absurd cc
    rest_last s text (OtherAt at) t v form made e = absurd cc
    rest_last s text (NoneAt at) t v form made e =
        let is : whole_tree s v ≡ t = cc in
        record {
          cuts = [];
          lines = [];
          nodes = [];
          verdict = v;
          is = sym is ∙ (ap (λ (cs : List CutLine). record { cuts = cs; lines = s.lines; tree = s.tree; verdict = v }) (sym (append-nil s.cuts))
              ∙ (ap (λ (ls : List Line). record { cuts = s.cuts ++ []; lines = ls; tree = s.tree; verdict = v }) (sym (append-nil s.lines))
              ∙ ap (λ (ns : List Node). record { cuts = s.cuts ++ []; lines = s.lines ++ []; tree = ns; verdict = v }) (sym (append-nil s.tree))));
          cuts_first = λ some. absurd (omega (arith, some));
          lines_first = λ some. absurd (omega (arith, some));
          cuts_form = All-nil (IsBoxCutInForm known);
          lines_form = All-nil IsLineInForm;
          nodes_form = All-nil (IsNodeInForm known demands);
          verdict_form = form;
          told = (made, tt);
        }

    takes_line : (s : Sofar) (text : Text) (more : Comments) (t : ReadTree) (x : TreeLine) → IsNext s x → IsMadeOf (items_after s x) text → put_line s x (λ u. lines_at known demands u more) (λ v. ended_by s v more) ≡ Ok t
        → ((u : Sofar) → lines_at known demands u more ≡ Ok t → Rest u more t) → Rest s (CommentAt text more) t
    takes_line s text more t (Cut c) is made e later = rest_cut s text more t c is.0 is.1 made (later (with_cut s c) e)
    takes_line s text more t (Further l) is made e later = rest_line s text more t l is.0 is.1 made (later (with_line s l) e)
    takes_line s text more t (Branch n) is made e later = rest_node s text more t n is made (later (with_node s n) e)
    takes_line s text more t (Last v) is made e later = rest_last s text more t v is made e

    takes_by : (s : Sofar) (text : Text) (more : Comments) (t : ReadTree) (q : Read ReportKind TreeLine) → tree_line_at known demands s text ≡ q → after_line s q (λ u. lines_at known demands u more) (λ v. ended_by s v more) ≡ Ok t
        → ((u : Sofar) → lines_at known demands u more ≡ Ok t → Rest u more t) → Rest s (CommentAt text more) t
    takes_by s text more t (Err d) read e later = absurd cc
    takes_by s text more t (Ok x) read e later =
        let h = (line_law s).takes text x.0 x.1 read in
        takes_line s text more t x.0 h.0 (h.2.0, subst (λ (r : Text). Begins (items_after s x.0) text r) h.2.1 h.1) e later

    takes_all : (s : Sofar) (cs : Comments) (t : ReadTree) → lines_at known demands s cs ≡ Ok t → Rest s cs t
    takes_all s (CommentAt text more) t e = takes_by s text more t (tree_line_at known demands s text) refl e (λ u h. takes_all u more t h)
    takes_all s (OtherAt at) t e = absurd cc
    takes_all s (NoneAt at) t e = absurd cc

    -- ---- what is in the comments is read

    -- a line that is read, and then the others
    line_again : (s : Sofar) (text : Text) (more : Comments) (x : TreeLine) → IsNext s x → IsMadeOf (items_after s x) text
        → lines_at known demands s (CommentAt text more) ≡ put_line s x (λ u. lines_at known demands u more) (λ v. ended_by s v more)
    line_again s text more x is made =
        ap (λ (q : Read ReportKind TreeLine). after_line s q (λ u. lines_at known demands u more) (λ v. ended_by s v more)) ((line_law s).again text x (EndAt made.0) is made.1 (made.0, refl))

    again_last : (s : Sofar) (v : Verdict) (more : Comments) → AreCommentsOf [] more → ended_by s v more ≡ Ok (whole_tree s v)
    again_last s v (CommentAt text more) a = absurd a
    again_last s v (OtherAt at) a = absurd a
    again_last s v (NoneAt at) a = refl

    again_nodes : (s : Sofar) (nodes : List Node) (v : Verdict) (cs : Comments) → All (IsNodeInForm known demands) nodes → IsVerdictInForm v → AreCommentsOf (last_lines nodes v) cs
        → lines_at known demands s cs ≡ Ok (record { cuts = s.cuts; lines = s.lines; tree = s.tree ++ nodes; verdict = v })
    again_nodes s [] v (CommentAt text more) all form a =
        line_again s text more (Last v) form a.0 ∙ (again_last s v more a.1 ∙ ap (λ (ns : List Node). Ok (record { cuts = s.cuts; lines = s.lines; tree = ns; verdict = v })) (sym (append-nil s.tree)))
    again_nodes s [] v (OtherAt at) all form a = absurd a
    again_nodes s [] v (NoneAt at) all form a = absurd a
    again_nodes s (n ∷ ns) v (CommentAt text more) all form a =
        line_again s text more (Branch n) (All-head (IsNodeInForm known demands) n ns all) a.0
        ∙ (again_nodes (with_node s n) ns v more (All-tail (IsNodeInForm known demands) n ns all) form a.1
        ∙ ap (λ (ms : List Node). Ok (record { cuts = s.cuts; lines = s.lines; tree = ms; verdict = v })) (append_assoc s.tree (n ∷ []) ns))
    again_nodes s (n ∷ ns) v (OtherAt at) all form a = absurd a
    again_nodes s (n ∷ ns) v (NoneAt at) all form a = absurd a

    again_lines : (s : Sofar) (lines : List Line) (nodes : List Node) (v : Verdict) (cs : Comments) → length s.tree ≡ 0 → All IsLineInForm lines → All (IsNodeInForm known demands) nodes → IsVerdictInForm v
        → AreCommentsOf (numbered line_items (next_index s) lines ++ last_lines nodes v) cs
        → lines_at known demands s cs ≡ Ok (record { cuts = s.cuts; lines = s.lines ++ lines; tree = s.tree ++ nodes; verdict = v })
    again_lines s [] nodes v cs first all each form a =
        again_nodes s nodes v cs each form a ∙ ap (λ (ls : List Line). Ok (record { cuts = s.cuts; lines = ls; tree = s.tree ++ nodes; verdict = v })) (sym (append-nil s.lines))
    again_lines s (l ∷ ls) nodes v (CommentAt text more) first all each form a =
        let next : next_index s + 1 ≡ next_index (with_line s l) = omega (arith, one_more s.lines l) in
        line_again s text more (Further l) (first, All-head IsLineInForm l ls all) a.0
        ∙ (again_lines (with_line s l) ls nodes v more first (All-tail IsLineInForm l ls all) each form (subst (λ (n : ℕ). AreCommentsOf (numbered line_items n ls ++ last_lines nodes v) more) next a.1)
        ∙ ap (λ (ms : List Line). Ok (record { cuts = s.cuts; lines = ms; tree = s.tree ++ nodes; verdict = v })) (append_assoc s.lines (l ∷ []) ls))
    again_lines s (l ∷ ls) nodes v (OtherAt at) first all each form a = absurd a
    again_lines s (l ∷ ls) nodes v (NoneAt at) first all each form a = absurd a

    again_cuts : (s : Sofar) (cuts : List CutLine) (lines : List Line) (nodes : List Node) (v : Verdict) (cs : Comments) → length s.lines ≡ 0 → length s.tree ≡ 0
        → All (IsBoxCutInForm known) cuts → All IsLineInForm lines → All (IsNodeInForm known demands) nodes → IsVerdictInForm v
        → AreCommentsOf (lines_from (length s.cuts) (length s.cuts + length cuts) cuts lines nodes v) cs
        → lines_at known demands s cs ≡ Ok (record { cuts = s.cuts ++ cuts; lines = s.lines ++ lines; tree = s.tree ++ nodes; verdict = v })
    again_cuts s [] lines nodes v cs none first all some each form a =
        let here : length s.cuts + 0 ≡ next_index s = omega (arith, none) in
        again_lines s lines nodes v cs first some each form (subst (λ (n : ℕ). AreCommentsOf (numbered line_items n lines ++ last_lines nodes v) cs) here a)
        ∙ ap (λ (ks : List CutLine). Ok (record { cuts = ks; lines = s.lines ++ lines; tree = s.tree ++ nodes; verdict = v })) (sym (append-nil s.cuts))
    again_cuts s (c ∷ ks) lines nodes v (CommentAt text more) none first all some each form a =
        let here : length s.cuts ≡ next_index s = omega (arith, none) in
        let n : length s.cuts + 1 ≡ length (s.cuts ++ c ∷ []) = sym (one_more s.cuts c) in
        let m : length s.cuts + length (c ∷ ks) ≡ length (s.cuts ++ c ∷ []) + length ks = omega (arith, one_more s.cuts c) in
        line_again s text more (Cut c) ((none, first), All-head (IsBoxCutInForm known) c ks all) (subst (λ (i : ℕ). IsMadeOf (box_cut_items (i, c)) text) here a.0)
        ∙ (again_cuts (with_cut s c) ks lines nodes v more none first (All-tail (IsBoxCutInForm known) c ks all) some each form
        (subst (λ (i : ℕ). AreCommentsOf (lines_from i (length (s.cuts ++ c ∷ []) + length ks) ks lines nodes v) more) n
        (subst (λ (i : ℕ). AreCommentsOf (lines_from (length s.cuts + 1) i ks lines nodes v) more) m a.1))
        ∙ ap (λ (ms : List CutLine). Ok (record { cuts = ms; lines = s.lines ++ lines; tree = s.tree ++ nodes; verdict = v })) (append_assoc s.cuts (c ∷ []) ks))
    again_cuts s (c ∷ ks) lines nodes v (OtherAt at) none first all some each form a = absurd a
    again_cuts s (c ∷ ks) lines nodes v (NoneAt at) none first all some each form a = absurd a

    -- ---- the whole tree

    tree_takes : (from : ℕ) (bytes : List ℕ) (t : ReadTree) → tree_at known demands from bytes ≡ Ok t → SpellsTree known demands from bytes t
    tree_takes from bytes t e =
        let cs = comments_from from bytes in
        let r = takes_all no_lines cs t e in
        let count : 0 + length r.cuts + 0 ≡ length r.cuts = omega arith in
        let told : AreCommentsOf (lines_from 0 (length r.cuts) r.cuts r.lines r.nodes r.verdict) cs =
        subst (λ (n : ℕ). AreCommentsOf (lines_from 0 n r.cuts r.lines r.nodes r.verdict) cs) count r.told in
        let all : ReadTree = record { cuts = r.cuts; lines = r.lines; tree = r.nodes; verdict = r.verdict } in
        subst (SpellsTree known demands from bytes) (sym r.is) (record {
          form = record { cuts = r.cuts_form; lines = r.lines_form; nodes = r.nodes_form; verdict = r.verdict_form };
          spelled = subst (λ (ls : List (List Item)). AreCommentsOf ls cs) (sym (lines_are all)) told;
        })

    pub tree_again : (from : ℕ) (bytes : List ℕ) (t : ReadTree) → SpellsTree known demands from bytes t → tree_at known demands from bytes ≡ Ok t
    tree_again from bytes t s =
        let count : length t.cuts ≡ 0 + length t.cuts = omega arith in
        again_cuts no_lines t.cuts t.lines t.tree t.verdict (comments_from from bytes) refl refl s.form.cuts s.form.lines s.form.nodes s.form.verdict
        (subst (λ (n : ℕ). AreCommentsOf (lines_from 0 n t.cuts t.lines t.tree t.verdict) (comments_from from bytes)) count (subst (λ (ls : List (List Item)). AreCommentsOf ls (comments_from from bytes)) (lines_are t) s.spelled))

    -- ---- what was answered

    pub tree_found : (from : ℕ) (bytes : List ℕ) (a : Result ReadTree (Refusal ReportKind)) → Gives a (tree_at known demands from bytes) → IfOk a (λ t. SpellsTree known demands from bytes t)
    tree_found from bytes (Ok t) h = tree_takes from bytes t h
    tree_found from bytes (Err e) h = tt

    pub tree_only : (from : ℕ) (bytes : List ℕ) (a : Result ReadTree (Refusal ReportKind)) → Gives a (tree_at known demands from bytes) → (t : ReadTree) → SpellsTree known demands from bytes t → AnswersAs (λ x. x) a t
    tree_only from bytes (Ok x) h t s = let e : (let q : TreeRead = Ok x in q ≡ Ok t) = sym h ∙ tree_again from bytes t s in cc
    tree_only from bytes (Err (Bad at kind)) h t s = absurd (let e : (let q : TreeRead = Err (at, kind) in q ≡ Ok t) = sym h ∙ tree_again from bytes t s in cc)
    tree_only from bytes (Err NoMemory) h t s = tt
