-- where a tree is spelled, a comment begins as one of its lines
use Rattle.std.proofs.Common.{◌≡◌, ◌||◌, Bool, true, false, ℕ, List, [], ◌∷◌, ◌++◌, codes, map, zip, length, refl, subst, sym}
use Rattle.net_core.proofs.Library.{false≢true, range_with_len}
use Rattle.plan_terms.specs.Terms.{Demand, Places}
use Rattle.plan_report.specs.Terms.{KnownNames}
use Rattle.snd_tokens.specs.Terms.{Text, WordAt, OpenAt, CloseAt, EndAt}
use Rattle.text_kit.specs.Terms.{Item, Money, Opening, Closing, Verbatim, IsMadeOf}
use Rattle.tree_check.{specs.declared.proof.Verdict.Verdict, specs.declared.proof.Verdict.TheVariants.{Cheapest, Above}}
use Rattle.tree_lines.specs.TreeLines.{box_cut_items, line_items, node_items, verdict_items}
use Rattle.tree_reader.{specs.CommentTexts.{AreCommentsOf, Comments, CommentAt, OtherAt, NoneAt, comments_from}, specs.TreeWords.{begins_tree_line, has_tree_line, is_tree_word}, specs.Trees.SpellsTree, specs.declared.tree.ReadTree.ReadTree}

or_first : (a b : Bool) → a ≡ true → (a || b) ≡ true
or_first true b h = refl
or_first false b h = absurd (false≢true h)

or_second : (a b : Bool) → b ≡ true → (a || b) ≡ true
or_second true b h = refl
or_second false b h = h

-- the text begins with this word, and then come other items
word_begins : (w : List ℕ) (items : List Item) (text : Text) → is_tree_word w ≡ true → IsMadeOf (Verbatim w ∷ items) text → begins_tree_line text ≡ true
word_begins w items (WordAt at x rest) is made = subst (λ (y : List ℕ). is_tree_word y ≡ true) (sym made.1.0) is
word_begins w items (OpenAt at rest) is made = let other : Verbatim w ≡ Opening = made.1.0 in absurd cc
word_begins w items (CloseAt at rest) is made = let other : Verbatim w ≡ Closing = made.1.0 in absurd cc
word_begins w items (EndAt at) is made = absurd made.1

verdict_begins : (places : Places) (v : Verdict) (text : Text) → IsMadeOf (verdict_items places v) text → begins_tree_line text ≡ true
verdict_begins places Cheapest text made = word_begins (codes "cheapest") [] text refl made
verdict_begins places (Above least) text made = word_begins (codes "above") (Money places least ∷ []) text refl made

-- lines of which the last begins so
last_begins : (lines : List (List Item)) (last : List Item) (comments : Comments) → ((text : Text) → IsMadeOf last text → begins_tree_line text ≡ true)
    → AreCommentsOf (lines ++ last ∷ []) comments → has_tree_line comments ≡ true
last_begins [] last (CommentAt text more) so are = or_first (begins_tree_line text) (has_tree_line more) (so text are.0)
last_begins [] last (OtherAt at) so are = absurd are
last_begins [] last (NoneAt at) so are = absurd are
last_begins (l ∷ lines) last (CommentAt text more) so are = or_second (begins_tree_line text) (has_tree_line more) (last_begins lines last more so are.1)
last_begins (l ∷ lines) last (OtherAt at) so are = absurd are
last_begins (l ∷ lines) last (NoneAt at) so are = absurd are

pub spelled_begins : (known : KnownNames) (demands : List Demand) (from : ℕ) (bytes : List ℕ) (t : ReadTree) → SpellsTree known demands from bytes t → has_tree_line (comments_from from bytes) ≡ true
spelled_begins known demands from bytes t spelled =
    last_begins
    (map box_cut_items (zip (range_with_len 0 (length t.cuts)) t.cuts) ++ map line_items (zip (range_with_len (length t.cuts) (length t.lines)) t.lines) ++ map (node_items known.links demands) t.tree)
    (verdict_items known.places t.verdict) (comments_from from bytes) (verdict_begins known.places t.verdict) spelled.spelled
