-- which comment lines begin as those of a branch tree
use Rattle.std.{specs.Prelude.{◌||◌, Bool, false, ℕ, List, [], ◌∷◌, codes}, specs.List.list_any}
use Rattle.net_core.specs.Terms.{are_same}
use Rattle.snd_tokens.specs.Terms.{Text, WordAt}
use Rattle.tree_reader.specs.CommentTexts.{Comments, CommentAt, OtherAt, NoneAt}

-- the first words of cuts and further lines, and those of nodes and verdicts
abbrev pub line_words : List (List ℕ)
line_words = codes "box-cut" ∷ codes "line" ∷ codes "table" ∷ []

abbrev pub node_words : List (List ℕ)
node_words = codes "split" ∷ codes "closed" ∷ codes "empty" ∷ codes "spent" ∷ codes "stuck" ∷ []

abbrev pub verdict_words : List (List ℕ)
verdict_words = codes "cheapest" ∷ codes "above" ∷ []

-- the word is one of these
abbrev pub is_word_of : List (List ℕ) → List ℕ → Bool
is_word_of words w = list_any (are_same w) words

-- a line of a branch tree begins with the word
abbrev pub is_tree_word : List ℕ → Bool
is_tree_word w = is_word_of line_words w || (is_word_of node_words w || is_word_of verdict_words w)

-- the text begins so
abbrev pub begins_tree_line : Text → Bool
begins_tree_line (WordAt at w rest) = is_tree_word w
begins_tree_line _ = false

-- one of the comments begins so
abbrev pub has_tree_line : Comments → Bool
has_tree_line (CommentAt text more) = begins_tree_line text || has_tree_line more
has_tree_line (OtherAt at) = false
has_tree_line (NoneAt at) = false
