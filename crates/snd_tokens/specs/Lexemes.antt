-- the words and parentheses of a text
use Rattle.std.specs.Prelude.{◌≡◌, ℕ, ◌≤◌, List, [], ◌∷◌, length, IsTrue}
use Rattle.net_core.specs.Terms.{is_plain}
use Rattle.snd_tokens.{specs.declared.token.Token.Token, specs.declared.token.TokenKind.TokenKind, specs.Tokens.{token_bytes, tokens_from}, specs.declared.cursor.Cursor.Cursor, specs.declared.lexeme.Next.Next}
use Rattle.snd_tokens.specs.declared.token.TokenKind.TheVariants as kinds
use Rattle.snd_tokens.specs.declared.lexeme.Next.TheVariants as next

-- a word with its bytes, or a parenthesis
pub data Lexeme : Type 0 where
  Word : List ℕ → Lexeme
  Open : Lexeme
  Close : Lexeme

-- lexemes one after another, each with its place, and the place of the end
pub data Text : Type 0 where
  WordAt : ℕ → List ℕ → Text → Text
  OpenAt : ℕ → Text → Text
  CloseAt : ℕ → Text → Text
  EndAt : ℕ → Text

-- the lexemes without their places
abbrev pub lexemes : Text → List Lexeme
lexemes (WordAt at w rest) = Word w ∷ lexemes rest
lexemes (OpenAt at rest) = Open ∷ lexemes rest
lexemes (CloseAt at rest) = Close ∷ lexemes rest
lexemes (EndAt at) = []

-- a token of a kind at a place, with these bytes, before the rest
abbrev pub put_before : TokenKind → ℕ → List ℕ → Text → Text
put_before kinds.Word at bytes rest = WordAt at bytes rest
put_before kinds.Open at bytes rest = OpenAt at rest
put_before kinds.Close at bytes rest = CloseAt at rest

-- these tokens of a file, and the file's end
abbrev pub text_of : List ℕ → List Token → Text
text_of bytes [] = EndAt (length bytes)
text_of bytes (t ∷ ts) = put_before t.kind t.at (token_bytes bytes t) (text_of bytes ts)

-- the text of a file from a place on
unfoldable pub text_from : ℕ → List ℕ → Text
text_from from bytes = text_of bytes (tokens_from from bytes)

-- what is left of a text
abbrev pub left : Cursor → Text
left c = text_from c.at c.bytes.now

-- how many lexemes there are
abbrev pub size : Text → ℕ
size text = length (lexemes text)

-- what comes next in a text, and what is after it
abbrev pub IsNext : Next → Text → Text → Type 0
IsNext (next.Word at w) text rest = (text ≡ WordAt at w.now rest) × (1 ≤ length w.now) × IsTrue (is_plain w.now)
IsNext (next.Open at) text rest = text ≡ OpenAt at rest
IsNext (next.Close at) text rest = text ≡ CloseAt at rest
IsNext (next.End at) text rest = (text ≡ EndAt at) × (rest ≡ text)
