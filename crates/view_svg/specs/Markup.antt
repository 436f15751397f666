-- names in markup (Extensible Markup Language 1.0, W3C, section 2.4)
use Rattle.std.{specs.Prelude.{ℕ, ◌||◌, List, [], ◌∷◌, codes, cond, flat_map, nat_eq, nat_lt}, specs.Str.Lossy.utf8_lossy}

-- a byte as markup writes it; a control character is a question mark
abbrev pub escaped_byte : ℕ → List ℕ
escaped_byte b =
    cond (nat_eq b 38) (codes "&amp;")
    (cond (nat_eq b 60) (codes "&lt;")
    (cond (nat_eq b 62) (codes "&gt;")
    (cond (nat_eq b 34) (codes "&quot;")
    (cond (nat_eq b 39) (codes "&#39;")
    (cond (nat_lt b 32 || nat_eq b 127) (codes "?") (b ∷ []))))))

-- a name as markup writes it; what isn't UTF-8 becomes the replacement character
abbrev pub escaped : List ℕ → List ℕ
escaped name = flat_map escaped_byte (utf8_lossy name)
