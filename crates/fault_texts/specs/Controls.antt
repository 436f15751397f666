-- bytes of control characters, which a terminal may take for orders
use Rattle.std.specs.Prelude.{ℕ, zero, suc, ◌+◌, ◌-◌, ◌==◌, Bool, ◌||◌, ◌&&◌, cond, List, [], ◌∷◌, ◌++◌, length, nat_le, nat_lt, slice_index}

-- a control character of one byte
abbrev pub is_order : ℕ → Bool
is_order b = nat_lt b 32 || b == 127

-- the second byte of a control character of two bytes, U+0080 to U+009F
abbrev pub ends_order : List ℕ → ℕ → Bool
ends_order text i = nat_le 128 (slice_index text i) && nat_lt (slice_index text i) 160 && slice_index text (i - 1) == 194

-- a byte of a control character
abbrev pub is_control : List ℕ → ℕ → Bool
is_control text i = is_order (slice_index text i) || ends_order text i || ends_order text (i + 1)

-- a byte as it is shown: a control character is a space, or a no-break space if it has two bytes
abbrev pub shown_byte : List ℕ → ℕ → ℕ
shown_byte text i = cond (is_order (slice_index text i)) 32 (cond (ends_order text i) 160 (slice_index text i))

-- the first n bytes as they are shown
abbrev pub shown_below : ℕ → List ℕ → List ℕ
shown_below zero text = []
shown_below (suc i) text = shown_below i text ++ shown_byte text i ∷ []

-- all bytes as they are shown
abbrev pub shown : List ℕ → List ℕ
shown text = shown_below (length text) text
