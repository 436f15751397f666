-- what a sink took so far
use Rattle.std.{proofs.Common.{◌≡◌, ℕ, ◌+◌, ◌-◌, ◌≤◌, List, ◌++◌, length, take, drop, Option, None, Some, sym, ◌∙◌, ap, subst, arith, append_assoc, take-append-drop, length-take, length-take-le, take-take}, proofs.Math.Seq.take-append-add}
use Rattle.outside_io.specs.Outside.{Takes, TakesPrefix}

-- so far and the next bytes
pub took_more : (old mid new : Option (List ℕ)) (so_far next : List ℕ) → Takes old mid so_far → Takes mid new next → Takes old new (so_far ++ next)
took_more None mid new so_far next first second = subst (λ m. Takes m new next) first second
took_more (Some old) mid new so_far next first second =
    let got : new ≡ Some ((old ++ so_far) ++ next) = subst (λ m. Takes m new next) first second in
    got ∙ ap Some (append_assoc old so_far next)

-- a prefix of the next piece is a prefix of the text
pub took_prefix : (old mid new : Option (List ℕ)) (so_far piece text : List ℕ) → ((n : ℕ) → n ≤ length piece → so_far ++ take n piece ≡ take (length so_far + n) text) → length so_far + length piece ≤ length text → Takes old mid so_far → TakesPrefix mid new piece → TakesPrefix old new text
took_prefix old mid new so_far piece text prefixes fits first (n, le, second) =
    (length so_far + n, omega (arith, le, fits), subst (Takes old new) (prefixes n le) (took_more old mid new so_far (take n piece) first second))

-- what was taken, and then the piece up to `end`, is the text up to there
pub whole_piece : (text : List ℕ) (at end : ℕ) → at ≤ end → end ≤ length text → take at text ++ take (end - at) (drop at text) ≡ take end text
whole_piece text at end a b =
    let long : length (take at text) ≡ at = length-take-le at text (omega arith) in
    let sum : length (take at text) + (end - at) ≡ end = omega (arith, long) in
    sym (take-append-add (take at text) (drop at text) (end - at))
    ∙ ap (λ t. take (length (take at text) + (end - at)) t) (take-append-drop at text)
    ∙ ap (λ n. take n text) sum

-- and with a prefix of the piece a prefix of the text
pub prefix_piece : (text : List ℕ) (at end : ℕ) → at ≤ end → end ≤ length text → (n : ℕ) → n ≤ length (take (end - at) (drop at text)) → take at text ++ take n (take (end - at) (drop at text)) ≡ take (length (take at text) + n) text
prefix_piece text at end a b n lt =
    let short : n ≤ end - at = omega (arith, length-take (end - at) (drop at text), lt) in
    ap (λ t. take at text ++ t) (take-take n (end - at) (drop at text) short)
    ∙ sym (take-append-add (take at text) (drop at text) n)
    ∙ ap (λ t. take (length (take at text) + n) t) (take-append-drop at text)

pub piece_fits : (text : List ℕ) (at end : ℕ) → at ≤ end → end ≤ length text → length (take at text) + length (take (end - at) (drop at text)) ≤ length text
piece_fits text at end a b =
    let long : length (take at text) ≡ at = length-take-le at text (omega arith) in
    omega (arith, long, length-take (end - at) (drop at text))
