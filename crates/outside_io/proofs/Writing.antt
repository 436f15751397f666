-- how much of a piece is written
use Rattle.std.{proofs.Common.{◌≡◌, ℕ, ◌+◌, ◌-◌, ◌≤◌, List, length, take, drop, Option, arith, length-drop, sym, subst, take-add}, proofs.KnownBytes.Appends-trans}
use Rattle.net_core.proofs.Library.{take_rest, Appends}

-- one write more, of a prefix of what is left of the piece
pub Appends-once : (a b c : Option (List ℕ)) (piece : List ℕ) (done n : ℕ) → done ≤ length piece → Appends a b (take done piece)
    → n ≤ length (take (length piece - done) (drop done piece)) → Appends b c (take n (take (length piece - done) (drop done piece)))
    → (done + n ≤ length piece) × Appends a c (take (done + n) piece)
Appends-once a b c piece done n within first few next =
    let rest : take (length piece - done) (drop done piece) ≡ drop done piece = take_rest piece done in
    let few' : n ≤ length (drop done piece) = subst (λ (l : List ℕ). n ≤ length l) rest few in
    let next' : Appends b c (take n (drop done piece)) = subst (λ (l : List ℕ). Appends b c (take n l)) rest next in (
      omega (arith, length-drop done piece),
      subst (Appends a c) (sym (take-add done n piece)) (Appends-trans a b c _ _ first next'),
    )
