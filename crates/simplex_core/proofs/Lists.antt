-- reading lists, also after a write
use Rattle.std.proofs.Common.{◌≡◌, ◌≢◌, ℕ, zero, suc, ◌<◌, List, [], ◌∷◌, length, Some, slice_get, slice_set, get_or, refl, sym, ap, ◌∙◌, arith}
use Rattle.net_core.proofs.Library.{slice_get-get_or}

-- what an index reads
pub read_at : {X : Type 0} (xs : List X) (i : ℕ) (x : X) → i < length xs → x ≡ get_or xs i x → slice_get xs i ≡ Some x
read_at xs i x lt is = slice_get-get_or xs i x lt ∙ ap Some (sym is)

pub get_same : {X : Type 0} (xs : List X) (k : ℕ) (x : X) → k < length xs → slice_get (slice_set xs k x) k ≡ Some x
get_same [] k x lt = absurd (omega arith)
get_same (y ∷ ys) zero x lt = refl
get_same (y ∷ ys) (suc k) x lt = get_same ys k x (omega arith)

pub get_other : {X : Type 0} (xs : List X) (k i : ℕ) (x : X) → i ≢ k → slice_get (slice_set xs k x) i ≡ slice_get xs i
get_other [] k i x ne = refl
get_other (y ∷ ys) zero zero x ne = absurd (ne refl)
get_other (y ∷ ys) zero (suc i) x ne = refl
get_other (y ∷ ys) (suc k) zero x ne = refl
get_other (y ∷ ys) (suc k) (suc i) x ne = get_other ys k i x (λ e. ne (ap suc e))
