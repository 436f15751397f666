-- answers that may be errors
use Rattle.std.proofs.Common.{Result, Ok, Err, IfOk, OnOk}

-- two facts of an answer give a third
pub ok_both : {T E : Type 0} (r : Result T E) (P Q R : T → Type 0) → ((x : T) → P x → Q x → R x) → IfOk r P → IfOk r Q → IfOk r R
ok_both (Ok x) P Q R f p q = f x p q
ok_both (Err e) P Q R f p q = tt

-- a fact that holds anyway
pub ok_anyway : {T E : Type 0} (r : Result T E) (P : Type 0) → P → OnOk r P
ok_anyway (Ok x) P p = p
ok_anyway (Err e) P p = tt
