-- what holds of a call that didn't fail
use Rattle.std.proofs.Common.{◌≡◌, false, is_err, OnOk, Ok, Err, Result}

pub on_no_err : {A E : Type 0} (r : Result A E) (X : Type 0) → is_err r ≡ false → OnOk r X → X
on_no_err (Ok a) X is h = h
on_no_err (Err e) X is h = cc is
