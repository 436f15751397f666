-- facts of an answer that follow from others
use Rattle.std.proofs.Common.{Result, Ok, Err, OnOk, IfOk}

pub on_ok : {T E : Type 0} (r : Result T E) (P Q : Type 0) → (P → Q) → OnOk r P → OnOk r Q
on_ok (Ok x) P Q to h = to h
on_ok (Err e) P Q to h = tt

pub if_ok : {T E : Type 0} (r : Result T E) (P Q : T → Type 0) → ((x : T) → P x → Q x) → IfOk r P → IfOk r Q
if_ok (Ok x) P Q to h = to x h
if_ok (Err e) P Q to h = tt

pub on_if : {T E : Type 0} (r : Result T E) (P : T → Type 0) (Q : Type 0) → ((x : T) → P x → Q) → IfOk r P → OnOk r Q
on_if (Ok x) P Q to h = to x h
on_if (Err e) P Q to h = tt

pub if_both : {T E : Type 0} (r : Result T E) (P Q R : T → Type 0) → ((x : T) → P x → Q x → R x) → IfOk r P → IfOk r Q → IfOk r R
if_both (Ok x) P Q R to one two = to x one two
if_both (Err e) P Q R to one two = tt
