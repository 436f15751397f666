-- words that are names, of at most 255 bytes
use Rattle.std.specs.Prelude.{ℕ, nat_lt, Bool, if◌then◌else◌, List, length, position, Option, Some, None, Result, Ok, Err}
use Rattle.net_core.{specs.Terms.{are_same, is_named}, specs.Limits.name_bytes}
use Rattle.text_kit.specs.Reading.{sound}

-- a name that is too long has this fault
abbrev pub long_name_fault : {K : Type 0} → K → List ℕ → Option K
long_name_fault long w = if nat_lt name_bytes (length w) then Some long else None

-- any name
abbrev pub any_name : {K : Type 0} → K → List ℕ → Result (List ℕ) K
any_name long w = sound w (long_name_fault long w)

-- a new name may be too long; or it may equal an earlier one; or there may already be as many as are allowed
abbrev pub new_name_fault : {K : Type 0} → K → K → K → ℕ → ℕ → Bool → List ℕ → Option K
new_name_fault long double limit most count taken w =
    if nat_lt name_bytes (length w) then Some long
    else (if taken then Some double
    else (if nat_lt count most then None else Some limit))

-- a name that none of those before it has, of which there are fewer than `most`
abbrev pub new_name : {X K : Type 0} → (X → List ℕ) → ℕ → K → K → K → List X → List ℕ → Result (List ℕ) K
new_name name_of most long double limit sofar w =
    sound w (new_name_fault long double limit most (length sofar) (is_named name_of w sofar) w)

-- a place that was found
abbrev pub found_or : {K : Type 0} → K → Option ℕ → Result ℕ K
found_or unknown (Some i) = Ok i
found_or unknown None = Err unknown

-- the place of the first of these that has the name
abbrev pub named_place : {X K : Type 0} → (X → List ℕ) → K → K → List X → List ℕ → Result ℕ K
named_place name_of long unknown xs w =
    if nat_lt name_bytes (length w) then Err long else found_or unknown (position (λ x. are_same (name_of x) w) xs)
