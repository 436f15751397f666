-- sums over the lines of a certificate, line by line
use Rattle.std.proofs.Common.{◌≡◌, ℕ, ◌+◌, ◌*◌, ◌<◌, List, get_or, length, take}
use Rattle.line_check.{specs.Terms.{Multiplier, test_at, weighed}, specs.declared.tested_lines.Tested.Tested, proofs.WeighedSums.line_more}
use Rattle.tree_check.specs.BoxValues.{asked_right, given_free}

pub asked_more : (tested : List Tested) (ms : List Multiplier) (i : ℕ) (d : Multiplier) → i < length ms
    → asked_right (weighed tested (take (i + 1) ms)) ≡ asked_right (weighed tested (take i ms)) + (get_or ms i d).num * (test_at tested (get_or ms i d).cut).line.right
asked_more tested ms i d lt = line_more (λ t. t.num * t.line.right) tested ms i d lt

pub given_more : (tested : List Tested) (ms : List Multiplier) (i : ℕ) (d : Multiplier) → i < length ms
    → given_free (weighed tested (take (i + 1) ms)) ≡ given_free (weighed tested (take i ms)) + (get_or ms i d).num * (test_at tested (get_or ms i d).cut).line.given
given_more tested ms i d lt = line_more (λ t. t.num * t.line.given) tested ms i d lt
