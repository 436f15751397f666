-- what a point gives, module by module
use Rattle.std.proofs.Common.{◌≡◌, ℕ, ◌+◌, ◌*◌, ◌<◌, List, get_or, length, take}
use Rattle.net_core.proofs.Library.{sum_by_more}
use Rattle.line_check.{specs.Terms.entry, specs.declared.inequality.Inequality.Inequality}
use Rattle.table_maker.{specs.Made.given_at, specs.declared.task.Part.Part}

-- a module more
pub given_more : (line : Inequality) (point : List Part) (i : ℕ) (d : Part) → i < length point
    → given_at (take (i + 1) point) line ≡ given_at (take i point) line + entry line.coefs (get_or point i d).link (get_or point i d).module * (get_or point i d).parts
given_more line point i d lt = sum_by_more (λ (x : Part). entry line.coefs x.link x.module * x.parts) point i d lt
