-- counts that are lowered as far as the limits of plans ask
use Rattle.std.{specs.Prelude.{◌≡◌, ℕ, ◌+◌, ◌^◌, ◌≤◌, ◌<◌, ◌⊎◌, List, [], All, length, map, slice_index_or}, specs.List.AllZip}
use Rattle.plan_terms.specs.Terms.{Link, Module, modules_capacity}

-- the modules of link e; none where there is no such link
abbrev pub modules_at : List Link → ℕ → List Module
modules_at links e = slice_index_or (map (λ l. l.modules) links) e []

-- Lowered counts of a link: none is greater, each is below 2^44, and their capacity is below 2^45 units. Their capacity is at least that of the counts, or
-- enough for all demands together.
pub record IsLoweredLink (modules : List Module) (counts lowered : List ℕ) : Type 0 where
  pub fewer : AllZip ◌≤◌ lowered counts
  pub few : All (λ n. n < 2 ^ 44) lowered
  pub small : modules_capacity modules lowered < 2 ^ 45
  pub room : (modules_capacity modules counts ≡ modules_capacity modules lowered) ⊎ (2 ^ 44 ≤ modules_capacity modules lowered + 1)

-- lowered counts of all links, each link by itself
pub record HaveRoomFor (links : List Link) (counts lowered : List (List ℕ)) : Type 0 where
  pub count : length lowered ≡ length links
  pub each : (e : ℕ) → e < length links → IsLoweredLink (modules_at links e) (slice_index_or counts e []) (slice_index_or lowered e [])
