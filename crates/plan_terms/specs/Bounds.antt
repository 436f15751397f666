-- raw values, and bounds: rounded up to a multiple of the greatest common divisor of what links charge
use Rattle.std.{specs.Prelude.{◌≡◌, ◌≢◌, ℕ, ◌*◌, ◌≤◌, List, [], ◌∷◌, All, map, flat_map}, specs.Int.◌∣◌}
use Rattle.net_core.specs.declared.network.Link.{Link}

-- the fraction a / b is c / d in lowest terms
pub record IsLowest (a b c d : ℕ) : Type 0 where
  pub same : a * d ≡ c * b
  pub lowest : (k : ℕ) → k ∣ c → k ∣ d → k ≡ 1

-- a setup before the costs of a link's modules; nothing where the link has no module
abbrev pub with_setup : ℕ → List ℕ → List ℕ
with_setup setup [] = []
with_setup setup (cost ∷ costs) = setup ∷ cost ∷ costs

-- what a link charges: its setup and the cost of each of its modules
abbrev pub link_charges : Link → List ℕ
link_charges l = with_setup l.setup (map (λ m. m.cost) l.modules)

-- what all links charge
abbrev pub charges : List Link → List ℕ
charges links = flat_map link_charges links

-- the greatest common divisor of numbers; 0 where all are 0
pub record IsGreatestDivisor (xs : List ℕ) (g : ℕ) : Type 0 where
  pub divides : All (λ x. g ∣ x) xs
  pub greatest : (d : ℕ) → All (λ x. d ∣ x) xs → d ∣ g

-- The bound: the raw value num / den, rounded up to a multiple of the greatest common divisor of all charges; where that is 0, its one multiple.
pub record IsBound (links : List Link) (num den bound : ℕ) : Type 0 where
  pub divisor : ℕ
  pub is_divisor : IsGreatestDivisor (charges links) divisor
  pub multiple : divisor ∣ bound
  pub reaches : divisor ≢ 0 → num ≤ bound * den
  pub least : (other : ℕ) → divisor ∣ other → num ≤ other * den → bound ≤ other
