-- what the keys leave, when a bound moves from one path to another
use Rattle.std.proofs.Common.{◌≡◌, ap, ◌∙◌, arith, ℤ, ◌+ℤ◌, ◌-ℤ◌, ◌*ℤ◌}
use Rattle.net_core.proofs.Library.{ints}
use Rattle.simplex_law.proofs.Lemmas.{minus_left}

-- given back along one path and taken along another
pub moved : (rest mid last b from to : ℤ) → mid ≡ rest +ℤ (b *ℤ from) → last ≡ mid -ℤ (b *ℤ to) → last ≡ rest -ℤ (b *ℤ (to -ℤ from))
moved rest mid last b from to first second = omega (arith, ints, first, second, minus_left to from b)

-- given back along one path and taken along another, by equal numbers
pub moved_by : (new old b : ℤ) {by : ℤ} (to : ℤ) {along : ℤ} (from : ℤ) {off : ℤ} → new ≡ old -ℤ (b *ℤ (to -ℤ from)) → b ≡ by → to ≡ along → from ≡ off → new ≡ old -ℤ (by *ℤ (along -ℤ off))
moved_by new old b {by} to {along} from {off} is eb et ef =
    is ∙ (ap (λ x. old -ℤ (x *ℤ (to -ℤ from))) eb ∙ (ap (λ x. old -ℤ (by *ℤ (x -ℤ from))) et ∙ ap (λ x. old -ℤ (by *ℤ (along -ℤ x))) ef))

pub less_by : (new old x : ℤ) {y : ℤ} (b : ℤ) {by : ℤ} → new ≡ old -ℤ (x *ℤ b) → x ≡ y → b ≡ by → new ≡ old -ℤ (y *ℤ by)
less_by new old x {y} b {by} is ex eb = is ∙ (ap (λ z. old -ℤ (z *ℤ b)) ex ∙ ap (λ z. old -ℤ (y *ℤ z)) eb)
