-- what a link's setup adds to the cost of counts
use Rattle.std.proofs.Common.{◌≡◌, ℕ, zero, suc, ◌+◌, ◌<◌, ◌≤◌, ◌||◌, Bool, true, false, if◌then◌else◌, List, [], ◌∷◌, All, refl, ap, arith, ⊎_elim, lt-ltb}
use Rattle.net_core.proofs.Library.{cases_lt, All-head, All-tail}
use Rattle.plan_terms.specs.Terms.{Link, Module, installs, link_cost, modules_capacity, modules_cost, Covers, MayCover, Reaches}
use Rattle.module_choice.{specs.Coverings.{IsCovered, IsCovering}, specs.inner.Cheapest.AreCheapest, proofs.Choices.value-cons}

-- without a positive count nothing is installed
installs_none : (cs : List ℕ) → All (λ n. n ≡ 0) cs → installs cs ≡ false
installs_none [] none = refl
installs_none (zero ∷ cs) none = installs_none cs (All-tail (λ n. n ≡ 0) zero cs none)
installs_none (suc c ∷ cs) none = absurd (omega (arith, All-head (λ n. n ≡ 0) (suc c) cs none))

-- what carries something is installed
installs_some : (ms : List Module) (cs : List ℕ) → 0 < modules_capacity ms cs → installs cs ≡ true
installs_some [] cs some = absurd (omega (arith, some))
installs_some (m ∷ ms) [] some = absurd (omega (arith, some))
installs_some (m ∷ ms) (zero ∷ cs) some = installs_some ms cs (omega (arith, some, value-cons (λ m. m.capacity) m ms zero cs))
installs_some (m ∷ ms) (suc c ∷ cs) some = ap (λ b. b || installs cs) (lt-ltb 0 (suc c) (omega arith))

-- the setup beside a cost
abbrev with_setup : ℕ → Bool → ℕ → ℕ
with_setup cost installed setup = cost + (if installed then setup else 0)

-- no counts that a cover is chosen from and that reach the need cost less on the link
cheapest_least : (l : Link) (need : ℕ) (cs others : List ℕ) → AreCheapest l.modules need cs → MayCover l.modules need others → Reaches l.modules need others → link_cost l cs ≤ link_cost l others
cheapest_least l need cs others is may reach =
    let modules = is.least others may reach in
    ⊎_elim
    (λ some.
    let other = ap (λ b. with_setup (modules_cost l.modules others) b l.setup) (installs_some l.modules others (omega (arith, some, reach.reached))) in
    let most : link_cost l cs ≤ modules_cost l.modules cs + l.setup = at_most (modules_cost l.modules cs) l.setup (installs cs) in
    omega (arith, modules, other, most))
    (λ none.
    let own = ap (λ b. with_setup (modules_cost l.modules cs) b l.setup) (installs_none cs (is.none (omega (arith, none)))) in
    omega (arith, modules, own))
    (cases_lt 0 need)
  where
    at_most : (cost setup : ℕ) (installed : Bool) → with_setup cost installed setup ≤ cost + setup
    at_most cost setup true = omega arith
    at_most cost setup false = omega arith

-- the cheapest counts cover the need of a link, whatever its setup is
cheapest_covers : (l : Link) (need : ℕ) (cs : List ℕ) → AreCheapest l.modules need cs → Covers l need cs
cheapest_covers l need cs is = record {
  reaches = is.reaches;
  cheapest = record { counts = cs; may = is.may; reaches = is.reaches; paid = refl; least = λ others may reach. cheapest_least l need cs others is may reach };
}

-- counts that cover a need, within the limits
pub cheapest_covered : (l : Link) (need : ℕ) (cs : List ℕ) → AreCheapest l.modules need cs → IsCovered l need cs
cheapest_covered l need cs is = record { covers = cheapest_covers l need cs is; few = is.few; narrow = is.narrow }

-- what `cover` answers
pub cheapest_covering : (l : Link) (need cost : ℕ) (cs : List ℕ) → AreCheapest l.modules need cs → cost ≡ link_cost l cs → IsCovering l need (record { counts = cs; cost = cost })
cheapest_covering l need cost cs is paid = record { covers = cheapest_covers l need cs is; may = is.may; paid = paid; small = is.few; narrow = is.narrow }
