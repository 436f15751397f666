use Rattle.std.proofs.Common.{◌≢◌, ℕ, ◌<◌, get_or}
use Rattle.net_core.specs.declared.demand.Demand.{Demand}
use Rattle.worked_networks.proofs.belonging.have_different_names.Given as goal

-- the demands below i have different names, and none below j has the name of the one at i
abbrev pub invariant-loop-j : goal.invariant-loop-j
invariant-loop-j l =
    ((p q : ℕ) (d : Demand) → p < q → q < l.i → (get_or l.demands p d).name ≢ (get_or l.demands q d).name)
    × ((p : ℕ) (d : Demand) → p < l.j → (get_or l.demands p d).name ≢ (get_or l.demands l.i d).name)

-- the demands below i have different names
abbrev pub invariant-loop-i : goal.invariant-loop-i
invariant-loop-i l = (p q : ℕ) (d : Demand) → p < q → q < l.i → (get_or l.demands p d).name ≢ (get_or l.demands q d).name
