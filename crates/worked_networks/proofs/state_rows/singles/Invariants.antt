use Rattle.std.proofs.Common.{◌≡◌, ℕ, ◌<◌, get_or, length}
use Rattle.net_core.{specs.declared.network.Link.Link, specs.declared.states.Listed.Listed, specs.Terms.single_state}
use Rattle.worked_networks.proofs.state_rows.singles.Given as goal

-- the states of the links so far
abbrev pub invariant-loop-e : goal.invariant-loop-e
invariant-loop-e l =
    (length l.listed ≡ l.e)
    × ((i : ℕ) (s : Listed) (k : Link) → i < l.e → get_or l.listed i s ≡ single_state i (get_or l.links i k).name)
