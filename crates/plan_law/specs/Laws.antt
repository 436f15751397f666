-- what planning by rounds rests on
use Rattle.std.specs.Prelude.{ℕ, ◌+◌, ◌*◌, ◌≤◌, ◌++◌, List, [], ◌∷◌, All, length, take}
use Rattle.plan_terms.specs.Terms.{CutLine, Routing, Case, graph_in, AreDemands, Joins, IsModule, capacities, CertificateLine, IsCertificate, IsCut, raw_value, Carries}
use Rattle.module_prices.specs.declared.cheapest.UnitPair.{UnitPair}
use Rattle.plan_types.{specs.declared.plan.Plan.Plan, specs.declared.quality.Fractional.Fractional, specs.declared.quality.Share.Share}
use Rattle.master_law.specs.Terms.{IsLeastShare, AreUnitPairs, share_caps}
use Rattle.plan_law.{specs.TightPlans.{CoversShare, IsProperShare, IsTightPlan}, specs.WorkedLists.{Round, cut_short, AreDifferentCuts, IsBeginning, IsFoundCut, IsRound, IsWorkedList, Lacks}}

-- a cut that is found at a least share of cuts isn't one of them
abbrev pub FoundCutsAreNew : Type 0
FoundCutsAreNew = (p : Case) (pairs : List UnitPair) (cuts : List CutLine) (share : Share) (cut : CutLine)
    → AreUnitPairs p.links pairs
    → All (IsCut p) cuts
    → IsLeastShare p.links pairs cuts share
    → IsFoundCut p pairs share cut
    → Lacks cuts cut

-- what a planning begins with is a worked list without rounds
abbrev pub WorkedListsBegin : Type 0
WorkedListsBegin = (p : Case) (pairs : List UnitPair) (snapshot start : List CutLine)
    → AreUnitPairs p.links pairs
    → IsBeginning p snapshot start
    → length start ≤ length snapshot + 4096
    → IsWorkedList p pairs snapshot [] start

-- a worked list and a round after it are a worked list, as long as there is room
abbrev pub WorkedListsGoOn : Type 0
WorkedListsGoOn = (p : Case) (pairs : List UnitPair) (snapshot : List CutLine) (rounds : List Round) (cuts : List CutLine) (round : Round)
    → All (IsCut p) snapshot
    → IsWorkedList p pairs snapshot rounds cuts
    → IsRound p pairs cuts round
    → length cuts + length round.cuts ≤ length snapshot + 4096
    → IsWorkedList p pairs snapshot (round ∷ rounds) (cuts ++ round.cuts)

-- a worked list and as many cuts of a round after it as there is room for are a worked list
abbrev pub WorkedListsFill : Type 0
WorkedListsFill = (p : Case) (pairs : List UnitPair) (snapshot : List CutLine) (rounds : List Round) (cuts : List CutLine) (round : Round) (n : ℕ)
    → All (IsCut p) snapshot
    → IsWorkedList p pairs snapshot rounds cuts
    → IsRound p pairs cuts round
    → length cuts + n ≤ length snapshot + 4096
    → IsWorkedList p pairs snapshot (cut_short n round ∷ rounds) (cuts ++ take n round.cuts)

-- the cuts of a worked list are cuts of the case and all different, where those of the snapshot are
abbrev pub WorkedListsDiffer : Type 0
WorkedListsDiffer = (p : Case) (pairs : List UnitPair) (snapshot : List CutLine) (rounds : List Round) (cuts : List CutLine)
    → All (IsCut p) snapshot
    → AreDifferentCuts snapshot
    → IsWorkedList p pairs snapshot rounds cuts
    → All (IsCut p) cuts × AreDifferentCuts cuts

-- no certificate, of any cuts, has a greater raw value than a tight plan
abbrev pub TightIsGreatest : Type 0
TightIsGreatest = (p : Case) (pairs : List UnitPair) (plan : Plan) (fractional : Fractional) (den : ℕ) (lines : List CertificateLine)
    → All (λ l. All IsModule l.modules) p.links
    → IsTightPlan p pairs plan fractional
    → IsCertificate p den lines
    → raw_value p.links lines * plan.raw_den ≤ plan.raw_num * den

-- counts that cover a share carry what the share carries, over a denominator that is its scale times as large
abbrev pub CoversCarry : Type 0
CoversCarry = (p : Case) (pairs : List UnitPair) (share : Share) (counts : List (List ℕ)) (s : ℕ) (routing : Routing)
    → AreUnitPairs p.links pairs
    → AreDemands (length p.nodes) p.demands
    → IsProperShare p.links share
    → CoversShare p.links pairs share counts
    → Carries (Joins (graph_in p s)) p.demands share.scale (share_caps p.links pairs share).nums routing
    → Carries (Joins (graph_in p s)) p.demands 1 (capacities p.links counts) (record { den = share.scale * routing.den; flows = routing.flows })
