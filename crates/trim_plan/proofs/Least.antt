-- where all blocks are cuts, no module can be spared
use Rattle.std.proofs.Common.{◌≡◌, ◌∙◌, ℕ, ◌<◌, List, Contains, get_or, length, map, sym, ap, subst}
use Rattle.net_core.proofs.Library.{get_or-map, length-map, All-contains, get_or_from_slice_get, get_some}
use Rattle.plan_terms.specs.Terms.{Case, graph_in, IsAble, capacities}
use Rattle.able_counts.{specs.AbleTests.{IsStopAt, whole_caps}, specs.declared.stop.Stop.Stop, specs.declared.stop.Stop.TheVariants.{Cut, Wide}}
use Rattle.module_choice.proofs.Pairs.{capacities_long}
use Rattle.route_law.proofs.Lemmas.{violated_carries_nothing}
use Rattle.trim_plan.{specs.declared.trimmed_plan.Block.Block, specs.Trimmed.{IsBlockAt, one_less}, specs.Laws.{IsCutStop, TrimmedAreLeast}, proofs.Lowering.place_used}

-- counts whose capacities violate a cut aren't able
cut_not_able : (p : Case) (counts : List (List ℕ)) (why : Stop) → IsStopAt p (whole_caps (capacities p.links counts)) why → IsCutStop why → IsAble p counts → ⊥
cut_not_able p counts (Cut line) stops is able =
    let s = line.state.0 in
    let there = able.each s stops.0.listed_state in
    violated_carries_nothing (graph_in p s) p.demands (whole_caps (capacities p.links counts)) there.routing line (capacities_long p.links counts able.shape) stops.0.kept stops.0.right there.carries stops.1
cut_not_able p counts (Wide evidence) stops is able = is

-- if a place is among those of the blocks, one of the blocks has that place
at_place : (blocks : List Block) (place : ℕ × ℕ) → Contains (map (λ b. (b.link.0, b.module)) blocks) place → (b : Block) × (Contains blocks b) × ((b.link.0, b.module) ≡ place)
at_place blocks place inside =
    let within : inside.0 < length blocks = subst (λ n. inside.0 < n) (length-map blocks (λ (b : Block). (b.link.0, b.module))) inside.1 in
    let b = get_some blocks inside.0 within in
    let there : get_or blocks inside.0 b.0 ≡ b.0 = get_or_from_slice_get blocks inside.0 b.0 b.0 b.1 in
    (b.0, (inside.0, within, there), ap (λ (x : Block). (x.link.0, x.module)) (sym there) ∙ sym (get_or-map (λ (x : Block). (x.link.0, x.module)) blocks inside.0 b.0 place within) ∙ inside.2)

pub trimmed_are_least : TrimmedAreLeast
trimmed_are_least p counts blocks e m trimmed cuts some able =
    let inside : Contains (map (λ b. (b.link.0, b.module)) blocks) (e, m) = subst (λ ps. Contains ps (e, m)) (sym trimmed.places) (place_used counts e m some) in
    let here = at_place blocks (e, m) inside in
    let blocked = All-contains (IsBlockAt p counts) blocks here.0 trimmed.blocked here.1 in
    let stops = subst (λ (q : ℕ × ℕ). IsStopAt p (whole_caps (capacities p.links (one_less counts q.0 q.1))) here.0.why) here.2 blocked in
    cut_not_able p (one_less counts e m) here.0.why stops (All-contains (λ (b : Block). IsCutStop b.why) blocks here.0 cuts here.1) able
