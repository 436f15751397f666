-- Each section of a plan is read without a look at what comes after it.
use Rattle.std.proofs.Common.{◌≡◌, ℕ, ◌+◌, ◌^◌, Bool, true, List, [], ◌∷◌, length, Option, None, Some, Err, refl, codes, slice_get}
use Rattle.plan_terms.specs.Terms.{MasterColumn, RouteColumn, Demand, LinkId, Link, Places, CutLine, Flow, Routing}
use Rattle.snd_tokens.specs.Terms.{EndAt}
use Rattle.text_kit.{specs.Terms.{no_fault, not_empty, of_length, Parenthesis}, proofs.Lemmas.{IsOnline, TakesSome, online_close, online_give, online_list, online_open, online_then, online_word, takes_some}}
use Rattle.plan_report.specs.Terms.{KnownNames, CertLine}
use Rattle.report_words.{specs.declared.fault.ReportKind.TheVariants.{Token, Ended, Limit}, specs.Terms.{Branches, branch_at, branch_within, has_room, link_at, link_of, unknown_name, whole_within}, proofs.Branching.AllOnline, proofs.Lemmas.{online_branch, field_online, column_some, numbers_online, opening_within_online}}
use Rattle.report_parts.{specs.ReadingRoutings.{flow_at, path_at, routing_at, routings_at}, specs.ReadingQuality.{basis_at, caps_at, carry_at, evidence_at, fractional_at, left_at, loose_at, master_at, metric_at, price_at, quality_at, route_at, slack_at, tight_at, too_wide_at, wide_entry_at, wide_length_at, wide_number_at, wide_row_at, wide_sum_at, master_column_branches, master_wide_branches, route_column_branches, route_wide_branches}, specs.ReadingParts.{all_counts_at, certificate_at, certificate_line_at, count_at, count_within, counts_at, local_spot_at, modules_at, next_counts_at, nodes_at, plan_demand_at, plan_demands_at, pool_spot_at, right_side_at, spot_at}}

-- ---- routings

pub link_some : (links : List Link) (sofar : List LinkId) → TakesSome (link_at links)
link_some links sofar = takes_some (link_at links) (online_word Token Ended (link_of links)) (λ p. Ended) (λ p. refl)

pub path_online : (links : List Link) → IsOnline (path_at links)
unfolding path_at
path_online links = online_then _ _ (online_open Token Ended) (λ x. online_list Parenthesis (not_empty Token) (λ sofar. link_at links) (λ sofar. online_word Token Ended (link_of links)) (link_some links) [])

pub flow_online : (links : List Link) (demands : List Demand) (sofar : List Flow) → IsOnline (flow_at links demands sofar)
unfolding flow_at
flow_online links demands sofar =
    online_then _ _ (online_word Token Ended _) (λ demand.
    online_then _ _ (online_word Token Ended _) (λ num.
    online_then _ _ (path_online links) (λ path.
    online_give _)))

pub flow_some : (links : List Link) (demands : List Demand) (sofar : List Flow) → TakesSome (flow_at links demands sofar)
unfolding flow_at
flow_some links demands sofar = takes_some (flow_at links demands sofar) (flow_online links demands sofar) (λ p. Ended) (λ p. refl)

pub routing_online : (names : KnownNames) (demands : List Demand) (sofar : List Routing) → IsOnline (routing_at names demands sofar)
unfolding routing_at
routing_online names demands sofar =
    online_then _ _ (online_word Token Ended _) (λ x.
    online_then _ _ (online_word Token Ended _) (λ x.
    online_then _ _ (online_word Token Ended _) (λ x.
    online_then _ _ (online_word Token Ended _) (λ den.
    online_then _ _ (online_open Token Ended) (λ x.
    online_then _ _ (online_list Parenthesis no_fault (flow_at names.links demands) (flow_online names.links demands) (flow_some names.links demands) []) (λ flows.
    online_give _))))))

pub routing_some : (names : KnownNames) (demands : List Demand) (sofar : List Routing) → TakesSome (routing_at names demands sofar)
unfolding routing_at
routing_some names demands sofar = takes_some (routing_at names demands sofar) (routing_online names demands sofar) (λ p. Ended) (λ p. refl)

pub routings_online : (names : KnownNames) (demands : List Demand) → IsOnline (routings_at names demands)
unfolding routings_at
routings_online names demands = online_then _ _ (online_open Token Ended) (λ x.
    online_list Parenthesis (of_length (length names.listed + 1) Limit) (routing_at names demands) (routing_online names demands) (routing_some names demands) [])

-- ---- columns and what of them is too wide

pub slack_online : (links : List Link) → IsOnline (slack_at links)
unfolding slack_at
slack_online links =
    online_then _ _ (online_word Token Ended _) (λ e.
    online_give _)

pub left_online : (demands : List Demand) → IsOnline (left_at demands)
unfolding left_at
left_online demands =
    online_then _ _ (online_word Token Ended _) (λ k.
    online_give _)

pub carry_online : (links : List Link) (demands : List Demand) → IsOnline (carry_at links demands)
unfolding carry_at
carry_online links demands =
    online_then _ _ (online_word Token Ended _) (λ k.
    online_then _ _ (path_online links) (λ path.
    online_give _))

pub route_columns_online : (links : List Link) (demands : List Demand) → AllOnline (route_column_branches links demands)
route_columns_online links demands = (slack_online links, (left_online demands, (carry_online links demands, tt)))

pub price_online : (links : List Link) → IsOnline (price_at links)
unfolding price_at
price_online links =
    online_then _ _ (online_word Token Ended _) (λ e.
    online_give _)

pub metric_online : (names : KnownNames) → IsOnline (metric_at names)
unfolding metric_at
metric_online names =
    online_then _ _ (online_word Token Ended _) (λ state.
    online_then _ _ (numbers_online (length names.links) (2 ^ 32)) (λ lengths.
    online_give _))

pub master_columns_online : (names : KnownNames) → AllOnline (master_column_branches names)
master_columns_online names = (price_online names.links, (metric_online names, tt))

pub route_column_some : (links : List Link) (demands : List Demand) (room : Bool) → TakesSome (branch_within room (route_column_branches links demands))
route_column_some links demands room = column_some room (route_column_branches links demands) (route_columns_online links demands)

pub master_column_some : (names : KnownNames) (room : Bool) → TakesSome (branch_within room (master_column_branches names))
master_column_some names room = column_some room (master_column_branches names) (master_columns_online names)

pub basis_online : {C : Type 0} (columns : Branches C) → AllOnline columns → (rows : ℕ) → IsOnline (basis_at columns rows)
unfolding basis_at
basis_online columns all rows = online_then _ _ (online_open Token Ended) (λ x.
    online_list Parenthesis (of_length rows Limit) (λ sofar. branch_within (has_room rows sofar) columns) (λ sofar. online_branch (has_room rows sofar) (Err Token) columns all) (λ sofar. column_some (has_room rows sofar) columns all) [])

module _ {C : Type 0} (columns : Branches C) (all : AllOnline columns) where
  pub wide_number_online : IsOnline (wide_number_at columns)
  unfolding wide_number_at
  wide_number_online = online_then _ _ (online_branch true (Err Token) columns all) (λ c. online_give _)

  pub wide_entry_online : (rows : ℕ) → IsOnline (wide_entry_at columns rows)
  unfolding wide_entry_at
  wide_entry_online rows = online_then _ _ (online_word Token Ended _) (λ i. online_then _ _ (online_branch true (Err Token) columns all) (λ c. online_give _))

pub wide_row_online : {C : Type 0} (rows : ℕ) → IsOnline (wide_row_at {C = C} rows)
unfolding wide_row_at
wide_row_online rows = online_then _ _ (online_word Token Ended _) (λ i. online_give _)

pub wide_sum_online : {C : Type 0} (rows : ℕ) → IsOnline (wide_sum_at {C = C} rows)
unfolding wide_sum_at
wide_sum_online rows = online_then _ _ (online_word Token Ended _) (λ i. online_give _)

pub wide_length_online : (links : List Link) → IsOnline (wide_length_at links)
unfolding wide_length_at
wide_length_online links =
    online_then _ _ (online_word Token Ended _) (λ e.
    online_give _)

pub route_wide_online : (columns : Branches RouteColumn) → AllOnline columns → (links : List Link) (rows : ℕ) → IsOnline (branch_at (route_wide_branches columns links rows))
route_wide_online columns all links rows = online_branch true (Err Token) (route_wide_branches columns links rows) (wide_number_online columns all, (wide_row_online rows, (wide_entry_online columns all rows, (wide_sum_online rows, (online_give _, (wide_length_online links, tt))))))

pub master_wide_online : (columns : Branches MasterColumn) → AllOnline columns → (rows : ℕ) → IsOnline (branch_at (master_wide_branches columns rows))
master_wide_online columns all rows = online_branch true (Err Token) (master_wide_branches columns rows) (wide_number_online columns all, (wide_row_online rows, (wide_entry_online columns all rows, (wide_sum_online rows, (online_give _, (online_give _, tt))))))

pub caps_online : (links : List Link) → IsOnline (caps_at links)
unfolding caps_at
caps_online links =
    online_then _ _ (online_word Token Ended _) (λ scale.
    online_then _ _ (numbers_online (length links) (2 ^ 126)) (λ nums.
    online_give _))

pub route_online : (names : KnownNames) (demands : List Demand) → IsOnline (route_at names demands)
unfolding route_at
route_online names demands =
    online_then _ _ (online_word Token Ended _) (λ state.
    online_then _ _ (caps_online names.links) (λ caps.
    online_then _ _ (basis_online (route_column_branches names.links demands) (route_columns_online names.links demands) (length names.links + length demands)) (λ basis.
    online_then _ _ (route_wide_online (route_column_branches names.links demands) (route_columns_online names.links demands) names.links (length names.links + length demands)) (λ kind.
    online_give _))))

pub master_online : (names : KnownNames) → IsOnline (master_at names)
unfolding master_at
master_online names =
    online_then _ _ (basis_online (master_column_branches names) (master_columns_online names) (length names.links)) (λ basis.
    online_then _ _ (master_wide_online (master_column_branches names) (master_columns_online names) (length names.links)) (λ kind.
    online_give _))

pub evidence_online : (names : KnownNames) (demands : List Demand) → IsOnline (evidence_at names demands)
evidence_online names demands = online_branch true (Err Token) ((_, _) ∷ (_, _) ∷ []) (route_online names demands, (master_online names, tt))

pub fractional_online : (names : KnownNames) (demands : List Demand) → IsOnline (fractional_at names demands)
unfolding fractional_at
fractional_online names demands =
    online_then _ _ (online_word Token Ended _) (λ scale.
    online_then _ _ (numbers_online (length names.links) (2 ^ 62)) (λ units.
    online_then _ _ (routings_online names demands) (λ routings.
    online_give _)))

pub tight_online : (names : KnownNames) (demands : List Demand) → IsOnline (tight_at names demands)
unfolding tight_at
tight_online names demands =
    online_then _ _ (fractional_online names demands) (λ f.
    online_give _)

pub too_wide_online : (names : KnownNames) (demands : List Demand) → IsOnline (too_wide_at names demands)
unfolding too_wide_at
too_wide_online names demands =
    online_then _ _ (evidence_online names demands) (λ evidence.
    online_give _)

pub loose_online : (names : KnownNames) (demands : List Demand) → IsOnline (loose_at names demands)
loose_online names demands = online_branch true (Err Token) ((_, _) ∷ (_, _) ∷ []) (online_give _, (too_wide_online names demands, tt))

pub quality_online : (names : KnownNames) (demands : List Demand) → IsOnline (quality_at names demands)
quality_online names demands = online_branch true (Err Token) ((_, _) ∷ (_, _) ∷ []) (tight_online names demands, (loose_online names demands, tt))

-- ---- demands, modules and certificates

pub nodes_online : (nodes : List (List ℕ)) → IsOnline (nodes_at nodes)
unfolding nodes_at
nodes_online nodes =
    online_then _ _ (online_open Token Ended) (λ x.
    online_then _ _ (online_word Token Ended _) (λ from.
    online_then _ _ (online_word Token Ended _) (λ to.
    online_then _ _ (online_close Token Ended) (λ x.
    online_give _))))

pub plan_demand_online : (p : Places) (nodes : List (List ℕ)) (sofar : List Demand) → IsOnline (plan_demand_at p nodes sofar)
unfolding plan_demand_at
plan_demand_online p nodes sofar =
    online_then _ _ (online_word Token Ended _) (λ name.
    online_then _ _ (nodes_online nodes) (λ ends.
    online_then _ _ (online_word Token Ended _) (λ need.
    online_give _)))

pub plan_demand_some : (p : Places) (nodes : List (List ℕ)) (sofar : List Demand) → TakesSome (plan_demand_at p nodes sofar)
unfolding plan_demand_at
plan_demand_some p nodes sofar = takes_some (plan_demand_at p nodes sofar) (plan_demand_online p nodes sofar) (λ t. Ended) (λ t. refl)

pub plan_demands_online : (p : Places) (nodes : List (List ℕ)) → IsOnline (plan_demands_at p nodes)
unfolding plan_demands_at
plan_demands_online p nodes =
    online_then _ _ (online_word Token Ended _) (λ x.
    online_then _ _ (online_open Token Ended) (λ x.
    online_list Parenthesis no_fault (plan_demand_at p nodes) (plan_demand_online p nodes) (plan_demand_some p nodes) []))

pub count_some : (l : Link) (sofar : List ℕ) → TakesSome (count_at l sofar)
count_some l sofar = takes_some (count_at l sofar) (online_word Token Ended _) (λ p. Ended) (λ p. refl)

pub counts_online : (o : Option Link) → IsOnline (counts_at o)
unfolding counts_at
counts_online None = online_word Token Ended (λ w. Err (unknown_name w))
counts_online (Some l) =
    online_then _ _ (online_word Token Ended _) (λ x.
    online_then _ _ (online_open Token Ended) (λ y.
    online_list Parenthesis (of_length (length l.modules) Limit) (count_at l) (λ sofar. online_word Token Ended (λ w. count_within l sofar (whole_within 0 (2 ^ 44) w))) (count_some l) []))

counts_end : (o : Option Link) (p : ℕ) → counts_at o (EndAt p) ≡ Err (p, Ended)
unfolding counts_at
counts_end None p = refl
counts_end (Some l) p = refl

pub next_counts_online : (links : List Link) (sofar : List (List ℕ)) → IsOnline (next_counts_at links sofar)
next_counts_online links sofar = counts_online (slice_get links (length sofar))

pub next_counts_some : (links : List Link) (sofar : List (List ℕ)) → TakesSome (next_counts_at links sofar)
next_counts_some links sofar = takes_some (next_counts_at links sofar) (next_counts_online links sofar) (λ p. Ended) (counts_end (slice_get links (length sofar)))

pub all_counts_online : (links : List Link) → IsOnline (all_counts_at links)
all_counts_online links = online_list Parenthesis (of_length (length links) Limit) (next_counts_at links) (next_counts_online links) (next_counts_some links) []

pub modules_online : (links : List Link) → IsOnline (modules_at links)
unfolding modules_at
modules_online links =
    online_then _ _ (online_word Token Ended _) (λ x.
    online_then _ _ (online_open Token Ended) (λ x.
    all_counts_online links))

pub pool_spot_online : (pool : List CutLine) → IsOnline (pool_spot_at pool)
unfolding pool_spot_at
pool_spot_online pool =
    online_then _ _ (online_word Token Ended _) (λ i.
    online_give _)

pub local_spot_online : (names : KnownNames) → IsOnline (local_spot_at names)
unfolding local_spot_at
local_spot_online names =
    online_then _ _ (online_word Token Ended _) (λ state.
    online_then _ _ (numbers_online (length names.links) (2 ^ 32)) (λ lengths.
    online_give _))

pub spot_online : (names : KnownNames) (pool : List CutLine) → IsOnline (spot_at names pool)
spot_online names pool = online_branch true (Err Token) ((_, _) ∷ (_, _) ∷ []) (pool_spot_online pool, (local_spot_online names, tt))

pub right_side_online : IsOnline right_side_at
unfolding right_side_at
right_side_online =
    online_then _ _ (field_online (codes "right") 0 (2 ^ 84)) (λ right.
    online_then _ _ (online_close Token Ended) (λ x.
    online_give _))

pub certificate_line_online : (names : KnownNames) (pool : List CutLine) (sofar : List CertLine) → IsOnline (certificate_line_at names pool sofar)
unfolding certificate_line_at
certificate_line_online names pool sofar =
    online_then _ _ (opening_within_online (has_room 256 sofar)) (λ x.
    online_then _ _ (online_word Token Ended _) (λ num.
    online_then _ _ (spot_online names pool) (λ cut.
    online_then _ _ right_side_online (λ right.
    online_give _))))

pub certificate_line_some : (names : KnownNames) (pool : List CutLine) (sofar : List CertLine) → TakesSome (certificate_line_at names pool sofar)
unfolding certificate_line_at
certificate_line_some names pool sofar = takes_some (certificate_line_at names pool sofar) (certificate_line_online names pool sofar) (λ p. Ended) (λ p. refl)

pub certificate_online : (names : KnownNames) (pool : List CutLine) → IsOnline (certificate_at names pool)
unfolding certificate_at
certificate_online names pool =
    online_then _ _ (online_word Token Ended _) (λ x.
    online_then _ _ (online_open Token Ended) (λ x.
    online_then _ _ (online_word Token Ended _) (λ den.
    online_then _ _ (online_list Parenthesis no_fault (certificate_line_at names pool) (certificate_line_online names pool) (certificate_line_some names pool) []) (λ lines.
    online_give _))))
