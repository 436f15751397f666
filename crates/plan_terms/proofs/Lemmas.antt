-- The lemmas that other crates cite, passed on from one place. Declares nothing.
pub use Rattle.plan_terms.proofs.Bounds.{bound_rounded, bound_same, bound_unique, divisor_both, divisor_limit, divisor_none, divisor_one, divisor_unique, lowest_positive, quotient_least}
pub use Rattle.plan_terms.proofs.Distances.{distance_alike, distance_back, distance_none, distance_one, path_alike, right_once}
pub use Rattle.plan_terms.proofs.Distinct.{DistinctLinks, path_links_differ, path_links_inside, path_links_known}
pub use Rattle.plan_terms.proofs.Duality.{along_fixed, fixed_of, given_priced, priced_sum, weak_duality}
pub use Rattle.plan_terms.proofs.Edits.{changed, set_different, with_need}
pub use Rattle.plan_terms.proofs.Few.{path_few}
pub use Rattle.plan_terms.proofs.Joining.{joins_below, joins_ends, joins_from, joins_inside, joins_one, joins_turned, joins_within}
pub use Rattle.plan_terms.proofs.Metric.{all_carried, all_weaker, links_length, metric_inequality_listed}
pub use Rattle.plan_terms.proofs.Multipliers.{lowest_terms, ratio_quotient, smaller_ratio}
pub use Rattle.plan_terms.proofs.OwnBounds.{alone, certificate_alone, empty_certificate, empty_raw, own_bound_unique, product_below, raw_alone}
pub use Rattle.plan_terms.proofs.Shortcuts.{shortcut}
pub use Rattle.plan_terms.proofs.Walks.{Falls, closed_reaches, falls_differ, length_push, walk_back, walk_none, walk_on}
