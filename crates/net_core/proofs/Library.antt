-- The names of the standard library that proofs cite beside its Common, and the lemmas of this crate, passed on from one place.
pub use Rattle.std.proofs.Crossing.{crosses, send}
pub use Rattle.std.proofs.Math.IntN.{*ℤ-zero, *ℤ_comm, pos-*ℤ-pos, zero-*ℤ}
pub use Rattle.std.proofs.Math.Logic.{∥∥₁_elim, ∥∥₁_map}
pub use Rattle.std.proofs.Math.Nat.{div-mul_cancel, dvd-add, dvd-mul_left, dvd-mul_left_of_dvd, dvd-mul_right, dvd_of_mul-dvd-mul_left, dvd_of_mul-dvd-mul_right, eq-one_of_dvd-one, le_of_dvd, le_of_mul-le-mul_left, mul-div_cancel', mul-dvd-mul_left, mul-dvd-mul_right, mul-sub, one-dvd, pow-le-pow_right, zero-dvd}
pub use Rattle.std.proofs.Math.Seq.{get_or-append_seam, take-append_seam, take-length}
pub use Rattle.std.proofs.Props.{props}
pub use Rattle.std.proofs.lemmas.Bool.{and_from, and_left, and_parts, and_right, both_ways, cases_Bool, cases_eq, cases_lt, cases_order, cond-false, cond-true, cond_both, eqb-false, false_from_ne_true, false≢true, lt-leb, not_from_false, not_from_true, or_parts, or_right}
pub use Rattle.std.proofs.lemmas.Bool.Decides.{Decides-and, Decides-eqb, nat_tests}
pub use Rattle.std.proofs.lemmas.Fmt.{length-decimal-le}
pub use Rattle.std.proofs.lemmas.Fn.{always_returns_same}
pub use Rattle.std.proofs.lemmas.Grind.{flat_map-append, get_or_default_zero}
pub use Rattle.std.proofs.lemmas.Int.{by_lt_z, fits_signed_mul, ints, unsigned_abs-mul}
pub use Rattle.std.proofs.lemmas.List.{at_drop_more, drop-append-le, drop_all, get_or-append_right, get_or-map, get_or-replicate, get_or_append_left, get_or_default, get_or_past, get_or_push, length-map, length-replicate, map-append, map_push, nil_from_length, same_lists, set-get_or, take_more, take_more_set, take_rest}
pub use Rattle.std.proofs.lemmas.List.Edits.{map_over_more}
pub use Rattle.std.proofs.lemmas.List.Elements.{All-append, All-cons, All-contains, All-filter, All-from_get_or, All-from_recursion, All-get_or, All-head, All-map, All-more, All-nil, All-push, All-same, All-tail, All-take, All-weaker, Contains-append_cases, Contains-append_left, Contains-append_right, Contains-get_or, Contains-push, filter-append, recursion_from_All}
pub use Rattle.std.proofs.lemmas.List.Folds.{list_any_at, list_any_none}
pub use Rattle.std.proofs.lemmas.List.FromFn.{get_or-map-range_with_len, get_or-range_with_len, length-map-range_with_len, length-range_with_len, map-range_with_len_more}
pub use Rattle.std.proofs.lemmas.List.Kept.{AllPairs-filter}
pub use Rattle.std.proofs.lemmas.List.Prefix.{front_rest}
pub use Rattle.std.proofs.lemmas.List.Quantifiers.{Any-push, all_pairs_push, position-Some}
pub use Rattle.std.proofs.lemmas.List.Sorted.{All-permutation, IsNonDecreasingBy-from_sort_by_key, IsPartitionedBy-ltb, IsPermutation-sym}
pub use Rattle.std.proofs.lemmas.List.Sums.{count_by-le-length, get_or-le-sum_by, length-filter, position_or_len_is, prefix_len-le-length, sum_by-append, sum_by-cons, sum_by-remove, sum_by-set, sum_by_more, sum_by_push}
pub use Rattle.std.proofs.lemmas.Nat.{le-div, mod_below, mul-le}
pub use Rattle.std.proofs.lemmas.Nat.Gcd.{IsGcd-from_mod, IsGcd-from_zero, IsGcd-swap, dvd-zero, dvd_antisymm, dvd_refl, dvd_trans}
pub use Rattle.std.proofs.lemmas.Option.{get_or_from_slice_get, slice_get-get_or, slice_get-map, slice_get_past, slice_get_read, slice_get_within}
pub use Rattle.std.proofs.lemmas.Result.{IfErr-weaker, IfOk-weaker, err_from_is_err_and, on_ok_weaker}
pub use Rattle.std.proofs.lemmas.Slice.Eq.{bytes_eq-Decides, slice_eq-Decides}
pub use Rattle.std.proofs.lemmas.Slice.Zip.{get_or-zip, length-zip}
pub use Rattle.std.specs.Cmp.{nat_cmp_is}
pub use Rattle.std.specs.Cmp.Lexicographic.{pointwise}
pub use Rattle.std.specs.Coded.{Coded-set}
pub use Rattle.std.specs.Int.{IsGcd, w128, ◌∣◌}
pub use Rattle.std.specs.Io.KnownBytes.{Appends, Consumes}
pub use Rattle.std.specs.List.{AllByRecursion, AllWithin, before_first, list_all, list_any, position_or_len, prefix_len, range_with_len, suffix_len}
pub use Rattle.std.specs.List.Sorted.{IsNonDecreasingBy, IsStableBy, ties}
pub use Rattle.std.specs.Option.{ForSome, option_map_or, option_or}
pub use Rattle.std.specs.Prelude.{⊤}
pub use Rattle.std.specs.Thread.{IsSync}
pub use Rattle.net_core.proofs.Accepted.{differ, new_name, states_accepted}
pub use Rattle.net_core.proofs.Checks.{no_pairs, none_named, none_passes, not_true, same_is}
pub use Rattle.net_core.proofs.Lists.{all_at, all_one, all_written, front_all, get_front, get_some, none_within, positive_or_none, some_same}
pub use Rattle.net_core.proofs.Networks.{few_links, few_nodes, modules_sound}
pub use Rattle.net_core.proofs.Numbers.{positive_divisor, positive_factors}
pub use Rattle.net_core.proofs.Sums.{below-first, below-le, below-none, below-one, below-plus, below-same, below-swapped, below-times, paired, sums-equal, sums-le, sums-same, sums-times}
