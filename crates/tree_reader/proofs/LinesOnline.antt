-- Each comment line of a tree is read without a look at what comes after it.
use Rattle.std.proofs.Common.{ℕ, ◌^◌, ◌==◌, Bool, true, false, cond, List, [], ◌∷◌, length, Err, codes}
use Rattle.plan_terms.specs.Terms.{Demand}
use Rattle.plan_report.specs.Terms.{KnownNames}
use Rattle.text_kit.{specs.Terms.{TheEnd, give, no_fault, of_length}, proofs.Lemmas.{IsOnline, online_end, online_give, online_list, online_then, online_word}}
use Rattle.report_words.{specs.declared.fault.ReportKind.TheVariants.{Token, Ended, Limit}, specs.ReportChoices.next_number_at, specs.Terms.{Branches, branch_at, number_at}, proofs.Lemmas.online_branch, proofs.WordsOnline.next_number_some}
use Rattle.report_parts.proofs.PartsOnline.{evidence_online}
use Rattle.tree_check.specs.Terms.{TableKind, Plain, Failing}
use Rattle.tree_reader.{specs.declared.run.Stop.Stop, specs.declared.run.Stop.TheVariants.{LineEnd, Wide}, specs.declared.sofar.Sofar.Sofar, specs.ReadingLines.{above_at, box_cut_at, certificate_to, cheapest_at, closed_at, cut_branches, divided_at, empty_at, kind_at, lengths_at, line_branches, node_branches, spent_at, split_at, stuck_at, table_at, term_at, terms_at, weights_at}, specs.ReadingTrees.{next_index, tree_line_at}, specs.Runs.stop_ending, proofs.Elements.{term_online, term_some, weight_some}}

-- ---- lists of numbers

lengths_online : (n : ℕ) → IsOnline (lengths_at n)
lengths_online n = online_list TheEnd (of_length n Limit) (next_number_at n (2 ^ 32)) (λ sofar. online_word Token Ended _) (next_number_some n (2 ^ 32)) []

weights_online : IsOnline weights_at
weights_online = online_list TheEnd no_fault (λ sofar. number_at 0 (2 ^ 32)) (λ sofar. online_word Token Ended _) (λ sofar. weight_some) []

terms_online : (stop : Stop) → IsOnline (terms_at stop)
terms_online stop = online_list (stop_ending stop) no_fault (λ sofar. term_at) (λ sofar. term_online) (λ sofar. term_some) []

certificate_online : (stop : Stop) → IsOnline (certificate_to stop)
unfolding certificate_to
certificate_online stop =
    online_then _ _ (online_word Token Ended _) (λ den.
    online_then _ _ (terms_online stop) (λ lines.
    online_give _))

-- ---- lines

box_cut_online : (known : KnownNames) (index : ℕ) → IsOnline (box_cut_at known index)
unfolding box_cut_at
box_cut_online known index =
    online_then _ _ (online_word Token Ended _) (λ x.
    online_then _ _ (online_word Token Ended _) (λ state.
    online_then _ _ (online_word Token Ended _) (λ right.
    online_then _ _ (lengths_online (length known.links)) (λ lengths.
    online_give _))))

divided_online : (index : ℕ) → IsOnline (divided_at index)
unfolding divided_at
divided_online index =
    online_then _ _ (online_word Token Ended _) (λ x.
    online_then _ _ (online_word Token Ended _) (λ divisor.
    online_then _ _ (terms_online LineEnd) (λ terms.
    online_give _)))

-- the branches of `kind_at`
abbrev kinds : Branches TableKind
kinds = (codes "plain", give Plain) ∷ (codes "failing", give Failing) ∷ []

kind_online : IsOnline kind_at
kind_online = online_branch true (Err Token) kinds (online_give Plain, (online_give Failing, tt))

table_online : (index : ℕ) → IsOnline (table_at index)
unfolding table_at
table_online index =
    online_then _ _ (online_word Token Ended _) (λ x.
    online_then _ _ (online_word Token Ended _) (λ line.
    online_then _ _ kind_online (λ kind.
    online_then _ _ weights_online (λ weights.
    online_give _))))

split_online : (known : KnownNames) → IsOnline (split_at known)
unfolding split_at
split_online known =
    online_then _ _ (online_word Token Ended _) (λ link.
    online_then _ _ (online_word Token Ended _) (λ at_module.
    online_then _ _ (online_word Token Ended _) (λ number.
    online_then _ _ (online_end Token) (λ x.
    online_give _))))

closed_online : IsOnline closed_at
unfolding closed_at
closed_online = online_then _ _ (certificate_online LineEnd) (λ cert. online_give _)

empty_online : IsOnline empty_at
unfolding empty_at
empty_online =
    online_then _ _ (online_word Token Ended _) (λ cut.
    online_then _ _ (online_end Token) (λ x.
    online_give _))

spent_online : IsOnline spent_at
unfolding spent_at
spent_online = online_then _ _ (certificate_online LineEnd) (λ cert. online_give _)

stuck_online : (known : KnownNames) (demands : List Demand) → IsOnline (stuck_at known demands)
unfolding stuck_at
stuck_online known demands =
    online_then _ _ (certificate_online Wide) (λ cert.
    online_then _ _ (evidence_online known demands) (λ evidence.
    online_then _ _ (online_end Token) (λ x.
    online_give _)))

cheapest_online : IsOnline cheapest_at
unfolding cheapest_at
cheapest_online = online_then _ _ (online_end Token) (λ x. online_give _)

above_online : (known : KnownNames) → IsOnline (above_at known)
unfolding above_at
above_online known =
    online_then _ _ (online_word Token Ended _) (λ least.
    online_then _ _ (online_end Token) (λ x.
    online_give _))

-- ---- any line

module _ (known : KnownNames) (demands : List Demand) where
  node_line_online : IsOnline (branch_at (node_branches known demands))
  node_line_online = online_branch true (Err Token) (node_branches known demands)
      (split_online known, (closed_online, (empty_online, (spent_online, (stuck_online known demands, (cheapest_online, (above_online known, tt)))))))

  later_line_online : (index : ℕ) → IsOnline (branch_at (line_branches known demands index))
  later_line_online index = online_branch true (Err Token) (line_branches known demands index) (
    divided_online index,
    (
      table_online index,
      (split_online known, (closed_online, (empty_online, (spent_online, (stuck_online known demands, (cheapest_online, (above_online known, tt))))))),
    ),
  )

  any_line_online : (index : ℕ) → IsOnline (branch_at (cut_branches known demands index))
  any_line_online index = online_branch true (Err Token) (cut_branches known demands index) (
    box_cut_online known index,
    (
      divided_online index,
      (
        table_online index,
        (split_online known, (closed_online, (empty_online, (spent_online, (stuck_online known demands, (cheapest_online, (above_online known, tt))))))),
      ),
    ),
  )

  by_place : (index : ℕ) (no_node no_line : Bool)
      → IsOnline (branch_at (cond no_node (cond no_line (cut_branches known demands index) (line_branches known demands index)) (node_branches known demands)))
  by_place index true true = any_line_online index
  by_place index true false = later_line_online index
  by_place index false no_line = node_line_online

  pub tree_line_online : (s : Sofar) → IsOnline (tree_line_at known demands s)
  tree_line_online s = by_place (next_index s) (length s.tree == 0) (length s.lines == 0)
