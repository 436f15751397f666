-- Flows are read without a look at what comes after them.
use Rattle.std.proofs.Common.{◌+◌, List, [], length, refl, slice_get}
use Rattle.plan_terms.specs.Terms.{Demand}
use Rattle.text_kit.{specs.Terms.{no_fault, of_length, Parenthesis}, proofs.Lemmas.{IsOnline, TakesSome, online_give, online_list, online_open, online_then, online_whole, online_word, takes_some}}
use Rattle.plan_report.specs.Terms.{KnownNames}
use Rattle.report_parts.proofs.PartsOnline.{all_counts_online}
use Rattle.flow_file.{specs.declared.fault.FlowsKind.TheVariants.{Section, Token, Ended, Limit}, specs.declared.flow.LinkFlow.LinkFlow, specs.FlowReading.{end_of, flow_amount, flow_sections_at, flows_at, link_flow_at, state_flows_at}, proofs.Telling.online_told}

module _ (known : KnownNames) (demands : List Demand) where
  link_flow_online : (sofar : List LinkFlow) → IsOnline (link_flow_at known demands sofar)
  unfolding link_flow_at
  link_flow_online sofar =
      online_then _ _ (online_told _ (online_word _ _ _)) (λ demand.
      online_then _ _ (online_told _ (online_word _ _ _)) (λ link.
      online_then _ _ (online_word Token Ended (end_of known.nodes (slice_get known.links link.0))) (λ from.
      online_then _ _ (online_word Token Ended (flow_amount known.places)) (λ num.
      online_give _))))

  pub link_flow_some : (sofar : List LinkFlow) → TakesSome (link_flow_at known demands sofar)
  unfolding link_flow_at
  link_flow_some sofar = takes_some (link_flow_at known demands sofar) (link_flow_online sofar) (λ p. Ended) (λ p. refl)

  state_flows_online : (sofar : List (List LinkFlow)) → IsOnline (state_flows_at known demands sofar)
  unfolding state_flows_at
  state_flows_online sofar =
      online_then _ _ (online_told _ (online_word _ _ _)) (λ x.
      online_then _ _ (online_open Token Ended) (λ x.
      online_list Parenthesis no_fault (link_flow_at known demands) link_flow_online link_flow_some []))

  pub state_flows_some : (sofar : List (List LinkFlow)) → TakesSome (state_flows_at known demands sofar)
  unfolding state_flows_at
  state_flows_some sofar = takes_some (state_flows_at known demands sofar) (state_flows_online sofar) (λ p. Ended) (λ p. refl)

  sections_online : IsOnline (flow_sections_at known demands)
  unfolding flow_sections_at
  sections_online =
      online_then _ _ (online_word Section Ended _) (λ x.
      online_then _ _ (online_open Section Ended) (λ x.
      online_then _ _ (online_told _ (all_counts_online known.links)) (λ counts.
      online_then _ _ (online_word Section Ended _) (λ x.
      online_then _ _ (online_open Section Ended) (λ x.
      online_then _ _ (online_list Parenthesis (of_length (length known.listed + 1) Limit) (state_flows_at known demands) state_flows_online state_flows_some []) (λ flows.
      online_give _))))))

  pub flows_online : IsOnline (flows_at known demands)
  flows_online = online_whole Section (flow_sections_at known demands) sections_online
