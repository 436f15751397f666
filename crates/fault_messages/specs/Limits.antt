-- the limits that sentences name, each of them the reader's own
use Rattle.std.specs.Prelude.{◌≡◌, ℕ, ◌+◌, ◌*◌, ◌^◌, ◌==◌, Bool, if◌then◌else◌, nat_lt, List, length, Option, None, Some, Ok, Err}
use Rattle.net_core.{specs.Terms.{is_named, digits_after_point}, specs.declared.demand.Demand.Demand, specs.declared.network.Link.Link, specs.declared.network.Module.Module, specs.declared.places.Places.Places, specs.declared.states.Listed.Listed, specs.Limits.{name_bytes, most_nodes, most_links, most_demands, most_modules, most_failures, need_power, total_power, money_power}}
use Rattle.snd_tokens.{specs.declared.amounts.NumberFault.TheVariants.TooLarge, specs.Terms.{decimal_below, amount_of, money_of, whole_of}, specs.Wholes.whole_below}
use Rattle.text_kit.specs.Terms.{Reading, any_name, number_or, sound, word_at, ◌>>=◌}
use Rattle.sndlib_reader.specs.declared.costs.CostedLink.{CostedLink}
use Rattle.model_reader.{specs.declared.failures.FailuresKind.FailuresKind, specs.FailuresReading.state_at}
use Rattle.report_words.specs.Terms.{new_demand, unknown_name}
use Rattle.sndlib_reader.specs.declared.fault.Limited.TheVariants as limits
use Rattle.sndlib_reader.specs.declared.fault.ReadKind.TheVariants as reads
use Rattle.sndlib_reader.specs.Reading as networks
use Rattle.model_reader.specs.declared.failures.FailuresKind.TheVariants as failures
use Rattle.report_words.specs.declared.fault.ReportKind.TheVariants as reports

-- a name that is too long
abbrev pub length_fault : {K : Type 0} → K → List ℕ → Option K
length_fault long w = if nat_lt name_bytes (length w) then Some long else None

-- a name that is too long, or that an earlier one has, or that is one more than there may be
abbrev pub counted_fault : {K : Type 0} → K → K → K → ℕ → ℕ → Bool → List ℕ → Option K
counted_fault long double limit most count taken w =
    if nat_lt name_bytes (length w) then Some long
    else (if taken then Some double
    else (if nat_lt count most then None else Some limit))

-- The reader of networks takes names, amounts and needs within these limits, and refuses them beyond.
pub record AreNetworkLimits : Type 0 where
  pub nodes : (sofar : List (List ℕ)) (w : List ℕ)
      → networks.node_fault sofar w
      ≡ counted_fault (reads.Limit limits.Name) reads.DoubleName (reads.Limit limits.Nodes) most_nodes (length sofar) (is_named (λ n. n) w sofar) w
  pub links : (sofar : List CostedLink) (w : List ℕ)
      → networks.link_fault sofar w
      ≡ counted_fault (reads.Limit limits.Name) reads.DoubleName (reads.Limit limits.Links) most_links (length sofar) (is_named (λ l. l.link.name) w sofar) w
  pub demands : (sofar : List Demand) (w : List ℕ)
      → networks.demand_fault sofar w
      ≡ counted_fault (reads.Limit limits.Name) reads.DoubleName (reads.Limit limits.Demands) most_demands (length sofar) (is_named (λ d. d.name) w sofar) w
  pub paths : (w : List ℕ) → networks.path_name w ≡ sound tt (length_fault (reads.Limit limits.Name) w)
  pub modules : (sofar : List Module) (n : ℕ)
      → networks.carried sofar (Ok n)
      ≡ (if n == 0 then Err reads.ZeroModule else (if nat_lt (length sofar) most_modules then Ok n else Err (reads.Limit limits.Modules)))
  pub needs : (total units each : ℕ) → networks.wanted total units (Ok each) ≡ (if nat_lt (units * each) (2 ^ need_power)
      then (if nat_lt (total + units * each) (2 ^ total_power) then Ok (units * each) else Err (reads.Limit limits.Total)) else Err (reads.Number TooLarge))
  pub amounts : (p : Places) (w : List ℕ) → networks.amount p w ≡ number_or reads.Number (decimal_below (digits_after_point p) (2 ^ need_power) w)

-- The reader of failure lists begins each failure with a name, which it takes within these limits.
pub record AreFailureLimits : Type 0 where
  pub failures : (links : List Link) (sofar : List Listed) → (rest : List ℕ → Reading FailuresKind Listed) × (state_at links sofar
      ≡ (word_at failures.Token failures.Ended (λ w. sound w
      (counted_fault failures.LimitName failures.DoubleState failures.LimitStates most_failures (length sofar) (is_named (λ s. s.name) w sofar) w)) >>= rest))

-- The readers of reports and proof lines take names, needs, money and other numbers within these limits.
pub record AreReportLimits : Type 0 where
  pub names : (w : List ℕ) → any_name reports.LimitName w ≡ sound w (length_fault reports.LimitName w)
  pub unknown : (w : List ℕ) → unknown_name w ≡ (if nat_lt name_bytes (length w) then reports.LimitName else reports.UnknownName)
  pub demands : (sofar : List Demand) (w : List ℕ)
      → new_demand sofar w
      ≡ (if nat_lt name_bytes (length w) then Err reports.LimitName else (if is_named (λ d. d.name) w sofar then Err reports.DoubleName else Ok w))
  pub needs : (p : Places) (w : List ℕ) → amount_of p w ≡ decimal_below (digits_after_point p) (2 ^ need_power) w
  pub money : (p : Places) (w : List ℕ) → money_of p w ≡ decimal_below (digits_after_point p) (2 ^ money_power) w
  pub numbers : (w : List ℕ) → whole_of w ≡ whole_below (2 ^ money_power) w
