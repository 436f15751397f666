-- names, and that they end no line
use Rattle.std.proofs.Common.{◌≡◌, ℕ, ◌≤◌, List, [], Option, length, sym, ap}
use Rattle.net_core.proofs.Library.{option_map_or, slice_get_past}
use Rattle.plan_terms.specs.Terms.{Demand, IsName, Link, LinkId}
use Rattle.plan_report.specs.Terms.{demand_name, link_name}
use Rattle.report_comments.{specs.Comments.IsOneLine, proofs.OneLine.name_one_line}

pub one_line : (w : List ℕ) → IsName w → IsOneLine w
one_line w name = name_one_line w name

pub no_link : (links : List Link) (e : LinkId) → length links ≤ e.0 → [] ≡ link_name links e
no_link links e past = sym (ap (λ (o : Option Link). option_map_or (λ l. l.name) o []) (slice_get_past links e.0 past))

pub no_demand : (demands : List Demand) (k : ℕ) → length demands ≤ k → [] ≡ demand_name demands k
no_demand demands k past = sym (ap (λ (o : Option Demand). option_map_or (λ d. d.name) o []) (slice_get_past demands k past))
