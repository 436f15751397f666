use Rattle.std.proofs.Common.{ap, length, not, sym, ◌==◌, ◌∙◌}
use Rattle.net_core.proofs.Library.{list_any, length-map-range_with_len}
use Rattle.sample_net.{specs.Draws.nth_number, specs.Samples.{chord_count, numbered, sample_ends, sample_nodes, sample_pairs}, proofs.Pairs.pairs_count, proofs.Sound.{are_sample_demands, demands_long, is_sample_network, links_long, no_setup}, proofs.Surviving.is_survivable}
use Rattle.sample_net.proofs.generator.sample.Goals as goal

pub checked-requires : goal.checked-requires
checked-requires c =
    rw (c.in_ok-nodes.ensures, c.in_ok-links.ensures.links, c.new-draws.ensures) (is_sample_network c.args.seed c.args.n c.requires.0 c.requires.1)

pub returns-clause-writable : goal.returns-clause-writable
returns-clause-writable c = record {
  fixed_cost = ap (λ n. n.fixed_cost) c.checked.ensures.parts.2;
  routing_cost = ap (λ n. n.routing_cost) c.checked.ensures.parts.2;
  setup_cost = ap (λ n. n.setup_cost) c.checked.ensures.parts.2 ∙ sym (ap (λ ls. list_any (λ l. not (l.setup == 0)) ls) (c.checked.ensures.parts.1 ∙ c.in_ok-links.ensures.links) ∙ no_setup (nth_number c.new-draws.result.number (chord_count c.args.n)) (sample_ends c.new-draws.result.number c.args.n));
}

pub returns-clause-belong : goal.returns-clause-belong
returns-clause-belong c = rw (c.in_ok-demands.ensures) (are_sample_demands c.links.new.draws.number c.args.n c.requires.1)

pub returns-clause-survivable : goal.returns-clause-survivable
returns-clause-survivable c =
    rw (c.checked.ensures.parts.0, c.checked.ensures.parts.1, c.in_ok-nodes.ensures, c.in_ok-links.ensures.links, c.in_ok-demands.ensures) (is_survivable (sample_nodes c.args.n) c.new-draws.result.number c.links.new.draws.number c.args.n)

pub returns-clause-counts : goal.returns-clause-counts
returns-clause-counts c = (
  ap length (c.checked.ensures.parts.0 ∙ c.in_ok-nodes.ensures) ∙ length-map-range_with_len (numbered 110) 0 c.args.n,
  ap length (c.checked.ensures.parts.1 ∙ c.in_ok-links.ensures.links) ∙ links_long c.new-draws.result.number c.args.n,
  ap length c.in_ok-demands.ensures ∙ demands_long c.links.new.draws.number (sample_pairs c.args.n) ∙ pairs_count c.args.n,
)
