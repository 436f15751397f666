use Rattle.std.proofs.Common.{◌≡◌, ap, get_or, length, refl, Some, subst, sym, ◌∙◌, slice_get}
use Rattle.net_core.proofs.Library.{get_or_from_slice_get, slice_get_read}
use Rattle.plan_terms.specs.Terms.{Metric, Number, CutLine}
use Rattle.master_law.specs.Terms.{IsMasterEvidence}
use Rattle.master_bound.proofs.Networks.{number_evidence, slacks_named}
use Rattle.master_bound.proofs.bound.wide_number.Goals as goal

pub returns : goal.returns
returns c =
    let links = c.args.net.now.links in
    let pairs = c.args.pairs.now in
    let cuts = c.args.cuts.now in
    let cut = c.index-cuts-k.result in
    let names = c.in_ok-names.names in
    let at : slice_get cuts c.args.k ≡ Some cut = slice_get_read cuts (length cuts) c.args.k cut refl c.requires.inside c.index-cuts-k.is in
    let read : get_or cuts c.args.k cut ≡ cut = get_or_from_slice_get cuts c.args.k cut cut at in
    let count : length cut.lengths ≡ length links = subst (λ (x : CutLine). length x.lengths ≡ length links) read (c.requires.counts c.args.k cut c.requires.inside) in
    let rows : length names ≡ length links = c.in_ok-names.ensures.count ∙ (c.len.ensures ∙ ap length c.links.ensures) in
    rw c.wide.ensures (
      pairs,
      c.requires.units,
      subst (λ lengths. IsMasterEvidence links pairs cuts names (Number (Metric cut.state lengths))) (sym c.in_ok-copy.ensures)
          (number_evidence links pairs cuts cut names (c.args.k, c.requires.inside, read) count (c.requires.wide cut at) (slacks_named (length links) names rows c.in_ok-names.ensures.names)),
    )
