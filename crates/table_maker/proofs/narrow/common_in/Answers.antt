use Rattle.std.{proofs.Common.{sym, ◌∙◌}, proofs.lemmas.Nat.Gcd.dvd_trans}
use Rattle.line_check.proofs.DividedCoefs.{number_at}
use Rattle.table_maker.proofs.CommonDivisors.{links_more}
use Rattle.table_maker.proofs.narrow.common_in.Goals as goal

pub loop-e-preserved : goal.loop-e-preserved
loop-e-preserved c =
    let links = c.args.links.now in
    let own = c.common_on-common.ensures in
    let so_far = c.loop-e.invariant in
    let same = c.len.ensures ∙ sym (number_at links c.loop-e.e c.index-links-e.result c.loop-e-test.true) in record {
      positive = own.positive;
      need = dvd_trans c.common_on-common.result own.known so_far.need;
      gives = links_more links c.args.line.now c.loop-e.e c.len.result c.loop-e.common c.common_on-common.result same so_far.gives own.known own.gives;
    }
