use Rattle.net_core.proofs.Library.{dvd_trans, positive_divisor}
use Rattle.line_check.specs.Lines.{capped}
use Rattle.table_maker.proofs.CommonDivisors.{gives_more}
use Rattle.table_maker.proofs.narrow.common_on.Goals as goal

pub loop-m-preserved : goal.loop-m-preserved
loop-m-preserved c =
    let gcd = c.gcd-common.ensures in
    let so_far = c.loop-m.invariant in record {
      positive = positive_divisor c.gcd-common.result c.loop-m.common so_far.positive gcd.0;
      known = dvd_trans c.gcd-common.result gcd.0 so_far.known;
      gives = gives_more (capped c.args.line.now c.args.e) c.loop-m.m c.min.result c.loop-m.common c.gcd-common.result so_far.gives (search (c.min.ensures, c.coefficient.ensures, c.need_of-need.ensures)) gcd;
    }
