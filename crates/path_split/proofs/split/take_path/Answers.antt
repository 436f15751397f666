use Rattle.std.proofs.Common.{arith}
use Rattle.path_split.proofs.Trailing.{are_enough, least_positive}
use Rattle.path_split.proofs.split.take_path.Goals as goal

pub take_off-requires : goal.take_off-requires
take_off-requires c = are_enough c.args.legs.now _ _ _ c.requires.long c.requires.live c.least_left-num.ensures.left c.requires.different

pub returns : goal.returns
returns c = record {
  num = c.least_left-num.result;
  takes = record {
    positive = least_positive c.args.legs.now _ _ _ _ c.requires.left c.requires.live c.least_left-num.ensures.reached;
    enough = are_enough c.args.legs.now _ _ _ c.requires.long c.requires.live c.least_left-num.ensures.left c.requires.different;
    taken = c.take_off.ensures;
  };
  rest_is = omega (arith, c.least_left-num.ensures.most);
  flows = rw c.in_ok-path.ensures at c.in_ok-push.ensures.ok;
  ends = c.least_left-num.ensures.reached;
}
