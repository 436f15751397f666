use Rattle.std.proofs.Common.{refl}
use Rattle.command_answers.proofs.plan.separated.Goals as goal

pub returns : goal.returns
returns c = (
  refl,
  record {
    state = c.args.state.0;
    place = c.requires.place;
    first = c.requires.first;
    printed = rw (c.bytes.ensures.value, ← c.requires.named) at c.in_ok-separated_line.ensures;
  },
)
