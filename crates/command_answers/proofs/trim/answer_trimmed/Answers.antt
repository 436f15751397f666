use Rattle.std.proofs.Common.{inl, refl}
use Rattle.command_answers.proofs.trim.answer_trimmed.Goals as goal

pub returns : goal.returns
returns c = inl (
  refl,
  record {
    report = c.args.report;
    blocks = c.args.blocks.now;
    trimmed = c.requires;
    printed = c.in_ok-write_trimmed.ensures.text;
    spelled = c.in_ok-write_trimmed.ensures.spelled;
  },
)
