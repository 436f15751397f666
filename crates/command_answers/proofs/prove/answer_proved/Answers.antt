use Rattle.std.proofs.Common.{inl, refl}
use Rattle.command_answers.proofs.prove.answer_proved.Goals as goal

pub write_lined-requires : goal.write_lined-requires
write_lined-requires c = c.requires.lined

pub returns : goal.returns
returns c = inl (
  refl,
  record {
    report = c.args.report;
    proved = c.requires;
    printed = c.in_ok-write_lined.ensures.text;
    spelled = c.in_ok-write_lined.ensures.spelled;
  },
)
