use Rattle.std.proofs.Common.{refl}
use Rattle.report_checker.proofs.Walking.{cut_passed, edit_passes}
use Rattle.report_checker.proofs.walk.Walk.pass.Goals as goal

pub returns-in-Edited : goal.returns-in-Edited
returns-in-Edited c =
    rw c.in-Edited.is (edit_passes c.pass_edit.result c.in-Edited.caller c.in-Edited.edit c.in-Edited.reply c.args.self.now c.pass_edit.new.self
    c.pass_edit.ensures.reply c.pass_edit.ensures.demands c.pass_edit.ensures.version c.pass_edit.ensures.nodes c.pass_edit.ensures.cuts)

pub returns-in-Pooled : goal.returns-in-Pooled
returns-in-Pooled c p before passed =
    rw c.in-Pooled.is (cut_passed p before c.in-Pooled.index c.in-Pooled.state c.in-Pooled.lengths c.args.self.now _ refl refl passed)
