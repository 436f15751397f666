use Rattle.report_comments.proofs.Spelling.{reports_take_comments}
use Rattle.report_comments.proofs.law.reports_take_comments.Goals as goal

pub returns : goal.returns
returns c = reports_take_comments
