use Rattle.report_comments.proofs.Passing.{comments_are_no_items}
use Rattle.report_comments.proofs.comment_law.comments_are_no_items.Goals as goal

pub returns : goal.returns
returns c = comments_are_no_items
