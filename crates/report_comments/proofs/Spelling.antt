-- a report with comments after it spells the report
use Rattle.std.proofs.Common.{◌∷◌, [], ◌++◌, codes, flat_map}
use Rattle.plan_report.specs.Terms.{KnownNames, entry_items, notes_items, numbered_from, outcome_items, pool_line_items, report_header, report_items, report_text, Report}
use Rattle.text_kit.specs.Terms.{section, written}
use Rattle.report_comments.{specs.ReportComments.ReportsTakeComments, proofs.Endings.{EndsLine, comments_taken, ends_after, section_ends, written_after}}

report_ends : (known : KnownNames) (r : Report) → EndsLine (report_text known r)
report_ends known r =
    let notes = section (codes "NOTES") (notes_items r.notes) in
    let journal = section (codes "JOURNAL") (flat_map (entry_items known.places) (numbered_from 1 r.entries)) in
    let pool = section (codes "POOL") (flat_map pool_line_items (numbered_from 0 r.pool)) in
    let outcomes = section (codes "OUTCOMES") (flat_map (outcome_items known) r.outcomes) in
    ends_after (report_header known.places) (10 ∷ written (report_items known r)) (ends_after (10 ∷ []) (written (report_items known r))
    (written_after (notes ++ journal ++ pool) outcomes (section_ends (codes "OUTCOMES") (flat_map (outcome_items known) r.outcomes))))

pub reports_take_comments : ReportsTakeComments
reports_take_comments known r lines text adds spelled = record {
  form = spelled.form;
  file = comments_taken (report_header known.places) (report_items known r) (report_text known r) text lines (report_ends known r) adds spelled.file;
}
