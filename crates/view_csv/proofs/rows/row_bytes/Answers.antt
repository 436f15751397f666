use Rattle.std.proofs.Common.{◌≢◌, ◌∙◌, sym}
use Rattle.view_csv.proofs.Written.{on_no_err}
use Rattle.csv.specs.declared.writer.QuoteStyle.TheVariants as style
use Rattle.view_csv.proofs.rows.row_bytes.Goals as goal

pub returns-in-Ok : goal.returns-in-Ok
returns-in-Ok c =
    let from = c.from_writer-writer.ensures in
    let plain : c.from_writer-writer.result.cfg.style ≢ style.NonNumeric = rw (from.cfg, c.new.ensures) (λ e. cc e) in
    let h = on_no_err c.write_byte_record.result _ (sym c.is_err.ensures.value ∙ c.if-is_err.false) c.write_byte_record.ensures.bytes in
    let line = h from.fields from.wrote plain in
    let text = rw (from.cfg, c.new.ensures, from.wtr, c.new-2.ensures.items, from.empty, c.in_ok-fields.ensures) at line in
    c.from_vec.ensures ∙ c.in-Ok.ensures.ok ∙ text
