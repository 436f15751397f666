use Rattle.std.proofs.Common.{ℕ, ◌+◌, ◌<◌, arith, ◌∙◌, ap, get_or, length, sym, take, eq-eqb, ne_eqb}
use Rattle.snd_tokens.specs.Terms.{Text, text_from}
use Rattle.tree_reader.{specs.CommentTexts.{CommentAt, NoneAt, comments_from}, proofs.Scanning.{comments_end, comments_hash, comments_other}}
use Rattle.tree_reader.proofs.lines.next_line.Goals as goal

pub returns-then-at-bytes-clause-next : goal.returns-then-at-bytes-clause-next
returns-then-at-bytes-clause-next c =
    let bytes = c.args.bytes.now in
    c.line_start-at.ensures.same ∙ (ap (λ p. comments_from p bytes) c.if-at-bytes.true ∙ (comments_end bytes ∙ sym (ap (λ p. NoneAt p) c.if-at-bytes.true)))

pub returns-then-bytes-at-ne35-clause-next : goal.returns-then-bytes-at-ne35-clause-next
returns-then-bytes-at-ne35-clause-next c =
    let bytes = c.args.bytes.now in
    let at = c.line_start-at.result in
    let lt : at < length bytes = omega (arith, c.line_start-at.ensures.within, c.if-at-bytes.false) in
    c.line_start-at.ensures.same ∙ comments_other at bytes lt (ne_eqb (get_or bytes at 0) 35 c.if-bytes-at-ne35.true) (c.line_start-at.ensures.start lt)

pub returns-clause-next : goal.returns-clause-next
returns-clause-next c =
    let bytes = c.args.bytes.now in
    let at = c.line_start-at.result in
    let end = c.line_end-end.result in
    let lt : at < length bytes = omega (arith, c.line_start-at.ensures.within, c.if-at-bytes.false) in (
      c.line_start-at.ensures.same ∙ (comments_hash at bytes lt (eq-eqb (get_or bytes at 0) 35 c.if-bytes-at-ne35.false)
          ∙ (ap (λ (k : ℕ). CommentAt (text_from (at + 1) (take k bytes)) (comments_from k bytes)) (sym c.line_end-end.ensures.value)
          ∙ ap (λ (t : Text). CommentAt t (comments_from end bytes)) (sym c.new.ensures))),
      c.line_end-end.ensures.within,
    )

pub returns-clause-after : goal.returns-clause-after
returns-clause-after c = omega (arith, c.line_start-at.ensures.after, c.line_end-end.ensures.value)
