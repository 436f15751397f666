use Rattle.planner_commands.proofs.run.run.Goals as goal

pub returns-in-Ok-clause-outcome : goal.returns-in-Ok-clause-outcome
returns-in-Ok-clause-outcome g c =
    let shelf = c.in-Ok.ensures.shelf in (
      c.in-Ok.answer.status,
      c.in-Ok.answer.text,
      c.in-Ok.ensures.ends,
      record { same = shelf.same; later = shelf.later; counted = λ failed. absurd (c.in-Ok.answer.was_read failed) },
      rw c.items.ensures at c.say.ensures.writes,
    )

pub returns-in-Err-Told-clause-outcome : goal.returns-in-Err-Told-clause-outcome
returns-in-Err-Told-clause-outcome g c =
    let shelf = c.in-Err-Told.ensures.shelf in (
      c.in-Err-Told.answer.status,
      c.in-Err-Told.answer.text,
      rw c.in-Err-Told.field-0-is at c.in-Err-Told.ensures.ends,
      record { same = shelf.same; later = shelf.later; counted = λ failed. absurd (c.in-Err-Told.answer.was_read failed) },
      rw c.items-in-Err-Told.ensures at c.say-in-Err-Told.ensures.writes,
    )
