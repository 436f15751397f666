use Rattle.std.proofs.Common.{◌≡◌, [], Err, inl, refl}
use Rattle.outside_io.specs.declared.status.Status.TheVariants.{Done, NoMemory}
use Rattle.people_commands.{specs.Endings.{EndsForPeople, memory_message}, proofs.Causing.{told_ends, told_fails}, proofs.Nothing.takes_nothing}
use Rattle.people_files.specs.declared.stop.Halt.TheVariants as halt
use Rattle.people_commands.proofs.run.run.Goals as goal

pub returns-in-Err-NoMemory-clause-outcome : goal.returns-in-Err-NoMemory-clause-outcome
returns-in-Err-NoMemory-clause-outcome g c =
    let shelf = c.in-Err-NoMemory.ensures.shelf in (
      NoMemory,
      [],
      memory_message,
      inl (refl, refl, refl),
      record { same = shelf.same; later = shelf.later; counted = λ failed. absurd (cc failed) },
      inl (refl, takes_nothing (g.K.Sink.taken c.args.out.now), c.tell-in-Err-NoMemory.ensures.tells),
    )

pub returns-in-Ok-clause-outcome : goal.returns-in-Ok-clause-outcome
returns-in-Ok-clause-outcome g c =
    let shelf = c.in-Ok.ensures.shelf in (
      Done,
      c.in-Ok.printed.text,
      c.in-Ok.printed.message,
      c.in-Ok.ensures.ends,
      record { same = shelf.same; later = shelf.later; counted = λ failed. absurd (cc failed) },
      rw (c.items.ensures, c.items-in-Ok.ensures) at c.say.ensures.says,
    )

pub returns-in-Err-Told-clause-outcome : goal.returns-in-Err-Told-clause-outcome
returns-in-Err-Told-clause-outcome g c =
    let told = c.in-Err-Told.told in
    let answer = c.answer_words.result in
    let is : answer ≡ Err (halt.Told told) = cc in
    let shelf = c.answer_words.ensures.shelf in (
      told.status,
      [],
      told.message,
      told_ends (EndsForPeople c.args.words.now (g.S.Shelf.files c.args.shelf.now)) answer told is c.answer_words.ensures.ends,
      record { same = shelf.same; later = shelf.later; counted = λ failed. shelf.counted (told_fails answer told is failed) },
      inl (refl, takes_nothing (g.K.Sink.taken c.args.out.now), rw c.items-in-Err-Told.ensures at c.tell.ensures.tells),
    )
