use Rattle.demand_book.proofs.book.Book.apply.Goals as goal

pub returns-in-Add-clause-answer : goal.returns-in-Add-clause-answer
returns-in-Add-clause-answer c = rw c.in-Add.is c.add.ensures.answer
