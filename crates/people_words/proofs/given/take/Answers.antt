use Rattle.std.proofs.Common.{[], ◌∷◌, refl, sym, append-nil}
use Rattle.people_words.{specs.inner.Causes.{given_names, given_option, given_options}, proofs.Reading.{names_lead, one_more}}
use Rattle.people_words.proofs.given.take.Goals as goal

pub returns-in_ok-push-in-Value : goal.returns-in_ok-push-in-Value
returns-in_ok-push-in-Value c = rw c.in-Value.is (record {
  names = [];
  options = record { name = c.in-Value.option.now; value = c.args.word.now } ∷ [];
  named = sym (append-nil (given_names c.args.given.now));
  given = one_more c.args.given.now.options c.push.new.self _ c.in_ok-push-in-Value.ensures.ok given_option;
  leads = λ rest. record {
    forth = λ names options read. (options, refl, read);
    back = λ names options read. (names, read.0, refl, read.1, read.2);
  };
})

pub returns-in_ok-push-in-Names : goal.returns-in_ok-push-in-Names
returns-in_ok-push-in-Names c = rw c.in-Names.is (record {
  names = c.args.word.now ∷ [];
  options = [];
  named = one_more c.args.given.now.names c.push-in-Names.new.self c.args.word c.in_ok-push-in-Names.ensures.ok (λ w. w.now);
  given = sym (append-nil (given_options c.args.given.now));
  leads = λ rest. names_lead c.args.word.now rest;
})

pub returns-in_ok-next-in-Word : goal.returns-in_ok-next-in-Word
returns-in_ok-next-in-Word c = rw c.in-Word.is c.in_ok-next-in-Word.ensures
