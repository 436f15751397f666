use Rattle.std.proofs.Common.{[], ◌∷◌, inr, sym, append-nil}
use Rattle.people_words.{specs.inner.Causes.{given_names, given_option, given_options}, proofs.Reading.{end_leads, flag_leads, name_leads, one_more, valued_back}}
use Rattle.people_words.proofs.given.take_word.Goals as goal

pub returns-in_ok-push-in-Name : goal.returns-in_ok-push-in-Name
returns-in_ok-push-in-Name c = record {
  names = c.args.word.now ∷ [];
  options = [];
  named = one_more c.args.given.now.names c.push.new.self c.args.word c.in_ok-push-in-Name.ensures.ok (λ w. w.now);
  given = sym (append-nil (given_options c.args.given.now));
  leads = λ rest. name_leads c.args.word.now rest (sym c.in-Name.ensures);
}

pub returns-in-End : goal.returns-in-End
returns-in-End c = record {
  names = [];
  options = [];
  named = sym (append-nil (given_names c.args.given.now));
  given = sym (append-nil (given_options c.args.given.now));
  leads = λ rest. end_leads c.args.word.now rest (sym c.in-End.ensures);
}

pub returns-in_ok-push-in-Flag : goal.returns-in_ok-push-in-Flag
returns-in_ok-push-in-Flag c = record {
  names = [];
  options = record { name = c.args.word.now; value = [] } ∷ [];
  named = sym (append-nil (given_names c.args.given.now));
  given = one_more c.args.given.now.options c.push-in-Flag.new.self _ c.in_ok-push-in-Flag.ensures.ok given_option;
  leads = λ rest. flag_leads c.args.word.now rest (sym c.in-Flag.ensures);
}

pub returns-in-Valued : goal.returns-in-Valued
returns-in-Valued c = record {
  names = [];
  options = [];
  named = sym (append-nil (given_names c.args.given.now));
  given = sym (append-nil (given_options c.args.given.now));
  leads = λ rest. record {
    forth = λ names options read. inr (inr (inr (sym c.in-Valued.ensures, read)));
    back = λ names options read. valued_back c.args.word.now rest names options (sym c.in-Valued.ensures) read;
  };
}
