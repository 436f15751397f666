use Rattle.std.proofs.Common.{ℕ, Option, Some, None, sym, ap}
use Rattle.text_kit.specs.Terms.{found_or}
use Rattle.report_words.{specs.ReportWords.{as_link, unknown_name}, proofs.Lookups.named_in}
use Rattle.report_words.proofs.context.Context.link_of.Goals as goal

pub returns-in-Some : goal.returns-in-Some
returns-in-Some c =
    sym (ap (λ (o : Option ℕ). as_link (found_or (unknown_name c.args.word.now) o)) (named_in (λ l. l.name) c.args.word.now c.args.self.now.net.now.links c.args.self.now.links (Some c.in-Some.place) c.args.self.now.link_names c.in-Some.ensures.place))

pub returns-in-None : goal.returns-in-None
returns-in-None c =
    rw (c.unknown_name.ensures) (sym (ap (λ (o : Option ℕ). as_link (found_or (unknown_name c.args.word.now) o)) (named_in (λ l. l.name) c.args.word.now c.args.self.now.net.now.links c.args.self.now.links None c.args.self.now.link_names c.in-None.ensures.place)))
