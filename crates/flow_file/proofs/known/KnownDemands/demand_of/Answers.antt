use Rattle.std.proofs.Common.{ℕ, Option, Some, None, sym, ap}
use Rattle.text_kit.specs.Terms.{found_or}
use Rattle.report_words.{specs.Terms.unknown_name, proofs.Lemmas.named_in}
use Rattle.flow_file.proofs.known.KnownDemands.demand_of.Goals as goal

pub returns-in-Some : goal.returns-in-Some
returns-in-Some c =
    sym (ap (λ (o : Option ℕ). found_or (unknown_name c.args.word.now) o) (named_in (λ d. d.name) c.args.word.now c.args.self.now.list.now c.args.self.now.places (Some c.in-Some.place) c.args.self.now.names c.in-Some.ensures.place))

pub returns-in-None : goal.returns-in-None
returns-in-None c =
    rw (c.unknown_name.ensures) (sym (ap (λ (o : Option ℕ). found_or (unknown_name c.args.word.now) o) (named_in (λ d. d.name) c.args.word.now c.args.self.now.list.now c.args.self.now.places None c.args.self.now.names c.in-None.ensures.place)))
