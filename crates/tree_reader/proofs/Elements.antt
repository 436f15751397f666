-- Each element of a list of numbers takes a word at least.
use Rattle.std.proofs.Common.{◌^◌, refl}
use Rattle.text_kit.proofs.Lemmas.{IsOnline, TakesSome, online_give, online_then, online_word, takes_some}
use Rattle.report_words.{specs.declared.fault.ReportKind.TheVariants.{Token, Ended}, specs.Terms.number_at}
use Rattle.tree_reader.specs.ReadingLines.{term_at}

pub weight_some : TakesSome (number_at 0 (2 ^ 32))
weight_some = takes_some (number_at 0 (2 ^ 32)) (online_word Token Ended _) (λ p. Ended) (λ p. refl)

pub term_online : IsOnline term_at
unfolding term_at
term_online = online_then _ _ (online_word Token Ended _) (λ num. online_then _ _ (online_word Token Ended _) (λ cut. online_give _))

pub term_some : TakesSome term_at
unfolding term_at
term_some = takes_some term_at term_online (λ p. Ended) (λ p. refl)
