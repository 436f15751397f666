-- Numbers and branches are read without a look at what comes after them.
use Rattle.std.proofs.Common.{ℕ, Bool, List, [], Ok, Err, refl}
use Rattle.text_kit.{specs.Terms.{of_length, Parenthesis}, proofs.Lemmas.{IsOnline, TakesSome, online_list, online_open, online_step, online_then, online_word, takes_some}}
use Rattle.report_words.{specs.declared.fault.ReportKind.TheVariants.{Token, Ended, Limit}, specs.ReportWords.{opening_within, where_room}, specs.ReportChoices.{Branches, branch_within, next_number_at, numbers_at}, proofs.Branching.{AllOnline, online_branch}}

-- ---- numbers and branches

pub opening_within_online : (room : Bool) → IsOnline (opening_within room)
opening_within_online room = online_step (λ w. Err Token) (where_room room (Ok tt)) (Err Token) (Err Ended)

pub next_number_some : (n limit : ℕ) (sofar : List ℕ) → TakesSome (next_number_at n limit sofar)
next_number_some n limit sofar = takes_some (next_number_at n limit sofar) (online_word Token Ended _) (λ p. Ended) (λ p. refl)

pub numbers_online : (n limit : ℕ) → IsOnline (numbers_at n limit)
unfolding numbers_at
numbers_online n limit = online_then _ _ (online_open Token Ended) (λ x. online_list Parenthesis (of_length n Limit) (next_number_at n limit) (λ sofar. online_word Token Ended _) (next_number_some n limit) [])

pub column_some : {C : Type 0} (room : Bool) (bs : Branches C) → AllOnline bs → TakesSome (branch_within room bs)
column_some room bs all = takes_some (branch_within room bs) (online_branch room (Err Token) bs all) (λ p. Ended) (λ p. refl)
