-- What holds of each variant of edits, replies, entries and outcomes holds of all.
use Rattle.std.proofs.Common.{ℕ, List}
use Rattle.plan_terms.specs.Terms.{StateId, Edit, Set, Add, Drop, Entry, Edited, Pooled, Reply, Accepted, UnknownDemand, KnownDemand, UnknownNode, SelfDemand, TooMany, TooMuch}
use Rattle.plan_report.specs.Terms.{Plan, Outcome, Planned, Unsurvivable}

pub edit_cases : (M : Edit → Type 0) → ((name : List ℕ) (need : ℕ) → M (Set name need)) → ((name from to : List ℕ) (need : ℕ) → M (Add name from to need)) → ((name : List ℕ) → M (Drop name)) → (e : Edit) → M e
edit_cases M set add drop (Set name need) = set name need
edit_cases M set add drop (Add name from to need) = add name from to need
edit_cases M set add drop (Drop name) = drop name

pub reply_cases : (M : Reply → Type 0) → ((version : ℕ) → M (Accepted version)) → M UnknownDemand → M KnownDemand → M UnknownNode → M SelfDemand → M TooMany → ((total : ℕ) → M (TooMuch total)) → (r : Reply) → M r
reply_cases M a b c d e f g (Accepted version) = a version
reply_cases M a b c d e f g UnknownDemand = b
reply_cases M a b c d e f g KnownDemand = c
reply_cases M a b c d e f g UnknownNode = d
reply_cases M a b c d e f g SelfDemand = e
reply_cases M a b c d e f g TooMany = f
reply_cases M a b c d e f g (TooMuch total) = g total

pub entry_cases : (M : Entry → Type 0) → ((caller : ℕ) (edit : Edit) (reply : Reply) → M (Edited caller edit reply)) → ((index : ℕ) (state : StateId) (lengths : List ℕ) → M (Pooled index state lengths)) → (e : Entry) → M e
entry_cases M edited pooled (Edited caller edit reply) = edited caller edit reply
entry_cases M edited pooled (Pooled index state lengths) = pooled index state lengths

pub outcome_cases : (M : Outcome → Type 0) → ((caller serial : ℕ) (plan : Plan) → M (Planned caller serial plan)) → ((caller serial version position : ℕ) (state : StateId) (demand : List ℕ) → M (Unsurvivable caller serial version position state demand)) → (o : Outcome) → M o
outcome_cases M a b (Planned caller serial plan) = a caller serial plan
outcome_cases M a b (Unsurvivable caller serial version position state demand) = b caller serial version position state demand
