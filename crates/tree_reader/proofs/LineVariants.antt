-- what is said of each kind of comment line is said of all
use Rattle.std.proofs.Common.{ℕ, List}
use Rattle.plan_terms.specs.Terms.{CutLine, Evidence, LinkId}
use Rattle.master_bound.specs.declared.answer.Multiplier.{Multiplier}
use Rattle.tree_check.{specs.Terms.{Line, Divided, Table, TableKind}, specs.declared.proof.BoxCert.BoxCert, specs.declared.proof.Node.Node, specs.declared.proof.Node.TheVariants.{Split, Closed, Empty, Spent, Stuck}, specs.declared.proof.Verdict.Verdict, specs.declared.proof.Verdict.TheVariants.{Cheapest, Above}}
use Rattle.tree_reader.{specs.declared.sofar.TreeLine.TreeLine, specs.declared.sofar.TreeLine.TheVariants.{Cut, Further, Branch, Last}}

node_cases : (P : Node → Type 0) → ((e : LinkId) (m n : ℕ) → P (Split e m n)) → ((c : BoxCert) → P (Closed c)) → ((cut : ℕ) → P (Empty cut)) → ((c : BoxCert) → P (Spent c)) → ((c : BoxCert) (e : Evidence) → P (Stuck c e)) → (n : Node) → P n
node_cases P split closed empty spent stuck (Split e m n) = split e m n
node_cases P split closed empty spent stuck (Closed c) = closed c
node_cases P split closed empty spent stuck (Empty cut) = empty cut
node_cases P split closed empty spent stuck (Spent c) = spent c
node_cases P split closed empty spent stuck (Stuck c e) = stuck c e

verdict_cases : (P : Verdict → Type 0) → P Cheapest → ((n : ℕ) → P (Above n)) → (v : Verdict) → P v
verdict_cases P cheapest above Cheapest = cheapest
verdict_cases P cheapest above (Above n) = above n

pub line_cases : (P : TreeLine → Type 0) → ((c : CutLine) → P (Cut c)) → ((l : Line) → P (Further l))
    → ((e : LinkId) (m n : ℕ) → P (Branch (Split e m n))) → ((c : BoxCert) → P (Branch (Closed c))) → ((cut : ℕ) → P (Branch (Empty cut))) → ((c : BoxCert) → P (Branch (Spent c))) → ((c : BoxCert) (e : Evidence) → P (Branch (Stuck c e)))
    → P (Last Cheapest) → ((n : ℕ) → P (Last (Above n))) → (x : TreeLine) → P x
line_cases P cut further split closed empty spent stuck cheapest above (Cut c) = cut c
line_cases P cut further split closed empty spent stuck cheapest above (Further l) = further l
line_cases P cut further split closed empty spent stuck cheapest above (Branch n) = node_cases (λ x. P (Branch x)) split closed empty spent stuck n
line_cases P cut further split closed empty spent stuck cheapest above (Last v) = verdict_cases (λ x. P (Last x)) cheapest above v

further_cases : (P : Line → Type 0) → ((d : ℕ) (ts : List Multiplier) → P (Divided d ts)) → ((l : ℕ) (k : TableKind) (ws : List ℕ) → P (Table l k ws)) → (l : Line) → P l
further_cases P divided table (Divided d ts) = divided d ts
further_cases P divided table (Table l k ws) = table l k ws

pub later_from : (P : TreeLine → Type 0) → ((c : CutLine) → P (Cut c)) → ((d : ℕ) (ts : List Multiplier) → P (Further (Divided d ts))) → ((l : ℕ) (k : TableKind) (ws : List ℕ) → P (Further (Table l k ws)))
    → ((n : Node) → P (Branch n)) → ((v : Verdict) → P (Last v)) → (x : TreeLine) → P x
later_from P cut divided table branch last (Cut c) = cut c
later_from P cut divided table branch last (Further l) = further_cases (λ x. P (Further x)) divided table l
later_from P cut divided table branch last (Branch n) = branch n
later_from P cut divided table branch last (Last v) = last v

pub any_from : (P : TreeLine → Type 0) → ((c : CutLine) → P (Cut c)) → ((l : Line) → P (Further l)) → ((n : Node) → P (Branch n)) → ((v : Verdict) → P (Last v)) → (x : TreeLine) → P x
any_from P cut further branch last (Cut c) = cut c
any_from P cut further branch last (Further l) = further l
any_from P cut further branch last (Branch n) = branch n
any_from P cut further branch last (Last v) = last v
