-- what was answered of the comment lines of a network's tree
use Rattle.std.proofs.Common.{◌≡◌, ◌≢◌, ℕ, ◌≤◌, List, length, Result, Ok, Err, AllPairs, IfErr, IfOk, ap, arith, subst, ⊎_elim, length-take}
use Rattle.net_core.proofs.Library.{∥∥₁_elim, cases_lt}
use Rattle.plan_terms.specs.Terms.{Demand, IsNetwork, Link}
use Rattle.plan_report.specs.Terms.{KnownNames}
use Rattle.text_kit.{specs.Terms.AnswersAs, specs.declared.refusal.Refusal.Refusal, specs.declared.refusal.Refusal.TheVariants.{Bad, NoMemory}}
use Rattle.report_words.specs.declared.fault.ReportKind.{ReportKind}
use Rattle.tree_reader.{specs.declared.tree.ReadTree.ReadTree, specs.FirstFaults.IsNoEarlyTreeFault, specs.ReadingTrees.{Gives, TreeRead, no_lines, tree_at}, specs.Trees.SpellsTree, proofs.FirstFaults.fault_same, proofs.LinesOnline.tree_line_online, proofs.Places.all_same, proofs.TreeLaws.{tree_again, tree_found, tree_only}}

links_differ : (nodes : List (List ℕ)) (links : List Link) → ∥ IsNetwork nodes links ∥₁ → AllPairs (λ x y. x.name ≢ y.name) links
links_differ nodes links net = λ i j d lt within same. ∥∥₁_elim net (λ x y. absurd x) (λ (n : IsNetwork nodes links). n.different_links i j d lt within same)

-- what has a fault isn't read
not_both : (q : TreeRead) (at : ℕ) (kind : ReportKind) (t : ReadTree) → q ≡ Err (at, kind) → q ≡ Ok t → ⊥
not_both (Ok x) at kind t e f = absurd cc
not_both (Err d) at kind t e f = absurd cc

module _ (known : KnownNames) (demands : List Demand) (differ : AllPairs (λ x y. x.name ≢ y.name) known.links) (apart : AllPairs (λ x y. x.name ≢ y.name) demands) (from : ℕ) (bytes : List ℕ) (within : from ≤ length bytes) where
  first_by : (a : Result ReadTree (Refusal ReportKind)) → Gives a (tree_at known demands from bytes) → IfErr a (IsNoEarlyTreeFault known demands from bytes)
  first_by (Ok t) gives = tt
  first_by (Err NoMemory) gives = tt
  first_by (Err (Bad at kind)) gives = λ other n t same passes spells.
      let reads : tree_at known demands from other ≡ Ok t = tree_again known demands differ apart from other t spells in
      ⊎_elim
      (λ long. not_both (tree_at known demands from bytes) at kind t gives (subst (λ (b : List ℕ). tree_at known demands from b ≡ Ok t) (all_same bytes other n long same) reads))
      (λ short. not_both (tree_at known demands from other) at kind t
      (fault_same known demands (tree_line_online known demands) at kind bytes other n same short (omega (arith, length-take n bytes, length-take n other, ap length same, short)) passes.byte passes.token no_lines from within gives) reads)
      (cases_lt (length bytes) n)

module _ (known : KnownNames) (demands : List Demand) (net : ∥ IsNetwork known.nodes known.links ∥₁) (apart : AllPairs (λ x y. x.name ≢ y.name) demands) (from : ℕ) (bytes : List ℕ) (a : Result ReadTree (Refusal ReportKind)) (gives : Gives a (tree_at known demands from bytes)) where
  pub answer_found : IfOk a (λ t. SpellsTree known demands from bytes t)
  answer_found = tree_found known demands (links_differ known.nodes known.links net) apart from bytes a gives

  pub answer_only : (t : ReadTree) → SpellsTree known demands from bytes t → AnswersAs (λ x. x) a t
  answer_only t s = tree_only known demands (links_differ known.nodes known.links net) apart from bytes a gives t s

  pub answer_first : from ≤ length bytes → IfErr a (IsNoEarlyTreeFault known demands from bytes)
  answer_first within = first_by known demands (links_differ known.nodes known.links net) apart from bytes within a gives
