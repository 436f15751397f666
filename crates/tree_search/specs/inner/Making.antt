-- how a proof is made of what a search knows
use Rattle.std.specs.Prelude.{◌≡◌, ℕ, ◌≤◌, ◌⊎◌, Bool, false, List, [], length, map, take}
use Rattle.plan_terms.specs.Terms.{Case, CutLine}
use Rattle.plan_types.specs.declared.plan.Plan.{Plan}
use Rattle.tree_boxes.{specs.Terms.{Proof, twig_node, cuts_among, lines_among, moved_line, moved_node, place_of, Entry}, specs.declared.known.Known.Known, specs.declared.twigs.Twig.Twig}
use Rattle.tree_search.{specs.Proving.IsProofOf, specs.inner.Showing.{all_shown, verdict_of}}
use Rattle.tree_boxes.specs.Terms.entry

-- the known entries are all of these if there are at most `most` of them, or else the first of their cuts, at most `most`
abbrev pub AreFirstOf : ℕ → List Entry → Known → Type 0
AreFirstOf most entries k = ((k.entries ≡ entries) × (length entries ≤ most)) ⊎ (k.entries ≡ map entry.Cut (take most (cuts_among entries)))

-- the proof of a plan whose nodes are those of the tree's places, which name entries
pub record IsProofMade (plan : Plan) (entries : List Entry) (twigs : List Twig) (proof : Proof) : Type 0 where
  pub plan_is : proof.plan ≡ plan
  pub cuts : proof.cuts ≡ cuts_among entries
  pub lines : proof.lines ≡ map (moved_line (place_of entries)) (lines_among entries)
  pub tree : proof.tree ≡ map (moved_node (place_of entries)) (map twig_node twigs)
  pub verdict : proof.verdict ≡ verdict_of (all_shown plan.cost twigs)

-- the result of a search, without lines where none are made
pub record IsProofWith (p : Case) (divides : Bool) (given : Plan) (handed : List CutLine) (limit : ℕ) (proof : Proof) : Type 0 where
  pub proof_is : IsProofOf p given handed limit proof
  pub plain : divides ≡ false → proof.lines ≡ []
