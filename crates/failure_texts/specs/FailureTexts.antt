-- a failure list as text, and what is answered in its place
use Rattle.std.{specs.Prelude.{◌≡◌, ℕ, List, [], ◌∷◌, ◌++◌, codes, flat_map, length}, specs.Option.option_map_or}
use Rattle.plan_terms.specs.Terms.{Demand, IsFirstSeparation, IsSurvivable, Link, Listed, Network, link_name, single_state}
use Rattle.plan_report.specs.Terms.{demand_name}
use Rattle.text_kit.specs.Terms.{Item, Verbatim, written}
use Rattle.report_comments.specs.Comments.{comment_line}
use Rattle.model_reader.{specs.Failures.{SpellsFailures, failures_header, list_items}, specs.declared.failures.FailureList.TheVariants.OneByOne}
use Rattle.failure_texts.{specs.Fates.{AreFates, with_states}, specs.declared.fates.Fate.Fate, specs.declared.answer.FailureAnswer.FailureAnswer, specs.declared.answer.FailureAnswer.TheVariants.{Apart, Printed}}

-- the failure of a link under its own name, where it separates nothing
abbrev pub able_state : List Link → Fate → List Listed
able_state links fate = option_map_or (λ k. []) fate.separated (single_state fate.link.0 (link_name links fate.link) ∷ [])

-- the failures of all links that separate nothing, in the order of the links
abbrev pub able_states : List Link → List Fate → List Listed
able_states links fates = flat_map (able_state links) fates

-- the words on a link whose failure separates a demand
abbrev pub left_out_items : List Link → List Demand → Fate → ℕ → List Item
left_out_items links demands fate k =
    Verbatim (link_name links fate.link) ∷ Verbatim (codes "is left out: without it demand") ∷ Verbatim (demand_name demands k)
    ∷ Verbatim (codes "can't be carried") ∷ []

-- these words, where it separates one
abbrev pub left_out : List Link → List Demand → Fate → List (List Item)
left_out links demands fate = option_map_or (λ k. left_out_items links demands fate k ∷ []) fate.separated []

-- the failure list of the fates of links: the failures that separate nothing, and below them the other links in comments
abbrev pub failure_list_text : List Link → List Demand → List Fate → List ℕ
failure_list_text links demands fates =
    (failures_header ++ 10 ∷ written (list_items links (OneByOne (able_states links fates)))) ++ flat_map comment_line (flat_map (left_out links demands) fates)

-- The text has the failure of each link that alone separates no demand, and no other one, so that the network survives its list.
pub record IsFailureList (net : Network) (demands : List Demand) (text : List ℕ) : Type 0 where
  pub fates : List Fate
  pub are_fates : AreFates net demands (length net.links) fates
  pub printed : text ≡ failure_list_text net.links demands fates
  pub spelled : SpellsFailures net.links text (able_states net.links fates)
  pub survivable : IsSurvivable (with_states net demands (able_states net.links fates))

-- the first demand that is separated where nothing fails, or else a failure list
abbrev pub AnswersFailures : Network → List Demand → FailureAnswer → Type 0
AnswersFailures net demands (Apart k) = IsFirstSeparation (with_states net demands []) 0 k
AnswersFailures net demands (Printed text) = IsFailureList net demands text
