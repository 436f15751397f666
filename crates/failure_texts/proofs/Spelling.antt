-- the text of a failure list spells its states
use Rattle.std.proofs.Common.{◌≡◌, ℕ, ◌≤◌, List, [], ◌∷◌, ◌++◌, codes, flat_map, length, refl, sym, ap, subst, append_assoc, ◌∙◌}
use Rattle.net_core.proofs.Library.{All-from_recursion, AllByRecursion, flat_map-append}
use Rattle.plan_terms.specs.Terms.{Demand, IsSurvivable, Link, LinkId, Listed, Network, link_name}
use Rattle.text_kit.{specs.Terms.{AddsItems, Closing, IsFileOf, IsShortItem, Item, Verbatim, section, written}, proofs.Lemmas.{writable, written_is_read}}
use Rattle.report_comments.{specs.Comments.{AddsLines, comment_line}, proofs.Endings.{EndsLine, comments_taken, ends_after, section_ends}}
use Rattle.model_reader.{specs.Failures.{IsShort, SpellsFailures, failures_header, list_items, state_items}, specs.declared.failures.FailureList.TheVariants.OneByOne}
use Rattle.failure_texts.{specs.Fates.{AreFates, with_states}, specs.FailureTexts.{IsFailureList, able_state, able_states, failure_list_text, left_out}, specs.inner.FateItems.fate_items, specs.declared.fates.Fate.Fate, proofs.Listing.{listing, listing_states, listing_survived}}

-- ---- items

items_are : (links : List Link) (fates : List Fate) → flat_map (fate_items links) fates ≡ flat_map (state_items links) (able_states links fates)
items_are links [] = refl
items_are links (f ∷ fs) = ap (λ (is : List Item). fate_items links f ++ is) (items_are links fs) ∙ sym (flat_map-append (state_items links) (able_state links f) (able_states links fs))

short_before : (is js : List Item) → AllByRecursion IsShortItem (is ++ js) → AllByRecursion IsShortItem is
short_before [] js all = tt
short_before (i ∷ is) js all = (all.0, short_before is js all.1)

short_after : (is js : List Item) → AllByRecursion IsShortItem (is ++ js) → AllByRecursion IsShortItem js
short_after [] js all = all
short_after (i ∷ is) js all = short_after is js all.1

names_short : (links : List Link) (es : List LinkId) → AllByRecursion IsShortItem (flat_map (λ e. Verbatim (link_name links e) ∷ []) es) → AllByRecursion (λ e. length (link_name links e) ≤ 255) es
names_short links [] all = tt
names_short links (e ∷ es) all = (all.0.short, names_short links es all.1)

-- names that were put are short
states_short : (links : List Link) (listed : List Listed) (rest : List Item) → AllByRecursion IsShortItem (flat_map (state_items links) listed ++ rest) → AllByRecursion (IsShort links) listed
states_short links [] rest all = tt
states_short links (s ∷ ss) rest all =
    let whole : AllByRecursion IsShortItem (state_items links s ++ (flat_map (state_items links) ss ++ rest)) =
    subst (λ (is : List Item). AllByRecursion IsShortItem is) (append_assoc (state_items links s) (flat_map (state_items links) ss) rest) all in
    let own = short_before (state_items links s) (flat_map (state_items links) ss ++ rest) whole in
    let names = short_before (flat_map (λ e. Verbatim (link_name links e) ∷ []) s.links) (Closing ∷ []) own.1.1 in (
      (own.0.short, All-from_recursion (λ e. length (link_name links e) ≤ 255) s.links (names_short links s.links names)),
      states_short links ss rest (short_after (state_items links s) (flat_map (state_items links) ss ++ rest) whole),
    )

-- ---- the whole text

abbrev IsSpelled : Network → List Demand → List Fate → List ℕ → Type 0
IsSpelled net demands fates text = (text ≡ failure_list_text net.links demands fates) × SpellsFailures net.links text (able_states net.links fates)

text_spells : (net : Network) (demands : List Demand) (fates : List Fate) (start mid text : List ℕ) → AreFates net demands (length net.links) fates → start ≡ failures_header ++ 10 ∷ []
    → AddsItems start (section (codes "FAILURES") (flat_map (fate_items net.links) fates)) mid → AddsLines mid (flat_map (left_out net.links demands) fates) text → IsSpelled net demands fates text
text_spells net demands fates start mid text are begun items comments =
    let links = net.links in
    let listed = able_states links fates in
    let all : List Item = list_items links (OneByOne listed) in
    let lines = flat_map (left_out links demands) fates in
    let same : section (codes "FAILURES") (flat_map (fate_items links) fates) ≡ all = ap (section (codes "FAILURES")) (items_are links fates) in
    let put : AddsItems start all mid = subst (λ (is : List Item). AddsItems start is mid) same items in
    let body : mid ≡ failures_header ++ 10 ∷ written all = put.text ∙ (ap (λ (t : List ℕ). t ++ written all) begun ∙ append_assoc failures_header (10 ∷ []) (written all)) in
    let whole : text ≡ failure_list_text links demands fates = comments.text ∙ ap (λ (t : List ℕ). t ++ flat_map comment_line lines) body in
    let ends : EndsLine (failures_header ++ 10 ∷ written all) = ends_after failures_header (10 ∷ written all) (ends_after (10 ∷ []) (written all)
    (section_ends (codes "FAILURES") (flat_map (state_items links) listed))) in
    let file : IsFileOf failures_header all (failures_header ++ 10 ∷ written all) = written_is_read failures_header all (record { one = refl; no_blank = refl }) (writable all put.each) in
    let added : AddsLines (failures_header ++ 10 ∷ written all) lines text = subst (λ (t : List ℕ). AddsLines t lines text) body comments in (
      whole,
      (
        OneByOne listed,
        (listing_states net demands listed (listing net demands fates are), All-from_recursion (IsShort links) listed (states_short links listed (Closing ∷ []) put.each.1.1)),
        comments_taken failures_header all (failures_header ++ 10 ∷ written all) text lines ends added file,
        refl,
      ),
    )

-- the text is spelled right where the writer's lists of links and demands equal those of the network and those given
pub text_of_parts : (net : Network) (demands : List Demand) (fates : List Fate) (links others : List Link) (asked : List Demand) (start mid text : List ℕ) → AreFates net demands (length net.links) fates
    → links ≡ net.links → others ≡ net.links → asked ≡ demands → start ≡ failures_header ++ 10 ∷ []
    → AddsItems start (section (codes "FAILURES") (flat_map (fate_items links) fates)) mid → AddsLines mid (flat_map (left_out others asked) fates) text → IsSpelled net demands fates text
text_of_parts net demands fates links others asked start mid text are l o d begun items comments =
    text_spells net demands fates start mid text are begun
    (subst (λ (ls : List Link). AddsItems start (section (codes "FAILURES") (flat_map (fate_items ls) fates)) mid) l items)
    (subst (λ (ls : List Link). AddsLines mid (flat_map (left_out ls demands) fates) text) o
    (subst (λ (ds : List Demand). AddsLines mid (flat_map (left_out others ds) fates) text) d comments))

-- a text of the fates of all links, where the network without a failure is survived
pub failure_list_made : (net : Network) (demands : List Demand) (fates : List Fate) (text : List ℕ) → AreFates net demands (length net.links) fates → IsSurvivable (with_states net demands [])
    → IsSpelled net demands fates text → IsFailureList net demands text
failure_list_made net demands fates text are none spelled = record {
  fates = fates;
  are_fates = are;
  printed = spelled.0;
  spelled = spelled.1;
  survivable = listing_survived net demands (able_states net.links fates) none (listing net demands fates are);
}
