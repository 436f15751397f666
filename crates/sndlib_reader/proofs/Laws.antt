-- What is read of a network file is spelled, and what is spelled is read.
use Rattle.std.proofs.Common.{◌≡◌, ◌≢◌, ℕ, ◌+◌, ◌*◌, ◌^◌, ◌<◌, ◌≤◌, ◌==◌, nat_lt, Bool, true, false, cond, List, [], ◌∷◌, ◌++◌, length, get_or, All, AllPairs, Option, None, Some, Ok, refl, sym, ap, subst, ◌∙◌, arith, append-nil, append_assoc, flat_map, ltb-false}
use Rattle.net_core.{proofs.Library.{sum_by-cons, sum_by-append, sum_by_push}, specs.Terms.{AreDemands, IsDemand, IsLink, IsModule, total_need}, specs.declared.demand.Demand.Demand, specs.declared.ids.NodeId.NodeId, specs.declared.network.Module.Module, specs.declared.places.Places.Places}
use Rattle.text_kit.{specs.Terms.{ComeAfter, AreSpelled, Item, Verbatim, Money, Opening, Closing, word_at, Parenthesis, list_at, no_fault, number_or}, proofs.Lemmas.{all_after, after_all, after_as, after_both, lawful_amount, number_takes, IsNew, are_new, lawful_new_name, lawful_place, new_are, AnyText, Lawful, Starts, after_few, few_after, lawful_as, lawful_close, lawful_give, lawful_list, lawful_open, lawful_then, lawful_word, Spelled, after_parts, parts_after, spelled_as, spelled_give, spelled_law, spelled_list, spelled_then, spelled_word}}
use Rattle.snd_tokens.specs.Terms.{amount_of, units_of}
use Rattle.sndlib_reader.{specs.declared.costs.CostedLink.CostedLink, specs.declared.demand.DemandRest.DemandRest, specs.declared.link.LinkNumbers.LinkNumbers, specs.declared.link.LinkRest.LinkRest, specs.declared.fault.ReadKind.ReadKind, specs.declared.fault.ReadKind.TheVariants.{Token, Ended, Limit, Number, DoubleName, UnknownName, SelfLink, SelfDemand, FixedLink}, specs.Spelling.{IsHops, IsShortLink, SpellsDemand, node_pair_items, link_items, module_items}, specs.Reading.{other_node, amount, unit, capacity, need, hops, ends_at, module_at, unserved, link_numbers_at, link_rest_at, named_link, native_link_at, costed_links_at, demand_rest_at, native_demand_at, native_demands_at}, proofs.WordTests.{IsCapacity, IsNodeIn, capacity_again, capacity_takes, hops_again, hops_takes, need_again, need_takes, other_again, other_takes}}
use Rattle.sndlib_reader.specs.declared.fault.Limited.TheVariants as limits

abbrev pub AreDifferent : List (List ℕ) → Type 0
AreDifferent nodes = AllPairs (λ x y. x ≢ y) nodes

-- ---- ends

-- two different nodes
abbrev pub AreEnds : List (List ℕ) → NodeId → NodeId → Type 0
AreEnds nodes a b = IsNodeIn nodes a.0 × ((a.0 ≢ b.0) × IsNodeIn nodes b.0)

ends_lawful : (kind : ReadKind) (nodes : List (List ℕ)) → AreDifferent nodes → Lawful (ends_at kind nodes) (λ e. node_pair_items nodes e.0 e.1) (λ e. AreEnds nodes e.0 e.1) AnyText
unfolding ends_at
ends_lawful kind nodes pairs = lawful_as (ends_at kind nodes) _ (λ e. node_pair_items nodes e.0 e.1) _ (λ e. AreEnds nodes e.0 e.1) AnyText (λ e h. refl) (λ e h. (h.1.0, h.1.1.0)) (λ e h. (tt, (h.0, (h.1, (tt, refl)))))
    (lawful_then _ _ _ _ _ _ AnyText (λ e. tt) (λ a e h. refl) (lawful_open Token Ended) (λ o.
    lawful_then _ _ _ _ _ _ AnyText (λ e. e.0.0) (λ a e h. ap (λ (x : NodeId × NodeId). x.0.0) h.1.1) (lawful_place (λ n. n) (Limit limits.Name) UnknownName nodes [] Token Ended pairs) (λ a.
    lawful_then _ _ _ _ _ _ AnyText (λ e. e.1.0) (λ b e h. ap (λ (x : NodeId × NodeId). x.1.0) h.1) (lawful_word Token Ended (other_node kind nodes a) (λ b. Verbatim (get_or nodes b [])) (λ b. (a ≢ b) × IsNodeIn nodes b) (λ b. tt) (other_takes nodes kind a) (other_again nodes kind pairs a)) (λ b.
    lawful_then _ _ _ _ _ _ AnyText (λ e. tt) (λ c e h. refl) (lawful_close Token Ended) (λ c.
    lawful_give (record { 0 = a }, record { 0 = b }))))))

-- ---- modules

amount_lawful : (p : Places) → Lawful (word_at Token Ended (amount p)) (λ n. Money p n ∷ []) (λ n. n < 2 ^ 40) AnyText
amount_lawful p = lawful_amount Token Ended Number p

capacity_lawful : (p : Places) (sofar : List Module) → Lawful (word_at Token Ended (capacity p sofar)) (λ n. Money p n ∷ []) (IsCapacity sofar) AnyText
capacity_lawful p sofar = lawful_word Token Ended (capacity p sofar) (λ n. Money p n) (IsCapacity sofar) (λ n. tt) (capacity_takes p sofar) (λ w n is e. capacity_again p sofar w n is e)

module_lawful : (p : Places) (sofar : List Module) → Lawful (module_at p sofar) (module_items p) (λ m. (length sofar < 16) × IsModule m) AnyText
unfolding module_at
module_lawful p sofar = lawful_as (module_at p sofar) _ (module_items p) _ (λ m. (length sofar < 16) × IsModule m) AnyText (λ m h. refl)
    (λ m h. (h.0.0, record { carries = h.0.1; capacity = h.0.2; cost = h.1.0 })) (λ m h. ((h.0, h.1.carries, h.1.capacity), (h.1.cost, refl)))
    (lawful_then _ _ _ _ _ _ AnyText (λ m. m.capacity) (λ c m h. ap (λ (x : Module). x.capacity) h.1) (capacity_lawful p sofar) (λ capacity.
    lawful_then _ _ _ _ _ _ AnyText (λ m. m.cost) (λ c m h. ap (λ (x : Module). x.cost) h) (amount_lawful p) (λ cost.
    lawful_give (record { capacity = capacity; cost = cost }))))

-- modules of a link with this pre-installed capacity
pub record AreModules (fixed : ℕ) (ms : List Module) : Type 0 where
  pub few : length ms ≤ 16
  pub each : All IsModule ms
  pub served : ms ≡ [] → fixed ≡ 0

served_if : (b : Bool) → (let o : Option ReadKind = cond b (Some FixedLink) None in o ≡ None) → b ≡ false
served_if true e = absurd cc
served_if false e = refl

served_takes : (fixed : ℕ) (ms : List Module) → unserved fixed ms ≡ None → ms ≡ [] → fixed ≡ 0
served_takes fixed [] e h = let small = ltb-false 0 fixed (served_if (nat_lt 0 fixed) e) in omega (arith, small)
served_takes fixed (m ∷ ms) e h = absurd cc

has_some : (m : Module) (ms : List Module) → (length (m ∷ ms) == 0) ≡ false
has_some m ms = Rattle.std.proofs.lemmas.Bool.ne_eqb (length (m ∷ ms)) 0 (λ e. omega (arith, e))

served_again : (fixed : ℕ) (ms : List Module) → (ms ≡ [] → fixed ≡ 0) → unserved fixed ms ≡ None
served_again fixed [] h = rw (h refl) refl
served_again fixed (m ∷ ms) h = rw (has_some m ms) refl

modules_lawful : (p : Places) (fixed : ℕ) → Lawful (list_at Parenthesis (unserved fixed) (module_at p) []) (λ ms. flat_map (module_items p) ms ++ Closing ∷ []) (AreModules fixed) AnyText
modules_lawful p fixed = lawful_as (list_at Parenthesis (unserved fixed) (module_at p) []) _ (λ ms. flat_map (module_items p) ms ++ Closing ∷ []) _ (AreModules fixed) AnyText (λ ms h. refl)
    (λ ms h. let f = few_after 16 (λ before m. IsModule m) [] ms (omega arith) h.1 in record { few = f.0; each = after_all IsModule [] ms f.1; served = served_takes fixed ms h.0 })
    (λ ms h. (served_again fixed ms h.served, after_few 16 (λ before m. IsModule m) [] ms h.few (all_after IsModule [] ms h.each)))
    (lawful_list Parenthesis (unserved fixed) (module_at p) (module_items p) (λ sofar m. (length sofar < 16) × IsModule m) (λ m. tt) (module_lawful p))

-- ---- links

-- a link that may come after earlier ones
pub record IsLinkAfter (nodes : List (List ℕ)) (sofar : List CostedLink) (l : CostedLink) : Type 0 where
  pub new : IsNew (λ x. x.link.name) 256 sofar l.link.name
  pub ends : AreEnds nodes l.link.a l.link.b
  pub fixed : l.link.fixed < 2 ^ 40
  pub fixed_cost : l.fixed_cost < 2 ^ 40
  pub routing_cost : l.routing_cost < 2 ^ 40
  pub setup : l.link.setup < 2 ^ 40
  pub modules : AreModules l.link.fixed l.link.modules

-- its numbers
pub record AreLinkNumbers (n : LinkNumbers) : Type 0 where
  pub fixed : n.fixed < 2 ^ 40
  pub fixed_cost : n.fixed_cost < 2 ^ 40
  pub routing_cost : n.routing_cost < 2 ^ 40
  pub setup : n.setup < 2 ^ 40

numbers_items : Places → LinkNumbers → List Item
numbers_items p n = Money p n.fixed ∷ Money p n.fixed_cost ∷ Money p n.routing_cost ∷ Money p n.setup ∷ []

numbers_lawful : (p : Places) → Lawful (link_numbers_at p) (numbers_items p) AreLinkNumbers AnyText
unfolding link_numbers_at numbers_items
numbers_lawful p = lawful_as (link_numbers_at p) _ (numbers_items p) _ AreLinkNumbers AnyText (λ n h. refl)
    (λ n h. record { fixed = h.0; fixed_cost = h.1.0; routing_cost = h.1.1.0; setup = h.1.1.1.0 })
    (λ n h. (h.fixed, (h.fixed_cost, (h.routing_cost, (h.setup, refl)))))
    (lawful_then _ _ _ _ _ _ AnyText (λ n. n.fixed) (λ a n h. ap (λ (x : LinkNumbers). x.fixed) h.1.1.1) (amount_lawful p) (λ fixed.
    lawful_then _ _ _ _ _ _ AnyText (λ n. n.fixed_cost) (λ a n h. ap (λ (x : LinkNumbers). x.fixed_cost) h.1.1) (amount_lawful p) (λ fixed_cost.
    lawful_then _ _ _ _ _ _ AnyText (λ n. n.routing_cost) (λ a n h. ap (λ (x : LinkNumbers). x.routing_cost) h.1) (amount_lawful p) (λ routing_cost.
    lawful_then _ _ _ _ _ _ AnyText (λ n. n.setup) (λ a n h. ap (λ (x : LinkNumbers). x.setup) h) (amount_lawful p) (λ setup.
    lawful_give (record { fixed = fixed; fixed_cost = fixed_cost; routing_cost = routing_cost; setup = setup }))))))

-- what it has after its name
pub record IsLinkRest (nodes : List (List ℕ)) (r : LinkRest) : Type 0 where
  pub ends : AreEnds nodes r.a r.b
  pub numbers : AreLinkNumbers r.numbers
  pub modules : AreModules r.numbers.fixed r.modules

rest_items : Places → List (List ℕ) → LinkRest → List Item
rest_items p nodes r = node_pair_items nodes r.a r.b ++ (numbers_items p r.numbers ++ Opening ∷ (flat_map (module_items p) r.modules ++ Closing ∷ []))

rest_of : CostedLink → LinkRest
rest_of l = record { a = l.link.a; b = l.link.b; numbers = record { fixed = l.link.fixed; fixed_cost = l.fixed_cost; routing_cost = l.routing_cost; setup = l.link.setup }; modules = l.link.modules }

rest_lawful : (p : Places) (nodes : List (List ℕ)) → AreDifferent nodes → Lawful (link_rest_at p nodes) (rest_items p nodes) (IsLinkRest nodes) AnyText
unfolding link_rest_at rest_items
rest_lawful p nodes pairs = lawful_as (link_rest_at p nodes) _ (rest_items p nodes) _ (IsLinkRest nodes) AnyText
    (λ r h. ap (λ (is : List Item). node_pair_items nodes r.a r.b ++ (numbers_items p r.numbers ++ Opening ∷ is)) (append-nil (flat_map (module_items p) r.modules ++ Closing ∷ [])))
    (λ r h. record { ends = h.0; numbers = h.1.0; modules = h.1.1.1.0 })
    (λ r h. (h.ends, (h.numbers, (tt, (h.modules, refl)))))
    (lawful_then _ _ _ _ _ _ AnyText (λ r. (r.a, r.b)) (λ a r h. ap (λ (x : LinkRest). (x.a, x.b)) h.1.1.1) (ends_lawful SelfLink nodes pairs) (λ ends.
    lawful_then _ _ _ _ _ _ AnyText (λ r. r.numbers) (λ a r h. ap (λ (x : LinkRest). x.numbers) h.1.1) (numbers_lawful p) (λ numbers.
    lawful_then _ _ _ _ _ _ AnyText (λ r. tt) (λ a r h. refl) (lawful_open Token Ended) (λ o.
    lawful_then _ _ _ _ _ _ AnyText (λ r. r.modules) (λ a r h. ap (λ (x : LinkRest). x.modules) h) (modules_lawful p numbers.fixed) (λ modules.
    lawful_give (record { a = ends.0; b = ends.1; numbers = numbers; modules = modules }))))))

link_lawful : (p : Places) (nodes : List (List ℕ)) → AreDifferent nodes → (sofar : List CostedLink) → Lawful (native_link_at p nodes sofar) (link_items p nodes) (IsLinkAfter nodes sofar) AnyText
unfolding native_link_at rest_items numbers_items rest_of
link_lawful p nodes pairs sofar = lawful_as (native_link_at p nodes sofar) _ (link_items p nodes) _ (IsLinkAfter nodes sofar) AnyText
    (λ l h. ap (λ (is : List Item). Verbatim l.link.name ∷ is) (append-nil (rest_items p nodes (rest_of l))))
    (λ l h. let r = h.1.0 in record { new = h.0; ends = r.ends; fixed = r.numbers.fixed; fixed_cost = r.numbers.fixed_cost; routing_cost = r.numbers.routing_cost; setup = r.numbers.setup; modules = r.modules })
    (λ l h. (h.new, (record { ends = h.ends; numbers = record { fixed = h.fixed; fixed_cost = h.fixed_cost; routing_cost = h.routing_cost; setup = h.setup }; modules = h.modules }, refl)))
    (lawful_then _ _ _ _ _ _ AnyText (λ l. l.link.name) (λ a l h. ap (λ (x : CostedLink). x.link.name) h.1) (lawful_new_name (λ x. x.link.name) 256 (Limit limits.Name) DoubleName (Limit limits.Links) Token Ended sofar) (λ name.
    lawful_then _ _ _ _ _ _ AnyText rest_of (λ a l h. ap rest_of h) (rest_lawful p nodes pairs) (λ rest.
    lawful_give (named_link name rest))))

pub links_lawful : (p : Places) (nodes : List (List ℕ)) → AreDifferent nodes → Lawful (costed_links_at p nodes []) (λ ls. flat_map (link_items p nodes) ls ++ Closing ∷ []) (λ ls. ComeAfter (IsLinkAfter nodes) [] ls) AnyText
links_lawful p nodes pairs = lawful_as (costed_links_at p nodes []) _ (λ ls. flat_map (link_items p nodes) ls ++ Closing ∷ []) _ (λ ls. ComeAfter (IsLinkAfter nodes) [] ls) AnyText (λ ls h. refl) (λ ls h. h.1) (λ ls h. (refl, h))
    (lawful_list Parenthesis no_fault (native_link_at p nodes) (link_items p nodes) (IsLinkAfter nodes) (λ l. tt) (link_lawful p nodes pairs))

-- all links together
pub record AreLinks (nodes : List (List ℕ)) (links : List CostedLink) : Type 0 where
  pub few : length links ≤ 256
  pub different : AllPairs (λ x y. x.link.name ≢ y.link.name) links
  pub sound : All (λ l. IsLink (length nodes) l.link) links
  pub short : All IsShortLink links

pub are_links : (nodes : List (List ℕ)) (links : List CostedLink) → ComeAfter (IsLinkAfter nodes) [] links → AreLinks nodes links
are_links nodes links all =
    let new = are_new (λ (x : CostedLink). x.link.name) 256 links (after_as (IsLinkAfter nodes) (λ before l. IsNew (λ x. x.link.name) 256 before l.link.name) [] links (λ before l h. h.new) all) in
    record {
      few = new.0;
      different = new.1;
      sound = after_all (λ (l : CostedLink). IsLink (length nodes) l.link) [] links (after_as (IsLinkAfter nodes) (λ before l. IsLink (length nodes) l.link) [] links (λ before l h. record { from = h.ends.0.0; to = h.ends.1.1.0; different = h.ends.1.0; fixed = h.fixed; setup = h.setup; few = h.modules.few; each = h.modules.each; served = h.modules.served }) all);
      short = after_all IsShortLink [] links (after_as (IsLinkAfter nodes) (λ before l. IsShortLink l) [] links (λ before l h. record { name = h.new.2; fixed_cost = h.fixed_cost; routing_cost = h.routing_cost }) all);
    }

pub links_are : (nodes : List (List ℕ)) (links : List CostedLink) → All (λ n. length n ≤ 255) nodes → AreLinks nodes links → ComeAfter (IsLinkAfter nodes) [] links
links_are nodes links short are =
    after_as _ (IsLinkAfter nodes) [] links
    (λ before l h.
    let s = h.1 in
    let link = s.0 in
    let costs = s.1 in
    record { new = h.0; ends = ((link.from, short l.link.a.0 [] link.from), (link.different, (link.to, short l.link.b.0 [] link.to))); fixed = link.fixed; fixed_cost = costs.fixed_cost; routing_cost = costs.routing_cost; setup = link.setup; modules = record { few = link.few; each = link.each; served = link.served } })
    (after_both (λ before l. IsNew (λ x. x.link.name) 256 before l.link.name) (λ before (l : CostedLink). IsLink (length nodes) l.link × IsShortLink l) [] links
    (new_are (λ (x : CostedLink). x.link.name) 256 links are.few are.different (λ k d lt. (are.short k d lt).name))
    (all_after (λ (l : CostedLink). IsLink (length nodes) l.link × IsShortLink l) [] links (λ k d lt. (are.sound k d lt, are.short k d lt))))

-- ---- demands

-- a demand that may come after earlier ones
pub record IsDemandAfter (nodes : List (List ℕ)) (sofar : List Demand) (d : Demand) : Type 0 where
  pub new : IsNew (λ x. x.name) 2048 sofar d.name
  pub ends : AreEnds nodes d.from d.to
  pub need : d.need < 2 ^ 40
  pub below : total_need sofar + d.need < 2 ^ 44

-- how what a demand has after its name is spelled
pub record SpellsRest (p : Places) (nodes : List (List ℕ)) (before : ℕ) (r : DemandRest) (items : List Item) : Type 0 where
  pub ends : AreEnds nodes r.from r.to
  pub need : r.need < 2 ^ 40
  pub below : before + r.need < 2 ^ 44
  pub unit : List ℕ
  pub amount : List ℕ
  pub hops : List ℕ
  pub units : ℕ
  pub each : ℕ
  pub items_are : items ≡ node_pair_items nodes r.from r.to ++ Verbatim unit ∷ Verbatim amount ∷ Verbatim hops ∷ []
  pub unit_is : units_of p unit ≡ Ok units
  pub amount_is : amount_of p amount ≡ Ok each
  pub need_is : r.need ≡ units * each
  pub hops_are : IsHops hops

joined : (is j2 k2 j3 k3 j4 k4 j5 k5 ends : List Item) (u a h : List ℕ) → is ≡ j2 ++ k2 → j2 ≡ ends → k2 ≡ j3 ++ k3 → j3 ≡ Verbatim u ∷ [] → k3 ≡ j4 ++ k4 → j4 ≡ Verbatim a ∷ [] → k4 ≡ j5 ++ k5 → j5 ≡ Verbatim h ∷ [] → k5 ≡ []
    → is ≡ ends ++ Verbatim u ∷ Verbatim a ∷ Verbatim h ∷ []
joined is j2 k2 j3 k3 j4 k4 j5 k5 ends u a h e3 e4 e5 e6 e7 e8 e9 e10 e11 = rw (e3, e4, e5, e6, e7, e8, e9, e10, e11) refl

rest_spelled : (p : Places) (nodes : List (List ℕ)) → AreDifferent nodes → (before : ℕ) → Spelled (demand_rest_at p nodes before) (SpellsRest p nodes before) AnyText
unfolding demand_rest_at
rest_spelled p nodes pairs before = spelled_as (demand_rest_at p nodes before) _ (SpellsRest p nodes before) AnyText
    (λ r is e.
    let u = e.4 in
    let n = u.4 in
    let h = n.4 in
    let needed = need_takes p before u.0 n.3.0 n.0 n.3.1 in
    subst (λ (x : DemandRest). SpellsRest p nodes before x is) h.4.0 (record {
      ends = e.3.0;
      need = needed.small;
      below = needed.below;
      unit = u.3.0;
      amount = n.3.0;
      hops = h.3.0;
      units = u.0;
      each = needed.each;
      items_are = joined is e.1 e.2 u.1 u.2 n.1 n.2 h.1 h.2 (node_pair_items nodes e.0.0 e.0.1) u.3.0 n.3.0 h.3.0 e.5 e.3.1 u.5 u.3.2 n.5 n.3.2 h.5 h.3.2 h.4.1;
      unit_is = number_takes Number (units_of p u.3.0) u.0 u.3.1;
      amount_is = needed.amount_is;
      need_is = needed.need_is;
      hops_are = hops_takes h.3.0 h.0 h.3.1;
    }))
    (λ r is t. (
      (r.from, r.to),
      node_pair_items nodes r.from r.to,
      Verbatim t.unit ∷ Verbatim t.amount ∷ Verbatim t.hops ∷ [],
      (t.ends, refl),
      (
        t.units,
        Verbatim t.unit ∷ [],
        Verbatim t.amount ∷ Verbatim t.hops ∷ [],
        (t.unit, ap (number_or Number) t.unit_is, refl),
        (
          r.need,
          Verbatim t.amount ∷ [],
          Verbatim t.hops ∷ [],
          (t.amount, need_again p before t.units t.amount t.each r.need t.amount_is t.need_is t.need t.below, refl),
          (
            tt,
            Verbatim t.hops ∷ [],
            [],
            (t.hops, hops_again t.hops t.hops_are, refl),
            (refl, refl),
            refl,
          ),
          refl,
        ),
        refl,
      ),
      t.items_are,
    ))
    (spelled_then _ _ _ _ AnyText (spelled_law (ends_at SelfDemand nodes) _ _ AnyText (ends_lawful SelfDemand nodes pairs)) (λ ends js s.
    spelled_then _ _ _ _ AnyText (spelled_word Token Ended (unit p)) (λ units js s.
    spelled_then _ _ _ _ AnyText (spelled_word Token Ended (need p before units)) (λ needed js s.
    spelled_then _ _ _ _ AnyText (spelled_word Token Ended hops) (λ h js s.
    spelled_give _)))))

after_name : (is js ks j2 k2 rest : List Item) (n : List ℕ) → is ≡ js ++ ks → js ≡ Verbatim n ∷ [] → ks ≡ j2 ++ k2 → j2 ≡ rest → k2 ≡ [] → is ≡ Verbatim n ∷ rest
after_name is js ks j2 k2 rest n e1 e2 e3 e4 e5 = rw (e1, e2, e3, e4, e5) (ap (λ (xs : List Item). Verbatim n ∷ xs) (append-nil rest))

demand_spelled : (p : Places) (nodes : List (List ℕ)) → AreDifferent nodes → (sofar : List Demand) → Spelled (native_demand_at p nodes sofar) (λ d is. IsDemandAfter nodes sofar d × SpellsDemand p nodes d is) AnyText
unfolding native_demand_at
demand_spelled p nodes pairs sofar = spelled_as (native_demand_at p nodes sofar) _ (λ d is. IsDemandAfter nodes sofar d × SpellsDemand p nodes d is) AnyText
    (λ d is s.
    let r = s.4 in
    let t = r.3 in
    subst (λ (x : Demand). IsDemandAfter nodes sofar x × SpellsDemand p nodes x is) r.4.0 (
      record { new = s.3.0; ends = t.ends; need = t.need; below = t.below },
      record {
        unit = t.unit;
        amount = t.amount;
        hops = t.hops;
        units = t.units;
        each = t.each;
        short = s.3.0.2;
        items_are = after_name is s.1 s.2 r.1 r.2 (node_pair_items nodes r.0.from r.0.to ++ Verbatim t.unit ∷ Verbatim t.amount ∷ Verbatim t.hops ∷ []) s.0 s.5 s.3.1 r.5 t.items_are r.4.1;
        unit_is = t.unit_is;
        amount_is = t.amount_is;
        need_is = t.need_is;
        hops_are = t.hops_are;
      },
    ))
    (λ d is s.
    let t = s.1 in
    let b = s.0 in
    let rest : List Item = node_pair_items nodes d.from d.to ++ Verbatim t.unit ∷ Verbatim t.amount ∷ Verbatim t.hops ∷ [] in (
      d.name,
      Verbatim d.name ∷ [],
      rest,
      (b.new, refl),
      (
        record { from = d.from; to = d.to; need = d.need },
        rest,
        [],
        record {
          ends = b.ends;
          need = b.need;
          below = b.below;
          unit = t.unit;
          amount = t.amount;
          hops = t.hops;
          units = t.units;
          each = t.each;
          items_are = refl;
          unit_is = t.unit_is;
          amount_is = t.amount_is;
          need_is = t.need_is;
          hops_are = t.hops_are;
        },
        (refl, refl),
        sym (append-nil rest),
      ),
      t.items_are,
    ))
    (spelled_then _ _ _ _ AnyText (spelled_law _ _ _ AnyText (lawful_new_name (λ x. x.name) 2048 (Limit limits.Name) DoubleName (Limit limits.Demands) Token Ended sofar)) (λ name js s.
    spelled_then _ _ _ _ AnyText (rest_spelled p nodes pairs (total_need sofar)) (λ rest js s.
    spelled_give _)))

demand_starts : (p : Places) (nodes : List (List ℕ)) (sofar : List Demand) (d : Demand) (is : List Item) → IsDemandAfter nodes sofar d × SpellsDemand p nodes d is → Starts is
demand_starts p nodes sofar d is s = let t = s.1 in subst Starts (sym t.items_are) tt

pub demands_spelled : (p : Places) (nodes : List (List ℕ)) → AreDifferent nodes → Spelled (native_demands_at p nodes []) (λ ds is. (js : List Item) × ComeAfter (IsDemandAfter nodes) [] ds × AreSpelled (SpellsDemand p nodes) ds js × (is ≡ js ++ Closing ∷ [])) AnyText
demands_spelled p nodes pairs = spelled_as (native_demands_at p nodes []) _ _ AnyText
    (λ ds is s. let both = after_parts (IsDemandAfter nodes) (SpellsDemand p nodes) [] ds s.1.0 s.1.1 in (s.1.0, both.0, both.1, s.1.2))
    (λ ds is s. (refl, (s.0, parts_after (IsDemandAfter nodes) (SpellsDemand p nodes) [] ds s.0 s.1 s.2, s.3)))
    (spelled_list no_fault (native_demand_at p nodes) (λ sofar d is. IsDemandAfter nodes sofar d × SpellsDemand p nodes d is) (demand_starts p nodes) (demand_spelled p nodes pairs))

-- the need of all, one by one
total_below : (sofar ds : List Demand) → total_need sofar < 2 ^ 44 → ComeAfter (λ before d. total_need before + d.need < 2 ^ 44) sofar ds → total_need (sofar ++ ds) < 2 ^ 44
total_below sofar [] small all = subst (λ (xs : List Demand). total_need xs < 2 ^ 44) (sym (append-nil sofar)) small
total_below sofar (d ∷ ds) small all =
    subst (λ (xs : List Demand). total_need xs < 2 ^ 44) (append_assoc sofar (d ∷ []) ds)
    (total_below (sofar ++ d ∷ []) ds (subst (λ (k : ℕ). k < 2 ^ 44) (sym (sum_by_push (λ x. x.need) sofar d)) all.0) all.1)

below_total : (sofar ds : List Demand) → total_need (sofar ++ ds) < 2 ^ 44 → ComeAfter (λ before d. total_need before + d.need < 2 ^ 44) sofar ds
below_total sofar [] small = tt
below_total sofar (d ∷ ds) small =
    let sum : total_need (sofar ++ d ∷ ds) ≡ total_need sofar + (d.need + total_need ds) = sum_by-append (λ x. x.need) sofar (d ∷ ds) ∙ ap (λ (k : ℕ). total_need sofar + k) (sum_by-cons (λ x. x.need) d ds) in
    (omega (arith, sum, small), below_total (sofar ++ d ∷ []) ds (subst (λ (xs : List Demand). total_need xs < 2 ^ 44) (sym (append_assoc sofar (d ∷ []) ds)) small))

pub are_demands : (nodes : List (List ℕ)) (ds : List Demand) → ComeAfter (IsDemandAfter nodes) [] ds → AreDemands (length nodes) ds
are_demands nodes ds all =
    let new = are_new (λ (x : Demand). x.name) 2048 ds (after_as (IsDemandAfter nodes) (λ before d. IsNew (λ x. x.name) 2048 before d.name) [] ds (λ before d h. h.new) all) in
    record {
      few = new.0;
      different = new.1;
      each = after_all (IsDemand (length nodes)) [] ds (after_as (IsDemandAfter nodes) (λ before d. IsDemand (length nodes) d) [] ds (λ before d h. record { from_known = h.ends.0.0; to_known = h.ends.1.1.0; different = h.ends.1.0; need = h.need }) all);
      total = total_below [] ds (omega arith) (after_as (IsDemandAfter nodes) (λ before d. total_need before + d.need < 2 ^ 44) [] ds (λ before d h. h.below) all);
    }

spelled_short : (p : Places) (nodes : List (List ℕ)) (ds : List Demand) (is : List Item) → AreSpelled (SpellsDemand p nodes) ds is → (sofar : List Demand) → ComeAfter (λ before d. length d.name ≤ 255) sofar ds
spelled_short p nodes [] is s sofar = tt
spelled_short p nodes (d ∷ ds) is s sofar = let t = s.2 in (t.short, spelled_short p nodes ds s.1 s.3 (sofar ++ d ∷ []))

pub demands_are : (p : Places) (nodes : List (List ℕ)) (ds : List Demand) (is : List Item) → All (λ n. length n ≤ 255) nodes → AreDemands (length nodes) ds → AreSpelled (SpellsDemand p nodes) ds is → ComeAfter (IsDemandAfter nodes) [] ds
demands_are p nodes ds is short are spelled =
    after_as _ (IsDemandAfter nodes) [] ds
    (λ before d h.
    let one = h.1.1 in
    record { new = h.0; ends = ((one.from_known, short d.from.0 [] one.from_known), (one.different, (one.to_known, short d.to.0 [] one.to_known))); need = one.need; below = h.1.0 })
    (after_both (λ before d. IsNew (λ x. x.name) 2048 before d.name) (λ before d. (total_need before + d.need < 2 ^ 44) × IsDemand (length nodes) d) [] ds
    (new_are (λ (x : Demand). x.name) 2048 ds are.few are.different (after_all (λ (d : Demand). length d.name ≤ 255) [] ds (spelled_short p nodes ds is spelled [])))
    (after_both (λ before d. total_need before + d.need < 2 ^ 44) (λ before d. IsDemand (length nodes) d) [] ds (below_total [] ds are.total) (all_after (IsDemand (length nodes)) [] ds are.each)))
