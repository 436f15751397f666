-- Which words say a number, an amount or a name of a report.
use Rattle.std.proofs.Common.{◌≡◌, ◌≢◌, ℕ, ◌+◌, ◌^◌, ◌<◌, ◌≤◌, ◌&&◌, Bool, true, false, cond, nat_le, nat_lt, List, [], ◌∷◌, length, get_or, AllPairs, Result, Ok, Err, refl, sym, ap, subst, ◌∙◌, arith, position, leb-true, le-leb, ltb-true, ltb-false, lt-ltb, le-ltb}
use Rattle.net_core.{proofs.Library.{position_or_len, and_parts, position-Some, position_or_len_is, slice_get-get_or, differ, same_is}, specs.Terms.{are_same, is_named}, specs.declared.demand.Demand.Demand, specs.declared.ids.LinkId.LinkId, specs.declared.ids.NodeId.NodeId, specs.declared.network.Link.Link, specs.declared.places.Places.Places}
use Rattle.snd_tokens.{specs.declared.amounts.NumberFault.NumberFault, specs.declared.whole_number.WholeFault.WholeFault, specs.declared.whole_number.WholeFault.TheVariants.{NotANumber, TooLarge}, specs.Terms.{money_of, Text, WordAt, OpenAt, CloseAt, EndAt, whole_of}}
use Rattle.text_kit.{specs.Terms.{Verbatim, Whole, Money, Opening, Closing, Begins, number_or, expected, word_at}, proofs.Lemmas.{lawful_amount, number_takes, is_same, lawful_close, lawful_key, lawful_open, lawful_word, key_if, lawful_any_name, found_takes, ok_parts, if_ok, ok_is, unless_ok}, proofs.Beginnings.AnyText, proofs.Spelled.Lawful}
use Rattle.plan_report.specs.Terms.{demand_name, link_name, node_name}
use Rattle.report_words.{specs.declared.fault.ReportKind.ReportKind, specs.declared.fault.ReportKind.TheVariants.{Token, Ended, Number, LimitName, DoubleName, Limit}, specs.ReportWords.{amount_at, as_link, as_node, below, closing_at, demand_at, demand_of, demand_within, has_room, keyword_at, keyword_within, link_at, link_of, money_at, money_below, name_at, new_demand, node_at, node_of_word, number_at, opening_at, opening_within, passed, place_named, this_name, this_name_at, this_number, this_number_at, unknown_name, where_room, whole_within, within}}

-- ---- room

pub room_takes : {X : Type 0} (room : Bool) (q : Result X ReportKind) (x : X) → where_room room q ≡ Ok x → (room ≡ true) × (q ≡ Ok x)
room_takes room (Ok y) x e = if_ok room Limit (Ok y) x e
room_takes room (Err kind) x e = absurd cc

pub room_again : {X : Type 0} (room : Bool) (q : Result X ReportKind) (x : X) → room ≡ true → q ≡ Ok x → where_room room q ≡ Ok x
room_again room q x m e = rw (e, m) refl

pub few_so_far : {X : Type 0} (n : ℕ) (sofar : List X) → has_room n sofar ≡ true → length sofar < n
few_so_far n sofar e = ltb-true (length sofar) n e

pub room_so_far : {X : Type 0} (n : ℕ) (sofar : List X) → length sofar < n → has_room n sofar ≡ true
room_so_far n sofar lt = lt-ltb (length sofar) n lt

-- ---- parentheses and words that are next

pub opening_law : Lawful opening_at (λ x. Opening ∷ []) (λ x. Unit {0}) AnyText
opening_law = lawful_open Token Ended

pub closing_law : Lawful closing_at (λ x. Closing ∷ []) (λ x. Unit {0}) AnyText
closing_law = lawful_close Token Ended

pub keyword_law : (w : List ℕ) → Lawful (keyword_at w) (λ x. Verbatim w ∷ []) (λ x. Unit {0}) AnyText
keyword_law w = lawful_key Token Ended Token w

pub keyword_within_law : (room : Bool) (w : List ℕ) → Lawful (keyword_within room w) (λ x. Verbatim w ∷ []) (λ x. room ≡ true) AnyText
keyword_within_law room w = lawful_word Token Ended (λ v. where_room room (expected Token w v)) (λ x. Verbatim w) (λ x. room ≡ true) (λ x. tt)
    (λ v x e. let t = room_takes room (expected Token w v) x e in (t.0, same_is v w (key_if Token (are_same v w) x t.1)))
    (λ v x m same. room_again room (expected Token w v) x m (ap (expected Token w) same ∙ rw (is_same w) refl))

pub this_name_law : (name : List ℕ) → Lawful (this_name_at name) (λ x. Verbatim name ∷ []) (λ x. Unit {0}) AnyText
this_name_law name = lawful_word Token Ended (this_name name) (λ x. Verbatim name) (λ x. Unit {0}) (λ x. tt)
    (λ v x e. (tt, same_is v name (key_if (unknown_name v) (are_same v name) x e)))
    (λ v x is same. ap (this_name name) same ∙ rw (is_same name) refl)

opened : (room : Bool) (at : ℕ) (t : Text) (x : Unit {0}) (rest : Text) → opening_within room (OpenAt at t) ≡ Ok (x, rest) → (room ≡ true) × (t ≡ rest)
opened true at t x rest e = (refl, (ok_parts {K = ReportKind} tt x t rest e).1)
opened false at t x rest e = absurd cc

opening_takes : (room : Bool) (text : Text) (x : Unit {0}) (rest : Text) → opening_within room text ≡ Ok (x, rest) → (room ≡ true) × Begins (Opening ∷ []) text rest × AnyText rest
opening_takes room (WordAt at w t) x rest e = absurd cc
opening_takes room (OpenAt at t) x rest e = let o = opened room at t x rest e in (o.0, (refl, o.1), tt)
opening_takes room (CloseAt at t) x rest e = absurd cc
opening_takes room (EndAt at) x rest e = absurd cc

opening_again : (room : Bool) (text rest : Text) → room ≡ true → Begins (Opening ∷ []) text rest → opening_within room text ≡ Ok (tt, rest)
opening_again room (WordAt at w t) rest m b = absurd b.0
opening_again room (OpenAt at t) rest m b = rw m (ap (λ (u : Text). Ok (tt, u)) b.1)
opening_again room (CloseAt at t) rest m b = absurd (let e : Opening ≡ Closing = b.0 in cc)
opening_again room (EndAt at) rest m b = absurd b

pub opening_within_law : (room : Bool) → Lawful (opening_within room) (λ x. Opening ∷ []) (λ x. room ≡ true) AnyText
opening_within_law room = record { takes = opening_takes room; again = λ text x rest m b left. opening_again room text rest m b }

-- ---- numbers

within_takes : (least limit : ℕ) (r : Result ℕ WholeFault) (n : ℕ) → within least limit r ≡ Ok n → ((least ≤ n) × (n < limit)) × (r ≡ Ok n)
within_takes least limit (Ok k) n e =
    let a = room_takes (nat_le least k && nat_lt k limit) (Ok k) n e in
    let b = and_parts (nat_le least k) (nat_lt k limit) a.0 in
    let is : k ≡ n = ok_is {E = ReportKind} k n a.1 in
    (subst (λ (i : ℕ). (least ≤ i) × (i < limit)) is (leb-true least k b.0, ltb-true k limit b.1), ap (λ (i : ℕ). Ok i) is)
within_takes least limit (Err NotANumber) n e = absurd cc
within_takes least limit (Err TooLarge) n e = absurd cc

pub whole_takes : (least limit : ℕ) (w : List ℕ) (n : ℕ) → whole_within least limit w ≡ Ok n → ((least ≤ n) × (n < limit)) × (whole_of w ≡ Ok n)
whole_takes least limit w n e = within_takes least limit (whole_of w) n e

pub whole_again : (least limit : ℕ) (w : List ℕ) (n : ℕ) → (least ≤ n) × (n < limit) → whole_of w ≡ Ok n → whole_within least limit w ≡ Ok n
whole_again least limit w n is same = ap (within least limit) same ∙ rw (le-leb least n is.0, lt-ltb n limit is.1) refl

pub number_law : (least limit : ℕ) → Lawful (number_at least limit) (λ n. Whole n ∷ []) (λ n. (least ≤ n) × (n < limit)) AnyText
number_law least limit = lawful_word Token Ended (whole_within least limit) (λ n. Whole n) (λ n. (least ≤ n) × (n < limit)) (λ n. tt) (whole_takes least limit) (λ w n is same. whole_again least limit w n is same)

pub number_within_law : (room : Bool) (least limit : ℕ) → Lawful (word_at Token Ended (λ w. where_room room (whole_within least limit w))) (λ n. Whole n ∷ []) (λ n. (room ≡ true) × ((least ≤ n) × (n < limit))) AnyText
number_within_law room least limit = lawful_word Token Ended (λ w. where_room room (whole_within least limit w)) (λ n. Whole n) (λ n. (room ≡ true) × ((least ≤ n) × (n < limit))) (λ n. tt)
    (λ w n e. let t = room_takes room (whole_within least limit w) n e in let h = whole_takes least limit w n t.1 in ((t.0, h.0), h.1))
    (λ w n is same. room_again room (whole_within least limit w) n is.0 (whole_again least limit w n is.1 same))

passed_takes : {X : Type 0} (q : Result X ReportKind) (x : Unit {0}) → passed q ≡ Ok x → (y : X) × (q ≡ Ok y)
passed_takes (Ok y) x e = (y, refl)
passed_takes (Err kind) x e = absurd cc

pub this_number_law : (n : ℕ) → Lawful (this_number_at n) (λ x. Whole n ∷ []) (λ x. Unit {0}) AnyText
this_number_law n = lawful_word Token Ended (this_number n) (λ x. Whole n) (λ x. Unit {0}) (λ x. tt)
    (λ w x e.
    let p = passed_takes (whole_within n (n + 1) w) x e in
    let h = whole_takes n (n + 1) w p.0 p.1 in
    let is : p.0 ≡ n = omega (arith, h.0.0, h.0.1) in
    (tt, subst (λ (i : ℕ). whole_of w ≡ Ok i) is h.1))
    (λ w x is same. ap passed (whole_again n (n + 1) w n (omega arith, omega arith) same))

below_takes : (limit : ℕ) (q : Result ℕ ReportKind) (n : ℕ) → below limit q ≡ Ok n → (n < limit) × (q ≡ Ok n)
below_takes limit (Ok k) n e =
    let a = room_takes (nat_lt k limit) (Ok k) n e in
    (subst (λ (i : ℕ). i < limit) (ok_is {E = ReportKind} k n a.1) (ltb-true k limit a.0), a.1)
below_takes limit (Err kind) n e = absurd cc

pub money_law : (p : Places) (limit : ℕ) → Lawful (money_at p limit) (λ n. Money p n ∷ []) (λ n. n < limit) AnyText
money_law p limit = lawful_word Token Ended (money_below p limit) (λ n. Money p n) (λ n. n < limit) (λ n. tt)
    (λ w n e. let t = below_takes limit (number_or Number (money_of p w)) n e in (t.0, number_takes Number (money_of p w) n t.1))
    (λ w n is same. ap (λ (q : Result ℕ NumberFault). below limit (number_or Number q)) same ∙ rw (lt-ltb n limit is) refl)

pub amount_law : (p : Places) → Lawful (amount_at p) (λ n. Money p n ∷ []) (λ n. n < 2 ^ 40) AnyText
amount_law p = lawful_amount Token Ended Number p

-- ---- names

pub name_law : Lawful name_at (λ n. Verbatim n ∷ []) (λ n. length n ≤ 255) AnyText
name_law = lawful_any_name Token Ended LimitName

-- a place of a name, where all names are different
module _ {X : Type 0} (name_of : X → List ℕ) (xs : List X) (d : X) where
  pub place_takes : (w : List ℕ) (i : ℕ) → place_named name_of xs w ≡ Ok i → (i < length xs) × (w ≡ name_of (get_or xs i d))
  place_takes w i e =
      let p = position-Some (λ x. are_same (name_of x) w) xs i d (found_takes (unknown_name w) (position (λ x. are_same (name_of x) w) xs) i e) in
      (p.0, sym (same_is (name_of (get_or xs i d)) w p.1))

  pub place_again : AllPairs (λ x y. name_of x ≢ name_of y) xs → (w : List ℕ) (i : ℕ) → i < length xs → w ≡ name_of (get_or xs i d) → place_named name_of xs w ≡ Ok i
  place_again pairs w i lt same =
      let name = name_of (get_or xs i d) in
      let first : position_or_len (λ x. are_same (name_of x) name) xs ≡ i =
      position_or_len_is (λ x. are_same (name_of x) name) xs i d (omega (arith, lt))
      (λ k under. differ (name_of (get_or xs k d)) name (λ equal. pairs k i d under lt equal))
      (λ under. is_same name) in
      ap (place_named name_of xs) same ∙ rw (first, lt-ltb i (length xs) lt) refl

abbrev no_link : Link
no_link = record { name = []; a = record { 0 = 0 }; b = record { 0 = 0 }; fixed = 0; setup = 0; modules = [] }

link_name_at : (links : List Link) (e : LinkId) → e.0 < length links → link_name links e ≡ (get_or links e.0 no_link).name
link_name_at links e lt = rw (slice_get-get_or links e.0 no_link lt) refl

as_link_takes : (q : Result ℕ ReportKind) (e : LinkId) → as_link q ≡ Ok e → q ≡ Ok e.0
as_link_takes (Ok i) e h = ap (λ (x : LinkId). Ok x.0) (ok_is {E = ReportKind} (record { 0 = i }) e h)
as_link_takes (Err kind) e h = absurd cc

pub link_law : (links : List Link) → AllPairs (λ x y. x.name ≢ y.name) links → Lawful (link_at links) (λ e. Verbatim (link_name links e) ∷ []) (λ e. e.0 < length links) AnyText
link_law links pairs = lawful_word Token Ended (link_of links) (λ e. Verbatim (link_name links e)) (λ e. e.0 < length links) (λ e. tt)
    (λ w e h.
    let t = place_takes (λ (l : Link). l.name) links no_link w e.0 (as_link_takes (place_named (λ l. l.name) links w) e h) in
    (t.0, t.1 ∙ sym (link_name_at links e t.0)))
    (λ w e lt same. ap as_link (place_again (λ (l : Link). l.name) links no_link pairs w e.0 lt (same ∙ link_name_at links e lt)))

as_node_takes : (q : Result ℕ ReportKind) (n : NodeId) → as_node q ≡ Ok n → q ≡ Ok n.0
as_node_takes (Ok i) n h = ap (λ (x : NodeId). Ok x.0) (ok_is {E = ReportKind} (record { 0 = i }) n h)
as_node_takes (Err kind) n h = absurd cc

pub node_law : (nodes : List (List ℕ)) → AllPairs (λ x y. x ≢ y) nodes → Lawful (node_at nodes) (λ n. Verbatim (node_name nodes n) ∷ []) (λ n. n.0 < length nodes) AnyText
node_law nodes pairs = lawful_word Token Ended (node_of_word nodes) (λ n. Verbatim (node_name nodes n)) (λ n. n.0 < length nodes) (λ n. tt)
    (λ w n h. place_takes (λ (x : List ℕ). x) nodes [] w n.0 (as_node_takes (place_named (λ x. x) nodes w) n h))
    (λ w n lt same. ap as_node (place_again (λ (x : List ℕ). x) nodes [] pairs w n.0 lt same))

abbrev no_demand : Demand
no_demand = record { name = []; from = record { 0 = 0 }; to = record { 0 = 0 }; need = 0 }

demand_name_at : (demands : List Demand) (k : ℕ) → k < length demands → demand_name demands k ≡ (get_or demands k no_demand).name
demand_name_at demands k lt = rw (slice_get-get_or demands k no_demand lt) refl

abbrev pub AreApart : List Demand → Type 0
AreApart demands = AllPairs (λ x y. x.name ≢ y.name) demands

pub demand_within_law : (room : Bool) (demands : List Demand) → AreApart demands → Lawful (demand_within room demands) (λ k. Verbatim (demand_name demands k) ∷ []) (λ k. (room ≡ true) × (k < length demands)) AnyText
demand_within_law room demands pairs = lawful_word Token Ended (λ w. where_room room (demand_of demands w)) (λ k. Verbatim (demand_name demands k)) (λ k. (room ≡ true) × (k < length demands)) (λ k. tt)
    (λ w k h.
    let t = room_takes room (demand_of demands w) k h in
    let p = place_takes (λ (d : Demand). d.name) demands no_demand w k t.1 in
    ((t.0, p.0), p.1 ∙ sym (demand_name_at demands k p.0)))
    (λ w k is same. room_again room (demand_of demands w) k is.0 (place_again (λ (d : Demand). d.name) demands no_demand pairs w k is.1 (same ∙ demand_name_at demands k is.1)))

pub demand_law : (demands : List Demand) → AreApart demands → Lawful (demand_at demands) (λ k. Verbatim (demand_name demands k) ∷ []) (λ k. k < length demands) AnyText
demand_law demands pairs = lawful_word Token Ended (demand_of demands) (λ k. Verbatim (demand_name demands k)) (λ k. k < length demands) (λ k. tt)
    (λ w k h.
    let p = place_takes (λ (d : Demand). d.name) demands no_demand w k h in
    (p.0, p.1 ∙ sym (demand_name_at demands k p.0)))
    (λ w k lt same. place_again (λ (d : Demand). d.name) demands no_demand pairs w k lt (same ∙ demand_name_at demands k lt))

pub new_demand_law : (sofar : List Demand) → Lawful (word_at Token Ended (new_demand sofar)) (λ n. Verbatim n ∷ []) (λ n. (length n ≤ 255) × (is_named (λ d. d.name) n sofar ≡ false)) AnyText
new_demand_law sofar = lawful_word Token Ended (new_demand sofar) (λ n. Verbatim n) (λ n. (length n ≤ 255) × (is_named (λ d. d.name) n sofar ≡ false)) (λ n. tt)
    (λ w n e.
    let a = unless_ok (nat_lt 255 (length w)) LimitName (cond (is_named (λ d. d.name) w sofar) (Err DoubleName) (Ok w)) n e in
    let b = unless_ok (is_named (λ d. d.name) w sofar) DoubleName (Ok w) n a.1 in
    let is : w ≡ n = ok_is {E = ReportKind} w n b.1 in
    (subst (λ (v : List ℕ). (length v ≤ 255) × (is_named (λ d. d.name) v sofar ≡ false)) is (ltb-false 255 (length w) a.0, b.0), is))
    (λ w n is same. ap (new_demand sofar) same ∙ rw (le-ltb 255 (length n) is.0, is.1) refl)
