-- The reading of a file of flows takes exactly the texts of such files.
use Rattle.std.proofs.Common.{◌≡◌, ◌≢◌, ℕ, ◌+◌, ◌^◌, ◌<◌, ◌≤◌, ◌==◌, ◌||◌, ◌⊎◌, Bool, true, false, nat_lt, inl, inr, ⊎_elim, List, [], ◌∷◌, ◌++◌, length, All, AllPairs, Option, None, Some, Result, Ok, Err, IfOk, IfErr, refl, sym, ap, subst, ◌∙◌, arith, flat_map, slice_get, codes, eqb-true, eq-eqb, ltb-true, lt-ltb}
use Rattle.net_core.proofs.Library.{∥∥₁_elim, props, cases_lt, get_or_from_slice_get, slice_get-get_or, slice_get_past, slice_get_within}
use Rattle.plan_terms.specs.Terms.{IsLink, IsNetwork, Demand, LinkId, NodeId, Link, Places}
use Rattle.snd_tokens.specs.Terms.{amount_of}
use Rattle.path_split.{specs.declared.arc.Arc.Arc, specs.Balances.IsArc}
use Rattle.text_kit.{specs.Terms.{AnswersAs, ReadsAllAs, IsNotTooEarly, Item, Verbatim, Money, Closing, list_at, number_or, no_fault, of_length, Parenthesis, word_at}, specs.declared.refusal.Refusal.Refusal, proofs.Lemmas.{all_after, after_all, amount_again, amount_takes, answer_found, answer_only, answer_first, AnyText, IsEnd, Lawful, lawful_as, lawful_key, lawful_list, lawful_open, lawful_whole, lawful_word, if_ok, ok_is}}
use Rattle.plan_report.specs.Terms.{numbered_from, KnownNames, node_name, state_name}
use Rattle.report_words.{specs.declared.fault.ReportKind.ReportKind, specs.Terms.{as_node, has_room, node_of_word, place_named}, proofs.Lemmas.{few_rooms, is_length, lawful_placed, length_is, numbered_items, rooms_few, law_made, made_last, made_law, made_then, AreApart, demand_within_law, link_law, place_again, place_takes, this_name_law}}
use Rattle.report_parts.proofs.ModuleLaws.{IsSound, all_counts_law}
use Rattle.flow_file.{specs.declared.fault.FlowsKind.FlowsKind, specs.declared.fault.FlowsKind.TheVariants.{Header, Section, Token, Ended, Number, ZeroFlow, UnknownName, Limit}, specs.declared.flow.FlowFile.FlowFile, specs.declared.flow.LinkFlow.LinkFlow, specs.FlowFiles.{AreLinkFlows, IsFlowFile, IsLinkFlow, SpellsFlows, flow_file_items, flows_header, link_flow_items, state_flows_items}, specs.FlowReading.{above_zero, end_of, end_or_fault, flow_amount, flow_sections_at, flows_at, flows_of, link_flow_at, state_flows_at, states_flows_at}, proofs.FlowsOnline.flows_online, proofs.Telling.lawful_told}

-- ---- amounts

above_takes : (q : Result ℕ FlowsKind) (n : ℕ) → above_zero q ≡ Ok n → (0 < n) × (q ≡ Ok n)
above_takes (Ok k) n e =
    let a = if_ok (nat_lt 0 k) ZeroFlow (Ok k) n e in
    (subst (λ (i : ℕ). 0 < i) (ok_is {E = FlowsKind} k n a.1) (ltb-true 0 k a.0), a.1)
above_takes (Err kind) n e = absurd cc

flow_amount_law : (p : Places) → Lawful (word_at Token Ended (flow_amount p)) (λ n. Money p n ∷ []) (λ n. (0 < n) × (n < 2 ^ 40)) AnyText
flow_amount_law p = lawful_word Token Ended (flow_amount p) (λ n. Money p n) (λ n. (0 < n) × (n < 2 ^ 40)) (λ n. tt)
    (λ w n e.
    let a = above_takes (number_or Number (amount_of p w)) n e in
    let b = amount_takes Number p w n a.1 in
    ((a.0, b.0), b.1))
    (λ w n is same. ap above_zero (amount_again Number p w n is.1 same) ∙ rw (lt-ltb 0 n is.0) refl)

-- ---- ends of links

-- the node is an end of the link, if there is one
abbrev IsEndOf : Option Link → NodeId → Type 0
IsEndOf None n = ⊥
IsEndOf (Some l) n = (l.a.0 ≡ n.0) ⊎ (l.b.0 ≡ n.0)

either_takes : (a b n : ℕ) (x y : Bool) → (a == n) ≡ x → (b == n) ≡ y → (x || y) ≡ true → (a ≡ n) ⊎ (b ≡ n)
either_takes a b n true y p q e = inl (eqb-true a n p)
either_takes a b n false true p q e = inr (eqb-true b n q)
either_takes a b n false false p q e = absurd cc

either_again : (a b n : ℕ) (x : Bool) → (a == n) ≡ x → (a ≡ n) ⊎ (b ≡ n) → (x || (b == n)) ≡ true
either_again a b n true p h = refl
either_again a b n false p (inl e) = absurd (let t : false ≡ true = sym p ∙ eq-eqb a n e in cc)
either_again a b n false p (inr e) = eq-eqb b n e

end_takes : (o : Option Link) (q : Result NodeId ReportKind) (n : NodeId) → end_or_fault o q ≡ Ok n → IsEndOf o n × (q ≡ Ok n)
end_takes (Some l) (Ok m) n e =
    let a = if_ok ((l.a.0 == m.0) || (l.b.0 == m.0)) UnknownName (Ok m) n e in
    let is : m ≡ n = ok_is {E = FlowsKind} m n a.1 in
    (subst (λ (i : NodeId). IsEndOf (Some l) i) is (either_takes l.a.0 l.b.0 m.0 (l.a.0 == m.0) (l.b.0 == m.0) refl refl a.0), ap (λ (i : NodeId). Ok i) is)
end_takes None (Ok m) n e = absurd cc
end_takes (Some l) (Err kind) n e = absurd cc
end_takes None (Err kind) n e = absurd cc

end_again : (o : Option Link) (n : NodeId) → IsEndOf o n → end_or_fault o (Ok n) ≡ Ok n
end_again (Some l) n is = rw (either_again l.a.0 l.b.0 n.0 (l.a.0 == n.0) refl is) refl
end_again None n is = absurd is

node_takes : (q : Result ℕ ReportKind) (n : NodeId) → as_node q ≡ Ok n → q ≡ Ok n.0
node_takes (Ok i) n h = ap (λ (x : NodeId). Ok x.0) (ok_is {E = ReportKind} (record { 0 = i }) n h)
node_takes (Err kind) n h = absurd cc

end_law : (nodes : List (List ℕ)) (o : Option Link) → AllPairs (λ x y. x ≢ y) nodes → Lawful (word_at Token Ended (end_of nodes o)) (λ n. Verbatim (node_name nodes n) ∷ []) (λ n. IsEndOf o n × (n.0 < length nodes)) AnyText
end_law nodes o pairs = lawful_word Token Ended (end_of nodes o) (λ n. Verbatim (node_name nodes n)) (λ n. IsEndOf o n × (n.0 < length nodes)) (λ n. tt)
    (λ w n e.
    let a = end_takes o (node_of_word nodes w) n e in
    let b = place_takes (λ (x : List ℕ). x) nodes [] w n.0 (node_takes (place_named (λ x. x) nodes w) n a.1) in
    ((a.0, b.0), b.1))
    (λ w n is same. ap (end_or_fault o) (ap as_node (place_again (λ (x : List ℕ). x) nodes [] pairs w n.0 is.1 same)) ∙ end_again o n is.0)

-- such an end makes an arc
arc_made : (links : List Link) (e : LinkId) (n : NodeId) (num : ℕ) (o : Option Link) → slice_get links e.0 ≡ o → IsEndOf o n → IsArc links (record { link = e; from = n; num = num })
arc_made links e n num (Some l) at is = record { link = l; at = at; end = is }
arc_made links e n num None at is = absurd is

arc_end : (links : List Link) (e : LinkId) (n : NodeId) (num : ℕ) → IsArc links (record { link = e; from = n; num = num }) → IsEndOf (slice_get links e.0) n
arc_end links e n num a = subst (λ (o : Option Link). IsEndOf o n) (sym a.at) a.end

-- ---- what a network tells

nodes_differ : (nodes : List (List ℕ)) (links : List Link) → ∥ IsNetwork nodes links ∥₁ → AllPairs (λ x y. x ≢ y) nodes
nodes_differ nodes links net = λ i j d lt within same. ∥∥₁_elim net (λ x y. absurd x) (λ (n : IsNetwork nodes links). n.different_nodes i j d lt within same)

links_differ : (nodes : List (List ℕ)) (links : List Link) → ∥ IsNetwork nodes links ∥₁ → AllPairs (λ x y. x.name ≢ y.name) links
links_differ nodes links net = λ i j d lt within same. ∥∥₁_elim net (λ x y. absurd x) (λ (n : IsNetwork nodes links). n.different_links i j d lt within same)

fixed_small : (nodes : List (List ℕ)) (links : List Link) → ∥ IsNetwork nodes links ∥₁ → All (λ l. l.fixed < 2 ^ 40) links
fixed_small nodes links net = λ k d lt. ∥∥₁_elim net (hlevel props) (λ (n : IsNetwork nodes links). (n.sound k d lt).fixed)

abbrev no_link : Link
no_link = record { name = []; a = record { 0 = 0 }; b = record { 0 = 0 }; fixed = 0; setup = 0; modules = [] }

links_sound : (nodes : List (List ℕ)) (links : List Link) → ∥ IsNetwork nodes links ∥₁ → (k : ℕ) → IsSound (slice_get links k)
links_sound nodes links net k = ⊎_elim
    (λ (within : k < length links). subst (λ (o : Option Link). IsSound o) (sym (slice_get-get_or links k no_link within)) (fixed_small nodes links net k no_link within))
    (λ (past : length links ≤ k). subst (λ (o : Option Link). IsSound o) (sym (slice_get_past links k past)) tt)
    (cases_lt k (length links))

-- an arc leaves a node of the network
arc_within : (nodes : List (List ℕ)) (links : List Link) → ∥ IsNetwork nodes links ∥₁ → (a : Arc) → IsArc links a → a.from.0 < length nodes
arc_within nodes links net a is =
    let l = is.link in
    ∥∥₁_elim net (hlevel props) (λ (n : IsNetwork nodes links).
    let ends : IsLink (length nodes) l = subst (IsLink (length nodes)) (get_or_from_slice_get links a.link.0 l l is.at) (n.sound a.link.0 l (slice_get_within links a.link.0 l is.at)) in
    ⊎_elim (λ p. omega (arith, p, ends.from)) (λ p. omega (arith, p, ends.to)) is.end)

-- ---- flows

module _ (known : KnownNames) (demands : List Demand) (net : ∥ IsNetwork known.nodes known.links ∥₁) (apart : AreApart demands) where
  abbrev IsRight : LinkFlow → Type 0
  IsRight f = IsLinkFlow known.links demands f

  abbrev AreRight : List LinkFlow → Type 0
  AreRight fs = AreLinkFlows known.links demands fs

  link_flow_law : (sofar : List LinkFlow) → Lawful (link_flow_at known demands sofar) (link_flow_items known demands) (λ f. (has_room 65536 sofar ≡ true) × IsRight f) AnyText
  unfolding link_flow_at
  link_flow_law sofar = law_made (link_flow_at known demands sofar) _ _ _ (link_flow_items known demands) (λ f. (has_room 65536 sofar ≡ true) × IsRight f)
      (λ q h. (h.0.0, record { demand = h.0.1; arc = arc_made known.links q.1.0 q.1.1.0 q.1.1.1 (slice_get known.links q.1.0.0) refl h.1.1.0.0; positive = h.1.1.1.0; small = h.1.1.1.1 }))
      (λ q h. refl)
      (λ f h. record {
        parts = (f.demand, (f.arc.link, (f.arc.from, f.arc.num)));
        right = ((h.0, h.1.demand), (slice_get_within known.links f.arc.link.0 h.1.arc.link h.1.arc.at, ((arc_end known.links f.arc.link f.arc.from f.arc.num h.1.arc, arc_within known.nodes known.links net f.arc h.1.arc), (h.1.positive, h.1.small))));
        gives = refl;
      })
      (made_then _ _ _ _ _ _ _ _ (lawful_told _ _ _ _ (demand_within_law (has_room 65536 sofar) demands apart)) (λ demand h.
      made_then _ _ _ _ _ _ _ _ (lawful_told _ _ _ _ (link_law known.links (links_differ known.nodes known.links net))) (λ link h.
      made_then _ _ _ _ _ _ _ _ (end_law known.nodes (slice_get known.links link.0) (nodes_differ known.nodes known.links net)) (λ from h.
      made_last _ (λ (num : ℕ). record { demand = demand; arc = record { link = link; from = from; num = num } }) _ _ (flow_amount_law known.places)))))

  link_flows_law : Lawful (list_at Parenthesis no_fault (link_flow_at known demands) []) (λ fs. flat_map (link_flow_items known demands) fs ++ Closing ∷ []) AreRight AnyText
  link_flows_law = lawful_as (list_at Parenthesis no_fault (link_flow_at known demands) []) _ (λ fs. flat_map (link_flow_items known demands) fs ++ Closing ∷ []) _ AreRight AnyText
      (λ fs h. refl) (λ fs h. rooms_few 65536 IsRight fs h.1) (λ fs h. (refl, few_rooms 65536 IsRight fs h.0 h.1))
      (lawful_list Parenthesis no_fault (link_flow_at known demands) (link_flow_items known demands) (λ sofar f. (has_room 65536 sofar ≡ true) × IsRight f) (λ f. tt) link_flow_law)

  state_flows_law : (sofar : List (List LinkFlow)) → Lawful (state_flows_at known demands sofar) (λ fs. state_flows_items known demands (length sofar, fs)) AreRight AnyText
  unfolding state_flows_at
  state_flows_law sofar = law_made (state_flows_at known demands sofar) _ _ _ (λ fs. state_flows_items known demands (length sofar, fs)) AreRight
      (λ q h. h.1.1)
      (λ q h. refl)
      (λ fs h. record { parts = (tt, (tt, fs)); right = (tt, (tt, h)); gives = refl })
      (made_then _ _ _ _ _ _ _ _ (lawful_told _ _ _ _ (this_name_law (state_name known.listed (length sofar)))) (λ x h.
      made_then _ _ _ _ _ _ _ _ (lawful_open Token Ended) (λ x h.
      made_law _ _ _ link_flows_law)))

  abbrev state_count : ℕ
  state_count = length known.listed + 1

  states_flows_law : Lawful (states_flows_at known demands []) (λ fss. flat_map (state_flows_items known demands) (numbered_from 0 fss) ++ Closing ∷ []) (λ fss. (length fss ≡ state_count) × All AreRight fss) AnyText
  states_flows_law = lawful_as (states_flows_at known demands []) _ (λ fss. flat_map (state_flows_items known demands) (numbered_from 0 fss) ++ Closing ∷ []) _ (λ fss. (length fss ≡ state_count) × All AreRight fss) AnyText
      (λ fss h. ap (λ (is : List Item). is ++ Closing ∷ []) (numbered_items (λ k fs. state_flows_items known demands (k, fs)) (state_flows_items known demands) 0 (λ k fs. ap (λ (i : ℕ). state_flows_items known demands (i, fs)) (omega arith)) 0 0 fss (omega arith)))
      (λ fss h. (length_is state_count Limit fss h.0, after_all AreRight [] fss h.1))
      (λ fss h. (is_length state_count Limit fss h.0, all_after AreRight [] fss h.1))
      (lawful_placed (λ k fs. state_flows_items known demands (k, fs)) (λ sofar fs. AreRight fs) (of_length state_count Limit) (state_flows_at known demands) (λ k fs. tt) state_flows_law)

  -- ---- the whole file

  sections_law : Lawful (flow_sections_at known demands) (flow_file_items known demands) (IsFlowFile known demands) AnyText
  unfolding flow_sections_at
  sections_law = law_made (flow_sections_at known demands) _ _ _ (flow_file_items known demands) (IsFlowFile known demands)
      (λ q h. record { counts = h.1.1.0.0; limits = h.1.1.0.1; states = h.1.1.1.1.1.0; each = h.1.1.1.1.1.1 })
      (λ q h. refl)
      (λ file h. record { parts = (tt, (tt, (file.counts, (tt, (tt, file.flows))))); right = (tt, (tt, ((h.counts, h.limits), (tt, (tt, (h.states, h.each)))))); gives = refl })
      (made_then _ _ _ _ _ _ _ _ (lawful_key Section Ended Section (codes "MODULES")) (λ x h.
      made_then _ _ _ _ _ _ _ _ (lawful_open Section Ended) (λ x h.
      made_then _ _ _ _ _ _ _ _ (lawful_told _ _ _ _ (all_counts_law known.links (links_sound known.nodes known.links net))) (λ counts h.
      made_then _ _ _ _ _ _ _ _ (lawful_key Section Ended Section (codes "FLOWS")) (λ x h.
      made_then _ _ _ _ _ _ _ _ (lawful_open Section Ended) (λ x h.
      made_last _ (λ (flows : List (List LinkFlow)). record { counts = counts; flows = flows }) _ _ states_flows_law))))))

  pub flows_law : Lawful (flows_at known demands) (flow_file_items known demands) (IsFlowFile known demands) IsEnd
  flows_law = lawful_whole Section (flow_sections_at known demands) (flow_file_items known demands) (IsFlowFile known demands) sections_law

  -- ---- what was answered of a file

  pub flows_found : (bytes : List ℕ) (a : Result FlowFile (Refusal FlowsKind)) → ReadsAllAs (λ f. f) a (flows_of known demands bytes) → IfOk a (λ f. SpellsFlows known demands bytes f)
  flows_found bytes a h = answer_found Header flows_header (flows_at known demands) (λ f. f) (flow_file_items known demands) (IsFlowFile known demands) flows_law (λ f. f) bytes a h

  pub flows_only : (bytes : List ℕ) (a : Result FlowFile (Refusal FlowsKind)) → ReadsAllAs (λ f. f) a (flows_of known demands bytes) → (f : FlowFile) → SpellsFlows known demands bytes f → AnswersAs (λ x. x) a f
  flows_only bytes a h = answer_only Header flows_header (flows_at known demands) (λ f. f) (flow_file_items known demands) (IsFlowFile known demands) flows_law (λ f. f) bytes a h

  pub flows_first : (bytes : List ℕ) (a : Result FlowFile (Refusal FlowsKind)) → ReadsAllAs (λ f. f) a (flows_of known demands bytes) → IfErr a (IsNotTooEarly (SpellsFlows known demands) bytes)
  flows_first bytes a h = answer_first Header flows_header (flows_at known demands) (λ f. f) (flow_file_items known demands) (IsFlowFile known demands) flows_law (λ f. f) (flows_online known demands) bytes a h

  -- what was read is in form
  pub flows_form : (bytes : List ℕ) (a : Result FlowFile (Refusal FlowsKind)) → ReadsAllAs (λ f. f) a (flows_of known demands bytes) → IfOk a (λ f. IsFlowFile known demands f)
  flows_form bytes (Ok f) h = let s = flows_found bytes (Ok f) h in subst (IsFlowFile known demands) s.3 s.1
  flows_form bytes (Err e) h = tt
