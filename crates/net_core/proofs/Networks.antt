-- what a network keeps
use Rattle.std.{proofs.Common.{◌≡◌, ◌≢◌, Bool, true, false, ℕ, ◌≤◌, ◌<◌, List, All, AllPairs, get_or, length, sym, ◌∙◌, ap, subst, arith}, proofs.lemmas.List.{get_or-map, length-map}, proofs.lemmas.List.Elements.All-map, proofs.Math.Logic.∥∥₁_elim, proofs.Props.props}
use Rattle.net_core.{specs.declared.network.Link.Link, specs.Network.{IsLink, IsModule, IsNetwork}, specs.Settled.{settled_links, without_setup, without_setups}}

-- a network has few nodes
pub few_nodes : (nodes : List (List ℕ)) (links : List Link) → ∥ IsNetwork nodes links ∥₁ → length nodes ≤ 128
few_nodes nodes links checked = ∥∥₁_elim checked (hlevel props) (λ net. net.few_nodes)

-- a network has few links
pub few_links : (nodes : List (List ℕ)) (links : List Link) → ∥ IsNetwork nodes links ∥₁ → length links ≤ 256
few_links nodes links checked = ∥∥₁_elim checked (hlevel props) (λ net. net.few_links)

-- the modules of a network are sound
pub modules_sound : (nodes : List (List ℕ)) (links : List Link) → ∥ IsNetwork nodes links ∥₁ → All (λ l. All IsModule l.modules) links
modules_sound nodes links checked = ∥∥₁_elim checked (hlevel props) (λ net. λ k d lt. (net.sound k d lt).each)

-- a link stays sound without its setup cost
link_without_setup : (n : ℕ) (l : Link) → IsLink n l → IsLink n (without_setup l)
link_without_setup n l is = record {
  from = is.from;
  to = is.to;
  different = is.different;
  fixed = is.fixed;
  setup = omega arith;
  few = is.few;
  each = is.each;
  served = is.served;
}

-- the links of a network without their setup costs have different names
different_without_setups : (links : List Link) → AllPairs (λ x y. x.name ≢ y.name) links → AllPairs (λ x y. x.name ≢ y.name) (without_setups links)
different_without_setups links different i j d lt within same =
    let long : length (without_setups links) ≡ length links = length-map links without_setup in
    let inside : j < length links = subst (λ n. j < n) long within in
    let first : i < length links = omega (arith, lt, inside) in
    let one = get_or-map without_setup links i d d first in
    let other = get_or-map without_setup links j d d inside in
    different i j d lt inside (ap (λ (l : Link). l.name) (sym one) ∙ (same ∙ ap (λ (l : Link). l.name) other))

-- a network is still one without its setup costs
network_without_setups : (nodes : List (List ℕ)) (links : List Link) → ∥ IsNetwork nodes links ∥₁ → ∥ IsNetwork nodes (without_setups links) ∥₁
network_without_setups nodes links checked = ∥∥₁_elim checked (hlevel props) (λ net. ∣ record {
  few_nodes = net.few_nodes;
  few_links = subst (λ n. n ≤ 256) (sym (length-map links without_setup)) net.few_links;
  different_nodes = net.different_nodes;
  different_links = different_without_setups links net.different_links;
  sound = All-map (IsLink (length nodes)) without_setup links (λ k d lt. link_without_setup (length nodes) (get_or links k d) (net.sound k d lt));
} ∣₁)

-- a network is still one once its setup costs are kept or dropped
pub settled_network : (charge : Bool) (nodes : List (List ℕ)) (links : List Link) → ∥ IsNetwork nodes links ∥₁ → ∥ IsNetwork nodes (settled_links charge links) ∥₁
settled_network true nodes links checked = checked
settled_network false nodes links checked = network_without_setups nodes links checked
