-- The items of a tree in form can be written and read again.
use Rattle.std.proofs.Common.{◌≡◌, ℕ, ◌+◌, ◌<◌, ◌≤◌, ◌^◌, List, [], ◌∷◌, ◌++◌, length, get_or, All, refl, sym, subst, arith, flat_map, map}
use Rattle.net_core.{proofs.Library.{AllByRecursion, All-cons, All-head, All-nil, All-tail, slice_get-get_or}, specs.Terms.IsName}
use Rattle.plan_terms.specs.Terms.{CutLine, Demand, Evidence, Link, LinkId, MasterColumn, RouteColumn, WideKind, link_name}
use Rattle.plan_report.specs.Terms.{IsEvidenceInForm, IsKindInForm, IsMasterColumnInForm, IsRouteColumnInForm, KnownNames, demand_name, evidence_items, master_column_items, numbers_items, route_column_items, wide_items}
use Rattle.text_kit.specs.Terms.{Item, Verbatim, Whole, Closing, enclosed, IsWritable}
use Rattle.report_parts.proofs.ColumnVariants.{evidence_cases, master_cases, route_cases, wide_cases}
use Rattle.master_bound.specs.declared.answer.Multiplier.{Multiplier}
use Rattle.tree_check.{specs.Terms.{Line, Divided, Table, TableKind, Plain, Failing}, specs.declared.proof.BoxCert.BoxCert, specs.declared.proof.Node.Node, specs.declared.proof.Node.TheVariants.{Split, Closed, Empty, Spent, Stuck}, specs.declared.proof.Verdict.Verdict, specs.declared.proof.Verdict.TheVariants.{Cheapest, Above}}
use Rattle.tree_lines.specs.TreeLines.{box_certificate_items, box_cut_items, line_items, multiplier_items, node_items, table_word, verdict_items}
use Rattle.tree_reader.{specs.declared.tree.ReadTree.ReadTree, specs.Trees.{IsBoxCertificateInForm, IsBoxCutInForm, IsLineInForm, IsNodeInForm, IsTerm, IsTreeInForm, IsVerdictInForm}, proofs.TreeLaws.numbered}

abbrev pub AreWritable : List Item → Type 0
AreWritable is = AllByRecursion IsWritable is

both : (is js : List Item) → AreWritable is → AreWritable js → AreWritable (is ++ js)
both [] js p q = q
both (i ∷ is) js p q = (p.0, both is js p.1 q)

-- the items of elements
every : {X : Type 0} (P : X → Type 0) (f : X → List Item) → ((x : X) → P x → AreWritable (f x)) → (xs : List X) → All P xs → AreWritable (flat_map f xs)
every P f each [] all = tt
every P f each (x ∷ xs) all = both (f x) (flat_map f xs) (each x (All-head P x xs all)) (every P f each xs (All-tail P x xs all))

between : (is : List Item) → AreWritable is → AreWritable (enclosed is)
between is p = (tt, both is (Closing ∷ []) p (tt, tt))

-- numbers below a limit
wholes : (limit : ℕ) → limit ≤ 2 ^ 126 → (ns : List ℕ) → All (λ n. n < limit) ns → AreWritable (flat_map (λ n. Whole n ∷ []) ns)
wholes limit le ns all = every (λ n. n < limit) (λ n. Whole n ∷ []) (λ n lt. (omega (arith, le, lt), tt)) ns all

terms : (ms : List Multiplier) → All IsTerm ms → AreWritable (multiplier_items ms)
terms ms all = every IsTerm (λ m. Whole m.num ∷ Whole m.cut ∷ []) (λ m h. (omega (arith, h.0), (omega (arith, h.1), tt))) ms all

certificate : (c : BoxCert) → IsBoxCertificateInForm c → AreWritable (box_certificate_items c)
certificate c h = (h.0, terms c.lines h.1)

abbrev no_link : Link
no_link = record { name = []; a = record { 0 = 0 }; b = record { 0 = 0 }; fixed = 0; setup = 0; modules = [] }

abbrev no_demand : Demand
no_demand = record { name = []; from = record { 0 = 0 }; to = record { 0 = 0 }; need = 0 }

named : (w : List ℕ) → IsName w → IsWritable (Verbatim w)
named w n = (n.some, n.plain)

module _ (known : KnownNames) (demands : List Demand) (links_named : All (λ l. IsName l.name) known.links) (demands_named : All (λ d. IsName d.name) demands) where
  link_there : (e : LinkId) → e.0 < length known.links → IsWritable (Verbatim (link_name known.links e))
  link_there e lt =
      let name : link_name known.links e ≡ (get_or known.links e.0 no_link).name = rw (slice_get-get_or known.links e.0 no_link lt) refl in
      subst (λ (w : List ℕ). IsWritable (Verbatim w)) (sym name) (named (get_or known.links e.0 no_link).name (links_named e.0 no_link lt))

  demand_there : (k : ℕ) → k < length demands → IsWritable (Verbatim (demand_name demands k))
  demand_there k lt =
      let name : demand_name demands k ≡ (get_or demands k no_demand).name = rw (slice_get-get_or demands k no_demand lt) refl in
      subst (λ (w : List ℕ). IsWritable (Verbatim w)) (sym name) (named (get_or demands k no_demand).name (demands_named k no_demand lt))

  route_column : (c : RouteColumn) → IsRouteColumnInForm known.links demands c → AreWritable (route_column_items known.links demands c)
  route_column = route_cases _
      (λ e h. ((omega arith, refl), (link_there e h, tt)))
      (λ k h. ((omega arith, refl), (demand_there k h, tt)))
      (λ k path h. ((omega arith, refl), (demand_there k h.0, between _ (every (λ e. e.0 < length known.links) (λ e. Verbatim (link_name known.links e) ∷ []) (λ e lt. (link_there e lt, tt)) path h.1.known))))

  module _ (few : length known.listed < 2 ^ 32) (small : length known.links + length demands < 2 ^ 32) where
    master_column : (c : MasterColumn) → IsMasterColumnInForm known.links known.listed c → AreWritable (master_column_items known.links c)
    master_column = master_cases _
        (λ e h. ((omega arith, refl), (link_there e h, tt)))
        (λ state lengths h. ((omega arith, refl), (omega (arith, few, h.0), between _ (wholes (2 ^ 32) (omega arith) lengths h.1.each))))

    wide : {C : Type 0} (items : C → List Item) (column : C → Type 0) (value : Type 0) (long : LinkId → Type 0) (rows : ℕ) → ((c : C) → column c → AreWritable (items c)) → ((e : LinkId) → long e → IsWritable (Verbatim (link_name known.links e))) → rows < 2 ^ 32
        → (k : WideKind C) → IsKindInForm column value long rows k → AreWritable (wide_items known.links items k)
    wide items column value long rows each lengths lt = wide_cases _
        (λ c h. ((omega arith, refl), each c h))
        (λ i h. ((omega arith, refl), (omega (arith, lt, h), tt)))
        (λ i c h. ((omega arith, refl), (omega (arith, lt, h.0), each c h.1)))
        (λ i h. ((omega arith, refl), (omega (arith, lt, h), tt)))
        (λ h. ((omega arith, refl), tt))
        (λ h. ((omega arith, refl), tt))
        (λ e h. ((omega arith, refl), (lengths e h, tt)))

    evidence : (e : Evidence) → IsEvidenceInForm known demands e → AreWritable (evidence_items known.links demands e)
    evidence = evidence_cases _
        (λ state caps basis kind h. (
          (omega arith, refl),
          (
            omega (arith, few, h.state_listed),
            (
              omega (arith, h.capacities.scale),
              both (numbers_items caps.nums ++ enclosed (flat_map (route_column_items known.links demands) basis)) _
                  (both (numbers_items caps.nums) _ (between _ (wholes (2 ^ 126) (omega arith) caps.nums h.capacities.nums.each)) (between _ (every (IsRouteColumnInForm known.links demands) (route_column_items known.links demands) route_column basis h.columns)))
                  (wide (route_column_items known.links demands) (IsRouteColumnInForm known.links demands) ⊥ (λ e. e.0 < length known.links) (length known.links + length demands) route_column link_there small kind h.wide),
            ),
          ),
        ))
        (λ basis kind h. (
          (omega arith, refl),
          both (enclosed (flat_map (master_column_items known.links) basis)) _
              (between _ (every (IsMasterColumnInForm known.links known.listed) (master_column_items known.links) master_column basis h.columns))
              (wide (master_column_items known.links) (IsMasterColumnInForm known.links known.listed) (Unit {0}) (λ e. ⊥) (length known.links) master_column (λ e h. absurd h) (omega (arith, small)) kind h.wide),
        ))

    node : (n : Node) → IsNodeInForm known demands n → AreWritable (node_items known.links demands n)
    node (Split link m number) h = ((omega arith, refl), (link_there link h.0, (omega (arith, h.1), (omega (arith, h.2), tt))))
    node (Closed c) h = ((omega arith, refl), certificate c h)
    node (Empty cut) h = ((omega arith, refl), (omega (arith, h), tt))
    node (Spent c) h = ((omega arith, refl), certificate c h)
    node (Stuck c e) h = ((omega arith, refl), both (box_certificate_items c) _ (certificate c h.0) ((omega arith, refl), evidence e h.1))

    verdict : (v : Verdict) → IsVerdictInForm v → AreWritable (verdict_items known.places v)
    verdict Cheapest h = ((omega arith, refl), tt)
    verdict (Above least) h = ((omega arith, refl), (h, tt))

    box_cut : (i : ℕ) (c : CutLine) → i < 2 ^ 64 → IsBoxCutInForm known c → AreWritable (box_cut_items (i, c))
    box_cut i c lt h = ((omega arith, refl), (omega (arith, lt), (omega (arith, few, h.state), (h.right, wholes (2 ^ 32) (omega arith) c.lengths h.each))))

    kind_word : (k : TableKind) → IsWritable (Verbatim (table_word k))
    kind_word Plain = (omega arith, refl)
    kind_word Failing = (omega arith, refl)

    further : (i : ℕ) (l : Line) → i < 2 ^ 64 → IsLineInForm l → AreWritable (line_items (i, l))
    further i (Divided d ts) lt h = ((omega arith, refl), (omega (arith, lt), (h.0, terms ts h.1)))
    further i (Table line kind ws) lt h = ((omega arith, refl), (omega (arith, lt), (omega (arith, h.0), (kind_word kind, wholes (2 ^ 32) (omega arith) ws h.1))))

    -- ---- all lines

    all_both : {X : Type 0} (P : X → Type 0) (xs ys : List X) → All P xs → All P ys → All P (xs ++ ys)
    all_both P [] ys p q = q
    all_both P (x ∷ xs) ys p q = All-cons P x (xs ++ ys) (All-head P x xs p) (all_both P xs ys (All-tail P x xs p) q)

    all_numbered : {X : Type 0} (P : X → Type 0) (f : ℕ × X → List Item) → ((i : ℕ) (x : X) → i < 2 ^ 64 → P x → AreWritable (f (i, x))) → (n : ℕ) (xs : List X) → n + length xs < 2 ^ 64 → All P xs → All AreWritable (numbered f n xs)
    all_numbered P f each n [] lt all = All-nil AreWritable
    all_numbered P f each n (x ∷ xs) lt all =
        All-cons AreWritable (f (n, x)) (numbered f (n + 1) xs) (each n x (omega (arith, lt)) (All-head P x xs all)) (all_numbered P f each (n + 1) xs (omega (arith, lt)) (All-tail P x xs all))

    all_mapped : {X : Type 0} (P : X → Type 0) (f : X → List Item) → ((x : X) → P x → AreWritable (f x)) → (xs : List X) → All P xs → All AreWritable (map f xs)
    all_mapped P f each [] all = All-nil AreWritable
    all_mapped P f each (x ∷ xs) all = All-cons AreWritable (f x) (map f xs) (each x (All-head P x xs all)) (all_mapped P f each xs (All-tail P x xs all))

    pub all_written : (t : ReadTree) → IsTreeInForm known demands t → length t.cuts + length t.lines < 2 ^ 64
        → All AreWritable (numbered box_cut_items 0 t.cuts ++ (numbered line_items (length t.cuts) t.lines ++ (map (node_items known.links demands) t.tree ++ verdict_items known.places t.verdict ∷ [])))
    all_written t form lt =
        all_both AreWritable (numbered box_cut_items 0 t.cuts) _ (all_numbered (IsBoxCutInForm known) box_cut_items box_cut 0 t.cuts (omega (arith, lt)) form.cuts)
        (all_both AreWritable (numbered line_items (length t.cuts) t.lines) _ (all_numbered IsLineInForm line_items further (length t.cuts) t.lines lt form.lines)
        (all_both AreWritable (map (node_items known.links demands) t.tree) _ (all_mapped (IsNodeInForm known demands) (node_items known.links demands) node t.tree form.nodes)
        (All-cons AreWritable (verdict_items known.places t.verdict) [] (verdict t.verdict form.verdict) (All-nil AreWritable))))
