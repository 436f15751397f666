-- a ring of nodes of which one link is missing still leads from each node to each later one
use Rattle.std.{proofs.Common.{◌≡◌, ◌≢◌, ℕ, zero, suc, ◌+◌, ◌-◌, ◌*◌, ◌%◌, ◌≤◌, ◌<◌, ⊎_elim, List, [], ◌∷◌, arith, ap, refl, subst, ◌∙◌}, proofs.lemmas.Nat.mod-mul-add}
use Rattle.net_core.proofs.Library.{cases_lt}
use Rattle.plan_terms.{specs.Terms.{LinkId, AreApart, Leads, last_node}, proofs.Lemmas.shortcut}

-- links lead from a to b, along nodes that may be visited twice
pub record Connected (joins : ℕ → ℕ → ℕ → Type 0) (a b : ℕ) : Type 0 where
  pub along : List LinkId
  pub nodes : List ℕ
  pub leads : Leads joins a along nodes
  pub ends : last_node a nodes ≡ b

-- connected nodes aren't apart
pub not_apart : (joins : ℕ → ℕ → ℕ → Type 0) (a b : ℕ) → Connected joins a b → AreApart joins a b → ⊥
not_apart joins a b c apart =
    let w = shortcut joins [] a b c.along c.nodes c.leads c.ends in
    apart w.along w.path

-- a link in front
step : (joins : ℕ → ℕ → ℕ → Type 0) (e a b c : ℕ) → joins e a b → Connected joins b c → Connected joins a c
step joins e a b c j on = record { along = (record { 0 = e }) ∷ on.along; nodes = b ∷ on.nodes; leads = (j, on.leads); ends = on.ends }

-- node by node upwards
rise : (joins : ℕ → ℕ → ℕ → Type 0) (k a b : ℕ) → a + k ≡ b → ((i : ℕ) → a ≤ i → i < b → joins i i (i + 1)) → Connected joins a b
rise joins zero a b e each = record { along = []; nodes = []; leads = tt; ends = omega (arith, e) }
rise joins (suc k) a b e each =
    step joins a a (a + 1) b (each a (omega arith) (omega (arith, e)))
    (rise joins k (a + 1) b (omega (arith, e)) (λ i le lt. each i (omega (arith, le)) lt))

-- node by node downwards, then on
fall : (joins : ℕ → ℕ → ℕ → Type 0) (k a b c : ℕ) → b + k ≡ a → ((i : ℕ) → b ≤ i → i < a → joins i (i + 1) i) → Connected joins b c → Connected joins a c
fall joins zero a b c e each on =
    let same : b ≡ a = omega (arith, e) in
    subst (λ x. Connected joins x c) same on
fall joins (suc k) a b c e each on =
    let same : b + k + 1 ≡ a = omega (arith, e) in
    step joins (b + k) a (b + k) c (subst (λ x. joins (b + k) x (b + k)) same (each (b + k) (omega arith) (omega (arith, e))))
    (fall joins k (b + k) b c refl (λ i le lt. each i le (omega (arith, lt, e))) on)

-- the links of a ring of n nodes but for link s - 1, where there is one: link i joins node i with the next
pub record HasRing (joins : ℕ → ℕ → ℕ → Type 0) (n s : ℕ) : Type 0 where
  pub next : (i : ℕ) → i < n → i + 1 ≢ s → joins i i ((i + 1) % n)
  pub turns : (e x y : ℕ) → joins e x y → joins e y x

-- node i with node i + 1
on_ring : (joins : ℕ → ℕ → ℕ → Type 0) (n s i : ℕ) → HasRing joins n s → i + 1 < n → i + 1 ≢ s → joins i i (i + 1)
on_ring joins n s i ring lt other =
    let low : i + 1 ≡ 0 * n + (i + 1) = omega arith in
    subst (λ x. joins i i x) (ap (λ x. x % n) low ∙ mod-mul-add 0 n (i + 1) lt) (ring.next i (omega (arith, lt)) other)

-- the last node with the first
closed : (joins : ℕ → ℕ → ℕ → Type 0) (n s i : ℕ) → HasRing joins n s → i + 1 ≡ n → i + 1 ≢ s → joins i i 0
closed joins n s i ring e other =
    let whole : i + 1 ≡ 1 * n + 0 = omega (arith, e) in
    subst (λ x. joins i i x) (ap (λ x. x % n) whole ∙ mod-mul-add 1 n 0 (omega (arith, e))) (ring.next i (omega (arith, e)) other)

-- where the missing link isn't between them
straight : (joins : ℕ → ℕ → ℕ → Type 0) (n s a b : ℕ) → HasRing joins n s → a < b → b < n → ((i : ℕ) → a ≤ i → i < b → i + 1 ≢ s) → Connected joins a b
straight joins n s a b ring lt within others =
    rise joins (b - a) a b (omega (arith, lt)) (λ i le below. on_ring joins n s i ring (omega (arith, below, within)) (others i le below))

-- where it is: down to the first node, over the last, and down
around : (joins : ℕ → ℕ → ℕ → Type 0) (n s a b : ℕ) → HasRing joins n s → a < s → s ≤ b → b < n → Connected joins a b
around joins n s a b ring low high within =
    let down : (i : ℕ) → i + 1 < n → i + 1 ≢ s → joins i (i + 1) i = λ i lt other. ring.turns i i (i + 1) (on_ring joins n s i ring lt other) in
    let last = n - 1 in
    let over : joins last 0 last = ring.turns last last 0 (closed joins n s last ring (omega (arith, within)) (λ e. omega (arith, e, high, within))) in
    let rest : Connected joins last b =
    fall joins (last - b) last b b (omega (arith, within)) (λ i le lt. down i (omega (arith, lt)) (λ e. omega (arith, e, le, high)))
    (record { along = []; nodes = []; leads = tt; ends = refl }) in
    fall joins a a 0 b (omega arith) (λ i le lt. down i (omega (arith, lt, low, high, within)) (λ e. omega (arith, e, lt, low)))
    (step joins last 0 last b over rest)

-- each node with each later one
pub ring_connects : (joins : ℕ → ℕ → ℕ → Type 0) (n s a b : ℕ) → HasRing joins n s → a < b → b < n → Connected joins a b
ring_connects joins n s a b ring lt within =
    ⊎_elim
    (λ (low : a < s). ⊎_elim
    (λ (past : b < s). straight joins n s a b ring lt within (λ i le below e. omega (arith, e, below, past)))
    (λ (high : s ≤ b). around joins n s a b ring low high within)
    (cases_lt b s))
    (λ (before : s ≤ a). straight joins n s a b ring lt within (λ i le below e. omega (arith, e, le, before)))
    (cases_lt a s)
