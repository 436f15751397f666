-- modules with their costs, one after another
use Rattle.std.proofs.Common.{◌≡◌, ◌∙◌, ℕ, zero, suc, ◌+◌, ◌<◌, List, [], ◌∷◌, ◌++◌, get_or, length, take, sym, ap, arith, append_assoc, append-nil}
use Rattle.plan_terms.specs.Terms.{Link, Module}
use Rattle.trim_plan.{specs.declared.dearest.Priced.Priced, specs.Dearest.{priced_links, priced_modules}}

-- one module more
pub priced_more : (e m k : ℕ) (modules : List Module) (x : Module) → k < length modules
    → priced_modules e m (take (k + 1) modules) ≡ priced_modules e m (take k modules) ++ record { cost = (get_or modules k x).cost; place = record { link = e; «module» = m + k } } ∷ []
priced_more e m k [] x lt = absurd (omega (arith, lt))
priced_more e m zero (y ∷ modules) x lt =
    ap (λ n. record { cost = y.cost; place = record { link = e; «module» = n } } ∷ []) (omega arith)
priced_more e m (suc k) (y ∷ modules) x lt =
    let next : suc k + 1 ≡ suc (k + 1) = omega arith in
    rw next
    (ap (λ ps. record { cost = y.cost; place = record { link = e; «module» = m } } ∷ ps)
    (priced_more e (m + 1) k modules x (omega (arith, lt))
    ∙ ap (λ n. priced_modules e (m + 1) (take k modules) ++ record { cost = (get_or modules k x).cost; place = record { link = e; «module» = n } } ∷ []) (omega arith)))

-- one link more
pub links_more : (e k : ℕ) (links : List Link) (x : Link) → k < length links
    → priced_links e (take (k + 1) links) ≡ priced_links e (take k links) ++ priced_modules (e + k) 0 (get_or links k x).modules
links_more e k [] x lt = absurd (omega (arith, lt))
links_more e zero (l ∷ links) x lt = append-nil (priced_modules e 0 l.modules) ∙ ap (λ n. priced_modules n 0 l.modules) (omega arith)
links_more e (suc k) (l ∷ links) x lt =
    let next : suc k + 1 ≡ suc (k + 1) = omega arith in
    rw next
    (ap (λ ps. priced_modules e 0 l.modules ++ ps)
    (links_more (e + 1) k links x (omega (arith, lt)) ∙ ap (λ n. priced_links (e + 1) (take k links) ++ priced_modules n 0 (get_or links k x).modules) (omega arith))
    ∙ sym (append_assoc (priced_modules e 0 l.modules) (priced_links (e + 1) (take k links)) (priced_modules (e + suc k) 0 (get_or links k x).modules)))

-- a module is put after those before it
pub module_put : (e k : ℕ) (modules : List Module) (x : Module) (old so_far new : List Priced) → k < length modules
    → new ≡ so_far ++ record { cost = (get_or modules k x).cost; place = record { link = e; «module» = k } } ∷ []
    → so_far ≡ old ++ priced_modules e 0 (take k modules) → new ≡ old ++ priced_modules e 0 (take (k + 1) modules)
module_put e k modules x old so_far new lt put is =
    let p : ℕ → Priced = λ n. record { cost = (get_or modules k x).cost; place = record { link = e; «module» = n } } in
    put
    ∙ ap (λ ps. ps ++ p k ∷ []) is
    ∙ append_assoc old (priced_modules e 0 (take k modules)) (p k ∷ [])
    ∙ ap (λ ps. old ++ ps) (sym (priced_more e 0 k modules x lt ∙ ap (λ n. priced_modules e 0 (take k modules) ++ p n ∷ []) (omega arith)))

-- the modules of a link are put after those of the links before it
pub link_put : (e : ℕ) (links : List Link) (x : Link) (so_far new : List Priced) → e < length links
    → new ≡ so_far ++ priced_modules e 0 (get_or links e x).modules
    → so_far ≡ priced_links 0 (take e links) → new ≡ priced_links 0 (take (e + 1) links)
link_put e links x so_far new lt put is =
    put
    ∙ ap (λ ps. ps ++ priced_modules e 0 (get_or links e x).modules) is
    ∙ sym (links_more 0 e links x lt ∙ ap (λ n. priced_links 0 (take e links) ++ priced_modules n 0 (get_or links e x).modules) (omega arith))
