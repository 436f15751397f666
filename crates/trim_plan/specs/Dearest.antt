-- modules with their costs, in link and module order
use Rattle.std.specs.Prelude.{ℕ, ◌+◌, ◌++◌, List, [], ◌∷◌}
use Rattle.plan_terms.specs.Terms.{Link, Module}
use Rattle.trim_plan.specs.declared.dearest.Priced.{Priced}

-- the modules of link e with their costs, from module m on, in their order
abbrev pub priced_modules : ℕ → ℕ → List Module → List Priced
priced_modules e m [] = []
priced_modules e m (x ∷ modules) = record { cost = x.cost; place = record { link = e; «module» = m } } ∷ priced_modules e (m + 1) modules

-- the modules of link e and the links after it with their costs, in link and module order
abbrev pub priced_links : ℕ → List Link → List Priced
priced_links e [] = []
priced_links e (l ∷ links) = priced_modules e 0 l.modules ++ priced_links (e + 1) links
