-- counts with one module less, and the modules of positive count
use Rattle.std.proofs.Common.{◌≡◌, ◌∙◌, ℕ, zero, suc, ◌+◌, ◌<◌, List, [], ◌∷◌, ◌++◌, Contains, get_or, length, slice_index, take, refl, sym, ap, subst, add-one, zero-add, arith, append_assoc, append-nil}
use Rattle.net_core.proofs.Library.{Contains-append_left, Contains-append_right}
use Rattle.trim_plan.specs.Trimmed.{module_count, links_in_use, modules_in_use}

-- ---- places

next_place : (k m : ℕ) → (k + 1) + m ≡ k + suc m
next_place k m = omega arith

same_place : (k : ℕ) → k ≡ k + 0
same_place k = omega arith

-- the modules of positive count, one module after another
modules_none : (e k : ℕ) (counts : List ℕ) (m : ℕ) → m < length counts → slice_index counts m ≡ 0 → modules_in_use e k (take (suc m) counts) ≡ modules_in_use e k (take m counts)
modules_none e k [] m lt none = absurd (omega (arith, lt))
modules_none e k (zero ∷ cs) zero lt none = refl
modules_none e k (suc n ∷ cs) zero lt none = absurd (let no : suc n ≡ 0 = none in omega (arith, no))
modules_none e k (zero ∷ cs) (suc m) lt none = modules_none e (k + 1) cs m (omega (arith, lt)) none
modules_none e k (suc n ∷ cs) (suc m) lt none = ap (λ ps. (e, k) ∷ ps) (modules_none e (k + 1) cs m (omega (arith, lt)) none)

modules_one : (e k : ℕ) (counts : List ℕ) (m : ℕ) → m < length counts → 0 < slice_index counts m → modules_in_use e k (take (suc m) counts) ≡ modules_in_use e k (take m counts) ++ (e, k + m) ∷ []
modules_one e k [] m lt some = absurd (omega (arith, lt))
modules_one e k (zero ∷ cs) zero lt some = absurd (let no : 0 < 0 = some in omega (arith, no))
modules_one e k (suc n ∷ cs) zero lt some = ap (λ j. (e, j) ∷ []) (same_place k)
modules_one e k (zero ∷ cs) (suc m) lt some =
    modules_one e (k + 1) cs m (omega (arith, lt)) some ∙ ap (λ j. modules_in_use e (k + 1) (take m cs) ++ (e, j) ∷ []) (next_place k m)
modules_one e k (suc n ∷ cs) (suc m) lt some =
    ap (λ ps. (e, k) ∷ ps) (modules_one e (k + 1) cs m (omega (arith, lt)) some ∙ ap (λ j. modules_in_use e (k + 1) (take m cs) ++ (e, j) ∷ []) (next_place k m))

-- so it is at the next module of a link
pub module_skipped : (e : ℕ) (counts : List ℕ) (m : ℕ) → m < length counts → slice_index counts m ≡ 0 → modules_in_use e 0 (take (m + 1) counts) ≡ modules_in_use e 0 (take m counts)
module_skipped e counts m lt none = ap (λ n. modules_in_use e 0 (take n counts)) (add-one m) ∙ modules_none e 0 counts m lt none

pub module_added : (e : ℕ) (counts : List ℕ) (m : ℕ) → m < length counts → 0 < slice_index counts m → modules_in_use e 0 (take (m + 1) counts) ≡ modules_in_use e 0 (take m counts) ++ (e, m) ∷ []
module_added e counts m lt some =
    ap (λ n. modules_in_use e 0 (take n counts)) (add-one m) ∙ modules_one e 0 counts m lt some ∙ ap (λ j. modules_in_use e 0 (take m counts) ++ (e, j) ∷ []) (zero-add m)

-- the modules of positive count, one link after another
links_one : (k : ℕ) (counts : List (List ℕ)) (e : ℕ) → e < length counts → links_in_use k (take (suc e) counts) ≡ links_in_use k (take e counts) ++ modules_in_use (k + e) 0 (get_or counts e [])
links_one k [] e lt = absurd (omega (arith, lt))
links_one k (c ∷ cs) zero lt = append-nil (modules_in_use k 0 c) ∙ ap (λ j. modules_in_use j 0 c) (same_place k)
links_one k (c ∷ cs) (suc e) lt =
    ap (λ ps. modules_in_use k 0 c ++ ps) (links_one (k + 1) cs e (omega (arith, lt)) ∙ ap (λ j. links_in_use (k + 1) (take e cs) ++ modules_in_use j 0 (get_or cs e [])) (next_place k e))
    ∙ sym (append_assoc (modules_in_use k 0 c) (links_in_use (k + 1) (take e cs)) (modules_in_use (k + suc e) 0 (get_or cs e [])))

pub links_more : (counts : List (List ℕ)) (e : ℕ) → e < length counts → links_in_use 0 (take (e + 1) counts) ≡ links_in_use 0 (take e counts) ++ modules_in_use e 0 (get_or counts e [])
links_more counts e lt =
    ap (λ n. links_in_use 0 (take n counts)) (add-one e) ∙ links_one 0 counts e lt ∙ ap (λ j. links_in_use 0 (take e counts) ++ modules_in_use j 0 (get_or counts e [])) (zero-add e)

-- each module of positive count is among them
module_used : (e k : ℕ) (counts : List ℕ) (m : ℕ) → 0 < slice_index counts m → Contains (modules_in_use e k counts) (e, k + m)
module_used e k [] m some = absurd (omega (arith, some))
module_used e k (zero ∷ cs) zero some = absurd (let no : 0 < 0 = some in omega (arith, no))
module_used e k (suc n ∷ cs) zero some = (0, omega arith, ap (λ j. (e, j)) (same_place k))
module_used e k (zero ∷ cs) (suc m) some = subst (λ j. Contains (modules_in_use e (k + 1) cs) (e, j)) (next_place k m) (module_used e (k + 1) cs m some)
module_used e k (suc n ∷ cs) (suc m) some =
    Contains-append_right ((e, k) ∷ []) (modules_in_use e (k + 1) cs) (e, k + suc m)
    (subst (λ j. Contains (modules_in_use e (k + 1) cs) (e, j)) (next_place k m) (module_used e (k + 1) cs m some))

place_from : (k : ℕ) (counts : List (List ℕ)) (e m : ℕ) → 0 < module_count counts e m → Contains (links_in_use k counts) (k + e, m)
place_from k [] e m some = absurd (omega (arith, some))
place_from k (c ∷ cs) zero m some =
    subst (λ j. Contains (modules_in_use k 0 c ++ links_in_use (k + 1) cs) (j, m)) (same_place k)
    (Contains-append_left (modules_in_use k 0 c) (links_in_use (k + 1) cs) (k, m) (subst (λ j. Contains (modules_in_use k 0 c) (k, j)) (zero-add m) (module_used k 0 c m some)))
place_from k (c ∷ cs) (suc e) m some =
    Contains-append_right (modules_in_use k 0 c) (links_in_use (k + 1) cs) (k + suc e, m)
    (subst (λ j. Contains (links_in_use (k + 1) cs) (j, m)) (next_place k e) (place_from (k + 1) cs e m some))

pub place_used : (counts : List (List ℕ)) (e m : ℕ) → 0 < module_count counts e m → Contains (links_in_use 0 counts) (e, m)
place_used counts e m some = subst (λ j. Contains (links_in_use 0 counts) (j, m)) (zero-add e) (place_from 0 counts e m some)
