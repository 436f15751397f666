-- items in preorder, which take places in turn
use Rattle.std.specs.Prelude.{◌++◌, List, [], ◌∷◌}

-- the items take these places in turn, and use them up: each is one of its place, and puts the places below it before the later ones
abbrev pub ArePlaced : {P T : Type 0} → (P → T → List P) → (P → T → Type 0) → List P → List T → Type 0
ArePlaced below is [] [] = Unit {0}
ArePlaced below is [] (t ∷ ts) = ⊥
ArePlaced below is (p ∷ ps) [] = ⊥
ArePlaced below is (p ∷ ps) (t ∷ ts) = is p t × ArePlaced below is (below p t ++ ps) ts
