-- the lines of a check
use Rattle.std.{specs.Prelude.{ℕ, zero, suc, List, [], ◌∷◌, ◌++◌, codes, decimal, flat_map, slice_get}, specs.Option.option_map_or}
use Rattle.plan_terms.specs.Terms.{Demand, Link, Places}
use Rattle.plan_report.specs.Terms.{demand_name, link_name, Outcome, Planned, Unsurvivable}
use Rattle.report_checker.specs.Terms.{Finding, NotesDiffer, EntryDiffers, PoolCount, BadCut, PoolDiffers, VersionDiffers, DemandsDiffer, Survivable, BadPath, NotCarried, Overloaded, CostDiffers, LocalCut, RightDiffers, PriceExceeded, CertificateWide, RawDiffers, BoundDiffers, NotTight}
use Rattle.text_kit.specs.Terms.{money_word}

-- words, each after a space
abbrev pub spaced : List (List ℕ) → List ℕ
spaced words = flat_map (λ w. 32 ∷ w) words

-- the demands of an outcome, by which a finding names one
abbrev pub demands_of_outcome : Outcome → List Demand
demands_of_outcome (Planned caller serial plan) = plan.demands
demands_of_outcome (Unsurvivable caller serial version position state demand) = []

-- the words of a finding, whose money has these places
abbrev pub finding_words : Places → List Link → List Demand → Finding → List (List ℕ)
finding_words places links demands NotesDiffer = codes "notes-differ" ∷ []
finding_words places links demands (EntryDiffers position) = codes "entry-differs" ∷ decimal position ∷ []
finding_words places links demands (PoolCount lines cuts) = codes "pool-count" ∷ decimal lines ∷ decimal cuts ∷ []
finding_words places links demands (BadCut i) = codes "bad-cut" ∷ decimal i ∷ []
finding_words places links demands (PoolDiffers i a b) = codes "pool-differs" ∷ decimal i ∷ decimal a ∷ decimal b ∷ []
finding_words places links demands (VersionDiffers a b) = codes "version-differs" ∷ decimal a ∷ decimal b ∷ []
finding_words places links demands DemandsDiffer = codes "demands-differ" ∷ []
finding_words places links demands Survivable = codes "survivable" ∷ []
finding_words places links demands (BadPath s flow) = codes "bad-path" ∷ decimal s.0 ∷ decimal flow ∷ []
finding_words places links demands (NotCarried s k) = codes "not-carried" ∷ decimal s.0 ∷ demand_name demands k ∷ []
finding_words places links demands (Overloaded s e) = codes "overloaded" ∷ decimal s.0 ∷ link_name links e ∷ []
finding_words places links demands (CostDiffers a b) = codes "cost-differs" ∷ money_word places a ∷ money_word places b ∷ []
finding_words places links demands (LocalCut i) = codes "local-cut" ∷ decimal i ∷ []
finding_words places links demands (RightDiffers i a b) = codes "right-differs" ∷ decimal i ∷ decimal a ∷ decimal b ∷ []
finding_words places links demands (PriceExceeded e m) = codes "price-exceeded" ∷ link_name links e ∷ decimal m ∷ []
finding_words places links demands CertificateWide = codes "certificate-wide" ∷ []
finding_words places links demands RawDiffers = codes "raw-differs" ∷ []
finding_words places links demands (BoundDiffers a b) = codes "bound-differs" ∷ money_word places a ∷ money_word places b ∷ []
finding_words places links demands NotTight = codes "not-tight" ∷ []

-- the words for an outcome that a finding concerns, counted from 1; none where it concerns the whole report
abbrev pub place_words : ℕ → List (List ℕ)
place_words zero = []
place_words (suc j) = codes "outcome" ∷ decimal (suc j) ∷ []

-- the demands of the outcome that a finding concerns
abbrev pub demands_there : List Outcome → ℕ → List Demand
demands_there outcomes zero = []
demands_there outcomes (suc j) = option_map_or demands_of_outcome (slice_get outcomes j) []

-- the line of a report with this first finding, on the outcome of this number
abbrev pub rejected_line : Places → List Link → List Outcome → ℕ → Finding → List ℕ
rejected_line places links outcomes outcome finding =
    codes "rejected" ++ spaced (place_words outcome ++ finding_words places links (demands_there outcomes outcome) finding) ++ 10 ∷ []

-- the line of a report without a finding: how many outcomes it has
abbrev pub accepted_line : ℕ → List ℕ
accepted_line outcomes = codes "accepted " ++ decimal outcomes ++ 10 ∷ []
