-- a report of another network, or of another failure list
use Rattle.std.{specs.Prelude.{◌≡◌, ◌⊎◌, ℕ, Bool, true, false, ◌||◌, cond, List, [], ◌∷◌, ◌++◌, codes, nat_eq}, specs.List.starts_with}
use Rattle.net_core.{specs.Terms.{Case, is_named}, specs.declared.places.Places.Places, specs.declared.places.Places.TheVariants.{Six, Three}}
use Rattle.plan_report.specs.Texts.{report_header}
use Rattle.fault_texts.specs.Quotes.{BeginsToken, note_text}
use Rattle.fault_messages.{specs.Headers.IsHeaderNote, specs.declared.header.FileFormat.TheVariants.Report}

-- the other number of places after the point
abbrev pub other_places : Places → Places
other_places Three = Six
other_places Six = Three

-- what is said of a report whose network doesn't have this number of places, but the other one
abbrev pub other_network : Places → List ℕ
other_network Three = codes "the report is of another network: one with a number finer than thousandths, which this one hasn't"
other_network Six = codes "the report is of another network: one without a number finer than thousandths, which this one has"

-- the bytes begin with the first line of a report of a network with this number of places
abbrev pub begins_report : Places → List ℕ → Bool
begins_report places bytes = starts_with nat_eq bytes (report_header places ++ 10 ∷ [])

-- A line on a file whose header isn't that of a report of a network with this number of places: that it is of another network, if it is a
-- report of one with the other number of places; else what the file seems to be.
abbrev pub IsReportHeaderNote : Places → List ℕ → List ℕ → Type 0
IsReportHeaderNote places bytes note =
    ((begins_report (other_places places) bytes ≡ true) × (note ≡ note_text (other_network places)))
    ⊎ ((begins_report (other_places places) bytes ≡ false) × IsHeaderNote Report bytes note)

-- whether a node, a link, a listed state or a demand has the name
abbrev pub is_known : Case → List ℕ → Bool
is_known p w = is_named (λ n. n) w p.nodes || is_named (λ l. l.name) w p.links || is_named (λ s. s.name) w p.listed || is_named (λ d. d.name) w p.demands

-- what is said of a name that is known, or isn't
abbrev pub foreign_text : Bool → List ℕ
foreign_text known =
    cond known [] (note_text (codes "nothing in these files has this name: the report is of another network or failure list, or was changed by hand"))

-- a line on the word that begins at a place: that nothing has this name, if so
abbrev pub IsForeignNote : Case → List ℕ → ℕ → List ℕ → Type 0
IsForeignNote p text at note =
    (((word : List ℕ) → BeginsToken text at word → ⊥) × (note ≡ []))
    ⊎ ((word : List ℕ) × BeginsToken text at word × (note ≡ foreign_text (is_known p word)))
