-- commands, and the words that give them
use Rattle.std.{specs.Prelude.{◌≡◌, ℕ, ◌==◌, ◌≤◌, ◌<◌, ◌^◌, Bool, true, false, not, List, [], ◌∷◌, String, string_bytes, codes, All, length, map}, specs.Global.Global, specs.Str.Parse.{IsNumeral, digits_value}}
use Rattle.input_files.specs.InputWords.{PlanWords, default}

-- a command: a plan for files; a session of a script; the check of a report; a trimmed plan for files; a plan for files with a branch tree of at most this
-- number of splits; the import of a file of flows; or a sample of a seed with this number of nodes
pub data Command : Type 0 where
  Plan : PlanWords → Command
  Session : PlanWords → List ℕ → Command
  Check : PlanWords → List ℕ → Command
  Trim : PlanWords → Command
  Prove : ℕ → PlanWords → Command
  Import : PlanWords → List ℕ → Command
  Sample : ℕ → ℕ → Command

-- a word that may name a file: it isn't empty and doesn't begin with `-`
abbrev pub may_be_file : List ℕ → Bool
may_be_file [] = false
may_be_file (b ∷ bytes) = not (b == 45)

-- one, two or three words are the files; a word that is missing is read as `default`
abbrev pub AreFiles : List (List ℕ) → PlanWords → Type 0
AreFiles (n ∷ []) w = w ≡ record { network = n; model = default; failures = default }
AreFiles (n ∷ m ∷ []) w = w ≡ record { network = n; model = m; failures = default }
AreFiles (n ∷ m ∷ f ∷ []) w = w ≡ record { network = n; model = m; failures = f }
AreFiles _ w = ⊥

-- four words are the files and one more file
abbrev pub AreFourFiles : List (List ℕ) → PlanWords → List ℕ → Type 0
AreFourFiles (n ∷ m ∷ f ∷ l ∷ []) w last = (w ≡ record { network = n; model = m; failures = f }) × (last ≡ l)
AreFourFiles _ w last = ⊥

-- one or more digits, at most `most`, that write the number `n`
pub record IsNumberWord (most n : ℕ) (word : List ℕ) : Type 0 where
  pub numeral : IsNumeral 10 word
  pub short : length word ≤ most
  pub value : digits_value 10 word ≡ n

-- two words are the seed of a sample, below 2^64, and its number of nodes, from 4 to 40
abbrev pub AreSample : List (List ℕ) → ℕ → ℕ → Type 0
AreSample (s ∷ n ∷ []) seed nodes = IsNumberWord 20 seed s × (seed < 2 ^ 64) × IsNumberWord 2 nodes n × (4 ≤ nodes) × (nodes ≤ 40)
AreSample _ seed nodes = ⊥

-- the first word is a limit of splits, from 1 to 9,999, and the others are the files
abbrev pub AreProof : List (List ℕ) → ℕ → PlanWords → Type 0
AreProof [] limit w = ⊥
AreProof (l ∷ files) limit w = IsNumberWord 4 limit l × (1 ≤ limit) × (limit ≤ 9999) × AreFiles files w

-- each of the words may name a file
abbrev pub MayBeFiles : List (String Global) → Type 0
MayBeFiles words = All (λ word. may_be_file (string_bytes word) ≡ true) words

-- a command's name, and the words after it
abbrev pub IsNamed : List ℕ → List (List ℕ) → Command → Type 0
IsNamed name words (Plan w) = (name ≡ codes "plan") × AreFiles words w
IsNamed name words (Session w script) = (name ≡ codes "session") × AreFourFiles words w script
IsNamed name words (Check w report) = (name ≡ codes "check") × AreFourFiles words w report
IsNamed name words (Trim w) = (name ≡ codes "trim") × AreFiles words w
IsNamed name words (Prove limit w) = (name ≡ codes "prove") × AreProof words limit w
IsNamed name words (Import w flows) = (name ≡ codes "import") × AreFourFiles words w flows
IsNamed name words (Sample seed nodes) = (name ≡ codes "sample") × AreSample words seed nodes

-- the words are those of the command
abbrev pub IsCommand : List (String Global) → Command → Type 0
IsCommand [] c = ⊥
IsCommand (name ∷ words) c = MayBeFiles words × IsNamed (string_bytes name) (map string_bytes words) c

-- the line that answers words outside the grammar
abbrev pub usage : List ℕ
usage = codes "usage: plan NET [MODEL [FAILURES]] | session NET MODEL FAILURES SCRIPT | check NET MODEL FAILURES REPORT | sample SEED N | trim NET [MODEL [FAILURES]] | prove LIMIT NET [MODEL [FAILURES]] | import NET MODEL FAILURES FLOWS\n"
