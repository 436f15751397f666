-- the grammar of a model file: eight keys, each with a value
use Rattle.std.{specs.Prelude.{◌≡◌, ◌≢◌, ℕ, Bool, true, false, List, [], ◌∷◌, AllPairs, Any, flat_map, codes}, specs.List.list_any}
use Rattle.text_kit.specs.Terms.{SpellsAs, Item, Verbatim}
use Rattle.model_reader.{specs.declared.model.Model.Model, specs.declared.model.ModelKey.ModelKey, specs.declared.model.ModelKey.TheVariants.{Demand, Link, LinkCapacity, FixedCharge, Routing, AdmissiblePath, HopLimit, Survivability}, specs.declared.model.Setting.Setting, specs.declared.model.Setting.TheVariants.{Charge, Plain, Reconfiguration}}

-- the first line of a model file
abbrev pub model_header : List ℕ
model_header = codes "?SNDlib native format; type: model; version: 1.0"

-- the word of a key: the aspects of SNDlib's planning models
abbrev pub key_word : ModelKey → List ℕ
key_word Demand = codes "DEMAND_MODEL"
key_word Link = codes "LINK_MODEL"
key_word LinkCapacity = codes "LINK_CAPACITY_MODEL"
key_word FixedCharge = codes "FIXED_CHARGE_MODEL"
key_word Routing = codes "ROUTING_MODEL"
key_word AdmissiblePath = codes "ADMISSIBLE_PATH_MODEL"
key_word HopLimit = codes "HOP_LIMIT_MODEL"
key_word Survivability = codes "SURVIVABILITY_MODEL"

-- the plain value of a key
abbrev pub plain_word : ModelKey → List ℕ
plain_word Demand = codes "UNDIRECTED"
plain_word Link = codes "UNDIRECTED"
plain_word LinkCapacity = codes "MODULAR_CAPACITIES"
plain_word FixedCharge = codes "NO"
plain_word Routing = codes "CONTINUOUS"
plain_word AdmissiblePath = codes "ALL_PATHS"
plain_word HopLimit = codes "NO"
plain_word Survivability = codes "NO_SURVIVABILITY"

-- a setting's key and the word of its value
abbrev pub key_of : Setting → ModelKey
key_of (Plain key) = key
key_of Reconfiguration = Survivability
key_of Charge = FixedCharge

abbrev pub value_word : Setting → List ℕ
value_word (Plain key) = plain_word key
value_word Reconfiguration = codes "UNRESTRICTED_FLOW_RECONFIGURATION"
value_word Charge = codes "YES"

-- a key and its value
abbrev pub setting_items : Setting → List Item
setting_items s = Verbatim (key_word (key_of s)) ∷ Verbatim (codes "=") ∷ Verbatim (value_word s) ∷ []

-- each key is there once
pub record IsEachOnce (settings : List Setting) : Type 0 where
  pub different : AllPairs (λ a b. key_of a ≢ key_of b) settings
  pub all : (key : ModelKey) → Any (λ s. key_of s ≡ key) settings

-- the setting asks for reconfiguration
abbrev pub asks_to_reconfigure : Setting → Bool
asks_to_reconfigure Reconfiguration = true
asks_to_reconfigure _ = false

-- the setting asks for a fixed charge
abbrev pub asks_to_charge : Setting → Bool
asks_to_charge Charge = true
asks_to_charge _ = false

-- the model of settings
abbrev pub model_of_settings : List Setting → Model
model_of_settings settings = record { reconfigure = list_any asks_to_reconfigure settings; charge = list_any asks_to_charge settings }

-- the bytes of a file spell this model: its settings in any order, each key once
abbrev pub SpellsModel : List ℕ → Model → Type 0
SpellsModel bytes model = SpellsAs model_header (flat_map setting_items) IsEachOnce model_of_settings bytes model
