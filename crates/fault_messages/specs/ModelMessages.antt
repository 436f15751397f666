-- what is said of each fault of a model file
use Rattle.std.specs.Prelude.{ℕ, List, ◌++◌, codes}
use Rattle.model_reader.{specs.declared.model.ModelKey.ModelKey, specs.declared.model.ModelKind.ModelKind, specs.Models.model_header}
use Rattle.model_reader.specs.declared.model.ModelKey.TheVariants as keys
use Rattle.model_reader.specs.declared.model.ModelKind.TheVariants as kinds

-- the hint for a key that is missing: the line to add
abbrev pub missing_help : ModelKey → List ℕ
missing_help keys.Demand = codes "add: DEMAND_MODEL = UNDIRECTED"
missing_help keys.Link = codes "add: LINK_MODEL = UNDIRECTED"
missing_help keys.LinkCapacity = codes "add: LINK_CAPACITY_MODEL = MODULAR_CAPACITIES"
missing_help keys.FixedCharge = codes "add: FIXED_CHARGE_MODEL = NO, or YES"
missing_help keys.Routing = codes "add: ROUTING_MODEL = CONTINUOUS"
missing_help keys.AdmissiblePath = codes "add: ADMISSIBLE_PATH_MODEL = ALL_PATHS"
missing_help keys.HopLimit = codes "add: HOP_LIMIT_MODEL = NO"
missing_help keys.Survivability = codes "add: SURVIVABILITY_MODEL = NO_SURVIVABILITY, or UNRESTRICTED_FLOW_RECONFIGURATION"

-- which values a key may have
abbrev pub value_help : ModelKey → List ℕ
value_help keys.Demand = codes "its value is UNDIRECTED"
value_help keys.Link = codes "its value is UNDIRECTED"
value_help keys.LinkCapacity = codes "its value is MODULAR_CAPACITIES"
value_help keys.FixedCharge = codes "its value is NO or YES"
value_help keys.Routing = codes "its value is CONTINUOUS"
value_help keys.AdmissiblePath = codes "its value is ALL_PATHS"
value_help keys.HopLimit = codes "its value is NO"
value_help keys.Survivability = codes "its value is NO_SURVIVABILITY or UNRESTRICTED_FLOW_RECONFIGURATION"

-- of any fault: what is wrong, and what helps
abbrev pub model_message : ModelKind → List ℕ × List ℕ
model_message (kinds.Unsupported key) = (codes "this value can't be planned with", value_help key)
model_message (kinds.Missing key) = (codes "the file ends, and a key is missing", missing_help key)
model_message kinds.Header = (codes "this is no model", codes "the first line of a model is: " ++ model_header)
model_message kinds.Token = (codes "an aspect is a key, an equals sign and a value", codes "with spaces between them, and without parentheses")
model_message kinds.Ended = (codes "the file ends within an aspect", codes "is it cut off?")
model_message kinds.Key = (
  codes "this is no key of a model",
  codes "the keys are DEMAND_MODEL, LINK_MODEL, LINK_CAPACITY_MODEL, FIXED_CHARGE_MODEL, ROUTING_MODEL, ADMISSIBLE_PATH_MODEL, HOP_LIMIT_MODEL and SURVIVABILITY_MODEL",
)
model_message kinds.DoubleKey = (codes "this key stands twice", codes "each key is given once")
