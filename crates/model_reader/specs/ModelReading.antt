-- Reading a model file from left to right: the tests of its words, and their order.
use Rattle.std.specs.Prelude.{ℕ, Bool, cond, not, ◌&&◌, if◌then◌else◌, List, [], ◌∷◌, Option, Some, None, option_map, Result, Ok, Err, codes}
use Rattle.net_core.specs.Terms.{are_same, is_named}
use Rattle.text_kit.specs.Terms.{file_at, Read, Reading, ◌>>=◌, word_at, expected, TheEnd, list_at, mapped}
use Rattle.model_reader.{specs.declared.model.Model.Model, specs.declared.model.ModelKey.ModelKey, specs.declared.model.ModelKind.ModelKind, specs.declared.model.Setting.Setting, specs.declared.model.Setting.TheVariants.{Charge, Plain, Reconfiguration}, specs.Models.{model_header, key_of, key_word, model_of_settings, plain_word, value_word}}
use Rattle.model_reader.specs.declared.model.ModelKey.TheVariants as aspects
use Rattle.model_reader.specs.declared.model.ModelKind.TheVariants as kinds

-- the keys in the order in which the first missing one is told
abbrev pub all_keys : List ModelKey
all_keys = aspects.Demand ∷ aspects.Link ∷ aspects.LinkCapacity ∷ aspects.FixedCharge ∷ aspects.Routing ∷ aspects.AdmissiblePath ∷ aspects.HopLimit
    ∷ aspects.Survivability ∷ []

-- the first key that passes a test
abbrev pub first_key : (ModelKey → Bool) → List ModelKey → Option ModelKey
first_key test [] = None
first_key test (k ∷ ks) = cond (test k) (Some k) (first_key test ks)

-- one of the settings has the key
abbrev pub has_key : List Setting → ModelKey → Bool
has_key settings k = is_named (λ s. key_word (key_of s)) (key_word k) settings

-- a key that no earlier setting has
abbrev pub new_key : List Setting → Option ModelKey → Result ModelKey ModelKind
new_key sofar None = Err kinds.Key
new_key sofar (Some k) = if has_key sofar k then Err kinds.DoubleKey else Ok k

-- a word as a key after earlier settings
abbrev pub key_after : List Setting → List ℕ → Result ModelKey ModelKind
key_after sofar w = new_key sofar (first_key (λ k. are_same (key_word k) w) all_keys)

-- a key and a word spell this setting
abbrev pub is_setting : Setting → ModelKey → List ℕ → Bool
is_setting s k w = are_same (key_word k) (key_word (key_of s)) && are_same w (value_word s)

-- a word as the value of a key
abbrev pub value_of : ModelKey → List ℕ → Result Setting ModelKind
value_of k w =
    if are_same w (plain_word k) then Ok (Plain k)
    else (if is_setting Reconfiguration k w then Ok Reconfiguration
    else (if is_setting Charge k w then Ok Charge else Err (kinds.Unsupported k)))

-- a key, the sign after it, and its value
unfoldable pub setting_at : List Setting → Reading ModelKind Setting
setting_at sofar = do
  k ← word_at kinds.Token kinds.Ended (key_after sofar)
  _ ← word_at kinds.Token kinds.Ended (expected kinds.Token (codes "="))
  word_at kinds.Token kinds.Ended (value_of k)

-- the first key that is missing at the end
abbrev pub missing : List Setting → Option ModelKind
missing settings = option_map (λ k. kinds.Missing k) (first_key (λ k. not (has_key settings k)) all_keys)

-- a whole file: its model, or its first fault by place
abbrev pub model_of : List ℕ → Read ModelKind Model
model_of bytes = file_at kinds.Header model_header (mapped model_of_settings (list_at TheEnd missing setting_at [])) bytes
