-- The reading of a model file takes exactly the texts of models.
use Rattle.std.proofs.Common.{◌≡◌, ℕ, true, false, List, [], ◌∷◌, Result, Ok, IfOk, IfErr, refl, append-nil, codes, flat_map}
use Rattle.net_core.specs.Terms.{are_same}
use Rattle.snd_tokens.specs.Terms.{first_line, trimmed, Text, EndAt}
use Rattle.text_kit.{specs.Terms.{AnswersAs, ReadsAllAs, IsNotTooEarly, body, Verbatim, word_at, expected, TheEnd, list_at}, specs.declared.refusal.Refusal.Refusal, proofs.Lemmas.{answer_found, answer_only, answer_first, file_read, AnyText, IsEnd, Lawful, lawful_as, lawful_key, lawful_list, lawful_then, lawful_word, IsOnline, TakesSome, online_list, online_then, online_word, takes_some}}
use Rattle.model_reader.{specs.declared.model.Model.Model, specs.declared.model.ModelKey.ModelKey, specs.declared.model.ModelKind.ModelKind, specs.declared.model.ModelKind.TheVariants.{Header, Token, Ended}, specs.declared.model.Setting.Setting, specs.Models.{IsEachOnce, SpellsModel, model_header, key_of, key_word, model_of_settings, setting_items, value_word}, specs.ModelReading.{has_key, key_after, missing, model_of, setting_at, value_of}, proofs.ModelKeys.{complete, each_once, key_after_again, key_takes, value_again, value_takes}}

key_lawful : (sofar : List Setting) → Lawful (word_at Token Ended (key_after sofar)) (λ k. Verbatim (key_word k) ∷ []) (λ k. has_key sofar k ≡ false) AnyText
key_lawful sofar = lawful_word Token Ended (key_after sofar) (λ k. Verbatim (key_word k)) (λ k. has_key sofar k ≡ false) (λ k. tt) (key_takes sofar) (λ w k new is. key_after_again sofar w k new is)

value_lawful : (k : ModelKey) → Lawful (word_at Token Ended (value_of k)) (λ s. Verbatim (value_word s) ∷ []) (λ s. k ≡ key_of s) AnyText
value_lawful k = lawful_word Token Ended (value_of k) (λ s. Verbatim (value_word s)) (λ s. k ≡ key_of s) (λ s. tt) (value_takes k) (λ w s is value. value_again k w s is value)

setting_lawful : (sofar : List Setting) → Lawful (setting_at sofar) setting_items (λ s. has_key sofar (key_of s) ≡ false) AnyText
unfolding setting_at
setting_lawful sofar = lawful_as (setting_at sofar) _ setting_items _ (λ s. has_key sofar (key_of s) ≡ false) AnyText (λ s h. refl) (λ s h. h.0) (λ s h. (h, (tt, refl)))
    (lawful_then _ _ _ _ _ _ AnyText key_of (λ k s h. h.1) (key_lawful sofar) (λ k.
    lawful_then _ _ _ _ _ _ AnyText (λ s. tt) (λ a s h. refl) (lawful_key Token Ended Token (codes "=")) (λ a.
    value_lawful k)))

settings_lawful : Lawful (list_at TheEnd missing setting_at []) (λ ss. flat_map setting_items ss) IsEachOnce IsEnd
settings_lawful = lawful_as (list_at TheEnd missing setting_at []) _ (λ ss. flat_map setting_items ss) _ IsEachOnce IsEnd (λ ss h. append-nil (flat_map setting_items ss)) each_once complete
    (lawful_list TheEnd missing setting_at setting_items (λ sofar s. has_key sofar (key_of s) ≡ false) (λ s. tt) setting_lawful)

setting_online : (sofar : List Setting) → IsOnline (setting_at sofar)
unfolding setting_at
setting_online sofar =
    online_then _ _ (online_word Token Ended (key_after sofar)) (λ k.
    online_then _ _ (online_word Token Ended (expected Token (codes "="))) (λ a.
    online_word Token Ended (value_of k)))

pub setting_some : (sofar : List Setting) → TakesSome (setting_at sofar)
unfolding setting_at
setting_some sofar = takes_some (setting_at sofar) (setting_online sofar) (λ p. Ended) (λ p. refl)

-- ---- whole files

pub model_read : (bytes : List ℕ) (settings : List Setting) (rest : Text) → are_same (trimmed (first_line bytes)) model_header ≡ true → list_at TheEnd missing setting_at [] (body bytes) ≡ Ok (settings, rest) → (at : ℕ) × (model_of bytes ≡ Ok (model_of_settings settings, EndAt at))
model_read bytes settings rest line read = file_read Header model_header (list_at TheEnd missing setting_at []) model_of_settings (λ ss. flat_map setting_items ss) IsEachOnce settings_lawful bytes settings rest line read

pub model_found : (bytes : List ℕ) (a : Result Model (Refusal ModelKind)) → ReadsAllAs (λ m. m) a (model_of bytes) → IfOk a (λ m. SpellsModel bytes m)
model_found bytes a h = answer_found Header model_header (list_at TheEnd missing setting_at []) model_of_settings (λ ss. flat_map setting_items ss) IsEachOnce settings_lawful (λ m. m) bytes a h

pub model_only : (bytes : List ℕ) (a : Result Model (Refusal ModelKind)) → ReadsAllAs (λ m. m) a (model_of bytes) → (m : Model) → SpellsModel bytes m → AnswersAs (λ x. x) a m
model_only bytes a h = answer_only Header model_header (list_at TheEnd missing setting_at []) model_of_settings (λ ss. flat_map setting_items ss) IsEachOnce settings_lawful (λ m. m) bytes a h

pub model_first : (bytes : List ℕ) (a : Result Model (Refusal ModelKind)) → ReadsAllAs (λ m. m) a (model_of bytes) → IfErr a (IsNotTooEarly SpellsModel bytes)
model_first bytes a h = answer_first Header model_header (list_at TheEnd missing setting_at []) model_of_settings (λ ss. flat_map setting_items ss) IsEachOnce settings_lawful (λ m. m)
    (online_list TheEnd missing setting_at setting_online setting_some []) bytes a h
