-- The reading of a failure list takes exactly the texts of failure lists.
use Rattle.std.proofs.Common.{◌≡◌, ◌≢◌, ℕ, ◌<◌, ◌≤◌, Bool, true, false, cond, List, [], ◌∷◌, ◌++◌, length, get_or, All, AllPairs, Result, Ok, Err, IfOk, IfErr, refl, sym, ap, subst, ◌∙◌, append-nil, flat_map, codes}
use Rattle.net_core.{proofs.Library.{slice_get-get_or, same_is}, specs.Terms.{IsNetwork, AreStates, are_same, link_name}, specs.declared.ids.LinkId.LinkId, specs.declared.network.Link.Link, specs.declared.states.Listed.Listed, specs.declared.states.States.States}
use Rattle.snd_tokens.specs.Terms.{first_line, trimmed, Text, EndAt}
use Rattle.text_kit.{specs.Terms.{AnswersAs, ReadsAllAs, IsNotTooEarly, body, ComeAfter, Item, Verbatim, Opening, Closing, word_at, Parenthesis, list_at, no_fault, not_empty}, specs.declared.refusal.Refusal.Refusal, proofs.Lemmas.{all_after, after_all, after_as, after_both, IsNew, are_new, lawful_new_name, lawful_place, new_are, answer_found, answer_only, answer_first, file_read, AnyText, IsEnd, Lawful, lawful_as, lawful_give, lawful_list, lawful_open, lawful_some, lawful_then, lawful_whole, lawful_word, IsOnline, TakesSome, online_give, online_list, online_open, online_then, online_whole, online_word, takes_some}}
use Rattle.model_reader.{specs.declared.failures.FailureList.FailureList, specs.declared.failures.FailureList.TheVariants.{OneByOne, EverySingleLink}, specs.declared.failures.FailuresKind.FailuresKind, specs.declared.failures.FailuresKind.TheVariants.{Header, Section, Token, Ended, LimitName, UnknownLink, DoubleState, LimitStates}, specs.Failures.{IsListInForm, IsShort, SpellsFailures, failures_header, list_items, state_items, states_of}, specs.FailuresReading.{after_word, failure_list_at, failures_at, failures_of, failing_link_at, is_list, links_at, state_at}, proofs.FailureSingles.network_differs}

-- ---- links by name

abbrev no_link : Link
no_link = record { name = []; a = record { 0 = 0 }; b = record { 0 = 0 }; fixed = 0; setup = 0; modules = [] }

-- a link of the network whose name isn't too long
abbrev IsLinkIn : List Link → LinkId → Type 0
IsLinkIn links e = (e.0 < length links) × (length (link_name links e) ≤ 255)

abbrev AreDifferent : List Link → Type 0
AreDifferent links = AllPairs (λ x y. x.name ≢ y.name) links

name_at_place : (links : List Link) (e : LinkId) → e.0 < length links → link_name links e ≡ (get_or links e.0 no_link).name
name_at_place links e lt = rw (slice_get-get_or links e.0 no_link lt) refl

-- ---- states

-- a state that may come after earlier ones
abbrev IsStateAfter : List Link → List Listed → Listed → Type 0
IsStateAfter links sofar s = IsNew (λ x. x.name) 256 sofar s.name × ((1 ≤ length s.links) × ComeAfter (λ before e. IsLinkIn links e) [] s.links)

are_states : (links : List Link) (listed : List Listed) → ComeAfter (IsStateAfter links) [] listed → AreStates (length links) listed × All (IsShort links) listed
are_states links listed all =
    let new = are_new (λ (s : Listed). s.name) 256 listed (after_as (IsStateAfter links) (λ before s. IsNew (λ x. x.name) 256 before s.name) [] listed (λ before s h. h.0) all) in
    let each : (P : Listed → Type 0) → ((before : List Listed) (s : Listed) → IsStateAfter links before s → P s) → All P listed = λ P to. after_all P [] listed (after_as (IsStateAfter links) (λ before s. P s) [] listed to all) in
    let of_links : (P : LinkId → Type 0) (s : Listed) → ((e : LinkId) → IsLinkIn links e → P e) → ComeAfter (λ before e. IsLinkIn links e) [] s.links → All P s.links = λ P s to h. after_all P [] s.links (after_as (λ before e. IsLinkIn links e) (λ before e. P e) [] s.links (λ before e i. to e i) h) in (
      record {
        checked = record { few = new.0; some = each (λ s. 1 ≤ length s.links) (λ before s h. h.1.0); different = new.1 };
        known = each (λ s. All (λ e. e.0 < length links) s.links) (λ before s h. of_links (λ e. e.0 < length links) s (λ e i. i.0) h.1.1);
      },
      each (IsShort links) (λ before s h. (h.0.2, of_links (λ e. length (link_name links e) ≤ 255) s (λ e i. i.1) h.1.1)),
    )

are_after : (links : List Link) (listed : List Listed) → AreStates (length links) listed × All (IsShort links) listed → ComeAfter (IsStateAfter links) [] listed
are_after links listed h =
    after_as _ (IsStateAfter links) [] listed
    (λ before s i. (i.0, (i.1.0, all_after (IsLinkIn links) [] s.links (λ k d lt. (i.1.1 k d lt, i.1.2.1 k d lt)))))
    (after_both (λ before s. IsNew (λ x. x.name) 256 before s.name) _ [] listed
    (new_are (λ (s : Listed). s.name) 256 listed h.0.checked.few h.0.checked.different (λ k d lt. (h.1 k d lt).0))
    (all_after (λ s. (1 ≤ length s.links) × All (λ e. e.0 < length links) s.links × IsShort links s) [] listed (λ k d lt. (h.0.checked.some k d lt, h.0.known k d lt, h.1 k d lt))))

-- ---- the law

link_lawful : (links : List Link) → AreDifferent links → Lawful (failing_link_at links) (λ e. Verbatim (link_name links e) ∷ []) (IsLinkIn links) AnyText
link_lawful links pairs = lawful_as (failing_link_at links) _ (λ e. Verbatim (link_name links e) ∷ []) _ (IsLinkIn links) AnyText
    (λ e h. ap (λ (n : List ℕ). Verbatim n ∷ []) (sym (name_at_place links e h.0.0)))
    (λ e h. (h.0.0, subst (λ (n : List ℕ). length n ≤ 255) (sym (name_at_place links e h.0.0)) h.0.1))
    (λ e h. ((h.0, subst (λ (n : List ℕ). length n ≤ 255) (name_at_place links e h.0) h.1), refl))
    (lawful_then _ _ _ _ _ _ AnyText (λ e. e.0) (λ i e h. ap (λ (x : LinkId). x.0) h) (lawful_place (λ l. l.name) LimitName UnknownLink links no_link Token Ended pairs) (λ i.
    lawful_give (record { 0 = i })))

state_lawful : (links : List Link) → AreDifferent links → (sofar : List Listed) → Lawful (state_at links sofar) (state_items links) (IsStateAfter links sofar) AnyText
unfolding state_at
state_lawful links pairs sofar = lawful_as (state_at links sofar) _ (state_items links) _ (IsStateAfter links sofar) AnyText
    (λ s h. ap (λ (is : List Item). Verbatim s.name ∷ Opening ∷ is) (append-nil (flat_map (λ e. Verbatim (link_name links e) ∷ []) s.links ++ Closing ∷ [])))
    (λ s h. (h.0, h.1.1.0))
    (λ s h. (h.0, (tt, (h.1, refl))))
    (lawful_then _ _ _ _ _ _ AnyText (λ s. s.name) (λ a s h. ap (λ (x : Listed). x.name) h.1.1) (lawful_new_name (λ x. x.name) 256 LimitName DoubleState LimitStates Token Ended sofar) (λ name.
    lawful_then _ _ _ _ _ _ AnyText (λ s. tt) (λ a s h. refl) (lawful_open Token Ended) (λ a.
    lawful_then _ _ _ _ _ _ AnyText (λ s. s.links) (λ a s h. ap (λ (x : Listed). x.links) h) (lawful_some Token (λ before. failing_link_at links) (λ e. Verbatim (link_name links e) ∷ []) (λ before e. IsLinkIn links e) (λ e. tt) (λ before. link_lawful links pairs)) (λ failing.
    lawful_give (record { name = name; links = failing })))))

states_lawful : (links : List Link) → AreDifferent links → Lawful (list_at Parenthesis no_fault (state_at links) []) (λ xs. flat_map (state_items links) xs ++ Closing ∷ []) (λ xs. AreStates (length links) xs × All (IsShort links) xs) AnyText
states_lawful links pairs = lawful_as (list_at Parenthesis no_fault (state_at links) []) _ (λ xs. flat_map (state_items links) xs ++ Closing ∷ []) _ _ AnyText (λ xs h. refl) (λ xs h. are_states links xs h.1) (λ xs h. (refl, are_after links xs h))
    (lawful_list Parenthesis no_fault (state_at links) (state_items links) (IsStateAfter links) (λ s. tt) (state_lawful links pairs))

-- the first word, and what comes after it
abbrev is_one_by_one : FailureList → Bool
is_one_by_one (OneByOne listed) = true
is_one_by_one EverySingleLink = false

abbrev word_for : Bool → List ℕ
word_for true = codes "FAILURES"
word_for false = codes "ALL_SINGLE_LINKS"

abbrev items_after : List Link → FailureList → List Item
items_after links (OneByOne listed) = Opening ∷ (flat_map (state_items links) listed ++ Closing ∷ [])
items_after links EverySingleLink = []

abbrev listed_of : FailureList → List Listed
listed_of (OneByOne listed) = listed
listed_of EverySingleLink = []

word_if : (w : List ℕ) (one all x : Bool) → are_same w (codes "FAILURES") ≡ one → are_same w (codes "ALL_SINGLE_LINKS") ≡ all → (let r : Result Bool FailuresKind = cond one (Ok true) (cond all (Ok false) (Err Section)) in r ≡ Ok x) → w ≡ word_for x
word_if w true all true p q e = same_is w (codes "FAILURES") p
word_if w true all false p q e = absurd cc
word_if w false true true p q e = absurd cc
word_if w false true false p q e = same_is w (codes "ALL_SINGLE_LINKS") q
word_if w false false x p q e = absurd cc

word_again : (x : Bool) → is_list (word_for x) ≡ Ok x
word_again true = refl
word_again false = refl

first_lawful : Lawful (word_at Section Ended is_list) (λ x. Verbatim (word_for x) ∷ []) (λ x. Unit {0}) AnyText
first_lawful = lawful_word Section Ended is_list (λ x. Verbatim (word_for x)) (λ x. Unit {0}) (λ x. tt)
    (λ w x e. (tt, word_if w (are_same w (codes "FAILURES")) (are_same w (codes "ALL_SINGLE_LINKS")) x refl refl e))
    (λ w x is same. ap is_list same ∙ word_again x)

abbrev IsOf : List Link → Bool → FailureList → Type 0
IsOf links b l = (b ≡ is_one_by_one l) × IsListInForm links l

abbrev WasListed : List Link → FailureList → Type 0
WasListed links l = Unit {0} × ((AreStates (length links) (listed_of l) × All (IsShort links) (listed_of l)) × (OneByOne (listed_of l) ≡ l))

listed_items : (links : List Link) (l : FailureList) → WasListed links l → Opening ∷ ((flat_map (state_items links) (listed_of l) ++ Closing ∷ []) ++ []) ≡ items_after links l
listed_items links (OneByOne listed) h = ap (λ (is : List Item). Opening ∷ is) (append-nil (flat_map (state_items links) listed ++ Closing ∷ []))
listed_items links EverySingleLink h = absurd (let e : OneByOne [] ≡ EverySingleLink = h.1.1 in cc)

listed_form : (links : List Link) (l : FailureList) → WasListed links l → IsOf links true l
listed_form links (OneByOne listed) h = (refl, h.1.0)
listed_form links EverySingleLink h = absurd (let e : OneByOne [] ≡ EverySingleLink = h.1.1 in cc)

form_listed : (links : List Link) (l : FailureList) → IsOf links true l → WasListed links l
form_listed links (OneByOne listed) h = (tt, (h.1, refl))
form_listed links EverySingleLink h = absurd (let e : true ≡ false = h.0 in cc)

form_alone : (links : List Link) (l : FailureList) → IsOf links false l → EverySingleLink ≡ l
form_alone links (OneByOne listed) h = absurd (let e : false ≡ true = h.0 in cc)
form_alone links EverySingleLink h = refl

after_lawful : (links : List Link) → AreDifferent links → (b : Bool) → Lawful (after_word links b) (items_after links) (IsOf links b) AnyText
unfolding after_word
after_lawful links pairs true = lawful_as (after_word links true) _ (items_after links) (WasListed links) (IsOf links true) AnyText (listed_items links) (listed_form links) (form_listed links)
    (lawful_then _ _ _ _ _ _ AnyText (λ l. tt) (λ a l h. refl) (lawful_open Section Ended) (λ a.
    lawful_then _ _ _ _ _ _ AnyText listed_of (λ a l h. ap listed_of h) (states_lawful links pairs) (λ listed.
    lawful_give (OneByOne listed))))
after_lawful links pairs false = lawful_as (after_word links false) _ (items_after links) _ (IsOf links false) AnyText
    (λ l e. ap (items_after links) e) (λ l e. subst (λ (x : FailureList). IsOf links false x) e (refl, tt)) (form_alone links) (lawful_give EverySingleLink)

all_items : (links : List Link) (l : FailureList) → Verbatim (word_for (is_one_by_one l)) ∷ items_after links l ≡ list_items links l
all_items links (OneByOne listed) = refl
all_items links EverySingleLink = refl

failures_lawful : (links : List Link) → AreDifferent links → Lawful (failures_at links) (list_items links) (IsListInForm links) IsEnd
failures_lawful links pairs = lawful_whole Section (failure_list_at links) (list_items links) (IsListInForm links)
    (lawful_as (failure_list_at links) _ (list_items links) _ (IsListInForm links) AnyText (λ l h. all_items links l) (λ l h. h.1.1) (λ l h. (tt, (refl, h)))
    (lawful_then _ _ _ _ _ _ AnyText is_one_by_one (λ b l h. h.0) first_lawful (after_lawful links pairs)))

-- ---- a fault is at the place where it is met

link_online : (links : List Link) → IsOnline (failing_link_at links)
link_online links = online_then _ _ (online_word Token Ended _) (λ i. online_give _)

pub link_some : (links : List Link) → TakesSome (failing_link_at links)
link_some links = takes_some (failing_link_at links) (link_online links) (λ p. Ended) (λ p. refl)

links_online : (links : List Link) → IsOnline (links_at links [])
links_online links = online_list Parenthesis (not_empty Token) (λ before. failing_link_at links) (λ before. link_online links) (λ before. link_some links) []

state_online : (links : List Link) (sofar : List Listed) → IsOnline (state_at links sofar)
unfolding state_at
state_online links sofar =
    online_then _ _ (online_word Token Ended _) (λ name.
    online_then _ _ (online_open Token Ended) (λ a.
    online_then _ _ (links_online links) (λ failing.
    online_give (record { name = name; links = failing }))))

pub state_some : (links : List Link) (sofar : List Listed) → TakesSome (state_at links sofar)
unfolding state_at
state_some links sofar = takes_some (state_at links sofar) (state_online links sofar) (λ p. Ended) (λ p. refl)

after_online : (links : List Link) (b : Bool) → IsOnline (after_word links b)
unfolding after_word
after_online links true =
    online_then _ _ (online_open Section Ended) (λ a.
    online_then _ _ (online_list Parenthesis no_fault (state_at links) (state_online links) (state_some links) []) (λ listed.
    online_give (OneByOne listed)))
after_online links false = online_give EverySingleLink

failures_online : (links : List Link) → IsOnline (failures_at links)
failures_online links = online_whole Section (failure_list_at links) (online_then _ _ (online_word Section Ended is_list) (after_online links))

-- ---- whole files

module _ (nodes : List (List ℕ)) (links : List Link) (net : ∥ IsNetwork nodes links ∥₁) where
  law : Lawful (failures_at links) (list_items links) (IsListInForm links) IsEnd
  law = failures_lawful links (network_differs nodes links net)

  pub read_in_form : (text : Text) (l : FailureList) (rest : Text) → failures_at links text ≡ Ok (l, rest) → IsListInForm links l
  read_in_form text l rest e = (law.takes text l rest e).0

  pub failures_read : (bytes : List ℕ) (l : FailureList) (rest : Text) → are_same (trimmed (first_line bytes)) failures_header ≡ true → failures_at links (body bytes) ≡ Ok (l, rest) → (at : ℕ) × (failures_of links bytes ≡ Ok (states_of links l, EndAt at))
  failures_read bytes l rest line read = file_read Header failures_header (failures_at links) (states_of links) (list_items links) (IsListInForm links) law bytes l rest line read

  pub failures_found : (bytes : List ℕ) (a : Result States (Refusal FailuresKind)) → ReadsAllAs (λ s. s.listed) a (failures_of links bytes) → IfOk a (λ s. SpellsFailures links bytes s.listed)
  failures_found bytes a h = answer_found Header failures_header (failures_at links) (states_of links) (list_items links) (IsListInForm links) law (λ s. s.listed) bytes a h

  pub failures_only : (bytes : List ℕ) (a : Result States (Refusal FailuresKind)) → ReadsAllAs (λ s. s.listed) a (failures_of links bytes) → (listed : List Listed) → SpellsFailures links bytes listed → AnswersAs (λ s. s.listed) a listed
  failures_only bytes a h = answer_only Header failures_header (failures_at links) (states_of links) (list_items links) (IsListInForm links) law (λ s. s.listed) bytes a h

  pub failures_first : (bytes : List ℕ) (a : Result States (Refusal FailuresKind)) → ReadsAllAs (λ s. s.listed) a (failures_of links bytes) → IfErr a (IsNotTooEarly (SpellsFailures links) bytes)
  failures_first bytes a h = answer_first Header failures_header (failures_at links) (states_of links) (list_items links) (IsListInForm links) law (λ s. s.listed) (failures_online links) bytes a h
