-- Readings whose answer depends on no lexeme after what they take, nor after the place of their fault.
use Rattle.std.proofs.Common.{◌≡◌, ℕ, zero, suc, ◌<◌, ◌≤◌, Bool, true, false, cond, List, [], ◌∷◌, ◌++◌, Option, None, Some, Result, Ok, Err, refl, sym, ap, subst, ◌∙◌, arith}
use Rattle.net_core.specs.Terms.{are_same}
use Rattle.snd_tokens.specs.Terms.{Text, WordAt, OpenAt, CloseAt, EndAt, size}
use Rattle.text_kit.{specs.Places.place, specs.Reading.{Read, Reading, after, ◌>>=◌, give, placed, step_at, word_at, open_at, close_at, end_at, over_at, Ending, Parenthesis, TheEnd, TheWord, past_ending, sound, ended_or, elements_at, list_at, whole_at}, proofs.Beginnings.{is_same, this_word}, proofs.Alike.{AgreeThrough, Rises, Same, agree_same, past, past_size, past_sum, plus, plus_plus, plus_suc, same_all}}

-- what was read, by how many lexemes
pub record Took {K X : Type 0} (r : Reading K X) (text : Text) (x : X) (rest : Text) : Type 0 where
  pub count : ℕ
  pub following : rest ≡ past count text
  pub again : (m : ℕ) (u : Text) → Same (plus count m) text u → (v : Text) × (r u ≡ Ok (x, v)) × Same m rest v

-- a fault, at which lexeme
pub record Failed {K X : Type 0} (r : Reading K X) (text : Text) (at : ℕ) (kind : K) : Type 0 where
  pub count : ℕ
  pub here : place (past count text) ≡ at
  pub again : (u : Text) → Same (suc count) text u → r u ≡ Err (at, kind)

pub record IsOnline {K X : Type 0} (r : Reading K X) : Type 0 where
  pub took : (text : Text) (x : X) (rest : Text) → r text ≡ Ok (x, rest) → Took r text x rest
  pub failed : (text : Text) (at : ℕ) (kind : K) → r text ≡ Err (at, kind) → Failed r text at kind

-- the parts of an answer
pub ok_parts : {K X : Type 0} (x y : X) (t u : Text) → (let q : Read K X = Ok (x, t) in q ≡ Ok (y, u)) → (x ≡ y) × (t ≡ u)
ok_parts {X} x y t u e = let p : (x, t) ≡ (y, u) = cc in (ap (λ (q : X × Text). q.0) p, ap (λ (q : X × Text). q.1) p)

pub err_parts : {K X : Type 0} (p q : ℕ) (k l : K) → (let r : Read K X = Err (p, k) in r ≡ Err (q, l)) → (p ≡ q) × (k ≡ l)
err_parts {K} p q k l e = let o : (p, k) ≡ (q, l) = cc in (ap (λ (i : ℕ × K). i.0) o, ap (λ (i : ℕ × K). i.1) o)

pub placed_ok : {K X : Type 0} (p : ℕ) (t : Text) (q : Result X K) (x : X) (rest : Text) → placed p t q ≡ Ok (x, rest) → (q ≡ Ok x) × (t ≡ rest)
placed_ok {X} p t (Ok y) x rest e = let o = ok_parts y x t rest e in (ap (λ (i : X). Ok i) o.0, o.1)
placed_ok p t (Err d) x rest e = absurd cc

pub placed_err : {K X : Type 0} (p : ℕ) (t : Text) (q : Result X K) (at : ℕ) (kind : K) → placed p t q ≡ Err (at, kind) → (q ≡ Err kind) × (p ≡ at)
placed_err p t (Ok y) at kind e = absurd cc
placed_err {K} {X} p t (Err d) at kind e = let o = err_parts {X = X} p at d kind e in (ap (λ (i : K). Err i) o.1, o.0)

module _ {K A B : Type 0} (r : Reading K A) (f : A → Reading K B) (one : IsOnline r) (two : (a : A) → IsOnline (f a)) where
  then_took : (text : Text) (q : Read K A) (b : B) (rest : Text) → r text ≡ q → after q f ≡ Ok (b, rest) → Took (r >>= f) text b rest
  then_took text (Ok x) b rest is e =
      let p = one.took text x.0 x.1 is in
      let q = (two x.0).took x.1 b rest e in
      record {
        count = plus p.count q.count;
        following = q.following ∙ (ap (past q.count) p.following ∙ sym (past_sum p.count q.count text));
        again = λ m u same.
            let h = p.again (plus q.count m) u (subst (λ n. Same n text u) (plus_plus p.count q.count m) same) in
            let k = q.again m h.0 h.2 in
            (k.0, ap (λ (i : Read K A). after i f) h.1 ∙ k.1, k.2);
      }
  then_took text (Err d) b rest is e = absurd cc

  then_failed : (text : Text) (q : Read K A) (at : ℕ) (kind : K) → r text ≡ q → after q f ≡ Err (at, kind) → Failed (r >>= f) text at kind
  then_failed text (Ok x) at kind is e =
      let p = one.took text x.0 x.1 is in
      let q = (two x.0).failed x.1 at kind e in
      record {
        count = plus p.count q.count;
        here = ap place (past_sum p.count q.count text ∙ ap (past q.count) (sym p.following)) ∙ q.here;
        again = λ u same.
            let h = p.again (suc q.count) u (subst (λ n. Same n text u) (plus_suc p.count q.count) same) in
            ap (λ (i : Read K A). after i f) h.1 ∙ q.again h.0 h.2;
      }
  then_failed text (Err d) at kind is e =
      let two : d ≡ (at, kind) = cc in
      let p = one.failed text at kind (is ∙ ap (λ (i : ℕ × K). Err i) two) in
      record { count = p.count; here = p.here; again = λ u same. ap (λ (i : Read K A). after i f) (p.again u same) }

  pub online_then : IsOnline (r >>= f)
  online_then = record {
    took = λ text b rest e. then_took text (r text) b rest refl e;
    failed = λ text at kind e. then_failed text (r text) at kind refl e;
  }

pub online_give : {K X : Type 0} (x : X) → IsOnline {K = K} (give x)
online_give {K} {X} x = record {
  took = λ text y rest e.
      let p = ok_parts {K = K} x y text rest e in
      record {
        count = 0;
        following = sym p.1;
        again = λ m u same. (u, ap (λ (q : X). Ok (q, u)) p.0, subst (λ t. Same m t u) p.1 same);
      };
  failed = λ text at kind e. absurd cc;
}

-- the answer of one step is that of its lexeme alone
module _ {K X : Type 0} (word : List ℕ → Result X K) (opens closes ends : Result X K) where
  abbrev step : Reading K X
  step text = step_at word opens closes ends text

  -- a lexeme before `t`, whose test has an outcome
  lexeme_took : (put : Text → Text) (p : ℕ) (q : Result X K) (t : Text) (x : X) (rest : Text)
      → ((u : Text) → step (put u) ≡ placed p u q) → ((m : ℕ) (u : Text) → Same (suc m) (put t) u → (v : Text) × (u ≡ put v) × Same m t v) → past 1 (put t) ≡ t
      → placed p t q ≡ Ok (x, rest) → Took (λ u. step u) (put t) x rest
  lexeme_took put p q t x rest is alike following e =
      let h = placed_ok p t q x rest e in
      record {
        count = 1;
        following = sym h.1 ∙ sym following;
        again = λ m u same.
            let s = alike m u same in
            (s.0, ap step s.1 ∙ (is s.0 ∙ ap (λ (i : Result X K). placed p s.0 i) h.0), subst (λ (i : Text). Same m i s.0) h.1 s.2);
      }

  lexeme_failed : (put : Text → Text) (p : ℕ) (q : Result X K) (t : Text) (at : ℕ) (kind : K)
      → ((u : Text) → step (put u) ≡ placed p u q) → ((u : Text) → Same 1 (put t) u → (v : Text) × (u ≡ put v)) → place (put t) ≡ p
      → placed p t q ≡ Err (at, kind) → Failed (λ u. step u) (put t) at kind
  lexeme_failed put p q t at kind is alike here e =
      let h = placed_err p t q at kind e in
      record {
        count = 0;
        here = here ∙ h.1;
        again = λ u same.
            let s = alike u same in
            ap step s.1 ∙ (is s.0 ∙ (ap (λ (i : Result X K). placed p s.0 i) h.0 ∙ ap (λ (i : ℕ). Err (i, kind)) h.1));
      }

  step_took : (text : Text) (x : X) (rest : Text) → step text ≡ Ok (x, rest) → Took (λ u. step u) text x rest
  step_took (WordAt p w t) x rest e = lexeme_took (λ u. WordAt p w u) p (word w) t x rest (λ u. refl) (λ m u same. same) refl e
  step_took (OpenAt p t) x rest e = lexeme_took (λ u. OpenAt p u) p opens t x rest (λ u. refl) (λ m u same. same) refl e
  step_took (CloseAt p t) x rest e = lexeme_took (λ u. CloseAt p u) p closes t x rest (λ u. refl) (λ m u same. same) refl e
  step_took (EndAt p) x rest e =
      let h = placed_ok p (EndAt p) ends x rest e in
      record { count = 1; following = sym h.1; again = λ m u same. (rest, ap step same ∙ e, same_all m rest) }

  step_failed : (text : Text) (at : ℕ) (kind : K) → step text ≡ Err (at, kind) → Failed (λ u. step u) text at kind
  step_failed (WordAt p w t) at kind e = lexeme_failed (λ u. WordAt p w u) p (word w) t at kind (λ u. refl) (λ u same. (same.0, same.1)) refl e
  step_failed (OpenAt p t) at kind e = lexeme_failed (λ u. OpenAt p u) p opens t at kind (λ u. refl) (λ u same. (same.0, same.1)) refl e
  step_failed (CloseAt p t) at kind e = lexeme_failed (λ u. CloseAt p u) p closes t at kind (λ u. refl) (λ u same. (same.0, same.1)) refl e
  step_failed (EndAt p) at kind e =
      let h = placed_err p (EndAt p) ends at kind e in
      record { count = 0; here = h.1; again = λ u same. ap step same ∙ e }

  pub online_step : IsOnline (step_at word opens closes ends)
  online_step = record { took = step_took; failed = step_failed }

pub online_word : {K X : Type 0} (other ended : K) (test : List ℕ → Result X K) → IsOnline (word_at other ended test)
online_word other ended test = online_step test (Err other) (Err other) (Err ended)

pub online_open : {K : Type 0} (other ended : K) → IsOnline (open_at other ended)
online_open other ended = online_step (λ w. Err other) (Ok tt) (Err other) (Err ended)

pub online_close : {K : Type 0} (other ended : K) → IsOnline (close_at other ended)
online_close other ended = online_step (λ w. Err other) (Err other) (Ok tt) (Err ended)

pub online_end : {K : Type 0} (other : K) → IsOnline (end_at other)
online_end other = online_step (λ w. Err other) (Err other) (Err other) (Ok tt)

pub online_over : {K X : Type 0} (limit ended : K) → IsOnline (over_at {X = X} limit ended)
online_over limit ended = online_step (λ w. Err limit) (Err limit) (Err limit) (Err ended)

pub online_whole : {K X : Type 0} (other : K) (r : Reading K X) → IsOnline r → IsOnline (whole_at other r)
online_whole other r on = online_then r _ on (λ x. online_then (end_at other) _ (online_end other) (λ a. online_give x))

-- ---- readings that take a lexeme at least

abbrev pub TakesSome : {K X : Type 0} → Reading K X → Type 0
TakesSome {K} {X} r = (text : Text) (x : X) (rest : Text) → r text ≡ Ok (x, rest) → size rest < size text

-- a reading that depends on no later lexeme and fails at the end takes one at least
module _ {K X : Type 0} (r : Reading K X) (on : IsOnline r) (kind : ℕ → K) (ends : (p : ℕ) → r (EndAt p) ≡ Err (p, kind p)) where
  not_at_end : (p : ℕ) (x : X) (rest : Text) → r (EndAt p) ≡ Ok (x, rest) → ⊥
  not_at_end p x rest e = let two : (let q : Read K X = Err (p, kind p) in q ≡ Ok (x, rest)) = sym (ends p) ∙ e in cc

  some_count : (c : ℕ) (text : Text) (x : X) (rest : Text) → ((p : ℕ) → text ≡ EndAt p → ⊥) → rest ≡ past c text → ((u : Text) → Same (plus c 0) text u → (v : Text) × (r u ≡ Ok (x, v)) × Unit {0}) → size rest < size text
  some_count zero text x rest some following again = let h = again (EndAt 0) tt in absurd (not_at_end 0 x h.0 h.1)
  some_count (suc c) (WordAt p w t) x rest some following again = let le : size rest ≤ size t = subst (λ (u : Text). size u ≤ size t) (sym following) (past_size c t) in omega (arith, le)
  some_count (suc c) (OpenAt p t) x rest some following again = let le : size rest ≤ size t = subst (λ (u : Text). size u ≤ size t) (sym following) (past_size c t) in omega (arith, le)
  some_count (suc c) (CloseAt p t) x rest some following again = let le : size rest ≤ size t = subst (λ (u : Text). size u ≤ size t) (sym following) (past_size c t) in omega (arith, le)
  some_count (suc c) (EndAt p) x rest some following again = absurd (some p refl)

  pub takes_some : TakesSome r
  takes_some text x rest e =
      let t = on.took text x rest e in
      some_count t.count text x rest (λ p is. not_at_end p x rest (subst (λ (u : Text). r u ≡ Ok (x, rest)) is e)) t.following (λ u same. t.again 0 u same)

-- ---- endings of lists

pub ending_past : (e : Ending) (t r : Text) → past_ending e t ≡ Some r → (r ≡ past 1 t) × ((m : ℕ) (u : Text) → Same (suc m) t u → (v : Text) × (past_ending e u ≡ Some v) × (place u ≡ place t) × Same m r v)
ending_past Parenthesis (CloseAt p t) r e =
    let is : t ≡ r = cc in
    (sym is, λ m u same. (same.0, ap (past_ending Parenthesis) same.1, ap place same.1, subst (λ (i : Text). Same m i same.0) is same.2))
ending_past TheEnd (EndAt p) r e =
    let is : EndAt p ≡ r = cc in
    (sym is, λ m u same. (EndAt p, ap (past_ending TheEnd) same, ap place same, subst (λ (i : Text). Same m i (EndAt p)) is (same_all m (EndAt p))))
ending_past (TheWord v) (WordAt p w t) r e =
    let h = this_word v w t r (are_same w v) refl e in
    (sym h.1, λ m u same. (same.0, ap (past_ending (TheWord v)) same.1 ∙ rw (h.0, is_same v) refl, ap place same.1, subst (λ (i : Text). Same m i same.0) h.1 same.2))
ending_past _ _ r e = absurd cc

none_word : (same : Bool) (t u : Text) → (let o : Option Text = cond same (Some t) None in o ≡ None) → (let o : Option Text = cond same (Some u) None in o ≡ None)
none_word true t u e = absurd cc
none_word false t u e = refl

no_ending : (e : Ending) (t : Text) → past_ending e t ≡ None → (k : ℕ) (u : Text) → Same (suc k) t u → past_ending e u ≡ None
no_ending Parenthesis (CloseAt p t) e k u same = absurd cc
no_ending TheEnd (EndAt p) e k u same = absurd cc
no_ending (TheWord v) (WordAt p w t) e k u same = ap (past_ending (TheWord v)) same.1 ∙ none_word (are_same w v) t same.0 e
no_ending ending (WordAt p w t) e k u same = ap (past_ending ending) same.1
no_ending Parenthesis (OpenAt p t) e k u same = ap (past_ending Parenthesis) same.1
no_ending TheEnd (OpenAt p t) e k u same = ap (past_ending TheEnd) same.1
no_ending (TheWord v) (OpenAt p t) e k u same = ap (past_ending (TheWord v)) same.1
no_ending ending (CloseAt p t) e k u same = ap (past_ending ending) same.1
no_ending ending (EndAt p) e k u same = ap (past_ending ending) same

-- ---- lists

module _ {K X : Type 0} (ending : Ending) (fault : List X → Option K) (one : List X → Reading K X) where
  abbrev pub elements : ℕ → List X → Reading K (List X)
  elements n sofar text = elements_at ending fault one n sofar text

  abbrev pub more : ℕ → List X → X → Reading K (List X)
  more n sofar x text = elements_at ending fault one n (sofar ++ x ∷ []) text

  pub at_ending : (n : ℕ) (sofar : List X) (u v : Text) → past_ending ending u ≡ Some v → elements (suc n) sofar u ≡ placed (place u) v (sound sofar (fault sofar))
  at_ending n sofar u v e = ap (λ (o : Option Text). ended_or o (λ rest. placed (place u) rest (sound sofar (fault sofar))) (after (one sofar u) (λ x. more n sofar x))) e

  pub before_ending : (n : ℕ) (sofar : List X) (u : Text) → past_ending ending u ≡ None → elements (suc n) sofar u ≡ after (one sofar u) (λ x. more n sofar x)
  before_ending n sofar u e = ap (λ (o : Option Text). ended_or o (λ rest. placed (place u) rest (sound sofar (fault sofar))) (after (one sofar u) (λ x. more n sofar x))) e

-- a list of readings that depend on no later lexeme, each of which takes one at least
module _ {K X : Type 0} (ending : Ending) (fault : List X → Option K) (one : List X → Reading K X) (law : (sofar : List X) → IsOnline (one sofar)) (some : (sofar : List X) → TakesSome (one sofar)) where
  abbrev E : ℕ → List X → Reading K (List X)
  E n sofar text = elements ending fault one n sofar text

  abbrev M : ℕ → List X → X → Reading K (List X)
  M n sofar x text = more ending fault one n sofar x text

  -- all that was read, by one lexeme more than the count, with any sufficient number of turns
  record TookAll (sofar : List X) (text : Text) (xs : List X) (rest : Text) : Type 0 where
    pub count : ℕ
    pub following : rest ≡ past (suc count) text
    pub again : (m n : ℕ) (u : Text) → size u < suc n → Same (plus (suc count) m) text u → (v : Text) × (E (suc n) sofar u ≡ Ok (xs, v)) × Same m rest v

  record FailedAll (sofar : List X) (text : Text) (at : ℕ) (kind : K) : Type 0 where
    pub count : ℕ
    pub here : place (past count text) ≡ at
    pub again : (n : ℕ) (u : Text) → size u < suc n → Same (suc count) text u → E (suc n) sofar u ≡ Err (at, kind)

  -- enough turns for what is after an element
  fewer : (n : ℕ) (P : ℕ → Type 0) (a b : ℕ) → a < b → b < suc n → ((k : ℕ) → a < suc k → n ≡ suc k → P (suc k)) → P n
  fewer zero P a b low high f = absurd (omega (arith, low, high))
  fewer (suc k) P a b low high f = f k (omega (arith, low, high)) refl

  took_end : (n : ℕ) (sofar : List X) (text r : Text) (xs : List X) (rest : Text) → past_ending ending text ≡ Some r → placed (place text) r (sound sofar (fault sofar)) ≡ Ok (xs, rest) → TookAll sofar text xs rest
  took_end n sofar text r xs rest is e =
      let h = placed_ok (place text) r (sound sofar (fault sofar)) xs rest e in
      let p = ending_past ending text r is in
      record {
        count = 0;
        following = sym h.1 ∙ p.0;
        again = λ m k u lt same.
            let s = p.1 m u same in
            (s.0, at_ending ending fault one k sofar u s.0 s.1 ∙ ap (λ (i : Result (List X) K). placed (place u) s.0 i) h.0, subst (λ (i : Text). Same m i s.0) h.1 s.3);
      }

  took_more : (n : ℕ) (sofar : List X) (text : Text) (q : Read K X) (xs : List X) (rest : Text) → one sofar text ≡ q → after q (λ x. M n sofar x) ≡ Ok (xs, rest) → past_ending ending text ≡ None → size text < suc n
      → ((x : X) (mid : Text) → size mid < n → M n sofar x mid ≡ Ok (xs, rest) → TookAll (sofar ++ x ∷ []) mid xs rest) → TookAll sofar text xs rest
  took_more n sofar text (Err d) xs rest is e none enough later = absurd cc
  took_more n sofar text (Ok x) xs rest is e none enough later =
      let p = (law sofar).took text x.0 x.1 is in
      let small = some sofar text x.0 x.1 is in
      let l = later x.0 x.1 (omega (arith, small, enough)) e in
      record {
        count = plus p.count l.count;
        following = l.following ∙ (ap (past (suc l.count)) p.following ∙ (sym (past_sum p.count (suc l.count) text) ∙ ap (λ i. past i text) (sym (plus_suc p.count l.count))));
        again = λ m k u lt same.
            let h = p.again (plus (suc l.count) m) u (subst (λ i. Same i text u) (ap suc (plus_plus p.count l.count m) ∙ plus_suc p.count (plus l.count m)) same) in
            let open_u = no_ending ending text none (plus (plus p.count l.count) m) u same in
            let small_u = some sofar u x.0 h.0 h.1 in
            let r = fewer k (λ i. (v : Text) × (M i sofar x.0 h.0 ≡ Ok (xs, v)) × Same m rest v) (size h.0) (size u) small_u lt (λ j low is_j. l.again m j h.0 low h.2) in
            (r.0, before_ending ending fault one k sofar u open_u ∙ (ap (λ (i : Read K X). after i (λ y. M k sofar y)) h.1 ∙ r.1), r.2);
      }

  took_by : (n : ℕ) (sofar : List X) (text : Text) (o : Option Text) (xs : List X) (rest : Text) → past_ending ending text ≡ o → ended_or o (λ r. placed (place text) r (sound sofar (fault sofar))) (after (one sofar text) (λ x. M n sofar x)) ≡ Ok (xs, rest) → size text < suc n
      → ((x : X) (mid : Text) → size mid < n → M n sofar x mid ≡ Ok (xs, rest) → TookAll (sofar ++ x ∷ []) mid xs rest) → TookAll sofar text xs rest
  took_by n sofar text (Some r) xs rest is e enough later = took_end n sofar text r xs rest is e
  took_by n sofar text None xs rest is e enough later = took_more n sofar text (one sofar text) xs rest refl e is enough later

  all_took : (n : ℕ) (sofar : List X) (text : Text) (xs : List X) (rest : Text) → size text < n → E n sofar text ≡ Ok (xs, rest) → TookAll sofar text xs rest
  all_took zero sofar text xs rest enough e = absurd (omega (arith, enough))
  all_took (suc n) sofar text xs rest enough e = took_by n sofar text (past_ending ending text) xs rest refl e enough (λ x mid lt h. all_took n (sofar ++ x ∷ []) mid xs rest lt h)

  failed_end : (n : ℕ) (sofar : List X) (text r : Text) (at : ℕ) (kind : K) → past_ending ending text ≡ Some r → placed (place text) r (sound sofar (fault sofar)) ≡ Err (at, kind) → FailedAll sofar text at kind
  failed_end n sofar text r at kind is e =
      let h = placed_err (place text) r (sound sofar (fault sofar)) at kind e in
      let p = ending_past ending text r is in
      record {
        count = 0;
        here = h.1;
        again = λ k u lt same.
            let s = p.1 0 u same in
            at_ending ending fault one k sofar u s.0 s.1 ∙ (ap (λ (i : Result (List X) K). placed (place u) s.0 i) h.0 ∙ ap (λ (i : ℕ). Err (i, kind)) (s.2 ∙ h.1));
      }

  failed_more : (n : ℕ) (sofar : List X) (text : Text) (q : Read K X) (at : ℕ) (kind : K) → one sofar text ≡ q → after q (λ x. M n sofar x) ≡ Err (at, kind) → past_ending ending text ≡ None → size text < suc n
      → ((x : X) (mid : Text) → size mid < n → M n sofar x mid ≡ Err (at, kind) → FailedAll (sofar ++ x ∷ []) mid at kind) → FailedAll sofar text at kind
  failed_more n sofar text (Err d) at kind is e none enough later =
      let two : d ≡ (at, kind) = cc in
      let p = (law sofar).failed text at kind (is ∙ ap (λ (i : ℕ × K). Err i) two) in
      record {
        count = p.count;
        here = p.here;
        again = λ k u lt same. before_ending ending fault one k sofar u (no_ending ending text none p.count u same) ∙ ap (λ (i : Read K X). after i (λ y. M k sofar y)) (p.again u same);
      }
  failed_more n sofar text (Ok x) at kind is e none enough later =
      let p = (law sofar).took text x.0 x.1 is in
      let small = some sofar text x.0 x.1 is in
      let l = later x.0 x.1 (omega (arith, small, enough)) e in
      record {
        count = plus p.count l.count;
        here = ap place (past_sum p.count l.count text ∙ ap (past l.count) (sym p.following)) ∙ l.here;
        again = λ k u lt same.
            let h = p.again (suc l.count) u (subst (λ i. Same i text u) (plus_suc p.count l.count) same) in
            let open_u = no_ending ending text none (plus p.count l.count) u same in
            let small_u = some sofar u x.0 h.0 h.1 in
            let r = fewer k (λ i. M i sofar x.0 h.0 ≡ Err (at, kind)) (size h.0) (size u) small_u lt (λ j low is_j. l.again j h.0 low h.2) in
            before_ending ending fault one k sofar u open_u ∙ (ap (λ (i : Read K X). after i (λ y. M k sofar y)) h.1 ∙ r);
      }

  failed_by : (n : ℕ) (sofar : List X) (text : Text) (o : Option Text) (at : ℕ) (kind : K) → past_ending ending text ≡ o → ended_or o (λ r. placed (place text) r (sound sofar (fault sofar))) (after (one sofar text) (λ x. M n sofar x)) ≡ Err (at, kind) → size text < suc n
      → ((x : X) (mid : Text) → size mid < n → M n sofar x mid ≡ Err (at, kind) → FailedAll (sofar ++ x ∷ []) mid at kind) → FailedAll sofar text at kind
  failed_by n sofar text (Some r) at kind is e enough later = failed_end n sofar text r at kind is e
  failed_by n sofar text None at kind is e enough later = failed_more n sofar text (one sofar text) at kind refl e is enough later

  all_failed : (n : ℕ) (sofar : List X) (text : Text) (at : ℕ) (kind : K) → size text < n → E n sofar text ≡ Err (at, kind) → FailedAll sofar text at kind
  all_failed zero sofar text at kind enough e = absurd (omega (arith, enough))
  all_failed (suc n) sofar text at kind enough e = failed_by n sofar text (past_ending ending text) at kind refl e enough (λ x mid lt h. all_failed n (sofar ++ x ∷ []) mid at kind lt h)

  pub online_list : (sofar : List X) → IsOnline (list_at ending fault one sofar)
  online_list sofar = record {
    took = λ text xs rest e.
        let t = all_took (suc (size text)) sofar text xs rest (omega arith) e in
        record { count = suc t.count; following = t.following; again = λ m u same. t.again m (size u) u (omega arith) same };
    failed = λ text at kind e.
        let f = all_failed (suc (size text)) sofar text at kind (omega arith) e in
        record { count = f.count; here = f.here; again = λ u same. f.again (size u) u (omega arith) same };
  }

-- The law of first faults: a text that agrees with the refused one through the place of the fault is refused with this fault.
pub same_fault : {K X : Type 0} (r : Reading K X) → IsOnline r → (t u : Text) (at : ℕ) (kind : K) → Rises t → r t ≡ Err (at, kind) → AgreeThrough at t u → r u ≡ Err (at, kind)
same_fault r on t u at kind rises e agree =
    let f = on.failed t at kind e in
    f.again u (agree_same f.count at t u rises f.here agree)
