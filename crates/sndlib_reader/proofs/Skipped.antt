-- What is skipped balances, and what balances is skipped.
use Rattle.std.proofs.Common.{◌≡◌, ℕ, zero, suc, ◌+◌, ◌≤◌, List, [], ◌∷◌, ◌++◌, map, take, Ok, Err, refl, sym, ap, subst, ◌∙◌, arith}
use Rattle.snd_tokens.specs.Terms.{Lexeme, Word, Open, Close, Text, WordAt, OpenAt, CloseAt, EndAt}
use Rattle.text_kit.{specs.Terms.{Item, Verbatim, Opening, Closing, Begins, place}, proofs.Lemmas.{Same, past, plus, AnyText, Failed, IsOnline, Took, err_parts, ok_parts, Spelled}}
use Rattle.sndlib_reader.{specs.declared.fault.ReadKind.ReadKind, specs.declared.fault.ReadKind.TheVariants.Ended, specs.Balance.{opened, closed, IsSkipped, item_of}, specs.Reading.skipped_at}

-- with n parentheses open before, each is closed and none more
record Closes (n : ℕ) (ls : List Lexeme) : Type 0 where
  pub same : closed ls ≡ n + opened ls
  pub prefixes : (k : ℕ) → closed (take k ls) ≤ n + opened (take k ls)

front_nil : (k : ℕ) → closed (take k []) ≤ 0 + opened (take k [])
front_nil zero = omega arith
front_nil (suc k) = omega arith

closes_nil : Closes 0 []
closes_nil = record { same = refl; prefixes = front_nil }

front_word : (n : ℕ) (w : List ℕ) (ls : List Lexeme) → Closes n ls → (k : ℕ) → closed (take k (Word w ∷ ls)) ≤ n + opened (take k (Word w ∷ ls))
front_word n w ls c zero = omega arith
front_word n w ls c (suc k) = c.prefixes k

front_open : (n : ℕ) (ls : List Lexeme) → Closes (suc n) ls → (k : ℕ) → closed (take k (Open ∷ ls)) ≤ n + opened (take k (Open ∷ ls))
front_open n ls c zero = omega arith
front_open n ls c (suc k) = omega (arith, c.prefixes k)

front_close : (n : ℕ) (ls : List Lexeme) → Closes n ls → (k : ℕ) → closed (take k (Close ∷ ls)) ≤ suc n + opened (take k (Close ∷ ls))
front_close n ls c zero = omega arith
front_close n ls c (suc k) = omega (arith, c.prefixes k)

-- the text begins with lexemes that close n parentheses and one more
abbrev Skips : ℕ → Text → Text → Type 0
Skips n text rest = (inside : List Lexeme) × Closes n inside × Begins (map item_of inside ++ Closing ∷ []) text rest

skips : (n : ℕ) (text : Text) (x : Unit {0}) (rest : Text) → skipped_at n text ≡ Ok (x, rest) → Skips n text rest
skips n (WordAt at w t) x rest e = let s = skips n t x rest e in let c = s.1 in (Word w ∷ s.0, record { same = c.same; prefixes = front_word n w s.0 c }, (refl, s.2))
skips n (OpenAt at t) x rest e = let s = skips (suc n) t x rest e in let c = s.1 in (Open ∷ s.0, record { same = omega (arith, c.same); prefixes = front_open n s.0 c }, (refl, s.2))
skips zero (CloseAt at t) x rest e = ([], closes_nil, (refl, (ok_parts {K = ReadKind} tt x t rest e).1))
skips (suc n) (CloseAt at t) x rest e = let s = skips n t x rest e in let c = s.1 in (Close ∷ s.0, record { same = omega (arith, c.same); prefixes = front_close n s.0 c }, (refl, s.2))
skips n (EndAt at) x rest e = absurd cc

-- an item that isn't the lexeme's
skips_again : (n : ℕ) (inside : List Lexeme) (text rest : Text) → Closes n inside → Begins (map item_of inside ++ Closing ∷ []) text rest → skipped_at n text ≡ Ok (tt, rest)
skips_again zero [] (CloseAt at t) rest c b = ap (λ (u : Text). Ok (tt, u)) b.1
skips_again (suc n) [] (CloseAt at t) rest c b = let same : closed [] ≡ suc n + opened [] = c.same in absurd (omega (arith, same))
skips_again n [] (WordAt at v t) rest c b = absurd b.0
skips_again n [] (OpenAt at t) rest c b = absurd (let e : Closing ≡ Opening = b.0 in cc)
skips_again n [] (EndAt at) rest c b = absurd b
skips_again n (Word w ∷ ls) (WordAt at v t) rest c b = skips_again n ls t rest (record { same = c.same; prefixes = λ k. c.prefixes (suc k) }) b.1
skips_again n (Word w ∷ ls) (OpenAt at t) rest c b = absurd (let e : Verbatim w ≡ Opening = b.0 in cc)
skips_again n (Word w ∷ ls) (CloseAt at t) rest c b = absurd (let e : Verbatim w ≡ Closing = b.0 in cc)
skips_again n (Word w ∷ ls) (EndAt at) rest c b = absurd b
skips_again n (Open ∷ ls) (OpenAt at t) rest c b = skips_again (suc n) ls t rest (record { same = omega (arith, c.same); prefixes = λ k. omega (arith, c.prefixes (suc k)) }) b.1
skips_again n (Open ∷ ls) (WordAt at v t) rest c b = absurd b.0
skips_again n (Open ∷ ls) (CloseAt at t) rest c b = absurd (let e : Opening ≡ Closing = b.0 in cc)
skips_again n (Open ∷ ls) (EndAt at) rest c b = absurd b
skips_again zero (Close ∷ ls) (CloseAt at t) rest c b = absurd (omega (arith, c.prefixes 1))
skips_again (suc n) (Close ∷ ls) (CloseAt at t) rest c b = skips_again n ls t rest (record { same = omega (arith, c.same); prefixes = λ k. omega (arith, c.prefixes (suc k)) }) b.1
skips_again n (Close ∷ ls) (WordAt at v t) rest c b = absurd b.0
skips_again n (Close ∷ ls) (OpenAt at t) rest c b = absurd (let e : Closing ≡ Opening = b.0 in cc)
skips_again n (Close ∷ ls) (EndAt at) rest c b = absurd b

pub skipped_spelled : Spelled (skipped_at 0) (λ x is. IsSkipped is) AnyText
skipped_spelled = record {
  takes = λ text x rest e.
      let s = skips 0 text x rest e in
      let c = s.1 in
      (map item_of s.0 ++ Closing ∷ [], (s.0, record { same = omega (arith, c.same); prefixes = λ k. omega (arith, c.prefixes k) }, refl), s.2, tt);
  again = λ text x rest is s b left.
      let c = s.1 in
      skips_again 0 s.0 text rest (record { same = omega (arith, c.same); prefixes = λ k. omega (arith, c.prefixes k) }) (subst (λ (js : List Item). Begins js text rest) s.2 b);
}

-- ---- it depends on no later lexeme

later_took : (n m : ℕ) (put : Text → Text) (t : Text) (x : Unit {0}) (rest : Text) → ((u : Text) → skipped_at n (put u) ≡ skipped_at m u) → ((c : ℕ) → past (suc c) (put t) ≡ past c t)
    → ((c : ℕ) (u : Text) → Same (suc c) (put t) u → (v : Text) × (u ≡ put v) × Same c t v) → Took (skipped_at m) t x rest → Took (skipped_at n) (put t) x rest
later_took n m put t x rest is following alike p = record {
  count = suc p.count;
  following = p.following ∙ sym (following p.count);
  again = λ k u same.
      let s = alike (plus p.count k) u same in
      let h = p.again k s.0 s.2 in
      (h.0, ap (skipped_at n) s.1 ∙ (is s.0 ∙ h.1), h.2);
}

later_failed : (n m : ℕ) (put : Text → Text) (t : Text) (at : ℕ) (kind : ReadKind) → ((u : Text) → skipped_at n (put u) ≡ skipped_at m u) → ((c : ℕ) → past (suc c) (put t) ≡ past c t)
    → ((c : ℕ) (u : Text) → Same (suc c) (put t) u → (v : Text) × (u ≡ put v) × Same c t v) → Failed (skipped_at m) t at kind → Failed (skipped_at n) (put t) at kind
later_failed n m put t at kind is following alike p = record {
  count = suc p.count;
  here = ap place (following p.count) ∙ p.here;
  again = λ u same. let s = alike (suc p.count) u same in ap (skipped_at n) s.1 ∙ (is s.0 ∙ p.again s.0 s.2);
}

skip_took : (n : ℕ) (text : Text) (x : Unit {0}) (rest : Text) → skipped_at n text ≡ Ok (x, rest) → Took (skipped_at n) text x rest
skip_took n (WordAt p w t) x rest e = later_took n n (λ u. WordAt p w u) t x rest (λ u. refl) (λ c. refl) (λ c u same. same) (skip_took n t x rest e)
skip_took n (OpenAt p t) x rest e = later_took n (suc n) (λ u. OpenAt p u) t x rest (λ u. refl) (λ c. refl) (λ c u same. same) (skip_took (suc n) t x rest e)
skip_took (suc n) (CloseAt p t) x rest e = later_took (suc n) n (λ u. CloseAt p u) t x rest (λ u. refl) (λ c. refl) (λ c u same. same) (skip_took n t x rest e)
skip_took zero (CloseAt p t) x rest e =
    let h = (ok_parts {K = ReadKind} tt x t rest e).1 in
    record {
      count = 1;
      following = sym h;
      again = λ m u same. (same.0, ap (skipped_at 0) same.1, subst (λ (i : Text). Same m i same.0) h same.2);
    }
skip_took n (EndAt p) x rest e = absurd cc

skip_failed : (n : ℕ) (text : Text) (at : ℕ) (kind : ReadKind) → skipped_at n text ≡ Err (at, kind) → Failed (skipped_at n) text at kind
skip_failed n (WordAt p w t) at kind e = later_failed n n (λ u. WordAt p w u) t at kind (λ u. refl) (λ c. refl) (λ c u same. same) (skip_failed n t at kind e)
skip_failed n (OpenAt p t) at kind e = later_failed n (suc n) (λ u. OpenAt p u) t at kind (λ u. refl) (λ c. refl) (λ c u same. same) (skip_failed (suc n) t at kind e)
skip_failed (suc n) (CloseAt p t) at kind e = later_failed (suc n) n (λ u. CloseAt p u) t at kind (λ u. refl) (λ c. refl) (λ c u same. same) (skip_failed n t at kind e)
skip_failed zero (CloseAt p t) at kind e = absurd cc
skip_failed n (EndAt p) at kind e = record { count = 0; here = (err_parts {X = Unit {0}} p at Ended kind e).0; again = λ u same. ap (skipped_at n) same ∙ e }

pub skipped_online : IsOnline (skipped_at 0)
skipped_online = record { took = skip_took 0; failed = skip_failed 0 }
