-- Texts that begin alike, by how many lexemes, and texts whose lexemes come one after another.
use Rattle.std.proofs.Common.{◌≡◌, ◌≢◌, ℕ, zero, suc, ◌<◌, ◌≤◌, refl, sym, ap, arith}
use Rattle.snd_tokens.specs.Terms.{Text, WordAt, OpenAt, CloseAt, EndAt, size}
use Rattle.text_kit.specs.Places.{place}

-- the first n lexemes of the second text are those of the first
abbrev pub Same : ℕ → Text → Text → Type 0
Same zero t u = Unit {0}
Same (suc n) (WordAt p w t) u = (v : Text) × (u ≡ WordAt p w v) × Same n t v
Same (suc n) (OpenAt p t) u = (v : Text) × (u ≡ OpenAt p v) × Same n t v
Same (suc n) (CloseAt p t) u = (v : Text) × (u ≡ CloseAt p v) × Same n t v
Same (suc n) (EndAt p) u = u ≡ EndAt p

-- the text after n lexemes
abbrev pub past : ℕ → Text → Text
past zero t = t
past (suc n) (WordAt p w t) = past n t
past (suc n) (OpenAt p t) = past n t
past (suc n) (CloseAt p t) = past n t
past (suc n) (EndAt p) = EndAt p

-- a sum that computes by its first part
abbrev pub plus : ℕ → ℕ → ℕ
plus zero m = m
plus (suc n) m = suc (plus n m)

pub plus_plus : (a b c : ℕ) → plus (plus a b) c ≡ plus a (plus b c)
plus_plus zero b c = refl
plus_plus (suc a) b c = ap suc (plus_plus a b c)

pub plus_suc : (a b : ℕ) → suc (plus a b) ≡ plus a (suc b)
plus_suc zero b = refl
plus_suc (suc a) b = ap suc (plus_suc a b)

past_end : (n p : ℕ) → past n (EndAt p) ≡ EndAt p
past_end zero p = refl
past_end (suc n) p = refl

pub past_sum : (a b : ℕ) (t : Text) → past (plus a b) t ≡ past b (past a t)
past_sum zero b t = refl
past_sum (suc a) b (WordAt p w t) = past_sum a b t
past_sum (suc a) b (OpenAt p t) = past_sum a b t
past_sum (suc a) b (CloseAt p t) = past_sum a b t
past_sum (suc a) b (EndAt p) = sym (past_end b p)

pub past_size : (n : ℕ) (t : Text) → size (past n t) ≤ size t
past_size zero t = omega arith
past_size (suc n) (WordAt p w t) = omega (arith, past_size n t)
past_size (suc n) (OpenAt p t) = omega (arith, past_size n t)
past_size (suc n) (CloseAt p t) = omega (arith, past_size n t)
past_size (suc n) (EndAt p) = omega arith

pub same_all : (n : ℕ) (t : Text) → Same n t t
same_all zero t = tt
same_all (suc n) (WordAt p w t) = (t, refl, same_all n t)
same_all (suc n) (OpenAt p t) = (t, refl, same_all n t)
same_all (suc n) (CloseAt p t) = (t, refl, same_all n t)
same_all (suc n) (EndAt p) = refl

-- ---- by places

-- the lexemes of the second text are those of the first, through the one at this place
abbrev pub AgreeThrough : ℕ → Text → Text → Type 0
AgreeThrough at (WordAt p w text) other = (more : Text) × (other ≡ WordAt p w more) × (p ≢ at → AgreeThrough at text more)
AgreeThrough at (OpenAt p text) other = (more : Text) × (other ≡ OpenAt p more) × (p ≢ at → AgreeThrough at text more)
AgreeThrough at (CloseAt p text) other = (more : Text) × (other ≡ CloseAt p more) × (p ≢ at → AgreeThrough at text more)
AgreeThrough at (EndAt p) other = other ≡ EndAt p

-- each lexeme is after the one before it
abbrev pub Rises : Text → Type 0
Rises (WordAt p w text) = (p < place text) × Rises text
Rises (OpenAt p text) = (p < place text) × Rises text
Rises (CloseAt p text) = (p < place text) × Rises text
Rises (EndAt p) = Unit {0}

pub rises_past : (c : ℕ) (t : Text) → Rises t → place t ≤ place (past c t)
rises_past zero t r = omega arith
rises_past (suc c) (WordAt p w t) r = omega (arith, r.0, rises_past c t r.1)
rises_past (suc c) (OpenAt p t) r = omega (arith, r.0, rises_past c t r.1)
rises_past (suc c) (CloseAt p t) r = omega (arith, r.0, rises_past c t r.1)
rises_past (suc c) (EndAt p) r = omega arith

-- texts that agree through the place of lexeme number c have the same first lexemes
pub agree_same : (c at : ℕ) (t u : Text) → Rises t → place (past c t) ≡ at → AgreeThrough at t u → Same (suc c) t u
agree_same zero at (WordAt p w t) u r here a = (a.0, a.1, tt)
agree_same zero at (OpenAt p t) u r here a = (a.0, a.1, tt)
agree_same zero at (CloseAt p t) u r here a = (a.0, a.1, tt)
agree_same zero at (EndAt p) u r here a = a
agree_same (suc c) at (WordAt p w t) u r here a = (a.0, a.1, agree_same c at t a.0 r.1 here (a.2 (λ e. omega (arith, r.0, rises_past c t r.1, here, e))))
agree_same (suc c) at (OpenAt p t) u r here a = (a.0, a.1, agree_same c at t a.0 r.1 here (a.2 (λ e. omega (arith, r.0, rises_past c t r.1, here, e))))
agree_same (suc c) at (CloseAt p t) u r here a = (a.0, a.1, agree_same c at t a.0 r.1 here (a.2 (λ e. omega (arith, r.0, rises_past c t r.1, here, e))))
agree_same (suc c) at (EndAt p) u r here a = a
