-- entries of a legal journal, and the lines of its pool, are in form
use Rattle.std.proofs.Common.{◌≡◌, ℕ, zero, suc, ◌^◌, ◌<◌, ◌≤◌, List, [], ◌∷◌, ◌++◌, All, Some, drop, length, map, slice_get, take, sym, ap, subst, ◌∙◌, arith, length-take-le}
use Rattle.net_core.proofs.Library.{length-map, All-take, All-head, All-tail, slice_get-get_or, slice_get_within}
use Rattle.plan_terms.specs.Terms.{Edit, Set, Add, Drop, Entry, Edited, Pooled, Reply, Accepted, UnknownDemand, KnownDemand, UnknownNode, SelfDemand, TooMany, TooMuch, StateId, CutLine, Case, AreDemands, IsCut, edit_need, edit_reply, version_after, HasShortLengths}
use Rattle.plan_report.specs.Terms.{HasPoolLine, IsCutInForm, IsEntryInForm, IsReplyInForm}
use Rattle.cut_pool.specs.Terms.{Dated, IsLegalHistory, cut_of_line, cuts_of, demands_left, left_by, left_by_entry, version_left}
use Rattle.text_kit.specs.Terms.{IsEditInForm}
use Rattle.planner.proofs.Histories.{cuts_both, get_after, reply_next, version_few}
use Rattle.session_run.{specs.inner.Running.IsEntryOfCaller, proofs.Replies.{HasLowTotal, IsLow, reply_low}}

-- ---- edits

need_low : (edit : Edit) → IsEditInForm edit → edit_need edit < 2 ^ 40
need_low (Set name need) form = form.1
need_low (Add name from to need) form = form.3
need_low (Drop name) form = omega arith

-- what entries leave is low again
left_low : (nodes : List (List ℕ)) (d : Dated) (es : List Entry) → All IsEntryOfCaller es → IsLow d.demands → IsLow (left_by nodes d es).demands
left_low nodes d [] all low = low
left_low nodes d (Edited caller edit reply ∷ es) all low =
    let form = All-head IsEntryOfCaller (Edited caller edit reply) es all in
    left_low nodes (left_by_entry nodes d (Edited caller edit reply)) es (All-tail IsEntryOfCaller (Edited caller edit reply) es all)
    (reply_low nodes d.demands d.version edit low (need_low edit form.2)).0
left_low nodes d (Pooled index state lengths ∷ es) all low = left_low nodes d es (All-tail IsEntryOfCaller (Pooled index state lengths) es all) low

reply_form : (v : ℕ) (reply : Reply) → version_after v reply ≤ 65536 → HasLowTotal reply → IsReplyInForm reply
reply_form v (Accepted version) most low = most
reply_form v UnknownDemand most low = tt
reply_form v KnownDemand most low = tt
reply_form v UnknownNode most low = tt
reply_form v SelfDemand most low = tt
reply_form v TooMany most low = tt
reply_form v (TooMuch total) most low = low

-- ---- cuts

split_at : {X : Type 0} (xs : List X) (n : ℕ) (x : X) → slice_get xs n ≡ Some x → xs ≡ take n xs ++ x ∷ drop (suc n) xs
split_at [] n x at = absurd (omega (arith, slice_get_within [] n x at))
split_at (y ∷ xs) zero x at = ap (λ z. z ∷ xs) (cc at)
split_at (y ∷ xs) (suc n) x at = ap (λ zs. y ∷ zs) (split_at xs n x at)

-- a pooled cut's place among the cuts is the number of the cuts before it
cut_at : (es : List Entry) (n index : ℕ) (state : StateId) (lengths : List ℕ) → slice_get es n ≡ Some (Pooled index state lengths) → index ≡ length (cuts_of (take n es))
    → slice_get (cuts_of es) index ≡ Some (state.0, lengths)
cut_at es n index state lengths at is =
    let whole : cuts_of es ≡ cuts_of (take n es) ++ (state.0, lengths) ∷ cuts_of (drop (suc n) es) =
    ap cuts_of (split_at es n (Pooled index state lengths) at) ∙ cuts_both (take n es) (Pooled index state lengths ∷ drop (suc n) es) in
    ap (λ cuts. slice_get cuts index) whole
    ∙ (ap (λ k. slice_get (cuts_of (take n es) ++ (state.0, lengths) ∷ cuts_of (drop (suc n) es)) k) is
    ∙ get_after (cuts_of (take n es)) (state.0, lengths) (cuts_of (drop (suc n) es)))

-- the line of this place has the state and the lengths of the cut
line_of_map : (lines : List CutLine) (index : ℕ) (cut : CutLine) → slice_get (map cut_of_line lines) index ≡ Some (cut_of_line cut) → HasPoolLine lines index cut
line_of_map [] index cut at = absurd (omega (arith, slice_get_within [] index (cut_of_line cut) at))
line_of_map (l ∷ lines) zero cut at =
    let is : cut_of_line l ≡ cut_of_line cut = cc at in
    record { there = omega arith; same_state = sym (ap (λ (c : ℕ × List ℕ). c.0) is); same_lengths = sym (ap (λ (c : ℕ × List ℕ). c.1) is) }
line_of_map (l ∷ lines) (suc index) cut at =
    let rest = line_of_map lines index cut at in
    record { there = omega (arith, rest.there); same_state = rest.same_state; same_lengths = rest.same_lengths }

pub line_at : (es : List Entry) (lines : List CutLine) (index : ℕ) (cut : CutLine) → map cut_of_line lines ≡ cuts_of es → slice_get (cuts_of es) index ≡ Some (cut_of_line cut) → HasPoolLine lines index cut
line_at es lines index cut same at = line_of_map lines index cut (ap (λ cuts. slice_get cuts index) same ∙ at)

-- a pool has as many lines as there are cuts
pub lines_few : (es : List Entry) (lines : List CutLine) → map cut_of_line lines ≡ cuts_of es → length (cuts_of es) ≤ 4096 → length lines ≤ 4096
lines_few es lines same few = let count = ap length same in omega (arith, count, few, length-map lines cut_of_line)

-- ---- entries

module _ (p : Case) (es : List Entry) (lines : List CutLine) (callers : All IsEntryOfCaller es) (opening : AreDemands (length p.nodes) p.demands) (few : length es ≤ 65536)
    (few_cuts : length (cuts_of es) ≤ 4096) (legal : IsLegalHistory p es) (same : map cut_of_line lines ≡ cuts_of es) where
  reply_at : (n caller : ℕ) (edit : Edit) (reply : Reply) → slice_get es n ≡ Some (Edited caller edit reply) → IsEditInForm edit → IsReplyInForm reply
  reply_at n caller edit reply at form =
      let before = take n es in
      let within = slice_get_within es n (Edited caller edit reply) at in
      let count = length-take-le n es (omega (arith, within)) in
      let is : (edit_reply p.nodes (demands_left p before) (version_left p before) edit).0 ≡ reply = legal n (Edited caller edit reply) at in
      let next = reply_next p.nodes (demands_left p before) (version_left p before) edit in
      let version = version_few p before in
      let low = left_low p.nodes (record { demands = p.demands; version = 0 }) before (All-take IsEntryOfCaller n es callers) (record { different = opening.different; total = opening.total }) in
      let answer = reply_low p.nodes (demands_left p before) (version_left p before) edit low (need_low edit form) in
      reply_form (version_left p before) reply
      (subst (λ r. version_after (version_left p before) r ≤ 65536) is (omega (arith, next, version, count, within, few)))
      (subst HasLowTotal is answer.1)

  entry_at : (n : ℕ) (e : Entry) → slice_get es n ≡ Some e → IsEntryOfCaller e → IsEntryInForm lines e
  entry_at n (Edited caller edit reply) at of = record {
    some = of.0;
    most = of.1;
    asked = of.2;
    answered = reply_at n caller edit reply at of.2;
  }
  entry_at n (Pooled index state lengths) at of =
      let is = legal n (Pooled index state lengths) at in
      let here = cut_at es n index state lengths at is.3 in
      let line = line_at es lines index (record { state = state; lengths = lengths; right = 0 }) same here in
      let within = slice_get_within (cuts_of es) index (state.0, lengths) here in
      record { most = omega (arith, within, few_cuts); same_state = line.same_state; same_lengths = line.same_lengths }

  pub entries_form : All (IsEntryInForm lines) es
  entries_form n d lt = entry_at n _ (slice_get-get_or es n d lt) (callers n d lt)

-- ---- lines

pub lines_form : (p : Case) (lines : List CutLine) → All (IsCut p) lines → All HasShortLengths lines → All (λ l. l.right < 2 ^ 84) lines → All (IsCutInForm p.links p.listed) lines
lines_form p lines cuts short low n d lt = record {
  state = (cuts n d lt).listed_state;
  lengths = record { long = (cuts n d lt).kept.count; each = short n d lt };
  right = low n d lt;
}
