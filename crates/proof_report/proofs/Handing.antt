-- cuts that are handed in one by one
use Rattle.std.proofs.Common.{◌≡◌, ◌≢◌, ◌∙◌, ◌+◌, ◌≤◌, ◌++◌, ◌⊎◌, ⊎_elim, List, [], ◌∷◌, All, Contains, ap, arith, length, subst, sym, append_assoc, length-append}
use Rattle.net_core.proofs.Library.{All-weaker, all_pairs_push, All-push, Contains-append_left, Contains-append_right, Contains-get_or}
use Rattle.plan_terms.specs.Terms.{CutLine}
use Rattle.proof_report.specs.ProvedReports.{AreHandedIn}

module _ (pool : List CutLine) where
  module _ (own cuts : List CutLine) (cut : CutLine) (was : AreHandedIn pool own cuts) where
    -- a cut that the pool lacks, among these and the next
    abbrev IsOther : CutLine → Type 0
    IsOther c = Contains (own ++ cut ∷ []) c × (Contains pool c → ⊥)

    still_others : All IsOther was.others
    still_others = All-weaker (λ c. Contains own c × (Contains pool c → ⊥)) IsOther (λ c is. (Contains-append_left own (cut ∷ []) c is.0, is.1)) was.others was.each

    itself : Contains (cut ∷ []) cut
    itself = Contains-get_or (cut ∷ []) 0 cut (omega arith)

    -- the cut was there
    same_handed : Contains cuts cut → AreHandedIn pool (own ++ cut ∷ []) cuts
    same_handed has = record {
      others = was.others;
      whole = was.whole;
      few = let few = was.few in let long = length-append own (cut ∷ []) in omega (arith, few, long);
      all = All-push (Contains cuts) own cut was.all has;
      each = still_others;
      once = was.once;
    }

    -- the cut comes last
    module _ (new : Contains cuts cut → ⊥) where
      not_pooled : Contains pool cut → ⊥
      not_pooled pooled = new (subst (λ (cs : List CutLine). Contains cs cut) (sym was.whole) (Contains-append_left pool was.others cut pooled))

      not_other : Contains was.others cut → ⊥
      not_other other = new (subst (λ (cs : List CutLine). Contains cs cut) (sym was.whole) (Contains-append_right pool was.others cut other))

      pushed_handed : AreHandedIn pool (own ++ cut ∷ []) (cuts ++ cut ∷ [])
      pushed_handed = record {
        others = was.others ++ cut ∷ [];
        whole = ap (λ (cs : List CutLine). cs ++ cut ∷ []) was.whole ∙ append_assoc pool was.others (cut ∷ []);
        few = let few = was.few in let long = length-append own (cut ∷ []) in let more = length-append was.others (cut ∷ []) in omega (arith, few, long, more);
        all = All-push (Contains (cuts ++ cut ∷ [])) own cut
            (All-weaker (Contains cuts) (Contains (cuts ++ cut ∷ [])) (λ c has. Contains-append_left cuts (cut ∷ []) c has) own was.all)
            (Contains-append_right cuts (cut ∷ []) cut itself);
        each = All-push IsOther was.others cut still_others (Contains-append_right own (cut ∷ []) cut itself, not_pooled);
        once = all_pairs_push ◌≢◌ was.others cut was.once
            (λ k d lt same. not_other (subst (λ (c : CutLine). Contains was.others c) same (Contains-get_or was.others k d lt)));
      }

    pub one_handed : (new : List CutLine) → Contains new cut → (new ≡ cuts) ⊎ ((new ≡ cuts ++ cut ∷ []) × (Contains cuts cut → ⊥)) → AreHandedIn pool (own ++ cut ∷ []) new
    one_handed new has more = ⊎_elim
        (λ same. subst (AreHandedIn pool (own ++ cut ∷ [])) (sym same) (same_handed (subst (λ (cs : List CutLine). Contains cs cut) same has)))
        (λ pushed. subst (AreHandedIn pool (own ++ cut ∷ [])) (sym pushed.0) (pushed_handed pushed.1))
        more

-- how many there are
pub handed_long : (pool own cuts : List CutLine) → AreHandedIn pool own cuts → length cuts ≤ length pool + length own
handed_long pool own cuts is =
    let few = is.few in
    let long = ap (λ (cs : List CutLine). length cs) is.whole in
    omega (arith, few, long, length-append pool is.others)
