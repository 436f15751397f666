use Rattle.std.proofs.Common.{◌≡◌, ◌++◌, ◌∷◌, [], refl}
use Rattle.people_files.proofs.Causing.{told_so}
use Rattle.people_files.proofs.refusal.not_fetched.Goals as goal

pub returns : goal.returns
returns c =
    let text = (c.args.name.now ++ c.args.why.now) ++ (c.args.front.now ++ c.args.name.now ++ 10 ∷ []) in
    told_so c.args.status (λ m. m ≡ text) (λ s message. (s ≡ c.args.status) × (message ≡ text))
    c.unfetched_text.result c.told.result c.unfetched_text.ensures c.told.ensures (λ m is. (refl, is))
