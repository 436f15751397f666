use Rattle.std.proofs.Common.{◌≡◌, ◌++◌, ◌∙◌, ◌∷◌, [], ap, codes, inl, inr, refl, subst, sym, append-nil}
use Rattle.outside_io.{specs.declared.shelf.ReadFault.TheVariants.Other, specs.declared.status.Status.Status, specs.declared.status.Status.TheVariants.{NoFile, ReadFault, TooLong}}
use Rattle.people_files.{specs.Messages.{FailsAtFetch, unfetched_words}, proofs.Causing.{halt_map, not_reading}}
use Rattle.people_files.proofs.loaded_files.fetch_file.Goals as goal

pub returns-in-Missing-clause-ends : goal.returns-in-Missing-clause-ends
returns-in-Missing-clause-ends g c =
    let name = c.args.name.now in
    let line = codes "no file " ++ name ++ 10 ∷ [] in
    halt_map (λ s m. (s ≡ NoFile) × (m ≡ unfetched_words name Other NoFile ++ line)) (FailsAtFetch (g.S.Shelf.files c.args.shelf.now) c.args.limit name) c.not_fetched.result
    (λ s m says. (line, inl (says.0, (c.in-Missing.ensures.answer.0, refl), refl), Other, subst (λ (x : Status). m ≡ unfetched_words name Other x ++ line) (sym says.0) says.1)) c.not_fetched.ensures

pub returns-in-Missing-clause-shelf : goal.returns-in-Missing-clause-shelf
returns-in-Missing-clause-shelf g c =
    let name = c.args.name.now in
    let line = codes "no file " ++ name ++ 10 ∷ [] in
    record {
      same = c.in-Missing.ensures.files;
      later = c.in-Missing.ensures.later;
      counted = λ failed. absurd (not_reading NoFile (λ m. m ≡ unfetched_words name Other NoFile ++ line) c.not_fetched.result (λ is. cc is) c.not_fetched.ensures failed);
    }

pub returns-in-TooLong-clause-ends : goal.returns-in-TooLong-clause-ends
returns-in-TooLong-clause-ends g c =
    let name = c.args.name.now in
    let line = codes "too long " ++ name ++ 10 ∷ [] in
    halt_map (λ s m. (s ≡ TooLong) × (m ≡ unfetched_words name Other TooLong ++ line)) (FailsAtFetch (g.S.Shelf.files c.args.shelf.now) c.args.limit name) c.not_fetched-in-TooLong.result
    (λ s m says. (line, inr (inl (says.0, (c.in-TooLong.ensures.answer.0, refl), refl)), Other, subst (λ (x : Status). m ≡ unfetched_words name Other x ++ line) (sym says.0) says.1)) c.not_fetched-in-TooLong.ensures

pub returns-in-TooLong-clause-shelf : goal.returns-in-TooLong-clause-shelf
returns-in-TooLong-clause-shelf g c =
    let name = c.args.name.now in
    let line = codes "too long " ++ name ++ 10 ∷ [] in
    record {
      same = c.in-TooLong.ensures.files;
      later = c.in-TooLong.ensures.later;
      counted = λ failed. absurd (not_reading TooLong (λ m. m ≡ unfetched_words name Other TooLong ++ line) c.not_fetched-in-TooLong.result (λ is. cc is) c.not_fetched-in-TooLong.ensures failed);
    }

pub returns-in-Failed-clause-ends : goal.returns-in-Failed-clause-ends
returns-in-Failed-clause-ends g c =
    let name = c.args.name.now in
    let fault = c.in-Failed.fault in
    let words = name ++ c.fault_words.result.now in
    halt_map (λ s m. (s ≡ ReadFault) × (m ≡ words)) (FailsAtFetch (g.S.Shelf.files c.args.shelf.now) c.args.limit name) c.unread.result
    (λ s m says. (
      [],
      inr (inr (says.0, refl)),
      fault,
      subst (λ (x : Status). m ≡ unfetched_words name fault x ++ []) (sym says.0)
          (says.1 ∙ (ap (λ w. name ++ w) c.fault_words.ensures ∙ sym (append-nil (unfetched_words name fault ReadFault)))),
    )) c.unread.ensures
