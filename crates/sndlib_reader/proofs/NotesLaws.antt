-- Which costs the first links have, and those with one link more.
use Rattle.std.{proofs.Common.{◌≡◌, ℕ, ◌+◌, ◌<◌, ◌==◌, ◌||◌, Bool, not, List, length, take, get_or, refl, ap, ◌∙◌, sym}, proofs.lemmas.List.Folds.list_any_more}
use Rattle.net_core.{proofs.Library.list_any, specs.declared.network.Notes.Notes}
use Rattle.sndlib_reader.{specs.declared.costs.CostedLink.CostedLink, specs.Spelling.notes_of}

module _ (links : List CostedLink) (i : ℕ) (l : CostedLink) (within : i < length links) (is : l ≡ get_or links i l) where
  some_more : (has : CostedLink → Bool) → list_any has (take (i + 1) links) ≡ (list_any has (take i links) || has l)
  some_more has = list_any_more has links i l within ∙ ap (λ (x : CostedLink). list_any has (take i links) || has x) (sym is)

  pub notes_more : (notes : Notes) → notes ≡ notes_of (take i links) → notes_of (take (i + 1) links) ≡ record {
    fixed_cost = notes.fixed_cost || not (l.fixed_cost == 0);
    routing_cost = notes.routing_cost || not (l.routing_cost == 0);
    setup_cost = notes.setup_cost || not (l.link.setup == 0);
  }
  notes_more notes so = rw (so, some_more (λ x. not (x.fixed_cost == 0)), some_more (λ x. not (x.routing_cost == 0)), some_more (λ x. not (x.link.setup == 0))) refl
