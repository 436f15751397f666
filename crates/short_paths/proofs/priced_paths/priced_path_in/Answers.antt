use Rattle.short_paths.proofs.priced_paths.priced_path_in.Goals as goal

pub returns-clause-apart : goal.returns-clause-apart
returns-clause-apart c = rw c.in_ok-finder.ensures at c.cheapest_path.ensures.apart
