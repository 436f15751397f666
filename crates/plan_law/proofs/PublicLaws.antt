-- the laws of the crate, from its lemmas
use Rattle.std.proofs.Common.{get_or, sym}
use Rattle.net_core.proofs.Library.{Contains-get_or}
use Rattle.plan_law.{specs.Laws.{FoundCutsAreNew, WorkedListsBegin, WorkedListsDiffer, WorkedListsFill, WorkedListsGoOn}, proofs.Rounds.{begun_worked, found_is_new, worked_cuts, worked_differ, worked_on, worked_short}}

pub found_cuts_are_new : FoundCutsAreNew
found_cuts_are_new p pairs cuts share cut units known least found k d lt same =
    found_is_new p pairs units cuts share cut (get_or cuts k d) least found (Contains-get_or cuts k d lt) (known k d lt) (sym same.0, sym same.1)

pub worked_lists_begin : WorkedListsBegin
worked_lists_begin p pairs snapshot start units begins room = begun_worked p pairs units snapshot start begins room

pub worked_lists_go_on : WorkedListsGoOn
worked_lists_go_on p pairs snapshot rounds cuts round known worked is room = worked_on p pairs snapshot rounds cuts known worked round is room

pub worked_lists_fill : WorkedListsFill
worked_lists_fill p pairs snapshot rounds cuts round n known worked is room = worked_short p pairs snapshot rounds cuts known worked round n is room

pub worked_lists_differ : WorkedListsDiffer
worked_lists_differ p pairs snapshot rounds cuts known different worked = (worked_cuts p pairs snapshot rounds cuts known worked, worked_differ p pairs snapshot rounds cuts known worked different)
