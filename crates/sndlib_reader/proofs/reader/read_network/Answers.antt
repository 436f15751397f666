use Rattle.sndlib_reader.proofs.ItsPlaces.{first_fault, is_only, is_spelled, not_early}
use Rattle.sndlib_reader.proofs.reader.read_network.Goals as goal

pub returns-clause-read : goal.returns-clause-read
returns-clause-read c = is_spelled c.args.bytes.now c.file_in_its_places.result c.file_in_its_places.ensures

pub returns-clause-only : goal.returns-clause-only
returns-clause-only c = is_only c.args.bytes.now c.file_in_its_places.result c.file_in_its_places.ensures

pub returns-clause-refused : goal.returns-clause-refused
returns-clause-refused c = first_fault c.args.bytes.now c.file_in_its_places.result c.file_in_its_places.ensures

pub returns-clause-not_early : goal.returns-clause-not_early
returns-clause-not_early c = not_early c.args.bytes.now c.file_in_its_places.result c.file_in_its_places.ensures
