-- `formula::Lookup::place_of` meets its contract: the table's even part lists the pairs. Assumes nothing.
use Rattle.formula.proofs.Late.{place_found}
use Rattle.formula.proofs.Lookup.place_of.Goals as goal

pub returns : goal.returns
returns c = place_found c.requires.0 c.place.ensures
