use Rattle.step_laws.proofs.EvenPlaces.{even-cut, many-places}
use Rattle.step_laws.proofs.cuts.even_places_ascend.Goals as goal

pub returns-clause-many : goal.returns-clause-many
returns-clause-many c = many-places

pub returns-clause-all : goal.returns-clause-all
returns-clause-all c = even-cut
