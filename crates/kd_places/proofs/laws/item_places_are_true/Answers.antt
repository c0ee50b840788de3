-- Item by item.
use Rattle.kd_places.proofs.Items as items
use Rattle.kd_places.proofs.laws.item_places_are_true.Goals as goal

pub returns : goal.returns
returns c = items.item_places_are_true
