use Rattle.rendering.proofs.Trips.{round_trip}
use Rattle.rendering.proofs.round_trip_stands.Goals as goal

pub returns : goal.returns
returns c = round_trip
