-- The reader's answer in 01's own terms; beside a refusal the ship is zero.
use Rattle.std.specs.Prelude.{Result, Ok, Err}
use Rattle.ship.specs.declared.Ship.{Ship}
use Rattle.ship.specs.declared.refusal.Refusal.{Refusal}
use Rattle.ship.specs.Vessel.{no_ship}
use Rattle.ship.specs.Refusals.{accepted, refused_as}
use Rattle.record.specs.Reading.{Reading}

abbrev pub shown : Result Ship Refusal → Reading
shown (Ok x) = record { verdict = accepted; ship = x }
shown (Err r) = record { verdict = refused_as r; ship = no_ship }
