use mathlib.Core.Path.{sym, ap, subst}
use Rattle.ship.specs.declared.Ship.{Ship}
use Rattle.record.specs.Reading.{Reading}
use Rattle.flat.specs.Flat.{NearSheer, NearHouses}
use Rattle.flat.proofs.Near.{near_read}
use Rattle.face.proofs.loadline_read.Goals as goal

pub of_ship-requires : goal.of_ship-requires
of_ship-requires c =
    subst (λ (x : Ship). NearSheer x.sheer × NearHouses x.houses) (sym (ap (λ (a : Reading). a.ship) c.in-Ok.ensures)) (near_read c.args.bytes.now)
