use Rattle.std.proofs.Common.{ℕ, ◌≡◌, ◌<◌, ◌^◌, map, rules, arith}
use Rattle.units.specs.Datum.{sheer_at}
use Rattle.ship.specs.Vessel.{no_house}
use Rattle.flat.specs.Flat.{sheer_mm, house_of, ship_of}
use Rattle.flat.proofs.Served.{served, mapped}
use Rattle.flat.proofs.of_ship.Goals as goal

pub map-sheer-requires : goal.map-sheer-requires
map-sheer-requires c =
    let near : (k : ℕ) → sheer_at c.args.x.sheer k < 2 ^ 32 = λ k. omega (arith, c.requires.0.each k) in
    (search rules, (search rules, (search rules, served _ _ (λ k q. near k))))

pub map-houses-requires : goal.map-houses-requires
map-houses-requires c = (search rules, (search rules, (search rules, served _ _ (λ k q. c.requires.1.each k))))

pub returns : goal.returns
unfolding ship_of
returns c =
    let sheer : c.map-sheer.result ≡ map sheer_mm c.args.x.sheer = mapped _ sheer_mm (record { 0 = 0 }) c.map-sheer.ensures.items (search rules) (λ p q x y k. search rules) in
    let houses : c.map-houses.result ≡ map house_of c.args.x.houses = mapped _ house_of no_house c.map-houses.ensures.items (search rules) (λ p q x y k. search rules) in
    cc
