-- 01, "Ship record, version 1", with 02 §5's version 2, §6's version 3 and §9's version 4: bit-packed, most significant bit first, signed fields in two's complement.
use Rattle.std.specs.Prelude.{ℕ, zero, suc, ◌+◌, ◌-◌, ◌*◌, ◌%◌, ◌^◌, ◌≤◌, ◌<◌, Bool, true, false, not, ◌||◌, List, [], ◌∷◌, ◌++◌, length, take, drop, get_or, replicate, eqb, ltb, leb}
use Rattle.whole.specs.Pick.{pick}
use Rattle.bits.specs.Fields.{number, piece, unpack, pack, bytes, Fit}
use Rattle.units.specs.declared.Station.{Station}
use Rattle.units.specs.declared.Ordinate.{Ordinate}
use Rattle.units.specs.Datum.{datum, lift, sheer_at}
use Rattle.ship.specs.declared.House.{House}
use Rattle.ship.specs.declared.Ship.{Ship}
use Rattle.ship.specs.Kinds.{kind_b, kind_covers}
use Rattle.ship.specs.Vessel as Vessel
use Rattle.ship.specs.Vessel.{no_house, full_breadth, houses_of}
use Rattle.record.specs.declared.Head.{Head}

-- the type has 2 bits in version 1, and 3 from version 2 on
unfoldable pub kind_bits : ℕ → ℕ
kind_bits version = pick (eqb version 1) 2 3

-- the timber flag has a bit in version 4. The versions before it have none for it, and a field of no bits is 0: they hold no flag
unfoldable pub timber_bits : ℕ → ℕ
timber_bits version = pick (leb version 3) 0 1

-- eight bits less these are spare
unfoldable pub spare_bits : ℕ → ℕ
spare_bits version = 8 - (kind_bits version + timber_bits version)

-- version, type, houses n, timber flag, spare: 4, 2, 4, 0, 6 bits in version 1; 4, 3, 4, 0, 5 in versions 2 and 3; 4, 3, 4, 1, 4 in version 4
abbrev pub opening_widths : ℕ → List ℕ
opening_widths version = 4 ∷ kind_bits version ∷ 4 ∷ timber_bits version ∷ spare_bits version ∷ []

-- then, in every version, L, D, M, Cb, Cwf; six ordinates of sheer; displacement, immersion
abbrev pub head_widths : ℕ → List ℕ
head_widths version =
    opening_widths version ++ (20 ∷ 16 ∷ 16 ∷ 14 ∷ 14 ∷ 14 ∷ 14 ∷ 14 ∷ 14 ∷ 14 ∷ 14 ∷ 20 ∷ 16 ∷ [])

-- a breadth has 16 bits from version 3 on. The versions before it have none for it, and a field of no bits is 0: they hold full breadth alone
unfoldable pub breadth_bits : ℕ → ℕ
breadth_bits version = pick (leb version 2) 0 16

-- enclosed, raised quarterdeck, aft end, fore end, height, spare; then the breadths, house and ship
abbrev pub house_widths : ℕ → List ℕ
house_widths version = 1 ∷ 1 ∷ 21 ∷ 21 ∷ 13 ∷ 7 ∷ breadth_bits version ∷ breadth_bits version ∷ []

-- so a house has 8 bytes, and 12 from version 3 on
unfoldable pub house_size : ℕ → ℕ
house_size version = pick (leb version 2) 8 12

-- 27 bytes, then those of n houses
abbrev pub record_length : ℕ → ℕ → ℕ
record_length version n = 27 + house_size version * n

-- the last version; the last type, of all and of those that a version holds; the most houses
abbrev pub last_version : ℕ
last_version = 4

abbrev pub last_type : ℕ
last_type = kind_covers

unfoldable pub last_type_in : ℕ → ℕ
last_type_in version = pick (eqb version 1) kind_b last_type

abbrev pub most_houses : ℕ
most_houses = 8

-- a field in two's complement, as its signed number plus half the range, which is never below zero: 0 becomes half, and -half becomes 0.
-- The same turn leads back (proofs/Complement.antt), and proofs/Signed.antt has it in signed numbers
abbrev pub turn : ℕ → ℕ → ℕ
turn half u = (u % (2 * half) + half) % (2 * half)

-- a station is a field of 21 bits, an ordinate of sheer one of 14
abbrev pub station_in : ℕ → Station
station_in u = record { 0 = turn datum u }

abbrev pub ordinate_in : ℕ → Ordinate
ordinate_in u = record { 0 = turn lift u }

abbrev pub bit : Bool → ℕ
bit true = 1
bit false = 0

-- ---- a house in its bytes
-- its fields in the record's order
abbrev pub house_fields : House → List ℕ
house_fields h =
    bit h.enclosed ∷ bit h.quarterdeck ∷ turn datum h.aft.0 ∷ turn datum h.fore.0 ∷ h.height.0 ∷ 0
    ∷ h.breadth.0 ∷ h.beam.0 ∷ []

-- and the house of such a list
abbrev pub house_of : List ℕ → House
house_of f = record {
  enclosed = eqb (get_or f 0 0) 1;
  quarterdeck = eqb (get_or f 1 0) 1;
  aft = station_in (get_or f 2 0);
  fore = station_in (get_or f 3 0);
  height = record { 0 = get_or f 4 0 };
  breadth = record { 0 = get_or f 6 0 };
  beam = record { 0 = get_or f 7 0 };
}

unfoldable pub house_bytes : ℕ → House → List ℕ
house_bytes version h = bytes (house_size version) (pack (house_widths version) (house_fields h))

unfoldable pub house_in : ℕ → List ℕ → House
house_in version t = house_of (unpack (house_widths version) (number t))

-- the spare bits of a house
unfoldable pub spare_in : ℕ → List ℕ → ℕ
spare_in version t = get_or (unpack (house_widths version) (number t)) 5 0

-- the bytes of the house at place k
abbrev pub house_at : ℕ → List ℕ → ℕ → List ℕ
house_at version s k = take (house_size version) (drop (record_length version k) s)

-- ---- houses, one after the other
abbrev pub houses_bytes : ℕ → List House → List ℕ
houses_bytes version [] = []
houses_bytes version (h ∷ hs) = house_bytes version h ++ houses_bytes version hs

abbrev pub houses_in : ℕ → ℕ → List ℕ → List House
houses_in version zero t = []
houses_in version (suc n) t = house_in version (take (house_size version) t) ∷ houses_in version n (drop (house_size version) t)

-- every number of a house stands within its bits
pub record HousesFit (version : ℕ) (hs : List House) : Type 0 where
  pub each : (k : ℕ) → k < length hs → Fit (house_widths version) (house_fields (Vessel.house_at hs k))

-- ---- the head in 27 bytes
-- its fields in the record's order
abbrev pub head_fields : Head → List ℕ
head_fields h =
    h.version ∷ h.kind ∷ h.count ∷ bit h.timber ∷ h.spare
    ∷ h.length.0 ∷ h.depth.0 ∷ h.moulded.0 ∷ h.block ∷ h.waterplane
    ∷ turn lift (sheer_at h.sheer 0) ∷ turn lift (sheer_at h.sheer 1) ∷ turn lift (sheer_at h.sheer 2)
    ∷ turn lift (sheer_at h.sheer 3) ∷ turn lift (sheer_at h.sheer 4) ∷ turn lift (sheer_at h.sheer 5)
    ∷ h.displacement ∷ h.immersion ∷ []

-- and the head of such a list
abbrev pub head_of : List ℕ → Head
head_of f = record {
  version = get_or f 0 0;
  kind = get_or f 1 0;
  count = get_or f 2 0;
  timber = eqb (get_or f 3 0) 1;
  spare = get_or f 4 0;
  length = record { 0 = get_or f 5 0 };
  depth = record { 0 = get_or f 6 0 };
  moulded = record { 0 = get_or f 7 0 };
  block = get_or f 8 0;
  waterplane = get_or f 9 0;
  sheer =
      ordinate_in (get_or f 10 0) ∷ ordinate_in (get_or f 11 0) ∷ ordinate_in (get_or f 12 0)
      ∷ ordinate_in (get_or f 13 0) ∷ ordinate_in (get_or f 14 0) ∷ ordinate_in (get_or f 15 0) ∷ [];
  displacement = get_or f 16 0;
  immersion = get_or f 17 0;
}

unfoldable pub head_bytes : Head → List ℕ
head_bytes h = bytes 27 (pack (head_widths h.version) (head_fields h))

-- the version stands in the first four of the 216 bits of every head; it says how wide the fields are
abbrev pub version_in : List ℕ → ℕ
version_in s = piece (number (take 27 s)) 212 4

unfoldable pub head_in : List ℕ → Head
head_in s = head_of (unpack (head_widths (version_in s)) (number (take 27 s)))

-- ---- the ship: its head and its houses
-- the head of a ship's record in a version
abbrev pub head_for : ℕ → Ship → Head
head_for version x = record {
  version = version;
  kind = x.kind;
  count = x.n;
  timber = x.timber;
  spare = 0;
  length = x.length;
  depth = x.depth;
  moulded = x.moulded;
  block = x.block;
  waterplane = x.waterplane;
  sheer = x.sheer;
  displacement = x.displacement;
  immersion = x.immersion;
}

-- a version holds a ship if it is one, has the ship's type, and has bits for its timber flag and for every number of its houses
abbrev pub Holds : ℕ → Ship → Type 0
Holds version x =
    (1 ≤ version) × (version ≤ last_version) × (x.kind ≤ last_type_in version) × (bit x.timber < 2 ^ timber_bits version) × HousesFit version (houses_of x)

-- some house of a list has breadths
unfoldable pub any_set_in : List House → Bool
any_set_in [] = false
any_set_in (h ∷ hs) = not (full_breadth h) || any_set_in hs

-- the lowest version that holds a ship: its timber flag decides, its first n houses, and its type
unfoldable pub lowest_for : Ship → ℕ
lowest_for x = pick x.timber 4 (pick (any_set_in (houses_of x)) 3 (pick (ltb (last_type_in 1) x.kind) 2 1))

-- a ship's record is in the lowest version that holds it
abbrev pub ship_head : Ship → Head
ship_head x = head_for (lowest_for x) x

abbrev pub ship_of : Head → List House → Ship
ship_of h hs = record {
  kind = h.kind;
  n = h.count;
  timber = h.timber;
  length = h.length;
  depth = h.depth;
  moulded = h.moulded;
  block = h.block;
  waterplane = h.waterplane;
  sheer = h.sheer;
  displacement = h.displacement;
  immersion = h.immersion;
  houses = hs;
}

-- the eight places of a record with n houses, those beyond n at zero
unfoldable pub places_in : ℕ → ℕ → List ℕ → List House
places_in version n s = houses_in version n (drop 27 s) ++ replicate (8 - n) no_house

unfoldable pub ship_in : List ℕ → Ship
ship_in s = ship_of (head_in s) (places_in (head_in s).version (head_in s).count s)

unfoldable pub record_bytes : Ship → List ℕ
record_bytes x = head_bytes (ship_head x) ++ houses_bytes (lowest_for x) (houses_of x)
