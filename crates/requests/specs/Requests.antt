-- 02: the figures stated with its requests and their readings, in the same form; for §8, which has none, figures worked by hand, and for §5, §6 and §9 some besides. A row has the request's number.
use Rattle.std.specs.Prelude.{ℕ, ◌+◌, ◌*◌, true, List, [], ◌∷◌, ◌++◌, map, ℤ, pos, ◌-ℤ◌, drop}
use Rattle.whole.specs.Frac.{ceil}
use Rattle.units.specs.Datum.{lift}
use Rattle.ship.specs.declared.House.{House}
use Rattle.ship.specs.Kinds.{kind_a, kind_b, kind_b60, kind_b100, kind_covers}
use Rattle.ship.specs.Refusals.{Paper, first}
use Rattle.ship.specs.Checks.{house_lines}
use Rattle.record.specs.Layout.{ship_in, record_bytes}
use Rattle.record.specs.Reading.{reading_in}
use Rattle.record.specs.Writing.{writing_of}
use Rattle.tabular.specs.Tabular.{covers_add}
use Rattle.basis.specs.Basis.{basis_of}
use Rattle.houses.specs.Height.{height_ratio}
use Rattle.houses.specs.Effective.{exact_effective, effective_length}
use Rattle.houses.specs.Amidships.{amidships_of}
use Rattle.corrections.specs.Depth31.{depth_reduction}
use Rattle.sheer.specs.Sheer.{exact_deficiency, exact_addition, excess, deficiency, addition}
use Rattle.percentages.specs.Table37.{ordinary_row}
use Rattle.deduction.specs.Deduction37.{deducted}
use Rattle.steps.specs.Steps.{effective_e, summer_of}
use Rattle.timber.specs.Answer.{Sheet}
use Rattle.marks.specs.Marks.{sheet_in, answer_in}
use Rattle.trial.specs.Poop.{with_poop}
use Rattle.question.specs.Question.{Reply, reply_in}
use Rattle.figures.specs.Figures.{Row, row, one, k1, k2, particulars, forecastle, deduction_of, refusal_of, marks_row, asked_row, set_in, house}

-- ---- §1: number, place and overlap, of houses on a ship of 90 m, from aft to fore each
abbrev pub refusal_row : ℕ → Paper → List ℕ → Row
refusal_row k p stated = row k (refusal_of p) stated

abbrev pub listed : List House → Paper
listed hs = first (house_lines 90000 hs)

abbrev pub two : ℕ → ℕ → ℕ → ℕ → Paper
two aft fore later end = listed (house aft fore 2000 ∷ house later end 2000 ∷ [])

-- sample/twice.record: k2 with its house reported twice
unfoldable pub r1 : List ℕ
r1 = 0x14 ∷ 0x80 ∷ particulars ++ forecastle ++ forecastle

-- ---- §4: what depth takes, of a list of houses
abbrev pub depth_takes : ℕ → ℕ → List House → ℕ
depth_takes l d hs = depth_reduction l d (height_ratio l (amidships_of l hs))

-- what the records of L 120 m have in common: from Cwf on, with no certified displacement; and their forecastle
abbrev pub hull_forms : List ℕ
hull_forms =
    0x1f ∷ 0x40 ∷ 0x13 ∷ 0x88 ∷ 0x22 ∷ 0xb0 ∷ 0x23 ∷ 0x01 ∷ 0x18 ∷ 0x11 ∷ 0x58 ∷ 0x9c ∷ 0x40 ∷ 0x00 ∷ 0x00 ∷ 0x00 ∷ 0x00 ∷ []

abbrev pub forward : List ℕ
forward = 0x83 ∷ 0x5b ∷ 0x60 ∷ 0x1d ∷ 0x4c ∷ 0x04 ∷ 0x7e ∷ 0x00 ∷ []

-- sample/low.record: L 120 m, D = M = 7000 and a forecastle; asked for a poop of 2300 mm
unfoldable pub r4 : List ℕ
r4 = 0x14 ∷ 0x40 ∷ 0x1d ∷ 0x4c ∷ 0x01 ∷ 0xb5 ∷ 0x81 ∷ 0xb5 ∷ 0x86 ∷ 0xa4 ∷ hull_forms ++ forward

abbrev pub asked4 : ℕ → Reply
asked4 wish = reply_in r4 2300 wish

-- ---- §5: L 120 m, D = M = 8000, by the two bytes that have version, type and n: A and B in version 1, the others in version 2. sample/b60.record is the third
unfoldable pub long5 : ℕ → ℕ → List ℕ
long5 a b = a ∷ b ∷ 0x1d ∷ 0x4c ∷ 0x01 ∷ 0xf4 ∷ 0x01 ∷ 0xf4 ∷ 0x06 ∷ 0xa4 ∷ hull_forms

-- S of a record by the marks call: 0 if it is refused
abbrev pub summer_in : List ℕ → ℕ
summer_in s = (sheet_in s).marks.s

abbrev pub summer5 : ℕ → ℕ → ℕ
summer5 a b = summer_in (long5 a b ++ forward)

-- with portable covers and Cb 0.8
unfoldable pub full5 : List ℕ
full5 = 0x28 ∷ 0x20 ∷ 0x1d ∷ 0x4c ∷ 0x01 ∷ 0xf4 ∷ 0x01 ∷ 0xf4 ∷ 0x07 ∷ 0xd0 ∷ hull_forms ++ forward

-- L 110 m, D = M = 8000, a poop of 20 m and a forecastle of 6 m, which is under 0.07 L: 37 takes the deduction from a type B ship and not from a type A ship
unfoldable pub short5 : ℕ → ℕ → List ℕ
short5 a b =
    a ∷ b ∷ 0x1a ∷ 0xdb ∷ 0x01 ∷ 0xf4 ∷ 0x01 ∷ 0xf4 ∷ 0x06 ∷ 0xa4 ∷ 0x25 ∷ 0x1c ∷ 0x12 ∷ 0x3c ∷ 0x20 ∷ 0x60 ∷ 0x20 ∷ 0xc1 ∷ 0x05 ∷ 0x10 ∷ 0x30
    ∷ 0x91 ∷ 0xd0 ∷ 0x00 ∷ 0x00 ∷ 0x00 ∷ 0x00 ∷ 0x80 ∷ 0x00 ∷ 0x00 ∷ 0x04 ∷ 0xe2 ∷ 0x04 ∷ 0x7e ∷ 0x00 ∷ 0x83 ∷ 0x2c ∷ 0x80 ∷ 0x1a ∷ 0xdb ∷ 0x04 ∷ 0x7e ∷ 0x00 ∷ []

-- the line by type at 120 m
abbrev pub line5 : ℕ → ℕ
line5 kind = (basis_of kind 120000).line

-- k1's particulars with another L, whose five hexadecimal digits are those of the first three bytes but the last, which is D's
abbrev pub other5 : ℕ → ℕ → ℕ → ℕ → List ℕ
other5 opening a b c = opening ∷ 0x00 ∷ a ∷ b ∷ c ∷ drop 3 particulars

-- k2 with portable covers, sample/covers.record, and k1 in version 2
unfoldable pub covered5 : List ℕ
covered5 = 0x28 ∷ 0x20 ∷ particulars ++ forecastle

abbrev pub second5 : List ℕ
second5 = 0x22 ∷ 0x00 ∷ particulars

-- ---- §6: k2 in version 3, its house with a breadth of two bytes where the ship has 10000 mm. sample/setin.record has 9500 mm
unfoldable pub sides6 : ℕ → ℕ → List ℕ
sides6 a b = 0x32 ∷ 0x20 ∷ particulars ++ forecastle ++ (a ∷ b ∷ 0x27 ∷ 0x10 ∷ [])

-- in version 3 with full breadth, and with no bytes for breadths
unfoldable pub full6 : List ℕ
full6 = 0x32 ∷ 0x20 ∷ particulars ++ forecastle ++ (0x00 ∷ 0x00 ∷ 0x00 ∷ 0x00 ∷ [])

unfoldable pub bare6 : List ℕ
bare6 = 0x32 ∷ 0x20 ∷ particulars ++ forecastle

-- one house on a ship of 90 m, of 10 m from 20 m on
abbrev pub alone6 : ℕ → ℕ → Paper
alone6 breadth beam = listed (set_in 20000 30000 2000 breadth beam ∷ [])

-- what 37 grants such a ship of type B for a forecastle of 6.7 m alone
abbrev pub granted6 : ℕ → ℕ → ℕ
granted6 breadth beam =
    let h = set_in 83300 90000 2000 breadth beam in
    deducted true ordinary_row (exact_effective 90000 h) 90000 (effective_length 90000 (h ∷ []))

-- ---- §8: the borders of its cancelling. The mean of a ship of 90 m, by its after sum in mm: 50 and 75 per cent of standard are 1334 and 2001 mm. The forward
-- sum is 800 mm above standard, an excess of 100 mm
abbrev pub lacks8 : ℕ → ℕ
lacks8 after = deficiency (7 * lift + after) (7 * lift + 6136) 90000

abbrev pub over8 : ℕ → ℕ
over8 after = excess (7 * lift + after) (7 * lift + 6136) 90000

-- a ship of 90.001 m with no sheer and no houses, its mean rounded first, as 01 has it, and not rounded
abbrev pub flat8 : ℕ
flat8 = addition (deficiency (7 * lift) (7 * lift) 90001) 90001 0

abbrev pub unrounded8 : ℕ
unrounded8 = ceil (exact_addition (exact_deficiency (7 * lift) (7 * lift) 90001) 90001 0)

-- ---- §9: the six timber marks of a record that is accepted; and so many mm below zero
unfoldable pub timber_marks_row : ℕ → Sheet → List ℤ → Row
timber_marks_row k a stated =
    let t = a.timber in
    record {
      figure = k;
      given = map pos (refusal_of a.ordinary.verdict) ++ (t.ls ∷ t.lt ∷ t.lw ∷ pos t.lwna ∷ t.lf ∷ t.ltf ∷ []);
      stated = map pos (0 ∷ 0 ∷ 0 ∷ []) ++ stated;
    }

abbrev pub less : ℕ → ℤ
less mm = pos 0 -ℤ pos mm

-- k1 in version 4 with the flag, and k2 by its first two bytes, its house of full breadth; sample/timber.record is k2 with the flag
unfoldable pub bare9 : List ℕ
bare9 = 0x42 ∷ 0x10 ∷ particulars

abbrev pub full9 : List ℕ
full9 = 0x00 ∷ 0x00 ∷ 0x00 ∷ 0x00 ∷ []

unfoldable pub flagged9 : ℕ → ℕ → List ℕ
flagged9 a b = a ∷ b ∷ particulars ++ forecastle ++ full9

-- §5's ship of 120 m as B-100
unfoldable pub reduced9 : List ℕ
reduced9 = long5 0x46 0x30 ++ forward ++ full9

-- L 80 m, D 4200, M 6000 and a full house of 2400 mm: as type B with 1.3 times the standard sheer, and with portable covers and k1's sheer
unfoldable pub house9 : List ℕ
house9 = 0x80 ∷ 0x00 ∷ 0x00 ∷ 0x13 ∷ 0x88 ∷ 0x04 ∷ 0xb0 ∷ 0x00 ∷ 0x00 ∷ 0x00 ∷ 0x00 ∷ 0x00 ∷ []

unfoldable pub low9 : List ℕ
low9 =
    0x42 ∷ 0x30 ∷ 0x13 ∷ 0x88 ∷ 0x01 ∷ 0x06 ∷ 0x81 ∷ 0x77 ∷ 0x06 ∷ 0xa4 ∷ 0x1f ∷ 0x40 ∷ 0x12 ∷ 0xa0
    ∷ 0x21 ∷ 0x10 ∷ 0x21 ∷ 0x41 ∷ 0x0b ∷ 0x10 ∷ 0x88 ∷ 0x94 ∷ 0xf0 ∷ 0x00 ∷ 0x00 ∷ 0x00 ∷ 0x00 ∷ []
    ++ house9

unfoldable pub covers9 : List ℕ
covers9 =
    0x48 ∷ 0x30 ∷ 0x13 ∷ 0x88 ∷ 0x01 ∷ 0x06 ∷ 0x81 ∷ 0x77 ∷ 0x06 ∷ 0xa4 ∷ 0x1f ∷ 0x40 ∷ 0x0f ∷ 0xa0
    ∷ 0x1b ∷ 0xc0 ∷ 0x1c ∷ 0x00 ∷ 0xe0 ∷ 0x0d ∷ 0xe0 ∷ 0x7d ∷ 0x00 ∷ 0x00 ∷ 0x00 ∷ 0x00 ∷ 0x00 ∷ []
    ++ house9

-- B-60, L 120 m, M 2000, Cb 0.7, Cwf 1 and no house, whose LS is 1715 mm; by the byte with D's last digit: 0x40 is a D of 1716, 0x30 one of 1715 mm
unfoldable pub depth9 : ℕ → List ℕ
depth9 d = 0x44 ∷ 0x10 ∷ 0x1d ∷ 0x4c ∷ 0x00 ∷ 0x6b ∷ d ∷ 0x7d ∷ 0x06 ∷ 0xd6 ∷ 0x27 ∷ 0x10 ∷ drop 2 hull_forms

-- ---- the table. The long questions stand last: each of their searches goes over more than 900 lengths
unfoldable pub requests : List Row
requests =
    refusal_row 1 (two 0 20000 0 5000) (11 ∷ 1 ∷ 5000 ∷ [])
    ∷ refusal_row 1 (two 0 20001 20000 30000) (11 ∷ 1 ∷ 1 ∷ [])
    ∷ refusal_row 1 (two 0 20000 6000 8000) (11 ∷ 1 ∷ 2000 ∷ [])
    ∷ refusal_row 1 (two 20000 25000 19999 30000) (18 ∷ 1 ∷ 0 ∷ [])
    ∷ refusal_row 1 (two 20000 25000 0 10000) (18 ∷ 1 ∷ 0 ∷ [])
    ∷ refusal_row 1 (two 10000 20000 9999 15000) (18 ∷ 1 ∷ 0 ∷ [])
    ∷ refusal_row 1 (two 0 20000 20000 30000) (0 ∷ 0 ∷ 0 ∷ [])
    ∷ refusal_row 1 (listed (house 0 20000 2000 ∷ house 10000 30000 2000 ∷ house 5000 8000 2000 ∷ [])) (11 ∷ 1 ∷ 10000 ∷ [])
    ∷ refusal_row 1 (listed (house 20000 30000 2000 ∷ house 10000 15000 2000 ∷ house 14000 18000 2000 ∷ [])) (18 ∷ 1 ∷ 0 ∷ [])
    ∷ refusal_row 1 (reading_in r1).verdict (11 ∷ 1 ∷ 10000 ∷ [])
    ∷ refusal_row 1 (writing_of 91 (ship_in r1)) (11 ∷ 1 ∷ 10000 ∷ [])
    ∷ marks_row 1 (sheet_in r1) (11 ∷ 1 ∷ 10000 ∷ 0 ∷ 0 ∷ 0 ∷ 0 ∷ 0 ∷ 0 ∷ [])
    ∷ asked_row 1 (reply_in r1 1950 1000) (11 ∷ 1 ∷ 10000 ∷ 0 ∷ [])
    ∷ one 2 (effective_length 100000 (house 0 10001 1000 ∷ house 20000 30002 1000 ∷ house 95000 100000 1000 ∷ [])) 12196585
    ∷ one 4 (depth_takes 90212 5000 (house 18000 90112 1001 ∷ [])) 97734
    ∷ one 4 (depth_takes 120000 7000 (house 24000 96000 2250 ∷ [])) 250000
    ∷ one 4 (depth_takes 120000 7000 (house 24000 96000 1125 ∷ [])) 125000
    ∷ one 4 (depth_takes 120000 7000 (house 24001 96000 2250 ∷ [])) 0
    ∷ one 4 (depth_takes 120000 8000 (house 24000 96000 2250 ∷ [])) 0
    ∷ one 4 (depth_takes 120000 7999 (house 24000 96000 2250 ∷ [])) 250
    ∷ one 4 (summer_of (with_poop 2300 959 (ship_in r4))) 785
    ∷ one 4 (summer_of (with_poop 2300 960 (ship_in r4))) 534
    ∷ one 5 (covers_add 24000) 50000
    ∷ one 5 (covers_add 108000) 50000
    ∷ one 5 (covers_add 108500) 51000
    ∷ one 5 (covers_add 120000) 84000
    ∷ one 5 (covers_add 199500) 357500
    ∷ one 5 (covers_add 200000) 358000
    ∷ one 5 (line5 kind_a) 1459000
    ∷ one 5 (line5 kind_b) 1690000
    ∷ one 5 (line5 kind_b60) 1551400
    ∷ one 5 (line5 kind_b100) 1459000
    ∷ one 5 (line5 kind_covers) 1774000
    ∷ one 5 (summer5 0x10 0x40) 1398
    ∷ one 5 (summer5 0x14 0x40) 1629
    ∷ one 5 (summer5 0x24 0x20) 1490
    ∷ one 5 (summer5 0x26 0x20) 1398
    ∷ one 5 (summer5 0x28 0x20) 1713
    ∷ one 5 (summer_in full5) 1869
    ∷ one 5 (summer_in (short5 0x10 0x80)) 1281
    ∷ one 5 (summer_in (short5 0x26 0x40)) 1446
    ∷ marks_row 5 (sheet_in covered5) (0 ∷ 0 ∷ 0 ∷ 1074 ∷ 972 ∷ 1177 ∷ 1227 ∷ 972 ∷ 870 ∷ [])
    ∷ refusal_row 5 (reading_in (other5 0x24 0x18 0x6a 0x01)).verdict (22 ∷ 0 ∷ 0 ∷ [])
    ∷ refusal_row 5 (reading_in (other5 0x24 0x18 0x6a 0x11)).verdict (0 ∷ 0 ∷ 0 ∷ [])
    ∷ refusal_row 5 (reading_in (other5 0x26 0x18 0x6a 0x01)).verdict (22 ∷ 0 ∷ 0 ∷ [])
    ∷ refusal_row 5 (reading_in (other5 0x26 0x18 0x6a 0x11)).verdict (0 ∷ 0 ∷ 0 ∷ [])
    ∷ refusal_row 5 (reading_in (other5 0x28 0x30 0xd4 0x01)).verdict (0 ∷ 0 ∷ 0 ∷ [])
    ∷ refusal_row 5 (reading_in (other5 0x28 0x30 0xd4 0x11)).verdict (22 ∷ 0 ∷ 0 ∷ [])
    ∷ refusal_row 5 (writing_of 91 (ship_in (other5 0x28 0x30 0xd4 0x11))) (22 ∷ 0 ∷ 0 ∷ [])
    ∷ refusal_row 5 (reading_in (other5 0x18 0x18 0x6a 0x11)).verdict (3 ∷ 0 ∷ 0 ∷ [])
    ∷ refusal_row 5 (reading_in (other5 0x2a 0x18 0x6a 0x11)).verdict (3 ∷ 0 ∷ 0 ∷ [])
    ∷ refusal_row 5 (reading_in (other5 0x04 0x18 0x6a 0x11)).verdict (2 ∷ 0 ∷ 0 ∷ [])
    ∷ refusal_row 5 (reading_in (other5 0x54 0x18 0x6a 0x11)).verdict (2 ∷ 0 ∷ 0 ∷ [])
    ∷ refusal_row 5 (reading_in second5).verdict (0 ∷ 0 ∷ 0 ∷ [])
    ∷ row 5 (record_bytes (ship_in second5)) k1
    ∷ row 5 (record_bytes (ship_in covered5)) covered5
    ∷ asked_row 5 (reply_in covered5 1950 1000) (0 ∷ 0 ∷ 0 ∷ 96 ∷ [])
    ∷ one 6 (effective_e (ship_in (sides6 0x25 0x1c))) 9500000
    ∷ one 6 (deduction_of (ship_in (sides6 0x25 0x1c))) 65640
    ∷ one 6 (summer_in (sides6 0x25 0x1c)) 1028
    ∷ one 6 (summer_in (sides6 0x23 0xf0)) 1031
    ∷ marks_row 6 (sheet_in (sides6 0x23 0xef)) (23 ∷ 0 ∷ 0 ∷ 0 ∷ 0 ∷ 0 ∷ 0 ∷ 0 ∷ 0 ∷ [])
    ∷ one 6 (effective_length 100000 (set_in 0 10001 1000 9000 9000 ∷ house 20000 30002 1000 ∷ house 95000 100000 1000 ∷ [])) 12196584
    ∷ one 6 (effective_length 100000 (house 0 10001 1000 ∷ set_in 20000 30002 1000 1 1 ∷ house 95000 100000 1000 ∷ [])) 12196584
    ∷ one 6 (effective_length 100000 (house 0 10001 1000 ∷ house 20000 30002 1000 ∷ set_in 95000 100000 1000 65535 65535 ∷ [])) 12196584
    ∷ one 6 (granted6 0 0) 46294
    ∷ one 6 (granted6 9403 10000) 43530
    ∷ one 6 (granted6 9402 10000) 0
    ∷ refusal_row 6 (alone6 10000 10000) (0 ∷ 0 ∷ 0 ∷ [])
    ∷ refusal_row 6 (alone6 10001 10000) (23 ∷ 0 ∷ 0 ∷ [])
    ∷ refusal_row 6 (alone6 0 10000) (23 ∷ 0 ∷ 0 ∷ [])
    ∷ refusal_row 6 (alone6 10000 0) (23 ∷ 0 ∷ 0 ∷ [])
    ∷ refusal_row 6 (alone6 9200 10000) (0 ∷ 0 ∷ 0 ∷ [])
    ∷ refusal_row 6 (alone6 65535 65536) (23 ∷ 0 ∷ 0 ∷ [])
    ∷ refusal_row 6 (listed (set_in 0 10000 2000 1 0 ∷ house 20000 20000 2000 ∷ [])) (9 ∷ 1 ∷ 0 ∷ [])
    ∷ refusal_row 6 (reading_in full6).verdict (0 ∷ 0 ∷ 0 ∷ [])
    ∷ refusal_row 6 (reading_in bare6).verdict (5 ∷ 0 ∷ 0 ∷ [])
    ∷ row 6 (record_bytes (ship_in full6)) k2
    ∷ row 6 (record_bytes (ship_in (sides6 0x25 0x1c))) (sides6 0x25 0x1c)
    ∷ refusal_row 6 (writing_of 39 (ship_in (sides6 0x25 0x1c))) (0 ∷ 0 ∷ 0 ∷ [])
    ∷ refusal_row 6 (writing_of 38 (ship_in (sides6 0x25 0x1c))) (17 ∷ 0 ∷ 0 ∷ [])
    ∷ one 8 (lacks8 1333) 83438
    ∷ one 8 (lacks8 1334) 83375
    ∷ one 8 (lacks8 1335) 83238
    ∷ one 8 (over8 2000) 8175
    ∷ one 8 (over8 2001) 8312
    ∷ one 8 (over8 2002) 8375
    ∷ one 8 flat8 375192
    ∷ one 8 unrounded8 375191
    ∷ timber_marks_row 9 (answer_in bare9) (pos 1102 ∷ pos 1000 ∷ pos 1239 ∷ pos 2163 ∷ pos 1000 ∷ pos 898 ∷ [])
    ∷ timber_marks_row 9 (answer_in (flagged9 0x42 0x30)) (pos 807 ∷ pos 699 ∷ pos 952 ∷ pos 1178 ∷ pos 699 ∷ pos 591 ∷ [])
    ∷ marks_row 9 (sheet_in (flagged9 0x42 0x30)) (0 ∷ 0 ∷ 0 ∷ 1024 ∷ 921 ∷ 1128 ∷ 1178 ∷ 921 ∷ 818 ∷ [])
    ∷ timber_marks_row 9 (answer_in (flagged9 0x42 0x20)) (pos 0 ∷ pos 0 ∷ pos 0 ∷ pos 0 ∷ pos 0 ∷ pos 0 ∷ [])
    ∷ timber_marks_row 9 (answer_in (flagged9 0x48 0x30)) (pos 857 ∷ pos 750 ∷ pos 1000 ∷ pos 1227 ∷ pos 750 ∷ pos 643 ∷ [])
    ∷ timber_marks_row 9 (answer_in reduced9) (pos 1382 ∷ pos 1245 ∷ pos 1536 ∷ pos 1536 ∷ pos 1245 ∷ pos 1108 ∷ [])
    ∷ timber_marks_row 9 (answer_in low9) (less 154 ∷ less 244 ∷ less 33 ∷ pos 187 ∷ less 244 ∷ less 334 ∷ [])
    ∷ one 9 (summer_in low9) 50
    ∷ timber_marks_row 9 (answer_in covers9) (less 80 ∷ less 169 ∷ pos 39 ∷ pos 285 ∷ less 169 ∷ less 258 ∷ [])
    ∷ one 9 (summer_in covers9) 150
    ∷ timber_marks_row 9 (answer_in (depth9 0x40)) (pos 1715 ∷ pos 1715 ∷ pos 1578 ∷ pos 1578 ∷ pos 1715 ∷ pos 1715 ∷ [])
    ∷ timber_marks_row 9 (answer_in (depth9 0x30)) (pos 0 ∷ pos 0 ∷ pos 0 ∷ pos 0 ∷ pos 0 ∷ pos 0 ∷ [])
    ∷ one 9 (summer_in (depth9 0x30)) 1575
    ∷ refusal_row 9 (reading_in (flagged9 0x40 0x30)).verdict (24 ∷ 0 ∷ 0 ∷ [])
    ∷ refusal_row 9 (reading_in (flagged9 0x41 0x30)).verdict (24 ∷ 0 ∷ 0 ∷ [])
    ∷ refusal_row 9 (writing_of 0 (ship_in (flagged9 0x41 0x30))) (24 ∷ 0 ∷ 0 ∷ [])
    ∷ refusal_row 9 (reading_in (flagged9 0x4a 0x30)).verdict (3 ∷ 0 ∷ 0 ∷ [])
    ∷ refusal_row 9 (reading_in (flagged9 0x32 0x30)).verdict (6 ∷ 0 ∷ 0 ∷ [])
    ∷ refusal_row 9 (reading_in (0x22 ∷ 0x30 ∷ particulars ++ forecastle)).verdict (6 ∷ 0 ∷ 0 ∷ [])
    ∷ refusal_row 9 (reading_in (0x14 ∷ 0x50 ∷ particulars ++ forecastle)).verdict (6 ∷ 0 ∷ 0 ∷ [])
    ∷ refusal_row 9 (reading_in (flagged9 0x42 0x28)).verdict (6 ∷ 0 ∷ 0 ∷ [])
    ∷ refusal_row 9 (reading_in (flagged9 0x52 0x30)).verdict (2 ∷ 0 ∷ 0 ∷ [])
    ∷ row 9 (record_bytes (ship_in (flagged9 0x42 0x30))) (flagged9 0x42 0x30)
    ∷ row 9 (record_bytes (ship_in (flagged9 0x42 0x20))) k2
    ∷ asked_row 4 (asked4 785) (0 ∷ 0 ∷ 0 ∷ 959 ∷ [])
    ∷ asked_row 4 (asked4 784) (0 ∷ 0 ∷ 0 ∷ 960 ∷ [])
    ∷ asked_row 4 (asked4 534) (0 ∷ 0 ∷ 0 ∷ 960 ∷ [])
    ∷ asked_row 4 (asked4 533) (0 ∷ 0 ∷ 0 ∷ 961 ∷ [])
    ∷ []
