-- 01, "Figures to check against": one table. A row has the figure's number, what the definitions give, and what 01 states.
use Rattle.std.specs.Prelude.{ℕ, ◌+◌, ◌-◌, ◌*◌, Bool, true, false, ◌&&◌, List, [], ◌∷◌, ◌++◌, map, eqb, ℤ, pos, negsuc, replicate}
use Rattle.whole.specs.Frac.{Frac}
use Rattle.units.specs.declared.Ordinate.{Ordinate}
use Rattle.units.specs.Datum.{station_of, lift}
use Rattle.tabular.specs.Tabular.{table_a, table_b}
use Rattle.percentages.specs.Table37.{ordinary_row}
use Rattle.ship.specs.declared.House.{House}
use Rattle.ship.specs.declared.Ship.{Ship}
use Rattle.ship.specs.Refusals.{Paper}
use Rattle.record.specs.Layout.{head_fields, head_in, house_fields, house_in, house_at, ship_in}
use Rattle.houses.specs.Length.{covered_length}
use Rattle.houses.specs.Height.{standard_height}
use Rattle.houses.specs.Effective.{exact_effective, effective_length}
use Rattle.houses.specs.Cover.{reach}
use Rattle.corrections.specs.Fullness30.{counted}
use Rattle.corrections.specs.Depth31.{depth_addition}
use Rattle.deduction.specs.Deduction37.{deducted}
use Rattle.sheer.specs.Sheer as Sheer
use Rattle.bow.specs.Bow.{higher, lower}
use Rattle.mark.specs.Others.{Sheet}
use Rattle.steps.specs.Steps.{type_b, basis, effective_e, forecastle_house, added_to, taken_from, summer_of}
use Rattle.marks.specs.Marks.{sheet_in}
use Rattle.trial.specs.Poop.{with_poop}
use Rattle.question.specs.Question.{Reply, reply_in}

pub record Row : Type 0 where
  pub figure : ℕ
  pub given : List ℤ
  pub stated : List ℤ

-- of numbers that are not below zero, and of one
abbrev pub row : ℕ → List ℕ → List ℕ → Row
row k given stated = record { figure = k; given = map pos given; stated = map pos stated }

abbrev pub one : ℕ → ℕ → ℕ → Row
one k given stated = row k (given ∷ []) (stated ∷ [])

-- ---- k1 and k2: the bytes of their records, of which k2's is sample/k2.record. After the first two bytes, which have n, the heads are the same
abbrev pub particulars : List ℕ
particulars =
    0x15 ∷ 0xf9 ∷ 0x01 ∷ 0x77 ∷ 0x01 ∷ 0x77 ∷ 0x06 ∷ 0xa4 ∷ 0x1f ∷ 0x40 ∷ 0x0f ∷ 0xa0 ∷ 0x1b ∷ 0xc0
    ∷ 0x1c ∷ 0x00 ∷ 0xe0 ∷ 0x0d ∷ 0xe0 ∷ 0x7d ∷ 0x00 ∷ 0x00 ∷ 0x00 ∷ 0x00 ∷ 0x00 ∷ []

unfoldable pub k1 : List ℕ
k1 = 0x14 ∷ 0x00 ∷ particulars

-- k2's house
abbrev pub forecastle : List ℕ
forecastle = 0x82 ∷ 0x71 ∷ 0x00 ∷ 0x15 ∷ 0xf9 ∷ 0x03 ∷ 0xe8 ∷ 0x00 ∷ []

unfoldable pub k2 : List ℕ
k2 = 0x14 ∷ 0x40 ∷ particulars ++ forecastle

-- the fields of the head, in the record's order: version, type, n, timber flag, spare, fields 1 to 13
abbrev pub head_row : ℕ → List ℕ → ℕ → Row
head_row k s n =
    row k (head_fields (head_in s))
    (1 ∷ 1 ∷ n ∷ 0 ∷ 0 ∷ 90000 ∷ 6000 ∷ 6000 ∷ 6800 ∷ 8000 ∷ 1000 ∷ 444 ∷ 112 ∷ 224 ∷ 888 ∷ 2000 ∷ 0 ∷ 0 ∷ [])

-- ---- what is worked from a ship
-- the freeboard before bow height, and the bow height (39)
abbrev pub before_bow : Ship → ℕ
before_bow x = added_to (basis x).line x - taken_from ordinary_row x

unfoldable pub bow_height : ℕ → ℕ → ℕ → ℕ → ℕ
bow_height l m cb cwf = higher l m cb cwf - lower l m cb cwf

abbrev pub bow_height_of : Ship → ℕ
bow_height_of x = bow_height x.length.0 x.moulded.0 (counted x.block) x.waterplane

-- the houses' deduction (37)
abbrev pub deduction_of : Ship → ℕ
deduction_of x = deducted (type_b x) ordinary_row (exact_effective x.length.0 (forecastle_house x)) x.length.0 (effective_e x)

-- ---- what the calls answer: number, place and overlap of the refusal, all 0 where there is none; then the marks, or the length
abbrev pub refusal_of : Paper → List ℕ
refusal_of p = p.number ∷ p.place ∷ p.overlap ∷ []

unfoldable pub marks_row : ℕ → Sheet → List ℕ → Row
marks_row k a stated =
    let m = a.marks in
    record {
      figure = k;
      given = map pos (refusal_of a.verdict) ++ (pos m.s ∷ pos m.t ∷ pos m.w ∷ pos m.wna ∷ m.f ∷ m.tf ∷ []);
      stated = map pos stated;
    }

unfoldable pub asked_row : ℕ → Reply → List ℕ → Row
asked_row k a stated = row k (refusal_of a.verdict ++ (a.decimetres ∷ [])) stated

-- k3 to k6 ask of k2's record, with a poop of 1950 mm
abbrev pub asked : ℕ → Reply
asked wish = reply_in k2 1950 wish

-- ---- what k9 to k12 are about
-- a height as a fraction against a whole one: by the cross product, so that nothing is rounded
abbrev pub height_row : ℕ → Frac → ℕ → Row
height_row k x mm = one k x.top (mm * x.bot)

-- an enclosed house, ends in mm forward of AP, with breadths; and of full breadth
unfoldable pub set_in : ℕ → ℕ → ℕ → ℕ → ℕ → House
set_in aft fore height breadth beam = record {
  enclosed = true;
  quarterdeck = false;
  aft = record { 0 = station_of aft };
  fore = record { 0 = station_of fore };
  height = record { 0 = height };
  breadth = record { 0 = breadth };
  beam = record { 0 = beam };
}

abbrev pub house : ℕ → ℕ → ℕ → House
house aft fore height = set_in aft fore height 0 0

-- k11's ordinates are all 0, and k12's are k1's, doubled
abbrev pub level : List Ordinate
level = replicate 6 (record { 0 = lift })

abbrev pub doubled : List Ordinate
doubled = map (λ (o : Ordinate). record { 0 = lift + 2 * (o.0 - lift) }) (ship_in k1).sheer

-- what sheer (38) adds and deducts at L 90000, with houses
abbrev pub sheer_adds : List Ordinate → List House → ℕ
sheer_adds o hs = Sheer.added o 90000 (covered_length 90000 hs)

abbrev pub sheer_deducts : List Ordinate → List House → ℕ
sheer_deducts o hs = Sheer.deducted o 90000 (covered_length 90000 hs) (reach 90000 hs)

-- ---- the table. The question stands last: its search goes over 900 lengths, and a wrong row before it is found without them
unfoldable pub figures : List Row
figures =
    head_row 1 k1 0
    ∷ one 1 (before_bow (ship_in k1)) 1101250
    ∷ one 1 (bow_height_of (ship_in k1)) 4029337
    ∷ marks_row 1 (sheet_in k1) (0 ∷ 0 ∷ 0 ∷ 2030 ∷ 1948 ∷ 2113 ∷ 2163 ∷ 1948 ∷ 1866 ∷ [])
    ∷ head_row 2 k2 1
    ∷ row 2 (house_fields (house_in 1 (house_at 1 k2 0))) (1 ∷ 0 ∷ 80000 ∷ 90000 ∷ 2000 ∷ 0 ∷ 0 ∷ 0 ∷ [])
    ∷ one 2 (deduction_of (ship_in k2)) 69095
    ∷ marks_row 2 (sheet_in k2) (0 ∷ 0 ∷ 0 ∷ 1024 ∷ 921 ∷ 1128 ∷ 1178 ∷ 921 ∷ 818 ∷ [])
    ∷ one 7 (table_a 61500) 593500
    ∷ one 7 (table_b 61500) 594000
    ∷ one 8 (depth_addition 100000 6666) 0
    ∷ one 8 (depth_addition 100000 8000) 277778
    ∷ height_row 9 (standard_height 100000 false) 2050
    ∷ height_row 9 (standard_height 100000 true) 1500
    ∷ one 10 (effective_length 100000 (house 0 10000 1000 ∷ [])) 4878048
    ∷ one 11 (sheer_adds level []) 375188
    ∷ one 12 (sheer_deducts doubled []) 0
    ∷ one 12 (sheer_deducts doubled (house 36000 54000 2000 ∷ [])) 112500
    ∷ asked_row 3 (asked 1000) (0 ∷ 0 ∷ 0 ∷ 31 ∷ [])
    ∷ one 3 (summer_of (with_poop 1950 30 (ship_in k2))) 1001
    ∷ asked_row 4 (asked 1024) (0 ∷ 0 ∷ 0 ∷ 0 ∷ [])
    ∷ asked_row 5 (asked 187) (0 ∷ 0 ∷ 0 ∷ 800 ∷ [])
    ∷ asked_row 6 (asked 50) (16 ∷ 0 ∷ 0 ∷ 0 ∷ [])
    ∷ []

-- ---- the test that all rows agree
abbrev pub same : ℤ → ℤ → Bool
same (pos m) (pos n) = eqb m n
same (pos m) (negsuc n) = false
same (negsuc m) (pos n) = false
same (negsuc m) (negsuc n) = eqb m n

unfoldable pub agree : List ℤ → List ℤ → Bool
agree [] [] = true
agree [] (n ∷ ns) = false
agree (m ∷ ms) [] = false
agree (m ∷ ms) (n ∷ ns) = same m n && agree ms ns

unfoldable pub all_agree : List Row → Bool
all_agree [] = true
all_agree (r ∷ rs) = agree r.given r.stated && all_agree rs
