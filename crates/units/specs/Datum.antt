-- 01's signed millimetres as numbers that are never below zero: a station has `datum` added to it, an ordinate of sheer has `lift`.
use Rattle.std.specs.Prelude.{ℕ, ◌+◌, ◌-◌, ◌<◌, ◌&&◌, List, ltb, ℤ, pos, nat_abs, ◌-ℤ◌, get_or}
use Rattle.whole.specs.Pick.{pick}
use Rattle.whole.specs.Sign.{negative}
use Rattle.units.specs.declared.Ordinate.{Ordinate}

-- the number for so many signed mm, if `from` stands for 0 mm; what would be below 0 is 0
unfoldable pub counted_from : ℕ → ℤ → ℕ
counted_from from mm = pick (negative mm) (from - nat_abs mm) (from + nat_abs mm)

-- ---- stations
-- the station of the after perpendicular: 0 mm
abbrev pub datum : ℕ
datum = 1048576

-- the station so many mm forward of the after perpendicular
abbrev pub station_of : ℕ → ℕ
station_of mm = datum + mm

-- a station in 01's own terms: mm forward of the after perpendicular, negative abaft it
abbrev pub mm_of : ℕ → ℤ
mm_of s = pos s -ℤ pos datum

-- and back. What would be below 0 is 0, and 9 refuses either
abbrev pub station_at : ℤ → ℕ
station_at mm = counted_from datum mm

-- ---- ordinates of sheer
-- the ordinate of 0 mm
abbrev pub lift : ℕ
lift = 8192

-- an ordinate in 01's own terms, in mm
abbrev pub sheer_of : ℕ → ℤ
sheer_of o = pos o -ℤ pos lift

-- and back. One too low for its bits counts as one too high for them, and 7 refuses either
unfoldable pub ordinate_at : ℤ → ℕ
ordinate_at mm = pick (negative mm && ltb lift (nat_abs mm)) (lift + lift) (counted_from lift mm)

-- of a ship's six, AP, L/6, L/3 from AP, then L/3, L/6 from FP, FP, the one at place k
abbrev pub sheer_at : List Ordinate → ℕ → ℕ
sheer_at o k = (get_or o k (record { 0 = 0 })).0

-- each within its fourteen bits
pub record Lifted (o : List Ordinate) : Type 0 where
  pub ap : sheer_at o 0 < lift + lift
  pub after_sixth : sheer_at o 1 < lift + lift
  pub after_third : sheer_at o 2 < lift + lift
  pub forward_third : sheer_at o 3 < lift + lift
  pub forward_sixth : sheer_at o 4 < lift + lift
  pub fp : sheer_at o 5 < lift + lift
