-- 01, "Refusals and their order", with 02: a refusal is a number, a place and, for 11, an overlap; the table's order is the order of checks.
use Rattle.std.specs.Prelude.{ℕ, Bool, List, [], ◌∷◌, Result, Ok, Err}
use Rattle.whole.specs.Pick.{pick}
use Rattle.ship.specs.declared.refusal.Paper as Declared
use Rattle.ship.specs.declared.refusal.Refusal.{Refusal}
use Rattle.ship.specs.declared.refusal.Refusal.TheVariants.{ShortRecord, Version, ShipType, HouseCount, RecordLength, SpareBit, FieldRange, HalfCertified, HouseExtent, Quarterdeck, Overlap, NoDraught, FreshAllowance, QuestionRange, NoRoomForPoop, NoLengthFits, ShortBuffer, OutOfOrder, LengthForType, Breadths, TimberForA}

-- a verdict in the papers' own terms: number, place and overlap; number 0 refuses nothing
abbrev pub Paper : Type 0
Paper = Declared.Paper

abbrev pub accepted : Paper
accepted = record { number = 0; place = 0; overlap = 0 }

-- every refusal but 11 has the overlap 0
abbrev pub refused : ℕ → ℕ → Paper
refused n p = record { number = n; place = p; overlap = 0 }

-- 11, with the overlap in mm
abbrev pub overlapping : ℕ → ℕ → Paper
overlapping p mm = record { number = 11; place = p; overlap = mm }

-- the papers' number and place for each case, and the overlap of 11; the place is 0 unless named
abbrev pub refused_as : Refusal → Paper
refused_as ShortRecord = refused 1 0
refused_as Version = refused 2 0
refused_as ShipType = refused 3 0
refused_as HouseCount = refused 4 0
refused_as RecordLength = refused 5 0
refused_as SpareBit = refused 6 0
refused_as (FieldRange k) = refused 7 k
refused_as HalfCertified = refused 8 0
refused_as (HouseExtent k) = refused 9 k
refused_as (Quarterdeck k) = refused 10 k
refused_as (Overlap k mm) = overlapping k mm.0
refused_as NoDraught = refused 12 0
refused_as FreshAllowance = refused 13 0
refused_as QuestionRange = refused 14 0
refused_as NoRoomForPoop = refused 15 0
refused_as NoLengthFits = refused 16 0
refused_as ShortBuffer = refused 17 0
refused_as (OutOfOrder k) = refused 18 k
refused_as LengthForType = refused 22 0
refused_as (Breadths k) = refused 23 k
refused_as TimberForA = refused 24 0

abbrev pub number_of : Refusal → ℕ
number_of r = (refused_as r).number

-- what a check answers: nothing, or why it refuses
abbrev pub Verdict : Type 0
Verdict = Result (Unit {0}) Refusal

abbrev pub paper : Verdict → Paper
paper (Ok _) = accepted
paper (Err r) = refused_as r

-- a line of the table: whether its check fails, and what it then refuses
abbrev pub Line : Type 0
Line = Bool × Paper

-- the first line whose check fails decides
unfoldable pub first : List Line → Paper
first [] = accepted
first (t ∷ ts) = pick t.0 t.1 (first ts)
