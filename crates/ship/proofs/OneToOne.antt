-- Number, place and overlap name one verdict: no two verdicts have the same paper.
use Prim.Native.Nat.{◌<◌}
use native.Mathlib.Omega.{arith}
use Rattle.ship.specs.declared.refusal.Refusal.{Refusal}
use mathlib.Core.List.{[], ◌∷◌}
use mathlib.Core.Path.{◌≡◌, refl, sym, ap, ◌∙◌}
use lib.ListN.{get_or}
use Rattle.ship.specs.declared.refusal.Refusal.TheVariants.{ShortRecord, Version, ShipType, HouseCount, RecordLength, SpareBit, FieldRange, HalfCertified, HouseExtent, Quarterdeck, Overlap, NoDraught, FreshAllowance, QuestionRange, NoRoomForPoop, NoLengthFits, ShortBuffer, OutOfOrder, LengthForType, Breadths, TimberForA}
use Rattle.std.specs.Prelude.{Ok, Err}
use Rattle.ship.specs.Refusals.{Paper, Verdict, paper, number_of}

-- the verdict that has a paper; no refusal is numbered 19 to 21
verdict_of : Paper → Verdict
verdict_of p =
    get_or
    (Ok tt ∷ Err ShortRecord ∷ Err Version ∷ Err ShipType ∷ Err HouseCount ∷ Err RecordLength ∷ Err SpareBit ∷ Err (FieldRange p.place) ∷ Err HalfCertified
    ∷ Err (HouseExtent p.place) ∷ Err (Quarterdeck p.place) ∷ Err (Overlap p.place (record { 0 = p.overlap }))
    ∷ Err NoDraught ∷ Err FreshAllowance ∷ Err QuestionRange ∷ Err NoRoomForPoop ∷ Err NoLengthFits ∷ Err ShortBuffer ∷ Err (OutOfOrder p.place) ∷ Ok tt ∷ Ok tt ∷ Ok tt ∷ Err LengthForType ∷ Err (Breadths p.place) ∷ Err TimberForA ∷ [])
    p.number
    (Ok tt)

back : (v : Verdict) → verdict_of (paper v) ≡ v
unfolding verdict_of
back (Ok _) = refl
back (Err ShortRecord) = refl
back (Err Version) = refl
back (Err ShipType) = refl
back (Err HouseCount) = refl
back (Err RecordLength) = refl
back (Err SpareBit) = refl
back (Err (FieldRange k)) = refl
back (Err HalfCertified) = refl
back (Err (HouseExtent k)) = refl
back (Err (Quarterdeck k)) = refl
back (Err (Overlap k mm)) = refl
back (Err NoDraught) = refl
back (Err FreshAllowance) = refl
back (Err QuestionRange) = refl
back (Err NoRoomForPoop) = refl
back (Err NoLengthFits) = refl
back (Err ShortBuffer) = refl
back (Err (OutOfOrder k)) = refl
back (Err LengthForType) = refl
back (Err (Breadths k)) = refl
back (Err TimberForA) = refl

pub one_verdict : (v w : Verdict) → paper v ≡ paper w → v ≡ w
one_verdict v w e = sym (back v) ∙ ap verdict_of e ∙ back w

-- no refusal has the number 0, which means acceptance
pub number_above_0 : (r : Refusal) → 0 < number_of r
number_above_0 ShortRecord = omega arith
number_above_0 Version = omega arith
number_above_0 ShipType = omega arith
number_above_0 HouseCount = omega arith
number_above_0 RecordLength = omega arith
number_above_0 SpareBit = omega arith
number_above_0 (FieldRange k) = omega arith
number_above_0 HalfCertified = omega arith
number_above_0 (HouseExtent k) = omega arith
number_above_0 (Quarterdeck k) = omega arith
number_above_0 (Overlap k mm) = omega arith
number_above_0 NoDraught = omega arith
number_above_0 FreshAllowance = omega arith
number_above_0 QuestionRange = omega arith
number_above_0 NoRoomForPoop = omega arith
number_above_0 NoLengthFits = omega arith
number_above_0 ShortBuffer = omega arith
number_above_0 (OutOfOrder k) = omega arith
number_above_0 LengthForType = omega arith
number_above_0 (Breadths k) = omega arith
number_above_0 TimberForA = omega arith
