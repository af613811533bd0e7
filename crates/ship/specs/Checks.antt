-- 01, "Refusals and their order", checks 7 to 11, with 02's 22 after 7, its 23 after 9 and its 18 beside 11; each over all houses before the next begins.
use Rattle.std.specs.Prelude.{ℕ, zero, suc, ◌+◌, ◌-◌, ◌*◌, min, Bool, not, ◌&&◌, ◌||◌, List, [], ◌∷◌, ◌++◌, eqb, ltb, leb, length, get_or}
use Rattle.std.specs.Bool.{beq}
use Rattle.whole.specs.Pick.{pick}
use Rattle.units.specs.Datum.{station_of, lift, sheer_at}
use Rattle.ship.specs.declared.House.{House}
use Rattle.ship.specs.declared.Ship.{Ship}
use Rattle.ship.specs.declared.rule.Rule.{Rule}
use Rattle.ship.specs.declared.rule.Rule.TheVariants.{EndsAndHeight, SetInSides, RaisedQuarterdeck, Follows}
use Rattle.ship.specs.Kinds.{kind_covers, is_reduced}
use Rattle.ship.specs.Vessel.{houses_of, house_at}
use Rattle.ship.specs.Refusals.{Line, refused, overlapping}

-- the first number from k on, below k + m, that fails a test; k + m where none does
unfoldable pub first_from : (ℕ → Bool) → ℕ → ℕ → ℕ
first_from fails k zero = k
first_from fails k (suc m) = pick (fails k) k (first_from fails (k + 1) m)

-- fields 1 to 13; an ordinate of sheer as a lifted number, 8192 above its mm
abbrev pub fields_of : Ship → List ℕ
fields_of x =
    x.length.0 ∷ x.depth.0 ∷ x.moulded.0 ∷ x.block ∷ x.waterplane
    ∷ sheer_at x.sheer 0 ∷ sheer_at x.sheer 1 ∷ sheer_at x.sheer 2 ∷ sheer_at x.sheer 3 ∷ sheer_at x.sheer 4 ∷ sheer_at x.sheer 5
    ∷ x.displacement ∷ x.immersion ∷ []

-- the highest lifted ordinate of fourteen bits: 8191 mm of sheer
abbrev pub highest : ℕ
highest = lift + lift - 1

-- the ranges of fields 1 to 13: 01's, or what the field's bits can hold
abbrev pub least : List ℕ
least = 24000 ∷ 1000 ∷ 1000 ∷ 1 ∷ 1 ∷ 0 ∷ 0 ∷ 0 ∷ 0 ∷ 0 ∷ 0 ∷ 0 ∷ 0 ∷ []

abbrev pub most : List ℕ
most =
    365000 ∷ 60000 ∷ 60000 ∷ 12000 ∷ 10000 ∷ highest ∷ highest ∷ highest ∷ highest ∷ highest ∷ highest ∷ 1048575 ∷ 65535 ∷ []

-- 7: a field outside its range
abbrev pub outside : List ℕ → ℕ → Bool
outside fields k = ltb (get_or fields k 0) (get_or least k 0) || ltb (get_or most k 0) (get_or fields k 0)

unfoldable pub field_out : List ℕ → ℕ
field_out fields = first_from (outside fields) 0 13

-- 22: a type B-60 or B-100 ship of 100 m or less (27(8)), or one with portable covers beyond the 200 m of its table (27(6))
abbrev pub reduced_short : ℕ → ℕ → Bool
reduced_short kind l = is_reduced kind && leb l 100000

abbrev pub covers_long : ℕ → ℕ → Bool
covers_long kind l = eqb kind kind_covers && ltb 200000 l

abbrev pub unfit_length : ℕ → ℕ → Bool
unfit_length kind l = reduced_short kind l || covers_long kind l

-- of two numbers one alone is zero
abbrev pub one_alone : ℕ → ℕ → Bool
one_alone a b = not (beq (eqb a 0) (eqb b 0))

-- 8: one of fields 12, 13 zero and not the other
abbrev pub half_certified : Ship → Bool
half_certified x = one_alone x.displacement x.immersion

-- 9: fore end not above aft end, fore end at or below 0, aft end at or above L, aft end below -20000, fore end above L+20000,
-- height outside 1..8191
abbrev pub bad_ends : ℕ → House → Bool
bad_ends l h =
    leb h.fore.0 h.aft.0 || leb h.fore.0 (station_of 0) || leb (station_of l) h.aft.0 || ltb h.aft.0 (station_of 0 - 20000)
    || ltb (station_of (l + 20000)) h.fore.0 || ltb h.height.0 1 || ltb 8191 h.height.0

-- 23: one breadth alone zero, a house's breadth above the ship's, or more than 4 per cent of the ship's inside on a side: (Bs - b) / 2 > 0.04 Bs, which is
-- 23 Bs > 25 b; and, of a ship that comes from no record, a breadth beyond 16 bits
abbrev pub bad_breadths : House → Bool
bad_breadths h =
    one_alone h.breadth.0 h.beam.0 || ltb h.beam.0 h.breadth.0 || ltb (25 * h.breadth.0) (23 * h.beam.0)
    || ltb 65535 h.breadth.0 || ltb 65535 h.beam.0

-- 10: raised quarterdeck not enclosed, aft end above 0, or fore end at or above L
abbrev pub bad_quarterdeck : ℕ → House → Bool
bad_quarterdeck l h = h.quarterdeck && (not h.enclosed || ltb (station_of 0) h.aft.0 || leb (station_of l) h.fore.0)

-- the fore end of the house before place k; the first has none before it
abbrev pub fore_before : List House → ℕ → ℕ
fore_before hs zero = 0
fore_before hs (suc k) = (house_at hs k).fore.0

-- 11 and 18: aft end below the previous house's fore end
abbrev pub begins_abaft : ℕ → House → Bool
begins_abaft before h = ltb h.aft.0 before

-- whether a house breaks a rule; before is the fore end of the house before it
unfoldable pub breaks : Rule → ℕ → ℕ → House → Bool
breaks EndsAndHeight l before h = bad_ends l h
breaks SetInSides l before h = bad_breadths h
breaks RaisedQuarterdeck l before h = bad_quarterdeck l h
breaks Follows l before h = begins_abaft before h

-- and the house at place k of a list
unfoldable pub breach_at : Rule → ℕ → List House → ℕ → Bool
breach_at r l hs k = breaks r l (fore_before hs k) (house_at hs k)

-- the first house that breaks a rule, or their number
unfoldable pub first_breach : Rule → ℕ → List House → ℕ
first_breach r l hs = first_from (breach_at r l hs) 0 (length hs)

abbrev pub house_line : ℕ → Rule → ℕ → List House → Line
house_line number r l hs = (ltb (first_breach r l hs) (length hs), refused number (first_breach r l hs))

-- 18: out of order is when the house's aft end is below the previous house's aft end; otherwise it is overlap
abbrev pub out_of_order : House → House → Bool
out_of_order before h = ltb h.aft.0 before.aft.0

-- 11: the overlap in mm, the smaller of the two fore ends minus the later aft end
abbrev pub overlap_between : House → House → ℕ
overlap_between before h = min before.fore.0 h.fore.0 - h.aft.0

-- of a house at place k, if it is bad, and of the one before it
abbrev pub order_lines_at : ℕ → Bool → House → House → List Line
order_lines_at k bad before h = (bad && out_of_order before h, refused 18 k) ∷ (bad, overlapping k (overlap_between before h)) ∷ []

-- 11 or 18: the first bad house decides which is given, and is the place of either; a list's first house is never bad
abbrev pub order_lines : ℕ → List House → List Line
order_lines l hs =
    let k = first_breach Follows l hs in
    order_lines_at k (ltb k (length hs)) (house_at hs (k - 1)) (house_at hs k)

-- 9 to 11, 18 and 23, on a list of houses and L alone
abbrev pub house_lines : ℕ → List House → List Line
house_lines l hs = house_line 9 EndsAndHeight l hs ∷ house_line 23 SetInSides l hs ∷ house_line 10 RaisedQuarterdeck l hs ∷ order_lines l hs

-- 7, 22 and 8, on a ship's fields and its type
abbrev pub field_lines : Ship → List Line
field_lines x =
    (ltb (field_out (fields_of x)) 13, refused 7 (field_out (fields_of x) + 1))
    ∷ (unfit_length x.kind x.length.0, refused 22 0)
    ∷ (half_certified x, refused 8 0)
    ∷ []

-- 7 to 11, 18, 22 and 23, on a ship
abbrev pub ship_lines : Ship → List Line
ship_lines x = field_lines x ++ house_lines x.length.0 (houses_of x)
