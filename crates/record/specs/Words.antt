-- The head as four words of whole bytes, and a house as two. M stands across the end of the first: it is cut there, 12 bits and 4.
-- The contracts of the readers and writers of whole records speak of the layout alone: nobody needs to believe this page.
use Rattle.std.specs.Prelude.{ℕ, ◌/◌, ◌%◌, ◌^◌, List, [], ◌∷◌, ◌++◌, take, drop}
use Rattle.units.specs.declared.Ordinate.{Ordinate}
use Rattle.ship.specs.declared.House.{House}
use Rattle.record.specs.declared.Head.{Head}
use Rattle.record.specs.Layout.{opening_widths, head_fields, house_fields, ordinate_in}

-- ---- the widths of the fields in each
-- version, type, houses n, timber flag, spare, L, D, the first bits of M
abbrev pub first_widths : ℕ → List ℕ
first_widths version = opening_widths version ++ (20 ∷ 16 ∷ 12 ∷ [])

-- the last bits of M, Cb, Cwf
abbrev pub fullness_widths : List ℕ
fullness_widths = 4 ∷ 14 ∷ 14 ∷ []

-- the ordinates of sheer from AP on
abbrev pub four_widths : List ℕ
four_widths = 14 ∷ 14 ∷ 14 ∷ 14 ∷ []

-- the last two, displacement, immersion
abbrev pub last_widths : List ℕ
last_widths = 14 ∷ 14 ∷ 20 ∷ 16 ∷ []

-- of a house: enclosed, raised quarterdeck, aft end, fore end, height, spare
abbrev pub eight_widths : List ℕ
eight_widths = 1 ∷ 1 ∷ 21 ∷ 21 ∷ 13 ∷ 7 ∷ []

-- its breadths, from version 3 on; before it the word has no byte
abbrev pub breadth_widths : List ℕ
breadth_widths = 16 ∷ 16 ∷ []

-- ---- and the fields themselves
abbrev pub first_fields : Head → List ℕ
first_fields h = take 7 (head_fields h) ++ (h.moulded.0 / 2 ^ 4 ∷ [])

abbrev pub fullness_fields : Head → List ℕ
fullness_fields h = h.moulded.0 % 2 ^ 4 ∷ h.block ∷ h.waterplane ∷ []

abbrev pub four_fields : Head → List ℕ
four_fields h = take 4 (drop 10 (head_fields h))

abbrev pub last_fields : Head → List ℕ
last_fields h = drop 14 (head_fields h)

-- the ordinates in the two last words
abbrev pub sheer_in : ℕ → ℕ → List Ordinate
sheer_in a b =
    ordinate_in (a / 2 ^ 42) ∷ ordinate_in (a / 2 ^ 28) ∷ ordinate_in (a / 2 ^ 14) ∷ ordinate_in a
    ∷ ordinate_in (b / 2 ^ 50) ∷ ordinate_in (b / 2 ^ 36) ∷ []

-- of a house
abbrev pub eight_fields : House → List ℕ
eight_fields h = take 6 (house_fields h)

abbrev pub breadth_fields : House → List ℕ
breadth_fields h = drop 6 (house_fields h)
