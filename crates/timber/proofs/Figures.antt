-- Figures of the readings, by computing.
use mathlib.Core.Path.{◌≡◌, refl}
use mathlib.Core.Bool.{true, false}
use lib.IntN.{pos, negsuc}
use Rattle.whole.specs.Divide.{ceil_div}
use Rattle.whole.specs.Pick.{pick}
use Rattle.timber.specs.Timber.{level_of, timber_summer, timber_draught, timber_winter, timber_from, timber_given, no_timber, timber_marks}

-- 0.001 mm more added than taken: LS is 1. 153.4 mm more taken than added: LS is -153
above_zero : timber_summer 1000001 1000000 ≡ pos 1
unfolding level_of ceil_div
above_zero = refl

below_zero : timber_summer 1000000 1153400 ≡ negsuc 152
unfolding level_of ceil_div
below_zero = refl

-- k2: D 6000, WNA 1178
k2 : timber_marks false 1128 1178 6000 (pos 807) ≡ record { ls = pos 807; lt = pos 699; lw = pos 952; lwna = 1178; lf = pos 699; ltf = pos 591 }
unfolding timber_draught timber_winter timber_from timber_given timber_marks no_timber ceil_div pick
k2 = refl

-- D 4200, a full house: LT -244, LW -33, LTF -334.
low : timber_marks false 0 7 4200 (negsuc 153) ≡ record { ls = negsuc 153; lt = negsuc 243; lw = negsuc 32; lwna = 7; lf = negsuc 243; ltf = negsuc 333 }
unfolding timber_draught timber_winter timber_from timber_given timber_marks no_timber ceil_div pick
low = refl

-- a W of 900 is level with the LW of a reduced ship, not of another
level : timber_winter true 900 (pos 807) 5193 ≡ pos 900
unfolding timber_winter ceil_div pick
level = refl

not_level : timber_winter false 900 (pos 807) 5193 ≡ pos 952
unfolding timber_winter ceil_div pick
not_level = refl

-- LS at D
at_depth : timber_marks false 900 950 4200 (pos 4200) ≡ no_timber
unfolding timber_given timber_marks pick
at_depth = refl
