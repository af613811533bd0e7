-- Regulations 41 to 45: the freeboards of a ship with a timber deck cargo, both as 43 and 44 ask, which the flag asserts and nothing tests. The marks are in mm, with
-- their sign: 45 has no floor, and 39 takes the bow height from the ordinary summer freeboard.
use Rattle.std.specs.Prelude.{ℕ, ◌+◌, ◌-◌, ◌/◌, Bool, not, ℤ, pos, ◌+ℤ◌, ◌-ℤ◌}
use Rattle.std.specs.Int.Signed.{le_z}
use Rattle.whole.specs.Divide.{ceil_div}
use Rattle.whole.specs.Pick.{pick}
use Rattle.whole.specs.Sign.{above, under}
use Rattle.timber.specs.declared.Level.{Level}
use Rattle.timber.specs.declared.TimberMarks.{TimberMarks}

-- a mark as what stands above zero and what lies below it
abbrev pub signed : Level → ℤ
signed v = pos v.up -ℤ pos v.down

-- 45(1): LS: what is added less what is taken, in um, up to whole mm: above zero away from it, below zero towards it
unfoldable pub level_of : ℕ → ℕ → Level
level_of added taken = record { up = ceil_div (added - taken) 1000; down = (taken - added) / 1000 }

abbrev pub timber_summer : ℕ → ℕ → ℤ
timber_summer added taken = signed (level_of added taken)

-- the summer timber draught: D - LS, where LS is below D
unfoldable pub timber_draught : ℕ → ℤ → ℕ
timber_draught D LS = D + under LS - above LS

-- 45(2): LW: LS plus d/36 (up); 45(7): on a ship with a reduced type B freeboard level with W where it would be greater
unfoldable pub timber_winter : Bool → ℕ → ℤ → ℕ → ℤ
timber_winter reduced W LS d = let n = LS +ℤ pos (ceil_div d 36) in pick reduced (pick (le_z n (pos W)) n (pos W)) n

-- 45(3): LWNA is WNA, of a reduced ship too: 45(7) would set it level with W, which WNA is at the lengths that a reduced ship may have
-- 45(4): LT: LS minus d/48 (down)
-- 45(5): LF: as 40(8), LS minus d/48 (down): 40(7) asks for the displacement at the timber waterline, and none is certified there
-- 6(4)(e), (f): LTF: LT minus the same allowance
unfoldable pub timber_from : Bool → ℕ → ℕ → ℤ → ℕ → TimberMarks
timber_from reduced W WNA LS d =
    let part = pos (d / 48) in
    let LT = LS -ℤ part in
    record { ls = LS; lt = LT; lw = timber_winter reduced W LS d; lwna = WNA; lf = LS -ℤ part; ltf = LT -ℤ part }

-- 02: where LS is at or above D there is no timber draught, and the timber marks are all zero
unfoldable pub timber_given : ℕ → ℤ → Bool
timber_given D LS = not (le_z (pos D) LS)

unfoldable pub no_timber : TimberMarks
no_timber = record { ls = pos 0; lt = pos 0; lw = pos 0; lwna = 0; lf = pos 0; ltf = pos 0 }

unfoldable pub timber_marks : Bool → ℕ → ℕ → ℕ → ℤ → TimberMarks
timber_marks reduced W WNA D LS = pick (timber_given D LS) (timber_from reduced W WNA LS (timber_draught D LS)) no_timber
