-- 02 §6 of the call: of two records whose ships differ in that houses are set in, or have equal breadths for full breadth, where both get marks, the second has no
-- lower summer mark.
use Prim.Native.Nat.{ℕ, ◌≤◌}
use mathlib.Core.List.{List}
use mathlib.Core.Path.{◌≡◌}
use native.Mathlib.Omega.{arith}
use Rattle.std.specs.Prelude.{Ok}
use Rattle.ship.specs.declared.Ship.{Ship}
use Rattle.ship.specs.Refusals.{accepted}
use Rattle.record.specs.Reading.{reading_in}
use Rattle.mark.specs.declared.Marks.{Marks}
use Rattle.mark.specs.Others.{sheet}
use Rattle.steps.specs.Steps.{effective_e}
use Rattle.steps.proofs.SetIn.{SetIn, set_in_effective, set_in_summer}
use Rattle.marks.specs.Marks.{sheet_in}
use Rattle.marks.proofs.Sheet.{sound_read}
use Rattle.marks.proofs.Types.{given_summer}

pub marks_set_in : (x y : Ship) → SetIn x y → (s t : List ℕ)
    → reading_in s ≡ record { verdict = accepted; ship = x } → reading_in t ≡ record { verdict = accepted; ship = y }
    → (m n : Marks) → sheet (Ok m) ≡ sheet_in s → sheet (Ok n) ≡ sheet_in t → (effective_e y ≤ effective_e x) × (m.s ≤ n.s)
marks_set_in x y d s t p q m n a b =
    let g = (sound_read s x p).good in (
      set_in_effective x y d,
      rw (given_summer s x p m a, given_summer t y q n b) (set_in_summer x y d (omega (arith, g.length_least))),
    )
