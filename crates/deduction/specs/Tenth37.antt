-- 37's share as the code takes it, from two neighbours in the row. `share_read` says that it is the row's own: nobody needs to believe this page.
use Rattle.std.specs.Prelude.{[], ◌∷◌, ℕ, ◌*◌, ◌-◌, ◌/◌, min}
use Rattle.deduction.specs.Deduction37.{share}

-- the tenth of L in which E ends; E = L ends the last
unfoldable pub tenth : ℕ → ℕ → ℕ
tenth l e = min (e / (100 * l)) 9

-- with the percentages p and q at the ends of that tenth: by the row of these two, at what E has of the tenth
unfoldable pub share_from : ℕ → ℕ → ℕ → ℕ → ℕ
share_from p q l e = share (p ∷ q ∷ []) l (e - tenth l e * (100 * l))
