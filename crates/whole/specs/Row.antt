-- The value of a row of a table at a place between its entries, linear from each to the next. A row is any list of naturals that rises;
-- a place is counted in entries, as the fraction t / d. The value is a sum over the segments, so that no law has a case at an entry.
use Rattle.std.specs.Prelude.{List, [], ◌∷◌, ℕ, ◌+◌, ◌*◌, ◌-◌, ◌≤◌, min}
use Rattle.whole.specs.Frac.{Frac}

-- each entry after p is at least the one before it and at most m above it, and the last is at most M
abbrev pub Rises : ℕ → ℕ → ℕ → List ℕ → Type 0
Rises m M p [] = p ≤ M
Rises m M p (q ∷ ps) = (p ≤ q) × (q ≤ p + m) × Rises m M q ps

abbrev pub Steps : ℕ → ℕ → List ℕ → Type 0
Steps m M [] = ⊥
Steps m M (p ∷ ps) = Rises m M p ps

-- a row that has an entry, rises by at most m from each to the next, and ends at M or below
pub record Rising (m M : ℕ) (row : List ℕ) : Type 0 where
  pub steps : Steps m M row

-- each entry of a row is at most another row's in its place
abbrev pub Under : List ℕ → List ℕ → Type 0
Under [] qs = Unit {0}
Under (p ∷ ps) [] = ⊥
Under (p ∷ ps) (q ∷ qs) = (p ≤ q) × Under ps qs

-- what the row p, ps has gained over p at the place t / d, times d: each segment gives its rise times the part of it that lies before the place
unfoldable pub gain : ℕ → List ℕ → ℕ → ℕ → ℕ
gain p [] t d = 0
gain p (q ∷ ps) t d = (q - p) * min d t + gain q ps (t - d) d

-- the row's value at the place t / d, times d
unfoldable pub height : List ℕ → ℕ → ℕ → ℕ
height [] t d = 0
height (p ∷ ps) t d = p * d + gain p ps t d

-- ---- as a fraction of a fraction
abbrev pub along : List ℕ → Frac → Frac
along row x = record { top = height row x.top x.bot; bot = x.bot; pos = x.pos }
