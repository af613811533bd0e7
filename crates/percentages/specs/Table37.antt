-- The percentages of the houses' deduction (37, 45), in tenths of a per cent at E/L = 0, 0.1 .. 1.0.
use Rattle.std.specs.Prelude.{List, [], ◌∷◌, ℕ}
use Rattle.percentages.specs.declared.Row.{Row}
use Rattle.percentages.specs.declared.Row.TheVariants.{Ordinary, Timber, Older, OlderBridge}

-- table 37.1
unfoldable pub ordinary_row : List ℕ
ordinary_row = 0 ∷ 70 ∷ 140 ∷ 210 ∷ 310 ∷ 410 ∷ 520 ∷ 630 ∷ 753 ∷ 877 ∷ 1000 ∷ []

-- table 45.1
unfoldable pub timber_row : List ℕ
timber_row = 200 ∷ 310 ∷ 420 ∷ 530 ∷ 640 ∷ 700 ∷ 760 ∷ 820 ∷ 880 ∷ 940 ∷ 1000 ∷ []

-- the 1966 edition, type B, line I: a forecastle and no detached bridge
unfoldable pub older_row : List ℕ
older_row = 0 ∷ 50 ∷ 100 ∷ 150 ∷ 235 ∷ 320 ∷ 460 ∷ 630 ∷ 753 ∷ 877 ∷ 1000 ∷ []

-- its line II: a forecastle and a detached bridge
unfoldable pub older_bridge_row : List ℕ
older_bridge_row = 0 ∷ 63 ∷ 127 ∷ 190 ∷ 275 ∷ 360 ∷ 460 ∷ 630 ∷ 753 ∷ 877 ∷ 1000 ∷ []

-- the entries of a row by its name
abbrev pub entries : Row → List ℕ
entries Ordinary = ordinary_row
entries Timber = timber_row
entries Older = older_row
entries OlderBridge = older_bridge_row
