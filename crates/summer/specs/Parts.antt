-- The summer mark and LS of a hull and a deck: the steps once more, from what is worked beforehand.
-- `summer_parts` and `timber_parts` tie it to the steps: nobody needs to believe this page.
use Rattle.std.specs.Prelude.{ℕ, ◌+◌, ◌-◌, List}
use Rattle.whole.specs.Frac.{frac}
use Rattle.units.specs.declared.Ratio.{Ratio}
use Rattle.units.specs.declared.Unrounded.{Unrounded}
use Rattle.percentages.specs.Table37.{ordinary_row, timber_row}
use Rattle.corrections.specs.Depth31.{depth_reduction}
use Rattle.corrections.specs.Gathered.{made_full}
use Rattle.deduction.specs.Deduction37.{deducted}
use Rattle.sheer.specs.Sheer as Sheer
use Rattle.bow.specs.Bow.{forecastle_taken}
use Rattle.mark.specs.Summer.{summer_mark}
use Rattle.timber.specs.declared.Level.{Level}
use Rattle.timber.specs.Timber.{level_of}
use Rattle.summed.specs.Summed.{effective_on}
use Rattle.deck.specs.declared.Deck.{Deck}
use Rattle.hull.specs.declared.Hull.{Hull}
use Rattle.summer.specs.declared.Balance.{Balance}

-- from a line, with E and what sheer adds
unfoldable pub added_on : ℕ → Hull → ℕ → ℕ → ℕ
added_on line h e lacking = made_full line h.b h.length.0 h.block e + h.deep.0 + lacking

-- by a row of percentages, with the ratio of heights of the house amidships, the forecastle's effective length, E and what sheer deducts
unfoldable pub taken_on : List ℕ → Hull → Ratio → Unrounded → ℕ → ℕ → ℕ
taken_on row h amidships forecastle e excess =
    depth_reduction h.length.0 h.depth.0 (frac amidships.top amidships.bottom)
    + deducted h.b row (frac forecastle.top forecastle.bottom) h.length.0 e + excess

unfoldable pub bow_on : Hull → Deck → ℕ
bow_on h d = h.bow.above.0 - (h.bow.below.0 + forecastle_taken h.length.0 d.forecastle.part.0 d.forecastle.height.0)

-- the two of a hull and a deck
unfoldable pub balance_on : ℕ → List ℕ → Hull → Deck → Balance
balance_on line row h d =
    let e = effective_on d.effective in
    record {
      added = record { 0 = added_on line h e (Sheer.addition h.mean.deficiency.0 h.length.0 d.s.0) };
      taken = record { 0 = taken_on row h d.amidships d.forecastle.effective e (Sheer.deduction h.mean.excess.0 h.length.0 d.s.0 d.reach) };
    }

unfoldable pub summer_on : Hull → Deck → ℕ
summer_on h d =
    let b = balance_on h.basis.line.0 ordinary_row h d in
    summer_mark h.basis.floor b.added.0 b.taken.0 (bow_on h d)

-- LS, from the line that it begins from
unfoldable pub timber_on : ℕ → Hull → Deck → Level
timber_on line h d = let b = balance_on line timber_row h d in level_of b.added.0 b.taken.0
