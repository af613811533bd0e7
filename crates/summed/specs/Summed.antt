-- The effective lengths of a list's houses as code sums them: numerators over the kind's standard height, and beside them what the houses with breadths have,
-- each rounded down on its own. `effective_summed` says that they give 35's E: nobody needs to believe this page.
use Rattle.std.specs.Prelude.{ℕ, ◌+◌, ◌/◌, ◌≤◌, Bool, true, false, List}
use Rattle.whole.specs.Pick.{pick}
use Rattle.units.specs.declared.Unrounded.{Unrounded}
use Rattle.ship.specs.declared.House.{House}
use Rattle.houses.specs.Length.{total}
use Rattle.houses.specs.Effective.{those, is_ordinary, is_raised, is_set_in}
use Rattle.effective.specs.Unrounded.{low_height, greatest_size, greatest_length, top_of, unrounded_of, FairLength}
use Rattle.summed.specs.declared.Summed.{Summed}

-- an effective length, down
abbrev pub down : Unrounded → ℕ
down e = e.top / e.bottom

unfoldable pub summed_of : ℕ → List House → Summed
summed_of l hs = record {
  ordinary = record { top = total (top_of l) (those is_ordinary hs); bottom = (low_height l false).top };
  raised = record { top = total (top_of l) (those is_raised hs); bottom = (low_height l true).top };
  own = record { 0 = total (λ h. down (unrounded_of l h)) (those is_set_in hs) };
}

-- with one more numerator over the same denominator
abbrev pub more : ℕ → Unrounded → Unrounded
more top s = record { top = top + s.top; bottom = s.bottom }

-- the denominator of a kind
abbrev pub bottom_in : Bool → Summed → ℕ
bottom_in quarterdeck s = pick quarterdeck s.raised.bottom s.ordinary.bottom

-- with one more house, of this effective length
unfoldable pub summed_with : House → Unrounded → Summed → Summed
summed_with h e s = record {
  ordinary = pick (is_ordinary h) (more e.top s.ordinary) s.ordinary;
  raised = pick (is_raised h) (more e.top s.raised) s.raised;
  own = record { 0 = pick (is_set_in h) (down e + s.own.0) s.own.0 };
}

-- E: each sum, down, and what was rounded before
abbrev pub effective_on : Summed → ℕ
effective_on s = down s.ordinary + down s.raised + s.own.0

-- sums that leave room for what is worked with them
pub record FairSum (s : Unrounded) : Type 0 where
  pub fair : FairLength s
  pub low : s.bottom ≤ greatest_size

pub record FairSummed (s : Summed) : Type 0 where
  pub ordinary : FairSum s.ordinary
  pub raised : FairSum s.raised
  pub own : s.own.0 ≤ greatest_length
