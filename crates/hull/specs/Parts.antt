-- A ship without its houses, so that a search over houses works again only what they change.
-- Theorems tie it to the steps (`summer_parts` of `summer`): nobody needs to believe this page.
use Rattle.std.specs.Prelude.{◌+◌, ◌^◌, ◌≤◌}
use Rattle.units.specs.Datum.{lift, sheer_at}
use Rattle.ship.specs.declared.Ship.{Ship}
use Rattle.corrections.specs.Fullness30.{counted}
use Rattle.corrections.specs.Depth31.{depth_addition}
use Rattle.sheer.specs.Sheer as Sheer
use Rattle.bow.specs.Bow.{higher, lower, sheer_taken}
use Rattle.steps.specs.Steps.{type_b, basis}
use Rattle.hull.specs.declared.Hull.{Hull}

-- what the type decides (27, 28, 40), depth and what it adds (31), the mean of the sheer (38), and the bow height before the forecastle is taken (39)
unfoldable pub hull_of : Ship → Hull
hull_of x = record {
  b = type_b x;
  length = x.length;
  block = counted x.block;
  basis = record { line = record { 0 = (basis x).line }; floor = (basis x).floor };
  depth = x.depth;
  deep = record { 0 = depth_addition x.length.0 x.depth.0 };
  mean = record {
    deficiency = record { 0 = Sheer.deficiency (Sheer.after_sum x.sheer) (Sheer.forward_sum x.sheer) x.length.0 };
    excess = record { 0 = Sheer.excess (Sheer.after_sum x.sheer) (Sheer.forward_sum x.sheer) x.length.0 };
  };
  bow = record {
    above = record { 0 = higher x.length.0 x.moulded.0 (counted x.block) x.waterplane + sheer_taken (sheer_at x.sheer 4) lift };
    below = record { 0 = lower x.length.0 x.moulded.0 (counted x.block) x.waterplane + sheer_taken (sheer_at x.sheer 4) (sheer_at x.sheer 5) };
  };
}

-- ---- bounds by which no sum or product of the steps overflows
pub record FairHull (h : Hull) : Type 0 where
  pub length_least : 24000 ≤ h.length.0
  pub length_most : h.length.0 ≤ 365000
  pub block : h.block ≤ 12000
  pub line : h.basis.line.0 ≤ 6400000
  pub floor : h.basis.floor ≤ 60000
  pub depth : h.depth.0 ≤ 60000
  pub deep : h.deep.0 ≤ 15000000
  pub deficiency : h.mean.deficiency.0 ≤ 9000000
  pub excess : h.mean.excess.0 ≤ 7200000
  pub above : h.bow.above.0 ≤ 2 ^ 49
  pub below : h.bow.below.0 ≤ 2 ^ 49
