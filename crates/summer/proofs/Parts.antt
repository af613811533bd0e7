-- The parts give the whole: a hull and a deck of one ship have its summer mark and its LS.
use Prim.Native.Nat.{ℕ, ◌+◌, ◌-◌}
use mathlib.Core.Bool.{Bool}
use mathlib.Core.List.{List}
use mathlib.Core.Path.{◌≡◌, refl, ap, ap₂}
use native.Mathlib.Omega.{arith}
use Rattle.whole.specs.Pick.{pick}
use Rattle.units.specs.Datum.{lift, sheer_at}
use Rattle.percentages.specs.Table37.{ordinary_row, timber_row}
use Rattle.ship.specs.declared.Ship.{Ship}
use Rattle.ship.specs.Vessel.{houses_of}
use Rattle.ship.specs.Good.{GoodHouses}
use Rattle.houses.specs.Length.{part_of}
use Rattle.houses.specs.Forecastle.{forecastle_of}
use Rattle.houses.specs.Amidships.{amidships_of}
use Rattle.corrections.specs.Fullness30.{counted}
use Rattle.deduction.specs.Deduction37.{deduction, deducted}
use Rattle.corrections.specs.Gathered as Before
use Rattle.corrections.proofs.Depth31.{reduction_same}
use Rattle.deduction.proofs.Deduction37.{lacks_same}
use Rattle.sheer.specs.Sheer as Sheer
use Rattle.bow.specs.Bow.{higher, lower, sheer_taken, forecastle_taken, bow_freeboard}
use Rattle.mark.specs.Summer.{summer_mark}
use Rattle.timber.specs.Timber.{level_of, signed}
use Rattle.effective.proofs.Unrounded.{ratio_exact, unrounded_exact}
use Rattle.summed.proofs.Sums.{good_fair, effective_summed}
use Rattle.deck.specs.Deck.{deck_of}
use Rattle.deck.proofs.Gathered.{fair_forecastle}
use Rattle.steps.specs.Steps.{type_b, basis, covered_s, effective_e, forecastle_house, amidships_ratio, cover_reach, added_to, taken_from, bow_of, summer_of}
use Rattle.steps.specs.Timber.{timber_basis, timber_summer_of}
use Rattle.hull.specs.Parts.{hull_of}
use Rattle.summer.specs.Parts.{added_on, taken_on, bow_on, balance_on, summer_on, timber_on}

-- 31's ratio of heights and the forecastle's fraction in 37's test, however each is written
taken_parts : (row : List ℕ) (x : Ship) → GoodHouses x.length.0 (houses_of x)
    → let d = deck_of x.length.0 (houses_of x) in
    taken_on row (hull_of x) d.amidships d.forecastle.effective (effective_e x) (Sheer.deducted x.sheer x.length.0 (covered_s x) (cover_reach x))
    ≡ taken_from row x
unfolding taken_on hull_of deck_of taken_from forecastle_house amidships_ratio deducted
taken_parts row x g =
    let l = x.length.0 in
    ap₂ (λ (n : ℕ) (t : Bool). n + pick t 0 (deduction row l (effective_e x)) + Sheer.deducted x.sheer l (covered_s x) (cover_reach x))
    (reduction_same l x.depth.0 (ratio_exact l (amidships_of l (houses_of x))))
    (lacks_same (type_b x) l (unrounded_exact l (forecastle_of l (houses_of x)) (fair_forecastle l (houses_of x) g)))

bow_parts : (x : Ship) → bow_on (hull_of x) (deck_of x.length.0 (houses_of x)) ≡ bow_of x
unfolding bow_on hull_of deck_of bow_of forecastle_house bow_freeboard
bow_parts x =
    let l = x.length.0 in
    let cb = counted x.block in
    let low = lower l x.moulded.0 cb x.waterplane in
    let s = sheer_taken (sheer_at x.sheer 4) (sheer_at x.sheer 5) in
    let f = forecastle_of l (houses_of x) in
    let t = forecastle_taken l (part_of l f) f.height.0 in
    let e : low + s + t ≡ low + (s + t) = omega arith in
    ap (λ (n : ℕ). higher l x.moulded.0 cb x.waterplane + sheer_taken (sheer_at x.sheer 4) lift - n) e

-- the sums by kind give E
balance_parts : (line : ℕ) (row : List ℕ) (x : Ship) → GoodHouses x.length.0 (houses_of x)
    → let b = balance_on line row (hull_of x) (deck_of x.length.0 (houses_of x)) in (b.added.0 ≡ added_to line x) × (b.taken.0 ≡ taken_from row x)
unfolding balance_on added_on hull_of deck_of added_to covered_s effective_e cover_reach Before.added Sheer.added Sheer.deducted
balance_parts line row x g =
    let e = effective_summed x.length.0 (houses_of x) (good_fair x.length.0 (houses_of x) g) in
    (rw e refl, rw e (taken_parts row x g))

pub summer_parts : (x : Ship) → GoodHouses x.length.0 (houses_of x) → summer_on (hull_of x) (deck_of x.length.0 (houses_of x)) ≡ summer_of x
unfolding summer_on hull_of summer_of
summer_parts x g =
    let b = balance_parts (basis x).line ordinary_row x g in
    λ i. summer_mark (basis x).floor (b.0 i) (b.1 i) (bow_parts x i)

pub timber_parts : (x : Ship) → GoodHouses x.length.0 (houses_of x)
    → signed (timber_on (timber_basis x).line (hull_of x) (deck_of x.length.0 (houses_of x))) ≡ timber_summer_of x
unfolding timber_on timber_summer_of
timber_parts x g =
    let b = balance_parts (timber_basis x).line timber_row x g in
    ap₂ (λ (a t : ℕ). signed (level_of a t)) b.0 b.1
