-- 01, "The other marks" (regulation 40): the five that follow from the summer mark S, in mm, with refusals 12 and 13.
use Rattle.std.specs.Prelude.{ℕ, ◌+◌, ◌*◌, ◌-◌, ◌/◌, max, List, [], ◌∷◌, Result, Ok, Err, eqb, leb, ltb, pos, ◌-ℤ◌}
use Rattle.whole.specs.Divide.{ceil_div}
use Rattle.whole.specs.Pick.{pick}
use Rattle.ship.specs.Refusals.{Paper, Line, accepted, refused, refused_as, first}
use Rattle.mark.specs.declared.Marks.{Marks}
use Rattle.mark.specs.declared.Particulars.{Particulars}
use Rattle.ship.specs.declared.refusal.Refusal.{Refusal}

-- 40(3), (4): T: S minus d/48 (down), at least the floor
unfoldable pub tropical : ℕ → ℕ → ℕ → ℕ
tropical floor S d = max floor (S - d / 48)

-- 40(5): W: S plus d/48 (up)
unfoldable pub winter : ℕ → ℕ → ℕ
winter S d = S + ceil_div d 48

-- 40(6): WNA: W plus 50 if L ≤ 100 m, else W
unfoldable pub atlantic : ℕ → ℕ → ℕ
atlantic W L = pick (leb L 100000) (W + 50) W

-- 40(7), (8): fresh allowance: 25 x field 12 / field 13 mm, down; d/48 down if not certified, which is 0 in both
unfoldable pub allowance : ℕ → ℕ → ℕ → ℕ
allowance displacement immersion d = pick (eqb immersion 0) (d / 48) (25 * displacement / immersion)

-- ---- of a ship by its particulars: d = D - S mark, and the allowance
abbrev pub draught_at : Particulars → ℕ → ℕ
draught_at p S = p.depth.0 - S

abbrev pub fresh_at : Particulars → ℕ → ℕ
fresh_at p S = allowance p.displacement p.immersion (draught_at p S)

-- F = S - allowance, TF = T - allowance; these two may be negative
unfoldable pub six_marks : Particulars → ℕ → Marks
six_marks p S = record {
  s = S;
  t = tropical p.floor S (draught_at p S);
  w = winter S (draught_at p S);
  wna = atlantic (winter S (draught_at p S)) p.length.0;
  f = pos S -ℤ pos (fresh_at p S);
  tf = pos (tropical p.floor S (draught_at p S)) -ℤ pos (fresh_at p S);
}

-- 12: summer mark at or above D; 13: fresh allowance above summer draught
abbrev pub mark_lines : Particulars → ℕ → List Line
mark_lines p S = (leb p.depth.0 S, refused 12 0) ∷ (ltb (draught_at p S) (fresh_at p S), refused 13 0) ∷ []

-- ---- an answer in 01's own terms: number 0 refuses nothing; beside a refusal the marks are all zero
pub record Sheet : Type 0 where
  pub verdict : Paper
  pub marks : Marks

abbrev pub no_marks : Marks
no_marks = record { s = 0; t = 0; w = 0; wna = 0; f = pos 0; tf = pos 0 }

-- one definition gives 01's numbers for each case
abbrev pub sheet : Result Marks Refusal → Sheet
sheet (Ok m) = record { verdict = accepted; marks = m }
sheet (Err r) = record { verdict = refused_as r; marks = no_marks }

-- marks beside the verdict that some lines give
abbrev pub sheet_of : Paper → Marks → Sheet
sheet_of v m = record { verdict = v; marks = pick (eqb v.number 0) m no_marks }

-- 12, 13, or the six marks
unfoldable pub sheet_at : Particulars → ℕ → Sheet
sheet_at p S = sheet_of (first (mark_lines p S)) (six_marks p S)
