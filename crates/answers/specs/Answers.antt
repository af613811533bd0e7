-- The answers of the calls for C: the papers' numbers laid out flat. Number 0 refuses nothing; beside any other all else is zero.
use Rattle.std.specs.Prelude.{◌^◌, ◌<◌, true, ◌≡◌, eqb, pos, nat_abs}
use Rattle.whole.specs.Pick.{pick}
use Rattle.ship.specs.declared.Ship.{Ship}
use Rattle.ship.specs.Refusals.{Paper}
use Rattle.record.specs.Reading.{Reading}
use Rattle.record.specs.Writing.{bytes_for}
use Rattle.mark.specs.declared.Marks.{Marks}
use Rattle.mark.specs.Summer.{Holds}
use Rattle.timber.specs.Exact.{HoldsSigned}
use Rattle.timber.specs.Answer.{Sheet}
use Rattle.steps.specs.Exact.{exact_summer_of}
use Rattle.steps.specs.Timber.{has_timber, exact_timber_added, exact_timber_taken}
use Rattle.question.specs.Question.{Reply}
use Rattle.answers.specs.declared.MarksAnswer.{MarksAnswer}
use Rattle.answers.specs.declared.PoopAnswer.{PoopAnswer}
use Rattle.answers.specs.declared.ReadAnswer.{ReadAnswer}
use Rattle.answers.specs.declared.WriteAnswer.{WriteAnswer}
use Rattle.flat.specs.Flat.{ship_of}

-- the timber six are zero too where none are asked for
unfoldable pub from_sheet : Sheet → MarksAnswer
from_sheet a = record {
  verdict = a.ordinary.verdict;
  s = pos a.ordinary.marks.s;
  t = pos a.ordinary.marks.t;
  w = pos a.ordinary.marks.w;
  wna = pos a.ordinary.marks.wna;
  f = a.ordinary.marks.f;
  tf = a.ordinary.marks.tf;
  ls = a.timber.ls;
  lt = a.timber.lt;
  lw = a.timber.lw;
  lwna = pos a.timber.lwna;
  lf = a.timber.lf;
  ltf = a.timber.ltf;
}

-- where marks are given, S is never below the exact value, and less than 1.1 mm above it; and so is LS where it is asked for and the ship has it
abbrev pub Bounded : MarksAnswer → Ship → Type 0
Bounded a x =
    a.verdict.number ≡ 0
    → Holds (nat_abs a.s) (exact_summer_of x)
    × (x.timber ≡ true → has_timber x ≡ true → HoldsSigned a.ls (exact_timber_added x) (exact_timber_taken x))

-- marks that a signed number holds with ease
pub record Small (m : Marks) : Type 0 where
  pub s : m.s < 2 ^ 32
  pub t : m.t < 2 ^ 32
  pub w : m.w < 2 ^ 32
  pub wna : m.wna < 2 ^ 32

unfoldable pub from_reply : Reply → PoopAnswer
from_reply a = record { verdict = a.verdict; decimetres = a.decimetres }

unfoldable pub from_reading : Reading → ReadAnswer
from_reading a = record { verdict = a.verdict; ship = ship_of a.ship }

-- with the record's length
unfoldable pub from_verdict : Paper → Ship → WriteAnswer
from_verdict p x = record { verdict = p; bytes = pick (eqb p.number 0) (bytes_for x) 0 }
