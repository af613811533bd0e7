-- What is given in print: the ordinary marks, and the timber marks behind them where there are any, each in mm behind its name.
use Rattle.std.specs.Prelude.{ℕ, List, ◌++◌, Option, Some, None, codes, decimal}
use Rattle.std.specs.Fmt.{signed_decimal}
use Rattle.mark.specs.Printed.{marks_text}
use Rattle.timber.specs.declared.TimberMarks.{TimberMarks}
use Rattle.timber.specs.declared.Given.{Given}

abbrev pub timber_text : TimberMarks → List ℕ
timber_text m =
    (codes "LS " ++ (signed_decimal m.ls ++ (codes " LT " ++ signed_decimal m.lt)))
    ++ ((codes " LW " ++ (signed_decimal m.lw ++ (codes " LWNA " ++ decimal m.lwna)))
    ++ (codes " LF " ++ (signed_decimal m.lf ++ (codes " LTF " ++ signed_decimal m.ltf))))

abbrev pub beside : List ℕ → Option TimberMarks → List ℕ
beside ordinary None = ordinary
beside ordinary (Some m) = ordinary ++ (codes " " ++ timber_text m)

abbrev pub given_text : Given → List ℕ
given_text g = beside (marks_text g.ordinary) g.timber
