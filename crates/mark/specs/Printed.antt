-- The six marks in print: each in mm behind its name.
use Rattle.std.specs.Prelude.{ℕ, List, ◌++◌, codes, decimal}
use Rattle.std.specs.Fmt.{signed_decimal}
use Rattle.mark.specs.declared.Marks.{Marks}

abbrev pub marks_text : Marks → List ℕ
marks_text m =
    (codes "S " ++ (decimal m.s ++ (codes " T " ++ decimal m.t)))
    ++ ((codes " W " ++ (decimal m.w ++ (codes " WNA " ++ decimal m.wna)))
    ++ (codes " F " ++ (signed_decimal m.f ++ (codes " TF " ++ signed_decimal m.tf))))
