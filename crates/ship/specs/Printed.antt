-- A refusal in print.
use Rattle.std.specs.Prelude.{ℕ, zero, suc, List, ◌++◌, codes, decimal}
use Rattle.ship.specs.declared.refusal.Refusal.{Refusal}
use Rattle.ship.specs.Refusals.{refused_as}

-- number and place, and the overlap where there is one
abbrev pub paper_text : ℕ → ℕ → ℕ → List ℕ
paper_text n p zero = codes "refused " ++ (decimal n ++ (codes " " ++ decimal p))
paper_text n p (suc mm) = codes "refused " ++ (decimal n ++ (codes " " ++ (decimal p ++ (codes " " ++ decimal (suc mm)))))

abbrev pub refusal_text : Refusal → List ℕ
refusal_text r = paper_text (refused_as r).number (refused_as r).place (refused_as r).overlap
