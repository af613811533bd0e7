use Rattle.std.proofs.Common.{List, Bool, not, ◌||◌, refl, ◌≡◌, rules, tests}
use Rattle.std.specs.List.{list_any}
use Rattle.std.proofs.lemmas.List.Recursion.{same_from_clauses}
use Rattle.std.proofs.lemmas.Iterator.{YieldsList-from_slice}
use Rattle.std.proofs.lemmas.Iterator.Search.{any_from_yields_List}
use Rattle.ship.specs.declared.House.{House}
use Rattle.ship.specs.Vessel.{full_breadth}
use Rattle.record.specs.Layout.{any_set_in}
use Rattle.record.proofs.any_set_in.Goals as goal

any_set : (hs : List House) → any_set_in hs ≡ list_any (λ h. not (full_breadth h)) hs
unfolding any_set_in
any_set hs = same_from_clauses any_set_in (list_any (λ h. not (full_breadth h))) (λ h (b : Bool). not (full_breadth h) || b) refl (λ h hs. refl) (λ h hs. refl) hs

pub returns : goal.returns
returns c = rw any_set (any_from_yields_List (λ h. not (full_breadth h)) _ _ _ c.any.ensures.ran (YieldsList-from_slice c.args.houses.now cc) (λ x b q k. search (rules, tests)))
