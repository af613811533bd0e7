use Prim.Native.Nat.{ℕ, ◌+◌, ◌*◌, ◌≤◌}
use mathlib.Core.Bool.{true, false}
use mathlib.Core.Path.{◌≡◌, ap, ◌∙◌}
use lib.ListN.{length}
use Rattle.std.proofs.Common.{rules, tests}
use Rattle.std.proofs.lemmas.Iterator.{first_from_Range, serves_from_Range}
use Rattle.trial.specs.declared.Standing.{Standing}
use Rattle.trial.specs.Poop.{fits_at}
use Rattle.trial.specs.Standing.{fits_on}
use Rattle.trial.proofs.Trial.{fits_same, length_stands}
use Rattle.question.proofs.Search.{found, only_shortest}
use Rattle.question.proofs.shortest.Goals as goal

pub find-requires-clause-callable : goal.find-requires-clause-callable
find-requires-clause-callable c =
    let a = c.args in
    let p = c.requires in
    let x = a.x.ship in
    let eight : length x.houses ≡ 8 = search rules in
    let l = length_stands x a.x.sound p.0 eight a.height.0 a.wish p.1 p.2 c.standing_of-q.result c.standing_of-q.ensures.value in
    serves_from_Range (λ x q k. search (rules, tests)) (λ x low high. search rules)

pub returns : goal.returns
returns c =
    let a = c.args in
    let p = c.requires in
    let q = c.standing_of-q.result in
    let x = a.x.ship in
    let eight : length x.houses ≡ 8 = search rules in
    let same = λ (k : ℕ) (h : 100 * k ≤ x.length.0). ap (λ (s : Standing). fits_on s k) c.standing_of-q.ensures.value ∙ fits_same x a.x.sound p.0 eight a.height.0 a.wish p.1 p.2 k h in
    let r = first_from_Range _ _ _ _ (λ k. fits_on q k ≡ true) (λ k. fits_on q k ≡ false) c.find.ensures.ran (λ x s k. search (rules, tests)) (λ x s k. (search rules, search (rules, tests))) in
    rw c.ok_or.ensures.value
    (only_shortest x a.height.0 a.wish _ (found (fits_on q) (fits_at x a.height.0 a.wish) x.length.0 (c.dm_within.result + 1) (ap (λ n. n + 1) c.dm_within.ensures) same c.find.result r))
