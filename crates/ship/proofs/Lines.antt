-- Laws of the table's lines: what an accepted list shows, and two lists one after the other.
use Prim.Native.Nat.{ℕ, ◌<◌}
use mathlib.Core.Bool.{Bool, true, false, ◌||◌}
use mathlib.Core.List.{List, [], ◌∷◌, ◌++◌}
use mathlib.Core.Path.{◌≡◌, refl, ◌∙◌}
use native.Mathlib.Omega.{arith}
use lib.Dec.{eqb}
use borrow.Author.Tests.{ne_eqb}
use Rattle.whole.specs.Pick.{pick}
use Rattle.ship.specs.declared.refusal.Refusal.{Refusal}
use Rattle.ship.specs.Refusals.{Paper, Line, accepted, number_of, refused_as, first}
use Rattle.ship.proofs.OneToOne.{number_above_0}

-- what each line refuses has a property
abbrev pub Each : (Paper → Type 0) → List Line → Type 0
Each P [] = Unit {0}
Each P (t ∷ ts) = P t.1 × Each P ts

-- then the verdict has it, if acceptance has
pub first_has : (P : Paper → Type 0) → P accepted → (ts : List Line) → Each P ts → P (first ts)
unfolding first pick
first_has P p [] e = p
first_has P p (t ∷ ts) e = go t.0 (first_has P p ts e.1)
  where
    go : (b : Bool) → P (first ts) → P (pick b t.1 (first ts))
    go true r = e.0
    go false r = r

-- no line refuses by the number 0, which means acceptance
abbrev pub Numbered : List Line → Type 0
Numbered = Each (λ p. 0 < p.number)

-- no line's check fails
abbrev pub AllPass : List Line → Type 0
AllPass [] = Unit {0}
AllPass (t ∷ ts) = (t.0 ≡ false) × AllPass ts

pub all_pass : (ts : List Line) → Numbered ts → (first ts).number ≡ 0 → AllPass ts
unfolding first pick
all_pass [] m e = tt
all_pass (t ∷ ts) m e = go t.0 refl (all_pass ts m.1) e
  where
    go : (b : Bool) → t.0 ≡ b → ((first ts).number ≡ 0 → AllPass ts) → (pick b t.1 (first ts)).number ≡ 0 → (t.0 ≡ false) × AllPass ts
    go true q r e = absurd (omega (arith, m.0))
    go false q r e = (q, r e)

pub first_passed : (ts : List Line) → AllPass ts → first ts ≡ accepted
unfolding first pick
first_passed [] a = refl
first_passed (t ∷ ts) a = rw a.0 (first_passed ts a.1)

pub all_pass_split : (ts us : List Line) → AllPass (ts ++ us) → AllPass ts × AllPass us
all_pass_split [] us a = (tt, a)
all_pass_split (t ∷ ts) us a = let r = all_pass_split ts us a.1 in ((a.0, r.0), r.1)

-- lines that all pass leave the verdict to those below them
pub first_skip : (ts us : List Line) → AllPass ts → first (ts ++ us) ≡ first us
unfolding first pick
first_skip [] us a = refl
first_skip (t ∷ ts) us a = rw a.0 (first_skip ts us a.1)

-- two lists, one after the other: the second speaks where the first accepts
pub first_append : (ts us : List Line) → Numbered ts → first (ts ++ us) ≡ pick (eqb (first ts).number 0) (first us) (first ts)
unfolding first pick
first_append [] us m = refl
first_append (t ∷ ts) us m = go t.0 (first_append ts us m.1)
  where
    go : (b : Bool) → first (ts ++ us) ≡ pick (eqb (first ts).number 0) (first us) (first ts)
        → pick b t.1 (first (ts ++ us)) ≡ pick (eqb (pick b t.1 (first ts)).number 0) (first us) (pick b t.1 (first ts))
    go true r = rw (ne_eqb t.1.number 0 (λ z. omega (arith, m.0))) refl
    go false r = r

-- what is given by whether the number is 0: beside a refusal it is the second of the two
pub beside_refusal : {A : Type 0} (r : Refusal) (a b : A) → pick (eqb (number_of r) 0) a b ≡ b
unfolding pick
beside_refusal r a b = rw (ne_eqb (number_of r) 0 (λ z. omega (arith, number_above_0 r))) refl

-- so lines that refuse hide those below them
pub first_refused : (ts us : List Line) (r : Refusal) → Numbered ts → first ts ≡ refused_as r → first (ts ++ us) ≡ refused_as r
first_refused ts us r m e = first_append ts us m ∙ rw e (beside_refusal r (first us) (refused_as r))

-- and lines that accept leave the verdict to them
pub first_accepted : (ts us : List Line) → Numbered ts → first ts ≡ accepted → first (ts ++ us) ≡ first us
unfolding pick
first_accepted ts us m e = first_append ts us m ∙ rw e refl

pub or_false : (a b : Bool) → (a || b) ≡ false → (a ≡ false) × (b ≡ false)
or_false true b e = absurd (let z : ◌≡◌ {A = ℕ} 0 1 = cc in omega arith)
or_false false b e = (refl, e)
