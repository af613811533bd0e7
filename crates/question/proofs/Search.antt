-- The search: that its definition gives the shortest length that fits, as does what is found; the facts that say so leave one answer.
use Prim.Native.Nat.{ℕ, zero, suc, ◌+◌, ◌*◌, ◌/◌, ◌≤◌, ◌<◌}
use mathlib.Core.Bool.{Bool, true, false, true≢false}
use mathlib.Core.Path.{◌≡◌, refl, sym, ap, ap₂, ◌∙◌}
use native.Mathlib.Decide.{dec_lt}
use native.Mathlib.Omega.{arith}
use Rattle.std.specs.Prelude.{Option, Some, None, MatchOption}
use Rattle.std.specs.Option.{ok_or}
use Rattle.ship.specs.declared.Ship.{Ship}
use Rattle.ship.specs.declared.refusal.Refusal.TheVariants.{NoLengthFits}
use Rattle.trial.specs.Poop.{fits_at}
use Rattle.question.specs.Question.{Reply, given, reply, shortest_from, shortest_for, Shortest, fitting, none}

module _ (fits : ℕ → Bool) where
  -- from k on, where nothing before k fits
  meets : (L m k : ℕ) → L / 100 + 1 ≡ k + m → ((j : ℕ) → j < k → fits j ≡ false) → Shortest fits L (shortest_from fits m k)
  unfolding shortest_from
  meets L zero k s f = none (λ j h. f j (omega arith))
  meets L (suc m) k s f = go (fits k) refl (λ e. meets L m (k + 1) (omega arith) (more e))
    where
      more : fits k ≡ false → (j : ℕ) → j < k + 1 → fits j ≡ false
      more e j h = elim (dec_lt j k) [ yes g ↦ f j g | no g ↦ (let s : j ≡ k = omega arith in rw s e) ]

      go : (b : Bool) → fits k ≡ b → (fits k ≡ false → Shortest fits L (shortest_from fits m (k + 1)))
          → Shortest fits L (elim b [ true ↦ given k | false ↦ shortest_from fits m (k + 1) ])
      go true e r = fitting k (omega arith) e f
      go false e r = r e

  pub one_shortest : (L : ℕ) (a b : Reply) → Shortest fits L a → Shortest fits L b → a ≡ b
  one_shortest L a b (fitting j i e f) (fitting k l d g) =
      elim (dec_lt j k) [
        | yes h ↦ absurd (true≢false (sym e ∙ g j h))
        | no h ↦ elim (dec_lt k j) [
          | yes p ↦ absurd (true≢false (sym d ∙ f k p))
          | no p ↦ ap given (omega arith)
        ]
      ]
  one_shortest L a b (fitting j i e f) (none g) = absurd (true≢false (sym e ∙ g j i))
  one_shortest L a b (none f) (fitting k l d g) = absurd (true≢false (sym d ∙ f k l))
  one_shortest L a b (none f) (none g) = refl

-- two tests that agree on every length have one answer
pub same_search : (f g : ℕ → Bool) (L m k : ℕ) → k + m ≤ L / 100 + 1 → ((j : ℕ) → 100 * j ≤ L → f j ≡ g j) → shortest_from f m k ≡ shortest_from g m k
unfolding shortest_from
same_search f g L zero k h e = refl
same_search f g L (suc m) k h e =
    ap₂ (λ (b : Bool) (r : Reply). elim b [ true ↦ given k | false ↦ r ]) (e k (omega arith)) (same_search f g L m (k + 1) (omega arith) e)

-- ---- the definition gives the shortest, and nothing else is the shortest
module _ (x : Ship) (height wish : ℕ) where
  pub is_shortest : Shortest (fits_at x height wish) x.length.0 (shortest_for x height wish)
  unfolding shortest_for
  is_shortest = meets (fits_at x height wish) x.length.0 (x.length.0 / 100 + 1) 0 (omega arith) (λ j h. absurd (omega arith))

  pub only_shortest : (r : Reply) → Shortest (fits_at x height wish) x.length.0 r → r ≡ shortest_for x height wish
  only_shortest r f = one_shortest (fits_at x height wish) x.length.0 r (shortest_for x height wish) f is_shortest

-- ---- what is found among so many lengths from 0 on, by another test that agrees on each, is the shortest
pub found : (f g : ℕ → Bool) (L n : ℕ) → n ≡ L / 100 + 1 → ((j : ℕ) → 100 * j ≤ L → f j ≡ g j)
    → (r : Option ℕ) → MatchOption r ((k : ℕ) → 0 ≤ k → k < n → f k ≡ false) (λ k. (0 ≤ k) × (k < n) × (f k ≡ true) × ((j : ℕ) → 0 ≤ j → j < k → f j ≡ false))
    → Shortest g L (reply (ok_or r NoLengthFits))
found f g L n e same None h = none (λ j l. sym (same j l) ∙ h j (omega arith) (omega arith))
found f g L n e same (Some k) h =
    fitting k (omega arith) (sym (same k (omega arith)) ∙ h.2) (λ j l. sym (same j (omega arith)) ∙ h.3 j (omega arith) l)
