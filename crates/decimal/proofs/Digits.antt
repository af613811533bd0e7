-- One turn over the digits: a byte that is none, a number that grows too large, and the next digit taken.
use Rattle.std.proofs.Common.{◌≡◌, ℕ, ◌+◌, ◌*◌, ◌-◌, ◌^◌, ◌≤◌, ◌<◌, ◌⊎◌, true, false, List, [], ◌∷◌, None, Some, length, drop, get_or, refl, arith, drop-cons, add-one, Bool, ◌||◌}
use lib.Dec.{leb}
use Rattle.std.proofs.lemmas.List.{drop_all}
use Rattle.std.proofs.lemmas.Bool.Decides.{nat_tests}
use Rattle.whole.specs.Pick.{pick}
use Rattle.decimal.specs.Decimal.{no_digit, number_from, parsed}

pub no_bytes : (s : List ℕ) → length s ≡ 0 → parsed s ≡ None
unfolding parsed
no_bytes [] h = refl
no_bytes (b ∷ bs) h = absurd (omega arith)

pub some_bytes : (s : List ℕ) → 0 < length s → parsed s ≡ number_from 0 s
unfolding parsed
some_bytes [] h = absurd (omega arith)
some_bytes (b ∷ bs) h = refl

module _ (s : List ℕ) (v i : ℕ) where
  abbrev next : ℕ
  next = v * 10 + (get_or s i 0 - 48)

  abbrev stops : Bool
  stops = no_digit (get_or s i 0) || leb (2 ^ 64) (10 * v + (get_or s i 0 - 48))

  refused : i < length s → stops ≡ true → number_from v (drop i s) ≡ None
  unfolding number_from pick
  refused here e = rw (drop-cons s i 0 here, number_from, e) refl

  pub not_a_digit : i < length s → (get_or s i 0 < 48) ⊎ (57 < get_or s i 0) → number_from v (drop i s) ≡ None
  not_a_digit here out = refused here (grind (arith, nat_tests))

  pub too_large : i < length s → 2 ^ 64 ≤ next → number_from v (drop i s) ≡ None
  too_large here h = refused here (grind (arith, nat_tests))

  pub taken : i < length s → 48 ≤ get_or s i 0 → get_or s i 0 ≤ 57 → next < 2 ^ 64 → number_from v (drop i s) ≡ number_from next (drop (i + 1) s)
  unfolding number_from pick
  taken here low high h =
      let e : stops ≡ false = grind (arith, nat_tests) in
      let same : 10 * v + (get_or s i 0 - 48) ≡ next = omega arith in
      rw (drop-cons s i 0 here, number_from, e, same, add-one) refl

  pub all_taken : length s ≤ i → number_from v (drop i s) ≡ Some v
  unfolding number_from
  all_taken h = rw (drop_all i s h) refl

pub ruleset digits = (no_bytes, some_bytes, not_a_digit, too_large, taken, all_taken)
