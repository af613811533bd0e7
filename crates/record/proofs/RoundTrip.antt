-- Reading a written record gives the ship back, and writing an accepted record's ship gives its bytes back if it is in the lowest version that holds the ship.
use Prim.Native.Nat.{ℕ, zero, suc, ◌+◌, ◌-◌, ◌*◌, ◌^◌, ◌≤◌, ◌<◌}
use mathlib.Core.Bool.{false}
use mathlib.Core.List.{List, [], ◌∷◌, ◌++◌, append-nil}
use mathlib.Core.Path.{◌≡◌, refl, sym, ap, ap₂, subst, ◌∙◌}
use lib.ListN.{length, take, drop, get_or, replicate, length-replicate, length-append, length-drop, take-append-drop}
use lib.Seq.{take_at, drop_at, drop-drop, drop-append-add, length-take-le, ext_get_or, take_all}
use lib.Dec.{leb}
use lib.Pow.{pow_mono}
use borrow.Author.Tests.{leb-true, leb-false}
use native.Mathlib.Decide.{dec_lt}
use native.Mathlib.Nat.{lt_of_lt_of_le, mul-le-mul_right}
use native.Mathlib.Omega.{arith}
use Rattle.whole.specs.Pick.{pick}
use Rattle.whole.proofs.Pick.{by_cases}
use Rattle.bits.specs.Fields.{number, piece, pack, unpack, bytes, Fit, Bytes}
use Rattle.bits.proofs.Radix.{read_written, written_read, fit_unpack, fit_each, bytes_take, bytes_drop}
use Rattle.units.specs.declared.Ordinate.{Ordinate}
use Rattle.units.specs.Datum.{lift, sheer_at, Lifted}
use Rattle.ship.specs.declared.House.{House}
use Rattle.ship.specs.declared.Ship.{Ship}
use Rattle.ship.specs.Kinds.{timber_for_a}
use Rattle.ship.specs.Vessel as Vessel
use Rattle.ship.specs.Vessel.{no_house, houses_of, clean}
use Rattle.ship.specs.Refusals.{Paper, accepted, first}
use Rattle.ship.specs.Checks.{field_lines, house_lines, ship_lines}
use Rattle.ship.specs.Good.{Good}
use Rattle.ship.proofs.Lines.{first_passed}
use Rattle.ship.proofs.Accepted.{good}
use Rattle.record.specs.declared.Head.{Head}
use Rattle.record.specs.Layout.{timber_bits, record_length, bit, turn, last_version, last_type, last_type_in, HousesFit, Holds, lowest_for, house_widths, house_size, house_fields, house_of, house_in, version_in, head_widths, head_fields, head_of, head_bytes, head_in, ship_head, ship_of, places_in, ship_in, record_bytes, houses_bytes, houses_in, house_at, spare_in}
use Rattle.record.specs.Reading.{spares_in, reading_in}
use Rattle.record.specs.Writing.{bytes_for, writing_of}
use Rattle.record.proofs.Complement.{turn_turn}
use Rattle.record.proofs.Parts.{length_head_bytes, eight_bits, length_houses_bytes, length_houses_in, head_total, size_within, fields_in, head_within, version_first, version_is}
use Rattle.record.proofs.Framed.{passes_all, ship_is, Framed, frame_passed, frame_passes, type_most, reading_framed}
use Rattle.record.proofs.Written.{lowest_has, lowest_is_lowest, houses_fit, head_fits, writing_accepted}
use Rattle.record.proofs.House.{bit_back, bit_there, Held, AllHeld, fields_fit, houses_back, houses_there, house_at_lem, spare_back}

-- what the types of a ship's arrays say
pub record Shaped (x : Ship) : Type 0 where
  pub eight : length x.houses ≡ 8
  pub six : length x.sheer ≡ 6

-- six ordinates by their places
abbrev places : (ℕ → ℕ) → List Ordinate
places f = record { 0 = f 0 } ∷ record { 0 = f 1 } ∷ record { 0 = f 2 } ∷ record { 0 = f 3 } ∷ record { 0 = f 4 } ∷ record { 0 = f 5 } ∷ []

six_of : (o : List Ordinate) → length o ≡ 6 → places (sheer_at o) ≡ o
six_of o e = ext_get_or (record { 0 = 0 }) _ o (sym e) (λ i h. below i (omega arith))
  where
    below : (i : ℕ) → i < 6 → get_or (places (sheer_at o)) i (record { 0 = 0 }) ≡ get_or o i (record { 0 = 0 })
    below zero h = refl
    below (suc zero) h = refl
    below (suc (suc zero)) h = refl
    below (suc (suc (suc zero))) h = refl
    below (suc (suc (suc (suc zero)))) h = refl
    below (suc (suc (suc (suc (suc zero))))) h = refl
    below (suc (suc (suc (suc (suc (suc i)))))) h = absurd (omega arith)

-- ---- a head, read from what was written
head_fields_lem : (h : Head) → length h.sheer ≡ 6 → Lifted h.sheer → head_of (head_fields h) ≡ h
head_fields_lem h six l =
    let o = h.sheer in
    let e : places (λ k. turn lift (turn lift (sheer_at o k))) ≡ o =
    (λ i. record { 0 = turn_turn lift (sheer_at o 0) l.ap i } ∷ record { 0 = turn_turn lift (sheer_at o 1) l.after_sixth i } ∷ record { 0 = turn_turn lift (sheer_at o 2) l.after_third i }
    ∷ record { 0 = turn_turn lift (sheer_at o 3) l.forward_third i } ∷ record { 0 = turn_turn lift (sheer_at o 4) l.forward_sixth i } ∷ record { 0 = turn_turn lift (sheer_at o 5) l.fp i } ∷ []) ∙ six_of o six in
    λ i. record {
      version = h.version;
      kind = h.kind;
      count = h.count;
      timber = bit_back h.timber i;
      spare = h.spare;
      length = h.length;
      depth = h.depth;
      moulded = h.moulded;
      block = h.block;
      waterplane = h.waterplane;
      sheer = e i;
      displacement = h.displacement;
      immersion = h.immersion;
    }

pub head_back : (h : Head) → length h.sheer ≡ 6 → Lifted h.sheer → Fit (head_widths h.version) (head_fields h) → (rest : List ℕ) → head_in (head_bytes h ++ rest) ≡ h
unfolding head_in head_bytes
head_back h six l f rest =
    let n : ℕ = number (head_bytes h) in
    let fields = read_written (head_widths h.version) 27 (head_total h.version) (head_fields h) f in
    let version : piece n 212 4 ≡ h.version = sym (version_first h.version n) ∙ ap (λ (fs : List ℕ). get_or fs 0 0) fields in
    ap (λ (t : List ℕ). head_of (unpack (head_widths (piece (number t) 212 4)) (number t))) (take_at (head_bytes h) rest 27 (length_head_bytes h))
    ∙ ap (λ (v : ℕ). head_of (unpack (head_widths v) n)) version ∙ ap head_of fields ∙ head_fields_lem h six l

-- ---- and written from what was read
fields_head : (s : List ℕ) → head_fields (head_of (fields_in s)) ≡ fields_in s
unfolding unpack
fields_head s =
    let v : (k : ℕ) → ℕ = λ k. get_or (fields_in s) k 0 in
    let w : (k : ℕ) → v k < 2 ^ get_or (head_widths (version_in s)) k 0 = head_within s in
    let flag : v 3 < 2 = lt_of_lt_of_le (w 3) (pow_mono (eight_bits (version_in s)).2) in
    λ i. v 0 ∷ v 1 ∷ v 2 ∷ bit_there (v 3) flag i ∷ v 4 ∷ v 5 ∷ v 6 ∷ v 7 ∷ v 8 ∷ v 9
    ∷ turn_turn lift (v 10) (w 10) i ∷ turn_turn lift (v 11) (w 11) i ∷ turn_turn lift (v 12) (w 12) i
    ∷ turn_turn lift (v 13) (w 13) i ∷ turn_turn lift (v 14) (w 14) i ∷ turn_turn lift (v 15) (w 15) i ∷ v 16 ∷ v 17 ∷ []

pub head_there : (s : List ℕ) → Bytes s → 27 ≤ length s → head_bytes (head_in s) ≡ take 27 s
unfolding head_in head_bytes
head_there s b l =
    let v = version_in s in
    ap₂ (λ (u : ℕ) (fs : List ℕ). bytes 27 (pack (head_widths u) fs)) (version_is s) (fields_head s)
    ∙ written_read (head_widths v) 27 (head_total v) (take 27 s) (bytes_take 27 s b) (length-take-le 27 s l)

-- the spare bits of houses, added up, are 0 where none is set, and only there
none_spare : (v : ℕ) (s : List ℕ) (n : ℕ) → ((k : ℕ) → k < n → spare_in v (house_at v s k) ≡ 0) → spares_in v s n ≡ 0
unfolding spares_in
none_spare v s zero f = refl
none_spare v s (suc n) f = omega (arith, none_spare v s n (λ k h. f k (omega arith)), f n (omega arith))

no_spare : (v : ℕ) (s : List ℕ) (n : ℕ) → spares_in v s n ≡ 0 → (k : ℕ) → k < n → spare_in v (house_at v s k) ≡ 0
unfolding spares_in
no_spare v s zero e k h = absurd (omega arith)
no_spare v s (suc n) e k h =
    elim (dec_lt k n) [
      | yes l ↦ no_spare v s n (omega arith) k l
      | no g ↦ (let q : k ≡ n = omega arith in rw q (omega arith))
    ]

all_held : (v : ℕ) (hs : List House) → ((i : ℕ) → i < length hs → Held (Vessel.house_at hs i))
    → ((i : ℕ) → i < length hs → Fit (house_widths v) (house_fields (Vessel.house_at hs i))) → AllHeld v hs
all_held v [] f g = tt
all_held v (h ∷ hs) f g = (f 0 (omega arith), g 0 (omega arith), all_held v hs (λ i q. f (suc i) (omega arith)) (λ i q. g (suc i) (omega arith)))

-- ---- what the writer accepts, the reader reads back
module _ (x : Ship) (shaped : Shaped x) (k : x.kind ≤ last_type) (t : timber_for_a x.kind x.timber ≡ false) (m : x.n ≤ 8) (passes : first (ship_lines x) ≡ accepted) where
  g : Good x
  g = good x (ap (λ (p : Paper). p.number) passes)

  count_of : length (houses_of x) ≡ x.n
  count_of = length-take-le x.n x.houses (omega (arith, shaped.eight))

  held : (i : ℕ) → i < length (houses_of x) → Held (Vessel.house_at (houses_of x) i)
  held i h = let e = g.houses.each i h in let l = g.length_most in record { aft = omega arith; fore = omega arith }

  fit : (i : ℕ) → i < length (houses_of x) → Fit (house_widths (lowest_for x)) (house_fields (Vessel.house_at (houses_of x) i))
  fit = (houses_fit x g).each

  head_is : head_in (record_bytes x) ≡ ship_head x
  unfolding record_bytes
  head_is = head_back (ship_head x) shaped.six g.sheer (head_fits x k m g) (houses_bytes (lowest_for x) (houses_of x))

  pub version_back : version_in (record_bytes x) ≡ lowest_for x
  version_back = sym (version_is (record_bytes x)) ∙ ap (λ (h : Head). h.version) head_is

  places_back : places_in (lowest_for x) x.n (record_bytes x) ≡ (clean x).houses
  unfolding places_in record_bytes
  places_back =
      let hs = houses_of x in
      let u = houses_bytes (lowest_for x) hs in
      let e : houses_in (lowest_for x) x.n u ≡ hs =
      (rw (append-nil u, count_of) at (houses_back (lowest_for x) hs (all_held (lowest_for x) hs held fit) [])) in
      rw (drop_at (head_bytes (ship_head x)) u 27 (length_head_bytes (ship_head x)), e) refl

  clean_passes : first (ship_lines (clean x)) ≡ accepted
  clean_passes =
      let e : houses_of (clean x) ≡ houses_of x = take_at (houses_of x) (replicate (8 - x.n) no_house) x.n count_of in
      ap (λ (hs : List House). first (field_lines x ++ house_lines x.length.0 hs)) e ∙ passes

  ship_back : ship_in (record_bytes x) ≡ clean x
  unfolding ship_in
  ship_back = ap (λ (h : Head). ship_of h (places_in h.version h.count (record_bytes x))) head_is ∙ ap (ship_of (ship_head x)) places_back

  pub length_record : length (record_bytes x) ≡ bytes_for x
  unfolding record_bytes
  length_record =
      let u = houses_bytes (lowest_for x) (houses_of x) in
      length-append (head_bytes (ship_head x)) u ∙ ap₂ ◌+◌ (length_head_bytes (ship_head x)) (length_houses_bytes (lowest_for x) (houses_of x) ∙ ap (λ (n : ℕ). house_size (lowest_for x) * n) count_of)

  -- a written house has no spare bit
  blank_back : (i : ℕ) → i < x.n → spare_in (lowest_for x) (house_at (lowest_for x) (record_bytes x) i) ≡ 0
  unfolding record_bytes
  blank_back i h =
      let hs = houses_of x in
      let b = head_bytes (ship_head x) in
      let u = houses_bytes (lowest_for x) hs in
      let a = house_size (lowest_for x) * i in
      let d : drop (27 + a) (b ++ u) ≡ drop a u =
      ap (λ (n : ℕ). drop (n + a) (b ++ u)) (sym (length_head_bytes (ship_head x))) ∙ drop-append-add b u a in
      let q : i < length hs = omega (arith, count_of) in
      rw (d, house_at_lem (lowest_for x) hs i q) (spare_back (lowest_for x) (Vessel.house_at hs i) (fit i q))

  frame_back : Framed (record_bytes x)
  frame_back =
      let e : (P : Head → Type 0) → P (ship_head x) → P (head_in (record_bytes x)) = λ P p. subst P (sym head_is) p in
      record {
        long = omega (arith, length_record);
        first = e (λ h. 1 ≤ h.version) (lowest_has x k).4;
        last = e (λ h. h.version ≤ last_version) (lowest_has x k).5;
        type = e (λ h. h.kind ≤ last_type_in h.version) (lowest_has x k).6;
        timber = e (λ h. timber_for_a h.kind h.timber ≡ false) t;
        few = e (λ h. h.count ≤ 8) m;
        exact = e (λ h. length (record_bytes x) ≡ record_length h.version h.count) length_record;
        blank = e (λ h. h.spare + spares_in h.version (record_bytes x) h.count ≡ 0) (omega (arith, none_spare (lowest_for x) (record_bytes x) x.n blank_back));
      }

  pub read_back : reading_in (record_bytes x) ≡ record { verdict = accepted; ship = clean x }
  unfolding pick
  read_back =
      reading_framed (record_bytes x) (frame_passes (record_bytes x) frame_back)
      ∙ rw (ship_back, clean_passes) refl

-- ---- what the reader accepts in the lowest version that holds the ship, the writer writes back
module _ (s : List ℕ) (b : Bytes s) (f : Framed s) (lowest : version_in s ≡ lowest_for (ship_in s)) where
  -- the head is that of a ship's record
  head_whole : ship_head (ship_in s) ≡ head_in s
  unfolding ship_in
  head_whole =
      let h = head_in s in
      let z : 0 ≡ h.spare = omega (arith, f.blank) in
      λ i. record {
        version = (sym lowest ∙ sym (version_is s)) i;
        kind = h.kind;
        count = h.count;
        timber = h.timber;
        spare = z i;
        length = h.length;
        depth = h.depth;
        moulded = h.moulded;
        block = h.block;
        waterplane = h.waterplane;
        sheer = h.sheer;
        displacement = h.displacement;
        immersion = h.immersion;
      }

  abbrev w : ℕ
  w = (head_in s).version

  blank_there : (k : ℕ) → k < (head_in s).count → spare_in w (take (house_size w) (drop (house_size w * k) (drop 27 s))) ≡ 0
  blank_there k h = rw (drop-drop (house_size w * k) 27 s) (no_spare w s (head_in s).count (omega (arith, f.blank)) k h)

  places_there : houses_bytes w (houses_of (ship_in s)) ≡ drop 27 s
  unfolding ship_in places_in
  places_there =
      let n = (head_in s).count in
      let l : length (drop 27 s) ≡ house_size w * n = omega (arith, length-drop 27 s, f.exact) in
      rw (
        take_at (houses_in w n (drop 27 s)) (replicate (8 - n) no_house) n (length_houses_in w n (drop 27 s)),
        houses_there w n (drop 27 s) (bytes_drop 27 s b) (omega arith) blank_there,
      )
      (take_all (house_size w * n) (drop 27 s) (omega arith))

  bytes_there : record_bytes (ship_in s) ≡ s
  unfolding record_bytes
  bytes_there =
      ap₂ (λ (h : Head) (v : ℕ). head_bytes h ++ houses_bytes v (houses_of (ship_in s))) head_whole (sym lowest ∙ sym (version_is s))
      ∙ rw (head_there s b f.long, places_there) (take-append-drop 27 s)

-- ---- a house that was read fits the bits that it was read from
read_fits : (v : ℕ) (t : List ℕ) → Fit (house_widths v) (house_fields (house_in v t))
unfolding house_in
read_fits v t =
    let f = fit_each (house_widths v) (unpack (house_widths v) (number t)) (fit_unpack (house_widths v) (number t)) in
    fields_fit v (house_of (unpack (house_widths v) (number t))) (f 4) (f 6) (f 7)

all_fit : (v n : ℕ) (t : List ℕ) (k : ℕ) → k < n → Fit (house_widths v) (house_fields (Vessel.house_at (houses_in v n t) k))
all_fit v zero t k h = absurd (omega arith)
all_fit v (suc n) t zero h = read_fits v (take (house_size v) t)
all_fit v (suc n) t (suc k) h = all_fit v n (drop (house_size v) t) k (omega arith)

-- and so does the timber flag
pub flag_held : (s : List ℕ) → bit (head_in s).timber < 2 ^ timber_bits (head_in s).version
unfolding head_in
flag_held s =
    let w = head_within s 3 in
    let flag : get_or (fields_in s) 3 0 < 2 = lt_of_lt_of_le w (pow_mono (eight_bits (version_in s)).2) in
    rw (bit_there _ flag, version_is s) w

-- so the version of an accepted record holds its ship
version_holds : (s : List ℕ) → Framed s → Holds (head_in s).version (ship_in s)
unfolding ship_in places_in
version_holds s f =
    let v = (head_in s).version in
    let n = (head_in s).count in
    let hs = houses_in v n (drop 27 s) in
    let e : take n (hs ++ replicate (8 - n) no_house) ≡ hs = take_at hs (replicate (8 - n) no_house) n (length_houses_in v n (drop 27 s)) in
    (f.first, f.last, f.type, flag_held s, subst (HousesFit v) (sym e) (record { each = λ k h. all_fit v n (drop 27 s) k (omega (arith, length_houses_in v n (drop 27 s))) }))

-- and its record in the lowest one is no longer
size_grows : (v w : ℕ) → v ≤ w → house_size v ≤ house_size w
unfolding house_size
size_grows v w h =
    by_cases (λ (n : ℕ). house_size v ≤ n) (leb w 2) _ _
    (λ t. by_cases (λ (n : ℕ). n ≤ 8) (leb v 2) _ _ (λ u. omega arith) (λ u. omega (arith, leb-true w 2 t, leb-false v 2 u)))
    (λ t. (size_within v).1)

no_longer : (s : List ℕ) → Framed s → bytes_for (ship_in s) ≤ length s
unfolding ship_in
no_longer s f =
    let x = ship_in s in
    let v = (head_in s).version in
    let m : lowest_for x ≤ v =
    elim (dec_lt v (lowest_for x)) [ yes l ↦ absurd (lowest_is_lowest x v l (version_holds s f)) | no l ↦ omega arith ] in
    omega (arith, f.exact, mul-le-mul_right (head_in s).count (size_grows (lowest_for x) v m))

module _ (s : List ℕ) (x : Ship) (e : reading_in s ≡ record { verdict = accepted; ship = x }) where
  framed : Framed s
  framed = frame_passed s (passes_all s x e).0

  pub write_back : Bytes s → version_in s ≡ lowest_for x → record_bytes x ≡ s
  write_back b lowest = rw (← (ship_is s x e)) (bytes_there s b framed (lowest ∙ ap lowest_for (sym (ship_is s x e))))

  pub length_there : version_in s ≡ lowest_for x → length s ≡ bytes_for x
  unfolding ship_in
  length_there lowest =
      subst (λ (y : Ship). length s ≡ record_length (head_in s).version y.n) (ship_is s x e) framed.exact
      ∙ ap (λ (v : ℕ). record_length v x.n) (version_is s ∙ lowest)

  -- what is written of it is no longer
  pub room_there : bytes_for x ≤ length s
  room_there = subst (λ (y : Ship). bytes_for y ≤ length s) (ship_is s x e) (no_longer s framed)

  -- and any buffer with room for it is written
  pub writes_back : (room : ℕ) → length s ≤ room → writing_of room x ≡ accepted
  unfolding ship_in
  writes_back room h =
      let f = framed in
      subst (λ (y : Ship). writing_of room y ≡ accepted) (ship_is s x e)
      (writing_accepted room (ship_in s) (type_most (head_in s).version f.type) f.timber f.few (first_passed (ship_lines (ship_in s)) (passes_all s x e).1) (omega (arith, no_longer s f)))

  -- its arrays have their lengths, and its places beyond n are zero already
  pub shaped_read : Shaped x
  unfolding ship_in places_in head_in
  shaped_read =
      let v = (head_in s).version in
      let n = (head_in s).count in
      let m = framed.few in
      let l : length (places_in v n s) ≡ 8 = omega (arith, length-append (houses_in v n (drop 27 s)) (replicate (8 - n) no_house), length_houses_in v n (drop 27 s), length-replicate {A = House} (8 - n) no_house) in
      subst Shaped (ship_is s x e) (record { eight = l; six = refl })

  pub clean_read : clean x ≡ x
  unfolding ship_in places_in
  clean_read =
      let v = (head_in s).version in
      let n = (head_in s).count in
      subst (λ (y : Ship). clean y ≡ y) (ship_is s x e)
      (ap (λ (hs : List House). ship_of (head_in s) (hs ++ replicate (8 - n) no_house)) (take_at (houses_in v n (drop 27 s)) (replicate (8 - n) no_house) n (length_houses_in v n (drop 27 s))))
