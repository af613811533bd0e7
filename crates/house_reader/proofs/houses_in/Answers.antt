use Rattle.std.proofs.Common.{◌≡◌, ◌∙◌, ◌<◌, replicate, refl, ap, arith}
use Rattle.std.proofs.lemmas.List.{length-take-le}
use Rattle.record.specs.Reading.{spares_in}
use Rattle.record.proofs.Parts.{house_within}
use Rattle.house_reader.proofs.Places.{places_none, places_all, two_read, places_more, spares_more}
use Rattle.house_reader.proofs.houses_in.Goals as goal

pub loop-k-init : goal.loop-k-init
unfolding spares_in
loop-k-init c = record { places = places_none c.args.version c.args.n c.requires.0 c.house_of-none.ensures; spare = refl; few = omega arith }

pub loop-k-preserved : goal.loop-k-preserved
loop-k-preserved c =
    let s = c.args.s.now in
    let k = c.loop-k.k in
    let h : k < c.args.n = omega (arith, length-take-le c.args.n (replicate 8 c.house_of-none.result) c.requires.0) in
    let r = house_within c.args.version c.args.n k c.house_size-size.ensures.0 c.requires.0 h c.requires.1 in
    let t = two_read c.args.version s c.house_size-size.result k (λ i. omega (arith, c.type_inv.s i)) c.house_size-size.ensures.0 r.3 c.word-word.ensures c.word-breadths.ensures in
    record {
      places = rw (c.house_of.ensures, t.0, c.loop-k.invariant.places) (places_more c.args.version s c.args.n k h);
      spare = rw (t.1, c.loop-k.invariant.spare) (spares_more c.args.version s k);
      few = omega arith;
    }

pub returns : goal.returns
returns c =
    let n = c.args.n in
    let e : c.loop-k.k ≡ n = omega (arith, length-take-le n (replicate 8 c.house_of-none.result) c.requires.0) in (
      places_all c.args.version c.args.s.now n c.loop-k.k c.requires.0 e c.house_of-none.ensures c.loop-k.invariant.places,
      c.loop-k.invariant.spare ∙ ap (spares_in c.args.version c.args.s.now) e,
      omega arith,
    )
