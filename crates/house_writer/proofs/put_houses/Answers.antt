use Rattle.std.proofs.Common.{◌≡◌, ◌∙◌, ◌+◌, ◌-◌, ◌*◌, ◌<◌, ◌++◌, length, take, drop, sym, arith, append-nil, length-take, length-drop}
use Rattle.std.proofs.lemmas.List.{take-append-drop}
use Rattle.std.proofs.Math.Nat.{mul-zero}
use Rattle.ship.specs.Vessel.{house_at}
use Rattle.record.specs.Layout.{house_size}
use Rattle.record.proofs.Parts.{house_within}
use Rattle.house_writer.proofs.Written.{house_put, fit_limits, houses_more}
use Rattle.house_writer.proofs.put_houses.Goals as goal

pub loop-k-init : goal.loop-k-init
loop-k-init c =
    let b = c.args.buf.now in
    rw (mul-zero (house_size c.args.version), append-nil (take 27 b)) (sym (take-append-drop 27 b))

pub put_house-requires : goal.put_house-requires
put_house-requires c =
    let k = c.loop-k.k in
    let h : k < c.args.n = omega (arith, length-take c.args.n c.args.houses) in
    let r = house_within c.args.version c.args.n k {len = length c.loop-k.buf} c.house_size-size.ensures.0 c.requires.n_bound.0 h (omega arith) in
    let f = fit_limits c.args.version _ (c.requires.houses_fit.each k c.loop-k-test.true) in
    (simp (length-take, length-drop) (omega arith), simp (length-take, length-drop) (omega arith), f.0, f.1, f.2)

pub loop-k-preserved : goal.loop-k-preserved
loop-k-preserved c =
    let k = c.loop-k.k in
    let hs = take c.args.n c.args.houses in
    let m = c.house_size-size.result in
    let e = c.house_size-size.ensures.0 in
    let h : k < c.args.n = omega (arith, length-take c.args.n c.args.houses) in
    let r = house_within c.args.version c.args.n k {len = length c.loop-k.buf} e c.requires.n_bound.0 h (omega arith) in
    let n : 27 + m * k + m - (27 + m * k) ≡ house_size c.args.version = omega (arith, e) in
    let q : length (take (27 + m * k + m - (27 + m * k)) (drop (27 + m * k) c.loop-k.buf)) ≡ house_size c.args.version = simp (length-take, length-drop) (omega (arith, e, r)) in
    let put = house_put c.args.version _ (house_at hs k) (c.requires.houses_fit.each k c.loop-k-test.true) q c.put_house.ensures in
    (λ i. let b = c.loop-k.invariant i in take (27 + e i * k) b ++ (put i ++ drop (n i) (drop (27 + e i * k) b)))
    ∙ houses_more c.args.version c.args.buf.now hs k c.loop-k-test.true (omega arith)
