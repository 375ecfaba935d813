use Rattle.std.proofs.Common.{◌+◌, ◌+ℤ◌, pos, SFits, w64, arith, refl, sym, subst}
use Rattle.std.proofs.lemmas.Int.{to_z-of_z}
use Rattle.lane_kernels.specs.inner.Hits.{AreHits}
use Rattle.lane_kernels.proofs.CountLemmas.{hits_of_two_places, hits_of_twice}
use Rattle.lane_kernels.proofs.count.hits_of_four.Goals as goal

pub returns : goal.returns
returns c =
    let lows = c.args.lows.now in
    let highs = c.args.highs.now in
    let i = c.args.place in
    let a = c.args.before +ℤ pos 1 in
    let b = c.args.b in
    let fits_before : SFits w64 c.args.before = c.ranges.before in
    let fits_b : SFits w64 b = c.ranges.b in
    let first = simp to_z-of_z at c.hits_of_two.ensures in
    let second = simp to_z-of_z at c.hits_of_two-2.ensures in
    let front : AreHits a b lows highs i (i + 2) c.hits_of_two.result =
    subst (AreHits a b lows highs i (i + 2)) (sym first) (hits_of_two_places a b lows highs i (omega arith) (omega arith)) in
    let behind : AreHits a b lows highs (i + 2) (i + 2 + 2) c.hits_of_two-2.result =
    subst (AreHits a b lows highs (i + 2) (i + 2 + 2)) (sym second) (hits_of_two_places a b lows highs (i + 2) (omega arith) (omega arith)) in
    hits_of_twice a b lows highs i 2 (i + 2) (i + 4) c.hits_of_two.result c.hits_of_two-2.result _ (refl {a = i + 2}) (omega arith) front behind (omega arith) (rw (front.two, behind.two) refl)
