use Rattle.std.proofs.Common.{◌+◌, ◌+ℤ◌, pos, SFits, w64, arith, refl}
use Rattle.std.proofs.lemmas.Int.{to_z-of_z}
use Rattle.lane_kernels.specs.inner.Hits.{AreHits}
use Rattle.lane_kernels.proofs.CountLemmas.{hits_of_twice}
use Rattle.lane_kernels.proofs.count.hits_of_sixteen.Goals as goal

pub returns : goal.returns
returns c =
    let lows = c.args.lows.now in
    let highs = c.args.highs.now in
    let i = c.args.place in
    let a = c.args.before +ℤ pos 1 in
    let b = c.args.b in
    let fits_before : SFits w64 c.args.before = c.ranges.before in
    let fits_b : SFits w64 b = c.ranges.b in
    let front : AreHits a b lows highs i (i + 8) c.hits_of_eight.result = simp to_z-of_z at c.hits_of_eight.ensures in
    let behind : AreHits a b lows highs (i + 8) (i + 8 + 8) c.hits_of_eight-2.result = simp to_z-of_z at c.hits_of_eight-2.ensures in
    hits_of_twice a b lows highs i 8 (i + 8) (i + 16) c.hits_of_eight.result c.hits_of_eight-2.result _ (refl {a = i + 8}) (omega arith) front behind (omega arith) (rw (front.two, behind.two) refl)
