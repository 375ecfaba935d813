use Rattle.std.proofs.Common.{◌<◌, length, rules, sym}
use Rattle.trail.specs.Assignment.{lits_of}
use Rattle.trail.specs.inner.Kept.{entries_of}
use Rattle.trail.proofs.SinceLaws.{walk_ends, walk_within, walk_misses, walk_on, walk_falls}
use Rattle.trail.proofs.since.first_of.Goals as goal

pub returns-in-None : goal.returns-in-None
returns-in-None c = walk_ends (lits_of (entries_of c.args.slots.now)) c.args.lit c.back.first c.back.mark c.in-None.is c.back.invariant

pub offset_bounds-slots-at : goal.offset_bounds-slots-at
offset_bounds-slots-at c =
    let within : c.in-Some.at < length c.args.slots.now = walk_within c.args.slots.now c.args.lit c.back.first c.back.mark c.in-Some.at c.in-Some.is c.back.invariant in
    search rules

pub bounds-slots-at : goal.bounds-slots-at
bounds-slots-at c = walk_within c.args.slots.now c.args.lit c.back.first c.back.mark c.in-Some.at c.in-Some.is c.back.invariant

pub returns-then-not-implies : goal.returns-then-not-implies
returns-then-not-implies c =
    walk_misses c.args.slots.now c.args.lit c.back.first c.back.mark c.in-Some.at c.index-slots-at.result c.requires.marked c.in-Some.is c.index-slots-at.is (sym c.if-not-implies.ensures.value) c.back.invariant

pub back-smaller : goal.back-smaller
back-smaller c =
    walk_falls c.args.slots.now c.args.lit c.back.mark c.index-slots-at.result.mark c.in-Some.at c.in-Some.is
    (walk_on c.args.slots.now c.args.lit c.back.first c.back.mark c.in-Some.at c.index-slots-at.result c.requires.marked c.in-Some.is c.index-slots-at.is (sym c.if-not-implies.ensures.value) c.back.invariant)

pub back-preserved : goal.back-preserved
back-preserved c =
    walk_on c.args.slots.now c.args.lit c.back.first c.back.mark c.in-Some.at c.index-slots-at.result c.requires.marked c.in-Some.is c.index-slots-at.is (sym c.if-not-implies.ensures.value) c.back.invariant
