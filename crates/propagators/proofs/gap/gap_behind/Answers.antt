use Rattle.std.proofs.Common.{rules, arith, ◌≡◌, ◌<◌, ◌≤◌, ℕ, length, ◌<ℤ◌, ◌≤ℤ◌, FitsSigned}
use Rattle.std.specs.Int.{w32}
use Rattle.std.proofs.lemmas.Int.{to_z-of_z}
use Rattle.propagators.proofs.GapLaws.{gap_last, gap_inner, lies_behind}
use Rattle.propagators.proofs.gap.gap_behind.Goals as goal

inside : (at n : ℕ) → at ≤ n → (at ≡ n → ⊥) → at < n
inside at n le ne = grind arith

pub returns-then-at-intervals-clause-some : goal.returns-then-at-intervals-clause-some
returns-then-at-intervals-clause-some c =
    let e : c.args.at ≡ length c.args.intervals.now = search rules in
    gap_last c.args.intervals.now c.args.k c.args.at c.end_before-below.result c.requires.parted e c.requires.point c.end_before-below.ensures.none c.end_before-below.ensures.some

pub returns-then-above-k-clause-none : goal.returns-then-above-k-clause-none
returns-then-above-k-clause-none c =
    let l : c.args.at < length c.args.intervals.now = inside c.args.at (length c.args.intervals.now) c.requires.bound c.if-at-intervals.false in
    let h : c.start_at-above.result ≤ℤ c.args.k = search rules in
    lies_behind c.args.intervals.now c.args.k c.start_at-above.result c.args.at l c.requires.point c.start_at-above.ensures h

pub returns-clause-some : goal.returns-clause-some
returns-clause-some c =
    let f : FitsSigned w32 c.start_at-above.result = search rules in
    let l : c.args.at < length c.args.intervals.now = inside c.args.at (length c.args.intervals.now) c.requires.bound c.if-at-intervals.false in
    let h : c.args.k <ℤ c.start_at-above.result = search rules in
    simp to_z-of_z (gap_inner c.args.intervals.now c.args.k c.start_at-above.result c.args.at c.end_before-below.result c.requires.parted l c.requires.point c.end_before-below.ensures.none c.end_before-below.ensures.some c.start_at-above.ensures h)
