use Rattle.std.proofs.Common.{◌≤◌, length, slice_index, sym, subst, arith}
use Rattle.unfounded_sets.proofs.RowLemmas.{row_ordered, start_before}
use Rattle.unfounded_sets.proofs.rows.start_of.Goals as goal

pub returns-then-place-eq0-clause-within : goal.returns-then-place-eq0-clause-within
returns-then-place-eq0-clause-within c = (row_ordered 0 c.args.ends.now (length c.args.items.now) c.args.place c.requires.ends c.requires.place).1

pub returns-clause-start : goal.returns-clause-start
returns-clause-start c = sym (start_before 0 c.args.ends.now c.args.place (omega arith))

pub returns-clause-ordered : goal.returns-clause-ordered
returns-clause-ordered c =
    subst (λ n. n ≤ slice_index c.args.ends.now c.args.place) (start_before 0 c.args.ends.now c.args.place (omega arith))
    (row_ordered 0 c.args.ends.now (length c.args.items.now) c.args.place c.requires.ends c.requires.place).0

pub returns-clause-within : goal.returns-clause-within
returns-clause-within c = (row_ordered 0 c.args.ends.now (length c.args.items.now) c.args.place c.requires.ends c.requires.place).1
