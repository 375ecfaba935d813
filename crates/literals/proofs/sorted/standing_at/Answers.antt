use Rattle.std.proofs.Common.{false, sym, ◌∙◌, arith}
use Rattle.literals.specs.declared.lit.Lit.TheVariants.{Atom}
use Rattle.literals.proofs.SortedLaws.{standing_none, standing_after, standing_here}
use Rattle.literals.proofs.sorted.standing_at.Goals as goal

pub returns-then-at-lits : goal.returns-then-at-lits
returns-then-at-lits c = standing_none c.args.lits.now c.args.lit c.place_in-at.result c.place_in-at.ensures (omega arith)

pub returns-then-before : goal.returns-then-before
returns-then-before c = standing_after c.args.lits.now c.args.lit (Atom 0 false) c.place_in-at.result c.requires c.place_in-at.ensures (omega arith) (sym c.before-2.ensures ∙ c.if-before.true)

pub returns-else-before : goal.returns-else-before
returns-else-before c = standing_here c.args.lits.now c.args.lit (Atom 0 false) c.place_in-at.result c.requires c.place_in-at.ensures (omega arith) (sym c.before-2.ensures ∙ c.if-before.false)
