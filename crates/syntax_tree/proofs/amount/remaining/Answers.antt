use Rattle.std.proofs.Common.{◌∙◌, int_rem, w32, rules}
use Rattle.std.proofs.lemmas.Int.{to_z-of_z}
use Rattle.syntax_tree.proofs.Checked.{remainder_gives}
use Rattle.syntax_tree.proofs.amount.remaining.Goals as goal

pub returns : goal.returns
returns c =
    remainder_gives c.args.a c.args.b c.wrapping_rem.result c.ranges.b (search rules)
    (c.wrapping_rem.ensures ∙ (λ i. int_rem (to_z-of_z w32 c.args.a c.ranges.a i) (to_z-of_z w32 c.args.b c.ranges.b i)))
