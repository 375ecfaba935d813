use Rattle.std.proofs.Common.{◌∙◌, subst, arith, add-one}
use Rattle.asp_parser.specs.Replacement as spec
use Rattle.asp_parser.specs.ConstantTable.{IsSetBy}
use Rattle.asp_parser.proofs.Places.{half_more}
use Rattle.asp_parser.proofs.constants.replaced_statements.Goals as goal

pub loop-at-preserved : goal.loop-at-preserved
loop-at-preserved c =
    rw add-one (half_more (spec.replaced_statement c.args.constants.now) c.args.statements c.loop-at.at c.replace_at.new.statements
    (subst (λ xs. IsSetBy (spec.replaced_statement c.args.constants.now) xs c.loop-at.at c.replace_at.new.statements) c.loop-at.invariant c.in_ok-replace_at.ensures) (omega arith))
