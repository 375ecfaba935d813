-- Programs of texts with their bodies in order.
use Rattle.std.specs.List.{AllByRecursion, AllZip}
use Rattle.syntax_tree.specs.declared.statement.Program.{Program}
use Rattle.program_meaning.specs.Read.{rules_read}
use Rattle.rewriting.specs.declared.program.RewrittenProgram.{RewrittenProgram}
use Rattle.rewriting.specs.Rewriting.{IsRewriting}
use Rattle.groundable_rules.specs.Groundable.{IsGroundable}
use Rattle.safety_meaning.specs.Program.{rules_of}
use Rattle.safety_meaning.specs.Ordered.{IsOrderedRule}
use Rattle.safety_meaning.specs.Reordered.{IsReordered}
use Rattle.ordered_bodies.specs.Programs.{IsGroundableIn, IsOrderedProgram}

-- a program rewritten can be put in order
abbrev pub FitLaw : Type 0
FitLaw =
    (old : Program) (program : RewrittenProgram) → IsRewriting old program → AllByRecursion IsGroundable (rules_of old.statements)
    → AllZip IsGroundableIn program.program.statements program.orders

-- its rules then are those of the text, in order
abbrev pub OrderedLaw : Type 0
OrderedLaw =
    (old : Program) (program done : RewrittenProgram) → IsRewriting old program → IsOrderedProgram program done
    → AllZip IsOrderedRule (rules_of old.statements) (rules_read done.program.statements done.orders)

-- and differ from them in their order alone
abbrev pub ReorderedLaw : Type 0
ReorderedLaw =
    (old : Program) (program done : RewrittenProgram) → IsRewriting old program → IsOrderedProgram program done
    → AllZip IsReordered (rules_of old.statements) (rules_read done.program.statements done.orders)
