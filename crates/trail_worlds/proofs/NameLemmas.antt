-- The input nogoods of a program are over its shape.
use Rattle.std.proofs.Common.{length}
use Rattle.std.specs.List.{AllByRecursion}
use Rattle.literals.specs.declared.lit.Lit.{Lit}
use Rattle.literals.specs.declared.lit.Lit.TheVariants as l
use Rattle.ground_model.specs.declared.program.GroundProgram.{GroundProgram}
use Rattle.ground_model.proofs.MemberLemmas.{property_map}
use Rattle.linear_normal.specs.Numbering.{numbering}
use Rattle.completion.specs.Inputs.{input_nogoods}
use Rattle.completion_laws.specs.Inputs.{IsInputLit}
use Rattle.completion_laws.proofs.InputLemmas.{inputs_law}
use Rattle.trail.specs.Assignment.{Names}
use Rattle.trail_worlds.specs.Total.{shape_of}
use Rattle.trail_worlds.specs.Laws.{NamesLaw}
use Rattle.trail_worlds.proofs.TruthLemmas.{numbered_one}

module _ (program : GroundProgram) where
  lit_named : (lit : Lit) → IsInputLit program (numbering program) lit → Names (shape_of program) lit
  lit_named (l.Atom a sign) is = record { literal = is.literal; within = (numbered_one (length program.atoms) a is.named).known }
  lit_named (l.Body b sign) is = record { literal = is.literal; within = (numbered_one (length (numbering program).bodies) b is.named).known }
  lit_named (l.Constraint n sign) is = record { literal = is.literal; within = (numbered_one (length (numbering program).constraints) n is.named).known }
  lit_named (l.AtMost x k) is = absurd is.input
  lit_named (l.AtLeast x k) is = absurd is.input

pub names_law : NamesLaw
names_law program =
    property_map (AllByRecursion (IsInputLit program (numbering program))) (AllByRecursion (Names (shape_of program)))
    (λ nogood is. property_map (IsInputLit program (numbering program)) (Names (shape_of program)) (lit_named program) nogood is) (input_nogoods program) (inputs_law program)
