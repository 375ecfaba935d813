-- Laws of the numbering.
use Rattle.std.specs.Prelude.{◌≡◌, ℕ, ◌+◌, Bool, true, false, if◌then◌else◌, ℤ, ◌<ℤ◌, List, map, length, Option, None, Some, slice_get}
use Rattle.std.specs.List.{list_all}
use Rattle.literals.specs.declared.lit.Lit.{Lit}
use Rattle.literals.specs.declared.reason.Step.{Step}
use Rattle.literals.specs.declared.reason.Step.TheVariants as s
use Rattle.literals.specs.Truths.{Truths, Meets}
use Rattle.ground_model.specs.declared.linear.Relation.{Relation}
use Rattle.ground_model.specs.declared.rule.BodyLit.{BodyLit}
use Rattle.ground_model.specs.declared.rule.BodyLit.TheVariants as b
use Rattle.ground_model.specs.declared.rule.Bound.{Bound}
use Rattle.ground_model.specs.declared.rule.TheoryHead.{TheoryHead}
use Rattle.ground_model.specs.declared.rule.GroundChoice.{GroundChoice}
use Rattle.ground_model.specs.declared.rule.GroundHead.TheVariants as h
use Rattle.ground_model.specs.declared.rule.GroundRule.{GroundRule}
use Rattle.ground_model.specs.declared.program.GroundProgram.{GroundProgram}
use Rattle.ground_model.specs.Answers.{IsNumbered, IsWithin}
use Rattle.ground_model.specs.Duties.{theory_holds, chosen}
use Rattle.ground_model.specs.Members.{IsMember}
use Rattle.ground_model.specs.Model.{allows}
use Rattle.ground_model.specs.Objective.{cost}
use Rattle.ground_model.specs.View.{place_of}
use Rattle.ground_model.specs.Ways.{relation_holds, literal_holds}
use Rattle.ground_model.specs.World.{World}
use Rattle.linear_normal.specs.Bodies.{bodies_in, Placed, placed, selections}
use Rattle.linear_normal.specs.Demands.{relation_content, theory_content, bound_content, bounds_of, number_of}
use Rattle.linear_normal.specs.Numbering.{contents_in, numbering}
use Rattle.linear_normal.specs.Steps.{is_valid}
use Rattle.linear_normal.specs.Truth.{AreTruths, truths_in}

-- every world has truths
abbrev pub TruthsLaw : Type 0
TruthsLaw = (program : GroundProgram) (world : World) → AreTruths (numbering program) world (truths_in (numbering program) world)

-- the number of different atoms that a choice with this body takes; none where the body is false
abbrev pub taken_count : World → List BodyLit → GroundChoice → ℕ
taken_count world body choice = (if list_all (literal_holds world) body then length (chosen world choice.items) else 0)

-- by number, each body, each relation of a body, each theory atom and each bound of a choice is true exactly where it holds
pub record KeepsTruth (program : GroundProgram) (world : World) (truths : Truths) : Type 0 where
  pub body : (at : Placed) → IsMember (placed 1 program.rules) at → (k : ℕ) (body : List BodyLit) → slice_get (bodies_in at.rule) k ≡ Some body
      → truths.body (at.first + k) ≡ list_all (literal_holds world) body
  pub relation : (rule : GroundRule) → IsMember program.rules rule → (relation : Relation) (sign : Bool) → IsMember rule.body (b.Theory relation sign)
      → truths.constraint (number_of (contents_in program) (relation_content (length program.variables) relation)) ≡ relation_holds world.values relation
  pub theory : (rule : GroundRule) → IsMember program.rules rule → (theory : TheoryHead) → rule.head ≡ h.Theory theory
      → truths.constraint (number_of (contents_in program) (theory_content (length program.variables) theory)) ≡ theory_holds world.values theory
  pub bound : (at : Placed) → IsMember (placed 1 program.rules) at → (choice : GroundChoice) → at.rule.head ≡ h.Choice choice
      → (bound : Bound) → IsMember (bounds_of choice) bound
      → truths.constraint (number_of (contents_in program) (bound_content (selections (length program.atoms) at.first choice.items) bound))
      ≡ allows (Some bound) (taken_count world at.rule.body choice)

-- the numbering keeps truth in every world
abbrev pub TruthLaw : Type 0
TruthLaw =
    (program : GroundProgram) (world : World) (truths : Truths) → AreTruths (numbering program) world truths → KeepsTruth program world truths

-- each variable of the program has a value within the ends
abbrev pub HasValues : GroundProgram → World → Type 0
HasValues program world = (x : ℕ) → IsNumbered (length program.variables) x → IsWithin program.ends (world.values x)

-- the objective in a world
abbrev pub cost_in : GroundProgram → World → ℤ
cost_in program world =
    cost world.values (map (place_of program.symbols) program.smaller) (map (place_of program.symbols) program.larger)

-- the world's objective is smaller than the last cost, where there was one
abbrev pub IsBetter : GroundProgram → World → Option ℤ → Type 0
IsBetter program world None = Unit {0}
IsBetter program world (Some last) = cost_in program world <ℤ last

-- the step is no loop
abbrev pub is_no_loop : Step → Bool
is_no_loop (s.Loop set) = false
is_no_loop step = true

-- a world with values meets each list that a valid step shows, loops aside; where the step shows that the objective is too large, the world's has to be smaller
abbrev pub StepLaw : Type 0
StepLaw =
    (program : GroundProgram) (world : World) (truths : Truths) → HasValues program world → AreTruths (numbering program) world truths
    → (last : Option ℤ) → IsBetter program world last
    → (lits : List Lit) (step : Step) → is_no_loop step ≡ true → is_valid program (numbering program) last lits step ≡ true → Meets truths lits
