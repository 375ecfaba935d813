-- Constraint stable models meet the input nogoods, and what valid reasons show.
use Rattle.std.proofs.Common.{◌≡◌, ◌-◌, ◌==◌, true, ℤ, pos, int_lt, ◌<ℤ◌, length, Option, None, Some, subst, eqb-true, arith}
use Rattle.std.proofs.lemmas.Bool.Decides.{nat_tests}
use Rattle.std.proofs.lemmas.Int.{ints}
use Rattle.ground_model.specs.declared.answer.Answer.{Answer}
use Rattle.ground_model.specs.declared.program.GroundProgram.{GroundProgram}
use Rattle.ground_model.specs.Answers.{IsNumbered, IsWithin, IsAnswerOf}
use Rattle.ground_model.specs.Objective.{objective_of}
use Rattle.ground_model.specs.World.{world_of}
use Rattle.ground_model.proofs.AnswerLemmas.{answer_atoms}
use Rattle.ground_model.proofs.MemberLemmas.{member_any, property_member}
use Rattle.ground_model.proofs.OrderedLemmas.{property_at}
use Rattle.linear_normal.specs.Laws.{HasValues, IsBetter}
use Rattle.linear_normal.proofs.WorldLemmas.{truths_law}
use Rattle.completion.specs.Laws.{IsWorldOf}
use Rattle.completion.proofs.CompletionLemmas.{completion_law, reason_law}
use Rattle.derivation_meaning.specs.Lines.{improves}
use Rattle.derivation_meaning.proofs.Sound.{truths_of, MeetsInputs, MeetsReasons}

pub is_world_of : (program : GroundProgram) (answer : Answer) → IsAnswerOf program answer → IsWorldOf program (world_of answer)
is_world_of program answer is a h =
    let f = member_any (λ b. b == a) answer.atoms h in
    subst (IsNumbered (length program.atoms)) (eqb-true f.0 a f.2) (property_member (IsNumbered (length program.atoms)) answer.atoms f.0 (answer_atoms program answer is) f.1)

has_values : (program : GroundProgram) (answer : Answer) → IsAnswerOf program answer → HasValues program (world_of answer)
has_values program answer is x n =
    let above = n.above in
    let known = n.known in
    let each = is.valuation.each in
    property_at (IsWithin program.ends) answer.values (x - 1) (pos 0) is.valuation.within (omega (arith, above, known, each))

is_better : (program : GroundProgram) (answer : Answer) (last : Option ℤ) → improves last (objective_of program answer) ≡ true → IsBetter program (world_of answer) last
is_better program answer None e = tt
is_better program answer (Some last) e = less (objective_of program answer) last e
  where
    less : (a b : ℤ) → int_lt a b ≡ true → a <ℤ b
    less a b e = grind (arith, nat_tests, ints, e)

pub inputs_met : (program : GroundProgram) → MeetsInputs program
inputs_met program answer is =
    ((completion_law program (world_of answer) (truths_of program answer) (is_world_of program answer is) (truths_law program (world_of answer))).1 is.stable).0

pub reasons_met : (program : GroundProgram) → MeetsReasons program
reasons_met program answer last lits by is cheaper valid =
    reason_law program (world_of answer) (truths_of program answer) (is_world_of program answer is) (has_values program answer is) (truths_law program (world_of answer)) is.stable
    last (is_better program answer last cheaper) lits by valid
