use Rattle.std.proofs.Common.{◌≡◌, ℕ, ℤ, ◌-ℤ◌, List, length, sym, ◌∙◌, ap₂, subst, FitsSigned, to_z, of_z, w64}
use Rattle.std.proofs.lemmas.Int.{to_z-of_z}
use Rattle.std.specs.List.{AllByRecursion}
use Rattle.ground_model.specs.declared.linear.Linear.{Linear}
use Rattle.ground_model.specs.declared.program.GroundProgram.{GroundProgram}
use Rattle.ground_model.specs.Sound.{coefficient, total_constant, first_places}
use Rattle.linear_normal.specs.inner.Sums.{HasSmallNumbers, nonzero_pairs, both_sides}
use Rattle.linear_normal.specs.Demands.{moved_pairs}
use Rattle.linear_normal.proofs.MovedLemmas.{MovesObjective, moves_objective}
use Rattle.linear_normal.proofs.sums.objective_sum.Goals as goal

abbrev linear_with : List (ℕ × ℤ) → ℤ → Linear
linear_with ps k = record { pairs = ps; constant = k }

moves : (program : GroundProgram) → MovesObjective (length program.variables) program.smaller program.larger
moves program = moves_objective (length program.symbols) (length program.variables) program.smaller program.larger program.sound_objective

pub objective_pairs-requires : goal.objective_pairs-requires
objective_pairs-requires c = subst (AllByRecursion HasSmallNumbers) (sym c.items-larger.ensures) (moves c.args.ground.now).larger_places

pub joined-requires-clause-pairs : goal.joined-requires-clause-pairs
joined-requires-clause-pairs c =
    rw (c.len.ensures, c.in_ok-gathered.ensures, c.items-smaller.ensures, c.items-larger.ensures) (moves c.args.ground.now).sound

pub joined-requires-clause-small : goal.joined-requires-clause-small
joined-requires-clause-small c =
    rw (c.in_ok-gathered.ensures, c.items-smaller.ensures, c.items-larger.ensures) (moves c.args.ground.now).small

pub number_between-constant-requires-clause-smaller : goal.number_between-constant-requires-clause-smaller
number_between-constant-requires-clause-smaller c = subst (AllByRecursion HasSmallNumbers) (sym c.items-smaller.ensures) (moves c.args.ground.now).smaller_places

pub number_between-constant-requires-clause-larger : goal.number_between-constant-requires-clause-larger
number_between-constant-requires-clause-larger c = subst (AllByRecursion HasSmallNumbers) (sym c.items-larger.ensures) (moves c.args.ground.now).larger_places

pub number_between-constant-requires-clause-small : goal.number_between-constant-requires-clause-small
number_between-constant-requires-clause-small c = rw (c.items-smaller.ensures, c.items-larger.ensures) (moves c.args.ground.now).number

pub returns : goal.returns
returns c =
    let program = c.args.ground.now in
    let gathered : c.in_ok-gathered.gathered.items ≡ both_sides (first_places c.args.ground.now.smaller) (first_places c.args.ground.now.larger) =
    rw (← c.items-smaller.ensures, ← c.items-larger.ensures) c.in_ok-gathered.ensures in
    let pairs : c.in_ok-pairs.pairs ≡ moved_pairs (length c.args.ground.now.variables) (first_places c.args.ground.now.smaller) (first_places c.args.ground.now.larger) =
    c.in_ok-pairs.ensures ∙ ap₂ (λ (n : ℕ) (ps : List (ℕ × ℤ)). nonzero_pairs n (λ x. coefficient x ps)) c.len.ensures gathered ∙ (moves c.args.ground.now).moved in
    let fits : FitsSigned w64 c.number_between-constant.result = record { sfits = c.number_between-constant.type_inv } in
    let constant : to_z w64 (of_z w64 c.number_between-constant.result) ≡ total_constant (first_places c.args.ground.now.smaller) -ℤ total_constant (first_places c.args.ground.now.larger) =
    to_z-of_z w64 c.number_between-constant.result fits ∙ rw (← c.items-smaller.ensures, ← c.items-larger.ensures) c.number_between-constant.ensures in
    ap₂ linear_with pairs constant
