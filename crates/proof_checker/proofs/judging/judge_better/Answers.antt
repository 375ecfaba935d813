use Rattle.std.proofs.Common.{◌≡◌, true, false, sym, ◌∙◌, ap, rules}
use Rattle.std.specs.Int.{w128}
use Rattle.std.proofs.lemmas.Bool.{iff_false}
use Rattle.std.proofs.lemmas.Int.{to_z-of_z}
use Rattle.ground_model.specs.Objective.{objective_of}
use Rattle.derivation_meaning.specs.State.{last_cost}
use Rattle.derivation_meaning.specs.Lines.{answer_of, improves}
use Rattle.proof_checker.specs.inner.View.{state_of}
use Rattle.proof_checker.proofs.JudgeLemmas.{better_no_model}
use Rattle.proof_checker.proofs.judging.judge_better.Goals as goal

pub returns-then-not-branch-clause-refused : goal.returns-then-not-branch-clause-refused
returns-then-not-branch-clause-refused c =
    let kind : c.args.program.now.has_objective ≡ true = search rules in
    let costs : c.is_cost_of.result ≡ true = search rules in
    let falls : c.improves.result ≡ true = search rules in
    let gone : c.in_ok-is_answer_line.field-0 ≡ false = search rules in
    let kept = sym (to_z-of_z w128 c.args.cost c.ranges.cost) in
    let is = ap (objective_of c.args.program.now) c.in_ok-answer.ensures in
    let same : c.args.cost ≡ objective_of c.args.program.now (answer_of c.args.atoms.now c.args.values.now) =
    kept ∙ c.is_cost_of.ensures.0 costs ∙ is in
    let smaller : improves (last_cost (state_of c.args.state.now)) c.args.cost ≡ true =
    ap (λ last. improves last c.args.cost) (sym c.last_cost.ensures) ∙ ap (improves c.last_cost.result) kept ∙ sym c.improves.ensures ∙ falls in
    better_no_model c.args.program.now (state_of c.args.state.now) c.args.atoms.now c.args.values.now c.requires c.args.cost kind same smaller
    (λ is. iff_false c.in_ok-is_answer_line.ensures gone is)
