use Rattle.std.proofs.Common.{length, map, Some, IsTrue, refl, sym, subst}
use Rattle.syntax_tree.specs.declared.binding.Value.{Value as HeldValue}
use Rattle.syntax_tree.specs.declared.literal.Literal.TheViews.{out-TheoryAtom}
use Rattle.syntax_tree.specs.Outcome.{IsKnown}
use Rattle.syntax_tree.specs.Outcome as held
use Rattle.program_meaning.specs.Said.{value_in}
use Rattle.program_meaning.specs.Collected.{collected}
use Rattle.program_meaning.specs.Instance.{bound_in}
use Rattle.program_meaning.specs.Theory.{guard_over, guard_not_linear}
use Rattle.collected_elements.proofs.ElementLemmas.{err_again, judged_same}
use Rattle.theory_ground.proofs.RowLemmas.{by_recursion}
use Rattle.theory_ground.proofs.PlanLemmas.{name_is, start_bound}
use Rattle.theory_ground.proofs.collecting.judge_written.Goals as goal

pub judge_guard-requires-clause-binding : goal.judge_guard-requires-clause-binding
judge_guard-requires-clause-binding c =
    c.in-Ok.ensures.known (length c.args.symbols.now) (by_recursion (λ (v : HeldValue). IsKnown (length c.args.symbols.now) (Some v)) c.args.values.now c.requires.values) tt

pub returns-in-Err-judge_guard-clause-over : goal.returns-in-Err-judge_guard-clause-over
returns-in-Err-judge_guard-clause-over c = λ e rule theory is each.
    let old = c.args.symbols.now in
    let bound = start_bound rule theory c.args.plan.now is old c.args.values.now (held.bound_in old c.in-Ok.binding.values) (c.in-Ok.ensures.bound old) in
    subst (λ b. IsTrue (guard_over b (Some c.args.guard.now))) bound (c.in-Err-judge_guard.ensures.over (err_again e))

pub returns-clause-judged : goal.returns-clause-judged
returns-clause-judged c = λ rule theory is each.
    let old = c.args.symbols.now in
    let kind = (out-TheoryAtom c.args.plan.now.theory.now).name in
    let right = c.args.guard.now.right in
    let first = held.bound_in old c.in-Ok.binding.values in
    let second = bound_in rule (map (value_in old) c.args.values.now) in
    let bound = start_bound rule theory c.args.plan.now is old c.args.values.now (held.bound_in old c.in-Ok.binding.values) (c.in-Ok.ensures.bound old) in
    let name = name_is rule theory c.args.plan.now is in (
      refl,
      judged_same c.judge_guard.new.symbols c.in-Ok-judge_guard.right (collected first right) (collected second right) (guard_not_linear kind first (Some c.args.guard.now))
          (guard_not_linear theory.name second (Some c.args.guard.now)) (λ i. collected (bound i) right) (λ i. guard_not_linear (sym name i) (bound i) (Some c.args.guard.now))
          c.in-Ok-judge_guard.ensures.judged,
    )
