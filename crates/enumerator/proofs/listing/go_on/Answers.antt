use Rattle.std.proofs.Common.{◌≡◌, inr, ℕ, ◌+◌, ◌<◌, false, Ok, Err, refl, sym, ◌∙◌, ap, subst, arith}
use Rattle.ground_model.specs.declared.program.GroundProgram.{GroundProgram}
use Rattle.ground_model.specs.Answers.{AreAtomsOf}
use Rattle.ground_model.proofs.AnswerLemmas.{answer_atoms}
use Rattle.search_core.specs.Searching.{Goes, IsAtLimit, IsCut, is_exhausted}
use Rattle.search_core.specs.declared.event.Event.TheVariants as event
use Rattle.search_core.specs.declared.event.Stop.TheVariants as stop
use Rattle.enumerator.specs.declared.summary.Ending.{Ending}
use Rattle.enumerator.specs.inner.Listing.{Gives, IsDue}
use Rattle.enumerator.specs.Endings.{IsOwn}
use Rattle.enumerator.proofs.ListLaws.{limit_due, memory_cut, none_due, own_ending, answer_turns}
use Rattle.enumerator.proofs.listing.go_on.Goals as goal

pub give-requires-clause-atoms : goal.give-requires-clause-atoms
give-requires-clause-atoms g c =
    let goes : Goes c.args.search.now c.next.new.self (event.Answer c.in-Ok-Answer.answer) = subst (Goes c.args.search.now c.next.new.self) c.in-Ok-Answer.field-0-is c.in-Ok-Answer.ensures.goes in
    subst (λ (p : GroundProgram). AreAtomsOf p c.in-Ok-Answer.answer.atoms) (sym (c.ground.ensures ∙ c.in-Ok-Answer.ensures.program))
    (answer_atoms c.args.search.now.program c.in-Ok-Answer.answer goes.tells.0.stable)

pub returns-in-Err-Limit-clause-turns : goal.returns-in-Err-Limit-clause-turns
returns-in-Err-Limit-clause-turns g c = λ task number before asked fewer going.
    let at : IsAtLimit c.args.limit c.args.search.now c.next.new.self = c.in-Err-Limit.ensures.stop stop.Limit (ap Err c.in-Err-Limit.field-0-is) in (
      tt,
      limit_due task c.args.answers c.args.search.now c.next.new.self before (g.O.Sink.tells c.args.out.now) (let is = asked.number_is in omega (arith, is, fewer)) going
          (subst (λ (n : ℕ). IsAtLimit n c.args.search.now c.next.new.self) (sym asked.limit_is) at),
    )

pub returns-in-Err-Memory-clause-turns : goal.returns-in-Err-Memory-clause-turns
returns-in-Err-Memory-clause-turns g c = λ task number before asked fewer going.
    let cut : IsCut c.args.search.now c.next.new.self = c.in-Err-Memory.ensures.stop stop.Memory (ap Err c.in-Err-Memory.field-0-is) in
    (inr refl, memory_cut task c.args.answers c.args.search.now c.next.new.self before (g.O.Sink.tells c.args.out.now) going cut)

pub returns-in-Ok-Exhausted-clause-turns : goal.returns-in-Ok-Exhausted-clause-turns
returns-in-Ok-Exhausted-clause-turns g c = λ task number before asked fewer going.
    let goes : Goes c.args.search.now c.next.new.self event.Exhausted = subst (Goes c.args.search.now c.next.new.self) c.in-Ok-Exhausted.field-0-is c.in-Ok-Exhausted.ensures.goes in (
      subst IsOwn (sym c.exhausted.ensures) (own_ending c.args.answers),
      subst (λ (ending : Ending). IsDue task ending c.args.answers c.next.new.self.conflicts before (g.O.Sink.tells c.args.out.now)) (sym c.exhausted.ensures)
          (none_due task c.args.answers c.args.search.now c.next.new.self before (g.O.Sink.tells c.args.out.now) asked.kind (let is = asked.number_is in omega (arith, is, fewer)) going goes),
    )

pub returns-in-Ok-Answer-clause-turns : goal.returns-in-Ok-Answer-clause-turns
returns-in-Ok-Answer-clause-turns g c = λ task number before asked fewer going.
    let goes : Goes c.args.search.now c.next.new.self (event.Answer c.in-Ok-Answer.answer) = subst (Goes c.args.search.now c.next.new.self) c.in-Ok-Answer.field-0-is c.in-Ok-Answer.ensures.goes in
    let program : c.ground.result.now ≡ task.program = c.ground.ensures ∙ c.in-Ok-Answer.ensures.program ∙ going.program in
    let within : c.next.new.self.conflicts < c.args.limit = c.in-Ok-Answer.ensures.answer c.in-Ok-Answer.answer (ap Ok c.in-Ok-Answer.field-0-is) in
    let unspent : c.next.new.self.spent ≡ false = c.in-Ok-Answer.ensures.spent ∙ ap is_exhausted c.in-Ok-Answer.field-0-is in
    answer_turns task c.args.answers c.args.search.now c.next.new.self before (g.O.Sink.tells c.args.out.now) (g.O.Sink.tells c.give.new.out) c.in-Ok-Answer.answer c.give.result going goes
    c.in-Ok-Answer.ensures.program (subst (λ (n : ℕ). c.next.new.self.conflicts < n) (sym asked.limit_is) within) unspent
    (subst (λ (p : GroundProgram). Gives p c.in-Ok-Answer.answer (c.args.answers + 1) (g.O.Sink.tells c.args.out.now) (g.O.Sink.tells c.give.new.out) c.give.result) program c.give.ensures.gives)
