use Rattle.std.proofs.Common.{List, map, length, Some, Err, sym, ap, subst}
use Rattle.ground_model.specs.Members.{IsMember}
use Rattle.syntax_tree.specs.declared.binding.Value.{Value as HeldValue}
use Rattle.syntax_tree.specs.Outcome.{IsKnown}
use Rattle.syntax_tree.proofs.Holding.{ok_along}
use Rattle.program_meaning.specs.Said.{value_in}
use Rattle.program_meaning.specs.Substitution.{Value}
use Rattle.row_bindings.proofs.HeldLemmas.{values-front}
use Rattle.row_tests.specs.Judged.{atoms_in}
use Rattle.collected_atoms.specs.Said.{IsAtomIn}
use Rattle.theory_ground.specs.Collected.{IsStopOf}
use Rattle.theory_ground.specs.inner.Rows.{IsWhole}
use Rattle.theory_ground.proofs.RowLemmas.{by_recursion}
use Rattle.theory_ground.proofs.PlanLemmas.{whole_known}
use Rattle.theory_ground.proofs.StopLemmas.{gathering_stop, err_along}
use Rattle.theory_ground.proofs.collecting.collect.Goals as goal

pub with_elements-requires-clause-places : goal.with_elements-requires-clause-places
with_elements-requires-clause-places c =
    let h = c.requires.plan in
    whole_known c.gather_elements.new.symbols (IsMember (atoms_in c.args.symbols.now c.args.index.now)) h.0 (map (value_in c.args.symbols.now) c.args.values.now) h.1 c.in-Ok.gathered
    (c.in-Ok.ensures.gathered h.0 h.1 h.2 h.3)

pub returns-in-Err-clause-stop : goal.returns-in-Err-clause-stop
returns-in-Err-clause-stop c = λ rule theory is each.
    gathering_stop (IsMember (atoms_in c.args.symbols.now c.args.index.now)) rule (map (value_in c.args.symbols.now) c.args.values.now) theory c.args.most c.in-Err.stop c.stop_of_gathering.result
    c.stop_of_gathering.ensures (λ e. c.in-Err.ensures.over (ap (λ s. Err s) e) rule theory is each) (λ e. c.in-Err.ensures.many (ap (λ s. Err s) e) rule theory is each)

pub returns-in-Ok-clause-collected : goal.returns-in-Ok-clause-collected
returns-in-Ok-clause-collected c =
    let old = c.args.symbols.now in
    let mid = c.gather_elements.new.symbols in
    let atoms = atoms_in c.args.symbols.now c.args.index.now in
    let given = c.args.values.now in
    let known = by_recursion (λ (v : HeldValue). IsKnown (length c.args.symbols.now) (Some v)) c.args.values.now c.requires.values in
    let same = values-front old mid c.args.values.now c.in-Ok.ensures.kept known in
    ok_along c.with_elements.result _ _ c.with_elements.ensures.collected
    (λ atom h rule theory is each.
    subst (λ (vs : List Value). IsAtomIn c.with_elements.new.symbols (IsMember (atoms_in c.args.symbols.now c.args.index.now)) rule vs theory atom) same
    (h atoms rule theory is each
    (subst (λ (vs : List Value). IsWhole c.gather_elements.new.symbols (IsMember (atoms_in c.args.symbols.now c.args.index.now)) rule vs theory c.in-Ok.gathered) (sym same)
    (c.in-Ok.ensures.gathered rule theory is each))))

pub returns-in-Ok-clause-stop : goal.returns-in-Ok-clause-stop
returns-in-Ok-clause-stop c =
    let old = c.args.symbols.now in
    let mid = c.gather_elements.new.symbols in
    let atoms = atoms_in c.args.symbols.now c.args.index.now in
    let known = by_recursion (λ (v : HeldValue). IsKnown (length c.args.symbols.now) (Some v)) c.args.values.now c.requires.values in
    let same = values-front old mid c.args.values.now c.in-Ok.ensures.kept known in
    err_along c.with_elements.result _ _ c.with_elements.ensures.stop
    (λ stop h rule theory is each.
    subst (λ (vs : List Value). IsStopOf (IsMember (atoms_in c.args.symbols.now c.args.index.now)) rule vs theory c.args.most stop) same
    (h atoms c.args.most rule theory is each
    (subst (λ (vs : List Value). IsWhole c.gather_elements.new.symbols (IsMember (atoms_in c.args.symbols.now c.args.index.now)) rule vs theory c.in-Ok.gathered) (sym same)
    (c.in-Ok.ensures.gathered rule theory is each))))
