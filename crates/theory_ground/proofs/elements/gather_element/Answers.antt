use Rattle.std.proofs.Common.{◌≡◌, List, map, length, Some, Err, Result, sym, ◌∙◌, ap, subst}
use Rattle.std.specs.List.{AllByRecursion}
use Rattle.std.proofs.lemmas.List.{length-map}
use Rattle.syntax_tree.specs.declared.binding.Value.{Value as HeldValue}
use Rattle.syntax_tree.specs.Outcome.{IsKnown}
use Rattle.program_meaning.specs.Said.{value_in}
use Rattle.program_meaning.specs.Substitution.{Value}
use Rattle.row_bindings.proofs.HeldLemmas.{values-front}
use Rattle.row_tests.specs.Judged.{atoms_in}
use Rattle.instance_plans.specs.Plans.{element_read}
use Rattle.instance_search.specs.declared.found.Row.{Row}
use Rattle.instance_search.specs.Found.{plan_rows, rows_in}
use Rattle.instance_search.proofs.StartLemmas.{atoms_apart}
use Rattle.theory_ground.specs.inner.Rows.{HasFlag, HasAll, IsSomeRowOver}
use Rattle.theory_ground.proofs.RowLemmas.{by_recursion}
use Rattle.theory_ground.proofs.PartLemmas.{plan_is, plan_rows_are, row_lengths}
use Rattle.theory_ground.proofs.elements.gather_element.Goals as goal

pub gather_rows-requires-clause-lengths : goal.gather_rows-requires-clause-lengths
gather_rows-requires-clause-lengths c =
    let old = c.args.symbols.now in
    let atoms = atoms_in c.args.symbols.now c.args.index.now in
    let given = by_recursion (λ (v : HeldValue). IsKnown (length c.args.symbols.now) (Some v)) c.args.given.now c.requires.values in
    let are = plan_rows_are (atoms_in c.args.symbols.now c.args.index.now) c.requires.plan.rule (element_read c.args.element.now) c.args.plan.now c.requires.plan.is
    (map (value_in c.args.symbols.now) c.args.given.now) (atoms_apart old c.args.index.now c.symbols_are_distinct.ensures c.requires.index)
    (length-map c.args.given.now (value_in c.args.symbols.now) ∙ c.requires.plan.each) in
    subst (λ (rs : List Row). AllByRecursion (λ row. length row.values ≡ length c.args.plan.now.variables) rs) (sym c.items.ensures)
    (row_lengths c.rows.new.symbols c.args.plan.now (atoms_in c.args.symbols.now c.args.index.now) (map (value_in c.args.symbols.now) c.args.given.now) c.in-Ok.found c.in-Ok.ensures.rows are)

pub gather_rows-requires-clause-flags : goal.gather_rows-requires-clause-flags
gather_rows-requires-clause-flags c =
    let old = c.args.symbols.now in
    let new = c.rows.new.symbols in
    let given = by_recursion (λ (v : HeldValue). IsKnown (length c.args.symbols.now) (Some v)) c.args.given.now c.requires.values in
    let read = element_read c.args.element.now in
    let flags = c.in-Ok.ensures.over _ _ (plan_is c.requires.plan.rule (element_read c.args.element.now) c.args.plan.now c.requires.plan.is) in
    subst (λ (rs : List Row). AllByRecursion (HasFlag c.rows.new.symbols c.args.plan.now (map (value_in c.rows.new.symbols) c.args.given.now)) rs) (sym c.items.ensures)
    (subst (λ (vs : List Value). AllByRecursion (HasFlag c.rows.new.symbols c.args.plan.now vs) c.in-Ok.found) (sym (values-front old new c.args.given.now c.in-Ok.ensures.kept given)) flags)

pub returns-in-Ok-gather_rows-clause-all : goal.returns-in-Ok-gather_rows-clause-all
returns-in-Ok-gather_rows-clause-all c =
    let old = c.args.symbols.now in
    let new = c.rows.new.symbols in
    let given = by_recursion (λ (v : HeldValue). IsKnown (length c.args.symbols.now) (Some v)) c.args.given.now c.requires.values in
    let rows = ap (λ (rs : List Row). rows_in c.rows.new.symbols rs) c.items.ensures ∙ c.in-Ok.ensures.rows in
    subst (λ (vs : List Value). HasAll c.gather_rows.new.symbols c.args.name (element_read c.args.element.now) c.args.plan.now vs
    (plan_rows (atoms_in c.args.symbols.now c.args.index.now) c.args.plan.now (map (value_in c.args.symbols.now) c.args.given.now)) c.args.gathered.now c.gather_rows.new.gathered)
    (values-front old new c.args.given.now c.in-Ok.ensures.kept given)
    (subst (λ (rs : List (List Value)). HasAll c.gather_rows.new.symbols c.args.name (element_read c.args.element.now) c.args.plan.now (map (value_in c.rows.new.symbols) c.args.given.now) rs
    c.args.gathered.now c.gather_rows.new.gathered) rows c.in-Ok-gather_rows.ensures.all)

pub returns-clause-over : goal.returns-clause-over
returns-clause-over c = λ e.
    let old = c.args.symbols.now in
    let new = c.rows.new.symbols in
    let given = by_recursion (λ (v : HeldValue). IsKnown (length c.args.symbols.now) (Some v)) c.args.given.now c.requires.values in
    let rows = ap (λ (rs : List Row). rows_in c.rows.new.symbols rs) c.items.ensures ∙ c.in-Ok.ensures.rows in
    let stop = c.stop_of_element.ensures.over (stop_is c.stop_of_element.result _ e) in
    let h = c.in-Err-gather_rows.ensures.over (ap (λ s. Err s) stop) in
    subst (λ (vs : List Value). IsSomeRowOver c.args.name (element_read c.args.element.now) c.args.plan.now vs
    (plan_rows (atoms_in c.args.symbols.now c.args.index.now) c.args.plan.now (map (value_in c.args.symbols.now) c.args.given.now))) (values-front old new c.args.given.now c.in-Ok.ensures.kept given)
    (subst (λ (rs : List (List Value)). IsSomeRowOver c.args.name (element_read c.args.element.now) c.args.plan.now (map (value_in c.rows.new.symbols) c.args.given.now) rs) rows h)
  where
    stop_is : {A E : Type 0} (s t : E) → ◌≡◌ {A = Result A E} (Err s) (Err t) → s ≡ t
    stop_is s t e = cc
