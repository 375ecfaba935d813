-- Theory atoms that stand where they may.
use Rattle.std.proofs.Common.{◌≡◌, true, false, List, Option, Some, None, refl}
use Rattle.symbols.specs.declared.rel.Rel.{Rel}
use Rattle.syntax_tree.specs.declared.literal.Guard.{Guard}
use Rattle.syntax_tree.specs.declared.literal.TheoryName.{TheoryName}
use Rattle.syntax_tree.specs.declared.literal.TheoryName.TheVariants as name
use Rattle.grammar.specs.Check.{is_unknown, is_literal, is_bad_guard}
use Rattle.program_meaning.specs.Read.{ReadElement}
use Rattle.groundable_rules.specs.Groundable.{is_guarded, may_be_told, may_be_duty}

-- there is a guard where the form has a relation
abbrev pub IsGuardOf : Option Rel → Option Guard → Type 0
IsGuardOf None guard = is_guarded guard ≡ false
IsGuardOf (Some r) guard = is_guarded guard ≡ true

pub told_where : (n : TheoryName) (r : Option Rel) (guard : Option Guard) (elements : List ReadElement) → IsGuardOf r guard → is_literal n ≡ true → is_bad_guard n r ≡ false
    → may_be_told (record { name = n; elements = elements; guard = guard }) ≡ true
told_where name.Sum None guard elements g l b = absurd cc
told_where name.Sum (Some r) guard elements g l b = g
told_where name.Diff None guard elements g l b = absurd cc
told_where name.Diff (Some r) guard elements g l b = g
told_where name.Distinct r guard elements g l b = absurd cc
told_where name.Disjoint r guard elements g l b = absurd cc
told_where name.Dom r guard elements g l b = absurd cc
told_where name.Minimize r guard elements g l b = absurd cc
told_where name.Maximize r guard elements g l b = absurd cc
told_where name.Show r guard elements g l b = absurd cc
told_where name.Unknown r guard elements g l b = absurd cc

pub duty_where : (n : TheoryName) (r : Option Rel) (guard : Option Guard) (elements : List ReadElement) → IsGuardOf r guard → is_unknown n ≡ false → is_bad_guard n r ≡ false
    → may_be_duty (record { name = n; elements = elements; guard = guard }) ≡ true
duty_where name.Sum None guard elements g l b = absurd cc
duty_where name.Sum (Some r) guard elements g l b = g
duty_where name.Diff None guard elements g l b = absurd cc
duty_where name.Diff (Some r) guard elements g l b = g
duty_where name.Distinct r guard elements g l b = refl
duty_where name.Disjoint r guard elements g l b = refl
duty_where name.Dom None guard elements g l b = absurd cc
duty_where name.Dom (Some r) guard elements g l b = g
duty_where name.Minimize r guard elements g l b = refl
duty_where name.Maximize r guard elements g l b = refl
duty_where name.Show r guard elements g l b = refl
duty_where name.Unknown r guard elements g l b = absurd cc
