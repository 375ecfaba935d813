-- Pairs of ids and coefficients. Only the code of this crate reads this file.
use Rattle.std.specs.Prelude.{◌||◌, ◌&&◌, ℕ, Bool, false, ℤ, List, map, length, All, Option, None, Some}
use Rattle.std.specs.List.{list_all}
use Rattle.symbols.specs.Symbol.{Symbol}
use Rattle.symbols.specs.Order.{symbol_cmp}
use Rattle.ground_model.specs.Sound.{is_small}
use Rattle.ground_model.specs.Rule.{LinearOf}
use Rattle.syntax_tree.specs.Arithmetic.{is_zero}
use Rattle.syntax_tree.specs.Outcome.{Outcome}
use Rattle.syntax_tree.specs.declared.term.Op.{Op}
use Rattle.syntax_tree.specs.declared.term.Op.TheVariants as op
use Rattle.syntax_tree.specs.declared.term.Part.{Part}
use Rattle.syntax_tree.specs.declared.term.Term.TheFolds.{fold-Part}
use Rattle.program_meaning.specs.Collected.{Collected, collected_step, holds_variable}
use Rattle.program_meaning.specs.Ascending.{Ascends}
use Rattle.program_meaning.specs.Said.{pair_in, IsKnownPair}
use Rattle.collected_terms.specs.declared.collected_term.CollectedTerm.{CollectedTerm}
use Rattle.collected_terms.specs.Found.{IsTermOf, IsKnownForm}

-- the coefficients are small
abbrev pub all_small : List (Symbol × ℤ) → Bool
all_small pairs = list_all (λ pair. is_small pair.1) pairs

-- variables of the table, in order, with small coefficients
pub record AreKnown (symbols : List Symbol) (pairs : List (ℕ × ℤ)) : Type 0 where
  pub each : All (IsKnownPair (length symbols)) pairs
  pub rise : Ascends (λ a b. symbol_cmp a.0 b.0) (map (pair_in symbols) pairs)

-- an operation on two forms has no form: whether each holds a variable, and whether the second is 0
abbrev pub is_crooked_with : Op → Bool → Bool → Bool → Bool
is_crooked_with op.Plus first second none = false
is_crooked_with op.Minus first second none = false
is_crooked_with op.Times first second none = first && second
is_crooked_with op.Divide first second none = first || second || none
is_crooked_with op.Remainder first second none = first || second || none

-- the form of an operation holds a variable
abbrev pub holds_with : Op → Bool → Bool → Bool
holds_with op.Plus first second = first || second
holds_with op.Minus first second = first || second
holds_with op.Times first second = first || second
holds_with op.Divide first second = false
holds_with op.Remainder first second = false

abbrev pub is_crooked_by : Op → LinearOf Symbol → LinearOf Symbol → Bool
is_crooked_by op a b = is_crooked_with op (holds_variable a) (holds_variable b) (is_zero b.constant)

-- a part's sign, and its term as it is collected
abbrev pub part_collected : List Outcome → Part → Op × Collected
part_collected bound = fold-Part Collected (Op × Collected) (collected_step bound) (λ part. (part.op, part.term))

-- the parts so far, as they are collected
abbrev pub IsSoFar : List Symbol → Option CollectedTerm → Option Collected → Type 0
IsSoFar symbols None None = Unit {0}
IsSoFar symbols (Some found) (Some term) = IsTermOf symbols found term
IsSoFar symbols found term = ⊥

abbrev pub IsKnownSoFar : List Symbol → Option CollectedTerm → Type 0
IsKnownSoFar symbols None = Unit {0}
IsKnownSoFar symbols (Some found) = IsKnownForm symbols found.form
