-- Theory atoms in collected form as parts of ground rules.
use Rattle.std.proofs.Common.{◌≡◌, true, ℤ, List, [], ◌∷◌, ◌++◌, map, Option, None, Some, refl, sym, ap, ◌∙◌, subst, true≢false}
use Rattle.std.specs.List.{flat_map}
use Rattle.symbols.specs.declared.rel.Rel.{Rel}
use Rattle.symbols.specs.Symbol.{Symbol}
use Rattle.syntax_tree.specs.declared.literal.Guard.{Guard}
use Rattle.syntax_tree.specs.declared.literal.TheoryName.{TheoryName}
use Rattle.syntax_tree.specs.declared.literal.TheoryName.TheVariants as name
use Rattle.syntax_tree.specs.Outcome.{Outcome}
use Rattle.ground_model.specs.Rule.{LinearOf, PlaceOf, HeadOf}
use Rattle.program_meaning.specs.Read.{ReadTheory, ReadLiteral, ReadPlain, ReadTold, ReadRule}
use Rattle.program_meaning.specs.Ground.{is_relation, GuardAs, DutyAs}
use Rattle.program_meaning.specs.Instance.{bound_in, IsPossible}
use Rattle.program_meaning.specs.Substitution.{Value}
use Rattle.program_meaning.specs.Tuples.{told_in, duty_in}
use Rattle.theory_laws.specs.Collecting.{IsGuard, IsCollected}
use Rattle.groundable_rules.specs.Groundable.{is_guarded}
use Rattle.instance_laws.specs.Making.{told_in_order, IsDutyFrom}
use Rattle.instance_laws.specs.Laws.{TheoriesLaw, ToldLaw, GuardedLaw, RelationLaw, DutyLaw}

told_theories : (literals : List ReadLiteral) → flat_map told_in literals ≡ map (λ told. told.0) (told_in_order literals)
told_theories [] = refl
told_theories (ReadPlain literal ∷ literals) = told_theories literals
told_theories (ReadTold theory sign ∷ literals) = ap (λ rest. theory ∷ rest) (told_theories literals)

pub theories_law : TheoriesLaw
theories_law rule = ap (λ told. told ++ duty_in rule.head) (told_theories rule.body)

pub told_law : ToldLaw
told_law rules rule values [] [] z = refl
told_law rules rule values [] (lit ∷ lits) z = absurd z
told_law rules rule values (ReadPlain literal ∷ literals) lits z = told_law rules rule values literals lits z
told_law rules rule values (ReadTold theory sign ∷ literals) [] z = absurd z
told_law rules rule values (ReadTold theory sign ∷ literals) (lit ∷ lits) z =
    (z.0.0, lits, ap (λ l. l ∷ lits) z.0.2, z.0.1, told_law rules rule values literals lits z.1)

no_guard : (bound : List Outcome) (guard : Option Guard) → IsGuard bound guard None → is_guarded guard ≡ true → ⊥
no_guard bound None g e = true≢false (sym e)
no_guard bound (Some guard) g e = g

pub guarded_law : GuardedLaw
guarded_law rules rule values theory places intervals is e = no_guard (bound_in rule values) theory.guard is.guard e

guard_as : (bound : List Outcome) (guard : Option Guard) (rel : Rel) (right : LinearOf Symbol) → IsGuard bound guard (Some (rel, right)) → GuardAs bound guard rel right
guard_as bound None rel right g = g
guard_as bound (Some guard) rel right g = g

not_domain : (kind : TheoryName) → is_relation kind ≡ true → kind ≡ name.Dom → ⊥
not_domain kind e d = true≢false (sym e ∙ ap is_relation d)

pub relation_law : RelationLaw
relation_law rules rule values theory places intervals rel right is e = record {
  name = e;
  tuples = is.tuples (not_domain theory.name e);
  guard = guard_as (bound_in rule values) theory.guard rel right is.guard;
}

module _ (rules : List ReadRule) (rule : ReadRule) (values : List Value) (theory : ReadTheory) (places : List (PlaceOf Symbol)) (intervals : List (ℤ × ℤ)) where
  duty_at : (guard : Option (Rel × LinearOf Symbol)) (head : HeadOf Symbol Symbol) → IsCollected (IsPossible rules) rule values theory places intervals guard
      → (kind : TheoryName) → theory.name ≡ kind → IsDutyFrom kind places intervals guard head → DutyAs (IsPossible rules) rule values theory kind head
  duty_at (Some guard) head is name.Sum e d = (_, relation_law rules rule values theory places intervals guard.0 guard.1 is (ap is_relation e), d)
  duty_at (Some guard) head is name.Diff e d = (_, relation_law rules rule values theory places intervals guard.0 guard.1 is (ap is_relation e), d)
  duty_at (Some guard) head is name.Dom e d =
      let domain = is.domain e in (
        intervals,
        d.0,
        record {
          parted = domain.parted;
          integers = domain.integers;
          guard = (guard.0, subst (GuardAs (bound_in rule values) theory.guard guard.0) d.1 (guard_as (bound_in rule values) theory.guard guard.0 guard.1 is.guard));
        },
        d.2,
      )
  duty_at None head is name.Sum e d = absurd d
  duty_at None head is name.Diff e d = absurd d
  duty_at None head is name.Dom e d = absurd d
  duty_at guard head is name.Distinct e d = (places, is.tuples (λ f. differ (sym e ∙ f)), d)
    where
      differ : name.Distinct ≡ name.Dom → ⊥
      differ f = cc
  duty_at guard head is name.Disjoint e d = (places, is.tuples (λ f. differ (sym e ∙ f)), d)
    where
      differ : name.Disjoint ≡ name.Dom → ⊥
      differ f = cc
  duty_at guard head is name.Minimize e d = absurd d
  duty_at guard head is name.Maximize e d = absurd d
  duty_at guard head is name.Show e d = absurd d
  duty_at guard head is name.Unknown e d = absurd d

pub duty_law : DutyLaw
duty_law rules rule values theory places intervals guard head is d = duty_at rules rule values theory places intervals guard head is theory.name refl d
