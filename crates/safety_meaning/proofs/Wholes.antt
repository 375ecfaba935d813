-- Rules in another order have the same variables, the same objective and the same limits.
use Rattle.std.proofs.Common.{◌≡◌, ℕ, ℤ, List, refl, sym, ◌∙◌, subst}
use Rattle.std.specs.List.{AllZip}
use Rattle.std.specs.declared.cmp.Ordering.{Ordering}
use Rattle.symbols.specs.Symbol.{Symbol}
use Rattle.symbols.specs.declared.ends.Ends.{Ends}
use Rattle.syntax_tree.specs.declared.literal.TheoryName.{TheoryName}
use Rattle.syntax_tree.specs.declared.literal.TheoryName.TheVariants as name
use Rattle.ground_model.specs.Rule.{PlaceOf}
use Rattle.ground_model.specs.Sound.{most}
use Rattle.program_meaning.specs.Read.{ReadTheory, ReadHead, ReadNothing, ReadAtom, ReadDuty, ReadChoose, ReadRule}
use Rattle.program_meaning.specs.Ascending.{IsOrderedListOf}
use Rattle.program_meaning.specs.Theory.{place_cmp}
use Rattle.program_meaning.specs.Instance.{IsPossible}
use Rattle.program_meaning.specs.Tuples.{theories}
use Rattle.program_meaning.specs.Canonical.{IsVariable, IsDirected}
use Rattle.program_meaning.specs.Models.{IsObjective}
use Rattle.program_meaning.specs.Outside.{most_variables, IsDirectedVariable, HasLargeObjective, ManyTuples, ManyVariables, LargeDifference, IsWithinLimits}
use Rattle.safety_meaning.specs.Reordered.{IsSameTheory, IsSameHead, IsReordered}
use Rattle.safety_meaning.specs.Laws.{VariableLaw, ObjectiveLaw, LimitsLaw}
use Rattle.safety_meaning.proofs.Truths.{zip_member}
use Rattle.safety_meaning.proofs.Reordering.{possible_law, relevant_of_kept, all_turned}
use Rattle.safety_meaning.proofs.Counting.{theories_zip, count_law}
use Rattle.safety_meaning.proofs.Outer.{exceeds_by, tuple_kept, variable_kept, somehow_kept}

duty_found : (one other : ReadHead) (theory : ReadTheory) → IsSameHead one other → one ≡ ReadDuty theory → (more : ReadTheory) × (other ≡ ReadDuty more) × IsSameTheory theory more
duty_found ReadNothing ReadNothing theory h e = absurd cc
duty_found (ReadAtom one) (ReadAtom other) theory h e = absurd cc
duty_found (ReadDuty one) (ReadDuty other) theory h e = let same : one ≡ theory = cc in (other, refl, subst (λ t. IsSameTheory t other) same h)
duty_found (ReadChoose left elements right) (ReadChoose low others high) theory h e = absurd cc
duty_found one other theory h e = absurd h

pub ordered_by : {X : Type 0} (order : X → X → Ordering) (P Q : X → Type 0) (xs : List X) → ((x : X) → P x → Q x) → ((x : X) → Q x → P x) → IsOrderedListOf order P xs → IsOrderedListOf order Q xs
ordered_by order P Q xs f g h = record { ascend = h.ascend; all = λ x. ((λ m. f x ((h.all x).0 m)), (λ q. (h.all x).1 (g x q))) }

module _ (rules others : List ReadRule) (zip : AllZip IsReordered rules others) where
  pub is_variable_kept : (x : Symbol) → IsVariable rules x → IsVariable others x
  is_variable_kept x h =
      let r = relevant_of_kept rules others zip h.0 h.1 h.3.relevant in
      let t = zip_member IsSameTheory (theories h.1) (theories r.0) h.2 (theories_zip h.1 r.0 r.2) h.3.member in (
        h.0,
        r.0,
        t.0,
        record {
          relevant = r.1;
          member = t.1;
          other = λ e. h.3.other (t.2.name ∙ e);
          occurs = variable_kept (IsPossible rules) (IsPossible others) (λ a p. (possible_law rules others zip a).0 p) (λ a p. (possible_law rules others zip a).1 p)
              h.1 r.0 r.2 h.0.values h.2 t.0 t.2 x h.3.occurs;
        },
      )

  pub directed_kept : (directive : TheoryName) (place : PlaceOf Symbol) → IsDirected rules directive place → IsDirected others directive place
  directed_kept directive place h =
      let r = relevant_of_kept rules others zip h.0 h.1 h.3.relevant in
      let t = duty_found h.1.head r.0.head h.2 r.2.head h.3.head in (
        h.0,
        r.0,
        t.0,
        record {
          relevant = r.1;
          head = t.1;
          name = sym t.2.name ∙ h.3.name;
          tuple = tuple_kept (IsPossible rules) (IsPossible others) (λ a p. (possible_law rules others zip a).0 p) (λ a p. (possible_law rules others zip a).1 p)
              h.1 r.0 r.2 h.0.values h.2 t.0 t.2 place h.3.tuple;
        },
      )

  directed_variable_kept : (directive : TheoryName) (x : Symbol) → IsDirectedVariable rules directive x → IsDirectedVariable others directive x
  directed_variable_kept directive x h = (h.0, directed_kept directive h.0 h.1, h.2)

module _ (rules others : List ReadRule) (zip : AllZip IsReordered rules others) where
  pub places_kept : (directive : TheoryName) (places : List (PlaceOf Symbol)) → IsOrderedListOf place_cmp (IsDirected rules directive) places → IsOrderedListOf place_cmp (IsDirected others directive) places
  places_kept directive places h =
      ordered_by place_cmp (IsDirected rules directive) (IsDirected others directive) places (directed_kept rules others zip directive)
      (directed_kept others rules (all_turned rules others zip) directive) h

  objective_kept : (values : Symbol → ℤ) (objective : ℤ) → IsObjective rules values objective → IsObjective others values objective
  objective_kept values objective h = record {
    smaller = h.smaller;
    larger = h.larger;
    minimised = places_kept name.Minimize h.smaller h.minimised;
    maximised = places_kept name.Maximize h.larger h.maximised;
    difference = h.difference;
  }

  large_objective_kept : HasLargeObjective rules → HasLargeObjective others
  large_objective_kept (ManyTuples directive which h) =
      ManyTuples directive which (exceeds_by (IsDirected rules directive) (IsDirected others directive) most (directed_kept rules others zip directive) h)
  large_objective_kept (ManyVariables directive which h) =
      ManyVariables directive which (exceeds_by (IsDirectedVariable rules directive) (IsDirectedVariable others directive) most (directed_variable_kept rules others zip directive) h)
  large_objective_kept (LargeDifference h) = LargeDifference (record {
    smaller = h.smaller;
    larger = h.larger;
    minimised = places_kept name.Minimize h.smaller h.minimised;
    maximised = places_kept name.Maximize h.larger h.maximised;
    large = h.large;
  })

limits_kept : (rules others : List ReadRule) → AllZip IsReordered rules others → (ends : Ends) (limit : ℕ) → IsWithinLimits rules ends limit → IsWithinLimits others ends limit
limits_kept rules others zip ends limit h =
    let back = all_turned rules others zip in
    record {
      count = λ e. h.count ((count_law rules others zip limit).1 e);
      inside = λ key o. h.inside key (somehow_kept others rules back ends key o);
      variables = λ many. h.variables (exceeds_by (IsVariable others) (IsVariable rules) most_variables (is_variable_kept others rules back) many);
      objective = λ large. h.objective (large_objective_kept others rules back large);
    }

pub variable_law : VariableLaw
variable_law rules others zip x = (is_variable_kept rules others zip x, is_variable_kept others rules (all_turned rules others zip) x)

pub objective_law : ObjectiveLaw
objective_law rules others zip values objective = (objective_kept rules others zip values objective, objective_kept others rules (all_turned rules others zip) values objective)

pub limits_law : LimitsLaw
limits_law rules others zip ends limit = (limits_kept rules others zip ends limit, limits_kept others rules (all_turned rules others zip) ends limit)
