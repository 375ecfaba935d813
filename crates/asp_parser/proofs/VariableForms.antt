-- Terms with their constants as variables, form by form, and the rules on terms.
use Rattle.std.proofs.Common.{◌≡◌, ℕ, ◌+◌, ℤ, Bool, true, false, ◌&&◌, IsTrue, List, [], ◌∷◌, map, Option, Some, None, if◌then◌else◌, refl, sym, ap, ◌∙◌, subst}
use Rattle.std.specs.List.{list_all, AllByRecursion}
use Rattle.syntax_tree.specs.declared.term.Op.{Op}
use Rattle.syntax_tree.specs.declared.term.Part.{Part}
use Rattle.syntax_tree.specs.declared.term.Term.{Term, roll-Term}
use Rattle.syntax_tree.specs.declared.term.Term.TheOpen.{Term-F}
use Rattle.syntax_tree.specs.declared.term.Term.TheFolds.{fold-roll-Term, fold-roll-Part}
use Rattle.syntax_tree.specs.declared.term.Term.TheVariants as t
use Rattle.syntax_tree.specs.declared.term.Term.TheViews.{out-Part, roll-out-Part}
use Rattle.syntax_tree.specs.Tree.{is_name, is_term, is_part, are_parts, begins_sum, adds, begins_product, multiplies}
use Rattle.syntax_tree.proofs.TreeRules.{number_rules, variable_rules, anonymous_rules, function_rules, tuple_rules, sum_rules, product_rules, minus_rules, interval_rules, one_part}
use Rattle.asp_parser.specs.Replacement.{Constants, part_step}
use Rattle.asp_parser.specs.ConstantTable.{number_at, variable_or_name, name_as_variable, variable_step, as_variables, part_as_variables}
use Rattle.asp_parser.proofs.Terms.{Passes, every_term, truths, both, left, right, all_stay}

module _ (constants : Constants) where
  abbrev step : Term-F Term Part → Term
  step = variable_step constants

  pub as_number : (n : ℤ) → as_variables constants (t.Number n) ≡ t.Number n
  unfolding roll-Term denote.Hole.Carrier.roll
  as_number n = fold-roll-Term Term Part step part_step (Term-F.Number n)

  pub as_text : (text : List ℕ) → as_variables constants (t.Text text) ≡ t.Text text
  unfolding roll-Term denote.Hole.Carrier.roll
  as_text text = fold-roll-Term Term Part step part_step (Term-F.Text text)

  pub as_variable : (n : ℕ) → as_variables constants (t.Variable n) ≡ t.Anonymous
  unfolding roll-Term denote.Hole.Carrier.roll
  as_variable n = fold-roll-Term Term Part step part_step (Term-F.Variable n)

  pub as_anonymous : as_variables constants t.Anonymous ≡ t.Anonymous
  unfolding roll-Term denote.Hole.Carrier.roll
  as_anonymous = fold-roll-Term Term Part step part_step Term-F.Anonymous

  pub as_function : (name : List ℕ) (args : List Term) → as_variables constants (t.Function name args) ≡ name_as_variable constants name (map (as_variables constants) args)
  unfolding roll-Term denote.Hole.Carrier.roll
  as_function name args = fold-roll-Term Term Part step part_step (Term-F.Function name args)

  pub as_tuple : (args : List Term) → as_variables constants (t.Tuple args) ≡ t.Tuple (map (as_variables constants) args)
  unfolding roll-Term denote.Hole.Carrier.roll
  as_tuple args = fold-roll-Term Term Part step part_step (Term-F.Tuple args)

  pub as_sum : (parts : List Part) → as_variables constants (t.Sum parts) ≡ t.Sum (map (part_as_variables constants) parts)
  unfolding roll-Term denote.Hole.Carrier.roll
  as_sum parts = fold-roll-Term Term Part step part_step (Term-F.Sum parts)

  pub as_product : (parts : List Part) → as_variables constants (t.Product parts) ≡ t.Product (map (part_as_variables constants) parts)
  unfolding roll-Term denote.Hole.Carrier.roll
  as_product parts = fold-roll-Term Term Part step part_step (Term-F.Product parts)

  pub as_minus : (inner : Term) → as_variables constants (t.Minus inner) ≡ t.Minus (as_variables constants inner)
  unfolding roll-Term denote.Hole.Carrier.roll
  as_minus inner = fold-roll-Term Term Part step part_step (Term-F.Minus inner)

  pub as_interval : (l r : Term) → as_variables constants (t.Interval l r) ≡ t.Interval (as_variables constants l) (as_variables constants r)
  unfolding roll-Term denote.Hole.Carrier.roll
  as_interval l r = fold-roll-Term Term Part step part_step (Term-F.Interval l r)

  pub as_part : (part : Part) → part_as_variables constants part ≡ record { op = part.op; term = as_variables constants part.term }
  as_part part = ap (part_as_variables constants) (sym (roll-out-Part part)) ∙ fold-roll-Part Term Part step part_step (out-Part part)

-- TREES

abbrev Stays : (Term → Term) → Term → Type 0
Stays f term = IsTrue (is_term term) → IsTrue (is_term (f term))

module _ (constants : Constants) where
  -- a part's sign stays
  part_stays : (part : Part) → is_part (part_as_variables constants part) ≡ (part.op, is_term (as_variables constants part.term))
  part_stays part = ap is_part (as_part constants part) ∙ one_part (record { op = part.op; term = as_variables constants part.term })

  further_stay : (further : Op → Bool) (parts : List Part) → AllByRecursion (λ part. Stays (as_variables constants) part.term) parts
      → IsTrue (list_all (λ p. further p.0 && p.1) (map is_part parts)) → IsTrue (list_all (λ p. further p.0 && p.1) (map is_part (map (part_as_variables constants) parts)))
  further_stay further [] known h = refl
  further_stay further (x ∷ xs) known h =
      let old : IsTrue (further x.op && is_term x.term) = subst (λ p. IsTrue (further p.0 && p.1)) (one_part x) (left (further (is_part x).0 && (is_part x).1) _ h) in
      both (further (is_part (part_as_variables constants x)).0 && (is_part (part_as_variables constants x)).1) _
      (subst (λ p. IsTrue (further p.0 && p.1)) (sym (part_stays x)) (both (further x.op) _ (left (further x.op) _ old) (known.0 (right (further x.op) _ old))))
      (further_stay further xs known.1 (right (further (is_part x).0 && (is_part x).1) _ h))

  parts_stay : (first further : Op → Bool) (parts : List Part) → AllByRecursion (λ part. Stays (as_variables constants) part.term) parts
      → IsTrue (are_parts first further (map is_part parts)) → IsTrue (are_parts first further (map is_part (map (part_as_variables constants) parts)))
  parts_stay first further [] known h = absurd cc
  parts_stay first further (x ∷ xs) known h =
      let old : IsTrue (first x.op && is_term x.term) = subst (λ p. IsTrue (first p.0 && p.1)) (one_part x) (left (first (is_part x).0 && (is_part x).1) _ h) in
      both (first (is_part (part_as_variables constants x)).0 && (is_part (part_as_variables constants x)).1) _
      (subst (λ p. IsTrue (first p.0 && p.1)) (sym (part_stays x)) (both (first x.op) _ (left (first x.op) _ old) (known.0 (right (first x.op) _ old))))
      (further_stay further xs known.1 (right (first (is_part x).0 && (is_part x).1) _ h))

  name_stays : (name : List ℕ) → IsTrue (is_name name) → (o : Option ℕ) → IsTrue (is_term (variable_or_name name o))
  name_stays name h None = function_rules name [] ∙ both (is_name name) true h refl
  name_stays name h (Some number) = variable_rules number

  function_stays : (name : List ℕ) (args : List Term) → AllByRecursion (Stays (as_variables constants)) args
      → IsTrue (is_name name && truths (map is_term args)) → IsTrue (is_term (name_as_variable constants name (map (as_variables constants) args)))
  function_stays name [] known h = name_stays name (left (is_name name) _ h) (number_at constants name)
  function_stays name (x ∷ xs) known h =
      function_rules name (as_variables constants x ∷ map (as_variables constants) xs)
      ∙ both (is_name name) _ (left (is_name name) _ h) (all_stay is_term (as_variables constants) (x ∷ xs) known (right (is_name name) _ h))

  abbrev StaysTree : Term → Type 0
  StaysTree = Stays (as_variables constants)

  stays : Passes StaysTree
  stays = record {
    number = λ n h. ap is_term (as_number constants n) ∙ number_rules n;
    text = λ text h. ap is_term (as_text constants text) ∙ h;
    variable = λ n h. ap is_term (as_variable constants n) ∙ anonymous_rules;
    anonymous = λ h. ap is_term (as_anonymous constants) ∙ h;
    function = λ name args known h. ap is_term (as_function constants name args) ∙ function_stays name args known (sym (function_rules name args) ∙ h);
    tuple = λ args known h. ap is_term (as_tuple constants args) ∙ tuple_rules (map (as_variables constants) args) ∙ all_stay is_term (as_variables constants) args known (sym (tuple_rules args) ∙ h);
    sum = λ parts known h. ap is_term (as_sum constants parts) ∙ sum_rules (map (part_as_variables constants) parts) ∙ parts_stay begins_sum adds parts known (sym (sum_rules parts) ∙ h);
    product = λ parts known h. ap is_term (as_product constants parts) ∙ product_rules (map (part_as_variables constants) parts) ∙ parts_stay begins_product multiplies parts known (sym (product_rules parts) ∙ h);
    minus = λ inner known h. ap is_term (as_minus constants inner) ∙ minus_rules (as_variables constants inner) ∙ known (sym (minus_rules inner) ∙ h);
    interval = λ l r known_l known_r h.
        ap is_term (as_interval constants l r) ∙ interval_rules (as_variables constants l) (as_variables constants r)
        ∙ both (is_term (as_variables constants l)) _ (known_l (left (is_term l) _ (sym (interval_rules l r) ∙ h))) (known_r (right (is_term l) _ (sym (interval_rules l r) ∙ h)));
  }

  -- a term whose constants are variables keeps the rules on terms
  pub variables_stay : (term : Term) → IsTrue (is_term term) → IsTrue (is_term (as_variables constants term))
  variables_stay = every_term StaysTree stays
