-- What occurs in a piece of a rule is what its list of variables has.
use Rattle.std.proofs.Common.{◌≡◌, ℕ, ℤ, ◌==◌, Bool, true, false, ◌||◌, List, [], ◌∷◌, ◌++◌, map, Option, None, Some, refl, sym, ap, ◌∙◌}
use Rattle.std.specs.List.{flat_map, list_any, AllByRecursion}
use Rattle.syntax_tree.specs.declared.term.Part.{Part}
use Rattle.syntax_tree.specs.declared.term.Term.{Term, roll-Term}
use Rattle.syntax_tree.specs.declared.term.Term.TheOpen.{Term-F}
use Rattle.syntax_tree.specs.declared.term.Term.TheFolds.{fold-Part, fold-roll-Term, fold-roll-Part}
use Rattle.syntax_tree.specs.declared.term.Term.TheVariants as t
use Rattle.syntax_tree.specs.declared.term.Term.TheViews.{out-Part, roll-out-Part}
use Rattle.syntax_tree.specs.declared.literal.Guard.{Guard}
use Rattle.program_meaning.specs.Read.{PlainLiteral, PlainAtom, PlainCompare, ReadElement, ReadLiteral, ReadPlain, ReadTold, ReadChoice, ReadHead, ReadNothing, ReadAtom, ReadDuty, ReadChoose, ReadRule}
use Rattle.program_meaning.specs.Variables.{any_part, occurs, occurs_step, occurs_outside, occurs_in, occurs_in_guard, occurs_in_option, occurs_in_element, occurs_in_choice, occurs_in_literal, occurs_in_head, is_global}
use Rattle.program_meaning.proofs.Layers
use Rattle.program_meaning.proofs.Terms.{Passes, every_term}
use Rattle.variable_safety.specs.inner.Occurring.{joined, in_part, variables_step, variables_in, variables_in_part, outside_step, outside_in, variables_of, guard_variables, optional_variables, element_variables, choice_variables, literal_variables, head_variables, global_variables}
use Rattle.variable_safety.proofs.Lists.{any_append, any_flat, any_alike, any_joined}

abbrev L : Type 0
L = List ℕ

-- ---- lists of variables by form

variables-Number : (n : ℤ) → variables_in (t.Number n) ≡ []
unfolding roll-Term denote.Hole.Carrier.roll
variables-Number n = fold-roll-Term L L variables_step in_part (Term-F.Number n)

variables-Text : (text : List ℕ) → variables_in (t.Text text) ≡ []
unfolding roll-Term denote.Hole.Carrier.roll
variables-Text text = fold-roll-Term L L variables_step in_part (Term-F.Text text)

variables-Variable : (n : ℕ) → variables_in (t.Variable n) ≡ n ∷ []
unfolding roll-Term denote.Hole.Carrier.roll
variables-Variable n = fold-roll-Term L L variables_step in_part (Term-F.Variable n)

variables-Anonymous : variables_in t.Anonymous ≡ []
unfolding roll-Term denote.Hole.Carrier.roll
variables-Anonymous = fold-roll-Term L L variables_step in_part Term-F.Anonymous

variables-Function : (name : List ℕ) (args : List Term) → variables_in (t.Function name args) ≡ joined (map variables_in args)
unfolding roll-Term denote.Hole.Carrier.roll
variables-Function name args = fold-roll-Term L L variables_step in_part (Term-F.Function name args)

variables-Tuple : (args : List Term) → variables_in (t.Tuple args) ≡ joined (map variables_in args)
unfolding roll-Term denote.Hole.Carrier.roll
variables-Tuple args = fold-roll-Term L L variables_step in_part (Term-F.Tuple args)

variables-Sum : (parts : List Part) → variables_in (t.Sum parts) ≡ joined (map variables_in_part parts)
unfolding roll-Term denote.Hole.Carrier.roll
variables-Sum parts = fold-roll-Term L L variables_step in_part (Term-F.Sum parts)

variables-Product : (parts : List Part) → variables_in (t.Product parts) ≡ joined (map variables_in_part parts)
unfolding roll-Term denote.Hole.Carrier.roll
variables-Product parts = fold-roll-Term L L variables_step in_part (Term-F.Product parts)

variables-Minus : (inner : Term) → variables_in (t.Minus inner) ≡ variables_in inner
unfolding roll-Term denote.Hole.Carrier.roll
variables-Minus inner = fold-roll-Term L L variables_step in_part (Term-F.Minus inner)

variables-Interval : (left right : Term) → variables_in (t.Interval left right) ≡ variables_in left ++ variables_in right
unfolding roll-Term denote.Hole.Carrier.roll
variables-Interval left right = fold-roll-Term L L variables_step in_part (Term-F.Interval left right)

variables-Part : (part : Part) → variables_in_part part ≡ variables_in part.term
variables-Part part = ap variables_in_part (sym (roll-out-Part part)) ∙ fold-roll-Part L L variables_step in_part (out-Part part)

outside-Variable : (n : ℕ) → outside_in (t.Variable n) ≡ n ∷ []
unfolding roll-Term denote.Hole.Carrier.roll
outside-Variable n = fold-roll-Term L L outside_step in_part (Term-F.Variable n)

outside-Function : (name : List ℕ) (args : List Term) → outside_in (t.Function name args) ≡ joined (map outside_in args)
unfolding roll-Term denote.Hole.Carrier.roll
outside-Function name args = fold-roll-Term L L outside_step in_part (Term-F.Function name args)

outside-Tuple : (args : List Term) → outside_in (t.Tuple args) ≡ joined (map outside_in args)
unfolding roll-Term denote.Hole.Carrier.roll
outside-Tuple args = fold-roll-Term L L outside_step in_part (Term-F.Tuple args)

outside-Number : (n : ℤ) → outside_in (t.Number n) ≡ []
unfolding roll-Term denote.Hole.Carrier.roll
outside-Number n = fold-roll-Term L L outside_step in_part (Term-F.Number n)

outside-Text : (text : List ℕ) → outside_in (t.Text text) ≡ []
unfolding roll-Term denote.Hole.Carrier.roll
outside-Text text = fold-roll-Term L L outside_step in_part (Term-F.Text text)

outside-Anonymous : outside_in (t.Anonymous) ≡ []
unfolding roll-Term denote.Hole.Carrier.roll
outside-Anonymous = fold-roll-Term L L outside_step in_part (Term-F.Anonymous)

outside-Sum : (parts : List Part) → outside_in (t.Sum parts) ≡ []
unfolding roll-Term denote.Hole.Carrier.roll
outside-Sum parts = fold-roll-Term L L outside_step in_part (Term-F.Sum parts)

outside-Product : (parts : List Part) → outside_in (t.Product parts) ≡ []
unfolding roll-Term denote.Hole.Carrier.roll
outside-Product parts = fold-roll-Term L L outside_step in_part (Term-F.Product parts)

outside-Minus : (inner : Term) → outside_in (t.Minus inner) ≡ []
unfolding roll-Term denote.Hole.Carrier.roll
outside-Minus inner = fold-roll-Term L L outside_step in_part (Term-F.Minus inner)

outside-Interval : (left right : Term) → outside_in (t.Interval left right) ≡ []
unfolding roll-Term denote.Hole.Carrier.roll
outside-Interval left right = fold-roll-Term L L outside_step in_part (Term-F.Interval left right)

-- ---- terms

abbrev OccursAlike : ℕ → Term → Type 0
OccursAlike n term = occurs n term ≡ list_any (λ m. m == n) (variables_in term)

one_listed : (n m : ℕ) → (m == n) ≡ list_any (λ k. k == n) (m ∷ [])
one_listed n m = by_test (m == n)
  where
    by_test : (b : Bool) → b ≡ (b || false)
    by_test true = refl
    by_test false = refl

parts_alike : (n : ℕ) (parts : List Part) → AllByRecursion (λ part. OccursAlike n part.term) parts
    → AllByRecursion (λ part. fold-Part Bool Bool (occurs_step n) any_part part ≡ list_any (λ m. m == n) (variables_in_part part)) parts
parts_alike n [] h = tt
parts_alike n (part ∷ parts) h =
    (Layers.occurs-Part n part ∙ h.0 ∙ ap (λ v. list_any (λ m. m == n) v) (sym (variables-Part part)), parts_alike n parts h.1)

occurs_passes : (n : ℕ) → Passes (OccursAlike n)
occurs_passes n = record {
  number = λ k. Layers.occurs-Number n k ∙ ap (λ v. list_any (λ m. m == n) v) (sym (variables-Number k));
  text = λ text. Layers.occurs-Text n text ∙ ap (λ v. list_any (λ m. m == n) v) (sym (variables-Text text));
  variable = λ k. Layers.occurs-Variable n k ∙ one_listed n k ∙ ap (λ v. list_any (λ m. m == n) v) (sym (variables-Variable k));
  anonymous = Layers.occurs-Anonymous n ∙ ap (λ v. list_any (λ m. m == n) v) (sym variables-Anonymous);
  function = λ name args all.
      Layers.occurs-Function n name args ∙ any_joined (λ m. m == n) variables_in (occurs n) args all
      ∙ ap (λ v. list_any (λ m. m == n) v) (sym (variables-Function name args));
  tuple = λ args all.
      Layers.occurs-Tuple n args ∙ any_joined (λ m. m == n) variables_in (occurs n) args all
      ∙ ap (λ v. list_any (λ m. m == n) v) (sym (variables-Tuple args));
  sum = λ parts all.
      Layers.occurs-Sum n parts ∙ any_joined (λ m. m == n) variables_in_part (fold-Part Bool Bool (occurs_step n) any_part) parts (parts_alike n parts all)
      ∙ ap (λ v. list_any (λ m. m == n) v) (sym (variables-Sum parts));
  product = λ parts all.
      Layers.occurs-Product n parts ∙ any_joined (λ m. m == n) variables_in_part (fold-Part Bool Bool (occurs_step n) any_part) parts (parts_alike n parts all)
      ∙ ap (λ v. list_any (λ m. m == n) v) (sym (variables-Product parts));
  minus = λ inner h. Layers.occurs-Minus n inner ∙ h ∙ ap (λ v. list_any (λ m. m == n) v) (sym (variables-Minus inner));
  interval = λ left right h k.
      Layers.occurs-Interval n left right ∙ (λ i. h i || k i) ∙ sym (any_append (λ m. m == n) (variables_in left) (variables_in right))
      ∙ ap (λ v. list_any (λ m. m == n) v) (sym (variables-Interval left right));
}

pub occurs_is : (n : ℕ) (term : Term) → occurs n term ≡ list_any (λ m. m == n) (variables_in term)
occurs_is n = every_term (OccursAlike n) (occurs_passes n)

abbrev OutsideAlike : ℕ → Term → Type 0
OutsideAlike n term = occurs_outside n term ≡ list_any (λ m. m == n) (outside_in term)

outside_passes : (n : ℕ) → Passes (OutsideAlike n)
outside_passes n = record {
  number = λ k. Layers.occurs_outside-Number n k ∙ ap (λ v. list_any (λ m. m == n) v) (sym (outside-Number k));
  text = λ text. Layers.occurs_outside-Text n text ∙ ap (λ v. list_any (λ m. m == n) v) (sym (outside-Text text));
  variable = λ k. Layers.occurs_outside-Variable n k ∙ one_listed n k ∙ ap (λ v. list_any (λ m. m == n) v) (sym (outside-Variable k));
  anonymous = Layers.occurs_outside-Anonymous n ∙ ap (λ v. list_any (λ m. m == n) v) (sym outside-Anonymous);
  function = λ name args all.
      Layers.occurs_outside-Function n name args ∙ any_joined (λ m. m == n) outside_in (occurs_outside n) args all
      ∙ ap (λ v. list_any (λ m. m == n) v) (sym (outside-Function name args));
  tuple = λ args all.
      Layers.occurs_outside-Tuple n args ∙ any_joined (λ m. m == n) outside_in (occurs_outside n) args all
      ∙ ap (λ v. list_any (λ m. m == n) v) (sym (outside-Tuple args));
  sum = λ parts all. Layers.occurs_outside-Sum n parts ∙ ap (λ v. list_any (λ m. m == n) v) (sym (outside-Sum parts));
  product = λ parts all. Layers.occurs_outside-Product n parts ∙ ap (λ v. list_any (λ m. m == n) v) (sym (outside-Product parts));
  minus = λ inner h. Layers.occurs_outside-Minus n inner ∙ ap (λ v. list_any (λ m. m == n) v) (sym (outside-Minus inner));
  interval = λ left right h k. Layers.occurs_outside-Interval n left right ∙ ap (λ v. list_any (λ m. m == n) v) (sym (outside-Interval left right));
}

pub outside_is : (n : ℕ) (term : Term) → occurs_outside n term ≡ list_any (λ m. m == n) (outside_in term)
outside_is n = every_term (OutsideAlike n) (outside_passes n)

-- ---- literals, elements and rules

pub literal_is : (n : ℕ) (literal : PlainLiteral) → occurs_in n literal ≡ list_any (λ m. m == n) (variables_of literal)
literal_is n (PlainAtom term sign) = occurs_is n term
literal_is n (PlainCompare left rel right) =
    (λ i. occurs_is n left i || occurs_is n right i) ∙ sym (any_append (λ m. m == n) (variables_in left) (variables_in right))

condition_is : (n : ℕ) (condition : List PlainLiteral) → list_any (occurs_in n) condition ≡ list_any (λ m. m == n) (flat_map variables_of condition)
condition_is n condition =
    any_alike (occurs_in n) (λ x. list_any (λ m. m == n) (variables_of x)) condition (literal_is n) ∙ sym (any_flat (λ m. m == n) variables_of condition)

terms_are : (n : ℕ) (terms : List Term) → list_any (occurs n) terms ≡ list_any (λ m. m == n) (flat_map variables_in terms)
terms_are n terms =
    any_alike (occurs n) (λ x. list_any (λ m. m == n) (variables_in x)) terms (occurs_is n) ∙ sym (any_flat (λ m. m == n) variables_in terms)

optional_is : (n : ℕ) (term : Option Term) → occurs_in_option n term ≡ list_any (λ m. m == n) (optional_variables term)
optional_is n None = refl
optional_is n (Some term) = occurs_is n term

guard_is : (n : ℕ) (guard : Option Guard) → occurs_in_guard n guard ≡ list_any (λ m. m == n) (guard_variables guard)
guard_is n None = refl
guard_is n (Some guard) = occurs_is n guard.right

or_assoc : (a b c : Bool) → ((a || b) || c) ≡ (a || (b || c))
or_assoc true b c = refl
or_assoc false b c = refl

pub element_is : (n : ℕ) (element : ReadElement) → occurs_in_element n element ≡ list_any (λ m. m == n) (element_variables element)
element_is n element =
    let test : ℕ → Bool = λ m. m == n in
    let a = variables_in element.first in
    let b = optional_variables element.duration in
    let c = flat_map variables_in element.rest in
    let d = flat_map variables_of element.condition in
    (λ i. ((occurs_is n element.first i || optional_is n element.duration i) || terms_are n element.rest i) || condition_is n element.condition i)
    ∙ or_assoc (list_any test a || list_any test b) (list_any test c) (list_any test d)
    ∙ or_assoc (list_any test a) (list_any test b) (list_any test c || list_any test d)
    ∙ ap (λ v. list_any test a || (list_any test b || v)) (sym (any_append test c d))
    ∙ ap (λ v. list_any test a || v) (sym (any_append test b (c ++ d)))
    ∙ sym (any_append test a (b ++ (c ++ d)))

pub choice_is : (n : ℕ) (element : ReadChoice) → occurs_in_choice n element ≡ list_any (λ m. m == n) (choice_variables element)
choice_is n element =
    (λ i. occurs_is n element.atom i || condition_is n element.condition i)
    ∙ sym (any_append (λ m. m == n) (variables_in element.atom) (flat_map variables_of element.condition))

body_literal_is : (n : ℕ) (literal : ReadLiteral) → occurs_in_literal n literal ≡ list_any (λ m. m == n) (literal_variables literal)
body_literal_is n (ReadPlain literal) = literal_is n literal
body_literal_is n (ReadTold theory sign) = guard_is n theory.guard

head_is : (n : ℕ) (head : ReadHead) → occurs_in_head n head ≡ list_any (λ m. m == n) (head_variables head)
head_is n ReadNothing = refl
head_is n (ReadAtom term) = occurs_is n term
head_is n (ReadDuty theory) = guard_is n theory.guard
head_is n (ReadChoose left elements right) =
    (λ i. guard_is n left i || guard_is n right i) ∙ sym (any_append (λ m. m == n) (guard_variables left) (guard_variables right))

pub global_is : (rule : ReadRule) (n : ℕ) → is_global rule n ≡ list_any (λ m. m == n) (global_variables rule)
global_is rule n =
    (λ i. head_is n rule.head i
    || (any_alike (occurs_in_literal n) (λ x. list_any (λ m. m == n) (literal_variables x)) rule.body (body_literal_is n)
    ∙ sym (any_flat (λ m. m == n) literal_variables rule.body)) i)
    ∙ sym (any_append (λ m. m == n) (head_variables rule.head) (flat_map literal_variables rule.body))
