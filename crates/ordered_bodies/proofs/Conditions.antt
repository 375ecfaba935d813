-- Conditions, theory atoms and bodies in order.
use Rattle.std.proofs.Common.{◌≡◌, ℕ, true, List, [], ◌∷◌, ◌++◌, map, refl, sym, ◌∙◌, ap, subst}
use Rattle.std.specs.List.{AllByRecursion, AllZip, flat_map}
use Rattle.syntax_tree.specs.declared.literal.Literal.TheFolds.{fold-roll-TheoryElement}
use Rattle.syntax_tree.specs.declared.literal.Literal.TheViews.{out-TheoryElement, roll-out-TheoryElement}
use Rattle.syntax_tree.specs.declared.literal.TheoryElement.{TheoryElement}
use Rattle.syntax_tree.specs.declared.rule.ChoiceElement.{ChoiceElement}
use Rattle.ground_model.specs.Members.{IsMember}
use Rattle.program_meaning.specs.Read.{PlainLiteral, ReadElement, ReadTheory, ReadLiteral, ReadPlain, ReadTold, ReadRule, literal_read, choice_read, read_literal, read_theory, read_element, plains}
use Rattle.program_meaning.specs.Variables.{is_global}
use Rattle.program_meaning.specs.Search.{is_listed}
use Rattle.instance_rows.proofs.LeafLemmas.{listed_member, member_listed}
use Rattle.safety_meaning.specs.Ordered.{AreOrdered, IsOrderedElement, IsOrderedChoice, IsOrderedTold, told_of}
use Rattle.rule_variables.specs.Reading.{element_read, plain_literals}
use Rattle.ordered_bodies.specs.inner.Orderable.{IsOrderable, IsInOrder}
use Rattle.ordered_bodies.specs.inner.Parts.{AreOrderableIn, AreGlobal, IsOrderedLiteral, IsOrderedWhole}
use Rattle.ordered_bodies.proofs.Alike.{ordered_alike}

-- AN ELEMENT

pub element_shape : (element : TheoryElement)
    → element_read element ≡ record { first = element.first; duration = element.duration; rest = element.rest; condition = plain_literals element.condition }
element_shape element =
    ap element_read (sym (roll-out-TheoryElement element)) ∙ fold-roll-TheoryElement ReadLiteral ReadTheory ReadElement read_literal read_theory read_element (out-TheoryElement element)

-- the atoms and comparisons of literals in order
plains_whole : (plain : List PlainLiteral) (literals : List ReadLiteral) → plains (map (λ literal. ReadPlain literal) plain ++ flat_map told_of literals) ≡ plain
plains_whole [] literals = none literals
  where
    none : (xs : List ReadLiteral) → plains (flat_map told_of xs) ≡ []
    none [] = refl
    none (ReadPlain literal ∷ xs) = none xs
    none (ReadTold theory sign ∷ xs) = none xs
plains_whole (x ∷ plain) literals = ap (λ z. x ∷ z) (plains_whole plain literals)

condition_law : (order given : List ℕ) (literals ordered : List ReadLiteral) → IsOrderable order given (plains literals) → IsInOrder given literals ordered
    → (rule : ReadRule) → AreGlobal rule order given → AreOrdered (λ n. is_global rule n ≡ true) (plains literals) (plains ordered)
condition_law order given literals ordered fit h rule are =
    ordered_alike order (plains ordered) (plains literals) (λ literal m n o. fit.listed literal m n o) (IsMember given) (λ n. is_global rule n ≡ true) (is_listed given)
    (λ n m. (member_listed given n, listed_member given n)) (λ n m. ((are n m).1, (are n m).0))
    (subst (AreOrdered (IsMember given) (plains literals)) (sym (ap plains h.whole ∙ plains_whole h.plain literals)) h.in_order)

pub element_orderable : (order given : List ℕ) (element : TheoryElement) → IsOrderable order given (element_read element).condition → IsOrderable order given (plains (map literal_read element.condition))
element_orderable order given element fit = subst (IsOrderable order given) (ap (λ (e : ReadElement). e.condition) (element_shape element)) fit

pub element_law : (order given : List ℕ) (element done : TheoryElement) → IsOrderable order given (element_read element).condition → element.first ≡ done.first → element.duration ≡ done.duration
    → element.rest ≡ done.rest → IsInOrder given (map literal_read element.condition) (map literal_read done.condition)
    → (rule : ReadRule) → AreGlobal rule order given → IsOrderedElement rule (element_read element) (element_read done)
element_law order given element done fit f d r h rule are =
    subst (λ z. IsOrderedElement rule z (element_read done)) (sym (element_shape element))
    (subst (λ z. IsOrderedElement rule (shape element) z) (sym (element_shape done)) (record {
      first = f;
      duration = d;
      rest = r;
      condition = condition_law order given (map literal_read element.condition) (map literal_read done.condition) (element_orderable order given element fit) h rule are;
    }))
  where
    shape : TheoryElement → ReadElement
    shape e = record { first = e.first; duration = e.duration; rest = e.rest; condition = plain_literals e.condition }

pub choice_law : (order given : List ℕ) (element done : ChoiceElement) → IsOrderable order given (choice_read element).condition → element.atom ≡ done.atom
    → IsInOrder given (map literal_read element.condition) (map literal_read done.condition)
    → (rule : ReadRule) → AreGlobal rule order given → IsOrderedChoice rule (choice_read element) (choice_read done)
choice_law order given element done fit a h rule are = record {
  atom = a;
  condition = condition_law order given (map literal_read element.condition) (map literal_read done.condition) fit h rule are;
}

-- A BODY

told_orderable : (order given : List ℕ) (body : List ReadLiteral) → AllByRecursion (AreOrderableIn order given) body → AllByRecursion (AreOrderableIn order given) (flat_map told_of body)
told_orderable order given [] all = tt
told_orderable order given (ReadPlain literal ∷ body) all = told_orderable order given body all.1
told_orderable order given (ReadTold theory sign ∷ body) all = (all.0, told_orderable order given body all.1)

pub sorted_orderable : (order given start : List ℕ) (body sorted : List ReadLiteral) → AllByRecursion (AreOrderableIn order given) body → IsInOrder start body sorted → AllByRecursion (AreOrderableIn order given) sorted
sorted_orderable order given start body sorted all h = subst (AllByRecursion (AreOrderableIn order given)) (sym h.whole) (go h.plain)
  where
    go : (plain : List PlainLiteral) → AllByRecursion (AreOrderableIn order given) (map (λ literal. ReadPlain literal) plain ++ flat_map told_of body)
    go [] = told_orderable order given body all
    go (x ∷ plain) = (tt, go plain)

-- the literals behind the atoms and comparisons
record Behind (rule : ReadRule) (plain : List PlainLiteral) (told done : List ReadLiteral) : Type 0 where
  rest : List ReadLiteral
  each : AllZip (IsOrderedLiteral rule) told rest
  whole : done ≡ map (λ literal. ReadPlain literal) plain ++ rest

behind : (rule : ReadRule) (plain : List PlainLiteral) (told done : List ReadLiteral) → AllZip (IsOrderedLiteral rule) (map (λ literal. ReadPlain literal) plain ++ told) done → Behind rule plain told done
behind rule [] told done all = record { rest = done; each = all; whole = refl }
behind rule (x ∷ plain) told [] all = absurd all
behind rule (x ∷ plain) told (ReadPlain y ∷ done) all =
    let b = behind rule plain told done all.1 in record { rest = b.rest; each = b.each; whole = λ i. ReadPlain (sym all.0 i) ∷ b.whole i }
behind rule (x ∷ plain) told (ReadTold theory sign ∷ done) all = absurd all.0

told_each : (rule : ReadRule) (body rest : List ReadLiteral) → AllZip (IsOrderedLiteral rule) (flat_map told_of body) rest → AllZip (IsOrderedTold rule) (flat_map told_of body) rest
told_each rule [] [] all = tt
told_each rule [] (y ∷ rest) all = absurd all
told_each rule (ReadPlain literal ∷ body) rest all = told_each rule body rest all
told_each rule (ReadTold theory sign ∷ body) [] all = absurd all
told_each rule (ReadTold theory sign ∷ body) (ReadPlain y ∷ rest) all = absurd all.0
told_each rule (ReadTold theory sign ∷ body) (ReadTold other facing ∷ rest) all = (all.0, told_each rule body rest all.1)

pub body_law : (body sorted done : List ReadLiteral) → IsInOrder [] body sorted → (rule : ReadRule) → AllZip (IsOrderedLiteral rule) sorted done → IsOrderedWhole rule body done
body_law body sorted done h rule all =
    let b = behind rule h.plain (flat_map told_of body) done (subst (λ z. AllZip (IsOrderedLiteral rule) z done) h.whole all) in record {
      plain = h.plain;
      told = b.rest;
      in_order = h.in_order;
      each = told_each rule body b.rest b.each;
      whole = b.whole;
    }
