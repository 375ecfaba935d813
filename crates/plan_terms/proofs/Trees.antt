-- Literals, theory atoms and their elements as they are read have terms that keep the rules on terms, where the trees do.
use Rattle.std.proofs.Common.{◌≡◌, Bool, true, ◌&&◌, IsTrue, List, [], ◌∷◌, map, Option, Some, None, sym, ◌∙◌, subst}
use Rattle.std.specs.List.{list_all, AllByRecursion}
use Rattle.symbols.specs.declared.rel.Rel.{Rel}
use Rattle.syntax_tree.specs.declared.term.Term.{Term}
use Rattle.syntax_tree.specs.declared.literal.Guard.{Guard}
use Rattle.syntax_tree.specs.declared.literal.Literal.{Literal, roll-Literal}
use Rattle.syntax_tree.specs.declared.literal.Literal.TheOpen.{Literal-F, TheoryAtom-F, TheoryElement-F}
use Rattle.syntax_tree.specs.declared.literal.Literal.TheFolds.{fold-roll-Literal, fold-roll-TheoryAtom, fold-roll-TheoryElement, ind-Literal, ind-TheoryAtom, ind-TheoryElement, map-Literal, map-TheoryAtom, map-TheoryElement}
use Rattle.syntax_tree.specs.declared.literal.Literal.TheVariants as l
use Rattle.syntax_tree.specs.declared.literal.TheoryAtom.{TheoryAtom, roll-TheoryAtom}
use Rattle.syntax_tree.specs.declared.literal.TheoryElement.{TheoryElement, roll-TheoryElement}
use Rattle.syntax_tree.specs.Tree.{is_term}
use Rattle.syntax_tree.specs.Literals.{is_none_or, is_guard, is_literal, is_theory_atom, is_theory_element, literal_rules, theory_rules, element_rules}
use Rattle.syntax_tree.proofs.TreeRules.{atom_rules, comparison_rules, theory_literal_rules}
use Rattle.ground_model.proofs.Bools.{and_elim}
use Rattle.program_meaning.specs.Read.{PlainLiteral, PlainAtom, PlainCompare, ReadElement, ReadTheory, ReadLiteral, ReadPlain, ReadTold, plains, plain_of, read_literal, read_theory, read_element, literal_read, theory_read}
use Rattle.program_meaning.proofs.Lists.{all_append}
use Rattle.instance_plans.specs.Plans.{element_read}

-- WHAT IS READ

abbrev pub IsTermPlain : PlainLiteral → Type 0
IsTermPlain (PlainAtom term sign) = IsTrue (is_term term)
IsTermPlain (PlainCompare left rel right) = IsTrue (is_term left) × IsTrue (is_term right)

abbrev pub IsTermGuard : Option Guard → Type 0
IsTermGuard None = Unit {0}
IsTermGuard (Some guard) = IsTrue (is_term guard.right)

abbrev pub IsTermOption : Option Term → Type 0
IsTermOption None = Unit {0}
IsTermOption (Some term) = IsTrue (is_term term)

abbrev pub IsTermRead : ReadLiteral → Type 0
IsTermRead (ReadPlain literal) = IsTermPlain literal
IsTermRead (ReadTold theory sign) = IsTermGuard theory.guard

pub record IsTermElement (element : ReadElement) : Type 0 where
  pub first : IsTrue (is_term element.first)
  pub duration : IsTermOption element.duration
  pub rest : AllByRecursion (λ term. IsTrue (is_term term)) element.rest
  pub condition : AllByRecursion IsTermPlain element.condition

pub guard_terms : (guard : Option Guard) → is_none_or is_guard guard ≡ true → IsTermGuard guard
guard_terms None h = tt
guard_terms (Some guard) h = h

option_terms : (term : Option Term) → is_none_or is_term term ≡ true → IsTermOption term
option_terms None h = tt
option_terms (Some term) h = h

list_terms : (terms : List Term) → list_all is_term terms ≡ true → AllByRecursion (λ term. IsTrue (is_term term)) terms
list_terms [] h = tt
list_terms (term ∷ terms) h = let both = and_elim (is_term term) (list_all is_term terms) h in (both.0, list_terms terms both.1)

pub plain_terms : (literals : List ReadLiteral) → AllByRecursion IsTermRead literals → AllByRecursion IsTermPlain (plains literals)
plain_terms [] all = tt
plain_terms (literal ∷ literals) all = all_append IsTermPlain (plain_of literal) (plains literals) (one literal all.0) (plain_terms literals all.1)
  where
    one : (literal : ReadLiteral) → IsTermRead literal → AllByRecursion IsTermPlain (plain_of literal)
    one (ReadPlain plain) h = (h, tt)
    one (ReadTold theory sign) h = tt

-- TREES

abbrev P : Literal → Type 0
P literal = IsTrue (is_literal literal) → IsTermRead (literal_read literal)

abbrev Q : TheoryAtom → Type 0
Q theory = IsTrue (is_theory_atom theory) → IsTermGuard (theory_read theory).guard

abbrev R : TheoryElement → Type 0
R element = IsTrue (is_theory_element element) → IsTermElement (element_read element)

read-Atom : (term : Term) (sign : Bool) → literal_read (l.Atom term sign) ≡ ReadPlain (PlainAtom term sign)
unfolding roll-Literal denote.Hole.Carrier.roll
read-Atom term sign = fold-roll-Literal ReadLiteral ReadTheory ReadElement read_literal read_theory read_element (Literal-F.Atom term sign)

read-Compare : (left : Term) (rel : Rel) (right : Term) → literal_read (l.Compare left rel right) ≡ ReadPlain (PlainCompare left rel right)
unfolding roll-Literal denote.Hole.Carrier.roll
read-Compare left rel right = fold-roll-Literal ReadLiteral ReadTheory ReadElement read_literal read_theory read_element (Literal-F.Compare left rel right)

read-Theory : (theory : TheoryAtom) (sign : Bool) → literal_read (l.Theory theory sign) ≡ ReadTold (theory_read theory) sign
unfolding roll-Literal denote.Hole.Carrier.roll
read-Theory theory sign = fold-roll-Literal ReadLiteral ReadTheory ReadElement read_literal read_theory read_element (Literal-F.Theory theory sign)

atom_is : (term : Term) (sign : Bool) → P (l.Atom term sign)
atom_is term sign h = subst IsTermRead (sym (read-Atom term sign)) (sym (atom_rules term sign) ∙ h)

compare_is : (left : Term) (rel : Rel) (right : Term) → P (l.Compare left rel right)
compare_is left rel right h =
    let both = and_elim (is_term left) (is_term right) (sym (comparison_rules left rel right) ∙ h) in
    subst IsTermRead (sym (read-Compare left rel right)) both

theory_literal_is : (theory : TheoryAtom) (sign : Bool) → Q theory → P (l.Theory theory sign)
theory_literal_is theory sign known h = subst IsTermRead (sym (read-Theory theory sign)) (known (sym (theory_literal_rules theory sign) ∙ h))

theory_is : (x : TheoryAtom-F Literal TheoryAtom TheoryElement) → Q (roll-TheoryAtom x)
theory_is x h =
    let rules = sym (fold-roll-TheoryAtom Bool Bool Bool literal_rules theory_rules element_rules x) ∙ h in
    let read = fold-roll-TheoryAtom ReadLiteral ReadTheory ReadElement read_literal read_theory read_element x in
    subst (λ theory. IsTermGuard theory.guard) (sym read) (guard_terms x.guard (and_elim (list_all (λ e. e) (map is_theory_element x.elements)) (is_none_or is_guard x.guard) rules).1)

condition_reads : (literals : List Literal) → AllByRecursion P literals → list_all (λ b. b) (map is_literal literals) ≡ true → AllByRecursion IsTermRead (map literal_read literals)
condition_reads [] known h = tt
condition_reads (literal ∷ literals) known h =
    let both = and_elim (is_literal literal) (list_all (λ b. b) (map is_literal literals)) h in
    (known.0 both.0, condition_reads literals known.1 both.1)

element_is : (x : TheoryElement-F Literal TheoryAtom TheoryElement) → AllByRecursion P x.condition → R (roll-TheoryElement x)
element_is x known h =
    let rules = sym (fold-roll-TheoryElement Bool Bool Bool literal_rules theory_rules element_rules x) ∙ h in
    let read = fold-roll-TheoryElement ReadLiteral ReadTheory ReadElement read_literal read_theory read_element x in
    let three = and_elim (is_term x.first && is_none_or is_term x.duration && list_all is_term x.rest) (list_all (λ b. b) (map is_literal x.condition)) rules in
    let two = and_elim (is_term x.first && is_none_or is_term x.duration) (list_all is_term x.rest) three.0 in
    let one = and_elim (is_term x.first) (is_none_or is_term x.duration) two.0 in
    subst IsTermElement (sym read)
    (record {
      first = one.0;
      duration = option_terms x.duration one.1;
      rest = list_terms x.rest two.1;
      condition = plain_terms (map literal_read x.condition) (condition_reads x.condition known three.1);
    })

all_mapped : {A X : Type 0} (S : X → Type 0) (f : A → X) → ((a : A) → S (f a)) → (items : List A) → AllByRecursion S (map f items)
all_mapped S f h [] = tt
all_mapped S f h (a ∷ items) = (h a, all_mapped S f h items)

literal_layer : {A B C : Type 0} (f : A → Literal) (g : B → TheoryAtom) (h : C → TheoryElement) → ((b : B) → Q (g b)) → (y : Literal-F A B C)
    → P (roll-Literal (map-Literal A B C Literal TheoryAtom TheoryElement f g h y))
unfolding roll-Literal denote.Hole.Carrier.roll
literal_layer f g h known (Literal-F.Atom atom sign) = atom_is atom sign
literal_layer f g h known (Literal-F.Compare a rel b) = compare_is a rel b
literal_layer f g h known (Literal-F.Theory b sign) = theory_literal_is (g b) sign (known b)

theory_layer : {A B C : Type 0} (f : A → Literal) (g : B → TheoryAtom) (h : C → TheoryElement) → (y : TheoryAtom-F A B C)
    → Q (roll-TheoryAtom (map-TheoryAtom A B C Literal TheoryAtom TheoryElement f g h y))
theory_layer {A} {B} {C} f g h y = theory_is (map-TheoryAtom A B C Literal TheoryAtom TheoryElement f g h y)

element_layer : {A B C : Type 0} (f : A → Literal) (g : B → TheoryAtom) (h : C → TheoryElement) → ((a : A) → P (f a)) → (y : TheoryElement-F A B C)
    → R (roll-TheoryElement (map-TheoryElement A B C Literal TheoryAtom TheoryElement f g h y))
element_layer {A} {B} {C} f g h known y = element_is (map-TheoryElement A B C Literal TheoryAtom TheoryElement f g h y) (all_mapped P f known y.condition)

pub literal_terms : (literal : Literal) → IsTrue (is_literal literal) → IsTermRead (literal_read literal)
literal_terms =
    ind-Literal P Q R
    (λ x y is. subst (λ z. P (roll-Literal z)) is (literal_layer (λ e. e.0) (λ e. e.0) (λ e. e.0) (λ e. e.1) y))
    (λ x y is. subst (λ z. Q (roll-TheoryAtom z)) is (theory_layer (λ e. e.0) (λ e. e.0) (λ e. e.0) y))
    (λ x y is. subst (λ z. R (roll-TheoryElement z)) is (element_layer (λ e. e.0) (λ e. e.0) (λ e. e.0) (λ e. e.1) y))

pub theory_terms : (theory : TheoryAtom) → IsTrue (is_theory_atom theory) → IsTermGuard (theory_read theory).guard
theory_terms =
    ind-TheoryAtom P Q R
    (λ x y is. subst (λ z. P (roll-Literal z)) is (literal_layer (λ e. e.0) (λ e. e.0) (λ e. e.0) (λ e. e.1) y))
    (λ x y is. subst (λ z. Q (roll-TheoryAtom z)) is (theory_layer (λ e. e.0) (λ e. e.0) (λ e. e.0) y))
    (λ x y is. subst (λ z. R (roll-TheoryElement z)) is (element_layer (λ e. e.0) (λ e. e.0) (λ e. e.0) (λ e. e.1) y))

pub element_terms : (element : TheoryElement) → IsTrue (is_theory_element element) → IsTermElement (element_read element)
element_terms =
    ind-TheoryElement P Q R
    (λ x y is. subst (λ z. P (roll-Literal z)) is (literal_layer (λ e. e.0) (λ e. e.0) (λ e. e.0) (λ e. e.1) y))
    (λ x y is. subst (λ z. Q (roll-TheoryAtom z)) is (theory_layer (λ e. e.0) (λ e. e.0) (λ e. e.0) y))
    (λ x y is. subst (λ z. R (roll-TheoryElement z)) is (element_layer (λ e. e.0) (λ e. e.0) (λ e. e.0) (λ e. e.1) y))

pub literals_terms : (literals : List Literal) → list_all is_literal literals ≡ true → AllByRecursion IsTermRead (map literal_read literals)
literals_terms [] h = tt
literals_terms (literal ∷ literals) h =
    let both = and_elim (is_literal literal) (list_all is_literal literals) h in
    (literal_terms literal both.0, literals_terms literals both.1)
