-- Literals, theory atoms and their elements stay trees when they are rewritten, and still pass the checks where they did.
use Rattle.std.proofs.Common.{◌≡◌, Bool, true, false, ◌&&◌, List, [], ◌∷◌, ◌++◌, map, Option, None, Some, refl, sym, ◌∙◌, ap, subst}
use Rattle.std.specs.List.{AllByRecursion, list_all}
use Rattle.symbols.specs.declared.rel.Rel.{Rel}
use Rattle.syntax_tree.specs.declared.term.Term.{Term}
use Rattle.syntax_tree.specs.declared.literal.Guard.{Guard}
use Rattle.syntax_tree.specs.declared.literal.TheoryName.{TheoryName}
use Rattle.syntax_tree.specs.declared.literal.TheoryName.TheVariants as name
use Rattle.syntax_tree.specs.declared.literal.Literal.{Literal, roll-Literal}
use Rattle.syntax_tree.specs.declared.literal.Literal.TheOpen.{Literal-F, TheoryAtom-F, TheoryElement-F}
use Rattle.syntax_tree.specs.declared.literal.Literal.TheFolds.{ind-Literal, ind-TheoryAtom, map-Literal, map-TheoryAtom, map-TheoryElement, fold-roll-TheoryAtom, fold-roll-TheoryElement}
use Rattle.syntax_tree.specs.declared.literal.Literal.TheVariants as l
use Rattle.syntax_tree.specs.declared.literal.TheoryAtom.{TheoryAtom, roll-TheoryAtom}
use Rattle.syntax_tree.specs.declared.literal.TheoryElement.{TheoryElement, roll-TheoryElement}
use Rattle.syntax_tree.specs.Tree.{is_term}
use Rattle.syntax_tree.specs.Literals.{is_none_or, is_guard, is_literal, is_theory_atom, is_theory_element, literal_rules, theory_rules, element_rules}
use Rattle.syntax_tree.proofs.TreeRules.{atom_rules, comparison_rules, theory_literal_rules}
use Rattle.ground_model.proofs.Bools.{and_elim, and_intro}
use Rattle.ground_model.proofs.OrderedLemmas.{property_append, property_front, property_back}
use Rattle.rewriting.specs.Made.{Made, both, each, maybe}
use Rattle.rewriting.specs.Rewritten.{term_made, guard_made, atom_made, Places, places_made, with_condition, literal_made, theory_made, element_made}
use Rattle.rewriting.proofs.Layers.{made-Atom, made-Compare, made-Theory, made-TheoryAtom, made-TheoryElement}
use Rattle.program_meaning.specs.Read.{ReadLiteral, ReadPlain, ReadTold, ReadTheory, ReadElement, plain_of, plains, literal_read, theory_read}
use Rattle.groundable_rules.specs.Groundable.{is_guarded, may_be_told, may_be_duty}
use Rattle.rewritten_rules.proofs.Reading.{element_read, read-Atom, read-Compare, read-Theory, read-TheoryAtom, read-TheoryElement}
use Rattle.checked_rules.specs.Checked.{IsPlainChecked, AreChecked, IsElementChecked, IsLiteralChecked}
use Rattle.checked_rules.proofs.Pieces.{AreFineLiterals, IsKept, Keeps, kept_same, kept_mapped, kept_joined, keeps_both, kept_closed}
use Rattle.checked_rules.proofs.Terms.{IsTree, keeps_made, keeps_atom, stays_no_interval}

-- ---- trees, layer by layer
pub tree-TheoryAtom : (x : TheoryAtom-F Literal TheoryAtom TheoryElement)
    → is_theory_atom (roll-TheoryAtom x) ≡ (list_all (λ element. element) (map is_theory_element x.elements) && is_none_or is_guard x.guard)
tree-TheoryAtom x = fold-roll-TheoryAtom Bool Bool Bool literal_rules theory_rules element_rules x

pub tree-TheoryElement : (x : TheoryElement-F Literal TheoryAtom TheoryElement)
    → is_theory_element (roll-TheoryElement x)
    ≡ (is_term x.first && is_none_or is_term x.duration && list_all is_term x.rest && list_all (λ literal. literal) (map is_literal x.condition))
tree-TheoryElement x = fold-roll-TheoryElement Bool Bool Bool literal_rules theory_rules element_rules x

-- ---- guards
pub record IsGuardLike (o made : Option Guard) : Type 0 where
  pub there : is_guarded made ≡ is_guarded o
  pub tree : is_none_or is_guard made ≡ true

pub keeps_guard : (o : Option Guard) → is_none_or is_guard o ≡ true → Keeps (IsGuardLike o) (maybe guard_made o)
keeps_guard None h next = kept_same (IsGuardLike None) None next (record { there = refl; tree = h })
keeps_guard (Some guard) h next =
    kept_mapped (λ (g : Guard). is_guard g ≡ true) (IsGuardLike (Some guard)) (λ g. Some g) (guard_made guard next) (λ p. record { there = refl; tree = p })
    (kept_mapped IsTree (λ (g : Guard). is_guard g ≡ true) (λ right. record { rel = guard.rel; right = right }) (term_made guard.right next) (λ p. p)
    (keeps_made guard.right h next))

-- ---- what becomes of literals
pub record IsLike (literal made : Literal) : Type 0 where
  pub tree : is_literal made ≡ true
  pub checked : IsLiteralChecked (literal_read literal) → IsLiteralChecked (literal_read made)
  pub plain : AreChecked (plain_of (literal_read literal)) → AreChecked (plain_of (literal_read made))

pub record AreLike (literals made : List Literal) : Type 0 where
  pub trees : list_all is_literal made ≡ true
  pub checked : AllByRecursion IsLiteralChecked (map literal_read literals) → AllByRecursion IsLiteralChecked (map literal_read made)
  pub plain : AreChecked (plains (map literal_read literals)) → AreChecked (plains (map literal_read made))

pub record IsElementLike (element made : TheoryElement) : Type 0 where
  pub tree : is_theory_element made ≡ true
  pub checked : IsElementChecked (element_read element) → IsElementChecked (element_read made)

pub record AreElementsLike (elements made : List TheoryElement) : Type 0 where
  pub trees : list_all (λ element. element) (map is_theory_element made) ≡ true
  pub checked : AllByRecursion IsElementChecked (map element_read elements) → AllByRecursion IsElementChecked (map element_read made)

pub record IsTheoryLike (theory made : TheoryAtom) : Type 0 where
  pub tree : is_theory_atom made ≡ true
  pub name : (theory_read made).name ≡ (theory_read theory).name
  pub guard : is_guarded (theory_read made).guard ≡ is_guarded (theory_read theory).guard
  pub checked : AllByRecursion IsElementChecked (theory_read theory).elements → AllByRecursion IsElementChecked (theory_read made).elements

abbrev KeepsLiteral : Literal → Type 0
KeepsLiteral literal = is_literal literal ≡ true → Keeps (IsLike literal) (literal_made literal)

abbrev KeepsTheory : TheoryAtom → Type 0
KeepsTheory theory = is_theory_atom theory ≡ true → Keeps (IsTheoryLike theory) (theory_made theory)

abbrev KeepsElement : TheoryElement → Type 0
KeepsElement element = is_theory_element element ≡ true → Keeps (IsElementLike element) (element_made element)

-- what passes as a literal passes as an atom or a comparison
plain_checked : (read : ReadLiteral) → IsLiteralChecked read → AreChecked (plain_of read)
plain_checked (ReadPlain literal) h = (h, tt)
plain_checked (ReadTold theory sign) h = tt

fine_plain : (literals : List Literal) → AreFineLiterals literals → AreChecked (plains (map literal_read literals))
fine_plain [] fine = tt
fine_plain (literal ∷ literals) fine =
    property_append IsPlainChecked (plain_of (literal_read literal)) (plains (map literal_read literals)) (plain_checked (literal_read literal) fine.0.checked) (fine_plain literals fine.1)

plains_append : (xs ys : List Literal) → AreChecked (plains (map literal_read xs)) → AreChecked (plains (map literal_read ys)) → AreChecked (plains (map literal_read (xs ++ ys)))
plains_append [] ys h k = k
plains_append (x ∷ xs) ys h k =
    property_append IsPlainChecked (plain_of (literal_read x)) (plains (map literal_read (xs ++ ys)))
    (property_front IsPlainChecked (plain_of (literal_read x)) (plains (map literal_read xs)) h) (plains_append xs ys (property_back IsPlainChecked (plain_of (literal_read x)) (plains (map literal_read xs)) h) k)

pub fine_trees : (literals : List Literal) → AreFineLiterals literals → list_all is_literal literals ≡ true
fine_trees [] fine = refl
fine_trees (literal ∷ literals) fine = and_intro (is_literal literal) (list_all is_literal literals) fine.0.tree (fine_trees literals fine.1)

pub all_append : {X : Type 0} (test : X → Bool) (xs ys : List X) → list_all test xs ≡ true → list_all test ys ≡ true → list_all test (xs ++ ys) ≡ true
all_append test [] ys h k = k
all_append test (x ∷ xs) ys h k =
    let p = and_elim (test x) (list_all test xs) h in and_intro (test x) (list_all test (xs ++ ys)) p.0 (all_append test xs ys p.1 k)

all_mapped_test : {X : Type 0} (test : X → Bool) (xs : List X) → list_all (λ b. b) (map test xs) ≡ list_all test xs
all_mapped_test test [] = refl
all_mapped_test test (x ∷ xs) = ap (λ b. test x && b) (all_mapped_test test xs)

-- ---- literals
keep_atom : (atom : Term) (sign : Bool) → KeepsLiteral (l.Atom atom sign)
keep_atom atom sign h next =
    subst (IsKept (IsLike (l.Atom atom sign))) (sym (made-Atom atom sign next))
    (kept_mapped IsTree (IsLike (l.Atom atom sign)) (λ made. l.Atom made sign) (atom_made atom next)
    (λ p. record {
      tree = atom_rules (atom_made atom next).made sign ∙ p;
      checked = λ k. subst IsLiteralChecked (sym (read-Atom (atom_made atom next).made sign)) tt;
      plain = λ k. subst (λ r. AreChecked (plain_of r)) (sym (read-Atom (atom_made atom next).made sign)) (tt, tt);
    })
    (keeps_atom atom (sym (atom_rules atom sign) ∙ h) next))

keep_compare : (left : Term) (rel : Rel) (right : Term) → KeepsLiteral (l.Compare left rel right)
keep_compare left rel right h next =
    let p = and_elim (is_term left) (is_term right) (sym (comparison_rules left rel right) ∙ h) in
    subst (IsKept (IsLike (l.Compare left rel right))) (sym (made-Compare left rel right next))
    (kept_joined IsTree IsTree (IsLike (l.Compare left rel right)) (λ a b. l.Compare a rel b) (term_made left next) (term_made right (term_made left next).next)
    (λ a b. record {
      tree = comparison_rules one rel other ∙ and_intro (is_term one) (is_term other) a b;
      checked = λ k. subst IsLiteralChecked (sym (read-Compare one rel other)) (stays_no_interval left (subst IsLiteralChecked (read-Compare left rel right) k) next);
      plain = λ k. subst (λ r. AreChecked (plain_of r)) (sym (read-Compare one rel other))
          (stays_no_interval left (subst (λ r. AreChecked (plain_of r)) (read-Compare left rel right) k).0 next, tt);
    })
    (keeps_made left p.0 next) (keeps_made right p.1 (term_made left next).next))
  where
    one : Term
    one = (term_made left next).made

    other : Term
    other = (term_made right (term_made left next).next).made

told_by : (n : TheoryName) (es fs : List ReadElement) (g h : Option Guard) → is_guarded h ≡ is_guarded g
    → may_be_told (record { name = n; elements = fs; guard = h }) ≡ may_be_told (record { name = n; elements = es; guard = g })
told_by name.Sum es fs g h e = e
told_by name.Diff es fs g h e = e
told_by name.Distinct es fs g h e = refl
told_by name.Disjoint es fs g h e = refl
told_by name.Dom es fs g h e = refl
told_by name.Minimize es fs g h e = refl
told_by name.Maximize es fs g h e = refl
told_by name.Show es fs g h e = refl
told_by name.Unknown es fs g h e = refl

-- a theory atom with the same name that has a guard where the other has one may stand where that may
pub may_still_be_told : (one other : ReadTheory) → other.name ≡ one.name → is_guarded other.guard ≡ is_guarded one.guard → may_be_told other ≡ may_be_told one
may_still_be_told one other n g =
    subst (λ (m : TheoryName). may_be_told (record { name = m; elements = other.elements; guard = other.guard }) ≡ may_be_told one) (sym n)
    (told_by one.name one.elements other.elements one.guard other.guard g)

duty_by : (n : TheoryName) (es fs : List ReadElement) (g h : Option Guard) → is_guarded h ≡ is_guarded g
    → may_be_duty (record { name = n; elements = fs; guard = h }) ≡ may_be_duty (record { name = n; elements = es; guard = g })
duty_by name.Sum es fs g h e = e
duty_by name.Diff es fs g h e = e
duty_by name.Distinct es fs g h e = refl
duty_by name.Disjoint es fs g h e = refl
duty_by name.Dom es fs g h e = e
duty_by name.Minimize es fs g h e = refl
duty_by name.Maximize es fs g h e = refl
duty_by name.Show es fs g h e = refl
duty_by name.Unknown es fs g h e = refl

pub may_still_be_duty : (one other : ReadTheory) → other.name ≡ one.name → is_guarded other.guard ≡ is_guarded one.guard → may_be_duty other ≡ may_be_duty one
may_still_be_duty one other n g =
    subst (λ (m : TheoryName). may_be_duty (record { name = m; elements = other.elements; guard = other.guard }) ≡ may_be_duty one) (sym n)
    (duty_by one.name one.elements other.elements one.guard other.guard g)

keep_theory_literal : (theory : TheoryAtom) (sign : Bool) → KeepsTheory theory → KeepsLiteral (l.Theory theory sign)
keep_theory_literal theory sign k h next =
    subst (IsKept (IsLike (l.Theory theory sign))) (sym (made-Theory theory sign next))
    (kept_mapped (IsTheoryLike theory) (IsLike (l.Theory theory sign)) (λ made. l.Theory made sign) (theory_made theory next)
    (λ p. record {
      tree = theory_literal_rules made sign ∙ p.tree;
      checked = λ c.
          let d : IsLiteralChecked (ReadTold (theory_read theory) sign) = subst IsLiteralChecked (read-Theory theory sign) c in
          subst IsLiteralChecked (sym (read-Theory made sign)) (may_still_be_told (theory_read theory) (theory_read made) p.name p.guard ∙ d.0, p.checked d.1);
      plain = λ c. subst (λ r. AreChecked (plain_of r)) (sym (read-Theory made sign)) tt;
    })
    (k (sym (theory_literal_rules theory sign) ∙ h) next))
  where
    made : TheoryAtom
    made = (theory_made theory next).made

-- ---- lists of literals
pub keep_literals : (literals : List Literal) → AllByRecursion KeepsLiteral literals → list_all is_literal literals ≡ true → Keeps (AreLike literals) (each (map literal_made literals))
keep_literals [] all h next = kept_same (AreLike []) [] next (record { trees = refl; checked = λ c. c; plain = λ c. c })
keep_literals (literal ∷ literals) all h next =
    let p = and_elim (is_literal literal) (list_all is_literal literals) h in
    keeps_both (IsLike literal) (AreLike literals) (AreLike (literal ∷ literals)) (λ x xs. x ∷ xs) (literal_made literal) (each (map literal_made literals))
    (λ x xs a b. record {
      trees = and_intro (is_literal x) (list_all is_literal xs) a.tree b.trees;
      checked = λ c. (a.checked c.0, b.checked c.1);
      plain = λ c.
          property_append IsPlainChecked (plain_of (literal_read x)) (plains (map literal_read xs))
          (a.plain (property_front IsPlainChecked (plain_of (literal_read literal)) (plains (map literal_read literals)) c))
          (b.plain (property_back IsPlainChecked (plain_of (literal_read literal)) (plains (map literal_read literals)) c));
    })
    (all.0 p.0) (keep_literals literals all.1 p.1) next

-- ---- elements
record ArePlaces (places : Places) : Type 0 where
  first : is_term places.first ≡ true
  duration : is_none_or is_term places.duration ≡ true
  rest : list_all is_term places.rest ≡ true

abbrev AreRest : Option Term × List Term → Type 0
AreRest more = (is_none_or is_term more.0 ≡ true) × (list_all is_term more.1 ≡ true)

keeps_option : (o : Option Term) → is_none_or is_term o ≡ true → Keeps (λ made. is_none_or is_term made ≡ true) (maybe term_made o)
keeps_option None h next = kept_same (λ (made : Option Term). is_none_or is_term made ≡ true) None next h
keeps_option (Some term) h next =
    kept_mapped IsTree (λ made. is_none_or is_term made ≡ true) (λ y. Some y) (term_made term next) (λ p. p) (keeps_made term h next)

keeps_terms : (terms : List Term) → list_all is_term terms ≡ true → Keeps (λ made. list_all is_term made ≡ true) (each (map term_made terms))
keeps_terms [] h next = kept_same (λ (made : List Term). list_all is_term made ≡ true) [] next refl
keeps_terms (term ∷ terms) h next =
    let p = and_elim (is_term term) (list_all is_term terms) h in
    keeps_both IsTree (λ made. list_all is_term made ≡ true) (λ made. list_all is_term made ≡ true) (λ x xs. x ∷ xs) (term_made term) (each (map term_made terms))
    (λ x xs a b. and_intro (is_term x) (list_all is_term xs) a b) (keeps_made term p.0) (keeps_terms terms p.1) next

keeps_places : (first : Term) (duration : Option Term) (rest : List Term) → is_term first ≡ true → is_none_or is_term duration ≡ true → list_all is_term rest ≡ true
    → Keeps ArePlaces (places_made first duration rest)
keeps_places first duration rest h k m =
    keeps_both IsTree AreRest ArePlaces (λ first (more : Option Term × List Term). record { first = first; duration = more.0; rest = more.1 }) (term_made first)
    (both (λ duration rest. (duration, rest)) (maybe term_made duration) (each (map term_made rest)))
    (λ x more a b. record { first = a; duration = b.0; rest = b.1 }) (keeps_made first h)
    (keeps_both (λ made. is_none_or is_term made ≡ true) (λ made. list_all is_term made ≡ true) AreRest (λ duration rest. (duration, rest)) (maybe term_made duration)
    (each (map term_made rest)) (λ x xs a b. (a, b)) (keeps_option duration k) (keeps_terms rest m))

four : (a b c d : Bool) → (a && b && c && d) ≡ true → (a ≡ true) × (b ≡ true) × (c ≡ true) × (d ≡ true)
four true true true d h = (refl, refl, refl, h)
four true true false d h = absurd cc
four true false c d h = absurd cc
four false b c d h = absurd cc

from_four : (a b c d : Bool) → a ≡ true → b ≡ true → c ≡ true → d ≡ true → (a && b && c && d) ≡ true
from_four a b c d p q r s = rw (p, q, r, s) refl

keep_element : (x : TheoryElement-F Literal TheoryAtom TheoryElement) → AllByRecursion KeepsLiteral x.condition → KeepsElement (roll-TheoryElement x)
keep_element x all h next =
    let p = four (is_term x.first) (is_none_or is_term x.duration) (list_all is_term x.rest) (list_all (λ literal. literal) (map is_literal x.condition)) (sym (tree-TheoryElement x) ∙ h) in
    subst (IsKept (IsElementLike (roll-TheoryElement x))) (sym (made-TheoryElement x next))
    (kept_closed ArePlaces (AreLike x.condition) (IsElementLike (roll-TheoryElement x)) with_condition (places_made x.first x.duration x.rest next)
    (each (map literal_made x.condition) (places_made x.first x.duration x.rest next).next) onward
    (keeps_places x.first x.duration x.rest p.0 p.1 p.2 next)
    (keep_literals x.condition all (sym (all_mapped_test is_literal x.condition) ∙ p.3) (places_made x.first x.duration x.rest next).next))
  where
    one : Made Places
    one = places_made x.first x.duration x.rest next

    other : Made (List Literal)
    other = each (map literal_made x.condition) one.next

    condition : List Literal
    condition = other.made ++ (one.added ++ other.added)

    made : TheoryElement-F Literal TheoryAtom TheoryElement
    made = record { first = one.made.first; duration = one.made.duration; rest = one.made.rest; condition = condition }

    onward : ArePlaces one.made → AreLike x.condition other.made → AreFineLiterals (one.added ++ other.added) → IsElementLike (roll-TheoryElement x) (with_condition one.made condition)
    onward a b fine = record {
      tree = tree-TheoryElement made
          ∙ from_four (is_term made.first) (is_none_or is_term made.duration) (list_all is_term made.rest) (list_all (λ literal. literal) (map is_literal condition)) a.first a.duration a.rest
          (all_mapped_test is_literal condition ∙ all_append is_literal other.made (one.added ++ other.added) b.trees (fine_trees (one.added ++ other.added) fine));
      checked = λ c. subst IsElementChecked (sym (read-TheoryElement made))
          (plains_append other.made (one.added ++ other.added) (b.plain (subst IsElementChecked (read-TheoryElement x) c)) (fine_plain (one.added ++ other.added) fine));
    }

keep_elements : (elements : List TheoryElement) → AllByRecursion KeepsElement elements → list_all (λ element. element) (map is_theory_element elements) ≡ true
    → Keeps (AreElementsLike elements) (each (map element_made elements))
keep_elements [] all h next = kept_same (AreElementsLike []) [] next (record { trees = refl; checked = λ c. c })
keep_elements (element ∷ elements) all h next =
    let p = and_elim (is_theory_element element) (list_all (λ element. element) (map is_theory_element elements)) h in
    keeps_both (IsElementLike element) (AreElementsLike elements) (AreElementsLike (element ∷ elements)) (λ x xs. x ∷ xs) (element_made element) (each (map element_made elements))
    (λ x xs a b. record {
      trees = and_intro (is_theory_element x) (list_all (λ element. element) (map is_theory_element xs)) a.tree b.trees;
      checked = λ c. (a.checked c.0, b.checked c.1);
    })
    (all.0 p.0) (keep_elements elements all.1 p.1) next

-- ---- theory atoms
keep_theory : (x : TheoryAtom-F Literal TheoryAtom TheoryElement) → AllByRecursion KeepsElement x.elements → KeepsTheory (roll-TheoryAtom x)
keep_theory x all h next =
    let p = and_elim (list_all (λ element. element) (map is_theory_element x.elements)) (is_none_or is_guard x.guard) (sym (tree-TheoryAtom x) ∙ h) in
    subst (IsKept (IsTheoryLike (roll-TheoryAtom x))) (sym (made-TheoryAtom x next))
    (keeps_both (AreElementsLike x.elements) (IsGuardLike x.guard) (IsTheoryLike (roll-TheoryAtom x))
    (λ elements guard. roll-TheoryAtom (record { name = x.name; elements = elements; guard = guard })) (each (map element_made x.elements)) (maybe guard_made x.guard)
    onward (keep_elements x.elements all p.0) (keeps_guard x.guard p.1) next)
  where
    onward : (elements : List TheoryElement) (guard : Option Guard) → AreElementsLike x.elements elements → IsGuardLike x.guard guard
        → IsTheoryLike (roll-TheoryAtom x) (roll-TheoryAtom (record { name = x.name; elements = elements; guard = guard }))
    onward elements guard a b = record {
      tree = tree-TheoryAtom made ∙ and_intro (list_all (λ element. element) (map is_theory_element elements)) (is_none_or is_guard guard) a.trees b.tree;
      name = ap (λ (r : ReadTheory). r.name) (read-TheoryAtom made) ∙ sym (ap (λ (r : ReadTheory). r.name) (read-TheoryAtom x));
      guard = ap (λ (r : ReadTheory). is_guarded r.guard) (read-TheoryAtom made) ∙ b.there ∙ sym (ap (λ (r : ReadTheory). is_guarded r.guard) (read-TheoryAtom x));
      checked = λ c. subst (λ (r : ReadTheory). AllByRecursion IsElementChecked r.elements) (sym (read-TheoryAtom made))
          (a.checked (subst (λ (r : ReadTheory). AllByRecursion IsElementChecked r.elements) (read-TheoryAtom x) c));
    }
      where
        made : TheoryAtom-F Literal TheoryAtom TheoryElement
        made = record { name = x.name; elements = elements; guard = guard }

-- ---- all of them
all_mapped : {A X : Type 0} (P : X → Type 0) (f : A → X) → ((a : A) → P (f a)) → (items : List A) → AllByRecursion P (map f items)
all_mapped P f h [] = tt
all_mapped P f h (a ∷ items) = (h a, all_mapped P f h items)

literal_layer : {A B C : Type 0} (f : A → Literal) (g : B → TheoryAtom) (h : C → TheoryElement) → ((b : B) → KeepsTheory (g b)) → (y : Literal-F A B C)
    → KeepsLiteral (roll-Literal (map-Literal A B C Literal TheoryAtom TheoryElement f g h y))
unfolding roll-Literal denote.Hole.Carrier.roll
literal_layer f g h known (Literal-F.Atom atom sign) = keep_atom atom sign
literal_layer f g h known (Literal-F.Compare a rel b) = keep_compare a rel b
literal_layer f g h known (Literal-F.Theory b sign) = keep_theory_literal (g b) sign (known b)

theory_layer : {A B C : Type 0} (f : A → Literal) (g : B → TheoryAtom) (h : C → TheoryElement) → ((c : C) → KeepsElement (h c)) → (y : TheoryAtom-F A B C)
    → KeepsTheory (roll-TheoryAtom (map-TheoryAtom A B C Literal TheoryAtom TheoryElement f g h y))
theory_layer {A} {B} {C} f g h known y = keep_theory (map-TheoryAtom A B C Literal TheoryAtom TheoryElement f g h y) (all_mapped KeepsElement h known y.elements)

element_layer : {A B C : Type 0} (f : A → Literal) (g : B → TheoryAtom) (h : C → TheoryElement) → ((a : A) → KeepsLiteral (f a)) → (y : TheoryElement-F A B C)
    → KeepsElement (roll-TheoryElement (map-TheoryElement A B C Literal TheoryAtom TheoryElement f g h y))
element_layer {A} {B} {C} f g h known y = keep_element (map-TheoryElement A B C Literal TheoryAtom TheoryElement f g h y) (all_mapped KeepsLiteral f known y.condition)

pub keeps_literal : (literal : Literal) → KeepsLiteral literal
keeps_literal =
    ind-Literal KeepsLiteral KeepsTheory KeepsElement
    (λ x y is. subst (λ z. KeepsLiteral (roll-Literal z)) is (literal_layer (λ e. e.0) (λ e. e.0) (λ e. e.0) (λ e. e.1) y))
    (λ x y is. subst (λ z. KeepsTheory (roll-TheoryAtom z)) is (theory_layer (λ e. e.0) (λ e. e.0) (λ e. e.0) (λ e. e.1) y))
    (λ x y is. subst (λ z. KeepsElement (roll-TheoryElement z)) is (element_layer (λ e. e.0) (λ e. e.0) (λ e. e.0) (λ e. e.1) y))

pub keeps_theory : (theory : TheoryAtom) → KeepsTheory theory
keeps_theory =
    ind-TheoryAtom KeepsLiteral KeepsTheory KeepsElement
    (λ x y is. subst (λ z. KeepsLiteral (roll-Literal z)) is (literal_layer (λ e. e.0) (λ e. e.0) (λ e. e.0) (λ e. e.1) y))
    (λ x y is. subst (λ z. KeepsTheory (roll-TheoryAtom z)) is (theory_layer (λ e. e.0) (λ e. e.0) (λ e. e.0) (λ e. e.1) y))
    (λ x y is. subst (λ z. KeepsElement (roll-TheoryElement z)) is (element_layer (λ e. e.0) (λ e. e.0) (λ e. e.0) (λ e. e.1) y))

all_by : {A : Type 0} (P : A → Type 0) → ((a : A) → P a) → (xs : List A) → AllByRecursion P xs
all_by P p [] = tt
all_by P p (x ∷ xs) = (p x, all_by P p xs)

pub keeps_literals : (literals : List Literal) → list_all is_literal literals ≡ true → Keeps (AreLike literals) (each (map literal_made literals))
keeps_literals literals = keep_literals literals (all_by KeepsLiteral keeps_literal literals)

pub condition_kept : (xs ys : List Literal) → AreChecked (plains (map literal_read xs)) → AreFineLiterals ys → AreChecked (plains (map literal_read (xs ++ ys)))
condition_kept xs ys h fine = plains_append xs ys h (fine_plain ys fine)
