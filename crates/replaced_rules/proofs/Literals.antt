-- Literals, theory atoms and their elements with their constants replaced.
use Rattle.std.proofs.Common.{◌≡◌, ℕ, Bool, List, [], ◌∷◌, map, Option, None, Some, refl, sym, ◌∙◌, ap, subst}
use Rattle.std.specs.List.{AllByRecursion}
use Rattle.std.specs.Option.{option_map}
use Rattle.symbols.specs.declared.rel.Rel.{Rel}
use Rattle.syntax_tree.specs.declared.term.Term.{Term}
use Rattle.syntax_tree.specs.declared.literal.Guard.{Guard}
use Rattle.syntax_tree.specs.declared.literal.Literal.{Literal}
use Rattle.syntax_tree.specs.declared.literal.Literal.TheOpen.{TheoryAtom-F, TheoryElement-F}
use Rattle.syntax_tree.specs.declared.literal.Literal.TheVariants as l
use Rattle.syntax_tree.specs.declared.literal.TheoryAtom.{TheoryAtom, roll-TheoryAtom}
use Rattle.syntax_tree.specs.declared.literal.TheoryElement.{TheoryElement, roll-TheoryElement}
use Rattle.asp_parser.specs.Replacement.{Constants, replaced, replaced_atom, replaced_guard, replaced_literal, replaced_theory, replaced_element}
use Rattle.asp_parser.proofs.Literals.{PassesOn, every_literal, every_theory, in_atom, in_comparison, in_theory_literal, in_theory, in_element}
use Rattle.ground_model.proofs.OrderedLemmas.{property_append, property_front, property_back}
use Rattle.rewriting.specs.Made.{Made, mapped, both, each, maybe}
use Rattle.rewriting.specs.Rewritten.{term_made, guard_made, atom_made, Places, places_made, closed, with_condition, literal_made, theory_made, element_made}
use Rattle.rewriting.proofs.Layers.{made-Atom, made-Compare, made-Theory, made-TheoryAtom, made-TheoryElement}
use Rattle.program_meaning.specs.Read.{ReadTold, ReadTheory, plain_of, plains, literal_read, theory_read}
use Rattle.groundable_rules.specs.Groundable.{is_guarded}
use Rattle.rewritten_rules.proofs.Reading.{element_read, read-Atom, read-Compare, read-Theory, read-TheoryAtom, read-TheoryElement}
use Rattle.checked_rules.specs.Checked.{IsPlainChecked, AreChecked, IsElementChecked, IsLiteralChecked}
use Rattle.checked_rules.proofs.Literals.{may_still_be_told}
use Rattle.replaced_rules.proofs.Alike.{Alike, alike_mapped, alike_both, alike_closed, alike_onward, alike_each, all_alike, alike_maybe, all_by}
use Rattle.replaced_rules.proofs.Terms.{alike_term, alike_atom, stays_no_interval}

-- a way as it is by its form
as_form : {X Y : Type 0} (one two : ℕ → Made X) (other three : ℕ → Made Y) → ((next : ℕ) → one next ≡ two next) → ((next : ℕ) → other next ≡ three next) → Alike two three → Alike one other
as_form one two other three e h k next = record {
  sights = ap (λ (m : Made _). m.sights) (e next) ∙ (k next).sights ∙ sym (ap (λ (m : Made _). m.sights) (h next));
  next = ap (λ (m : Made _). m.next) (e next) ∙ (k next).next ∙ sym (ap (λ (m : Made _). m.next) (h next));
}

module _ (constants : Constants) where
  abbrev new_theory : TheoryAtom-F Literal TheoryAtom TheoryElement → TheoryAtom-F Literal TheoryAtom TheoryElement
  new_theory x = record { name = x.name; elements = map (replaced_element constants) x.elements; guard = option_map (replaced_guard constants) x.guard }

  abbrev new_element : TheoryElement-F Literal TheoryAtom TheoryElement → TheoryElement-F Literal TheoryAtom TheoryElement
  new_element x = record {
    first = replaced constants x.first;
    duration = option_map (replaced constants) x.duration;
    rest = map (replaced constants) x.rest;
    condition = map (replaced_literal constants) x.condition;
  }

  pub record IsLiteralAlike (literal : Literal) : Type 0 where
    pub way : Alike (literal_made (replaced_literal constants literal)) (literal_made literal)
    pub checked : IsLiteralChecked (literal_read literal) → IsLiteralChecked (literal_read (replaced_literal constants literal))
    pub plain : AreChecked (plain_of (literal_read literal)) → AreChecked (plain_of (literal_read (replaced_literal constants literal)))

  pub record IsElementAlike (element : TheoryElement) : Type 0 where
    pub way : Alike (element_made (replaced_element constants element)) (element_made element)
    pub checked : IsElementChecked (element_read element) → IsElementChecked (element_read (replaced_element constants element))

  pub record IsTheoryAlike (theory : TheoryAtom) : Type 0 where
    pub way : Alike (theory_made (replaced_theory constants theory)) (theory_made theory)
    pub name : (theory_read (replaced_theory constants theory)).name ≡ (theory_read theory).name
    pub guard : is_guarded (theory_read (replaced_theory constants theory)).guard ≡ is_guarded (theory_read theory).guard
    pub checked : AllByRecursion IsElementChecked (theory_read theory).elements → AllByRecursion IsElementChecked (theory_read (replaced_theory constants theory)).elements

  -- ---- guards
  pub alike_guard : (guard : Guard) → Alike (guard_made (replaced_guard constants guard)) (guard_made guard)
  alike_guard guard next =
      alike_mapped (λ (right : Term). record { rel = guard.rel; right = right }) (λ (right : Term). record { rel = guard.rel; right = right })
      (term_made (replaced constants guard.right) next) (term_made guard.right next) (alike_term constants guard.right next)

  pub same_guarded : (o : Option Guard) → is_guarded (option_map (replaced_guard constants) o) ≡ is_guarded o
  same_guarded None = refl
  same_guarded (Some guard) = refl

  -- ---- literals
  atom_alike : (atom : Term) (sign : Bool) → IsLiteralAlike (l.Atom atom sign)
  atom_alike atom sign = record {
    way = as_form (literal_made (replaced_literal constants (l.Atom atom sign))) (λ next. mapped (λ (made : Term). l.Atom made sign) (atom_made new next)) (literal_made (l.Atom atom sign))
        (λ next. mapped (λ (made : Term). l.Atom made sign) (atom_made atom next))
        (λ next. ap (λ x. literal_made x next) (in_atom constants atom sign) ∙ made-Atom new sign next) (made-Atom atom sign)
        (λ next. alike_mapped (λ (made : Term). l.Atom made sign) (λ (made : Term). l.Atom made sign) (atom_made new next) (atom_made atom next) (alike_atom constants atom next));
    checked = λ k. subst (λ x. IsLiteralChecked (literal_read x)) (sym (in_atom constants atom sign)) (subst IsLiteralChecked (sym (read-Atom new sign)) tt);
    plain = λ k. subst (λ x. AreChecked (plain_of (literal_read x))) (sym (in_atom constants atom sign)) (subst (λ r. AreChecked (plain_of r)) (sym (read-Atom new sign)) (tt, tt));
  }
    where
      new : Term
      new = replaced_atom constants atom

  compare_alike : (left : Term) (rel : Rel) (right : Term) → IsLiteralAlike (l.Compare left rel right)
  compare_alike left rel right = record {
    way = as_form (literal_made (replaced_literal constants (l.Compare left rel right))) (both compare (term_made one) (term_made other)) (literal_made (l.Compare left rel right))
        (both compare (term_made left) (term_made right))
        (λ next. ap (λ x. literal_made x next) (in_comparison constants left rel right) ∙ made-Compare one rel other next) (made-Compare left rel right)
        (alike_both compare compare (term_made one) (term_made left) (term_made other) (term_made right) (alike_term constants left) (alike_term constants right));
    checked = λ k. subst (λ x. IsLiteralChecked (literal_read x)) (sym (in_comparison constants left rel right))
        (subst IsLiteralChecked (sym (read-Compare one rel other)) (stays_no_interval constants left (subst IsLiteralChecked (read-Compare left rel right) k)));
    plain = λ k. subst (λ x. AreChecked (plain_of (literal_read x))) (sym (in_comparison constants left rel right))
        (subst (λ r. AreChecked (plain_of r)) (sym (read-Compare one rel other))
        (stays_no_interval constants left (subst (λ r. AreChecked (plain_of r)) (read-Compare left rel right) k).0, tt));
  }
    where
      one : Term
      one = replaced constants left

      other : Term
      other = replaced constants right

      compare : Term → Term → Literal
      compare a b = l.Compare a rel b

  theory_literal_alike : (theory : TheoryAtom) (sign : Bool) → IsTheoryAlike theory → IsLiteralAlike (l.Theory theory sign)
  theory_literal_alike theory sign s = record {
    way = as_form (literal_made (replaced_literal constants (l.Theory theory sign))) (λ next. mapped (λ (made : TheoryAtom). l.Theory made sign) (theory_made new next)) (literal_made (l.Theory theory sign))
        (λ next. mapped (λ (made : TheoryAtom). l.Theory made sign) (theory_made theory next))
        (λ next. ap (λ x. literal_made x next) (in_theory_literal constants theory sign) ∙ made-Theory new sign next) (made-Theory theory sign)
        (λ next. alike_mapped (λ (made : TheoryAtom). l.Theory made sign) (λ (made : TheoryAtom). l.Theory made sign) (theory_made new next) (theory_made theory next) (s.way next));
    checked = λ k.
        let d : IsLiteralChecked (ReadTold (theory_read theory) sign) = subst IsLiteralChecked (read-Theory theory sign) k in
        subst (λ x. IsLiteralChecked (literal_read x)) (sym (in_theory_literal constants theory sign))
        (subst IsLiteralChecked (sym (read-Theory new sign)) (may_still_be_told (theory_read theory) (theory_read new) s.name s.guard ∙ d.0, s.checked d.1));
    plain = λ k. subst (λ x. AreChecked (plain_of (literal_read x))) (sym (in_theory_literal constants theory sign)) (subst (λ r. AreChecked (plain_of r)) (sym (read-Theory new sign)) tt);
  }
    where
      new : TheoryAtom
      new = replaced_theory constants theory

  -- ---- lists of literals
  literals_way : (literals : List Literal) → AllByRecursion IsLiteralAlike literals → Alike (each (map literal_made (map (replaced_literal constants) literals))) (each (map literal_made literals))
  literals_way literals all =
      alike_each (map literal_made (map (replaced_literal constants) literals)) (map literal_made literals) (all_alike (replaced_literal constants) literal_made literals (ways_of literals all))
    where
      ways_of : (xs : List Literal) → AllByRecursion IsLiteralAlike xs → AllByRecursion (λ x. Alike (literal_made (replaced_literal constants x)) (literal_made x)) xs
      ways_of [] all = tt
      ways_of (x ∷ xs) all = (all.0.way, ways_of xs all.1)

  literals_plain : (literals : List Literal) → AllByRecursion IsLiteralAlike literals → AreChecked (plains (map literal_read literals))
      → AreChecked (plains (map literal_read (map (replaced_literal constants) literals)))
  literals_plain [] all h = tt
  literals_plain (x ∷ xs) all h =
      property_append IsPlainChecked (plain_of (literal_read (replaced_literal constants x))) (plains (map literal_read (map (replaced_literal constants) xs)))
      (all.0.plain (property_front IsPlainChecked (plain_of (literal_read x)) (plains (map literal_read xs)) h))
      (literals_plain xs all.1 (property_back IsPlainChecked (plain_of (literal_read x)) (plains (map literal_read xs)) h))

  -- ---- elements
  places_alike : (first : Term) (duration : Option Term) (rest : List Term)
      → Alike (places_made (replaced constants first) (option_map (replaced constants) duration) (map (replaced constants) rest)) (places_made first duration rest)
  places_alike first duration rest =
      alike_both make make (term_made (replaced constants first)) (term_made first) (both pair (maybe term_made (option_map (replaced constants) duration)) (each (map term_made (map (replaced constants) rest))))
      (both pair (maybe term_made duration) (each (map term_made rest))) (alike_term constants first)
      (alike_both pair pair (maybe term_made (option_map (replaced constants) duration)) (maybe term_made duration) (each (map term_made (map (replaced constants) rest))) (each (map term_made rest))
      (alike_maybe (replaced constants) term_made (alike_term constants) duration)
      (alike_each (map term_made (map (replaced constants) rest)) (map term_made rest)
      (all_alike (replaced constants) term_made rest (all_by (λ term. Alike (term_made (replaced constants term)) (term_made term)) (alike_term constants) rest))))
    where
      make : Term → Option Term × List Term → Places
      make x more = record { first = x; duration = more.0; rest = more.1 }

      pair : Option Term → List Term → Option Term × List Term
      pair x xs = (x, xs)

  element_alike : (x : TheoryElement-F Literal TheoryAtom TheoryElement) → AllByRecursion IsLiteralAlike x.condition → IsElementAlike (roll-TheoryElement x)
  element_alike x all = record {
    way = as_form (element_made (replaced_element constants (roll-TheoryElement x))) (λ next. closed with_condition (one next) (each (map literal_made y.condition) (one next).next))
        (element_made (roll-TheoryElement x)) (λ next. closed with_condition (other next) (each (map literal_made x.condition) (other next).next))
        (λ next. ap (λ e. element_made e next) (in_element constants x) ∙ made-TheoryElement y next) (made-TheoryElement x)
        (λ next. alike_closed with_condition with_condition (one next) (other next) (each (map literal_made y.condition) (one next).next) (each (map literal_made x.condition) (other next).next)
        (places_alike x.first x.duration x.rest next)
        (alike_onward (each (map literal_made y.condition)) (each (map literal_made x.condition)) (literals_way x.condition all) (one next).next (other next).next (places_alike x.first x.duration x.rest next).next));
    checked = λ k. subst (λ e. IsElementChecked (element_read e)) (sym (in_element constants x))
        (subst IsElementChecked (sym (read-TheoryElement y)) (literals_plain x.condition all (subst IsElementChecked (read-TheoryElement x) k)));
  }
    where
      y : TheoryElement-F Literal TheoryAtom TheoryElement
      y = new_element x

      one : ℕ → Made Places
      one = places_made y.first y.duration y.rest

      other : ℕ → Made Places
      other = places_made x.first x.duration x.rest

  -- ---- theory atoms
  elements_way : (elements : List TheoryElement) → AllByRecursion IsElementAlike elements → AllByRecursion (λ x. Alike (element_made (replaced_element constants x)) (element_made x)) elements
  elements_way [] all = tt
  elements_way (x ∷ xs) all = (all.0.way, elements_way xs all.1)

  elements_checked : (elements : List TheoryElement) → AllByRecursion IsElementAlike elements → AllByRecursion IsElementChecked (map element_read elements)
      → AllByRecursion IsElementChecked (map element_read (map (replaced_element constants) elements))
  elements_checked [] all h = tt
  elements_checked (x ∷ xs) all h = (all.0.checked h.0, elements_checked xs all.1 h.1)

  theory_alike : (x : TheoryAtom-F Literal TheoryAtom TheoryElement) → AllByRecursion IsElementAlike x.elements → IsTheoryAlike (roll-TheoryAtom x)
  theory_alike x all = record {
    way = as_form (theory_made (replaced_theory constants (roll-TheoryAtom x))) (both make (each (map element_made y.elements)) (maybe guard_made y.guard))
        (theory_made (roll-TheoryAtom x)) (both make (each (map element_made x.elements)) (maybe guard_made x.guard))
        (λ next. ap (λ a. theory_made a next) (in_theory constants x) ∙ made-TheoryAtom y next) (made-TheoryAtom x)
        (alike_both make make (each (map element_made y.elements)) (each (map element_made x.elements)) (maybe guard_made y.guard) (maybe guard_made x.guard)
        (alike_each (map element_made y.elements) (map element_made x.elements) (all_alike (replaced_element constants) element_made x.elements (elements_way x.elements all)))
        (alike_maybe (replaced_guard constants) guard_made alike_guard x.guard));
    name = ap (λ a. (theory_read a).name) (in_theory constants x) ∙ ap (λ (r : ReadTheory). r.name) (read-TheoryAtom y) ∙ sym (ap (λ (r : ReadTheory). r.name) (read-TheoryAtom x));
    guard = ap (λ a. is_guarded (theory_read a).guard) (in_theory constants x) ∙ ap (λ (r : ReadTheory). is_guarded r.guard) (read-TheoryAtom y) ∙ same_guarded x.guard
        ∙ sym (ap (λ (r : ReadTheory). is_guarded r.guard) (read-TheoryAtom x));
    checked = λ k. subst (λ a. AllByRecursion IsElementChecked (theory_read a).elements) (sym (in_theory constants x))
        (subst (λ (r : ReadTheory). AllByRecursion IsElementChecked r.elements) (sym (read-TheoryAtom y))
        (elements_checked x.elements all (subst (λ (r : ReadTheory). AllByRecursion IsElementChecked r.elements) (read-TheoryAtom x) k)));
  }
    where
      y : TheoryAtom-F Literal TheoryAtom TheoryElement
      y = new_theory x

      make : List TheoryElement → Option Guard → TheoryAtom
      make elements guard = roll-TheoryAtom (record { name = x.name; elements = elements; guard = guard })

  -- ---- all of them
  all_forms : PassesOn IsLiteralAlike IsTheoryAlike IsElementAlike
  all_forms = record { atom = atom_alike; compare = compare_alike; theory = theory_literal_alike; elements = theory_alike; condition = element_alike }

  pub alike_literal : (literal : Literal) → IsLiteralAlike literal
  alike_literal = every_literal IsLiteralAlike IsTheoryAlike IsElementAlike all_forms

  pub alike_theory : (theory : TheoryAtom) → IsTheoryAlike theory
  alike_theory = every_theory IsLiteralAlike IsTheoryAlike IsElementAlike all_forms

  pub alike_literals : (literals : List Literal) → Alike (each (map literal_made (map (replaced_literal constants) literals))) (each (map literal_made literals))
  alike_literals literals = literals_way literals (all_by IsLiteralAlike alike_literal literals)

  pub plain_literals : (literals : List Literal) → AreChecked (plains (map literal_read literals)) → AreChecked (plains (map literal_read (map (replaced_literal constants) literals)))
  plain_literals literals = literals_plain literals (all_by IsLiteralAlike alike_literal literals)

  pub checked_literals : (literals : List Literal) → AllByRecursion IsLiteralChecked (map literal_read literals) → AllByRecursion IsLiteralChecked (map literal_read (map (replaced_literal constants) literals))
  checked_literals [] h = tt
  checked_literals (x ∷ xs) h = ((alike_literal x).checked h.0, checked_literals xs h.1)
