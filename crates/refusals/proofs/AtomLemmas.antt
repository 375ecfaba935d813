-- The atoms of a rule, and those in conditions of theory atoms.
use Rattle.std.proofs.Common.{◌≡◌, ℕ, zero, suc, ◌<◌, ◌≤◌, length, get_or, IfOk, Bool, true, false, if◌then◌else◌, List, [], ◌∷◌, ◌++◌, map, Some, slice_get, refl, sym, ap, ◌∙◌, append_assoc, append-nil, arith}
use Rattle.std.specs.List.{flat_map}
use Rattle.syntax_tree.specs.declared.term.Term.{Term}
use Rattle.program_meaning.specs.Read.{PlainLiteral, PlainAtom, PlainCompare, ReadElement, ReadTheory, ReadLiteral, ReadPlain, ReadTold, ReadChoice, ReadHead, ReadNothing, ReadAtom, ReadDuty, ReadChoose, ReadRule, rule_read}
use Rattle.program_meaning.specs.Tuples.{told_in, duty_in}
use Rattle.safety_meaning.specs.Failures.{atom_of, atoms_of_element, atoms_of_theory, condition_atoms as spec_atoms}
use Rattle.load_meaning.specs.Lines.{before_true, in_theory, in_choice, in_head, in_literal, in_conditions}
use Rattle.std.specs.declared.result.Result.{Result}
use Rattle.std.specs.declared.result.Result.TheVariants.{Ok, Err}
use Rattle.syntax_tree.specs.declared.rule.Rule.{Rule}
use Rattle.rewriting.specs.declared.sight.Sight.{Sight}
use Rattle.program_meaning.specs.Predicates.{Predicate, predicate}
use Rattle.load_meaning.specs.Lines.{line_in, no_domain_text}
use Rattle.refusals.specs.declared.atoms.SeenAtom.{SeenAtom}
use Rattle.refusals.specs.inner.Places.{atom_place_in, condition_place_in}
use Rattle.refusals.specs.inner.Atoms.{atom_in, plain_atoms, condition_atoms, element_atoms, theory_atoms, choice_atoms, literal_atoms, head_atoms, rule_atoms}

-- those whose flag is set
abbrev pub kept_one : Term × Bool → List Term
kept_one atom = (if atom.1 then atom.0 ∷ [] else [])

abbrev pub kept : List (Term × Bool) → List Term
kept atoms = flat_map kept_one atoms

abbrev pub flags_in : List (Term × Bool) → List Bool
flags_in atoms = map (λ (atom : Term × Bool). atom.1) atoms

map_append : {X Y : Type 0} (f : X → Y) (xs ys : List X) → map f (xs ++ ys) ≡ map f xs ++ map f ys
map_append f [] ys = refl
map_append f (x ∷ xs) ys = ap (λ l. f x ∷ l) (map_append f xs ys)

flat_append : {X Y : Type 0} (f : X → List Y) (xs ys : List X) → flat_map f (xs ++ ys) ≡ flat_map f xs ++ flat_map f ys
flat_append f [] ys = refl
flat_append f (x ∷ xs) ys = ap (λ v. f x ++ v) (flat_append f xs ys) ∙ sym (append_assoc (f x) (flat_map f xs) (flat_map f ys))

-- the atom with a number among those that are kept
pub kept_at : (atoms : List (Term × Bool)) (place : ℕ) (term : Term) → slice_get (kept atoms) place ≡ Some term
    → slice_get atoms (before_true place (flags_in atoms)) ≡ Some (term, true)
kept_at [] place term here = absurd cc
kept_at ((first, true) ∷ rest) zero term here = let same : first ≡ term = cc in ap (λ t. Some (t, true)) same
kept_at ((first, true) ∷ rest) (suc place) term here = kept_at rest place term here
kept_at ((first, false) ∷ rest) place term here = kept_at rest place term here

-- ---- what is kept, and the flags, piece by piece
module _ {X : Type 0} (f : X → List (Term × Bool)) where
  kept_each : (g : X → List Term) → ((x : X) → kept (f x) ≡ g x) → (xs : List X) → kept (flat_map f xs) ≡ flat_map g xs
  kept_each g each [] = refl
  kept_each g each (x ∷ xs) = flat_append kept_one (f x) (flat_map f xs) ∙ (λ i. each x i ++ kept_each g each xs i)

  flags_each : (g : X → List Bool) → ((x : X) → flags_in (f x) ≡ g x) → (xs : List X) → flags_in (flat_map f xs) ≡ flat_map g xs
  flags_each g each [] = refl
  flags_each g each (x ∷ xs) = map_append (λ (atom : Term × Bool). atom.1) (f x) (flat_map f xs) ∙ (λ i. each x i ++ flags_each g each xs i)

plain_kept : (literal : PlainLiteral) → kept (plain_atoms true literal) ≡ atom_of literal
plain_kept (PlainAtom term sign) = refl
plain_kept (PlainCompare left rel right) = refl

plain_dropped : (literal : PlainLiteral) → kept (plain_atoms false literal) ≡ []
plain_dropped (PlainAtom term sign) = refl
plain_dropped (PlainCompare left rel right) = refl

condition_dropped : (literals : List PlainLiteral) → kept (condition_atoms false literals) ≡ []
condition_dropped [] = refl
condition_dropped (PlainAtom term sign ∷ rest) = condition_dropped rest
condition_dropped (PlainCompare left rel right ∷ rest) = condition_dropped rest

element_kept : (element : ReadElement) → kept (element_atoms element) ≡ atoms_of_element element
element_kept element = kept_each (plain_atoms true) atom_of plain_kept element.condition

theory_kept : (theory : ReadTheory) → kept (theory_atoms theory) ≡ atoms_of_theory theory
theory_kept theory = kept_each element_atoms atoms_of_element element_kept theory.elements

choices_dropped : (elements : List ReadChoice) → kept (flat_map choice_atoms elements) ≡ []
choices_dropped [] = refl
choices_dropped (element ∷ rest) =
    flat_append kept_one (choice_atoms element) (flat_map choice_atoms rest) ∙ (λ i. condition_dropped element.condition i ++ choices_dropped rest i)

head_kept : (head : ReadHead) → kept (head_atoms head) ≡ flat_map atoms_of_theory (duty_in head)
head_kept ReadNothing = refl
head_kept (ReadAtom term) = refl
head_kept (ReadDuty theory) = theory_kept theory ∙ sym (append-nil (atoms_of_theory theory))
head_kept (ReadChoose left elements right) = choices_dropped elements

body_kept : (body : List ReadLiteral) → kept (flat_map literal_atoms body) ≡ flat_map atoms_of_theory (flat_map told_in body)
body_kept [] = refl
body_kept (ReadPlain literal ∷ rest) =
    flat_append kept_one (plain_atoms false literal) (flat_map literal_atoms rest) ∙ (λ i. plain_dropped literal i ++ body_kept rest i)
body_kept (ReadTold theory sign ∷ rest) =
    flat_append kept_one (theory_atoms theory) (flat_map literal_atoms rest) ∙ (λ i. theory_kept theory i ++ body_kept rest i)

pub rule_kept : (rule : ReadRule) → kept (rule_atoms rule) ≡ spec_atoms rule
rule_kept rule =
    flat_append kept_one (head_atoms rule.head) (flat_map literal_atoms rule.body)
    ∙ (λ i. head_kept rule.head i ++ body_kept rule.body i)
    ∙ sym (flat_append atoms_of_theory (duty_in rule.head) (flat_map told_in rule.body))

-- ---- flags
plain_flags : (flag : Bool) (literal : PlainLiteral) → flags_in (plain_atoms flag literal) ≡ map (λ atom. flag) (atom_of literal)
plain_flags flag (PlainAtom term sign) = refl
plain_flags flag (PlainCompare left rel right) = refl

condition_flags : (flag : Bool) (literals : List PlainLiteral) → flags_in (condition_atoms flag literals) ≡ map (λ atom. flag) (flat_map atom_of literals)
condition_flags flag [] = refl
condition_flags flag (PlainAtom term sign ∷ rest) = ap (λ l. flag ∷ l) (condition_flags flag rest)
condition_flags flag (PlainCompare left rel right ∷ rest) = condition_flags flag rest

elements_flags : (elements : List ReadElement) → flags_in (flat_map element_atoms elements) ≡ map (λ atom. true) (flat_map atoms_of_element elements)
elements_flags [] = refl
elements_flags (element ∷ rest) =
    map_append (λ (atom : Term × Bool). atom.1) (element_atoms element) (flat_map element_atoms rest)
    ∙ (λ i. condition_flags true element.condition i ++ elements_flags rest i)
    ∙ sym (map_append (λ atom. true) (atoms_of_element element) (flat_map atoms_of_element rest))

theory_flags : (theory : ReadTheory) → flags_in (theory_atoms theory) ≡ in_theory theory
theory_flags theory = elements_flags theory.elements

choice_flags : (element : ReadChoice) → flags_in (choice_atoms element) ≡ in_choice element
choice_flags element = ap (λ l. false ∷ l) (condition_flags false element.condition)

head_flags : (head : ReadHead) → flags_in (head_atoms head) ≡ in_head head
head_flags ReadNothing = refl
head_flags (ReadAtom term) = refl
head_flags (ReadDuty theory) = theory_flags theory
head_flags (ReadChoose left elements right) = flags_each choice_atoms in_choice choice_flags elements

literal_flags : (literal : ReadLiteral) → flags_in (literal_atoms literal) ≡ in_literal literal
literal_flags (ReadPlain literal) = plain_flags false literal ∙ sym (ap (map (λ atom. false)) (append-nil (atom_of literal)))
literal_flags (ReadTold theory sign) = theory_flags theory

pub rule_flags : (rule : ReadRule) → flags_in (rule_atoms rule) ≡ in_conditions rule
rule_flags rule =
    map_append (λ (atom : Term × Bool). atom.1) (head_atoms rule.head) (flat_map literal_atoms rule.body)
    ∙ (λ i. head_flags rule.head i ++ flags_each literal_atoms in_literal literal_flags rule.body i)

-- ---- the line of an atom in a condition
one_atom : (a b : Term × Bool) → Some a ≡ Some b → a.0 ≡ b.0
one_atom a b same = let pair : a ≡ b = cc in ap (λ (x : Term × Bool). x.0) pair

pub seen_at : (seen : List SeenAtom) (number : ℕ) (d : SeenAtom) (term : Term) (flag : Bool) → number < length seen → d ≡ get_or seen number d
    → slice_get (map atom_in seen) number ≡ Some (term, flag) → d.atom.now ≡ term
seen_at [] number d term flag inside is here = absurd (omega (arith, inside))
seen_at (x ∷ xs) zero d term flag inside is here = ap (λ (a : SeenAtom). a.atom.now) is ∙ one_atom (atom_in x) (term, flag) here
seen_at (x ∷ xs) (suc number) d term flag inside is here = seen_at xs number d term flag (omega (arith, inside)) is here

pub none_at : (seen : List SeenAtom) (number : ℕ) (term : Term) (flag : Bool) → length seen ≤ number → slice_get (map atom_in seen) number ≡ Some (term, flag) → ⊥
none_at [] number term flag past here = cc
none_at (x ∷ xs) zero term flag past here = omega (arith, past)
none_at (x ∷ xs) (suc number) term flag past here = none_at xs number term flag (omega (arith, past)) here

same_flags : (seen : List SeenAtom) → map (λ (atom : SeenAtom). atom.in_condition) seen ≡ flags_in (map atom_in seen)
same_flags [] = refl
same_flags (x ∷ xs) = ap (λ l. x.in_condition ∷ l) (same_flags xs)

ok_each : {X E : Type 0} (r : Result X E) (P Q : X → Type 0) → ((x : X) → P x → Q x) → IfOk r P → IfOk r Q
ok_each (Ok x) P Q each h = each x h
ok_each (Err e) P Q each h = tt

-- the line is that of the atom
abbrev IsAtomLine : List ℕ → List ℕ → ℕ → Term → List ℕ → Type 0
IsAtomLine name text at term printed = (p : Predicate) → predicate term ≡ Some p → printed ≡ line_in name text at (no_domain_text p)

-- the line is that of the atom with a number
abbrev IsLineAt : List ℕ → List ℕ → ℕ → List SeenAtom → ℕ → List ℕ → Type 0
IsLineAt name text at seen number printed =
    (term : Term) (p : Predicate) → slice_get (map atom_in seen) number ≡ Some (term, true) → predicate term ≡ Some p
    → printed ≡ line_in name text at (no_domain_text p)

abbrev IsConditionLine : List ℕ → List ℕ → Rule → List Sight → ℕ → List ℕ → Type 0
IsConditionLine name text rule sights place printed =
    (term : Term) (p : Predicate) → slice_get (spec_atoms (rule_read rule [])) place ≡ Some term → predicate term ≡ Some p
    → printed ≡ line_in name text (condition_place_in rule sights (in_conditions (rule_read rule [])) place) (no_domain_text p)

pub found_said : {E : Type 0} (r : Result (List ℕ) E) (name text : List ℕ) (at : ℕ) (seen : List SeenAtom) (number : ℕ) (d : SeenAtom)
    (found : Term) → number < length seen → d ≡ get_or seen number d → found ≡ d.atom.now → IfOk r (IsAtomLine name text at found)
    → IfOk r (IsLineAt name text at seen number)
found_said r name text at seen number d found inside is same =
    ok_each r (IsAtomLine name text at found) (IsLineAt name text at seen number)
    (λ printed each term p here has. each p (ap predicate (same ∙ seen_at seen number d term true inside is here) ∙ has))

pub condition_said : {E : Type 0} (r : Result (List ℕ) E) (name text : List ℕ) (rule : Rule) (sights : List Sight) (seen first again : List SeenAtom)
    (flags shown : List Bool) (place number : ℕ) → first ≡ seen → again ≡ seen → shown ≡ flags
    → map atom_in seen ≡ rule_atoms (rule_read rule []) → flags ≡ map (λ (atom : SeenAtom). atom.in_condition) first → number ≡ before_true place shown
    → IfOk r (IsLineAt name text (atom_place_in rule sights number) again number) → IfOk r (IsConditionLine name text rule sights place)
condition_said r name text rule sights seen first again flags shown place number first_is again_is shown_is seen_is flags_is number_is =
    let read = rule_read rule [] in
    let flagged : flags ≡ flags_in (rule_atoms read) =
    flags_is ∙ ap (map (λ (atom : SeenAtom). atom.in_condition)) first_is ∙ same_flags seen ∙ ap flags_in seen_is in
    let counted : number ≡ before_true place (flags_in (rule_atoms read)) = number_is ∙ ap (before_true place) (shown_is ∙ flagged) in
    let placed : number ≡ before_true place (in_conditions read) = counted ∙ ap (before_true place) (rule_flags read) in
    ok_each r (IsLineAt name text (atom_place_in rule sights number) again number) (IsConditionLine name text rule sights place)
    (λ printed each term p here has.
    each term p
    (ap (λ l. slice_get (map atom_in l) number) again_is ∙ (λ i. slice_get (seen_is i) (counted i))
    ∙ kept_at (rule_atoms read) place term (ap (λ l. slice_get l place) (rule_kept read) ∙ here)) has
    ∙ ap (λ n. line_in name text (atom_place_in rule sights n) (no_domain_text p)) placed)
