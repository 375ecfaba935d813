-- A theory atom as it is read, and lists side by side.
use Rattle.std.proofs.Common.{◌≡◌, ℕ, zero, suc, ◌+◌, Bool, true, ◌&&◌, List, [], ◌∷◌, ◌++◌, map, take, Some, slice_get, refl, sym, ap, ◌∙◌, subst, arith}
use Rattle.std.specs.List.{AllByRecursion, AllZip, list_all}
use Rattle.syntax_tree.specs.declared.literal.Literal.TheFolds.{fold-roll-TheoryAtom}
use Rattle.syntax_tree.specs.declared.literal.Literal.TheViews.{out-TheoryAtom, roll-out-TheoryAtom}
use Rattle.syntax_tree.specs.declared.literal.TheoryAtom.{TheoryAtom}
use Rattle.syntax_tree.specs.declared.literal.TheoryElement.{TheoryElement}
use Rattle.syntax_tree.specs.Literals.{is_none_or, is_guard, is_theory_atom, is_theory_element, literal_rules, theory_rules, element_rules}
use Rattle.ground_model.specs.Members.{IsMember}
use Rattle.ground_model.proofs.Bools.{and_elim}
use Rattle.ground_model.proofs.MemberLemmas.{member_map}
use Rattle.program_meaning.specs.Read.{ReadLiteral, ReadTheory, ReadElement, ReadRule, theory_read, read_literal, read_theory, read_element}
use Rattle.program_meaning.specs.Tuples.{theories}
use Rattle.program_meaning.proofs.Lists.{slice_member}
use Rattle.instance_plans.specs.Plans.{element_read}
use Rattle.rule_plans.specs.Elements.{IsElementOf}

-- the elements of a theory atom as they are read
pub elements-read : (theory : TheoryAtom) → (theory_read theory).elements ≡ map element_read (out-TheoryAtom theory).elements
elements-read theory =
    ap (λ (t : ReadTheory). t.elements)
    (ap theory_read (sym (roll-out-TheoryAtom theory)) ∙ fold-roll-TheoryAtom ReadLiteral ReadTheory ReadElement read_literal read_theory read_element (out-TheoryAtom theory))

-- they are elements of the rule's theory atom
pub elements-of : (rule : ReadRule) (theory : TheoryAtom) (elements : List TheoryElement) → elements ≡ (out-TheoryAtom theory).elements → IsMember (theories rule) (theory_read theory)
    → (at : ℕ) (element : TheoryElement) → slice_get elements at ≡ Some element → IsElementOf rule (element_read element)
elements-of rule theory elements same member at element here = (
  theory_read theory,
  member,
  subst (λ all. IsMember all (element_read element)) (ap (map element_read) same ∙ sym (elements-read theory))
      (member_map element_read elements element (slice_member elements at element here)),
)

all-mapped : (elements : List TheoryElement) → list_all (λ b. b) (map is_theory_element elements) ≡ true → list_all is_theory_element elements ≡ true
all-mapped [] h = refl
all-mapped (element ∷ elements) h =
    let both = and_elim (is_theory_element element) (list_all (λ b. b) (map is_theory_element elements)) h in
    ap (λ b. b && list_all is_theory_element elements) both.0 ∙ all-mapped elements both.1

-- the elements of a tree are trees
pub elements-trees : (theory : TheoryAtom) (elements : List TheoryElement) → elements ≡ (out-TheoryAtom theory).elements → is_theory_atom theory ≡ true
    → list_all is_theory_element elements ≡ true
elements-trees theory elements same tree =
    let rules = sym (fold-roll-TheoryAtom Bool Bool Bool literal_rules theory_rules element_rules (out-TheoryAtom theory)) ∙ ap is_theory_atom (roll-out-TheoryAtom theory) ∙ tree in
    ap (list_all is_theory_element) same
    ∙ all-mapped (out-TheoryAtom theory).elements
    (and_elim (list_all (λ b. b) (map is_theory_element (out-TheoryAtom theory).elements)) (is_none_or is_guard (out-TheoryAtom theory).guard) rules).0

-- one more stands beside one more
pub zip-more : {X Z Y : Type 0} (f : X → Z) (R : Z → Y → Type 0) (xs : List X) (ys : List Y) (n : ℕ) (x : X) (y : Y) → slice_get xs n ≡ Some x
    → AllZip R (map f (take n xs)) ys → R (f x) y → AllZip R (map f (take (n + 1) xs)) (ys ++ y ∷ [])
zip-more f R [] ys n x y here all r = cc
zip-more f R (w ∷ xs) [] zero x y here all r = let same : w ≡ x = cc in (subst (λ v. R (f v) y) (sym same) r, tt)
zip-more f R (w ∷ xs) (v ∷ ys) zero x y here all r = absurd all
zip-more f R (w ∷ xs) [] (suc n) x y here all r = absurd all
zip-more f R (w ∷ xs) (v ∷ ys) (suc n) x y here all r =
    let next : suc n + 1 ≡ suc (n + 1) = omega arith in
    subst (λ (m : ℕ). AllZip R (map f (take m (w ∷ xs))) ((v ∷ ys) ++ y ∷ [])) (sym next) (all.0, zip-more f R xs ys n x y here all.1 r)

pub element-tree : (elements : List TheoryElement) (n : ℕ) (element : TheoryElement) → slice_get elements n ≡ Some element → list_all is_theory_element elements ≡ true
    → is_theory_element element ≡ true
element-tree [] n element here all = cc
element-tree (e ∷ elements) zero element here all = let same : e ≡ element = cc in ap is_theory_element (sym same) ∙ (and_elim (is_theory_element e) (list_all is_theory_element elements) all).0
element-tree (e ∷ elements) (suc n) element here all = element-tree elements n element here (and_elim (is_theory_element e) (list_all is_theory_element elements) all).1

-- each of a list of theory atoms of the rule is one
pub theory-of : (rule : ReadRule) (all : List ReadTheory) (read : List ReadTheory) (n : ℕ) (theory : ReadTheory) → read ≡ all → slice_get read n ≡ Some theory → IsMember all theory
theory-of rule all read n theory same here = subst (λ xs. IsMember xs theory) same (slice_member read n theory here)

pub mapped-get : {X Y : Type 0} (f : X → Y) (xs : List X) (n : ℕ) (x : X) → slice_get xs n ≡ Some x → slice_get (map f xs) n ≡ Some (f x)
mapped-get f [] n x here = cc
mapped-get f (w ∷ xs) zero x here = let same : w ≡ x = cc in ap (λ v. Some (f v)) same
mapped-get f (w ∷ xs) (suc n) x here = mapped-get f xs n x here

pub all-get : {X : Type 0} (P : X → Type 0) (xs : List X) (n : ℕ) (x : X) → AllByRecursion P xs → slice_get xs n ≡ Some x → P x
all-get P [] n x all here = cc
all-get P (w ∷ xs) zero x all here = let same : w ≡ x = cc in subst P same all.0
all-get P (w ∷ xs) (suc n) x all here = all-get P xs n x all.1 here
