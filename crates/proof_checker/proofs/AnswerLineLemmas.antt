-- Answers as lines name them.
use Rattle.std.proofs.Common.{◌≡◌, inl, inr, ℕ, zero, suc, ◌+◌, ◌<◌, ◌==◌, true, ◌&&◌, ℤ, int_le, List, [], ◌∷◌, map, length, drop, slice_index_or, refl, sym, ◌∙◌, ap, ap₂, subst, eqb-true, arith}
use Rattle.std.specs.List.{AllByRecursion, range_with_len}
use Rattle.std.specs.Ordering.{int_eq}
use Rattle.std.specs.Cmp.Lexicographic.{pointwise}
use Rattle.std.proofs.lemmas.Int.{ints}
use Rattle.linear_normal.proofs.ContentLemmas.{lists_sound, lists_same}
use Rattle.ground_model.specs.declared.answer.Answer.{Answer}
use Rattle.ground_model.specs.declared.program.GroundProgram.{GroundProgram}
use Rattle.ground_model.specs.Members.{IsMember}
use Rattle.symbols.specs.declared.ends.Ends.{Ends}
use Rattle.ground_model.specs.Answers.{IsWithin, IsAnswerOf}
use Rattle.ground_model.proofs.Bools.{and_elim, and_intro}
use Rattle.ground_model.proofs.MemberLemmas.{same_nat}
use Rattle.ground_model.proofs.Products.{drop_next}
use Rattle.derivation_meaning.specs.Lines.{answer_of, all_variables}
use Rattle.derivation_meaning.specs.Valid.{IsAnswerLine}
use Rattle.derivation_meaning.specs.Refusals.{NamesValues}
use Rattle.proof_checker.specs.inner.Judging.{are_within}
use Rattle.proof_checker.specs.inner.Replay.{counts_from}

names_from : (n : ℕ) (values : List (ℕ × ℤ)) → counts_from n values ≡ true → map (λ value. value.0) values ≡ range_with_len n (length values)
names_from n [] e = refl
names_from n (value ∷ values) e =
    let p = and_elim (value.0 == n) (counts_from (n + 1) values) e in
    ap₂ (λ x xs. x ∷ xs) (eqb-true value.0 n p.0) (names_from (n + 1) values p.1)

from_names : (n count : ℕ) (values : List (ℕ × ℤ)) → map (λ value. value.0) values ≡ range_with_len n count → (counts_from n values ≡ true) × (length values ≡ count)
from_names n zero [] e = (refl, refl)
from_names n zero (value ∷ values) e = absurd (cc)
from_names n (suc count) [] e = absurd (cc)
from_names n (suc count) (value ∷ values) e =
    let head : value.0 ≡ n = cc in
    let tail : map (λ (value : ℕ × ℤ). value.0) values ≡ range_with_len (n + 1) count = cc in
    let rest = from_names (n + 1) count values tail in
    (and_intro (value.0 == n) (counts_from (n + 1) values) (same_nat value.0 n head) rest.0, ap (λ k. suc k) rest.1)

pub ordered_names : (count : ℕ) (values : List (ℕ × ℤ)) → length values ≡ count → counts_from 1 values ≡ true → map (λ value. value.0) values ≡ range_with_len 1 count
ordered_names count values size e = names_from 1 values e ∙ ap (range_with_len 1) size

pub names_ordered : (count : ℕ) (values : List (ℕ × ℤ)) → map (λ value. value.0) values ≡ range_with_len 1 count → counts_from 1 values ≡ true
names_ordered count values e = (from_names 1 count values e).0

pub names_counted : (count : ℕ) (values : List (ℕ × ℤ)) → map (λ value. value.0) values ≡ range_with_len 1 count → length values ≡ count
names_counted count values e = (from_names 1 count values e).1

pub names_sized : (count : ℕ) (values : List (ℕ × ℤ)) → map (λ value. value.0) values ≡ range_with_len 1 count → (length values == count) ≡ true
names_sized count values e = same_nat (length values) count (names_counted count values e)

int_sound : (a b : ℤ) → int_eq a b ≡ true → a ≡ b
int_sound a b e = grind (arith, ints, e)

int_same : (a : ℤ) → int_eq a a ≡ true
int_same a = grind (arith, ints)

pub same_numbers : (a b : List ℤ) → pointwise int_eq a b ≡ true → a ≡ b
same_numbers a b e = lists_sound int_eq int_sound a b e

pub equal_numbers : (a b : List ℤ) → a ≡ b → pointwise int_eq a b ≡ true
equal_numbers a b e = subst (λ xs. pointwise int_eq a xs ≡ true) e (lists_same int_eq int_same a)

pub equal_sizes : (a b : List ℤ) → a ≡ b → length a ≡ length b
equal_sizes a b e = ap length e

pub atoms_equal : (a b : Answer) → a ≡ b → a.atoms ≡ b.atoms
atoms_equal a b e = ap (λ (x : Answer). x.atoms) e

pub values_equal : (a b : Answer) → a ≡ b → a.values ≡ b.values
values_equal a b e = ap (λ (x : Answer). x.values) e

pub answers_equal : (a b : Answer) → a.atoms ≡ b.atoms → a.values ≡ b.values → a ≡ b
answers_equal a b e d = ap₂ (λ atoms values. record { atoms = atoms; values = values }) e d

module _ (answers : List Answer) (i : ℕ) (one answer : Answer) (below : i < length answers) (at : one ≡ slice_index_or answers i one) where
  next : drop i answers ≡ one ∷ drop (i + 1) answers
  next = drop_next answers i one below ∙ ap (λ x. x ∷ drop (i + 1) answers) (sym at)

  pub given_later : (one ≡ answer → ⊥) → (IsMember answers answer → IsMember (drop i answers) answer) → IsMember answers answer → IsMember (drop (i + 1) answers) answer
  given_later other rest m = go (subst (λ xs. IsMember xs answer) next (rest m))
    where
      go : IsMember (one ∷ drop (i + 1) answers) answer → IsMember (drop (i + 1) answers) answer
      go (inl same) = absurd (other (sym same))
      go (inr later) = later

member_at : (answers : List Answer) (i : ℕ) (one : Answer) → i < length answers → one ≡ slice_index_or answers i one → IsMember answers one
member_at [] i one below at = absurd (omega (arith, below))
member_at (x ∷ xs) zero one below at = inl at
member_at (x ∷ xs) (suc i) one below at = inr (member_at xs i one (omega (arith, below)) at)

pub given_here : (answers : List Answer) (i : ℕ) (one answer : Answer) → i < length answers → one ≡ slice_index_or answers i one → one ≡ answer → IsMember answers answer
given_here answers i one answer below at same = subst (IsMember answers) same (member_at answers i one below at)

-- A LINE'S ANSWER

within_from_test : (ends : Ends) (values : List ℤ) → are_within ends values ≡ true → AllByRecursion (IsWithin ends) values
within_from_test ends [] e = tt
within_from_test ends (value ∷ values) e =
    let p = and_elim (int_le ends.min value && int_le value ends.max) (are_within ends values) e in
    let q = and_elim (int_le ends.min value) (int_le value ends.max) p.0 in
    let low = q.0 in let high = q.1 in
    ((grind (arith, ints), grind (arith, ints)), within_from_test ends values p.1)

test_from_within : (ends : Ends) (values : List ℤ) → AllByRecursion (IsWithin ends) values → are_within ends values ≡ true
test_from_within ends [] w = refl
test_from_within ends (value ∷ values) w =
    let low = w.0.0 in let high = w.0.1 in
    and_intro (int_le ends.min value && int_le value ends.max) (are_within ends values)
    (and_intro (int_le ends.min value) (int_le value ends.max) (grind (arith, ints)) (grind (arith, ints))) (test_from_within ends values w.1)

pub line_made : (program : GroundProgram) (atoms : List ℕ) (values : List (ℕ × ℤ)) (answer : Answer) → answer ≡ answer_of atoms values
    → map (λ value. value.0) values ≡ all_variables program → IsAnswerOf program answer → IsAnswerLine program atoms values
line_made program atoms values answer is variables stable = record { variables = variables; answer = subst (IsAnswerOf program) is stable }

pub line_names : (program : GroundProgram) (atoms : List ℕ) (values : List (ℕ × ℤ)) → IsAnswerLine program atoms values
    → map (λ value. value.0) values ≡ all_variables program
line_names program atoms values e = e.variables

pub line_answers : (program : GroundProgram) (atoms : List ℕ) (values : List (ℕ × ℤ)) (answer : Answer) → answer ≡ answer_of atoms values
    → IsAnswerLine program atoms values → IsAnswerOf program answer
line_answers program atoms values answer is e = subst (IsAnswerOf program) (sym is) e.answer

map_length : {X Y : Type 0} (f : X → Y) (xs : List X) → length (map f xs) ≡ length xs
map_length f [] = refl
map_length f (x ∷ xs) = ap (λ n. suc n) (map_length f xs)

pub values_named : (program : GroundProgram) (values : List (ℕ × ℤ)) (ks : List ℤ) → ks ≡ map (λ value. value.1) values
    → map (λ value. value.0) values ≡ all_variables program → are_within program.ends ks ≡ true → NamesValues program values
values_named program values ks is variables within = record {
  variables = variables;
  valuation = record {
    each = map_length (λ (value : ℕ × ℤ). value.1) values ∙ (from_names 1 (length program.variables) values variables).1;
    within = within_from_test program.ends (map (λ value. value.1) values) (subst (λ (all : List ℤ). are_within program.ends all ≡ true) is within);
  };
}

pub named_variables : (program : GroundProgram) (values : List (ℕ × ℤ)) → NamesValues program values → map (λ value. value.0) values ≡ all_variables program
named_variables program values e = e.variables

pub named_within : (program : GroundProgram) (values : List (ℕ × ℤ)) (ks : List ℤ) → ks ≡ map (λ value. value.1) values → NamesValues program values
    → are_within program.ends ks ≡ true
named_within program values ks is e = subst (λ (all : List ℤ). are_within program.ends all ≡ true) (sym is) (test_from_within program.ends (map (λ value. value.1) values) e.valuation.within)
