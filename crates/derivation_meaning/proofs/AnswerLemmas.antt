-- Answers that are equal, and the nogood that an answer leaves.
use Rattle.std.proofs.Common.{◌≡◌, ◌⊎◌, inl, inr, ℕ, zero, suc, ◌+◌, ◌-◌, ◌<◌, ◌≤◌, ◌==◌, Bool, true, false, ℤ, pos, int_le, List, [], ◌∷◌, map, length, flat_map, refl, sym, ◌∙◌, ap, ap₂, subst, true≢false, eqb-true, arith}
use Rattle.std.specs.Prelude.{slice_index_or}
use Rattle.std.specs.List.{list_all, range_with_len}
use Rattle.std.proofs.lemmas.Bool.Decides.{nat_tests}
use Rattle.std.proofs.lemmas.Int.{ints}
use Rattle.std.proofs.lemmas.List.{ext_get_or}
use Rattle.std.proofs.lemmas.List.Folds.{list_all-append}
use Rattle.literals.specs.declared.lit.Lit.TheVariants.{Atom}
use Rattle.literals.specs.Truths.{Truths, lit_true, all_true, signed, Meets}
use Rattle.ground_model.specs.declared.answer.Answer.{Answer}
use Rattle.ground_model.specs.declared.program.GroundProgram.{GroundProgram}
use Rattle.ground_model.specs.Members.{IsMember}
use Rattle.ground_model.specs.Answers.{value_at, has_atom, IsNumbered, IsAnswerOf}
use Rattle.ground_model.proofs.Bools.{and_elim, bool_cases}
use Rattle.ground_model.proofs.MemberLemmas.{member_any, all_member, property_member, member_map}
use Rattle.ground_model.proofs.Ascending.{ascending_same}
use Rattle.ground_model.proofs.AnswerLemmas.{answer_atoms}
use Rattle.derivation_meaning.specs.Lines.{value_lits, answer_nogood}

-- EQUAL OR NOT

abbrev Decided : {X : Type 0} → X → X → Type 0
Decided a b = (a ≡ b) ⊎ ¬ (a ≡ b)

decide_nat : (a b : ℕ) → Decided a b
decide_nat a b = grind arith

decide_int : (a b : ℤ) → Decided a b
decide_int a b = cases (int_le a b) (int_le b a) refl refl
  where
    cases : (p q : Bool) → int_le a b ≡ p → int_le b a ≡ q → Decided a b
    cases true true e d = inl (grind (arith, nat_tests, ints, e, d))
    cases true false e d = inr (λ same. grind (arith, nat_tests, ints, e, d, same))
    cases false q e d = inr (λ same. grind (arith, nat_tests, ints, e, d, same))

decide_list : {X : Type 0} → ((a b : X) → Decided a b) → (xs ys : List X) → Decided xs ys
decide_list decide [] [] = inl refl
decide_list decide [] (y ∷ ys) = inr (λ e. cc)
decide_list decide (x ∷ xs) [] = inr (λ e. cc)
decide_list decide (x ∷ xs) (y ∷ ys) = both (decide x y) (decide_list decide xs ys)
  where
    both : Decided x y → Decided xs ys → Decided (x ∷ xs) (y ∷ ys)
    both (inl e) (inl d) = inl (ap₂ (λ z zs. z ∷ zs) e d)
    both (inl e) (inr d) = inr (λ same. d (let tail : xs ≡ ys = cc in tail))
    both (inr e) d = inr (λ same. e (let head : x ≡ y = cc in head))

pub decide_answer : (a b : Answer) → (a ≡ b) ⊎ ¬ (a ≡ b)
decide_answer a b = both (decide_list decide_nat a.atoms b.atoms) (decide_list decide_int a.values b.values)
  where
    both : Decided a.atoms b.atoms → Decided a.values b.values → Decided a b
    both (inl e) (inl d) = inl (ap₂ (λ atoms values. record { atoms = atoms; values = values }) e d)
    both (inl e) (inr d) = inr (λ same. d (ap (λ (answer : Answer). answer.values) same))
    both (inr e) d = inr (λ same. e (ap (λ (answer : Answer). answer.atoms) same))

-- an answer is in a list or not
pub decide_member : (answers : List Answer) (a : Answer) → IsMember answers a ⊎ (IsMember answers a → ⊥)
decide_member [] a = inr (λ m. m)
decide_member (b ∷ rest) a = both (decide_answer a b) (decide_member rest a)
  where
    both : (a ≡ b) ⊎ ¬ (a ≡ b) → IsMember rest a ⊎ (IsMember rest a → ⊥) → IsMember (b ∷ rest) a ⊎ (IsMember (b ∷ rest) a → ⊥)
    both (inl e) m = inl (inl e)
    both (inr e) (inl m) = inl (inr m)
    both (inr e) (inr m) = inr (neither e m)
      where
        neither : ¬ (a ≡ b) → (IsMember rest a → ⊥) → IsMember (b ∷ rest) a → ⊥
        neither e m (inl same) = e same
        neither e m (inr later) = m later

-- LITERALS THAT ARE TRUE

pub range_member : (a n x : ℕ) → a ≤ x → x < a + n → IsMember (range_with_len a n) x
range_member a zero x low high = absurd (omega arith)
range_member a (suc n) x low high = go (decide_nat x a) (λ above. range_member (a + 1) n x above (omega arith))
  where
    go : Decided x a → (a + 1 ≤ x → IsMember (range_with_len (a + 1) n) x) → IsMember (range_with_len a (suc n)) x
    go (inl same) rec = inl same
    go (inr other) rec = inr (rec (grind arith))

flat_all : {X Y : Type 0} (test : Y → Bool) (f : X → List Y) (xs : List X) (x : X) → list_all test (flat_map f xs) ≡ true → IsMember xs x → list_all test (f x) ≡ true
flat_all test f [] x h m = absurd m
flat_all test f (y ∷ ys) x h m =
    let p = and_elim (list_all test (f y)) (list_all test (flat_map f ys)) (sym (list_all-append test (f y) (flat_map f ys)) ∙ h) in
    go m p.0 (flat_all test f ys x p.1)
  where
    go : (x ≡ y) ⊎ IsMember ys x → list_all test (f y) ≡ true → (IsMember ys x → list_all test (f x) ≡ true) → list_all test (f x) ≡ true
    go (inl same) here rec = ap (λ z. list_all test (f z)) same ∙ here
    go (inr later) here rec = rec later

same_sign : (s b : Bool) → signed s b ≡ true → b ≡ s
same_sign true b h = h
same_sign false true h = absurd (true≢false (sym h))
same_sign false false h = refl

module _ (program : GroundProgram) (one other : Answer) (m : IsAnswerOf program one) (k : IsAnswerOf program other) (truths : Truths)
    (atom : (a : ℕ) → truths.atom a ≡ has_atom one.atoms a) (value : (x : ℕ) → truths.value x ≡ value_at one.values x)
    (all : all_true truths (answer_nogood program other) ≡ true) where
  parts : (list_all (lit_true truths) (map (λ a. Atom a (has_atom other.atoms a)) (range_with_len 1 (length program.atoms))) ≡ true)
      × (list_all (lit_true truths) (flat_map (value_lits other) (range_with_len 1 (length program.variables))) ≡ true)
  parts = and_elim _ _ (sym (list_all-append (lit_true truths) (map (λ a. Atom a (has_atom other.atoms a)) (range_with_len 1 (length program.atoms))) (flat_map (value_lits other) (range_with_len 1 (length program.variables)))) ∙ all)

  atom_same : (a : ℕ) → IsNumbered (length program.atoms) a → has_atom one.atoms a ≡ has_atom other.atoms a
  atom_same a n =
      let above = n.above in
      let known = n.known in
      let t = all_member (lit_true truths) (map (λ b. Atom b (has_atom other.atoms b)) (range_with_len 1 (length program.atoms))) (Atom a (has_atom other.atoms a)) parts.0
      (member_map (λ b. Atom b (has_atom other.atoms b)) (range_with_len 1 (length program.atoms)) a (range_member 1 (length program.atoms) a (omega (arith, above)) (omega (arith, known)))) in
      sym (atom a) ∙ same_sign (has_atom other.atoms a) (truths.atom a) t

  numbered : (answer : Answer) → IsAnswerOf program answer → (a : ℕ) → has_atom answer.atoms a ≡ true → IsNumbered (length program.atoms) a
  numbered answer is a h =
      let f = member_any (λ b. b == a) answer.atoms h in
      subst (IsNumbered (length program.atoms)) (eqb-true f.0 a f.2) (property_member (IsNumbered (length program.atoms)) answer.atoms f.0 (answer_atoms program answer is) f.1)

  atoms_same : one.atoms ≡ other.atoms
  atoms_same =
      ascending_same 0 0 one.atoms other.atoms m.ascending k.ascending
      (λ a h. sym (atom_same a (numbered one m a h)) ∙ h) (λ a h. atom_same a (numbered other k a h) ∙ h)

  value_same : (x : ℕ) → 1 ≤ x → x ≤ length program.variables → value_at one.values x ≡ value_at other.values x
  value_same x low high =
      let t = flat_all (lit_true truths) (value_lits other) (range_with_len 1 (length program.variables)) x parts.1 (range_member 1 (length program.variables) x low (omega (arith, high))) in
      let p = and_elim (int_le (truths.value x) (value_at other.values x)) _ t in
      let q = and_elim (int_le (value_at other.values x) (truths.value x)) true p.1 in
      sym (value x) ∙ both (truths.value x) (value_at other.values x) p.0 q.0
    where
      both : (a b : ℤ) → int_le a b ≡ true → int_le b a ≡ true → a ≡ b
      both a b p q = grind (arith, nat_tests, ints, p, q)

  values_same : one.values ≡ other.values
  values_same =
      let n : length one.values ≡ length other.values = m.valuation.each ∙ sym k.valuation.each in
      ext_get_or (pos 0) one.values other.values n
      (λ i lt. at i (value_same (suc i) (omega arith) (let e = m.valuation.each in omega (arith, e, lt))))
    where
      at : (i : ℕ) → value_at one.values (suc i) ≡ value_at other.values (suc i) → slice_index_or one.values i (pos 0) ≡ slice_index_or other.values i (pos 0)
      at i e = subst (λ n. slice_index_or one.values n (pos 0) ≡ slice_index_or other.values n (pos 0)) (less_one i) e
        where
          less_one : (i : ℕ) → suc i - 1 ≡ i
          less_one i = omega arith

  pub same_answer : one ≡ other
  same_answer = ap₂ (λ atoms values. record { atoms = atoms; values = values }) atoms_same values_same

-- a model other than the answer meets the nogood that the answer leaves
pub answer_met : (program : GroundProgram) (one other : Answer) → IsAnswerOf program one → IsAnswerOf program other → (truths : Truths)
    → ((a : ℕ) → truths.atom a ≡ has_atom one.atoms a) → ((x : ℕ) → truths.value x ≡ value_at one.values x) → ¬ (one ≡ other) → Meets truths (answer_nogood program other)
answer_met program one other m k truths atom value differ = go (bool_cases (all_true truths (answer_nogood program other)))
  where
    go : (all_true truths (answer_nogood program other) ≡ true) ⊎ (all_true truths (answer_nogood program other) ≡ false) → Meets truths (answer_nogood program other)
    go (inl all) = absurd (differ (same_answer program one other m k truths atom value all))
    go (inr met) = met
