-- The list that an answer leaves is a nogood.
use Rattle.std.proofs.Common.{◌≡◌, ◌<◌, ◌≤◌, ◌^◌, ◌*◌, ℕ, zero, suc, ◌+◌, ◌-◌, ◌==◌, nat_lt, Bool, true, false, ◌||◌, ℤ, pos, neg_ℤ, ◌≤ℤ◌, List, [], ◌∷◌, ◌++◌, drop, map, length, slice_index, slice_index_or, refl, sym, ◌∙◌, ap, subst, true≢false, arith, All}
use Rattle.std.specs.Int.{from_bool}
use Rattle.std.proofs.Math.ListN.{drop_of_length-le}
use Rattle.std.proofs.lemmas.Bool.{eqb-true, ne_eqb}
use Rattle.std.specs.List.{AllByRecursion, flat_map, range_with_len}
use Rattle.std.proofs.lemmas.Int.{ints}
use Rattle.std.proofs.lemmas.Bool.Decides.{nat_tests}
use Rattle.std.proofs.lemmas.List.{map-append, append-nil}
use Rattle.std.proofs.lemmas.Grind.{flat_map-append}
use Rattle.std.proofs.lemmas.List.Elements.{All-from_recursion}
use Rattle.literals.specs.declared.lit.Lit.{Lit}
use Rattle.literals.specs.declared.lit.Lit.TheVariants.{Atom, AtMost, AtLeast}
use Rattle.literals.specs.Lits.{IsLit}
use Rattle.literals.specs.Nogoods.{Rises, canonical, is_before}
use Rattle.literals.specs.Parts.{rises_after}
use Rattle.literals.proofs.Puts.{joined-nil, rises_from_steps}
use Rattle.symbols.specs.declared.ends.Ends.{Ends}
use Rattle.ground_model.specs.declared.answer.Answer.{Answer}
use Rattle.ground_model.specs.declared.program.GroundProgram.{GroundProgram}
use Rattle.ground_model.specs.Answers.{ascend_from, has_atom, value_at, IsWithin, IsValuation}
use Rattle.ground_model.proofs.Bools.{and_elim, and_intro}
use Rattle.ground_model.proofs.Products.{drop_next}
use Rattle.linear_normal.proofs.ListLemmas.{all_append}
use Rattle.completion.proofs.RowLemmas.{range_end}
use Rattle.derivation_meaning.specs.Lines.{value_lits, answer_nogood}

-- ONE AFTER ANOTHER

nat_below : (m n : ℕ) → m < n → nat_lt m n ≡ true
nat_below m n below = grind (arith, nat_tests, below)

atom_before : (a : ℕ) (s t : Bool) → is_before (Atom a s) (Atom (a + 1) t) ≡ true
atom_before a true true = nat_below (2 * a + 0) (2 * (a + 1) + 0) (omega arith)
atom_before a true false = nat_below (2 * a + 0) (2 * (a + 1) + 1) (omega arith)
atom_before a false true = nat_below (2 * a + 1) (2 * (a + 1) + 0) (omega arith)
atom_before a false false = nat_below (2 * a + 1) (2 * (a + 1) + 1) (omega arith)

least_after : (x : ℕ) (v w : ℤ) → is_before (AtMost x v) (AtLeast x w) ≡ true
least_after x v w = nat_below (2 * x) (2 * x + 1) (omega arith)

most_after : (x : ℕ) (v w : ℤ) → is_before (AtLeast x v) (AtMost (x + 1) w) ≡ true
most_after x v w = nat_below (2 * x + 1) (2 * (x + 1)) (omega arith)

values_after : (answer : Answer) (last : Lit) (x m : ℕ) → ((k : ℤ) → is_before last (AtMost x k) ≡ true)
    → rises_after last (flat_map (value_lits answer) (range_with_len x m)) ≡ true
values_after answer last x zero before = refl
values_after answer last x (suc m) before =
    and_intro (is_before last (AtMost x (value_at answer.values x))) _ (before (value_at answer.values x))
    (and_intro (is_before (AtMost x (value_at answer.values x)) (AtLeast x (value_at answer.values x))) _ (least_after x (value_at answer.values x) (value_at answer.values x))
    (values_after answer (AtLeast x (value_at answer.values x)) (x + 1) m (λ k. most_after x (value_at answer.values x) k)))

values_rise : (answer : Answer) (x m : ℕ) → Rises (flat_map (value_lits answer) (range_with_len x m))
values_rise answer x zero = tt
values_rise answer x (suc m) =
    rises_from_steps (AtMost x (value_at answer.values x)) (AtLeast x (value_at answer.values x) ∷ flat_map (value_lits answer) (range_with_len (x + 1) m))
    (and_intro (is_before (AtMost x (value_at answer.values x)) (AtLeast x (value_at answer.values x))) _ (least_after x (value_at answer.values x) (value_at answer.values x))
    (values_after answer (AtLeast x (value_at answer.values x)) (x + 1) m (λ k. most_after x (value_at answer.values x) k)))

atoms_after : (answer : Answer) (m : ℕ) (a : ℕ) (s : Bool) (n : ℕ)
    → rises_after (Atom a s) (map (λ b. Atom b (has_atom answer.atoms b)) (range_with_len (a + 1) n) ++ flat_map (value_lits answer) (range_with_len 1 m)) ≡ true
atoms_after answer m a s zero = values_after answer (Atom a s) 1 m (λ k. refl)
atoms_after answer m a s (suc n) =
    and_intro (is_before (Atom a s) (Atom (a + 1) (has_atom answer.atoms (a + 1)))) _ (atom_before a s (has_atom answer.atoms (a + 1)))
    (atoms_after answer m (a + 1) (has_atom answer.atoms (a + 1)) n)

rises : (answer : Answer) (n m : ℕ) → Rises (map (λ b. Atom b (has_atom answer.atoms b)) (range_with_len 1 n) ++ flat_map (value_lits answer) (range_with_len 1 m))
rises answer zero m = values_rise answer 1 m
rises answer (suc n) m =
    rises_from_steps (Atom 1 (has_atom answer.atoms 1)) (map (λ b. Atom b (has_atom answer.atoms b)) (range_with_len 2 n) ++ flat_map (value_lits answer) (range_with_len 1 m))
    (atoms_after answer m 1 (has_atom answer.atoms 1) n)

pub answer_canonical : (program : GroundProgram) (answer : Answer) → canonical (answer_nogood program answer) ≡ answer_nogood program answer
answer_canonical program answer = joined-nil (answer_nogood program answer) (rises answer (length program.atoms) (length program.variables))

-- ONE MORE

range_more : (n : ℕ) → range_with_len 1 (n + 1) ≡ range_with_len 1 n ++ (n + 1) ∷ []
range_more n = ap (range_with_len 1) (onemore n) ∙ range_end 1 n ∙ ap (λ k. range_with_len 1 n ++ k ∷ []) (swapped n)
  where
    onemore : (n : ℕ) → n + 1 ≡ suc n
    onemore n = omega arith

    swapped : (n : ℕ) → 1 + n ≡ n + 1
    swapped n = omega arith

pub atoms_next : (f : ℕ → Lit) (n : ℕ) → map f (range_with_len 1 (n + 1)) ≡ map f (range_with_len 1 n) ++ f (n + 1) ∷ []
atoms_next f n = ap (map f) (range_more n) ∙ map-append f (range_with_len 1 n) ((n + 1) ∷ [])

pub values_next : (f : ℕ → List Lit) (n : ℕ) → flat_map f (range_with_len 1 (n + 1)) ≡ flat_map f (range_with_len 1 n) ++ f (n + 1)
values_next f n =
    ap (flat_map f) (range_more n) ∙ flat_map-append f (range_with_len 1 n) ((n + 1) ∷ [])
    ∙ ap (λ xs. flat_map f (range_with_len 1 n) ++ xs) (append-nil (f (n + 1)))

-- EACH A LITERAL

atoms_formed : (answer : Answer) (a n : ℕ) → 1 ≤ a → AllByRecursion IsLit (map (λ b. Atom b (has_atom answer.atoms b)) (range_with_len a n))
atoms_formed answer a zero above = tt
atoms_formed answer a (suc n) above = (above, atoms_formed answer (a + 1) n (omega (arith, above)))

value_within : (ends : Ends) (values : List ℤ) (i : ℕ) → AllByRecursion (IsWithin ends) values → i < length values → IsWithin ends (slice_index_or values i (pos 0))
value_within ends [] i within below = absurd (omega (arith, below))
value_within ends (v ∷ values) zero within below = within.0
value_within ends (v ∷ values) (suc i) within below = value_within ends values i within.1 (omega (arith, below))

value_bounds : (ends : Ends) (k : ℤ) → IsWithin ends k
    → (neg_ℤ (pos (2 ^ 30)) ≤ℤ k) × (k ≤ℤ pos (2 ^ 30 - 1)) × (neg_ℤ (pos (2 ^ 30 - 1)) ≤ℤ k) × (k ≤ℤ pos (2 ^ 30))
value_bounds ends k within =
    let least = ends.low in
    let greatest = ends.high in
    let low = within.0 in
    let high = within.1 in
    (grind (arith, ints), grind (arith, ints), grind (arith, ints), grind (arith, ints))

values_formed : (ends : Ends) (answer : Answer) (x m : ℕ) → 1 ≤ x → x + m ≤ length answer.values + 1 → AllByRecursion (IsWithin ends) answer.values
    → AllByRecursion IsLit (flat_map (value_lits answer) (range_with_len x m))
values_formed ends answer x zero above below within = tt
values_formed ends answer x (suc m) above below within =
    let at : x - 1 < length answer.values = omega (arith, above, below) in
    let here : IsWithin ends (value_at answer.values x) = value_within ends answer.values (x - 1) within at in
    let bounds = value_bounds ends (value_at answer.values x) here in (
      (above, bounds.0, bounds.1),
      (
        (above, bounds.2, bounds.3),
        values_formed ends answer (x + 1) m (omega (arith, above)) (omega (arith, below)) within,
      ),
    )

pub answer_literals : (program : GroundProgram) (answer : Answer) → IsValuation program answer.values → All IsLit (answer_nogood program answer)
answer_literals program answer valuation =
    All-from_recursion IsLit _ (all_append IsLit (map (λ a. Atom a (has_atom answer.atoms a)) (range_with_len 1 (length program.atoms))) (flat_map (value_lits answer) (range_with_len 1 (length program.variables)))
    (atoms_formed answer 1 (length program.atoms) (omega arith))
    (values_formed program.ends answer 1 (length program.variables) (omega arith) (sizes (length program.variables) (length answer.values) valuation.each) valuation.within))
  where
    sizes : (m k : ℕ) → k ≡ m → 1 + m ≤ k + 1
    sizes m k e = omega (arith, e)

-- ONE WALK

above_none : (low a : ℕ) (atoms : List ℕ) → ascend_from low atoms ≡ true → a ≤ low → has_atom atoms a ≡ false
above_none low a [] up below = refl
above_none low a (b ∷ rest) up below =
    let p = and_elim (nat_lt low b) (ascend_from b rest) up in
    rw (other low a b p.0 below) (above_none b a rest p.1 (more low a b p.0 below))
  where
    more : (low a b : ℕ) → nat_lt low b ≡ true → a ≤ low → a ≤ b
    more low a b up below = grind (arith, nat_tests)

    other : (low a b : ℕ) → nat_lt low b ≡ true → a ≤ low → (b == a) ≡ false
    other low a b up below = grind (arith, nat_tests)

or_false : (b : Bool) → (b || false) ≡ b
or_false true = refl
or_false false = refl

-- the first of ascending atoms is alone in not being above it
head_alone : (x atom : ℕ) (rest : List ℕ) → ascend_from (atom - 1) (x ∷ rest) ≡ true → has_atom (x ∷ rest) atom ≡ (x == atom)
head_alone x atom rest up =
    let p = and_elim (nat_lt (atom - 1) x) (ascend_from x rest) up in
    rw (above_none x atom rest p.1 (least x atom p.0)) (or_false (x == atom))
  where
    least : (x atom : ℕ) → nat_lt (atom - 1) x ≡ true → atom ≤ x
    least x atom h = grind (arith, nat_tests)

-- whether the next atom is this one
pub next_is : (atoms : List ℕ) (next atom : ℕ) → ascend_from (atom - 1) (drop next atoms) ≡ true → next < length atoms
    → has_atom (drop next atoms) atom ≡ (slice_index atoms next == atom)
next_is atoms next atom up below =
    let is = drop_next atoms next 0 below in
    let up : ascend_from (atom - 1) (slice_index atoms next ∷ drop (next + 1) atoms) ≡ true = subst (λ (rest : List ℕ). ascend_from (atom - 1) rest ≡ true) is up in
    ap (λ (rest : List ℕ). has_atom rest atom) is ∙ head_alone (slice_index atoms next) atom (drop (next + 1) atoms) up

pub none_is_next : (atoms : List ℕ) (next atom : ℕ) → length atoms ≤ next → has_atom (drop next atoms) atom ≡ false
none_is_next atoms next atom above = ap (λ (rest : List ℕ). has_atom rest atom) (drop_of_length-le atoms above)

-- the atoms from here on are those above this number, and for these they tell as much as all
pub record IsWalk (atoms : List ℕ) (at next : ℕ) : Type 0 where
  pub above : ascend_from at (drop next atoms) ≡ true
  pub same : (a : ℕ) → at < a → has_atom atoms a ≡ has_atom (drop next atoms) a

pub walk_start : (atoms : List ℕ) → ascend_from 0 atoms ≡ true → IsWalk atoms 0 0
walk_start atoms up = record { above = up; same = λ a above. refl }

-- past an atom that was there
pub walk_true : (atoms : List ℕ) (at next : ℕ) → IsWalk atoms at next → next < length atoms → has_atom (drop next atoms) (at + 1) ≡ true → IsWalk atoms (at + 1) (next + 1)
walk_true atoms at next w below there =
    let is = drop_next atoms next 0 below in
    let x : ℕ = slice_index atoms next in
    let up : ascend_from at (x ∷ drop (next + 1) atoms) ≡ true = subst (λ (rest : List ℕ). ascend_from at rest ≡ true) is w.above in
    let up' : ascend_from (at + 1 - 1) (x ∷ drop (next + 1) atoms) ≡ true = let e : at + 1 - 1 ≡ at = omega arith in rw e up in
    let same : x ≡ at + 1 = eqb-true x (at + 1) (sym (head_alone x (at + 1) (drop (next + 1) atoms) up') ∙ ap (λ (rest : List ℕ). has_atom rest (at + 1)) (sym is) ∙ there) in
    let p = and_elim (nat_lt at x) (ascend_from x (drop (next + 1) atoms)) up in
    record {
      above = subst (λ (n : ℕ). ascend_from n (drop (next + 1) atoms) ≡ true) same p.1;
      same = λ a above.
          w.same a (omega (arith, above)) ∙ ap (λ (rest : List ℕ). has_atom rest a) is
          ∙ (let other : (x == a) ≡ false = ne_eqb x a (λ e. omega (arith, e, same, above)) in rw other refl);
    }

-- past an atom that was not there
pub walk_false : (atoms : List ℕ) (at next : ℕ) → IsWalk atoms at next → has_atom (drop next atoms) (at + 1) ≡ false → IsWalk atoms (at + 1) next
walk_false atoms at next w missing = record {
  above = go (drop next atoms) w.above missing;
  same = λ a above. w.same a (omega (arith, above));
}
  where
    past : (at x : ℕ) → nat_lt at x ≡ true → (x == at + 1) ≡ false → nat_lt (at + 1) x ≡ true
    past at x up other = grind (arith, nat_tests)

    go : (rest : List ℕ) → ascend_from at rest ≡ true → has_atom rest (at + 1) ≡ false → ascend_from (at + 1) rest ≡ true
    go [] up missing = refl
    go (x ∷ rest) up missing =
        let p = and_elim (nat_lt at x) (ascend_from x rest) up in
        and_intro (nat_lt (at + 1) x) (ascend_from x rest) (past at x p.0 (neither (x == at + 1) (has_atom rest (at + 1)) missing)) p.1
      where
        neither : (b c : Bool) → (b || c) ≡ false → b ≡ false
        neither true c e = absurd (true≢false e)
        neither false c e = refl

-- what one walk finds of the atom that comes next
pub walk_tells : (atoms : List ℕ) (at next : ℕ) → IsWalk atoms at next → has_atom (drop next atoms) (at + 1) ≡ has_atom atoms (at + 1)
walk_tells atoms at next w = sym (w.same (at + 1) (omega arith))

-- past an atom
pub walk_on : (atoms : List ℕ) (at next : ℕ) (there : Bool) → IsWalk atoms at next → next ≤ length atoms → (there ≡ true → next < length atoms)
    → there ≡ has_atom (drop next atoms) (at + 1) → IsWalk atoms (at + 1) (next + from_bool there) × (next + from_bool there ≤ length atoms)
walk_on atoms at next true w within below is = let b = below refl in (walk_true atoms at next w b (sym is), omega (arith, b))
walk_on atoms at next false w within below is =
    let same : next + 0 ≡ next = omega arith in
    (subst (IsWalk atoms (at + 1)) (sym same) (walk_false atoms at next w (sym is)), omega (arith, within))
