-- What the fields of a list spell is read as that list, item by item.
use Rattle.std.proofs.Common.{◌≡◌, ℕ, zero, suc, ◌<◌, ◌≤◌, ◌^◌, Bool, true, ltb, ◌&&◌, List, [], ◌∷◌, ◌++◌, map, length, Some, None, ℤ, decimal, codes, refl, sym, ◌∙◌, ap, arith, append_assoc, length-append, append-nil}
use Rattle.std.proofs.lemmas.Bool.{and_parts}
use Rattle.literals.specs.declared.lit.Lit.{Lit}
use Rattle.derivation.specs.Spelling.{is_listed, is_value, is_id, lits_follow, are_lits, ascend, values_ascend, are_pivots}
use Rattle.derivation.specs.Fields.{lit_field, atom_field, value_field, pivot_fields, lits_fields, answer_fields, behind}
use Rattle.derivation.specs.Reading.{Outcome, rows, all_rows, lits_at, lit_item, pivot_item, number_item, atom_item, value_item}
use Rattle.derivation.proofs.ItemLaws.{lit_item_read, pivot_item_read, number_item_read, atom_item_read, value_item_read, no_lit, no_pivot, no_number, no_atom, no_atom_end, no_value}

-- each of the items is as the test asks
abbrev pub Every : {A : Type 0} → (A → Bool) → List A → Type 0
Every ok [] = Unit {0}
Every ok (x ∷ xs) = (ok x ≡ true) × Every ok xs

module _ {A : Type 0} (item : List ℕ → Outcome A) where
  pub row_more : (n : ℕ) (found : List A) (bytes : List ℕ) (x : A) (rest : List ℕ) → item bytes ≡ Some (x, rest)
      → rows item (suc n) found bytes ≡ rows item n (found ++ x ∷ []) rest
  unfolding rows
  row_more n found bytes x rest h = rw (rows, h) refl

  pub row_none : (n : ℕ) (found : List A) (bytes : List ℕ) → item bytes ≡ None → rows item n found bytes ≡ (found, bytes)
  unfolding rows
  row_none zero found bytes h = refl
  row_none (suc n) found bytes h = rw (rows, h) refl

  pub row_end : (found : List A) (bytes : List ℕ) → rows item zero found bytes ≡ (found, bytes)
  unfolding rows
  row_end found bytes = refl

  module _ (ok : A → Bool) (text : List A → List ℕ) (more : (x : A) (xs : List A) → ok x ≡ true → item (text (x ∷ xs)) ≡ Some (x, text xs)) (none : item (text []) ≡ None) where
    pub rows_read : (xs : List A) (n : ℕ) (found : List A) → Every ok xs → length xs ≤ n → rows item n found (text xs) ≡ (found ++ xs, text [])
    rows_read [] n found all fits = row_none n found (text []) none ∙ ap (λ l. (l, text [])) (sym (append-nil found))
    rows_read (x ∷ xs) zero found all fits = absurd (omega (arith, fits))
    rows_read (x ∷ xs) (suc n) found all fits =
        row_more n found (text (x ∷ xs)) x (text xs) (more x xs all.0) ∙ rows_read xs n (found ++ x ∷ []) all.1 (omega (arith, fits))
        ∙ ap (λ l. (l, text [])) (append_assoc found (x ∷ []) xs)

    module _ (longer : (x : A) (xs : List A) → length (text xs) < length (text (x ∷ xs))) where
      text_long : (xs : List A) → length xs ≤ length (text xs)
      text_long [] = omega arith
      text_long (x ∷ xs) = omega (arith, text_long xs, longer x xs)

      pub all_read : (xs : List A) → Every ok xs → all_rows item (text xs) ≡ (xs, text [])
      all_read xs all = rows_read xs (length (text xs)) [] all (text_long xs)

-- a text with one more field is longer
longer_behind : (field : List ℕ) (fields : List (List ℕ)) → length (behind fields) < length (behind (field ∷ fields))
longer_behind field fields = omega (arith, length-append field (behind fields))

-- the tests of lists, item by item

every_follow : (last : Lit) (lits : List Lit) → lits_follow last lits ≡ true → Every is_listed lits
every_follow last [] h = tt
every_follow last (l ∷ lits) h = let p = and_parts _ _ h in let q = and_parts _ _ p.1 in (q.0, every_follow l lits q.1)

every_lits : (lits : List Lit) → are_lits lits ≡ true → Every is_listed lits
every_lits [] h = tt
every_lits (l ∷ lits) h = let p = and_parts _ _ h in (p.0, every_follow l lits p.1)

abbrev small : ℕ → Bool
small n = ltb n (2 ^ 32)

every_ascend : (low : ℕ) (numbers : List ℕ) → ascend low numbers ≡ true → Every small numbers
every_ascend low [] h = tt
every_ascend low (n ∷ numbers) h = let p = and_parts _ _ h in ((and_parts _ _ p.0).1, every_ascend n numbers p.1)

abbrev ok_value : ℕ × ℤ → Bool
ok_value (x, k) = ltb x (2 ^ 32) && is_value k

every_value : (low : ℕ) (values : List (ℕ × ℤ)) → values_ascend low values ≡ true → Every ok_value values
every_value low [] h = tt
every_value low ((x, k) ∷ values) h =
    let p = and_parts _ _ h in
    let q = and_parts _ _ p.0 in
    let r = and_parts _ _ q.0 in
    (both (ltb x (2 ^ 32)) (is_value k) r.1 q.1, every_value x values p.1)
  where
    both : (a b : Bool) → a ≡ true → b ≡ true → (a && b) ≡ true
    both a b e f = rw (e, f) refl

abbrev ok_pivot : Lit × ℕ → Bool
ok_pivot (l, id) = is_listed l && is_id id

every_pivot : (pivots : List (Lit × ℕ)) → are_pivots pivots ≡ true → Every ok_pivot pivots
every_pivot [] h = tt
every_pivot ((l, id) ∷ pivots) h = let p = and_parts _ _ h in (p.0, every_pivot pivots p.1)

-- the lists

lits_row : (lits : List Lit) → Every is_listed lits → all_rows lit_item (behind (map lit_field lits)) ≡ (lits, [])
lits_row lits all =
    all_read lit_item is_listed (λ ls. behind (map lit_field ls)) (λ l ls h. lit_item_read l (map lit_field ls) h) no_lit
    (λ l ls. longer_behind (lit_field l) (map lit_field ls)) lits all

pub lits_read : (lits : List Lit) → are_lits lits ≡ true → lits_at (behind (lits_fields lits)) ≡ lits
lits_read lits h = ap (λ (p : List Lit × List ℕ). p.0) (lits_row lits (every_lits lits h))

pub numbers_read : (numbers : List ℕ) (low : ℕ) (fields : List (List ℕ)) → ascend low numbers ≡ true
    → all_rows number_item (behind (map decimal numbers ++ codes "=" ∷ fields)) ≡ (numbers, behind (codes "=" ∷ fields))
numbers_read numbers low fields h =
    all_read number_item small (λ ns. behind (map decimal ns ++ codes "=" ∷ fields)) (λ n ns e. number_item_read n (map decimal ns ++ codes "=" ∷ fields) e) (no_number fields)
    (λ n ns. longer_behind (decimal n) (map decimal ns ++ codes "=" ∷ fields)) numbers (every_ascend low numbers h)

longer_pivot : (p : Lit × ℕ) (pivots : List (Lit × ℕ)) (fields : List (List ℕ)) → length (behind (pivot_fields pivots ++ fields)) < length (behind (pivot_fields (p ∷ pivots) ++ fields))
longer_pivot (l, id) pivots fields =
    omega (arith, longer_behind (decimal id) (pivot_fields pivots ++ fields), longer_behind (lit_field l) (decimal id ∷ (pivot_fields pivots ++ fields)))

pivot_more : (p : Lit × ℕ) (pivots : List (Lit × ℕ)) (fields : List (List ℕ)) → ok_pivot p ≡ true
    → pivot_item (behind (pivot_fields (p ∷ pivots) ++ fields)) ≡ Some (p, behind (pivot_fields pivots ++ fields))
pivot_more (l, id) pivots fields h = pivot_item_read l id (pivot_fields pivots ++ fields) h

pub pivots_read : (pivots : List (Lit × ℕ)) (fields : List (List ℕ)) → are_pivots pivots ≡ true
    → all_rows pivot_item (behind (pivot_fields pivots ++ codes "=" ∷ fields)) ≡ (pivots, behind (codes "=" ∷ fields))
pivots_read pivots fields h =
    all_read pivot_item ok_pivot (λ ps. behind (pivot_fields ps ++ codes "=" ∷ fields)) (λ p ps e. pivot_more p ps (codes "=" ∷ fields) e) (no_pivot fields)
    (λ p ps. longer_pivot p ps (codes "=" ∷ fields)) pivots (every_pivot pivots h)

value_more : (p : ℕ × ℤ) (values : List (ℕ × ℤ)) → ok_value p ≡ true → value_item (behind (map value_field (p ∷ values))) ≡ Some (p, behind (map value_field values))
value_more (x, k) values h = let q = and_parts _ _ h in value_item_read x k (map value_field values) q.0 q.1

pub values_read : (values : List (ℕ × ℤ)) (low : ℕ) → values_ascend low values ≡ true → all_rows value_item (behind (map value_field values)) ≡ (values, [])
values_read values low h =
    all_read value_item ok_value (λ vs. behind (map value_field vs)) (λ p vs e. value_more p vs e) no_value
    (λ p vs. longer_behind (value_field p) (map value_field vs)) values (every_value low values h)

no_atom_here : (values : List (ℕ × ℤ)) → atom_item (behind (map value_field values)) ≡ None
no_atom_here [] = no_atom_end
no_atom_here ((x, k) ∷ values) = no_atom (map value_field values) x k

pub atoms_read : (atoms : List ℕ) (values : List (ℕ × ℤ)) (low : ℕ) → ascend low atoms ≡ true
    → all_rows atom_item (behind (answer_fields atoms values)) ≡ (atoms, behind (map value_field values))
atoms_read atoms values low h =
    all_read atom_item small (λ ns. behind (answer_fields ns values)) (λ n ns e. atom_item_read n (answer_fields ns values) e) (no_atom_here values)
    (λ n ns. longer_behind (atom_field n) (answer_fields ns values)) atoms (every_ascend low atoms h)
