-- What a line spells is read as that line.
use Rattle.std.proofs.Common.{◌≡◌, ℕ, ◌^◌, true, false, ltb, leb, int_le, lt-ltb, ◌&&◌, List, [], ◌∷◌, ◌++◌, map, Some, None, ℤ, decimal, codes, refl, sym, ◌∙◌, ap, arith}
use Rattle.std.specs.Fmt.{signed_decimal}
use Rattle.std.proofs.lemmas.Bool.{and_parts, eqb-true, leb-true, false≢true}
use Rattle.std.proofs.lemmas.Bool.Decides.{nat_tests}
use Rattle.std.proofs.lemmas.Int.{ints}
use Rattle.std.proofs.lemmas.Fmt.{decimal_digit}
use Rattle.derivation.specs.declared.line.Line.{Line}
use Rattle.derivation.specs.declared.line.Line.TheVariants.{Header, Sum, Distinct, Window, Pair, Loop, Hole, Learned, Answer, Better, EndNone, EndAll, EndBest}
use Rattle.derivation.specs.Spelling.{is_line, IsLine, spelling, fields, is_number, is_window_end, is_domain_end, is_value, ascend, values_ascend}
use Rattle.derivation.specs.Fields.{behind, lit_field, pivot_fields, lits_fields, answer_fields}
use Rattle.derivation.specs.Reading.{reading, atom_item, ends_at, pair_at, answer_of, better_of, loop_of, learned_of, all_rows, header_at}
use Rattle.derivation.proofs.NumberLaws.{behind_ends, small_read, wide_read, integer_read, value_read, window_end_read}
use Rattle.derivation.proofs.ItemLaws.{number_small}
use Rattle.derivation.proofs.RowLaws.{lits_read, numbers_read, pivots_read, values_read, atoms_read}

domain_value : (z : ℤ) → is_domain_end z ≡ true → is_value z ≡ true
domain_value z h = grind (arith, nat_tests, ints)

ends_read : (a b : ℤ) (more : List (List ℕ)) → is_window_end a ≡ true → is_window_end b ≡ true
    → ends_at (behind (signed_decimal a ∷ signed_decimal b ∷ more)) ≡ Some ((a, b), behind more)
unfolding ends_at
ends_read a b more ha hb =
    rw (window_end_read a (behind (signed_decimal b ∷ more)) ha refl) (rw (window_end_read b (behind more) hb (behind_ends more)) refl)

pair_read : (i j : ℕ) (more : List (List ℕ)) → is_number i ≡ true → is_number j ≡ true
    → pair_at (behind (decimal i ∷ decimal j ∷ more)) ≡ Some ((i, j), behind more)
unfolding pair_at
pair_read i j more hi hj =
    rw (small_read i (behind (decimal j ∷ more)) (number_small i hi) refl) (rw (small_read j (behind more) (number_small j hj) (behind_ends more)) refl)

answer_read : (atoms : List ℕ) (values : List (ℕ × ℤ)) → (ascend 0 atoms && values_ascend 0 values) ≡ true
    → answer_of (all_rows atom_item (behind (answer_fields atoms values))) ≡ Answer atoms values
answer_read atoms values h =
    let p = and_parts _ _ h in
    rw (atoms_read atoms values 0 p.0) (rw (values_read values 0 p.1) refl)

better_read : (cost : ℤ) (atoms : List ℕ) (values : List (ℕ × ℤ)) → (ascend 0 atoms && values_ascend 0 values) ≡ true
    → better_of cost (all_rows atom_item (behind (answer_fields atoms values))) ≡ Better cost atoms values
better_read cost atoms values h =
    let p = and_parts _ _ h in
    rw (atoms_read atoms values 0 p.0) (rw (values_read values 0 p.1) refl)

header_read : (version : ℕ) (min max : ℤ) (limit : ℕ) → is_line (Header version min max limit) ≡ true → reading (spelling (Header version min max limit)) ≡ Some (Header version min max limit)
header_read version min max limit h =
    let a = and_parts _ _ h in
    let b = and_parts _ _ a.1 in
    let c = and_parts (is_domain_end max) (int_le min max && (leb 1 limit && leb limit 4194304)) b.1 in
    let d = and_parts (int_le min max) (leb 1 limit && leb limit 4194304) c.1 in
    let e = and_parts (leb 1 limit) (leb limit 4194304) d.1 in
    let one : version ≡ 1 = eqb-true version 1 a.0 in
    let wide : ltb limit (2 ^ 64) ≡ true = lt-ltb limit (2 ^ 64) (omega (arith, leb-true limit 4194304 e.1)) in
    ap (λ v. reading (spelling (Header v min max limit))) one
    ∙ at_one min max limit (domain_value min b.0) (domain_value max c.0) wide
    ∙ ap (λ v. Some (Header v min max limit)) (sym one)
  where
    at_one : (min max : ℤ) (limit : ℕ) → is_value min ≡ true → is_value max ≡ true → ltb limit (2 ^ 64) ≡ true
        → header_at (behind (fields (Header 1 min max limit))) ≡ Some (Header 1 min max limit)
    at_one min max limit hmin hmax hl =
        ap (λ d. header_at (behind (codes "clingcon" ∷ d ∷ signed_decimal min ∷ signed_decimal max ∷ decimal limit ∷ []))) (decimal_digit 1 (omega arith))
        ∙ rw (value_read min (behind (signed_decimal max ∷ decimal limit ∷ [])) hmin refl)
        (rw (value_read max (behind (decimal limit ∷ [])) hmax refl) (rw (wide_read limit [] hl refl) refl))

pub line_read : (line : Line) → is_line line ≡ true → reading (spelling line) ≡ Some line
line_read (Header version min max limit) h = header_read version min max limit h
line_read (Sum c lits) h =
    let p = and_parts _ _ h in
    rw (small_read c (behind (lits_fields lits)) p.0 refl) (ap (λ ls. Some (Sum c ls)) (lits_read lits p.1))
line_read (Distinct c a b lits) h =
    let p = and_parts _ _ h in
    let q = and_parts _ _ p.1 in
    let r = and_parts _ _ q.1 in
    rw (small_read c (behind (signed_decimal a ∷ signed_decimal b ∷ lits_fields lits)) (number_small c p.0) refl)
    (rw (ends_read a b (lits_fields lits) q.0 r.0) (ap (λ ls. Some (Distinct c a b ls)) (lits_read lits r.1)))
line_read (Window c a b lits) h =
    let p = and_parts _ _ h in
    let q = and_parts _ _ p.1 in
    let r = and_parts _ _ q.1 in
    rw (small_read c (behind (codes "w" ∷ signed_decimal a ∷ signed_decimal b ∷ lits_fields lits)) (number_small c p.0) refl)
    (rw (ends_read a b (lits_fields lits) q.0 r.0) (ap (λ ls. Some (Window c a b ls)) (lits_read lits r.1)))
line_read (Pair c i j lits) h =
    let p = and_parts _ _ h in
    let q = and_parts _ _ p.1 in
    let r = and_parts _ _ q.1 in
    rw (small_read c (behind (codes "p" ∷ decimal i ∷ decimal j ∷ lits_fields lits)) (number_small c p.0) refl)
    (rw (pair_read i j (lits_fields lits) q.0 r.0) (ap (λ ls. Some (Pair c i j ls)) (lits_read lits r.1)))
line_read (Loop atoms lits) h =
    let p = and_parts _ _ h in
    let q = and_parts _ _ p.1 in
    ap (λ r. Some (loop_of r)) (numbers_read atoms 0 (map lit_field lits) q.0)
    ∙ ap (λ ls. Some (Loop atoms ls)) (lits_read lits q.1)
line_read (Hole c lits) h =
    let p = and_parts _ _ h in
    rw (small_read c (behind (lits_fields lits)) p.0 refl) (ap (λ ls. Some (Hole c ls)) (lits_read lits p.1))
line_read (Learned id pivots lits) h =
    let p = and_parts _ _ h in
    let q = and_parts _ _ p.1 in
    let rest : List (List ℕ) = pivot_fields pivots ++ lits_fields lits in
    let few : ltb id (2 ^ 64) ≡ true = (and_parts (leb 1 id) (ltb id (2 ^ 64)) p.0).1 in
    rw (wide_read id (behind rest) few (behind_ends rest))
    (ap (λ r. Some (learned_of id r)) (pivots_read pivots (map lit_field lits) q.0)
    ∙ ap (λ ls. Some (Learned id pivots ls)) (lits_read lits q.1))
line_read (Answer atoms values) h = ap Some (answer_read atoms values h)
line_read (Better cost atoms values) h =
    let p = and_parts _ _ h in
    rw (integer_read cost (behind (answer_fields atoms values)) p.0 (behind_ends (answer_fields atoms values))) (ap Some (better_read cost atoms values p.1))
line_read EndNone h = refl
line_read (EndAll n) h = rw (wide_read n [] h refl) refl
line_read (EndBest cost) h = rw (integer_read cost [] h refl) refl

none_some : (line : Line) → None ≡ Some line → ⊥
none_some line e = absurd cc

-- no line has the spelling where none is read
pub none_read : (bytes : List ℕ) → None ≡ reading bytes → (line : Line) → IsLine line → bytes ≡ spelling line → ⊥
none_read bytes h line ok e = none_some line (h ∙ ap reading e ∙ line_read line ok)

same_some : (a b : Line) → Some a ≡ Some b → b ≡ a
same_some a b e = cc

-- a line with the spelling is the one that is read
pub only_read : (bytes : List ℕ) (found : Line) → Some found ≡ reading bytes → (other : Line) → IsLine other → bytes ≡ spelling other → other ≡ found
only_read bytes found h other ok e = same_some found other (h ∙ ap reading e ∙ line_read other ok)

-- what is read and is no line is the spelling of none
pub no_line : (bytes : List ℕ) (found : Line) → Some found ≡ reading bytes → false ≡ is_line found → (other : Line) → IsLine other → bytes ≡ spelling other → ⊥
no_line bytes found h wrong other ok e = false≢true (wrong ∙ ap is_line (sym (only_read bytes found h other ok e)) ∙ ok)

-- two lines of one spelling are one line
pub one_line : (a b : Line) → IsLine a → IsLine b → spelling a ≡ spelling b → a ≡ b
one_line a b is_a is_b same = only_read (spelling b) b (sym (line_read b is_b)) a is_a (sym same)
