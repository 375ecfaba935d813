-- The rows of atoms: each atom with the bodies that support it.
use Rattle.std.proofs.Common.{◌≡◌, ℕ, ◌+◌, ◌-◌, ◌<◌, Bool, true, false, cond, ◌==◌, inl, inr, List, [], ◌∷◌, ◌++◌, map, filter, set, get_or, refl, sym, ◌∙◌, ap, ap₂, subst, arith, All}
use Rattle.std.specs.List.{AllByRecursion, range_with_len}
use Rattle.std.proofs.lemmas.List.{map-set}
use Rattle.std.proofs.lemmas.List.Elements.{recursion_from_All, All-from_recursion}
use Rattle.literals.specs.declared.lit.Lit.{Lit}
use Rattle.literals.specs.declared.lit.Lit.TheVariants as l
use Rattle.literals.specs.Lits.{IsLit}
use Rattle.literals.specs.Nogoods.{canonical}
use Rattle.ground_model.specs.Answers.{IsNumbered}
use Rattle.ground_model.specs.Members.{IsMember}
use Rattle.ground_model.proofs.MemberLemmas.{same_nat}
use Rattle.linear_normal.specs.declared.numbered.Support.{Support}
use Rattle.linear_normal.proofs.ListLemmas.{range_numbered}
use Rattle.completion.specs.Inputs.{all_false, supporting, atom_nogood}
use Rattle.completion.specs.inner.Parts.{atom_lits, IsSupport}
use Rattle.completion.proofs.RowLemmas.{row_added, get_row, rows_set}

supporting_more : (supports : List Support) (s : Support) (a : ℕ) → supporting (supports ++ s ∷ []) a ≡ cond (s.atom == a) (supporting supports a ++ s.body ∷ []) (supporting supports a)
supporting_more [] s a = go (s.atom == a)
  where
    go : (b : Bool) → map (λ support. support.body) (cond b (s ∷ []) []) ≡ cond b (s.body ∷ []) []
    go true = refl
    go false = refl
supporting_more (x ∷ supports) s a = go (x.atom == a) (s.atom == a) (supporting_more supports s a)
  where
    go : (b e : Bool) → supporting (supports ++ s ∷ []) a ≡ cond e (supporting supports a ++ s.body ∷ []) (supporting supports a)
        → map (λ support. support.body) (cond b (x ∷ filter (λ support. support.atom == a) (supports ++ s ∷ [])) (filter (λ support. support.atom == a) (supports ++ s ∷ [])))
        ≡ cond e (map (λ support. support.body) (cond b (x ∷ filter (λ support. support.atom == a) supports) (filter (λ support. support.atom == a) supports)) ++ s.body ∷ [])
        (map (λ support. support.body) (cond b (x ∷ filter (λ support. support.atom == a) supports) (filter (λ support. support.atom == a) supports)))
    go true true r = ap (λ bodies. x.body ∷ bodies) r
    go true false r = ap (λ bodies. x.body ∷ bodies) r
    go false true r = r
    go false false r = r

false_end : (bodies : List ℕ) (n : ℕ) → all_false (bodies ++ n ∷ []) ≡ all_false bodies ++ l.Body n false ∷ []
false_end [] n = refl
false_end (b ∷ bodies) n = ap (λ lits. l.Body b false ∷ lits) (false_end bodies n)

row_more : (supports : List Support) (s : Support) (a : ℕ) → (s.atom == a) ≡ true → atom_lits (supports ++ s ∷ []) a ≡ atom_lits supports a ++ l.Body s.body false ∷ []
row_more supports s a e =
    ap (λ bodies. l.Atom a true ∷ all_false bodies) (supporting_more supports s a ∙ ap (λ b. cond b (supporting supports a ++ s.body ∷ []) (supporting supports a)) e)
    ∙ ap (λ lits. l.Atom a true ∷ lits) (false_end (supporting supports a) s.body)

row_same : (supports : List Support) (s : Support) (a : ℕ) → (s.atom == a) ≡ false → atom_lits (supports ++ s ∷ []) a ≡ atom_lits supports a
row_same supports s a e =
    ap (λ bodies. l.Atom a true ∷ all_false bodies) (supporting_more supports s a ∙ ap (λ b. cond b (supporting supports a ++ s.body ∷ []) (supporting supports a)) e)

-- a support adds its body to the row of its atom
pub row_pushed : {V : Type 0} (f : V → List Lit) (rows : List V) (supports : List Support) (s : Support) (n : ℕ) (v d : V) → map f rows ≡ map (atom_lits supports) (range_with_len 1 n) → IsNumbered n s.atom
    → f v ≡ f (get_or rows (s.atom - 1) d) ++ l.Body s.body false ∷ []
    → map f (set rows (s.atom - 1) v) ≡ map (atom_lits (supports ++ s ∷ [])) (range_with_len 1 n)
row_pushed f rows supports s n v d e is p =
    let above = is.above in
    let known = is.known in
    let place : s.atom ≡ 1 + (s.atom - 1) = omega (arith, above) in
    let below : s.atom - 1 < n = omega (arith, above, known) in
    map-set f rows (s.atom - 1) v
    ∙ ap₂ (λ xs y. set xs (s.atom - 1) y) e (
    p
    ∙ ap (λ lits. lits ++ l.Body s.body false ∷ []) (get_row f (atom_lits supports) rows 1 n (s.atom - 1) d e below ∙ ap (atom_lits supports) (sym place))
    ∙ sym (row_more supports s s.atom (same_nat s.atom s.atom refl)))
    ∙ sym (rows_set (atom_lits supports) (atom_lits (supports ++ s ∷ [])) s.atom (row_same supports s) 1 n (s.atom - 1) place below)

-- one more atom has a row of its own
pub row_made : {V : Type 0} (f : V → List Lit) (rows : List V) (n : ℕ) (v : V) → map f rows ≡ map (atom_lits []) (range_with_len 1 n) → f v ≡ l.Atom (n + 1) true ∷ []
    → map f (rows ++ v ∷ []) ≡ map (atom_lits []) (range_with_len 1 (n + 1))
row_made f rows n v e p = row_added f (atom_lits []) rows 1 n v e (p ∙ ap (λ k. l.Atom k true ∷ []) (turned n))
  where
    turned : (n : ℕ) → n + 1 ≡ 1 + n
    turned n = omega arith

-- the rows as nogoods
pub rows_nogoods : {V : Type 0} (f : V → List Lit) (rows : List V) (supports : List Support) (n : ℕ) → map f rows ≡ map (atom_lits supports) (range_with_len 1 n)
    → map (λ row. canonical (f row)) rows ≡ map (atom_nogood supports) (range_with_len 1 n)
rows_nogoods f rows supports n e = sym (twice f canonical rows) ∙ ap (map canonical) e ∙ twice (atom_lits supports) canonical (range_with_len 1 n)
  where
    twice : {X Y Z : Type 0} (f : X → Y) (g : Y → Z) (xs : List X) → map g (map f xs) ≡ map (λ x. g (f x)) xs
    twice f g [] = refl
    twice f g (x ∷ xs) = ap (λ ys. g (f x) ∷ ys) (twice f g xs)

-- their literals are well formed
pub rows_lits : {V : Type 0} (f : V → List Lit) (rows : List V) (supports : List Support) (n : ℕ) → map f rows ≡ map (atom_lits supports) (range_with_len 1 n) → All (IsSupport n) supports
    → All (λ row. All IsLit (f row)) rows
rows_lits {V} f rows supports n e known = All-from_recursion (λ row. All IsLit (f row)) rows (each rows (range_with_len 1 n) (λ a m. range_numbered n a m) e)
  where
    bodies : (xs : List Support) (a : ℕ) → AllByRecursion (IsSupport n) xs → AllByRecursion IsLit (all_false (supporting xs a))
    bodies [] a h = tt
    bodies (x ∷ xs) a h = go (x.atom == a) (bodies xs a h.1)
      where
        go : (b : Bool) → AllByRecursion IsLit (all_false (supporting xs a)) → AllByRecursion IsLit (all_false (map (λ support. support.body) (cond b (x ∷ filter (λ support. support.atom == a) xs) (filter (λ support. support.atom == a) xs))))
        go true r = (h.0.1, r)
        go false r = r

    row : (a : ℕ) → IsNumbered n a → All IsLit (atom_lits supports a)
    row a is = All-from_recursion IsLit (atom_lits supports a) ((let above = is.above in omega (arith, above)), bodies supports a (recursion_from_All (IsSupport n) supports known))

    none : {X : Type 0} {x : X} {xs : List X} → x ∷ xs ≡ [] → ⊥
    none p = cc

    first : {X : Type 0} {x y : X} {xs ys : List X} → x ∷ xs ≡ y ∷ ys → x ≡ y
    first p = cc

    rest : {X : Type 0} {x y : X} {xs ys : List X} → x ∷ xs ≡ y ∷ ys → xs ≡ ys
    rest p = cc

    each : (vs : List V) (atoms : List ℕ) → ((a : ℕ) → IsMember atoms a → IsNumbered n a) → map f vs ≡ map (atom_lits supports) atoms → AllByRecursion (λ row. All IsLit (f row)) vs
    each [] atoms g p = tt
    each (v ∷ vs) [] g p = absurd (none p)
    each (v ∷ vs) (a ∷ atoms) g p = (subst (All IsLit) (sym (first p)) (row a (g a (inl refl))), each vs atoms (λ x m. g x (inr m)) (rest p))
