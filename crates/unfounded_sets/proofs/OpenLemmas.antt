-- Lists that grow at their end.
use Rattle.std.proofs.Common.{◌≡◌, ℕ, zero, suc, ◌+◌, ◌-◌, ◌≤◌, arith, get_or, take, length, ◌<◌, Bool, true, false, not, cond, List, [], ◌∷◌, ◌++◌, map, filter, refl, sym, ◌∙◌, ap, add-one}
use Rattle.std.proofs.Math.Seq.{take-suc}
use Rattle.std.specs.List.{range_with_len}
use Rattle.literals.specs.declared.lit.Lit.TheVariants as l
use Rattle.linear_normal.specs.declared.numbered.Support.{Support}
use Rattle.completion.proofs.RowLemmas.{range_end}
use Rattle.definite_rules.specs.Least.{flag_at}
use Rattle.trail.specs.Assignment.{Assignment, is_true_on}
use Rattle.unfounded_sets.specs.Dependence.{is_outer}
use Rattle.unfounded_sets.specs.inner.Outer.{outer_bodies, is_left, left_of}
use Rattle.unfounded_sets.specs.inner.Open.{fact, facts_of, rule_by, open_rules}

filter_end : {X : Type 0} (p : X → Bool) (xs : List X) (x : X) → filter p (xs ++ x ∷ []) ≡ filter p xs ++ cond (p x) (x ∷ []) []
filter_end p [] x = one (p x)
  where
    one : (b : Bool) → cond b (x ∷ []) [] ≡ [] ++ cond b (x ∷ []) []
    one true = refl
    one false = refl
filter_end p (y ∷ xs) x = go (p y) (filter_end p xs x)
  where
    go : (b : Bool) → filter p (xs ++ x ∷ []) ≡ filter p xs ++ cond (p x) (x ∷ []) [] → cond b (y ∷ filter p (xs ++ x ∷ [])) (filter p (xs ++ x ∷ [])) ≡ cond b (y ∷ filter p xs) (filter p xs) ++ cond (p x) (x ∷ []) []
    go true e = ap (λ ys. y ∷ ys) e
    go false e = e

map_append : {X Y : Type 0} (f : X → Y) (xs ys : List X) → map f (xs ++ ys) ≡ map f xs ++ map f ys
map_append f [] ys = refl
map_append f (x ∷ xs) ys = ap (λ zs. f x ∷ zs) (map_append f xs ys)

append_nil : {X : Type 0} (xs : List X) → xs ++ [] ≡ xs
append_nil [] = refl
append_nil (x ∷ xs) = ap (λ ys. x ∷ ys) (append_nil xs)

-- one more that has the property, or has it not
pub kept_more : {X Y : Type 0} (f : X → Y) (p : X → Bool) (xs : List X) (x : X) → p x ≡ true → map f (filter p (xs ++ x ∷ [])) ≡ map f (filter p xs) ++ f x ∷ []
kept_more f p xs x e = ap (map f) (filter_end p xs x) ∙ map_append f (filter p xs) (cond (p x) (x ∷ []) []) ∙ ap (λ b. map f (filter p xs) ++ map f (cond b (x ∷ []) [])) e

pub left_out_more : {X Y : Type 0} (f : X → Y) (p : X → Bool) (xs : List X) (x : X) → p x ≡ false → map f (filter p (xs ++ x ∷ [])) ≡ map f (filter p xs)
left_out_more f p xs x e =
    ap (map f) (filter_end p xs x) ∙ map_append f (filter p xs) (cond (p x) (x ∷ []) []) ∙ ap (λ b. map f (filter p xs) ++ map f (cond b (x ∷ []) [])) e ∙ append_nil (map f (filter p xs))

-- ATOMS WITHOUT A FLAG

one_more : (n : ℕ) → n + 1 ≡ 1 + n
one_more n = omega arith

left_next : (given : List Bool) (at : ℕ) → 1 ≤ at → left_of given at ≡ filter (is_left given) (range_with_len 1 (at - 1) ++ at ∷ [])
left_next given zero h = absurd (omega (arith, h))
left_next given (suc n) h =
    let e : suc n - 1 ≡ n = omega arith in
    let f : 1 + n ≡ suc n = omega arith in
    ap (filter (is_left given)) (range_end 1 n ∙ ap (λ m. range_with_len 1 n ++ m ∷ []) f) ∙ ap (λ m. filter (is_left given) (range_with_len 1 m ++ (suc n) ∷ [])) (sym e)

pub left_more : (given : List Bool) (at : ℕ) → 1 ≤ at → flag_at given at ≡ false → left_of given (at + 1 - 1) ≡ left_of given (at - 1) ++ at ∷ []
left_more given at h e =
    let same : at + 1 - 1 ≡ at = omega arith in
    ap (left_of given) same ∙ left_next given at h ∙ filter_end (is_left given) (range_with_len 1 (at - 1)) at ∙ ap (λ b. filter (is_left given) (range_with_len 1 (at - 1)) ++ cond b (at ∷ []) []) (ap not e)

pub left_same : (given : List Bool) (at : ℕ) → 1 ≤ at → flag_at given at ≡ true → left_of given (at + 1 - 1) ≡ left_of given (at - 1)
left_same given at h e =
    let same : at + 1 - 1 ≡ at = omega arith in
    ap (left_of given) same ∙ left_next given at h ∙ filter_end (is_left given) (range_with_len 1 (at - 1)) at ∙ ap (λ b. filter (is_left given) (range_with_len 1 (at - 1)) ++ cond b (at ∷ []) []) (ap not e)
    ∙ append_nil (filter (is_left given) (range_with_len 1 (at - 1)))

-- FACTS

facts_next : (t : Assignment) (n : ℕ) → facts_of t (n + 1) ≡ map fact (filter (λ a. is_true_on t (l.Atom a false)) (range_with_len 1 n ++ (n + 1) ∷ []))
facts_next t n = ap (λ xs. map fact (filter (λ a. is_true_on t (l.Atom a false)) xs)) (ap (range_with_len 1) (add-one n) ∙ range_end 1 n ∙ ap (λ m. range_with_len 1 n ++ m ∷ []) (sym (one_more n)))

pub facts_more : (t : Assignment) (n : ℕ) → is_true_on t (l.Atom (n + 1) false) ≡ true → facts_of t (n + 1) ≡ facts_of t n ++ fact (n + 1) ∷ []
facts_more t n e = facts_next t n ∙ kept_more fact (λ a. is_true_on t (l.Atom a false)) (range_with_len 1 n) (n + 1) e

pub facts_same : (t : Assignment) (n : ℕ) → is_true_on t (l.Atom (n + 1) false) ≡ false → facts_of t (n + 1) ≡ facts_of t n
facts_same t n e = facts_next t n ∙ left_out_more fact (λ a. is_true_on t (l.Atom a false)) (range_with_len 1 n) (n + 1) e

-- SUPPORTS

pub open_more : (t : Assignment) (bodies : List (List ℕ)) (supports : List Support) (i : ℕ) (d : Support) → i < length supports → is_true_on t (l.Body (get_or supports i d).body false) ≡ false
    → open_rules t bodies (take (i + 1) supports) ≡ open_rules t bodies (take i supports) ++ rule_by bodies (get_or supports i d) ∷ []
open_more t bodies supports i d h e =
    ap (open_rules t bodies) (ap (λ n. take n supports) (add-one i) ∙ take-suc supports i d h)
    ∙ kept_more (rule_by bodies) (λ support. not (is_true_on t (l.Body support.body false))) (take i supports) (get_or supports i d) (ap not e)

pub open_same : (t : Assignment) (bodies : List (List ℕ)) (supports : List Support) (i : ℕ) (d : Support) → i < length supports → is_true_on t (l.Body (get_or supports i d).body false) ≡ true
    → open_rules t bodies (take (i + 1) supports) ≡ open_rules t bodies (take i supports)
open_same t bodies supports i d h e =
    ap (open_rules t bodies) (ap (λ n. take n supports) (add-one i) ∙ take-suc supports i d h)
    ∙ left_out_more (rule_by bodies) (λ support. not (is_true_on t (l.Body support.body false))) (take i supports) (get_or supports i d) (ap not e)

pub outer_more : (bodies : List (List ℕ)) (set : ℕ → Bool) (supports : List Support) (i : ℕ) (d : Support) → i < length supports → is_outer bodies set (get_or supports i d) ≡ true
    → outer_bodies bodies set (take (i + 1) supports) ≡ outer_bodies bodies set (take i supports) ++ (get_or supports i d).body ∷ []
outer_more bodies set supports i d h e =
    ap (outer_bodies bodies set) (ap (λ n. take n supports) (add-one i) ∙ take-suc supports i d h) ∙ kept_more (λ (support : Support). support.body) (is_outer bodies set) (take i supports) (get_or supports i d) e

pub outer_none : (bodies : List (List ℕ)) (set : ℕ → Bool) (supports : List Support) (i : ℕ) (d : Support) → i < length supports → is_outer bodies set (get_or supports i d) ≡ false
    → outer_bodies bodies set (take (i + 1) supports) ≡ outer_bodies bodies set (take i supports)
outer_none bodies set supports i d h e =
    ap (outer_bodies bodies set) (ap (λ n. take n supports) (add-one i) ∙ take-suc supports i d h) ∙ left_out_more (λ (support : Support). support.body) (is_outer bodies set) (take i supports) (get_or supports i d) e
