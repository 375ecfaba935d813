-- What an item of a list spells is read as that item; and where another field comes, no item is read.
use Rattle.std.proofs.Common.{◌≡◌, ℕ, ◌^◌, Bool, true, false, ltb, List, [], ◌∷◌, ◌++◌, Some, None, ℤ, decimal, codes, refl, ◌∙◌, ap, arith, append_assoc, ◌&&◌}
use Rattle.std.specs.Fmt.{signed_decimal}
use Rattle.std.proofs.lemmas.Bool.{and_parts}
use Rattle.literals.specs.declared.lit.Lit.{Lit}
use Rattle.literals.specs.declared.lit.Lit.TheVariants.{Atom, Body, Constraint, AtMost, AtLeast}
use Rattle.std.proofs.lemmas.Bool.Decides.{nat_tests}
use Rattle.std.proofs.lemmas.Int.{ints}
use Rattle.derivation.specs.Spelling.{is_number, is_value, is_listed, is_id}
use Rattle.derivation.specs.Fields.{sign_text, lit_field, atom_field, value_field, behind}
use Rattle.derivation.specs.Reading.{number_at, small_at, bound_at, named_at, lit_at, lit_item, pivot_item, number_item, atom_item, value_item}
use Rattle.derivation.proofs.NumberLaws.{Ends, behind_ends, small_read, wide_read, value_read}

pub number_small : (n : ℕ) → is_number n ≡ true → ltb n (2 ^ 32) ≡ true
number_small n h = (and_parts _ _ h).1

at_most_read : (x : ℕ) (k : ℤ) (rest : List ℕ) → ltb x (2 ^ 32) ≡ true → is_value k ≡ true → Ends rest
    → bound_at (decimal x ++ (codes "<=" ++ (signed_decimal k ++ rest))) ≡ Some (AtMost x k, rest)
unfolding bound_at
at_most_read x k rest hx hk ends = rw (small_read x (codes "<=" ++ (signed_decimal k ++ rest)) hx refl) (rw (value_read k rest hk ends) refl)

at_least_read : (x : ℕ) (k : ℤ) (rest : List ℕ) → ltb x (2 ^ 32) ≡ true → is_value k ≡ true → Ends rest
    → bound_at (decimal x ++ (codes ">=" ++ (signed_decimal k ++ rest))) ≡ Some (AtLeast x k, rest)
unfolding bound_at
at_least_read x k rest hx hk ends = rw (small_read x (codes ">=" ++ (signed_decimal k ++ rest)) hx refl) (rw (value_read k rest hk ends) refl)

named_bound : (bytes : List ℕ) → named_at true (118 ∷ bytes) ≡ bound_at bytes
unfolding named_at
named_bound bytes = refl

named_atom : (sign : Bool) (n : ℕ) (rest : List ℕ) → ltb n (2 ^ 32) ≡ true → Ends rest → named_at sign (97 ∷ (decimal n ++ rest)) ≡ Some (Atom n sign, rest)
unfolding named_at
named_atom sign n rest h ends = rw (small_read n rest h ends) refl

named_body : (sign : Bool) (n : ℕ) (rest : List ℕ) → ltb n (2 ^ 32) ≡ true → Ends rest → named_at sign (98 ∷ (decimal n ++ rest)) ≡ Some (Body n sign, rest)
unfolding named_at
named_body sign n rest h ends = rw (small_read n rest h ends) refl

named_constraint : (sign : Bool) (n : ℕ) (rest : List ℕ) → ltb n (2 ^ 32) ≡ true → Ends rest → named_at sign (99 ∷ (decimal n ++ rest)) ≡ Some (Constraint n sign, rest)
unfolding named_at
named_constraint sign n rest h ends = rw (small_read n rest h ends) refl

-- a letter behind its sign
sign_read : (sign : Bool) (b : ℕ) (bytes : List ℕ) → ltb b 126 ≡ true → lit_at (sign_text sign ++ (b ∷ bytes)) ≡ named_at sign (b ∷ bytes)
unfolding lit_at
sign_read true b bytes h = grind (arith, nat_tests)
sign_read false b bytes h = refl

at_most_value : (k : ℤ) → is_listed (AtMost 1 k) ≡ true → is_value k ≡ true
at_most_value k h = grind (arith, nat_tests, ints)

at_least_value : (k : ℤ) → is_listed (AtLeast 1 k) ≡ true → is_value k ≡ true
at_least_value k h = grind (arith, nat_tests, ints)

listed_value_most : (x : ℕ) (k : ℤ) → is_listed (AtMost x k) ≡ true → is_value k ≡ true
listed_value_most x k h = at_most_value k (and_parts _ _ h).1

listed_value_least : (x : ℕ) (k : ℤ) → is_listed (AtLeast x k) ≡ true → is_value k ≡ true
listed_value_least x k h = at_least_value k (and_parts _ _ h).1

pub lit_read : (l : Lit) (rest : List ℕ) → is_listed l ≡ true → Ends rest → lit_at (lit_field l ++ rest) ≡ Some (l, rest)
lit_read (Atom n sign) rest h ends =
    ap lit_at (append_assoc (sign_text sign) (codes "a" ++ decimal n) rest) ∙ sign_read sign 97 (decimal n ++ rest) refl ∙ named_atom sign n rest (number_small n h) ends
lit_read (Body n sign) rest h ends =
    ap lit_at (append_assoc (sign_text sign) (codes "b" ++ decimal n) rest) ∙ sign_read sign 98 (decimal n ++ rest) refl ∙ named_body sign n rest (number_small n h) ends
lit_read (Constraint n sign) rest h ends =
    ap lit_at (append_assoc (sign_text sign) (codes "c" ++ decimal n) rest) ∙ sign_read sign 99 (decimal n ++ rest) refl ∙ named_constraint sign n rest (number_small n h) ends
lit_read (AtMost x k) rest h ends =
    sign_read true 118 ((decimal x ++ (codes "<=" ++ signed_decimal k)) ++ rest) refl ∙ named_bound ((decimal x ++ (codes "<=" ++ signed_decimal k)) ++ rest)
    ∙ ap bound_at (append_assoc (decimal x) (codes "<=" ++ signed_decimal k) rest)
    ∙ at_most_read x k rest (number_small x (and_parts _ _ h).0) (listed_value_most x k h) ends
lit_read (AtLeast x k) rest h ends =
    sign_read true 118 ((decimal x ++ (codes ">=" ++ signed_decimal k)) ++ rest) refl ∙ named_bound ((decimal x ++ (codes ">=" ++ signed_decimal k)) ++ rest)
    ∙ ap bound_at (append_assoc (decimal x) (codes ">=" ++ signed_decimal k) rest)
    ∙ at_least_read x k rest (number_small x (and_parts _ _ h).0) (listed_value_least x k h) ends

pub lit_item_read : (l : Lit) (fields : List (List ℕ)) → is_listed l ≡ true → lit_item (behind (lit_field l ∷ fields)) ≡ Some (l, behind fields)
unfolding lit_item
lit_item_read l fields h = lit_read l (behind fields) h (behind_ends fields)

pub pivot_item_read : (l : Lit) (id : ℕ) (fields : List (List ℕ)) → (is_listed l && is_id id) ≡ true
    → pivot_item (behind (lit_field l ∷ decimal id ∷ fields)) ≡ Some ((l, id), behind fields)
unfolding pivot_item
pivot_item_read l id fields h =
    let parts = and_parts _ _ h in
    let small = (and_parts _ _ parts.1).1 in
    rw (lit_item_read l (decimal id ∷ fields) parts.0) (rw (wide_read id (behind fields) small (behind_ends fields)) refl)

pub number_item_read : (n : ℕ) (fields : List (List ℕ)) → ltb n (2 ^ 32) ≡ true → number_item (behind (decimal n ∷ fields)) ≡ Some (n, behind fields)
unfolding number_item
number_item_read n fields h = small_read n (behind fields) h (behind_ends fields)

pub atom_item_read : (n : ℕ) (fields : List (List ℕ)) → ltb n (2 ^ 32) ≡ true → atom_item (behind (atom_field n ∷ fields)) ≡ Some (n, behind fields)
unfolding atom_item
atom_item_read n fields h = small_read n (behind fields) h (behind_ends fields)

pub value_item_read : (x : ℕ) (k : ℤ) (fields : List (List ℕ)) → ltb x (2 ^ 32) ≡ true → is_value k ≡ true
    → value_item (behind (value_field (x, k) ∷ fields)) ≡ Some ((x, k), behind fields)
unfolding value_item
value_item_read x k fields hx hk =
    let rest : List ℕ = signed_decimal k ++ behind fields in
    let text : (decimal x ++ (codes "=" ++ signed_decimal k)) ++ behind fields ≡ decimal x ++ (61 ∷ rest) = append_assoc (decimal x) (codes "=" ++ signed_decimal k) (behind fields) in
    rw (text, small_read x (61 ∷ rest) hx refl) (rw (value_read k (behind fields) hk (behind_ends fields)) refl)

-- where no item comes

pub no_lit : lit_item [] ≡ None
unfolding lit_item lit_at named_at
no_lit = refl

pub no_pivot : (fields : List (List ℕ)) → pivot_item (behind (codes "=" ∷ fields)) ≡ None
unfolding pivot_item lit_item lit_at named_at
no_pivot fields = refl

pub no_number : (fields : List (List ℕ)) → number_item (behind (codes "=" ∷ fields)) ≡ None
unfolding number_item small_at number_at
no_number fields = refl

pub no_atom : (fields : List (List ℕ)) (x : ℕ) (k : ℤ) → atom_item (behind (value_field (x, k) ∷ fields)) ≡ None
unfolding atom_item
no_atom fields x k = refl

pub no_atom_end : atom_item [] ≡ None
unfolding atom_item
no_atom_end = refl

pub no_value : value_item [] ≡ None
unfolding value_item small_at number_at
no_value = refl
