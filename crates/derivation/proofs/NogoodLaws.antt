-- The list of a line is a nogood.
use Rattle.std.proofs.Common.{◌≡◌, ◌≤◌, ◌≤ℤ◌, ℕ, ℤ, pos, negsuc, ◌-◌, ◌^◌, Bool, true, ◌&&◌, int_le, IsTrue, List, [], ◌∷◌, arith}
use Rattle.std.specs.List.{AllByRecursion}
use Rattle.std.proofs.lemmas.Bool.{and_parts, leb-true}
use Rattle.std.proofs.lemmas.Bool.Decides.{nat_tests}
use Rattle.std.proofs.lemmas.Int.{ints}
use Rattle.std.proofs.lemmas.List.Elements.{All-from_recursion}
use Rattle.literals.specs.declared.lit.Lit.{Lit}
use Rattle.literals.specs.declared.lit.Lit.TheVariants.{Atom, Body, Constraint, AtMost, AtLeast}
use Rattle.literals.specs.Lits.{IsLit}
use Rattle.literals.specs.Nogoods.{is_before, Rises, IsNogood}
use Rattle.derivation.specs.declared.line.Line.{Line}
use Rattle.derivation.specs.declared.line.Line.TheVariants.{Header, Sum, Distinct, Window, Pair, Loop, Hole, Learned, Answer, Better, EndNone, EndAll, EndBest}
use Rattle.derivation.specs.Lists.{lits_of}
use Rattle.derivation.specs.Spelling.{is_number, is_listed, is_between, lits_follow, are_lits, is_line, is_count, is_window_end, is_some_list, ascend, is_id, are_pivots}

before_trans : (x y z : Lit) → is_before x y ≡ true → is_before y z ≡ true → is_before x z ≡ true
before_trans x y z a b = grind (arith, nat_tests)

number_from_one : (n : ℕ) → is_number n ≡ true → 1 ≤ n
number_from_one n h = leb-true 1 n (and_parts _ _ h).0

low_end : (low k : ℤ) → int_le low k ≡ true → low ≤ℤ k
low_end low k h = grind (arith, nat_tests, ints)

is_lit : (l : Lit) → is_listed l ≡ true → IsLit l
is_lit (Atom n sign) h = number_from_one n h
is_lit (Body n sign) h = number_from_one n h
is_lit (Constraint n sign) h = number_from_one n h
is_lit (AtMost x k) h =
    let p = and_parts (is_number x) (is_between (negsuc (2 ^ 30 - 1)) (pos (2 ^ 30 - 1)) k) h in
    let q = and_parts (int_le (negsuc (2 ^ 30 - 1)) k) (int_le k (pos (2 ^ 30 - 1))) p.1 in
    (number_from_one x p.0, low_end (negsuc (2 ^ 30 - 1)) k q.0, low_end k (pos (2 ^ 30 - 1)) q.1)
is_lit (AtLeast x k) h =
    let p = and_parts (is_number x) (is_between (negsuc (2 ^ 30 - 2)) (pos (2 ^ 30)) k) h in
    let q = and_parts (int_le (negsuc (2 ^ 30 - 2)) k) (int_le k (pos (2 ^ 30))) p.1 in
    (number_from_one x p.0, low_end (negsuc (2 ^ 30 - 2)) k q.0, low_end k (pos (2 ^ 30)) q.1)

abbrev Behind : Lit → List Lit → Type 0
Behind l lits = AllByRecursion (λ m. IsTrue (is_before l m)) lits

behind_all : (last l : Lit) (lits : List Lit) → is_before last l ≡ true → Behind l lits → Behind last lits
behind_all last l [] h all = tt
behind_all last l (m ∷ lits) h all = (before_trans last l m h all.0, behind_all last l lits h all.1)

rises : (last : Lit) (lits : List Lit) → lits_follow last lits ≡ true → Behind last lits × Rises lits
rises last [] h = (tt, tt)
rises last (l ∷ lits) h =
    let p = and_parts (is_before last l) (is_listed l && lits_follow l lits) h in
    let q = and_parts (is_listed l) (lits_follow l lits) p.1 in
    let r = rises l lits q.1 in
    ((p.0, behind_all last l lits p.0 r.0), r)

follow_lits : (last : Lit) (lits : List Lit) → lits_follow last lits ≡ true → AllByRecursion IsLit lits
follow_lits last [] h = tt
follow_lits last (l ∷ lits) h =
    let p = and_parts (is_before last l) (is_listed l && lits_follow l lits) h in
    let q = and_parts (is_listed l) (lits_follow l lits) p.1 in
    (is_lit l q.0, follow_lits l lits q.1)

none : IsNogood []
none = record { rises = tt; literals = All-from_recursion IsLit [] tt }

nogood : (lits : List Lit) → are_lits lits ≡ true → IsNogood lits
nogood [] h = none
nogood (l ∷ lits) h =
    let p = and_parts (is_listed l) (lits_follow l lits) h in
    record { rises = rises l lits p.1; literals = All-from_recursion IsLit (l ∷ lits) (is_lit l p.0, follow_lits l lits p.1) }

last_of_four : (a b c d : Bool) → (a && (b && (c && d))) ≡ true → d ≡ true
last_of_four a b c d h = (and_parts c d (and_parts b (c && d) (and_parts a (b && (c && d)) h).1).1).1

last_of_three : (a b c : Bool) → (a && (b && c)) ≡ true → c ≡ true
last_of_three a b c h = (and_parts b c (and_parts a (b && c) h).1).1

-- the literals of a line are a nogood
pub line_nogood : (line : Line) → IsTrue (is_line line) → IsNogood (lits_of line)
line_nogood (Header version min max limit) h = none
line_nogood (Sum c lits) h = nogood lits (and_parts (is_count c) (are_lits lits) h).1
line_nogood (Distinct c a b lits) h = nogood lits (last_of_four (is_number c) (is_window_end a) (is_window_end b) (are_lits lits) h)
line_nogood (Window c a b lits) h = nogood lits (last_of_four (is_number c) (is_window_end a) (is_window_end b) (are_lits lits) h)
line_nogood (Pair c i j lits) h = nogood lits (last_of_four (is_number c) (is_number i) (is_number j) (are_lits lits) h)
line_nogood (Loop atoms lits) h = nogood lits (last_of_three (is_some_list atoms) (ascend 0 atoms) (are_lits lits) h)
line_nogood (Hole c lits) h = nogood lits (and_parts (is_count c) (are_lits lits) h).1
line_nogood (Learned id pivots lits) h = nogood lits (last_of_three (is_id id) (are_pivots pivots) (are_lits lits) h)
line_nogood (Answer atoms values) h = none
line_nogood (Better cost atoms values) h = none
line_nogood EndNone h = none
line_nogood (EndAll n) h = none
line_nogood (EndBest cost) h = none
