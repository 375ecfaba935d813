-- The lines of a derivation: how each is spelled, and which lines there are.
use Rattle.std.specs.Prelude.{ℕ, ◌-◌, ◌^◌, Bool, true, false, ◌&&◌, ◌==◌, nat_lt, nat_le, IsTrue, List, [], ◌∷◌, ◌++◌, map, ℤ, pos, negsuc, int_le, codes, decimal}
use Rattle.std.specs.Fmt.{signed_decimal}
use Rattle.literals.specs.Nogoods.{is_before}
use Rattle.literals.specs.declared.lit.Lit.{Lit}
use Rattle.literals.specs.declared.lit.Lit.TheVariants.{Atom, Body, Constraint, AtMost, AtLeast}
use Rattle.derivation.specs.declared.line.Line.{Line}
use Rattle.derivation.specs.declared.line.Line.TheVariants.{Header, Sum, Distinct, Window, Pair, Loop, Hole, Learned, Answer, Better, EndNone, EndAll, EndBest}
use Rattle.derivation.specs.Fields.{pivot_fields, lits_fields, answer_fields, behind}

-- the letter of a line's kind
abbrev pub letter : Line → ℕ
letter (Header version min max limit) = 112
letter (Sum c lits) = 115
letter (Distinct c a b lits) = 100
letter (Window c a b lits) = 103
letter (Pair c i j lits) = 103
letter (Loop atoms lits) = 117
letter (Hole c lits) = 119
letter (Learned id pivots lits) = 114
letter (Answer atoms values) = 109
letter (Better cost atoms values) = 111
letter EndNone = 113
letter (EndAll n) = 113
letter (EndBest cost) = 113

-- the fields behind that letter
abbrev pub fields : Line → List (List ℕ)
fields (Header version min max limit) =
    codes "clingcon" ∷ decimal version ∷ signed_decimal min ∷ signed_decimal max ∷ decimal limit ∷ []
fields (Sum c lits) = decimal c ∷ lits_fields lits
fields (Distinct c a b lits) = decimal c ∷ signed_decimal a ∷ signed_decimal b ∷ lits_fields lits
fields (Window c a b lits) = decimal c ∷ codes "w" ∷ signed_decimal a ∷ signed_decimal b ∷ lits_fields lits
fields (Pair c i j lits) = decimal c ∷ codes "p" ∷ decimal i ∷ decimal j ∷ lits_fields lits
fields (Loop atoms lits) = map decimal atoms ++ lits_fields lits
fields (Hole c lits) = decimal c ∷ lits_fields lits
fields (Learned id pivots lits) = decimal id ∷ (pivot_fields pivots ++ lits_fields lits)
fields (Answer atoms values) = answer_fields atoms values
fields (Better cost atoms values) = signed_decimal cost ∷ answer_fields atoms values
fields EndNone = codes "none" ∷ []
fields (EndAll n) = codes "all" ∷ decimal n ∷ []
fields (EndBest cost) = codes "best" ∷ signed_decimal cost ∷ []

-- the bytes of a line, without its line feed: fields parted by one blank
abbrev pub spelling : Line → List ℕ
spelling line = letter line ∷ behind (fields line)

-- numbers that 0 may stand among, numbers from 1 on, and ids
abbrev pub is_count : ℕ → Bool
is_count n = nat_lt n (2 ^ 32)

abbrev pub is_number : ℕ → Bool
is_number n = nat_le 1 n && nat_lt n (2 ^ 32)

abbrev pub is_id : ℕ → Bool
is_id n = nat_le 1 n && nat_lt n (2 ^ 64)

-- whether the integer lies from low to high
abbrev pub is_between : ℤ → ℤ → ℤ → Bool
is_between low high z = int_le low z && int_le z high

-- the ends of a window lie strictly between -2^63 and 2^63, a value has 32 bits, a cost 128
abbrev pub is_window_end : ℤ → Bool
is_window_end z = is_between (negsuc (2 ^ 63 - 2)) (pos (2 ^ 63 - 1)) z

abbrev pub is_value : ℤ → Bool
is_value z = is_between (negsuc (2 ^ 31 - 1)) (pos (2 ^ 31 - 1)) z

abbrev pub is_cost : ℤ → Bool
is_cost z = is_between (negsuc (2 ^ 127 - 1)) (pos (2 ^ 127 - 1)) z

-- the least and the greatest value of a variable where nothing else is said
abbrev pub is_domain_end : ℤ → Bool
is_domain_end z = is_between (negsuc 1073741822) (pos 1073741823) z

-- whether the literal may stand in a list: its number is one, and a bound and its opposite lie from -2^30 to 2^30
abbrev pub is_listed : Lit → Bool
is_listed (Atom n sign) = is_number n
is_listed (Body n sign) = is_number n
is_listed (Constraint n sign) = is_number n
is_listed (AtMost x k) = is_number x && is_between (negsuc (2 ^ 30 - 1)) (pos (2 ^ 30 - 1)) k
is_listed (AtLeast x k) = is_number x && is_between (negsuc (2 ^ 30 - 2)) (pos (2 ^ 30)) k

-- whether each literal of the list may stand there, and behind the one before it
abbrev pub lits_follow : Lit → List Lit → Bool
lits_follow last [] = true
lits_follow last (l ∷ lits) = is_before last l && (is_listed l && lits_follow l lits)

-- whether the literals are a list of a line: in the order of a nogood, so that none is repeated and a variable has at most one bound on each side
abbrev pub are_lits : List Lit → Bool
are_lits [] = true
are_lits (l ∷ lits) = is_listed l && lits_follow l lits

-- whether the numbers ascend from above this one
abbrev pub ascend : ℕ → List ℕ → Bool
ascend low [] = true
ascend low (n ∷ numbers) = (nat_lt low n && nat_lt n (2 ^ 32)) && ascend n numbers

-- whether the variables ascend from above this one, each with a value
abbrev pub values_ascend : ℕ → List (ℕ × ℤ) → Bool
values_ascend low [] = true
values_ascend low ((x, k) ∷ values) = ((nat_lt low x && nat_lt x (2 ^ 32)) && is_value k) && values_ascend x values

-- whether each is a literal and an id
abbrev pub are_pivots : List (Lit × ℕ) → Bool
are_pivots [] = true
are_pivots ((l, id) ∷ pivots) = (is_listed l && is_id id) && are_pivots pivots

-- whether there is one or more
abbrev pub is_some_list : List ℕ → Bool
is_some_list [] = false
is_some_list (n ∷ numbers) = true

-- whether the line is one of the grammar: every number is in its range, and every list is sorted
abbrev pub is_line : Line → Bool
is_line (Header version min max limit) =
    (version == 1) && (is_domain_end min && (is_domain_end max && (int_le min max && (nat_le 1 limit && nat_le limit 4194304))))
is_line (Sum c lits) = is_count c && are_lits lits
is_line (Distinct c a b lits) = is_number c && (is_window_end a && (is_window_end b && are_lits lits))
is_line (Window c a b lits) = is_number c && (is_window_end a && (is_window_end b && are_lits lits))
is_line (Pair c i j lits) = is_number c && (is_number i && (is_number j && are_lits lits))
is_line (Loop atoms lits) = is_some_list atoms && (ascend 0 atoms && are_lits lits)
is_line (Hole c lits) = is_count c && are_lits lits
is_line (Learned id pivots lits) = is_id id && (are_pivots pivots && are_lits lits)
is_line (Answer atoms values) = ascend 0 atoms && values_ascend 0 values
is_line (Better cost atoms values) = is_cost cost && (ascend 0 atoms && values_ascend 0 values)
is_line EndNone = true
is_line (EndAll n) = nat_lt n (2 ^ 64)
is_line (EndBest cost) = is_cost cost

-- a line of the grammar
abbrev pub IsLine : Line → Type 0
IsLine line = IsTrue (is_line line)
