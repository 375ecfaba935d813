-- Ranges in order that are joined give parted intervals with their integers.
use Rattle.std.proofs.Common.{◌≡◌, ◌≤◌, ◌⊎◌, inl, inr, suc, Bool, true, false, ◌&&◌, if◌then◌else◌, ℤ, pos, ◌+ℤ◌, ◌-ℤ◌, ◌≤ℤ◌, ◌<ℤ◌, int_lt, int_le, List, [], ◌∷◌, ◌++◌, length, None, Some, refl, sym, subst, true≢false, arith}
use Rattle.std.specs.List.{AllByRecursion}
use Rattle.std.specs.Ordering.{int_cmp, ordering_then}
use Rattle.std.specs.declared.cmp.Ordering.{Ordering}
use Rattle.std.specs.declared.cmp.Ordering.TheVariants.{Less, Equal, Greater}
use Rattle.std.proofs.lemmas.Bool.Decides.{nat_tests}
use Rattle.std.proofs.lemmas.Cmp.{int_ranked}
use Rattle.std.proofs.lemmas.Int.{ints}
use Rattle.ground_model.specs.Intervals.{are_parted, are_parted_from, lies_in}
use Rattle.ground_model.specs.Members.{IsMember}
use Rattle.ground_model.proofs.Bools.{and_elim, and_intro, or_elim, or_left, or_right}
use Rattle.program_meaning.specs.Ascending.{Ascends}
use Rattle.interval_sets.specs.Ranges.{range_cmp, HasIntegersOf}
use Rattle.interval_sets.specs.inner.Joins.{those, touches, greater_of, joined}

abbrev Range : Type 0
Range = ℤ × ℤ

-- INTEGERS

test_le : (a b : ℤ) → a ≤ℤ b → int_le a b ≡ true
test_le a b l = grind (arith, nat_tests, ints, l)

from_test : (a b : ℤ) → int_le a b ≡ true → a ≤ℤ b
from_test a b e = grind (arith, nat_tests, ints, e)

test_lt : (a b : ℤ) → a <ℤ b → int_lt a b ≡ true
test_lt a b l = grind (arith, nat_tests, ints, l)

not_lt : (a b : ℤ) → int_lt a b ≡ false → b ≤ℤ a
not_lt a b e = grind (arith, nat_tests, ints, e)

from_lt : (a b : ℤ) → int_lt a b ≡ true → a <ℤ b
from_lt a b e = grind (arith, nat_tests, ints, e)

not_le : (a b : ℤ) → int_le a b ≡ false → b <ℤ a
not_le a b e = grind (arith, nat_tests, ints, e)

-- RANGES IN ORDER

-- each begins no earlier than those before it
abbrev Begins : List Range → Type 0
Begins [] = Unit {0}
Begins (range ∷ rest) = AllByRecursion (λ (other : Range). range.0 ≤ℤ other.0) rest × Begins rest

less_begins : (a b : Range) → range_cmp a b ≡ Less → a.0 ≤ℤ b.0
less_begins a b e = go (int_cmp a.0 b.0) refl e
  where
    weaker : (x y : ℤ) → x <ℤ y → x ≤ℤ y
    weaker x y l = omega (arith, ints, l)

    same : (x y : ℤ) → x ≡ y → x ≤ℤ y
    same x y e = omega (arith, ints, e)

    go : (o : Ordering) → int_cmp a.0 b.0 ≡ o → ordering_then o (int_cmp a.1 b.1) ≡ Less → a.0 ≤ℤ b.0
    go Less is e = weaker a.0 b.0 (int_ranked a.0 b.0 Less (sym is))
    go Equal is e = same a.0 b.0 (int_ranked a.0 b.0 Equal (sym is))
    go Greater is e = cc

begins : (ranges : List Range) → Ascends range_cmp ranges → Begins ranges
begins [] a = tt
begins (range ∷ rest) a = (each rest a.0, begins rest a.1)
  where
    each : (others : List Range) → AllByRecursion (λ (other : Range). range_cmp range other ≡ Less) others → AllByRecursion (λ (other : Range). range.0 ≤ℤ other.0) others
    each [] h = tt
    each (other ∷ others) h = (less_begins range other h.0, each others h.1)

-- THE INTERVAL THAT MAY GROW

-- it is not empty, begins at least 2 above the last one, and no range begins before it
record Grows (last : ℤ) (interval : Range) (ranges : List Range) : Type 0 where
  gap : (last +ℤ pos 2) ≤ℤ interval.0
  full : interval.0 ≤ℤ interval.1
  before : AllByRecursion (λ (range : Range). interval.0 ≤ℤ range.0) ranges

greater_left : (a b : ℤ) → a ≤ℤ greater_of a b
greater_left a b = go (int_lt a b) refl
  where
    weaker : (x y : ℤ) → x <ℤ y → x ≤ℤ y
    weaker x y l = omega (arith, ints, l)

    itself : (x : ℤ) → x ≤ℤ x
    itself x = omega (arith, ints)

    go : (t : Bool) → int_lt a b ≡ t → a ≤ℤ (if t then b else a)
    go true e = weaker a b (from_lt a b e)
    go false e = itself a

greater_right : (a b : ℤ) → b ≤ℤ greater_of a b
greater_right a b = go (int_lt a b) refl
  where
    itself : (x : ℤ) → x ≤ℤ x
    itself x = omega (arith, ints)

    go : (t : Bool) → int_lt a b ≡ t → b ≤ℤ (if t then b else a)
    go true e = itself b
    go false e = not_lt a b e

greater_one : (a b n : ℤ) → n ≤ℤ greater_of a b → (n ≤ℤ a) ⊎ (n ≤ℤ b)
greater_one a b n = go (int_lt a b)
  where
    go : (t : Bool) → n ≤ℤ (if t then b else a) → (n ≤ℤ a) ⊎ (n ≤ℤ b)
    go true l = inr l
    go false l = inl l

chain : (a b c : ℤ) → a ≤ℤ b → b ≤ℤ c → a ≤ℤ c
chain a b c p q = omega (arith, ints, p, q)

below_gap : (end begin : ℤ) → int_le begin (end +ℤ pos 1) ≡ false → (end +ℤ pos 2) ≤ℤ begin
below_gap end begin e = let l = not_le begin (end +ℤ pos 1) e in omega (arith, ints, l)

-- PARTED

parted_more : (last : ℤ) (interval : Range) (rest : List Range) → (last +ℤ pos 2) ≤ℤ interval.0 → interval.0 ≤ℤ interval.1 → are_parted_from interval.1 rest ≡ true
    → are_parted_from last (interval ∷ rest) ≡ true
parted_more last interval rest gap full more =
    and_intro (int_le (last +ℤ pos 2) interval.0 && int_le interval.0 interval.1) (are_parted_from interval.1 rest)
    (and_intro (int_le (last +ℤ pos 2) interval.0) (int_le interval.0 interval.1) (test_le (last +ℤ pos 2) interval.0 gap) (test_le interval.0 interval.1 full)) more

parted_grown : (ranges : List Range) → Begins ranges → (last : ℤ) (interval : Range) → Grows last interval ranges → are_parted_from last (joined (Some interval) ranges) ≡ true
parted_grown [] b last interval g = parted_more last interval [] g.gap g.full refl
parted_grown (range ∷ rest) b last interval g = go (parted_grown rest b.1) (int_lt range.1 range.0) refl (touches interval.1 range.0) refl
  where
    go : ((last : ℤ) (interval : Range) → Grows last interval rest → are_parted_from last (joined (Some interval) rest) ≡ true) → (t : Bool) → int_lt range.1 range.0 ≡ t → (u : Bool) → touches interval.1 range.0 ≡ u
        → are_parted_from last (those (if t then None else (if u then None else Some interval))
        ++ joined (if t then Some interval else (if u then Some (interval.0, greater_of interval.1 range.1) else Some range)) rest) ≡ true
    go rec true e u f = rec last interval (record { gap = g.gap; full = g.full; before = g.before.1 })
    go rec false e true f =
        rec last (interval.0, greater_of interval.1 range.1)
        (record { gap = g.gap; full = chain interval.0 interval.1 (greater_of interval.1 range.1) g.full (greater_left interval.1 range.1); before = g.before.1 })
    go rec false e false f =
        parted_more last interval (joined (Some range) rest) g.gap g.full
        (rec interval.1 range (record { gap = below_gap interval.1 range.0 f; full = not_lt range.1 range.0 e; before = b.0 }))

-- without a last one
parted_alone : (last : ℤ) (intervals : List Range) → are_parted_from last intervals ≡ true → are_parted intervals ≡ true
parted_alone last [] e = refl
parted_alone last (interval ∷ rest) e =
    let both = and_elim (int_le (last +ℤ pos 2) interval.0 && int_le interval.0 interval.1) (are_parted_from interval.1 rest) e in
    and_intro (int_le interval.0 interval.1) (are_parted_from interval.1 rest) (and_elim (int_le (last +ℤ pos 2) interval.0) (int_le interval.0 interval.1) both.0).1 both.1

two_below : (n : ℤ) → ((n -ℤ pos 2) +ℤ pos 2) ≤ℤ n
two_below n = omega (arith, ints)

parted_joined : (ranges : List Range) → Begins ranges → are_parted (joined None ranges) ≡ true
parted_joined [] b = refl
parted_joined (range ∷ rest) b = go (parted_joined rest b.1) (int_lt range.1 range.0) refl
  where
    go : are_parted (joined None rest) ≡ true → (t : Bool) → int_lt range.1 range.0 ≡ t → are_parted (joined (if t then None else Some range) rest) ≡ true
    go rec true e = rec
    go rec false e =
        parted_alone (range.0 -ℤ pos 2) (joined (Some range) rest)
        (parted_grown rest b.1 (range.0 -ℤ pos 2) range (record { gap = two_below range.0; full = not_lt range.1 range.0 e; before = b.0 }))

pub parted_ranges : (ranges : List Range) → Ascends range_cmp ranges → are_parted (joined None ranges) ≡ true
parted_ranges ranges a = parted_joined ranges (begins ranges a)

-- NO MORE THAN THE RANGES

few_grown : (interval : Range) (ranges : List Range) → length (joined (Some interval) ranges) ≤ suc (length ranges)
few_grown interval [] = omega arith
few_grown interval (range ∷ rest) = go (λ z. few_grown z rest) (int_lt range.1 range.0) (touches interval.1 range.0)
  where
    go : ((z : Range) → length (joined (Some z) rest) ≤ suc (length rest)) → (t u : Bool) → length (those (if t then None else (if u then None else Some interval))
        ++ joined (if t then Some interval else (if u then Some (interval.0, greater_of interval.1 range.1) else Some range)) rest) ≤ suc (suc (length rest))
    go rec true u = let more = rec interval in omega (arith, more)
    go rec false true = let more = rec (interval.0, greater_of interval.1 range.1) in omega (arith, more)
    go rec false false = let more = rec range in omega (arith, more)

pub few_joined : (ranges : List Range) → length (joined None ranges) ≤ length ranges
few_joined [] = omega arith
few_joined (range ∷ rest) = go (few_joined rest) (int_lt range.1 range.0)
  where
    go : length (joined None rest) ≤ length rest → (t : Bool) → length (joined (if t then None else Some range) rest) ≤ suc (length rest)
    go more true = omega (arith, more)
    go more false = few_grown range rest

-- INTEGERS OF THE RANGES

abbrev Within : ℤ → Range → Type 0
Within n range = (range.0 ≤ℤ n) × (n ≤ℤ range.1)

abbrev WithinSome : List Range → ℤ → Type 0
WithinSome ranges n = (range : Range) × IsMember ranges range × (range.0 ≤ℤ n) × (n ≤ℤ range.1)

later : (range : Range) (rest : List Range) (n : ℤ) → WithinSome rest n → WithinSome (range ∷ rest) n
later range rest n (r, m, a, b) = (r, inr m, a, b)

now : (range : Range) (rest : List Range) (n : ℤ) → Within n range → WithinSome (range ∷ rest) n
now range rest n w = (range, inl refl, w.0, w.1)

split : (range : Range) (rest : List Range) (n : ℤ) → WithinSome (range ∷ rest) n → Within n range ⊎ WithinSome rest n
split range rest n (r, inl e, a, b) = inl (subst (λ (x : Range). Within n x) e (a, b))
split range rest n (r, inr m, a, b) = inr (r, m, a, b)

lies_split : (x : Range) (xs : List Range) (n : ℤ) → lies_in (x ∷ xs) n ≡ true → Within n x ⊎ (lies_in xs n ≡ true)
lies_split x xs n e = go (or_elim (int_le x.0 n && int_le n x.1) (lies_in xs n) e)
  where
    go : ((int_le x.0 n && int_le n x.1) ≡ true) ⊎ (lies_in xs n ≡ true) → Within n x ⊎ (lies_in xs n ≡ true)
    go (inl l) = let both = and_elim (int_le x.0 n) (int_le n x.1) l in inl (from_test x.0 n both.0, from_test n x.1 both.1)
    go (inr r) = inr r

lies_here : (x : Range) (xs : List Range) (n : ℤ) → Within n x → lies_in (x ∷ xs) n ≡ true
lies_here x xs n w = or_left (int_le x.0 n && int_le n x.1) (lies_in xs n) (and_intro (int_le x.0 n) (int_le n x.1) (test_le x.0 n w.0) (test_le n x.1 w.1))

lies_later : (x : Range) (xs : List Range) (n : ℤ) → lies_in xs n ≡ true → lies_in (x ∷ xs) n ≡ true
lies_later x xs n e = or_right (int_le x.0 n && int_le n x.1) (lies_in xs n) e

-- an empty range has none
no_integers : (range : Range) (n : ℤ) → int_lt range.1 range.0 ≡ true → Within n range → ⊥
no_integers range n e w = none range.0 range.1 (from_lt range.1 range.0 e) w.0 w.1
  where
    none : (low high : ℤ) → high <ℤ low → low ≤ℤ n → n ≤ℤ high → ⊥
    none low high l a b = absurd (omega (arith, ints, l, a, b))

-- what lies in an interval that grew lay in it or in the range
grown_from : (interval range : Range) (n : ℤ) → interval.0 ≤ℤ range.0 → touches interval.1 range.0 ≡ true → Within n (interval.0, greater_of interval.1 range.1) → Within n interval ⊎ Within n range
grown_from interval range n before f w = go (greater_one interval.1 range.1 n w.1)
  where
    side : (t : Bool) → int_lt interval.1 n ≡ t → n ≤ℤ range.1 → Within n interval ⊎ Within n range
    side true e r = inr (begins_by interval.1 range.0 n (from_test range.0 (interval.1 +ℤ pos 1) f) (from_lt interval.1 n e), r)
      where
        begins_by : (end begin n : ℤ) → begin ≤ℤ (end +ℤ pos 1) → end <ℤ n → begin ≤ℤ n
        begins_by end begin n p q = omega (arith, ints, p, q)
    side false e r = inl (w.0, not_lt interval.1 n e)

    go : (n ≤ℤ interval.1) ⊎ (n ≤ℤ range.1) → Within n interval ⊎ Within n range
    go (inl l) = inl (w.0, l)
    go (inr r) = side (int_lt interval.1 n) refl r

grown_left : (interval range : Range) (n : ℤ) → Within n interval → Within n (interval.0, greater_of interval.1 range.1)
grown_left interval range n w = (w.0, chain n interval.1 (greater_of interval.1 range.1) w.1 (greater_left interval.1 range.1))

grown_right : (interval range : Range) (n : ℤ) → interval.0 ≤ℤ range.0 → Within n range → Within n (interval.0, greater_of interval.1 range.1)
grown_right interval range n before w = (chain interval.0 range.0 n before w.0, chain n range.1 (greater_of interval.1 range.1) w.1 (greater_right interval.1 range.1))

from_grown : (ranges : List Range) → Begins ranges → (interval : Range) → AllByRecursion (λ (range : Range). interval.0 ≤ℤ range.0) ranges → (n : ℤ)
    → lies_in (joined (Some interval) ranges) n ≡ true → Within n interval ⊎ WithinSome ranges n
from_grown [] b interval before n e = go (lies_split interval [] n e)
  where
    go : Within n interval ⊎ (lies_in [] n ≡ true) → Within n interval ⊎ WithinSome [] n
    go (inl w) = inl w
    go (inr f) = absurd (true≢false (sym f))
from_grown (range ∷ rest) b interval before n e = go (λ z h. from_grown rest b.1 z h n) (int_lt range.1 range.0) refl (touches interval.1 range.0) refl e
  where
    behind : Within n interval ⊎ WithinSome rest n → Within n interval ⊎ WithinSome (range ∷ rest) n
    behind (inl w) = inl w
    behind (inr m) = inr (later range rest n m)

    grown : touches interval.1 range.0 ≡ true → Within n (interval.0, greater_of interval.1 range.1) ⊎ WithinSome rest n → Within n interval ⊎ WithinSome (range ∷ rest) n
    grown f (inr m) = inr (later range rest n m)
    grown f (inl w) = two (grown_from interval range n before.0 f w)
      where
        two : Within n interval ⊎ Within n range → Within n interval ⊎ WithinSome (range ∷ rest) n
        two (inl w) = inl w
        two (inr w) = inr (now range rest n w)

    fresh : (lies_in (joined (Some range) rest) n ≡ true → Within n range ⊎ WithinSome rest n) → Within n interval ⊎ (lies_in (joined (Some range) rest) n ≡ true)
        → Within n interval ⊎ WithinSome (range ∷ rest) n
    fresh rec (inl w) = inl w
    fresh rec (inr f) = two (rec f)
      where
        two : Within n range ⊎ WithinSome rest n → Within n interval ⊎ WithinSome (range ∷ rest) n
        two (inl w) = inr (now range rest n w)
        two (inr m) = inr (later range rest n m)

    go : ((z : Range) → AllByRecursion (λ (other : Range). z.0 ≤ℤ other.0) rest → lies_in (joined (Some z) rest) n ≡ true → Within n z ⊎ WithinSome rest n)
        → (t : Bool) → int_lt range.1 range.0 ≡ t → (u : Bool) → touches interval.1 range.0 ≡ u
        → lies_in (those (if t then None else (if u then None else Some interval))
        ++ joined (if t then Some interval else (if u then Some (interval.0, greater_of interval.1 range.1) else Some range)) rest) n ≡ true
        → Within n interval ⊎ WithinSome (range ∷ rest) n
    go rec true f u g e = behind (rec interval before.1 e)
    go rec false f true g e = grown g (rec (interval.0, greater_of interval.1 range.1) before.1 e)
    go rec false f false g e = fresh (rec range b.0) (lies_split interval (joined (Some range) rest) n e)

to_grown : (ranges : List Range) → Begins ranges → (interval : Range) → AllByRecursion (λ (range : Range). interval.0 ≤ℤ range.0) ranges → (n : ℤ)
    → Within n interval ⊎ WithinSome ranges n → lies_in (joined (Some interval) ranges) n ≡ true
to_grown [] b interval before n (inl w) = lies_here interval [] n w
to_grown [] b interval before n (inr m) = absurd m.1
to_grown (range ∷ rest) b interval before n h = go (λ z k. to_grown rest b.1 z k n) (int_lt range.1 range.0) refl (touches interval.1 range.0) refl (parts h)
  where
    parts : Within n interval ⊎ WithinSome (range ∷ rest) n → Within n interval ⊎ (Within n range ⊎ WithinSome rest n)
    parts (inl w) = inl w
    parts (inr m) = inr (split range rest n m)

    go : ((z : Range) → AllByRecursion (λ (other : Range). z.0 ≤ℤ other.0) rest → Within n z ⊎ WithinSome rest n → lies_in (joined (Some z) rest) n ≡ true)
        → (t : Bool) → int_lt range.1 range.0 ≡ t → (u : Bool) → touches interval.1 range.0 ≡ u → Within n interval ⊎ (Within n range ⊎ WithinSome rest n)
        → lies_in (those (if t then None else (if u then None else Some interval))
        ++ joined (if t then Some interval else (if u then Some (interval.0, greater_of interval.1 range.1) else Some range)) rest) n ≡ true
    go rec true f u g (inl w) = rec interval before.1 (inl w)
    go rec true f u g (inr (inl w)) = absurd (no_integers range n f w)
    go rec true f u g (inr (inr m)) = rec interval before.1 (inr m)
    go rec false f true g (inl w) = rec (interval.0, greater_of interval.1 range.1) before.1 (inl (grown_left interval range n w))
    go rec false f true g (inr (inl w)) = rec (interval.0, greater_of interval.1 range.1) before.1 (inl (grown_right interval range n before.0 w))
    go rec false f true g (inr (inr m)) = rec (interval.0, greater_of interval.1 range.1) before.1 (inr m)
    go rec false f false g (inl w) = lies_here interval (joined (Some range) rest) n w
    go rec false f false g (inr (inl w)) = lies_later interval (joined (Some range) rest) n (rec range b.0 (inl w))
    go rec false f false g (inr (inr m)) = lies_later interval (joined (Some range) rest) n (rec range b.0 (inr m))

from_joined : (ranges : List Range) → Begins ranges → (n : ℤ) → lies_in (joined None ranges) n ≡ true → WithinSome ranges n
from_joined [] b n e = absurd (true≢false (sym e))
from_joined (range ∷ rest) b n e = go (from_joined rest b.1 n) (int_lt range.1 range.0) e
  where
    two : Within n range ⊎ WithinSome rest n → WithinSome (range ∷ rest) n
    two (inl w) = now range rest n w
    two (inr m) = later range rest n m

    go : (lies_in (joined None rest) n ≡ true → WithinSome rest n) → (t : Bool) → lies_in (joined (if t then None else Some range) rest) n ≡ true → WithinSome (range ∷ rest) n
    go rec true e = later range rest n (rec e)
    go rec false e = two (from_grown rest b.1 range b.0 n e)

to_joined : (ranges : List Range) → Begins ranges → (n : ℤ) → WithinSome ranges n → lies_in (joined None ranges) n ≡ true
to_joined [] b n m = absurd m.1
to_joined (range ∷ rest) b n h = go (to_joined rest b.1 n) (int_lt range.1 range.0) refl (split range rest n h)
  where
    go : (WithinSome rest n → lies_in (joined None rest) n ≡ true) → (t : Bool) → int_lt range.1 range.0 ≡ t → Within n range ⊎ WithinSome rest n → lies_in (joined (if t then None else Some range) rest) n ≡ true
    go rec true e (inl w) = absurd (no_integers range n e w)
    go rec true e (inr m) = rec m
    go rec false e h = to_grown rest b.1 range b.0 n h

pub joined_integers : (ranges : List Range) → Ascends range_cmp ranges → HasIntegersOf ranges (joined None ranges)
joined_integers ranges a n = (from_joined ranges (begins ranges a) n, to_joined ranges (begins ranges a) n)
