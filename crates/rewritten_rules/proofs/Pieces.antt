-- What is seen in pieces of a rule's text, and what stands in what is made of them.
use Rattle.std.proofs.Common.{◌≡◌, ◌⊎◌, ◌≤◌, ◌<◌, ℕ, zero, suc, Bool, true, false, ◌||◌, List, [], ◌∷◌, ◌++◌, map, filter_map, None, Some, Option, refl, sym, ◌∙◌, ap, subst, inl, inr, true≢false, arith}
use Rattle.std.specs.List.{AllByRecursion, list_any}
use Rattle.syntax_tree.specs.declared.literal.Literal.{Literal}
use Rattle.ground_model.specs.Members.{IsMember}
use Rattle.ground_model.proofs.Bools.{or_elim, or_left, or_right}
use Rattle.rewriting.specs.declared.sight.Sight.{Sight}
use Rattle.rewriting.specs.declared.sight.Sight.TheVariants.{Variable, Atom}
use Rattle.rewriting.specs.Made.{Made, same, seeing, mapped, joined, both, each, maybe}
use Rattle.rewriting.specs.Rewritten.{closed}
use Rattle.rewriting.specs.Order.{variable_in}
use Rattle.program_meaning.specs.Read.{ReadLiteral, ReadPlain, ReadTold, plain_of, plains, literal_read}
use Rattle.program_meaning.specs.Variables.{occurs_in}
use Rattle.program_meaning.proofs.Lists.{append_left, append_right, append_from}
use Rattle.rewritten_rules.specs.Within.{within_literal}

-- the variables that are seen
abbrev pub seen : List Sight → List ℕ
seen sights = filter_map variable_in sights

pub seen_append : (xs ys : List Sight) → seen (xs ++ ys) ≡ seen xs ++ seen ys
seen_append [] ys = refl
seen_append (x ∷ xs) ys = go (variable_in x) (seen_append xs ys)
  where
    more : Option ℕ → List ℕ → List ℕ
    more None ns = ns
    more (Some n) ns = n ∷ ns

    go : (o : Option ℕ) → seen (xs ++ ys) ≡ seen xs ++ seen ys → more o (seen (xs ++ ys)) ≡ more o (seen xs) ++ seen ys
    go None is = is
    go (Some n) is = ap (λ ns. n ∷ ns) is

pub any_append : {X : Type 0} (test : X → Bool) (xs ys : List X) → list_any test (xs ++ ys) ≡ true → (list_any test xs ≡ true) ⊎ (list_any test ys ≡ true)
any_append test [] ys h = inr h
any_append test (x ∷ xs) ys h = go (or_elim (test x) (list_any test (xs ++ ys)) h) (any_append test xs ys)
  where
    go : (test x ≡ true) ⊎ (list_any test (xs ++ ys) ≡ true) → (list_any test (xs ++ ys) ≡ true → (list_any test xs ≡ true) ⊎ (list_any test ys ≡ true))
        → (list_any test (x ∷ xs) ≡ true) ⊎ (list_any test ys ≡ true)
    go (inl here) later = inl (or_left (test x) (list_any test xs) here)
    go (inr there) later = by (later there)
      where
        by : (list_any test xs ≡ true) ⊎ (list_any test ys ≡ true) → (list_any test (x ∷ xs) ≡ true) ⊎ (list_any test ys ≡ true)
        by (inl front) = inl (or_right (test x) (list_any test xs) front)
        by (inr behind) = inr behind

-- the variable stands in one of the literals
abbrev pub in_literal : ℕ → Literal → Bool
in_literal n literal = within_literal n (literal_read literal)

abbrev pub stands : ℕ → List Literal → Bool
stands n literals = list_any (in_literal n) literals

-- one that stands in the atoms and comparisons among literals stands in the literals
pub stands_plain : (n : ℕ) (literals : List Literal) → list_any (occurs_in n) (plains (map literal_read literals)) ≡ true → stands n literals ≡ true
stands_plain n [] h = h
stands_plain n (literal ∷ rest) h =
    go (any_append (occurs_in n) (plain_of (literal_read literal)) (plains (map literal_read rest)) h) (stands_plain n rest)
  where
    here : (read : ReadLiteral) → list_any (occurs_in n) (plain_of read) ≡ true → within_literal n read ≡ true
    here (ReadPlain l) s = by (occurs_in n l) s
      where
        by : (b : Bool) → (b || false) ≡ true → b ≡ true
        by true s = refl
        by false s = s
    here (ReadTold theory sign) s = absurd (true≢false (sym s))

    go : (list_any (occurs_in n) (plain_of (literal_read literal)) ≡ true) ⊎ (list_any (occurs_in n) (plains (map literal_read rest)) ≡ true)
        → (list_any (occurs_in n) (plains (map literal_read rest)) ≡ true → stands n rest ≡ true) → stands n (literal ∷ rest) ≡ true
    go (inl s) later = or_left (in_literal n literal) (stands n rest) (here (literal_read literal) s)
    go (inr s) later = or_right (in_literal n literal) (stands n rest) (later s)

-- A variable that stands in what is made, or in what comes with it, is seen; and what is seen are named variables, and all new numbers.
pub record IsSeen {X : Type 0} (n : ℕ) (stands_in : X → Bool) (next : ℕ) (piece : Made X) : Type 0 where
  pub made : stands_in piece.made ≡ true → IsMember (seen piece.sights) n
  pub added : stands n piece.added ≡ true → IsMember (seen piece.sights) n
  pub rises : next ≤ piece.next
  pub covers : (m : ℕ) → next ≤ m → m < piece.next → IsMember (seen piece.sights) m
  pub known : (m : ℕ) → IsMember (seen piece.sights) m → IsMember piece.sights (Variable m) ⊎ ((next ≤ m) × (m < piece.next))

pub seen_same : {X : Type 0} (n : ℕ) (stands_in : X → Bool) (x : X) (next : ℕ) → stands_in x ≡ false → IsSeen n stands_in next (same x next)
seen_same n stands_in x next is = record {
  made = λ h. absurd (true≢false (sym h ∙ is));
  added = λ h. absurd (true≢false (sym h));
  rises = omega arith;
  covers = λ m low high. absurd (omega (arith, low, high));
  known = λ m k. absurd k;
}

-- a piece as a part of another, in which no other variable stands
pub seen_mapped : {X Y : Type 0} (n : ℕ) (stands_in : X → Bool) (stands_there : Y → Bool) (f : X → Y) (next : ℕ) (piece : Made X)
    → (stands_there (f piece.made) ≡ true → stands_in piece.made ≡ true) → IsSeen n stands_in next piece → IsSeen n stands_there next (mapped f piece)
seen_mapped n stands_in stands_there f next piece back s = record { made = λ h. s.made (back h); added = s.added; rises = s.rises; covers = s.covers; known = s.known }

-- an atom before a piece
pub seen_atom : {X : Type 0} (n : ℕ) (stands_in : X → Bool) (next : ℕ) (piece : Made X) → IsSeen n stands_in next piece → IsSeen n stands_in next (seeing Atom piece)
seen_atom n stands_in next piece s = record {
  made = s.made;
  added = s.added;
  rises = s.rises;
  covers = s.covers;
  known = λ m k. by m (s.known m k);
}
  where
    by : (m : ℕ) → IsMember piece.sights (Variable m) ⊎ ((next ≤ m) × (m < piece.next)) → IsMember (Atom ∷ piece.sights) (Variable m) ⊎ ((next ≤ m) × (m < piece.next))
    by m (inl k) = inl (inr k)
    by m (inr k) = inr k

-- what is seen in two pieces, one behind the other
module _ (n : ℕ) (xs ys : List Sight) where
  pub to_left : IsMember (seen xs) n → IsMember (seen (xs ++ ys)) n
  to_left m = subst (λ ns. IsMember ns n) (sym (seen_append xs ys)) (append_left (seen xs) (seen ys) n m)

  pub to_right : IsMember (seen ys) n → IsMember (seen (xs ++ ys)) n
  to_right m = subst (λ ns. IsMember ns n) (sym (seen_append xs ys)) (append_right (seen xs) (seen ys) n m)

module _ {X Y : Type 0} (n : ℕ) (first : X → Bool) (second : Y → Bool) (next : ℕ) (a : Made X) (b : Made Y) (s : IsSeen n first next a) (r : IsSeen n second a.next b) where
  pub behind_rises : next ≤ b.next
  behind_rises = let p = s.rises in let q = r.rises in omega (arith, p, q)

  pub behind_covers : (m : ℕ) → next ≤ m → m < b.next → IsMember (seen (a.sights ++ b.sights)) m
  behind_covers m low high = by (order m a.next)
    where
      order : (k l : ℕ) → (k < l) ⊎ (l ≤ k)
      order k zero = inr (omega arith)
      order zero (suc l) = inl (omega arith)
      order (suc k) (suc l) = go (order k l)
        where
          go : (k < l) ⊎ (l ≤ k) → (suc k < suc l) ⊎ (suc l ≤ suc k)
          go (inl less) = inl (omega (arith, less))
          go (inr most) = inr (omega (arith, most))

      by : (m < a.next) ⊎ (a.next ≤ m) → IsMember (seen (a.sights ++ b.sights)) m
      by (inl less) = to_left m a.sights b.sights (s.covers m low less)
      by (inr most) = to_right m a.sights b.sights (r.covers m most high)

  pub behind_known : (m : ℕ) → IsMember (seen (a.sights ++ b.sights)) m → IsMember (a.sights ++ b.sights) (Variable m) ⊎ ((next ≤ m) × (m < b.next))
  behind_known m k = by (append_from (seen a.sights) (seen b.sights) m (subst (λ ns. IsMember ns m) (seen_append a.sights b.sights) k))
    where
      from_left : IsMember a.sights (Variable m) ⊎ ((next ≤ m) × (m < a.next)) → IsMember (a.sights ++ b.sights) (Variable m) ⊎ ((next ≤ m) × (m < b.next))
      from_left (inl v) = inl (append_left a.sights b.sights (Variable m) v)
      from_left (inr range) = let q = r.rises in let high = range.1 in inr (range.0, omega (arith, q, high))

      from_right : IsMember b.sights (Variable m) ⊎ ((a.next ≤ m) × (m < b.next)) → IsMember (a.sights ++ b.sights) (Variable m) ⊎ ((next ≤ m) × (m < b.next))
      from_right (inl v) = inl (append_right a.sights b.sights (Variable m) v)
      from_right (inr range) = let p = s.rises in let low = range.0 in inr (omega (arith, p, low), range.1)

      by : IsMember (seen a.sights) m ⊎ IsMember (seen b.sights) m → IsMember (a.sights ++ b.sights) (Variable m) ⊎ ((next ≤ m) × (m < b.next))
      by (inl here) = from_left (s.known m here)
      by (inr there) = from_right (r.known m there)

pub seen_joined : {X Y Z : Type 0} (n : ℕ) (first : X → Bool) (second : Y → Bool) (whole : Z → Bool) (f : X → Y → Z) (next : ℕ) (a : Made X) (b : Made Y)
    → (whole (f a.made b.made) ≡ true → (first a.made ≡ true) ⊎ (second b.made ≡ true)) → IsSeen n first next a → IsSeen n second a.next b
    → IsSeen n whole next (joined f a b)
seen_joined n first second whole f next a b back s r = record {
  made = λ h. made_by (back h);
  added = λ h. added_by (any_append (in_literal n) a.added b.added h);
  rises = behind_rises n first second next a b s r;
  covers = behind_covers n first second next a b s r;
  known = behind_known n first second next a b s r;
}
  where
    made_by : (first a.made ≡ true) ⊎ (second b.made ≡ true) → IsMember (seen (a.sights ++ b.sights)) n
    made_by (inl h) = to_left n a.sights b.sights (s.made h)
    made_by (inr h) = to_right n a.sights b.sights (r.made h)

    added_by : (stands n a.added ≡ true) ⊎ (stands n b.added ≡ true) → IsMember (seen (a.sights ++ b.sights)) n
    added_by (inl h) = to_left n a.sights b.sights (s.added h)
    added_by (inr h) = to_right n a.sights b.sights (r.added h)

-- a piece with a condition, behind which what comes with both is put
pub seen_closed : {X Y : Type 0} (n : ℕ) (first : X → Bool) (whole : Y → Bool) (f : X → List Literal → Y) (next : ℕ) (a : Made X) (b : Made (List Literal))
    → ((condition : List Literal) → whole (f a.made condition) ≡ true → (first a.made ≡ true) ⊎ (stands n condition ≡ true))
    → IsSeen n first next a → IsSeen n (list_any (in_literal n)) a.next b → IsSeen n whole next (closed f a b)
seen_closed n first whole f next a b back s r = record {
  made = λ h. made_by (back (b.made ++ (a.added ++ b.added)) h);
  added = λ h. absurd (true≢false (sym h));
  rises = behind_rises n first (list_any (in_literal n)) next a b s r;
  covers = behind_covers n first (list_any (in_literal n)) next a b s r;
  known = behind_known n first (list_any (in_literal n)) next a b s r;
}
  where
    added_by : (stands n a.added ≡ true) ⊎ (stands n b.added ≡ true) → IsMember (seen (a.sights ++ b.sights)) n
    added_by (inl h) = to_left n a.sights b.sights (s.added h)
    added_by (inr h) = to_right n a.sights b.sights (r.added h)

    condition_by : (stands n b.made ≡ true) ⊎ (stands n (a.added ++ b.added) ≡ true) → IsMember (seen (a.sights ++ b.sights)) n
    condition_by (inl h) = to_right n a.sights b.sights (r.made h)
    condition_by (inr h) = added_by (any_append (in_literal n) a.added b.added h)

    made_by : (first a.made ≡ true) ⊎ (stands n (b.made ++ (a.added ++ b.added)) ≡ true) → IsMember (seen (a.sights ++ b.sights)) n
    made_by (inl h) = to_left n a.sights b.sights (s.made h)
    made_by (inr h) = condition_by (any_append (in_literal n) b.made (a.added ++ b.added) h)

-- ways of pieces, from any number on
abbrev pub Sees : {X : Type 0} → ℕ → (X → Bool) → (ℕ → Made X) → Type 0
Sees n stands_in way = (next : ℕ) → IsSeen n stands_in next (way next)

pub sees_both : {X Y Z : Type 0} (n : ℕ) (first : X → Bool) (second : Y → Bool) (whole : Z → Bool) (f : X → Y → Z) (one : ℕ → Made X) (other : ℕ → Made Y)
    → ((x : X) (y : Y) → whole (f x y) ≡ true → (first x ≡ true) ⊎ (second y ≡ true)) → Sees n first one → Sees n second other → Sees n whole (both f one other)
sees_both n first second whole f one other back s r next =
    seen_joined n first second whole f next (one next) (other (one next).next) (back (one next).made (other (one next).next).made) (s next) (r (one next).next)

pub data AllSee {X : Type 0} (n : ℕ) (stands_in : X → Bool) : List (ℕ → Made X) → Type 0 where
  NoneSees : AllSee n stands_in []
  OneSees : (way : ℕ → Made X) (ways : List (ℕ → Made X)) → Sees n stands_in way → AllSee n stands_in ways → AllSee n stands_in (way ∷ ways)

pub sees_each : {X : Type 0} (n : ℕ) (stands_in : X → Bool) (ways : List (ℕ → Made X)) → AllSee n stands_in ways → Sees n (list_any stands_in) (each ways)
sees_each n stands_in [] all next = seen_same n (list_any stands_in) [] next refl
sees_each n stands_in (way ∷ ways) (OneSees one rest s all) next =
    sees_both n stands_in (list_any stands_in) (list_any stands_in) (λ x xs. x ∷ xs) way (each ways)
    (λ x xs h. or_elim (stands_in x) (list_any stands_in xs) h) s (sees_each n stands_in ways all) next

pub all_see : {A X : Type 0} (n : ℕ) (stands_in : X → Bool) (way : A → ℕ → Made X) (as_they_are : List A) → AllByRecursion (λ a. Sees n stands_in (way a)) as_they_are
    → AllSee n stands_in (map way as_they_are)
all_see n stands_in way [] all = NoneSees
all_see n stands_in way (a ∷ rest) all = OneSees (way a) (map way rest) all.0 (all_see n stands_in way rest all.1)

pub all_by : {A : Type 0} (P : A → Type 0) → ((a : A) → P a) → (xs : List A) → AllByRecursion P xs
all_by P p [] = tt
all_by P p (x ∷ xs) = (p x, all_by P p xs)

abbrev pub option_any : {X : Type 0} → (X → Bool) → Option X → Bool
option_any test None = false
option_any test (Some x) = test x

pub sees_maybe : {X Y : Type 0} (n : ℕ) (stands_in : Y → Bool) (way : X → ℕ → Made Y) (o : Option X) → ((x : X) → Sees n stands_in (way x))
    → Sees n (option_any stands_in) (maybe way o)
sees_maybe n stands_in way None s next = seen_same n (option_any stands_in) None next refl
sees_maybe n stands_in way (Some x) s next = seen_mapped n stands_in (option_any stands_in) (λ y. Some y) next (way x next) (λ h. h) (s x next)
