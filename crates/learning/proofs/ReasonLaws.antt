-- Reasons that an analysis uses are valid: those that entries show, and those of ends that leave no number.
use Rattle.std.proofs.Common.{◌⊎◌, inl, inr, ◌≡◌, ℕ, zero, suc, ◌+◌, ◌<◌, ◌≤◌, ◌==◌, ◌&&◌, ◌||◌, nat_le, Bool, true, false, ℤ, pos, int_le, int_lt, ◌+ℤ◌, ◌-ℤ◌, ◌≤ℤ◌, ◌<ℤ◌, List, [], ◌∷◌, map, length, Option, None, refl, sym, subst, arith}
use Rattle.std.specs.List.{AllByRecursion, list_all, list_any, range_with_len}
use Rattle.std.specs.Int.{int_max, int_min}
use Rattle.std.proofs.lemmas.List.Elements.{All-from_recursion, All-contains}
use Rattle.std.proofs.lemmas.Bool.Decides.{nat_tests}
use Rattle.std.proofs.lemmas.Int.{ints}
use Rattle.literals.specs.declared.lit.Lit.{Lit}
use Rattle.literals.specs.declared.lit.Lit.TheVariants as l
use Rattle.literals.specs.Lits.{complement_of}
use Rattle.literals.specs.declared.reason.Step.{Step}
use Rattle.literals.specs.declared.reason.Step.TheVariants.{Sum, Distinct, Window, Pair, Loop, Hole}
use Rattle.literals.specs.declared.reason.Reason.{Reason}
use Rattle.ground_model.specs.declared.program.GroundProgram.{GroundProgram}
use Rattle.linear_normal.specs.declared.numbered.Numbered.{Numbered}
use Rattle.linear_normal.specs.Numbering.{numbering}
use Rattle.linear_normal.specs.Bounds.{bounds_named}
use Rattle.linear_normal.specs.Steps.{is_named, is_valid, is_one_of, is_empty_range}
use Rattle.trail.specs.declared.shape.Shape.{Shape}
use Rattle.trail.specs.declared.entry.Entry.{Entry}
use Rattle.trail.specs.Assignment.{Assignment, Names}
use Rattle.trail.specs.Implied.{ends_imply}
use Rattle.nogood_store.specs.Holding.{Held}
use Rattle.conflict_analysis.specs.declared.learned.Start.{Start}
use Rattle.conflict_analysis.specs.declared.learned.Start.TheVariants as start
use Rattle.conflict_analysis.specs.declared.learned.Link.{Link}
use Rattle.conflict_analysis.specs.Chains.{IsUsable, IsHole}
use Rattle.trail_worlds.specs.Total.{shape_of}
use Rattle.learning.specs.Told.{IsTellable, IsTellableBy, IsTellableStart, AllTellable}

-- VALID AFTER A COST

no_and : (b : Bool) → (b && false) ≡ true → ⊥
no_and true h = let no : false ≡ true = h in cc
no_and false h = let no : false ≡ true = h in cc

-- what is valid where no cost was given is valid after any
pub valid_after : (program : GroundProgram) (numbered : Numbered) (cost : Option ℤ) (lits : List Lit) (step : Step) → is_valid program numbered None lits step ≡ true → is_valid program numbered cost lits step ≡ true
valid_after program numbered cost lits (Sum zero) h = absurd (no_and (list_all (is_named program numbered) lits) h)
valid_after program numbered cost lits (Sum (suc n)) h = h
valid_after program numbered cost lits (Distinct n a b) h = h
valid_after program numbered cost lits (Window n a b) h = h
valid_after program numbered cost lits (Pair n i j) h = h
valid_after program numbered cost lits (Loop set) h = h
valid_after program numbered cost lits (Hole zero) h = h
valid_after program numbered cost lits (Hole (suc n)) h = h

-- HOLES

or_right : (a b : Bool) → b ≡ true → (a || b) ≡ true
or_right true b h = refl
or_right false b h = h

and_both : (a b : Bool) → a ≡ true → b ≡ true → (a && b) ≡ true
and_both true b h k = k
and_both false b h k = h

any_at : (f : ℕ → Bool) (a n x : ℕ) → a ≤ x → x < a + n → f x ≡ true → list_any f (range_with_len a n) ≡ true
any_at f a zero x low high h = absurd (omega arith)
any_at f a (suc n) x low high h = by_place (decide x a low) (λ later. any_at f (a + 1) n x later (omega arith) h)
  where
    decide : (x a : ℕ) → a ≤ x → (x ≡ a) ⊎ (a + 1 ≤ x)
    decide x a low = grind arith

    by_place : (x ≡ a) ⊎ (a + 1 ≤ x) → (a + 1 ≤ x → list_any f (range_with_len (a + 1) n) ≡ true) → (f a || list_any f (range_with_len (a + 1) n)) ≡ true
    by_place (inl same) rest = let first : f a ≡ true = subst (λ y. f y ≡ true) same h in rw first refl
    by_place (inr later) rest = or_right (f a) (list_any f (range_with_len (a + 1) n)) (rest later)

one_of : (last n : ℕ) → 1 ≤ n → n ≤ last → is_one_of last n ≡ true
one_of last n low high = and_both (nat_le 1 n) (nat_le n last) (grind (arith, nat_tests, low)) (grind (arith, nat_tests, high))

own : (x : ℕ) → (x == x) ≡ true
own x = grind (arith, nat_tests)

hole_of : (program : GroundProgram) (cost : Option ℤ) (lit : Lit) → Names (shape_of program) lit → ends_imply program.ends (complement_of lit) ≡ true → is_valid program (numbering program) cost (lit ∷ []) (Hole 0) ≡ true
hole_of program cost (l.Atom n sign) named e = let no : false ≡ true = e in absurd (cc)
hole_of program cost (l.Body n sign) named e = let no : false ≡ true = e in absurd (cc)
hole_of program cost (l.Constraint n sign) named e = let no : false ≡ true = e in absurd (cc)
hole_of program cost (l.AtMost x k) named e =
    and_both (is_one_of (length program.variables) x && true) (is_empty_range program.ends (l.AtMost x k ∷ []) (length program.variables)) (and_both (is_one_of (length program.variables) x) true (one_of (length program.variables) x named.literal.0 named.within) refl)
    (any_at (λ y. int_lt ((bounds_named program.ends (l.AtMost x k ∷ [])).high y) ((bounds_named program.ends (l.AtMost x k ∷ [])).low y)) 1 (length program.variables) x named.literal.0 (let w = named.within in omega (arith, w)) (rw (own x) (less (int_min program.ends.max k) program.ends.min (under program.ends.max k program.ends.min e))))
  where
    less : (a b : ℤ) → a <ℤ b → int_lt a b ≡ true
    less a b h = grind (arith, nat_tests, ints)

    at_most : (max k : ℤ) → int_min max k ≤ℤ k
    at_most max k = grind (arith, nat_tests, ints)

    order : (a b : ℤ) → int_le a b ≡ true → a ≤ℤ b
    order a b h = grind (arith, nat_tests, ints)

    under : (max k min : ℤ) → int_le (k +ℤ pos 1) min ≡ true → int_min max k <ℤ min
    under max k min h = let one = at_most max k in let two = order (k +ℤ pos 1) min h in omega (arith, ints, one, two)
hole_of program cost (l.AtLeast x k) named e =
    and_both (is_one_of (length program.variables) x && true) (is_empty_range program.ends (l.AtLeast x k ∷ []) (length program.variables)) (and_both (is_one_of (length program.variables) x) true (one_of (length program.variables) x named.literal.0 named.within) refl)
    (any_at (λ y. int_lt ((bounds_named program.ends (l.AtLeast x k ∷ [])).high y) ((bounds_named program.ends (l.AtLeast x k ∷ [])).low y)) 1 (length program.variables) x named.literal.0 (let w = named.within in omega (arith, w)) (rw (own x) (less program.ends.max (int_max program.ends.min k) (over program.ends.min k program.ends.max e))))
  where
    less : (a b : ℤ) → a <ℤ b → int_lt a b ≡ true
    less a b h = grind (arith, nat_tests, ints)

    at_least : (min k : ℤ) → k ≤ℤ int_max min k
    at_least min k = grind (arith, nat_tests, ints)

    order : (a b : ℤ) → int_le a b ≡ true → a ≤ℤ b
    order a b h = grind (arith, nat_tests, ints)

    over : (min k max : ℤ) → int_le max (k -ℤ pos 1) ≡ true → max <ℤ int_max min k
    over min k max h = let one = at_least min k in let two = order max (k -ℤ pos 1) h in omega (arith, ints, one, two)

pub hole_valid : (program : GroundProgram) (cost : Option ℤ) (t : Assignment) (r : Reason) → t.shape ≡ shape_of program → IsHole t r → IsTellable program cost r
hole_valid program cost t r same h =
    subst (λ lits. is_valid program (numbering program) cost lits r.step ≡ true) (sym h.nogood)
    (subst (λ step. is_valid program (numbering program) cost (h.lit ∷ []) step ≡ true) (sym h.step)
    (hole_of program cost h.lit (subst (λ s. Names s h.lit) same h.named) (subst (λ (s : Shape). ends_imply s.ends (complement_of h.lit) ≡ true) same h.by_ends)))

-- what an analysis may use can be told
pub usable_told : (program : GroundProgram) (cost : Option ℤ) (held : List Held) (t : Assignment) (u : Start) → t.shape ≡ shape_of program → AllTellable program cost t.entries → IsUsable held t u → IsTellableStart program cost u
usable_told program cost held t (start.Held id) same told usable = tt
usable_told program cost held t (start.Shown r) same told (inl s) =
    subst (IsTellableBy program cost) s.2
    (All-contains (λ (e : Entry). IsTellableBy program cost e.why) t.entries s.0 (All-from_recursion (λ (e : Entry). IsTellableBy program cost e.why) t.entries told) s.1)
usable_told program cost held t (start.Shown r) same told (inr h) = hole_valid program cost t r same h

-- so can the start and all that its chain uses
pub uses_told : (program : GroundProgram) (cost : Option ℤ) (held : List Held) (t : Assignment) (chain : List Link) → t.shape ≡ shape_of program → AllTellable program cost t.entries
    → AllByRecursion (λ k. IsUsable held t k.used) chain → AllByRecursion (IsTellableStart program cost) (map (λ k. k.used) chain)
uses_told program cost held t [] same told a = tt
uses_told program cost held t (k ∷ ks) same told a = (usable_told program cost held t k.used same told a.0, uses_told program cost held t ks same told a.1)
