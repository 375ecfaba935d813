-- The literals that a trail begins with, the sums of a chain, the items of a wide sum, and raised bounds.
use Rattle.std.proofs.Common.{◌≡◌, ℕ, zero, suc, ◌+◌, ◌-◌, ◌<◌, ◌≤◌, ◌⊎◌, ◌==◌, ◌&&◌, ◌||◌, inl, inr, Bool, true, false, List, [], ◌∷◌, ◌++◌, length, map, refl, sym, ◌∙◌, ap, subst, arith, add-one, ℤ, pos, ◌+ℤ◌, w32, to_z, of_z, Option, None, Some, IfSome, IfNone}
use Rattle.std.proofs.lemmas.Bool.Decides.{nat_tests}
use Rattle.std.proofs.lemmas.Int.{ints}
use Rattle.std.proofs.lemmas.List.{length-append, map-append}
use Rattle.symbols.specs.declared.ends.Ends.{Ends}
use Rattle.literals.specs.declared.lit.Lit.{Lit}
use Rattle.literals.specs.declared.lit.Lit.TheVariants.{Constraint, AtLeast}
use Rattle.literals.specs.declared.reason.Reason.{Reason}
use Rattle.literals.specs.Lits.{complement_of}
use Rattle.literals.specs.Truths.{signed}
use Rattle.literals.proofs.LitLaws.{implies_refl}
use Rattle.linear_normal.specs.declared.constraint.Item.TheVariants.{Truth}
use Rattle.trail.specs.declared.shape.Shape.{Shape}
use Rattle.trail.specs.declared.entry.Entry.{Entry}
use Rattle.trail.specs.declared.entry.Why.{Why}
use Rattle.trail.specs.declared.entry.Why.TheVariants.{Decision}
use Rattle.trail.specs.declared.entry.Placed.{Placed}
use Rattle.trail.specs.declared.entry.Placed.TheVariants.{Already, Clash, Done}
use Rattle.trail.specs.Implied.{implied, truth_of}
use Rattle.trail.specs.Assignment.{Assignment, Names, Places, lits_of, truth_on, is_true_on, entry_of}
use Rattle.trail.specs.Growth.{Grows}
use Rattle.trail.proofs.ImpliedLaws.{implied-push, truth-of}
use Rattle.trail.proofs.AssignmentLaws.{true-truth, false-truth}
use Rattle.trail.proofs.EntryLaws.{length-lits_of}
use Rattle.trail.proofs.GrowthLaws.{grows_none, grows_set, grows_on, grows_map, grows_length, grows_true}
use Rattle.propagator_core.specs.Meaning.{Meaning}
use Rattle.propagator_core.specs.Shown.{IsShown, IsConflict}
use Rattle.propagator_core.specs.Several.{some_valid, AllQuiet}
use Rattle.sum_propagator.specs.Sums.{sum_meaning}
use Rattle.sum_trial.specs.Trials.{first_true, link_meaning, chain_meanings, wide_items, IsEnded, IsChained, IsRaise, IsKnown, AreRaised, GrowsRaised, IsWidened}

-- STARTS

first_suc : (n : ℕ) → first_true (n + 1) ≡ first_true n ++ Constraint (n + 1) true ∷ []
first_suc n = rw add-one refl

apart : (n m : ℕ) → n < m → (n == m) ≡ false
apart n m h = grind (arith, nat_tests)

-- none of the first constraints says anything of a later one
open_later : (ends : Ends) (n m : ℕ) (sign : Bool) → n < m → implied ends (first_true n) (Constraint m sign) ≡ false
open_later ends zero m sign h = refl
open_later ends (suc n) m sign h =
    let before = open_later ends n m sign (omega arith) in
    implied-push ends (first_true n) (Constraint (suc n) true) (Constraint m sign)
    ∙ ap (λ b. b || ((suc n == m) && signed true sign)) before
    ∙ ap (λ b. b && signed true sign) (apart (suc n) m h)

open_next : (ends : Ends) (n : ℕ) → truth_of ends (first_true n) (Constraint (n + 1) true) ≡ None
open_next ends n =
    truth-of ends (first_true n) (Constraint (n + 1) true) false false (open_later ends n (n + 1) true (omega arith)) (open_later ends n (n + 1) false (omega arith))

pub first_more : (n : ℕ) (a b : Assignment) (why : Why) (p : Placed) → lits_of a.entries ≡ first_true n → Places a (Constraint (n + 1) true) why p b → lits_of b.entries ≡ first_true (n + 1)
first_more n a b why Already e h =
    let unknown : truth_on a (Constraint (n + 1) true) ≡ None = ap (λ (ls : List Lit). truth_of a.shape.ends ls (Constraint (n + 1) true)) e ∙ open_next a.shape.ends n in
    let known : truth_on a (Constraint (n + 1) true) ≡ Some true = h.0 in
    cc
first_more n a b why Clash e h =
    let unknown : truth_on a (Constraint (n + 1) true) ≡ None = ap (λ (ls : List Lit). truth_of a.shape.ends ls (Constraint (n + 1) true)) e ∙ open_next a.shape.ends n in
    let known : truth_on a (Constraint (n + 1) true) ≡ Some false = h.0 in
    cc
first_more n a b why Done e h =
    ap (λ (t : Assignment). lits_of t.entries) h.1
    ∙ map-append (λ (x : Entry). x.lit) a.entries (entry_of a (Constraint (n + 1) true) why ∷ [])
    ∙ ap (λ ls. ls ++ Constraint (n + 1) true ∷ []) e
    ∙ sym (first_suc n)

length-first_true : (n : ℕ) → length (first_true n) ≡ n
length-first_true zero = refl
length-first_true (suc n) = omega (arith, length-first_true n, length-append (first_true n) (Constraint (suc n) true ∷ []))

begun : (t : Assignment) (n : ℕ) → lits_of t.entries ≡ first_true n → length t.entries ≡ n
begun t n e = sym (length-lits_of t.entries) ∙ ap length e ∙ length-first_true n

-- A CHAIN

chain_suc : (n : ℕ) → chain_meanings (n + 1) ≡ chain_meanings n ++ link_meaning (n + 1) ∷ []
chain_suc n = rw add-one refl

pub chain_more : {X : Type 0} (f : X → Meaning) (xs ys : List X) (y : X) (n : ℕ) → map f xs ≡ chain_meanings n → f y ≡ link_meaning (n + 1) → ys ≡ xs ++ y ∷ [] → map f ys ≡ chain_meanings (n + 1)
chain_more f xs ys y n h g e =
    ap (map f) e
    ∙ map-append f xs (y ∷ [])
    ∙ ap (λ ms. ms ++ f y ∷ []) h
    ∙ ap (λ m. chain_meanings n ++ m ∷ []) g
    ∙ sym (chain_suc n)

pub count_more : {X : Type 0} (xs ys : List X) (y : X) (n : ℕ) → length xs ≡ n → ys ≡ xs ++ y ∷ [] → length ys ≡ n + 1
count_more xs ys y n h e = let f : length ys ≡ length xs + 1 = ap length e ∙ length-append xs (y ∷ []) in omega arith

ended : (ms : List Meaning) (t : Assignment) (found : Option Reason) → IfSome found (λ r. IsConflict (some_valid ms) t r) → IfNone found (AllQuiet ms t) → IsEnded ms t
ended ms t None h g = inl g
ended ms t (Some r) h g = inr (r, h)

chain_as : (count n : ℕ) (from last : Assignment) (ms : List Meaning) (found : Option Reason) → ms ≡ chain_meanings count → lits_of from.entries ≡ first_true count → Grows (IsShown (some_valid ms)) from last → IfSome found (λ r. IsConflict (some_valid ms) last r) → IfNone found (AllQuiet ms last) → n ≡ length last.entries → IsChained count n
chain_as count n from last ms found e b g h q l = record {
  from = from;
  last = last;
  began = b;
  grows = subst (λ (qs : List Meaning). Grows (IsShown (some_valid qs)) from last) e g;
  ended = subst (λ (qs : List Meaning). IsEnded qs last) e (ended ms last found h q);
  entries_are = l;
}

pub chained : (count n : ℕ) (from last : Assignment) (ms : List Meaning) (found : Option Reason) → ms ≡ chain_meanings count → lits_of from.entries ≡ first_true count → Grows (IsShown (some_valid ms)) from last → IfSome found (λ r. IsConflict (some_valid ms) last r) → IfNone found (AllQuiet ms last) → n ≡ length last.entries → IsChained count n × (count ≤ n)
chained count n from last ms found e b g h q l = (
  chain_as count n from last ms found e b g h q l,
  let i = begun from count b in omega (arith, i, grows_length (IsShown (some_valid ms)) from last g),
)

-- ONE SUM

wide_suc : (n : ℕ) → wide_items (n + 1) ≡ wide_items n ++ Truth (n + 2) (pos 1) ∷ []
wide_suc n = rw add-one refl

pub wide_more : (b : ℕ) → 1 ≤ b → wide_items (b + 1 - 1) ≡ wide_items (b - 1) ++ Truth (b + 1) (pos 1) ∷ []
wide_more b h =
    let e : b + 1 - 1 ≡ (b - 1) + 1 = omega arith in
    let f : (b - 1) + 2 ≡ b + 1 = omega arith in
    ap wide_items e ∙ wide_suc (b - 1) ∙ ap (λ k. wide_items (b - 1) ++ Truth k (pos 1) ∷ []) f

-- what is known stays known
known_on : (P : Assignment → Entry → Type 0) (a b : Assignment) (l : Lit) → Grows P a b → IsKnown a l → IsKnown b l
known_on P a b l g k = elim k [ inl h ↦ inl (grows_true P a b l g h) | inr h ↦ inr (grows_true P a b (complement_of l) g h) ]

raised_on : (P : Assignment → Entry → Type 0) (n : ℕ) (a b : Assignment) → Grows P a b → AreRaised n a → AreRaised n b
raised_on P zero a b g h = tt
raised_on P (suc n) a b g h = (raised_on P n a b g h.0, known_on P a b (AtLeast 1 (pos (suc n))) g h.1)

-- a literal that was set is true, or it was false
pub known_set : (a b : Assignment) (l : Lit) (why : Why) (p : Placed) → Places a l why p b → IsKnown b l
known_set a b l why Already h = inl (subst (λ (t : Assignment). is_true_on t l ≡ true) (sym h.1) (true-truth a l h.0))
known_set a b l why Clash h = inr (subst (λ (t : Assignment). is_true_on t (complement_of l) ≡ true) (sym h.1) (false-truth a l h.0))
known_set a b l why Done h =
    inl (ap (λ (t : Assignment). is_true_on t l) h.1
    ∙ ap (λ (ls : List Lit). implied a.shape.ends ls l) (map-append (λ (x : Entry). x.lit) a.entries (entry_of a l why ∷ []))
    ∙ implied-push a.shape.ends (lits_of a.entries) l l
    ∙ ap (λ b. implied a.shape.ends (lits_of a.entries) l || b) (implies_refl l)
    ∙ either (implied a.shape.ends (lits_of a.entries) l))
  where
    either : (b : Bool) → (b || true) ≡ true
    either true = refl
    either false = refl

-- what setting a literal does to a trail that only grows
grows_placed : (P : Assignment → Entry → Type 0) (a b : Assignment) (l : Lit) (why : Why) (p : Placed) → Names a.shape l → P a (entry_of a l why) → Places a l why p b → Grows P a b
grows_placed P a b l why Already n q h = subst (λ (t : Assignment). Grows P a t) (sym h.1) (grows_none P a)
grows_placed P a b l why Clash n q h = subst (λ (t : Assignment). Grows P a t) (sym h.1) (grows_none P a)
grows_placed P a b l why Done n q h = grows_set P a b l why n h q

abbrev Raised : ℕ → (Shape → Reason → Bool) → Assignment → Entry → Type 0
Raised times valid t e = IsRaise times e ⊎ IsShown valid t e

pub names_raise : (s : Shape) (k : ℕ) → 1 ≤ s.variables → k < 1000000 → Names s (AtLeast 1 (pos (k + 1)))
names_raise s k v h = record { literal = (omega arith, omega (arith, ints), omega (arith, ints)); within = v }

-- the number as the code makes it
pub raise_number : (k : ℕ) → k < 1000000 → to_z w32 (of_z w32 (to_z w32 k +ℤ pos 1)) ≡ pos (k + 1)
raise_number k h = omega (arith, ints)

pub raise_none : (times : ℕ) (valid : Shape → Reason → Bool) (t : Assignment) → GrowsRaised times valid t t
raise_none times valid t = grows_none (Raised times valid) t

pub raise_set : (times k : ℕ) (valid : Shape → Reason → Bool) (a b c : Assignment) (p : Placed) → k < times → Names b.shape (AtLeast 1 (pos (k + 1))) → GrowsRaised times valid a b → Places b (AtLeast 1 (pos (k + 1))) Decision p c → GrowsRaised times valid a c
raise_set times k valid a b c p lt n g h =
    grows_on (Raised times valid) a b c g
    (grows_placed (Raised times valid) b c (AtLeast 1 (pos (k + 1))) Decision p n (inl (k + 1, omega arith, omega arith, refl, refl)) h)

pub raise_call : (times : ℕ) (valid now : Shape → Reason → Bool) (a b c : Assignment) → now ≡ valid → GrowsRaised times valid a b → Grows (IsShown now) b c → GrowsRaised times valid a c
raise_call times valid now a b c e g h =
    grows_on (Raised times valid) a b c g
    (grows_map (IsShown valid) (Raised times valid) (λ t x s. inr s) b c (subst (λ (v : Shape → Reason → Bool). Grows (IsShown v) b c) e h))

pub raised_more : (n : ℕ) (valid : Shape → Reason → Bool) (b c d : Assignment) (p : Placed) → Names b.shape (AtLeast 1 (pos (n + 1))) → AreRaised n b → Places b (AtLeast 1 (pos (n + 1))) Decision p c → Grows (IsShown valid) c d → AreRaised (n + 1) d
raised_more n valid b c d p names r h g =
    let put = grows_placed (λ t e. Unit {0}) b c (AtLeast 1 (pos (n + 1))) Decision p names tt h in
    let before = raised_on (IsShown valid) n c d g (raised_on (λ t e. Unit {0}) n b c put r) in
    let here = known_on (IsShown valid) c d (AtLeast 1 (pos (n + 1))) g (known_set b c (AtLeast 1 (pos (n + 1))) Decision p h) in
    raised_next n d before here
  where
    raised_next : (n : ℕ) (t : Assignment) → AreRaised n t → IsKnown t (AtLeast 1 (pos (n + 1))) → AreRaised (n + 1) t
    raised_next n t a b = let h : AreRaised n t × IsKnown t (AtLeast 1 (pos (suc n))) = (a, subst (λ k. IsKnown t (AtLeast 1 (pos k))) (add-one n) b) in subst (λ k. AreRaised k t) (sym (add-one n)) h

pub widened : (count n : ℕ) (most : ℤ) (m : Meaning) (from last : Assignment) → m ≡ sum_meaning 1 (wide_items (count - 1)) most → lits_of from.entries ≡ first_true 1 → GrowsRaised count m.valid from last → AreRaised count last → n ≡ length last.entries → IsWidened count most n × (1 ≤ n)
widened count n most m from last e b g r l = (
  record {
    from = from;
    last = last;
    began = b;
    grows = subst (λ (q : Meaning). GrowsRaised count q.valid from last) e g;
    raised = r;
    entries_are = l;
  },
  let i = begun from 1 b in omega (arith, i, grows_length (Raised count m.valid) from last g),
)
