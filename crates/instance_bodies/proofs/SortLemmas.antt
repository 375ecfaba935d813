-- Atoms with signs, sorted by their ids and then without those that stand twice, are the same ones in order.
use Rattle.std.proofs.Common.{◌≡◌, ◌<◌, ℕ, Bool, true, false, List, [], ◌∷◌, map, length, Contains, refl, sym, ap, ◌∙◌, subst, arith}
use Rattle.std.specs.Prelude.{◌↔◌, ◌&&◌, nat_eq}
use Rattle.std.specs.Bool.{beq}
use Rattle.std.specs.Cmp.{IsTotalOrder}
use Rattle.std.specs.List.{AllByRecursion, dedup}
use Rattle.std.specs.List.Sorted.{IsStrictlySortedBy, IsSortedBy, IsPermutation}
use Rattle.std.specs.Ordering.{is_eq, is_lt, ordering_then, ordering_reverse}
use Rattle.std.specs.declared.cmp.Ordering.{Ordering}
use Rattle.std.specs.declared.cmp.Ordering.TheVariants.{Less, Equal, Greater}
use Rattle.std.proofs.lemmas.Cmp.{on_total, then_total, on_equiv, and_equiv, nat_eq_equiv}
use Rattle.std.specs.Cmp.{both_tied, bool_eq_equiv}
use Rattle.std.specs.Cmp.{IsEquivalence}
use Rattle.std.proofs.lemmas.List.Kept.{IsStrictlySortedBy-dedup, Contains-dedup, Contains-from_dedup}
use Rattle.std.proofs.lemmas.List.Sorted.{Contains-permutation, IsPermutation-sym}
use Rattle.std.proofs.lemmas.Bool.Decides.{nat_tests}
use Rattle.symbols.specs.Symbol.{Symbol}
use Rattle.symbols.specs.Order.{symbol_cmp}
use Rattle.symbols.specs.Table.{symbol_at, IsOnce}
use Rattle.symbols.specs.inner.Sorted.{id_cmp}
use Rattle.symbols.proofs.OrderLemmas.{symbol_cmp_total, symbol_cmp-itself}
use Rattle.symbols.proofs.SortedLemmas.{id_cmp_total, ties_of_ids, ascending_symbols}
use Rattle.ground_model.specs.Members.{IsMember}
use Rattle.ground_model.specs.Rule.{LitOf, AtomLit}
use Rattle.ground_model.proofs.Bools.{and_elim}
use Rattle.ground_model.proofs.MemberLemmas.{property_member, property_from_members, member_map, map_member, member_contains, contains_member}
use Rattle.program_meaning.specs.Ascending.{Ascends}
use Rattle.program_meaning.specs.Ground.{sign_cmp, lit_cmp}
use Rattle.symbol_rules.specs.Reading.{literal_in, HasLiterals}
use Rattle.instance_bodies.specs.inner.Ordering.{literal_order}

-- SIGNS

sign_antisymm : (x y : Bool) → sign_cmp x y ≡ ordering_reverse (sign_cmp y x)
sign_antisymm true true = refl
sign_antisymm true false = refl
sign_antisymm false true = refl
sign_antisymm false false = refl

sign_trans : (x y z : Bool) → sign_cmp x y ≡ Less → sign_cmp y z ≡ Less → sign_cmp x z ≡ Less
sign_trans true true z e f = cc
sign_trans true false true e f = cc
sign_trans true false false e f = refl
sign_trans false true z e f = cc
sign_trans false false z e f = cc

sign_congr : (x y z : Bool) → sign_cmp x y ≡ Equal → sign_cmp x z ≡ sign_cmp y z
sign_congr true true z e = refl
sign_congr true false z e = cc
sign_congr false true z e = cc
sign_congr false false z e = refl

sign_total : IsTotalOrder sign_cmp
sign_total = record { antisymm = sign_antisymm; trans = sign_trans; congr = sign_congr }

-- THE ORDER

pub literal_total : (symbols : List Symbol) → IsTotalOrder (literal_order symbols)
literal_total symbols = then_total (on_total (λ (l : ℕ × Bool). l.0) (id_cmp_total symbol_cmp_total symbols)) (on_total (λ (l : ℕ × Bool). l.1) sign_total)

less_ids : (symbols : List Symbol) (a b : ℕ) → IsOnce symbols → a < length symbols → b < length symbols → id_cmp symbols a b ≡ Less
    → symbol_cmp (symbol_at symbols a) (symbol_at symbols b) ≡ Less
unfolding IsStrictlySortedBy
less_ids symbols a b once here there less = (ascending_symbols symbols (a ∷ b ∷ []) once (here, (there, tt)) ((less, tt), (tt, tt))).0.0

same_ids : (symbols : List Symbol) (a b : ℕ) → id_cmp symbols a b ≡ Equal → a ≡ b
same_ids symbols a b e = let t : nat_eq a b ≡ true = ties_of_ids symbols (id_cmp_total symbol_cmp_total symbols) a b ∙ ap is_eq e in grind (arith, nat_tests)

less_then : (symbols : List Symbol) (a b : ℕ) (s t : Bool) (o : Ordering) → id_cmp symbols a b ≡ o → IsOnce symbols → a < length symbols → b < length symbols
    → ordering_then o (sign_cmp s t) ≡ Less → lit_cmp (AtomLit (symbol_at symbols a) s) (AtomLit (symbol_at symbols b) t) ≡ Less
less_then symbols a b s t Less is once here there e = ap (λ o. ordering_then o (sign_cmp s t)) (less_ids symbols a b once here there is)
less_then symbols a b s t Equal is once here there e =
    ap (λ o. ordering_then o (sign_cmp s t)) (ap (λ c. symbol_cmp (symbol_at symbols a) (symbol_at symbols c)) (sym (same_ids symbols a b is)) ∙ symbol_cmp-itself (symbol_at symbols a)) ∙ e
less_then symbols a b s t Greater is once here there e = cc

less_literal : (symbols : List Symbol) (a b : ℕ × Bool) → IsOnce symbols → a.0 < length symbols → b.0 < length symbols → literal_order symbols a b ≡ Less
    → lit_cmp (literal_in symbols a) (literal_in symbols b) ≡ Less
less_literal symbols a b once here there e = less_then symbols a.0 b.0 a.1 b.1 (id_cmp symbols a.0 b.0) refl once here there e

all_less : (symbols : List Symbol) (a : ℕ × Bool) (rest : List (ℕ × Bool)) → IsOnce symbols → a.0 < length symbols → HasLiterals (length symbols) rest
    → AllByRecursion (λ b. literal_order symbols a b ≡ Less) rest → AllByRecursion (λ lit. lit_cmp (literal_in symbols a) lit ≡ Less) (map (literal_in symbols) rest)
all_less symbols a [] once here known less = tt
all_less symbols a (b ∷ rest) once here known less = (less_literal symbols a b once here known.0 less.0, all_less symbols a rest once here known.1 less.1)

-- ids of the table that ascend have symbols that ascend
pub ascending_literals : (symbols : List Symbol) (all : List (ℕ × Bool)) → IsOnce symbols → HasLiterals (length symbols) all
    → IsStrictlySortedBy (literal_order symbols) all → Ascends lit_cmp (map (literal_in symbols) all)
unfolding IsStrictlySortedBy
ascending_literals symbols [] once known up = tt
ascending_literals symbols (a ∷ all) once known up = (all_less symbols a all once known.0 known.1 up.0, ascending_literals symbols all once known.1 up.1)

-- WITHOUT THOSE THAT STAND TWICE

abbrev pub same_literal : ℕ × Bool → ℕ × Bool → Bool
same_literal a b = nat_eq a.0 b.0 && beq a.1 b.1

signs_tie : (s t : Bool) → beq s t ≡ is_eq (sign_cmp s t)
signs_tie true true = refl
signs_tie true false = refl
signs_tie false true = refl
signs_tie false false = refl

literals_tie : (symbols : List Symbol) (a b : ℕ × Bool) → same_literal a b ≡ is_eq (literal_order symbols a b)
literals_tie symbols a b =
    both_tied (nat_eq a.0 b.0) (beq a.1 b.1) (id_cmp symbols a.0 b.0) (sign_cmp a.1 b.1) (ties_of_ids symbols (id_cmp_total symbol_cmp_total symbols) a.0 b.0) (signs_tie a.1 b.1)

same_equiv : IsEquivalence same_literal
same_equiv = and_equiv (on_equiv (λ (l : ℕ × Bool). l.0) nat_eq_equiv) (on_equiv (λ (l : ℕ × Bool). l.1) bool_eq_equiv)

same_sign : (s t : Bool) → beq s t ≡ true → s ≡ t
same_sign true true e = refl
same_sign true false e = cc
same_sign false true e = cc
same_sign false false e = refl

same_is : (a b : ℕ × Bool) → same_literal a b ≡ true → a ≡ b
same_is a b e =
    let both = and_elim (nat_eq a.0 b.0) (beq a.1 b.1) e in
    let here : a.0 ≡ b.0 = same_number a.0 b.0 both.0 in
    let there = same_sign a.1 b.1 both.1 in
    (λ i. (here i, there i))
  where
    same_number : (m n : ℕ) → nat_eq m n ≡ true → m ≡ n
    same_number m n e = grind (arith, nat_tests)

module _ (symbols : List Symbol) (found ordered unique : List (ℕ × Bool)) (moved : IsPermutation found ordered) (is : unique ≡ dedup same_literal ordered) where
  back : (a : ℕ × Bool) → IsMember unique a → IsMember found a
  back a m =
      contains_member found a
      (Contains-permutation ordered found a (IsPermutation-sym found ordered moved)
      (Contains-from_dedup same_literal ordered a (subst (λ xs. Contains xs a) is (member_contains unique a m))))

  forth : (a : ℕ × Bool) → IsMember found a → IsMember unique a
  forth a m =
      contains_member unique a
      (subst (λ xs. Contains xs a) (sym is) (Contains-dedup same_equiv same_is ordered a (Contains-permutation found ordered a moved (member_contains found a m))))

  pub sorted_members : (lit : LitOf Symbol Symbol) → IsMember (map (literal_in symbols) unique) lit ↔ IsMember (map (literal_in symbols) found) lit
  sorted_members lit = (
    λ m. let r = map_member (literal_in symbols) unique lit m in subst (IsMember (map (literal_in symbols) found)) (sym r.2) (member_map (literal_in symbols) found r.0 (back r.0 r.1)),
    λ m. let r = map_member (literal_in symbols) found lit m in subst (IsMember (map (literal_in symbols) unique)) (sym r.2) (member_map (literal_in symbols) unique r.0 (forth r.0 r.1)),
  )

  pub sorted_known : HasLiterals (length symbols) found → HasLiterals (length symbols) unique
  sorted_known known =
      property_from_members (λ (a : ℕ × Bool). a.0 < length symbols) unique (λ a m. property_member (λ (a : ℕ × Bool). a.0 < length symbols) found a known (back a m))

  pub sorted_ascends : IsOnce symbols → HasLiterals (length symbols) found → IsSortedBy (λ x y. is_lt (literal_order symbols x y)) ordered
      → Ascends lit_cmp (map (literal_in symbols) unique)
  sorted_ascends once known up =
      ascending_literals symbols unique once (sorted_known known)
      (subst (IsStrictlySortedBy (literal_order symbols)) (sym is) (IsStrictlySortedBy-dedup (literal_total symbols) (literals_tie symbols) ordered up))
