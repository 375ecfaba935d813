-- Ways by number and by name.
use Rattle.std.proofs.Common.{◌≡◌, inl, inr, ℕ, zero, suc, ◌<◌, Bool, true, false, List, [], ◌∷◌, ◌++◌, map, length, Option, None, Some, slice_get, slice_index_or, if◌then◌else◌, refl, sym, ap, ◌∙◌, subst, append_assoc, append-nil, All, arith, true≢false}
use Rattle.std.specs.List.{AllZip, AllByRecursion, IsDistinct}
use Rattle.std.specs.Cmp.{IsEquivalence}
use Rattle.std.proofs.lemmas.Map.Keys.{apart_from_distinct}
use Rattle.std.proofs.lemmas.Bool.{cases_lt}
use Rattle.std.proofs.lemmas.List.Elements.{All-from_recursion}
use Rattle.ground_model.specs.Members.{IsMember}
use Rattle.ground_model.proofs.MemberLemmas.{member_map, map_member, member_contains, contains_member}
use Rattle.definite_rules.specs.Rule.{DefiniteRule, IsBelow}
use Rattle.definite_rules.specs.Least.{Derivable, IsLeastModel}
use Rattle.predicate_order.specs.declared.predicate.Predicate.{Predicate}
use Rattle.predicate_order.specs.declared.ways.Way.{Way}
use Rattle.predicate_order.specs.declared.ways.Ways.{Ways}
use Rattle.predicate_order.specs.contracts.predicate.PredicatePartialEq.TheImpl.{ghosts as key}
use Rattle.predicate_order.specs.contracts.predicate.PredicateEq.TheImpl.Laws.{laws-law}
use Rattle.predicate_order.specs.Ways.{NamedWay, from_other, at_once, IsFrom, ReachedIn, AreFrom, IsNumbered, body_of, rule_of}
use Rattle.predicate_order.specs.Judged.{AreWays, Judges, Adds}

-- LISTS SIDE BY SIDE

pub zip_push : {X Y : Type 0} (R : X → Y → Type 0) (xs : List X) (ys : List Y) (x : X) (y : Y) → AllZip R xs ys → R x y → AllZip R (xs ++ x ∷ []) (ys ++ y ∷ [])
zip_push R [] [] x y h r = (r, tt)
zip_push R [] (z ∷ ys) x y h r = absurd h
zip_push R (z ∷ xs) [] x y h r = absurd h
zip_push R (z ∷ xs) (w ∷ ys) x y h r = (h.0, zip_push R xs ys x y h.1 r)

pub zip_map : {X Y : Type 0} (R S : X → Y → Type 0) → ((x : X) (y : Y) → R x y → S x y) → (xs : List X) (ys : List Y) → AllZip R xs ys → AllZip S xs ys
zip_map R S f [] [] h = tt
zip_map R S f [] (y ∷ ys) h = absurd h
zip_map R S f (x ∷ xs) [] h = absurd h
zip_map R S f (x ∷ xs) (y ∷ ys) h = (f x y h.0, zip_map R S f xs ys h.1)

zip_left : {X Y : Type 0} (R : X → Y → Type 0) (xs : List X) (ys : List Y) → AllZip R xs ys → (x : X) → IsMember xs x → (y : Y) × IsMember ys y × R x y
zip_left R [] [] h x m = absurd m
zip_left R [] (y ∷ ys) h x m = absurd h
zip_left R (z ∷ xs) [] h x m = absurd h
zip_left R (z ∷ xs) (y ∷ ys) h x (inl e) = (y, inl refl, subst (λ v. R v y) (sym e) h.0)
zip_left R (z ∷ xs) (y ∷ ys) h x (inr m) = let r = zip_left R xs ys h.1 x m in (r.0, inr r.1, r.2)

zip_right : {X Y : Type 0} (R : X → Y → Type 0) (xs : List X) (ys : List Y) → AllZip R xs ys → (y : Y) → IsMember ys y → (x : X) × IsMember xs x × R x y
zip_right R [] [] h y m = absurd m
zip_right R [] (z ∷ ys) h y m = absurd h
zip_right R (x ∷ xs) [] h y m = absurd h
zip_right R (x ∷ xs) (z ∷ ys) h y (inl e) = (x, inl refl, subst (λ v. R x v) (sym e) h.0)
zip_right R (x ∷ xs) (z ∷ ys) h y (inr m) = let r = zip_right R xs ys h.1 y m in (r.0, inr r.1, r.2)

-- NUMBERS STAY

Keeps : List Predicate → List Predicate → Type 0
Keeps old new = (n : ℕ) (p : Predicate) → slice_get old n ≡ Some p → slice_get new n ≡ Some p

from_kept : (old new : List Predicate) → ((n : ℕ) (p : Predicate) → slice_get old n ≡ Some p → slice_get new n ≡ Some p) → (one : Option ℕ) (other : Option Predicate)
    → AreFrom old one other → AreFrom new one other
from_kept old new k None None h = tt
from_kept old new k None (Some p) h = absurd h
from_kept old new k (Some n) None h = absurd h
from_kept old new k (Some n) (Some p) h = k n p h

pub ways_kept : (old new : List Predicate) → ((n : ℕ) (p : Predicate) → slice_get old n ≡ Some p → slice_get new n ≡ Some p) → (ways : List Way) (named : List NamedWay)
    → AllZip (IsNumbered old) ways named → AllZip (IsNumbered new) ways named
ways_kept old new k = zip_map (IsNumbered old) (IsNumbered new) (λ x y h. (k x.head y.head h.0, from_kept old new k x.from y.from h.1))

-- WHAT IS ADDED

one_added : (old new : Ways) (way : Way) (one : NamedWay) (before : List NamedWay)
    → ((n : ℕ) (p : Predicate) → slice_get old.table.keys n ≡ Some p → slice_get new.table.keys n ≡ Some p)
    → new.ways ≡ old.ways ++ way ∷ [] → IsNumbered new.table.keys way one → AllZip (IsNumbered old.table.keys) old.ways before
    → AllZip (IsNumbered new.table.keys) new.ways (before ++ one ∷ [])
one_added old new way one before k e r h =
    subst (λ v. AllZip (IsNumbered new.table.keys) v (before ++ one ∷ [])) (sym e)
    (zip_push (IsNumbered new.table.keys) old.ways before way one (ways_kept old.table.keys new.table.keys k old.ways before h) r)

pub adds_none : (number : ℕ) (ways : Ways) → Adds number (λ head. []) ways ways
adds_none number ways = record {
  kept = λ n p e. e;
  added = λ before head e h. subst (λ v. AllZip (IsNumbered ways.table.keys) ways.ways v) (sym (append-nil before)) h;
}

pub adds_then : (number : ℕ) (one other : Predicate → List NamedWay) (a b c : Ways) → Adds number one a b → Adds number other b c → Adds number (λ head. one head ++ other head) a c
adds_then number one other a b c h k = record {
  kept = λ n p e. k.kept n p (h.kept n p e);
  added = λ before head e z.
      subst (λ v. AllZip (IsNumbered c.table.keys) c.ways v) (append_assoc before (one head) (other head))
      (k.added (before ++ one head) head (h.kept number head e) (h.added before head e z));
}

pub adds_once : (number : ℕ) (b : Bool) (old new : Ways) → b ≡ true → new.table.keys ≡ old.table.keys → new.ways ≡ old.ways ++ record { head = number; from = None } ∷ []
    → Adds number (λ head. if b then at_once head ∷ [] else []) old new
adds_once number b old new holds same e =
    subst (λ v. Adds number (λ head. if v then at_once head ∷ [] else []) old new) (sym holds)
    (record {
      kept = kept;
      added = λ before head h z. one_added old new (record { head = number; from = None }) (at_once head) before kept e (kept number head h, tt) z;
    })
  where
    kept : (n : ℕ) (p : Predicate) → slice_get old.table.keys n ≡ Some p → slice_get new.table.keys n ≡ Some p
    kept n p h = subst (λ v. slice_get v n ≡ Some p) (sym same) h

pub adds_from : (head from : ℕ) (other : Predicate) (old new : Ways) → ((n : ℕ) (p : Predicate) → slice_get old.table.keys n ≡ Some p → slice_get new.table.keys n ≡ Some p)
    → slice_get new.table.keys from ≡ Some other → new.ways ≡ old.ways ++ record { head = head; from = Some from } ∷ [] → Adds head (λ p. from_other p other ∷ []) old new
adds_from head from other old new k here e = record {
  kept = k;
  added = λ before p h z. one_added old new (record { head = head; from = Some from }) (from_other p other) before k e (k head p h, here) z;
}

map_pushed : {X Y : Type 0} (f : X → Y) (xs : List X) (x : X) → map f (xs ++ x ∷ []) ≡ map f xs ++ f x ∷ []
map_pushed f [] x = refl
map_pushed f (y ∷ ys) x = ap (λ v. f y ∷ v) (map_pushed f ys x)

pub adds_more : (number : ℕ) (others : List Predicate) (other : Predicate) (a b c : Ways) → Adds number (λ head. map (from_other head) others) a b
    → Adds number (λ p. from_other p other ∷ []) b c → Adds number (λ head. map (from_other head) (others ++ other ∷ [])) a c
adds_more number others other a b c h k =
    let both = adds_then number (λ head. map (from_other head) others) (λ p. from_other p other ∷ []) a b c h k in
    record {
      kept = both.kept;
      added = λ before head e z. subst (λ v. AllZip (IsNumbered c.table.keys) c.ways (before ++ v)) (sym (map_pushed (from_other head) others other)) (both.added before head e z);
    }

pub reads_added : (head : Predicate) (once : Bool) (others : List Predicate) (number : ℕ) (a b c d : Ways)
    → ((n : ℕ) (p : Predicate) → slice_get a.table.keys n ≡ Some p → slice_get b.table.keys n ≡ Some p) → b.ways ≡ a.ways → slice_get b.table.keys number ≡ Some head
    → Adds number (λ p. if once then at_once p ∷ [] else []) b c → Adds number (λ p. map (from_other p) others) c d
    → (before : List NamedWay) → AreWays before a → AreWays (before ++ ((if once then at_once head ∷ [] else []) ++ map (from_other head) others)) d
reads_added head once others number a b c d k same here h g before z =
    (adds_then number (λ p. if once then at_once p ∷ [] else []) (λ p. map (from_other p) others) b c d h g).added before head here
    (subst (λ v. AllZip (IsNumbered b.table.keys) v before) (sym same) (ways_kept a.table.keys b.table.keys k a.ways before z))

-- WHAT IS REACHED IS WHAT THE RULES GIVE

pub got_below : (keys : List Predicate) (n : ℕ) (p : Predicate) → slice_get keys n ≡ Some p → n < length keys
got_below [] n p e = absurd cc
got_below (k ∷ keys) zero p e = omega arith
got_below (k ∷ keys) (suc n) p e = let h = got_below keys n p e in omega (arith, h)

got_is : (keys : List Predicate) (n : ℕ) (p d : Predicate) → slice_get keys n ≡ Some p → slice_index_or keys n d ≡ p
got_is [] n p d e = absurd cc
got_is (k ∷ keys) zero p d e = let s : k ≡ p = cc in s
got_is (k ∷ keys) (suc n) p d e = got_is keys n p d e

pub key_equiv : IsEquivalence key.eq
key_equiv = laws-law

one_below : (keys : List Predicate) (i j : ℕ) (p : Predicate) → IsDistinct key.eq keys → i < j → slice_get keys i ≡ Some p → slice_get keys j ≡ Some p → ⊥
one_below keys i j p h less e f =
    let apart = apart_from_distinct key.eq keys i j p h less (got_below keys j p f) in
    let same : key.eq p p ≡ false = subst (λ v. key.eq v p ≡ false) (got_is keys i p p e) (subst (λ v. key.eq (slice_index_or keys i p) v ≡ false) (got_is keys j p p f) apart) in
    true≢false (sym (key_equiv.refl p) ∙ same)

pub one_number : (keys : List Predicate) (i j : ℕ) (p : Predicate) → IsDistinct key.eq keys → slice_get keys i ≡ Some p → slice_get keys j ≡ Some p → i ≡ j
one_number keys i j p h e f = elim (cases_lt i j) [
  | inl less ↦ absurd (one_below keys i j p h less e f)
  | inr le ↦ elim (cases_lt j i) [ inl less ↦ absurd (one_below keys j i p h less f e) | inr ge ↦ omega arith ]
]

pub same_got : (keys : List Predicate) (n : ℕ) (p q : Predicate) → slice_get keys n ≡ Some p → slice_get keys n ≡ Some q → p ≡ q
same_got keys n p q e f = let s : Some p ≡ Some q = sym e ∙ f in cc

module _ (keys : List Predicate) (ways : List Way) (named : List NamedWay) (zip : AllZip (IsNumbered keys) ways named) where
  from_reached : (rank : ℕ) → ((n : ℕ) (p : Predicate) → slice_get keys n ≡ Some p → Derivable (map rule_of ways) rank n → ReachedIn named rank p)
      → (one : Option ℕ) (other : Option Predicate) → AreFrom keys one other → AllByRecursion (Derivable (map rule_of ways) rank) (body_of one) → IsFrom (ReachedIn named rank) other
  from_reached rank f None None a d = tt
  from_reached rank f None (Some p) a d = absurd a
  from_reached rank f (Some n) None a d = absurd a
  from_reached rank f (Some n) (Some p) a d = f n p a d.0

  derived_reached : (rank n : ℕ) (p : Predicate) → slice_get keys n ≡ Some p → Derivable (map rule_of ways) rank n → ReachedIn named rank p
  derived_reached zero n p e d = absurd d
  derived_reached (suc rank) n p e d =
      let m = map_member rule_of ways d.0 (contains_member (map rule_of ways) d.0 d.1) in
      let r = zip_left (IsNumbered keys) ways named zip m.0 m.1 in
      let head : m.0.head ≡ n = sym (ap (λ (x : DefiniteRule). x.head) m.2) ∙ d.2 in (
        r.0,
        r.1,
        same_got keys n r.0.head p (subst (λ v. slice_get keys v ≡ Some r.0.head) head r.2.0) e,
        from_reached rank (derived_reached rank) m.0.from r.0.from r.2.1
            (subst (λ (x : DefiniteRule). AllByRecursion (Derivable (map rule_of ways) rank) x.body) m.2 d.3),
      )

  module _ (distinct : IsDistinct key.eq keys) where
    from_derived : (rank : ℕ) → ((n : ℕ) (p : Predicate) → slice_get keys n ≡ Some p → ReachedIn named rank p → Derivable (map rule_of ways) rank n)
        → (one : Option ℕ) (other : Option Predicate) → AreFrom keys one other → IsFrom (ReachedIn named rank) other → AllByRecursion (Derivable (map rule_of ways) rank) (body_of one)
    from_derived rank f None None a d = tt
    from_derived rank f None (Some p) a d = absurd a
    from_derived rank f (Some n) None a d = absurd a
    from_derived rank f (Some n) (Some p) a d = (f n p a d, tt)

    reached_derived : (rank n : ℕ) (p : Predicate) → slice_get keys n ≡ Some p → ReachedIn named rank p → Derivable (map rule_of ways) rank n
    reached_derived zero n p e d = absurd d
    reached_derived (suc rank) n p e d =
        let r = zip_right (IsNumbered keys) ways named zip d.0 d.1 in (
          rule_of r.0,
          member_contains (map rule_of ways) (rule_of r.0) (member_map rule_of ways r.0 r.1),
          one_number keys r.0.head n p distinct (r.2.0 ∙ ap Some d.2) e,
          from_derived rank (reached_derived rank) r.0.from d.0.from r.2.1 d.3,
        )

    judges : (flags : List Bool) → IsLeastModel (map rule_of ways) flags → Judges keys flags named
    judges flags h = record {
      flagged = λ n p e. (
        (λ f. let d = h.derived n f in (d.0, derived_reached d.0 n p e d.1)),
        (λ r. h.closed n r.0 (reached_derived r.0 n p e r.1)),
      );
      heads = λ way m. let r = zip_right (IsNumbered keys) ways named zip way m in (r.0.head, r.2.0);
    }

pub ways_judged : (keys : List Predicate) (ways : List Way) (named : List NamedWay) (flags : List Bool) (rules : List DefiniteRule) → IsDistinct key.eq keys
    → AllZip (IsNumbered keys) ways named → rules ≡ map rule_of ways → IsLeastModel rules flags → Judges keys flags named
ways_judged keys ways named flags rules d zip e h = judges keys ways named zip d flags (subst (λ v. IsLeastModel v flags) e h)

pub ways_judged_from : (keys : List Predicate) (ways : List Way) (named : List NamedWay) (flags : List Bool) (rules more : List DefiniteRule) (start : ℕ) (p : Predicate)
    → IsDistinct key.eq keys → AllZip (IsNumbered keys) ways named → slice_get keys start ≡ Some p → rules ≡ map rule_of ways
    → more ≡ rules ++ record { head = start; body = [] } ∷ [] → IsLeastModel more flags → Judges keys flags (named ++ at_once p ∷ [])
ways_judged_from keys ways named flags rules more start p d zip here e f h =
    judges keys (ways ++ record { head = start; from = None } ∷ []) (named ++ at_once p ∷ [])
    (zip_push (IsNumbered keys) ways named (record { head = start; from = None }) (at_once p) zip (here, tt)) d flags
    (subst (λ v. IsLeastModel v flags) (f ∙ ap (λ v. v ++ record { head = start; body = [] } ∷ []) e ∙ sym (map_pushed rule_of ways (record { head = start; from = None }))) h)

-- EVERY NUMBER IS BELOW THE COUNT

from_below : (keys : List Predicate) (one : Option ℕ) (other : Option Predicate) → AreFrom keys one other → AllByRecursion (λ n. n < length keys) (body_of one)
from_below keys None other a = tt
from_below keys (Some n) None a = absurd a
from_below keys (Some n) (Some p) a = (got_below keys n p a, tt)

rules_below : (keys : List Predicate) (ways : List Way) (named : List NamedWay) → AllZip (IsNumbered keys) ways named → AllByRecursion (IsBelow (length keys)) (map rule_of ways)
rules_below keys [] [] h = tt
rules_below keys [] (y ∷ ys) h = absurd h
rules_below keys (x ∷ xs) [] h = absurd h
rules_below keys (x ∷ xs) (y ∷ ys) h = (
  record {
    head = got_below keys x.head y.head h.0.0;
    body = All-from_recursion (λ n. n < length keys) (body_of x.from) (from_below keys x.from y.from h.0.1);
  },
  rules_below keys xs ys h.1,
)

recursion_push : {X : Type 0} (P : X → Type 0) (xs : List X) (x : X) → AllByRecursion P xs → P x → AllByRecursion P (xs ++ x ∷ [])
recursion_push P [] x h p = (p, tt)
recursion_push P (y ∷ ys) x h p = (h.0, recursion_push P ys x h.1 p)

pub all_below : (keys : List Predicate) (ways : List Way) (named : List NamedWay) (rules : List DefiniteRule) (count : ℕ) → AllZip (IsNumbered keys) ways named
    → rules ≡ map rule_of ways → count ≡ length keys → All (IsBelow count) rules
all_below keys ways named rules count zip e same =
    All-from_recursion (IsBelow count) rules (subst (λ v. AllByRecursion (IsBelow count) v) (sym e) (subst (λ v. AllByRecursion (IsBelow v) (map rule_of ways)) (sym same) (rules_below keys ways named zip)))

pub all_below_from : (keys : List Predicate) (ways : List Way) (named : List NamedWay) (rules more : List DefiniteRule) (count start : ℕ) → AllZip (IsNumbered keys) ways named
    → rules ≡ map rule_of ways → more ≡ rules ++ record { head = start; body = [] } ∷ [] → start < length keys → count ≡ length keys → All (IsBelow count) more
all_below_from keys ways named rules more count start zip e f less same =
    All-from_recursion (IsBelow count) more
    (subst (λ v. AllByRecursion (IsBelow count) v) (sym (f ∙ ap (λ v. v ++ record { head = start; body = [] } ∷ []) e))
    (subst (λ v. AllByRecursion (IsBelow v) (map rule_of ways ++ record { head = start; body = [] } ∷ [])) (sym same)
    (recursion_push (IsBelow (length keys)) (map rule_of ways) (record { head = start; body = [] }) (rules_below keys ways named zip)
    (record { head = less; body = All-from_recursion (λ n. n < length keys) [] tt }))))
