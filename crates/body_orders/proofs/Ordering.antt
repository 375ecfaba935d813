-- Literals that bind their variables have an order.
use Rattle.std.proofs.Common.{◌≡◌, ◌⊎◌, inl, inr, ℕ, zero, suc, Bool, true, false, ◌||◌, List, [], ◌∷◌, ◌++◌, length, Some, refl, sym, ◌∙◌, ap, subst, eqb-true, arith}
use Rattle.std.proofs.lemmas.List.{length-append}
use Rattle.syntax_tree.specs.declared.term.Term.{Term}
use Rattle.ground_model.specs.Members.{IsMember}
use Rattle.ground_model.proofs.Bools.{or_elim, or_left, or_right, bool_cases, conflict}
use Rattle.ground_model.proofs.MemberLemmas.{same_nat, property_member}
use Rattle.program_meaning.specs.Read.{PlainLiteral, PlainAtom, PlainCompare}
use Rattle.program_meaning.specs.Variables.{occurs, occurs_outside, occurs_in, plain_variable}
use Rattle.program_meaning.specs.Safety.{Binds, BoundAt, IsBound, IsReady}
use Rattle.program_meaning.proofs.Layers
use Rattle.program_meaning.proofs.Lists.{append_left, append_right, append_from}
use Rattle.program_meaning.proofs.Meeting.{is_it}
use Rattle.safety_meaning.specs.Ordered.{NoneIs, IsPositive, TakesFirst, Next, TakesReady, TakesAtom, AreOrdered}
use Rattle.body_orders.specs.inner.Ready.{binds, is_ready, is_positive}
use Rattle.body_orders.proofs.Deciding.{Tells, IsListed, tells_more, ready_to, ready_from}

-- THE FIRST OF A LIST

find : {X : Type 0} (P : X → Type 0) (test : X → Bool) (xs : List X) → ((x : X) → IsMember xs x → (P x → test x ≡ true) × (test x ≡ true → P x))
    → NoneIs P xs ⊎ ((x : X) × (left : List X) × TakesFirst P xs x left)
find P test [] d = inl tt
find {X} P test (x ∷ xs) d = go (bool_cases (test x)) (find P test xs (λ y m. d y (inr m)))
  where
    not_here : test x ≡ false → P x → ⊥
    not_here e p = conflict (test x) ((d x (inl refl)).0 p) e

    go : (test x ≡ true) ⊎ (test x ≡ false) → NoneIs P xs ⊎ ((y : X) × (left : List X) × TakesFirst P xs y left)
        → NoneIs P (x ∷ xs) ⊎ ((y : X) × (left : List X) × TakesFirst P (x ∷ xs) y left)
    go (inl e) rec = inr (x, xs, record { front = []; behind = xs; before = tt; is = (d x (inl refl)).1 e; whole = refl; rest = refl })
    go (inr e) (inl none) = inl (not_here e, none)
    go (inr e) (inr (y, left, t)) =
        inr (y, x ∷ left, record { front = x ∷ t.front; behind = t.behind; before = (not_here e, t.before); is = t.is; whole = ap (λ z. x ∷ z) t.whole; rest = ap (λ z. x ∷ z) t.rest })

-- what comes out, and what is left
record Parts {X : Type 0} (xs : List X) (x : X) (left : List X) : Type 0 where
  one : IsMember xs x
  others : (y : X) → IsMember left y → IsMember xs y
  each : (y : X) → IsMember xs y → (y ≡ x) ⊎ IsMember left y
  less : length xs ≡ suc (length left)

parts : {X : Type 0} (P : X → Type 0) (xs : List X) (x : X) (left : List X) → TakesFirst P xs x left → Parts xs x left
parts {X} P xs x left t = record {
  one = subst (λ zs. IsMember zs x) (sym t.whole) (append_right t.front (x ∷ t.behind) x (inl refl));
  others = λ y m. subst (λ zs. IsMember zs y) (sym t.whole) (back y (append_from t.front t.behind y (subst (λ zs. IsMember zs y) t.rest m)));
  each = λ y m. forth y (append_from t.front (x ∷ t.behind) y (subst (λ zs. IsMember zs y) t.whole m));
  less = ap length t.whole ∙ counted ∙ ap (λ zs. suc (length zs)) (sym t.rest);
}
  where
    back : (y : X) → IsMember t.front y ⊎ IsMember t.behind y → IsMember (t.front ++ x ∷ t.behind) y
    back y (inl m) = append_left t.front (x ∷ t.behind) y m
    back y (inr m) = append_right t.front (x ∷ t.behind) y (inr m)

    forth : (y : X) → IsMember t.front y ⊎ IsMember (x ∷ t.behind) y → (y ≡ x) ⊎ IsMember left y
    forth y (inl m) = inr (subst (λ zs. IsMember zs y) (sym t.rest) (append_left t.front t.behind y m))
    forth y (inr (inl e)) = inl e
    forth y (inr (inr m)) = inr (subst (λ zs. IsMember zs y) (sym t.rest) (append_right t.front t.behind y m))

    counted : length (t.front ++ x ∷ t.behind) ≡ suc (length (t.front ++ t.behind))
    counted = omega (arith, length-append t.front (x ∷ t.behind), length-append t.front t.behind)

next_parts : (P : ℕ → Type 0) (xs : List PlainLiteral) (x : PlainLiteral) (left : List PlainLiteral) → Next P xs x left → Parts xs x left
next_parts P xs x left (TakesReady h) = parts (IsReady P) xs x left h
next_parts P xs x left (TakesAtom none h) = parts IsPositive xs x left h

-- VARIABLES

variable_occurs : (term : Term) (n : ℕ) → plain_variable term ≡ Some n → occurs n term ≡ true
variable_occurs term n e = subst (λ z. occurs n z ≡ true) (sym (is_it term n e)) (Layers.occurs-Variable n n ∙ same_nat n n refl)

variable_only : (term : Term) (n m : ℕ) → plain_variable term ≡ Some n → occurs m term ≡ true → n ≡ m
variable_only term n m e h = eqb-true n m (sym (Layers.occurs-Variable m n) ∙ subst (λ z. occurs m z ≡ true) (is_it term n e) h)

-- what a literal binds has the property
abbrev pub Settled : (ℕ → Type 0) → PlainLiteral → Type 0
Settled P (PlainAtom term true) = (n : ℕ) → occurs_outside n term ≡ true → P n
Settled P (PlainAtom term false) = Unit {0}
Settled P (PlainCompare left rel right) = (n : ℕ) → occurs_in n (PlainCompare left rel right) ≡ true → P n

settled_more : (P Q : ℕ → Type 0) → ((n : ℕ) → P n → Q n) → (literal : PlainLiteral) → Settled P literal → Settled Q literal
settled_more P Q more (PlainAtom term true) s = λ n h. more n (s n h)
settled_more P Q more (PlainAtom term false) s = tt
settled_more P Q more (PlainCompare left rel right) s = λ n h. more n (s n h)

settled_ready : (P : ℕ → Type 0) (literal : PlainLiteral) → IsReady P literal → Settled (λ n. P n ⊎ Binds P literal n) literal
settled_ready P (PlainAtom term true) ready = λ n h. inr h
settled_ready P (PlainAtom term false) ready = tt
settled_ready P (PlainCompare left rel right) ready = λ n h. go n (or_elim (occurs n left) (occurs n right) h)
  where
    go : (n : ℕ) → (occurs n left ≡ true) ⊎ (occurs n right ≡ true) → P n ⊎ Binds P (PlainCompare left rel right) n
    go n (inl o) = ready.0 n o
    go n (inr o) = ready.1 n o

settled_atom : (P : ℕ → Type 0) (literal : PlainLiteral) → IsPositive literal → Settled (λ n. P n ⊎ Binds P literal n) literal
settled_atom P (PlainAtom term true) is = λ n h. inr h
settled_atom P (PlainAtom term false) is = absurd is
settled_atom P (PlainCompare left rel right) is = absurd is

settled_next : (P : ℕ → Type 0) (xs : List PlainLiteral) (x : PlainLiteral) (left : List PlainLiteral) → Next P xs x left → Settled (λ n. P n ⊎ Binds P x n) x
settled_next P xs x left (TakesReady h) = settled_ready P x h.is
settled_next P xs x left (TakesAtom none h) = settled_atom P x h.is

positive_told : (literal : PlainLiteral) → (IsPositive literal → is_positive literal ≡ true) × (is_positive literal ≡ true → IsPositive literal)
positive_told (PlainAtom term true) = (λ p. refl, λ e. tt)
positive_told (PlainAtom term false) = (λ p. absurd p, λ e. absurd cc)
positive_told (PlainCompare left rel right) = (λ p. absurd p, λ e. absurd cc)

-- LITERALS

-- the literals that are left of a body or a condition, where these variables are bound
pub record IsUnderway (order : List ℕ) (own : List PlainLiteral) (Given P : ℕ → Type 0) (bound : ℕ → Bool) (xs : List PlainLiteral) : Type 0 where
  pub tells : Tells order P bound
  pub given : (n : ℕ) → Given n → P n
  pub only : (literal : PlainLiteral) → IsMember xs literal → IsMember own literal
  pub settled : (literal : PlainLiteral) → IsMember own literal → IsMember xs literal ⊎ Settled P literal

module _ (order : List ℕ) (own : List PlainLiteral) (Given : ℕ → Type 0)
    (listed : (literal : PlainLiteral) → IsMember own literal → IsListed order literal)
    (safe : (n : ℕ) → IsMember order n → (literal : PlainLiteral) → IsMember own literal → occurs_in n literal ≡ true → (IsBound Given own n → ⊥) → ⊥) where
  pub goes_on : (P : ℕ → Type 0) (bound : ℕ → Bool) (xs : List PlainLiteral) (x : PlainLiteral) (left : List PlainLiteral) → IsUnderway order own Given P bound xs → Next P xs x left
      → IsUnderway order own Given (λ n. P n ⊎ Binds P x n) (λ n. bound n || binds order bound x n) left
  goes_on P bound xs x left u next =
      let p = next_parts P xs x left next in record {
        tells = tells_more order P bound u.tells x (listed x (u.only x p.one));
        given = λ n g. inl (u.given n g);
        only = λ literal m. u.only literal (p.others literal m);
        settled = λ literal m. go literal p.each (u.settled literal m);
      }
    where
      place : (literal : PlainLiteral) → (literal ≡ x) ⊎ IsMember left literal → IsMember left literal ⊎ Settled (λ n. P n ⊎ Binds P x n) literal
      place literal (inl e) = inr (subst (Settled (λ n. P n ⊎ Binds P x n)) (sym e) (settled_next P xs x left next))
      place literal (inr m) = inl m

      go : (literal : PlainLiteral) → ((y : PlainLiteral) → IsMember xs y → (y ≡ x) ⊎ IsMember left y) → IsMember xs literal ⊎ Settled P literal
          → IsMember left literal ⊎ Settled (λ n. P n ⊎ Binds P x n) literal
      go literal each (inl m) = place literal (each literal m)
      go literal each (inr s) = inr (settled_more P (λ n. P n ⊎ Binds P x n) (λ n p. inl p) literal s)

  -- some literal can be taken
  module _ (P : ℕ → Type 0) (bound : ℕ → Bool) (xs : List PlainLiteral) (u : IsUnderway order own Given P bound xs) (none : NoneIs (IsReady P) xs) (nope : NoneIs IsPositive xs) where
    by_settled : (rank n : ℕ) (literal : PlainLiteral) → Settled P literal → Binds (BoundAt Given own rank) literal n → P n
    by_settled rank n (PlainAtom term true) s b = s n b
    by_settled rank n (PlainAtom term false) s b = absurd b
    by_settled rank n (PlainCompare left rel right) s (e, inl b) = s n (or_left (occurs n left) (occurs n right) (variable_occurs left n b.0))
    by_settled rank n (PlainCompare left rel right) s (e, inr b) = s n (or_right (occurs n left) (occurs n right) (variable_occurs right n b.0))

    by_left : (rank n : ℕ) → ((m : ℕ) → BoundAt Given own rank m → P m) → (literal : PlainLiteral) → IsMember xs literal → Binds (BoundAt Given own rank) literal n → P n
    by_left rank n below (PlainAtom term true) m b = absurd (property_member (λ y. IsPositive y → ⊥) xs (PlainAtom term true) nope m tt)
    by_left rank n below (PlainAtom term false) m b = absurd b
    by_left rank n below (PlainCompare left rel right) m (e, inl b) =
        absurd (property_member (λ y. IsReady P y → ⊥) xs (PlainCompare left rel right) none m (
          λ j o. inr (e, inl (b.0 ∙ ap (λ z. Some z) (variable_only left n j b.0 o), λ i o. below i (b.1 i o))),
          λ j o. inl (below j (b.1 j o)),
        ))
    by_left rank n below (PlainCompare left rel right) m (e, inr b) =
        absurd (property_member (λ y. IsReady P y → ⊥) xs (PlainCompare left rel right) none m (
          λ j o. inl (below j (b.1 j o)),
          λ j o. inr (e, inr (b.0 ∙ ap (λ z. Some z) (variable_only right n j b.0 o), λ i o. below i (b.1 i o))),
        ))

    closed : (rank n : ℕ) → BoundAt Given own rank n → P n
    closed zero n g = u.given n g
    closed (suc rank) n (inl g) = u.given n g
    closed (suc rank) n (inr b) = go (u.settled b.0 b.1) (closed rank)
      where
        go : IsMember xs b.0 ⊎ Settled P b.0 → ((m : ℕ) → BoundAt Given own rank m → P m) → P n
        go (inl m) below = by_left rank n below b.0 m b.2
        go (inr s) below = by_settled rank n b.0 s b.2

    all_known : (literal : PlainLiteral) → IsMember xs literal → (n : ℕ) → occurs_in n literal ≡ true → P n
    all_known literal m n o = let place = listed literal (u.only literal m) n o in go place (bool_cases (bound n))
      where
        go : IsMember order n → (bound n ≡ true) ⊎ (bound n ≡ false) → P n
        go place (inl e) = (u.tells n place).1 e
        go place (inr e) = absurd (safe n place literal (u.only literal m) o (λ b. conflict (bound n) ((u.tells n place).0 (closed b.0 n b.1)) e))

    all_ready : (literal : PlainLiteral) → ((n : ℕ) → occurs_in n literal ≡ true → P n) → IsReady P literal
    all_ready (PlainAtom term sign) known = λ n o. inl (known n o)
    all_ready (PlainCompare left rel right) known =
        (λ n o. inl (known n (or_left (occurs n left) (occurs n right) o)), λ n o. inl (known n (or_right (occurs n left) (occurs n right) o)))

    pub never_stuck : (literal : PlainLiteral) → IsMember xs literal → ⊥
    never_stuck literal m = property_member (λ y. IsReady P y → ⊥) xs literal none m (all_ready literal (all_known literal m))

  -- an order of as many literals
  abbrev Orders : ℕ → Type 1
  Orders count = (xs : List PlainLiteral) → length xs ≡ count → (P : ℕ → Type 0) (bound : ℕ → Bool) → IsUnderway order own Given P bound xs → (ys : List PlainLiteral) × AreOrdered P xs ys

  order_from : (count : ℕ) → Orders count
  order_from count [] e P bound u = ([], refl)
  order_from zero (x ∷ xs) e P bound u = absurd cc
  order_from (suc count) (x ∷ xs) e P bound u =
      ready (order_from count)
      (find (IsReady P) (is_ready order bound) (x ∷ xs) (λ y m. (ready_to order P bound u.tells y (listed y (u.only y m)), ready_from order P bound u.tells y (listed y (u.only y m)))))
    where
      next : Orders count → (y : PlainLiteral) (left : List PlainLiteral) → Next P (x ∷ xs) y left → (ys : List PlainLiteral) × AreOrdered P (x ∷ xs) ys
      next rec y left n =
          let p = next_parts P (x ∷ xs) y left n in
          let less : length left ≡ count = let h = p.less in omega (arith, h, e) in
          let r = rec left less (λ k. P k ⊎ Binds P y k) (λ k. bound k || binds order bound y k) (goes_on P bound (x ∷ xs) y left u n) in
          (y ∷ r.0, (left, n, r.1))

      atom : Orders count → NoneIs (IsReady P) (x ∷ xs) → NoneIs IsPositive (x ∷ xs) ⊎ ((y : PlainLiteral) × (left : List PlainLiteral) × TakesFirst IsPositive (x ∷ xs) y left)
          → (ys : List PlainLiteral) × AreOrdered P (x ∷ xs) ys
      atom rec none (inl nope) = absurd (never_stuck P bound (x ∷ xs) u none nope x (inl refl))
      atom rec none (inr (y, left, h)) = next rec y left (TakesAtom none h)

      ready : Orders count → NoneIs (IsReady P) (x ∷ xs) ⊎ ((y : PlainLiteral) × (left : List PlainLiteral) × TakesFirst (IsReady P) (x ∷ xs) y left)
          → (ys : List PlainLiteral) × AreOrdered P (x ∷ xs) ys
      ready rec (inl none) = atom rec none (find IsPositive is_positive (x ∷ xs) (λ y m. positive_told y))
      ready rec (inr (y, left, h)) = next rec y left (TakesReady h)

  pub has_order : (P : ℕ → Type 0) (bound : ℕ → Bool) → Tells order P bound → ((n : ℕ) → Given n → P n) → (ys : List PlainLiteral) × AreOrdered P own ys
  has_order P bound tells given =
      order_from (length own) own refl P bound (record { tells = tells; given = given; only = λ literal m. m; settled = λ literal m. inl m })
