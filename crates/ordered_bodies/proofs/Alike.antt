-- Literals in order, where two properties of variables are alike.
use Rattle.std.proofs.Common.{◌⊎◌, inl, inr, ℕ, Bool, ◌||◌, List, [], ◌∷◌, ◌++◌, refl, sym, subst}
use Rattle.ground_model.specs.Members.{IsMember}
use Rattle.ground_model.proofs.MemberLemmas.{property_member, property_from_members}
use Rattle.program_meaning.specs.Read.{PlainLiteral}
use Rattle.program_meaning.specs.Safety.{Binds, IsReady}
use Rattle.program_meaning.proofs.Lists.{append_left, append_right, append_from}
use Rattle.safety_meaning.specs.Ordered.{NoneIs, IsPositive, TakesFirst, Next, TakesReady, TakesAtom, AreOrdered}
use Rattle.body_orders.specs.inner.Ready.{binds}
use Rattle.body_orders.proofs.Deciding.{Tells, IsListed, tells_more, ready_to, ready_from}

-- the literals are listed
abbrev pub AreListed : List ℕ → List PlainLiteral → Type 0
AreListed order xs = (literal : PlainLiteral) → IsMember xs literal → IsListed order literal

module _ (order : List ℕ) (P Q : ℕ → Type 0) (test : ℕ → Bool) (p : Tells order P test) (q : Tells order Q test) where
  same_ready : (literal : PlainLiteral) → IsListed order literal → IsReady P literal → IsReady Q literal
  same_ready literal l h = ready_from order Q test q literal l (ready_to order P test p literal l h)

  ready_back : (literal : PlainLiteral) → IsListed order literal → IsReady Q literal → IsReady P literal
  ready_back literal l h = ready_from order P test p literal l (ready_to order Q test q literal l h)

  none_alike : (xs : List PlainLiteral) → AreListed order xs → NoneIs (IsReady P) xs → NoneIs (IsReady Q) xs
  none_alike xs l none = property_from_members (λ y. IsReady Q y → ⊥) xs (λ y m h. property_member (λ z. IsReady P z → ⊥) xs y none m (ready_back y (l y m) h))

  next_alike : (xs : List PlainLiteral) → AreListed order xs → (x : PlainLiteral) (left : List PlainLiteral) → Next P xs x left → Next Q xs x left
  next_alike xs l x left (TakesReady t) = TakesReady (record {
    front = t.front;
    behind = t.behind;
    before = none_alike t.front (λ y m. l y (subst (λ zs. IsMember zs y) (sym t.whole) (append_left t.front (x ∷ t.behind) y m))) t.before;
    is = same_ready x (l x (subst (λ zs. IsMember zs x) (sym t.whole) (append_right t.front (x ∷ t.behind) x (inl refl)))) t.is;
    whole = t.whole;
    rest = t.rest;
  })
  next_alike xs l x left (TakesAtom none t) = TakesAtom (none_alike xs l none) t

-- what is left, and what comes out, is listed
left_listed : {X : Type 0} (P : X → Type 0) (xs : List X) (x : X) (left : List X) → TakesFirst P xs x left → (y : X) → IsMember left y → IsMember xs y
left_listed P xs x left t y m = subst (λ zs. IsMember zs y) (sym t.whole) (go (append_from t.front t.behind y (subst (λ zs. IsMember zs y) t.rest m)))
  where
    go : IsMember t.front y ⊎ IsMember t.behind y → IsMember (t.front ++ x ∷ t.behind) y
    go (inl f) = append_left t.front (x ∷ t.behind) y f
    go (inr f) = append_right t.front (x ∷ t.behind) y (inr f)

one_listed : {X : Type 0} (P : X → Type 0) (xs : List X) (x : X) (left : List X) → TakesFirst P xs x left → IsMember xs x
one_listed P xs x left t = subst (λ zs. IsMember zs x) (sym t.whole) (append_right t.front (x ∷ t.behind) x (inl refl))

next_left : (P : ℕ → Type 0) (xs : List PlainLiteral) (x : PlainLiteral) (left : List PlainLiteral) → Next P xs x left → (y : PlainLiteral) → IsMember left y → IsMember xs y
next_left P xs x left (TakesReady t) = left_listed (IsReady P) xs x left t
next_left P xs x left (TakesAtom none t) = left_listed IsPositive xs x left t

next_one : (P : ℕ → Type 0) (xs : List PlainLiteral) (x : PlainLiteral) (left : List PlainLiteral) → Next P xs x left → IsMember xs x
next_one P xs x left (TakesReady t) = one_listed (IsReady P) xs x left t
next_one P xs x left (TakesAtom none t) = one_listed IsPositive xs x left t

pub ordered_alike : (order : List ℕ) (ys xs : List PlainLiteral) → AreListed order xs → (P Q : ℕ → Type 0) (test : ℕ → Bool) → Tells order P test → Tells order Q test → AreOrdered P xs ys → AreOrdered Q xs ys
ordered_alike order [] xs l P Q test p q h = h
ordered_alike order (y ∷ ys) xs l P Q test p q (left, next, rest) =
    let one = l y (next_one P xs y left next) in (
      left,
      next_alike order P Q test p q xs l y left next,
      ordered_alike order ys left (λ z m. l z (next_left P xs y left next z m)) (λ n. P n ⊎ Binds P y n) (λ n. Q n ⊎ Binds Q y n) (λ n. test n || binds order test y n)
          (tells_more order P test p y one) (tells_more order Q test q y one) rest,
    )
