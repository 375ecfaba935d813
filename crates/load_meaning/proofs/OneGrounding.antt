-- A program grounds to one thing at most.
use Rattle.std.proofs.Common.{◌≡◌, inl, inr, ◌⊎◌, ℕ, List, slice_get, refl, sym, ap, subst}
use Rattle.std.specs.declared.cmp.Ordering.TheVariants.{Less}
use Rattle.symbols.specs.declared.ends.Ends.{Ends}
use Rattle.ground_model.specs.Members.{IsMember}
use Rattle.program_meaning.specs.Read.{ReadRule, ReadProgram}
use Rattle.program_meaning.specs.Substitution.{Key, key_cmp}
use Rattle.program_meaning.specs.Instance.{IsPossible}
use Rattle.program_meaning.specs.Outside.{Cause, Overflow, NotLinear, TooManyElements, TooLarge, HasCause, causes_before, IsOutside, IsSomehowOutside, IsFirstOutside}
use Rattle.program_meaning.proofs.Lists.{some_one}
use Rattle.program_meaning.proofs.One.{one_law}
use Rattle.program_meaning.proofs.Orders.{keys_turn, one_way}
use Rattle.load_meaning.specs.Grounding.{Grounded, OverLimit, OutsideAt, TooManyVariables, ObjectiveTooLarge, Canonical, GroundsTo}
use Rattle.load_meaning.specs.Laws.{OneGroundLaw}

-- ---- the first instance that is outside

somehow : (rules : List ReadRule) (ends : Ends) (key : Key) (cause : Cause) → IsOutside rules ends key cause → IsSomehowOutside rules ends key
somehow rules ends key cause h = (h.0, h.1.relevant, (cause, h.1.has))

one_key : (rules : List ReadRule) (ends : Ends) (key other : Key) (cause more : Cause) → IsFirstOutside rules ends key cause → IsFirstOutside rules ends other more → key ≡ other
one_key rules ends key other cause more a c = go (a.before other (somehow rules ends other more c.outside)) (c.before key (somehow rules ends key cause a.outside))
  where
    go : (other ≡ key) ⊎ (key_cmp key other ≡ Less) → (key ≡ other) ⊎ (key_cmp other key ≡ Less) → key ≡ other
    go (inl e) k = sym e
    go (inr l) (inl e) = e
    go (inr l) (inr m) = absurd (one_way key_cmp keys_turn key other l m)

-- of two causes one comes before the other, or they are one
which_cause : (one other : Cause) → (one ≡ other) ⊎ (IsMember (causes_before other) one ⊎ IsMember (causes_before one) other)
which_cause Overflow Overflow = inl refl
which_cause Overflow NotLinear = inr (inl (inl refl))
which_cause Overflow TooManyElements = inr (inl (inl refl))
which_cause Overflow TooLarge = inr (inl (inl refl))
which_cause NotLinear Overflow = inr (inr (inl refl))
which_cause NotLinear NotLinear = inl refl
which_cause NotLinear TooManyElements = inr (inl (inr (inl refl)))
which_cause NotLinear TooLarge = inr (inl (inr (inl refl)))
which_cause TooManyElements Overflow = inr (inr (inl refl))
which_cause TooManyElements NotLinear = inr (inr (inr (inl refl)))
which_cause TooManyElements TooManyElements = inl refl
which_cause TooManyElements TooLarge = inr (inl (inr (inr (inl refl))))
which_cause TooLarge Overflow = inr (inr (inl refl))
which_cause TooLarge NotLinear = inr (inr (inr (inl refl)))
which_cause TooLarge TooManyElements = inr (inr (inr (inr (inl refl))))
which_cause TooLarge TooLarge = inl refl

one_cause : (rules : List ReadRule) (ends : Ends) (key : Key) (one other : Cause) → IsOutside rules ends key one → IsOutside rules ends key other → one ≡ other
one_cause rules ends key one other a c = go (which_cause one other)
  where
    same : a.0 ≡ c.0
    same = some_one (slice_get rules key.place) a.0 c.0 a.1.relevant.place c.1.relevant.place

    go : (one ≡ other) ⊎ (IsMember (causes_before other) one ⊎ IsMember (causes_before one) other) → one ≡ other
    go (inl e) = e
    go (inr (inl m)) = absurd (c.1.first one m (subst (λ r. HasCause (IsPossible rules) ends r key.values one) same a.1.has))
    go (inr (inr m)) = absurd (a.1.first other m (subst (λ r. HasCause (IsPossible rules) ends r key.values other) (sym same) c.1.has))

one_outside : (rules : List ReadRule) (ends : Ends) (key other : Key) (cause more : Cause) → IsFirstOutside rules ends key cause → IsFirstOutside rules ends other more
    → OutsideAt key cause ≡ OutsideAt other more
one_outside rules ends key other cause more a c =
    let keys = one_key rules ends key other cause more a c in
    let causes = one_cause rules ends other cause more (subst (λ k. IsOutside rules ends k cause) keys a.outside) c.outside in
    (λ i. OutsideAt (keys i) (causes i))

-- ---- the law

module _ (program : ReadProgram) (ends : Ends) (limit : ℕ) where
  is_outside : (key : Key) (cause : Cause) → IsFirstOutside program.rules ends key cause → IsSomehowOutside program.rules ends key
  is_outside key cause h = somehow program.rules ends key cause h.outside

  one_grounded : (one other : Grounded) → GroundsTo program ends limit one → GroundsTo program ends limit other → one ≡ other
  one_grounded OverLimit OverLimit a c = refl
  one_grounded OverLimit (OutsideAt key cause) a c = absurd (c.0 a)
  one_grounded OverLimit TooManyVariables a c = absurd (c.0 a)
  one_grounded OverLimit ObjectiveTooLarge a c = absurd (c.0 a)
  one_grounded OverLimit (Canonical view) a c = absurd (c.0.count a)
  one_grounded (OutsideAt key cause) OverLimit a c = absurd (a.0 c)
  one_grounded (OutsideAt key cause) (OutsideAt other more) a c = one_outside program.rules ends key other cause more a.1 c.1
  one_grounded (OutsideAt key cause) TooManyVariables a c = absurd (c.1 key (is_outside key cause a.1))
  one_grounded (OutsideAt key cause) ObjectiveTooLarge a c = absurd (c.1 key (is_outside key cause a.1))
  one_grounded (OutsideAt key cause) (Canonical view) a c = absurd (c.0.inside key (is_outside key cause a.1))
  one_grounded TooManyVariables OverLimit a c = absurd (a.0 c)
  one_grounded TooManyVariables (OutsideAt key cause) a c = absurd (a.1 key (is_outside key cause c.1))
  one_grounded TooManyVariables TooManyVariables a c = refl
  one_grounded TooManyVariables ObjectiveTooLarge a c = absurd (c.2 a.2)
  one_grounded TooManyVariables (Canonical view) a c = absurd (c.0.variables a.2)
  one_grounded ObjectiveTooLarge OverLimit a c = absurd (a.0 c)
  one_grounded ObjectiveTooLarge (OutsideAt key cause) a c = absurd (a.1 key (is_outside key cause c.1))
  one_grounded ObjectiveTooLarge TooManyVariables a c = absurd (a.2 c.2)
  one_grounded ObjectiveTooLarge ObjectiveTooLarge a c = refl
  one_grounded ObjectiveTooLarge (Canonical view) a c = absurd (c.0.objective a.3)
  one_grounded (Canonical view) OverLimit a c = absurd (a.0.count c)
  one_grounded (Canonical view) (OutsideAt key cause) a c = absurd (a.0.inside key (is_outside key cause c.1))
  one_grounded (Canonical view) TooManyVariables a c = absurd (a.0.variables c.2)
  one_grounded (Canonical view) ObjectiveTooLarge a c = absurd (a.0.objective c.3)
  one_grounded (Canonical view) (Canonical other) a c = ap Canonical (one_law program view other a.1 c.1)

pub one_ground_law : OneGroundLaw
one_ground_law program ends limit one other a c = one_grounded program ends limit one other a c
