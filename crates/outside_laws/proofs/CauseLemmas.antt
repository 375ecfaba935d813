-- The first cause of an instance.
use Rattle.std.proofs.Common.{◌≡◌, ◌⊎◌, inl, inr, true≢false, List, [], ◌∷◌, Option, None, Some, refl, sym, ◌∙◌, subst}
use Rattle.std.specs.List.{AllZip}
use Rattle.symbols.specs.declared.ends.Ends.{Ends}
use Rattle.symbols.specs.Symbol.{Symbol}
use Rattle.ground_model.specs.Members.{IsMember}
use Rattle.program_meaning.specs.Read.{ReadTheory, ReadRule}
use Rattle.program_meaning.specs.Instance.{IsPossible}
use Rattle.program_meaning.specs.Outside.{Cause, Overflow, NotLinear, TooManyElements, TooLarge, causes_before}
use Rattle.program_meaning.specs.Substitution.{Value}
use Rattle.program_meaning.specs.Tuples.{theories}
use Rattle.program_meaning.proofs.Lists.{append_left}
use Rattle.theory_laws.specs.Collecting.{AtomHas}
use Rattle.theory_laws.specs.Laws.{HasBeside}
use Rattle.theory_laws.proofs.Causes.{causes_law}
use Rattle.outside_laws.specs.Judging.{IsNotOver, IsJudgedAs, earlier, earlier_of, first_in}
use Rattle.outside_laws.specs.Laws.{OverLaw, FirstLaw, LargeLaw, InsideLaw}

-- CAUSES IN THEIR ORDER

-- what is before the earlier of two causes is before both
before_both : (c d other : Cause) → IsMember (causes_before (earlier c d)) other → IsMember (causes_before c) other × IsMember (causes_before d) other
before_both Overflow d other m = absurd m
before_both NotLinear Overflow other m = absurd m
before_both NotLinear NotLinear other m = (m, m)
before_both NotLinear TooManyElements other m = (m, append_left (Overflow ∷ []) (NotLinear ∷ []) other m)
before_both NotLinear TooLarge other m = (m, append_left (Overflow ∷ []) (NotLinear ∷ TooManyElements ∷ []) other m)
before_both TooManyElements Overflow other m = absurd m
before_both TooManyElements NotLinear other m = (append_left (Overflow ∷ []) (NotLinear ∷ []) other m, m)
before_both TooManyElements TooManyElements other m = (m, m)
before_both TooManyElements TooLarge other m = (m, append_left (Overflow ∷ NotLinear ∷ []) (TooManyElements ∷ []) other m)
before_both TooLarge Overflow other m = absurd m
before_both TooLarge NotLinear other m = (append_left (Overflow ∷ []) (NotLinear ∷ TooManyElements ∷ []) other m, m)
before_both TooLarge TooManyElements other m = (append_left (Overflow ∷ NotLinear ∷ []) (TooManyElements ∷ []) other m, m)
before_both TooLarge TooLarge other m = (m, m)

-- the earlier one is one of them
one_of : (c d : Cause) → (earlier c d ≡ c) ⊎ (earlier c d ≡ d)
one_of Overflow d = inl refl
one_of NotLinear Overflow = inr refl
one_of NotLinear NotLinear = inl refl
one_of NotLinear TooManyElements = inl refl
one_of NotLinear TooLarge = inl refl
one_of TooManyElements Overflow = inr refl
one_of TooManyElements NotLinear = inr refl
one_of TooManyElements TooManyElements = inl refl
one_of TooManyElements TooLarge = inl refl
one_of TooLarge d = inr refl

-- THEORY ATOMS

module _ (P : Symbol → Type 0) (rule : ReadRule) (values : List Value) where
  -- of several theory atoms: some has the cause and none has one before it, or none has any
  abbrev AreJudgedAs : List ReadTheory → Option Cause → Type 0
  AreJudgedAs all None = (theory : ReadTheory) → IsMember all theory → (cause : Cause) → AtomHas P rule values theory cause → ⊥
  AreJudgedAs all (Some cause) =
      ((theory : ReadTheory) × IsMember all theory × AtomHas P rule values theory cause)
      × ((theory : ReadTheory) → IsMember all theory → (other : Cause) → IsMember (causes_before cause) other → AtomHas P rule values theory other → ⊥)

  one_more : (theory : ReadTheory) (rest : List ReadTheory) (o p : Option Cause) → IsJudgedAs P rule values theory o → AreJudgedAs rest p → AreJudgedAs (theory ∷ rest) (earlier_of o p)
  one_more theory rest None None h k = none
    where
      none : (t : ReadTheory) → IsMember (theory ∷ rest) t → (cause : Cause) → AtomHas P rule values t cause → ⊥
      none t (inl e) cause has = h cause (subst (λ u. AtomHas P rule values u cause) e has)
      none t (inr m) cause has = k t m cause has
  one_more theory rest None (Some c) h k = ((k.0.0, inr k.0.1, k.0.2), first)
    where
      first : (t : ReadTheory) → IsMember (theory ∷ rest) t → (other : Cause) → IsMember (causes_before c) other → AtomHas P rule values t other → ⊥
      first t (inl e) other m has = h other (subst (λ u. AtomHas P rule values u other) e has)
      first t (inr n) other m has = k.1 t n other m has
  one_more theory rest (Some c) None h k = ((theory, inl refl, h.has), first)
    where
      first : (t : ReadTheory) → IsMember (theory ∷ rest) t → (other : Cause) → IsMember (causes_before c) other → AtomHas P rule values t other → ⊥
      first t (inl e) other m has = h.first other m (subst (λ u. AtomHas P rule values u other) e has)
      first t (inr n) other m has = k t n other has
  one_more theory rest (Some c) (Some d) h k = (some (one_of c d), first)
    where
      some : (earlier c d ≡ c) ⊎ (earlier c d ≡ d) → (t : ReadTheory) × IsMember (theory ∷ rest) t × AtomHas P rule values t (earlier c d)
      some (inl e) = (theory, inl refl, subst (AtomHas P rule values theory) (sym e) h.has)
      some (inr e) = (k.0.0, inr k.0.1, subst (AtomHas P rule values k.0.0) (sym e) k.0.2)

      first : (t : ReadTheory) → IsMember (theory ∷ rest) t → (other : Cause) → IsMember (causes_before (earlier c d)) other → AtomHas P rule values t other → ⊥
      first t (inl e) other m has = h.first other (before_both c d other m).0 (subst (λ u. AtomHas P rule values u other) e has)
      first t (inr n) other m has = k.1 t n other (before_both c d other m).1 has

  judged : (all : List ReadTheory) (found : List (Option Cause)) → AllZip (IsJudgedAs P rule values) all found → AreJudgedAs all (first_in found)
  judged [] [] z = λ theory m cause has. m
  judged [] (o ∷ found) z = absurd z
  judged (theory ∷ all) [] z = absurd z
  judged (theory ∷ all) (o ∷ found) z = one_more theory all o (first_in found) z.0 (judged all found z.1)

-- THE INSTANCE

none_beside : (rules : List ReadRule) (ends : Ends) (rule : ReadRule) (values : List Value) → IsNotOver (IsPossible rules) rule values
    → (cause other : Cause) → IsMember (causes_before cause) other → HasBeside (IsPossible rules) ends rule values other → ⊥
none_beside rules ends rule values not_over cause Overflow m (inl e) = true≢false (sym e ∙ not_over.rule_inside)
none_beside rules ends rule values not_over cause Overflow m (inr r) = true≢false (sym r.3 ∙ not_over.choice_inside r.0 r.1 r.2)
none_beside rules ends rule values not_over cause NotLinear m b = b
none_beside rules ends rule values not_over cause TooManyElements m b = b
none_beside rules ends rule values not_over cause TooLarge m b = last cause m
  where
    last : (c : Cause) → IsMember (causes_before c) TooLarge → ⊥
    last Overflow m = m
    last NotLinear (inl e) = absurd (cc)
    last NotLinear (inr m) = m
    last TooManyElements (inl e) = absurd (cc)
    last TooManyElements (inr (inl e)) = absurd (cc)
    last TooManyElements (inr (inr m)) = m
    last TooLarge (inl e) = absurd (cc)
    last TooLarge (inr (inl e)) = absurd (cc)
    last TooLarge (inr (inr (inl e))) = absurd (cc)
    last TooLarge (inr (inr (inr m))) = m

pub over_law : OverLaw
over_law rules ends rule values over = record { has = (causes_law rules ends rule values Overflow).1 (inl over); first = λ other m h. m }

pub first_law : FirstLaw
first_law rules ends rule values found cause not_over z e =
    let all = subst (AreJudgedAs (IsPossible rules) rule values (theories rule)) e (judged (IsPossible rules) rule values (theories rule) found z) in
    record {
      has = (causes_law rules ends rule values cause).1 (inr all.0);
      first = λ other m h. none all other m ((causes_law rules ends rule values other).0 h);
    }
  where
    none : AreJudgedAs (IsPossible rules) rule values (theories rule) (Some cause) → (other : Cause) → IsMember (causes_before cause) other
        → HasBeside (IsPossible rules) ends rule values other ⊎ ((theory : ReadTheory) × IsMember (theories rule) theory × AtomHas (IsPossible rules) rule values theory other) → ⊥
    none all other m (inl b) = none_beside rules ends rule values not_over cause other m b
    none all other m (inr r) = all.1 r.0 r.1 other m r.2

pub large_law : LargeLaw
large_law rules ends rule values found theory not_over z e member large =
    let all = subst (AreJudgedAs (IsPossible rules) rule values (theories rule)) e (judged (IsPossible rules) rule values (theories rule) found z) in
    record {
      has = (causes_law rules ends rule values TooLarge).1 (inl (theory, member, large));
      first = λ other m h. none all other m ((causes_law rules ends rule values other).0 h);
    }
  where
    none : AreJudgedAs (IsPossible rules) rule values (theories rule) None → (other : Cause) → IsMember (causes_before TooLarge) other
        → HasBeside (IsPossible rules) ends rule values other ⊎ ((theory : ReadTheory) × IsMember (theories rule) theory × AtomHas (IsPossible rules) rule values theory other) → ⊥
    none all other m (inl b) = none_beside rules ends rule values not_over TooLarge other m b
    none all other m (inr r) = all r.0 r.1 other r.2

pub inside_law : InsideLaw
inside_law rules ends rule values found not_over z e small cause h =
    let all = subst (AreJudgedAs (IsPossible rules) rule values (theories rule)) e (judged (IsPossible rules) rule values (theories rule) found z) in
    none all cause ((causes_law rules ends rule values cause).0 h)
  where
    none : AreJudgedAs (IsPossible rules) rule values (theories rule) None → (cause : Cause)
        → HasBeside (IsPossible rules) ends rule values cause ⊎ ((theory : ReadTheory) × IsMember (theories rule) theory × AtomHas (IsPossible rules) rule values theory cause) → ⊥
    none all Overflow (inl b) = none_beside rules ends rule values not_over TooLarge Overflow (inl refl) b
    none all NotLinear (inl b) = b
    none all TooManyElements (inl b) = b
    none all TooLarge (inl b) = small b.0 b.1 b.2
    none all cause (inr r) = all r.0 r.1 cause r.2
