-- From the theory atoms of an instance to its first cause.
use Rattle.std.proofs.Common.{◌≡◌, ◌⊎◌, inl, inr, ℕ, suc, true≢false, List, [], ◌∷◌, map, length, Option, None, refl, sym, ap, ◌∙◌}
use Rattle.std.specs.List.{AllZip}
use Rattle.symbols.specs.declared.ends.Ends.{Ends}
use Rattle.symbols.specs.Symbol.{Symbol}
use Rattle.ground_model.specs.Members.{IsMember, IsListOf}
use Rattle.program_meaning.specs.Instance.{IsPossible}
use Rattle.program_meaning.specs.Outside.{HasLargeValue, Cause, Overflow, NotLinear, TooManyElements, TooLarge, causes_before}
use Rattle.program_meaning.specs.Read.{ReadTheory, ReadRule}
use Rattle.program_meaning.specs.Substitution.{Value}
use Rattle.program_meaning.specs.Tuples.{theories}
use Rattle.theory_laws.specs.Collecting.{AtomHas}
use Rattle.theory_laws.specs.Laws.{HasBeside}
use Rattle.theory_laws.proofs.Alike.{tuple_alike, counts_alike_law, causes_alike_law}
use Rattle.theory_laws.proofs.Causes.{causes_law}
use Rattle.collected_atoms.specs.declared.atom.CollectedAtom.{CollectedAtom}
use Rattle.collected_atoms.specs.Said.{cause_of, IsAtomIn}
use Rattle.theory_ground.specs.declared.collecting.CollectStop.{CollectStop}
use Rattle.theory_ground.specs.declared.collecting.CollectStop.TheVariants as stop
use Rattle.instance_atoms.specs.Collected.{IsFirstIn, IsStopOfAll}
use Rattle.outside_laws.specs.Judging.{IsFirstCause, IsNotOver, IsJudgedAs, first_in}
use Rattle.outside_laws.proofs.CauseLemmas.{large_law, inside_law}
use Rattle.instance_causes.specs.Causes.{IsInside, IsStopAt}

pub same_length : {X Y : Type 0} (R : X → Y → Type 0) (xs : List X) (ys : List Y) → AllZip R xs ys → length xs ≡ length ys
same_length R [] [] z = refl
same_length R [] (y ∷ ys) z = absurd z
same_length R (x ∷ xs) [] z = absurd z
same_length R (x ∷ xs) (y ∷ ys) z = ap suc (same_length R xs ys z.1)

abbrev nothing : List ReadTheory → List (Option Cause)
nothing all = map (λ theory. None) all

module _ (rules : List ReadRule) (atoms : List Symbol) (possible : IsListOf (IsPossible rules) atoms) (ends : Ends) (rule : ReadRule) (values : List Value) where
  large_alike : (theory : ReadTheory) → HasLargeValue (IsMember atoms) ends rule values theory → HasLargeValue (IsPossible rules) ends rule values theory
  large_alike theory h = record {
    name = h.name;
    place = h.place;
    tuple = tuple_alike (IsMember atoms) (IsPossible rules) (λ a. (possible a).0) (λ a. (possible a).1) rule values theory h.place h.tuple;
    large = h.large;
  }

  large_back : (theory : ReadTheory) → HasLargeValue (IsPossible rules) ends rule values theory → HasLargeValue (IsMember atoms) ends rule values theory
  large_back theory h = record {
    name = h.name;
    place = h.place;
    tuple = tuple_alike (IsPossible rules) (IsMember atoms) (λ a. (possible a).1) (λ a. (possible a).0) rule values theory h.place h.tuple;
    large = h.large;
  }

  none_judged : (symbols : List Symbol) (all : List ReadTheory) (found : List CollectedAtom) → AllZip (IsAtomIn symbols (IsMember atoms) rule values) all found
      → AllZip (IsJudgedAs (IsPossible rules) rule values) all (nothing all)
  none_judged symbols [] found z = tt
  none_judged symbols (theory ∷ all) [] z = absurd z
  none_judged symbols (theory ∷ all) (atom ∷ found) z =
      (λ cause h. z.0.inside cause ((causes_alike_law rules atoms possible rule values theory cause).0.1 h), none_judged symbols all found z.1)

  none_first : (all : List ReadTheory) → first_in (nothing all) ≡ None
  none_first [] = refl
  none_first (theory ∷ all) = none_first all

  pub is_inside : (symbols : List Symbol) (found : List CollectedAtom) → IsNotOver (IsPossible rules) rule values → AllZip (IsAtomIn symbols (IsMember atoms) rule values) (theories rule) found
      → ((theory : ReadTheory) → IsMember (theories rule) theory → HasLargeValue (IsMember atoms) ends rule values theory → ⊥) → IsInside rules ends rule values
  is_inside symbols found not_over z small cause h =
      inside_law rules ends rule values (nothing (theories rule)) not_over (none_judged symbols (theories rule) found z) (none_first (theories rule))
      (λ theory m l. small theory m (large_back theory l)) cause h

  pub is_large : (symbols : List Symbol) (found : List CollectedAtom) → IsNotOver (IsPossible rules) rule values → AllZip (IsAtomIn symbols (IsMember atoms) rule values) (theories rule) found
      → (theory : ReadTheory) × IsMember (theories rule) theory × HasLargeValue (IsMember atoms) ends rule values theory → IsFirstCause (IsPossible rules) ends rule values TooLarge
  is_large symbols found not_over z l =
      large_law rules ends rule values (nothing (theories rule)) l.0 not_over (none_judged symbols (theories rule) found z) (none_first (theories rule)) l.1 (large_alike l.0 l.2)

  none_beside : IsNotOver (IsPossible rules) rule values → (cause other : Cause) → IsMember (causes_before cause) other → HasBeside (IsPossible rules) ends rule values other → ⊥
  none_beside not_over cause Overflow m (inl e) = true≢false (sym e ∙ not_over.rule_inside)
  none_beside not_over cause Overflow m (inr r) = true≢false (sym r.3 ∙ not_over.choice_inside r.0 r.1 r.2)
  none_beside not_over cause NotLinear m b = b
  none_beside not_over cause TooManyElements m b = b
  none_beside not_over cause TooLarge m b = last cause m
    where
      last : (c : Cause) → IsMember (causes_before c) TooLarge → ⊥
      last Overflow m = m
      last NotLinear (inl e) = absurd (cc)
      last NotLinear (inr m) = m
      last TooManyElements (inl e) = absurd (cc)
      last TooManyElements (inr (inl e)) = absurd (cc)
      last TooManyElements (inr (inr m)) = m
      last TooLarge (inl e) = absurd (cc)
      last TooLarge (inr (inl e)) = absurd (cc)
      last TooLarge (inr (inr (inl e))) = absurd (cc)
      last TooLarge (inr (inr (inr m))) = m

  first_cause : IsNotOver (IsPossible rules) rule values → (cause : Cause) → IsFirstIn (IsMember atoms) rule values (theories rule) cause → IsFirstCause (IsPossible rules) ends rule values cause
  first_cause not_over cause is = record {
    has = (causes_law rules ends rule values cause).1 (inr (is.theory, is.member, (causes_alike_law rules atoms possible rule values is.theory cause).0.0 is.has));
    first = λ other m h. go other m ((causes_law rules ends rule values other).0 h);
  }
    where
      go : (other : Cause) → IsMember (causes_before cause) other
          → HasBeside (IsPossible rules) ends rule values other ⊎ ((theory : ReadTheory) × IsMember (theories rule) theory × AtomHas (IsPossible rules) rule values theory other) → ⊥
      go other m (inl b) = none_beside not_over cause other m b
      go other m (inr r) = is.first other m r.0 r.1 ((causes_alike_law rules atoms possible rule values r.0 other).0.1 r.2)

  pub is_stop : (most : ℕ) (why : CollectStop) → IsNotOver (IsPossible rules) rule values → IsStopOfAll (IsMember atoms) rule values most why → IsStopAt rules ends rule values most why
  is_stop most stop.TooMany not_over s = (s.0, s.1, (counts_alike_law rules atoms possible rule values s.0 most).1.0 s.2)
  is_stop most (stop.Outside cause) not_over s = first_cause not_over (cause_of cause) s
  is_stop most stop.Memory not_over s = tt
