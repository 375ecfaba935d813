-- Different possible atoms are given by different instances that are counted.
use Rattle.std.proofs.Common.{◌≡◌, ◌≤◌, ◌<◌, inl, inr, ℕ, zero, suc, nat_le, Bool, true, false, List, [], ◌∷◌, length, Option, None, Some, slice_get, refl, sym, ◌∙◌, ap, subst, arith}
use Rattle.std.specs.List.{AllByRecursion}
use Rattle.std.proofs.lemmas.Bool.Decides.{nat_tests}
use Rattle.symbols.specs.Symbol.{Symbol}
use Rattle.syntax_tree.specs.Outcome.{Outcome, IsSymbol, IsUndefined}
use Rattle.syntax_tree.specs.Value.{value_of}
use Rattle.ground_model.specs.Members.{IsMember, IsApart}
use Rattle.program_meaning.specs.Read.{ReadChoice, ReadHead, ReadNothing, ReadAtom, ReadDuty, ReadChoose, ReadRule, plains}
use Rattle.program_meaning.specs.Substitution.{Value, Key}
use Rattle.program_meaning.specs.Instance.{bound_in, bound_in_choice, CanGive, PossibleAt, IsPossible, IsRelevantOf}
use Rattle.program_meaning.specs.Count.{Counted, CountedRule, CountedChoice, CountedTheory, CountedElement, choices_in, IsCounted}
use Rattle.program_meaning.proofs.Lists.{ascends_apart, member_slice}
use Rattle.program_meaning.proofs.Orders.{symbols_turn}
use Rattle.program_meaning.proofs.Possible.{positive_map, give_map}
use Rattle.ground_rule_laws.specs.Laws.{FewAtomsLaw}

-- ---- what is given

abbrev head_value : ReadRule → List Value → ReadHead → Outcome
head_value rule values (ReadAtom term) = value_of (bound_in rule values) term
head_value rule values head = IsUndefined

abbrev rule_value : Option ReadRule → List Value → Outcome
rule_value None values = IsUndefined
rule_value (Some rule) values = head_value rule values rule.head

abbrev element_value : ReadRule → List Value → Option ReadChoice → List Value → Outcome
element_value rule values None locals = IsUndefined
element_value rule values (Some element) locals = value_of (bound_in_choice rule values element locals) element.atom

abbrev choice_value : Option ReadRule → List Value → Key → Outcome
choice_value None values part = IsUndefined
choice_value (Some rule) values part = element_value rule values (slice_get (choices_in rule.head) part.place) part.values

-- the atom that a counted instance gives
abbrev given : List ReadRule → Counted → Outcome
given rules (CountedRule key) = rule_value (slice_get rules key.place) key.values
given rules (CountedChoice key part) = choice_value (slice_get rules key.place) key.values part
given rules (CountedTheory key n) = IsUndefined
given rules (CountedElement key n part) = IsUndefined

-- ---- each possible atom is given by one

record Giver (rules : List ReadRule) (a : Symbol) : Type 0 where
  counted : Counted
  counts : IsCounted rules counted
  gives : given rules counted ≡ IsSymbol a

module _ (rules : List ReadRule) where
  giver_of : (rule : ReadRule) (key : Key) → IsRelevantOf rules key rule → (head : ReadHead) → rule.head ≡ head → (a : Symbol)
      → CanGive (IsPossible rules) rule key.values head a → Giver rules a
  giver_of rule key relevant ReadNothing e a g = absurd g
  giver_of rule key relevant (ReadAtom term) e a g = record {
    counted = CountedRule key;
    counts = (rule, relevant);
    gives = ap (λ o. rule_value o key.values) relevant.place ∙ ap (head_value rule key.values) e ∙ g;
  }
  giver_of rule key relevant (ReadDuty theory) e a g = absurd g
  giver_of rule key relevant (ReadChoose left elements right) e a g =
      let at = member_slice elements g.0 g.1 in
      let part : Key = record { place = at.0; values = g.2 } in
      let here : slice_get (choices_in rule.head) at.0 ≡ Some g.0 = ap (λ h. slice_get (choices_in h) at.0) e ∙ at.1 in record {
        counted = CountedChoice key part;
        counts = (rule, relevant, (g.0, record { place = here; stands = g.3; positive = g.5 }));
        gives = ap (λ o. choice_value o key.values part) relevant.place ∙ ap (λ o. element_value rule key.values o g.2) here ∙ g.4;
      }

  giver : (a : Symbol) → IsPossible rules a → Giver rules a
  giver a (zero, p) = absurd p
  giver a (suc rank, p) =
      let at = member_slice rules p.0 p.1 in
      let up : (b : Symbol) → PossibleAt rules rank b → IsPossible rules b = λ b q. (rank, q) in
      giver_of p.0 (record { place = at.0; values = p.2 })
      (record { place = at.1; stands = p.3; positive = positive_map (PossibleAt rules rank) (IsPossible rules) up (bound_in p.0 p.2) (plains p.0.body) p.5 })
      p.0.head refl a (give_map (PossibleAt rules rank) (IsPossible rules) up p.0 p.2 p.0.head a p.4)

  -- ---- so there are no more of them than are counted

  record Givers (atoms : List Symbol) : Type 0 where
    shown : List Counted
    same : length shown ≡ length atoms
    apart : IsApart shown
    each : AllByRecursion (IsCounted rules) shown
    atoms_given : (c : Counted) → IsMember shown c → (a : Symbol) × IsMember atoms a × (given rules c ≡ IsSymbol a)

  same_symbol : (a c : Symbol) → IsSymbol a ≡ IsSymbol c → a ≡ c
  same_symbol a c e = cc

  givers : (atoms : List Symbol) → IsApart atoms → ((a : Symbol) → IsMember atoms a → IsPossible rules a) → Givers atoms
  givers [] apart possible = record { shown = []; same = refl; apart = tt; each = tt; atoms_given = λ c m. absurd m }
  givers (a ∷ atoms) apart possible =
      let one = giver a (possible a (inl refl)) in
      let rest = givers atoms apart.1 (λ c m. possible c (inr m)) in record {
        shown = one.counted ∷ rest.shown;
        same = ap suc rest.same;
        apart = (
          λ m.
              let other = rest.atoms_given one.counted m in
              apart.0 (subst (IsMember atoms) (same_symbol other.0 a (sym other.2 ∙ one.gives)) other.1),
          rest.apart,
        );
        each = (one.counts, rest.each);
        atoms_given = go one rest.shown rest.atoms_given;
      }
    where
      go : (one : Giver rules a) (shown : List Counted) → ((c : Counted) → IsMember shown c → (d : Symbol) × IsMember atoms d × (given rules c ≡ IsSymbol d))
          → (c : Counted) → IsMember (one.counted ∷ shown) c → (d : Symbol) × IsMember (a ∷ atoms) d × (given rules c ≡ IsSymbol d)
      go one shown f c (inl e) = (a, inl refl, ap (given rules) e ∙ one.gives)
      go one shown f c (inr m) = let r = f c m in (r.0, inr r.1, r.2)

within : (m n : ℕ) → (n < m → ⊥) → m ≤ n
within m n h = go (nat_le m n) refl
  where
    past : nat_le m n ≡ false → n < m
    past t = grind (arith, nat_tests)

    below : nat_le m n ≡ true → m ≤ n
    below t = grind (arith, nat_tests)

    go : (t : Bool) → nat_le m n ≡ t → m ≤ n
    go true t = below t
    go false t = absurd (h (past t))

pub few_atoms_law : FewAtomsLaw
few_atoms_law rules limit atoms ordered few =
    let r = givers rules atoms (ascends_apart _ symbols_turn atoms ordered.ascend) (λ a m. (ordered.all a).0 m) in
    within (length atoms) limit
    (λ more. few (record { shown = r.shown; apart = r.apart; each = r.each; more = subst (λ n. limit < n) (sym r.same) more }))
