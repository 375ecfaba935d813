-- What a ground rule of a program names is listed, and the program's models are those of its ground program.
use Rattle.std.proofs.Common.{◌≡◌, inl, inr, Bool, true, false, ℤ, List, [], ◌∷◌, Option, None, Some, refl, sym, ap, subst, true≢false}
use Rattle.std.specs.List.{AllByRecursion, flat_map}
use Rattle.symbols.specs.declared.rel.Rel.{Rel}
use Rattle.symbols.specs.Symbol.{Symbol}
use Rattle.syntax_tree.specs.declared.literal.Guard.{Guard}
use Rattle.syntax_tree.specs.declared.literal.TheoryName.{TheoryName}
use Rattle.syntax_tree.specs.declared.literal.TheoryName.TheVariants as name
use Rattle.syntax_tree.specs.Outcome.{Outcome, IsSymbol, IsOver, IsUndefined}
use Rattle.syntax_tree.specs.Value.{value_of}
use Rattle.ground_model.specs.Members.{IsMember, IsListOf}
use Rattle.ground_model.specs.Rule.{LinearOf, PlaceOf, RelationOf, LitOf, AtomLit, ItemOf, HeadOf, RuleOf}
use Rattle.ground_model.proofs.MemberLemmas.{property_member, property_from_members}
use Rattle.program_meaning.specs.Read.{PlainLiteral, PlainAtom, PlainCompare, ReadTheory, ReadLiteral, ReadPlain, ReadTold, ReadHead, ReadNothing, ReadAtom, ReadDuty, ReadChoose, ReadRule, plains}
use Rattle.program_meaning.specs.Substitution.{Key}
use Rattle.program_meaning.specs.Collected.{variable_form}
use Rattle.program_meaning.specs.Instance.{bound_in, bound_in_choice, PositiveHas, CanGive, IsPossible, IsRelevantOf}
use Rattle.program_meaning.specs.Tuples.{told_in, duty_in, theories, OccursInGuard}
use Rattle.program_meaning.specs.Ground.{is_relation, atom_as, plain_as, TuplesAs, GuardAs, RelationAs, DomainAs, DutyAs, AtomsAs, ToldAs, BodyAs, ItemAs, HeadAs, IsRuleOfProgram}
use Rattle.program_meaning.specs.Canonical.{IsVariable}
use Rattle.program_meaning.proofs.Lists.{append_left, append_right, flat_to, all_append, zip_all, slice_member}
use Rattle.program_meaning.proofs.Possible.{possible_from}
use Rattle.program_meaning.proofs.Numbered.{LinearKnown, PlacesKnown, RelationKnown, LitKnown, ItemKnown, HeadKnown, RuleKnown}

-- ---- names

relation_not_dom : (kind : TheoryName) → is_relation kind ≡ true → kind ≡ name.Dom → ⊥
relation_not_dom kind e d = true≢false (sym (subst (λ k. is_relation k ≡ true) d e))

relation_not_show : (kind : TheoryName) → is_relation kind ≡ true → kind ≡ name.Show → ⊥
relation_not_show kind e d = true≢false (sym (subst (λ k. is_relation k ≡ true) d e))

-- ---- theory atoms of a rule

told_member : (rule : ReadRule) (theory : ReadTheory) (sign : Bool) → IsMember rule.body (ReadTold theory sign) → IsMember (theories rule) theory
told_member rule theory sign m =
    append_left (flat_map told_in rule.body) (duty_in rule.head) theory (flat_to told_in rule.body (ReadTold theory sign) theory m (inl refl))

pub duty_member : (rule : ReadRule) (theory : ReadTheory) → rule.head ≡ ReadDuty theory → IsMember (theories rule) theory
duty_member rule theory e =
    append_right (flat_map told_in rule.body) (duty_in rule.head) theory (subst (λ h. IsMember (duty_in h) theory) (sym e) (inl refl))

-- ---- the atoms of a rule are possible, and its variables are the program's

module _ (rules : List ReadRule) (atoms variables : List Symbol) (possible : IsListOf (IsPossible rules) atoms) (variable : IsListOf (IsVariable rules) variables) where
  module _ (key : Key) (rule : ReadRule) (relevant : IsRelevantOf rules key rule) where
    abbrev P : Symbol → Type 0
    P = IsPossible rules

    places_known : (theory : ReadTheory) → IsMember (theories rule) theory → (theory.name ≡ name.Dom → ⊥) → (theory.name ≡ name.Show → ⊥)
        → (places : List (PlaceOf Symbol)) → TuplesAs P rule key.values theory places → PlacesKnown variables places
    places_known theory m not_dom not_show places t =
        property_from_members (λ place. LinearKnown variables place.linear) places
        (λ place k. property_from_members (λ pair. IsMember variables pair.0) place.linear.pairs
        (λ pair q. (variable pair.0).1 (
          key,
          rule,
          theory,
          record { relevant = relevant; member = m; other = not_show; occurs = inl (not_dom, (place, (t.all place).0 k, (pair.1, q))) },
        )))

    right_known : (theory : ReadTheory) → IsMember (theories rule) theory → (theory.name ≡ name.Show → ⊥) → (guard : Option Guard) → theory.guard ≡ guard
        → (rel : Rel) (right : LinearOf Symbol) → GuardAs (bound_in rule key.values) guard rel right → LinearKnown variables right
    right_known theory m not_show None e rel right a = absurd a
    right_known theory m not_show (Some guard) e rel right a =
        property_from_members (λ pair. IsMember variables pair.0) right.pairs
        (λ pair q. (variable pair.0).1 (
          key,
          rule,
          theory,
          record {
            relevant = relevant;
            member = m;
            other = not_show;
            occurs = inr (subst (λ g. OccursInGuard (bound_in rule key.values) g pair.0) (sym e) (right, a.1, (pair.1, q)));
          },
        ))

    relation_known : (theory : ReadTheory) → IsMember (theories rule) theory → (relation : RelationOf Symbol)
        → RelationAs P rule key.values theory relation → RelationKnown variables relation
    relation_known theory m relation a = record {
      elements = places_known theory m (relation_not_dom theory.name a.name) (relation_not_show theory.name a.name) relation.elements a.tuples;
      right = right_known theory m (relation_not_show theory.name a.name) theory.guard refl relation.rel relation.right a.guard;
    }

    domain_known : (theory : ReadTheory) → IsMember (theories rule) theory → theory.name ≡ name.Dom → (intervals : List (ℤ × ℤ)) (x : Symbol)
        → DomainAs P rule key.values theory intervals x → IsMember variables x
    domain_known theory m e intervals x a =
        (right_known theory m (λ s. apart theory.name e s) theory.guard refl a.guard.0 (variable_form x) a.guard.1).0
      where
        apart : (kind : TheoryName) → kind ≡ name.Dom → kind ≡ name.Show → ⊥
        apart kind d s = cc

    duty_known : (theory : ReadTheory) → IsMember (theories rule) theory → (kind : TheoryName) → theory.name ≡ kind → (h : HeadOf Symbol Symbol)
        → DutyAs P rule key.values theory kind h → HeadKnown atoms variables h
    duty_known theory m name.Sum e h a = subst (HeadKnown atoms variables) (sym a.2) (relation_known theory m a.0 a.1)
    duty_known theory m name.Diff e h a = subst (HeadKnown atoms variables) (sym a.2) (relation_known theory m a.0 a.1)
    duty_known theory m name.Dom e h a = subst (HeadKnown atoms variables) (sym a.3) (domain_known theory m e a.0 a.1 a.2)
    duty_known theory m name.Distinct e h a =
        subst (HeadKnown atoms variables) (sym a.2) (places_known theory m (λ d. apart theory.name e d) (λ s. distinct theory.name e s) a.0 a.1)
      where
        apart : (kind : TheoryName) → kind ≡ name.Distinct → kind ≡ name.Dom → ⊥
        apart kind d s = cc

        distinct : (kind : TheoryName) → kind ≡ name.Distinct → kind ≡ name.Show → ⊥
        distinct kind d s = cc
    duty_known theory m name.Disjoint e h a =
        subst (HeadKnown atoms variables) (sym a.2) (places_known theory m (λ d. apart theory.name e d) (λ s. distinct theory.name e s) a.0 a.1)
      where
        apart : (kind : TheoryName) → kind ≡ name.Disjoint → kind ≡ name.Dom → ⊥
        apart kind d s = cc

        distinct : (kind : TheoryName) → kind ≡ name.Disjoint → kind ≡ name.Show → ⊥
        distinct kind d s = cc
    duty_known theory m name.Minimize e h a = absurd a
    duty_known theory m name.Maximize e h a = absurd a
    duty_known theory m name.Show e h a = absurd a
    duty_known theory m name.Unknown e h a = absurd a

    -- ---- bodies

    plain_known : (bound : List Outcome) (literal : PlainLiteral) → PositiveHas P bound literal → AllByRecursion (LitKnown atoms variables) (plain_as bound literal)
    plain_known bound (PlainAtom term true) p =
        let e : plain_as bound (PlainAtom term true) ≡ AtomLit p.0 true ∷ [] = ap (λ o. atom_as o true) p.1 in
        subst (AllByRecursion (LitKnown atoms variables)) (sym e) ((possible p.0).1 p.2, tt)
    plain_known bound (PlainAtom term false) p = go (value_of bound term)
      where
        go : (o : Outcome) → AllByRecursion (LitKnown atoms variables) (atom_as o false)
        go (IsSymbol a) = (tt, tt)
        go IsOver = tt
        go IsUndefined = tt
    plain_known bound (PlainCompare left rel right) p = tt

    plains_known : (bound : List Outcome) (literals : List PlainLiteral) → AllByRecursion (PositiveHas P bound) literals
        → AllByRecursion (LitKnown atoms variables) (flat_map (plain_as bound) literals)
    plains_known bound [] p = tt
    plains_known bound (literal ∷ literals) p =
        all_append (LitKnown atoms variables) (plain_as bound literal) (flat_map (plain_as bound) literals) (plain_known bound literal p.0) (plains_known bound literals p.1)

    atoms_known : (bound : List Outcome) (literals : List PlainLiteral) → AllByRecursion (PositiveHas P bound) literals
        → (lits : List (LitOf Symbol Symbol)) → AtomsAs bound literals lits → AllByRecursion (LitKnown atoms variables) lits
    atoms_known bound literals p lits a =
        property_from_members (LitKnown atoms variables) lits
        (λ lit m. property_member (LitKnown atoms variables) (flat_map (plain_as bound) literals) lit (plains_known bound literals p) ((a.all lit).0 m))

    told_known : (literals : List ReadLiteral) → ((literal : ReadLiteral) → IsMember literals literal → IsMember rule.body literal)
        → (lits : List (LitOf Symbol Symbol)) → ToldAs P rule key.values literals lits → AllByRecursion (LitKnown atoms variables) lits
    told_known [] sub lits a = subst (AllByRecursion (LitKnown atoms variables)) (sym a) tt
    told_known (ReadPlain literal ∷ literals) sub lits a = told_known literals (λ l m. sub l (inr m)) lits a
    told_known (ReadTold theory sign ∷ literals) sub lits a =
        subst (AllByRecursion (LitKnown atoms variables)) (sym a.2)
        (relation_known theory (told_member rule theory sign (sub (ReadTold theory sign) (inl refl))) a.0 a.3, told_known literals (λ l m. sub l (inr m)) a.1 a.4)

    body_known : AllByRecursion (PositiveHas P (bound_in rule key.values)) (plains rule.body)
        → (lits : List (LitOf Symbol Symbol)) → BodyAs P rule key.values rule.body lits → AllByRecursion (LitKnown atoms variables) lits
    body_known p lits a =
        subst (AllByRecursion (LitKnown atoms variables)) (sym a.whole)
        (all_append (LitKnown atoms variables) a.atoms a.told (atoms_known (bound_in rule key.values) (plains rule.body) p a.atoms a.are_atoms)
        (told_known rule.body (λ literal m. m) a.told a.are_told))

    -- ---- heads

    head_known : (head : ReadHead) → rule.head ≡ head → (h : HeadOf Symbol Symbol) → HeadAs P rule key.values head h → HeadKnown atoms variables h
    head_known ReadNothing e h a = subst (HeadKnown atoms variables) (sym a) tt
    head_known (ReadAtom term) e h a =
        subst (HeadKnown atoms variables) (sym a.2)
        ((possible a.0).1 (possible_from rules key rule relevant a.0 (subst (λ z. CanGive P rule key.values z a.0) (sym e) a.1)))
    head_known (ReadDuty theory) e h a = duty_known theory (duty_member rule theory e) theory.name refl h a
    head_known (ReadChoose left elements right) e h a =
        subst (HeadKnown atoms variables) (sym a.4) (zip_all (ItemAs P rule key.values elements) (ItemKnown atoms variables) a.3.keys a.0 item a.3.each)
      where
        item : (part : Key) (y : ItemOf Symbol Symbol) → IsMember a.3.keys part → ItemAs P rule key.values elements part y → ItemKnown atoms variables y
        item part y m i = record {
          atom = (possible y.atom).1 (possible_from rules key rule relevant y.atom
              (subst (λ z. CanGive P rule key.values z y.atom) (sym e)
              (i.0, slice_member elements part.place i.0 i.1.place, part.values, i.1.stands, i.2, i.1.positive)));
          condition = atoms_known (bound_in_choice rule key.values i.0 part.values) i.0.condition i.1.positive y.condition i.3;
        }

  pub rule_known : (r : RuleOf Symbol Symbol) → IsRuleOfProgram rules r → RuleKnown atoms variables r
  rule_known r i =
      let a = i.1 in record {
        body = body_known i.0 a.0 a.1 a.1.positive r.body a.2;
        head = head_known i.0 a.0 a.1 a.0.head refl r.head a.3;
      }
