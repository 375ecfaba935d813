-- The rule of a relevant instance that is not outside is sound over numbers.
use Rattle.std.proofs.Common.{◌≡◌, ◌⊎◌, inl, inr, ℕ, nat_le, Bool, true, false, ℤ, List, [], ◌∷◌, Option, length, map, None, Some, refl, sym, ◌∙◌, ap, subst, true≢false}
use Rattle.std.specs.List.{AllByRecursion, AllZip, flat_map, list_all}
use Rattle.symbols.specs.declared.ends.Ends.{Ends}
use Rattle.symbols.specs.declared.rel.Rel.{Rel}
use Rattle.symbols.specs.Symbol.{Symbol}
use Rattle.syntax_tree.specs.declared.literal.Guard.{Guard}
use Rattle.syntax_tree.specs.declared.literal.TheoryName.{TheoryName}
use Rattle.syntax_tree.specs.declared.literal.TheoryName.TheVariants as name
use Rattle.syntax_tree.specs.Outcome.{Outcome, IsSymbol, IsOver, IsUndefined}
use Rattle.syntax_tree.specs.Value.{value_of}
use Rattle.ground_model.specs.declared.linear.Relation.{Relation}
use Rattle.ground_model.specs.declared.rule.Bound.{Bound}
use Rattle.ground_model.specs.declared.rule.BodyLit.{BodyLit}
use Rattle.ground_model.specs.declared.rule.BodyLit.TheVariants as b
use Rattle.ground_model.specs.declared.rule.ChoiceItem.{ChoiceItem}
use Rattle.ground_model.specs.declared.rule.TheoryHead.{TheoryHead}
use Rattle.ground_model.specs.declared.rule.TheoryHead.TheVariants as t
use Rattle.ground_model.specs.declared.rule.GroundHead.{GroundHead}
use Rattle.ground_model.specs.declared.rule.GroundHead.TheVariants as h
use Rattle.ground_model.specs.declared.rule.GroundRule.{GroundRule}
use Rattle.ground_model.specs.Members.{IsMember}
use Rattle.ground_model.specs.Rule.{LinearOf, PlaceOf, RelationOf, TheoryOf, RelationHead, DomainHead, DistinctHead, DisjointHead, LitOf, AtomLit, RelationLit, ItemOf, HeadOf, NothingHead, GivesHead, HoldsHead, ChoosesHead, RuleOf}
use Rattle.ground_model.specs.Sound.{most, is_number, is_sound_relation, are_sound_values, is_sound_literal, is_sound_condition, is_sound_item, is_sound_theory, is_sound_head, is_sound_rule, are_sound_rules}
use Rattle.ground_model.specs.View.{place_of, relation_of, theory_of, literal_of, item_of, head_of, rule_of}
use Rattle.ground_model.proofs.Bools.{and_intro}
use Rattle.ground_model.proofs.MemberLemmas.{all_from_members, member_map, property_member}
use Rattle.program_meaning.specs.Read.{PlainLiteral, PlainAtom, PlainCompare, ReadTheory, ReadLiteral, ReadPlain, ReadTold, ReadChoice, ReadHead, ReadNothing, ReadAtom, ReadDuty, ReadChoose, ReadRule, plains}
use Rattle.program_meaning.specs.Ascending.{Exceeds}
use Rattle.program_meaning.specs.Substitution.{Value, Key}
use Rattle.program_meaning.specs.Collected.{variable_form}
use Rattle.program_meaning.specs.Instance.{bound_in, bound_in_choice, IsPossible, IsRelevantOf}
use Rattle.program_meaning.specs.Tuples.{told_in, duty_in, theories, IsTuple, OccursInForm, OccursInGuard}
use Rattle.program_meaning.specs.Ground.{is_relation, atom_as, plain_as, TuplesAs, GuardAs, RelationAs, DomainAs, DutyAs, AtomsAs, ToldAs, BodyAs, ItemAs, HeadAs, IsInstanceAs}
use Rattle.program_meaning.specs.Canonical.{number_of, variable_number, place_numbered, relation_numbered, theory_numbered, literal_at, literal_numbered, body_numbered, item_at, item_numbered, head_at, head_numbered, rule_numbered}
use Rattle.program_meaning.specs.Outside.{HasManyTuples, IsVariableIn, TotalLarge, ValueLarge, TooManyElements, TooLarge, IsSomehowOutside}
use Rattle.program_meaning.proofs.Known.{duty_member}
use Rattle.program_meaning.proofs.Lists.{append_left, append_from, flat_to, flat_from}
use Rattle.program_meaning.proofs.SoundRelations.{sound_relation_law, sound_values_law}
use Rattle.program_meaning.proofs.SoundTuples.{heads, tails}
use Rattle.ground_rule_laws.specs.Laws.{AreKnownPlaces, IsKnownLiteral, IsKnownTheory, IsKnownHead, IsKnownRule, AreNumbered, SoundRuleLaw, SoundRulesLaw}
use Rattle.ground_rule_laws.proofs.FewIntervals.{few_intervals}
use Rattle.ground_rule_laws.proofs.SoundPlaces.{number_within, variable_within}

-- ---- names

relation_not : (kind other : TheoryName) → is_relation other ≡ false → is_relation kind ≡ true → kind ≡ other → ⊥
relation_not kind other f e d = true≢false (sym e ∙ ap is_relation d ∙ f)

many_tuples : (P : Symbol → Type 0) (rule : ReadRule) (values : List Value) (theory : ReadTheory) (kind : TheoryName) → (kind ≡ name.Dom → ⊥)
    → Exceeds (IsTuple P rule values theory) most → HasManyTuples P rule values theory kind
many_tuples P rule values theory name.Sum n e = e
many_tuples P rule values theory name.Diff n e = e
many_tuples P rule values theory name.Dom n e = absurd (n refl)
many_tuples P rule values theory name.Distinct n e = e
many_tuples P rule values theory name.Disjoint n e = e
many_tuples P rule values theory name.Minimize n e = e
many_tuples P rule values theory name.Maximize n e = e
many_tuples P rule values theory name.Show n e = e
many_tuples P rule values theory name.Unknown n e = e

-- ---- literals of atoms

relation_same : (lit : LitOf Symbol Symbol) (one other : RelationOf Symbol) (sign facing : Bool) → lit ≡ RelationLit one sign → lit ≡ RelationLit other facing → other ≡ one
relation_same lit one other sign facing e f = cc

number_same : (lit : LitOf ℕ ℕ) (n k : ℕ) (sign facing : Bool) → lit ≡ AtomLit n sign → lit ≡ AtomLit k facing → k ≡ n
number_same lit n k sign facing e f = cc

given_same : (head : HeadOf ℕ ℕ) (n k : ℕ) → head ≡ GivesHead n → head ≡ GivesHead k → k ≡ n
given_same head n k e f = cc

held_same : (head : HeadOf ℕ ℕ) (one other : TheoryOf ℕ) → head ≡ HoldsHead one → head ≡ HoldsHead other → one ≡ other
held_same head one other e f = cc

chosen_same : (head : HeadOf ℕ ℕ) (one other : List (ItemOf ℕ ℕ)) (a b c d : Option Bound) → head ≡ ChoosesHead one a c → head ≡ ChoosesHead other b d → one ≡ other
chosen_same head one other a b c d e f = cc

apart_literals : (lit : LitOf ℕ ℕ) (n : ℕ) (relation : RelationOf ℕ) (sign facing : Bool) → lit ≡ AtomLit n sign → lit ≡ RelationLit relation facing → ⊥
apart_literals lit n relation sign facing e f = cc

-- no literal is a relation
abbrev pub IsPlain : List (LitOf Symbol Symbol) → Type 0
IsPlain lits = (relation : RelationOf Symbol) (sign : Bool) → IsMember lits (RelationLit relation sign) → ⊥

atoms_plain : (bound : List Outcome) (literals : List PlainLiteral) (lits : List (LitOf Symbol Symbol)) → AtomsAs bound literals lits → IsPlain lits
atoms_plain bound literals lits made relation sign m =
    let r = flat_from (plain_as bound) literals (RelationLit relation sign) ((made.all (RelationLit relation sign)).0 m) in
    literal r.0 r.2
  where
    apart : (a : Symbol) (facing : Bool) → RelationLit relation sign ≡ AtomLit a facing → ⊥
    apart a facing e = cc

    of_value : (o : Outcome) (facing : Bool) → IsMember (atom_as o facing) (RelationLit relation sign) → ⊥
    of_value (IsSymbol a) facing (inl e) = apart a facing e
    of_value (IsSymbol a) facing (inr n) = n
    of_value IsOver facing n = n
    of_value IsUndefined facing n = n

    literal : (l : PlainLiteral) → IsMember (plain_as bound l) (RelationLit relation sign) → ⊥
    literal (PlainAtom term facing) n = of_value (value_of bound term) facing n
    literal (PlainCompare left rel right) n = n

-- a relation of a body is one of its theory atoms
record Told (P : Symbol → Type 0) (rule : ReadRule) (values : List Value) (literals : List ReadLiteral) (relation : RelationOf Symbol) : Type 0 where
  theory : ReadTheory
  facing : Bool
  member : IsMember literals (ReadTold theory facing)
  is : RelationAs P rule values theory relation

told_from : (P : Symbol → Type 0) (rule : ReadRule) (values : List Value) (literals : List ReadLiteral) (lits : List (LitOf Symbol Symbol))
    → ToldAs P rule values literals lits → (relation : RelationOf Symbol) (sign : Bool) → IsMember lits (RelationLit relation sign)
    → Told P rule values literals relation
told_from P rule values [] lits made relation sign m = absurd (subst (λ ls. IsMember ls (RelationLit relation sign)) made m)
told_from P rule values (ReadPlain literal ∷ literals) lits made relation sign m =
    let r = told_from P rule values literals lits made relation sign m in
    record { theory = r.theory; facing = r.facing; member = inr r.member; is = r.is }
told_from P rule values (ReadTold theory facing ∷ literals) lits made relation sign m =
    go (subst (λ ls. IsMember ls (RelationLit relation sign)) made.2 m) (told_from P rule values literals made.1 made.4 relation sign)
  where
    go : IsMember (RelationLit made.0 facing ∷ made.1) (RelationLit relation sign)
        → (IsMember made.1 (RelationLit relation sign) → Told P rule values literals relation)
        → Told P rule values (ReadTold theory facing ∷ literals) relation
    go (inl e) rec = record { theory = theory; facing = facing; member = inl refl; is = subst (RelationAs P rule values theory) (relation_same (RelationLit relation sign) relation made.0 sign facing refl e) made.3 }
    go (inr n) rec = let r = rec n in record { theory = r.theory; facing = r.facing; member = inr r.member; is = r.is }

module _ (rules : List ReadRule) (ends : Ends) (atoms variables : List Symbol) (all : AreNumbered rules atoms variables) (symbols : List Symbol) where
  module _ (key : Key) (rule : ReadRule) (relevant : IsRelevantOf rules key rule) (inside : IsSomehowOutside rules ends key → ⊥) where
    abbrev P : Symbol → Type 0
    P = IsPossible rules

    -- ---- theory atoms

    tuple_variable : (theory : ReadTheory) → IsMember (theories rule) theory → (theory.name ≡ name.Dom → ⊥) → (theory.name ≡ name.Show → ⊥)
        → (place : PlaceOf Symbol) → IsTuple P rule key.values theory place → (x : Symbol) → OccursInForm x place.linear → IsMember variables x
    tuple_variable theory m not_dom not_show place tuple x o =
        (all.integers.all x).1 (key, rule, theory, record { relevant = relevant; member = m; other = not_show; occurs = inl (not_dom, (place, tuple, o)) })

    guard_variable : (theory : ReadTheory) → IsMember (theories rule) theory → (theory.name ≡ name.Show → ⊥)
        → (x : Symbol) → OccursInGuard (bound_in rule key.values) theory.guard x → IsMember variables x
    guard_variable theory m not_show x o =
        (all.integers.all x).1 (key, rule, theory, record { relevant = relevant; member = m; other = not_show; occurs = inr o })

    occurs_right : (guard : Option Guard) (rel : Rel) (right : LinearOf Symbol) → GuardAs (bound_in rule key.values) guard rel right
        → (x : Symbol) → OccursInForm x right → OccursInGuard (bound_in rule key.values) guard x
    occurs_right None rel right g x o = absurd g
    occurs_right (Some guard) rel right g x o = (right, g.1, o)

    few_tuples : (theory : ReadTheory) → IsMember (theories rule) theory → (theory.name ≡ name.Dom → ⊥) → Exceeds (IsTuple P rule key.values theory) most → ⊥
    few_tuples theory m not_dom e = inside (rule, relevant, (TooManyElements, (theory, m, inl (many_tuples P rule key.values theory theory.name not_dom e))))

    few_names : (theory : ReadTheory) → IsMember (theories rule) theory → Exceeds (IsVariableIn P rule key.values theory) most → ⊥
    few_names theory m e = inside (rule, relevant, (TooManyElements, (theory, m, inr e)))

    relation_sound : (theory : ReadTheory) → IsMember (theories rule) theory → (relation : RelationOf Symbol) → RelationAs P rule key.values theory relation
        → (held : Relation) → relation_of symbols held ≡ relation_numbered variables relation → AreKnownPlaces (length symbols) held.elements
        → is_sound_relation (length symbols) (length variables) held ≡ true
    relation_sound theory m relation made held e known =
        let not_dom = relation_not theory.name name.Dom refl made.name in
        let not_show = relation_not theory.name name.Show refl made.name in
        sound_relation_law rules rule key.values theory variables symbols relation held all.integers.ascend made (few_tuples theory m not_dom) (few_names theory m)
        (λ large. inside (rule, relevant, (TooLarge, TotalLarge theory m large)))
        (λ place k x o. tuple_variable theory m not_dom not_show place ((made.tuples.all place).0 k) x o)
        (λ x o. guard_variable theory m not_show x (occurs_right theory.guard relation.rel relation.right made.guard x o)) e known

    -- ---- bodies

    body_sound : (lits : List (LitOf Symbol Symbol)) → BodyAs P rule key.values rule.body lits → (held : List BodyLit)
        → map (literal_of symbols) held ≡ body_numbered atoms variables lits → AllByRecursion (IsKnownLiteral (length symbols)) held
        → list_all (is_sound_literal (length symbols) (length atoms) (length variables)) held ≡ true
    body_sound lits made held e known = all_from_members (is_sound_literal (length symbols) (length atoms) (length variables)) held each
      where
        -- the literal that a held one numbers
        source : (l : BodyLit) → IsMember held l → (lit : LitOf Symbol Symbol) × IsMember lits lit × IsMember (literal_numbered atoms variables lit) (literal_of symbols l)
        source l m =
            flat_from (literal_numbered atoms variables) lits (literal_of symbols l)
            (subst (λ ls. IsMember ls (literal_of symbols l)) e (member_map (literal_of symbols) held l m))

        theory_from : (relation : RelationOf Symbol) (sign : Bool) → IsMember lits (RelationLit relation sign) → Told P rule key.values rule.body relation
        theory_from relation sign m =
            go (append_from made.atoms made.told (RelationLit relation sign) (subst (λ ls. IsMember ls (RelationLit relation sign)) made.whole m))
          where
            go : IsMember made.atoms (RelationLit relation sign) ⊎ IsMember made.told (RelationLit relation sign) → Told P rule key.values rule.body relation
            go (inl n) = absurd (atoms_plain (bound_in rule key.values) (plains rule.body) made.atoms made.are_atoms relation sign n)
            go (inr n) = told_from P rule key.values rule.body made.told made.are_told relation sign n

        told_member : (theory : ReadTheory) (facing : Bool) → IsMember rule.body (ReadTold theory facing) → IsMember (theories rule) theory
        told_member theory facing m =
            append_left (flat_map told_in rule.body) (duty_in rule.head) theory (flat_to told_in rule.body (ReadTold theory facing) theory m (inl refl))

        atom_sound : (n : ℕ) (sign : Bool) (lit : LitOf Symbol Symbol) → IsMember (literal_numbered atoms variables lit) (AtomLit n sign) → is_number (length atoms) n ≡ true
        atom_sound n sign (RelationLit relation facing) (inl f) = absurd (apart_literals (AtomLit n sign) n (relation_numbered variables relation) sign facing refl f)
        atom_sound n sign (RelationLit relation facing) (inr f) = absurd f
        atom_sound n sign (AtomLit a facing) m = go (number_of atoms a) refl m
          where
            go : (o : Option ℕ) → number_of atoms a ≡ o → IsMember (literal_at o facing) (AtomLit n sign) → is_number (length atoms) n ≡ true
            go None f k = absurd k
            go (Some k) f (inl s) = subst (λ j. is_number (length atoms) j ≡ true) (number_same (AtomLit n sign) n k sign facing refl s) (number_within atoms a k f)
            go (Some k) f (inr s) = absurd s

        told_sound : (relation : Relation) (sign : Bool) → AreKnownPlaces (length symbols) relation.elements → (lit : LitOf Symbol Symbol) → IsMember lits lit
            → IsMember (literal_numbered atoms variables lit) (RelationLit (relation_of symbols relation) sign)
            → is_sound_relation (length symbols) (length variables) relation ≡ true
        told_sound relation sign k (AtomLit a facing) m n = absurd (go (number_of atoms a) n)
          where
            go : (o : Option ℕ) → IsMember (literal_at o facing) (RelationLit (relation_of symbols relation) sign) → ⊥
            go None n = n
            go (Some j) (inl f) = apart_literals (RelationLit (relation_of symbols relation) sign) j (relation_of symbols relation) facing sign f refl
            go (Some j) (inr f) = f
        told_sound relation sign k (RelationLit other facing) m (inl f) =
            let r = theory_from other facing m in
            relation_sound r.theory (told_member r.theory r.facing r.member) other r.is relation (told_same (RelationLit (relation_of symbols relation) sign) (relation_of symbols relation) (relation_numbered variables other) refl f) k
          where
            told_same : (lit : LitOf ℕ ℕ) (one two : RelationOf ℕ) → lit ≡ RelationLit one sign → lit ≡ RelationLit two facing → one ≡ two
            told_same lit one two e f = cc
        told_sound relation sign k (RelationLit other facing) m (inr f) = absurd f

        each : (l : BodyLit) → IsMember held l → is_sound_literal (length symbols) (length atoms) (length variables) l ≡ true
        each (b.Atom n sign) m = let s = source (b.Atom n sign) m in atom_sound n sign s.0 s.2
        each (b.Theory relation sign) m =
            let s = source (b.Theory relation sign) m in
            told_sound relation sign (property_member (IsKnownLiteral (length symbols)) held (b.Theory relation sign) known m) s.0 s.1 s.2

    -- ---- heads

    -- what is held of a theory head of such a rule is sound
    abbrev TheorySound : TheoryOf Symbol → Type 0
    TheorySound theory =
        (held : TheoryHead) → theory_of symbols held ≡ theory_numbered variables theory → IsKnownTheory (length symbols) held
        → is_sound_theory (length symbols) (length variables) ends held ≡ true

    relation_head : (relation : RelationOf Symbol) (theory : ReadTheory) → IsMember (theories rule) theory → RelationAs P rule key.values theory relation
        → TheorySound (RelationHead relation)
    relation_head relation theory m made (t.Relation held) e known = relation_sound theory m relation made held (same e) known
      where
        same : RelationHead (relation_of symbols held) ≡ RelationHead (relation_numbered variables relation) → relation_of symbols held ≡ relation_numbered variables relation
        same e = cc
    relation_head relation theory m made (t.Domain numbers x) e known = cc
    relation_head relation theory m made (t.Distinct places) e known = cc
    relation_head relation theory m made (t.Disjoint places) e known = cc

    domain_head : (intervals : List (ℤ × ℤ)) (x : Symbol) (theory : ReadTheory) → IsMember (theories rule) theory → theory.name ≡ name.Dom
        → DomainAs P rule key.values theory intervals x → TheorySound (DomainHead intervals x)
    domain_head intervals x theory m kind made (t.Relation held) e known = cc
    domain_head intervals x theory m kind made (t.Domain numbers y) e known =
        and_intro (is_number (length variables) y) (nat_le (length numbers.intervals) most)
        (subst (λ n. is_number (length variables) n ≡ true) (sym (variable e))
        (variable_within variables x (guard_variable theory m not_show x (occurs_right theory.guard made.guard.0 (variable_form x) made.guard.1 x (_, inl refl)))))
        (subst (λ is. nat_le (length is) most ≡ true) (sym (same e))
        (few_intervals _ intervals made.integers made.parted
        (λ many. inside (rule, relevant, (TooManyElements, (theory, m, inl (subst (HasManyTuples P rule key.values theory) (sym kind) many)))))))
      where
        same : DomainHead numbers.intervals y ≡ DomainHead intervals (variable_number variables x) → numbers.intervals ≡ intervals
        same e = cc

        variable : DomainHead numbers.intervals y ≡ DomainHead intervals (variable_number variables x) → y ≡ variable_number variables x
        variable e = cc

        not_show : theory.name ≡ name.Show → ⊥
        not_show s = apart theory.name kind s
          where
            apart : (kind : TheoryName) → kind ≡ name.Dom → kind ≡ name.Show → ⊥
            apart kind d s = cc
    domain_head intervals x theory m kind made (t.Distinct places) e known = cc
    domain_head intervals x theory m kind made (t.Disjoint places) e known = cc

    tuples_sound : (places : List (PlaceOf Symbol)) (theory : ReadTheory) → IsMember (theories rule) theory
        → (theory.name ≡ name.Distinct) ⊎ (theory.name ≡ name.Disjoint) → TuplesAs P rule key.values theory places → (held : List _)
        → map (place_of symbols) held ≡ map (place_numbered variables) places → AreKnownPlaces (length symbols) held
        → are_sound_values (length symbols) (length variables) ends held ≡ true
    tuples_sound places theory m kind made held e known =
        sound_values_law rules ends rule key.values theory variables places symbols held all.integers.ascend made kind
        (few_tuples theory m (not_dom kind)) (few_names theory m) (λ large. inside (rule, relevant, (TooLarge, ValueLarge theory m large)))
        (λ place k x o. tuple_variable theory m (not_dom kind) (not_show kind) place ((made.all place).0 k) x o) e known
      where
        not_dom : (theory.name ≡ name.Distinct) ⊎ (theory.name ≡ name.Disjoint) → theory.name ≡ name.Dom → ⊥
        not_dom (inl d) e = apart theory.name d e
          where
            apart : (kind : TheoryName) → kind ≡ name.Distinct → kind ≡ name.Dom → ⊥
            apart kind d s = cc
        not_dom (inr d) e = apart theory.name d e
          where
            apart : (kind : TheoryName) → kind ≡ name.Disjoint → kind ≡ name.Dom → ⊥
            apart kind d s = cc

        not_show : (theory.name ≡ name.Distinct) ⊎ (theory.name ≡ name.Disjoint) → theory.name ≡ name.Show → ⊥
        not_show (inl d) e = apart theory.name d e
          where
            apart : (kind : TheoryName) → kind ≡ name.Distinct → kind ≡ name.Show → ⊥
            apart kind d s = cc
        not_show (inr d) e = apart theory.name d e
          where
            apart : (kind : TheoryName) → kind ≡ name.Disjoint → kind ≡ name.Show → ⊥
            apart kind d s = cc

    distinct_head : (places : List (PlaceOf Symbol)) (theory : ReadTheory) → IsMember (theories rule) theory → theory.name ≡ name.Distinct
        → TuplesAs P rule key.values theory places → TheorySound (DistinctHead places)
    distinct_head places theory m kind made (t.Relation held) e known = cc
    distinct_head places theory m kind made (t.Domain numbers y) e known = cc
    distinct_head places theory m kind made (t.Distinct held) e known = tuples_sound places theory m (inl kind) made held (same e) known
      where
        same : DistinctHead (map (place_of symbols) held) ≡ DistinctHead (map (place_numbered variables) places) → map (place_of symbols) held ≡ map (place_numbered variables) places
        same e = cc
    distinct_head places theory m kind made (t.Disjoint held) e known = cc

    disjoint_head : (places : List (PlaceOf Symbol)) (theory : ReadTheory) → IsMember (theories rule) theory → theory.name ≡ name.Disjoint
        → TuplesAs P rule key.values theory places → TheorySound (DisjointHead places)
    disjoint_head places theory m kind made (t.Relation held) e known = cc
    disjoint_head places theory m kind made (t.Domain numbers y) e known = cc
    disjoint_head places theory m kind made (t.Distinct held) e known = cc
    disjoint_head places theory m kind made (t.Disjoint held) e known = tuples_sound places theory m (inr kind) made held (same e) known
      where
        same : DisjointHead (map (place_of symbols) held) ≡ DisjointHead (map (place_numbered variables) places) → map (place_of symbols) held ≡ map (place_numbered variables) places
        same e = cc

    -- what a head has for it to be sound: its theory atom is, or its conditions hold atoms alone
    abbrev HeadGood : HeadOf Symbol Symbol → Type 0
    HeadGood NothingHead = Unit {0}
    HeadGood (GivesHead a) = Unit {0}
    HeadGood (HoldsHead theory) = TheorySound theory
    HeadGood (ChoosesHead items left right) = AllByRecursion (λ item. IsPlain item.condition) items

    duty_good : (theory : ReadTheory) → IsMember (theories rule) theory → (kind : TheoryName) → theory.name ≡ kind → (made : HeadOf Symbol Symbol)
        → DutyAs P rule key.values theory kind made → HeadGood made
    duty_good theory m name.Sum e made d = subst HeadGood (sym d.2) (relation_head d.0 theory m d.1)
    duty_good theory m name.Diff e made d = subst HeadGood (sym d.2) (relation_head d.0 theory m d.1)
    duty_good theory m name.Dom e made d = subst HeadGood (sym d.3) (domain_head d.0 d.1 theory m e d.2)
    duty_good theory m name.Distinct e made d = subst HeadGood (sym d.2) (distinct_head d.0 theory m e d.1)
    duty_good theory m name.Disjoint e made d = subst HeadGood (sym d.2) (disjoint_head d.0 theory m e d.1)
    duty_good theory m name.Minimize e made d = absurd d
    duty_good theory m name.Maximize e made d = absurd d
    duty_good theory m name.Show e made d = absurd d
    duty_good theory m name.Unknown e made d = absurd d

    items_plain : (elements : List ReadChoice) (keys : List Key) (items : List (ItemOf Symbol Symbol)) → AllZip (ItemAs P rule key.values elements) keys items
        → AllByRecursion (λ item. IsPlain item.condition) items
    items_plain elements [] [] z = tt
    items_plain elements [] (item ∷ items) z = absurd z
    items_plain elements (part ∷ keys) [] z = absurd z
    items_plain elements (part ∷ keys) (item ∷ items) z = (
      atoms_plain (bound_in_choice rule key.values z.0.0 part.values) z.0.0.condition item.condition z.0.3,
      items_plain elements keys items z.1,
    )

    head_good : (head : ReadHead) → rule.head ≡ head → (made : HeadOf Symbol Symbol) → HeadAs P rule key.values head made → HeadGood made
    head_good ReadNothing e made d = subst HeadGood (sym d) tt
    head_good (ReadAtom term) e made d = subst HeadGood (sym d.2) tt
    head_good (ReadDuty theory) e made d = duty_good theory (duty_member rule theory e) theory.name refl made d
    head_good (ReadChoose left elements right) e made d = subst HeadGood (sym d.4) (items_plain elements d.3.keys d.0 d.3.each)

    item_sound : (items : List (ItemOf Symbol Symbol)) → AllByRecursion (λ item. IsPlain item.condition) items
        → (held : ChoiceItem) → IsMember (flat_map (item_numbered atoms variables) items) (item_of symbols held) → is_sound_item (length atoms) held ≡ true
    item_sound items good held m =
        let r = flat_from (item_numbered atoms variables) items (item_of symbols held) m in
        go r.0 (property_member (λ item. IsPlain item.condition) items r.0 good r.1) (number_of atoms r.0.atom) refl r.2
      where
        condition_sound : (lits : List (LitOf Symbol Symbol)) → IsPlain lits → map (literal_of symbols) held.condition ≡ body_numbered atoms variables lits
            → list_all (is_sound_condition (length atoms)) held.condition ≡ true
        condition_sound lits plain e = all_from_members (is_sound_condition (length atoms)) held.condition each
          where
            number : (n : ℕ) (sign : Bool) (lit : LitOf Symbol Symbol) → IsMember (literal_numbered atoms variables lit) (AtomLit n sign) → is_number (length atoms) n ≡ true
            number n sign (RelationLit relation facing) (inl f) = absurd (apart_literals (AtomLit n sign) n (relation_numbered variables relation) sign facing refl f)
            number n sign (RelationLit relation facing) (inr f) = absurd f
            number n sign (AtomLit a facing) m = at (number_of atoms a) refl m
              where
                at : (o : Option ℕ) → number_of atoms a ≡ o → IsMember (literal_at o facing) (AtomLit n sign) → is_number (length atoms) n ≡ true
                at None f k = absurd k
                at (Some k) f (inl s) = subst (λ j. is_number (length atoms) j ≡ true) (number_same (AtomLit n sign) n k sign facing refl s) (number_within atoms a k f)
                at (Some k) f (inr s) = absurd s

            no_relation : (relation : RelationOf ℕ) (sign : Bool) (lit : LitOf Symbol Symbol) → IsMember lits lit
                → IsMember (literal_numbered atoms variables lit) (RelationLit relation sign) → ⊥
            no_relation relation sign (RelationLit other facing) m f = plain other facing m
            no_relation relation sign (AtomLit a facing) m f = at (number_of atoms a) f
              where
                at : (o : Option ℕ) → IsMember (literal_at o facing) (RelationLit relation sign) → ⊥
                at None k = k
                at (Some k) (inl s) = apart_literals (RelationLit relation sign) k relation facing sign s refl
                at (Some k) (inr s) = s

            source : (l : BodyLit) → IsMember held.condition l → (lit : LitOf Symbol Symbol) × IsMember lits lit × IsMember (literal_numbered atoms variables lit) (literal_of symbols l)
            source l m =
                flat_from (literal_numbered atoms variables) lits (literal_of symbols l)
                (subst (λ ls. IsMember ls (literal_of symbols l)) e (member_map (literal_of symbols) held.condition l m))

            each : (l : BodyLit) → IsMember held.condition l → is_sound_condition (length atoms) l ≡ true
            each (b.Atom n sign) m = let s = source (b.Atom n sign) m in number n sign s.0 s.2
            each (b.Theory relation sign) m = let s = source (b.Theory relation sign) m in absurd (no_relation (relation_of symbols relation) sign s.0 s.1 s.2)

        go : (item : ItemOf Symbol Symbol) → IsPlain item.condition → (o : Option ℕ) → number_of atoms item.atom ≡ o
            → IsMember (item_at o (body_numbered atoms variables item.condition)) (item_of symbols held) → is_sound_item (length atoms) held ≡ true
        go item plain None f k = absurd k
        go item plain (Some n) f (inl s) =
            and_intro (is_number (length atoms) held.atom) (list_all (is_sound_condition (length atoms)) held.condition)
            (subst (λ j. is_number (length atoms) j ≡ true) (sym (ap (λ z. z.atom) s)) (number_within atoms item.atom n f))
            (condition_sound item.condition plain (ap (λ z. z.condition) s))
        go item plain (Some n) f (inr s) = absurd s

    head_sound : (made : HeadOf Symbol Symbol) → HeadGood made → (held : GroundHead) → head_of symbols held ≡ head_numbered atoms variables made
        → IsKnownHead (length symbols) held → is_sound_head (length symbols) (length atoms) (length variables) ends held ≡ true
    head_sound made good h.Nothing e known = refl
    head_sound NothingHead good (h.Atom n) e known = cc
    head_sound (GivesHead a) good (h.Atom n) e known = go (number_of atoms a) refl e
      where
        go : (o : Option ℕ) → number_of atoms a ≡ o → GivesHead n ≡ head_at o → is_number (length atoms) n ≡ true
        go None f e = cc
        go (Some k) f e = subst (λ j. is_number (length atoms) j ≡ true) (given_same (GivesHead n) n k refl e) (number_within atoms a k f)
    head_sound (HoldsHead theory) good (h.Atom n) e known = cc
    head_sound (ChoosesHead items left right) good (h.Atom n) e known = cc
    head_sound NothingHead good (h.Theory theory) e known = cc
    head_sound (GivesHead a) good (h.Theory theory) e known = absurd (go (number_of atoms a) e)
      where
        go : (o : Option ℕ) → HoldsHead (theory_of symbols theory) ≡ head_at o → ⊥
        go None e = cc
        go (Some n) e = cc
    head_sound (HoldsHead theory) good (h.Theory held) e known =
        good held (held_same (HoldsHead (theory_of symbols held)) (theory_of symbols held) (theory_numbered variables theory) refl e) known
    head_sound (ChoosesHead items left right) good (h.Theory theory) e known = cc
    head_sound NothingHead good (h.Choice choice) e known = cc
    head_sound (GivesHead a) good (h.Choice choice) e known = absurd (go (number_of atoms a) e)
      where
        go : (o : Option ℕ) → ChoosesHead (map (item_of symbols) choice.items) choice.left choice.right ≡ head_at o → ⊥
        go None e = cc
        go (Some n) e = cc
    head_sound (HoldsHead theory) good (h.Choice choice) e known = cc
    head_sound (ChoosesHead items left right) good (h.Choice choice) e known =
        all_from_members (is_sound_item (length atoms)) choice.items
        (λ item m. item_sound items good item (subst (λ is. IsMember is (item_of symbols item))
        (chosen_same (ChoosesHead (map (item_of symbols) choice.items) choice.left choice.right) (map (item_of symbols) choice.items)
        (flat_map (item_numbered atoms variables) items) choice.left left choice.right right refl e)
        (member_map (item_of symbols) choice.items item m)))

pub sound_rule_law : SoundRuleLaw
sound_rule_law rules ends atoms variables all key inside made instance symbols held e known =
    and_intro (list_all (is_sound_literal (length symbols) (length atoms) (length variables)) held.body) (is_sound_head (length symbols) (length atoms) (length variables) ends held.head)
    (body_sound rules ends atoms variables all symbols key instance.0 instance.1 inside made.body instance.2 held.body (ap (λ z. z.body) e) known.body)
    (head_sound rules ends atoms variables all symbols key instance.0 instance.1 inside made.head
    (head_good rules ends atoms variables all symbols key instance.0 instance.1 inside instance.0.head refl made.head instance.3) held.head (ap (λ z. z.head) e) known.head)

pub sound_rules_law : SoundRulesLaw
sound_rules_law rules ends atoms variables all inside instances listed symbols held e known = go instances held listed.each e known
  where
    go : (instances : List (Key × RuleOf Symbol Symbol)) (held : List GroundRule) → AllByRecursion (λ instance. IsInstanceAs rules instance.0 instance.1) instances
        → map (rule_of symbols) held ≡ map (λ instance. rule_numbered atoms variables instance.1) instances → AllByRecursion (IsKnownRule (length symbols)) held
        → are_sound_rules (length symbols) (length atoms) (length variables) ends held ≡ true
    go [] [] each e known = refl
    go (i ∷ is) [] each e known = refl
    go [] (r ∷ held) each e known = cc
    go (i ∷ is) (r ∷ held) each e known =
        and_intro (is_sound_rule (length symbols) (length atoms) (length variables) ends r) (are_sound_rules (length symbols) (length atoms) (length variables) ends held)
        (sound_rule_law rules ends atoms variables all i.0 (inside i.0) i.1 each.0 symbols r (heads _ _ _ _ e) known.0)
        (go is held each.1 (tails _ _ _ _ e) known.1)
