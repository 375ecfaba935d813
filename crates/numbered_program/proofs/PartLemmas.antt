-- What a ground program from parts keeps, and that it is canonical.
use Rattle.std.proofs.Common.{◌≡◌, ◌<◌, ◌≤◌, ◌^◌, ◌==◌, ℕ, suc, nat_le, nat_lt, Bool, true, false, ◌&&◌, List, [], ◌∷◌, length, map, refl, sym, ◌∙◌, ap, subst, true≢false, arith}
use Rattle.std.specs.Prelude.{◌↔◌, IsTrue, Option, None, Some, IsSome, IfSome}
use Rattle.std.specs.Option.{is_some}
use Rattle.std.specs.List.{AllByRecursion, AllZip}
use Rattle.std.proofs.lemmas.Bool.Decides.{nat_tests}
use Rattle.std.proofs.lemmas.List.{length-map}
use Rattle.symbols.specs.Symbol.{Symbol}
use Rattle.symbols.specs.Table.{symbol_at}
use Rattle.ground_model.specs.Sound.{are_known, are_sound_rules, is_sound_objective}
use Rattle.ground_model.specs.View.{place_of, rule_of}
use Rattle.program_meaning.specs.Read.{ReadProgram}
use Rattle.program_meaning.specs.Canonical.{place_numbered, rule_numbered, IsShownFlag, GroundView, view_of, IsCanonical}
use Rattle.program_meaning.specs.Outside.{most_variables, HasLargeObjective}
use Rattle.program_meaning.specs.Said.{place_in}
use Rattle.program_meaning.proofs.Limits.{variables_law}
use Rattle.ground_rule_laws.proofs.FewAtoms.{few_atoms_law}
use Rattle.ground_rule_laws.specs.Laws.{AreKnownPlaces, IsKnownRule}
use Rattle.ground_rule_laws.proofs.SoundRules.{sound_rules_law}
use Rattle.numbered_program.specs.declared.parts.ProgramParts.{ProgramParts}
use Rattle.numbered_program.specs.Parts.{HasParts, ArePartsOf, AreGrounded}
use Rattle.numbered_program.specs.declared.numbered.NumberedParts.{NumberedParts}
use Rattle.numbered_program.specs.inner.Numbered.{IsNumbered}
use Rattle.objective_laws.specs.Laws.{AreObjective}
use Rattle.objective_laws.proofs.Judged.{small_law, large_law}
use Rattle.ground_parts.specs.declared.parts.GroundParts.{GroundParts}
use Rattle.ground_parts.specs.Parts.{has_sound_names, make_a_program, parts_of}
use Rattle.ground_model.specs.declared.program.GroundProgram.{GroundProgram}
use Rattle.ground_model.proofs.Bools.{and_elim, and_intro}
use Rattle.numbered_rules.specs.Numbers.{HaveNumbers}
use Rattle.numbered_rules.proofs.RuleLemmas.{instances_same, ids_known}
use Rattle.symbol_rules.specs.Reading.{rule_in}

zip_lengths : {X Y : Type 0} (R : X → Y → Type 0) (xs : List X) (ys : List Y) → AllZip R xs ys → length ys ≡ length xs
zip_lengths R [] [] z = refl
zip_lengths R [] (y ∷ ys) z = absurd z
zip_lengths R (x ∷ xs) [] z = absurd z
zip_lengths R (x ∷ xs) (y ∷ ys) z = ap suc (zip_lengths R xs ys z.1)

-- not more than the most is less than any bound above it
fewer : (n limit bound : ℕ) → (limit < n → ⊥) → limit < bound → n < bound
fewer n limit bound h l = go (nat_le n limit) refl
  where
    within : nat_le n limit ≡ true → n < bound
    within t = grind (arith, nat_tests)

    past : nat_le n limit ≡ false → limit < n
    past t = grind (arith, nat_tests)

    go : (t : Bool) → nat_le n limit ≡ t → n < bound
    go true t = within t
    go false t = absurd (h (past t))

module _ (symbols : List Symbol) (parts : ProgramParts) (known : HasParts (length symbols) parts) where
  abbrev atoms : List Symbol
  atoms = map (symbol_at symbols) parts.atoms

  abbrev variables : List Symbol
  variables = map (symbol_at symbols) parts.variables

  pub few_atoms : AreGrounded symbols parts → length parts.atoms < 2 ^ 32
  few_atoms g =
      let few = few_atoms_law g.0.rules g.1 atoms g.2.are.are_atoms g.2.count in
      let same = length-map parts.atoms (symbol_at symbols) in
      let bound = g.2.few in
      lower (length atoms) (length parts.atoms) g.1 same few bound
    where
      lower : (m n limit : ℕ) → m ≡ n → m ≤ limit → limit < 2 ^ 32 → n < 2 ^ 32
      lower m n limit e f l = omega (arith, e, f, l)

  pub few_variables : AreGrounded symbols parts → length parts.variables < 2 ^ 32
  few_variables g =
      subst (λ n. n < 2 ^ 32) (length-map parts.variables (symbol_at symbols))
      (fewer (length variables) most_variables (2 ^ 32)
      (λ more. g.2.variables ((variables_law g.0.rules most_variables variables g.2.are.are_variables).1 more)) (omega arith))

  pub numbered_by : (atom_numbers numbers first second third fourth : List ℕ) → first ≡ atom_numbers → second ≡ numbers → third ≡ numbers → fourth ≡ numbers
      → HaveNumbers symbols atoms atom_numbers → HaveNumbers symbols variables numbers → (made : NumberedParts)
      → (HaveNumbers symbols atoms first → HaveNumbers symbols variables second → map (rule_of symbols) made.rules ≡ map (rule_numbered atoms variables) (map (rule_in symbols) parts.rules))
      → (HaveNumbers symbols variables third → map (place_of symbols) made.smaller ≡ map (place_numbered variables) (map (place_in symbols) parts.smaller))
      → (HaveNumbers symbols variables fourth → map (place_of symbols) made.larger ≡ map (place_numbered variables) (map (place_in symbols) parts.larger))
      → AllByRecursion (IsKnownRule (length second)) made.rules → AreKnownPlaces (length third) made.smaller → AreKnownPlaces (length fourth) made.larger
      → IsNumbered symbols parts made
  numbered_by atom_numbers numbers first second third fourth p q r s a v made e f h known_rules known_smaller known_larger = record {
    rules = e (subst (HaveNumbers symbols atoms) (sym p) a) (subst (HaveNumbers symbols variables) (sym q) v);
    smaller = f (subst (HaveNumbers symbols variables) (sym r) v);
    larger = h (subst (HaveNumbers symbols variables) (sym s) v);
    known_rules = subst (λ n. AllByRecursion (IsKnownRule n) made.rules) (ap length q ∙ v.size) known_rules;
    known_smaller = subst (λ n. AreKnownPlaces n made.smaller) (ap length r ∙ v.size) known_smaller;
    known_larger = subst (λ n. AreKnownPlaces n made.larger) (ap length s ∙ v.size) known_larger;
  }

  module _ (made : NumberedParts) (is : IsNumbered symbols parts made) where
    abbrev pub whole : GroundParts
    whole = record {
      ends = parts.ends;
      atoms = parts.atoms;
      variables = parts.variables;
      rules = made.rules;
      has_objective = parts.has_objective;
      smaller = made.smaller;
      larger = made.larger;
      shown_atoms = parts.shown_atoms;
      shown_variables = parts.shown_variables;
      symbols = symbols;
    }

    same_atoms : length atoms ≡ length parts.atoms
    same_atoms = length-map parts.atoms (symbol_at symbols)

    same_variables : length variables ≡ length parts.variables
    same_variables = length-map parts.variables (symbol_at symbols)

    made_rules : (program : ReadProgram) → (of : ArePartsOf symbols program parts)
        → map (rule_of symbols) made.rules ≡ map (λ instance. rule_numbered atoms variables instance.1) of.instances
    made_rules program of = is.rules ∙ ap (map (rule_numbered atoms variables)) of.are_rules ∙ instances_same atoms variables of.instances

    objective_of : (program : ReadProgram) → ArePartsOf symbols program parts → AreObjective program.rules variables symbols made.smaller made.larger
    objective_of program of = record {
      integers = of.are_variables;
      minimised = (map (place_in symbols) parts.smaller, of.are_smaller, is.smaller);
      maximised = (map (place_in symbols) parts.larger, of.are_larger, is.larger);
      known_smaller = is.known_smaller;
      known_larger = is.known_larger;
    }

    names_sound : AreGrounded symbols parts → has_sound_names whole ≡ true
    names_sound g =
        and_intro ((((nat_lt (length parts.atoms) (2 ^ 32) && nat_lt (length parts.variables) (2 ^ 32)) && are_known (length symbols) parts.atoms) && are_known (length symbols) parts.variables)
        && (length parts.shown_atoms == length parts.atoms)) (length parts.shown_variables == length parts.variables)
        (and_intro (((nat_lt (length parts.atoms) (2 ^ 32) && nat_lt (length parts.variables) (2 ^ 32)) && are_known (length symbols) parts.atoms) && are_known (length symbols) parts.variables)
        (length parts.shown_atoms == length parts.atoms)
        (and_intro ((nat_lt (length parts.atoms) (2 ^ 32) && nat_lt (length parts.variables) (2 ^ 32)) && are_known (length symbols) parts.atoms) (are_known (length symbols) parts.variables)
        (and_intro (nat_lt (length parts.atoms) (2 ^ 32) && nat_lt (length parts.variables) (2 ^ 32)) (are_known (length symbols) parts.atoms)
        (and_intro (nat_lt (length parts.atoms) (2 ^ 32)) (nat_lt (length parts.variables) (2 ^ 32)) (below (length parts.atoms) (2 ^ 32) (few_atoms g))
        (below (length parts.variables) (2 ^ 32) (few_variables g))) (ids_known (length symbols) parts.atoms known.known_atoms))
        (ids_known (length symbols) parts.variables known.known_variables))
        (level (length parts.shown_atoms) (length parts.atoms) (ap length g.2.are.atom_flags ∙ length-map atoms _ ∙ same_atoms)))
        (level (length parts.shown_variables) (length parts.variables)
        (zip_lengths (IsShownFlag g.0.rules) variables parts.shown_variables g.2.are.variable_flags ∙ same_variables))
      where
        below : (a b : ℕ) → a < b → nat_lt a b ≡ true
        below a b l = grind (arith, nat_tests)

        level : (a b : ℕ) → a ≡ b → (a == b) ≡ true
        level a b e = grind (arith, nat_tests)

    rules_sound : AreGrounded symbols parts → are_sound_rules (length symbols) (length parts.atoms) (length parts.variables) parts.ends made.rules ≡ true
    rules_sound g =
        (λ i. are_sound_rules (length symbols) (sym same_atoms i) (sym same_variables i) parts.ends made.rules)
        ∙ sound_rules_law g.0.rules parts.ends atoms variables (record { possible = g.2.are.are_atoms; integers = g.2.are.are_variables }) g.2.inside g.2.are.instances g.2.are.listed symbols
        made.rules (made_rules g.0 g.2.are) is.known_rules

    -- the parts make a program exactly where the objective is sound
    objective_left : AreGrounded symbols parts → make_a_program whole ≡ false → is_sound_objective (length symbols) (length variables) made.smaller made.larger ≡ false
    objective_left g e =
        subst (λ n. is_sound_objective (length symbols) n made.smaller made.larger ≡ false) (sym same_variables)
        (last (has_sound_names whole) (are_sound_rules (length symbols) (length parts.atoms) (length parts.variables) parts.ends made.rules)
        (is_sound_objective (length symbols) (length parts.variables) made.smaller made.larger) (names_sound g) (rules_sound g) e)
      where
        last : (a b c : Bool) → a ≡ true → b ≡ true → ((a && b) && c) ≡ false → c ≡ false
        last true true c p q e = e
        last true false c p q e = absurd (true≢false (sym q))
        last false b c p q e = absurd (true≢false (sym p))

    pub large : AreGrounded symbols parts → make_a_program whole ≡ false → (program : ReadProgram) → ArePartsOf symbols program parts → HasLargeObjective program.rules
    large g e program of = large_law program.rules variables symbols made.smaller made.larger (objective_of program of) (objective_left g e)

    pub small : make_a_program whole ≡ true → (program : ReadProgram) → ArePartsOf symbols program parts → HasLargeObjective program.rules → ⊥
    small e program of =
        small_law program.rules variables symbols made.smaller made.larger (objective_of program of)
        (subst (λ n. is_sound_objective (length symbols) n made.smaller made.larger ≡ true) (sym same_variables)
        (and_elim (has_sound_names whole && are_sound_rules (length symbols) (length parts.atoms) (length parts.variables) parts.ends made.rules)
        (is_sound_objective (length symbols) (length parts.variables) made.smaller made.larger) e).1)

    abbrev view_parts : GroundParts → GroundView
    view_parts p = record {
      atoms = map (symbol_at p.symbols) p.atoms;
      variables = map (symbol_at p.symbols) p.variables;
      rules = map (rule_of p.symbols) p.rules;
      has_objective = p.has_objective;
      smaller = map (place_of p.symbols) p.smaller;
      larger = map (place_of p.symbols) p.larger;
      shown_atoms = p.shown_atoms;
      shown_variables = p.shown_variables;
    }

    canonical_parts : (program : ReadProgram) → ArePartsOf symbols program parts → IsCanonical program (view_parts whole)
    canonical_parts program of = record {
      atoms = of.are_atoms;
      variables = of.are_variables;
      instances = of.instances;
      listed = of.listed;
      rules = made_rules program of;
      objective = of.objective;
      smaller = (map (place_in symbols) parts.smaller, of.are_smaller, is.smaller);
      larger = (map (place_in symbols) parts.larger, of.are_larger, is.larger);
      shown_atoms = of.atom_flags;
      shown_variables = of.variable_flags;
    }

    pub canonical : (ground : GroundProgram) → parts_of ground ≡ whole → (program : ReadProgram) → ArePartsOf symbols program parts → IsCanonical program (view_of ground)
    canonical ground e program of = subst (λ p. IsCanonical program (view_parts p)) (sym e) (canonical_parts program of)

    pub ends_of : (ground : GroundProgram) → parts_of ground ≡ whole → ground.ends ≡ parts.ends
    ends_of ground e = ap (λ p. p.ends) e

-- what the check of parts says
pub passed : {X : Type 0} (found : Option X) (x : X) (test : Bool) → found ≡ Some x → IsSome found ↔ IsTrue test → test ≡ true
passed found x test e h = h.0 (ap is_some e)

pub failed : {X : Type 0} (found : Option X) (test : Bool) → found ≡ None → IsSome found ↔ IsTrue test → test ≡ false
failed found true e h = absurd (true≢false (sym (h.1 refl) ∙ ap is_some e))
failed found false e h = refl

pub same_of : {X : Type 0} (found : Option X) (x : X) (P : X → Type 0) → found ≡ Some x → IfSome found P → P x
same_of found x P e h = subst (λ o. IfSome o P) e h
