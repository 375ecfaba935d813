-- Sorted atoms, and the parts made from what was found.
use Rattle.std.proofs.Common.{◌≡◌, ◌<◌, ◌↔◌, ℕ, zero, suc, Bool, List, [], ◌∷◌, All, Contains, length, map, sym, ◌∙◌, ap, subst, arith}
use Rattle.std.specs.List.{AllByRecursion, AllZip, flat_map}
use Rattle.std.specs.List.Sorted.{IsStrictlySortedBy}
use Rattle.std.specs.declared.cmp.Ordering.{Ordering}
use Rattle.symbols.specs.Symbol.{Symbol}
use Rattle.symbols.specs.Order.{symbol_cmp}
use Rattle.symbols.specs.Table.{symbol_at}
use Rattle.syntax_tree.specs.declared.literal.TheoryName.TheVariants as name
use Rattle.syntax_tree.specs.declared.statement.Program.{Program}
use Rattle.syntax_tree.specs.declared.statement.Statement.{Statement}
use Rattle.rewriting.specs.declared.program.RewrittenProgram.{RewrittenProgram}
use Rattle.rewriting.specs.Rewriting.{IsRewriting}
use Rattle.ground_model.specs.Members.{IsMember, IsListOf}
use Rattle.ground_model.proofs.MemberLemmas.{property_member, property_from_members, member_map, map_member, member_contains, contains_member}
use Rattle.program_meaning.specs.declared.collected.CollectedPlace.{CollectedPlace}
use Rattle.program_meaning.specs.Read.{ReadRule, rules_read, show_read}
use Rattle.program_meaning.specs.Ascending.{Ascends, IsOrderedListOf}
use Rattle.program_meaning.specs.Instance.{IsPossible}
use Rattle.program_meaning.specs.Theory.{place_cmp}
use Rattle.program_meaning.specs.Said.{place_in}
use Rattle.program_meaning.specs.Canonical.{IsVariable, IsDirected, has_directive, has_objective, shows_atom, IsShownFlag}
use Rattle.program_meaning.specs.Outside.{IsSomehowOutside}
use Rattle.safety_meaning.specs.Program.{program_of, rules_of}
use Rattle.symbol_rules.specs.Reading.{rule_in}
use Rattle.directed_tuples.specs.Tuples.{AreTuplesOf, HaveTuples}
use Rattle.numbered_program.specs.declared.parts.ProgramParts.{ProgramParts}
use Rattle.numbered_program.specs.declared.parts.ProgramStop.{ProgramStop}
use Rattle.numbered_program.specs.declared.parts.ProgramStop.TheVariants as stop
use Rattle.numbered_program.specs.Parts.{ArePartsOf, AreGrounded, IsProgramStop}
use Rattle.program_parts.specs.declared.grounding.Grounding.{Grounding}
use Rattle.program_parts.specs.Grounding.{IsGroundingOf, IsGroundingWithin, IsWholeStop}
use Rattle.program_parts.proofs.PartLemmas.{same_length, same_rules, same_shows}

-- ---- sorted ids

pub all_by_index : {X : Type 0} (P : X → Type 0) (xs : List X) → AllByRecursion P xs → All P xs
all_by_index P [] a = λ k d l. absurd (omega (arith, l))
all_by_index P (x ∷ xs) a = go (all_by_index P xs a.1)
  where
    go : All P xs → All P (x ∷ xs)
    go rec zero d l = a.0
    go rec (suc k) d l = rec k d (omega (arith, l))

pub ascends_from : {X : Type 0} (order : X → X → Ordering) (xs : List X) → IsStrictlySortedBy order xs → Ascends order xs
unfolding IsStrictlySortedBy
ascends_from order [] s = tt
ascends_from order (x ∷ xs) s = (s.0, ascends_from order xs s.1)

pub sorted_known : (size : ℕ) (ids sorted : List ℕ) → AllByRecursion (λ id. id < size) ids → ((id : ℕ) → Contains sorted id ↔ Contains ids id)
    → AllByRecursion (λ id. id < size) sorted
sorted_known size ids sorted known same =
    property_from_members (λ id. id < size) sorted
    (λ id m. property_member (λ id. id < size) ids id known (contains_member ids id ((same id).0 (member_contains sorted id m))))

pub sorted_listed : (symbols : List Symbol) (P : Symbol → Type 0) (ids sorted : List ℕ) → IsListOf P (map (symbol_at symbols) ids)
    → IsStrictlySortedBy symbol_cmp (map (symbol_at symbols) sorted) → ((id : ℕ) → Contains sorted id ↔ Contains ids id)
    → IsOrderedListOf symbol_cmp P (map (symbol_at symbols) sorted)
sorted_listed symbols P ids sorted all ascend same = record {
  ascend = ascends_from symbol_cmp (map (symbol_at symbols) sorted) ascend;
  all = λ a. (to a, from a);
}
  where
    to : (a : Symbol) → IsMember (map (symbol_at symbols) sorted) a → P a
    to a m =
        let r = map_member (symbol_at symbols) sorted a m in
        let there = contains_member ids r.0 ((same r.0).0 (member_contains sorted r.0 r.1)) in
        subst P (sym r.2) ((all (symbol_at symbols r.0)).0 (member_map (symbol_at symbols) ids r.0 there))

    from : (a : Symbol) → P a → IsMember (map (symbol_at symbols) sorted) a
    from a p =
        let r = map_member (symbol_at symbols) ids a ((all a).1 p) in
        let there = contains_member sorted r.0 ((same r.0).1 (member_contains ids r.0 r.1)) in
        subst (IsMember (map (symbol_at symbols) sorted)) (sym r.2) (member_map (symbol_at symbols) sorted r.0 there)

-- ---- parts

module _ (symbols : List Symbol) (program : RewrittenProgram) (found : Grounding) (parts : ProgramParts)
    (are : (old : Program) → IsRewriting old program → IsGroundingOf symbols (rules_of old.statements) found → ArePartsOf symbols (program_of old.statements) parts) where
  pub grounded_parts : parts.ends ≡ found.ends → IsGroundingWithin symbols program found → AreGrounded symbols parts
  grounded_parts e (old, limit, rewriting, g) = (
    program_of old.statements,
    limit,
    record {
      few = g.few;
      count = g.count;
      inside = λ key o. g.inside key (subst (λ ends. IsSomehowOutside (rules_of old.statements) ends key) e o);
      variables = g.variables;
      are = are old rewriting g.are;
    },
  )

  pub stop_of : (cause : ProgramStop) → IsProgramStop symbols parts cause → IsWholeStop symbols program found cause
  stop_of stop.LargeObjective h = λ old rewriting is. h (program_of old.statements) (are old rewriting is)
  stop_of stop.Memory h = tt

-- what was made for the rewritten statements are the parts of the program as it was written
pub are_parts : (symbols : List Symbol) (program : RewrittenProgram) (found : Grounding) (parts : ProgramParts) (shown : List CollectedPlace) (shows : Bool)
    (statements : List Statement) (ids atoms variables : List ℕ) (places : List CollectedPlace)
    → statements ≡ program.program.statements → ids ≡ found.atoms → atoms ≡ parts.atoms → variables ≡ found.variables → places ≡ shown
    → parts.variables ≡ found.variables → parts.rules ≡ found.rules
    → IsStrictlySortedBy symbol_cmp (map (symbol_at symbols) parts.atoms) → ((id : ℕ) → Contains parts.atoms id ↔ Contains ids id)
    → ((orders : List (List ℕ)) → length orders ≡ length statements → parts.has_objective ≡ has_objective (rules_read statements orders))
    → ((orders : List (List ℕ)) → length orders ≡ length statements → shows ≡ has_directive (rules_read statements orders) name.Show)
    → ((rules : List ReadRule) → HaveTuples rules symbols found.directives → IsOrderedListOf place_cmp (IsDirected rules name.Minimize) (map (place_in symbols) parts.smaller))
    → ((rules : List ReadRule) → HaveTuples rules symbols found.directives → IsOrderedListOf place_cmp (IsDirected rules name.Maximize) (map (place_in symbols) parts.larger))
    → ((rules : List ReadRule) → HaveTuples rules symbols found.directives → IsOrderedListOf place_cmp (IsDirected rules name.Show) (map (place_in symbols) shown))
    → parts.shown_atoms ≡ map (shows_atom (flat_map show_read statements)) (map (symbol_at symbols) atoms)
    → ((rules : List ReadRule) → has_directive rules name.Show ≡ shows → AreTuplesOf rules symbols name.Show places
    → AllZip (IsShownFlag rules) (map (symbol_at symbols) variables) parts.shown_variables)
    → (old : Program) → IsRewriting old program → IsGroundingOf symbols (rules_of old.statements) found → ArePartsOf symbols (program_of old.statements) parts
are_parts symbols program found parts shown shows statements ids atoms variables places s i a v t e f ascend same aims shown_is smaller larger tuples atom_flags variable_flags old rewriting of =
    let lengths = same_length program old rewriting ∙ ap length (sym s) in
    let rules = ap (λ all. rules_read all program.orders) s ∙ same_rules program old rewriting in record {
      are_atoms = sorted_listed symbols (IsPossible (rules_of old.statements)) ids parts.atoms
          (subst (λ all. IsListOf (IsPossible (rules_of old.statements)) (map (symbol_at symbols) all)) (sym i) of.atoms) ascend same;
      are_variables = subst (λ all. IsOrderedListOf symbol_cmp (IsVariable (rules_of old.statements)) (map (symbol_at symbols) all)) (sym e) of.variables;
      instances = of.instances;
      listed = of.listed;
      are_rules = ap (map (rule_in symbols)) f ∙ of.are_rules;
      objective = aims program.orders lengths ∙ ap has_objective rules;
      are_smaller = smaller (rules_of old.statements) of.tuples;
      are_larger = larger (rules_of old.statements) of.tuples;
      atom_flags = atom_flags ∙ (λ k. map (shows_atom ((ap (flat_map show_read) s ∙ same_shows program old rewriting) k)) (map (symbol_at symbols) (a k)));
      variable_flags = subst (λ all. AllZip (IsShownFlag (rules_of old.statements)) (map (symbol_at symbols) all) parts.shown_variables) (v ∙ sym e)
          (variable_flags (rules_of old.statements) (ap (λ all. has_directive all name.Show) (sym rules) ∙ sym (shown_is program.orders lengths))
          (subst (AreTuplesOf (rules_of old.statements) symbols name.Show) (sym t) (tuples (rules_of old.statements) of.tuples).all));
    }
