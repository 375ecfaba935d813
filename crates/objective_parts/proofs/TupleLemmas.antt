-- The tuples of directives, one directive more, and what holds of each.
use Rattle.std.proofs.Common.{◌≡◌, ℕ, Bool, true, false, if◌then◌else◌, List, [], ◌∷◌, ◌++◌, map, append_assoc, refl, sym, ◌∙◌, ap, subst}
use Rattle.std.specs.List.{AllByRecursion}
use Rattle.symbols.specs.Symbol.{Symbol}
use Rattle.syntax_tree.specs.declared.literal.TheoryName.{TheoryName}
use Rattle.ground_model.specs.Members.{IsMember, IsListOf}
use Rattle.ground_model.proofs.MemberLemmas.{property_member, property_from_members}
use Rattle.program_meaning.specs.Read.{ReadRule}
use Rattle.program_meaning.specs.Ascending.{IsOrderedListOf}
use Rattle.program_meaning.specs.Canonical.{has_name, IsDirected}
use Rattle.program_meaning.specs.Said.{place_in}
use Rattle.program_meaning.specs.Theory.{place_cmp}
use Rattle.program_meaning.specs.declared.collected.CollectedPlace.{CollectedPlace}
use Rattle.program_meaning.proofs.Lists.{all_append}
use Rattle.symbol_rules.specs.Reading.{HasPlace}
use Rattle.directed_tuples.specs.declared.directive.Directive.{Directive}
use Rattle.directed_tuples.specs.Tuples.{places_of, tuples_of, AreTuplesOf, AreKnownTuples}

pub append_none : {X : Type 0} (xs : List X) → xs ++ [] ≡ xs
append_none [] = refl
append_none (x ∷ xs) = ap (λ z. x ∷ z) (append_none xs)

pub tuples_none : (name : TheoryName) → tuples_of name [] ≡ []
tuples_none name = refl

pub tuples_more : (name : TheoryName) (directives : List Directive) (one : Directive)
    → tuples_of name (directives ++ one ∷ []) ≡ tuples_of name directives ++ places_of name one
tuples_more name [] one = append_none (places_of name one)
tuples_more name (other ∷ directives) one =
    ap (λ z. places_of name other ++ z) (tuples_more name directives one) ∙ sym (append_assoc (places_of name other) (tuples_of name directives) (places_of name one))

one_known : (size : ℕ) (name : TheoryName) (one : Directive) → AllByRecursion (HasPlace size) one.places → AllByRecursion (HasPlace size) (places_of name one)
one_known size name one known = go (has_name name one.name)
  where
    go : (t : Bool) → AllByRecursion (HasPlace size) (if t then one.places else [])
    go true = known
    go false = tt

tuples_known : (size : ℕ) (name : TheoryName) (directives : List Directive) → AreKnownTuples size directives → AllByRecursion (HasPlace size) (tuples_of name directives)
tuples_known size name [] known = tt
tuples_known size name (one ∷ directives) known =
    all_append (HasPlace size) (places_of name one) (tuples_of name directives) (one_known size name one known.0) (tuples_known size name directives known.1)

-- the ids of tuples among those of directives are known
pub set_known : (size : ℕ) (name : TheoryName) (directives : List Directive) (all set : List CollectedPlace) → all ≡ tuples_of name directives → AreKnownTuples size directives
    → ((place : CollectedPlace) → IsMember set place → IsMember all place) → AllByRecursion (HasPlace size) set
set_known size name directives all set is known among =
    property_from_members (HasPlace size) set
    (λ place m. property_member (HasPlace size) (tuples_of name directives) place (tuples_known size name directives known) (subst (λ xs. IsMember xs place) is (among place m)))

-- the set of all tuples of a name is the program's
pub set_of_all : (symbols : List Symbol) (name : TheoryName) (directives : List Directive) (all set : List CollectedPlace) → all ≡ tuples_of name directives
    → IsOrderedListOf place_cmp (IsMember (map (place_in symbols) all)) (map (place_in symbols) set)
    → (rules : List ReadRule) → AreTuplesOf rules symbols name (tuples_of name directives)
    → IsOrderedListOf place_cmp (IsDirected rules name) (map (place_in symbols) set)
set_of_all symbols name directives all set is ordered rules of = record {
  ascend = ordered.ascend;
  all = λ place.
      let same = subst (λ xs. IsListOf (IsDirected rules name) (map (place_in symbols) xs)) (sym is) of in
      (λ m. (same place).0 ((ordered.all place).0 m), λ d. (ordered.all place).1 ((same place).1 d));
}
