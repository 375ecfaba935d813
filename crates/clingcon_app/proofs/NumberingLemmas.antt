-- What numbering gives: ids in the order of their symbols differ, and each id that occurs has a number that reads as its symbol.
use Rattle.std.proofs.Common.{◌≡◌, ◌↔◌, ℕ, zero, suc, ◌+◌, ◌-◌, ◌^◌, ◌<◌, ◌≤◌, length, List, [], ◌∷◌, map, All, Contains, refl, sym, ◌∙◌, ap, subst, arith, pos}
use Rattle.std.specs.Prelude.{slice_index, slice_index_or}
use Rattle.std.specs.List.{AllByRecursion}
use Rattle.std.specs.List.Sorted.{IsStrictlySortedBy}
use Rattle.std.specs.declared.cmp.Ordering.TheVariants.{Less, Equal}
use Rattle.std.proofs.lemmas.Cmp.{tied_itself}
use Rattle.std.proofs.lemmas.Bool.Decides.{nat_tests}
use Rattle.std.proofs.lemmas.List.Elements.{All-from_recursion}
use Rattle.symbols.specs.Symbol.{Symbol, Number}
use Rattle.symbols.specs.Order.{symbol_cmp}
use Rattle.symbols.specs.Table.{symbol_at}
use Rattle.symbols.proofs.OrderLemmas.{symbol_cmp_total}
use Rattle.first_form.specs.declared.statement.DefiniteStatement.{DefiniteStatement}
use Rattle.first_form.specs.Form.{HaveKnown}
use Rattle.ground_model.specs.declared.rule.GroundRule.{GroundRule}
use Rattle.ground_model.specs.Members.{IsMember, IsListOf}
use Rattle.clingcon_app.specs.Numbering.{ids_of, AreDifferent, IsNumbered, IsNumbering, numbered_rule, HasNumber, AreNumbered}
use Rattle.clingcon_app.proofs.ListLemmas.{IsApartList, all_append, all_from_members, member_from_all, place_of, members_from, places_differ, length-apart}

-- the ids of statements are of the table
pub known_ids : (symbols : List Symbol) (statements : List DefiniteStatement) → HaveKnown symbols statements
    → AllByRecursion (λ id. id < length symbols) (ids_of statements)
known_ids symbols [] known = tt
known_ids symbols (statement ∷ rest) known =
    all_append (λ id. id < length symbols) (statement.head ∷ statement.body) (ids_of rest) known.0 (known_ids symbols rest known.1)

-- so are those of each statement
numbered_one : (n : ℕ) (statement : DefiniteStatement) → (statement.head < n) × AllByRecursion (λ id. id < n) statement.body → IsNumbered n statement
numbered_one n statement known = (known.0, All-from_recursion (λ id. id < n) statement.body known.1)

numbered_each : (n : ℕ) (statements : List DefiniteStatement)
    → AllByRecursion (λ statement. (statement.head < n) × AllByRecursion (λ id. id < n) statement.body) statements
    → AllByRecursion (IsNumbered n) statements
numbered_each n [] known = tt
numbered_each n (statement ∷ rest) known = (numbered_one n statement known.0, numbered_each n rest known.1)

pub numbered_all : (symbols : List Symbol) (n : ℕ) (statements : List DefiniteStatement) → n ≡ length symbols → HaveKnown symbols statements
    → All (IsNumbered n) statements
numbered_all symbols n statements is known =
    All-from_recursion (IsNumbered n) statements
    (subst (λ (m : ℕ). AllByRecursion (IsNumbered m) statements) (sym is) (numbered_each (length symbols) statements known))

-- an id whose symbol is below those of others is none of them
apart_from : (symbols : List Symbol) (id : ℕ) (ids : List ℕ) → AllByRecursion (λ s. symbol_cmp (symbol_at symbols id) s ≡ Less) (map (symbol_at symbols) ids)
    → AllByRecursion (λ other. id ≡ other → ⊥) ids
apart_from symbols id [] less = tt
apart_from symbols id (other ∷ ids) less = (
  (λ same. let less_itself : symbol_cmp (symbol_at symbols id) (symbol_at symbols id) ≡ Less =
      subst (λ (o : ℕ). symbol_cmp (symbol_at symbols id) (symbol_at symbols o) ≡ Less) (sym same) less.0 in
      let equal : symbol_cmp (symbol_at symbols id) (symbol_at symbols id) ≡ Equal = tied_itself symbol_cmp_total (symbol_at symbols id) in
      cc),
  apart_from symbols id ids less.1,
)

-- ids whose symbols ascend differ
pub apart_ids : (symbols : List Symbol) (ids : List ℕ) → IsStrictlySortedBy symbol_cmp (map (symbol_at symbols) ids) → IsApartList ids
unfolding IsStrictlySortedBy
apart_ids symbols [] ascend = tt
apart_ids symbols (id ∷ ids) ascend = (apart_from symbols id ids ascend.0, apart_ids symbols ids ascend.1)

pub different_ids : (symbols : List Symbol) (ids : List ℕ) → IsStrictlySortedBy symbol_cmp (map (symbol_at symbols) ids) → AreDifferent ids
different_ids symbols ids ascend = places_differ ids (apart_ids symbols ids ascend)

-- members of the ids of statements are of the table
pub known_atoms : (symbols : List Symbol) (statements : List DefiniteStatement) (occurring atoms : List ℕ) → HaveKnown symbols statements
    → occurring ≡ ids_of statements → ((id : ℕ) → Contains atoms id ↔ Contains occurring id)
    → AllByRecursion (λ id. id < length symbols) atoms
known_atoms symbols statements occurring atoms known is same =
    let all : AllByRecursion (λ id. id < length symbols) occurring =
    subst (λ (ids : List ℕ). AllByRecursion (λ id. id < length symbols) ids) (sym is) (known_ids symbols statements known) in
    all_from_members (λ id. id < length symbols) atoms
    (λ id member. member_from_all (λ id. id < length symbols) occurring all id ((members_from atoms occurring same id).0 member))

-- the symbol at a place of the atoms
named_place : (symbols : List Symbol) (atoms : List ℕ) (k d : ℕ) → k < length atoms
    → slice_index_or (map (symbol_at symbols) atoms) k (Number (pos 0)) ≡ symbol_at symbols (slice_index_or atoms k d)
named_place symbols [] k d below = absurd (omega arith)
named_place symbols (atom ∷ atoms) zero d below = refl
named_place symbols (atom ∷ atoms) (suc k) d below = named_place symbols atoms k d (omega arith)

-- an index with a default is an index
index_any : (xs : List ℕ) (k d : ℕ) → k < length xs → slice_index_or xs k d ≡ slice_index xs k
index_any [] k d below = absurd (omega arith)
index_any (x ∷ xs) zero d below = refl
index_any (x ∷ xs) (suc k) d below = index_any xs k d (omega arith)

has_number_at : (symbols : List Symbol) (atoms numbers : List ℕ) (id k : ℕ) → IsNumbering atoms numbers → k < length atoms
    → slice_index_or atoms k id ≡ id → HasNumber symbols atoms numbers id
has_number_at symbols atoms numbers id k numbering below at =
    let here : slice_index atoms k ≡ id = sym (index_any atoms k id below) ∙ at in
    let number : slice_index numbers id ≡ k + 1 = subst (λ (a : ℕ). slice_index numbers a ≡ k + 1) here (numbering k below) in
    let back : k + 1 - 1 ≡ k = omega arith in
    record {
      is = rw number (grind (arith, nat_tests));
      reads = rw (number, back) (named_place symbols atoms k id below ∙ ap (symbol_at symbols) at);
    }

pub has_numbers : (symbols : List Symbol) (atoms numbers ids : List ℕ) → IsNumbering atoms numbers → IsListOf (IsMember ids) atoms
    → AllByRecursion (HasNumber symbols atoms numbers) ids
has_numbers symbols atoms numbers ids numbering members =
    all_from_members (HasNumber symbols atoms numbers) ids
    (λ id member. let k = place_of atoms id ((members id).1 member) in
    has_number_at symbols atoms numbers id k.0 numbering k.1 k.2)

pub few_atoms : (symbols : List Symbol) (atoms : List ℕ) → length symbols < 2 ^ 32 → IsStrictlySortedBy symbol_cmp (map (symbol_at symbols) atoms)
    → AllByRecursion (λ id. id < length symbols) atoms → length atoms < 2 ^ 32
few_atoms symbols atoms few ascend known =
    let most : length atoms ≤ length symbols = length-apart (length symbols) atoms (apart_ids symbols atoms ascend) known in
    omega arith

-- the steps of numbering, put together
pub are_numbered : (symbols : List Symbol) (statements : List DefiniteStatement) (occurring atoms numbers : List ℕ) (rules : List GroundRule)
    → HaveKnown symbols statements → length symbols < 2 ^ 32 → occurring ≡ ids_of statements
    → IsStrictlySortedBy symbol_cmp (map (symbol_at symbols) atoms) → ((id : ℕ) → Contains atoms id ↔ Contains occurring id)
    → IsNumbering atoms numbers → rules ≡ map (numbered_rule numbers) statements → AreNumbered symbols statements atoms rules
are_numbered symbols statements occurring atoms numbers rules known few is ascend same numbering made =
    let inside = known_atoms symbols statements occurring atoms known is same in
    let members : IsListOf (IsMember (ids_of statements)) atoms =
    subst (λ (ids : List ℕ). IsListOf (IsMember ids) atoms) is (members_from atoms occurring same) in
    record {
      ascend = ascend;
      known = inside;
      few = few_atoms symbols atoms few ascend inside;
      members = members;
      numbers = numbers;
      numbered = has_numbers symbols atoms numbers (ids_of statements) numbering members;
      made = made;
    }

-- the same as the calls of `numbering` need it, of lists that are lent
pub lent_known : (symbols : List Symbol) (statements : List DefiniteStatement) (lent occurring : List ℕ) → HaveKnown symbols statements
    → lent ≡ occurring → occurring ≡ ids_of statements → All (λ id. id < length symbols) lent
lent_known symbols statements lent occurring known is made =
    All-from_recursion (λ id. id < length symbols) lent
    (subst (λ (ids : List ℕ). AllByRecursion (λ id. id < length symbols) ids) (sym (is ∙ made)) (known_ids symbols statements known))

pub lent_atoms : (symbols : List Symbol) (statements : List DefiniteStatement) (lent_occurring occurring lent atoms : List ℕ) (n : ℕ)
    → HaveKnown symbols statements → lent_occurring ≡ occurring → occurring ≡ ids_of statements
    → ((id : ℕ) → Contains atoms id ↔ Contains lent_occurring id) → lent ≡ atoms → n ≡ length symbols → All (λ id. id < n) lent
lent_atoms symbols statements lent_occurring occurring lent atoms n known is made same lent_is n_is =
    All-from_recursion (λ id. id < n) lent
    (subst (λ (m : ℕ). AllByRecursion (λ id. id < m) lent) (sym n_is)
    (subst (λ (ids : List ℕ). AllByRecursion (λ id. id < length symbols) ids) (sym lent_is)
    (known_atoms symbols statements lent_occurring atoms known (is ∙ made) same)))

pub lent_different : (symbols : List Symbol) (lent atoms : List ℕ) → lent ≡ atoms → IsStrictlySortedBy symbol_cmp (map (symbol_at symbols) atoms)
    → AreDifferent lent
lent_different symbols lent atoms is ascend = subst AreDifferent (sym is) (different_ids symbols atoms ascend)

pub lent_few : (symbols : List Symbol) (statements : List DefiniteStatement) (lent_occurring occurring lent atoms : List ℕ) (n : ℕ)
    → HaveKnown symbols statements → lent_occurring ≡ occurring → occurring ≡ ids_of statements
    → ((id : ℕ) → Contains atoms id ↔ Contains lent_occurring id) → lent ≡ atoms → n ≡ length symbols → n < 2 ^ 32
    → IsStrictlySortedBy symbol_cmp (map (symbol_at symbols) atoms) → length lent < 2 ^ 32
lent_few symbols statements lent_occurring occurring lent atoms n known is made same lent_is n_is few ascend =
    let some : length symbols < 2 ^ 32 = subst (λ (m : ℕ). m < 2 ^ 32) n_is few in
    subst (λ (ids : List ℕ). length ids < 2 ^ 32) (sym lent_is)
    (few_atoms symbols atoms some ascend (known_atoms symbols statements lent_occurring atoms known (is ∙ made) same))
