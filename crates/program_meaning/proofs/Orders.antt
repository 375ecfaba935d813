-- The orders of instances, tuples and literals go one way.
use Rattle.std.proofs.Common.{◌≡◌, true, false, [], ◌∷◌, refl, ◌∙◌}
use Rattle.std.specs.Ordering.{nat_cmp, int_cmp, ordering_then, ordering_reverse}
use Rattle.std.specs.declared.cmp.Ordering.{Ordering}
use Rattle.std.specs.declared.cmp.Ordering.TheVariants.{Less, Equal, Greater}
use Rattle.std.specs.Cmp.{then_flip}
use Rattle.std.specs.Cmp.Lexicographic.{slice_cmp}
use Rattle.std.proofs.lemmas.Cmp.{nat_cmp_total, int_cmp_total}
use Rattle.symbols.specs.Order.{symbol_cmp}
use Rattle.symbols.proofs.OrderLemmas.{symbol_cmp_total}
use Rattle.ground_model.specs.Rule.{AtomLit, RelationLit}
use Rattle.program_meaning.specs.Substitution.{SymbolValue, OverValue, value_cmp, key_cmp}
use Rattle.program_meaning.specs.Theory.{pair_cmp, place_cmp}
use Rattle.program_meaning.specs.Ground.{sign_cmp, lit_cmp}

-- the order read from the other side
abbrev pub Turns : {X : Type 0} → (X → X → Ordering) → Type 0
Turns {X} order = (x y : X) → order x y ≡ ordering_reverse (order y x)

then_turns : (a b c d : Ordering) → a ≡ ordering_reverse b → c ≡ ordering_reverse d → ordering_then a c ≡ ordering_reverse (ordering_then b d)
then_turns a b c d p q = (λ i. ordering_then (p i) (q i)) ∙ then_flip b d

lists_turn : {X : Type 0} (order : X → X → Ordering) → Turns order → Turns (slice_cmp order)
lists_turn order turns [] [] = refl
lists_turn order turns [] (y ∷ ys) = refl
lists_turn order turns (x ∷ xs) [] = refl
lists_turn order turns (x ∷ xs) (y ∷ ys) =
    then_turns (order x y) (order y x) (slice_cmp order xs ys) (slice_cmp order ys xs) (turns x y) (lists_turn order turns xs ys)

pub symbols_turn : Turns symbol_cmp
symbols_turn = symbol_cmp_total.antisymm

values_turn : Turns value_cmp
values_turn (SymbolValue a) (SymbolValue b) = symbols_turn a b
values_turn (SymbolValue a) OverValue = refl
values_turn OverValue (SymbolValue b) = refl
values_turn OverValue OverValue = refl

pub keys_turn : Turns key_cmp
keys_turn k l =
    then_turns (nat_cmp k.place l.place) (nat_cmp l.place k.place) (slice_cmp value_cmp k.values l.values) (slice_cmp value_cmp l.values k.values)
    (nat_cmp_total.antisymm k.place l.place) (lists_turn value_cmp values_turn k.values l.values)

pairs_turn : Turns pair_cmp
pairs_turn a b =
    then_turns (symbol_cmp a.0 b.0) (symbol_cmp b.0 a.0) (int_cmp a.1 b.1) (int_cmp b.1 a.1) (symbols_turn a.0 b.0) (int_cmp_total.antisymm a.1 b.1)

pub places_turn : Turns place_cmp
places_turn a b =
    then_turns (slice_cmp pair_cmp a.linear.pairs b.linear.pairs) (slice_cmp pair_cmp b.linear.pairs a.linear.pairs) _ _ (lists_turn pair_cmp pairs_turn a.linear.pairs b.linear.pairs)
    (then_turns (int_cmp a.linear.constant b.linear.constant) (int_cmp b.linear.constant a.linear.constant) _ _ (int_cmp_total.antisymm a.linear.constant b.linear.constant)
    (then_turns (int_cmp a.duration b.duration) (int_cmp b.duration a.duration) (slice_cmp symbol_cmp a.rest b.rest) (slice_cmp symbol_cmp b.rest a.rest)
    (int_cmp_total.antisymm a.duration b.duration) (lists_turn symbol_cmp symbols_turn a.rest b.rest)))

signs_turn : Turns sign_cmp
signs_turn true true = refl
signs_turn true false = refl
signs_turn false true = refl
signs_turn false false = refl

pub lits_turn : Turns lit_cmp
lits_turn (AtomLit a sign) (AtomLit b facing) =
    then_turns (symbol_cmp a b) (symbol_cmp b a) (sign_cmp sign facing) (sign_cmp facing sign) (symbols_turn a b) (signs_turn sign facing)
lits_turn (AtomLit a sign) (RelationLit relation facing) = refl
lits_turn (RelationLit relation sign) (AtomLit b facing) = refl
lits_turn (RelationLit relation sign) (RelationLit other facing) = refl

-- two things are not each less than the other
pub one_way : {X : Type 0} (order : X → X → Ordering) → Turns order → (x y : X) → order x y ≡ Less → order y x ≡ Less → ⊥
one_way order turns x y p q = apart (order x y) (order y x) (turns x y) p q
  where
    apart : (a b : Ordering) → a ≡ ordering_reverse b → a ≡ Less → b ≡ Less → ⊥
    apart a Less e p q = cc
    apart a Equal e p q = cc
    apart a Greater e p q = cc
