-- Tallies and bounds of choices go into the table.
use Rattle.std.proofs.Common.{◌≡◌, ℕ, true, List, [], ◌∷◌, ◌++◌, map, flat_map, fold, refl, sym, ◌∙◌, ap, subst, ℤ, pos, Option, None, Some, option_to_list, append-nil, append_assoc, inl, inr}
use Rattle.std.specs.List.{AllByRecursion}
use Rattle.std.proofs.lemmas.List.{map-append}
use Rattle.symbols.specs.declared.rel.Rel.{Rel}
use Rattle.literals.specs.declared.lit.Lit.TheVariants as l
use Rattle.ground_model.specs.declared.rule.Bound.{Bound}
use Rattle.ground_model.specs.Members.{IsMember}
use Rattle.linear_normal.specs.declared.constraint.Item.{Item}
use Rattle.linear_normal.specs.declared.constraint.Item.TheVariants.{Truth}
use Rattle.linear_normal.specs.declared.constraint.Constraint.{Constraint}
use Rattle.linear_normal.specs.declared.constraint.Constraint.TheVariants.{Tally}
use Rattle.linear_normal.specs.declared.numbered.Duty.{Duty}
use Rattle.linear_normal.specs.Contents.{Counted, Content, SomeTrue}
use Rattle.linear_normal.specs.Demands.{bound_content, with_content, with_parts, number_of}
use Rattle.linear_normal.specs.Numbering.{item_of}
use Rattle.linear_normal.specs.inner.Tables.{Begins, IsBackedTerm, IsTable, Puts, Takes, TakesCompared, Gives, tally_terms, bound_demands, bound_duties, TakenBounds, TakesBounds}
use Rattle.linear_normal.proofs.ContentLemmas.{demanded}
use Rattle.linear_normal.proofs.TableLemmas.{begins_same, begins_then, begins_fold, items_later, backed_terms_later}
use Rattle.linear_normal.proofs.RelationLemmas.{plain_given}
use Rattle.linear_normal.proofs.GrowthLemmas.{fold_append, gives_as}

pub tally_given : (before after : List Constraint) (bodies copied : List ℕ) (n : ℕ) → copied ≡ bodies → Puts before (Tally copied) after n
    → Gives before after (SomeTrue bodies ∷ []) (λ later. Truth n (pos 1) ≡ item_of later (Counted bodies (pos 1)))
tally_given before after bodies copied n same put =
    gives_as before after (SomeTrue bodies ∷ []) (λ later. n ≡ number_of later (SomeTrue bodies)) (λ later. Truth n (pos 1) ≡ item_of later (Counted bodies (pos 1)))
    (plain_given before after (SomeTrue bodies) (Tally copied) n refl (λ contents. tt) (λ contents. ap Tally same) put) (λ later is. ap (λ m. Truth m (pos 1)) is)

pub tally_of_row : (before after : List Constraint) (bodies row : List ℕ) (item : Item) → bodies ≡ row → Gives before after (SomeTrue bodies ∷ []) (λ later. item ≡ item_of later (Counted bodies (pos 1)))
    → Gives before after (SomeTrue row ∷ []) (λ later. item ≡ item_of later (Counted row (pos 1)))
tally_of_row before after bodies row item same gives = subst (λ xs. Gives before after (SomeTrue xs ∷ []) (λ later. item ≡ item_of later (Counted xs (pos 1)))) same gives

pub singles : {V : Type 0} (f : V → List ℕ) (rows : List V) → flat_map (λ row. SomeTrue (f row) ∷ []) rows ≡ map SomeTrue (map f rows)
singles f [] = refl
singles f (row ∷ rows) = ap (λ contents. SomeTrue (f row) ∷ contents) (singles f rows)

pub row_items : {V : Type 0} (f : V → List ℕ) (later : List Content) (rows : List V) → map (λ row. item_of later (Counted (f row) (pos 1))) rows ≡ map (item_of later) (tally_terms (map f rows))
row_items f later [] = refl
row_items f later (row ∷ rows) = ap (λ items. item_of later (Counted (f row) (pos 1)) ∷ items) (row_items f later rows)

-- BOUNDS

pub compared_as : (before after : List Constraint) (items copied : List Item) (rel : Rel) (k m : ℤ) (n : ℕ) → copied ≡ items → m ≡ k → TakesCompared before copied rel m after n → TakesCompared before items rel k after n
compared_as before after items copied rel k m n same is takes =
    subst (λ z. TakesCompared before items rel z after n) is (subst (λ xs. TakesCompared before xs rel m after n) same takes)

pub some_bound : (before after : List Constraint) (items : List Item) (first n : ℕ) (option : Option Bound) (bound : Bound) (old new : List Duty) → option ≡ Some bound
    → TakesCompared before items bound.rel bound.value after n → new ≡ old ++ record { body = first; head = Some (l.Constraint n true) } ∷ [] → TakesBounds before items first (option_to_list option) after old new
some_bound before after items first n option bound old new e takes pushed contents selections table backed same =
    subst (λ (o : Option Bound). TakenBounds contents selections first (option_to_list o) after old new) (sym e) made
  where
    taken : Takes contents (bound_content selections bound) after n
    taken = takes contents (tally_terms selections) table backed same

    one : with_parts (bound_content selections bound) ++ [] ≡ with_parts (bound_content selections bound)
    one = append-nil (with_parts (bound_content selections bound))

    made : TakenBounds contents selections first (bound ∷ []) after old new
    made = record {
      table = subst (λ demands. IsTable (fold with_content contents demands) after) (sym one) taken.table;
      duties = λ later begins.
          pushed
          ∙ ap (λ (m : ℕ). old ++ record { body = first; head = Some (l.Constraint m true) } ∷ []) (taken.number later (subst (λ demands. Begins (fold with_content contents demands) later) one begins));
    }

pub no_bound : (before : List Constraint) (items : List Item) (first : ℕ) (option : Option Bound) (old : List Duty) → option ≡ None → TakesBounds before items first (option_to_list option) before old old
no_bound before items first option old e contents selections table backed same =
    subst (λ (o : Option Bound). TakenBounds contents selections first (option_to_list o) before old old) (sym e) (record {
      table = table;
      duties = λ later begins. sym (append-nil old);
    })

flat_append : {X Y : Type 0} (f : X → List Y) (xs ys : List X) → flat_map f (xs ++ ys) ≡ flat_map f xs ++ flat_map f ys
flat_append f [] ys = refl
flat_append f (x ∷ xs) ys = ap (λ zs. f x ++ zs) (flat_append f xs ys) ∙ sym (append_assoc (f x) (flat_map f xs) (flat_map f ys))

pub both_bounds : (before between after : List Constraint) (items : List Item) (first : ℕ) (left right : List Bound) (old mid new : List Duty)
    → TakesBounds before items first left between old mid → TakesBounds between items first right after mid new → TakesBounds before items first (left ++ right) after old new
both_bounds before between after items first left right old mid new takes_left takes_right contents selections table backed same = record {
  table = subst (λ xs. IsTable xs after) (sym split) taken_right.table;
  duties = λ later begins.
      let rest : Begins (fold with_content (fold with_content contents (bound_demands selections left)) (bound_demands selections right)) later = subst (λ xs. Begins xs later) split begins in
      taken_right.duties later rest
      ∙ ap (λ duties. duties ++ bound_duties later selections first right)
      (taken_left.duties later (begins_then (fold with_content contents (bound_demands selections left)) (fold with_content (fold with_content contents (bound_demands selections left)) (bound_demands selections right)) later
      (begins_fold (fold with_content contents (bound_demands selections left)) (bound_demands selections right)) rest))
      ∙ append_assoc old (bound_duties later selections first left) (bound_duties later selections first right)
      ∙ ap (λ duties. old ++ duties) (sym (map-append (λ (bound : Bound). record { body = first; head = Some (l.Constraint (number_of later (bound_content selections bound)) true) }) left right));
}
  where
    begun : Begins contents (fold with_content contents (bound_demands selections left))
    begun = begins_fold contents (bound_demands selections left)

    split : fold with_content contents (bound_demands selections (left ++ right)) ≡ fold with_content (fold with_content contents (bound_demands selections left)) (bound_demands selections right)
    split = ap (fold with_content contents) (flat_append (λ bound. with_parts (bound_content selections bound)) left right) ∙ fold_append contents (bound_demands selections left) (bound_demands selections right)

    taken_left : TakenBounds contents selections first left between old mid
    taken_left = takes_left contents selections table backed same

    taken_right : TakenBounds (fold with_content contents (bound_demands selections left)) selections first right after mid new
    taken_right =
        takes_right (fold with_content contents (bound_demands selections left)) selections (takes_left contents selections table backed same).table
        (backed_terms_later contents (fold with_content contents (bound_demands selections left)) (tally_terms selections) (begins_fold contents (bound_demands selections left)) backed)
        (same ∙ sym (items_later contents (fold with_content contents (bound_demands selections left)) (tally_terms selections) (begins_fold contents (bound_demands selections left)) backed))

tallies_there : (contents : List Content) (demands : List Content) (selections : List (List ℕ)) → ((content : Content) → IsMember (map SomeTrue selections) content → IsMember demands content)
    → AllByRecursion (IsBackedTerm (fold with_content contents demands)) (tally_terms selections)
tallies_there contents demands [] among = tt
tallies_there contents demands (bodies ∷ selections) among =
    (demanded contents demands (SomeTrue bodies) (among (SomeTrue bodies) (inl refl)), tallies_there contents demands selections (λ content m. among content (inr m)))

-- tallies, and then the bounds
pub bounds_given : (before between after : List Constraint) (items lent : List Item) (selections : List (List ℕ)) (first : ℕ) (bounds : List Bound) (old new : List Duty)
    → Gives before between (map SomeTrue selections) (λ later. items ≡ map (item_of later) (tally_terms selections)) → lent ≡ items → TakesBounds between lent first bounds after old new
    → Gives before after (map SomeTrue selections ++ bound_demands selections bounds) (λ later. new ≡ old ++ bound_duties later selections first bounds)
bounds_given before between after items lent selections first bounds old new tallies same takes = record {
  table = λ contents table. subst (λ xs. IsTable xs after) (sym (fold_append contents (map SomeTrue selections) (bound_demands selections bounds))) (taken contents table).table;
  holds = λ contents table later begins.
      (taken contents table).duties later (subst (λ xs. Begins xs later) (fold_append contents (map SomeTrue selections) (bound_demands selections bounds)) begins);
}
  where
    taken : (contents : List Content) → IsTable contents before → TakenBounds (fold with_content contents (map SomeTrue selections)) selections first bounds after old new
    taken contents table =
        subst (λ (xs : List Item). TakesBounds between xs first bounds after old new) same takes (fold with_content contents (map SomeTrue selections)) selections (tallies.table contents table) (tallies_there contents (map SomeTrue selections) selections (λ content m. m))
        (tallies.holds contents table (fold with_content contents (map SomeTrue selections)) (begins_same (fold with_content contents (map SomeTrue selections))))
