-- Elements of ground choices, as they are made and as the table grows.
use Rattle.std.proofs.Common.{◌≡◌, ◌<◌, ◌+◌, ◌++◌, ℕ, List, [], ◌∷◌, map, length, take, slice_index_or, Some, slice_get, refl, sym, ap, ◌∙◌, subst}
use Rattle.std.specs.List.{AllByRecursion, AllZip}
use Rattle.symbols.specs.Symbol.{Symbol}
use Rattle.symbols.specs.Table.{IsFront}
use Rattle.symbols.proofs.TableLemmas.{symbol_at-front}
use Rattle.syntax_tree.specs.declared.binding.Value.{Value as HeldValue}
use Rattle.syntax_tree.specs.Outcome.{IsKnown}
use Rattle.syntax_tree.proofs.Holding.{longer}
use Rattle.ground_model.specs.Rule.{ItemOf}
use Rattle.program_meaning.specs.Read.{ReadChoice, ReadRule}
use Rattle.program_meaning.specs.Count.{choices_in}
use Rattle.program_meaning.specs.Instance.{IsChoiceInstance}
use Rattle.program_meaning.specs.Outside.{is_choice_over}
use Rattle.program_meaning.specs.Said.{value_in}
use Rattle.program_meaning.specs.Substitution.{Value}
use Rattle.row_bindings.proofs.HeldLemmas.{values-front, values_known-front}
use Rattle.instance_search.specs.declared.found.Row.{Row}
use Rattle.instance_search.specs.Found.{row_in, rows_in, IsKnownRow}
use Rattle.symbol_rules.specs.declared.rule.SymbolItem.{SymbolItem}
use Rattle.symbol_rules.specs.Reading.{item_in, HasItem}
use Rattle.instance_bodies.proofs.AddLemmas.{literals-front, literals_known-front}
use Rattle.count_laws.specs.Keys.{keys_at, keys_from}
use Rattle.choice_instances.specs.inner.Items.{IsInside, IsItemAt, IsItemOf}
use Rattle.choice_instances.proofs.ListLemmas.{zip_append, map_append, map_more, keys_more}

-- AS THE TABLE GROWS

pub items-front : (old new : List Symbol) (items : List SymbolItem) → IsFront old new → AllByRecursion (HasItem (length old)) items → map (item_in new) items ≡ map (item_in old) items
items-front old new [] front k = refl
items-front old new (one ∷ items) front k =
    let atom = symbol_at-front old new one.atom front k.0.atom in
    let condition = literals-front old new one.condition front k.0.condition in
    let rest = items-front old new items front k.1 in
    (λ i. record { atom = atom i; condition = condition i } ∷ rest i)

pub items_known-front : (old new : List Symbol) (items : List SymbolItem) → IsFront old new → AllByRecursion (HasItem (length old)) items → AllByRecursion (HasItem (length new)) items
items_known-front old new [] front k = tt
items_known-front old new (one ∷ items) front k = (
  record { atom = longer old new one.atom front k.0.atom; condition = literals_known-front old new one.condition front k.0.condition },
  items_known-front old new items front k.1,
)

module _ (old now : List Symbol) (rule : ReadRule) (held : List HeldValue) (front : IsFront old now) (known : AllByRecursion (λ value. IsKnown (length old) (Some value)) held) where
  same_values : map (value_in now) held ≡ map (value_in old) held
  same_values = values-front old now held front known

  pub inside-front : (element : ReadChoice) (row : Row) → IsInside old rule (map (value_in old) held) element row → IsInside now rule (map (value_in now) held) element row
  inside-front element row is =
      let same = values-front old now row.values front is.known in
      subst (λ values. IsInside now rule values element row) (sym same_values)
      (record {
        stands = subst (IsChoiceInstance rule (map (value_in old) held) element) (sym same) is.stands;
        inside = ap (is_choice_over rule (map (value_in old) held) element) same ∙ is.inside;
        known = values_known-front old now row.values front is.known;
      })

  pub all_inside-front : (element : ReadChoice) (rows : List Row) → AllByRecursion (IsInside old rule (map (value_in old) held) element) rows
      → AllByRecursion (IsInside now rule (map (value_in now) held) element) rows
  all_inside-front element [] all = tt
  all_inside-front element (row ∷ rows) all = (inside-front element row all.0, all_inside-front element rows all.1)

  -- an element that is made over a table that has grown is so over the one before
  pub item_before : (element : ReadChoice) (row : Row) (item : ItemOf Symbol Symbol) → IsKnownRow (length old) row → IsItemAt rule (map (value_in now) held) element (row_in now row) item
      → IsItemAt rule (map (value_in old) held) element (row_in old row) item
  item_before element row item k is =
      subst (λ values. IsItemAt rule values element (row_in old row) item) same_values
      (subst (λ locals. IsItemAt rule (map (value_in now) held) element locals item) (values-front old now row.values front k) is)

  pub rows_now : (element : ReadChoice) (rows : List Row) → AllByRecursion (IsInside old rule (map (value_in old) held) element) rows → rows_in now rows ≡ rows_in old rows
  rows_now element [] all = refl
  rows_now element (row ∷ rows) all = let here = values-front old now row.values front all.0.known in let rest = rows_now element rows all.1 in (λ i. here i ∷ rest i)

  pub items_before : (element : ReadChoice) (rows : List Row) (items : List (ItemOf Symbol Symbol)) → AllByRecursion (IsInside old rule (map (value_in old) held) element) rows
      → AllZip (IsItemAt rule (map (value_in now) held) element) (rows_in now rows) items → AllZip (IsItemAt rule (map (value_in old) held) element) (rows_in old rows) items
  items_before element rows items all z =
      subst (λ values. AllZip (IsItemAt rule values element) (rows_in old rows) items) same_values
      (subst (λ rs. AllZip (IsItemAt rule (map (value_in now) held) element) rs items) (rows_now element rows all) z)

-- ONE ROW MORE

module _ (now new : List Symbol) (R : List Value → ItemOf Symbol Symbol → Type 0) (f : Row → List Value) where
  pub made_more : (rows : List Row) (place : ℕ) (row d : Row) (made : List SymbolItem) (one : SymbolItem) → IsFront now new → AllByRecursion (HasItem (length now)) made
      → row ≡ slice_index_or rows place d → place < length rows → AllZip R (map f (take place rows)) (map (item_in now) made) → R (f row) (item_in new one)
      → AllZip R (map f (take (place + 1) rows)) (map (item_in new) (made ++ one ∷ []))
  made_more rows place row d made one front known e l z r =
      subst (λ items. AllZip R (map f (take (place + 1) rows)) items) (sym (map_append (item_in new) made (one ∷ []) ∙ ap (λ items. items ++ item_in new one ∷ []) (items-front now new made front known)))
      (subst (λ rs. AllZip R rs (map (item_in now) made ++ item_in new one ∷ [])) (sym (map_more f rows place d l))
      (zip_append R (map f (take place rows)) (map (item_in now) made) (f (slice_index_or rows place d) ∷ []) (item_in new one ∷ []) z (subst (λ w. R (f w) (item_in new one)) e r, tt)))

-- ONE ELEMENT MORE

module _ (rule : ReadRule) (values : List Value) where
  keyed : (place : ℕ) (element : ReadChoice) → slice_get (choices_in rule.head) place ≡ Some element → (rows : List (List Value)) (items : List (ItemOf Symbol Symbol))
      → AllZip (IsItemAt rule values element) rows items → AllZip (IsItemOf rule values) (keys_at place rows) items
  keyed place element s [] [] z = tt
  keyed place element s [] (item ∷ items) z = absurd z
  keyed place element s (row ∷ rows) [] z = absurd z
  keyed place element s (row ∷ rows) (item ∷ items) z = ((element, s, z.0), keyed place element s rows items z.1)

  pub joined_more : (now new : List Symbol) (f : List Row → List (List Value)) (rows : List (List Row)) (place : ℕ) (found d : List Row) (made more : List SymbolItem) (element : ReadChoice)
      → IsFront now new → AllByRecursion (HasItem (length now)) made → found ≡ slice_index_or rows place d → place < length rows → slice_get (choices_in rule.head) place ≡ Some element
      → AllZip (IsItemOf rule values) (keys_from 0 (map f (take place rows))) (map (item_in now) made) → AllZip (IsItemAt rule values element) (f found) (map (item_in new) more)
      → AllZip (IsItemOf rule values) (keys_from 0 (map f (take (place + 1) rows))) (map (item_in new) (made ++ more))
  joined_more now new f rows place found d made more element front known e l s z w =
      subst (λ items. AllZip (IsItemOf rule values) (keys_from 0 (map f (take (place + 1) rows))) items)
      (sym (map_append (item_in new) made more ∙ ap (λ items. items ++ map (item_in new) more) (items-front now new made front known)))
      (subst (λ keys. AllZip (IsItemOf rule values) keys (map (item_in now) made ++ map (item_in new) more)) (sym (keys_more f rows place d l))
      (zip_append (IsItemOf rule values) (keys_from 0 (map f (take place rows))) (map (item_in now) made) (keys_at place (f (slice_index_or rows place d))) (map (item_in new) more) z
      (keyed place element s (f (slice_index_or rows place d)) (map (item_in new) more) (subst (λ found. AllZip (IsItemAt rule values element) (f found) (map (item_in new) more)) e w))))
