-- Ground choices from the rows of their elements.
use Rattle.std.proofs.Common.{◌≡◌, ◌⊎◌, inl, inr, ℕ, zero, suc, Bool, true, false, ◌||◌, List, [], ◌∷◌, map, length, Option, Some, slice_get, refl, sym, ap, ◌∙◌, subst, true≢false}
use Rattle.std.specs.List.{AllByRecursion, AllZip, list_any}
use Rattle.symbols.specs.Symbol.{Symbol}
use Rattle.ground_model.specs.Members.{IsMember}
use Rattle.ground_model.specs.Rule.{ItemOf}
use Rattle.ground_model.proofs.Bools.{and_elim, or_elim}
use Rattle.ground_model.proofs.MemberLemmas.{member_map}
use Rattle.syntax_tree.specs.declared.literal.Guard.{Guard}
use Rattle.syntax_tree.specs.Outcome.{Outcome}
use Rattle.program_meaning.specs.Read.{ReadChoice, ReadHead, ReadChoose, ReadRule}
use Rattle.program_meaning.specs.Count.{choices_in}
use Rattle.program_meaning.specs.Ground.{ItemAs}
use Rattle.program_meaning.specs.Instance.{bound_stands, head_stands, IsRelevantChoice}
use Rattle.program_meaning.specs.Outside.{bound_over, head_over, is_choice_over}
use Rattle.program_meaning.specs.Substitution.{Value, Key}
use Rattle.program_meaning.proofs.Lists.{some_one}
use Rattle.instance_search.specs.declared.found.Row.{Row}
use Rattle.instance_search.specs.Found.{row_in, rows_in, IsKnownRow}
use Rattle.count_laws.specs.Counting.{IsChoiceRow, IsChoiceKey}
use Rattle.choice_rows.specs.ChoiceRows.{is_flagged, are_flagged, AreElementRows, AreChoiceRows}
use Rattle.choice_instances.specs.inner.Items.{IsInside, AreInside, AreBounds, IsItemOf}

pub or_none : (a b : Bool) → (a || b) ≡ false → (a ≡ false) × (b ≡ false)
or_none true b e = absurd (true≢false e)
or_none false b e = (refl, e)

module _ (P : Symbol → Type 0) (symbols : List Symbol) (rule : ReadRule) (values : List Value) where
  -- NOTHING IS OVER

  inside_rows : (element : ReadChoice) (all rows : List Row) → AreElementRows P symbols rule values element all → ((row : Row) → IsMember rows row → IsMember all row)
      → map is_flagged rows ≡ map (is_choice_over rule values element) (rows_in symbols rows) → AllByRecursion (IsKnownRow (length symbols)) rows → are_flagged rows ≡ false
      → AllByRecursion (IsInside symbols rule values element) rows
  inside_rows element all [] are within flags known none = tt
  inside_rows element all (row ∷ rows) are within flags known none =
      let both = or_none (is_flagged row) (are_flagged rows) none in
      let here : is_flagged row ≡ is_choice_over rule values element (row_in symbols row) = cc in
      let rest : map is_flagged rows ≡ map (is_choice_over rule values element) (rows_in symbols rows) = cc in (
        record {
          stands = ((are.listed.all (row_in symbols row)).0 (member_map (row_in symbols) all row (within row (inl refl)))).0;
          inside = sym here ∙ both.0;
          known = known.0;
        },
        inside_rows element all rows are (λ r m. within r (inr m)) rest known.1 both.1,
      )

  all_inside : (elements : List ReadChoice) (rows : List (List Row)) → AllZip (AreElementRows P symbols rule values) elements rows → list_any are_flagged rows ≡ false
      → AllZip (λ element found. AllByRecursion (IsInside symbols rule values element) found) elements rows
  all_inside [] [] z none = tt
  all_inside [] (found ∷ rows) z none = absurd z
  all_inside (element ∷ elements) [] z none = absurd z
  all_inside (element ∷ elements) (found ∷ rows) z none =
      let both = or_none (are_flagged found) (list_any are_flagged rows) none in
      (inside_rows element found found z.0 (λ row m. m) z.0.flags z.0.known both.0, all_inside elements rows z.1 both.1)

  pub are_inside : (rows : List (List Row)) → AreChoiceRows P symbols rule values rows → list_any are_flagged rows ≡ false → AreInside symbols rule values rows
  are_inside rows are none = all_inside (choices_in rule.head) rows are none

  -- SOMETHING IS OVER

  over_row : (element : ReadChoice) (rows : List Row) → map is_flagged rows ≡ map (is_choice_over rule values element) (rows_in symbols rows) → are_flagged rows ≡ true
      → (row : Row) × IsMember rows row × (is_choice_over rule values element (row_in symbols row) ≡ true)
  over_row element [] flags e = absurd (true≢false (sym e))
  over_row element (row ∷ rows) flags e =
      let rest : map is_flagged rows ≡ map (is_choice_over rule values element) (rows_in symbols rows) = cc in
      go (or_elim (is_flagged row) (are_flagged rows) e) (over_row element rows rest)
    where
      go : (is_flagged row ≡ true) ⊎ (are_flagged rows ≡ true)
          → (are_flagged rows ≡ true → (r : Row) × IsMember rows r × (is_choice_over rule values element (row_in symbols r) ≡ true))
          → (r : Row) × IsMember (row ∷ rows) r × (is_choice_over rule values element (row_in symbols r) ≡ true)
      go (inl h) rec = let here : is_flagged row ≡ is_choice_over rule values element (row_in symbols row) = cc in (row, inl refl, sym here ∙ h)
      go (inr h) rec = let r = rec h in (r.0, inr r.1, r.2)

  over_in : (elements : List ReadChoice) (rows : List (List Row)) → AllZip (AreElementRows P symbols rule values) elements rows → list_any are_flagged rows ≡ true
      → (place : ℕ) × (element : ReadChoice) × (locals : List Value) × (slice_get elements place ≡ Some element) × IsChoiceRow P rule values element locals
      × (is_choice_over rule values element locals ≡ true)
  over_in [] [] z e = absurd (true≢false (sym e))
  over_in [] (found ∷ rows) z e = absurd z
  over_in (element ∷ elements) [] z e = absurd z
  over_in (element ∷ elements) (found ∷ rows) z e = go (or_elim (are_flagged found) (list_any are_flagged rows) e) (over_in elements rows z.1)
    where
      go : (are_flagged found ≡ true) ⊎ (list_any are_flagged rows ≡ true)
          → (list_any are_flagged rows ≡ true → (place : ℕ) × (other : ReadChoice) × (locals : List Value) × (slice_get elements place ≡ Some other) × IsChoiceRow P rule values other locals
          × (is_choice_over rule values other locals ≡ true))
          → (place : ℕ) × (other : ReadChoice) × (locals : List Value) × (slice_get (element ∷ elements) place ≡ Some other) × IsChoiceRow P rule values other locals
          × (is_choice_over rule values other locals ≡ true)
      go (inl h) rec =
          let r = over_row element found z.0.flags h in
          (zero, element, row_in symbols r.0, refl, (z.0.listed.all (row_in symbols r.0)).0 (member_map (row_in symbols) found r.0 r.1), r.2)
      go (inr h) rec = let r = rec h in (suc r.0, r.1, r.2, r.3, r.4, r.5)

  pub is_over : (rows : List (List Row)) → AreChoiceRows P symbols rule values rows → list_any are_flagged rows ≡ true
      → (key : Key) × (element : ReadChoice) × IsRelevantChoice P rule values (choices_in rule.head) key element × (is_choice_over rule values element key.values ≡ true)
  is_over rows are e =
      let r = over_in (choices_in rule.head) rows are e in
      (record { place = r.0; values = r.2 }, r.1, record { place = r.3; stands = r.4.0; positive = r.4.1 }, r.5)

  flagged_none : (element : ReadChoice) (rows : List Row) → map is_flagged rows ≡ map (is_choice_over rule values element) (rows_in symbols rows) → are_flagged rows ≡ false
      → (locals : List Value) → IsMember (rows_in symbols rows) locals → is_choice_over rule values element locals ≡ false
  flagged_none element [] flags none locals m = absurd m
  flagged_none element (row ∷ rows) flags none locals (inl e) =
      let both = or_none (is_flagged row) (are_flagged rows) none in
      let here : is_flagged row ≡ is_choice_over rule values element (row_in symbols row) = cc in
      ap (is_choice_over rule values element) e ∙ sym here ∙ both.0
  flagged_none element (row ∷ rows) flags none locals (inr m) =
      let both = or_none (is_flagged row) (are_flagged rows) none in
      let rest : map is_flagged rows ≡ map (is_choice_over rule values element) (rows_in symbols rows) = cc in
      flagged_none element rows rest both.1 locals m

  none_in : (elements : List ReadChoice) (rows : List (List Row)) → AllZip (AreElementRows P symbols rule values) elements rows → list_any are_flagged rows ≡ false
      → (place : ℕ) (element : ReadChoice) (locals : List Value) → slice_get elements place ≡ Some element → IsChoiceRow P rule values element locals → is_choice_over rule values element locals ≡ false
  none_in [] rows z none place element locals s r = cc
  none_in (one ∷ elements) [] z none place element locals s r = absurd z
  none_in (one ∷ elements) (found ∷ rows) z none zero element locals s r =
      let both = or_none (are_flagged found) (list_any are_flagged rows) none in
      let same : one ≡ element = some_one (Some one) one element refl s in
      let here = subst (λ e. AreElementRows P symbols rule values e found) same z.0 in
      flagged_none element found here.flags both.0 locals ((here.listed.all locals).1 r)
  none_in (one ∷ elements) (found ∷ rows) z none (suc place) element locals s r =
      none_in elements rows z.1 (or_none (are_flagged found) (list_any are_flagged rows) none).1 place element locals s r

  pub none_over : (rows : List (List Row)) → AreChoiceRows P symbols rule values rows → list_any are_flagged rows ≡ false
      → (key : Key) (element : ReadChoice) → IsRelevantChoice P rule values (choices_in rule.head) key element → is_choice_over rule values element key.values ≡ false
  none_over rows are none key element r = none_in (choices_in rule.head) rows are none key.place element key.values r.place (r.stands, r.positive)

  -- ELEMENTS

  -- what is made at keys of relevant instances are the elements of the ground choice
  pub items_as : (keys : List Key) (items : List (ItemOf Symbol Symbol)) → ((key : Key) → IsMember keys key → IsChoiceKey P rule values key) → AllZip (IsItemOf rule values) keys items
      → AllZip (ItemAs P rule values (choices_in rule.head)) keys items
  items_as [] [] all z = tt
  items_as [] (item ∷ items) all z = absurd z
  items_as (key ∷ keys) [] all z = absurd z
  items_as (key ∷ keys) (item ∷ items) all z =
      let relevant = all key (inl refl) in
      let same : relevant.0 ≡ z.0.0 = some_one (slice_get (choices_in rule.head) key.place) relevant.0 z.0.0 relevant.1.place z.0.1 in
      ((z.0.0, subst (IsRelevantChoice P rule values (choices_in rule.head) key) same relevant.1, z.0.2.atom, z.0.2.condition), items_as keys items (λ k m. all k (inr m)) z.1)

-- BOUNDS

-- the bounds of a choice that stands, and at which nothing is over
pub bounds_of : (bound : List Outcome) (head : ReadHead) (left : Option Guard) (elements : List ReadChoice) (right : Option Guard) → head ≡ ReadChoose left elements right
    → head_stands bound head ≡ true → head_over bound head ≡ false → AreBounds bound left right
bounds_of bound head left elements right e s o =
    let stands = and_elim (bound_stands bound left) (bound_stands bound right) (subst (λ h. head_stands bound h ≡ true) e s) in
    let inside = or_none (bound_over bound left) (bound_over bound right) (subst (λ h. head_over bound h ≡ false) e o) in
    record { low = stands.0; low_inside = inside.0; high = stands.1; high_inside = inside.1 }
