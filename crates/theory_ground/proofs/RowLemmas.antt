-- Instances that are judged one by one, as the table grows.
use Rattle.std.proofs.Common.{◌≡◌, inl, inr, ◌<◌, ◌+◌, ℕ, zero, suc, false, List, [], ◌∷◌, ◌++◌, map, take, get_or, length, append_assoc, All, Some, refl, sym, ◌∙◌, ap, subst, arith}
use Rattle.std.specs.List.{AllByRecursion, AllZip}
use Rattle.std.proofs.lemmas.List.{take_more, map-append, append-nil}
use Rattle.symbols.specs.Symbol.{Symbol}
use Rattle.symbols.specs.Table.{IsFront}
use Rattle.syntax_tree.specs.declared.literal.TheoryName.{TheoryName}
use Rattle.syntax_tree.specs.declared.binding.Value.{Value as HeldValue}
use Rattle.syntax_tree.specs.Outcome.{Outcome, IsUndefined, IsKnown}
use Rattle.syntax_tree.proofs.Holding.{symbols-front, ids-front}
use Rattle.ground_model.specs.Members.{IsMember}
use Rattle.program_meaning.specs.declared.collected.CollectedPlace.{CollectedPlace}
use Rattle.program_meaning.specs.declared.collected.SymbolLinear.{SymbolLinear}
use Rattle.program_meaning.specs.Read.{ReadElement}
use Rattle.program_meaning.specs.Substitution.{Value}
use Rattle.program_meaning.specs.Said.{linear_in, place_in, value_in}
use Rattle.program_meaning.specs.Theory.{HasTuple}
use Rattle.instance_rows.specs.Tests.{are_over}
use Rattle.instance_plans.specs.declared.plan.Plan.{Plan}
use Rattle.instance_plans.specs.Plans.{tests_of}
use Rattle.instance_search.specs.declared.found.Row.{Row}
use Rattle.instance_search.specs.Found.{row_in, rows_in, IsKnownRow}
use Rattle.row_bindings.proofs.HeldLemmas.{values-front}
use Rattle.collected_terms.specs.declared.collected_term.LinearForm.TheVariants as form
use Rattle.collected_terms.specs.Found.{IsKnownLinear}
use Rattle.collected_terms.proofs.Growing.{term_front, form_known}
use Rattle.collected_elements.specs.declared.judged.JudgedElement.{JudgedElement}
use Rattle.collected_elements.specs.declared.judged.JudgedElement.TheVariants as element
use Rattle.collected_elements.specs.Judged.{IsJudged, IsKnownElement, IsKnownPlace}
use Rattle.collected_atoms.specs.declared.gathering.Gathered.{Gathered}
use Rattle.collected_atoms.specs.Gathering.{IsGathered}
use Rattle.theory_ground.specs.inner.Rows.{bound_by, HasFlag, IsRowJudged, IsRowOver, IsSomeRowOver, HasOne, HasAll}

-- AS THE TABLE GROWS

module _ (old new : List Symbol) (front : IsFront old new) where
  linear_front : (linear : SymbolLinear) → IsKnownLinear old linear → linear_in new linear ≡ linear_in old linear
  linear_front linear known =
      (term_front old new front (record { undefined = false; over = false; form = form.Small linear })
      (record { value = IsUndefined; undefined = false; over = false; not_linear = false; large = false; form = linear_in old linear })
      known (record { undefined = refl; over = refl; form = (refl, refl, refl) })).form.2

  place_front : (place : CollectedPlace) → IsKnownPlace old place → place_in new place ≡ place_in old place
  place_front place known =
      let linear = linear_front place.linear known.linear in
      let rest = symbols-front old new place.rest front known.rest in
      λ i. record { linear = linear i; duration = place.duration; rest = rest i }

  pub judged_front : (kind : TheoryName) (bound : List Outcome) (read : ReadElement) (judged : JudgedElement) → IsKnownElement old judged → IsJudged old kind bound read judged
      → IsJudged new kind bound read judged
  judged_front kind bound read element.NotLinear known h = h
  judged_front kind bound read element.Large known h = h
  judged_front kind bound read element.Nothing known h = h
  judged_front kind bound read (element.Range low high) known h = h
  judged_front kind bound read (element.Tuple place) known h = (h.0, h.1, h.2, subst (HasTuple bound read) (sym (place_front place known)) h.3)

  pub known_front : (judged : JudgedElement) → IsKnownElement old judged → IsKnownElement new judged
  known_front element.NotLinear known = tt
  known_front element.Large known = tt
  known_front element.Nothing known = tt
  known_front (element.Range low high) known = tt
  known_front (element.Tuple place) known = record {
    linear = form_known old new front (form.Small place.linear) known.linear;
    rest = ids-front old new place.rest front known.rest;
  }

  row_front : (kind : TheoryName) (read : ReadElement) (plan : Plan) (values row : List Value) (judged : JudgedElement) → IsRowJudged old kind read plan values row judged
      → IsRowJudged new kind read plan values row judged
  row_front kind read plan values row judged h = record {
    comes = judged_front kind _ read judged h.known h.comes;
    known = known_front judged h.known;
    settled = h.settled;
  }

  rows_front : (kind : TheoryName) (read : ReadElement) (plan : Plan) (values : List Value) (rows : List (List Value)) (judged : List JudgedElement)
      → AllZip (IsRowJudged old kind read plan values) rows judged → AllZip (IsRowJudged new kind read plan values) rows judged
  rows_front kind read plan values [] [] z = tt
  rows_front kind read plan values [] (j ∷ judged) z = z
  rows_front kind read plan values (row ∷ rows) [] z = z
  rows_front kind read plan values (row ∷ rows) (j ∷ judged) z = (row_front kind read plan values row j z.0, rows_front kind read plan values rows judged z.1)

  pub all_known_front : (all : List JudgedElement) → AllByRecursion (IsKnownElement old) all → AllByRecursion (IsKnownElement new) all
  all_known_front [] known = tt
  all_known_front (j ∷ all) known = (known_front j known.0, all_known_front all known.1)

-- ONE ROW MORE

zip_more : {X Y : Type 0} (R : X → Y → Type 0) (xs : List X) (ys : List Y) (x : X) (y : Y) → AllZip R xs ys → R x y → AllZip R (xs ++ x ∷ []) (ys ++ y ∷ [])
zip_more R [] [] x y z r = (r, tt)
zip_more R [] (w ∷ ys) x y z r = absurd z
zip_more R (v ∷ xs) [] x y z r = absurd z
zip_more R (v ∷ xs) (w ∷ ys) x y z r = (z.0, zip_more R xs ys x y z.1 r)

next_row : (symbols : List Symbol) (rows : List Row) (place : ℕ) (row : Row) → row ≡ get_or rows place row → place < length rows
    → rows_in symbols (take (place + 1) rows) ≡ rows_in symbols (take place rows) ++ row_in symbols row ∷ []
next_row symbols rows place row is below =
    ap (map (row_in symbols)) (take_more rows place row below)
    ∙ map-append (row_in symbols) (take place rows) (get_or rows place row ∷ [])
    ∙ ap (λ (r : Row). map (row_in symbols) (take place rows) ++ row_in symbols r ∷ []) (sym is)

pub none_gathered : (symbols : List Symbol) (kind : TheoryName) (read : ReadElement) (plan : Plan) (values : List Value) (gathered : Gathered) → HasAll symbols kind read plan values [] gathered gathered
none_gathered symbols kind read plan values gathered = record {
  judged = [];
  each = tt;
  together = λ all h. subst (λ (js : List JudgedElement). IsGathered js gathered) (sym (append-nil all)) h;
}

pub one_gathered : (old now new : List Symbol) (kind : TheoryName) (read : ReadElement) (plan : Plan) (given : List HeldValue) (rows : List Row) (place : ℕ) (row : Row) (before mid after : Gathered)
    → IsFront old now → IsFront now new → AllByRecursion (λ value. IsKnown (length old) (Some value)) given → IsKnownRow (length old) row → row ≡ get_or rows place row → place < length rows
    → HasAll now kind read plan (map (value_in old) given) (rows_in old (take place rows)) before mid
    → HasOne new kind read plan (map (value_in now) given) (row_in now row) mid after
    → HasAll new kind read plan (map (value_in old) given) (rows_in old (take (place + 1) rows)) before after
one_gathered old now new kind read plan given rows place row before mid after front more known row_known is below h one =
    subst (λ (rs : List (List Value)). HasAll new kind read plan (map (value_in old) given) rs before after) (sym (next_row old rows place row is below))
    (record {
      judged = h.judged ++ one.judged ∷ [];
      each = zip_more (IsRowJudged new kind read plan (map (value_in old) given)) (rows_in old (take place rows)) h.judged (row_in old row) one.judged
          (rows_front now new more kind read plan (map (value_in old) given) (rows_in old (take place rows)) h.judged h.each) here;
      together = λ all g.
          subst (λ (js : List JudgedElement). IsGathered js after) (append_assoc all h.judged (one.judged ∷ [])) (one.together (all ++ h.judged) (h.together all g));
    })
  where
    here : IsRowJudged new kind read plan (map (value_in old) given) (row_in old row) one.judged
    here =
        subst (λ (vs : List Value). IsRowJudged new kind read plan vs (row_in old row) one.judged) (values-front old now given front known)
        (subst (λ (r : List Value). IsRowJudged new kind read plan (map (value_in now) given) r one.judged) (values-front old now row.values front row_known) one.is)

pub flag_front : (old now : List Symbol) (plan : Plan) (given : List HeldValue) (row : Row) → IsFront old now → AllByRecursion (λ value. IsKnown (length old) (Some value)) given
    → IsKnownRow (length old) row → HasFlag old plan (map (value_in old) given) row → HasFlag now plan (map (value_in now) given) row
flag_front old now plan given row front known row_known h =
    subst (λ (vs : List Value). row.over ≡ are_over (bound_by plan vs (row_in now row)) (tests_of plan))
    (sym (values-front old now given front known))
    (subst (λ (r : List Value). row.over ≡ are_over (bound_by plan (map (value_in old) given) r) (tests_of plan))
    (sym (values-front old now row.values front row_known)) h)

pub member_at : {X : Type 0} (xs : List X) (i : ℕ) (x : X) → x ≡ get_or xs i x → i < length xs → IsMember xs x
member_at [] i x is below = absurd (omega (arith, below))
member_at (y ∷ xs) zero x is below = inl is
member_at (y ∷ xs) (suc i) x is below = inr (member_at xs i x is (omega (arith, below)))

mapped : {X Y : Type 0} (f : X → Y) (xs : List X) (x : X) → IsMember xs x → IsMember (map f xs) (f x)
mapped f [] x m = m
mapped f (z ∷ xs) x (inl e) = inl (ap f e)
mapped f (z ∷ xs) x (inr m) = inr (mapped f xs x m)

pub over_at_row : (old now : List Symbol) (kind : TheoryName) (read : ReadElement) (plan : Plan) (given : List HeldValue) (rows : List Row) (place : ℕ) (row : Row) → IsFront old now
    → AllByRecursion (λ value. IsKnown (length old) (Some value)) given → IsKnownRow (length old) row → row ≡ get_or rows place row → place < length rows
    → IsRowOver kind read plan (map (value_in now) given) (row_in now row) → IsSomeRowOver kind read plan (map (value_in old) given) (rows_in old rows)
over_at_row old now kind read plan given rows place row front known row_known is below h = (
  row_in old row,
  mapped (row_in old) rows row (member_at rows place row is below),
  subst (λ (vs : List Value). IsRowOver kind read plan vs (row_in old row)) (values-front old now given front known)
      (subst (λ (r : List Value). IsRowOver kind read plan (map (value_in now) given) r) (values-front old now row.values front row_known) h),
)

pub at_place : {X : Type 0} (P : X → Type 0) (xs : List X) (i : ℕ) (x : X) → x ≡ get_or xs i x → i < length xs → AllByRecursion P xs → P x
at_place P [] i x is below all = absurd (omega (arith, below))
at_place P (y ∷ xs) zero x is below all = subst P (sym is) all.0
at_place P (y ∷ xs) (suc i) x is below all = at_place P xs i x is (omega (arith, below)) all.1

pub by_recursion : {X : Type 0} (P : X → Type 0) (xs : List X) → All P xs → AllByRecursion P xs
by_recursion P [] all = tt
by_recursion P (x ∷ xs) all = (all 0 x (omega arith), by_recursion P xs (λ k d below. all (suc k) d (omega (arith, below))))
