-- A content with its parts is put into the table.
use Rattle.std.proofs.Common.{◌≡◌, ℕ, ◌+◌, ◌≤◌, Bool, true, false, cond, ◌||◌, max, List, [], ◌∷◌, ◌++◌, map, length, refl, sym, ◌∙◌, ap, ap₂, subst, true≢false, ℤ, pos, ◌-ℤ◌, neg_ℤ, fold, length-append, Result, Ok, Err, IfOk, arith}
use Rattle.std.specs.List.{AllByRecursion}
use Rattle.std.proofs.lemmas.List.{length-map}
use Rattle.symbols.specs.declared.rel.Rel.{Rel}
use Rattle.symbols.specs.declared.rel.Rel.TheVariants.{Equal, NotEqual, Less, LessEqual, Greater, GreaterEqual}
use Rattle.ground_model.proofs.MemberLemmas.{property_member, member_any}
use Rattle.linear_normal.specs.declared.constraint.Item.{Item}
use Rattle.linear_normal.specs.declared.constraint.Constraint.{Constraint}
use Rattle.linear_normal.specs.declared.constraint.Constraint.TheVariants.{AtMost, Both, Either}
use Rattle.linear_normal.specs.contracts.constraint.ConstraintPartialEq.TheImpl.{ghosts as of_constraint}
use Rattle.linear_normal.specs.Contents.{Term, Variable, Counted, Content, SumAtMost, SumEquals, SumDiffers, InSet, AllDiffer, NoneOverlap, SomeTrue, opposite, parts_of, same_content}
use Rattle.linear_normal.specs.Demands.{with_content, with_parts, number_of}
use Rattle.linear_normal.specs.Numbering.{item_of, constraint_of}
use Rattle.linear_normal.specs.inner.Tables.{is_there, Begins, IsBackedTerm, IsBacked, HasKeys, IsTable, Puts, IsPlaceOr, Takes, ArePlaces, TakesBoth, TakesEither, TakesCompared, opposite_item}
use Rattle.linear_normal.proofs.ContentLemmas.{content_sound, added_is_there}
use Rattle.linear_normal.proofs.KeyLemmas.{same_keys}
use Rattle.linear_normal.proofs.TableLemmas.{begins_then, begins_with, begins_fold, there_later, number_later, number_next, number_with, backed_later, constraint_later, keys_later}

pub ok_then : {A E : Type 0} (P Q : A → Type 0) → ((x : A) → P x → Q x) → (result : Result A E) → IfOk result P → IfOk result Q
ok_then P Q f (Ok x) p = f x p
ok_then P Q f (Err e) p = tt

-- WHERE THE PARTS GO

-- the parts of what is there are there
parts_backed : (contents : List Content) (whole : Content) → IsBacked contents whole → AllByRecursion (λ part. is_there contents part ≡ true) (parts_of whole)
parts_backed contents (SumAtMost sum k) backed = tt
parts_backed contents (SumEquals sum k) backed = backed
parts_backed contents (SumDiffers sum k) backed = backed
parts_backed contents (InSet x set) backed = tt
parts_backed contents (AllDiffer places) backed = tt
parts_backed contents (NoneOverlap places) backed = tt
parts_backed contents (SomeTrue bodies) backed = tt

parts_there : (contents : List Content) (whole : Content) → AllByRecursion (IsBacked contents) contents → is_there contents whole ≡ true
    → AllByRecursion (λ part. is_there contents part ≡ true) (parts_of whole)
parts_there contents whole backed there =
    let m = member_any (λ c. same_content c whole) contents there in
    parts_backed contents whole (subst (IsBacked contents) (content_sound m.0 whole m.2) (property_member (IsBacked contents) contents m.0 backed m.1))

-- no part is the whole
parts_apart : (whole : Content) → AllByRecursion (λ part. same_content whole part ≡ false) (parts_of whole)
parts_apart (SumAtMost sum k) = tt
parts_apart (SumEquals sum k) = (refl, (refl, tt))
parts_apart (SumDiffers sum k) = (refl, (refl, tt))
parts_apart (InSet x set) = tt
parts_apart (AllDiffer places) = tt
parts_apart (NoneOverlap places) = tt
parts_apart (SomeTrue bodies) = tt

there_pushed : (contents : List Content) (added content : Content) → is_there (contents ++ added ∷ []) content ≡ (is_there contents content || same_content added content)
there_pushed [] added content = flip (same_content added content)
  where
    flip : (b : Bool) → (b || false) ≡ b
    flip true = refl
    flip false = refl
there_pushed (c ∷ contents) added content = go (same_content c content) (there_pushed contents added content)
  where
    go : (b : Bool) → is_there (contents ++ added ∷ []) content ≡ (is_there contents content || same_content added content)
        → (b || is_there (contents ++ added ∷ []) content) ≡ ((b || is_there contents content) || same_content added content)
    go true rec = refl
    go false rec = rec

-- what is neither there nor added is not there
absent_with : (contents : List Content) (added content : Content) → is_there contents content ≡ false → same_content added content ≡ false → is_there (with_content contents added) content ≡ false
absent_with contents added content e f = go (is_there contents added)
  where
    go : (b : Bool) → is_there (cond b contents (contents ++ added ∷ [])) content ≡ false
    go true = e
    go false = there_pushed contents added content ∙ ap₂ ◌||◌ e f

length_added : (contents : List Content) (added : Content) → is_there contents added ≡ false → length (with_content contents added) ≡ length contents + 1
length_added contents added e = ap (λ b. length (cond b contents (contents ++ added ∷ []))) e ∙ length-append contents (added ∷ [])

length_kept : (contents : List Content) (added : Content) → is_there contents added ≡ true → length (with_content contents added) ≡ length contents
length_kept contents added e = ap (λ b. length (cond b contents (contents ++ added ∷ []))) e

number_within : (contents : List Content) (content : Content) → is_there contents content ≡ true → number_of contents content ≤ length contents
number_within [] content e = absurd (true≢false (sym e))
number_within (c ∷ contents) content e = go (same_content c content) e (number_within contents content)
  where
    go : (b : Bool) → (b || is_there contents content) ≡ true → (is_there contents content ≡ true → number_of contents content ≤ length contents)
        → cond b 1 (number_of contents content + 1) ≤ length (c ∷ contents)
    go true e rec = omega arith
    go false e rec = let r = rec e in omega (arith, r)

module _ (contents : List Content) (whole a b : Content) where
  abbrev one_more : List Content
  one_more = with_content contents whole

  abbrev two_more : List Content
  two_more = with_content one_more a

  abbrev pub all_more : List Content
  all_more = with_content two_more b

  pub begins_all : Begins contents all_more
  begins_all = begins_fold contents (whole ∷ a ∷ b ∷ [])

  a_there : is_there two_more a ≡ true
  a_there = added_is_there one_more a

  pub a_there_all : is_there all_more a ≡ true
  a_there_all = there_later two_more all_more a (begins_with two_more b) a_there

  pub b_there_all : is_there all_more b ≡ true
  b_there_all = added_is_there two_more b

  a_number : number_of all_more a ≡ number_of one_more a
  a_number = number_later two_more all_more a (begins_with two_more b) a_there ∙ number_with one_more a

  b_number : number_of all_more b ≡ number_of two_more b
  b_number = number_with two_more b

  -- where a part is not there, the whole is not
  whole_absent : (part : Content) → (is_there contents whole ≡ true → is_there contents part ≡ true) → is_there contents part ≡ false → is_there contents whole ≡ false
  whole_absent part closed e = go (is_there contents whole) refl
    where
      go : (t : Bool) → is_there contents whole ≡ t → t ≡ false
      go true is = absurd (true≢false (sym (closed is) ∙ e))
      go false is = refl

  first_number : (is_there contents whole ≡ true → is_there contents a ≡ true) → same_content whole a ≡ false
      → number_of all_more a ≡ cond (is_there contents a) (number_of contents a) (length contents + 1 + 1)
  first_number closed apart = a_number ∙ go (is_there contents a) refl
    where
      go : (t : Bool) → is_there contents a ≡ t → number_of one_more a ≡ cond t (number_of contents a) (length contents + 1 + 1)
      go true is = number_later contents one_more a (begins_with contents whole) is
      go false is =
          number_next one_more a (absent_with contents whole a is apart) ∙ ap (λ n. n + 1) (length_added contents whole (whole_absent a closed is))

  second_same : same_content a b ≡ true → number_of all_more b ≡ number_of all_more a
  second_same e = ap (number_of all_more) (sym (content_sound a b e))

  second_number : (first : ℕ) → first + 1 ≡ number_of all_more a → (is_there contents whole ≡ true → is_there contents a ≡ true) → (is_there contents whole ≡ true → is_there contents b ≡ true)
      → same_content whole a ≡ false → same_content whole b ≡ false → same_content a b ≡ false
      → number_of all_more b ≡ cond (is_there contents b) (number_of contents b) (max first (length contents) + 1 + 1)
  second_number first is_first closed_a closed_b apart_a apart_b apart = b_number ∙ go (is_there contents b) refl
    where
      sized : (t : Bool) → is_there contents a ≡ t → is_there contents b ≡ false → length two_more + 1 ≡ max first (length contents) + 1 + 1
      sized true is e =
          let l = length_kept one_more a (there_later contents one_more a (begins_with contents whole) is) in
          let m = length_added contents whole (whole_absent b closed_b e) in
          let n = number_within contents a is in
          let f = is_first ∙ first_number closed_a apart_a ∙ ap (λ t. cond t (number_of contents a) (length contents + 1 + 1)) is in
          omega (arith, l, m, n, f)
      sized false is e =
          let l = length_added one_more a (absent_with contents whole a is apart_a) in
          let m = length_added contents whole (whole_absent b closed_b e) in
          let f = is_first ∙ first_number closed_a apart_a ∙ ap (λ t. cond t (number_of contents a) (length contents + 1 + 1)) is in
          omega (arith, l, m, f)

      go : (t : Bool) → is_there contents b ≡ t → number_of two_more b ≡ cond t (number_of contents b) (max first (length contents) + 1 + 1)
      go true is = number_later contents two_more b (begins_then contents one_more two_more (begins_with contents whole) (begins_with one_more a)) is
      go false is =
          number_next two_more b (absent_with one_more a b (absent_with contents whole b is apart_b) apart) ∙ sized (is_there contents a) refl is

-- the parts' places, as the code finds them
pub part_places : (keys : List Constraint) (one other : Constraint) (first second : ℕ) (same : Bool) → same ≡ of_constraint.eq other one
    → IsPlaceOr keys one (length keys + 1) first → (same ≡ true → second ≡ first) → (same ≡ false → IsPlaceOr keys other (max first (length keys) + 1) second)
    → ArePlaces keys one other first second
part_places keys one other first second same is at equal differ contents whole a b parts table backed_a backed_b one_is other_is =
    (at_first, go same refl)
  where
    all : List Content
    all = fold with_content contents (whole ∷ a ∷ b ∷ [])

    has : HasKeys (fold with_content contents (whole ∷ a ∷ b ∷ [])) contents keys
    has = keys_later contents (fold with_content contents (whole ∷ a ∷ b ∷ [])) contents keys (begins_all contents whole a b) table.keys

    counted : length keys ≡ length contents
    counted = ap length table.keys.same ∙ length-map contents (constraint_of contents)

    closed : is_there contents whole ≡ true → AllByRecursion (λ part. is_there contents part ≡ true) (a ∷ b ∷ [])
    closed e = subst (AllByRecursion (λ part. is_there contents part ≡ true)) parts (parts_there contents whole table.keys.backed e)

    apart : AllByRecursion (λ part. same_content whole part ≡ false) (a ∷ b ∷ [])
    apart = subst (AllByRecursion (λ part. same_content whole part ≡ false)) parts (parts_apart whole)

    at_first : first + 1 ≡ number_of (fold with_content contents (whole ∷ a ∷ b ∷ [])) a
    at_first =
        at (fold with_content contents (whole ∷ a ∷ b ∷ [])) contents a has backed_a one_is
        ∙ ap (λ n. cond (is_there contents a) (number_of contents a) (n + 1 + 1)) counted
        ∙ sym (first_number contents whole a b (λ e. (closed e).0) apart.0)

    told : same ≡ same_content a b
    told = is ∙ ap₂ of_constraint.eq other_is one_is ∙ same_keys (fold with_content contents (whole ∷ a ∷ b ∷ [])) a b backed_a backed_b

    go : (t : Bool) → same ≡ t → second + 1 ≡ number_of (fold with_content contents (whole ∷ a ∷ b ∷ [])) b
    go true e = ap (λ n. n + 1) (equal e) ∙ at_first ∙ sym (second_same contents whole a b (sym told ∙ e))
    go false e =
        differ e (fold with_content contents (whole ∷ a ∷ b ∷ [])) contents b has backed_b other_is
        ∙ ap (λ n. cond (is_there contents b) (number_of contents b) (max first n + 1 + 1)) counted
        ∙ sym (second_number contents whole a b first at_first (λ e. (closed e).0) (λ e. (closed e).1.0) apart.0 apart.1.0 (sym told ∙ e))

pub equal_places : (keys : List Constraint) (one other : Constraint) (first count : ℕ) (same : Bool) → count ≡ length keys → same ≡ of_constraint.eq other one
    → IsPlaceOr keys one (count + 1) first → same ≡ true → ArePlaces keys one other first first
equal_places keys one other first count same counted is at equal =
    part_places keys one other first first same is (subst (λ n. IsPlaceOr keys one (n + 1) first) counted at) (λ e. refl) (λ e. absurd (true≢false (sym equal ∙ e)))

pub other_places : (keys : List Constraint) (one other : Constraint) (first second count next : ℕ) (same : Bool) → count ≡ length keys → same ≡ of_constraint.eq other one
    → IsPlaceOr keys one (count + 1) first → same ≡ false → next ≡ max first count → IsPlaceOr keys other (next + 1) second → ArePlaces keys one other first second
other_places keys one other first second count next same counted is at differ next_is then =
    part_places keys one other first second same is (subst (λ n. IsPlaceOr keys one (n + 1) first) counted at) (λ e. absurd (true≢false (sym e ∙ differ)))
    (λ e. subst (λ n. IsPlaceOr keys other (n + 1) second) (next_is ∙ ap (max first) counted) then)

-- WHAT IS TAKEN

number_taken : (contents later : List Content) (content : Content) (n : ℕ) → Begins (with_content contents content) later → n ≡ number_of contents content → n ≡ number_of later content
number_taken contents later content n b e =
    e ∙ sym (number_with contents content) ∙ sym (number_later (with_content contents content) later content b (added_is_there contents content))

-- a content with no parts
pub alone : (contents : List Content) (content : Content) (before after : List Constraint) (key : Constraint) (n : ℕ) → parts_of content ≡ []
    → IsTable contents before → IsBacked contents content → key ≡ constraint_of contents content → Puts before key after n → Takes contents content after n
alone contents content before after key n no_parts table backed same put = record {
  table = subst (λ parts. IsTable (fold with_content contents (content ∷ parts)) after) (sym no_parts) (record {
    keys = put.keys more contents content has back is;
    few = put.few table.few;
  });
  number = subst (λ parts. (later : List Content) → Begins (fold with_content contents (content ∷ parts)) later → n ≡ number_of later content) (sym no_parts)
      (λ later begins. number_taken contents later content n begins (put.number more contents content has back is));
}
  where
    more : List Content
    more = with_content contents content

    has : HasKeys (with_content contents content) contents before
    has = keys_later contents (with_content contents content) contents before (begins_with contents content) table.keys

    back : IsBacked (with_content contents content) content
    back = backed_later contents (with_content contents content) content (begins_with contents content) backed

    is : key ≡ constraint_of (with_content contents content) content
    is = same ∙ sym (constraint_later contents (with_content contents content) content (begins_with contents content) backed)

-- a content, and then two others: its parts
pub with_two : (contents : List Content) (whole a b : Content) (before first second after : List Constraint) (key one other : Constraint) (n m o : ℕ) → parts_of whole ≡ a ∷ b ∷ []
    → IsTable contents before → IsBacked (fold with_content contents (whole ∷ a ∷ b ∷ [])) whole → IsBacked contents a → IsBacked contents b
    → key ≡ constraint_of (fold with_content contents (whole ∷ a ∷ b ∷ [])) whole → one ≡ constraint_of contents a → other ≡ constraint_of contents b
    → Puts before key first n → Puts first one second m → Puts second other after o → Takes contents whole after n
with_two contents whole a b before first second after key one other n m o parts table backed back_a back_b same one_is other_is put_whole put_one put_other = record {
  table = subst (λ parts. IsTable (fold with_content contents (whole ∷ parts)) after) (sym parts) (record {
    keys = put_other.keys (all_more contents whole a b) (with_content (with_content contents whole) a) b has_two all_b other_all;
    few = put_other.few (put_one.few (put_whole.few table.few));
  });
  number = subst (λ parts. (later : List Content) → Begins (fold with_content contents (whole ∷ parts)) later → n ≡ number_of later whole) (sym parts)
      (λ later begins. number_taken contents later whole n (begins_then (with_content contents whole) (all_more contents whole a b) later begins_two begins) (put_whole.number (all_more contents whole a b) contents whole has backed same));
}
  where
    begun : Begins contents (fold with_content contents (whole ∷ a ∷ b ∷ []))
    begun = begins_all contents whole a b

    begins_two : Begins (with_content contents whole) (fold with_content contents (whole ∷ a ∷ b ∷ []))
    begins_two = begins_fold (with_content contents whole) (a ∷ b ∷ [])

    has : HasKeys (fold with_content contents (whole ∷ a ∷ b ∷ [])) contents before
    has = keys_later contents (fold with_content contents (whole ∷ a ∷ b ∷ [])) contents before (begins_all contents whole a b) table.keys

    all_a : IsBacked (fold with_content contents (whole ∷ a ∷ b ∷ [])) a
    all_a = backed_later contents (fold with_content contents (whole ∷ a ∷ b ∷ [])) a (begins_all contents whole a b) back_a

    all_b : IsBacked (fold with_content contents (whole ∷ a ∷ b ∷ [])) b
    all_b = backed_later contents (fold with_content contents (whole ∷ a ∷ b ∷ [])) b (begins_all contents whole a b) back_b

    one_all : one ≡ constraint_of (fold with_content contents (whole ∷ a ∷ b ∷ [])) a
    one_all = one_is ∙ sym (constraint_later contents (fold with_content contents (whole ∷ a ∷ b ∷ [])) a (begins_all contents whole a b) back_a)

    other_all : other ≡ constraint_of (fold with_content contents (whole ∷ a ∷ b ∷ [])) b
    other_all = other_is ∙ sym (constraint_later contents (fold with_content contents (whole ∷ a ∷ b ∷ [])) b (begins_all contents whole a b) back_b)

    has_one : HasKeys (fold with_content contents (whole ∷ a ∷ b ∷ [])) (with_content contents whole) first
    has_one = put_whole.keys (fold with_content contents (whole ∷ a ∷ b ∷ [])) contents whole has backed same

    has_two : HasKeys (fold with_content contents (whole ∷ a ∷ b ∷ [])) (with_content (with_content contents whole) a) second
    has_two = put_one.keys (fold with_content contents (whole ∷ a ∷ b ∷ [])) (with_content contents whole) a has_one all_a one_all

-- the opposite sum counts the same tallies
pub opposite_backed : (contents : List Content) (sum : List Term) → AllByRecursion (IsBackedTerm contents) sum → AllByRecursion (IsBackedTerm contents) (opposite sum)
opposite_backed contents [] backed = tt
opposite_backed contents (Variable x c ∷ sum) backed = (tt, opposite_backed contents sum backed.1)
opposite_backed contents (Counted bodies c ∷ sum) backed = (backed.0, opposite_backed contents sum backed.1)

pub opposite_items : (contents : List Content) (sum : List Term) → map (item_of contents) (opposite sum) ≡ map opposite_item (map (item_of contents) sum)
opposite_items contents [] = refl
opposite_items contents (Variable x c ∷ sum) = ap (λ items. opposite_item (item_of contents (Variable x c)) ∷ items) (opposite_items contents sum)
opposite_items contents (Counted bodies c ∷ sum) = ap (λ items. opposite_item (item_of contents (Counted bodies c)) ∷ items) (opposite_items contents sum)

pub at_most : (contents : List Content) (before after : List Constraint) (items : List Item) (sum : List Term) (k : ℤ) (n : ℕ)
    → IsTable contents before → AllByRecursion (IsBackedTerm contents) sum → items ≡ map (item_of contents) sum → Puts before (AtMost items k) after n → Takes contents (SumAtMost sum k) after n
at_most contents before after items sum k n table backed same put =
    alone contents (SumAtMost sum k) before after (AtMost items k) n refl table backed (ap (λ items. AtMost items k) same) put

pub opposite_at_most : (contents : List Content) (before after : List Constraint) (items other : List Item) (sum : List Term) (k : ℤ) (n : ℕ)
    → IsTable contents before → AllByRecursion (IsBackedTerm contents) sum → items ≡ map (item_of contents) sum → other ≡ map opposite_item items
    → Puts before (AtMost other k) after n → Takes contents (SumAtMost (opposite sum) k) after n
opposite_at_most contents before after items other sum k n table backed same turned put =
    at_most contents before after other (opposite sum) k n table (opposite_backed contents sum backed)
    (turned ∙ ap (map opposite_item) same ∙ sym (opposite_items contents sum)) put

-- "is" and "is not", as the code puts them
pub takes_both : (before first second after : List Constraint) (one other : Constraint) (i j n m o p q : ℕ) → ArePlaces before one other p q → i ≡ p + 1 → j ≡ q + 1
    → Puts before (Both i j) first n → Puts first one second m → Puts second other after o → TakesBoth before one other after n
takes_both before first second after one other i j n m o p q places i_is j_is put_whole put_one put_other contents sum k table backed one_is other_is =
    with_two contents (SumEquals sum k) (SumAtMost sum k) (SumAtMost (opposite sum) (neg_ℤ k)) before first second after (Both i j) one other n m o refl table
    (a_there_all contents (SumEquals sum k) (SumAtMost sum k) (SumAtMost (opposite sum) (neg_ℤ k)), (b_there_all contents (SumEquals sum k) (SumAtMost sum k) (SumAtMost (opposite sum) (neg_ℤ k)), tt))
    backed (opposite_backed contents sum backed) (ap₂ Both (i_is ∙ found.0) (j_is ∙ found.1)) one_is other_is put_whole put_one put_other
  where
    begun : Begins contents (fold with_content contents (with_parts (SumEquals sum k)))
    begun = begins_fold contents (with_parts (SumEquals sum k))

    found : (p + 1 ≡ number_of (fold with_content contents (with_parts (SumEquals sum k))) (SumAtMost sum k))
        × (q + 1 ≡ number_of (fold with_content contents (with_parts (SumEquals sum k))) (SumAtMost (opposite sum) (neg_ℤ k)))
    found =
        places contents (SumEquals sum k) (SumAtMost sum k) (SumAtMost (opposite sum) (neg_ℤ k)) refl table
        (backed_later contents (fold with_content contents (with_parts (SumEquals sum k))) (SumAtMost sum k) (begins_fold contents (with_parts (SumEquals sum k))) backed)
        (backed_later contents (fold with_content contents (with_parts (SumEquals sum k))) (SumAtMost (opposite sum) (neg_ℤ k)) (begins_fold contents (with_parts (SumEquals sum k))) (opposite_backed contents sum backed))
        (one_is ∙ sym (constraint_later contents (fold with_content contents (with_parts (SumEquals sum k))) (SumAtMost sum k) (begins_fold contents (with_parts (SumEquals sum k))) backed))
        (other_is ∙ sym (constraint_later contents (fold with_content contents (with_parts (SumEquals sum k))) (SumAtMost (opposite sum) (neg_ℤ k)) (begins_fold contents (with_parts (SumEquals sum k))) (opposite_backed contents sum backed)))

pub takes_either : (before first second after : List Constraint) (one other : Constraint) (i j n m o p q : ℕ) → ArePlaces before one other p q → i ≡ p + 1 → j ≡ q + 1
    → Puts before (Either i j) first n → Puts first one second m → Puts second other after o → TakesEither before one other after n
takes_either before first second after one other i j n m o p q places i_is j_is put_whole put_one put_other contents sum k table backed one_is other_is =
    with_two contents (SumDiffers sum k) (SumAtMost sum (k -ℤ pos 1)) (SumAtMost (opposite sum) (neg_ℤ k -ℤ pos 1)) before first second after (Either i j) one other n m o refl table
    (a_there_all contents (SumDiffers sum k) (SumAtMost sum (k -ℤ pos 1)) (SumAtMost (opposite sum) (neg_ℤ k -ℤ pos 1)), (b_there_all contents (SumDiffers sum k) (SumAtMost sum (k -ℤ pos 1)) (SumAtMost (opposite sum) (neg_ℤ k -ℤ pos 1)), tt))
    backed (opposite_backed contents sum backed) (ap₂ Either (i_is ∙ found.0) (j_is ∙ found.1)) one_is other_is put_whole put_one put_other
  where
    found : (p + 1 ≡ number_of (fold with_content contents (with_parts (SumDiffers sum k))) (SumAtMost sum (k -ℤ pos 1)))
        × (q + 1 ≡ number_of (fold with_content contents (with_parts (SumDiffers sum k))) (SumAtMost (opposite sum) (neg_ℤ k -ℤ pos 1)))
    found =
        places contents (SumDiffers sum k) (SumAtMost sum (k -ℤ pos 1)) (SumAtMost (opposite sum) (neg_ℤ k -ℤ pos 1)) refl table
        (backed_later contents (fold with_content contents (with_parts (SumDiffers sum k))) (SumAtMost sum (k -ℤ pos 1)) (begins_fold contents (with_parts (SumDiffers sum k))) backed)
        (backed_later contents (fold with_content contents (with_parts (SumDiffers sum k))) (SumAtMost (opposite sum) (neg_ℤ k -ℤ pos 1)) (begins_fold contents (with_parts (SumDiffers sum k))) (opposite_backed contents sum backed))
        (one_is ∙ sym (constraint_later contents (fold with_content contents (with_parts (SumDiffers sum k))) (SumAtMost sum (k -ℤ pos 1)) (begins_fold contents (with_parts (SumDiffers sum k))) backed))
        (other_is ∙ sym (constraint_later contents (fold with_content contents (with_parts (SumDiffers sum k))) (SumAtMost (opposite sum) (neg_ℤ k -ℤ pos 1)) (begins_fold contents (with_parts (SumDiffers sum k))) (opposite_backed contents sum backed)))

-- SUMS IN RELATION TO A NUMBER

turned : (contents : List Content) (items other : List Item) (sum : List Term) → items ≡ map (item_of contents) sum → other ≡ map opposite_item items → other ≡ map (item_of contents) (opposite sum)
turned contents items other sum same turn = turn ∙ ap (map opposite_item) same ∙ sym (opposite_items contents sum)

module _ (before after : List Constraint) (items : List Item) (rel : Rel) (k : ℤ) (n : ℕ) where
  related : (is : Rel) → rel ≡ is → TakesCompared before items is k after n → TakesCompared before items rel k after n
  related is e takes = subst (λ (r : Rel). TakesCompared before items r k after n) (sym e) takes

  pub less_equal : rel ≡ LessEqual → (m : ℤ) → m ≡ k → Puts before (AtMost items m) after n → TakesCompared before items rel k after n
  less_equal e m is put =
      related LessEqual e (λ contents sum table backed same. at_most contents before after items sum k n table backed same (subst (λ z. Puts before (AtMost items z) after n) is put))

  pub less : rel ≡ Less → (m : ℤ) → m ≡ k -ℤ pos 1 → Puts before (AtMost items m) after n → TakesCompared before items rel k after n
  less e m is put =
      related Less e (λ contents sum table backed same. at_most contents before after items sum (k -ℤ pos 1) n table backed same (subst (λ z. Puts before (AtMost items z) after n) is put))

  module _ (other : List Item) (turn : other ≡ map opposite_item items) where
    pub greater_equal : rel ≡ GreaterEqual → (m : ℤ) → m ≡ neg_ℤ k → Puts before (AtMost other m) after n → TakesCompared before items rel k after n
    greater_equal e m is put =
        related GreaterEqual e (λ contents sum table backed same.
        opposite_at_most contents before after items other sum (neg_ℤ k) n table backed same turn (subst (λ z. Puts before (AtMost other z) after n) is put))

    pub greater : rel ≡ Greater → (m : ℤ) → m ≡ neg_ℤ k -ℤ pos 1 → Puts before (AtMost other m) after n → TakesCompared before items rel k after n
    greater e m is put =
        related Greater e (λ contents sum table backed same.
        opposite_at_most contents before after items other sum (neg_ℤ k -ℤ pos 1) n table backed same turn (subst (λ z. Puts before (AtMost other z) after n) is put))

    pub equal : rel ≡ Equal → (m o : ℤ) → m ≡ k → o ≡ neg_ℤ k → TakesBoth before (AtMost items m) (AtMost other o) after n → TakesCompared before items rel k after n
    equal e m o m_is o_is takes =
        related Equal e (λ contents sum table backed same.
        takes contents sum k table backed (ap₂ (λ xs z. AtMost xs z) same m_is) (ap₂ (λ xs z. AtMost xs z) (turned contents items other sum same turn) o_is))

    pub not_equal : rel ≡ NotEqual → (m o : ℤ) → m ≡ k -ℤ pos 1 → o ≡ neg_ℤ k -ℤ pos 1 → TakesEither before (AtMost items m) (AtMost other o) after n → TakesCompared before items rel k after n
    not_equal e m o m_is o_is takes =
        related NotEqual e (λ contents sum table backed same.
        takes contents sum k table backed (ap₂ (λ xs z. AtMost xs z) same m_is) (ap₂ (λ xs z. AtMost xs z) (turned contents items other sum same turn) o_is))
