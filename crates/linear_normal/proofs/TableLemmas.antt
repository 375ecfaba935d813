-- The table of constraints grows as the list of contents does, and the numbers of what is there stay.
use Rattle.std.proofs.Common.{◌≡◌, ℕ, suc, ◌+◌, ◌<◌, ◌^◌, Bool, true, false, cond, not, ◌||◌, List, [], ◌∷◌, ◌++◌, map, length, refl, sym, ◌∙◌, ap, ap₂, subst, true≢false, pos, ◌-ℤ◌, neg_ℤ, Some, None, nat_lt, position, fold, append_assoc, append-nil, length-append, arith}
use Rattle.std.specs.List.{AllByRecursion, list_any, position_or_len}
use Rattle.std.proofs.lemmas.List.{map-append}
use Rattle.linear_normal.specs.declared.constraint.Item.{Item}
use Rattle.linear_normal.specs.declared.constraint.Constraint.{Constraint}
use Rattle.linear_normal.specs.declared.constraint.Constraint.TheVariants.{AtMost, Both, Either}
use Rattle.linear_normal.specs.contracts.constraint.ConstraintPartialEq.TheImpl.{ghosts as of_constraint}
use Rattle.linear_normal.specs.Contents.{Term, Variable, Counted, Content, SumAtMost, SumEquals, SumDiffers, InSet, AllDiffer, NoneOverlap, SomeTrue, opposite, parts_of, same_content}
use Rattle.linear_normal.specs.Demands.{with_content, number_of}
use Rattle.linear_normal.specs.Numbering.{item_of, constraint_of}
use Rattle.linear_normal.specs.inner.Tables.{is_there, Begins, IsBackedTerm, IsBacked, HasKeys, Puts, IsPlaceOr}
use Rattle.linear_normal.proofs.ContentLemmas.{content_same}
use Rattle.linear_normal.proofs.KeyLemmas.{same_keys}

-- LATER LISTS

pub begins_same : (contents : List Content) → Begins contents contents
begins_same contents = record { more = []; same = sym (append-nil contents) }

pub begins_then : (a b c : List Content) → Begins a b → Begins b c → Begins a c
begins_then a b c p q = record {
  more = p.more ++ q.more;
  same = q.same ∙ ap (λ xs. xs ++ q.more) p.same ∙ append_assoc a p.more q.more;
}

pub begins_with : (contents : List Content) (content : Content) → Begins contents (with_content contents content)
begins_with contents content = go (is_there contents content)
  where
    go : (b : Bool) → Begins contents (cond b contents (contents ++ content ∷ []))
    go true = begins_same contents
    go false = record { more = content ∷ []; same = refl }

pub begins_fold : (contents demands : List Content) → Begins contents (fold with_content contents demands)
begins_fold contents [] = begins_same contents
begins_fold contents (d ∷ demands) =
    begins_then contents (with_content contents d) (fold with_content (with_content contents d) demands) (begins_with contents d) (begins_fold (with_content contents d) demands)

-- what is there stays there, under its number
there_append : (contents more : List Content) (content : Content) → is_there contents content ≡ true → is_there (contents ++ more) content ≡ true
there_append [] more content e = absurd (true≢false (sym e))
there_append (c ∷ contents) more content e = go (same_content c content) e (there_append contents more content)
  where
    go : (b : Bool) → (b || is_there contents content) ≡ true → (is_there contents content ≡ true → is_there (contents ++ more) content ≡ true) → (b || is_there (contents ++ more) content) ≡ true
    go true e rec = refl
    go false e rec = rec e

pub there_later : (first later : List Content) (content : Content) → Begins first later → is_there first content ≡ true → is_there later content ≡ true
there_later first later content b e = subst (λ xs. is_there xs content ≡ true) (sym b.same) (there_append first b.more content e)

number_append : (contents more : List Content) (content : Content) → is_there contents content ≡ true → number_of (contents ++ more) content ≡ number_of contents content
number_append [] more content e = absurd (true≢false (sym e))
number_append (c ∷ contents) more content e = go (same_content c content) e (number_append contents more content)
  where
    go : (b : Bool) → (b || is_there contents content) ≡ true → (is_there contents content ≡ true → number_of (contents ++ more) content ≡ number_of contents content)
        → cond b 1 (number_of (contents ++ more) content + 1) ≡ cond b 1 (number_of contents content + 1)
    go true e rec = refl
    go false e rec = ap (λ n. n + 1) (rec e)

pub number_later : (first later : List Content) (content : Content) → Begins first later → is_there first content ≡ true → number_of later content ≡ number_of first content
number_later first later content b e = ap (λ xs. number_of xs content) b.same ∙ number_append first b.more content e

-- what is not there has the next number
pub number_next : (contents : List Content) (content : Content) → is_there contents content ≡ false → number_of contents content ≡ length contents + 1
number_next [] content e = refl
number_next (c ∷ contents) content e = go (same_content c content) e (number_next contents content)
  where
    go : (b : Bool) → (b || is_there contents content) ≡ false → (is_there contents content ≡ false → number_of contents content ≡ length contents + 1)
        → cond b 1 (number_of contents content + 1) ≡ length (c ∷ contents) + 1
    go true e rec = absurd (true≢false e)
    go false e rec = let r = rec e in omega (arith, r)

-- and takes it when it is added
number_pushed : (contents : List Content) (content : Content) → number_of (contents ++ content ∷ []) content ≡ number_of contents content
number_pushed [] content = rw (content_same content) refl
number_pushed (c ∷ contents) content = go (same_content c content) (number_pushed contents content)
  where
    go : (b : Bool) → number_of (contents ++ content ∷ []) content ≡ number_of contents content
        → cond b 1 (number_of (contents ++ content ∷ []) content + 1) ≡ cond b 1 (number_of contents content + 1)
    go true rec = refl
    go false rec = ap (λ n. n + 1) rec

pub number_with : (contents : List Content) (content : Content) → number_of (with_content contents content) content ≡ number_of contents content
number_with contents content = go (is_there contents content)
  where
    go : (b : Bool) → number_of (cond b contents (contents ++ content ∷ [])) content ≡ number_of contents content
    go true = refl
    go false = number_pushed contents content

-- BACKED CONTENTS

pub backed_terms_later : (first later : List Content) (sum : List Term) → Begins first later → AllByRecursion (IsBackedTerm first) sum → AllByRecursion (IsBackedTerm later) sum
backed_terms_later first later [] b backed = tt
backed_terms_later first later (Variable x c ∷ sum) b backed = (tt, backed_terms_later first later sum b backed.1)
backed_terms_later first later (Counted bodies c ∷ sum) b backed =
    (there_later first later (SomeTrue bodies) b backed.0, backed_terms_later first later sum b backed.1)

all_there_later : (first later : List Content) (parts : List Content) → Begins first later → AllByRecursion (λ part. is_there first part ≡ true) parts → AllByRecursion (λ part. is_there later part ≡ true) parts
all_there_later first later [] b backed = tt
all_there_later first later (part ∷ parts) b backed = (there_later first later part b backed.0, all_there_later first later parts b backed.1)

pub backed_later : (first later : List Content) (content : Content) → Begins first later → IsBacked first content → IsBacked later content
backed_later first later (SumAtMost sum k) b backed = backed_terms_later first later sum b backed
backed_later first later (SumEquals sum k) b backed = all_there_later first later (parts_of (SumEquals sum k)) b backed
backed_later first later (SumDiffers sum k) b backed = all_there_later first later (parts_of (SumDiffers sum k)) b backed
backed_later first later (InSet x set) b backed = tt
backed_later first later (AllDiffer places) b backed = tt
backed_later first later (NoneOverlap places) b backed = tt
backed_later first later (SomeTrue bodies) b backed = tt

pub items_later : (first later : List Content) (sum : List Term) → Begins first later → AllByRecursion (IsBackedTerm first) sum → map (item_of later) sum ≡ map (item_of first) sum
items_later first later [] b backed = refl
items_later first later (Variable x c ∷ sum) b backed = ap (λ items. item_of later (Variable x c) ∷ items) (items_later first later sum b backed.1)
items_later first later (Counted bodies c ∷ sum) b backed =
    ap₂ (λ n items. Rattle.linear_normal.specs.declared.constraint.Item.TheVariants.Truth n c ∷ items) (number_later first later (SomeTrue bodies) b backed.0) (items_later first later sum b backed.1)

pub constraint_later : (first later : List Content) (content : Content) → Begins first later → IsBacked first content → constraint_of later content ≡ constraint_of first content
constraint_later first later (SumAtMost sum k) b backed = ap (λ items. AtMost items k) (items_later first later sum b backed)
constraint_later first later (SumEquals sum k) b backed =
    ap₂ Both (number_later first later (SumAtMost sum k) b backed.0) (number_later first later (SumAtMost (opposite sum) (neg_ℤ k)) b backed.1.0)
constraint_later first later (SumDiffers sum k) b backed =
    ap₂ Either (number_later first later (SumAtMost sum (k -ℤ pos 1)) b backed.0) (number_later first later (SumAtMost (opposite sum) (neg_ℤ k -ℤ pos 1)) b backed.1.0)
constraint_later first later (InSet x set) b backed = refl
constraint_later first later (AllDiffer places) b backed = refl
constraint_later first later (NoneOverlap places) b backed = refl
constraint_later first later (SomeTrue bodies) b backed = refl

constraints_later : (first later contents : List Content) → Begins first later → AllByRecursion (IsBacked first) contents → map (constraint_of later) contents ≡ map (constraint_of first) contents
constraints_later first later [] b backed = refl
constraints_later first later (c ∷ contents) b backed = ap₂ ◌∷◌ (constraint_later first later c b backed.0) (constraints_later first later contents b backed.1)

all_backed_later : (first later contents : List Content) → Begins first later → AllByRecursion (IsBacked first) contents → AllByRecursion (IsBacked later) contents
all_backed_later first later [] b backed = tt
all_backed_later first later (c ∷ contents) b backed = (backed_later first later c b backed.0, all_backed_later first later contents b backed.1)

pub keys_later : (first later contents : List Content) (keys : List Constraint) → Begins first later → HasKeys first contents keys → HasKeys later contents keys
keys_later first later contents keys b has = record {
  same = has.same ∙ sym (constraints_later first later contents b has.backed);
  backed = all_backed_later first later contents b has.backed;
}

-- ONE KEY

module _ (numbers : List Content) (content : Content) (is : IsBacked numbers content) where
  abbrev key : Constraint
  key = constraint_of numbers content

  any_key : (contents : List Content) → AllByRecursion (IsBacked numbers) contents → list_any (of_constraint.eq key) (map (constraint_of numbers) contents) ≡ is_there contents content
  any_key [] backed = refl
  any_key (c ∷ contents) backed = ap₂ ◌||◌ (same_keys numbers c content backed.0 is) (any_key contents backed.1)

  place_key : (contents : List Content) → AllByRecursion (IsBacked numbers) contents
      → position_or_len (of_constraint.eq key) (map (constraint_of numbers) contents) + 1 ≡ number_of contents content
  place_key [] backed = refl
  place_key (c ∷ contents) backed = go (of_constraint.eq key (constraint_of numbers c)) (same_content c content) (same_keys numbers c content backed.0 is) (place_key contents backed.1)
    where
      go : (s t : Bool) → s ≡ t → position_or_len (of_constraint.eq key) (map (constraint_of numbers) contents) + 1 ≡ number_of contents content
          → cond (not s) (1 + position_or_len (of_constraint.eq key) (map (constraint_of numbers) contents)) 0 + 1 ≡ cond t 1 (number_of contents content + 1)
      go true true e rec = refl
      go true false e rec = absurd (true≢false e)
      go false true e rec = absurd (true≢false (sym e))
      go false false e rec = omega (arith, rec)

  all_pushed : (contents : List Content) → AllByRecursion (IsBacked numbers) contents → AllByRecursion (IsBacked numbers) (contents ++ content ∷ [])
  all_pushed [] backed = (is, tt)
  all_pushed (c ∷ contents) backed = (backed.0, all_pushed contents backed.1)

  all_with : (contents : List Content) → AllByRecursion (IsBacked numbers) contents → AllByRecursion (IsBacked numbers) (with_content contents content)
  all_with contents backed = go (is_there contents content)
    where
      go : (b : Bool) → AllByRecursion (IsBacked numbers) (cond b contents (contents ++ content ∷ []))
      go true = backed
      go false = all_pushed contents backed

  with_key : (contents : List Content) → AllByRecursion (IsBacked numbers) contents
      → cond (list_any (of_constraint.eq key) (map (constraint_of numbers) contents)) (map (constraint_of numbers) contents) (map (constraint_of numbers) contents ++ key ∷ [])
      ≡ map (constraint_of numbers) (with_content contents content)
  with_key contents backed =
      ap (λ b. cond b (map (constraint_of numbers) contents) (map (constraint_of numbers) contents ++ key ∷ [])) (any_key contents backed) ∙ go (is_there contents content)
    where
      go : (b : Bool) → cond b (map (constraint_of numbers) contents) (map (constraint_of numbers) contents ++ key ∷ []) ≡ map (constraint_of numbers) (cond b contents (contents ++ content ∷ []))
      go true = refl
      go false = sym (map-append (constraint_of numbers) contents (content ∷ []))

-- what is put at its place is its content's number
pub puts : (before after : List Constraint) (key : Constraint) (place n : ℕ)
    → after ≡ cond (list_any (of_constraint.eq key) before) before (before ++ key ∷ []) → place ≡ position_or_len (of_constraint.eq key) before → n ≡ place + 1 → n < 2 ^ 32
    → Puts before key after n
puts before after key place n keys at number small = record {
  keys = λ numbers contents content has is same. record {
    same =
        keys
        ∙ ap₂ (λ xs k. cond (list_any (of_constraint.eq k) xs) xs (xs ++ k ∷ [])) has.same same
        ∙ with_key numbers content is contents has.backed;
    backed = all_with numbers content is contents has.backed;
  };
  number = λ numbers contents content has is same.
      number ∙ ap (λ p. p + 1) (at ∙ ap₂ (λ xs k. position_or_len (of_constraint.eq k) xs) has.same same) ∙ place_key numbers content is contents has.backed;
  few = λ f. subst (λ xs. length xs < 2 ^ 32) (sym keys) (go (list_any (of_constraint.eq key) before) refl f);
}
  where
    last : (xs : List Constraint) → list_any (of_constraint.eq key) xs ≡ false → position_or_len (of_constraint.eq key) xs ≡ length xs
    last [] e = refl
    last (x ∷ xs) e = step (of_constraint.eq key x) e (last xs)
      where
        step : (b : Bool) → (b || list_any (of_constraint.eq key) xs) ≡ false → (list_any (of_constraint.eq key) xs ≡ false → position_or_len (of_constraint.eq key) xs ≡ length xs)
            → cond (not b) (1 + position_or_len (of_constraint.eq key) xs) 0 ≡ suc (length xs)
        step true e rec = absurd (true≢false e)
        step false e rec = let r = rec e in omega (arith, r)

    go : (b : Bool) → list_any (of_constraint.eq key) before ≡ b → length before < 2 ^ 32 → length (cond b before (before ++ key ∷ [])) < 2 ^ 32
    go true e f = f
    go false e f = let l = last before e in let a = length-append before (key ∷ []) in omega (arith, l, a, at, number, small)

-- the place of what is found
pub place_found : (keys : List Constraint) (key : Constraint) (next place : ℕ) → true ≡ list_any (of_constraint.eq key) keys → Some place ≡ position (of_constraint.eq key) keys
    → IsPlaceOr keys key next place
place_found keys key next place found at numbers contents content has is same =
    ap (λ p. p + 1) (go (nat_lt (position_or_len (of_constraint.eq key) keys) (length keys)) at)
    ∙ ap₂ (λ xs k. position_or_len (of_constraint.eq k) xs + 1) has.same same
    ∙ place_key numbers content is contents has.backed
    ∙ ap (λ b. cond b (number_of contents content) (next + 1)) (found ∙ ap₂ (λ xs k. list_any (of_constraint.eq k) xs) has.same same ∙ any_key numbers content is contents has.backed)
  where
    go : (b : Bool) → Some place ≡ cond b (Some (position_or_len (of_constraint.eq key) keys)) None → place ≡ position_or_len (of_constraint.eq key) keys
    go true e = cc
    go false e = cc

-- and of what is not
pub place_next : (keys : List Constraint) (k : Constraint) (next : ℕ) → false ≡ list_any (of_constraint.eq k) keys → IsPlaceOr keys k next next
place_next keys k next absent numbers contents content has is same =
    ap (λ b. cond b (number_of contents content) (next + 1)) (absent ∙ ap₂ (λ xs k. list_any (of_constraint.eq k) xs) has.same same ∙ any_key numbers content is contents has.backed)
