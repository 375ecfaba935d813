-- Relations and theory atoms go into the table.
use Rattle.std.proofs.Common.{◌≡◌, ℕ, ◌<◌, ◌^◌, Bool, true, false, cond, not, ◌&&◌, List, [], ◌∷◌, map, filter, refl, sym, ◌∙◌, ap, subst, ℤ, pos, ◌+ℤ◌, ◌-ℤ◌, unsigned_abs, All, arith}
use Rattle.std.specs.Ordering.{int_eq}
use Rattle.std.specs.List.{AllByRecursion, list_all, range_with_len}
use Rattle.std.proofs.lemmas.List.Elements.{All-from_recursion}
use Rattle.std.proofs.lemmas.Int.{ints}
use Rattle.ground_model.specs.declared.linear.Relation.{Relation}
use Rattle.ground_model.specs.declared.rule.TheoryHead.{TheoryHead}
use Rattle.ground_model.specs.Sound.{is_small, total_constant, total_coefficient, first_places, are_sound_places, is_sound_linear, has_few_variables, is_small_difference}
use Rattle.ground_model.proofs.Bools.{and_elim}
use Rattle.ground_model.proofs.SizeLemmas.{small_abs}
use Rattle.linear_normal.specs.declared.constraint.Item.{Item}
use Rattle.linear_normal.specs.declared.constraint.Constraint.{Constraint}
use Rattle.linear_normal.specs.Contents.{Content, compared, parts_of}
use Rattle.linear_normal.specs.Demands.{moved_coefficient, moved_pairs, terms_of, relation_content, theory_content}
use Rattle.linear_normal.specs.Numbering.{item_of, constraint_of}
use Rattle.linear_normal.specs.inner.Sums.{IsSoundOver}
use Rattle.linear_normal.specs.inner.Tables.{IsBackedTerm, IsBacked, IsTable, Puts, Takes, TakesCompared, IsSmallItem, GivesNumber, value_item}
use Rattle.linear_normal.proofs.PartLemmas.{alone}

differs : (variables : ℕ) (relation : Relation) → IsSoundOver variables relation → is_small_difference variables (first_places relation.elements) (relation.right ∷ []) ≡ true
differs variables relation sound =
    (and_elim (are_sound_places sound.0 variables relation.elements && is_sound_linear variables relation.right && has_few_variables variables (relation.right ∷ first_places relation.elements))
    (is_small_difference variables (first_places relation.elements) (relation.right ∷ [])) sound.1).1

-- the coefficients are small
small_kept : (number : ℕ → ℤ) (xs : List ℕ) → list_all (λ x. is_small (number x)) xs ≡ true
    → AllByRecursion IsSmallItem (map value_item (filter (λ pair. not (int_eq pair.1 (pos 0))) (map (λ x. (x, number x)) xs)))
small_kept number [] e = tt
small_kept number (x ∷ xs) e =
    let p = and_elim (is_small (number x)) (list_all (λ x. is_small (number x)) xs) e in
    go (not (int_eq (number x) (pos 0))) (small_abs (number x) p.0) (small_kept number xs p.1)
  where
    go : (b : Bool) → unsigned_abs (number x) < 2 ^ 62 → AllByRecursion IsSmallItem (map value_item (filter (λ pair. not (int_eq pair.1 (pos 0))) (map (λ x. (x, number x)) xs)))
        → AllByRecursion IsSmallItem (map value_item (cond b ((x, number x) ∷ filter (λ pair. not (int_eq pair.1 (pos 0))) (map (λ x. (x, number x)) xs)) (filter (λ pair. not (int_eq pair.1 (pos 0))) (map (λ x. (x, number x)) xs))))
    go true s rest = (s, rest)
    go false s rest = rest

pub items_small : (variables : ℕ) (relation : Relation) (items : List Item) (pairs : List (ℕ × ℤ)) → IsSoundOver variables relation
    → pairs ≡ moved_pairs variables (first_places relation.elements) (relation.right ∷ []) → items ≡ map value_item pairs → All IsSmallItem items
items_small variables relation items pairs sound moved same =
    All-from_recursion IsSmallItem items (subst (AllByRecursion IsSmallItem) (sym (same ∙ ap (map value_item) moved))
    (small_kept (moved_coefficient (first_places relation.elements) (relation.right ∷ [])) (range_with_len 1 variables)
    (and_elim (list_all (λ x. is_small (total_coefficient x (first_places relation.elements) -ℤ total_coefficient x (relation.right ∷ []))) (range_with_len 1 variables))
    (is_small (total_constant (first_places relation.elements) -ℤ total_constant (relation.right ∷ []))) (differs variables relation sound)).0))

-- the constant is small
turned_small : (l r : ℤ) → unsigned_abs (l -ℤ (r +ℤ pos 0)) < 2 ^ 62 → unsigned_abs (r -ℤ l) < 2 ^ 62
turned_small l r h = omega (arith, ints, h)

pub constant_small : (variables : ℕ) (relation : Relation) (k : ℤ) → IsSoundOver variables relation → k ≡ relation.right.constant -ℤ total_constant (first_places relation.elements) → unsigned_abs k < 2 ^ 62
constant_small variables relation k sound same =
    subst (λ z. unsigned_abs z < 2 ^ 62) (sym same)
    (turned_small (total_constant (first_places relation.elements)) relation.right.constant (small_abs (total_constant (first_places relation.elements) -ℤ total_constant (relation.right ∷ []))
    (and_elim (list_all (λ x. is_small (total_coefficient x (first_places relation.elements) -ℤ total_coefficient x (relation.right ∷ []))) (range_with_len 1 variables))
    (is_small (total_constant (first_places relation.elements) -ℤ total_constant (relation.right ∷ []))) (differs variables relation sound)).1))

-- what is taken is given
pub given : (before after : List Constraint) (content : Content) (n : ℕ) → ((contents : List Content) → IsTable contents before → Takes contents content after n) → GivesNumber before after content n
given before after content n takes = record {
  table = λ contents table. (takes contents table).table;
  holds = λ contents table later begins. (takes contents table).number later begins;
}

pub variables_backed : (contents : List Content) (pairs : List (ℕ × ℤ)) → AllByRecursion (IsBackedTerm contents) (terms_of pairs)
variables_backed contents [] = tt
variables_backed contents (pair ∷ pairs) = (tt, variables_backed contents pairs)

value_terms : (contents : List Content) (pairs : List (ℕ × ℤ)) → map value_item pairs ≡ map (item_of contents) (terms_of pairs)
value_terms contents [] = refl
value_terms contents (pair ∷ pairs) = ap (λ items. value_item pair ∷ items) (value_terms contents pairs)

pub relation_given : (before after : List Constraint) (variables : ℕ) (relation : Relation) (items : List Item) (pairs : List (ℕ × ℤ)) (k m : ℤ) (n : ℕ)
    → pairs ≡ moved_pairs variables (first_places relation.elements) (relation.right ∷ []) → k ≡ relation.right.constant -ℤ total_constant (first_places relation.elements)
    → items ≡ map value_item pairs → m ≡ k → TakesCompared before items relation.rel m after n → GivesNumber before after (relation_content variables relation) n
relation_given before after variables relation items pairs k m n moved constant same m_is takes =
    given before after (relation_content variables relation) n (λ contents table.
    let moved_terms = terms_of (moved_pairs variables (first_places relation.elements) (relation.right ∷ [])) in
    let taken = takes contents moved_terms table (variables_backed contents (moved_pairs variables (first_places relation.elements) (relation.right ∷ [])))
    (same ∙ ap (map value_item) moved ∙ value_terms contents (moved_pairs variables (first_places relation.elements) (relation.right ∷ []))) in
    subst (λ z. Takes contents (compared moved_terms relation.rel z) after n) (m_is ∙ constant) taken)

-- a content with no parts, which names nothing
pub plain_given : (before after : List Constraint) (content : Content) (key : Constraint) (n : ℕ) → parts_of content ≡ [] → ((contents : List Content) → IsBacked contents content)
    → ((contents : List Content) → key ≡ constraint_of contents content) → Puts before key after n → GivesNumber before after content n
plain_given before after content key n parts backed same put =
    given before after content n (λ contents table. alone contents content before after key n parts table (backed contents) (same contents) put)

pub theory_as : (before after : List Constraint) (variables : ℕ) (theory is : TheoryHead) (n : ℕ) → theory ≡ is → GivesNumber before after (theory_content variables is) n → GivesNumber before after (theory_content variables theory) n
theory_as before after variables theory is n e gives = subst (λ (t : TheoryHead). GivesNumber before after (theory_content variables t) n) (sym e) gives
