-- One item more of a fold, and what a term's rules give its parts.
use Rattle.std.proofs.Common.{◌≡◌, ℕ, zero, suc, ◌+◌, ◌<◌, Bool, true, false, not, ◌==◌, ◌&&◌, IsTrue, List, [], ◌∷◌, ◌++◌, map, fold, take, add-one, length, Option, Some, None, slice_index_or, refl, sym, ap, ◌∙◌, subst, arith, length-append}
use Rattle.std.specs.List.{All, list_all}
use Rattle.std.specs.Str.{is_utf8}
use Rattle.symbols.specs.Symbol.{Symbol, MoreSymbols, Function, arguments}
use Rattle.symbols.specs.Table.{symbol_at, symbols_at, applied, IsFront}
use Rattle.syntax_tree.specs.declared.term.Op.{Op}
use Rattle.syntax_tree.specs.declared.term.Term.{Term, roll-Term}
use Rattle.syntax_tree.specs.declared.term.Term.TheOpen.{Term-F}
use Rattle.syntax_tree.specs.declared.term.Term.TheFolds.{fold-roll-Term, fold-roll-Part}
use Rattle.syntax_tree.specs.declared.term.Term.TheVariants as t
use Rattle.syntax_tree.specs.declared.term.Part.{Part}
use Rattle.syntax_tree.specs.declared.term.Term.TheViews.{out-Part, roll-out-Part}
use Rattle.syntax_tree.specs.declared.binding.Value.{Value}
use Rattle.syntax_tree.specs.declared.worth.Worth.{Worth}
use Rattle.syntax_tree.specs.declared.worth.Places.{Places}
use Rattle.syntax_tree.specs.declared.worth.Places.TheVariants as places
use Rattle.syntax_tree.specs.Tree.{is_name, is_term, is_part, are_parts, begins_sum, adds, begins_product, multiplies}
use Rattle.syntax_tree.specs.Outcome.{Outcome, IsSymbol, IsOver, IsUndefined, IsKnown, bound_in}
use Rattle.syntax_tree.specs.Value.{AreSymbols, HasOver, HasUndefined, with_argument, shallow, applied_to, joined, variable, value_of, part_value, value_step, part_step}
use Rattle.syntax_tree.specs.inner.Worth.{outcome, outcomes, IsOptionHeld, gathered, AreHeld}
use Rattle.syntax_tree.proofs.TreeRules.{function_rules, tuple_rules, sum_rules, product_rules}
use Rattle.syntax_tree.proofs.Holding.{gathered-front, outcomes-front, bound-front}

pub fold_more : {A B S : Type 0} (f : S → B → S) (z : S) (g : A → B) (xs : List A) (i : ℕ) (x : A) → x ≡ slice_index_or xs i x → i < length xs
    → fold f z (map g (take (suc i) xs)) ≡ f (fold f z (map g (take i xs))) (g x)
fold_more f z g [] i x h b = absurd (omega arith)
fold_more f z g (y ∷ xs) zero x h b = ap (λ v. f z (g v)) (sym h)
fold_more f z g (y ∷ xs) (suc i) x h b = fold_more f (f z (g y)) g xs i x h (omega arith)

-- the symbols at places, as a list
arguments_at : (symbols : List Symbol) (ids : List ℕ) → symbols_at symbols ids ≡ arguments (map (symbol_at symbols) ids)
arguments_at symbols [] = refl
arguments_at symbols (id ∷ ids) = ap (MoreSymbols (symbol_at symbols id)) (arguments_at symbols ids)

pub ids_value : (symbols : List Symbol) (name : List ℕ) (args : Places) (ids items : List ℕ) → args ≡ places.Ids ids → items ≡ ids
    → shallow (applied symbols name items) ≡ applied_to name (gathered symbols args)
ids_value symbols name args ids items is same =
    ap (λ xs. shallow (applied symbols name xs)) same
    ∙ ap (λ xs. shallow (Function name xs)) (arguments_at symbols ids)
    ∙ ap (λ p. applied_to name (gathered symbols p)) (sym is)

-- all arguments are symbols only where each is
undefined_stays : (outs : List Outcome) (ts : List Symbol) → fold with_argument HasUndefined outs ≡ AreSymbols ts → ⊥
undefined_stays [] ts h = cc
undefined_stays (o ∷ outs) ts h = undefined_stays outs ts h

over_stays : (outs : List Outcome) (ts : List Symbol) → fold with_argument HasOver outs ≡ AreSymbols ts → ⊥
over_stays [] ts h = cc
over_stays (IsSymbol s ∷ outs) ts h = over_stays outs ts h
over_stays (IsOver ∷ outs) ts h = over_stays outs ts h
over_stays (IsUndefined ∷ outs) ts h = undefined_stays outs ts h

count : (outs : List Outcome) (ss ts : List Symbol) → fold with_argument (AreSymbols ss) outs ≡ AreSymbols ts → length ts ≡ length ss + length outs
count [] ss ts h = let e : ss ≡ ts = cc in omega (arith, ap length e)
count (IsSymbol s ∷ outs) ss ts h = let more = count outs (ss ++ s ∷ []) ts h in omega (arith, more, length-append ss (s ∷ []))
count (IsOver ∷ outs) ss ts h = absurd (over_stays outs ts h)
count (IsUndefined ∷ outs) ss ts h = absurd (undefined_stays outs ts h)

pub no_arguments : (g : Term → Outcome) (args : List Term) → fold with_argument (AreSymbols []) (map g args) ≡ AreSymbols [] → args ≡ []
no_arguments g [] h = refl
no_arguments g (x ∷ xs) h = absurd (omega (arith, count (map g (x ∷ xs)) [] [] h))

-- what holds of all holds of each
left : (a b : Bool) → IsTrue (a && b) → IsTrue a
left true b h = refl
left false b h = absurd cc

right : (a b : Bool) → IsTrue (a && b) → IsTrue b
right true b h = h
right false b h = absurd cc

first_then : {A : Type 0} (P : A → Type 0) (x : A) (xs : List A) → P x → All P xs → All P (x ∷ xs)
first_then P x xs p rest zero d b = p
first_then P x xs p rest (suc k) d b = rest k d (omega arith)

none_yet : {A : Type 0} (P : A → Type 0) → All P []
none_yet P = λ k d b. absurd (omega arith)

each_of : {A : Type 0} (f : A → Bool) (xs : List A) → IsTrue (list_all (λ b. b) (map f xs)) → All (λ x. IsTrue (f x)) xs
each_of f [] h = none_yet (λ x. IsTrue (f x))
each_of f (x ∷ xs) h = first_then (λ y. IsTrue (f y)) x xs (left (f x) _ h) (each_of f xs (right (f x) _ h))

further_of : (further : Op → Bool) (xs : List Part) → IsTrue (list_all (λ p. further p.0 && p.1) (map is_part xs)) → All (λ x. IsTrue (is_part x).1) xs
further_of further [] h = none_yet (λ x. IsTrue (is_part x).1)
further_of further (x ∷ xs) h =
    first_then (λ y. IsTrue (is_part y).1) x xs (right (further (is_part x).0) (is_part x).1 (left (further (is_part x).0 && (is_part x).1) _ h))
    (further_of further xs (right (further (is_part x).0 && (is_part x).1) _ h))

parts_of : (first further : Op → Bool) (xs : List Part) → IsTrue (are_parts first further (map is_part xs)) → All (λ x. IsTrue (is_part x).1) xs
parts_of first further [] h = absurd cc
parts_of first further (x ∷ xs) h =
    first_then (λ y. IsTrue (is_part y).1) x xs (right (first (is_part x).0) (is_part x).1 (left (first (is_part x).0 && (is_part x).1) _ h))
    (further_of further xs (right (first (is_part x).0 && (is_part x).1) _ h))

pub at_variable : (bound : List Outcome) (n : ℕ) → value_of bound (t.Variable n) ≡ variable bound n
unfolding roll-Term denote.Hole.Carrier.roll
at_variable bound n = fold-roll-Term Outcome (Op × Outcome) (value_step bound) part_step (Term-F.Variable n)

pub function_name : (term : Term) (name bytes : List ℕ) (args : List Term) → IsTrue (is_term term) → term ≡ t.Function name args → bytes ≡ name → IsTrue (is_utf8 bytes)
function_name term name bytes args h is same =
    let rules = subst (λ x. IsTrue x) (ap is_term is ∙ function_rules name args) h in
    subst (λ x. IsTrue (is_utf8 x)) (sym same) (right (not (length name == 0)) (is_utf8 name) (left (is_name name) _ rules))

pub function_args : (term : Term) (name : List ℕ) (args slice : List Term) → IsTrue (is_term term) → term ≡ t.Function name args → slice ≡ args → All (λ x. IsTrue (is_term x)) slice
function_args term name args slice h is same =
    let rules = subst (λ x. IsTrue x) (ap is_term is ∙ function_rules name args) h in
    subst (All (λ x. IsTrue (is_term x))) (sym same) (each_of is_term args (right (is_name name) _ rules))

pub tuple_args : (term : Term) (args slice : List Term) → IsTrue (is_term term) → term ≡ t.Tuple args → slice ≡ args → All (λ x. IsTrue (is_term x)) slice
tuple_args term args slice h is same =
    let rules = subst (λ x. IsTrue x) (ap is_term is ∙ tuple_rules args) h in
    subst (All (λ x. IsTrue (is_term x))) (sym same) (each_of is_term args rules)

pub sum_parts : (term : Term) (parts slice : List Part) → IsTrue (is_term term) → term ≡ t.Sum parts → slice ≡ parts → All (λ x. IsTrue (is_part x).1) slice
sum_parts term parts slice h is same =
    let rules = subst (λ x. IsTrue x) (ap is_term is ∙ sum_rules parts) h in
    subst (All (λ x. IsTrue (is_part x).1)) (sym same) (parts_of begins_sum adds parts rules)

pub product_parts : (term : Term) (parts slice : List Part) → IsTrue (is_term term) → term ≡ t.Product parts → slice ≡ parts → All (λ x. IsTrue (is_part x).1) slice
product_parts term parts slice h is same =
    let rules = subst (λ x. IsTrue x) (ap is_term is ∙ product_rules parts) h in
    subst (All (λ x. IsTrue (is_part x).1)) (sym same) (parts_of begins_product multiplies parts rules)

-- one argument more
pub arguments_turn : (first table mid new : List Symbol) (values : List (Option Value)) (args : List Term) (i : ℕ) (x : Term) (p q : Places) (w : Worth)
    → x ≡ slice_index_or args i x → i < length args → IsFront first table → IsFront table mid → All (IsKnown (length first)) values → AreHeld (length table) p
    → gathered table p ≡ fold with_argument (AreSymbols []) (map (value_of (bound_in first values)) (take i args))
    → outcome mid w ≡ value_of (bound_in table values) x
    → gathered new q ≡ with_argument (gathered mid p) (outcome mid w)
    → gathered new q ≡ fold with_argument (AreSymbols []) (map (value_of (bound_in first values)) (take (i + 1) args))
arguments_turn first table mid new values args i x p q w item inside front more k held so_far is step =
    let all : fold with_argument (AreSymbols []) (map (value_of (bound_in first values)) (take (i + 1) args))
    ≡ with_argument (fold with_argument (AreSymbols []) (map (value_of (bound_in first values)) (take i args))) (value_of (bound_in first values) x) =
    rw add-one (fold_more with_argument (AreSymbols []) (value_of (bound_in first values)) args i x item inside) in
    let before : gathered mid p ≡ fold with_argument (AreSymbols []) (map (value_of (bound_in first values)) (take i args)) = gathered-front table mid p more held ∙ so_far in
    let here : outcome mid w ≡ value_of (bound_in first values) x = is ∙ ap (λ b. value_of b x) (bound-front first table values front k) in
    step ∙ (λ j. with_argument (before j) (here j)) ∙ sym all

pub at_part : (bound : List Outcome) (x : Part) → part_value bound x ≡ (x.op, value_of bound x.term)
at_part bound x =
    ap (part_value bound) (sym (roll-out-Part x)) ∙ fold-roll-Part Outcome (Op × Outcome) (value_step bound) part_step (out-Part x)

-- one part more
pub parts_turn : (first table mid : List Symbol) (values : List (Option Value)) (parts : List Part) (i : ℕ) (x : Part) (p : Option Worth) (q w : Worth)
    → x ≡ slice_index_or parts i x → i < length parts → IsFront first table → IsFront table mid → All (IsKnown (length first)) values → IsOptionHeld (length table) p
    → outcomes table p ≡ fold joined None (map (part_value (bound_in first values)) (take i parts))
    → outcome mid w ≡ value_of (bound_in table values) x.term
    → outcomes mid (Some q) ≡ joined (outcomes mid p) (x.op, outcome mid w)
    → outcomes mid (Some q) ≡ fold joined None (map (part_value (bound_in first values)) (take (i + 1) parts))
parts_turn first table mid values parts i x p q w item inside front more k held so_far is step =
    let all : fold joined None (map (part_value (bound_in first values)) (take (i + 1) parts))
    ≡ joined (fold joined None (map (part_value (bound_in first values)) (take i parts))) (part_value (bound_in first values) x) =
    rw add-one (fold_more joined None (part_value (bound_in first values)) parts i x item inside) in
    let before : outcomes mid p ≡ fold joined None (map (part_value (bound_in first values)) (take i parts)) = outcomes-front table mid p more held ∙ so_far in
    let here : outcome mid w ≡ value_of (bound_in first values) x.term = is ∙ ap (λ b. value_of b x.term) (bound-front first table values front k) in
    step ∙ (λ j. joined (before j) (x.op, here j)) ∙ ap (joined _) (sym (at_part (bound_in first values) x)) ∙ sym all
