-- What a name with arguments is, from what its arguments are.
use Rattle.std.proofs.Common.{◌≡◌, ℕ, zero, suc, ◌-◌, ◌<◌, ◌≤◌, max, nat_le, ◌==◌, Bool, true, false, if◌then◌else◌, List, [], ◌∷◌, map, length, Option, Some, None, slice_get, Result, Ok, Err, IfOk, refl, sym, ◌∙◌, ap, subst, arith}
use Rattle.std.specs.Prelude.{option_map, option_and_then}
use Rattle.std.specs.Str.{IsUtf8, is_utf8}
use Rattle.std.proofs.lemmas.Str.{IsUtf8-from_is_utf8, is_utf8-from_IsUtf8}
use Rattle.std.proofs.lemmas.Bool.Decides.{leb_tells}
use Rattle.symbols.specs.Symbol.{Symbol, Function, arguments, depth, deepest}
use Rattle.symbols.specs.Table.{symbol_at, applied}
use Rattle.syntax_tree.specs.declared.term.Term.{Term}
use Rattle.syntax_tree.specs.declared.term.Term.TheVariants as t
use Rattle.syntax_tree.specs.Tree.{is_name}
use Rattle.first_form.specs.declared.stop.FormStop.{FormStop}
use Rattle.first_form.specs.declared.stop.FormStop.TheVariants.{OtherForm, Memory}
use Rattle.first_form.specs.inner.Answered.{Fails, Gives}
use Rattle.first_form.specs.Form.{all_there, named, symbol_of, within, symbol_within}
use Rattle.first_form.proofs.Tables.{arguments_at, symbol_of_id}
use Rattle.first_form.proofs.There.{first_there}
use Rattle.first_form.proofs.Layers.{at_function, least_within, all_within, terms_within}

-- a name is a text that is not empty
pub name_is : (bytes : List ℕ) → false ≡ (length bytes == 0) → IsUtf8 bytes → is_name bytes ≡ true
name_is bytes some utf8 = let e = is_utf8-from_IsUtf8 bytes utf8 in rw (← some, e) refl

pub no_name : (bytes : List ℕ) → false ≡ (length bytes == 0) → (IsUtf8 bytes → ⊥) → is_name bytes ≡ false
no_name bytes some other = by (is_utf8 bytes) refl
  where
    by : (b : Bool) → is_utf8 bytes ≡ b → is_name bytes ≡ false
    by true h = absurd (other (IsUtf8-from_is_utf8 bytes h))
    by false h = rw (← some, h) refl

-- ids as arguments
pub never_deep : (table : List Symbol) (name args : List ℕ) → deepest (arguments (map (symbol_at table) args)) ≤ 64 → 256 < depth (applied table name args) → ⊥
never_deep table name args shallow deep = let same = ap deepest (arguments_at table args) in omega (arith, same, shallow, deep)

pub applied_is : (table now : List Symbol) (name args : List ℕ) (id : ℕ) → (args ≡ [] → ⊥) → slice_get now id ≡ Some (applied table name args)
    → symbol_at now id ≡ named name (map (symbol_at table) args)
applied_is table now name [] id some is = absurd (some refl)
applied_is table now name (arg ∷ args) id some is = symbol_of_id now id _ is ∙ ap (Function name) (arguments_at table (arg ∷ args))

-- what is answered of one thing is answered of another
pub gives_same : {X Y : Type 0} (view : X → Y) (r : Result X FormStop) (y : Y) (there : Option Y) → IfOk r (λ x. view x ≡ y) → (r ≡ Err OtherForm → ⊥) → there ≡ Some y → Gives view r there
gives_same view (Ok x) y there read other is = is ∙ ap (λ z. Some z) (sym read)
gives_same view (Err OtherForm) y there read other is = absurd (other refl)
gives_same view (Err Memory) y there read other is = tt

pub fails_with : {Y Z : Type 0} (stop : FormStop) (there : Option Y) (other : Option Z) → (there ≡ None → other ≡ None) → Fails stop there → Fails stop other
fails_with OtherForm there other f h = f h
fails_with Memory there other f h = tt

one_less : (a n : ℕ) → nat_le (suc a) (suc n) ≡ nat_le a n
one_less a n = grind (arith, leb_tells)

never_none : (a : ℕ) → nat_le (suc a) 0 ≡ false
never_none a = grind (arith, leb_tells)

layer_some : (n : ℕ) (name : List ℕ) (x : Symbol) (r : Option (List Symbol))
    → option_and_then (within (suc n)) (option_map (named name) (option_map (λ xs. x ∷ xs) r)) ≡ option_map (named name) (option_and_then (all_within n) (option_map (λ xs. x ∷ xs) r))
layer_some n name x None = refl
layer_some n name x (Some xs) = let less = one_less (max (depth x) (deepest (arguments xs))) n in rw less (by (nat_le (max (depth x) (deepest (arguments xs))) n))
  where
    by : (b : Bool) → (if b then Some (Function name (arguments (x ∷ xs))) else None) ≡ option_map (named name) (if b then Some (x ∷ xs) else None)
    by true = refl
    by false = refl

layer : (n : ℕ) (name : List ℕ) (o : Option Symbol) (os : List (Option Symbol))
    → option_and_then (within (suc n)) (option_map (named name) (all_there (o ∷ os))) ≡ option_map (named name) (option_and_then (all_within n) (all_there (o ∷ os)))
layer n name None os = refl
layer n name (Some x) os = layer_some n name x (all_there os)

flat_some : (name : List ℕ) (x : Symbol) (r : Option (List Symbol)) → option_and_then (within zero) (option_map (named name) (option_map (λ xs. x ∷ xs) r)) ≡ None
flat_some name x None = refl
flat_some name x (Some xs) = let beyond = never_none (max (depth x) (deepest (arguments xs))) in rw beyond refl

flat : (name : List ℕ) (o : Option Symbol) (os : List (Option Symbol)) → option_and_then (within zero) (option_map (named name) (all_there (o ∷ os))) ≡ None
flat name None os = refl
flat name (Some x) os = flat_some name x (all_there os)

module _ (name : List ℕ) where
  -- without a name
  pub function_unnamed : (n : ℕ) (args : List Term) → is_name name ≡ false → symbol_within n (t.Function name args) ≡ None
  function_unnamed n args h = ap (option_and_then (within n)) (at_function name args) ∙ rw h refl

  module _ (is : is_name name ≡ true) where
    with_name : (n : ℕ) (args : List Term) → symbol_within n (t.Function name args) ≡ option_and_then (within n) (option_map (named name) (all_there (map symbol_of args)))
    with_name n args = ap (option_and_then (within n)) (at_function name args) ∙ rw is refl

    -- without arguments
    pub function_alone : (n : ℕ) (args : List Term) → args ≡ [] → symbol_within n (t.Function name args) ≡ Some (named name [])
    function_alone n args none = let least = least_within n in rw none (with_name n [] ∙ rw least refl)

    pub function_flat : (n : ℕ) (args : List Term) → (args ≡ [] → ⊥) → n ≡ 0 → symbol_within n (t.Function name args) ≡ None
    function_flat n [] some e = absurd (some refl)
    function_flat n (arg ∷ args) some e = rw e (with_name zero (arg ∷ args) ∙ flat name (symbol_of arg) (map symbol_of args))

    function_layer : (n : ℕ) (args : List Term) → (args ≡ [] → ⊥) → symbol_within (suc n) (t.Function name args) ≡ option_map (named name) (all_there (map (symbol_within n) args))
    function_layer n [] some = absurd (some refl)
    function_layer n (arg ∷ args) some =
        with_name (suc n) (arg ∷ args) ∙ layer n name (symbol_of arg) (map symbol_of args) ∙ ap (option_map (named name)) (sym (terms_within n (arg ∷ args)))

    -- with arguments
    pub function_applied : (n : ℕ) (args : List Term) → (args ≡ [] → ⊥) → 0 < n
        → symbol_within n (t.Function name args) ≡ option_map (named name) (all_there (map (symbol_within (n - 1)) args))
    function_applied zero args some more = absurd (omega (arith, more))
    function_applied (suc n) args some more =
        let less : suc n - 1 ≡ n = omega arith in
        rw less (function_layer n args some)

-- the symbols of some arguments are some
pub symbols_some : {X : Type 0} (f : X → Option Symbol) (args : List X) (table : List Symbol) (ids : List ℕ) → (args ≡ [] → ⊥) → all_there (map f args) ≡ Some (map (symbol_at table) ids) → ids ≡ [] → ⊥
symbols_some f [] table ids some h e = some refl
symbols_some f (arg ∷ args) table ids some h e =
    let p = first_there (f arg) (map f args) (map (symbol_at table) ids) h in
    let none : [] ≡ p.0 ∷ p.1 = ap (map (symbol_at table)) (sym e) ∙ p.4 in
    absurd cc

all_shallow : (n : ℕ) (r : Option (List Symbol)) (xs : List Symbol) → option_and_then (all_within n) r ≡ Some xs → deepest (arguments xs) ≤ n
all_shallow n None xs h = absurd cc
all_shallow n (Some ys) xs h = by (nat_le (deepest (arguments ys)) n) refl h
  where
    by : (b : Bool) → nat_le (deepest (arguments ys)) n ≡ b → (if b then Some ys else None) ≡ Some xs → deepest (arguments xs) ≤ n
    by true q e = let same : ys ≡ xs = cc in subst (λ zs. deepest (arguments zs) ≤ n) same (grind (arith, leb_tells))
    by false q e = absurd cc

-- and nest less deep than their function
pub symbols_shallow : (n : ℕ) (args : List Term) (xs : List Symbol) → all_there (map (symbol_within n) args) ≡ Some xs → deepest (arguments xs) ≤ n
symbols_shallow n args xs h = all_shallow n (all_there (map symbol_of args)) xs (sym (terms_within n args) ∙ h)
