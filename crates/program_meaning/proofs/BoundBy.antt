-- Which variables a term binds: exactly those that occur in it outside arithmetic.
use Rattle.std.proofs.Common.{◌≡◌, ◌≤◌, ◌<◌, ◌⊎◌, inl, inr, ℕ, zero, suc, Bool, true, false, ◌==◌, List, [], ◌∷◌, map, length, slice_index_or, None, Some, refl, sym, ◌∙◌, ap, subst, true≢false, eqb-true, arith}
use Rattle.std.specs.List.{AllByRecursion}
use Rattle.std.proofs.lemmas.Bool.Decides.{nat_tests}
use Rattle.symbols.specs.Symbol.{Symbol, Symbols, Number, Identifier, Text, Function, NoSymbols, MoreSymbols, arguments}
use Rattle.syntax_tree.specs.declared.term.Term.{Term}
use Rattle.syntax_tree.specs.declared.term.Term.TheVariants as t
use Rattle.syntax_tree.specs.Outcome.{Outcome, IsSymbol, IsUndefined}
use Rattle.syntax_tree.specs.Value.{value_of, variable}
use Rattle.ground_model.proofs.Bools.{or_elim}
use Rattle.program_meaning.specs.Variables.{any_true, occurs_outside}
use Rattle.program_meaning.specs.Substitution.{SymbolValue}
use Rattle.program_meaning.specs.Search.{Binding, bound_at, bind, Agrees, IsHeld, matched_all, matched_in, matched}
use Rattle.program_meaning.proofs.Layers
use Rattle.program_meaning.proofs.Terms.{Passes, every_term}
use Rattle.program_meaning.proofs.Binding.{variable-suc, bind_binds, bind_other}
use Rattle.program_meaning.proofs.Matching

-- ---- what is worth a symbol has a place

agrees_length : (binding : Binding) (bound : List Outcome) → Agrees binding bound → length binding ≡ length bound
agrees_length [] [] a = refl
agrees_length [] (worth ∷ bound) a = absurd a
agrees_length (held ∷ binding) [] a = absurd a
agrees_length (None ∷ binding) (worth ∷ bound) a = ap suc (agrees_length binding bound a)
agrees_length (Some value ∷ binding) (worth ∷ bound) a = ap suc (agrees_length binding bound a.1)

place_in : (bound : List Outcome) (place : ℕ) (a : Symbol) → slice_index_or bound place IsUndefined ≡ IsSymbol a → place < length bound
place_in [] place a e = cc
place_in (worth ∷ bound) zero a e = omega arith
place_in (worth ∷ bound) (suc place) a e = let l = place_in bound place a e in omega (arith, l)

variable_in : (bound : List Outcome) (n : ℕ) (a : Symbol) → variable bound n ≡ IsSymbol a → (0 < n) × (n ≤ length bound)
variable_in bound zero a e = cc
variable_in bound (suc place) a e = let l = place_in bound place a (sym (variable-suc bound place) ∙ e) in (omega arith, omega (arith, l))

-- ---- what occurs outside arithmetic is bound

abbrev BindsAll : List Outcome → ℕ → Term → Type 0
BindsAll bound n term =
    (a : Symbol) (binding : Binding) → Agrees binding bound → value_of bound term ≡ IsSymbol a → occurs_outside n term ≡ true → IsHeld (matched term a binding) n

binds_all : (bound : List Outcome) (n : ℕ) (args : List Term) → AllByRecursion (BindsAll bound n) args → (symbols : List Symbol)
    → Matching.AreThese (map (value_of bound) args) symbols → (binding : Binding) → Agrees binding bound → any_true (map (occurs_outside n) args) ≡ true
    → IsHeld (matched_all (map matched args) (arguments symbols) binding) n
binds_all bound n [] all symbols these binding g e = absurd (true≢false (sym e))
binds_all bound n (arg ∷ args) all [] these binding g e = absurd these
binds_all bound n (arg ∷ args) all (s ∷ symbols) these binding g e =
    go (or_elim (occurs_outside n arg) (any_true (map (occurs_outside n) args)) e)
    (binds_all bound n args all.1 symbols these.1 (matched arg s binding) (Matching.term_keeps bound arg s binding g these.0))
  where
    go : (occurs_outside n arg ≡ true) ⊎ (any_true (map (occurs_outside n) args) ≡ true)
        → (any_true (map (occurs_outside n) args) ≡ true → IsHeld (matched_all (map matched args) (arguments symbols) (matched arg s binding)) n)
        → IsHeld (matched_all (map matched args) (arguments symbols) (matched arg s binding)) n
    go (inl here) later = Matching.all_stay n args (arguments symbols) (matched arg s binding) (all.0 s binding g these.0 here)
    go (inr there) later = later there

not_outside : (n : ℕ) (term : Term) {X : Type 0} → occurs_outside n term ≡ false → occurs_outside n term ≡ true → X
not_outside n term e h = absurd (true≢false (sym h ∙ e))

binds_passes : (bound : List Outcome) (n : ℕ) → Passes (BindsAll bound n)
binds_passes bound n = record {
  number = λ k a binding g e h. not_outside n (t.Number k) (Layers.occurs_outside-Number n k) h;
  text = λ text a binding g e h. not_outside n (t.Text text) (Layers.occurs_outside-Text n text) h;
  variable = λ m a binding g e h.
      let same : m ≡ n = eqb-true m n (sym (Layers.occurs_outside-Variable n m) ∙ h) in
      let worth = sym (Layers.value_of-Variable bound m) ∙ e in
      let in_range = variable_in bound m a worth in
      let l = agrees_length binding bound g in
      let p = in_range.0 in
      let q = in_range.1 in
      subst (λ b. IsHeld b n) (sym (Matching.matched-Variable m a binding))
      (subst (λ k. IsHeld (bind binding m (SymbolValue a)) k) same (bind_binds binding m (SymbolValue a) p (omega (arith, l, q))));
  anonymous = λ a binding g e h. not_outside n t.Anonymous (Layers.occurs_outside-Anonymous n) h;
  function = λ name args all a binding g e h.
      let r = Matching.function_args bound name args a e in
      subst (λ b. IsHeld b n) (sym (Matching.matched-Function name args a binding ∙ r.2 binding))
      (binds_all bound n args all r.0 r.1 binding g (sym (Layers.occurs_outside-Function n name args) ∙ h));
  tuple = λ args all a binding g e h.
      let r = Matching.tuple_args bound args a e in
      subst (λ b. IsHeld b n) (sym (Matching.matched-Tuple args a binding ∙ r.2 binding))
      (binds_all bound n args all r.0 r.1 binding g (sym (Layers.occurs_outside-Tuple n args) ∙ h));
  sum = λ parts all a binding g e h. not_outside n (t.Sum parts) (Layers.occurs_outside-Sum n parts) h;
  product = λ parts all a binding g e h. not_outside n (t.Product parts) (Layers.occurs_outside-Product n parts) h;
  minus = λ inner p a binding g e h. not_outside n (t.Minus inner) (Layers.occurs_outside-Minus n inner) h;
  interval = λ left right p q a binding g e h. not_outside n (t.Interval left right) (Layers.occurs_outside-Interval n left right) h;
}

pub term_binds : (bound : List Outcome) (n : ℕ) (term : Term) → BindsAll bound n term
term_binds bound n term = every_term (BindsAll bound n) (binds_passes bound n) term

-- ---- and nothing else

abbrev Leaves : ℕ → Term → Type 0
Leaves n term = (a : Symbol) (binding : Binding) → occurs_outside n term ≡ false → bound_at (matched term a binding) n ≡ bound_at binding n

none_split : (x : Bool) (rest : List Bool) → any_true (x ∷ rest) ≡ false → (x ≡ false) × (any_true rest ≡ false)
none_split true rest e = absurd (true≢false e)
none_split false rest e = (refl, e)

leaves_all : (n : ℕ) (args : List Term) → AllByRecursion (Leaves n) args → (places : Symbols) (binding : Binding) → any_true (map (occurs_outside n) args) ≡ false
    → bound_at (matched_all (map matched args) places binding) n ≡ bound_at binding n
leaves_all n [] all places binding e = refl
leaves_all n (arg ∷ args) all NoSymbols binding e = refl
leaves_all n (arg ∷ args) all (MoreSymbols s places) binding e =
    let p = none_split (occurs_outside n arg) (map (occurs_outside n) args) e in
    leaves_all n args all.1 places (matched arg s binding) p.1 ∙ all.0 s binding p.0

leaves_in : (n : ℕ) (args : List Term) → AllByRecursion (Leaves n) args → (a : Symbol) (binding : Binding) → any_true (map (occurs_outside n) args) ≡ false
    → bound_at (matched_in (map matched args) a binding) n ≡ bound_at binding n
leaves_in n args all (Number k) binding e = refl
leaves_in n args all (Identifier name) binding e = refl
leaves_in n args all (Text text) binding e = refl
leaves_in n args all (Function name places) binding e = leaves_all n args all places binding e

leaves_same : (n : ℕ) (term : Term) → ((a : Symbol) (binding : Binding) → matched term a binding ≡ binding) → Leaves n term
leaves_same n term h a binding e = ap (λ b. bound_at b n) (h a binding)

leaves_passes : (n : ℕ) → Passes (Leaves n)
leaves_passes n = record {
  number = λ k. leaves_same n (t.Number k) (Matching.matched-Number k);
  text = λ text. leaves_same n (t.Text text) (Matching.matched-Text text);
  variable = λ m a binding e.
      ap (λ b. bound_at b n) (Matching.matched-Variable m a binding)
      ∙ bind_other binding m (SymbolValue a) n (apart m (sym (Layers.occurs_outside-Variable n m) ∙ e));
  anonymous = leaves_same n t.Anonymous Matching.matched-Anonymous;
  function = λ name args all a binding e.
      ap (λ b. bound_at b n) (Matching.matched-Function name args a binding)
      ∙ leaves_in n args all a binding (sym (Layers.occurs_outside-Function n name args) ∙ e);
  tuple = λ args all a binding e.
      ap (λ b. bound_at b n) (Matching.matched-Tuple args a binding)
      ∙ leaves_in n args all a binding (sym (Layers.occurs_outside-Tuple n args) ∙ e);
  sum = λ parts all. leaves_same n (t.Sum parts) (Matching.matched-Sum parts);
  product = λ parts all. leaves_same n (t.Product parts) (Matching.matched-Product parts);
  minus = λ inner p. leaves_same n (t.Minus inner) (Matching.matched-Minus inner);
  interval = λ left right p q. leaves_same n (t.Interval left right) (Matching.matched-Interval left right);
}
  where
    apart : (m : ℕ) → (m == n) ≡ false → m ≡ n → ⊥
    apart m e q = grind (arith, nat_tests)

pub term_leaves : (n : ℕ) (term : Term) → Leaves n term
term_leaves n term = every_term (Leaves n) (leaves_passes n) term
