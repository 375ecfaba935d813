-- What each kind of term and literal is, and how deep it nests.
use Rattle.std.proofs.Common.{◌≡◌, ℕ, max, nat_le, ℤ, Bool, true, false, if◌then◌else◌, List, [], ◌∷◌, map, Option, Some, None, refl, arith}
use Rattle.std.specs.Prelude.{option_map, option_and_then}
use Rattle.std.proofs.lemmas.Bool.Decides.{leb_tells}
use Rattle.symbols.specs.Symbol.{Symbol, arguments, depth, deepest}
use Rattle.syntax_tree.specs.declared.term.Term.{Term, roll-Term}
use Rattle.syntax_tree.specs.declared.term.Term.TheOpen.{Term-F}
use Rattle.syntax_tree.specs.declared.term.Term.TheFolds.{fold-roll-Term}
use Rattle.syntax_tree.specs.declared.term.Term.TheVariants as t
use Rattle.syntax_tree.specs.declared.literal.Literal.{roll-Literal}
use Rattle.syntax_tree.specs.declared.literal.Literal.TheOpen.{Literal-F}
use Rattle.syntax_tree.specs.declared.literal.Literal.TheFolds.{fold-roll-Literal}
use Rattle.syntax_tree.specs.declared.literal.Literal.TheVariants as l
use Rattle.syntax_tree.specs.Tree.{is_name}
use Rattle.first_form.specs.Form.{all_there, number, named, symbol_step, symbol_of, within, symbol_within, atom_of, literal_step, literal_of}

pub at_number : (n : ℤ) → symbol_of (t.Number n) ≡ number n
unfolding roll-Term denote.Hole.Carrier.roll
at_number n = fold-roll-Term (Option Symbol) (Unit {0}) symbol_step (λ part. tt) (Term-F.Number n)

pub at_function : (name : List ℕ) (args : List Term)
    → symbol_of (t.Function name args) ≡ (if is_name name then option_map (named name) (all_there (map symbol_of args)) else None)
unfolding roll-Term denote.Hole.Carrier.roll
at_function name args = fold-roll-Term (Option Symbol) (Unit {0}) symbol_step (λ part. tt) (Term-F.Function name args)

pub at_atom : (term : Term) → literal_of (l.Atom term true) ≡ atom_of term
unfolding roll-Literal denote.Hole.Carrier.roll
at_atom term = fold-roll-Literal (Option Symbol) (Unit {0}) (Unit {0}) literal_step (λ theory. tt) (λ element. tt) (Literal-F.Atom term true)

-- the greater of two is at most n exactly where both are
max_within : (a d n : ℕ) → nat_le a n ≡ true → nat_le (max a d) n ≡ nat_le d n
max_within a d n h = grind (arith, leb_tells)

max_beyond : (a d n : ℕ) → nat_le a n ≡ false → nat_le (max a d) n ≡ false
max_beyond a d n h = grind (arith, leb_tells)

pub least_within : (n : ℕ) → nat_le 0 n ≡ true
least_within n = grind (arith, leb_tells)

-- symbols whose argument lists nest at most n deep
abbrev pub all_within : ℕ → List Symbol → Option (List Symbol)
all_within n xs = (if nat_le (deepest (arguments xs)) n then Some xs else None)

with_first : (n : ℕ) (x : Symbol) (there : List (Option Symbol)) (b : Bool) → nat_le (depth x) n ≡ b → (r : Option (List Symbol)) → all_there there ≡ option_and_then (all_within n) r
    → all_there ((if b then Some x else None) ∷ there) ≡ option_and_then (all_within n) (option_map (λ xs. x ∷ xs) r)
with_first n x there true q None h = rw h refl
with_first n x there true q (Some xs) h =
    let rest = max_within (depth x) (deepest (arguments xs)) n q in
    rw (h, rest) (by (nat_le (deepest (arguments xs)) n))
  where
    by : (c : Bool) → option_map (λ ys. x ∷ ys) (if c then Some xs else None) ≡ (if c then Some (x ∷ xs) else None)
    by true = refl
    by false = refl
with_first n x there false q None h = refl
with_first n x there false q (Some xs) h = let rest = max_beyond (depth x) (deepest (arguments xs)) n q in rw rest refl

with_term : (n : ℕ) (o : Option Symbol) (there : List (Option Symbol)) (r : List (Option Symbol)) → all_there there ≡ option_and_then (all_within n) (all_there r)
    → all_there (option_and_then (within n) o ∷ there) ≡ option_and_then (all_within n) (all_there (o ∷ r))
with_term n None there r h = refl
with_term n (Some x) there r h = with_first n x there (nat_le (depth x) n) refl (all_there r) h

-- terms that nest at most n deep are together as deep
pub terms_within : (n : ℕ) (args : List Term) → all_there (map (symbol_within n) args) ≡ option_and_then (all_within n) (all_there (map symbol_of args))
terms_within n [] = let least = least_within n in rw least refl
terms_within n (arg ∷ args) = with_term n (symbol_of arg) (map (symbol_within n) args) (map symbol_of args) (terms_within n args)
