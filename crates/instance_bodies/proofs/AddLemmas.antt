-- The atoms of literals, one by one.
use Rattle.std.proofs.Common.{◌≡◌, ℕ, Bool, List, [], ◌∷◌, ◌++◌, map, length, refl, sym, ap, ◌∙◌, append_assoc, append-nil, take, ◌+◌}
use Rattle.std.specs.List.{flat_map}
use Rattle.symbols.specs.Symbol.{Symbol}
use Rattle.symbols.specs.Table.{IsFront}
use Rattle.symbols.proofs.TableLemmas.{symbol_at-front}
use Rattle.syntax_tree.specs.declared.literal.Literal.{Literal}
use Rattle.syntax_tree.specs.Outcome.{Outcome}
use Rattle.syntax_tree.proofs.Holding.{longer}
use Rattle.ground_model.specs.Rule.{LitOf, AtomLit}
use Rattle.program_meaning.specs.Ground.{plain_as}
use Rattle.program_meaning.specs.Read.{plain_of, plains, literal_read}
use Rattle.symbol_rules.specs.Reading.{literal_in, HasLiterals}

-- atoms stay as the table grows
pub literals-front : (old new : List Symbol) (atoms : List (ℕ × Bool)) → IsFront old new → HasLiterals (length old) atoms → map (literal_in new) atoms ≡ map (literal_in old) atoms
literals-front old new [] front k = refl
literals-front old new (atom ∷ atoms) front k =
    let here = symbol_at-front old new atom.0 front k.0 in
    let rest = literals-front old new atoms front k.1 in
    (λ i. AtomLit (here i) atom.1 ∷ rest i)

pub literals_known-front : (old new : List Symbol) (atoms : List (ℕ × Bool)) → IsFront old new → HasLiterals (length old) atoms → HasLiterals (length new) atoms
literals_known-front old new [] front k = tt
literals_known-front old new (atom ∷ atoms) front k = (longer old new atom.0 front k.0, literals_known-front old new atoms front k.1)

-- the atoms of a literal, and of literals
abbrev pub atoms_in : List Outcome → Literal → List (LitOf Symbol Symbol)
atoms_in bound literal = flat_map (plain_as bound) (plain_of (literal_read literal))

abbrev pub all_atoms : List Outcome → List Literal → List (LitOf Symbol Symbol)
all_atoms bound literals = flat_map (plain_as bound) (plains (map literal_read literals))

flat_append : {X Y : Type 0} (f : X → List Y) (xs ys : List X) → flat_map f (xs ++ ys) ≡ flat_map f xs ++ flat_map f ys
flat_append f [] ys = refl
flat_append f (x ∷ xs) ys = ap (λ zs. f x ++ zs) (flat_append f xs ys) ∙ sym (append_assoc (f x) (flat_map f xs) (flat_map f ys))

pub one_more : (bound : List Outcome) (literals : List Literal) (literal : Literal) → all_atoms bound (literals ++ literal ∷ []) ≡ all_atoms bound literals ++ atoms_in bound literal
one_more bound [] literal = ap (flat_map (plain_as bound)) (append-nil (plain_of (literal_read literal)))
one_more bound (first ∷ literals) literal =
    flat_append (plain_as bound) (plain_of (literal_read first)) (plains (map literal_read (literals ++ literal ∷ [])))
    ∙ ap (λ zs. atoms_in bound first ++ zs) (one_more bound literals literal)
    ∙ sym (append_assoc (atoms_in bound first) (all_atoms bound literals) (atoms_in bound literal))
    ∙ ap (λ zs. zs ++ atoms_in bound literal) (sym (flat_append (plain_as bound) (plain_of (literal_read first)) (plains (map literal_read literals))))

-- what has been added goes on by the next literal
pub adds_more : (bound : List Outcome) (literals : List Literal) (place : ℕ) (literal : Literal) (before so_far next : List (LitOf Symbol Symbol))
    → take (place + 1) literals ≡ take place literals ++ literal ∷ [] → so_far ≡ before ++ all_atoms bound (take place literals) → next ≡ so_far ++ atoms_in bound literal
    → next ≡ before ++ all_atoms bound (take (place + 1) literals)
adds_more bound literals place literal before so_far next t e f =
    f
    ∙ ap (λ xs. xs ++ atoms_in bound literal) e
    ∙ append_assoc before (all_atoms bound (take place literals)) (atoms_in bound literal)
    ∙ ap (λ xs. before ++ xs) (sym (one_more bound (take place literals) literal))
    ∙ ap (λ xs. before ++ all_atoms bound xs) (sym t)
