-- The dependence of a program says of its supports what the numbering says.
use Rattle.std.proofs.Common.{◌≡◌, ℕ, zero, suc, ◌<◌, ◌^◌, true, false, not, ◌||◌, ◌&&◌, List, [], ◌∷◌, map, length, refl, sym, ◌∙◌, ap, subst, slice_get, slice_index_or}
use Rattle.std.specs.List.{AllByRecursion, list_any}
use Rattle.std.proofs.lemmas.List.{length-map}
use Rattle.literals.specs.declared.lit.Lit.{Lit}
use Rattle.literals.specs.declared.lit.Lit.TheVariants as l
use Rattle.ground_model.specs.declared.program.GroundProgram.{GroundProgram}
use Rattle.ground_model.specs.Answers.{IsNumbered}
use Rattle.ground_model.proofs.MemberLemmas.{property_map}
use Rattle.linear_normal.specs.declared.numbered.Conjunction.{Conjunction}
use Rattle.linear_normal.specs.declared.numbered.Support.{Support}
use Rattle.linear_normal.specs.declared.numbered.Numbered.{Numbered}
use Rattle.linear_normal.specs.Numbering.{numbering}
use Rattle.linear_normal.specs.Truth.{numbered_in}
use Rattle.linear_normal.specs.Steps.{is_among, is_atom_of, leans_on, is_external}
use Rattle.numbering_laws.specs.Parts.{IsOfBody, IsSupportOf}
use Rattle.numbering_laws.proofs.PartLemmas.{parts_law}
use Rattle.unfounded_sets.specs.Dependence.{row_of, is_outer, positive_atoms, dependence_of}
use Rattle.unfounded_sets.specs.inner.Outer.{IsWhole, of_parts}

abbrev positives : Conjunction → List ℕ
positives body = positive_atoms body.lits

module _ (set : List ℕ) where
  leans_lits : (lits : List Lit) → list_any (is_atom_of set) lits ≡ list_any (is_among set) (positive_atoms lits)
  leans_lits [] = refl
  leans_lits (l.Atom a true ∷ lits) = ap (λ b. is_among set a || b) (leans_lits lits)
  leans_lits (l.Atom a false ∷ lits) = leans_lits lits
  leans_lits (l.Body n sign ∷ lits) = leans_lits lits
  leans_lits (l.Constraint n sign ∷ lits) = leans_lits lits
  leans_lits (l.AtMost x k ∷ lits) = leans_lits lits
  leans_lits (l.AtLeast x k ∷ lits) = leans_lits lits

  leans_at : (bodies : List Conjunction) (n : ℕ) → leans_on set (slice_get bodies n) ≡ list_any (is_among set) (slice_index_or (map positives bodies) n [])
  leans_at [] n = refl
  leans_at (body ∷ bodies) zero = leans_lits body.lits
  leans_at (body ∷ bodies) (suc n) = leans_at bodies n

  leans_row : (bodies : List Conjunction) (n : ℕ) → leans_on set (numbered_in bodies n) ≡ list_any (is_among set) (row_of (map positives bodies) n)
  leans_row bodies zero = refl
  leans_row bodies (suc n) = leans_at bodies n

  -- a support is from outside by the numbering exactly where it is by the dependence
  pub external_same : (program : GroundProgram) (support : Support) → is_external (numbering program) set support ≡ is_outer (dependence_of program).bodies (is_among set) support
  external_same program support = ap (λ b. is_among set support.atom && not b) (leans_row (numbering program).bodies support.body)

-- the positive atoms of a body are atoms of the program
body_whole : (program : GroundProgram) (numbered : Numbered) (lits : List Lit) → AllByRecursion (IsOfBody program numbered) lits → AllByRecursion (IsNumbered (length program.atoms)) (positive_atoms lits)
body_whole program numbered [] is = tt
body_whole program numbered (l.Atom a true ∷ lits) is = (is.0, body_whole program numbered lits is.1)
body_whole program numbered (l.Atom a false ∷ lits) is = body_whole program numbered lits is.1
body_whole program numbered (l.Body n sign ∷ lits) is = body_whole program numbered lits is.1
body_whole program numbered (l.Constraint n sign ∷ lits) is = body_whole program numbered lits is.1
body_whole program numbered (l.AtMost x k ∷ lits) is = body_whole program numbered lits is.1
body_whole program numbered (l.AtLeast x k ∷ lits) is = body_whole program numbered lits is.1

bodies_whole : (program : GroundProgram) (numbered : Numbered) (bodies : List Conjunction) → AllByRecursion (λ (body : Conjunction). AllByRecursion (IsOfBody program numbered) body.lits) bodies
    → AllByRecursion (AllByRecursion (IsNumbered (length program.atoms))) (map positives bodies)
bodies_whole program numbered [] is = tt
bodies_whole program numbered (body ∷ bodies) is = (body_whole program numbered body.lits is.0, bodies_whole program numbered bodies is.1)

-- each number in the dependence of a program is that of an atom or a body
pub whole_program : (program : GroundProgram) → length program.atoms < 2 ^ 32 → IsWhole (dependence_of program)
whole_program program few =
    let parts = parts_law program in
    record {
      few = few;
      atoms = property_map (IsSupportOf program (numbering program)) (λ support. IsNumbered (length program.atoms) support.atom) (λ s is. is.atom) (numbering program).supports parts.supports;
      known = property_map (IsSupportOf program (numbering program)) (λ support. IsNumbered (length (dependence_of program).bodies) support.body)
          (λ s is. subst (λ n. IsNumbered n s.body) (sym (length-map (numbering program).bodies positives)) is.body) (numbering program).supports parts.supports;
      bodies = bodies_whole program (numbering program) (numbering program).bodies parts.bodies;
    }

-- the dependence that is made of the numbering
pub made : (program : GroundProgram) (numbered : Numbered) → numbered ≡ numbering program → (atoms : ℕ) (rows : List (List ℕ)) (supports : List Support) (bodies : List Conjunction) (given : List Support)
    → atoms ≡ length program.atoms → rows ≡ map positives bodies → bodies ≡ numbered.bodies → supports ≡ given → given ≡ numbered.supports → of_parts atoms rows supports ≡ dependence_of program
made program numbered same atoms rows supports bodies given a r b s g =
    ap (λ n. of_parts n rows supports) a
    ∙ ap (λ xs. of_parts (length program.atoms) xs supports) (r ∙ ap (map positives) (b ∙ ap (λ (n : Numbered). n.bodies) same))
    ∙ ap (of_parts (length program.atoms) (map positives (numbering program).bodies)) (s ∙ g ∙ ap (λ (n : Numbered). n.supports) same)
