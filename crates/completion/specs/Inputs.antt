-- The input nogoods of a ground program: its completion (Clark), as nogoods.
use Rattle.std.specs.Prelude.{ℕ, ◌+◌, ◌==◌, true, false, List, [], ◌∷◌, ◌++◌, map, length, option_to_list}
use Rattle.std.specs.List.{filter, flat_map, range_with_len, AllByRecursion}
use Rattle.literals.specs.declared.lit.Lit.{Lit}
use Rattle.literals.specs.declared.lit.Lit.TheVariants as l
use Rattle.literals.specs.Lits.{complement_of}
use Rattle.literals.specs.Nogoods.{canonical}
use Rattle.literals.specs.Truths.{Truths, Meets}
use Rattle.ground_model.specs.declared.program.GroundProgram.{GroundProgram}
use Rattle.linear_normal.specs.declared.constraint.Constraint.{Constraint}
use Rattle.linear_normal.specs.declared.constraint.Constraint.TheVariants as c
use Rattle.linear_normal.specs.declared.numbered.Conjunction.{Conjunction}
use Rattle.linear_normal.specs.declared.numbered.Support.{Support}
use Rattle.linear_normal.specs.declared.numbered.Duty.{Duty}
use Rattle.linear_normal.specs.Contents.{Content}
use Rattle.linear_normal.specs.Bodies.{bodies_in, Placed, placed}
use Rattle.linear_normal.specs.Numbering.{conjunction_of, head_duties, contents_in, numbering}

-- a body is true where all its literals are, and false where one of them is
abbrev pub body_nogoods : ℕ → List Lit → List (List Lit)
body_nogoods b lits =
    canonical (l.Body b false ∷ lits) ∷ map (λ lit. canonical (l.Body b true ∷ complement_of lit ∷ [])) lits

-- bodies that are numbered from b on
abbrev pub bodies_nogoods : ℕ → List Conjunction → List (List Lit)
bodies_nogoods b [] = []
bodies_nogoods b (body ∷ bodies) = body_nogoods b body.lits ++ bodies_nogoods (b + 1) bodies

-- a duty is done: its body is false or its head true
abbrev pub duty_nogood : Duty → List Lit
duty_nogood duty = canonical (l.Body duty.body true ∷ map complement_of (option_to_list duty.head))

-- a rule: its bodies, and then its duties
abbrev pub rule_nogoods : List Content → ℕ → ℕ → Placed → List (List Lit)
rule_nogoods contents atoms variables at =
    bodies_nogoods at.first (map (conjunction_of contents variables) (bodies_in at.rule))
    ++ map duty_nogood (head_duties contents atoms variables at.first at.rule.head)

-- the bodies, as false
abbrev pub all_false : List ℕ → List Lit
all_false bodies = map (λ b. l.Body b false) bodies

-- constraint n is "and", "or", or "some of the bodies"; the truth of other kinds is not told by nogoods
abbrev pub constraint_nogoods : ℕ → Constraint → List (List Lit)
constraint_nogoods n (c.Both i j) =
    canonical (l.Constraint n true ∷ l.Constraint i false ∷ [])
    ∷ canonical (l.Constraint n true ∷ l.Constraint j false ∷ [])
    ∷ canonical (l.Constraint n false ∷ l.Constraint i true ∷ l.Constraint j true ∷ [])
    ∷ []
constraint_nogoods n (c.Either i j) =
    canonical (l.Constraint n true ∷ l.Constraint i false ∷ l.Constraint j false ∷ [])
    ∷ canonical (l.Constraint n false ∷ l.Constraint i true ∷ [])
    ∷ canonical (l.Constraint n false ∷ l.Constraint j true ∷ [])
    ∷ []
constraint_nogoods n (c.Tally bodies) =
    canonical (l.Constraint n true ∷ all_false bodies)
    ∷ map (λ b. canonical (l.Constraint n false ∷ l.Body b true ∷ [])) bodies
constraint_nogoods n constraint = []

-- constraints that are numbered from n on
abbrev pub constraints_nogoods : ℕ → List Constraint → List (List Lit)
constraints_nogoods n [] = []
constraints_nogoods n (constraint ∷ constraints) = constraint_nogoods n constraint ++ constraints_nogoods (n + 1) constraints

-- the bodies that support an atom, in order
abbrev pub supporting : List Support → ℕ → List ℕ
supporting supports a = map (λ support. support.body) (filter (λ support. support.atom == a) supports)

-- a true atom has a true body
abbrev pub atom_nogood : List Support → ℕ → List Lit
atom_nogood supports a = canonical (l.Atom a true ∷ all_false (supporting supports a))

-- the input nogoods: rule by rule, constraint by constraint, atom by atom
abbrev pub input_nogoods : GroundProgram → List (List Lit)
input_nogoods program =
    flat_map (rule_nogoods (contents_in program) (length program.atoms) (length program.variables))
    (placed 1 program.rules)
    ++ constraints_nogoods 1 (numbering program).constraints
    ++ map (atom_nogood (numbering program).supports) (range_with_len 1 (length program.atoms))

-- each of the nogoods is met
abbrev pub MeetsAll : Truths → List (List Lit) → Type 0
MeetsAll truths nogoods = AllByRecursion (Meets truths) nogoods
