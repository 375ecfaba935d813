-- What the literals of input nogoods name.
use Rattle.std.proofs.Common.{◌≡◌, ℕ, zero, suc, ◌+◌, ◌≤◌, ◌==◌, Bool, true, false, not, List, [], ◌∷◌, ◌++◌, map, filter, flat_map, length, refl, sym, ◌∙◌, ap, subst, true≢false, Option, None, Some, slice_get, option_to_list, arith}
use Rattle.std.specs.List.{AllByRecursion, range_with_len}
use Rattle.literals.specs.declared.lit.Lit.{Lit}
use Rattle.literals.specs.declared.lit.Lit.TheVariants as l
use Rattle.literals.specs.Lits.{complement_of}
use Rattle.literals.specs.Nogoods.{canonical}
use Rattle.literals.proofs.Puts.{all_joined}
use Rattle.ground_model.specs.declared.program.GroundProgram.{GroundProgram}
use Rattle.ground_model.specs.Answers.{IsNumbered}
use Rattle.ground_model.specs.Members.{IsMember}
use Rattle.ground_model.proofs.MemberLemmas.{property_member, property_map}
use Rattle.linear_normal.specs.declared.constraint.Constraint.{Constraint}
use Rattle.linear_normal.specs.declared.constraint.Constraint.TheVariants as c
use Rattle.linear_normal.specs.declared.numbered.Conjunction.{Conjunction}
use Rattle.linear_normal.specs.declared.numbered.Support.{Support}
use Rattle.linear_normal.specs.declared.numbered.Duty.{Duty}
use Rattle.linear_normal.specs.declared.numbered.Numbered.{Numbered}
use Rattle.linear_normal.specs.Contents.{Content}
use Rattle.linear_normal.specs.Bodies.{bodies_in, Placed, placed}
use Rattle.linear_normal.specs.Numbering.{conjunction_of, head_duties, contents_in, numbering}
use Rattle.linear_normal.specs.Truth.{numbered_in}
use Rattle.linear_normal.proofs.BodyLemmas.{place_member}
use Rattle.linear_normal.proofs.ListLemmas.{all_append, all_flat, all_map, filter_member, range_numbered}
use Rattle.linear_normal.proofs.TruthLemmas.{conjunction_at}
use Rattle.numbering_laws.specs.Parts.{is_at_most, is_relation, IsOfBody, HasParts, IsSupportOf, IsOwed, IsDutyOf}
use Rattle.numbering_laws.proofs.MadeLemmas.{numbered_known, mapped_at, body_numbered}
use Rattle.numbering_laws.proofs.PartLemmas.{parts_law}
use Rattle.numbering_laws.proofs.ItemLemmas.{one_of}
use Rattle.completion.specs.Inputs.{body_nogoods, bodies_nogoods, duty_nogood, rule_nogoods, all_false, constraint_nogoods, constraints_nogoods, supporting, atom_nogood}
use Rattle.completion_laws.specs.Inputs.{is_demanded, IsInputLit, InputsLaw}

module _ (program : GroundProgram) where
  abbrev N : Numbered
  N = numbering program

  abbrev atoms : ℕ
  atoms = length program.atoms

  abbrev variables : ℕ
  variables = length program.variables

  abbrev cs : List Content
  cs = contents_in program

  -- each literal of the nogood is one of input nogoods
  abbrev Fits : List Lit → Type 0
  Fits lits = AllByRecursion (IsInputLit program N) lits

  sorted : (lits : List Lit) → Fits lits → Fits (canonical lits)
  sorted lits fit = all_joined (IsInputLit program N) [] lits tt fit

  -- LITERALS

  counted : (last n : ℕ) → IsNumbered last n → 1 ≤ n
  counted last n is = let above = is.above in omega (arith, above)

  atom_lit : (a : ℕ) (sign : Bool) → IsNumbered atoms a → IsInputLit program N (l.Atom a sign)
  atom_lit a sign is = record { literal = counted atoms a is; named = one_of atoms a is; input = tt }

  body_lit : (b : ℕ) (sign : Bool) → IsNumbered (length N.bodies) b → IsInputLit program N (l.Body b sign)
  body_lit b sign is = record { literal = counted (length N.bodies) b is; named = one_of (length N.bodies) b is; input = tt }

  constraint_lit : (n : ℕ) (sign : Bool) → IsNumbered (length N.constraints) n → is_demanded (numbered_in N.constraints n) ≡ false → IsInputLit program N (l.Constraint n sign)
  constraint_lit n true is free = record { literal = counted (length N.constraints) n is; named = one_of (length N.constraints) n is; input = free }
  constraint_lit n false is free = record { literal = counted (length N.constraints) n is; named = one_of (length N.constraints) n is; input = tt }

  false_lit : (n : ℕ) → IsNumbered (length N.constraints) n → IsInputLit program N (l.Constraint n false)
  false_lit n is = record { literal = counted (length N.constraints) n is; named = one_of (length N.constraints) n is; input = tt }

  found_known : (test : Option Constraint → Bool) → test None ≡ false → (n : ℕ) → test (numbered_in N.constraints n) ≡ true → IsNumbered (length N.constraints) n
  found_known test none n e = go (numbered_in N.constraints n) refl e
    where
      go : (found : Option Constraint) → numbered_in N.constraints n ≡ found → test found ≡ true → IsNumbered (length N.constraints) n
      go None is f = absurd (true≢false (sym f ∙ none))
      go (Some constraint) is f = numbered_known N.constraints n constraint is

  relation_free : (found : Option Constraint) → is_relation found ≡ true → is_demanded found ≡ false
  relation_free None e = refl
  relation_free (Some (c.AtMost items k)) e = refl
  relation_free (Some (c.Both i j)) e = refl
  relation_free (Some (c.Either i j)) e = refl
  relation_free (Some (c.Domain x set)) e = absurd (true≢false (sym e))
  relation_free (Some (c.Distinct places)) e = absurd (true≢false (sym e))
  relation_free (Some (c.Disjoint places)) e = absurd (true≢false (sym e))
  relation_free (Some (c.Tally bodies)) e = refl

  sum_relation : (found : Option Constraint) → is_at_most found ≡ true → is_relation found ≡ true
  sum_relation None e = absurd (true≢false (sym e))
  sum_relation (Some (c.AtMost items k)) e = refl
  sum_relation (Some (c.Both i j)) e = absurd (true≢false (sym e))
  sum_relation (Some (c.Either i j)) e = absurd (true≢false (sym e))
  sum_relation (Some (c.Domain x set)) e = absurd (true≢false (sym e))
  sum_relation (Some (c.Distinct places)) e = absurd (true≢false (sym e))
  sum_relation (Some (c.Disjoint places)) e = absurd (true≢false (sym e))
  sum_relation (Some (c.Tally bodies)) e = absurd (true≢false (sym e))

  relation_lit : (n : ℕ) (sign : Bool) → is_relation (numbered_in N.constraints n) ≡ true → IsInputLit program N (l.Constraint n sign)
  relation_lit n sign e = constraint_lit n sign (found_known is_relation refl n e) (relation_free (numbered_in N.constraints n) e)

  sum_lit : (n : ℕ) (sign : Bool) → is_at_most (numbered_in N.constraints n) ≡ true → IsInputLit program N (l.Constraint n sign)
  sum_lit n sign e = relation_lit n sign (sum_relation (numbered_in N.constraints n) e)

  false_lits : (bodies : List ℕ) → AllByRecursion (IsNumbered (length N.bodies)) bodies → Fits (all_false bodies)
  false_lits [] is = tt
  false_lits (b ∷ bodies) is = (body_lit b false is.0, false_lits bodies is.1)

  -- BODIES

  of_body : (lit : Lit) → IsOfBody program N lit → IsInputLit program N lit × IsInputLit program N (complement_of lit)
  of_body (l.Atom a sign) is = (atom_lit a sign is, atom_lit a (not sign) is)
  of_body (l.Body b sign) is = absurd is
  of_body (l.Constraint n sign) is = (relation_lit n sign is, relation_lit n (not sign) is)
  of_body (l.AtMost x k) is = absurd is
  of_body (l.AtLeast x k) is = absurd is

  own_lits : (lits : List Lit) → AllByRecursion (IsOfBody program N) lits → Fits lits
  own_lits lits is = property_map (IsOfBody program N) (IsInputLit program N) (λ lit i. (of_body lit i).0) lits is

  body_fits : (b : ℕ) → IsNumbered (length N.bodies) b → (lits : List Lit) → AllByRecursion (IsOfBody program N) lits → AllByRecursion Fits (body_nogoods b lits)
  body_fits b known lits is = (
    sorted (l.Body b false ∷ lits) (body_lit b false known, own_lits lits is),
    all_map Fits (λ lit. canonical (l.Body b true ∷ complement_of lit ∷ [])) lits
        (λ lit m. sorted (l.Body b true ∷ complement_of lit ∷ []) (body_lit b true known, ((of_body lit (property_member (IsOfBody program N) lits lit is m)).1, tt))),
  )

  bodies_fit : (first : ℕ) (bodies : List Conjunction)
      → ((k : ℕ) (body : Conjunction) → slice_get bodies k ≡ Some body → IsNumbered (length N.bodies) (first + k) × AllByRecursion (IsOfBody program N) body.lits) → AllByRecursion Fits (bodies_nogoods first bodies)
  bodies_fit first [] known = tt
  bodies_fit first (body ∷ bodies) known =
      let own = known 0 body refl in
      all_append Fits (body_nogoods first body.lits) (bodies_nogoods (first + 1) bodies)
      (body_fits first (subst (IsNumbered (length N.bodies)) (plus_zero first) own.0) body.lits own.1)
      (bodies_fit (first + 1) bodies (λ k next e. let r = known (suc k) next e in (subst (IsNumbered (length N.bodies)) (shift first k) r.0, r.1)))
    where
      plus_zero : (n : ℕ) → n + 0 ≡ n
      plus_zero n = omega arith

      shift : (n k : ℕ) → n + suc k ≡ (n + 1) + k
      shift n k = omega arith

  -- RULES

  duty_fits : (duty : Duty) → IsDutyOf program N duty → Fits (duty_nogood duty)
  duty_fits duty is = sorted (l.Body duty.body true ∷ map complement_of (option_to_list duty.head)) (body_lit duty.body true is.body, head duty.head is.head)
    where
      head : (owed : Option Lit) → IsOwed program N owed → Fits (map complement_of (option_to_list owed))
      head None is = tt
      head (Some (l.Atom a true)) is = (atom_lit a false is, tt)
      head (Some (l.Atom a false)) is = absurd is
      head (Some (l.Body b sign)) is = absurd is
      head (Some (l.Constraint n true)) is = (false_lit n is, tt)
      head (Some (l.Constraint n false)) is = absurd is
      head (Some (l.AtMost x k)) is = absurd is
      head (Some (l.AtLeast x k)) is = absurd is

  rule_fits : (at : Placed) → IsMember (placed 1 program.rules) at → AllByRecursion Fits (rule_nogoods cs atoms variables at)
  rule_fits at m =
      all_append Fits (bodies_nogoods at.first (map (conjunction_of cs variables) (bodies_in at.rule))) (map duty_nogood (head_duties cs atoms variables at.first at.rule.head))
      (bodies_fit at.first (map (conjunction_of cs variables) (bodies_in at.rule)) known)
      (all_map Fits duty_nogood (head_duties cs atoms variables at.first at.rule.head)
      (λ duty k. duty_fits duty (property_member (IsDutyOf program N) N.duties duty (parts_law program).duties
      (Rattle.ground_model.proofs.WayLemmas.member_flat (λ (p : Placed). head_duties cs atoms variables p.first p.rule.head) (placed 1 program.rules) at duty m k))))
    where
      known : (k : ℕ) (body : Conjunction) → slice_get (map (conjunction_of cs variables) (bodies_in at.rule)) k ≡ Some body
          → IsNumbered (length N.bodies) (at.first + k) × AllByRecursion (IsOfBody program N) body.lits
      known k body e =
          let r = mapped_at (conjunction_of cs variables) (bodies_in at.rule) k body e in (
            body_numbered program at m k r.0 r.1,
            lits_at (at.first + k) body (conjunction_at program at m k r.0 r.1 ∙ ap Some r.2),
          )
        where
          lits_at : (n : ℕ) (body : Conjunction) → numbered_in N.bodies n ≡ Some body → AllByRecursion (IsOfBody program N) body.lits
          lits_at zero body e = absurd (no_body e)
            where
              no_body : {Y : Type 0} {y : Y} → None ≡ Some y → ⊥
              no_body p = cc
          lits_at (suc j) body e = property_member (λ b. AllByRecursion (IsOfBody program N) b.lits) N.bodies body (parts_law program).bodies (place_member N.bodies j body e)

  -- CONSTRAINTS

  constraint_fits : (n : ℕ) (constraint : Constraint) → numbered_in N.constraints n ≡ Some constraint → HasParts program N constraint → AllByRecursion Fits (constraint_nogoods n constraint)
  constraint_fits n (c.AtMost items k) e parts = tt
  constraint_fits n (c.Both i j) e parts =
      let own : (sign : Bool) → IsInputLit program N (l.Constraint n sign) = λ sign. relation_lit n sign (ap is_relation e) in (
        sorted (l.Constraint n true ∷ l.Constraint i false ∷ []) (own true, (sum_lit i false parts.0, tt)),
        (
          sorted (l.Constraint n true ∷ l.Constraint j false ∷ []) (own true, (sum_lit j false parts.1, tt)),
          (sorted (l.Constraint n false ∷ l.Constraint i true ∷ l.Constraint j true ∷ []) (own false, (sum_lit i true parts.0, (sum_lit j true parts.1, tt))), tt),
        ),
      )
  constraint_fits n (c.Either i j) e parts =
      let own : (sign : Bool) → IsInputLit program N (l.Constraint n sign) = λ sign. relation_lit n sign (ap is_relation e) in (
        sorted (l.Constraint n true ∷ l.Constraint i false ∷ l.Constraint j false ∷ []) (own true, (sum_lit i false parts.0, (sum_lit j false parts.1, tt))),
        (
          sorted (l.Constraint n false ∷ l.Constraint i true ∷ []) (own false, (sum_lit i true parts.0, tt)),
          (sorted (l.Constraint n false ∷ l.Constraint j true ∷ []) (own false, (sum_lit j true parts.1, tt)), tt),
        ),
      )
  constraint_fits n (c.Domain x set) e parts = tt
  constraint_fits n (c.Distinct places) e parts = tt
  constraint_fits n (c.Disjoint places) e parts = tt
  constraint_fits n (c.Tally bodies) e parts =
      let own : (sign : Bool) → IsInputLit program N (l.Constraint n sign) = λ sign. constraint_lit n sign (numbered_known N.constraints n (c.Tally bodies) e) (ap is_demanded e) in (
        sorted (l.Constraint n true ∷ all_false bodies) (own true, false_lits bodies parts),
        all_map Fits (λ b. canonical (l.Constraint n false ∷ l.Body b true ∷ [])) bodies
            (λ b m. sorted (l.Constraint n false ∷ l.Body b true ∷ []) (own false, (body_lit b true (property_member (IsNumbered (length N.bodies)) bodies b parts m), tt))),
      )

  constraints_fit : (n : ℕ) (constraints : List Constraint)
      → ((k : ℕ) (constraint : Constraint) → slice_get constraints k ≡ Some constraint → (numbered_in N.constraints (n + k) ≡ Some constraint) × HasParts program N constraint) → AllByRecursion Fits (constraints_nogoods n constraints)
  constraints_fit n [] known = tt
  constraints_fit n (constraint ∷ constraints) known =
      let own = known 0 constraint refl in
      all_append Fits (constraint_nogoods n constraint) (constraints_nogoods (n + 1) constraints)
      (constraint_fits n constraint (subst (λ m. numbered_in N.constraints m ≡ Some constraint) (plus_zero n) own.0) own.1)
      (constraints_fit (n + 1) constraints (λ k next e. let r = known (suc k) next e in (subst (λ m. numbered_in N.constraints m ≡ Some next) (shift n k) r.0, r.1)))
    where
      plus_zero : (m : ℕ) → m + 0 ≡ m
      plus_zero m = omega arith

      shift : (m k : ℕ) → m + suc k ≡ (m + 1) + k
      shift m k = omega arith

  all_constraints : AllByRecursion Fits (constraints_nogoods 1 N.constraints)
  all_constraints =
      constraints_fit 1 N.constraints
      (λ k constraint e. (
        subst (λ m. numbered_in N.constraints m ≡ Some constraint) (next k) e,
        property_member (HasParts program N) N.constraints constraint (parts_law program).constraints (place_member N.constraints k constraint e),
      ))
    where
      next : (k : ℕ) → suc k ≡ 1 + k
      next k = omega arith

  -- ATOMS

  atom_fits : (a : ℕ) → IsNumbered atoms a → Fits (atom_nogood N.supports a)
  atom_fits a is =
      sorted (l.Atom a true ∷ all_false (supporting N.supports a)) (
        atom_lit a true is,
        false_lits (supporting N.supports a)
            (all_map (IsNumbered (length N.bodies)) (λ support. support.body) (filter (λ support. support.atom == a) N.supports)
            (λ support m. (property_member (IsSupportOf program N) N.supports support (parts_law program).supports
            (filter_member (λ (s : Support). s.atom == a) N.supports support m).0).body)),
      )

pub inputs_law : InputsLaw
inputs_law program =
    all_append (Fits program) (flat_map (rule_nogoods (contents_in program) (length program.atoms) (length program.variables)) (placed 1 program.rules) ++ constraints_nogoods 1 (numbering program).constraints)
    (map (atom_nogood (numbering program).supports) (range_with_len 1 (length program.atoms)))
    (all_append (Fits program) (flat_map (rule_nogoods (contents_in program) (length program.atoms) (length program.variables)) (placed 1 program.rules)) (constraints_nogoods 1 (numbering program).constraints)
    (all_flat (Fits program) (rule_nogoods (contents_in program) (length program.atoms) (length program.variables)) (placed 1 program.rules) (λ at m. rule_fits program at m))
    (all_constraints program))
    (all_map (Fits program) (atom_nogood (numbering program).supports) (range_with_len 1 (length program.atoms))
    (λ a m. atom_fits program a (range_numbered (length program.atoms) a m)))
