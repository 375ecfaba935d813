-- The loop nogood of an atom of an unfounded set is a valid reason.
use Rattle.std.proofs.Common.{◌≡◌, ◌⊎◌, inl, inr, ℕ, ◌≤◌, Bool, true, false, not, ◌||◌, ◌&&◌, List, [], ◌∷◌, length, Option, refl, sym, ◌∙◌, ap, subst, true≢false, arith, ℤ, All}
use Rattle.std.specs.List.{AllByRecursion, list_all, list_any}
use Rattle.std.proofs.lemmas.List.{length-map}
use Rattle.std.proofs.lemmas.List.Elements.{All-from_recursion}
use Rattle.std.proofs.lemmas.Bool.Decides.{nat_tests}
use Rattle.literals.specs.declared.lit.Lit.{Lit}
use Rattle.literals.specs.declared.lit.Lit.TheVariants as l
use Rattle.literals.specs.declared.reason.Step.{Step}
use Rattle.literals.specs.declared.reason.Step.TheVariants as s
use Rattle.literals.specs.declared.reason.Step.TheVariants.{Loop}
use Rattle.literals.specs.declared.reason.Reason.{Reason}
use Rattle.literals.specs.Lits.{IsLit}
use Rattle.literals.specs.Nogoods.{has_lit}
use Rattle.literals.specs.Steps.{ascend_above, IsStep}
use Rattle.literals.proofs.Puts.{all_joined, rises_canonical}
use Rattle.ground_model.specs.declared.program.GroundProgram.{GroundProgram}
use Rattle.ground_model.specs.Answers.{IsNumbered}
use Rattle.ground_model.specs.Members.{IsMember}
use Rattle.ground_model.proofs.Bools.{and_elim, and_intro}
use Rattle.ground_model.proofs.MemberLemmas.{any_member, all_member, all_from_members, property_member, property_from_members, contains_member, member_map}
use Rattle.linear_normal.specs.declared.numbered.Support.{Support}
use Rattle.linear_normal.specs.Numbering.{numbering}
use Rattle.linear_normal.specs.Steps.{is_one_of, is_named, is_among, is_external, is_loop, is_valid}
use Rattle.completion.specs.Inputs.{all_false}
use Rattle.trail.specs.Assignment.{Assignment, Names, is_true_on}
use Rattle.nogood_store.proofs.Members.{holds_contained}
use Rattle.trail_worlds.specs.Founded.{IsUnfounded, AreOpenOrTrue}
use Rattle.unfounded_sets.specs.Dependence.{Dependence, is_outer, positive_atoms, dependence_of, Fits}
use Rattle.unfounded_sets.specs.Loops.{IsLoop, is_known, is_cut_off, shows_loop}
use Rattle.unfounded_sets.specs.Laws.{ShownLaw}
use Rattle.unfounded_sets.specs.inner.Outer.{IsWhole, loop_reason, IsNamed}
use Rattle.unfounded_sets.proofs.CanonicalLemmas.{canonical_has, atom_first}
use Rattle.unfounded_sets.proofs.DependenceLemmas.{external_same}

-- one of so many, as a test
pub one_of : (last n : ℕ) → IsNumbered last n → is_one_of last n ≡ true
one_of last n is = let above = is.above in let known = is.known in tested (omega (arith, above)) known
  where
    tested : 1 ≤ n → n ≤ last → is_one_of last n ≡ true
    tested g h = grind (arith, nat_tests, g, h)

-- a body of the list that is false, and has a number
pub record IsFalseBody (d : Dependence) (t : Assignment) (b : ℕ) : Type 0 where
  pub known : IsNumbered (length d.bodies) b
  pub is_false : is_true_on t (l.Body b false) ≡ true

-- the set has these bodies as those that support it from outside, and all are false
pub record IsCut (d : Dependence) (t : Assignment) (set bodies : List ℕ) : Type 0 where
  pub ascends : ascend_above 0 set ≡ true
  pub open_or_true : AreOpenOrTrue t set
  pub are_false : AllByRecursion (IsFalseBody d t) bodies
  pub outer : (support : Support) → IsMember d.supports support → is_outer d.bodies (is_among set) support ≡ true → IsMember bodies support.body

bodies_all : (P : Lit → Type 0) (Q : ℕ → Type 0) → ((b : ℕ) → Q b → P (l.Body b false)) → (bodies : List ℕ) → AllByRecursion Q bodies → AllByRecursion P (all_false bodies)
bodies_all P Q f [] q = tt
bodies_all P Q f (b ∷ bodies) q = (f b q.0, bodies_all P Q f bodies q.1)

listed_all : (P : Lit → Bool) (lits : List Lit) → AllByRecursion (λ lit. P lit ≡ true) lits → list_all P lits ≡ true
listed_all P lits a = all_from_members P lits (λ lit m. property_member (λ lit. P lit ≡ true) lits lit a m)

is_step : (set : List ℕ) (a : ℕ) → IsMember set a → ascend_above 0 set ≡ true → IsStep (Loop set)
is_step [] a m e = absurd m
is_step (x ∷ set) a m e = e

-- REASONS THAT A DEPENDENCE SHOWS

known_named : (program : GroundProgram) (lit : Lit) → is_known (dependence_of program) lit ≡ true → is_named program (numbering program) lit ≡ true
known_named program (l.Atom a sign) e = e
known_named program (l.Body b sign) e = subst (λ n. is_one_of n b ≡ true) (length-map (numbering program).bodies (λ body. positive_atoms body.lits)) e
known_named program (l.Constraint n sign) e = absurd (true≢false (sym e))
known_named program (l.AtMost x k) e = absurd (true≢false (sym e))
known_named program (l.AtLeast x k) e = absurd (true≢false (sym e))

all_named : (program : GroundProgram) (lits : List Lit) → list_all (is_known (dependence_of program)) lits ≡ true → list_all (is_named program (numbering program)) lits ≡ true
all_named program lits e = all_from_members (is_named program (numbering program)) lits (λ lit m. known_named program lit (all_member (is_known (dependence_of program)) lits lit e m))

cut_loop : (program : GroundProgram) (lits : List Lit) (set : List ℕ) → is_cut_off (dependence_of program) lits (Loop set) ≡ true → is_loop program (numbering program) lits set ≡ true
cut_loop program lits set e =
    let p = and_elim (list_all (is_one_of (length program.atoms)) set && list_any (λ a. has_lit lits (l.Atom a true)) set)
    (list_all (λ support. not (is_outer (dependence_of program).bodies (is_among set) support) || has_lit lits (l.Body support.body false)) (numbering program).supports) e in
    and_intro (list_all (is_one_of (length program.atoms)) set && list_any (λ a. has_lit lits (l.Atom a true)) set)
    (list_all (λ support. not (is_external (numbering program) set support) || has_lit lits (l.Body support.body false)) (numbering program).supports) p.0
    (all_from_members (λ support. not (is_external (numbering program) set support) || has_lit lits (l.Body support.body false)) (numbering program).supports
    (λ support m. ap (λ b. not b || has_lit lits (l.Body support.body false)) (external_same set program support)
    ∙ all_member (λ support. not (is_outer (dependence_of program).bodies (is_among set) support) || has_lit lits (l.Body support.body false)) (numbering program).supports support p.1 m))

valid_by : (program : GroundProgram) (cost : Option ℤ) (lits : List Lit) (step : Step) → list_all (is_named program (numbering program)) lits ≡ true → is_cut_off (dependence_of program) lits step ≡ true
    → is_valid program (numbering program) cost lits step ≡ true
valid_by program cost lits (Loop set) n e = and_intro (list_all (is_named program (numbering program)) lits) (is_loop program (numbering program) lits set) n (cut_loop program lits set e)
valid_by program cost lits (s.Sum c) n e = absurd (true≢false (sym e))
valid_by program cost lits (s.Distinct c a b) n e = absurd (true≢false (sym e))
valid_by program cost lits (s.Window c a b) n e = absurd (true≢false (sym e))
valid_by program cost lits (s.Pair c i j) n e = absurd (true≢false (sym e))
valid_by program cost lits (s.Hole c) n e = absurd (true≢false (sym e))

valid_shown : (program : GroundProgram) (r : Reason) → shows_loop (dependence_of program) r ≡ true → (cost : Option ℤ) → is_valid program (numbering program) cost r.nogood r.step ≡ true
valid_shown program r e cost =
    let p = and_elim (list_all (is_known (dependence_of program)) r.nogood) (is_cut_off (dependence_of program) r.nogood r.step) e in
    valid_by program cost r.nogood r.step (all_named program r.nogood p.0) p.1

-- a reason that the dependence of a program shows by a loop is a valid step of each program that has it
pub shown_law : ShownLaw
shown_law program r e other same cost = valid_shown other r (subst (λ (d : Dependence). shows_loop d r ≡ true) same e) cost

module _ (d : Dependence) (t : Assignment) (set bodies : List ℕ) (atom : ℕ) (whole : IsWhole d) (fits : Fits d t.shape) (cut : IsCut d t set bodies) (named : IsNamed t set atom) where
  abbrev reason : Reason
  reason = loop_reason set atom bodies

  member : IsMember set atom
  member = contains_member set atom named.member

  all_lits : (P : Lit → Type 0) → P (l.Atom atom true) → ((b : ℕ) → IsFalseBody d t b → P (l.Body b false)) → AllByRecursion P reason.nogood
  all_lits P first body = all_joined P [] (l.Atom atom true ∷ all_false bodies) tt (first, bodies_all P (IsFalseBody d t) body bodies cut.are_false)

  numbered : (a : ℕ) → IsMember set a → IsNumbered d.atoms a
  numbered a m = subst (λ n. IsNumbered n a) fits.atoms (property_member (λ a. IsNumbered t.shape.atoms a × (is_true_on t (l.Atom a false) ≡ false)) set a cut.open_or_true m).0

  one : (last n : ℕ) → IsNumbered last n → 1 ≤ n
  one last n is = let above = is.above in omega (arith, above)

  lit_here : (b : ℕ) → IsMember bodies b → has_lit reason.nogood (l.Body b false) ≡ true
  lit_here b m = canonical_has (l.Atom atom true ∷ all_false bodies) (l.Body b false) tt (inr (member_map (λ b. l.Body b false) bodies b m))

  all_known : list_all (is_known d) reason.nogood ≡ true
  all_known =
      listed_all (is_known d) reason.nogood
      (all_lits (λ lit. is_known d lit ≡ true) (one_of d.atoms atom (numbered atom member)) (λ b is. one_of (length d.bodies) b is.known))

  cut_off : is_cut_off d reason.nogood (Loop set) ≡ true
  cut_off =
      and_intro (list_all (is_one_of d.atoms) set && list_any (λ a. has_lit reason.nogood (l.Atom a true)) set)
      (list_all (λ support. not (is_outer d.bodies (is_among set) support) || has_lit reason.nogood (l.Body support.body false)) d.supports)
      (and_intro (list_all (is_one_of d.atoms) set) (list_any (λ a. has_lit reason.nogood (l.Atom a true)) set) (all_from_members (is_one_of d.atoms) set (λ a m. one_of d.atoms a (numbered a m)))
      (any_member (λ a. has_lit reason.nogood (l.Atom a true)) set atom member (canonical_has (l.Atom atom true ∷ all_false bodies) (l.Atom atom true) tt (inl refl))))
      (all_from_members (λ support. not (is_outer d.bodies (is_among set) support) || has_lit reason.nogood (l.Body support.body false)) d.supports
      (λ support m. either support (is_outer d.bodies (is_among set) support) refl (cut.outer support m)))
    where
      either : (support : Support) (e : Bool) → is_outer d.bodies (is_among set) support ≡ e → (is_outer d.bodies (is_among set) support ≡ true → IsMember bodies support.body)
          → (not e || has_lit reason.nogood (l.Body support.body false)) ≡ true
      either support true f g = lit_here support.body (g f)
      either support false f g = refl

  shown : shows_loop d reason ≡ true
  shown = and_intro (list_all (is_known d) reason.nogood) (is_cut_off d reason.nogood (Loop set)) all_known cut_off

  unfounded : (program : GroundProgram) → d ≡ dependence_of program → IsUnfounded (numbering program) t set
  unfounded program same =
      property_from_members (λ support. is_external (numbering program) set support ≡ true → is_true_on t (l.Body support.body false) ≡ true) (numbering program).supports
      (λ support m e.
      (property_member (IsFalseBody d t) bodies support.body cut.are_false
      (cut.outer support (subst (λ (ss : List Support). IsMember ss support) (sym (ap (λ (x : Dependence). x.supports) same)) m)
      (ap (λ (x : Dependence). is_outer x.bodies (is_among set) support) same ∙ sym (external_same set program support) ∙ e))).is_false)

  pub loop_is : IsLoop d t reason
  loop_is = record {
    set = set;
    atom = atom;
    step = refl;
    member = named.member;
    open_or_true = cut.open_or_true;
    unfounded = unfounded;
    valid = λ program same cost. valid_shown program reason (subst (λ (x : Dependence). shows_loop x reason ≡ true) same shown) cost;
    shown = shown;
    spelled = record {
      rises = rises_canonical (l.Atom atom true ∷ all_false bodies);
      named = all_lits (Names t.shape)
          (record { literal = one d.atoms atom (numbered atom member); within = (let is : IsNumbered t.shape.atoms atom = subst (λ n. IsNumbered n atom) (sym fits.atoms) (numbered atom member) in is.known) })
          (λ b is. record { literal = one (length d.bodies) b is.known; within = (let known : IsNumbered t.shape.bodies b = subst (λ n. IsNumbered n b) (sym fits.bodies) is.known in known.known) });
      step = is_step set atom member cut.ascends;
    };
    first = atom_first atom true bodies;
    others = λ lit c. holds_contained (λ lit. (lit ≡ l.Atom atom true) ⊎ (is_true_on t lit ≡ true)) reason.nogood lit
        (all_lits (λ lit. (lit ≡ l.Atom atom true) ⊎ (is_true_on t lit ≡ true)) (inl refl) (λ b is. inr is.is_false)) c;
    conflict = named.conflict;
  }

-- the literals are well formed
pub lits_made : (lits : List Lit) (atom : ℕ) (bodies : List ℕ) → 1 ≤ atom → AllByRecursion (λ body. 1 ≤ body) bodies → lits ≡ l.Atom atom true ∷ all_false bodies → All IsLit lits
lits_made lits atom bodies one all e =
    subst (All IsLit) (sym e) (All-from_recursion IsLit (l.Atom atom true ∷ all_false bodies) (one, bodies_all IsLit (λ body. 1 ≤ body) (λ b h. h) bodies all))
