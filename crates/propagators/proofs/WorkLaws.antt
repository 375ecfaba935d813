-- What the propagators of a program do for it.
use Rattle.std.proofs.Common.{◌≡◌, ℕ, zero, suc, ◌+◌, true, false, not, ◌&&◌, ◌||◌, IsTrue, refl, sym, ◌∙◌, ap, ap₂, subst, arith, eqb-true, true≢false, List, [], ◌∷◌, ◌++◌, length, Option, None, Some, slice_get, ℤ, inl}
use Rattle.std.specs.Prelude.{option_to_list}
use Rattle.std.specs.List.{AllByRecursion, list_all, list_any}
use Rattle.std.proofs.lemmas.List.Elements.{All-from_recursion}
use Rattle.literals.specs.declared.lit.Lit.{Lit}
use Rattle.literals.specs.declared.lit.Lit.TheVariants as l
use Rattle.literals.specs.declared.reason.Step.{Step}
use Rattle.literals.specs.declared.reason.Step.TheVariants.{Sum, Distinct, Window, Pair, Loop, Hole}
use Rattle.literals.specs.declared.reason.Reason.{Reason}
use Rattle.ground_model.specs.declared.int_set.IntSet.{IntSet}
use Rattle.ground_model.specs.declared.program.GroundProgram.{GroundProgram}
use Rattle.ground_model.specs.Intervals.{lies_in}
use Rattle.ground_model.specs.Members.{IsMember}
use Rattle.ground_model.proofs.Bools.{and_elim, and_intro, conflict}
use Rattle.ground_model.proofs.MemberLemmas.{same_nat, any_member, member_any, property_member}
use Rattle.ground_model.proofs.WayLemmas.{append_left, append_right}
use Rattle.linear_normal.specs.declared.constraint.Constraint.{Constraint}
use Rattle.linear_normal.specs.declared.constraint.Constraint.TheVariants as c
use Rattle.linear_normal.specs.Numbering.{numbering}
use Rattle.linear_normal.specs.Steps.{is_one_of, is_named, is_sum, is_hole, is_overfull, is_overloaded, is_clash, is_shown, is_valid}
use Rattle.linear_normal.specs.Truth.{numbered_in}
use Rattle.linear_normal.proofs.BodyLemmas.{place_member}
use Rattle.numbering_laws.specs.Parts.{HasParts}
use Rattle.numbering_laws.proofs.MadeLemmas.{numbered_known}
use Rattle.numbering_laws.proofs.ItemLemmas.{one_of, items_law}
use Rattle.numbering_laws.proofs.PartLemmas.{parts_law}
use Rattle.trail.specs.Assignment.{Assignment, is_true_on, lower_on}
use Rattle.trail.proofs.AssignmentLaws.{true-truth}
use Rattle.propagator_core.specs.Meaning.{Meaning}
use Rattle.propagator_core.specs.Several.{some_valid, AllFit}
use Rattle.trail_bounds.specs.OnTrail.{is_of}
use Rattle.sum_propagator.specs.Sums.{sum_meaning}
use Rattle.sum_laws.proofs.SumWorkLemmas.{sum_work_law}
use Rattle.trail_worlds.specs.Total.{shape_of}
use Rattle.trail_worlds.specs.Calm.{Settles, EachIsSettled}
use Rattle.propagators.specs.Domains.{fits_domain, is_hole_of, valid_domain, settled_domain, domain_meaning}
use Rattle.propagators.specs.Meanings.{meaning_for, meanings_from, CountsApart}
use Rattle.propagators.specs.Tuples.{is_about_tuples}
use Rattle.propagators.specs.Work.{is_of_constraint, DoTheWork}

-- ONE FOR EACH CONSTRAINT THAT NEEDS ONE

none_some : {X Y : Type 0} {x : X} → None ≡ Some x → Y
none_some e = cc

append_each : (P : Meaning → Type 0) (xs ys : List Meaning) → AllByRecursion P xs → AllByRecursion P ys → AllByRecursion P (xs ++ ys)
append_each P [] ys a b = b
append_each P (x ∷ xs) ys a b = (a.0, append_each P xs ys a.1 b)

each_from : (P : Meaning → Type 0) (k : ℕ) (cs : List Constraint) → ((i : ℕ) (d : Constraint) (m : Meaning) → slice_get cs i ≡ Some d → meaning_for (i + k) d ≡ Some m → P m) → AllByRecursion P (meanings_from k cs)
each_from P k [] h = tt
each_from P k (d ∷ cs) h =
    append_each P (option_to_list (meaning_for k d)) (meanings_from (suc k) cs)
    (one (meaning_for k d) refl)
    (each_from P (suc k) cs (λ i e m f g. h (suc i) e m f (ap (λ n. meaning_for n e) (shift i) ∙ g)))
  where
    zero_plus : 0 + k ≡ k
    zero_plus = omega arith

    shift : (i : ℕ) → suc i + k ≡ i + suc k
    shift i = omega arith

    one : (o : Option Meaning) → meaning_for k d ≡ o → AllByRecursion P (option_to_list o)
    one None e = tt
    one (Some m) e = (h 0 d m refl (ap (λ n. meaning_for n d) zero_plus ∙ e), tt)

member_from : (k : ℕ) (cs : List Constraint) (i : ℕ) (d : Constraint) (m : Meaning) → slice_get cs i ≡ Some d → meaning_for (i + k) d ≡ Some m → IsMember (meanings_from k cs) m
member_from k [] i d m e f = absurd (none_some e)
member_from k (x ∷ cs) zero d m e f =
    append_left (option_to_list (meaning_for k x)) (meanings_from (suc k) cs) m
    (subst (λ (o : Option Meaning). IsMember (option_to_list o) m) (sym (ap (meaning_for k) same ∙ ap (λ n. meaning_for n d) zero_plus ∙ f)) (inl refl))
  where
    same : x ≡ d
    same = cc

    zero_plus : k ≡ 0 + k
    zero_plus = omega arith
member_from k (x ∷ cs) (suc i) d m e f =
    append_right (option_to_list (meaning_for k x)) (meanings_from (suc k) cs) m
    (member_from (suc k) cs i d m e (ap (λ n. meaning_for n d) shift ∙ f))
  where
    shift : i + suc k ≡ suc i + k
    shift = omega arith

one_more : (i : ℕ) → suc i ≡ i + 1
one_more i = omega arith

-- what holds of the propagator of each numbered constraint holds of each
each_numbered : (P : Meaning → Type 0) (cs : List Constraint) → ((n : ℕ) (d : Constraint) (m : Meaning) → numbered_in cs n ≡ Some d → meaning_for n d ≡ Some m → P m) → AllByRecursion P (meanings_from 1 cs)
each_numbered P cs h = each_from P 1 cs (λ i d m e f. h (suc i) d m e (ap (λ n. meaning_for n d) (one_more i) ∙ f))

member_numbered : (cs : List Constraint) (n : ℕ) (d : Constraint) (m : Meaning) → numbered_in cs n ≡ Some d → meaning_for n d ≡ Some m → IsMember (meanings_from 1 cs) m
member_numbered cs zero d m e f = absurd (none_some e)
member_numbered cs (suc i) d m e f = member_from 1 cs i d m e (ap (λ n. meaning_for n d) (sym (one_more i)) ∙ f)

numbered_member : {X : Type 0} (xs : List X) (n : ℕ) (x : X) → numbered_in xs n ≡ Some x → IsMember xs x
numbered_member xs zero x e = absurd (none_some e)
numbered_member xs (suc k) x e = place_member xs k x e

some_same : {X : Type 0} {x y : X} → Some x ≡ Some y → x ≡ y
some_same e = cc

-- A DOMAIN

module _ (program : GroundProgram) (n x : ℕ) (set : IntSet) (found : numbered_in (numbering program).constraints n ≡ Some (c.Domain x set)) where
  named_same : (lits : List Lit) → list_all (is_of (shape_of program)) lits ≡ list_all (is_named program (numbering program)) lits
  named_same [] = refl
  named_same (lit ∷ lits) = ap₂ ◌&&◌ (one lit) (named_same lits)
    where
      one : (lit : Lit) → is_of (shape_of program) lit ≡ is_named program (numbering program) lit
      one (l.Atom a sign) = refl
      one (l.Body b sign) = refl
      one (l.Constraint m sign) = refl
      one (l.AtMost y k) = refl
      one (l.AtLeast y k) = refl

  no_zero : n ≡ 0 → ⊥
  no_zero e = none_some (sym (ap (numbered_in (numbering program).constraints) e) ∙ found)

  -- a step of the domain shows exactly that no number is left
  shown_same : (lits : List Lit) → is_shown program (numbering program) None lits (Hole n) ≡ is_hole program.ends lits n (Some (c.Domain x set))
  shown_same lits = go n no_zero ∙ ap (is_hole program.ends lits n) found
    where
      go : (m : ℕ) → (m ≡ 0 → ⊥) → is_shown program (numbering program) None lits (Hole m) ≡ is_hole program.ends lits m (numbered_in (numbering program).constraints m)
      go zero f = absurd (f refl)
      go (suc m) f = refl

  own_step : (step : Step) → is_hole_of n step ≡ true → step ≡ Hole n
  own_step (Hole m) e = ap Hole (eqb-true m n e)
  own_step (Sum m) e = absurd (true≢false (sym e))
  own_step (Distinct m a b) e = absurd (true≢false (sym e))
  own_step (Window m a b) e = absurd (true≢false (sym e))
  own_step (Pair m i j) e = absurd (true≢false (sym e))
  own_step (Loop atoms) e = absurd (true≢false (sym e))

  hole_sound : (r : Reason) → valid_domain n x set (shape_of program) r ≡ true → is_valid program (numbering program) None r.nogood r.step ≡ true
  hole_sound r e =
      let p = and_elim (list_all (is_of (shape_of program)) r.nogood && is_hole_of n r.step) (is_hole program.ends r.nogood n (Some (c.Domain x set))) e in
      let q = and_elim (list_all (is_of (shape_of program)) r.nogood) (is_hole_of n r.step) p.0 in
      ap (is_valid program (numbering program) None r.nogood) (own_step r.step q.1)
      ∙ and_intro (list_all (is_named program (numbering program)) r.nogood) (is_shown program (numbering program) None r.nogood (Hole n)) (sym (named_same r.nogood) ∙ q.0) (shown_same r.nogood ∙ p.1)

  hole_complete : (r : Reason) → r.step ≡ Hole n → is_valid program (numbering program) None r.nogood r.step ≡ true → valid_domain n x set (shape_of program) r ≡ true
  hole_complete r same e =
      let p = and_elim (list_all (is_named program (numbering program)) r.nogood) (is_shown program (numbering program) None r.nogood (Hole n)) (sym (ap (is_valid program (numbering program) None r.nogood) same) ∙ e) in
      and_intro (list_all (is_of (shape_of program)) r.nogood && is_hole_of n r.step) (is_hole program.ends r.nogood n (Some (c.Domain x set)))
      (and_intro (list_all (is_of (shape_of program)) r.nogood) (is_hole_of n r.step) (named_same r.nogood ∙ p.0) (ap (is_hole_of n) same ∙ same_nat n n refl))
      (sym (shown_same r.nogood) ∙ p.1)

  hole_fits : IsTrue (fits_domain n x (shape_of program))
  hole_fits =
      let parts : HasParts program (numbering program) (c.Domain x set) = property_member (HasParts program (numbering program)) (numbering program).constraints (c.Domain x set) (parts_law program).constraints (numbered_member (numbering program).constraints n (c.Domain x set) found) in
      and_intro (is_one_of (length (numbering program).constraints) n) (is_one_of (length program.variables) x)
      (one_of (length (numbering program).constraints) n (numbered_known (numbering program).constraints n (c.Domain x set) found)) (one_of (length program.variables) x parts)

  hole_settles : Settles program n (c.Domain x set) (domain_meaning n x set)
  hole_settles = record { counted = λ k e. absurd (true≢false (sym e)); settles = λ t shape is total e on. go t e (true-truth t (l.Constraint n true) on) }
    where
      go : (t : Assignment) → settled_domain n x set t ≡ true → is_true_on t (l.Constraint n true) ≡ true → lies_in set.intervals (lower_on t x) ≡ true
      go t e on = sym (ap (λ b. not b || lies_in set.intervals (lower_on t x)) on) ∙ e

-- ALL

module _ (program : GroundProgram) (no_tuples : list_any is_about_tuples (numbering program).constraints ≡ false) where
  abbrev ms : List Meaning
  ms = meanings_from 1 (numbering program).constraints

  not_about : (n : ℕ) (d : Constraint) → numbered_in (numbering program).constraints n ≡ Some d → is_about_tuples d ≡ true → ⊥
  not_about n d e h = conflict (list_any is_about_tuples (numbering program).constraints) (any_member is_about_tuples (numbering program).constraints d (numbered_member (numbering program).constraints n d e) h) no_tuples

  abbrev IsSound : Meaning → Type 0
  IsSound m = (r : Reason) → IsTrue (m.valid (shape_of program) r) → is_valid program (numbering program) None r.nogood r.step ≡ true

  each_sound : AllByRecursion IsSound (meanings_from 1 (numbering program).constraints)
  each_sound = each_numbered IsSound (numbering program).constraints one
    where
      one : (n : ℕ) (d : Constraint) (m : Meaning) → numbered_in (numbering program).constraints n ≡ Some d → meaning_for n d ≡ Some m → IsSound m
      one n (c.AtMost items most) m e f = subst IsSound (some_same f) (λ r v. ((sum_work_law program n items most e).sound r v).1)
      one n (c.Domain x set) m e f = subst IsSound (some_same f) (λ r v. hole_sound program n x set e r v)
      one n (c.Both i j) m e f = absurd (none_some f)
      one n (c.Either i j) m e f = absurd (none_some f)
      one n (c.Distinct places) m e f = absurd (none_some f)
      one n (c.Disjoint places) m e f = absurd (none_some f)
      one n (c.Tally bodies) m e f = absurd (none_some f)

  all_sound : (r : Reason) → IsTrue (some_valid (meanings_from 1 (numbering program).constraints) (shape_of program) r) → is_valid program (numbering program) None r.nogood r.step ≡ true
  all_sound r v =
      let w = member_any (λ (m : Meaning). m.valid (shape_of program) r) (meanings_from 1 (numbering program).constraints) v in
      property_member IsSound (meanings_from 1 (numbering program).constraints) w.0 each_sound w.1 r w.2

  by_member : (r : Reason) (m : Meaning) (n : ℕ) (d : Constraint) → numbered_in (numbering program).constraints n ≡ Some d → meaning_for n d ≡ Some m → IsTrue (m.valid (shape_of program) r) → IsTrue (some_valid (meanings_from 1 (numbering program).constraints) (shape_of program) r)
  by_member r m n d e f v = any_member (λ (m : Meaning). m.valid (shape_of program) r) (meanings_from 1 (numbering program).constraints) m (member_numbered (numbering program).constraints n d m e f) v

  shown_of : (r : Reason) (step : Step) → r.step ≡ step → is_valid program (numbering program) None r.nogood r.step ≡ true → is_shown program (numbering program) None r.nogood step ≡ true
  shown_of r step same e = (and_elim (list_all (is_named program (numbering program)) r.nogood) (is_shown program (numbering program) None r.nogood step) (sym (ap (is_valid program (numbering program) None r.nogood) same) ∙ e)).1

  no : {X : Type 0} → false ≡ true → X
  no e = cc

  complete_sum : (r : Reason) (n : ℕ) → r.step ≡ Sum (suc n) → is_valid program (numbering program) None r.nogood r.step ≡ true → IsTrue (some_valid (meanings_from 1 (numbering program).constraints) (shape_of program) r)
  complete_sum r n same e = go (numbered_in (numbering program).constraints (suc n)) refl (shown_of r (Sum (suc n)) same e)
    where
      go : (o : Option Constraint) → numbered_in (numbering program).constraints (suc n) ≡ o → is_sum program.ends r.nogood (suc n) o ≡ true → IsTrue (some_valid (meanings_from 1 (numbering program).constraints) (shape_of program) r)
      go (Some (c.AtMost items most)) f s = by_member r (sum_meaning (suc n) items most) (suc n) (c.AtMost items most) f refl ((sum_work_law program (suc n) items most f).complete r same e)
      go (Some (c.Domain x set)) f s = no s
      go (Some (c.Both i j)) f s = no s
      go (Some (c.Either i j)) f s = no s
      go (Some (c.Distinct places)) f s = no s
      go (Some (c.Disjoint places)) f s = no s
      go (Some (c.Tally bodies)) f s = no s
      go None f s = no s

  complete_hole : (r : Reason) (n : ℕ) → r.step ≡ Hole (suc n) → is_valid program (numbering program) None r.nogood r.step ≡ true → IsTrue (some_valid (meanings_from 1 (numbering program).constraints) (shape_of program) r)
  complete_hole r n same e = go (numbered_in (numbering program).constraints (suc n)) refl (shown_of r (Hole (suc n)) same e)
    where
      go : (o : Option Constraint) → numbered_in (numbering program).constraints (suc n) ≡ o → is_hole program.ends r.nogood (suc n) o ≡ true → IsTrue (some_valid (meanings_from 1 (numbering program).constraints) (shape_of program) r)
      go (Some (c.Domain x set)) f s = by_member r (domain_meaning (suc n) x set) (suc n) (c.Domain x set) f refl (hole_complete program (suc n) x set f r same e)
      go (Some (c.AtMost items most)) f s = no s
      go (Some (c.Both i j)) f s = no s
      go (Some (c.Either i j)) f s = no s
      go (Some (c.Distinct places)) f s = no s
      go (Some (c.Disjoint places)) f s = no s
      go (Some (c.Tally bodies)) f s = no s
      go None f s = no s

  no_distinct : (r : Reason) (n : ℕ) (a b : ℤ) → is_overfull program.ends r.nogood n a b (numbered_in (numbering program).constraints n) ≡ true → ⊥
  no_distinct r n a b s = go (numbered_in (numbering program).constraints n) refl s
    where
      go : (o : Option Constraint) → numbered_in (numbering program).constraints n ≡ o → is_overfull program.ends r.nogood n a b o ≡ true → ⊥
      go (Some (c.Distinct places)) f s = not_about n (c.Distinct places) f refl
      go (Some (c.AtMost items most)) f s = no s
      go (Some (c.Domain x set)) f s = no s
      go (Some (c.Both i j)) f s = no s
      go (Some (c.Either i j)) f s = no s
      go (Some (c.Disjoint places)) f s = no s
      go (Some (c.Tally bodies)) f s = no s
      go None f s = no s

  no_window : (r : Reason) (n : ℕ) (a b : ℤ) → is_overloaded program.ends r.nogood n a b (numbered_in (numbering program).constraints n) ≡ true → ⊥
  no_window r n a b s = go (numbered_in (numbering program).constraints n) refl s
    where
      go : (o : Option Constraint) → numbered_in (numbering program).constraints n ≡ o → is_overloaded program.ends r.nogood n a b o ≡ true → ⊥
      go (Some (c.Disjoint places)) f s = not_about n (c.Disjoint places) f refl
      go (Some (c.AtMost items most)) f s = no s
      go (Some (c.Domain x set)) f s = no s
      go (Some (c.Both i j)) f s = no s
      go (Some (c.Either i j)) f s = no s
      go (Some (c.Distinct places)) f s = no s
      go (Some (c.Tally bodies)) f s = no s
      go None f s = no s

  no_pair : (r : Reason) (n i j : ℕ) → is_clash program.ends r.nogood n i j (numbered_in (numbering program).constraints n) ≡ true → ⊥
  no_pair r n i j s = go (numbered_in (numbering program).constraints n) refl s
    where
      go : (o : Option Constraint) → numbered_in (numbering program).constraints n ≡ o → is_clash program.ends r.nogood n i j o ≡ true → ⊥
      go (Some (c.Disjoint places)) f s = not_about n (c.Disjoint places) f refl
      go (Some (c.AtMost items most)) f s = no s
      go (Some (c.Domain x set)) f s = no s
      go (Some (c.Both a b)) f s = no s
      go (Some (c.Either a b)) f s = no s
      go (Some (c.Distinct places)) f s = no s
      go (Some (c.Tally bodies)) f s = no s
      go None f s = no s

  all_complete : (r : Reason) → is_of_constraint r.step ≡ true → is_valid program (numbering program) None r.nogood r.step ≡ true → IsTrue (some_valid (meanings_from 1 (numbering program).constraints) (shape_of program) r)
  all_complete r of e = go r.step refl of
    where
      go : (step : Step) → r.step ≡ step → is_of_constraint step ≡ true → IsTrue (some_valid (meanings_from 1 (numbering program).constraints) (shape_of program) r)
      go (Sum zero) same o = no o
      go (Sum (suc n)) same o = complete_sum r n same e
      go (Hole zero) same o = no o
      go (Hole (suc n)) same o = complete_hole r n same e
      go (Distinct n a b) same o = absurd (no_distinct r n a b (shown_of r (Distinct n a b) same e))
      go (Window n a b) same o = absurd (no_window r n a b (shown_of r (Window n a b) same e))
      go (Pair n i j) same o = absurd (no_pair r n i j (shown_of r (Pair n i j) same e))
      go (Loop atoms) same o = no o

  all_settled : EachIsSettled program (meanings_from 1 (numbering program).constraints)
  all_settled n (c.AtMost items most) e w = (sum_meaning n items most, member_numbered (numbering program).constraints n (c.AtMost items most) (sum_meaning n items most) e refl, (sum_work_law program n items most e).settles)
  all_settled n (c.Domain x set) e w = (domain_meaning n x set, member_numbered (numbering program).constraints n (c.Domain x set) (domain_meaning n x set) e refl, hole_settles program n x set e)
  all_settled n (c.Distinct places) e w = absurd (not_about n (c.Distinct places) e refl)
  all_settled n (c.Disjoint places) e w = absurd (not_about n (c.Disjoint places) e refl)
  all_settled n (c.Both i j) e w = no w
  all_settled n (c.Either i j) e w = no w
  all_settled n (c.Tally bodies) e w = no w

  pub do_the_work : DoTheWork program (meanings_from 1 (numbering program).constraints)
  do_the_work = record { sound = all_sound; complete = all_complete; settled = all_settled }

pub all_fit : (program : GroundProgram) → AllFit (meanings_from 1 (numbering program).constraints) (shape_of program)
all_fit program = All-from_recursion (λ (m : Meaning). IsTrue (m.fits (shape_of program))) (meanings_from 1 (numbering program).constraints) (each_numbered (λ (m : Meaning). IsTrue (m.fits (shape_of program))) (numbering program).constraints one)
  where
    one : (n : ℕ) (d : Constraint) (m : Meaning) → numbered_in (numbering program).constraints n ≡ Some d → meaning_for n d ≡ Some m → IsTrue (m.fits (shape_of program))
    one n (c.AtMost items most) m e f = subst (λ (m : Meaning). IsTrue (m.fits (shape_of program))) (some_same f) (sum_work_law program n items most e).fits
    one n (c.Domain x set) m e f = subst (λ (m : Meaning). IsTrue (m.fits (shape_of program))) (some_same f) (hole_fits program n x set e)
    one n (c.Both i j) m e f = absurd (none_some f)
    one n (c.Either i j) m e f = absurd (none_some f)
    one n (c.Distinct places) m e f = absurd (none_some f)
    one n (c.Disjoint places) m e f = absurd (none_some f)
    one n (c.Tally bodies) m e f = absurd (none_some f)

-- each sum counts different things
pub counts_apart : (program : GroundProgram) (n : ℕ) (d : Constraint) → numbered_in (numbering program).constraints n ≡ Some d → CountsApart n d
counts_apart program n (c.AtMost items most) e = (items_law program).sums n items most e
counts_apart program n (c.Both i j) e = tt
counts_apart program n (c.Either i j) e = tt
counts_apart program n (c.Domain x set) e = tt
counts_apart program n (c.Distinct places) e = tt
counts_apart program n (c.Disjoint places) e = tt
counts_apart program n (c.Tally bodies) e = tt
