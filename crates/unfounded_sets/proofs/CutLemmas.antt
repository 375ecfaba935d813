-- Atoms that are not false, whose supports from outside are all false, give a loop nogood.
use Rattle.std.proofs.Common.{◌≡◌, ℕ, Bool, true, false, List, length, filter, refl, sym, ◌∙◌, ap₂, subst, arith}
use Rattle.std.specs.List.{AllByRecursion, range_with_len}
use Rattle.literals.specs.declared.lit.Lit.TheVariants as l
use Rattle.literals.specs.declared.reason.Reason.{Reason}
use Rattle.ground_model.specs.Answers.{IsNumbered}
use Rattle.ground_model.specs.Members.{IsMember}
use Rattle.ground_model.proofs.Bools.{same_test}
use Rattle.ground_model.proofs.MemberLemmas.{property_member, property_from_members, map_member, member_map}
use Rattle.linear_normal.specs.declared.numbered.Support.{Support}
use Rattle.linear_normal.specs.Steps.{is_among}
use Rattle.linear_normal.proofs.ListLemmas.{filter_member, member_filter, among_member, member_among, numbered_range}
use Rattle.trail.specs.Assignment.{Assignment, is_true_on}
use Rattle.unfounded_sets.specs.Dependence.{Dependence, is_outer, Fits}
use Rattle.unfounded_sets.specs.Loops.{IsLoop}
use Rattle.unfounded_sets.specs.inner.Outer.{IsWhole, outer_bodies, is_left, left_of, loop_reason, IsNamed}
use Rattle.unfounded_sets.proofs.ReasonLemmas.{IsFalseBody, IsCut, loop_is}
use Rattle.unfounded_sets.proofs.FoundedLemmas.{range_ascends, outer_same, left_numbered}

-- what is left, as a test
left_test : (flags : List Bool) (atoms a : ℕ) → IsNumbered atoms a → is_among (left_of flags atoms) a ≡ is_left flags a
left_test flags atoms a is =
    same_test (is_among (left_of flags atoms) a) (is_left flags a) (λ e. (filter_member (is_left flags) (range_with_len 1 atoms) a (among_member (left_of flags atoms) a e)).1)
    (λ e. member_among (left_of flags atoms) a (member_filter (is_left flags) (range_with_len 1 atoms) a (numbered_range atoms a is) e))

-- the bodies of supports have numbers
pub outer_known : (d : Dependence) (set : ℕ → Bool) (n : ℕ) (bodies : List ℕ) → IsWhole d → n ≡ length d.bodies → bodies ≡ outer_bodies d.bodies set d.supports → AllByRecursion (IsNumbered n) bodies
outer_known d set n bodies whole size e =
    subst (λ m. AllByRecursion (IsNumbered m) bodies) (sym size) (subst (AllByRecursion (IsNumbered (length d.bodies))) (sym e) (property_from_members (IsNumbered (length d.bodies)) (outer_bodies d.bodies set d.supports) one))
  where
    one : (b : ℕ) → IsMember (outer_bodies d.bodies set d.supports) b → IsNumbered (length d.bodies) b
    one b m =
        let s = map_member (λ (s : Support). s.body) (filter (is_outer d.bodies set) d.supports) b m in
        let f = filter_member (is_outer d.bodies set) d.supports s.0 s.1 in
        subst (IsNumbered (length d.bodies)) (sym s.2) (property_member (λ (s : Support). IsNumbered (length d.bodies) s.body) d.supports s.0 whole.known f.0)

module _ (d : Dependence) (t : Assignment) (whole : IsWhole d) (fits : Fits d t.shape) (flags : List Bool) where
  abbrev rest : List ℕ
  rest = left_of flags d.atoms

  abbrev outside : List ℕ
  outside = outer_bodies d.bodies (is_left flags) d.supports

  cut_is : AllByRecursion (λ a. is_true_on t (l.Atom a false) ≡ false) rest → AllByRecursion (λ b. is_true_on t (l.Body b false) ≡ true) outside → IsCut d t rest outside
  cut_is opens falses = record {
    ascends = range_ascends (is_left flags) 0 1 d.atoms (omega arith);
    open_or_true = property_from_members (λ a. IsNumbered t.shape.atoms a × (is_true_on t (l.Atom a false) ≡ false)) rest
        (λ a m. (
          subst (λ n. IsNumbered n a) (sym fits.atoms) (property_member (IsNumbered d.atoms) rest a (left_numbered flags d.atoms) m),
          property_member (λ a. is_true_on t (l.Atom a false) ≡ false) rest a opens m,
        ));
    are_false = property_from_members (IsFalseBody d t) outside
        (λ b m. record {
          known = property_member (IsNumbered (length d.bodies)) outside b (outer_known d (is_left flags) (length d.bodies) outside whole refl refl) m;
          is_false = property_member (λ b. is_true_on t (l.Body b false) ≡ true) outside b falses m;
        });
    outer = λ s m e. member_map (λ (s : Support). s.body) (filter (is_outer d.bodies (is_left flags)) d.supports) s
        (member_filter (is_outer d.bodies (is_left flags)) d.supports s m (sym (outer_same d t whole fits (is_among rest) (is_left flags) (left_test flags d.atoms) s m) ∙ e));
  }

  pub cut_some : (set bodies : List ℕ) (atom : ℕ) (r : Reason) → set ≡ rest → IsNamed t set atom → bodies ≡ outside → AllByRecursion (λ a. is_true_on t (l.Atom a false) ≡ false) set
      → AllByRecursion (λ b. is_true_on t (l.Body b false) ≡ true) bodies → r ≡ loop_reason set atom bodies → IsLoop d t r
  cut_some set bodies atom r same named b opens falses e =
      subst (IsLoop d t) (sym (e ∙ ap₂ (λ xs ys. loop_reason xs atom ys) same b))
      (loop_is d t rest outside atom whole fits (cut_is (subst (AllByRecursion (λ a. is_true_on t (l.Atom a false) ≡ false)) same opens) (subst (AllByRecursion (λ b. is_true_on t (l.Body b false) ≡ true)) b falses))
      (subst (λ xs. IsNamed t xs atom) same named))
