-- The completion law, both ways.
use Rattle.std.proofs.Common.{◌≡◌, ℕ, zero, suc, ◌+◌, ◌<◌, ◌≤◌, Bool, true, false, not, cond, ◌&&◌, ◌||◌, ◌==◌, inl, inr, List, [], ◌∷◌, ◌++◌, map, filter, length, flat_map, option_to_list, refl, sym, ◌∙◌, ap, ap₂, subst, true≢false, eqb-true, Option, Some, None, slice_get, arith}
use Rattle.std.specs.List.{AllByRecursion, list_all, list_any, range_with_len}
use Rattle.std.proofs.lemmas.Bool.Decides.{nat_tests}
use Rattle.literals.specs.declared.lit.Lit.{Lit}
use Rattle.literals.specs.declared.lit.Lit.TheVariants as l
use Rattle.literals.specs.declared.reason.Step.{Step}
use Rattle.literals.specs.declared.reason.Step.TheVariants.{Sum, Distinct, Window, Pair, Loop, Hole}
use Rattle.literals.specs.Nogoods.{canonical, has_lit}
use Rattle.literals.specs.Truths.{Truths, all_true, Meets}
use Rattle.ground_model.specs.declared.rule.BodyLit.{BodyLit}
use Rattle.ground_model.specs.declared.rule.BodyLit.TheVariants as b
use Rattle.ground_model.specs.declared.rule.Bound.{Bound}
use Rattle.ground_model.specs.declared.rule.GroundHead.{GroundHead}
use Rattle.ground_model.specs.declared.rule.GroundHead.TheVariants as h
use Rattle.ground_model.specs.declared.rule.GroundRule.{GroundRule}
use Rattle.ground_model.specs.declared.program.GroundProgram.{GroundProgram}
use Rattle.ground_model.specs.Answers.{IsNumbered}
use Rattle.ground_model.specs.Duties.{chosen, head_holds, rule_holds, IsStableByTests}
use Rattle.ground_model.specs.Members.{IsMember}
use Rattle.ground_model.specs.Model.{allows}
use Rattle.ground_model.specs.Ways.{literal_holds, holds_from, Way, ways, gives, derivable}
use Rattle.ground_model.specs.World.{World}
use Rattle.ground_model.proofs.Bools.{and_elim, and_intro, or_left, or_right, not_true}
use Rattle.ground_model.proofs.LawProofs.{tests_law}
use Rattle.ground_model.proofs.MemberLemmas.{same_nat, any_member, member_any, all_member, all_from_members, property_member, property_from_members, member_map, map_member}
use Rattle.ground_model.proofs.WayLemmas.{append_left, append_right, member_flat}
use Rattle.linear_normal.specs.declared.constraint.Constraint.{Constraint}
use Rattle.linear_normal.specs.declared.numbered.Conjunction.{Conjunction}
use Rattle.linear_normal.specs.declared.numbered.Support.{Support}
use Rattle.linear_normal.specs.declared.numbered.Duty.{Duty}
use Rattle.linear_normal.specs.declared.numbered.Numbered.{Numbered}
use Rattle.linear_normal.specs.Contents.{Content}
use Rattle.linear_normal.specs.Bodies.{bodies_in, Placed, placed, selections}
use Rattle.linear_normal.specs.Demands.{bounds_of}
use Rattle.linear_normal.specs.Demands as demands
use Rattle.linear_normal.specs.Numbering.{lit_of, conjunction_of, head_duties, contents_in, numbering}
use Rattle.linear_normal.specs.Truth.{numbered_in, AreTruths, constraint_truth}
use Rattle.linear_normal.specs.Steps.{is_one_of, is_named, is_among, is_atom_of, leans_on, is_external, is_loop, is_valid}
use Rattle.linear_normal.specs.Laws.{taken_count, KeepsTruth, is_no_loop}
use Rattle.linear_normal.proofs.BoundLemmas.{listed_true}
use Rattle.linear_normal.proofs.StepLemmas.{step_law}
use Rattle.linear_normal.proofs.BodyLemmas.{IsPlain, canonical_has, canonical_only, placed_rule, rule_placed, IsSupportOf, support_way, way_has_support, place_member}
use Rattle.linear_normal.proofs.TruthLemmas.{truth_law, from_some, conjunction_at}
use Rattle.completion.specs.Inputs.{bodies_nogoods, duty_nogood, rule_nogoods, all_false, constraints_nogoods, supporting, atom_nogood, input_nogoods, MeetsAll}
use Rattle.completion.specs.Loops.{MeetsLoops}
use Rattle.completion.specs.Tight.{IsBelow, AreBelow, IsTight}
use Rattle.completion.specs.Laws.{IsWorldOf, IsStableWorld, CompletionLaw, TightLaw, ReasonLaw}
use Rattle.linear_normal.proofs.ListLemmas.{all_append, all_flat, all_map, filter_member, member_filter, among_member, member_among, range_numbered, numbered_range, strictly_shorter}
use Rattle.completion.proofs.StableLemmas.{body_true, IsGiven, given_parts, given_from, closed_from_duties, derivable_next}
use Rattle.completion.proofs.NogoodLemmas.{met_from, met_to, bodies_met, head_true, duty_done, duty_met, one_is_true, true_refutes, constraints_met}

module _ (program : GroundProgram) (world : World) (truths : Truths) (own : IsWorldOf program world) (are : AreTruths (numbering program) world truths) where
  abbrev atoms : ℕ
  atoms = length program.atoms

  abbrev variables : ℕ
  variables = length program.variables

  abbrev cs : List Content
  cs = contents_in program

  abbrev N : Numbered
  N = numbering program

  abbrev rules : List GroundRule
  rules = program.rules

  kept : KeepsTruth program world truths
  kept = truth_law program world truths are

  -- DUTIES

  own_body : (at : Placed) → IsMember (placed 1 rules) at → truths.body at.first ≡ list_all (literal_holds world) at.rule.body
  own_body at m = ap truths.body plus_zero ∙ kept.body at m 0 at.rule.body refl
    where
      plus_zero : at.first ≡ at.first + 0
      plus_zero = omega arith

  abbrev duties_at : Placed → List Duty
  duties_at at = head_duties cs atoms variables at.first at.rule.head

  -- the duties of a rule are done exactly where its head holds if its body does
  done_to : (at : Placed) → IsMember (placed 1 rules) at → (head : GroundHead) → at.rule.head ≡ head
      → ((duty : Duty) → IsMember (head_duties cs atoms variables at.first head) duty → (not (truths.body duty.body) || head_true truths duty.head) ≡ true)
      → (not (list_all (literal_holds world) at.rule.body) || head_holds world head) ≡ true
  done_to at m h.Nothing e f = ap (λ b. not b || false) (sym (own_body at m)) ∙ f (record { body = at.first; head = None }) (inl refl)
  done_to at m (h.Atom a) e f =
      ap₂ (λ b c. not b || c) (sym (own_body at m)) (sym (are.atom a)) ∙ f (record { body = at.first; head = Some (l.Atom a true) }) (inl refl)
  done_to at m (h.Theory theory) e f =
      ap₂ (λ b c. not b || c) (sym (own_body at m)) (sym (kept.theory at.rule (placed_rule 1 rules at m) theory e))
      ∙ f (record { body = at.first; head = Some (l.Constraint (demands.number_of cs (demands.theory_content variables theory)) true) }) (inl refl)
  done_to at m (h.Choice choice) e f = by (list_all (literal_holds world) at.rule.body) refl
    where
      of : Bound → Duty
      of bound = record { body = at.first; head = Some (l.Constraint (demands.number_of cs (demands.bound_content (selections atoms at.first choice.items) bound)) true) }

      holds : (x y : Bool) → x ≡ true → (not x || y) ≡ true → y ≡ true
      holds true y p q = q
      holds false y p q = absurd (true≢false (sym p))

      one : list_all (literal_holds world) at.rule.body ≡ true → (bound : Bound) → IsMember (bounds_of choice) bound → allows (Some bound) (length (chosen world choice.items)) ≡ true
      one t bound k =
          ap (λ b. allows (Some bound) (cond b (length (chosen world choice.items)) 0)) (sym t)
          ∙ sym (kept.bound at m choice e bound k)
          ∙ holds (truths.body at.first) (truths.constraint (demands.number_of cs (demands.bound_content (selections atoms at.first choice.items) bound))) (own_body at m ∙ t)
          (f
          (record { body = at.first; head = Some (l.Constraint (demands.number_of cs (demands.bound_content (selections atoms at.first choice.items) bound)) true) })
          (member_map (λ bound. record {
            body = at.first;
            head = Some (l.Constraint (demands.number_of cs (demands.bound_content (selections atoms at.first choice.items) bound)) true);
          }) (bounds_of choice) bound k))

      side : (o : Option Bound) → ((bound : Bound) → IsMember (option_to_list o) bound → allows (Some bound) (length (chosen world choice.items)) ≡ true) → allows o (length (chosen world choice.items)) ≡ true
      side None g = refl
      side (Some bound) g = g bound (inl refl)

      by : (b : Bool) → list_all (literal_holds world) at.rule.body ≡ b
          → (not (list_all (literal_holds world) at.rule.body) || (allows choice.left (length (chosen world choice.items)) && allows choice.right (length (chosen world choice.items)))) ≡ true
      by false t = or_left (not (list_all (literal_holds world) at.rule.body)) (allows choice.left (length (chosen world choice.items)) && allows choice.right (length (chosen world choice.items))) (ap not t)
      by true t =
          or_right (not (list_all (literal_holds world) at.rule.body)) (allows choice.left (length (chosen world choice.items)) && allows choice.right (length (chosen world choice.items)))
          (and_intro (allows choice.left (length (chosen world choice.items))) (allows choice.right (length (chosen world choice.items)))
          (side choice.left (λ bound k. one t bound (append_left (option_to_list choice.left) (option_to_list choice.right) bound k)))
          (side choice.right (λ bound k. one t bound (append_right (option_to_list choice.left) (option_to_list choice.right) bound k))))

  done_from : (at : Placed) → IsMember (placed 1 rules) at → (head : GroundHead) → at.rule.head ≡ head
      → (not (list_all (literal_holds world) at.rule.body) || head_holds world head) ≡ true
      → (duty : Duty) → IsMember (head_duties cs atoms variables at.first head) duty → (not (truths.body duty.body) || head_true truths duty.head) ≡ true
  done_from at m h.Nothing e t duty (inl s) =
      subst (λ (d : Duty). (not (truths.body d.body) || head_true truths d.head) ≡ true) (sym s) (ap (λ b. not b || false) (own_body at m) ∙ t)
  done_from at m h.Nothing e t duty (inr k) = absurd k
  done_from at m (h.Atom a) e t duty (inl s) =
      subst (λ (d : Duty). (not (truths.body d.body) || head_true truths d.head) ≡ true) (sym s) (ap₂ (λ b c. not b || c) (own_body at m) (are.atom a) ∙ t)
  done_from at m (h.Atom a) e t duty (inr k) = absurd k
  done_from at m (h.Theory theory) e t duty (inl s) =
      subst (λ (d : Duty). (not (truths.body d.body) || head_true truths d.head) ≡ true) (sym s)
      (ap₂ (λ b c. not b || c) (own_body at m) (kept.theory at.rule (placed_rule 1 rules at m) theory e) ∙ t)
  done_from at m (h.Theory theory) e t duty (inr k) = absurd k
  done_from at m (h.Choice choice) e t duty k =
      let f = map_member (λ bound. record {
        body = at.first;
        head = Some (l.Constraint (demands.number_of cs (demands.bound_content (selections atoms at.first choice.items) bound)) true);
      }) (bounds_of choice) duty k in
      subst (λ (d : Duty). (not (truths.body d.body) || head_true truths d.head) ≡ true) (sym f.2)
      (ap₂ (λ b c. not b || c) (own_body at m) (kept.bound at m choice e f.0 f.1) ∙ by (list_all (literal_holds world) at.rule.body) refl f.0 f.1)
    where
      holds : (x y : Bool) → x ≡ true → (not x || y) ≡ true → y ≡ true
      holds true y p q = q
      holds false y p q = absurd (true≢false (sym p))

      by : (b : Bool) → list_all (literal_holds world) at.rule.body ≡ b → (bound : Bound) → IsMember (bounds_of choice) bound
          → (not (list_all (literal_holds world) at.rule.body) || allows (Some bound) (taken_count world at.rule.body choice)) ≡ true
      by false s bound k =
          or_left (not (list_all (literal_holds world) at.rule.body)) (allows (Some bound) (taken_count world at.rule.body choice)) (ap not s)
      by true s bound k =
          or_right (not (list_all (literal_holds world) at.rule.body)) (allows (Some bound) (taken_count world at.rule.body choice))
          (ap (λ b. allows (Some bound) (cond b (length (chosen world choice.items)) 0)) s ∙ side choice.left choice.right
          (and_elim (allows choice.left (length (chosen world choice.items))) (allows choice.right (length (chosen world choice.items)))
          (holds (list_all (literal_holds world) at.rule.body) (allows choice.left (length (chosen world choice.items)) && allows choice.right (length (chosen world choice.items))) s t)) k)
        where
          side : (left right : Option Bound) → (allows left (length (chosen world choice.items)) ≡ true) × (allows right (length (chosen world choice.items)) ≡ true)
              → IsMember (option_to_list left ++ option_to_list right) bound → allows (Some bound) (length (chosen world choice.items)) ≡ true
          side (Some x) right p (inl f) = subst (λ (y : Bound). allows (Some y) (length (chosen world choice.items)) ≡ true) (sym f) p.0
          side (Some x) (Some y) p (inr (inl f)) = subst (λ (y : Bound). allows (Some y) (length (chosen world choice.items)) ≡ true) (sym f) p.1
          side (Some x) (Some y) p (inr (inr k)) = absurd k
          side (Some x) None p (inr k) = absurd k
          side None (Some y) p (inl f) = subst (λ (y : Bound). allows (Some y) (length (chosen world choice.items)) ≡ true) (sym f) p.1
          side None (Some y) p (inr k) = absurd k
          side None None p k = absurd k

  -- the duties that are met do each rule's duty
  duties_hold : ((at : Placed) → IsMember (placed 1 rules) at → (duty : Duty) → IsMember (duties_at at) duty → Meets truths (duty_nogood duty)) → list_all (rule_holds world) rules ≡ true
  duties_hold met = all_from_members (rule_holds world) rules one
    where
      one : (rule : GroundRule) → IsMember rules rule → rule_holds world rule ≡ true
      one rule m =
          let p = rule_placed 1 rules rule m in
          subst (λ (r : GroundRule). rule_holds world r ≡ true) p.2
          (done_to p.0 p.1 p.0.rule.head refl (λ duty k. duty_done truths duty (met p.0 p.1 duty k)))

  input_duties : MeetsAll truths (input_nogoods program) → (at : Placed) → IsMember (placed 1 rules) at → (duty : Duty) → IsMember (duties_at at) duty → Meets truths (duty_nogood duty)
  input_duties met at m duty k =
      property_member (Meets truths) (input_nogoods program) (duty_nogood duty) met
      (append_left (flat_map (rule_nogoods cs atoms variables) (placed 1 rules) ++ constraints_nogoods 1 N.constraints) (map (atom_nogood N.supports) (range_with_len 1 atoms)) (duty_nogood duty)
      (append_left (flat_map (rule_nogoods cs atoms variables) (placed 1 rules)) (constraints_nogoods 1 N.constraints) (duty_nogood duty)
      (member_flat (rule_nogoods cs atoms variables) (placed 1 rules) at (duty_nogood duty) m
      (append_right (bodies_nogoods at.first (map (conjunction_of cs variables) (bodies_in at.rule))) (map duty_nogood (duties_at at)) (duty_nogood duty) (member_map duty_nogood (duties_at at) duty k)))))

  input_atoms : MeetsAll truths (input_nogoods program) → (a : ℕ) → IsNumbered atoms a → Meets truths (atom_nogood N.supports a)
  input_atoms met a is =
      property_member (Meets truths) (input_nogoods program) (atom_nogood N.supports a) met
      (append_right (flat_map (rule_nogoods cs atoms variables) (placed 1 rules) ++ constraints_nogoods 1 N.constraints) (map (atom_nogood N.supports) (range_with_len 1 atoms)) (atom_nogood N.supports a)
      (member_map (atom_nogood N.supports) (range_with_len 1 atoms) a (numbered_range atoms a is)))

  -- BODIES OF SUPPORTS

  -- a support's body is true exactly where the way's is
  support_body : (at : Placed) → IsMember (placed 1 rules) at → (way : Way) (support : Support) → IsSupportOf at way support → truths.body support.body ≡ list_all (literal_holds world) way.body
  support_body at m way support is = ap truths.body is.body ∙ kept.body at m is.place way.body is.same

  support_lits : (at : Placed) → IsMember (placed 1 rules) at → (way : Way) (support : Support) → IsSupportOf at way support → numbered_in N.bodies support.body ≡ Some (conjunction_of cs variables way.body)
  support_lits at m way support is = ap (numbered_in N.bodies) is.body ∙ conjunction_at program at m is.place way.body is.same

  plain_lits : (body : List BodyLit) → AllByRecursion IsPlain (map (lit_of cs variables) body)
  plain_lits [] = tt
  plain_lits (b.Atom a sign ∷ body) = (tt, plain_lits body)
  plain_lits (b.Theory relation sign ∷ body) = (tt, plain_lits body)

  -- a body that does not lean on a set has no positive atom of it
  not_leaning : (set : List ℕ) (body : List BodyLit) → leans_on set (Some (conjunction_of cs variables body)) ≡ false → (a : ℕ) → IsMember body (b.Atom a true) → is_among set a ≡ false
  not_leaning set body e a m = go (is_among set a) refl
    where
      go : (x : Bool) → is_among set a ≡ x → x ≡ false
      go false f = refl
      go true f =
          absurd (true≢false (sym (any_member (is_atom_of set) (canonical (map (lit_of cs variables) body)) (l.Atom a true)
          (canonical_has (map (lit_of cs variables) body) (l.Atom a true) (plain_lits body) (member_map (lit_of cs variables) body (b.Atom a true) m)) f) ∙ e))

  -- a body that leans on a set has a positive atom of it
  leaning : (set : List ℕ) (body : List BodyLit) → leans_on set (Some (conjunction_of cs variables body)) ≡ true → (a : ℕ) × IsMember body (b.Atom a true) × (is_among set a ≡ true)
  leaning set body e =
      let r = member_any (is_atom_of set) (canonical (map (lit_of cs variables) body)) e in
      let f = map_member (lit_of cs variables) body r.0 (canonical_only (map (lit_of cs variables) body) r.0 r.1) in
      of f.0 f.1 (subst (λ (lit : Lit). is_atom_of set lit ≡ true) f.2 r.2)
    where
      of : (x : BodyLit) → IsMember body x → is_atom_of set (lit_of cs variables x) ≡ true → (a : ℕ) × IsMember body (b.Atom a true) × (is_among set a ≡ true)
      of (b.Atom a true) m t = (a, m, t)
      of (b.Atom a false) m t = absurd (true≢false (sym t))
      of (b.Theory relation sign) m t = absurd (true≢false (sym t))

  -- a true body whose positive atoms are derivable holds from them
  holds_from_derivable : (rank : ℕ) (body : List BodyLit) → list_all (literal_holds world) body ≡ true → ((a : ℕ) → IsMember body (b.Atom a true) → derivable rules world rank a ≡ true)
      → list_all (holds_from (derivable rules world rank) world) body ≡ true
  holds_from_derivable rank body t f = all_from_members (holds_from (derivable rules world rank) world) body one
    where
      one : (x : BodyLit) → IsMember body x → holds_from (derivable rules world rank) world x ≡ true
      one (b.Atom a true) m = f a m
      one (b.Atom a false) m = all_member (literal_holds world) body (b.Atom a false) t m
      one (b.Theory relation sign) m = all_member (literal_holds world) body (b.Theory relation sign) t m

  -- FROM LOOP NOGOODS TO RANKS

  -- the true atoms that are not derivable at a rank
  abbrev left : ℕ → ℕ → Bool
  left rank a = world.atoms a && not (derivable rules world rank a)

  abbrev rest : ℕ → List ℕ
  rest rank = filter (left rank) (range_with_len 1 atoms)

  left_next : (rank a : ℕ) → left (suc rank) a ≡ true → left rank a ≡ true
  left_next rank a e =
      let p = and_elim (world.atoms a) (not (derivable rules world (suc rank) a)) e in
      and_intro (world.atoms a) (not (derivable rules world rank a)) p.0 (earlier (derivable rules world rank a) (derivable rules world (suc rank) a) (derivable_next rules world a rank) p.1)
    where
      earlier : (x y : Bool) → (x ≡ true → y ≡ true) → not y ≡ true → not x ≡ true
      earlier true y h f = absurd (true≢false (sym (h refl) ∙ not_true y f))
      earlier false y h f = refl

  in_rest : (rank a : ℕ) → world.atoms a ≡ true → derivable rules world rank a ≡ false → IsMember (rest rank) a
  in_rest rank a t f =
      member_filter (left rank) (range_with_len 1 atoms) a (numbered_range atoms a (own a t)) (and_intro (world.atoms a) (not (derivable rules world rank a)) t (ap not f))

  -- an atom that is true and not in the rest is derivable
  below_rest : (rank a : ℕ) → world.atoms a ≡ true → is_among (rest rank) a ≡ false → derivable rules world rank a ≡ true
  below_rest rank a t f = go (derivable rules world rank a) refl
    where
      go : (x : Bool) → derivable rules world rank a ≡ x → x ≡ true
      go true e = refl
      go false e = absurd (true≢false (sym (member_among (rest rank) a (in_rest rank a t e)) ∙ f))

  -- a true body of a support from outside the rest gives its atom at the next rank
  given_next : (rank : ℕ) (support : Support) → IsMember N.supports support → is_external N (rest rank) support ≡ true → truths.body support.body ≡ true
      → IsMember (rest rank) support.atom × (derivable rules world (suc rank) support.atom ≡ true)
  given_next rank support m external t =
      let w = support_way 1 rules support m in
      let p = and_elim (is_among (rest rank) support.atom) (not (leans_on (rest rank) (numbered_in N.bodies support.body))) external in
      let among = among_member (rest rank) support.atom p.0 in
      let true_atom = (and_elim (world.atoms support.atom) (not (derivable rules world rank support.atom)) (filter_member (left rank) (range_with_len 1 atoms) support.atom among).1).0 in
      let holds : list_all (literal_holds world) w.2.body ≡ true = sym (support_body w.0 w.1 w.2 support w.4) ∙ t in
      let apart : leans_on (rest rank) (Some (conjunction_of cs variables w.2.body)) ≡ false =
      ap (leans_on (rest rank)) (sym (support_lits w.0 w.1 w.2 support w.4)) ∙ not_true (leans_on (rest rank) (numbered_in N.bodies support.body)) p.1 in (
        among,
        any_member (gives (derivable rules world rank) world support.atom) (ways rules) w.2 w.3
            (given_from world (derivable rules world rank) support.atom w.2
            (record {
              atom = sym w.4.atom;
              chosen = or_right (not w.2.is_choice) (world.atoms support.atom) true_atom;
              body = holds_from_derivable rank w.2.body holds (λ a k.
                  below_rest rank a (all_member (literal_holds world) w.2.body (b.Atom a true) holds k) (not_leaning (rest rank) w.2.body apart a k));
            })),
      )

  -- where an atom is left, another one is derivable at the next rank
  one_more : MeetsLoops atoms N truths → (rank a : ℕ) → IsMember (rest rank) a
      → (b : ℕ) × IsMember (range_with_len 1 atoms) b × (left rank b ≡ true) × (left (suc rank) b ≡ false)
  one_more loops rank a m =
      let f = filter_member (left rank) (range_with_len 1 atoms) a m in
      let met = loops (rest rank) numbered a (member_among (rest rank) a m) in
      let bodies = map (λ support. support.body) (filter (is_external N (rest rank)) N.supports) in
      let r = one_is_true truths bodies
      (first (truths.atom a) (all_true truths (all_false bodies)) (are.atom a ∙ (and_elim (world.atoms a) (not (derivable rules world rank a)) f.1).0) (met_to truths (l.Atom a true ∷ all_false bodies) met)) in
      let s = map_member (λ support. support.body) (filter (is_external N (rest rank)) N.supports) r.0 r.1 in
      let e = filter_member (is_external N (rest rank)) N.supports s.0 s.1 in
      let g = given_next rank s.0 e.0 e.1 (ap truths.body (sym s.2) ∙ r.2) in
      let k = filter_member (left rank) (range_with_len 1 atoms) s.0.atom g.0 in
      (s.0.atom, k.0, k.1, ap (λ x. world.atoms s.0.atom && not x) g.1 ∙ never (world.atoms s.0.atom))
    where
      numbered : AllByRecursion (IsNumbered atoms) (rest rank)
      numbered = property_from_members (IsNumbered atoms) (rest rank) (λ x k. range_numbered atoms x (filter_member (left rank) (range_with_len 1 atoms) x k).0)

      first : (x y : Bool) → x ≡ true → (x && y) ≡ false → y ≡ false
      first true y p e = e
      first false y p e = absurd (true≢false (sym p))

      never : (x : Bool) → (x && false) ≡ false
      never true = refl
      never false = refl

  not_empty : (xs : List ℕ) (a : ℕ) → IsMember xs a → 0 < length xs
  not_empty [] a m = absurd m
  not_empty (x ∷ xs) a m = omega arith

  -- fewer are left from rank to rank, so each true atom is derivable at some rank
  all_derived : MeetsLoops atoms N truths → (most rank : ℕ) → length (rest rank) ≤ most → (a : ℕ) → world.atoms a ≡ true → (r : ℕ) × (derivable rules world r a ≡ true)
  all_derived loops zero rank few a t = go (derivable rules world rank a) refl
    where
      go : (x : Bool) → derivable rules world rank a ≡ x → (r : ℕ) × (derivable rules world r a ≡ true)
      go true e = (rank, e)
      go false e = absurd (omega (arith, few, not_empty (rest rank) a (in_rest rank a t e)))
  all_derived loops (suc most) rank few a t = go (derivable rules world rank a) refl (all_derived loops most (suc rank))
    where
      go : (x : Bool) → derivable rules world rank a ≡ x → (length (rest (suc rank)) ≤ most → (b : ℕ) → world.atoms b ≡ true → (r : ℕ) × (derivable rules world r b ≡ true))
          → (r : ℕ) × (derivable rules world r a ≡ true)
      go true e rec = (rank, e)
      go false e rec =
          let o = one_more loops rank a (in_rest rank a t e) in
          let fewer : length (rest (suc rank)) < length (rest rank) = strictly_shorter (left rank) (left (suc rank)) (left_next rank) (range_with_len 1 atoms) o.0 o.1 o.2 o.3 in
          rec (omega (arith, few, fewer)) a t

  pub stable_from_nogoods : MeetsAll truths (input_nogoods program) → MeetsLoops atoms N truths → IsStableByTests rules world
  stable_from_nogoods met loops = record {
    derived = all_derived loops (length (rest 0)) 0 (omega arith);
    closed = λ a rank e. closed_from_duties rules world (duties_hold (input_duties met)) a rank e;
    duties = duties_hold (input_duties met);
  }

  -- FROM TIGHTNESS TO RANKS

  -- a true atom of a tight program is derivable at each rank above its own
  tight_derived : MeetsAll truths (input_nogoods program) → (tight : IsTight N) → (n a : ℕ) → tight.0 a < n → world.atoms a ≡ true → derivable rules world n a ≡ true
  tight_derived met tight zero a below t = absurd (omega (arith, below))
  tight_derived met tight (suc n) a below t =
      let r = one_is_true truths (supporting N.supports a)
      (first (truths.atom a) (all_true truths (all_false (supporting N.supports a))) (are.atom a ∙ t) (met_to truths (l.Atom a true ∷ all_false (supporting N.supports a)) (input_atoms met a (own a t)))) in
      let s = map_member (λ support. support.body) (filter (λ support. support.atom == a) N.supports) r.0 r.1 in
      let e = filter_member (λ support. support.atom == a) N.supports s.0 s.1 in
      let w = support_way 1 rules s.0 e.0 in
      let atom : s.0.atom ≡ a = eqb-true s.0.atom a e.1 in
      let holds : list_all (literal_holds world) w.2.body ≡ true = sym (support_body w.0 w.1 w.2 s.0 w.4) ∙ ap truths.body (sym s.2) ∙ r.2 in
      let ranks : AreBelow tight.0 (tight.0 s.0.atom) (Some (conjunction_of cs variables w.2.body)) =
      subst (AreBelow tight.0 (tight.0 s.0.atom)) (support_lits w.0 w.1 w.2 s.0 w.4)
      (property_member (λ support. AreBelow tight.0 (tight.0 support.atom) (numbered_in N.bodies support.body)) N.supports s.0 tight.1 e.0) in
      any_member (gives (derivable rules world n) world a) (ways rules) w.2 w.3
      (given_from world (derivable rules world n) a w.2
      (record {
        atom = sym w.4.atom ∙ atom;
        chosen = or_right (not w.2.is_choice) (world.atoms a) t;
        body = holds_from_derivable n w.2.body holds (λ c k.
            tight_derived met tight n c
            (lower (tight.0 c) (tight.0 s.0.atom) (tight.0 a) n (ap tight.0 atom) below
            (property_member (IsBelow tight.0 (tight.0 s.0.atom)) (canonical (map (lit_of cs variables) w.2.body)) (l.Atom c true) ranks
            (canonical_has (map (lit_of cs variables) w.2.body) (l.Atom c true) (plain_lits w.2.body) (member_map (lit_of cs variables) w.2.body (b.Atom c true) k))))
            (all_member (literal_holds world) w.2.body (b.Atom c true) holds k));
      }))
    where
      first : (x y : Bool) → x ≡ true → (x && y) ≡ false → y ≡ false
      first true y p e = e
      first false y p e = absurd (true≢false (sym p))

      lower : (x y z n : ℕ) → y ≡ z → z < suc n → x < y → x < n
      lower x y z n e h k = omega (arith, e, h, k)

  pub stable_from_tight : MeetsAll truths (input_nogoods program) → IsTight N → IsStableByTests rules world
  stable_from_tight met tight = record {
    derived = λ a t. (suc (tight.0 a), tight_derived met tight (suc (tight.0 a)) a (omega arith) t);
    closed = λ a rank e. closed_from_duties rules world (duties_hold (input_duties met)) a rank e;
    duties = duties_hold (input_duties met);
  }

  -- FROM RANKS TO NOGOODS

  -- a derivable atom has a support whose body is true
  supported : IsStableByTests rules world → (a : ℕ) → world.atoms a ≡ true → (support : Support) × IsMember N.supports support × (support.atom ≡ a) × (truths.body support.body ≡ true)
  supported stable a t = let d = stable.derived a t in of d.0 d.1
    where
      of : (rank : ℕ) → derivable rules world rank a ≡ true → (support : Support) × IsMember N.supports support × (support.atom ≡ a) × (truths.body support.body ≡ true)
      of zero e = absurd (true≢false (sym e))
      of (suc rank) e =
          let w = member_any (gives (derivable rules world rank) world a) (ways rules) e in
          let g = given_parts world (derivable rules world rank) a w.0 w.2 in
          let s = way_has_support 1 rules w.0 w.1 in
          (s.2, s.3, s.4.atom ∙ g.atom, support_body s.0 s.1 w.0 s.2 s.4 ∙ body_true world (derivable rules world rank) (λ b. stable.closed b rank) w.0.body g.body)

  atom_met : IsStableByTests rules world → (a : ℕ) → Meets truths (atom_nogood N.supports a)
  atom_met stable a = met_from truths (l.Atom a true ∷ all_false (supporting N.supports a)) (go (truths.atom a) refl)
    where
      go : (x : Bool) → truths.atom a ≡ x → (truths.atom a && all_true truths (all_false (supporting N.supports a))) ≡ false
      go false e = ap (λ y. y && all_true truths (all_false (supporting N.supports a))) e
      go true e =
          let s = supported stable a (sym (are.atom a) ∙ e) in
          ap₂ ◌&&◌ e
          (true_refutes truths (supporting N.supports a) s.0.body
          (member_map (λ support. support.body) (filter (λ support. support.atom == a) N.supports) s.0 (member_filter (λ support. support.atom == a) N.supports s.0 s.1 (same_nat s.0.atom a s.2)))
          s.3)

  -- no atom of a set is derivable that no true body supports from outside
  none_derived : IsStableByTests rules world → (set : List ℕ) → ((support : Support) → IsMember N.supports support → is_external N set support ≡ true → truths.body support.body ≡ true → ⊥)
      → (rank a : ℕ) → is_among set a ≡ true → derivable rules world rank a ≡ true → ⊥
  none_derived stable set outside zero a m e = true≢false (sym e)
  none_derived stable set outside (suc rank) a m e =
      let w = member_any (gives (derivable rules world rank) world a) (ways rules) e in
      let g = given_parts world (derivable rules world rank) a w.0 w.2 in
      let s = way_has_support 1 rules w.0 w.1 in
      let holds : truths.body s.2.body ≡ true = support_body s.0 s.1 w.0 s.2 s.4 ∙ body_true world (derivable rules world rank) (λ b. stable.closed b rank) w.0.body g.body in
      go w.0 g s.2 s.3 holds (s.4.atom ∙ g.atom) (support_lits s.0 s.1 w.0 s.2 s.4) (leans_on set (numbered_in N.bodies s.2.body)) refl (none_derived stable set outside rank)
    where
      go : (way : Way) → IsGiven world (derivable rules world rank) a way → (support : Support) → IsMember N.supports support → truths.body support.body ≡ true → support.atom ≡ a
          → numbered_in N.bodies support.body ≡ Some (conjunction_of cs variables way.body) → (x : Bool) → leans_on set (numbered_in N.bodies support.body) ≡ x
          → ((b : ℕ) → is_among set b ≡ true → derivable rules world rank b ≡ true → ⊥) → ⊥
      go way g support k holds atom lits false f rec =
          outside support k (and_intro (is_among set support.atom) (not (leans_on set (numbered_in N.bodies support.body))) (subst (λ x. is_among set x ≡ true) (sym atom) m) (ap not f)) holds
      go way g support k holds atom lits true f rec =
          let r = leaning set way.body (ap (leans_on set) (sym lits) ∙ f) in
          rec r.0 r.2 (all_member (holds_from (derivable rules world rank) world) way.body (b.Atom r.0 true) g.body r.1)

  loops_met : IsStableByTests rules world → MeetsLoops atoms N truths
  loops_met stable set numbered a m = met_from truths (l.Atom a true ∷ all_false bodies) (go (truths.atom a) refl (all_true truths (all_false bodies)) refl)
    where
      bodies : List ℕ
      bodies = map (λ support. support.body) (filter (is_external N set) N.supports)

      go : (x : Bool) → truths.atom a ≡ x → (y : Bool) → all_true truths (all_false (map (λ support. support.body) (filter (is_external N set) N.supports))) ≡ y
          → (truths.atom a && all_true truths (all_false (map (λ support. support.body) (filter (is_external N set) N.supports)))) ≡ false
      go false e y f = ap (λ z. z && all_true truths (all_false (map (λ support. support.body) (filter (is_external N set) N.supports)))) e
      go true e false f = ap₂ ◌&&◌ e f
      go true e true f =
          let d = stable.derived a (sym (are.atom a) ∙ e) in
          absurd (none_derived stable set
          (λ support k external t. true≢false (sym f ∙ true_refutes truths (map (λ support. support.body) (filter (is_external N set) N.supports)) support.body
          (member_map (λ support. support.body) (filter (is_external N set) N.supports) support (member_filter (is_external N set) N.supports support k external)) t))
          d.0 a m d.1)

  map_place : (bodies : List (List BodyLit)) (k : ℕ) (body : Conjunction) → slice_get (map (conjunction_of cs variables) bodies) k ≡ Some body
      → (of : List BodyLit) × (slice_get bodies k ≡ Some of) × (body ≡ conjunction_of cs variables of)
  map_place [] k body e = absurd (place_member {X = Conjunction} [] k body e)
  map_place (x ∷ bodies) zero body e = let same : conjunction_of cs variables x ≡ body = cc in (x, refl, sym same)
  map_place (x ∷ bodies) (suc k) body e = map_place bodies k body e

  rule_met : IsStableByTests rules world → (at : Placed) → IsMember (placed 1 rules) at → AllByRecursion (Meets truths) (rule_nogoods cs atoms variables at)
  rule_met stable at m =
      all_append (Meets truths) (bodies_nogoods at.first (map (conjunction_of cs variables) (bodies_in at.rule))) (map duty_nogood (duties_at at))
      (bodies_met truths at.first (map (conjunction_of cs variables) (bodies_in at.rule)) each)
      (all_map (Meets truths) duty_nogood (duties_at at) (λ duty k. duty_met truths duty (done_from at m at.rule.head refl (all_member (rule_holds world) rules at.rule stable.duties (placed_rule 1 rules at m)) duty k)))
    where
      each : (k : ℕ) (body : Conjunction) → slice_get (map (conjunction_of cs variables) (bodies_in at.rule)) k ≡ Some body → truths.body (at.first + k) ≡ all_true truths body.lits
      each k body e =
          let r = map_place (bodies_in at.rule) k body e in
          from_some (λ (c : Conjunction). truths.body (at.first + k) ≡ all_true truths c.lits) (numbered_in N.bodies (at.first + k)) body (conjunction_at program at m k r.0 r.1 ∙ ap Some (sym r.2)) (are.body (at.first + k))

  pub nogoods_from_stable : IsStableByTests rules world → MeetsAll truths (input_nogoods program) × MeetsLoops atoms N truths
  nogoods_from_stable stable = (
    all_append (Meets truths) (flat_map (rule_nogoods cs atoms variables) (placed 1 rules) ++ constraints_nogoods 1 N.constraints) (map (atom_nogood N.supports) (range_with_len 1 atoms))
        (all_append (Meets truths) (flat_map (rule_nogoods cs atoms variables) (placed 1 rules)) (constraints_nogoods 1 N.constraints)
        (all_flat (Meets truths) (rule_nogoods cs atoms variables) (placed 1 rules) (rule_met stable))
        (constraints_met truths 1 N.constraints (λ k c e. subst (λ n. truths.constraint n ≡ constraint_truth truths c) (one_more_is k)
        (from_some (λ (c : Constraint). truths.constraint (suc k) ≡ constraint_truth truths c) (numbered_in N.constraints (suc k)) c e (are.constraint (suc k))))))
        (all_map (Meets truths) (atom_nogood N.supports) (range_with_len 1 atoms) (λ a k. atom_met stable a)),
    loops_met stable,
  )
    where
      one_more_is : (k : ℕ) → suc k ≡ 1 + k
      one_more_is k = omega arith

pub completion_law : CompletionLaw
completion_law program world truths own are = (to, from)
  where
    to : MeetsAll truths (input_nogoods program) × MeetsLoops (length program.atoms) (numbering program) truths → IsStableWorld program world
    to met = (tests_law program world).1 (stable_from_nogoods program world truths own are met.0 met.1)

    from : IsStableWorld program world → MeetsAll truths (input_nogoods program) × MeetsLoops (length program.atoms) (numbering program) truths
    from stable = nogoods_from_stable program world truths own are ((tests_law program world).0 stable)

pub tight_law : TightLaw
tight_law program world truths own are tight = (to, from)
  where
    to : MeetsAll truths (input_nogoods program) → IsStableWorld program world
    to met = (tests_law program world).1 (stable_from_tight program world truths own are met tight)

    from : IsStableWorld program world → MeetsAll truths (input_nogoods program)
    from stable = (nogoods_from_stable program world truths own are ((tests_law program world).0 stable)).0

-- a list by which a loop is shown is met where all loop nogoods are
loop_shown : (program : GroundProgram) (truths : Truths) → MeetsLoops (length program.atoms) (numbering program) truths → (lits : List Lit) (set : List ℕ)
    → is_loop program (numbering program) lits set ≡ true → Meets truths lits
loop_shown program truths loops lits set e = go (all_true truths lits) refl
  where
    numbered : (n : ℕ) → is_one_of (length program.atoms) n ≡ true → IsNumbered (length program.atoms) n
    numbered n f = record { above = (grind (arith, nat_tests, f)); known = (grind (arith, nat_tests, f)) }

    go : (x : Bool) → all_true truths lits ≡ x → x ≡ false
    go false f = refl
    go true f =
        let p = and_elim (list_all (is_one_of (length program.atoms)) set && list_any (λ a. has_lit lits (l.Atom a true)) set) (list_all (λ support. not (is_external (numbering program) set support) || has_lit lits (l.Body support.body false)) (numbering program).supports) e in
        let q = and_elim (list_all (is_one_of (length program.atoms)) set) (list_any (λ a. has_lit lits (l.Atom a true)) set) p.0 in
        let a = member_any (λ a. has_lit lits (l.Atom a true)) set q.1 in
        let met = met_to truths (l.Atom a.0 true ∷ all_false (map (λ support. support.body) (filter (is_external (numbering program) set) (numbering program).supports)))
        (loops set (property_from_members (IsNumbered (length program.atoms)) set (λ n m. numbered n (all_member (is_one_of (length program.atoms)) set n q.0 m))) a.0 (member_among set a.0 a.1)) in
        let r = one_is_true truths (map (λ support. support.body) (filter (is_external (numbering program) set) (numbering program).supports))
        (first (truths.atom a.0) (all_true truths (all_false (map (λ support. support.body) (filter (is_external (numbering program) set) (numbering program).supports)))) (listed_true truths lits (l.Atom a.0 true) a.2 f) met) in
        let s = map_member (λ support. support.body) (filter (is_external (numbering program) set) (numbering program).supports) r.0 r.1 in
        let x = filter_member (is_external (numbering program) set) (numbering program).supports s.0 s.1 in
        let h = listed (is_external (numbering program) set s.0) (has_lit lits (l.Body s.0.body false)) x.1 (all_member (λ support. not (is_external (numbering program) set support) || has_lit lits (l.Body support.body false)) (numbering program).supports s.0 p.1 x.0) in
        absurd (true≢false (sym (listed_true truths lits (l.Body s.0.body false) h f) ∙ ap not (ap truths.body (sym s.2) ∙ r.2)))
      where
        first : (x y : Bool) → x ≡ true → (x && y) ≡ false → y ≡ false
        first true y p e = e
        first false y p e = absurd (true≢false (sym p))

        listed : (x y : Bool) → x ≡ true → (not x || y) ≡ true → y ≡ true
        listed true y p e = e
        listed false y p e = absurd (true≢false (sym p))

pub reason_law : ReasonLaw
reason_law program world truths own values are stable last better lits step e = go step e
  where
    others : (step : Step) → is_no_loop step ≡ true → is_valid program (numbering program) last lits step ≡ true → Meets truths lits
    others step k e = step_law program world truths values are last better lits step k e

    go : (step : Step) → is_valid program (numbering program) last lits step ≡ true → Meets truths lits
    go (Loop set) e =
        loop_shown program truths ((completion_law program world truths own are).1 stable).1 lits set
        (and_elim (list_all (is_named program (numbering program)) lits) (is_loop program (numbering program) lits set) e).1
    go (Sum n) e = others (Sum n) refl e
    go (Distinct n a b) e = others (Distinct n a b) refl e
    go (Window n a b) e = others (Window n a b) refl e
    go (Pair n i j) e = others (Pair n i j) refl e
    go (Hole n) e = others (Hole n) refl e
