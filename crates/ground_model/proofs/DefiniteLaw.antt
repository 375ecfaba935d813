-- A program of definite rules has one constraint stable model: its derivable atoms.
use Rattle.std.proofs.Common.{◌≡◌, ◌<◌, ◌-◌, inl, inr, ℕ, zero, suc, true, false, not, ◌&&◌, ◌||◌, ◌==◌, List, [], ◌∷◌, map, length, refl, sym, ◌∙◌, ap, ap₂, subst, true≢false, eqb-true, arith}
use Rattle.std.specs.List.{AllByRecursion, list_all}
use Rattle.definite_rules.specs.Rule.{DefiniteRule}
use Rattle.definite_rules.specs.Least as definite
use Rattle.ground_model.specs.declared.answer.Answer.{Answer}
use Rattle.ground_model.specs.declared.program.GroundProgram.{GroundProgram}
use Rattle.ground_model.specs.declared.rule.BodyLit.{BodyLit}
use Rattle.ground_model.specs.declared.rule.BodyLit.TheVariants as b
use Rattle.ground_model.specs.declared.rule.GroundHead.{GroundHead}
use Rattle.ground_model.specs.declared.rule.GroundHead.TheVariants as h
use Rattle.ground_model.specs.declared.rule.GroundRule.{GroundRule}
use Rattle.ground_model.specs.Members.{IsMember}
use Rattle.ground_model.specs.Rules.{IsTrueIn}
use Rattle.ground_model.specs.Derivable.{Derivable}
use Rattle.ground_model.specs.Stable.{HeadHolds, IsChosen}
use Rattle.ground_model.specs.Model.{read_head}
use Rattle.ground_model.specs.View.{head_of, rule_of}
use Rattle.ground_model.specs.Answers.{ascend_from, has_atom, value_at, IsWithin, IsAnswerOf, IsOnlyAnswer}
use Rattle.ground_model.specs.Definite.{is_positive, gives_atom, is_definite_rule, is_definite}
use Rattle.ground_model.specs.World.{World, world_of}
use Rattle.ground_model.specs.Ways.{holds_from, gives, Way, head_ways, ways, derivable}
use Rattle.ground_model.specs.Reduct.{rest_holds, is_kept, definite_of, reduct}
use Rattle.ground_model.proofs.Bools.{and_elim}
use Rattle.ground_model.proofs.MemberLemmas.{member_any, all_member, all_from_members, map_member}
use Rattle.ground_model.proofs.Ranks.{head_derivable}
use Rattle.ground_model.proofs.WayLemmas.{flat_member, family, derivable_from_test, test_from_derivable}
use Rattle.ground_model.proofs.ReductLemmas.{filter_all, reduct_up, reduct_down, ways_counted}
use Rattle.ground_model.proofs.Ascending.{above_last, ascending_same}

-- the rules of a definite program, counted from 0
abbrev pub definite_rules_of : List GroundRule → List DefiniteRule
definite_rules_of rules = map definite_of (ways rules)

positive_kept : (world : World) (body : List BodyLit) → list_all is_positive body ≡ true → list_all (rest_holds world) body ≡ true
positive_kept world [] e = refl
positive_kept world (b.Atom a true ∷ body) e = positive_kept world body e
positive_kept world (b.Atom a false ∷ body) e = absurd (true≢false (sym e))
positive_kept world (b.Theory relation sign ∷ body) e = absurd (true≢false (sym e))

way_kept : (world : World) (body : List BodyLit) (head : GroundHead) → list_all is_positive body ≡ true → gives_atom head ≡ true
    → (way : Way) → IsMember (head_ways body head) way → is_kept world way ≡ true
way_kept world body h.Nothing p g way m = absurd m
way_kept world body (h.Theory theory) p g way m = absurd m
way_kept world body (h.Choice choice) p g way m = absurd (true≢false (sym g))
way_kept world body (h.Atom a) p g way (inr m) = absurd m
way_kept world body (h.Atom a) p g way (inl e) = subst (λ w. is_kept world w ≡ true) (sym e) (positive_kept world body p)

pub definite_reduct : (rules : List GroundRule) (world : World) → list_all is_definite_rule rules ≡ true → reduct rules world ≡ definite_rules_of rules
definite_reduct rules world e = ap (map definite_of) (filter_all (is_kept world) (ways rules) (all_from_members (is_kept world) (ways rules) kept))
  where
    kept : (way : Way) → IsMember (ways rules) way → is_kept world way ≡ true
    kept way m =
        let r = flat_member (λ rule. head_ways rule.body rule.head) rules way m in
        let d = and_elim (gives_atom r.0.head) (list_all is_positive r.0.body) (all_member is_definite_rule rules r.0 e r.1) in
        way_kept world r.0.body r.0.head d.1 d.0 way r.2

pub no_items : {X : Type 0} (xs : List X) → length xs ≡ 0 → xs ≡ []
no_items [] e = refl
no_items (x ∷ xs) e = absurd (omega arith)

module _ (program : GroundProgram) (given : is_definite program ≡ true) where
  pub rules_definite : list_all is_definite_rule program.rules ≡ true
  rules_definite =
      (and_elim (list_all is_definite_rule program.rules) (length program.variables == 0)
      (and_elim (list_all is_definite_rule program.rules && (length program.variables == 0)) (not program.has_objective) given).0).0

  pub no_variables : length program.variables ≡ 0
  no_variables =
      eqb-true (length program.variables) 0
      (and_elim (list_all is_definite_rule program.rules) (length program.variables == 0)
      (and_elim (list_all is_definite_rule program.rules && (length program.variables == 0)) (not program.has_objective) given).0).1

  pub to_definite : (world : World) (rank a : ℕ) → derivable program.rules world rank a ≡ true → definite.Derivable (definite_rules_of program.rules) rank (a - 1)
  to_definite world rank a e =
      subst (λ rules. definite.Derivable rules rank (a - 1)) (definite_reduct program.rules world rules_definite) (reduct_up program.rules world rank a e)

  pub from_definite : (world : World) (rank a : ℕ) → 0 < a → definite.Derivable (definite_rules_of program.rules) rank (a - 1) → derivable program.rules world rank a ≡ true
  from_definite world rank a n d =
      reduct_down program.rules world
      (ways_counted (length program.symbols) (length program.atoms) (length program.variables) program.ends program.rules program.sound_rules)
      rank a n
      (subst (λ rules. definite.Derivable rules rank (a - 1)) (sym (definite_reduct program.rules world rules_definite)) d)

  module _ (answer : Answer) (ascending : ascend_from 0 answer.atoms ≡ true) (no_values : answer.values ≡ [])
      (derived : (a : ℕ) → has_atom answer.atoms a ≡ true → (rank : ℕ) × definite.Derivable (definite_rules_of program.rules) rank (a - 1))
      (closed : (place rank : ℕ) → definite.Derivable (definite_rules_of program.rules) rank place → has_atom answer.atoms (suc place) ≡ true) where
    -- the answer's atoms are derivable in every world
    derived_in : (world : World) (a : ℕ) → has_atom answer.atoms a ≡ true → (rank : ℕ) × Derivable (family program.symbols program.rules world) world.atoms rank a
    derived_in world a m =
        let d = derived a m in
        (d.0, derivable_from_test program.symbols program.rules world d.0 a (from_definite world d.0 a (above_last 0 answer.atoms a ascending m) d.1))

    -- what is derivable in some world is an atom of the answer
    closed_in : (world : World) (a rank : ℕ) → Derivable (family program.symbols program.rules world) world.atoms rank a → has_atom answer.atoms a ≡ true
    closed_in world a rank d =
        let t = test_from_derivable program.symbols program.rules world rank a d in
        let above = derivable_above world rank a t in
        let e : suc (a - 1) ≡ a = omega arith in
        subst (λ n. has_atom answer.atoms n ≡ true) e (closed (a - 1) rank (to_definite world rank a t))
      where
        derivable_above : (world : World) (rank a : ℕ) → derivable program.rules world rank a ≡ true → 0 < a
        derivable_above world zero a t = absurd (true≢false (sym t))
        derivable_above world (suc rank) a t =
            let w = member_any (gives (derivable program.rules world rank) world a) (ways program.rules) t in
            let c =
            ways_counted (length program.symbols) (length program.atoms) (length program.variables) program.ends program.rules program.sound_rules
            w.0 w.1 in
            let n = c.atom in
            let s = eqb-true w.0.atom a
            (and_elim (w.0.atom == a) (not w.0.is_choice || world.atoms a)
            (and_elim ((w.0.atom == a) && (not w.0.is_choice || world.atoms a)) (list_all (holds_from (derivable program.rules world rank) world) w.0.body) w.2).0).0 in
            omega arith

    stable : IsAnswerOf program answer
    stable = record {
      ascending = ascending;
      valuation = record {
        each = ap length no_values ∙ sym no_variables;
        within = subst (AllByRecursion (IsWithin program.ends)) (sym no_values) tt;
      };
      stable = record {
        derived = derived_in (world_of answer);
        closed = closed_in (world_of answer);
        duties = duty;
      };
    }
      where
        duty : (name : (family program.symbols program.rules (world_of answer)).Name) → AllByRecursion (IsTrueIn (has_atom answer.atoms)) ((family program.symbols program.rules (world_of answer)).body name)
            → HeadHolds (has_atom answer.atoms) (IsChosen (family program.symbols program.rules (world_of answer)) (has_atom answer.atoms) name) ((family program.symbols program.rules (world_of answer)).head name)
        duty name holds =
            let r = map_member (rule_of program.symbols) program.rules name.0 name.1 in
            let d = and_elim (gives_atom r.0.head) (list_all is_positive r.0.body) (all_member is_definite_rule program.rules r.0 rules_definite r.1) in
            by_head r.0.head d.0 (ap (λ rule. read_head (value_at answer.values) rule.head) r.2)
          where
            by_head : (head : GroundHead) → gives_atom head ≡ true → read_head (value_at answer.values) name.0.head ≡ read_head (value_at answer.values) (head_of program.symbols head)
                → HeadHolds (has_atom answer.atoms) (IsChosen (family program.symbols program.rules (world_of answer)) (has_atom answer.atoms) name) (read_head (value_at answer.values) name.0.head)
            by_head h.Nothing g e = absurd (true≢false (sym g))
            by_head (h.Theory theory) g e = absurd (true≢false (sym g))
            by_head (h.Choice choice) g e = absurd (true≢false (sym g))
            by_head (h.Atom a) g e =
                let d = head_derivable (family program.symbols program.rules (world_of answer)) (has_atom answer.atoms) (derived_in (world_of answer)) name a e holds in
                subst (HeadHolds (has_atom answer.atoms) (IsChosen (family program.symbols program.rules (world_of answer)) (has_atom answer.atoms) name)) (sym e)
                (closed_in (world_of answer) a d.0 d.1)

    pub definite_only : IsOnlyAnswer program answer
    definite_only = record { one = stable; only = same }
      where
        same : (other : Answer) → IsAnswerOf program other → other ≡ answer
        same other is =
            let atoms : other.atoms ≡ answer.atoms =
            ascending_same 0 0 other.atoms answer.atoms is.ascending ascending
            (λ a m. let d = is.stable.derived a m in closed_in (world_of other) a d.0 d.1)
            (λ a m. let d = derived_in (world_of other) a m in is.stable.closed a d.0 d.1) in
            let values : other.values ≡ answer.values = no_items other.values (is.valuation.each ∙ no_variables) ∙ sym no_values in
            ap₂ (λ x y. record { atoms = x; values = y }) atoms values
