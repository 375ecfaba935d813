-- The constraint stable models of a program are those of its ground program.
use Rattle.std.proofs.Common.{◌≡◌, ◌+◌, ◌-◌, inl, inr, ◌↔◌, ℕ, zero, suc, Bool, true, false, ℤ, pos, ◌-ℤ◌, List, [], ◌∷◌, map, length, slice_index_or, Option, None, Some, refl, sym, ◌∙◌, ap, subst, true≢false, ◌==◌, eqb-true, arith}
use Rattle.std.specs.List.{AllByRecursion}
use Rattle.symbols.specs.Symbol.{Symbol}
use Rattle.symbols.specs.Table.{symbol_at}
use Rattle.syntax_tree.specs.declared.literal.TheoryName.{TheoryName}
use Rattle.syntax_tree.specs.declared.literal.TheoryName.TheVariants as name
use Rattle.ground_model.specs.declared.answer.Answer.{Answer}
use Rattle.ground_model.specs.declared.program.GroundProgram.{GroundProgram}
use Rattle.ground_model.specs.Answers.{IsRuleOf, value_at, has_atom, IsNumbered, AreAtomsOf, IsWithin, IsAnswerOf}
use Rattle.ground_model.specs.Members.{IsMember}
use Rattle.ground_model.specs.Rules.{AtomHead}
use Rattle.ground_model.specs.Derivable.{Derivable}
use Rattle.ground_model.specs.Rule.{PlaceOf, ItemOf, HeadOf, NothingHead, GivesHead, HoldsHead, ChoosesHead, RuleOf}
use Rattle.ground_model.specs.Model.{read_head, items_of, rules_with, IsModel}
use Rattle.ground_model.specs.Objective.{cost, objective_of}
use Rattle.ground_model.specs.Truth.{sum_of}
use Rattle.ground_model.proofs.AnswerLemmas.{answer_atoms}
use Rattle.ground_model.proofs.MemberLemmas.{property_member, property_from_members, member_any, member_map, map_member}
use Rattle.program_meaning.specs.Read.{ReadTheory, ReadHead, ReadNothing, ReadAtom, ReadDuty, ReadChoose, ReadRule, ReadProgram}
use Rattle.program_meaning.specs.Ascending.{IsOrderedListOf}
use Rattle.program_meaning.specs.Substitution.{Value}
use Rattle.program_meaning.specs.Theory.{place_cmp}
use Rattle.program_meaning.specs.Instance.{IsPossible}
use Rattle.program_meaning.specs.Ground.{DutyAs, HeadAs, is_directive, directs, GivesRule, IsInstanceAs, IsRuleOfProgram}
use Rattle.program_meaning.specs.Canonical.{number_of, or_zero, variable_number, place_numbered, rule_numbered, IsVariable, IsDirected, GroundView, view_of, PlacesAs, IsCanonical}
use Rattle.program_meaning.specs.Models.{IsModelOf, has_number, IsSameWorld, IsShaped, IsObjective}
use Rattle.program_meaning.specs.Laws.{SameModelsLaw, DownLaw, UpLaw, ObjectiveLaw}
use Rattle.program_meaning.proofs.Orders.{places_turn}
use Rattle.program_meaning.proofs.Lists.{ordered_same}
use Rattle.program_meaning.proofs.Numbers.{not_some, number_member, number_found, number_most, number_least}
use Rattle.program_meaning.proofs.Numbered.{Stands, HaveSame, AreSame, LinearKnown, PlacesKnown, ItemKnown, HeadKnown, RuleKnown, sum_same, numbered_up, numbered_down}
use Rattle.program_meaning.proofs.Known.{rule_known, duty_member}
use Rattle.program_meaning.proofs.One.{instance_one}
use Rattle.program_meaning.proofs.Places.{number_at, value_mapped, all_places, all_at, chosen, chosen_ascend, chosen_numbered, chosen_has}

-- ---- the rules of the ground program are those of the program

-- a head that is one of a ground rule directs nothing
duty_directs : (P : Symbol → Type 0) (rule : ReadRule) (values : List Value) (theory : ReadTheory) (kind : TheoryName) (h : HeadOf Symbol Symbol)
    → DutyAs P rule values theory kind h → is_directive kind ≡ false
duty_directs P rule values theory name.Sum h a = refl
duty_directs P rule values theory name.Diff h a = refl
duty_directs P rule values theory name.Distinct h a = refl
duty_directs P rule values theory name.Disjoint h a = refl
duty_directs P rule values theory name.Dom h a = refl
duty_directs P rule values theory name.Minimize h a = absurd a
duty_directs P rule values theory name.Maximize h a = absurd a
duty_directs P rule values theory name.Show h a = absurd a
duty_directs P rule values theory name.Unknown h a = absurd a

head_directs : (P : Symbol → Type 0) (rule : ReadRule) (values : List Value) (head : ReadHead) (h : HeadOf Symbol Symbol) → HeadAs P rule values head h → directs head ≡ false
head_directs P rule values ReadNothing h a = refl
head_directs P rule values (ReadAtom term) h a = refl
head_directs P rule values (ReadDuty theory) h a = duty_directs P rule values theory theory.name h a
head_directs P rule values (ReadChoose left elements right) h a = refl

module _ (program : ReadProgram) (view : GroundView) (c : IsCanonical program view) where
  known : (r : RuleOf Symbol Symbol) → IsRuleOfProgram program.rules r → RuleKnown view.atoms view.variables r
  known r i = rule_known program.rules view.atoms view.variables c.atoms.all c.variables.all r i

  right : (r : RuleOf Symbol Symbol) → IsRuleOfProgram program.rules r → IsMember view.rules (rule_numbered view.atoms view.variables r)
  right r i =
      let key = i.0 in
      let gives : GivesRule program.rules key = (i.1.0, i.1.1, head_directs (IsPossible program.rules) i.1.0 key.values i.1.0.head r.head i.1.3) in
      let m = (c.listed.listed.all key).1 gives in
      let f = map_member (λ instance. instance.0) c.instances key m in
      let made = property_member (λ instance. IsInstanceAs program.rules instance.0 instance.1) c.instances f.0 c.listed.each f.1 in
      let same : f.0.1 ≡ r = instance_one program.rules key f.0.1 r (subst (λ k. IsInstanceAs program.rules k f.0.1) (sym f.2) made) i.1 in
      let n = member_map (λ instance. rule_numbered view.atoms view.variables instance.1) c.instances f.0 f.1 in
      subst (λ rs. IsMember rs (rule_numbered view.atoms view.variables r)) (sym c.rules)
      (subst (λ q. IsMember (map (λ instance. rule_numbered view.atoms view.variables instance.1) c.instances) (rule_numbered view.atoms view.variables q)) same n)

  left : (other : RuleOf ℕ ℕ) → IsMember view.rules other → (r : RuleOf Symbol Symbol) × IsRuleOfProgram program.rules r × (other ≡ rule_numbered view.atoms view.variables r)
  left other m =
      let f = map_member (λ instance. rule_numbered view.atoms view.variables instance.1) c.instances other (subst (λ rs. IsMember rs other) c.rules m) in
      (f.0.1, (f.0.0, property_member (λ instance. IsInstanceAs program.rules instance.0 instance.1) c.instances f.0 c.listed.each f.1), f.2)

  -- what is derivable from rules of listed atoms is listed
  by_head : (head : HeadOf Symbol Symbol) (a : Symbol) (values : Symbol → ℤ) → HeadKnown view.atoms view.variables head → read_head values head ≡ AtomHead a → IsMember view.atoms a
  by_head NothingHead a values k e = cc
  by_head (HoldsHead theory) a values k e = cc
  by_head (ChoosesHead items low high) a values k e = cc
  by_head (GivesHead b) a values k e = let q : b ≡ a = cc in subst (IsMember view.atoms) q k

  by_item : (head : HeadOf Symbol Symbol) (x : ItemOf Symbol Symbol) → HeadKnown view.atoms view.variables head → IsMember (items_of head) x → IsMember view.atoms x.atom
  by_item NothingHead x k m = absurd m
  by_item (GivesHead b) x k m = absurd m
  by_item (HoldsHead theory) x k m = absurd m
  by_item (ChoosesHead items low high) x k m = (property_member (ItemKnown view.atoms view.variables) items x k m).atom

  derivable_listed : (model : Symbol → Bool) (values : Symbol → ℤ) (rank : ℕ) (a : Symbol)
      → Derivable (rules_with (IsRuleOfProgram program.rules) values) model rank a → IsMember view.atoms a
  derivable_listed model values zero a d = absurd d
  derivable_listed model values (suc rank) a (inl d) = by_head d.0.0.head a values (known d.0.0 d.0.1).head d.1
  derivable_listed model values (suc rank) a (inr d) = subst (IsMember view.atoms) d.2 (by_item d.0.0.head d.1.0 (known d.0.0 d.0.1).head d.1.1)

  model_listed : (model : Symbol → Bool) (values : Symbol → ℤ) → IsModel (IsRuleOfProgram program.rules) values model → (a : Symbol) → model a ≡ true → IsMember view.atoms a
  model_listed model values stable a e = let d = stable.derived a e in derivable_listed model values d.0 a d.1

-- ---- the same world

module _ (program : ReadProgram) (ground_program : GroundProgram) (c : IsCanonical program (view_of ground_program)) (model : Symbol → Bool) (values : Symbol → ℤ)
    (answer : Answer) (world : IsSameWorld (view_of ground_program) model values answer) where
  abbrev atoms : List Symbol
  atoms = (view_of ground_program).atoms

  abbrev variables : List Symbol
  variables = (view_of ground_program).variables

  map_length : (xs : List ℕ) → length (map (symbol_at ground_program.symbols) xs) ≡ length xs
  map_length [] = refl
  map_length (x ∷ xs) = ap suc (map_length xs)

  are_same : AreAtomsOf ground_program answer.atoms → AreSame atoms model (has_atom answer.atoms)
  are_same numbered = record { same = same; named = named; names = names }
    where
      same : (a : Symbol) (n : ℕ) → Stands atoms a n → model a ≡ has_atom answer.atoms n
      same a n e = world.same_atoms a ∙ ap (has_number answer) e

      named : (a : Symbol) → model a ≡ true → IsMember atoms a
      named a e = go (number_of atoms a) refl (sym (world.same_atoms a) ∙ e)
        where
          go : (o : Option ℕ) → number_of atoms a ≡ o → has_number answer o ≡ true → IsMember atoms a
          go None q t = absurd (true≢false (sym t))
          go (Some n) q t = number_member 1 atoms a n q

      names : (n : ℕ) → has_atom answer.atoms n ≡ true → (a : Symbol) × Stands atoms a n
      names n e =
          let m = member_any (λ b. b == n) answer.atoms e in
          let k = property_member (IsNumbered (length ground_program.atoms)) answer.atoms m.0 numbered m.1 in
          let q : m.0 ≡ n = eqb-true m.0 n m.2 in
          let l = map_length ground_program.atoms in
          let above = k.above in
          let most = k.known in
          let r = number_at 1 atoms c.atoms.ascend (m.0 - 1) (omega (arith, l, above, most)) in
          let f : 1 + (m.0 - 1) ≡ n = omega (arith, above, q) in
          (r.0, r.2 ∙ ap Some f)

  have_same : HaveSame variables values (value_at answer.values)
  have_same x m = world.same_values x m

  up : AreAtomsOf ground_program answer.atoms → IsModel (IsRuleOf ground_program) (value_at answer.values) (has_atom answer.atoms)
      → IsModel (IsRuleOfProgram program.rules) values model
  up numbered =
      numbered_down atoms variables values (value_at answer.values) have_same model (has_atom answer.atoms) (are_same numbered)
      (IsRuleOfProgram program.rules) (IsRuleOf ground_program) (known program (view_of ground_program) c) (right program (view_of ground_program) c) (left program (view_of ground_program) c)

  down : AreAtomsOf ground_program answer.atoms → IsModel (IsRuleOfProgram program.rules) values model
      → IsModel (IsRuleOf ground_program) (value_at answer.values) (has_atom answer.atoms)
  down numbered =
      numbered_up atoms variables values (value_at answer.values) have_same model (has_atom answer.atoms) (are_same numbered)
      (IsRuleOfProgram program.rules) (IsRuleOf ground_program) (known program (view_of ground_program) c) (right program (view_of ground_program) c) (left program (view_of ground_program) c)

  within_up : length answer.values ≡ length ground_program.variables → AllByRecursion (IsWithin ground_program.ends) answer.values
      → (x : Symbol) → IsVariable program.rules x → IsWithin ground_program.ends (values x)
  within_up each within x v =
      let m = (c.variables.all x).1 v in
      let n = number_found 1 variables x m in
      let most = number_most 1 variables x n.0 n.1 in
      let least = number_least 1 variables x n.0 n.1 in
      let l = map_length ground_program.variables in
      let w = all_at (IsWithin ground_program.ends) (pos 0) answer.values within (n.0 - 1) (omega (arith, each, most, least, l)) in
      subst (IsWithin ground_program.ends) (sym (world.same_values x m ∙ ap (λ o. value_at answer.values (or_zero o)) n.1)) w

  within_down : length answer.values ≡ length ground_program.variables → ((x : Symbol) → IsVariable program.rules x → IsWithin ground_program.ends (values x))
      → AllByRecursion (IsWithin ground_program.ends) answer.values
  within_down each within =
      all_places (IsWithin ground_program.ends) (pos 0) answer.values
      (λ place below.
      let l = map_length ground_program.variables in
      let r = number_at 1 variables c.variables.ascend place (omega (arith, each, below, l)) in
      let f : 1 + place - 1 ≡ place = omega arith in
      let e : values r.0 ≡ slice_index_or answer.values place (pos 0) =
      world.same_values r.0 r.1 ∙ ap (λ o. value_at answer.values (or_zero o)) r.2 ∙ ap (λ i. slice_index_or answer.values i (pos 0)) f in
      subst (IsWithin ground_program.ends) e (within r.0 ((c.variables.all r.0).0 r.1)))

  -- ---- the objective

  directed_known : (directive : TheoryName) → (directive ≡ name.Dom → ⊥) → (directive ≡ name.Show → ⊥) → (places : List (PlaceOf Symbol))
      → IsOrderedListOf place_cmp (IsDirected program.rules directive) places → PlacesKnown variables places
  directed_known directive not_dom not_show places listed =
      property_from_members (λ place. LinearKnown variables place.linear) places
      (λ place m.
      let d = (listed.all place).0 m in
      let t = d.3 in
      property_from_members (λ pair. IsMember variables pair.0) place.linear.pairs
      (λ pair q. (c.variables.all pair.0).1 (
        d.0,
        d.1,
        d.2,
        record {
          relevant = t.relevant;
          member = duty_member d.1 d.2 t.head;
          other = λ e. not_show (sym t.name ∙ e);
          occurs = inl ((λ e. not_dom (sym t.name ∙ e)), (place, t.tuple, (pair.1, q)));
        },
      )))

  sums_same : (directive : TheoryName) → (directive ≡ name.Dom → ⊥) → (directive ≡ name.Show → ⊥) → (places : List (PlaceOf Symbol)) (numbered : List (PlaceOf ℕ))
      → IsOrderedListOf place_cmp (IsDirected program.rules directive) places → PlacesAs program.rules directive variables numbered
      → sum_of values places ≡ sum_of (value_at answer.values) numbered
  sums_same directive not_dom not_show places numbered listed a =
      sum_same variables values (value_at answer.values) have_same places (directed_known directive not_dom not_show places listed)
      ∙ ap (λ ps. sum_of (value_at answer.values) (map (place_numbered variables) ps)) (ordered_same place_cmp places_turn (IsDirected program.rules directive) places a.0 listed a.1)
      ∙ ap (sum_of (value_at answer.values)) (sym a.2)

  minimize_not_dom : name.Minimize ≡ name.Dom → ⊥
  minimize_not_dom e = cc

  minimize_not_show : name.Minimize ≡ name.Show → ⊥
  minimize_not_show e = cc

  maximize_not_dom : name.Maximize ≡ name.Dom → ⊥
  maximize_not_dom e = cc

  maximize_not_show : name.Maximize ≡ name.Show → ⊥
  maximize_not_show e = cc

  cost_same : (smaller larger : List (PlaceOf Symbol)) → IsOrderedListOf place_cmp (IsDirected program.rules name.Minimize) smaller
      → IsOrderedListOf place_cmp (IsDirected program.rules name.Maximize) larger → cost values smaller larger ≡ objective_of ground_program answer
  cost_same smaller larger a d =
      let s = sums_same name.Minimize minimize_not_dom minimize_not_show smaller (view_of ground_program).smaller a c.smaller in
      let l = sums_same name.Maximize maximize_not_dom maximize_not_show larger (view_of ground_program).larger d c.larger in
      (λ i. s i -ℤ l i)

  pub same_objective : (objective : ℤ) → IsObjective program.rules values objective ↔ (objective ≡ objective_of ground_program answer)
  same_objective objective = (
    λ o. o.difference ∙ cost_same o.smaller o.larger o.minimised o.maximised,
    λ e. record {
      smaller = c.smaller.0;
      larger = c.larger.0;
      minimised = c.smaller.1;
      maximised = c.larger.1;
      difference = e ∙ sym (cost_same c.smaller.0 c.larger.0 c.smaller.1 c.larger.1);
    },
  )

  pub same_models : IsShaped ground_program answer → IsAnswerOf ground_program answer ↔ IsModelOf program.rules ground_program.ends model values
  same_models shaped = (
    λ is. record { stable = up shaped.atoms is.stable; within = within_up shaped.each is.valuation.within },
    λ is. record {
      ascending = shaped.ascending;
      valuation = record { each = shaped.each; within = within_down shaped.each is.within };
      stable = down shaped.atoms is.stable;
    },
  )

-- ---- the laws

pub same_models_law : SameModelsLaw
same_models_law program ground_program c model values answer shaped world = same_models program ground_program c model values answer world shaped

pub objective_law : ObjectiveLaw
objective_law program ground_program c model values answer world objective = same_objective program ground_program c model values answer world objective

pub up_law : UpLaw
up_law program ground_program c answer is =
    let shaped : IsShaped ground_program answer = record { ascending = is.ascending; atoms = answer_atoms ground_program answer is; each = is.valuation.each } in
    (model, values, world, (same_models program ground_program c model values answer world shaped).0 is)
  where
    model : Symbol → Bool
    model a = has_number answer (number_of (view_of ground_program).atoms a)

    values : Symbol → ℤ
    values x = value_at answer.values (variable_number (view_of ground_program).variables x)

    world : IsSameWorld (view_of ground_program) model values answer
    world = record { same_atoms = λ a. refl; same_values = λ x m. refl }

pub down_law : DownLaw
down_law program ground_program c model values is = (answer, world, (same_models program ground_program c model values answer world shaped).1 is)
  where
    answer : Answer
    answer = record { atoms = chosen model 1 (view_of ground_program).atoms; values = map values (view_of ground_program).variables }

    lengths : (xs : List ℕ) → length (map (symbol_at ground_program.symbols) xs) ≡ length xs
    lengths [] = refl
    lengths (x ∷ xs) = ap suc (lengths xs)

    mapped : (xs : List Symbol) → length (map values xs) ≡ length xs
    mapped [] = refl
    mapped (x ∷ xs) = ap suc (mapped xs)

    shaped : IsShaped ground_program answer
    shaped = record {
      ascending = chosen_ascend model 0 1 (view_of ground_program).atoms (omega arith);
      atoms = subst (λ n. AllByRecursion (IsNumbered n) answer.atoms) (lengths ground_program.atoms) (chosen_numbered model (view_of ground_program).atoms);
      each = mapped (view_of ground_program).variables ∙ lengths ground_program.variables;
    }

    world : IsSameWorld (view_of ground_program) model values answer
    world = record { same_atoms = same; same_values = λ x m. value_mapped values (view_of ground_program).variables x m }
      where
        same : (a : Symbol) → model a ≡ has_number answer (number_of (view_of ground_program).atoms a)
        same a = go (number_of (view_of ground_program).atoms a) refl
          where
            none : number_of (view_of ground_program).atoms a ≡ None → (t : Bool) → model a ≡ t → model a ≡ false
            none e true m =
                let f = number_found 1 (view_of ground_program).atoms a (model_listed program (view_of ground_program) c model values is.stable a m) in not_some f.0 (sym e ∙ f.1)
            none e false m = m

            go : (o : Option ℕ) → number_of (view_of ground_program).atoms a ≡ o → model a ≡ has_number answer o
            go None e = none e (model a) refl
            go (Some n) e = sym (chosen_has model 1 (view_of ground_program).atoms a n e)
