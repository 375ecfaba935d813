-- Rules go into the numbering, one after another.
use Rattle.std.proofs.Common.{◌≡◌, ℕ, ◌+◌, Bool, true, false, cond, ◌||◌, is_some, List, [], ◌∷◌, ◌++◌, map, length, flat_map, refl, sym, ◌∙◌, ap, subst, true≢false, Option, None, Some, option_to_list, append-nil, append_assoc, arith}
use Rattle.std.proofs.lemmas.List.{map-append}
use Rattle.literals.specs.declared.lit.Lit.{Lit}
use Rattle.literals.specs.declared.lit.Lit.TheVariants as l
use Rattle.literals.specs.Nogoods.{canonical}
use Rattle.ground_model.specs.declared.rule.BodyLit.{BodyLit}
use Rattle.ground_model.specs.declared.rule.Bound.{Bound}
use Rattle.ground_model.specs.declared.rule.ChoiceItem.{ChoiceItem}
use Rattle.ground_model.specs.declared.rule.GroundChoice.{GroundChoice}
use Rattle.ground_model.specs.declared.rule.GroundHead.{GroundHead}
use Rattle.ground_model.specs.declared.rule.GroundHead.TheVariants as h
use Rattle.ground_model.specs.declared.rule.GroundRule.{GroundRule}
use Rattle.ground_model.specs.declared.rule.TheoryHead.{TheoryHead}
use Rattle.linear_normal.specs.declared.constraint.Constraint.{Constraint}
use Rattle.linear_normal.specs.declared.numbered.Conjunction.{Conjunction}
use Rattle.linear_normal.specs.declared.numbered.Duty.{Duty}
use Rattle.linear_normal.specs.Contents.{Content, SomeTrue}
use Rattle.linear_normal.specs.Bodies.{is_bounded, element_body, selecting_body, head_bodies, numbers_with, atoms_in, selections}
use Rattle.linear_normal.specs.Demands.{theory_content, bounds_of, with_parts, literal_demands, choice_demands, head_demands, rule_demands, number_of}
use Rattle.linear_normal.specs.Numbering.{lit_of, conjunction_of, head_duties}
use Rattle.linear_normal.specs.inner.Tables.{Gives, GivesNumber, bound_demands, bound_duties, HasAtoms, HasAtomsIn, Adds, AddsRule}
use Rattle.linear_normal.proofs.GrowthLemmas.{gives_none, gives_as, gives_then}

-- where bodies stand behind the others in any numbers
abbrev Behind : (List BodyLit → ChoiceItem → List BodyLit) → List Lit → List ChoiceItem → List Conjunction → List Conjunction → Type 0
Behind make own items old new =
    (later : List Content) (variables : ℕ) (body : List BodyLit) → own ≡ map (lit_of later variables) body → new ≡ old ++ map (conjunction_of later variables) (map (make body) items)

-- A CHOICE WITH A BOUND

-- the rows that the code finds
pub rows_are : (found : List (List ℕ)) (first start count atoms : ℕ) (lent items : List ChoiceItem) → found ≡ map (numbers_with start lent) (atoms_in atoms lent) → lent ≡ items → start ≡ count + 1 → count ≡ first + length items
    → found ≡ selections atoms first items
rows_are found first start count atoms lent items e same started counted =
    e ∙ ap (λ xs. map (numbers_with start xs) (atoms_in atoms xs)) same ∙ ap (λ n. map (numbers_with n items) (atoms_in atoms items)) (started ∙ place first (length items) count counted)
  where
    place : (first n count : ℕ) → count ≡ first + n → count + 1 ≡ (first + 1) + n
    place first n count e = omega (arith, e)

pub bounded_given : (before after : List Constraint) (variables first : ℕ) (own : List Lit) (body : List BodyLit) (lent items : List ChoiceItem) (bounds : List Bound) (found rows : List (List ℕ))
    (old new : List Conjunction) (old_duties new_duties : List Duty) → found ≡ rows → lent ≡ items
    → Gives before after (map SomeTrue found ++ bound_demands found bounds) (λ later. new_duties ≡ old_duties ++ bound_duties later found first bounds) → Behind selecting_body own lent old new
    → Gives before after (map SomeTrue rows ++ bound_demands rows bounds)
    (λ later. Adds later variables own body (map (selecting_body body) items) (bound_duties later rows first bounds) old new old_duties new_duties)
bounded_given before after variables first own body lent items bounds found rows old new old_duties new_duties same_rows same gives behind =
    gives_as before after (map SomeTrue rows ++ bound_demands rows bounds) (λ later. new_duties ≡ old_duties ++ bound_duties later rows first bounds)
    (λ later. Adds later variables own body (map (selecting_body body) items) (bound_duties later rows first bounds) old new old_duties new_duties)
    (subst (λ xs. Gives before after (map SomeTrue xs ++ bound_demands xs bounds) (λ later. new_duties ≡ old_duties ++ bound_duties later xs first bounds)) same_rows gives)
    (λ later duties. record {
      bodies = λ own_is. behind later variables body own_is ∙ ap (λ xs. old ++ map (conjunction_of later variables) (map (selecting_body body) xs)) same;
      duties = duties;
    })

-- CHOICES

bounded_demands : (left right : Option Bound) (rows : List (List ℕ)) → (is_some left || is_some right) ≡ true
    → map SomeTrue rows ++ bound_demands rows (option_to_list left ++ option_to_list right) ≡ choice_demands rows (option_to_list left ++ option_to_list right)
bounded_demands (Some x) (Some y) rows e = refl
bounded_demands (Some x) None rows e = refl
bounded_demands None (Some y) rows e = refl
bounded_demands None None rows e = absurd (true≢false (sym e))

no_bounds : (left right : Option Bound) → (is_some left || is_some right) ≡ false → option_to_list left ++ option_to_list right ≡ []
no_bounds (Some x) right e = absurd (true≢false e)
no_bounds None (Some y) e = absurd (true≢false e)
no_bounds None None e = refl

pub choice_bounded : (before after : List Constraint) (atoms variables first : ℕ) (own : List Lit) (body : List BodyLit) (lent : List ChoiceItem) (choice : GroundChoice) (bounded : Bool)
    (old mid new : List Conjunction) (old_duties new_duties : List Duty) → bounded ≡ is_bounded choice → bounded ≡ true → lent ≡ choice.items → Behind element_body own lent old mid
    → Gives before after (map SomeTrue (selections atoms first choice.items) ++ bound_demands (selections atoms first choice.items) (bounds_of choice))
    (λ later. Adds later variables own body (map (selecting_body body) choice.items) (bound_duties later (selections atoms first choice.items) first (bounds_of choice)) mid new old_duties new_duties)
    → Gives before after (head_demands atoms variables first (h.Choice choice))
    (λ later. Adds later variables own body (head_bodies body (h.Choice choice)) (head_duties later atoms variables first (h.Choice choice)) old new old_duties new_duties)
choice_bounded before after atoms variables first own body lent choice bounded old mid new old_duties new_duties told is same behind gives =
    subst (λ demands. Gives before after demands (λ later. Adds later variables own body (head_bodies body (h.Choice choice)) (head_duties later atoms variables first (h.Choice choice)) old new old_duties new_duties))
    (bounded_demands choice.left choice.right (selections atoms first choice.items) (sym told ∙ is))
    (gives_as before after _ _ (λ later. Adds later variables own body (head_bodies body (h.Choice choice)) (head_duties later atoms variables first (h.Choice choice)) old new old_duties new_duties) gives
    (λ later adds. record {
      bodies = λ own_is.
          adds.bodies own_is
          ∙ ap (λ xs. xs ++ map (conjunction_of later variables) (map (selecting_body body) choice.items))
          (behind later variables body own_is ∙ ap (λ xs. old ++ map (conjunction_of later variables) (map (element_body body) xs)) same)
          ∙ append_assoc old (map (conjunction_of later variables) (map (element_body body) choice.items)) (map (conjunction_of later variables) (map (selecting_body body) choice.items))
          ∙ ap (λ xs. old ++ xs) (sym (map-append (conjunction_of later variables) (map (element_body body) choice.items) (map (selecting_body body) choice.items)))
          ∙ ap (λ (t : Bool). old ++ map (conjunction_of later variables) (map (element_body body) choice.items ++ cond t (map (selecting_body body) choice.items) [])) (sym (sym told ∙ is));
      duties = adds.duties;
    }))

pub choice_unbounded : (keys : List Constraint) (atoms variables first : ℕ) (own : List Lit) (body : List BodyLit) (lent : List ChoiceItem) (choice : GroundChoice) (bounded : Bool)
    (old new : List Conjunction) (duties : List Duty) → bounded ≡ is_bounded choice → bounded ≡ false → lent ≡ choice.items → Behind element_body own lent old new
    → Gives keys keys (head_demands atoms variables first (h.Choice choice))
    (λ later. Adds later variables own body (head_bodies body (h.Choice choice)) (head_duties later atoms variables first (h.Choice choice)) old new duties duties)
choice_unbounded keys atoms variables first own body lent choice bounded old new duties told is same behind =
    subst (λ bounds. Gives keys keys (choice_demands (selections atoms first choice.items) bounds)
    (λ later. Adds later variables own body (head_bodies body (h.Choice choice)) (bound_duties later (selections atoms first choice.items) first bounds) old new duties duties))
    (sym (no_bounds choice.left choice.right (sym told ∙ is)))
    (gives_none keys (λ later. Adds later variables own body (head_bodies body (h.Choice choice)) [] old new duties duties)
    (λ later. record {
      bodies = λ own_is.
          behind later variables body own_is
          ∙ ap (λ xs. old ++ map (conjunction_of later variables) (map (element_body body) xs)) same
          ∙ ap (λ xs. old ++ map (conjunction_of later variables) xs) (sym (append-nil (map (element_body body) choice.items)))
          ∙ ap (λ (t : Bool). old ++ map (conjunction_of later variables) (map (element_body body) choice.items ++ cond t (map (selecting_body body) choice.items) [])) (sym (sym told ∙ is));
      duties = sym (append-nil duties);
    }))

-- HEADS

module _ (before after : List Constraint) (atoms variables first : ℕ) (own : List Lit) (body : List BodyLit) (head : GroundHead) (old new : List Conjunction) (old_duties new_duties : List Duty) where
  abbrev HeadGiven : GroundHead → Type 0
  HeadGiven x =
      Gives before after (head_demands atoms variables first x) (λ later. Adds later variables own body (head_bodies body x) (head_duties later atoms variables first x) old new old_duties new_duties)

  pub head_is : (is : GroundHead) → head ≡ is → HeadGiven is → HeadGiven head
  head_is is e given = subst HeadGiven (sym e) given

pub nothing_given : (keys : List Constraint) (atoms variables first : ℕ) (own : List Lit) (body : List BodyLit) (head : GroundHead) (bodies : List Conjunction) (old new : List Duty) → head ≡ h.Nothing
    → new ≡ old ++ record { body = first; head = None } ∷ [] → HeadGiven keys keys atoms variables first own body head bodies bodies old new head
nothing_given keys atoms variables first own body head bodies old new e pushed =
    head_is keys keys atoms variables first own body head bodies bodies old new h.Nothing e
    (gives_none keys _ (λ later. record { bodies = λ own_is. sym (append-nil bodies); duties = pushed }))

pub atom_given : (keys : List Constraint) (atoms variables first : ℕ) (own : List Lit) (body : List BodyLit) (head : GroundHead) (atom : ℕ) (bodies : List Conjunction) (old new : List Duty) → head ≡ h.Atom atom
    → new ≡ old ++ record { body = first; head = Some (l.Atom atom true) } ∷ [] → HeadGiven keys keys atoms variables first own body head bodies bodies old new head
atom_given keys atoms variables first own body head atom bodies old new e pushed =
    head_is keys keys atoms variables first own body head bodies bodies old new (h.Atom atom) e
    (gives_none keys _ (λ later. record { bodies = λ own_is. sym (append-nil bodies); duties = pushed }))

pub theory_given : (before after : List Constraint) (atoms variables first : ℕ) (own : List Lit) (body : List BodyLit) (head : GroundHead) (theory : TheoryHead) (n : ℕ) (bodies : List Conjunction) (old new : List Duty)
    → head ≡ h.Theory theory → GivesNumber before after (theory_content variables theory) n → new ≡ old ++ record { body = first; head = Some (l.Constraint n true) } ∷ []
    → HeadGiven before after atoms variables first own body head bodies bodies old new head
theory_given before after atoms variables first own body head theory n bodies old new e gives pushed =
    head_is before after atoms variables first own body head bodies bodies old new (h.Theory theory) e
    (gives_as before after (with_parts (theory_content variables theory)) (λ later. n ≡ number_of later (theory_content variables theory)) _ gives
    (λ later same. record {
      bodies = λ own_is. sym (append-nil bodies);
      duties = pushed ∙ ap (λ (m : ℕ). old ++ record { body = first; head = Some (l.Constraint m true) } ∷ []) same;
    }))

pub choice_atoms : (atoms : ℕ) (head : GroundHead) (choice : GroundChoice) → head ≡ h.Choice choice → HasAtomsIn atoms head → HasAtoms atoms choice.items
choice_atoms atoms head choice e has = subst (HasAtomsIn atoms) e has

-- RULES

pub rule_given : (before between after : List Constraint) (atoms variables first count : ℕ) (rule : GroundRule) (lent : List BodyLit) (lits own_lits own : List Lit) (next : Conjunction)
    (old mid new : List Conjunction) (old_duties new_duties : List Duty) → lent ≡ rule.body → own_lits ≡ lits → own ≡ lits → first ≡ count + 1 → count ≡ length old → mid ≡ old ++ next ∷ []
    → Gives before between (flat_map (literal_demands variables) lent) (λ later. lits ≡ map (lit_of later variables) lent) → next.lits ≡ canonical own_lits
    → HeadGiven between after atoms variables first own rule.body rule.head mid new old_duties new_duties rule.head
    → Gives before after (rule_demands atoms variables (record { first = length old + 1; rule = rule })) (λ later. AddsRule later atoms variables rule old new old_duties new_duties)
rule_given before between after atoms variables first count rule lent lits own_lits own next old mid new old_duties new_duties same own_is lent_own started counted pushed gives made given =
    subst (λ n. Gives before after (flat_map (literal_demands variables) rule.body ++ head_demands atoms variables n rule.head) (λ later. AddsRule later atoms variables rule old new old_duties new_duties)) place
    (gives_then before between after (flat_map (literal_demands variables) rule.body) (head_demands atoms variables first rule.head) (λ later. lits ≡ map (lit_of later variables) rule.body) _ _
    (subst (λ xs. Gives before between (flat_map (literal_demands variables) xs) (λ later. lits ≡ map (lit_of later variables) xs)) same gives) given
    (λ later is adds. record {
      bodies =
          adds.bodies (lent_own ∙ is)
          ∙ ap (λ xs. xs ++ map (conjunction_of later variables) (head_bodies rule.body rule.head)) pushed
          ∙ append_assoc old (next ∷ []) (map (conjunction_of later variables) (head_bodies rule.body rule.head))
          ∙ ap (λ (c : Conjunction). old ++ c ∷ map (conjunction_of later variables) (head_bodies rule.body rule.head)) (conjunction_is later is);
      duties = adds.duties ∙ ap (λ n. old_duties ++ head_duties later atoms variables n rule.head) place;
    }))
  where
    place : first ≡ length old + 1
    place = started ∙ ap (λ n. n + 1) counted

    conjunction_is : (later : List Content) → lits ≡ map (lit_of later variables) rule.body → next ≡ conjunction_of later variables rule.body
    conjunction_is later is = ap (λ (xs : List Lit). record { lits = xs }) (made ∙ ap canonical (own_is ∙ is))
