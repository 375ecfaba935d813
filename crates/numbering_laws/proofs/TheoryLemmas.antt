-- The domain, distinct and disjoint constraints of a numbering are sound.
use Rattle.std.proofs.Common.{◌≡◌, ℕ, true, List, [], ◌∷◌, map, flat_map, length, ℤ, pos, ◌-ℤ◌}
use Rattle.std.specs.List.{AllByRecursion, list_all}
use Rattle.symbols.specs.declared.rel.Rel.{Rel}
use Rattle.symbols.specs.declared.rel.Rel.TheVariants.{Equal, NotEqual, Less, LessEqual, Greater, GreaterEqual}
use Rattle.ground_model.specs.declared.linear.Relation.{Relation}
use Rattle.ground_model.specs.declared.rule.BodyLit.{BodyLit}
use Rattle.ground_model.specs.declared.rule.BodyLit.TheVariants as b
use Rattle.ground_model.specs.declared.rule.Bound.{Bound}
use Rattle.ground_model.specs.declared.rule.TheoryHead.{TheoryHead}
use Rattle.ground_model.specs.declared.rule.TheoryHead.TheVariants as t
use Rattle.ground_model.specs.declared.rule.GroundHead.{GroundHead}
use Rattle.ground_model.specs.declared.rule.GroundHead.TheVariants as h
use Rattle.ground_model.specs.declared.program.GroundProgram.{GroundProgram}
use Rattle.ground_model.specs.Members.{IsMember}
use Rattle.ground_model.specs.Sound.{first_places, total_constant, is_sound_literal, is_sound_head}
use Rattle.ground_model.proofs.Bools.{and_elim}
use Rattle.ground_model.proofs.MemberLemmas.{property_member}
use Rattle.ground_model.proofs.WayLemmas.{flat_member}
use Rattle.linear_normal.specs.Contents.{Term, Counted, Content, SumAtMost, SumEquals, SumDiffers, InSet, AllDiffer, NoneOverlap, SomeTrue, compared}
use Rattle.linear_normal.specs.Bodies.{Placed, placed, selections}
use Rattle.linear_normal.specs.Demands.{moved_pairs, terms_of, relation_content, theory_content, bound_content, bounds_of, with_parts, literal_demands, choice_demands, head_demands, rule_demands}
use Rattle.linear_normal.specs.Numbering.{constraint_of, contents_in}
use Rattle.linear_normal.proofs.ContentLemmas.{only_demanded}
use Rattle.linear_normal.proofs.DemandLemmas.{sound}
use Rattle.linear_normal.proofs.ListLemmas.{all_append, all_flat, all_map}
use Rattle.numbering_laws.specs.Theory.{IsSoundIn, IsSoundConstraint, TheoryLaw}

module _ (program : GroundProgram) where
  abbrev atoms : ℕ
  atoms = length program.atoms

  abbrev variables : ℕ
  variables = length program.variables

  abbrev IsSoundContent : Content → Type 0
  IsSoundContent (InSet x set) = IsSoundIn program (t.Domain set x)
  IsSoundContent (AllDiffer places) = IsSoundIn program (t.Distinct places)
  IsSoundContent (NoneOverlap places) = IsSoundIn program (t.Disjoint places)
  IsSoundContent content = Unit {0}

  compared_sound : (sum : List Term) (rel : Rel) (k : ℤ) → AllByRecursion IsSoundContent (with_parts (compared sum rel k))
  compared_sound sum LessEqual k = (tt, tt)
  compared_sound sum Less k = (tt, tt)
  compared_sound sum GreaterEqual k = (tt, tt)
  compared_sound sum Greater k = (tt, tt)
  compared_sound sum Equal k = (tt, (tt, (tt, tt)))
  compared_sound sum NotEqual k = (tt, (tt, (tt, tt)))

  relation_sound : (relation : Relation) → AllByRecursion IsSoundContent (with_parts (relation_content variables relation))
  relation_sound relation =
      compared_sound (terms_of (moved_pairs variables (first_places relation.elements) (relation.right ∷ []))) relation.rel (relation.right.constant -ℤ total_constant (first_places relation.elements))

  theory_sound : (theory : TheoryHead) → IsSoundIn program theory → AllByRecursion IsSoundContent (with_parts (theory_content variables theory))
  theory_sound (t.Relation relation) e = relation_sound relation
  theory_sound (t.Domain set x) e = (e, tt)
  theory_sound (t.Distinct places) e = (e, tt)
  theory_sound (t.Disjoint places) e = (e, tt)

  choice_sound : (chosen_by : List (List ℕ)) (bounds : List Bound) → AllByRecursion IsSoundContent (choice_demands chosen_by bounds)
  choice_sound chosen_by [] = tt
  choice_sound chosen_by (x ∷ bounds) =
      all_append IsSoundContent (map SomeTrue chosen_by) (flat_map (λ bound. with_parts (bound_content chosen_by bound)) (x ∷ bounds))
      (all_map IsSoundContent SomeTrue chosen_by (λ bodies k. tt))
      (all_flat IsSoundContent (λ bound. with_parts (bound_content chosen_by bound)) (x ∷ bounds) (λ bound k. compared_sound (map (λ bodies. Counted bodies (pos 1)) chosen_by) bound.rel bound.value))

  head_sound : (first : ℕ) (head : GroundHead) → is_sound_head (length program.symbols) atoms variables program.ends head ≡ true → AllByRecursion IsSoundContent (head_demands atoms variables first head)
  head_sound first h.Nothing e = tt
  head_sound first (h.Atom a) e = tt
  head_sound first (h.Theory theory) e = theory_sound theory e
  head_sound first (h.Choice choice) e = choice_sound (selections atoms first choice.items) (bounds_of choice)

  literal_sound : (literal : BodyLit) → AllByRecursion IsSoundContent (literal_demands variables literal)
  literal_sound (b.Atom a sign) = tt
  literal_sound (b.Theory relation sign) = relation_sound relation

  demand_sound : (at : Placed) → IsMember (placed 1 program.rules) at → AllByRecursion IsSoundContent (rule_demands atoms variables at)
  demand_sound at m =
      all_append IsSoundContent (flat_map (literal_demands variables) at.rule.body) (head_demands atoms variables at.first at.rule.head)
      (all_flat IsSoundContent (literal_demands variables) at.rule.body (λ literal k. literal_sound literal))
      (head_sound at.first at.rule.head
      (and_elim (list_all (is_sound_literal (length program.symbols) atoms variables) at.rule.body) (is_sound_head (length program.symbols) atoms variables program.ends at.rule.head) (sound program at m)).1)

  content_sound : (content : Content) → IsMember (contents_in program) content → IsSoundContent content
  content_sound =
      only_demanded [] (flat_map (rule_demands atoms variables) (placed 1 program.rules)) IsSoundContent (λ x m. absurd m)
      (λ x m.
      let f = flat_member (rule_demands atoms variables) (placed 1 program.rules) x m in
      property_member IsSoundContent (rule_demands atoms variables f.0) x (demand_sound f.0 f.1) f.2)

  constraint_sound : (content : Content) → IsSoundContent content → IsSoundConstraint program (constraint_of (contents_in program) content)
  constraint_sound (SumAtMost sum k) is = tt
  constraint_sound (SumEquals sum k) is = tt
  constraint_sound (SumDiffers sum k) is = tt
  constraint_sound (InSet x set) is = is
  constraint_sound (AllDiffer places) is = is
  constraint_sound (NoneOverlap places) is = is
  constraint_sound (SomeTrue bodies) is = tt

pub theory_law : TheoryLaw
theory_law program =
    all_map (IsSoundConstraint program) (constraint_of (contents_in program)) (contents_in program) (λ content m. constraint_sound program content (content_sound program content m))
