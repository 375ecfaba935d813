-- What a program's rules need is in its list of contents.
use Rattle.std.proofs.Common.{◌≡◌, ℕ, Bool, true, ◌⊎◌, inl, inr, List, [], ◌∷◌, map, length, refl, sym, subst, ℤ, pos, flat_map}
use Rattle.std.specs.List.{AllByRecursion}
use Rattle.ground_model.specs.declared.linear.Relation.{Relation}
use Rattle.ground_model.specs.declared.rule.BodyLit.TheVariants as b
use Rattle.ground_model.specs.declared.rule.Bound.{Bound}
use Rattle.ground_model.specs.declared.rule.GroundHead.{GroundHead}
use Rattle.ground_model.specs.declared.program.GroundProgram.{GroundProgram}
use Rattle.ground_model.specs.Members.{IsMember}
use Rattle.ground_model.specs.Sizes.{IsReadableRule}
use Rattle.ground_model.specs.Sound.{is_sound_rule}
use Rattle.ground_model.proofs.MemberLemmas.{property_member, all_member}
use Rattle.ground_model.proofs.SizeLemmas.{readable_rules}
use Rattle.ground_model.proofs.WayLemmas.{append_left, append_right, member_flat}
use Rattle.linear_normal.specs.Contents.{Term, Variable, Counted, Content, SomeTrue, opposite}
use Rattle.linear_normal.specs.Bodies.{Placed, placed, selections}
use Rattle.linear_normal.specs.Demands.{terms_of, relation_content, bound_content, with_parts, literal_demands, choice_demands, head_demands, rule_demands}
use Rattle.linear_normal.specs.Numbering.{contents_in}
use Rattle.linear_normal.proofs.ContentLemmas.{has_content, demanded}
use Rattle.linear_normal.proofs.BodyLemmas.{placed_rule}

module _ (program : GroundProgram) where
  abbrev atoms : ℕ
  atoms = length program.atoms

  abbrev variables : ℕ
  variables = length program.variables

  abbrev cs : List Content
  cs = contents_in program

  -- the tally that a term counts is there
  abbrev pub IsBacked : Term → Type 0
  IsBacked (Variable x c) = Unit {0}
  IsBacked (Counted bodies c) = has_content cs (SomeTrue bodies) ≡ true

  pub opposite_backed : (terms : List Term) → AllByRecursion IsBacked terms → AllByRecursion IsBacked (opposite terms)
  opposite_backed [] backed = tt
  opposite_backed (Variable x c ∷ terms) backed = (tt, opposite_backed terms backed.1)
  opposite_backed (Counted bodies c ∷ terms) backed = (backed.0, opposite_backed terms backed.1)

  -- the content and its parts are there
  abbrev pub AreThere : Content → Type 0
  AreThere content = (part : Content) → IsMember (with_parts content) part → has_content cs part ≡ true

  pub variables_backed : (pairs : List (ℕ × ℤ)) → AllByRecursion IsBacked (terms_of pairs)
  variables_backed [] = tt
  variables_backed (pair ∷ pairs) = (tt, variables_backed pairs)

  -- DEMANDS ARE THERE

  pub all_demands : (at : Placed) → IsMember (placed 1 program.rules) at → (content : Content) → IsMember (rule_demands atoms variables at) content → has_content cs content ≡ true
  all_demands at m content k =
      demanded [] (flat_map (rule_demands atoms variables) (placed 1 program.rules)) content (member_flat (rule_demands atoms variables) (placed 1 program.rules) at content m k)

  pub readable : (at : Placed) → IsMember (placed 1 program.rules) at → IsReadableRule atoms variables at.rule
  readable at m =
      property_member (IsReadableRule atoms variables) program.rules at.rule
      (readable_rules (length program.symbols) atoms variables program.ends program.rules program.sound_rules) (placed_rule 1 program.rules at m)

  pub sound : (at : Placed) → IsMember (placed 1 program.rules) at → is_sound_rule (length program.symbols) atoms variables program.ends at.rule ≡ true
  sound at m = all_member (is_sound_rule (length program.symbols) atoms variables program.ends) program.rules at.rule program.sound_rules (placed_rule 1 program.rules at m)

  pub body_demand : (at : Placed) → IsMember (placed 1 program.rules) at → (relation : Relation) (sign : Bool) → IsMember at.rule.body (b.Theory relation sign) → AreThere (relation_content variables relation)
  body_demand at m relation sign k part p =
      all_demands at m part
      (append_left (flat_map (literal_demands variables) at.rule.body) (head_demands atoms variables at.first at.rule.head) part
      (member_flat (literal_demands variables) at.rule.body (b.Theory relation sign) part k p))

  pub head_demand : (at : Placed) → IsMember (placed 1 program.rules) at → (head : GroundHead) → at.rule.head ≡ head → (content : Content) → IsMember (head_demands atoms variables at.first head) content → has_content cs content ≡ true
  head_demand at m head e content k =
      all_demands at m content
      (append_right (flat_map (literal_demands variables) at.rule.body) (head_demands atoms variables at.first at.rule.head) content
      (subst (λ (head : GroundHead). IsMember (head_demands atoms variables at.first head) content) (sym e) k))

  pub bound_demand : (selections : List (List ℕ)) (bounds : List Bound) (bound : Bound) → IsMember bounds bound → (content : Content)
      → IsMember (map SomeTrue selections) content ⊎ IsMember (with_parts (bound_content selections bound)) content → IsMember (choice_demands selections bounds) content
  bound_demand selections [] bound m content k = absurd m
  bound_demand selections (x ∷ bounds) bound m content (inl k) =
      append_left (map SomeTrue selections) (flat_map (λ y. with_parts (bound_content selections y)) (x ∷ bounds)) content k
  bound_demand selections (x ∷ bounds) bound m content (inr k) =
      append_right (map SomeTrue selections) (flat_map (λ y. with_parts (bound_content selections y)) (x ∷ bounds)) content
      (member_flat (λ y. with_parts (bound_content selections y)) (x ∷ bounds) bound content m k)

  pub selections_backed : (selections : List (List ℕ)) → ((bodies : List ℕ) → IsMember selections bodies → has_content cs (SomeTrue bodies) ≡ true)
      → AllByRecursion IsBacked (map (λ bodies. Counted bodies (pos 1)) selections)
  selections_backed [] f = tt
  selections_backed (bodies ∷ selections) f = (f bodies (inl refl), selections_backed selections (λ x k. f x (inr k)))
