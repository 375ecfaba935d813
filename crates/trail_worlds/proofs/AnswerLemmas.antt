-- The answer of a trail at rest is a constraint stable model.
use Rattle.std.proofs.Common.{◌≡◌, ℕ, Bool, true, false, not, ◌&&◌, ◌⊎◌, inl, inr, List, ◌∷◌, map, filter, length, refl, sym, ◌∙◌, ap, subst, true≢false, Option, None, Some}
use Rattle.std.specs.List.{AllByRecursion}
use Rattle.literals.specs.declared.lit.Lit.{Lit}
use Rattle.literals.specs.declared.lit.Lit.TheVariants as l
use Rattle.literals.specs.Truths.{lit_true, all_true}
use Rattle.ground_model.specs.declared.program.GroundProgram.{GroundProgram}
use Rattle.ground_model.specs.Answers.{IsNumbered, IsWithin}
use Rattle.ground_model.specs.Members.{IsMember}
use Rattle.ground_model.proofs.Bools.{and_elim, and_intro, not_true}
use Rattle.ground_model.proofs.MemberLemmas.{any_member, member_any, all_member, property_member, property_from_members, member_map}
use Rattle.linear_normal.specs.declared.numbered.Conjunction.{Conjunction}
use Rattle.linear_normal.specs.declared.numbered.Support.{Support}
use Rattle.linear_normal.specs.declared.numbered.Numbered.{Numbered}
use Rattle.linear_normal.specs.Numbering.{numbering}
use Rattle.linear_normal.specs.Steps.{is_among, is_atom_of, leans_on, is_external}
use Rattle.linear_normal.specs.Truth.{numbered_in}
use Rattle.linear_normal.proofs.ListLemmas.{filter_member, member_filter, among_member, member_among}
use Rattle.linear_normal.proofs.TruthLemmas.{from_some}
use Rattle.numbering_laws.specs.Parts.{IsSupportOf}
use Rattle.numbering_laws.proofs.PartLemmas.{parts_law}
use Rattle.completion.specs.Inputs.{all_false}
use Rattle.completion.specs.Loops.{MeetsLoops}
use Rattle.completion.specs.Laws.{IsWorldOf, IsStableWorld}
use Rattle.completion.specs.Tight.{IsTight}
use Rattle.completion.proofs.CompletionLemmas.{completion_law, tight_law}
use Rattle.completion.proofs.NogoodLemmas.{met_from, true_refutes}
use Rattle.trail.specs.declared.shape.Shape.{Shape}
use Rattle.trail.specs.Assignment.{Assignment, is_true_on}
use Rattle.trail.proofs.AssignmentLaws.{agree_on}
use Rattle.trail_worlds.specs.Worlds.{answer_on}
use Rattle.trail_worlds.specs.Founded.{AreOpenOrTrue, IsFounded}
use Rattle.trail_worlds.specs.Laws.{IsModelOn, AnswerLaw}
use Rattle.trail_worlds.proofs.TrailLemmas.{opposite_on, body_decided, atom_known, atom_is, answer_ascends, answer_length, answer_within}
use Rattle.trail_worlds.proofs.TruthLemmas.{world, truths, atom_here, body_here, all_met, are_truths}

module _ (program : GroundProgram) (t : Assignment) (is : IsModelOn program t) where
  abbrev N : Numbered
  N = numbering program

  own_world : IsWorldOf program (world program t is)
  own_world a e = subst (λ (s : Shape). IsNumbered s.atoms a) is.shape (atom_known t a e)

  -- a true atom is not false on the trail
  not_false : (a : ℕ) → (world program t is).atoms a ≡ true → is_true_on t (l.Atom a false) ≡ false
  not_false a e = agree_on t (l.Atom a true) is.assignment (sym (atom_is t a (atom_known t a e)) ∙ e)

  -- LOOPS

  module _ (founded : IsFounded N t) (set : List ℕ) (numbered : AllByRecursion (IsNumbered (length program.atoms)) set) (a : ℕ) (among : is_among set a ≡ true)
      (true_atom : (world program t is).atoms a ≡ true) where
    abbrev outside : List ℕ
    outside = map (λ support. support.body) (filter (is_external N set) N.supports)

    abbrev standing : List ℕ
    standing = filter (λ b. not (is_true_on t (l.Atom b false))) set

    open_or_true : AreOpenOrTrue t (a ∷ standing)
    open_or_true = ((atom_known t a true_atom, not_false a true_atom), property_from_members (λ b. IsNumbered t.shape.atoms b × (is_true_on t (l.Atom b false) ≡ false)) standing one)
      where
        one : (b : ℕ) → IsMember standing b → IsNumbered t.shape.atoms b × (is_true_on t (l.Atom b false) ≡ false)
        one b m =
            let f = filter_member (λ b. not (is_true_on t (l.Atom b false))) set b m in
            (atom_here program t is b (property_member (IsNumbered (length program.atoms)) set b numbered f.0), not_true (is_true_on t (l.Atom b false)) f.1)

    within : (b : ℕ) → is_among (a ∷ standing) b ≡ true → is_among set b ≡ true
    within b e = go (among_member (a ∷ standing) b e)
      where
        go : IsMember (a ∷ standing) b → is_among set b ≡ true
        go (inl s) = subst (λ c. is_among set c ≡ true) (sym s) among
        go (inr m) = member_among set b (filter_member (λ b. not (is_true_on t (l.Atom b false))) set b m).0

    -- a true atom of the set is one of these
    kept : (b : ℕ) → is_among set b ≡ true → (world program t is).atoms b ≡ true → is_among (a ∷ standing) b ≡ true
    kept b e f =
        member_among (a ∷ standing) b (inr (member_filter (λ b. not (is_true_on t (l.Atom b false))) set b (among_member set b e) (ap not (not_false b f))))

    leans : (found : Option Conjunction) → ((lit : Lit) → (body : Conjunction) → found ≡ Some body → IsMember body.lits lit → lit_true (truths program t is) lit ≡ true)
        → leans_on set found ≡ true → leans_on (a ∷ standing) found ≡ true
    leans None holds e = e
    leans (Some body) holds e =
        let r = member_any (is_atom_of set) body.lits e in
        any_member (is_atom_of (a ∷ standing)) body.lits r.0 r.1 (of r.0 r.2 (holds r.0 body refl r.1))
      where
        of : (lit : Lit) → is_atom_of set lit ≡ true → lit_true (truths program t is) lit ≡ true → is_atom_of (a ∷ standing) lit ≡ true
        of (l.Atom b true) e f = kept b e f
        of (l.Atom b false) e f = absurd (true≢false (sym e))
        of (l.Body b sign) e f = absurd (true≢false (sym e))
        of (l.Constraint n sign) e f = absurd (true≢false (sym e))
        of (l.AtMost x k) e f = absurd (true≢false (sym e))
        of (l.AtLeast x k) e f = absurd (true≢false (sym e))

    body_false : all_true (truths program t is) (all_false outside) ≡ true → (support : Support) → IsMember N.supports support → is_external N (a ∷ standing) support ≡ true
        → is_true_on t (l.Body support.body false) ≡ true
    body_false false_bodies support m external = opposite_on t (l.Body support.body true) (body_decided t is.total support.body here) (go (is_true_on t (l.Body support.body true)) refl)
      where
        here : IsNumbered t.shape.bodies support.body
        here = body_here program t is support.body (property_member (IsSupportOf program N) N.supports support (parts_law program).supports m).body

        parts : (is_among (a ∷ standing) support.atom ≡ true) × (not (leans_on (a ∷ standing) (numbered_in N.bodies support.body)) ≡ true)
        parts = and_elim (is_among (a ∷ standing) support.atom) (not (leans_on (a ∷ standing) (numbered_in N.bodies support.body))) external

        holds : is_true_on t (l.Body support.body true) ≡ true → (lit : Lit) → (body : Conjunction) → numbered_in N.bodies support.body ≡ Some body → IsMember body.lits lit → lit_true (truths program t is) lit ≡ true
        holds e lit body found k =
            all_member (lit_true (truths program t is)) body.lits lit
            (sym (from_some (λ (b : Conjunction). (truths program t is).body support.body ≡ all_true (truths program t is) b.lits) (numbered_in N.bodies support.body) body found ((are_truths program t is).body support.body)) ∙ e) k

        leaning : is_true_on t (l.Body support.body true) ≡ true → (x : Bool) → leans_on set (numbered_in N.bodies support.body) ≡ x → ⊥
        leaning e true f =
            true≢false (sym (leans (numbered_in N.bodies support.body) (holds e) f) ∙ not_true (leans_on (a ∷ standing) (numbered_in N.bodies support.body)) parts.1)
        leaning e false f =
            true≢false (sym false_bodies
            ∙ true_refutes (truths program t is) outside support.body
            (member_map (λ support. support.body) (filter (is_external N set) N.supports) support
            (member_filter (is_external N set) N.supports support m
            (and_intro (is_among set support.atom) (not (leans_on set (numbered_in N.bodies support.body))) (within support.atom parts.0) (ap not f))))
            e)

        go : (x : Bool) → is_true_on t (l.Body support.body true) ≡ x → x ≡ false
        go false e = refl
        go true e = absurd (leaning e (leans_on set (numbered_in N.bodies support.body)) refl)

    no_loop : all_true (truths program t is) (all_false outside) ≡ true → ⊥
    no_loop false_bodies =
        founded a standing open_or_true
        (property_from_members (λ (support : Support). is_external N (a ∷ standing) support ≡ true → is_true_on t (l.Body support.body false) ≡ true) N.supports (body_false false_bodies))

  loops_met : IsFounded N t → MeetsLoops (length program.atoms) N (truths program t is)
  loops_met founded set numbered a among =
      met_from (truths program t is) (l.Atom a true ∷ all_false (map (λ support. support.body) (filter (is_external N set) N.supports)))
      (go ((world program t is).atoms a) (all_true (truths program t is) (all_false (map (λ support. support.body) (filter (is_external N set) N.supports)))) refl refl)
    where
      go : (x y : Bool) → (world program t is).atoms a ≡ x → all_true (truths program t is) (all_false (map (λ support. support.body) (filter (is_external N set) N.supports))) ≡ y → (x && y) ≡ false
      go false y e f = refl
      go true false e f = refl
      go true true e f = absurd (no_loop founded set numbered a among e f)

  stable : IsTight N ⊎ IsFounded N t → IsStableWorld program (world program t is)
  stable (inl tight) = (tight_law program (world program t is) (truths program t is) own_world (are_truths program t is) tight).0 (all_met program t is)
  stable (inr founded) = (completion_law program (world program t is) (truths program t is) own_world (are_truths program t is)).0 (all_met program t is, loops_met founded)

pub answer_law : AnswerLaw
answer_law program t is = record {
  ascending = answer_ascends t;
  valuation = record {
    each = answer_length t ∙ ap (λ (s : Shape). s.variables) is.shape;
    within = subst (λ (s : Shape). AllByRecursion (IsWithin s.ends) (answer_on t).values) is.shape (answer_within t is.total);
  };
  stable = stable program t is is.founded;
}
