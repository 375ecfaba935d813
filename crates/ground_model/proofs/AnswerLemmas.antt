-- The atoms of an answer are the program's.
use Rattle.std.proofs.Common.{◌≡◌, ℕ, zero, suc, true, not, ◌&&◌, ◌||◌, ◌==◌, List, length, refl, sym, subst, true≢false, eqb-true}
use Rattle.std.specs.List.{AllByRecursion, list_all}
use Rattle.ground_model.specs.declared.answer.Answer.{Answer}
use Rattle.ground_model.specs.declared.program.GroundProgram.{GroundProgram}
use Rattle.ground_model.specs.declared.rule.GroundRule.{GroundRule}
use Rattle.ground_model.specs.Members.{IsMember}
use Rattle.ground_model.specs.Answers.{IsNumbered, AreAtomsOf, IsAnswerOf}
use Rattle.ground_model.specs.Sizes.{IsReadableRule}
use Rattle.ground_model.specs.World.{World, world_of}
use Rattle.ground_model.specs.Ways.{holds_from, head_ways, ways, gives, derivable}
use Rattle.ground_model.proofs.Bools.{and_elim}
use Rattle.ground_model.proofs.MemberLemmas.{same_nat, any_member, member_any, property_member, property_from_members}
use Rattle.ground_model.proofs.WayLemmas.{flat_member, test_from_derivable}
use Rattle.ground_model.proofs.SizeLemmas.{readable_rules, way_below}

-- what rules give are atoms of theirs
pub derivable_numbered : (atoms variables : ℕ) (rules : List GroundRule) (world : World) → AllByRecursion (IsReadableRule atoms variables) rules
    → (rank a : ℕ) → derivable rules world rank a ≡ true → IsNumbered atoms a
derivable_numbered atoms variables rules world readable zero a e = absurd (true≢false (sym e))
derivable_numbered atoms variables rules world readable (suc rank) a e =
    let w = member_any (gives (derivable rules world rank) world a) (ways rules) e in
    let r = flat_member (λ rule. head_ways rule.body rule.head) rules w.0 w.1 in
    let p = property_member (IsReadableRule atoms variables) rules r.0 readable r.1 in
    let n = (way_below atoms variables r.0.body p.body r.0.head p.head w.0 r.2).0 in
    let q =
    and_elim (w.0.atom == a) (not w.0.is_choice || world.atoms a)
    (and_elim ((w.0.atom == a) && (not w.0.is_choice || world.atoms a)) (list_all (holds_from (derivable rules world rank) world) w.0.body) w.2).0 in
    subst (IsNumbered atoms) (eqb-true w.0.atom a q.0) n

pub answer_atoms : (program : GroundProgram) (answer : Answer) → IsAnswerOf program answer → AreAtomsOf program answer.atoms
answer_atoms program answer is = property_from_members (IsNumbered (length program.atoms)) answer.atoms known
  where
    known : (a : ℕ) → IsMember answer.atoms a → IsNumbered (length program.atoms) a
    known a m =
        let d = is.stable.derived a (any_member (λ b. b == a) answer.atoms a m (same_nat a a refl)) in
        derivable_numbered (length program.atoms) (length program.variables) program.rules (world_of answer)
        (readable_rules (length program.symbols) (length program.atoms) (length program.variables) program.ends program.rules program.sound_rules) d.0 a
        (test_from_derivable program.symbols program.rules (world_of answer) d.0 a d.1)
