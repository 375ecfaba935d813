-- The propagators one after another.
use Rattle.std.proofs.Common.{◌≡◌, ℕ, suc, ◌+◌, ◌<◌, ◌≤◌, false, sym, ◌∙◌, ap, subst, arith, List, [], ◌∷◌, ◌++◌, length, get_or, take, drop, Some}
use Rattle.std.specs.List.{All, AllByRecursion, list_any}
use Rattle.std.proofs.lemmas.List.{append-nil, drop_all}
use Rattle.std.proofs.lemmas.List.Elements.{All-from_recursion, recursion_from_All}
use Rattle.std.proofs.lemmas.Option.{slice_get-get_or}
use Rattle.symbols.specs.declared.ends.Ends.{Ends}
use Rattle.ground_model.specs.declared.program.GroundProgram.{GroundProgram}
use Rattle.linear_normal.specs.declared.constraint.Constraint.{Constraint}
use Rattle.linear_normal.specs.declared.numbered.Numbered.{Numbered}
use Rattle.linear_normal.specs.Numbering.{numbering}
use Rattle.linear_normal.specs.Truth.{numbered_in}
use Rattle.trail.specs.declared.entry.Entry.{Entry}
use Rattle.trail.specs.Assignment.{Assignment}
use Rattle.propagator_core.specs.Meaning.{Meaning}
use Rattle.propagator_core.specs.Standing.{StandsFor}
use Rattle.propagator_core.specs.Several.{AllFit}
use Rattle.trail_worlds.specs.Total.{shape_of}
use Rattle.propagators.specs.Meanings.{meanings_from, CountsApart}
use Rattle.propagators.specs.Tuples.{is_about_tuples}
use Rattle.propagators.specs.Work.{DoTheWork}
use Rattle.propagators.proofs.WorkLaws.{do_the_work, all_fit, counts_apart}

-- a state that has looked at nothing stands for every trail
pub stands_new : (stands : Ends → List Entry → Type 0) (seen : ℕ) (t : Assignment) → seen ≡ 0 → ((e : Ends) → stands e []) → StandsFor stands seen t
stands_new stands seen t e h = record {
  within = omega (arith, e);
  for_these = subst (λ (n : ℕ). stands t.shape.ends (take n t.entries)) (sym e) (h t.shape.ends);
}

-- one more of them
pub all_more : {X : Type 0} (P : X → Type 0) (old new : List X) (x : X) → new ≡ old ++ x ∷ [] → All P old → P x → All P new
all_more {X} P old new x e a p = subst (λ (xs : List X). All P xs) (sym e) (All-from_recursion P (old ++ x ∷ []) (go old (recursion_from_All P old a)))
  where
    go : (xs : List X) → AllByRecursion P xs → AllByRecursion P (xs ++ x ∷ [])
    go [] a = (p, tt)
    go (y ∷ ys) a = (a.0, go ys a.1)

-- all of the meanings, where none are to come
pub meanings_all : (cs : List Constraint) (n : ℕ) (so_far all : List Meaning) → length cs ≤ n → so_far ++ meanings_from (n + 1) (drop n cs) ≡ all → so_far ≡ all
meanings_all cs n so_far all le h = sym (append-nil so_far) ∙ ap (λ (xs : List Constraint). so_far ++ meanings_from (n + 1) xs) (sym (drop_all n cs le)) ∙ h

-- the constraint at a place has the next number
pub apart_at : (program : GroundProgram) (numbered : Numbered) (at : ℕ) (d : Constraint) → numbered ≡ numbering program → at < length numbered.constraints → get_or numbered.constraints at d ≡ d → CountsApart (at + 1) d
apart_at program numbered at d same lt is = counts_apart program (at + 1) d (ap (λ (n : Numbered). numbered_in n.constraints (at + 1)) (sym same) ∙ found)
  where
    one_more : (n : ℕ) → n + 1 ≡ suc n
    one_more n = omega arith

    found : numbered_in numbered.constraints (at + 1) ≡ Some d
    found = ap (numbered_in numbered.constraints) (one_more at) ∙ slice_get-get_or numbered.constraints at d lt ∙ ap Some is

pub work_of : (program : GroundProgram) (numbered : Numbered) (ms : List Meaning) → numbered ≡ numbering program → list_any is_about_tuples numbered.constraints ≡ false → ms ≡ meanings_from 1 numbered.constraints → DoTheWork program ms
work_of program numbered ms same no_tuples e =
    subst (DoTheWork program) (sym (e ∙ ap (λ (n : Numbered). meanings_from 1 n.constraints) same))
    (do_the_work program (ap (λ (n : Numbered). list_any is_about_tuples n.constraints) (sym same) ∙ no_tuples))

pub fit_of : (program : GroundProgram) (numbered : Numbered) (ms : List Meaning) → numbered ≡ numbering program → ms ≡ meanings_from 1 numbered.constraints → AllFit ms (shape_of program)
fit_of program numbered ms same e = subst (λ (xs : List Meaning). AllFit xs (shape_of program)) (sym (e ∙ ap (λ (n : Numbered). meanings_from 1 n.constraints) same)) (all_fit program)
