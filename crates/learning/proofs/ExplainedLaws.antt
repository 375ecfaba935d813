-- Explained trails: as they grow, are undone, more is held, and costs fall; and conflicts on them.
use Rattle.std.proofs.Common.{inl, inr, ◌≡◌, ℕ, ◌+◌, ◌==◌, Bool, true, false, cond, IsTrue, ℤ, List, [], ◌∷◌, ◌++◌, Option, Some, refl, sym, ◌∙◌, ap, subst}
use Rattle.std.specs.List.{AllByRecursion}
use Rattle.literals.specs.declared.lit.Lit.{Lit}
use Rattle.literals.specs.declared.reason.Reason.{Reason}
use Rattle.ground_model.specs.declared.program.GroundProgram.{GroundProgram}
use Rattle.linear_normal.specs.Numbering.{numbering}
use Rattle.trail.specs.declared.shape.Shape.{Shape}
use Rattle.trail.specs.declared.entry.Entry.{Entry}
use Rattle.trail.specs.declared.entry.Why.{Why}
use Rattle.trail.specs.declared.entry.Why.TheVariants.{Decision, Held as ByHeld, Shown as ByShown}
use Rattle.trail.specs.declared.entry.Placed.TheVariants.{Done}
use Rattle.trail.specs.Assignment.{Assignment, Places, undone_to, with_entry, entry_of}
use Rattle.trail.specs.Growth.{EachNext, with_entries}
use Rattle.trail.proofs.AssignmentLaws.{undone_front}
use Rattle.trail.proofs.GrowthLaws.{grows_shape, grows_entries}
use Rattle.nogood_store.specs.Holding.{Held, nogood_under}
use Rattle.nogood_store.specs.Propagation.{AllNamed}
use Rattle.conflict_analysis.specs.Justified.{Stands, EachStands, IsJustified}
use Rattle.conflict_analysis.proofs.JustifiedLaws.{justified_push, justified_decision, forced_stands, forces_reason, conflict_starts}
use Rattle.derivation_meaning.specs.Lines.{improves}
use Rattle.derivation_meaning.proofs.CheaperLemmas.{cheaper_law}
use Rattle.trail_worlds.specs.Total.{shape_of}
use Rattle.learning.specs.Told.{IsTellable, IsTellableBy, AllTellable}
use Rattle.learning.specs.Explained.{IsSound, IsForcedOrShown}
use Rattle.learning.specs.Laws.{GrowthLaw, DecisionLaw, UndoLaw, HoldLaw, CostLaw, StartsLaw}
use Rattle.learning.proofs.ReasonLaws.{valid_after}

-- GROWTH

all_front : {X : Type 0} (P : X → Type 0) (xs ys : List X) → AllByRecursion P xs → AllByRecursion P ys → AllByRecursion P (xs ++ ys)
all_front P [] ys a b = b
all_front P (x ∷ xs) ys a b = (a.0, all_front P xs ys a.1 b)

told_shown : (program : GroundProgram) (cost : Option ℤ) (valid : Shape → Reason → Bool) (s : Shape) (r : Reason) → s ≡ shape_of program → IsSound program valid → IsTrue (valid s r) → IsTellable program cost r
told_shown program cost valid s r same sound v = valid_after program (numbering program) cost r.nogood r.step (sound r (subst (λ (x : Shape). IsTrue (valid x r)) same v))

told_one : (program : GroundProgram) (cost : Option ℤ) (held : List Held) (valid : Shape → Reason → Bool) (t : Assignment) (e : Entry) → t.shape ≡ shape_of program → IsSound program valid → IsForcedOrShown held valid t e
    → IsTellableBy program cost e.why
told_one program cost held valid t e same sound (inl f) = subst (IsTellableBy program cost) (sym f.why) tt
told_one program cost held valid t e same sound (inr h) = subst (IsTellableBy program cost) (sym h.why) (told_shown program cost valid t.shape h.reason same sound h.is_valid)

told_each : (program : GroundProgram) (cost : Option ℤ) (held : List Held) (valid : Shape → Reason → Bool) (t : Assignment) (es : List Entry) → t.shape ≡ shape_of program → IsSound program valid
    → EachNext (IsForcedOrShown held valid) t es → AllTellable program cost es
told_each program cost held valid t [] same sound n = tt
told_each program cost held valid t (e ∷ es) same sound n = (told_one program cost held valid t e same sound n.1, told_each program cost held valid (with_entry t e) es same sound n.2)

stands_next : (held : List Held) (valid : Shape → Reason → Bool) (t : Assignment) (e : Entry) → AllNamed t.shape held → IsForcedOrShown held valid t e → Stands t.shape held t.entries e e.why
stands_next held valid t e named (inl f) = forced_stands held t e named f
stands_next held valid t e named (inr h) = subst (λ (w : Why). Stands t.shape held t.entries e w) (sym h.why) (forces_reason t e.lit h.reason.nogood h.spelled.named h.forces)

justified_each : (held : List Held) (valid : Shape → Reason → Bool) (t : Assignment) (es : List Entry) → AllNamed t.shape held → IsJustified held t → EachNext (IsForcedOrShown held valid) t es
    → IsJustified held (with_entries t es)
justified_each held valid t [] named j n = j
justified_each held valid t (e ∷ es) named j n = justified_each held valid (with_entry t e) es named (justified_push held t e j (stands_next held valid t e named n.1)) n.2

pub growth_law : GrowthLaw
growth_law program cost held valid old new sound named g is = record {
  shape = grows_shape (IsForcedOrShown held valid) old new g ∙ is.shape;
  justified = subst (IsJustified held) (sym g.is) (justified_each held valid old g.more (subst (λ (s : Shape). AllNamed s held) (sym is.shape) named) is.justified g.each);
  tellable =
      subst (AllTellable program cost) (sym (grows_entries (IsForcedOrShown held valid) old new g))
      (all_front (λ (e : Entry). IsTellableBy program cost e.why) old.entries g.more is.tellable (told_each program cost held valid old g.more is.shape sound g.each));
}

-- DECISIONS

decided_shape : (t new : Assignment) (lit : Lit) → Places t lit Decision Done new → new.shape ≡ t.shape
decided_shape t new lit p = ap (λ (u : Assignment). u.shape) p.1

decided_entries : (t new : Assignment) (lit : Lit) → Places t lit Decision Done new → new.entries ≡ t.entries ++ entry_of t lit Decision ∷ []
decided_entries t new lit p = ap (λ (u : Assignment). u.entries) p.1

pub decision_law : DecisionLaw
decision_law program cost held old new lit is placed explained =
    let opened : Assignment = record old { level = old.level + 1 } in
    record {
      shape = decided_shape opened new lit placed ∙ explained.shape;
      justified = justified_decision held old opened new lit Done is explained.justified refl placed;
      tellable =
          subst (AllTellable program cost) (sym (decided_entries opened new lit placed))
          (all_front (λ (e : Entry). IsTellableBy program cost e.why) old.entries (entry_of opened lit Decision ∷ []) explained.tellable (tt, tt));
    }

-- SHORTER TRAILS

front_of : {X : Type 0} (P : X → Type 0) (xs ys : List X) → AllByRecursion P (xs ++ ys) → AllByRecursion P xs
front_of P [] ys a = tt
front_of P (x ∷ xs) ys a = (a.0, front_of P xs ys a.1)

stands_front : (s : Shape) (held : List Held) (before xs ys : List Entry) → EachStands s held before (xs ++ ys) → EachStands s held before xs
stands_front s held before [] ys a = tt
stands_front s held before (x ∷ xs) ys a = (a.0, stands_front s held (before ++ x ∷ []) xs ys a.1)

pub undo_law : UndoLaw
undo_law program cost held t level is explained =
    let front = undone_front t level is in
    record {
      shape = explained.shape;
      justified = stands_front t.shape held [] (undone_to level t).entries front.0 (subst (EachStands t.shape held []) front.1 explained.justified);
      tellable = front_of (λ (e : Entry). IsTellableBy program cost e.why) (undone_to level t).entries front.0 (subst (AllTellable program cost) front.1 explained.tellable);
    }

-- MORE HELD NOGOODS

under_more : (held more : List Held) (id : ℕ) (n : List Lit) → nogood_under held id ≡ Some n → nogood_under (held ++ more) id ≡ Some n
under_more [] more id n e = absurd (cc)
under_more (h ∷ hs) more id n e = by_id (h.id == id) e (under_more hs more id n)
  where
    by_id : (b : Bool) → cond b (Some h.nogood) (nogood_under hs id) ≡ Some n → (nogood_under hs id ≡ Some n → nogood_under (hs ++ more) id ≡ Some n)
        → cond b (Some h.nogood) (nogood_under (hs ++ more) id) ≡ Some n
    by_id true f rest = f
    by_id false f rest = rest f

stands_more : (s : Shape) (held more : List Held) (before : List Entry) (e : Entry) (why : Why) → Stands s held before e why → Stands s (held ++ more) before e why
stands_more s held more before e Decision st = st
stands_more s held more before e (ByHeld id) st = (st.0, under_more held more id st.0 st.1, st.2)
stands_more s held more before e (ByShown r) st = st

each_more : (s : Shape) (held more : List Held) (before es : List Entry) → EachStands s held before es → EachStands s (held ++ more) before es
each_more s held more before [] a = tt
each_more s held more before (e ∷ es) a = (stands_more s held more before e e.why a.0, each_more s held more (before ++ e ∷ []) es a.1)

pub hold_law : HoldLaw
hold_law program cost held more t explained = record {
  shape = explained.shape;
  justified = each_more t.shape held more [] t.entries explained.justified;
  tellable = explained.tellable;
}

-- SMALLER COSTS

cheaper_one : (program : GroundProgram) (before : Option ℤ) (cost : ℤ) (why : Why) → improves before cost ≡ true → IsTellableBy program before why → IsTellableBy program (Some cost) why
cheaper_one program before cost Decision smaller told = tt
cheaper_one program before cost (ByHeld id) smaller told = tt
cheaper_one program before cost (ByShown r) smaller told = cheaper_law program (numbering program) before cost r.nogood r.step smaller told

cheaper_all : (program : GroundProgram) (before : Option ℤ) (cost : ℤ) (es : List Entry) → improves before cost ≡ true → AllTellable program before es → AllTellable program (Some cost) es
cheaper_all program before cost [] smaller told = tt
cheaper_all program before cost (e ∷ es) smaller told = (cheaper_one program before cost e.why smaller told.0, cheaper_all program before cost es smaller told.1)

pub cost_law : CostLaw
cost_law program before cost held t smaller explained = record {
  shape = explained.shape;
  justified = explained.justified;
  tellable = cheaper_all program before cost t.entries smaller explained.tellable;
}

-- CONFLICTS

pub starts_law : StartsLaw
starts_law program cost held valid t sound named same =
    let names : AllNamed t.shape held = subst (λ (s : Shape). AllNamed s held) (sym same) named in (
      (λ id met. (conflict_starts held t id names met, tt)),
      (λ r met. ((r.nogood, refl, met.spelled.named, met.all_true), told_shown program cost valid t.shape r same sound met.is_valid)),
    )
