-- Trails stay justified as they grow by decisions and by what held nogoods force.
use Rattle.std.proofs.Common.{◌≡◌, ℕ, ◌+◌, ◌<◌, ◌≤◌, ◌==◌, Bool, true, false, cond, List, [], ◌∷◌, ◌++◌, Some, sym, subst, arith, append_assoc, append-nil}
use Rattle.std.specs.List.{All, AllByRecursion, Contains}
use Rattle.std.proofs.lemmas.List.Elements.{recursion_from_All}
use Rattle.literals.proofs.Puts.{all_joined}
use Rattle.literals.specs.declared.lit.Lit.{Lit}
use Rattle.literals.specs.Lits.{IsLit, complement_of}
use Rattle.literals.specs.Nogoods.{canonical}
use Rattle.literals.proofs.LitLaws.{complement-complement}
use Rattle.trail.specs.declared.shape.Shape.{Shape}
use Rattle.trail.specs.declared.entry.Entry.{Entry}
use Rattle.trail.specs.declared.entry.Why.{Why}
use Rattle.trail.specs.declared.entry.Why.TheVariants.{Decision}
use Rattle.trail.specs.declared.entry.Placed.{Placed}
use Rattle.trail.specs.declared.entry.Placed.TheVariants.{Already, Clash, Done}
use Rattle.trail.specs.Assignment.{Assignment, Names, Follow, IsAssignment, Places, with_entry, entry_of}
use Rattle.trail.specs.Forced.{OthersTrueOn, AllButOpen, Forces}
use Rattle.trail.specs.Growth.{Grows, EachNext, with_entries}
use Rattle.trail.proofs.KeptLaws.{follow_low}
use Rattle.nogood_store.specs.Holding.{Held, nogood_under, numbered_from}
use Rattle.nogood_store.specs.Propagation.{IsForced, IsConflict, AllNamed}
use Rattle.conflict_analysis.specs.declared.learned.Start.TheVariants.{Held as FromHeld}
use Rattle.conflict_analysis.specs.Justified.{IsReasonFor, Stands, EachStands, IsJustified}
use Rattle.conflict_analysis.specs.Chains.{IsConflicting}

-- one more entry that stands
each_push : (s : Shape) (held : List Held) (before es : List Entry) (e : Entry) → EachStands s held before es → Stands s held (before ++ es) e e.why → EachStands s held before (es ++ e ∷ [])
each_push s held before [] e a st = (subst (λ (b : List Entry). Stands s held b e e.why) (append-nil before) st, tt)
each_push s held before (x ∷ xs) e a st = (a.0, each_push s held (before ++ x ∷ []) xs e a.1 (subst (λ (b : List Entry). Stands s held b e e.why) (sym (append_assoc before (x ∷ []) xs)) st))

pub justified_push : (held : List Held) (t : Assignment) (e : Entry) → IsJustified held t → Stands t.shape held t.entries e e.why → IsJustified held (with_entry t e)
justified_push held t e j st = each_push t.shape held [] t.entries e j st

named_under : (s : Shape) (held : List Held) (id : ℕ) (n : List Lit) → AllNamed s held → nogood_under held id ≡ Some n → AllByRecursion (Names s) n
named_under s [] id n a e = cc
named_under s (h ∷ hs) id n a e = cases (h.id == id) e (named_under s hs id n a.1)
  where
    cases : (b : Bool) → cond b (Some h.nogood) (nogood_under hs id) ≡ Some n → (nogood_under hs id ≡ Some n → AllByRecursion (Names s) n) → AllByRecursion (Names s) n
    cases true f rest = let same : h.nogood ≡ n = cc in subst (AllByRecursion (Names s)) same a.0
    cases false f rest = rest f

-- what a nogood of the shape forces has it for its reason
pub forces_reason : (t : Assignment) (l : Lit) (nogood : List Lit) → AllByRecursion (Names t.shape) nogood → Forces t nogood l → IsReasonFor t.shape t.entries l nogood
forces_reason t l nogood named f = record { named = named; forces = record { opposite = f.opposite; others = f.others } }

-- a list whose one open literal this is, and whose others are true, forces its opposite
pub open_forces : (t : Assignment) (nogood : List Lit) (l : Lit) → AllButOpen t nogood l → Forces t nogood (complement_of l)
open_forces t nogood l u = record {
  opposite = subst (Contains nogood) (sym (complement-complement l)) u.among;
  others = subst (λ (q : Lit). OthersTrueOn t nogood q) (sym (complement-complement l)) u.others;
}

-- what a held nogood forces has it for its reason
pub forced_stands : (held : List Held) (t : Assignment) (e : Entry) → AllNamed t.shape held → IsForced held t e → Stands t.shape held t.entries e e.why
forced_stands held t e a f =
    subst (λ (w : Why). Stands t.shape held t.entries e w) (sym f.why)
    (f.nogood, f.is_held, forces_reason t e.lit f.nogood (named_under t.shape held f.id f.nogood a f.is_held) (subst (Forces t f.nogood) (sym f.opposite) (open_forces t f.nogood f.lit f.unit)))

justified_each : (held : List Held) (t : Assignment) (es : List Entry) → AllNamed t.shape held → IsJustified held t → EachNext (IsForced held) t es → IsJustified held (with_entries t es)
justified_each held t [] a j n = j
justified_each held t (e ∷ es) a j n = justified_each held (with_entry t e) es a (justified_push held t e j (forced_stands held t e a n.1)) n.2

-- unit propagation leaves a justified trail justified
pub justified_grows : (held : List Held) (a b : Assignment) → AllNamed a.shape held → IsJustified held a → Grows (IsForced held) a b → IsJustified held b
justified_grows held a b n j g = subst (IsJustified held) (sym g.is) (justified_each held a g.more n j g.each)

low_levels : (s : Shape) (before : List Lit) (level : ℕ) (es : List Entry) (high over : ℕ) → Follow s before level es high → high < over → AllByRecursion (λ (d : Entry). d.level < over) es
low_levels s before level [] high over f h = tt
low_levels s before level (e ∷ es) high over f h =
    let low : e.level ≤ high = follow_low s (before ++ e.lit ∷ []) e.level es high f.3 in
    (omega arith, low_levels s (before ++ e.lit ∷ []) e.level es high over f.3 h)

decided : (held : List Held) (t new : Assignment) (l : Lit) (p : Placed) → IsJustified held t → (0 < t.level) × AllByRecursion (λ (d : Entry). d.level < t.level) t.entries → Places t l Decision p new → IsJustified held new
decided held t new l Already j low h = subst (IsJustified held) (sym h.1) j
decided held t new l Clash j low h = subst (IsJustified held) (sym h.1) j
decided held t new l Done j low h = subst (IsJustified held) (sym h.1) (justified_push held t (entry_of t l Decision) j low)

-- a decision right after a level was opened leaves a justified trail justified
pub justified_decision : (held : List Held) (t opened new : Assignment) (l : Lit) (p : Placed) → IsAssignment t → IsJustified held t → opened ≡ record t { level = t.level + 1 } → Places opened l Decision p new → IsJustified held new
justified_decision held t opened new l p a j o h =
    let low : AllByRecursion (λ (d : Entry). d.level < t.level + 1) t.entries = low_levels t.shape [] 0 t.entries t.level (t.level + 1) a.entries (omega arith) in
    let same : Places (record t { level = t.level + 1 }) l Decision p new = subst (λ (u : Assignment). Places u l Decision p new) o h in
    decided held (record t { level = t.level + 1 }) new l p j (omega arith, low) same

-- what unit propagation answers with is a start
pub conflict_starts : (held : List Held) (t : Assignment) (id : ℕ) → AllNamed t.shape held → IsConflict held t id → IsConflicting held t (FromHeld id)
conflict_starts held t id a c = (c.nogood, c.is_held, named_under t.shape held id c.nogood a c.is_held, c.all_true)

-- nogoods of the shape's literals, held
pub numbered_named : (s : Shape) (first second : List Lit) → All (Names s) first → All (Names s) second → AllNamed s (numbered_from 1 (canonical first ∷ canonical second ∷ []))
numbered_named s first second a b = (
  all_joined (Names s) [] first tt (recursion_from_All (Names s) first a),
  (all_joined (Names s) [] second tt (recursion_from_All (Names s) second b), tt),
)

pub named_literals : (s : Shape) (lits : List Lit) → All (Names s) lits → All IsLit lits
named_literals s lits a = λ k d h. (a k d h).literal
