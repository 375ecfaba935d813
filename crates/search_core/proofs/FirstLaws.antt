-- A search before the first line.
use Rattle.std.proofs.Common.{inl, ◌≡◌, ℕ, ◌+◌, ◌<◌, Bool, false, List, [], length, map, None, refl, sym, ◌∙◌, ap, subst, arith}
use Rattle.std.specs.List.{All, Contains, list_any}
use Rattle.std.proofs.lemmas.Option.{slice_get_within}
use Rattle.std.proofs.lemmas.List.{length-map}
use Rattle.order_literals.specs.Orders.{OrderLits}
use Rattle.literals.specs.declared.lit.Lit.{Lit}
use Rattle.linear_normal.specs.declared.numbered.Numbered.{Numbered}
use Rattle.trail.specs.declared.shape.Shape.{Shape}
use Rattle.ground_model.specs.declared.program.GroundProgram.{GroundProgram}
use Rattle.linear_normal.specs.Numbering.{numbering}
use Rattle.completion.specs.Inputs.{input_nogoods}
use Rattle.trail.specs.Assignment.{Assignment}
use Rattle.nogood_store.specs.Holding.{Holding, numbered_from}
use Rattle.derivation_meaning.specs.State.{start, is_empty, holds_empty}
use Rattle.propagator_core.specs.Meaning.{Meaning}
use Rattle.propagator_core.specs.Quiet.{IsSteady}
use Rattle.propagator_core.specs.Several.{AllFit}
use Rattle.trail_worlds.specs.Total.{shape_of}
use Rattle.trail_worlds.proofs.NameLemmas.{names_law}
use Rattle.propagation.specs.Waking.{Rows, HasRows, AreWakes, OthersRest}
use Rattle.learning.specs.Known.{Known, state_of, first_known}
use Rattle.learning.proofs.StateLaws.{start_law}
use Rattle.propagators.specs.Work.{DoTheWork}
use Rattle.search_core.specs.inner.Invariant.{IsSet, IsSearch}
use Rattle.search_laws.proofs.HoldLaws.{first_below, first_held, first_named, closed_first}

-- no entry stands on the trail, and the input nogoods alone are held
abbrev pub first_holding : GroundProgram → Holding
first_holding program = record { held = numbered_from 1 (input_nogoods program); looked = [] }

abbrev pub first_trail : GroundProgram → OrderLits → Assignment
first_trail program orders = record { shape = shape_of program; level = 0; orders = orders; entries = [] }

search_first : (program : GroundProgram) (orders : OrderLits) (ms : List Meaning) (rows : Rows) → IsSet program ms rows → IsSearch program (first_known program) (first_holding program) (first_trail program orders) ms rows
search_first program orders ms rows set = record {
  is_set = set;
  explained = record { shape = refl; justified = tt; tellable = tt };
  held = record {
    named = first_named (shape_of program) 1 (input_nogoods program) (names_law program);
    inputs = first_held 1 (input_nogoods program);
    numbered = record { inputs = omega arith; given = tt; below = first_below (input_nogoods program) };
    looked = ([], refl);
  };
  told = record { unclaimed = refl; unbettered = refl; reached = ([], tt, start_law program); listed = tt };
  calm = λ level lt. absurd (omega (arith, lt));
}

pub known_as : (inputs : ℕ) (known : Known) → known ≡ record { inputs = inputs; next = inputs + 1; given = []; best = None; claim = None } → (program : GroundProgram) → inputs ≡ length (input_nogoods program) → known ≡ first_known program
known_as inputs known e program f =
    let next : inputs + 1 ≡ 1 + length (input_nogoods program) = omega (arith, f) in
    e ∙ ap (λ n. record { inputs = n; next = inputs + 1; given = []; best = None; claim = None }) f ∙ ap (λ n. record { inputs = length (input_nogoods program); next = n; given = []; best = None; claim = None }) next

pub search_begins : (program : GroundProgram) (known : Known) (holding : Holding) (t : Assignment) (orders : OrderLits) (ms : List Meaning) (rows : Rows) → IsSet program ms rows → known ≡ first_known program → holding ≡ first_holding program
    → t ≡ first_trail program orders → IsSearch program known holding t ms rows
search_begins program known holding t orders ms rows set e f g =
    subst (λ k. IsSearch program k holding t ms rows) (sym e)
    (subst (λ h. IsSearch program (first_known program) h t ms rows) (sym f)
    (subst (λ u. IsSearch program (first_known program) (first_holding program) u ms rows) (sym g) (search_first program orders ms rows set)))

pub state_begins : (program : GroundProgram) (known : Known) (holding : Holding) → known ≡ first_known program → holding ≡ first_holding program → state_of holding.held known ≡ start program
state_begins program known holding e f = ap (λ (h : Holding). state_of h.held known) f ∙ ap (λ k. state_of (numbered_from 1 (input_nogoods program)) k) e ∙ start_law program

pub closed_begins : (program : GroundProgram) (known : Known) (holding : Holding) (closed : Bool) → holding ≡ first_holding program → closed ≡ list_any is_empty (input_nogoods program) → closed ≡ holds_empty (state_of holding.held known)
closed_begins program known holding closed f e = e ∙ closed_first known (input_nogoods program) ∙ ap (λ (h : Holding). holds_empty (state_of h.held known)) (sym f)

-- all propagators are awake
pub rest_begins : {X : Type 0} (meaning : X → Meaning) (xs : List X) (places : List ℕ) (t : Assignment) → ((i : ℕ) → i < length xs → Contains places i) → OthersRest places (map meaning xs) t
rest_begins meaning xs places t awake i m at = let lt = slice_get_within (map meaning xs) i m at in let long = length-map xs meaning in inl (awake i (omega (arith, lt, long)))

-- WHAT THE PIECES ARE

pub holding_as : (program : GroundProgram) (input : List (List Lit)) (holding : Holding) → holding ≡ record { held = numbered_from 1 input; looked = [] } → input ≡ input_nogoods program → holding ≡ first_holding program
holding_as program input holding e f = e ∙ ap (λ ns. record { held = numbered_from 1 ns; looked = [] }) f

pub trail_as : (program : GroundProgram) (s : Shape) (t : Assignment) → t ≡ record { shape = s; level = 0; orders = record { variables = s.variables; made = [] }; entries = [] } → s ≡ shape_of program
    → t ≡ first_trail program (record { variables = (shape_of program).variables; made = [] })
trail_as program s t e f = e ∙ ap (λ (x : Shape). record { shape = x; level = 0; orders = record { variables = x.variables; made = [] }; entries = [] }) f

pub set_begins : {X : Type 0} (program : GroundProgram) (numbered : Numbered) (meaning : X → Meaning) (given lent xs : List X) (s : Shape) (rows : Rows) → numbered ≡ numbering program → program.has_objective ≡ false
    → DoTheWork program (map meaning given) → AllFit (map meaning given) (shape_of program) → xs ≡ given → lent ≡ xs → s ≡ shape_of program → HasRows s (length lent) rows → AreWakes rows (map meaning lent) → All IsSteady (map meaning lent)
    → IsSet program (map meaning xs) rows
set_begins program numbered meaning given lent xs s rows e plain work fit same lending shape has wakes steady =
    let long : length lent ≡ length (map meaning xs) = ap length lending ∙ sym (length-map xs meaning) in
    record {
      plain = plain;
      work = subst (λ zs. DoTheWork program (map meaning zs)) (sym same) work;
      fit = subst (λ zs. AllFit (map meaning zs) (shape_of program)) (sym same) fit;
      steady = subst (λ zs. All IsSteady (map meaning zs)) lending steady;
      has_rows = subst (λ x. HasRows x (length (map meaning xs)) rows) shape (subst (λ n. HasRows s n rows) long has);
      wakes = subst (λ zs. AreWakes rows (map meaning zs)) lending wakes;
    }

pub awake_as : (places : List ℕ) (n m : ℕ) → ((i : ℕ) → i < n → Contains places i) → n ≡ m → (i : ℕ) → i < m → Contains places i
awake_as places n m awake e i lt = awake i (omega (arith, e, lt))
