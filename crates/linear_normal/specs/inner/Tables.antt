-- The table of constraints while a program is numbered: the keys of the contents so far.
use Rattle.std.specs.Prelude.{◌≡◌, ℕ, ◌+◌, ◌<◌, ◌≤◌, ◌^◌, Bool, true, if◌then◌else◌, ℤ, pos, neg_ℤ, ◌-ℤ◌, unsigned_abs, Some, List, [], ◌∷◌, ◌++◌, map, length}
use Rattle.std.specs.List.{AllByRecursion, list_any, flat_map, fold}
use Rattle.symbols.specs.declared.rel.Rel.{Rel}
use Rattle.symbols.specs.declared.ends.Ends.{Ends}
use Rattle.literals.specs.declared.lit.Lit.{Lit}
use Rattle.literals.specs.declared.lit.Lit.TheVariants as l
use Rattle.ground_model.specs.declared.rule.GroundHead.{GroundHead}
use Rattle.ground_model.specs.declared.rule.GroundHead.TheVariants as h
use Rattle.ground_model.specs.declared.rule.GroundRule.{GroundRule}
use Rattle.ground_model.specs.Answers.{IsNumbered}
use Rattle.ground_model.specs.declared.rule.Bound.{Bound}
use Rattle.ground_model.specs.declared.rule.BodyLit.{BodyLit}
use Rattle.ground_model.specs.declared.rule.BodyLit.TheVariants as b
use Rattle.ground_model.specs.declared.rule.ChoiceItem.{ChoiceItem}
use Rattle.ground_model.specs.declared.rule.TheoryHead.{TheoryHead}
use Rattle.ground_model.specs.Sound.{is_sound_theory}
use Rattle.linear_normal.specs.declared.constraint.Item.{Item}
use Rattle.linear_normal.specs.declared.constraint.Item.TheVariants.{Value, Truth}
use Rattle.linear_normal.specs.declared.constraint.Constraint.{Constraint}
use Rattle.linear_normal.specs.declared.constraint.Constraint.TheVariants.{AtMost}
use Rattle.linear_normal.specs.declared.numbered.Conjunction.{Conjunction}
use Rattle.linear_normal.specs.declared.numbered.Duty.{Duty}
use Rattle.linear_normal.specs.Bodies.{bodies_in}
use Rattle.linear_normal.specs.Contents.{Term, Variable, Counted, Content, SumAtMost, SumEquals, SumDiffers, SomeTrue, opposite, compared, parts_of, same_content}
use Rattle.linear_normal.specs.Demands.{bound_content, with_content, with_parts, number_of}
use Rattle.linear_normal.specs.inner.Sums.{IsSoundOver}
use Rattle.linear_normal.specs.Numbering.{item_of, constraint_of, lit_of, conjunction_of, head_duties}

-- the list has the content
abbrev pub is_there : List Content → Content → Bool
is_there contents content = list_any (λ c. same_content c content) contents

-- the later list is the first with more behind it
pub record Begins (first later : List Content) : Type 0 where
  pub more : List Content
  pub same : later ≡ first ++ more

-- the tally that a term counts is there
abbrev pub IsBackedTerm : List Content → Term → Type 0
IsBackedTerm contents (Variable x c) = Unit {0}
IsBackedTerm contents (Counted bodies c) = is_there contents (SomeTrue bodies) ≡ true

-- what the content's constraint names is there
abbrev pub IsBacked : List Content → Content → Type 0
IsBacked contents (SumAtMost sum k) = AllByRecursion (IsBackedTerm contents) sum
IsBacked contents (SumEquals sum k) = AllByRecursion (λ part. is_there contents part ≡ true) (parts_of (SumEquals sum k))
IsBacked contents (SumDiffers sum k) = AllByRecursion (λ part. is_there contents part ≡ true) (parts_of (SumDiffers sum k))
IsBacked contents content = Unit {0}

-- the keys are the constraints of the contents, numbered by a list that has what they name
pub record HasKeys (numbers contents : List Content) (keys : List Constraint) : Type 0 where
  pub same : keys ≡ map (constraint_of numbers) contents
  pub backed : AllByRecursion (IsBacked numbers) contents

-- the keys are the constraints of these contents, and each has a number below 2^32
pub record IsTable (contents : List Content) (held : List Constraint) : Type 0 where
  pub keys : HasKeys contents contents held
  pub few : length held < 2 ^ 32

-- where the keys are those of some contents and the key is that of a content, it is put behind them, unless it is there, and n is its number
pub record Puts (before : List Constraint) (key : Constraint) (after : List Constraint) (n : ℕ) : Type 0 where
  pub keys : (numbers contents : List Content) (content : Content) → HasKeys numbers contents before → IsBacked numbers content → key ≡ constraint_of numbers content
      → HasKeys numbers (with_content contents content) after
  pub number : (numbers contents : List Content) (content : Content) → HasKeys numbers contents before → IsBacked numbers content → key ≡ constraint_of numbers content
      → n ≡ number_of contents content
  pub few : length before < 2 ^ 32 → length after < 2 ^ 32

-- where the keys are those of some contents and the key is that of a content, the place is its own, or the next one where it is not there
abbrev pub IsPlaceOr : List Constraint → Constraint → ℕ → ℕ → Type 0
IsPlaceOr keys key next place =
    (numbers contents : List Content) (content : Content) → HasKeys numbers contents keys → IsBacked numbers content → key ≡ constraint_of numbers content
    → place + 1 ≡ (if is_there contents content then number_of contents content else next + 1)

-- the table of the contents, the content and its parts, in which n is the content's number, also when it grows
pub record Takes (contents : List Content) (content : Content) (after : List Constraint) (n : ℕ) : Type 0 where
  pub table : IsTable (fold with_content contents (with_parts content)) after
  pub number : (later : List Content) → Begins (fold with_content contents (with_parts content)) later → n ≡ number_of later content

-- the places of the two parts of a content, where the content and then its parts are put into a table
abbrev pub ArePlaces : List Constraint → Constraint → Constraint → ℕ → ℕ → Type 0
ArePlaces keys one other first second =
    (contents : List Content) (whole a b : Content) → parts_of whole ≡ a ∷ b ∷ [] → IsTable contents keys
    → IsBacked (fold with_content contents (whole ∷ a ∷ b ∷ [])) a → IsBacked (fold with_content contents (whole ∷ a ∷ b ∷ [])) b
    → one ≡ constraint_of (fold with_content contents (whole ∷ a ∷ b ∷ [])) a → other ≡ constraint_of (fold with_content contents (whole ∷ a ∷ b ∷ [])) b
    → (first + 1 ≡ number_of (fold with_content contents (whole ∷ a ∷ b ∷ [])) a) × (second + 1 ≡ number_of (fold with_content contents (whole ∷ a ∷ b ∷ [])) b)

-- what was a table has "is" with its parts, which are these two
abbrev pub TakesBoth : List Constraint → Constraint → Constraint → List Constraint → ℕ → Type 0
TakesBoth before one other after n =
    (contents : List Content) (sum : List Term) (k : ℤ) → IsTable contents before → AllByRecursion (IsBackedTerm contents) sum
    → one ≡ AtMost (map (item_of contents) sum) k → other ≡ AtMost (map (item_of contents) (opposite sum)) (neg_ℤ k)
    → Takes contents (SumEquals sum k) after n

-- what was a table has "is not" with its parts, which are these two
abbrev pub TakesEither : List Constraint → Constraint → Constraint → List Constraint → ℕ → Type 0
TakesEither before one other after n =
    (contents : List Content) (sum : List Term) (k : ℤ) → IsTable contents before → AllByRecursion (IsBackedTerm contents) sum
    → one ≡ AtMost (map (item_of contents) sum) (k -ℤ pos 1) → other ≡ AtMost (map (item_of contents) (opposite sum)) (neg_ℤ k -ℤ pos 1)
    → Takes contents (SumDiffers sum k) after n

-- a coefficient
abbrev pub coefficient_of : Item → ℤ
coefficient_of (Value x c) = c
coefficient_of (Truth n c) = c

-- the coefficient lies strictly between -2^62 and 2^62
abbrev pub IsSmallItem : Item → Type 0
IsSmallItem item = unsigned_abs (coefficient_of item) < 2 ^ 62

-- the item with the opposite coefficient
abbrev pub opposite_item : Item → Item
opposite_item (Value x c) = Value x (neg_ℤ c)
opposite_item (Truth n c) = Truth n (neg_ℤ c)

-- what was a table has the sum of these items in the relation to the number
abbrev pub TakesCompared : List Constraint → List Item → Rel → ℤ → List Constraint → ℕ → Type 0
TakesCompared before items rel k after n =
    (contents : List Content) (sum : List Term) → IsTable contents before → AllByRecursion (IsBackedTerm contents) sum
    → items ≡ map (item_of contents) sum → Takes contents (compared sum rel k) after n

-- after a table's contents come those that are demanded, and from then on this holds of every later list
pub record Gives (before after : List Constraint) (demands : List Content) (Holds : List Content → Type 0) : Type 0 where
  pub table : (contents : List Content) → IsTable contents before → IsTable (fold with_content contents demands) after
  pub holds : (contents : List Content) → IsTable contents before → (later : List Content) → Begins (fold with_content contents demands) later → Holds later

-- the content with its parts comes after a table's contents, and n is its number
abbrev pub GivesNumber : List Constraint → List Constraint → Content → ℕ → Type 0
GivesNumber before after content n = Gives before after (with_parts content) (λ later. n ≡ number_of later content)

-- a variable with a coefficient as an item
abbrev pub value_item : ℕ × ℤ → Item
value_item pair = Value pair.0 pair.1

-- the theory atom is sound over so many variables, some table of symbols and some ends
abbrev pub IsSoundTheory : ℕ → TheoryHead → Type 0
IsSoundTheory variables theory = (symbols : ℕ) × (ends : Ends) × (is_sound_theory symbols variables ends theory ≡ true)

-- the literal names an atom, counted from 1, or a sound relation
abbrev pub IsSoundLiteral : ℕ → BodyLit → Type 0
IsSoundLiteral variables (b.Atom a sign) = 1 ≤ a
IsSoundLiteral variables (b.Theory relation sign) = IsSoundOver variables relation

-- the literal names an atom, counted from 1
abbrev pub IsCountedAtom : BodyLit → Type 0
IsCountedAtom (b.Atom a sign) = 1 ≤ a
IsCountedAtom (b.Theory relation sign) = ⊥

-- the element's atom is counted from 1, and its condition holds such atoms alone
pub record IsSoundItem (item : ChoiceItem) : Type 0 where
  pub atom : 1 ≤ item.atom
  pub condition : AllByRecursion IsCountedAtom item.condition

-- tallies as the terms of a sum
abbrev pub tally_terms : List (List ℕ) → List Term
tally_terms selections = map (λ bodies. Counted bodies (pos 1)) selections

-- the duties of bounds, in numbers of the later list
abbrev pub bound_duties : List Content → List (List ℕ) → ℕ → List Bound → List Duty
bound_duties later selections first bounds =
    map (λ bound. record { body = first; head = Some (l.Constraint (number_of later (bound_content selections bound)) true) }) bounds

-- what bounds over tallies need
abbrev pub bound_demands : List (List ℕ) → List Bound → List Content
bound_demands selections bounds = flat_map (λ bound. with_parts (bound_content selections bound)) bounds

-- the table of the contents and of what the bounds need, with the duties of the bounds behind the others
pub record TakenBounds (contents : List Content) (selections : List (List ℕ)) (first : ℕ) (bounds : List Bound) (after : List Constraint) (old new : List Duty) : Type 0 where
  pub table : IsTable (fold with_content contents (bound_demands selections bounds)) after
  pub duties : (later : List Content) → Begins (fold with_content contents (bound_demands selections bounds)) later → new ≡ old ++ bound_duties later selections first bounds

-- a table that has the tallies, whose truths these items are, has the bounds then, and their duties stand behind the others
abbrev pub TakesBounds : List Constraint → List Item → ℕ → List Bound → List Constraint → List Duty → List Duty → Type 0
TakesBounds before items first bounds after old new =
    (contents : List Content) (selections : List (List ℕ)) → IsTable contents before → AllByRecursion (IsBackedTerm contents) (tally_terms selections)
    → items ≡ map (item_of contents) (tally_terms selections) → TakenBounds contents selections first bounds after old new

-- what a head names is sound over so many variables
abbrev pub IsSoundHead : ℕ → GroundHead → Type 0
IsSoundHead variables h.Nothing = Unit {0}
IsSoundHead variables (h.Atom a) = 1 ≤ a
IsSoundHead variables (h.Theory theory) = IsSoundTheory variables theory
IsSoundHead variables (h.Choice choice) = AllByRecursion IsSoundItem choice.items

-- so is what a rule names
pub record IsSoundRule (variables : ℕ) (rule : GroundRule) : Type 0 where
  pub body : AllByRecursion (IsSoundLiteral variables) rule.body
  pub head : IsSoundHead variables rule.head

-- the elements have atoms among so many
abbrev pub HasAtoms : ℕ → List ChoiceItem → Type 0
HasAtoms atoms items = AllByRecursion (λ item. IsNumbered atoms item.atom) items

-- so have the elements of a choice as a head
abbrev pub HasAtomsIn : ℕ → GroundHead → Type 0
HasAtomsIn atoms (h.Choice choice) = HasAtoms atoms choice.items
HasAtomsIn atoms head = Unit {0}

-- these bodies stand behind the others, in numbers of the later list, where the literals are those of the rule's body, and these duties behind the others
pub record Adds (later : List Content) (variables : ℕ) (own : List Lit) (body : List BodyLit) (added : List (List BodyLit)) (due : List Duty) (old_bodies new_bodies : List Conjunction)
    (old_duties new_duties : List Duty) : Type 0 where
  pub bodies : own ≡ map (lit_of later variables) body → new_bodies ≡ old_bodies ++ map (conjunction_of later variables) added
  pub duties : new_duties ≡ old_duties ++ due

-- the rule's bodies and duties stand behind the others, in numbers of the later list
pub record AddsRule (later : List Content) (atoms variables : ℕ) (rule : GroundRule) (old_bodies new_bodies : List Conjunction) (old_duties new_duties : List Duty) : Type 0 where
  pub bodies : new_bodies ≡ old_bodies ++ map (conjunction_of later variables) (bodies_in rule)
  pub duties : new_duties ≡ old_duties ++ head_duties later atoms variables (length old_bodies + 1) rule.head
