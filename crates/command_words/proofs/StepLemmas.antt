-- One step of `clap`'s walk at each form of word, over the one simple command.
use Rattle.std.proofs.Common.{◌≡◌, ◌&&◌, ◌||◌, ℕ, Bool, true, false, List, [], ◌∷◌, ◌++◌, Some, None, Option, refl, sym, subst, codes, eqb}
use Rattle.std.specs.List.{starts_with}
use Rattle.std.specs.Option.{option_map_or}
use Rattle.std.specs.Prelude.{nat_eq}
use Rattle.std.specs.Str.{bytes_eq}
use Rattle.std.proofs.lemmas.Slice.Eq.{bytes_eq-Decides}
use Rattle.clap.specs.Walk.{Row, Rule, Text, Walk, Waiting, idle, option, positional, settled_rows, used_by_id, walked, arg_by_id}
use Rattle.clap.specs.Simple.{Shape, built}
use Rattle.clap.specs.Faults.{settle_fault, turn_fault, use_fault}
use Rattle.clap.specs.Kinds.{Kinds, or_else}
use Rattle.clap.proofs.OnLiterals.{clap_on_literals}
use Rattle.command_words.specs.Matches.{simple_command}
use Rattle.command_words.specs.Words.{is_option}
use Rattle.command_words.specs.Settings.{solver_options, checker_options}

abbrev pub shape : Shape
shape = (built simple_command).top

abbrev pub rules : List Rule
rules = shape.rules

-- a walk between two words
abbrev pub at : List Row → Option (Text × List Text) → Waiting → Bool → Walk
at rows pending waiting is_trailing = record {
  held = record { rows = rows; pending = pending; skip = 0 };
  waiting = waiting;
  position = 1;
  is_trailing = is_trailing;
  stopped = None;
}

-- nothing waits for a value
abbrev pub resting : Bool → Waiting
resting true = idle
resting false = positional

-- the rows after the use that is pending, and what that use is refused for
abbrev pub settled_after : Option (Text × List Text) → List Row → List Row
settled_after p rows = settled_rows rules p rows

abbrev pub pending_fault : Option (Text × List Text) → List Row → Kinds
pending_fault p rows = settle_fault rules false (record { rows = rows; pending = p; skip = 0 })

-- the rows after one use, and what the use is refused for
abbrev pub rows_used : Text → Text → List Row → List Row
rows_used o v rows = used_by_id (arg_by_id rules o) (v ∷ []) rows

abbrev pub used_fault : Text → Text → List Row → Kinds
used_fault o v rows = option_map_or (λ a. use_fault false a (v ∷ []) rows) (arg_by_id rules o) []

pub or_else-nil : (ks : Kinds) → or_else ks [] ≡ ks
or_else-nil [] = refl
or_else-nil (k ∷ ks) = refl

pub or_else-assoc : (a b c : Kinds) → or_else (or_else a b) c ≡ or_else a (or_else b c)
or_else-assoc [] b c = refl
or_else-assoc (k ∷ ks) b c = refl

pub text_is : (xs ys : Text) → bytes_eq xs ys ≡ true → xs ≡ ys
text_is xs ys h = (bytes_eq-Decides xs ys).0 h

-- ---- what holds of each option holds of a word that is one

either_way : (P : Text → Type 0) (o c : Text) (rest : Bool) → P c → (rest ≡ true → P o) → (bytes_eq o c || rest) ≡ true → P o
either_way P o c rest here there h = go (bytes_eq o c) refl h
  where
    go : (t : Bool) → bytes_eq o c ≡ t → (t || rest) ≡ true → P o
    go true e h = subst P (sym (text_is o c e)) here
    go false e h = there h

pub by_option : (P : Text → Type 0) → P (codes "-n") → P (codes "--conflicts") → P (codes "--min-int") → P (codes "--max-int")
    → P (codes "--ground-limit") → P (codes "--proof") → (o : Text) → is_option solver_options o ≡ true → P o
by_option P a b c d e f o h =
    either_way P o (codes "-n") _ a (either_way P o (codes "--conflicts") _ b (either_way P o (codes "--min-int") _ c
    (either_way P o (codes "--max-int") _ d (either_way P o (codes "--ground-limit") _ e
    (either_way P o (codes "--proof") false f (λ no. elim (no_truth no) [ ])))))) h
  where
    no_truth : false ≡ true → ⊥
    no_truth e = cc

-- the checker's options are options of the solver
pub checker_option : (o : Text) → is_option checker_options o ≡ true → is_option solver_options o ≡ true
checker_option o h =
    either_way (λ w. is_option solver_options w ≡ true) o (codes "--min-int") _ refl
    (either_way (λ w. is_option solver_options w ≡ true) o (codes "--max-int") false refl (λ no. cc)) h

-- ---- an option stands alone, and waits for its value

abbrev Waits : Text → Type 0
Waits o = (rows : List Row) (p : Option (Text × List Text)) (r : Bool)
    → (walked rules [] (at rows p (resting r) false) o ≡ at (settled_after p rows) (Some (o, [])) (option o) false)
    × (turn_fault shape [] (at rows p (resting r) false) o ≡ pending_fault p rows)

n_waits : Waits (codes "-n")
unfolding clap_on_literals
n_waits rows p true = (refl, or_else-nil (pending_fault p rows))
n_waits rows p false = (refl, or_else-nil (pending_fault p rows))

conflicts_waits : Waits (codes "--conflicts")
unfolding clap_on_literals
conflicts_waits rows p true = (refl, or_else-nil (pending_fault p rows))
conflicts_waits rows p false = (refl, or_else-nil (pending_fault p rows))

min_waits : Waits (codes "--min-int")
unfolding clap_on_literals
min_waits rows p true = (refl, or_else-nil (pending_fault p rows))
min_waits rows p false = (refl, or_else-nil (pending_fault p rows))

max_waits : Waits (codes "--max-int")
unfolding clap_on_literals
max_waits rows p true = (refl, or_else-nil (pending_fault p rows))
max_waits rows p false = (refl, or_else-nil (pending_fault p rows))

limit_waits : Waits (codes "--ground-limit")
unfolding clap_on_literals
limit_waits rows p true = (refl, or_else-nil (pending_fault p rows))
limit_waits rows p false = (refl, or_else-nil (pending_fault p rows))

proof_waits : Waits (codes "--proof")
unfolding clap_on_literals
proof_waits rows p true = (refl, or_else-nil (pending_fault p rows))
proof_waits rows p false = (refl, or_else-nil (pending_fault p rows))

pub waits_step : (o : Text) → is_option solver_options o ≡ true → (rows : List Row) (p : Option (Text × List Text)) (r : Bool)
    → (walked rules [] (at rows p (resting r) false) o ≡ at (settled_after p rows) (Some (o, [])) (option o) false)
    × (turn_fault shape [] (at rows p (resting r) false) o ≡ pending_fault p rows)
waits_step o h = by_option Waits n_waits conflicts_waits min_waits max_waits limit_waits proof_waits o h

-- ---- the value of an option that waits

abbrev Takes : Text → Type 0
Takes o = (rows : List Row) (x : ℕ) (xs : Text) → eqb x 45 ≡ false
    → (walked rules [] (at rows (Some (o, [])) (option o) false) (x ∷ xs) ≡ at rows (Some (o, (x ∷ xs) ∷ [])) idle false)
    × (turn_fault shape [] (at rows (Some (o, [])) (option o) false) (x ∷ xs) ≡ [])

n_takes : Takes (codes "-n")
unfolding clap_on_literals
n_takes rows x xs ne = (simp ne, simp ne)

conflicts_takes : Takes (codes "--conflicts")
unfolding clap_on_literals
conflicts_takes rows x xs ne = (simp ne, simp ne)

min_takes : Takes (codes "--min-int")
unfolding clap_on_literals
min_takes rows x xs ne = (simp ne, simp ne)

max_takes : Takes (codes "--max-int")
unfolding clap_on_literals
max_takes rows x xs ne = (simp ne, simp ne)

limit_takes : Takes (codes "--ground-limit")
unfolding clap_on_literals
limit_takes rows x xs ne = (simp ne, simp ne)

proof_takes : Takes (codes "--proof")
unfolding clap_on_literals
proof_takes rows x xs ne = (simp ne, simp ne)

pub takes_step : (o : Text) → is_option solver_options o ≡ true → (rows : List Row) (x : ℕ) (xs : Text) → eqb x 45 ≡ false
    → (walked rules [] (at rows (Some (o, [])) (option o) false) (x ∷ xs) ≡ at rows (Some (o, (x ∷ xs) ∷ [])) idle false)
    × (turn_fault shape [] (at rows (Some (o, [])) (option o) false) (x ∷ xs) ≡ [])
takes_step o h = by_option Takes n_takes conflicts_takes min_takes max_takes limit_takes proof_takes o h

-- ---- an option of two dashes with its value behind `=`

abbrev Attaches : Text → Type 0
Attaches o = starts_with nat_eq o (codes "--") ≡ true → (rows : List Row) (p : Option (Text × List Text)) (r : Bool) (y : ℕ) (ys : Text)
    → (walked rules [] (at rows p (resting r) false) (o ++ (61 ∷ y ∷ ys)) ≡ at (rows_used o (y ∷ ys) (settled_after p rows)) None idle false)
    × (turn_fault shape [] (at rows p (resting r) false) (o ++ (61 ∷ y ∷ ys)) ≡ or_else (pending_fault p rows) (used_fault o (y ∷ ys) (settled_after p rows)))

n_attaches : Attaches (codes "-n")
n_attaches short = cc

conflicts_attaches : Attaches (codes "--conflicts")
unfolding clap_on_literals
conflicts_attaches _ rows p true y ys = (refl, or_else-nil _)
conflicts_attaches _ rows p false y ys = (refl, or_else-nil _)

min_attaches : Attaches (codes "--min-int")
unfolding clap_on_literals
min_attaches _ rows p true y ys = (refl, or_else-nil _)
min_attaches _ rows p false y ys = (refl, or_else-nil _)

max_attaches : Attaches (codes "--max-int")
unfolding clap_on_literals
max_attaches _ rows p true y ys = (refl, or_else-nil _)
max_attaches _ rows p false y ys = (refl, or_else-nil _)

limit_attaches : Attaches (codes "--ground-limit")
unfolding clap_on_literals
limit_attaches _ rows p true y ys = (refl, or_else-nil _)
limit_attaches _ rows p false y ys = (refl, or_else-nil _)

proof_attaches : Attaches (codes "--proof")
unfolding clap_on_literals
proof_attaches _ rows p true y ys = (refl, or_else-nil _)
proof_attaches _ rows p false y ys = (refl, or_else-nil _)

pub attached_step : (o : Text) → is_option solver_options o ≡ true → starts_with nat_eq o (codes "--") ≡ true
    → (rows : List Row) (p : Option (Text × List Text)) (r : Bool) (y : ℕ) (ys : Text)
    → (walked rules [] (at rows p (resting r) false) (o ++ (61 ∷ y ∷ ys)) ≡ at (rows_used o (y ∷ ys) (settled_after p rows)) None idle false)
    × (turn_fault shape [] (at rows p (resting r) false) (o ++ (61 ∷ y ∷ ys)) ≡ or_else (pending_fault p rows) (used_fault o (y ∷ ys) (settled_after p rows)))
attached_step o h = by_option Attaches n_attaches conflicts_attaches min_attaches max_attaches limit_attaches proof_attaches o h

-- ---- a FILE

and-false : (b : Bool) → (b && false) ≡ false
and-false true = refl
and-false false = refl

abbrev FileAt : Text → Bool → Type 0
FileAt word t = (rows : List Row) (p : Option (Text × List Text)) (r : Bool)
    → (walked rules [] (at rows p (resting r) t) word ≡ at (settled_after p rows) (Some (codes "FILE", word ∷ [])) positional t)
    × (turn_fault shape [] (at rows p (resting r) t) word ≡ pending_fault p rows)

pub trailing_file_step : (word : Text) → FileAt word true
unfolding clap_on_literals
trailing_file_step word rows None true = (refl, refl)
trailing_file_step word rows None false = (refl, refl)
trailing_file_step word rows (Some q) true = (simp and-false, simp and-false)
trailing_file_step word rows (Some q) false = (simp and-false, simp and-false)

pub dash_file_step : FileAt (codes "-") false
unfolding clap_on_literals
dash_file_step rows None true = (refl, refl)
dash_file_step rows None false = (refl, refl)
dash_file_step rows (Some q) true = (simp and-false, simp and-false)
dash_file_step rows (Some q) false = (simp and-false, simp and-false)

pub plain_file_step : (x : ℕ) (xs : Text) → eqb x 45 ≡ false → FileAt (x ∷ xs) false
unfolding clap_on_literals
plain_file_step x xs ne rows None true = (simp ne, simp ne)
plain_file_step x xs ne rows None false = (simp ne, simp ne)
plain_file_step x xs ne rows (Some q) true = (simp (ne, and-false), simp (ne, and-false))
plain_file_step x xs ne rows (Some q) false = (simp (ne, and-false), simp (ne, and-false))

-- ---- `--`

pub dashes_step : (rows : List Row) (p : Option (Text × List Text)) (r : Bool)
    → (walked rules [] (at rows p (resting r) false) (codes "--") ≡ at rows p (resting r) true)
    × (turn_fault shape [] (at rows p (resting r) false) (codes "--") ≡ [])
unfolding clap_on_literals
dashes_step rows p true = (refl, refl)
dashes_step rows p false = (refl, refl)
