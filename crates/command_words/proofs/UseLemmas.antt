-- What a run of uses leaves in the rows, and when none of them is refused.
use Rattle.std.proofs.Common.{◌≡◌, ◌∙◌, ◌&&◌, ◌||◌, Bool, true, false, not, List, [], ◌∷◌, ◌++◌, Some, None, Option, refl, sym, ap, ap₂, subst, codes, cond, map, find, slice_get, unwrap_or, option_map}
use Rattle.std.specs.List.{list_any}
use Rattle.std.specs.Option.{option_map_or}
use Rattle.std.specs.Prelude.{option_and_then}
use Rattle.std.specs.Str.{bytes_eq}
use Rattle.std.proofs.lemmas.List.{append-nil, append_assoc}
use Rattle.std.proofs.lemmas.Slice.Eq.{bytes_eq-Decides}
use Rattle.clap.specs.Walk.{Row, Text, has_row, with_values, without, more_values, stronger, first_of, all_of}
use Rattle.clap.specs.Kinds.{Kinds, or_else}
use Rattle.clap.specs.declared.builder.value_parser.Reading.TheVariants as reading
use Rattle.clap.specs.declared.error.kind.ErrorKind.TheVariants as kind
use Rattle.clap.specs.declared.parser.matches.ValueSource.TheVariants as source
use Rattle.command_words.specs.Words.{Piece, given, file, is_option, options_given, all_different, value_of, files_of}
use Rattle.command_words.specs.Settings.{solver_options}
use Rattle.command_words.proofs.StepLemmas.{rows_used, used_fault, text_is, by_option}
use Rattle.command_words.proofs.WalkLemmas.{Use, use_of, rows_with, uses_fault, KnownPieces}

text_same : (xs : Text) → bytes_eq xs xs ≡ true
text_same xs = (bytes_eq-Decides xs xs).1 refl

text_other : (xs ys : Text) → bytes_eq xs ys ≡ false → bytes_eq ys xs ≡ false
text_other xs ys h = go (bytes_eq ys xs) refl
  where
    go : (b : Bool) → bytes_eq ys xs ≡ b → bytes_eq ys xs ≡ false
    go true e = let same : xs ≡ ys = sym (text_is ys xs e) in let bad : bytes_eq xs ys ≡ true = (bytes_eq-Decides xs ys).1 same in cc
    go false e = e

-- ---- one use of the rows

-- the texts under an id
abbrev pub texts_at : Text → List Row → List Text
texts_at id rows = option_map_or (λ r. r.values) (find (λ r. bytes_eq r.id id) rows) []

abbrev pub text_if : Bool → Text → List Text
text_if b v = cond b (v ∷ []) []

-- the rows with one more value for an id
abbrev more : Text → Text → List Row → List Row
more o v rows = with_values o reading.AsWritten source.CommandLine (v ∷ []) rows

swap_or : (a b c : Bool) → (a || (b || c)) ≡ (b || (a || c))
swap_or true true c = refl
swap_or true false c = refl
swap_or false b c = refl

once_or : (a c : Bool) → (a || c) ≡ (a || (a || c))
once_or true c = refl
once_or false c = refl

-- an id has a row then where it had one, or is the one that is used
has_row-more : (o v id : Text) (rows : List Row) → has_row id (more o v rows) ≡ (bytes_eq o id || has_row id rows)
has_row-more o v id [] = refl
has_row-more o v id (r ∷ rs) = go (bytes_eq r.id o) refl (has_row-more o v id rs)
  where
    go : (b : Bool) → bytes_eq r.id o ≡ b → has_row id (more o v rs) ≡ (bytes_eq o id || has_row id rs)
        → has_row id (cond b (more_values source.CommandLine (v ∷ []) r ++ rs) (r ∷ more o v rs)) ≡ (bytes_eq o id || (bytes_eq r.id id || has_row id rs))
    go true e rest = subst (λ (x : Text). (bytes_eq r.id id || has_row id rs) ≡ (bytes_eq x id || (bytes_eq r.id id || has_row id rs))) (text_is r.id o e) (once_or (bytes_eq r.id id) (has_row id rs))
    go false e rest = ap (λ (x : Bool). bytes_eq r.id id || x) rest ∙ swap_or (bytes_eq r.id id) (bytes_eq o id) (has_row id rs)

-- the texts of the id that is used have one more
texts-more : (o v id : Text) (rows : List Row) → texts_at id (more o v rows) ≡ texts_at id rows ++ text_if (bytes_eq o id) v
texts-more o v id [] = alone (bytes_eq o id)
  where
    alone : (b : Bool) → option_map_or (λ (r : Row). r.values) (cond b (Some (record { id = o; values = v ∷ []; count = None; source = Some source.CommandLine; reading = reading.AsWritten })) None) [] ≡ text_if b v
    alone true = refl
    alone false = refl
texts-more o v id (r ∷ rs) = go (bytes_eq r.id o) refl (texts-more o v id rs)
  where
    same_id : (b : Bool) → option_map_or (λ x. x.values) (cond b (Some (record r { values = r.values ++ v ∷ []; source = Some (stronger r.source source.CommandLine) })) (find (λ x. bytes_eq x.id id) rs)) []
        ≡ option_map_or (λ x. x.values) (cond b (Some r) (find (λ x. bytes_eq x.id id) rs)) [] ++ text_if b v
    same_id true = refl
    same_id false = sym (append-nil (texts_at id rs))

    other_id : (b : Bool) → bytes_eq r.id id ≡ b → bytes_eq r.id o ≡ false → texts_at id (more o v rs) ≡ texts_at id rs ++ text_if (bytes_eq o id) v
        → option_map_or (λ x. x.values) (cond b (Some r) (find (λ x. bytes_eq x.id id) (more o v rs))) [] ≡ option_map_or (λ x. x.values) (cond b (Some r) (find (λ x. bytes_eq x.id id) rs)) [] ++ text_if (bytes_eq o id) v
    other_id true here apart rest =
        let not_it : bytes_eq o id ≡ false = subst (λ (x : Text). bytes_eq o x ≡ false) (text_is r.id id here) (text_other r.id o apart) in
        rw not_it (sym (append-nil r.values))
    other_id false here apart rest = rest

    go : (b : Bool) → bytes_eq r.id o ≡ b → texts_at id (more o v rs) ≡ texts_at id rs ++ text_if (bytes_eq o id) v
        → texts_at id (cond b (more_values source.CommandLine (v ∷ []) r ++ rs) (r ∷ more o v rs)) ≡ texts_at id (r ∷ rs) ++ text_if (bytes_eq o id) v
    go true e rest = subst (λ (x : Text). texts_at id (more_values source.CommandLine (v ∷ []) r ++ rs) ≡ texts_at id (r ∷ rs) ++ text_if (bytes_eq x id) v)
        (text_is r.id o e) (same_id (bytes_eq r.id id))
    go false e rest = other_id (bytes_eq r.id id) refl e rest

-- nothing is taken away where there is no row
without_none : (o : Text) (rows : List Row) → has_row o rows ≡ false → without o rows ≡ rows
without_none o [] h = refl
without_none o (r ∷ rs) h = go (bytes_eq r.id o) refl h (without_none o rs)
  where
    go : (b : Bool) → bytes_eq r.id o ≡ b → (b || has_row o rs) ≡ false → (has_row o rs ≡ false → without o rs ≡ rs) → cond b ([] ++ rs) (r ∷ without o rs) ≡ r ∷ rs
    go true e no_row rest = cc
    go false e no_row rest = ap (λ (xs : List Row). r ∷ xs) (rest no_row)

-- ---- one use of the command's arguments

abbrev conflict_if : Bool → Kinds
conflict_if b = cond b (kind.ArgumentConflict ∷ []) []

refused_again : (b : Bool) → or_else (cond (b && true) (kind.ArgumentConflict ∷ []) []) [] ≡ conflict_if b
refused_again true = refl
refused_again false = refl

abbrev Sets : Text → Type 0
Sets o = (v : Text) (rows : List Row) → (used_fault o v rows ≡ conflict_if (has_row o rows)) × (rows_used o v rows ≡ more o v (without o rows)) × (bytes_eq (codes "FILE") o ≡ false)

-- an option is refused where it stood before, and else adds its value
sets : (o : Text) → is_option solver_options o ≡ true → Sets o
sets o h = by_option Sets
    (λ v rows. (refused_again (has_row (codes "-n") rows), refl, refl))
    (λ v rows. (refused_again (has_row (codes "--conflicts") rows), refl, refl))
    (λ v rows. (refused_again (has_row (codes "--min-int") rows), refl, refl))
    (λ v rows. (refused_again (has_row (codes "--max-int") rows), refl, refl))
    (λ v rows. (refused_again (has_row (codes "--ground-limit") rows), refl, refl))
    (λ v rows. (refused_again (has_row (codes "--proof") rows), refl, refl))
    o h

-- a FILE is never refused
adds : (v : Text) (rows : List Row) → (used_fault (codes "FILE") v rows ≡ []) × (rows_used (codes "FILE") v rows ≡ more (codes "FILE") v rows)
adds v rows = (refl, refl)

-- ---- all uses

-- the values that are given under an id, in order
abbrev pub values_at : Text → List Use → List Text
values_at id [] = []
values_at id (u ∷ us) = text_if (bytes_eq u.0 id) u.1 ++ values_at id us

abbrev pub is_none : Kinds → Bool
is_none [] = true
is_none (k ∷ ks) = false

-- no row has one of these ids
abbrev fresh : List Row → List Text → Bool
fresh rows ids = not (list_any (λ o. has_row o rows) ids)

any_or : (p q : Text → Bool) (xs : List Text) → list_any (λ x. p x || q x) xs ≡ (list_any p xs || list_any q xs)
any_or p q [] = refl
any_or p q (x ∷ xs) = ap (λ (b : Bool). (p x || q x) || b) (any_or p q xs) ∙ mix (p x) (q x) (list_any p xs) (list_any q xs)
  where
    mix : (a b c d : Bool) → ((a || b) || (c || d)) ≡ ((a || c) || (b || d))
    mix true b c d = refl
    mix false true true d = refl
    mix false true false d = refl
    mix false false true d = refl
    mix false false false d = refl

any_same : (p q : Text → Bool) (xs : List Text) → ((x : Text) → p x ≡ q x) → list_any p xs ≡ list_any q xs
any_same p q [] same = refl
any_same p q (x ∷ xs) same = ap₂ (λ (a b : Bool). a || b) (same x) (any_same p q xs same)

fresh-more : (o v : Text) (rows : List Row) (ids : List Text) → fresh (more o v rows) ids ≡ not (list_any (λ x. bytes_eq o x) ids || list_any (λ x. has_row x rows) ids)
fresh-more o v rows ids =
    ap not (any_same (λ x. has_row x (more o v rows)) (λ x. bytes_eq o x || has_row x rows) ids (λ x. has_row-more o v x rows)
    ∙ any_or (λ x. bytes_eq o x) (λ x. has_row x rows) ids)

no_file : (ps : List Piece) → KnownPieces ps → list_any (λ x. bytes_eq (codes "FILE") x) (options_given ps) ≡ false
no_file [] known = refl
no_file (given o v ∷ ps) known = rw ((sets o known.0 v []).2) (no_file ps known.1)
no_file (file word ∷ ps) known = no_file ps known

-- no use is refused exactly where each option stands once, and none stood before
pub uses_fault-none : (ps : List Piece) → KnownPieces ps → (rows : List Row)
    → is_none (uses_fault rows (map use_of ps)) ≡ (fresh rows (options_given ps) && all_different (options_given ps))
uses_fault-none [] known rows = refl
uses_fault-none (file word ∷ ps) known rows =
    let step = adds word rows in
    let after = uses_fault-none ps known (more (codes "FILE") word rows) in
    let same : fresh (more (codes "FILE") word rows) (options_given ps) ≡ fresh rows (options_given ps) =
    fresh-more (codes "FILE") word rows (options_given ps) ∙ ap (λ (b : Bool). not (b || list_any (λ x. has_row x rows) (options_given ps))) (no_file ps known) in
    after ∙ ap (λ (b : Bool). b && all_different (options_given ps)) same
uses_fault-none (given o v ∷ ps) known rows = go (has_row o rows) refl (uses_fault-none ps known.1)
  where
    mix : (a b c : Bool) → (not (a || b) && c) ≡ (not b && (not a && c))
    mix true true c = refl
    mix true false c = refl
    mix false true c = refl
    mix false false c = refl

    go : (b : Bool) → has_row o rows ≡ b → ((r : List Row) → is_none (uses_fault r (map use_of ps)) ≡ (fresh r (options_given ps) && all_different (options_given ps)))
        → is_none (or_else (used_fault o v rows) (uses_fault (rows_used o v rows) (map use_of ps)))
        ≡ (not (has_row o rows || list_any (λ x. has_row x rows) (options_given ps)) && (not (list_any (λ x. bytes_eq o x) (options_given ps)) && all_different (options_given ps)))
    go true e rest = rw ((sets o known.0 v rows).0, e) refl
    go false e rest =
        let left = without_none o rows e in
        let used : rows_used o v rows ≡ more o v rows = (sets o known.0 v rows).1 ∙ ap (more o v) left in
        rw ((sets o known.0 v rows).0, e, used) (rest (more o v rows)
        ∙ ap (λ (b : Bool). b && all_different (options_given ps)) (fresh-more o v rows (options_given ps))
        ∙ mix (list_any (λ x. bytes_eq o x) (options_given ps)) (list_any (λ x. has_row x rows) (options_given ps)) (all_different (options_given ps)))

-- the texts that the rows hold after uses of which none is refused
pub texts_after : (ps : List Piece) → KnownPieces ps → (id : Text) (rows : List Row) → is_none (uses_fault rows (map use_of ps)) ≡ true
    → texts_at id (rows_with rows (map use_of ps)) ≡ texts_at id rows ++ values_at id (map use_of ps)
texts_after [] known id rows free = sym (append-nil (texts_at id rows))
texts_after (file word ∷ ps) known id rows free =
    texts_after ps known id (more (codes "FILE") word rows) free
    ∙ ap (λ (xs : List Text). xs ++ values_at id (map use_of ps)) (texts-more (codes "FILE") word id rows)
    ∙ append_assoc (texts_at id rows) (text_if (bytes_eq (codes "FILE") id) word) (values_at id (map use_of ps))
texts_after (given o v ∷ ps) known id rows free = go (has_row o rows) refl (texts_after ps known.1 id)
  where
    go : (b : Bool) → has_row o rows ≡ b
        → ((r : List Row) → is_none (uses_fault r (map use_of ps)) ≡ true → texts_at id (rows_with r (map use_of ps)) ≡ texts_at id r ++ values_at id (map use_of ps))
        → texts_at id (rows_with (rows_used o v rows) (map use_of ps)) ≡ texts_at id rows ++ (text_if (bytes_eq o id) v ++ values_at id (map use_of ps))
    go true e rest =
        let refused : false ≡ true = rw ((sets o known.0 v rows).0, e) at free in cc
    go false e rest =
        let used : rows_used o v rows ≡ more o v rows = (sets o known.0 v rows).1 ∙ ap (more o v) (without_none o rows e) in
        let free_after : is_none (uses_fault (more o v rows) (map use_of ps)) ≡ true = rw ((sets o known.0 v rows).0, e, used) at free in
        rw used (rest (more o v rows) free_after
        ∙ ap (λ (xs : List Text). xs ++ values_at id (map use_of ps)) (texts-more o v id rows)
        ∙ append_assoc (texts_at id rows) (text_if (bytes_eq o id) v) (values_at id (map use_of ps)))

-- ---- what the getters read

pub first_of-texts : (id : Text) (rows : List Row) → first_of id rows ≡ slice_get (texts_at id rows) 0
first_of-texts id rows = go (find (λ r. bytes_eq r.id id) rows)
  where
    go : (o : Option Row) → option_and_then (λ r. slice_get r.values 0) o ≡ slice_get (option_map_or (λ r. r.values) o []) 0
    go None = refl
    go (Some r) = refl

pub all_of-texts : (id : Text) (rows : List Row) → unwrap_or (all_of id rows) [] ≡ texts_at id rows
all_of-texts id rows = go (find (λ r. bytes_eq r.id id) rows)
  where
    go : (o : Option Row) → unwrap_or (option_map (λ r. r.values) o) [] ≡ option_map_or (λ r. r.values) o []
    go None = refl
    go (Some r) = refl

-- the values of an option, and the FILEs
pub first_value_at : (ps : List Piece) → KnownPieces ps → (o : Text) → bytes_eq (codes "FILE") o ≡ false → slice_get (values_at o (map use_of ps)) 0 ≡ value_of o ps
first_value_at [] known o apart = refl
first_value_at (file word ∷ ps) known o apart = rw apart (first_value_at ps known o apart)
first_value_at (given other v ∷ ps) known o apart = go (bytes_eq other o) (first_value_at ps known.1 o apart)
  where
    go : (b : Bool) → slice_get (values_at o (map use_of ps)) 0 ≡ value_of o ps → slice_get (text_if b v ++ values_at o (map use_of ps)) 0 ≡ cond b (Some v) (value_of o ps)
    go true rest = refl
    go false rest = rest

pub option_is_no_file : (o : Text) → is_option solver_options o ≡ true → bytes_eq (codes "FILE") o ≡ false
option_is_no_file o h = (sets o h [] []).2

pub files_at : (ps : List Piece) → KnownPieces ps → values_at (codes "FILE") (map use_of ps) ≡ files_of ps
files_at [] known = refl
files_at (file word ∷ ps) known = ap (λ (xs : List Text). word ∷ xs) (files_at ps known)
files_at (given o v ∷ ps) known = rw (text_other (codes "FILE") o (option_is_no_file o known.0)) (files_at ps known.1)
