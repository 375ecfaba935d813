-- The settings that matches hold. Private contracts alone cite this file.
use Rattle.std.specs.Prelude.{ℤ, pos, negsuc, List, [], Option, codes, option_and_then, option_map, unwrap_or}
use Rattle.clap.specs.Walk.{Row, Text, all_of, first_of}
use Rattle.command_words.specs.Numbers.{integer_within, number_within}
use Rattle.command_words.specs.Settings.{optional, defaulted, ordered, ordered_if_named, few_files, derivation_first, SolverReading, CheckerReading}

abbrev pub ends_found : List Row → Option (ℤ × ℤ)
ends_found rows =
    option_and_then (λ min. option_and_then (λ max. ordered min max)
    (defaulted (pos 1073741823) (integer_within 1073741823) (first_of (codes "--max-int") rows)))
    (defaulted (negsuc 1073741822) (integer_within 1073741823) (first_of (codes "--min-int") rows))

abbrev pub named_ends_found : List Row → Option (Option ℤ × Option ℤ)
named_ends_found rows =
    option_and_then (λ min. option_and_then (λ max. ordered_if_named min max)
    (optional (integer_within 1073741823) (first_of (codes "--max-int") rows)))
    (optional (integer_within 1073741823) (first_of (codes "--min-int") rows))

abbrev pub files_found : List Row → List Text
files_found rows = unwrap_or (all_of (codes "FILE") rows) []

abbrev pub solver_found : List Row → Option SolverReading
solver_found rows =
    option_and_then (λ answers.
    option_and_then (λ conflicts.
    option_and_then (λ ends.
    option_and_then (λ ground_limit.
    option_map (λ files. record {
      answers = answers;
      conflicts = conflicts;
      min = ends.0;
      max = ends.1;
      ground_limit = ground_limit;
      proof = first_of (codes "--proof") rows;
      files = files;
    })
    (few_files (files_found rows)))
    (defaulted 1048576 (number_within 1 4194304) (first_of (codes "--ground-limit") rows)))
    (ends_found rows))
    (defaulted 18446744073709551615 (number_within 1 18446744073709551615) (first_of (codes "--conflicts") rows)))
    (optional (number_within 0 18446744073709551615) (first_of (codes "-n") rows))

abbrev pub checker_found : List Row → Option CheckerReading
checker_found rows =
    option_and_then (λ ends.
    option_map (λ names. record {
      min = ends.0;
      max = ends.1;
      proof = names.0;
      files = names.1;
    })
    (derivation_first (files_found rows)))
    (named_ends_found rows)
