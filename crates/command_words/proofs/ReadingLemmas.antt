-- The settings that matches hold are those of the pieces.
use Rattle.std.proofs.Common.{◌≡◌, List, Some, None, Option, refl, codes}
use Rattle.std.specs.Prelude.{option_and_then}
use Rattle.clap.specs.Walk.{Row}
use Rattle.command_words.specs.Words.{Piece}
use Rattle.command_words.specs.Settings.{solver_reading, checker_reading}
use Rattle.command_words.specs.Matches.{IsReadAs}
use Rattle.command_words.specs.inner.Found.{solver_found, checker_found}

pub solver_of : (found : Option (List Piece)) (rows : List Row) → IsReadAs found rows → option_and_then solver_reading found ≡ solver_found rows
solver_of None rows read = absurd read
solver_of (Some ps) rows read =
    rw (
      read.options (codes "-n") refl,
      read.options (codes "--conflicts") refl,
      read.options (codes "--min-int") refl,
      read.options (codes "--max-int") refl,
      read.options (codes "--ground-limit") refl,
      read.options (codes "--proof") refl,
      read.files,
    ) refl

pub checker_of : (found : Option (List Piece)) (rows : List Row) → IsReadAs found rows → option_and_then checker_reading found ≡ checker_found rows
checker_of None rows read = absurd read
checker_of (Some ps) rows read = rw (read.options (codes "--min-int") refl, read.options (codes "--max-int") refl, read.files) refl
