-- The line around a place of a text.
use Rattle.std.specs.Prelude.{ℕ, ◌+◌, ◌-◌, min, List, reverse, length, take, drop}
use Rattle.sheet.specs.Parts.{run}
use Rattle.input.specs.declared.places.Around.{Around}

-- back to the byte 10 before the place, and on to the one after it; a place past the end is the end
abbrev pub around : List ℕ → ℕ → Around
around s place =
    let p = min place (length s) in
    record { from = p - run 10 (reverse (take p s)); to = p + run 10 (drop p s) }
