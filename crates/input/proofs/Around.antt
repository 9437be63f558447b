-- The line around a place.
use Rattle.std.specs.Prelude.{not, ◌==◌, min}
use Rattle.std.specs.List.{take_while}
use Rattle.std.proofs.Common.{◌≡◌, ℕ, ◌+◌, ◌-◌, List, reverse, length, take, drop, refl}
use Rattle.sheet.proofs.Scans.{run_is}
use Rattle.input.specs.Places.{around}

pub around_is : (s : List ℕ) (place p a b : ℕ) → p ≡ min place (length s) → a ≡ length (take_while (λ c. not (c == 10)) (reverse (take p s))) → b ≡ length (take_while (λ c. not (c == 10)) (drop p s)) → record { from = p - a; to = p + b } ≡ around s place
around_is s place p a b e ea eb = rw (ea, eb, run_is 10 (reverse (take p s)), run_is 10 (drop p s)) (rw e refl)
