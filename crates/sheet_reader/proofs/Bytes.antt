-- A search for the first byte that a sheet may not hold.
use Rattle.std.proofs.Common.{◌≡◌, ℕ, suc, ◌+◌, Bool, true, false, cond, not, List, [], ◌∷◌, Option, Some, refl, ap, ◌∙◌, sym, add-one}
use Rattle.std.proofs.lemmas.Iterator.Adapters.{position_from-zero}
use Rattle.std.specs.List.{position, position_from}
use Rattle.std.specs.Option.{option_map}
use Rattle.sheet_reader.specs.Sheets.{allowed, foreign_byte}
use Rattle.sheet_faults.specs.declared.fault.SheetFault.{SheetFault}
use Rattle.sheet_faults.specs.declared.fault.SheetFault.TheVariants.{ForeignByte}

-- the first byte, and what is found behind it
step : (a : Bool) (p : ℕ) (found : Option ℕ) (rest : Option SheetFault) → option_map ForeignByte found ≡ rest → option_map ForeignByte (cond (not a) (Some p) found) ≡ cond a rest (Some (ForeignByte p))
step true p found rest e = e
step false p found rest e = refl

foreign_at : (p : ℕ) (s : List ℕ) → option_map ForeignByte (position_from (λ b. not (allowed b)) p s) ≡ foreign_byte p s
foreign_at p [] = refl
foreign_at p (b ∷ bs) =
    step (allowed b) p (position_from (λ b. not (allowed b)) (p + 1) bs) (foreign_byte (suc p) bs)
    (foreign_at (p + 1) bs ∙ ap (λ k. foreign_byte k bs) (add-one p))

pub foreign_is : (s : List ℕ) → foreign_byte 0 s ≡ option_map ForeignByte (position (λ b. not (allowed b)) s)
foreign_is s = sym (ap (option_map ForeignByte) (position_from-zero (λ b. not (allowed b)) s) ∙ foreign_at 0 s)
