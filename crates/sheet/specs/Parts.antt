-- Bytes cut at a separator: lines at byte 10, words at byte 32.
use Rattle.std.specs.Prelude.{ℕ, suc, Bool, true, false, cond, List, [], ◌∷◌, take, ◌==◌}

-- how many separators stand at the front
abbrev pub gap : ℕ → List ℕ → ℕ
gap sep [] = 0
gap sep (b ∷ bs) = cond (b == sep) (suc (gap sep bs)) 0

-- how many other bytes stand at the front
abbrev pub run : ℕ → List ℕ → ℕ
run sep [] = 0
run sep (b ∷ bs) = cond (b == sep) 0 (suc (run sep bs))

-- a part of some bytes: what it holds, and the offset of its first byte
pub record Part : Type 0 where
  pub text : List ℕ
  pub at : ℕ

abbrev pub part : List ℕ → ℕ → Part
part t p = record { text = t; at = p }

-- the longest parts without the separator, none empty; `inside` says that the byte before belongs to one
unfoldable pub parts_in : ℕ → Bool → ℕ → List ℕ → List Part
parts_in sep inside p [] = []
parts_in sep inside p (b ∷ bs) =
    cond (b == sep) (parts_in sep false (suc p) bs)
    (cond inside (parts_in sep true (suc p) bs) (part (take (run sep (b ∷ bs)) (b ∷ bs)) p ∷ parts_in sep true (suc p) bs))

abbrev pub parts : ℕ → ℕ → List ℕ → List Part
parts sep p bs = parts_in sep false p bs
