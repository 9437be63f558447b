-- What an iterator over parts has left.
use Rattle.std.specs.Prelude.{◌≡◌, ℕ, ◌+◌, ◌<◌, ◌≤◌, List, ◌∷◌, length, drop}
use Rattle.sheet.specs.Parts.{Part, part, parts}
use Rattle.sheet.specs.declared.words.Word.{Word}
use Rattle.sheet.specs.declared.words.Parts.{Parts}

-- a word by its values
abbrev pub part_of : Word → Part
part_of w = part w.text.now w.at

-- w, with its offset in s, is the first part of s: the parts of s, wherever it stands, are it and the parts of what follows it
pub record FirstPart (sep : ℕ) (s : List ℕ) (w : Part) : Type 0 where
  pub some : 0 < length w.text
  pub within : w.at + length w.text ≤ length s
  pub next : (p : ℕ) → parts sep p s ≡ part w.text (p + w.at) ∷ parts sep (p + (w.at + length w.text)) (drop (w.at + length w.text) s)

-- the parts that are left
abbrev pub parts_left : {S : ℕ} → Parts S → List Part
parts_left {S} p = parts S p.at p.rest.now

-- the offset where the text ends
abbrev pub end_of : {S : ℕ} → Parts S → ℕ
end_of p = p.at + length p.rest.now
