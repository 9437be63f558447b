-- Where an input's sheet ends and its step lines begin.
use Rattle.std.specs.Prelude.{ℕ, ◌+◌, Bool, true, false, cond, ◌&&◌, List, [], ◌∷◌, length, codes}
use Rattle.std.specs.Str.{bytes_eq}
use Rattle.sheet.specs.Parts.{Part, parts}
use Rattle.input.specs.declared.lines.Split.{Split}

-- there are no words
abbrev pub none : List Part → Bool
none [] = true
none (w ∷ ws) = false

-- t is the only word
abbrev pub only : List ℕ → List Part → Bool
only t [] = false
only t (w ∷ ws) = bytes_eq w.text t && none ws

-- all before the first line whose only word is `steps` is the sheet, and the step lines follow it; without one all is
abbrev pub split_at : ℕ → List Part → Split
split_at end [] = record { sheet = end; steps = end }
split_at end (l ∷ ls) =
    cond (only (codes "steps") (parts 32 0 l.text)) (record { sheet = l.at; steps = l.at + length l.text }) (split_at end ls)

abbrev pub split_of : List ℕ → Split
split_of s = split_at (length s) (parts 10 0 s)
