-- The row that a word names is that of the first name with its bytes.
use Rattle.std.proofs.Common.{◌≡◌, ℕ, Bool, true, false, cond, List, [], ◌∷◌, Some, Option, sym, refl, ap, ◌∙◌}
use Rattle.std.specs.List.{find}
use Rattle.std.specs.Option.{option_map}
use Rattle.std.specs.Str.{bytes_eq}
use Rattle.sheet_reader.specs.Names.{text_of, row_named}
use Rattle.sheet_reader.specs.declared.reading.Name.{Name}

map_cond : (b : Bool) (n : Name) (o : Option Name) → option_map (λ n. n.row) (cond b (Some n) o) ≡ cond b (Some n.row) (option_map (λ n. n.row) o)
map_cond true n o = refl
map_cond false n o = refl

find_row : (sheet : List ℕ) (names : List Name) (t : List ℕ) → option_map (λ n. n.row) (find (λ n. bytes_eq (text_of sheet n) t) names) ≡ row_named sheet names t
find_row sheet [] t = refl
find_row sheet (n ∷ ns) t =
    let b = bytes_eq (text_of sheet n) t in
    map_cond b n (find (λ n. bytes_eq (text_of sheet n) t) ns) ∙ ap (cond b (Some n.row)) (find_row sheet ns t)

pub row_is : (sheet : List ℕ) (names : List Name) (t : List ℕ) → row_named sheet names t ≡ option_map (λ n. n.row) (find (λ n. bytes_eq (text_of sheet n) t) names)
row_is sheet names t = sym (find_row sheet names t)
