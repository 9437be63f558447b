-- How many parts there are, and where they end.
use Rattle.std.proofs.Common.{◌≡◌, ℕ, suc, ◌+◌, ◌≤◌, Bool, true, false, cond, ◌==◌, List, [], ◌∷◌, length, arith}
use Rattle.sheet.proofs.Texts.{part_inside}
use Rattle.sheet.specs.Parts.{Part, parts_in}
use Rattle.sheet.specs.Cuts.{parts_left, end_of}
use Rattle.sheet.specs.declared.words.Parts.{Parts}

-- as many at most as bytes
few_step : (same inside : Bool) (n : ℕ) (x : Part) (xs ys : List Part) → length xs ≤ n → length ys ≤ n → length (cond same xs (cond inside ys (x ∷ ys))) ≤ suc n
few_step true inside n x xs ys f g = omega arith
few_step false true n x xs ys f g = omega arith
few_step false false n x xs ys f g = omega arith

few_in : (sep : ℕ) (inside : Bool) (p : ℕ) (s : List ℕ) → length (parts_in sep inside p s) ≤ length s
unfolding parts_in
few_in sep inside p [] = omega arith
few_in sep inside p (b ∷ bs) = few_step (b == sep) inside (length bs) _ _ _ (few_in sep false (suc p) bs) (few_in sep true (suc p) bs)

pub few_parts : {S : ℕ} (w : Parts S) → length (parts_left w) ≤ end_of w
few_parts {S} w = omega (arith, few_in S false w.at w.rest.now)

-- none ends behind the bytes
pub line_inside : {S : ℕ} (w : Parts S) (l : Part) (more : List Part) → parts_left w ≡ l ∷ more → l.at + length l.text ≤ end_of w
line_inside {S} w l more e =
    let i = part_inside S w.at w.rest.now [] l more e in
    omega (arith, i.at_is, i.within)
