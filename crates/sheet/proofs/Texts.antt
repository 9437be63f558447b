-- A part of some bytes holds the bytes at its offset.
use Rattle.std.proofs.Common.{◌≡◌, ℕ, suc, ◌+◌, ◌≤◌, Bool, true, false, cond, eqb, List, [], ◌∷◌, ◌++◌, length, take, drop, sym, ap, arith, length-take-le}
use Rattle.std.specs.Prelude.{not, ◌==◌}
use Rattle.std.proofs.lemmas.List.Sums.{prefix_len-le-length}
use Rattle.sheet.proofs.Scans.{run_prefix}
use Rattle.sheet.specs.Parts.{Part, part, run, parts_in, parts}

-- the part lies k bytes into bytes that begin at p
pub record Inside (p : ℕ) (bs : List ℕ) (w : Part) : Type 0 where
  pub skipped : ℕ
  pub at_is : w.at ≡ p + skipped
  pub within : skipped + length w.text ≤ length bs
  pub text_is : w.text ≡ take (length w.text) (drop skipped bs)

-- P holds of each of the parts
abbrev pub Each : (Part → Type 0) → List Part → Type 0
Each P [] = Unit {0}
Each P (w ∷ ws) = P w × Each P ws

further : (p b : ℕ) (bs : List ℕ) (w : Part) → Inside (suc p) bs w → Inside p (b ∷ bs) w
further p b bs w i = record { skipped = suc i.skipped; at_is = omega (arith, i.at_is); within = omega (arith, i.within); text_is = i.text_is }

all_further : (p b : ℕ) (bs : List ℕ) (ws : List Part) → Each (Inside (suc p) bs) ws → Each (Inside p (b ∷ bs)) ws
all_further p b bs [] e = tt
all_further p b bs (w ∷ ws) e = (further p b bs w e.0, all_further p b bs ws e.1)

pub run_within : (sep : ℕ) (bs : List ℕ) → run sep bs ≤ length bs
run_within sep bs = omega (arith, run_prefix sep bs, prefix_len-le-length (λ b. not (b == sep)) bs)

here : (sep p : ℕ) (bs : List ℕ) → Inside p bs (part (take (run sep bs) bs) p)
here sep p bs =
    let l = length-take-le (run sep bs) bs (run_within sep bs) in
    record { skipped = 0; at_is = omega arith; within = omega (arith, l, run_within sep bs); text_is = ap (λ n. take n bs) (sym l) }

step : (sep p b : ℕ) (bs : List ℕ) (inside : Bool) (t : Bool) → ((i : Bool) → Each (Inside (suc p) bs) (parts_in sep i (suc p) bs)) → Each (Inside p (b ∷ bs)) (cond t (parts_in sep false (suc p) bs) (cond inside (parts_in sep true (suc p) bs) (part (take (run sep (b ∷ bs)) (b ∷ bs)) p ∷ parts_in sep true (suc p) bs)))
step sep p b bs inside true ih = all_further p b bs (parts_in sep false (suc p) bs) (ih false)
step sep p b bs true false ih = all_further p b bs (parts_in sep true (suc p) bs) (ih true)
step sep p b bs false false ih = (here sep p (b ∷ bs), all_further p b bs (parts_in sep true (suc p) bs) (ih true))

-- each part lies in the bytes
all_inside : (sep : ℕ) (inside : Bool) (p : ℕ) (bs : List ℕ) → Each (Inside p bs) (parts_in sep inside p bs)
unfolding parts_in
all_inside sep inside p [] = tt
all_inside sep inside p (b ∷ bs) = step sep p b bs inside (eqb b sep) (λ i. all_inside sep i (suc p) bs)

pub parts_inside : (sep p : ℕ) (bs : List ℕ) → Each (Inside p bs) (parts sep p bs)
parts_inside sep p bs = all_inside sep false p bs

each_at : (P : Part → Type 0) (xs : List Part) (w : Part) (ys : List Part) → Each P (xs ++ w ∷ ys) → P w
each_at P [] w ys e = e.0
each_at P (x ∷ xs) w ys e = each_at P xs w ys e.1

-- each part of some bytes
pub part_inside : (sep p : ℕ) (bs : List ℕ) (xs : List Part) (w : Part) (ys : List Part) → parts sep p bs ≡ xs ++ w ∷ ys → Inside p bs w
part_inside sep p bs xs w ys e = each_at (Inside p bs) xs w ys (rw e at (all_inside sep false p bs))
