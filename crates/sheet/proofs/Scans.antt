-- Parts one after another.
use Rattle.std.specs.Prelude.{not, ◌==◌}
use Rattle.std.specs.List.{take_while, prefix_len}
use Rattle.std.proofs.lemmas.List.Folds.{length-prefix_len}
use Rattle.std.proofs.Common.{◌≡◌, ℕ, suc, ◌+◌, ◌<◌, ◌≤◌, Bool, true, false, cond, eqb, List, [], ◌∷◌, length, take, drop, sym, refl, ap, ◌∙◌, subst, add-zero, arith, length-drop}
use Rattle.std.proofs.lemmas.List.{drop_all, drop-drop}
use Rattle.sheet.specs.Parts.{gap, run, parts, part, parts_in}

turned : (t : Bool) (x y : ℕ) → cond (not t) x y ≡ cond t y x
turned true x y = refl
turned false x y = refl

gap_prefix : (sep : ℕ) (s : List ℕ) → prefix_len (λ c. c == sep) s ≡ gap sep s
gap_prefix sep [] = refl
gap_prefix sep (b ∷ bs) = let more : 1 + prefix_len (λ c. c == sep) bs ≡ suc (gap sep bs) = omega (arith, gap_prefix sep bs) in ap (λ n. cond (b == sep) n 0) more

pub run_prefix : (sep : ℕ) (s : List ℕ) → prefix_len (λ c. not (c == sep)) s ≡ run sep s
run_prefix sep [] = refl
run_prefix sep (b ∷ bs) = let more : 1 + prefix_len (λ c. not (c == sep)) bs ≡ suc (run sep bs) = omega (arith, run_prefix sep bs) in turned (b == sep) _ 0 ∙ ap (λ n. cond (b == sep) 0 n) more

-- the gap is as many separators as stand at the front
pub gap_is : (sep : ℕ) (s : List ℕ) → length (take_while (λ c. c == sep) s) ≡ gap sep s
gap_is sep s = length-prefix_len (λ c. c == sep) s ∙ gap_prefix sep s

-- and the run as many other bytes
pub run_is : (sep : ℕ) (s : List ℕ) → length (take_while (λ c. not (c == sep)) s) ≡ run sep s
run_is sep s = length-prefix_len (λ c. not (c == sep)) s ∙ run_prefix sep s

abbrev GapOf : ℕ → ℕ → List ℕ → Type 0
GapOf sep p s = parts sep p s ≡ parts sep (p + gap sep s) (drop (gap sep s) s)

gap_at : (sep p b : ℕ) (bs : List ℕ) (t : Bool) → eqb b sep ≡ t → GapOf sep (suc p) bs → GapOf sep p (b ∷ bs)
unfolding parts_in
gap_at sep p b bs true e ih = rw e (ih ∙ ap (λ k. parts sep k (drop (gap sep bs) bs)) (omega arith))
gap_at sep p b bs false e ih = rw e (rw add-zero (rw e refl))

-- past the separators
pub parts_gap : (sep p : ℕ) (s : List ℕ) → parts sep p s ≡ parts sep (p + gap sep s) (drop (gap sep s) s)
unfolding parts_in
parts_gap sep p [] = refl
parts_gap sep p (b ∷ bs) = gap_at sep p b bs (eqb b sep) refl (parts_gap sep (suc p) bs)

abbrev RunOf : ℕ → ℕ → List ℕ → Type 0
RunOf sep p s = parts_in sep true p s ≡ parts sep (p + run sep s) (drop (run sep s) s)

run_at : (sep p b : ℕ) (bs : List ℕ) (t : Bool) → eqb b sep ≡ t → RunOf sep (suc p) bs → RunOf sep p (b ∷ bs)
unfolding parts_in
run_at sep p b bs true e ih = rw e (rw add-zero (rw e refl))
run_at sep p b bs false e ih = rw e (ih ∙ ap (λ k. parts sep k (drop (run sep bs) bs)) (omega arith))

-- past the rest of a part
pub parts_run : (sep p : ℕ) (s : List ℕ) → RunOf sep p s
unfolding parts_in
parts_run sep p [] = refl
parts_run sep p (b ∷ bs) = run_at sep p b bs (eqb b sep) refl (parts_run sep (suc p) bs)

abbrev HereOf : ℕ → ℕ → List ℕ → Type 0
HereOf sep p s = parts sep p s ≡ part (take (run sep s) s) p ∷ parts sep (p + run sep s) (drop (run sep s) s)

here_at : (sep p b : ℕ) (bs : List ℕ) (t : Bool) → eqb b sep ≡ t → gap sep (b ∷ bs) ≡ 0 → HereOf sep p (b ∷ bs)
unfolding parts_in
here_at sep p b bs true e z = absurd (let w : suc (gap sep bs) ≡ 0 = rw e at z in omega arith)
here_at sep p b bs false e z = rw e (ap (λ l. part (b ∷ take (run sep bs) bs) p ∷ l) (parts_run sep (suc p) bs ∙ ap (λ k. parts sep k (drop (run sep bs) bs)) (omega arith)))

-- a part that begins here
pub parts_here : (sep p : ℕ) (s : List ℕ) → 0 < length s → gap sep s ≡ 0 → parts sep p s ≡ part (take (run sep s) s) p ∷ parts sep (p + run sep s) (drop (run sep s) s)
parts_here sep p [] h z = absurd (omega arith)
parts_here sep p (b ∷ bs) h z = here_at sep p b bs (eqb b sep) refl z

gap_gap_at : (sep b : ℕ) (bs : List ℕ) (t : Bool) → eqb b sep ≡ t → gap sep (drop (gap sep bs) bs) ≡ 0 → gap sep (drop (gap sep (b ∷ bs)) (b ∷ bs)) ≡ 0
gap_gap_at sep b bs true e ih = rw e ih
gap_gap_at sep b bs false e ih = rw e (rw e refl)

pub gap_gap : (sep : ℕ) (s : List ℕ) → gap sep (drop (gap sep s) s) ≡ 0
gap_gap sep [] = refl
gap_gap sep (b ∷ bs) = gap_gap_at sep b bs (eqb b sep) refl (gap_gap sep bs)

run_pos_at : (sep b : ℕ) (bs : List ℕ) (t : Bool) → eqb b sep ≡ t → gap sep (b ∷ bs) ≡ 0 → 0 < run sep (b ∷ bs)
run_pos_at sep b bs true e z = absurd (let w : suc (gap sep bs) ≡ 0 = rw e at z in omega arith)
run_pos_at sep b bs false e z = rw e (omega arith)

pub run_pos : (sep : ℕ) (s : List ℕ) → 0 < length s → gap sep s ≡ 0 → 0 < run sep s
run_pos sep [] h z = absurd (omega arith)
run_pos sep (b ∷ bs) h z = run_pos_at sep b bs (eqb b sep) refl z

-- nothing but separators
pub parts_none : (sep p : ℕ) (s : List ℕ) → length s ≤ gap sep s → parts sep p s ≡ []
unfolding parts_in
parts_none sep p s h = parts_gap sep p s ∙ ap (parts sep (p + gap sep s)) (drop_all (gap sep s) s h)

-- the next part, past g separators and of n bytes
pub parts_next : (sep p : ℕ) (s : List ℕ) (g n : ℕ) → g ≡ gap sep s → n ≡ run sep (drop g s) → g < length s → (0 < n) × (parts sep p s ≡ part (take n (drop g s)) (p + g) ∷ parts sep (p + (g + n)) (drop (g + n) s))
parts_next sep p s g n eg en h =
    let z : gap sep (drop g s) ≡ 0 = rw eg (gap_gap sep s) in
    let some : 0 < length (drop g s) = rw length-drop (omega arith) in
    let here = parts_here sep (p + g) (drop g s) some z in
    let past : parts sep p s ≡ parts sep (p + g) (drop g s) = rw eg (parts_gap sep p s) in
    let joined : parts sep (p + g) (drop g s) ≡ part (take n (drop g s)) (p + g) ∷ parts sep (p + (g + n)) (drop (g + n) s) =
    subst (λ k. parts sep (p + g) (drop g s) ≡ part (take k (drop g s)) (p + g) ∷ parts sep (p + (g + k)) (drop (g + k) s)) (sym en)
    (here ∙ ap (λ l. part (take (run sep (drop g s)) (drop g s)) (p + g) ∷ l) (ap (λ l. parts sep (p + g + run sep (drop g s)) l) (drop-drop _ g s) ∙ ap (λ k. parts sep k (drop (g + run sep (drop g s)) s)) (omega arith))) in
    (rw en (run_pos sep (drop g s) some z), past ∙ joined)

-- no part, where the separators at the front are all
pub no_part : (sep : ℕ) (s : List ℕ) (g : ℕ) → g ≡ length (take_while (λ c. c == sep) s) → length s ≤ g → (p : ℕ) → parts sep p s ≡ []
no_part sep s g e h p = parts_none sep p s (omega (arith, gap_is sep s, e))
