-- Cutting the steps, seen on the pair over all of them.
use Rattle.std.proofs.Common.{◌≡◌, ℕ, zero, suc, ◌+◌, ◌<◌, ◌≤◌, min, max, Bool, true, false, cond, leb, List, length, take, sym, refl, ap, ◌∙◌, ⊎_elim, arith}
use Rattle.std.proofs.lemmas.Bool.{le-leb, lt-leb, cases_lt, cases_order, true≢false}
use Rattle.std.proofs.lemmas.List.{length-take-le, get_or-take}
use Rattle.ltl.specs.Steps.{has, step_at}
use Rattle.scales.specs.Scales.{meet}
use Rattle.scales.specs.Truths.{truth_ops, mirror, upper}
use Rattle.scales.specs.Pairs.{pair, pair_ops, least, most, one_more, Shape, true_after, false_after, both_numbers, never_false, never_true, neither}
use Rattle.ltl.specs.Trees.{Tree, signal, not, or, next, until, eventually}
use Rattle.ltl.specs.Values.{value}
use Rattle.ltl.specs.Cuts.{Counted, FirstCut}
use Rattle.scales.specs.declared.truth.Truth.{Truth}
use Rattle.scales.specs.declared.truth.Truth.TheVariants.{False, Undecided, True}
use Rattle.scales.specs.declared.pair.Count.{Count}
use Rattle.scales.specs.declared.pair.Count.TheVariants.{Number, Infinite, Impossible}
use Rattle.scales.specs.declared.pair.Pair.{Pair}
use Rattle.ltl.proofs.Back.{back, eventually_in, eventually_past, until_in, until_past, signal_in, signal_past}

-- a count of the undecided: beyond the last of n steps, seen from i
pub data Far (n i : ℕ) : Count → Type 0 where
  num : (a : ℕ) → n < i + a → Far n i (Number a)
  inf : Far n i Infinite

-- the pairs at i over n steps
pub data Fit (n i : ℕ) : Pair → Type 0 where
  sat : (a : ℕ) → i + a ≤ n → Fit n i (pair (Number a) Impossible)
  vio : (a : ℕ) → i + a ≤ n → Fit n i (pair Impossible (Number a))
  und : (x y : Count) → Far n i x → Far n i y → Fit n i (pair x y)

-- the three-valued value at i after the cut at m
abbrev pub cut : ℕ → ℕ → Count → Count → Truth
cut m i (Number a) (Number b) = Undecided
cut m i (Number a) Infinite = Undecided
cut m i (Number a) Impossible = cond (leb (i + a) m) True Undecided
cut m i Infinite (Number b) = Undecided
cut m i Infinite Infinite = Undecided
cut m i Infinite Impossible = Undecided
cut m i Impossible (Number b) = cond (leb (i + b) m) False Undecided
cut m i Impossible Infinite = Undecided
cut m i Impossible Impossible = Undecided

abbrev pub cut_pair : ℕ → ℕ → Pair → Truth
cut_pair m i p = cut m i p.s p.f

cut_late : (m i : ℕ) → m < i → (x y : Count) → cut m i x y ≡ Undecided
cut_late m i h (Number a) (Number b) = refl
cut_late m i h (Number a) Infinite = refl
cut_late m i h (Number a) Impossible = let e = lt-leb (i + a) m (omega arith) in rw e
cut_late m i h Infinite (Number b) = refl
cut_late m i h Infinite Infinite = refl
cut_late m i h Infinite Impossible = refl
cut_late m i h Impossible (Number b) = let e = lt-leb (i + b) m (omega arith) in rw e
cut_late m i h Impossible Infinite = refl
cut_late m i h Impossible Impossible = refl

cut_turn : (m i : ℕ) (x y : Count) → cut m i y x ≡ mirror (cut m i x y)
cut_turn m i (Number a) (Number b) = refl
cut_turn m i (Number a) Infinite = refl
cut_turn m i (Number a) Impossible = go (leb (i + a) m)
  where
    go : (t : Bool) → cond t False Undecided ≡ mirror (cond t True Undecided)
    go true = refl
    go false = refl
cut_turn m i Infinite (Number b) = refl
cut_turn m i Infinite Infinite = refl
cut_turn m i Infinite Impossible = refl
cut_turn m i Impossible (Number b) = go (leb (i + b) m)
  where
    go : (t : Bool) → cond t True Undecided ≡ mirror (cond t False Undecided)
    go true = refl
    go false = refl
cut_turn m i Impossible Infinite = refl
cut_turn m i Impossible Impossible = refl

pub cut_far : (n m i : ℕ) (x y : Count) → Far n i x → Far n i y → cut m i x y ≡ Undecided
cut_far n m i _ _ (num a h) (num b k) = refl
cut_far n m i _ _ (num a h) inf = refl
cut_far n m i _ _ inf (num b k) = refl
cut_far n m i _ _ inf inf = refl

-- two tests
min_test : (m i a b : ℕ) → cond (leb (i + min a b) m) True Undecided ≡ upper (cond (leb (i + a) m) True Undecided) (cond (leb (i + b) m) True Undecided)
min_test m i a b =
    ⊎_elim
    (λ h. ⊎_elim
    (λ k. let x = lt-leb (i + a) m h in let y = lt-leb (i + b) m k in let z = lt-leb (i + min a b) m (omega arith) in rw (x, y, z))
    (λ k. let x = lt-leb (i + a) m h in let y = le-leb (i + b) m k in let z = le-leb (i + min a b) m (omega arith) in rw (x, y, z))
    (cases_lt m (i + b)))
    (λ h. let x = le-leb (i + a) m h in let z = le-leb (i + min a b) m (omega arith) in rw (x, z))
    (cases_lt m (i + a))

max_test : (m i a b : ℕ) → cond (leb (i + max a b) m) False Undecided ≡ upper (cond (leb (i + a) m) False Undecided) (cond (leb (i + b) m) False Undecided)
max_test m i a b =
    ⊎_elim
    (λ h. let x = lt-leb (i + a) m h in let z = lt-leb (i + max a b) m (omega arith) in rw (x, z) (low (leb (i + b) m)))
    (λ h. ⊎_elim
    (λ k. let x = le-leb (i + a) m h in let y = lt-leb (i + b) m k in let z = lt-leb (i + max a b) m (omega arith) in rw (x, y, z))
    (λ k. let x = le-leb (i + a) m h in let y = le-leb (i + b) m k in let z = le-leb (i + max a b) m (omega arith) in rw (x, y, z))
    (cases_lt m (i + b)))
    (cases_lt m (i + a))
  where
    low : (t : Bool) → Undecided ≡ upper Undecided (cond t False Undecided)
    low true = refl
    low false = refl

up_true_false : (s t : Bool) → cond s True Undecided ≡ upper (cond s True Undecided) (cond t False Undecided)
up_true_false true true = refl
up_true_false true false = refl
up_true_false false true = refl
up_true_false false false = refl

up_false_true : (s t : Bool) → cond t True Undecided ≡ upper (cond s False Undecided) (cond t True Undecided)
up_false_true true true = refl
up_false_true true false = refl
up_false_true false true = refl
up_false_true false false = refl

up_true_und : (s : Bool) → cond s True Undecided ≡ upper (cond s True Undecided) Undecided
up_true_und true = refl
up_true_und false = refl

up_und_true : (s : Bool) → cond s True Undecided ≡ upper Undecided (cond s True Undecided)
up_und_true true = refl
up_und_true false = refl

up_false_und : (s : Bool) → Undecided ≡ upper (cond s False Undecided) Undecided
up_false_und true = refl
up_false_und false = refl

up_und_false : (s : Bool) → Undecided ≡ upper Undecided (cond s False Undecided)
up_und_false true = refl
up_und_false false = refl

-- smaller and larger counts, far and near
module _ (n i : ℕ) where
  far_least : (x y : Count) → Far n i x → Far n i y → Far n i (least x y)
  far_least _ _ (num a h) (num b k) = num (min a b) (omega arith)
  far_least _ _ (num a h) inf = num a h
  far_least _ _ inf (num b k) = num b k
  far_least _ _ inf inf = inf

  far_most : (x y : Count) → Far n i x → Far n i y → Far n i (most x y)
  far_most _ _ (num a h) (num b k) = num (max a b) (omega arith)
  far_most _ _ (num a h) inf = inf
  far_most _ _ inf (num b k) = inf
  far_most _ _ inf inf = inf

  near_least : (a : ℕ) (x : Count) → i + a ≤ n → Far n i x → least (Number a) x ≡ Number a
  near_least a _ h (num b k) = let e : min a b ≡ a = omega arith in ap Number e
  near_least a _ h inf = refl

  least_near : (a : ℕ) (x : Count) → i + a ≤ n → Far n i x → least x (Number a) ≡ Number a
  least_near a _ h (num b k) = let e : min b a ≡ a = omega arith in ap Number e
  least_near a _ h inf = refl

  near_most : (a : ℕ) (x : Count) → i + a ≤ n → Far n i x → most (Number a) x ≡ x
  near_most a _ h (num b k) = let e : max a b ≡ b = omega arith in ap Number e
  near_most a _ h inf = refl

  most_near : (a : ℕ) (x : Count) → i + a ≤ n → Far n i x → most x (Number a) ≡ x
  most_near a _ h (num b k) = let e : max b a ≡ b = omega arith in ap Number e
  most_near a _ h inf = refl

  never_most : (x : Count) → Far n i x → most Impossible x ≡ Impossible
  never_most _ (num b k) = refl
  never_most _ inf = refl

  most_never : (x : Count) → Far n i x → most x Impossible ≡ Impossible
  most_never _ (num b k) = refl
  most_never _ inf = refl

  never_least : (x : Count) → Far n i x → least Impossible x ≡ x
  never_least _ (num b k) = refl
  never_least _ inf = refl

  least_never : (x : Count) → Far n i x → least x Impossible ≡ x
  least_never _ (num b k) = refl
  least_never _ inf = refl

  least_open : (x : Count) → Far n i x → least x Infinite ≡ x
  least_open _ (num b k) = refl
  least_open _ inf = refl

  most_open : (x : Count) → Far n i x → most x Infinite ≡ Infinite
  most_open _ (num b k) = refl
  most_open _ inf = refl

  fit_turn : (p : Pair) → Fit n i p → Fit n i (pair p.f p.s)
  fit_turn _ (sat a h) = vio a h
  fit_turn _ (vio a h) = sat a h
  fit_turn _ (und x y h k) = und y x k h

  -- what join keeps, and what it does to cuts
  record Joined (p q : Pair) : Type 0 where
    fits : Fit n i (pair_ops.join p q)
    cuts : (m : ℕ) → m ≤ n → cut_pair m i (pair_ops.join p q) ≡ upper (cut_pair m i p) (cut_pair m i q)

  joined : (p q : Pair) → Fit n i p → Fit n i q → Joined p q
  joined _ _ (sat a h) (sat b k) = record { fits = sat (min a b) (omega arith); cuts = λ m l. min_test m i a b }
  joined _ _ (sat a h) (vio b k) = record { fits = sat a h; cuts = λ m l. up_true_false (leb (i + a) m) (leb (i + b) m) }
  joined _ _ (sat a h) (und x y k l) =
      let e = near_least a x h k in let g = never_most y l in
      record { fits = rw (e, g) (sat a h); cuts = λ m l'. rw (e, g, cut_far n m i x y k l) (up_true_und (leb (i + a) m)) }
  joined _ _ (vio a h) (sat b k) = record { fits = sat b k; cuts = λ m l. up_false_true (leb (i + a) m) (leb (i + b) m) }
  joined _ _ (vio a h) (vio b k) = record { fits = vio (max a b) (omega arith); cuts = λ m l. max_test m i a b }
  joined _ _ (vio a h) (und x y k l) =
      let e = never_least x k in let g = near_most a y h l in
      record { fits = rw (e, g) (und x y k l); cuts = λ m l'. rw (e, g, cut_far n m i x y k l) (up_false_und (leb (i + a) m)) }
  joined _ _ (und x y k l) (sat a h) =
      let e = least_near a x h k in let g = most_never y l in
      record { fits = rw (e, g) (sat a h); cuts = λ m l'. rw (e, g, cut_far n m i x y k l) (up_und_true (leb (i + a) m)) }
  joined _ _ (und x y k l) (vio a h) =
      let e = least_never x k in let g = most_near a y h l in
      record { fits = rw (e, g) (und x y k l); cuts = λ m l'. rw (e, g, cut_far n m i x y k l) (up_und_false (leb (i + a) m)) }
  joined _ _ (und x y k l) (und z w k' l') =
      record {
        fits = und (least x z) (most y w) (far_least x z k k') (far_most y w l l');
        cuts = λ m _. rw (cut_far n m i (least x z) (most y w) (far_least x z k k') (far_most y w l l'), cut_far n m i x y k l, cut_far n m i z w k' l');
      }

  joins : (p q : Pair) → Fit n i p → Fit n i q → Fit n i (pair_ops.join p q)
  joins p q h k = (joined p q h k).fits

  meets : (p q : Pair) → Fit n i p → Fit n i q → Fit n i (meet pair_ops p q)
  meets p q h k = fit_turn _ (joins _ _ (fit_turn p h) (fit_turn q k))

  meet_cuts : (p q : Pair) → Fit n i p → Fit n i q → (m : ℕ) → m ≤ n → cut_pair m i (meet pair_ops p q) ≡ meet truth_ops (cut_pair m i p) (cut_pair m i q)
  meet_cuts p q h k m l =
      cut_turn m i (least p.f q.f) (most p.s q.s)
      ∙ ap mirror ((joined _ _ (fit_turn p h) (fit_turn q k)).cuts m l
      ∙ rw (cut_turn m i p.s p.f, cut_turn m i q.s q.f))

  -- after the end
  open_join : n < i → (p : Pair) → Fit n i p → Fit n i (pair_ops.join p pair_ops.«open»)
  open_join e _ (sat a h) = absurd (omega arith)
  open_join e _ (vio a h) = absurd (omega arith)
  open_join e _ (und x y h k) = rw (least_never x h, most_open y k) (und x Infinite h inf)

  open_until : n < i → (p q : Pair) → Fit n i p → Fit n i q → Fit n i (pair_ops.join q (meet pair_ops p pair_ops.«open»))
  open_until e _ q (sat a h) _ = absurd (omega arith)
  open_until e _ q (vio a h) _ = absurd (omega arith)
  open_until e _ _ (und x y h k) (sat a h') = absurd (omega arith)
  open_until e _ _ (und x y h k) (vio a h') = absurd (omega arith)
  open_until e _ _ (und x y h k) (und z w h' k') = rw (most_never x h, least_open y k, least_never z h') (und z (most w y) h' (far_most w y k' k))

-- one position on
far_later : (n i : ℕ) → n ≤ 4096 → (x : Count) → Far n (suc i) x → Far n i (one_more x)
far_later n i l _ (num a h) = num (min (a + 1) 65535) (omega arith)
far_later n i l _ inf = inf

fit_later : (n i : ℕ) → n ≤ 4096 → (p : Pair) → Fit n (suc i) p → Fit n i (pair_ops.later p)
fit_later n i l _ (sat a h) = sat (min (a + 1) 65535) (omega arith)
fit_later n i l _ (vio a h) = vio (min (a + 1) 65535) (omega arith)
fit_later n i l _ (und x y h k) = und (one_more x) (one_more y) (far_later n i l x h) (far_later n i l y k)

cut_later : (n i : ℕ) → n ≤ 4096 → (p : Pair) → Fit n (suc i) p → (m : ℕ) → cut_pair m i (pair_ops.later p) ≡ cut_pair m (suc i) p
cut_later n i l _ (sat a h) m = let e : i + min (a + 1) 65535 ≡ suc i + a = omega arith in ap (λ x. cond (leb x m) True Undecided) e
cut_later n i l _ (vio a h) m = let e : i + min (a + 1) 65535 ≡ suc i + a = omega arith in ap (λ x. cond (leb x m) False Undecided) e
cut_later n i l _ (und x y h k) m =
    cut_far n m i (one_more x) (one_more y) (far_later n i l x h) (far_later n i l y k) ∙ sym (cut_far n m (suc i) x y h k)

module _ (steps : List ℕ) (few : length steps ≤ 4096) where
  fit_sig : (b : Bool) (i : ℕ) → i ≤ length steps → Fit (length steps) i (cond b pair_ops.yes pair_ops.no)
  fit_sig true i h = sat 0 (omega arith)
  fit_sig false i h = vio 0 (omega arith)

  -- a decided pair's number ends within the steps, an undecided pair's counts lie beyond them
  pub fit : (t : Tree) (i : ℕ) → Fit (length steps) i (value pair_ops steps t i)
  unfolding value
  fit (signal k) i =
      ⊎_elim
      (λ h. rw (signal_past pair_ops steps k i h) (und (Number 0) (Number 0) (num 0 (omega arith)) (num 0 (omega arith))))
      (λ h. rw (signal_in pair_ops steps k i h) (fit_sig (has (step_at steps i) k) i h))
      (cases_lt (length steps) i)
  fit (not a) i = fit_turn (length steps) i _ (fit a i)
  fit (or a b) i = joins (length steps) i _ _ (fit a i) (fit b i)
  fit (next a) i = fit_later (length steps) i few _ (fit a (suc i))
  fit (until a b) i =
      let n = length steps in
      back n (λ i. Fit n i (value pair_ops steps (until a b) i))
      (λ i h. rw (until_past pair_ops steps a b i h) (open_until n i h _ _ (fit a i) (fit b i)))
      (λ i h r. rw (until_in pair_ops steps a b i h) (joins n i _ _ (fit b i) (meets n i _ _ (fit a i) (fit_later n i few _ r))))
      i
  fit (eventually a) i =
      let n = length steps in
      back n (λ i. Fit n i (value pair_ops steps (eventually a) i))
      (λ i h. rw (eventually_past pair_ops steps a i h) (open_join n i h _ (fit a i)))
      (λ i h r. rw (eventually_in pair_ops steps a i h) (joins n i _ _ (fit a i) (fit_later n i few _ r)))
      i

-- after the last step nothing is decided
pub late : (steps : List ℕ) (t : Tree) (i : ℕ) → length steps < i → value truth_ops steps t i ≡ Undecided
unfolding value
late steps (signal k) i h = signal_past truth_ops steps k i h
late steps (not a) i h = ap mirror (late steps a i h)
late steps (or a b) i h = rw (late steps a i h, late steps b i h)
late steps (next a) i h = late steps a (suc i) (omega arith)
late steps (until a b) i h = until_past truth_ops steps a b i h ∙ rw (late steps a i h, late steps b i h)
late steps (eventually a) i h = eventually_past truth_ops steps a i h ∙ rw (late steps a i h)

step_at_take : (m : ℕ) (steps : List ℕ) (i : ℕ) → i ≤ m → step_at (take m steps) i ≡ step_at steps i
step_at_take m steps zero h = refl
step_at_take m steps (suc i) h = get_or-take m steps i 0 (omega arith)

module _ (steps : List ℕ) (few : length steps ≤ 4096) (m : ℕ) (within : m ≤ length steps) where
  abbrev before : List ℕ
  before = take m steps

  abbrev Same : Tree → ℕ → Type 0
  Same t i = value truth_ops before t i ≡ cut_pair m i (value pair_ops steps t i)

  size : length before ≡ m
  size = length-take-le m steps within

  after : (t : Tree) (i : ℕ) → m < i → Same t i
  after t i h = let e = size in late before t i (omega arith) ∙ sym (cut_late m i h (value pair_ops steps t i).s (value pair_ops steps t i).f)

  cut_sig : (b : Bool) (i : ℕ) → i ≤ m → cond b True False ≡ cut_pair m i (cond b pair_ops.yes pair_ops.no)
  cut_sig true i h = let e = le-leb (i + 0) m (omega arith) in rw e
  cut_sig false i h = let e = le-leb (i + 0) m (omega arith) in rw e

  -- the value after a cut is a function of the pair
  pub after_cut : (t : Tree) (i : ℕ) → Same t i
  unfolding value
  after_cut (signal k) i =
      let e = size in
      ⊎_elim
      (λ h. after (signal k) i h)
      (λ h. signal_in truth_ops before k i (omega arith) ∙ rw (step_at_take m steps i h, signal_in pair_ops steps k i (omega arith)) (cut_sig (has (step_at steps i) k) i h))
      (cases_lt m i)
  after_cut (not a) i = ap mirror (after_cut a i) ∙ sym (cut_turn m i (value pair_ops steps a i).s (value pair_ops steps a i).f)
  after_cut (or a b) i = rw (after_cut a i, after_cut b i) (sym ((joined (length steps) i _ _ (fit steps few a i) (fit steps few b i)).cuts m within))
  after_cut (next a) i = after_cut a (suc i) ∙ sym (cut_later (length steps) i few _ (fit steps few a (suc i)) m)
  after_cut (until a b) i =
      let n = length steps in
      let e = size in
      back m (Same (until a b))
      (λ i h. after (until a b) i h)
      (λ i h r.
      let p = fit steps few a i in
      let q = fit steps few b i in
      let x = fit steps few (until a b) (suc i) in
      let y = fit_later n i few _ x in
      until_in truth_ops before a b i (omega arith)
      ∙ rw (after_cut a i, after_cut b i, r, until_in pair_ops steps a b i (omega arith))
      (rw (← cut_later n i few _ x m, ← meet_cuts n i _ _ p y m within) (sym ((joined n i _ _ q (meets n i _ _ p y)).cuts m within))))
      i
  after_cut (eventually a) i =
      let n = length steps in
      let e = size in
      back m (Same (eventually a))
      (λ i h. after (eventually a) i h)
      (λ i h r.
      let x = fit steps few (eventually a) (suc i) in
      eventually_in truth_ops before a i (omega arith)
      ∙ rw (after_cut a i, r, eventually_in pair_ops steps a i (omega arith))
      (rw (← cut_later n i few _ x m) (sym ((joined n i _ _ (fit steps few a i) (fit_later n i few _ x)).cuts m within))))
      i

shape : (n i : ℕ) (p : Pair) → Fit n i p → Shape p
shape n i _ (sat a h) = true_after a
shape n i _ (vio a h) = false_after a
shape n i _ (und _ _ (num a h) (num b k)) = both_numbers a b
shape n i _ (und _ _ (num a h) inf) = never_false a
shape n i _ (und _ _ inf (num b k)) = never_true b
shape n i _ (und _ _ inf inf) = neither

pub shapes : (steps : List ℕ) → length steps ≤ 4096 → (t : Tree) (i : ℕ) → Shape (value pair_ops steps t i)
shapes steps few t i = shape (length steps) i _ (fit steps few t i)

far_never : (n i : ℕ) (y : Count) → Far n i y → y ≡ Impossible → ⊥
far_never n i _ (num b k) e = true≢false (cc)
far_never n i _ inf e = true≢false (cc)

pub near : (n i a : ℕ) (p : Pair) → Fit n i p → p ≡ pair (Number a) Impossible → i + a ≤ n
near n i a _ (sat b h) e = let g : Number b ≡ Number a = ap (λ q. q.s) e in let z : b ≡ a = cc in omega arith
near n i a _ (vio b h) e = let g : Impossible ≡ Number a = ap (λ q. q.s) e in absurd (true≢false (cc))
near n i a _ (und x y h k) e = absurd (far_never n i y k (ap (λ q. q.f) e))

pub not_und : Undecided ≡ True → ⊥
not_und e = true≢false (cc)

pub never_low : (b : Bool) → cond b False Undecided ≡ True → ⊥
never_low true e = true≢false (cc)
never_low false e = true≢false (cc)

only : (n i a : ℕ) (p : Pair) → Fit n i p → i + a ≤ n → cut_pair (i + a) i p ≡ True → ((k : ℕ) → k < i + a → cut_pair k i p ≡ True → ⊥) → p ≡ pair (Number a) Impossible
only n i a _ (sat b h) l e f =
    ⊎_elim
    (λ z. ap (λ x. pair (Number x) Impossible) (sym z))
    (⊎_elim
    (λ z. absurd (not_und (rw (lt-leb (i + b) (i + a) (omega arith)) at e)))
    (λ z. absurd (f (i + b) (omega arith) (rw (le-leb (i + b) (i + b) (omega arith))))))
    (cases_order a b)
only n i a _ (vio b h) l e f = absurd (never_low (leb (i + b) (i + a)) e)
only n i a _ (und x y h k) l e f = absurd (not_und (sym (cut_far n (i + a) i x y h k) ∙ e))

module _ (steps : List ℕ) (few : length steps ≤ 4096) (t : Tree) (i a : ℕ) where
  first : value pair_ops steps t i ≡ pair (Number a) Impossible → FirstCut steps t i True (i + a)
  first e =
      let l = near (length steps) i a _ (fit steps few t i) e in
      record {
        inside = l;
        decides = after_cut steps few (i + a) l t i ∙ rw (e, le-leb (i + a) (i + a) (omega arith));
        shortest = λ k h d.
            let g : k ≤ length steps = omega arith in
            not_und (sym (after_cut steps few k g t i ∙ rw (e, lt-leb (i + a) k h)) ∙ d);
      }

  counts : FirstCut steps t i True (i + a) → value pair_ops steps t i ≡ pair (Number a) Impossible
  counts c =
      only (length steps) i a _ (fit steps few t i) c.inside
      (sym (after_cut steps few (i + a) c.inside t i) ∙ c.decides)
      (λ k h d. let l : k ≤ length steps = omega (arith, c.inside) in c.shortest k h (after_cut steps few k l t i ∙ d))

pub mirrored : (v : Truth) → mirror v ≡ True → v ≡ False
mirrored False e = refl
mirrored Undecided e = absurd (not_und e)
mirrored True e = absurd (true≢false (cc))

-- false of a formula is true of its negation
module _ (steps : List ℕ) (t : Tree) (i m : ℕ) where
  turned_cut : FirstCut steps (not t) i True m → FirstCut steps t i False m
  unfolding value
  turned_cut c = record {
    inside = c.inside;
    decides = mirrored (value truth_ops (take m steps) t i) c.decides;
    shortest = λ k h d. c.shortest k h (ap mirror d);
  }

  cut_turned : FirstCut steps t i False m → FirstCut steps (not t) i True m
  unfolding value
  cut_turned c = record {
    inside = c.inside;
    decides = ap mirror c.decides;
    shortest = λ k h d. c.shortest k h (mirrored (value truth_ops (take k steps) t i) d);
  }

pub cuts : (steps : List ℕ) → length steps ≤ 4096 → (t : Tree) (i : ℕ) → Counted steps t i
unfolding value
cuts steps few t i = record {
  true_at = λ a. (first steps few t i a, counts steps few t i a);
  false_at = λ a. (
    (λ e. turned_cut steps t i (i + a) (first steps few (not t) i a (ap (λ p. pair p.f p.s) e))),
    (λ c. ap (λ p. pair p.f p.s) (counts steps few (not t) i a (cut_turned steps t i (i + a) c))),
  );
}
