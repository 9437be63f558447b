-- Rows pushed onto a draft, of which the first 64 are kept.
use Rattle.std.proofs.Common.{◌≡◌, ℕ, zero, suc, ◌+◌, ◌<◌, ◌≤◌, List, [], ◌∷◌, ◌++◌, length, get_or, take, drop, min, sym, refl, ap, ◌∙◌, subst, append_assoc, append-nil, arith, length-append, take_all}
use lib.Seq.{take-append-le}
use Rattle.std.proofs.lemmas.List.{drop_more, drop-drop, drop_all}
use Rattle.ltl.specs.declared.row.Row.{Row}
use Rattle.ltl.specs.declared.row.Row.TheVariants.{Signal}
use Rattle.sheet_reader.specs.Drafts.{kept, Agree}
use Rattle.sheet_reader.specs.declared.reading.Draft.{Draft}

-- what `push` leaves, whatever a row is that is not kept
pub pushed_in : (k : List Row) (n : ℕ) (r x : Row) → length k ≡ min n 64 → length k < 64 → (n < 64 → r ≡ x) → k ++ r ∷ [] ≡ take 64 (k ++ x ∷ [])
pushed_in k n r x l h same =
    let long : length (k ++ r ∷ []) ≤ 64 = simp length-append (omega arith) in
    sym (take_all 64 (k ++ r ∷ []) long) ∙ ap (λ y. take 64 (k ++ y ∷ [])) (same (omega arith))

pub pushed_out : (k : List Row) (x : Row) → length k ≡ 64 → k ≡ take 64 (k ++ x ∷ [])
pushed_out k x l = sym (take-append-le 64 k (x ∷ []) (omega arith) ∙ take_all 64 k (omega arith))

pub kept_few : (d : Draft) → length (kept d) ≤ 64
kept_few d = rw d.kept (omega arith)

-- what is kept of what is kept
take_again : (k : ℕ) (xs ys : List Row) → take k (take k xs ++ ys) ≡ take k (xs ++ ys)
take_again zero xs ys = refl
take_again (suc k) [] ys = refl
take_again (suc k) (x ∷ xs) ys = ap (λ l. x ∷ l) (take_again k xs ys)

-- one row more of those that agree
record Next (n : ℕ) (r : Row) (rs xs : List Row) : Type 0 where
  row : Row
  behind : List Row
  is : xs ≡ row ∷ behind
  same : n < 64 → r ≡ row
  agree : Agree (n + 1) rs behind

next : (n : ℕ) (r : Row) (rs xs : List Row) → Agree n (r ∷ rs) xs → Next n r rs xs
next n r rs [] a = absurd a
next n r rs (x ∷ xs) a = record { row = x; behind = xs; is = refl; same = a.0; agree = a.1 }

-- what is true of rows pushed so far: those that agree with what is left make what all make
abbrev pub Left : List Row → ℕ → List Row → List Row → List Row → Type 0
Left k n rs xs all = Agree n rs xs × (take 64 (k ++ xs) ≡ all)

pub left_more : (k k' : List Row) (n n' : ℕ) (rows xs : List Row) (i : ℕ) (all : List Row) → i < length rows → n' ≡ n + 1 → ((x : Row) → (n < 64 → get_or rows i (Signal 0) ≡ x) → k' ≡ take 64 (k ++ x ∷ [])) → Left k n (drop i rows) (drop i xs) all → Left k' n' (drop (i + 1) rows) (drop (i + 1) xs) all
left_more k k' n n' rows xs i all h c pushed l =
    let cut = drop_more rows i (Signal 0) h in
    let q = next n (get_or rows i (Signal 0)) (drop (i + 1) rows) (drop i xs) (subst (λ r. Agree n r (drop i xs)) cut l.0) in
    let rest : drop (i + 1) xs ≡ q.behind = sym (drop-drop 1 i xs) ∙ ap (drop 1) q.is in
    let kept = pushed q.row q.same in (
      rw (c, rest) q.agree,
      rw (rest, kept) (take_again 64 (k ++ q.row ∷ []) q.behind ∙ ap (take 64) (append_assoc k (q.row ∷ []) q.behind) ∙ ap (λ z. take 64 (k ++ z)) (sym q.is) ∙ l.1),
    )

none_agree : (n : ℕ) (xs : List Row) → Agree n [] xs → xs ≡ []
none_agree n [] a = refl
none_agree n (x ∷ xs) a = absurd a

pub left_none : (k : List Row) (n : ℕ) (rows xs : List Row) (i : ℕ) (all : List Row) → length k ≤ 64 → length rows ≤ i → Left k n (drop i rows) (drop i xs) all → k ≡ all
left_none k n rows xs i all few h l =
    let none = none_agree n (drop i xs) (subst (λ r. Agree n r (drop i xs)) (drop_all i rows h) l.0) in
    sym (ap (λ z. take 64 (k ++ z)) none ∙ ap (take 64) (append-nil k) ∙ take_all 64 k few) ∙ l.1

-- rows pushed behind rows pushed
pub and_more : (k₀ xs ys : List Row) {k₁ k₂ : List Row} → k₁ ≡ take 64 (k₀ ++ xs) → k₂ ≡ take 64 (k₁ ++ ys) → k₂ ≡ take 64 (k₀ ++ (xs ++ ys))
and_more k₀ xs ys p q = q ∙ ap (λ k. take 64 (k ++ ys)) p ∙ take_again 64 (k₀ ++ xs) ys ∙ ap (take 64) (append_assoc k₀ xs ys)
