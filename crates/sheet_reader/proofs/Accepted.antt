-- The sheets of the language are accepted, and no others.
use Rattle.std.proofs.Common.{◌≡◌, ℕ, zero, suc, ◌<◌, Bool, true, false, cond, leb, List, [], ◌∷◌, length, get_or, Some, None, Ok, Err, Option, Result, sym, refl, ap, ◌∙◌, arith}
use Rattle.std.proofs.lemmas.Bool.{leb-true, le-leb}
use Rattle.sheet_reader.specs.Promises.{Accepted}
use Rattle.sheet_reader.specs.Sheets.{State, start, Reading, reading, and_then, unless, allowed, foreign_byte, lines, by_lines, finished, ask_length, read_sheet}
use Rattle.sheet_faults.specs.declared.fault.SheetFault.{SheetFault}
use Rattle.sheet_faults.specs.declared.fault.SheetFault.TheVariants as sheet
use Rattle.sheet_reader.proofs.Lines.{makes_from, from_makes}
use Rattle.sheet_reader.proofs.Questions.{ok_same, then_ok, unless_ok}

-- question 1
length_told : (b : Bool) → ◌≡◌ {A = Result (Unit {0}) SheetFault} (cond b (Ok tt) (Err sheet.TooLong)) (Ok tt) → b ≡ true
length_told true e = refl
length_told false e = cc

-- question 2
plain_at : (b : Bool) (o : Option SheetFault) (f : SheetFault) → cond b o (Some f) ≡ None → (b ≡ true) × (o ≡ None)
plain_at true o f e = (refl, e)
plain_at false o f e = cc

plain_from : (p : ℕ) (bs : List ℕ) → foreign_byte p bs ≡ None → (k : ℕ) → k < length bs → allowed (get_or bs k 0) ≡ true
plain_from p [] e k h = absurd (omega arith)
plain_from p (b ∷ bs) e zero h = (plain_at (allowed b) (foreign_byte (suc p) bs) _ e).0
plain_from p (b ∷ bs) e (suc k) h = plain_from (suc p) bs (plain_at (allowed b) (foreign_byte (suc p) bs) _ e).1 k (omega arith)

from_plain : (p : ℕ) (bs : List ℕ) → ((k : ℕ) → k < length bs → allowed (get_or bs k 0) ≡ true) → foreign_byte p bs ≡ None
from_plain p [] h = refl
from_plain p (b ∷ bs) h = rw (h 0 (omega arith)) (from_plain (suc p) bs (λ k l. h (suc k) (omega arith)))

-- question 7
finished_yes : (end : ℕ) (st : State) (o : Option ℕ) (r : Reading) → finished end st o ≡ Ok r → (o ≡ Some r.table.watch) × (r ≡ reading st r.table.watch)
finished_yes end st None r e = cc
finished_yes end st (Some w) r e =
    let is : reading st w ≡ r = ok_same e in
    let same : w ≡ r.table.watch = ap (λ (x : Reading). x.table.watch) is in
    (ap Some same, sym is ∙ ap (reading st) same)

pub accepted_from : (s : List ℕ) (r : Reading) → read_sheet s ≡ Ok r → Accepted s r
accepted_from s r e =
    let a = then_ok (ask_length s) (λ _. and_then (unless (foreign_byte 0 s)) (λ _. and_then (by_lines s start (lines s)) (λ st. finished (length s) st st.watch))) r e in
    let b = then_ok (unless (foreign_byte 0 s)) (λ _. and_then (by_lines s start (lines s)) (λ st. finished (length s) st st.watch)) r a.2 in
    let c = then_ok (by_lines s start (lines s)) (λ st. finished (length s) st st.watch) r b.2 in
    let f = finished_yes (length s) c.0 c.0.watch r c.2 in
    record {
      short = leb-true (length s) 4096 (length_told (leb (length s) 4096) a.1);
      plain = plain_from 0 s (unless_ok (foreign_byte 0 s) b.1);
      state = c.0;
      made = makes_from s start (lines s) c.0 c.1;
      watched = f.0;
      is = f.1;
    }

pub from_accepted : (s : List ℕ) (r : Reading) → Accepted s r → read_sheet s ≡ Ok r
from_accepted s r a =
    let short = le-leb (length s) 4096 a.short in
    let st = a.state in
    ap (λ b. and_then (cond b (Ok tt) (Err sheet.TooLong)) (λ _. and_then (unless (foreign_byte 0 s)) (λ _. and_then (by_lines s start (lines s)) (λ st. finished (length s) st st.watch)))) short
    ∙ ap (λ o. and_then (unless o) (λ _. and_then (by_lines s start (lines s)) (λ st. finished (length s) st st.watch))) (from_plain 0 s a.plain)
    ∙ ap (λ x. and_then x (λ st. finished (length s) st st.watch)) (from_makes s start (lines s) st a.made)
    ∙ ap (finished (length s) st) a.watched
    ∙ ap Ok (sym a.is)
