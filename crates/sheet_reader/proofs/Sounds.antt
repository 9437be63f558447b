-- What lines make stays a formula's table in the making.
use Rattle.std.proofs.Common.{◌≡◌, ℕ, suc, ◌+◌, ◌<◌, ◌≤◌, Bool, true, false, cond, List, [], ◌∷◌, ◌++◌, length, Some, Ok, Option, sym, ap, ◌∙◌, subst, arith, length-append}
use Rattle.std.specs.Str.{bytes_eq}
use Rattle.std.proofs.lemmas.List.{length_push}
use Rattle.ltl.specs.Tables.{WellFormed, table_from}
use Rattle.ltl.specs.declared.row.Row.{Row}
use Rattle.ltl.specs.declared.row.Row.TheVariants.{Signal}
use Rattle.sheet.specs.Parts.{Part}
use Rattle.sheet.specs.declared.token.Keyword.{Keyword}
use Rattle.sheet.specs.declared.token.Keyword.TheVariants as key
use Rattle.sheet_reader.specs.Drafts.{Known}
use Rattle.sheet_reader.specs.Grammar.{Written, earlier, one, two}
use Rattle.sheet_reader.specs.Laws.{Spell}
use Rattle.sheet_reader.specs.Lines.{Room, Operated, LineBy, Adds, Makes}
use Rattle.sheet_reader.specs.Names.{named, text_of, row_named}
use Rattle.sheet_reader.specs.Rows.{size, top, made}
use Rattle.sheet_reader.specs.Sheets.{State, start, words, symbols_of, with_signal, with_named, with_watch, by_keyword}
use Rattle.sheet_reader.specs.Sound.{Ordered, NamedBelow, Sound}
use Rattle.sheet_reader.specs.declared.reading.Name.{Name}
use Rattle.sheet_reader.proofs.Lines.{by_yes}
use Rattle.sheet_reader.proofs.Prefix.{few1, few2}
use Rattle.sheet_reader.proofs.Ordered.{ordered_append, ordered_wider, ordered_made, all_fit, Below, length_made, top_below, spelt_below}

-- a name that is found names a row below n
found_at : (n x r : ℕ) (o : Option ℕ) → x < n → (o ≡ Some r → r < n) → (b : Bool) → cond b (Some x) o ≡ Some r → r < n
found_at n x r o h ih true e = let z : x ≡ r = cc in omega arith
found_at n x r o h ih false e = ih e

pub known_from : (sheet : List ℕ) (names : List Name) (n : ℕ) → NamedBelow n names → Known sheet names n
known_from sheet [] n b t r e = cc
known_from sheet (x ∷ xs) n b t r e = found_at n x.row r (row_named sheet xs t) b.0 (known_from sheet xs n b.1 t r) (bytes_eq (text_of sheet x) t) e

named_stays : (names : List Name) (n m : ℕ) → n ≤ m → NamedBelow n names → NamedBelow m names
named_stays [] n m h b = tt
named_stays (x ∷ xs) n m h b = (omega (arith, b.0), named_stays xs n m h b.1)

named_more : (names : List Name) (n m : ℕ) (x : Name) → n ≤ m → NamedBelow n names → x.row < m → NamedBelow m (names ++ x ∷ [])
named_more [] n m x h b l = (l, tt)
named_more (y ∷ ys) n m x h b l = (omega (arith, b.0), named_more ys n m x h b.1 l)

sound_signal : (st : State) → Sound st → (w : Part) → Room (with_signal w st) → Sound (with_signal w st)
sound_signal st s w room =
    let n = length st.rows in
    let rows = length_push st.rows (Signal st.width) in
    let names = length_push st.names (named w n) in
    record {
      few_rows = room.rows;
      few_signals = room.signals;
      few_names = omega (arith, s.few_names);
      ordered = ordered_append (suc st.width) 0 st.rows (Signal st.width ∷ []) (ordered_wider st.width 0 st.rows s.ordered) (omega arith, tt);
      named = named_more st.names n (length (st.rows ++ Signal st.width ∷ [])) (named w n) (omega arith) s.named (omega arith);
      some_signal = λ h. omega arith;
      watched = λ v e. omega (arith, s.watched v e);
    }

-- a formula over names needs a row
some_row : (n : ℕ) (t : Written) → Below n t → 0 < n
some_row n (earlier r) b = omega arith
some_row n (one u t) b = some_row n t b
some_row n (two o l r) b = some_row n l b.0

longer : (rows : List Row) (t : Written) → length (rows ++ made (length rows) t) ≡ length rows + size t
longer rows t = length-append rows (made (length rows) t) ∙ ap (λ k. length rows + k) (length_made (length rows) t)

-- an operator makes a row
pub operated_size : (t : Written) → Operated t → 0 < size t
operated_size (earlier r) h = absurd h
operated_size (one u t) h = omega (arith, (few1 u).0)
operated_size (two o l r) h = omega (arith, (few2 o).0)

below_of : (sheet : List ℕ) (st : State) → Sound st → (ws : List Part) (t : Written) → Spell (symbols_of sheet st.names ws) t → Below (length st.rows) t
below_of sheet st s ws t spells = spelt_below (row_named sheet st.names) (length st.rows) (known_from sheet st.names (length st.rows) s.named) t ws spells

ordered_all : (st : State) → Sound st → (t : Written) → Below (length st.rows) t → Ordered st.width 0 (st.rows ++ made (length st.rows) t)
ordered_all st s t b =
    let n = length st.rows in
    ordered_append st.width 0 st.rows (made n t) s.ordered (subst (λ k. Ordered st.width k (made n t)) (omega arith) (ordered_made st.width n t b))

sound_named : (sheet : List ℕ) (st : State) → Sound st → (w : Part) (ws : List Part) (t : Written) → Operated t → Spell (symbols_of sheet st.names ws) t → Room (with_named w t st) → Sound (with_named w t st)
sound_named sheet st s w ws t op spells room =
    let n = length st.rows in
    let b = below_of sheet st s ws t spells in
    let rows = longer st.rows t in
    let names = length_push st.names (named w (top n t)) in
    let low = top_below n t b in
    record {
      few_rows = room.rows;
      few_signals = room.signals;
      few_names = omega (arith, s.few_names, operated_size t op);
      ordered = ordered_all st s t b;
      named = named_more st.names n (length (st.rows ++ made n t)) (named w (top n t)) (omega arith) s.named (omega arith);
      some_signal = λ h. s.some_signal (some_row n t b);
      watched = λ v e. omega (arith, s.watched v e);
    }

sound_watch : (sheet : List ℕ) (st : State) → Sound st → (ws : List Part) (t : Written) → Spell (symbols_of sheet st.names ws) t → Room (with_watch t st) → Sound (with_watch t st)
sound_watch sheet st s ws t spells room =
    let n = length st.rows in
    let b = below_of sheet st s ws t spells in
    let rows = longer st.rows t in
    let low = top_below n t b in
    record {
      few_rows = room.rows;
      few_signals = room.signals;
      few_names = omega (arith, s.few_names);
      ordered = ordered_all st s t b;
      named = named_stays st.names n (length (st.rows ++ made n t)) (omega arith) s.named;
      some_signal = λ h. s.some_signal (some_row n t b);
      watched = λ v e. let z : top n t ≡ v = cc in omega arith;
    }

sound_line : (sheet : List ℕ) (st : State) → Sound st → (k : Keyword) (ws : List Part) (st' : State) → LineBy k sheet st ws st' → Sound st'
sound_line sheet st s key.Signal ws st' l =
    let m = l.makes in
    subst Sound (sym m) (sound_signal st s l.name (subst Room m l.room))
sound_line sheet st s key.Name ws st' l =
    let m = l.makes in
    subst Sound (sym m) (sound_named sheet st s l.name l.rest l.formula l.operated l.spells (subst Room m l.room))
sound_line sheet st s key.Watch ws st' l =
    let m = l.makes in
    subst Sound (sym m) (sound_watch sheet st s ws l.formula l.spells (subst Room m l.room))

pub sound_keyword : (sheet : List ℕ) (st : State) → Sound st → (p : ℕ) (k : Keyword) (ws : List Part) (end : ℕ) (st' : State) → by_keyword sheet st p k ws end ≡ Ok st' → Sound st'
sound_keyword sheet st s p k ws end st' e = sound_line sheet st s k ws st' (by_yes sheet st p end k ws st' e)

pub sound_adds : (sheet : List ℕ) (st : State) → Sound st → (ws : List Part) (st' : State) → Adds sheet st ws st' → Sound st'
sound_adds sheet st s [] st' e = subst Sound (sym e) s
sound_adds sheet st s (w ∷ ws) st' l = sound_line sheet st s l.kind ws st' l.line

pub sound_makes : (sheet : List ℕ) (st : State) → Sound st → (ls : List Part) (st' : State) → Makes sheet st ls st' → Sound st'
sound_makes sheet st s [] st' e = subst Sound (sym e) s
sound_makes sheet st s (l ∷ ls) st' m = sound_makes sheet m.0 (sound_adds sheet st s (words l) m.0 m.1) ls st' m.2

pub sound_start : Sound start
sound_start = record {
  few_rows = omega arith;
  few_signals = omega arith;
  few_names = omega arith;
  ordered = tt;
  named = tt;
  some_signal = λ h. absurd (omega arith);
  watched = λ w e. cc;
}

-- with a watch row it is a formula's table
pub well_formed : (st : State) (w : ℕ) → Sound st → st.watch ≡ Some w → WellFormed (table_from st.width st.rows w)
well_formed st w s e =
    let in_rows = s.watched w e in
    record {
      some_signal = s.some_signal (omega arith);
      few_signals = s.few_signals;
      some_row = omega arith;
      few_rows = s.few_rows;
      ordered = all_fit st.width st.rows s.ordered;
      watched = in_rows;
    }
