-- The promises of reading a sheet.
use Rattle.std.proofs.Common.{Result, ◌≡◌, ℕ, ◌+◌, ◌-◌, ◌≤◌, Bool, true, false, cond, List, [], ◌∷◌, ◌++◌, length, take, drop, Some, None, Option, sym, refl, ap, ◌∙◌, subst, append_assoc, append-nil, arith, rules}
use Rattle.sheet_faults.specs.declared.fault.SheetFault.{SheetFault}
use Rattle.sheet_reader.specs.Readings.{told}
use Rattle.sheet_reader.specs.declared.reading.Sheet.{Sheet}
use Rattle.std.proofs.lemmas.Bool.{eq-eqb, ne_eqb}
use Rattle.std.proofs.lemmas.Slice.Eq.{bytes_eq-Decides}
use Rattle.std.proofs.lemmas.List.{drop-drop, drop-take, take-take}
use Rattle.std.specs.Str.{bytes_eq}
use Rattle.ltl.specs.Tables.{AllFit}
use Rattle.ltl.specs.Trees.{signal, trees, tree_at}
use Rattle.ltl.specs.declared.row.Row.{Row}
use Rattle.ltl.specs.declared.row.Row.TheVariants.{Signal}
use Rattle.sheet.specs.Parts.{Part}
use Rattle.sheet.specs.Tokens.{keyword, token_of}
use Rattle.sheet.specs.declared.token.Keyword.{Keyword}
use Rattle.sheet.specs.declared.token.Keyword.TheVariants as key
use Rattle.sheet.proofs.Texts.{Inside, part_inside}
use Rattle.sheet_reader.specs.Grammar.{Written, spelt}
use Rattle.sheet_reader.specs.Lines.{Fresh, Operated, LineBy, Adds, Makes}
use Rattle.sheet_reader.specs.Names.{named, text_of, row_named, name_of}
use Rattle.sheet_reader.specs.Promises.{Accepted, WordsAt, Spelt, Names, Meanings, Promised}
use Rattle.sheet_reader.specs.Rows.{made, top, meant}
use Rattle.sheet_reader.specs.Sheets.{State, start, Reading, reading, lines, words, with_signal, with_named, with_watch, read_sheet}
use Rattle.sheet_reader.specs.Sound.{NamedBelow, Sound}
use Rattle.sheet_reader.specs.declared.reading.Name.{Name}
use Rattle.sheet_reader.proofs.Accepted.{accepted_from, from_accepted}
use Rattle.sheet_reader.proofs.Examples.{worked}
use Rattle.sheet_reader.proofs.Grammar.{unambiguous}
use Rattle.sheet_reader.proofs.Lines.{from_makes}
use Rattle.sheet_reader.proofs.Meant.{formula_meant, signal_meant}
use Rattle.sheet_reader.proofs.Ordered.{all_fit, top_above}
use Rattle.sheet_reader.proofs.Questions.{ok_same}
use Rattle.sheet_reader.proofs.Sounds.{sound_start, sound_makes}
use Rattle.sheet_reader.proofs.Wrong.{wrong_word}

-- lines after lines
split_made : (s : List ℕ) (xs ys : List Part) (a c : State) → Makes s a (xs ++ ys) c → (b : State) × Makes s a xs b × Makes s b ys c
split_made s [] ys a c m = (a, refl, m)
split_made s (x ∷ xs) ys a c m = let r = split_made s xs ys m.0 c m.2 in (r.0, (m.0, m.1, r.1), r.2)

-- the same lines make the same
same_made : (s : List ℕ) (xs : List Part) (a b b' : State) → Makes s a xs b → Makes s a xs b' → b ≡ b'
same_made s xs a b b' m m' = ok_same (sym (from_makes s a xs b m) ∙ from_makes s a xs b' m')

-- a state that holds more than another: further rows and names behind
record Grown (a b : State) : Type 0 where
  more_rows : List Row
  rows_are : b.rows ≡ a.rows ++ more_rows
  more_names : List Name
  names_are : b.names ≡ a.names ++ more_names
  watch_is : (w : ℕ) → a.watch ≡ Some w → b.watch ≡ Some w

not_grown : (a : State) → Grown a a
not_grown a = record { more_rows = []; rows_are = sym (append-nil a.rows); more_names = []; names_are = sym (append-nil a.names); watch_is = λ w e. e }

grown_line : (s : List ℕ) (a b : State) (k : Keyword) (ws : List Part) → a.watch ≡ None → LineBy k s a ws b → Grown a b
grown_line s a b key.Signal ws n l = record {
  more_rows = Signal a.width ∷ [];
  rows_are = ap (λ (x : State). x.rows) l.makes;
  more_names = named l.name (length a.rows) ∷ [];
  names_are = ap (λ (x : State). x.names) l.makes;
  watch_is = λ w e. ap (λ (x : State). x.watch) l.makes ∙ e;
}
grown_line s a b key.Name ws n l = record {
  more_rows = made (length a.rows) l.formula;
  rows_are = ap (λ (x : State). x.rows) l.makes;
  more_names = named l.name (top (length a.rows) l.formula) ∷ [];
  names_are = ap (λ (x : State). x.names) l.makes;
  watch_is = λ w e. ap (λ (x : State). x.watch) l.makes ∙ e;
}
grown_line s a b key.Watch ws n l = record {
  more_rows = made (length a.rows) l.formula;
  rows_are = ap (λ (x : State). x.rows) l.makes;
  more_names = [];
  names_are = ap (λ (x : State). x.names) l.makes ∙ sym (append-nil a.names);
  watch_is = λ w e. cc;
}

grown_adds : (s : List ℕ) (a b : State) (ws : List Part) → Adds s a ws b → Grown a b
grown_adds s a b [] e = subst (Grown a) (sym e) (not_grown a)
grown_adds s a b (w ∷ ws) l = grown_line s a b l.kind ws l.no_watch l.line

grown_on : (a b c : State) → Grown a b → Grown b c → Grown a c
grown_on a b c g h = record {
  more_rows = g.more_rows ++ h.more_rows;
  rows_are = h.rows_are ∙ ap (λ l. l ++ h.more_rows) g.rows_are ∙ append_assoc a.rows g.more_rows h.more_rows;
  more_names = g.more_names ++ h.more_names;
  names_are = h.names_are ∙ ap (λ l. l ++ h.more_names) g.names_are ∙ append_assoc a.names g.more_names h.more_names;
  watch_is = λ w e. h.watch_is w (g.watch_is w e);
}

grown_makes : (s : List ℕ) (a b : State) (ls : List Part) → Makes s a ls b → Grown a b
grown_makes s a b [] e = subst (Grown a) (sym e) (not_grown a)
grown_makes s a b (l ∷ ls) m = grown_on a m.0 b (grown_adds s a m.0 (words l) m.1) (grown_makes s m.0 b ls m.2)

-- a name that is found nowhere before
found_here : (b : Bool) (r : ℕ) (o : Option ℕ) → b ≡ true → cond b (Some r) o ≡ Some r
found_here b r o e = rw e

passed_at : (b : Bool) (r : ℕ) (o : Option ℕ) → cond b (Some r) o ≡ None → (b ≡ false) × (o ≡ None)
passed_at true r o e = cc
passed_at false r o e = (refl, e)

found_behind : (s : List ℕ) (ns : List Name) (x : Name) (ys : List Name) (t : List ℕ) → row_named s ns t ≡ None → bytes_eq (text_of s x) t ≡ true → row_named s (ns ++ x ∷ ys) t ≡ Some x.row
found_behind s [] x ys t e h = found_here (bytes_eq (text_of s x) t) x.row (row_named s ys t) h
found_behind s (n ∷ ns) x ys t e h =
    let p = passed_at (bytes_eq (text_of s n) t) n.row (row_named s ns t) e in
    ap (λ b. cond b (Some n.row) (row_named s (ns ++ x ∷ ys) t)) p.0 ∙ found_behind s ns x ys t p.1 h

same_self : (t : List ℕ) → bytes_eq t t ≡ true
same_self t = search (rules, bytes_eq-Decides)

-- a word of a line stands in the sheet
word_text : (s : List ℕ) (l w : Part) (r : ℕ) → Inside 0 s l → Inside l.at l.text w → text_of s (named w r) ≡ w.text
word_text s l w r i j =
    let n = length w.text in
    let k = j.skipped in
    let m = length l.text in
    let at_is : w.at ≡ i.skipped + k = omega (arith, i.at_is, j.at_is) in
    let cut : drop k l.text ≡ take (m - k) (drop k (drop i.skipped s)) =
    ap (drop k) i.text_is ∙ ap (λ z. drop k (take z (drop i.skipped s))) (omega (arith, j.within)) ∙ drop-take k (m - k) (drop i.skipped s) in
    ap (λ p. take n (drop p s)) at_is ∙ ap (take n) (sym (drop-drop k i.skipped s)) ∙ sym (take-take n (m - k) (drop k (drop i.skipped s)) (omega (arith, j.within))) ∙ ap (take n) (sym cut) ∙ sym j.text_is

-- a line of a sheet whose lines make fin adds what it says, and fin holds it
record Line (s : List ℕ) (fin st : State) (k : Keyword) (ws : List Part) : Type 0 where
  after : State
  adds : LineBy k s st ws after
  grown : Grown after fin

line_kind : (s : List ℕ) (st after : State) (k : Keyword) (w : Part) (ws : List Part) → token_of w.text w.at ≡ keyword k → Adds s st (w ∷ ws) after → LineBy k s st ws after
line_kind s st after k w ws e l = let same : l.kind ≡ k = cc in subst (λ x. LineBy x s st ws after) same l.line

line_of : (s : List ℕ) (fin st : State) (k : Keyword) (ws : List Part) → Makes s start (lines s) fin → WordsAt s st k ws → Line s fin st k ws
line_of s fin st k ws m x =
    let l = x.line in
    let y = x.stands in
    let z = split_made s y.before (l ∷ y.behind) start fin (subst (λ ls. Makes s start ls fin) y.splits m) in
    let same : z.0 ≡ st = same_made s y.before start z.0 st z.1 y.made in
    let rest : Makes s st (l ∷ y.behind) fin = subst (λ a. Makes s a (l ∷ y.behind) fin) same z.2 in
    record {
      after = rest.0;
      adds = line_kind s st rest.0 k x.first ws x.is_keyword (subst (λ v. Adds s st v rest.0) x.words_are rest.1);
      grown = grown_makes s rest.0 fin y.behind rest.2;
    }

-- the name of such a line, a word behind the keyword
name_text : (s : List ℕ) (st : State) (k : Keyword) (w : Part) (ws : List Part) (r : ℕ) → WordsAt s st k (w ∷ ws) → text_of s (named w r) ≡ w.text
name_text s st k w ws r x =
    let l = x.line in
    let y = x.stands in
    word_text s l w r (part_inside 10 0 s y.before l y.behind y.splits) (part_inside 32 l.at l.text (x.first ∷ []) w ws x.words_are)

-- the name of a row that no name before has
name_behind : (ns : List Name) (x : Name) (ys : List Name) (n r : ℕ) → NamedBelow n ns → n ≤ r → x.row ≡ r → name_of (ns ++ x ∷ ys) r ≡ Some x
name_behind [] x ys n r b h e = rw (eq-eqb x.row r e)
name_behind (y ∷ ns) x ys n r b h e = rw (ne_eqb y.row r (λ q. omega (arith, b.0))) (name_behind ns x ys n r b.1 h e)

names_row : (s : List ℕ) (fin after st : State) (k : Keyword) (w : Part) (ws : List Part) (r : ℕ) → WordsAt s st k (w ∷ ws) → Fresh s st.names w.text → length st.rows ≤ r → after.names ≡ st.names ++ named w r ∷ [] → Grown after fin → Names s fin.names w r
names_row s fin after st k w ws r x f h e g =
    let text = name_text s st k w ws r x in
    let all : fin.names ≡ st.names ++ named w r ∷ g.more_names = g.names_are ∙ ap (λ l. l ++ g.more_names) e ∙ append_assoc st.names (named w r ∷ []) g.more_names in
    let sound = sound_makes s start sound_start x.stands.before st x.stands.made in
    record {
      found = ap (λ l. row_named s l w.text) all ∙ found_behind s st.names (named w r) g.more_names w.text f.undeclared (ap (λ l. bytes_eq l w.text) text ∙ same_self w.text);
      back = ap (λ l. name_of l r) all ∙ name_behind st.names (named w r) g.more_names (length st.rows) r sound.named h refl;
      text = text;
    }

cons_same : {A : Type 0} {x y : A} {xs ys : List A} → x ∷ xs ≡ y ∷ ys → (x ≡ y) × (xs ≡ ys)
cons_same e = (cc, cc)

one_formula : (t t' : Written) → spelt t ≡ spelt t' → t ≡ t'
one_formula t t' e = (unambiguous t t' [] [] (ap (λ l. l ++ []) e)).0

module _ (s : List ℕ) (fin : State) (m : Makes s start (lines s) fin) where
  sound : Sound fin
  sound = sound_makes s start sound_start (lines s) fin m

  fit : AllFit fin.width fin.rows
  fit = all_fit fin.width fin.rows sound.ordered

  signal_means : (st : State) (w : Part) → WordsAt s st key.Signal (w ∷ []) → Names s fin.names w (length st.rows) × (tree_at (trees fin.rows) (length st.rows) ≡ signal st.width)
  signal_means st w x =
      let l = line_of s fin st key.Signal (w ∷ []) m x in
      let d = l.adds in
      let g = l.grown in
      let name_is : d.name ≡ w = sym (cons_same d.is).0 in
      let after_is : l.after ≡ with_signal w st = d.makes ∙ ap (λ v. with_signal v st) name_is in
      let fresh : Fresh s st.names w.text = subst (λ v. Fresh s st.names v.text) name_is d.fresh in
      let rows : fin.rows ≡ (st.rows ++ Signal st.width ∷ []) ++ g.more_rows = g.rows_are ∙ ap (λ (a : State). a.rows ++ g.more_rows) after_is in (
        names_row s fin l.after st key.Signal w [] (length st.rows) x fresh (omega arith) (ap (λ (a : State). a.names) after_is) g,
        signal_meant fin.width fin.rows fit st.rows g.more_rows st.width rows,
      )

  name_means : (st : State) (w : Part) (ws : List Part) (t : Written) → WordsAt s st key.Name (w ∷ ws) → Spelt s st ws t → Names s fin.names w (top (length st.rows) t) × (tree_at (trees fin.rows) (top (length st.rows) t) ≡ meant (tree_at (trees fin.rows)) t)
  name_means st w ws t x p =
      let l = line_of s fin st key.Name (w ∷ ws) m x in
      let d = l.adds in
      let g = l.grown in
      let name_is : d.name ≡ w = sym (cons_same d.is).0 in
      let rest_is : d.rest ≡ ws = sym (cons_same d.is).1 in
      let formula_is : d.formula ≡ t = one_formula d.formula t (sym d.spells ∙ subst (λ v. Spelt s st v t) (sym rest_is) p) in
      let after_is : l.after ≡ with_named w t st = d.makes ∙ ap (λ v. with_named v d.formula st) name_is ∙ ap (λ v. with_named w v st) formula_is in
      let fresh : Fresh s st.names w.text = subst (λ v. Fresh s st.names v.text) name_is d.fresh in
      let rows : fin.rows ≡ (st.rows ++ made (length st.rows) t) ++ g.more_rows = g.rows_are ∙ ap (λ (a : State). a.rows ++ g.more_rows) after_is in (
        names_row s fin l.after st key.Name w ws (top (length st.rows) t) x fresh (top_above (length st.rows) t (subst Operated formula_is d.operated)) (ap (λ (a : State). a.names) after_is) g,
        formula_meant fin.width fin.rows fit st.rows g.more_rows t rows,
      )

  watch_means : (st : State) (ws : List Part) (t : Written) (w : ℕ) → fin.watch ≡ Some w → WordsAt s st key.Watch ws → Spelt s st ws t → (w ≡ top (length st.rows) t) × (tree_at (trees fin.rows) w ≡ meant (tree_at (trees fin.rows)) t)
  watch_means st ws t w e x p =
      let l = line_of s fin st key.Watch ws m x in
      let d = l.adds in
      let g = l.grown in
      let formula_is : d.formula ≡ t = one_formula d.formula t (sym d.spells ∙ p) in
      let after_is : l.after ≡ with_watch t st = d.makes ∙ ap (λ v. with_watch v st) formula_is in
      let rows : fin.rows ≡ (st.rows ++ made (length st.rows) t) ++ g.more_rows = g.rows_are ∙ ap (λ (a : State). a.rows ++ g.more_rows) after_is in
      let watch : fin.watch ≡ Some (top (length st.rows) t) = g.watch_is (top (length st.rows) t) (ap (λ (a : State). a.watch) after_is) in
      let is : w ≡ top (length st.rows) t = cc in
      (is, ap (tree_at (trees fin.rows)) is ∙ formula_meant fin.width fin.rows fit st.rows g.more_rows t rows)

meanings : (s : List ℕ) (r : Reading) → Accepted s r → Meanings s r
meanings s r a =
    let fin = a.state in
    let back : reading fin r.table.watch ≡ r = sym a.is in
    subst (Meanings s) back
    (record {
      signals = signal_means s fin a.made;
      names = name_means s fin a.made;
      watch = λ st ws t x p. watch_means s fin a.made st ws t r.table.watch a.watched x p;
    })

pub promised : (s : List ℕ) → Promised s (read_sheet s)
promised s = record {
  one_way = unambiguous;
  exact = λ r. (accepted_from s r, from_accepted s r);
  means = λ r e. meanings s r (accepted_from s r e);
  wrong_word = wrong_word s;
  examples = worked;
}

pub promised_of : (s : List ℕ) (answer : Result Sheet SheetFault) → told answer ≡ read_sheet s → Promised s (told answer)
promised_of s answer e = subst (Promised s) (sym e) (promised s)
