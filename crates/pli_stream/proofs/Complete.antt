-- Format lists: what is spelled is read, and so what is read is marked so.
use Rattle.std.proofs.Common.{◌≡◌, ℕ, zero, suc, ◌<◌, ◌≤◌, List, [], ◌∷◌, length, Bool, true, false, refl, sym, ap, ◌∙◌, arith, Ok}
use Rattle.std.specs.Prelude.{◌||◌}
use Rattle.pli_language.specs.declared.token.Symbol.TheVariants as S
use Rattle.pli_language.specs.declared.token.Kind.TheVariants as K
use Rattle.pli_language.specs.declared.token.Token.{Token}
use Rattle.pli_language.specs.declared.expr.Place.{Place}
use Rattle.pli_language.specs.Marks.{Marks}
use Rattle.pli_language.specs.Spells.{Takes, place_of}
use Rattle.pli_language.specs.Formats as D
use Rattle.pli_language.specs.Formats.{SpellsTimes, SpellsFormat, SpellsFormatItems, is_times, times_marks, Direction, format_marks, formats_marks, format_moves_data, formats_move_data}
use Rattle.pli_language.specs.Tree as T
use Rattle.pli_phrase.specs.Cursor.{Cursor, Read, ◌>>=◌}
use Rattle.pli_attributes.proofs.Posts.{Post, Never, post_from, post_is, post_leaves}
use Rattle.pli_attributes.proofs.Tokens.{not_begins, begins_symbol, symbol_read, takes_next}
use Rattle.pli_stream.specs.Reading.{checked, Item, Outer, State, start, formats_with, Turn, closed, repeated, item_at, item_from, behind_item, follow, run, formats_from}
use Rattle.pli_stream.proofs.Items.{is_plain, repetition_complete, repetition_shorter, format_post, format_complete, plain_no_open, plain_moves}
use Rattle.pli_stream.proofs.Sound.{RunBy, run_post}

abbrev pub at : List Token → Marks → Cursor
at ts m = record { tokens = ts; marks = m }

abbrev pub item : Place → ℕ → T.Format → Item
item p n f = record { place = p; repetition = n; format = f }

abbrev pub outer : Place → ℕ → List Item → Outer
outer p n items = record { items = items; place = p; repetition = n }

abbrev pub state : Bool → List Item → List Outer → Bool → State
state due items k moves = record { is_due = due; items = items; outer = k; moves_data = moves }

abbrev pub Whole : Type 0
Whole = Read (T.Formats × Bool)

-- what is read on with where a list ends
abbrev pub ended : ℕ → Direction → List Outer → T.Formats → Bool → Cursor → Whole
ended n d [] fs moves c = Ok ((fs, moves), c)
ended n d (o ∷ k) fs moves c = run n d (state false (item o.place o.repetition (T.FormatList fs) ∷ o.items) k moves) c

closed_ended : (n : ℕ) (d : Direction) (items : List Item) (k : List Outer) (moves : Bool) (c : Cursor) → follow (run n d) (closed items k moves) c ≡ ended n d k (formats_with items T.NoFormat) moves c
closed_ended n d items [] moves c = refl
closed_ended n d items (o ∷ k) moves c = refl

or_with : (a b c : Bool) → (a || b) || c ≡ a || (b || c)
or_with true b c = refl
or_with false b c = refl

or_none : (a : Bool) → a ≡ a || false
or_none true = refl
or_none false = refl

-- ---- single turns

-- what is read behind the repetition of an item
abbrev pub behind_repetition : ℕ → Direction → State → Place → ℕ → Cursor → Whole
behind_repetition n d st p times c = repeated d st p times c >>= λ z. follow (run n d) z.0 z.1

item_turn : (n : ℕ) (d : Direction) (st : State) {ts behind after : List Token} {t : Token} {times : ℕ} (m : Marks) → st.is_due ≡ true → ts ≡ t ∷ behind → SpellsTimes ts times after → run (suc n) d st (at ts m) ≡ behind_repetition n d st (place_of t) times (at after (times_marks times (place_of t) m))
unfolding run item_from
item_turn n d st {ts} {behind} {after} {t} {times} m b e h =
    let whole : Read Turn → Whole = λ r. r >>= λ z. follow (run n d) z.0 z.1 in
    let due : run (suc n) d st (at ts m) ≡ whole (item_at d st ts (at ts m)) = rw b refl in
    due ∙ ap (λ u. whole (item_at d st u (at ts m))) e ∙ ap (λ r. whole (r >>= λ x. repeated d st (place_of t) x.0 (checked (is_times x.0) (place_of t) x.1))) (repetition_complete m h)

close_turn : (n : ℕ) (d : Direction) (items : List Item) (k : List Outer) (moves : Bool) {ts rest : List Token} {u : Token} (m : Marks) → Takes ts (K.Symbol S.CloseParenthesis) u rest → run (suc n) d (state false items k moves) (at ts m) ≡ ended n d k (formats_with items T.NoFormat) moves (at rest m)
unfolding run behind_item
close_turn n d items k moves {ts} {rest} m z =
    let b = not_begins (K.Symbol S.Comma) ts (λ e. absurd (cc (takes_next z, e))) in
    let s = symbol_read S.CloseParenthesis m z in
    let r : run (suc n) d (state false items k moves) (at ts m) ≡ follow (run n d) (closed items k moves) (at rest m) = rw (b, s) refl in
    r ∙ closed_ended n d items k moves (at rest m)

comma_turn : (n : ℕ) (d : Direction) (items : List Item) (k : List Outer) (moves : Bool) {ts after : List Token} {u : Token} (m : Marks) → Takes ts (K.Symbol S.Comma) u after → run (suc n) d (state false items k moves) (at ts m) ≡ run n d (state true items k moves) (at after m)
unfolding run behind_item
comma_turn n d items k moves m c =
    let b = begins_symbol S.Comma c in
    let s = symbol_read S.Comma m c in
    rw (b, s) refl

open_turn : (n : ℕ) (d : Direction) (items : List Item) (k : List Outer) (moves : Bool) (p : Place) (times : ℕ) {ts after : List Token} {u : Token} (m : Marks) → Takes ts (K.Symbol S.OpenParenthesis) u after → behind_repetition n d (state true items k moves) p times (at ts m) ≡ run n d (state true [] (outer p times items ∷ k) moves) (at after m)
open_turn n d items k moves p times m o =
    let b = begins_symbol S.OpenParenthesis o in
    let s = symbol_read S.OpenParenthesis m o in
    rw (b, s) refl

plain_turn : (n : ℕ) (d : Direction) (items : List Item) (k : List Outer) (moves : Bool) (p : Place) (times : ℕ) {ts rest : List Token} {f : T.Format} (m : Marks) → SpellsFormat ts f rest → is_plain f ≡ true → behind_repetition n d (state true items k moves) p times (at ts m) ≡ run n d (state false (item p times f ∷ items) k (moves || format_moves_data f)) (at rest (format_marks d f p m))
plain_turn n d items k moves p times {ts} {f = f} m h e =
    let b = not_begins (K.Symbol S.OpenParenthesis) ts (plain_no_open h e) in
    let r = format_complete d p m h e in
    let s = plain_moves f e in
    rw (b, r, s) refl

-- ---- whole lists: whatever is read on with behind a list, with any fuel that is enough

module _ (d : Direction) (goal : Whole) where
  -- that what is read behind the list comes to the goal
  abbrev Ends : List Outer → T.Formats → Bool → List Token → Marks → Type 0
  Ends k fs moves rest m = (n : ℕ) → length rest < n → ended n d k fs moves (at rest m) ≡ goal

  abbrev Goes : State → List Token → Marks → Type 0
  Goes st ts m = (n : ℕ) → length ts < n → run n d st (at ts m) ≡ goal

  close_then : (items : List Item) (k : List Outer) (moves : Bool) (p : Place) (times : ℕ) (f : T.Format) {ts rest : List Token} {u : Token} (m : Marks) → Takes ts (K.Symbol S.CloseParenthesis) u rest → Ends k (formats_with items (T.FormatThen p times f T.NoFormat)) (moves || formats_move_data (T.FormatThen p times f T.NoFormat)) rest m → Goes (state false (item p times f ∷ items) k (moves || format_moves_data f)) ts m
  unfolding formats_move_data
  close_then items k moves p times f m z on zero l = absurd (omega (arith, l))
  close_then items k moves p times f {rest = rest} m z on (suc n) l =
      close_turn n d (item p times f ∷ items) k (moves || format_moves_data f) m z ∙ ap (λ b. ended n d k (formats_with items (T.FormatThen p times f T.NoFormat)) (moves || b) (at rest m)) (or_none (format_moves_data f)) ∙ on n (omega (arith, l, ap length z.is))

  comma_then : (items : List Item) (k : List Outer) (moves : Bool) {ts after : List Token} {u : Token} (m : Marks) → Takes ts (K.Symbol S.Comma) u after → Goes (state true items k moves) after m → Goes (state false items k moves) ts m
  comma_then items k moves m c on zero l = absurd (omega (arith, l))
  comma_then items k moves m c on (suc n) l = comma_turn n d items k moves m c ∙ on n (omega (arith, l, ap length c.is))

  plain_then : (items : List Item) (k : List Outer) (moves : Bool) (p : Place) (times : ℕ) {ts rest : List Token} {f : T.Format} (m : Marks) → SpellsFormat ts f rest → is_plain f ≡ true → Goes (state false (item p times f ∷ items) k (moves || format_moves_data f)) rest (format_marks d f p m) → (n : ℕ) → length ts ≤ n → behind_repetition n d (state true items k moves) p times (at ts m) ≡ goal
  plain_then items k moves p times {ts} m h e on n l =
      let g = post_is (format_post d p (at ts m)) (format_complete d p m h e) in
      plain_turn n d items k moves p times m h e ∙ on n (omega (arith, l, g.shorter))

  mutual
    unfolding format_marks formats_marks format_moves_data formats_move_data

    item_reads : {ts rest : List Token} {f : T.Format} → SpellsFormat ts f rest → (items : List Item) (k : List Outer) (moves : Bool) (p : Place) (times : ℕ) (m : Marks) → Goes (state false (item p times f ∷ items) k (moves || format_moves_data f)) rest (format_marks d f p m) → (n : ℕ) → length ts ≤ n → behind_repetition n d (state true items k moves) p times (at ts m) ≡ goal
    item_reads (D.nested ts rest fs (D.formats _ after _ t _ o h)) items k moves p times m on n l =
        open_turn n d items k moves p times m o ∙ items_read h [] (outer p times items ∷ k) moves m on n (omega (arith, l, ap length o.is))
    item_reads (D.fixed ts after rest t w a h) items k moves p times m on n l = plain_then items k moves p times m (D.fixed ts after rest t w a h) refl on n l
    item_reads (D.text ts after rest t w a h) items k moves p times m on n l = plain_then items k moves p times m (D.text ts after rest t w a h) refl on n l
    item_reads (D.space ts after rest t w a h) items k moves p times m on n l = plain_then items k moves p times m (D.space ts after rest t w a h) refl on n l
    item_reads (D.skip ts after rest t w a h) items k moves p times m on n l = plain_then items k moves p times m (D.skip ts after rest t w a h) refl on n l
    item_reads (D.column ts after rest t w a h) items k moves p times m on n l = plain_then items k moves p times m (D.column ts after rest t w a h) refl on n l

    items_read : {ts rest : List Token} {fs : T.Formats} → SpellsFormatItems ts fs rest → (items : List Item) (k : List Outer) (moves : Bool) (m : Marks) → Ends k (formats_with items fs) (moves || formats_move_data fs) rest (formats_marks d fs m) → Goes (state true items k moves) ts m
    items_read h items k moves m on zero l = absurd (omega (arith, l))
    items_read (D.last_item ts behind mid rest t u times f e after h spelled z) items k moves m on (suc n) l =
        let m' = times_marks times (place_of t) m in
        item_turn n d (state true items k moves) m refl e h ∙ item_reads spelled items k moves (place_of t) times m' (close_then items k moves (place_of t) times f (format_marks d f (place_of t) m') z on) n (omega (arith, l, repetition_shorter h))
    items_read (D.further_items ts behind mid behind_comma rest t u times f fs e after h spelled c others) items k moves m on (suc n) l =
        let p = place_of t in
        let m' = times_marks times p m in
        let i = item p times f in
        let flag = or_with moves (format_moves_data f) (formats_move_data fs) in
        let on' : Ends k (formats_with (i ∷ items) fs) ((moves || format_moves_data f) || formats_move_data fs) rest (formats_marks d fs (format_marks d f p m')) =
        λ n' l'. ap (λ b. ended n' d k (formats_with (i ∷ items) fs) b (at rest (formats_marks d fs (format_marks d f p m')))) flag ∙ on n' l' in
        let more = items_read others (i ∷ items) k (moves || format_moves_data f) (format_marks d f p m') on' in
        item_turn n d (state true items k moves) m refl e h ∙ item_reads spelled items k moves p times m' (comma_then (i ∷ items) k (moves || format_moves_data f) (format_marks d f p m') c more) n (omega (arith, l, repetition_shorter h))

-- ---- what stands behind the open parenthesis of a format list

pub formats_complete : (d : Direction) {ts rest : List Token} {fs : T.Formats} (m : Marks) → SpellsFormatItems ts fs rest → formats_from d (at ts m) ≡ Ok ((fs, formats_move_data fs), at rest (formats_marks d fs m))
unfolding formats_from
formats_complete d {ts} {rest} {fs} m h =
    items_read d (Ok ((fs, formats_move_data fs), at rest (formats_marks d fs m))) h [] [] false m (λ n l. refl) (suc (length ts)) (omega arith)

pub record FormatsBy (d : Direction) (c : Cursor) (x : (T.Formats × Bool) × Cursor) : Type 0 where
  pub spelled : SpellsFormatItems c.tokens x.0.0 x.1.tokens
  pub moves : x.0.1 ≡ formats_move_data x.0.0
  pub marked : x.1.marks ≡ formats_marks d x.0.0 c.marks
  pub shorter : length x.1.tokens ≤ length c.tokens

formats_run : (d : Direction) (c : Cursor) → Post (RunBy (λ fs rest. SpellsFormatItems c.tokens fs rest) c) Never (formats_from d c)
unfolding formats_from
formats_run d c = run_post (λ fs rest. SpellsFormatItems c.tokens fs rest) (suc (length c.tokens)) d start c (λ fs rest h. h)

formats_by : (d : Direction) (c : Cursor) (x : (T.Formats × Bool) × Cursor) → formats_from d c ≡ Ok x → RunBy (λ fs rest. SpellsFormatItems c.tokens fs rest) c x → FormatsBy d c x
formats_by d c x e r =
    let wanted : (T.Formats × Bool) × Cursor = ((x.0.0, formats_move_data x.0.0), at x.1.tokens (formats_marks d x.0.0 c.marks)) in
    let both : Ok x ≡ Ok wanted = sym e ∙ formats_complete d c.marks r.good in
    let same : x ≡ wanted = cc both in
    record { spelled = r.good; moves = ap (λ u. u.0.1) same; marked = ap (λ u. u.1.marks) same; shorter = r.shorter }

pub formats_post : (d : Direction) (c : Cursor) → Post (FormatsBy d c) Never (formats_from d c)
formats_post d c =
    post_from (formats_from d c) (λ x e. formats_by d c x e (post_is (formats_run d c) e)) (λ at' e. post_leaves (formats_run d c) e)
