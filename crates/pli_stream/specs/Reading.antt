-- How what stands behind GET and PUT is read.
use Rattle.std.specs.Prelude.{ℕ, zero, suc, List, [], ◌∷◌, length, Bool, true, false, not, ◌||◌, if◌then◌else◌, Option, Some, None, Ok, Err}
use Rattle.pli_language.specs.declared.token.Word.{Word}
use Rattle.pli_language.specs.declared.token.Word.TheVariants as W
use Rattle.pli_language.specs.declared.token.Symbol.TheVariants as S
use Rattle.pli_language.specs.declared.token.Kind.{Kind}
use Rattle.pli_language.specs.declared.token.Kind.TheVariants as K
use Rattle.pli_language.specs.declared.token.Token.{Token}
use Rattle.pli_language.specs.declared.expr.Place.{Place}
use Rattle.pli_language.specs.declared.fault.SourceKind.TheVariants.{BadFormat}
use Rattle.pli_language.specs.Spells.{next_kind, place_of}
use Rattle.pli_language.specs.Marks.{note_if}
use Rattle.pli_language.specs.Formats.{is_count, is_width, is_times, Direction, Getting, Putting}
use Rattle.pli_language.specs.Heads.{file_word, is_left_out_stream}
use Rattle.pli_language.specs.Tree as T
use Rattle.pli_phrase.specs.Cursor.{Cursor, Missed, Stuck, Ended, LeavesOut, Read, ◌>>=◌, onto}
use Rattle.pli_phrase.specs.Tokens.{begins, taken, number_from, count_from}
use Rattle.pli_phrase.specs.Reading.{exprs_from}
use Rattle.pli_attributes.specs.Lists.{enclosed_from}
use Rattle.pli_attributes.specs.Reading.{starts_number}

-- ---- numbers

-- a number that is out of its range is noted
abbrev pub checked : Bool → Place → Cursor → Cursor
checked good p c = record { tokens = c.tokens; marks = note_if (not good) p BadFormat c.marks }

-- how often an item stands
unfoldable pub repetition_from : Cursor → Read ℕ
repetition_from c =
    if starts_number (next_kind c.tokens) then number_from c else (if is_count c.tokens then count_from c else Ok (1, c))

unfoldable pub number_or_one_from : Cursor → Read ℕ
number_or_one_from c = if begins (K.Symbol S.OpenParenthesis) c then count_from c else Ok (1, c)

unfoldable pub width_from : Cursor → Read (Option ℕ)
width_from c =
    if begins (K.Symbol S.OpenParenthesis) c then (count_from c >>= λ n. Ok (Some n.0, n.1)) else Ok (None, c)

-- ---- an item that is no list

-- GET needs the width of a text
abbrev pub is_text_width : Direction → Option ℕ → Bool
is_text_width d (Some w) = is_width w
is_text_width Getting None = false
is_text_width Putting None = true

-- behind the word of an item that began at the place
abbrev pub worded : Direction → Place → Word → Cursor → Read T.Format
worded d p W.F c = count_from c >>= λ w. Ok (T.FixedFormat w.0, checked (is_width w.0) p w.1)
worded d p W.A c = width_from c >>= λ w. Ok (T.TextFormat w.0, checked (is_text_width d w.0) p w.1)
worded d p W.X c = count_from c >>= λ n. Ok (T.SpaceFormat n.0, checked (is_times n.0) p n.1)
worded d p W.Skip c = number_or_one_from c >>= λ n. Ok (T.SkipFormat n.0, checked (is_times n.0) p n.1)
worded d p W.Column c = count_from c >>= λ n. Ok (T.ColumnFormat n.0, checked (is_times n.0) p n.1)
worded d p word c = Err Stuck

abbrev pub format_of_kind : Direction → Place → Kind → Cursor → Read T.Format
format_of_kind d p (K.Name word) c = worded d p word c
format_of_kind d p _ c = Err Stuck

abbrev pub format_at : Direction → Place → List Token → Cursor → Read T.Format
format_at d p [] c = Err Ended
format_at d p (t ∷ ts) c = format_of_kind d p t.kind (onto ts c)

unfoldable pub format_from : Direction → Place → Cursor → Read T.Format
format_from d p c = format_at d p c.tokens c

-- ---- format lists, item by item; of items in a list here the newest is the first

pub record Item : Type 0 where
  pub place : Place
  pub repetition : ℕ
  pub format : T.Format

-- a list around the one that is read: the items before that one, and where and how often that one stands
pub record Outer : Type 0 where
  pub items : List Item
  pub place : Place
  pub repetition : ℕ

-- whether an item is due, the items of the list that is read, the lists around it, and whether data were moved so far
pub record State : Type 0 where
  pub is_due : Bool
  pub items : List Item
  pub outer : List Outer
  pub moves_data : Bool

-- an item before others
abbrev pub formats_with : List Item → T.Formats → T.Formats
formats_with [] fs = fs
formats_with (i ∷ before) fs = formats_with before (T.FormatThen i.place i.repetition i.format fs)

abbrev pub listed : List Item → T.Formats
listed items = formats_with items T.NoFormat

-- F and A move data
abbrev pub is_data : T.Format → Bool
is_data (T.FixedFormat w) = true
is_data (T.TextFormat w) = true
is_data _ = false

-- what a turn leads to: a further one, or the end of the whole list
pub data Turn : Type 0 where
  On : State → Turn
  Closed : T.Formats → Bool → Turn

abbrev pub start : State
start = record { is_due = true; items = []; outer = []; moves_data = false }

-- behind an item that is no list
abbrev pub with_item : State → Place → ℕ → T.Format → State
with_item st p n f = record {
  is_due = false;
  items = record { place = p; repetition = n; format = f } ∷ st.items;
  outer = st.outer;
  moves_data = st.moves_data || is_data f;
}

-- behind a parenthesis that opens a list
abbrev pub opened : State → Place → ℕ → State
opened st p n = record {
  is_due = true;
  items = [];
  outer = record { items = st.items; place = p; repetition = n } ∷ st.outer;
  moves_data = st.moves_data;
}

-- behind a comma
abbrev pub further : State → State
further st = record { is_due = true; items = st.items; outer = st.outer; moves_data = st.moves_data }

-- behind a parenthesis that closes a list, with what stands around it
abbrev pub closed : List Item → List Outer → Bool → Turn
closed items [] moves = Closed (listed items) moves
closed items (o ∷ outer) moves = On (record {
  is_due = false;
  items = record { place = o.place; repetition = o.repetition; format = T.FormatList (listed items) } ∷ o.items;
  outer = outer;
  moves_data = moves;
})

-- behind an item's repetition
abbrev pub repeated : Direction → State → Place → ℕ → Cursor → Read Turn
repeated d st p n c =
    if begins (K.Symbol S.OpenParenthesis) c then (taken (K.Symbol S.OpenParenthesis) c >>= λ t. Ok (On (opened st p n), t.1)) else (format_from d p c >>= λ f. Ok (On (with_item st p n f.0), f.1))

abbrev pub item_at : Direction → State → List Token → Cursor → Read Turn
item_at d st [] c = Err Ended
item_at d st (t ∷ ts) c =
    repetition_from c >>= λ n. repeated d st (place_of t) n.0 (checked (is_times n.0) (place_of t) n.1)

unfoldable pub item_from : Direction → State → Cursor → Read Turn
item_from d st c = item_at d st c.tokens c

unfoldable pub behind_item : State → Cursor → Read Turn
behind_item st c =
    if begins (K.Symbol S.Comma) c then (taken (K.Symbol S.Comma) c >>= λ t. Ok (On (further st), t.1)) else (taken (K.Symbol S.CloseParenthesis) c >>= λ t. Ok (closed st.items st.outer st.moves_data, t.1))

abbrev pub turn : Direction → State → Cursor → Read Turn
turn d st c = if st.is_due then item_from d st c else behind_item st c

abbrev pub follow : (State → Cursor → Read (T.Formats × Bool)) → Turn → Cursor → Read (T.Formats × Bool)
follow more (On st) c = more st c
follow more (Closed fs moves) c = Ok ((fs, moves), c)

unfoldable pub run : ℕ → Direction → State → Cursor → Read (T.Formats × Bool)
run zero d st c = Err Ended
run (suc n) d st c = turn d st c >>= λ z. follow (run n d) z.0 z.1

-- behind the open parenthesis of a format list: the list up to the one that closes it, and whether it moves data
unfoldable pub formats_from : Direction → Cursor → Read (T.Formats × Bool)
formats_from d c = run (suc (length c.tokens)) d start c

-- ---- pairs

-- a format list in its parentheses behind a data list
abbrev pub by_formats : Direction → T.Exprs → Token × Cursor → Read T.EditPair
by_formats d es t =
    formats_from d t.1 >>= λ fs. Ok (record { items = es; formats = fs.0.0; place = place_of t.0 }, checked fs.0.1 (place_of t.0) fs.1)

unfoldable pub pair_from : List ℕ → Direction → Cursor → Read T.EditPair
pair_from s d c =
    enclosed_from (exprs_from s) c >>= λ es. taken (K.Symbol S.OpenParenthesis) es.1 >>= λ t. by_formats d es.0 t

unfoldable pub further_pairs : ℕ → List ℕ → Direction → Cursor → Read (List T.EditPair)
further_pairs zero s d c = Err Ended
further_pairs (suc n) s d c =
    if begins (K.Symbol S.OpenParenthesis) c then (pair_from s d c >>= λ p. further_pairs n s d p.1 >>= λ ps. Ok (p.0 ∷ ps.0, ps.1)) else Ok ([], c)

-- one pair or more
unfoldable pub pairs_from : List ℕ → Direction → Cursor → Read (List T.EditPair)
pairs_from s d c =
    pair_from s d c >>= λ p. further_pairs (suc (length c.tokens)) s d p.1 >>= λ ps. Ok (p.0 ∷ ps.0, ps.1)

-- ---- options

-- FILE, where it stands
unfoldable pub file_from : Direction → Cursor → Read Bool
file_from d c =
    if begins (K.Name W.File) c then (taken (K.Name W.File) c >>= λ t. enclosed_from (taken (K.Name (file_word d))) t.1 >>= λ u. Ok (true, u.1)) else Ok (false, c)

abbrev pub skip_with : Token → ℕ × Cursor → Read (Option T.Skip)
skip_with t n = Ok (Some (record { number = n.0; place = place_of t }), checked (is_times n.0) (place_of t) n.1)

-- SKIP, where it stands
unfoldable pub skip_from : Cursor → Read (Option T.Skip)
skip_from c =
    if begins (K.Name W.Skip) c then (taken (K.Name W.Skip) c >>= λ t. number_or_one_from t.1 >>= λ n. skip_with t.0 n) else Ok (None, c)

-- FILE behind SKIP, where none stood before it
unfoldable pub late_file_from : Direction → Bool → Cursor → Read Bool
late_file_from d filed c = if filed then Ok (true, c) else file_from d c

-- where no further option stands
abbrev pub options_end : Option T.Skip → Cursor → Read (Option T.Skip)
options_end k c = if begins (K.Name W.File) c || begins (K.Name W.Skip) c then Err Stuck else Ok (k, c)

unfoldable pub options_from : Direction → Cursor → Read (Option T.Skip)
options_from d c =
    file_from d c >>= λ f. skip_from f.1 >>= λ k. late_file_from d f.0 k.1 >>= λ g. options_end k.0 g.1

-- ---- the whole

-- what stands behind GET or PUT
pub record Transfer : Type 0 where
  pub skip : Option T.Skip
  pub pairs : List T.EditPair

unfoldable pub edit_from : List ℕ → Direction → Cursor → Read (List T.EditPair)
edit_from s d c =
    if begins (K.Name W.Edit) c then (taken (K.Name W.Edit) c >>= λ t. pairs_from s d t.1) else Ok ([], c)

abbrev pub missing : List Token → Missed
missing [] = Ended
missing (t ∷ ts) = Stuck

-- SKIP or EDIT has to stand
abbrev pub moved : Option T.Skip → List T.EditPair → Cursor → Read Transfer
moved (Some k) ps c = Ok (record { skip = Some k; pairs = ps }, c)
moved None (p ∷ ps) c = Ok (record { skip = None; pairs = p ∷ ps }, c)
moved None [] c = Err (missing c.tokens)

abbrev pub is_left_out_kind : Option Kind → Bool
is_left_out_kind (Some (K.Name word)) = is_left_out_stream word
is_left_out_kind _ = false

unfoldable pub transfer_from : List ℕ → Direction → Cursor → Read Transfer
transfer_from s d c =
    if is_left_out_kind (next_kind c.tokens) then Err (LeavesOut c) else (options_from d c >>= λ k. edit_from s d k.1 >>= λ ps. moved k.0 ps.0 ps.1)
