-- What reading tells of the beginnings of numbers and format lists.
use Rattle.std.proofs.Common.{◌≡◌, ℕ, zero, suc, ◌<◌, ◌≤◌, List, [], ◌∷◌, ◌++◌, length, Some, None, Bool, true, false, Ok, Err, refl, sym, ap, ◌∙◌, subst, arith, inl}
use Rattle.std.specs.Prelude.{if◌then◌else◌}
use Rattle.pli_language.specs.declared.token.Word.{Word}
use Rattle.pli_language.specs.declared.token.Word.TheVariants as W
use Rattle.pli_language.specs.declared.token.Symbol.TheVariants as S
use Rattle.pli_language.specs.declared.token.Kind.{Kind}
use Rattle.pli_language.specs.declared.token.Kind.TheVariants as K
use Rattle.pli_language.specs.declared.token.Token.{Token}
use Rattle.pli_language.specs.declared.expr.Place.{Place}
use Rattle.pli_language.specs.Marks.{Marks}
use Rattle.pli_language.specs.Spells.{next_kind, place_of}
use Rattle.pli_language.specs.Formats.{is_count, are_count, is_times, is_width, Direction}
use Rattle.pli_language.specs.Tree as T
use Rattle.pli_phrase.specs.Cursor.{Cursor, Stuck, Ended, Read, ◌>>=◌}
use Rattle.pli_phrase.specs.Tokens.{is_terminal, taken, number_from, count_from}
use Rattle.pli_phrase.proofs.Prefixes.{Stays, Open, Prefixes, Next, StartsNot, Steady, made, prefix_ok, prefix_as, prefix_bind, next_not, steady, steady_err}
use Rattle.pli_phrase.proofs.PhrasePrefixes.{prefix_number, prefix_count, prefix_symbol, prefix_when}
use Rattle.pli_phrase.proofs.PrefixesAt.{Ending, At, at, anything, at_one, at_all, at_as, at_some, at_end, at_ok, at_behind, at_end_behind, at_bind, loop_at, bind_same, prefix_marked, prefix_behind_marks, taken_first}
use Rattle.pli_attributes.specs.Reading.{starts_number}
use Rattle.pli_attributes.proofs.Posts.{post_is}
use Rattle.pli_attributes.proofs.Tokens.{number_read}
use Rattle.pli_stream.specs.Reading.{checked, repetition_from, number_or_one_from, width_from, is_text_width, worded, format_of_kind, format_from, State, Outer, Item, start, Turn, On, Closed, with_item, opened, further, closed, listed, repeated, item_from, behind_item, turn, follow, run, formats_from}
use Rattle.pli_stream.proofs.Sound.{turn_post, any_at}

-- no parenthesis opens here
abbrev pub NoOpen : List Token → Type 0
NoOpen w = StartsNot (K.Symbol S.OpenParenthesis) w

-- nor does a number stand here: so an open parenthesis before it begins no count
abbrev pub Fresh : List Token → Type 0
Fresh w = NoOpen w × (starts_number (next_kind w) ≡ false)

-- ---- numbers

pub prefix_number_or_one : {F : List Token → Type 0} → ((w : List Token) → F w → NoOpen w) → Prefixes F F number_or_one_from
unfolding number_or_one_from
prefix_number_or_one {F} no_open =
    prefix_when (K.Symbol S.OpenParenthesis) count_from (λ c. Ok (1, c)) (steady (prefix_as {F' = F} (λ w h. tt) (λ w h. h) prefix_count)) (prefix_ok 1) no_open

prefix_width : Prefixes NoOpen NoOpen width_from
unfolding width_from
prefix_width =
    prefix_when (K.Symbol S.OpenParenthesis) (λ c. count_from c >>= λ n. Ok (Some n.0, n.1)) (λ c. Ok (None, c)) (steady (prefix_bind {F = NoOpen} count_from (λ n. Ok (Some n.0, n.1)) prefix_count (λ n. prefix_ok (Some n)) (λ w h. tt))) (prefix_ok None) (λ w h. h)

-- ---- items that are no lists

abbrev noted : Bool → Place → Marks → Marks
noted good p m = (checked good p (at [] m)).marks

prefix_text : (d : Direction) (p : Place) → Prefixes NoOpen NoOpen (λ c. worded d p W.A c)
prefix_text d p =
    prefix_bind width_from (λ w. Ok (T.TextFormat w.0, checked (is_text_width d w.0) p w.1)) prefix_width (λ w. prefix_marked (T.TextFormat w) (noted (is_text_width d w) p)) (λ w h. h)

worded_steady : (d : Direction) (p : Place) (word : Word) → Steady NoOpen (λ c. worded d p word c)
worded_steady d p W.F =
    steady (prefix_bind count_from (λ w. Ok (T.FixedFormat w.0, checked (is_width w.0) p w.1)) prefix_count (λ w. prefix_marked (T.FixedFormat w) (noted (is_width w) p)) (λ w h. tt))
worded_steady d p W.A = steady (prefix_text d p)
worded_steady d p W.X =
    steady (prefix_bind count_from (λ n. Ok (T.SpaceFormat n.0, checked (is_times n.0) p n.1)) prefix_count (λ n. prefix_marked (T.SpaceFormat n) (noted (is_times n) p)) (λ w h. tt))
worded_steady d p W.Skip =
    steady (prefix_bind number_or_one_from (λ n. Ok (T.SkipFormat n.0, checked (is_times n.0) p n.1)) (prefix_number_or_one (λ w h. h)) (λ n. prefix_marked (T.SkipFormat n) (noted (is_times n) p)) (λ w h. h))
worded_steady d p W.Column =
    steady (prefix_bind count_from (λ n. Ok (T.ColumnFormat n.0, checked (is_times n.0) p n.1)) prefix_count (λ n. prefix_marked (T.ColumnFormat n) (noted (is_times n) p)) (λ w h. tt))
worded_steady d p _ = steady_err (λ c. Stuck) (λ c more. refl) (λ c o. o)

kind_steady : (d : Direction) (p : Place) (k : Kind) → Steady NoOpen (λ c. format_of_kind d p k c)
kind_steady d p (K.Name word) = worded_steady d p word
kind_steady d p _ = steady_err (λ c. Stuck) (λ c more. refl) (λ c o. o)

prefix_format : (d : Direction) (p : Place) → Prefixes (Next (K.Name W.A)) NoOpen (format_from d p)
unfolding format_from
prefix_format d p = at_all (λ c. by_tokens c.tokens c.marks)
  where
    by_tokens : (ts : List Token) (m : Marks) → At anything (Next (K.Name W.A)) NoOpen (format_from d p) (at ts m)
    by_tokens [] m =
        at_end_behind (format_from d p) (λ c. worded d p W.A c) (K.Name W.A) m refl (λ us. refl) (prefix_text d p)
    by_tokens (t ∷ ts) m =
        at_behind (format_from d p) (λ c. format_of_kind d p t.kind c) t ts m (λ us. refl) (kind_steady d p t.kind)

-- ---- items

prefix_repeated : (d : Direction) (st : State) (p : Place) (n : ℕ) → Prefixes (Next (K.Name W.A)) Fresh (λ c. repeated d st p n c)
prefix_repeated d st p n =
    prefix_when (K.Symbol S.OpenParenthesis) (λ c. taken (K.Symbol S.OpenParenthesis) c >>= λ t. Ok (On (opened st p n), t.1)) (λ c. format_from d p c >>= λ f. Ok (On (with_item st p n f.0), f.1))
    (steady (prefix_bind {F = Fresh} (taken (K.Symbol S.OpenParenthesis)) (λ t. Ok (On (opened st p n), t.1)) (prefix_symbol S.OpenParenthesis) (λ t. prefix_ok (On (opened st p n))) (λ w h. tt)))
    (prefix_bind {F = Fresh} (format_from d p) (λ f. Ok (On (with_item st p n f.0), f.1)) (prefix_format d p) (λ f. prefix_ok (On (with_item st p n f))) (λ w h. h.0))
    (λ w h. next_not (K.Symbol S.OpenParenthesis) (K.Name W.A) w refl h)

-- behind the repetition of an item
abbrev behind_times : Direction → State → Place → ℕ × Cursor → Read Turn
behind_times d st p n = repeated d st p n.0 (checked (is_times n.0) p n.1)

prefix_behind_times : (d : Direction) (st : State) (p : Place) (n : ℕ) → Prefixes (Next (K.Name W.A)) Fresh (λ c. behind_times d st p (n, c))
prefix_behind_times d st p n =
    prefix_behind_marks (λ c. repeated d st p n c) (noted (is_times n) p) (prefix_repeated d st p n)

prefix_behind_number : (d : Direction) (st : State) (p : Place) → Prefixes (Next (K.Number 1)) Fresh (λ c. number_from c >>= λ n. behind_times d st p n)
prefix_behind_number d st p =
    prefix_bind number_from (λ n. behind_times d st p n) prefix_number (λ n. prefix_behind_times d st p n) (λ w h. tt)

prefix_behind_count : (d : Direction) (st : State) (p : Place) → Prefixes (Next (K.Symbol S.OpenParenthesis)) Fresh (λ c. count_from c >>= λ n. behind_times d st p n)
prefix_behind_count d st p =
    prefix_bind count_from (λ n. behind_times d st p n) prefix_count (λ n. prefix_behind_times d st p n) (λ w h. tt)

-- what an item begins with: a number, a count, or neither
abbrev item_of : Direction → State → Place → Bool → Bool → Cursor → Read Turn
item_of d st p number count c =
    (if number then number_from c else (if count then count_from c else Ok (1, c))) >>= λ n. behind_times d st p n

item_is : (d : Direction) (st : State) (t : Token) (us : List Token) (m : Marks) (number count : Bool) → starts_number (Some t.kind) ≡ number → is_count (t ∷ us) ≡ count → item_from d st (at (t ∷ us) m) ≡ item_of d st (place_of t) number count (at (t ∷ us) m)
unfolding item_from repetition_from
item_is d st t us m number count e i =
    ap (λ b. item_of d st (place_of t) b (is_count (t ∷ us)) (at (t ∷ us) m)) e ∙ ap (λ b. item_of d st (place_of t) number b (at (t ∷ us) m)) i

item_none : (d : Direction) (st : State) (m : Marks) → item_from d st (at [] m) ≡ Err Ended
unfolding item_from
item_none d st m = refl

-- ---- what is a count

not_open : (k j i : Kind) → is_terminal (K.Symbol S.OpenParenthesis) k ≡ false → are_count k j i ≡ false
not_open (K.Symbol S.OpenParenthesis) j i e = absurd (cc e)
not_open _ j i e = refl

not_number : (k j i : Kind) → starts_number (Some j) ≡ false → are_count k j i ≡ false
not_number (K.Symbol S.OpenParenthesis) (K.Number n) i e = absurd (cc e)
not_number _ _ i e = refl

no_count : (t : Token) (us : List Token) → is_terminal (K.Symbol S.OpenParenthesis) t.kind ≡ false → is_count (t ∷ us) ≡ false
no_count t [] e = refl
no_count t (u ∷ []) e = refl
no_count t (u ∷ v ∷ us) e = not_open t.kind u.kind v.kind e

count_fresh : (t : Token) (us : List Token) → starts_number (next_kind us) ≡ false → is_count (t ∷ us) ≡ false
count_fresh t [] e = refl
count_fresh t (u ∷ []) e = refl
count_fresh t (u ∷ v ∷ us) e = not_number t.kind u.kind v.kind e

third_word : (k j : Kind) (w : Word) → are_count k j (K.Name w) ≡ false
third_word (K.Symbol S.OpenParenthesis) (K.Number n) w = refl
third_word _ _ w = refl

-- ---- turns where an item is due

item_number : (d : Direction) (st : State) (t : Token) (ts : List Token) (m : Marks) → starts_number (Some t.kind) ≡ true → At anything Fresh Fresh (item_from d st) (at (t ∷ ts) m)
item_number d st t ts m e =
    let f : Cursor → Read Turn = λ c. number_from c >>= λ n. behind_times d st (place_of t) n in
    at_as f (item_from d st) (at (t ∷ ts) m) (item_is d st t ts m true (is_count (t ∷ ts)) e refl) (λ more. item_is d st t (ts ++ more) m true (is_count (t ∷ (ts ++ more))) e refl) (at_some f t ts m (at_one (prefix_behind_number d st (place_of t)) (at (t ∷ ts) m)))

item_count : (d : Direction) (st : State) (t : Token) (ts : List Token) (m : Marks) → starts_number (Some t.kind) ≡ false → is_count (t ∷ ts) ≡ true → ((more : List Token) → is_count (t ∷ (ts ++ more)) ≡ true) → At anything Fresh Fresh (item_from d st) (at (t ∷ ts) m)
item_count d st t ts m e i more_so =
    let f : Cursor → Read Turn = λ c. count_from c >>= λ n. behind_times d st (place_of t) n in
    at_as f (item_from d st) (at (t ∷ ts) m) (item_is d st t ts m false true e i) (λ more. item_is d st t (ts ++ more) m false true e (more_so more)) (at_some f t ts m (at_one (prefix_behind_count d st (place_of t)) (at (t ∷ ts) m)))

item_once : (d : Direction) (st : State) (t : Token) (ts : List Token) (m : Marks) → starts_number (Some t.kind) ≡ false → is_count (t ∷ ts) ≡ false → ((more : List Token) → is_count (t ∷ (ts ++ more)) ≡ false) → At anything Fresh Fresh (item_from d st) (at (t ∷ ts) m)
item_once d st t ts m e i more_so =
    let f : Cursor → Read Turn = λ c. behind_times d st (place_of t) (1, c) in
    at_as f (item_from d st) (at (t ∷ ts) m) (item_is d st t ts m false false e i) (λ more. item_is d st t (ts ++ more) m false false e (more_so more)) (at_some f t ts m (at_one (prefix_behind_times d st (place_of t) 1) (at (t ∷ ts) m)))

open_read : (d : Direction) (st : State) (t : Token) (us : List Token) (m : Marks) → starts_number (Some t.kind) ≡ false → is_terminal (K.Symbol S.OpenParenthesis) t.kind ≡ true → is_count (t ∷ us) ≡ false → item_from d st (at (t ∷ us) m) ≡ Ok (On (opened st (place_of t) 1), at us (noted (is_times 1) (place_of t) m))
open_read d st t us m e o i =
    let p = place_of t in
    let m' = noted (is_times 1) p m in
    item_is d st t us m false false e i ∙ ap (λ b. if b then (taken (K.Symbol S.OpenParenthesis) (at (t ∷ us) m') >>= λ u. Ok (On (opened st p 1), u.1)) else (format_from d p (at (t ∷ us) m') >>= λ f. Ok (On (with_item st p 1 f.0), f.1))) o ∙ ap (λ r. r >>= λ u. Ok (On (opened st p 1), u.1)) (taken_first (K.Symbol S.OpenParenthesis) t us m' o)

-- an open parenthesis alone
item_open : (d : Direction) (st : State) (t : Token) (m : Marks) → starts_number (Some t.kind) ≡ false → is_terminal (K.Symbol S.OpenParenthesis) t.kind ≡ true → At anything Fresh Fresh (item_from d st) (at (t ∷ []) m)
item_open d st t m e o =
    record {
      stays = λ more. subst (λ r. Stays more r (item_from d st (at (t ∷ more) m))) (sym (open_read d st t [] m e o refl)) (inl refl);
      opens = λ n. absurd (cc n);
      closes = λ h. record {
        closing = record {
          more = [];
          given = On (opened st (place_of t) 1);
          marks = noted (is_times 1) (place_of t) m;
          reads = λ w i. open_read d st t w m e o (count_fresh t w i.1);
          leads = λ n. absurd (cc n);
        };
        passes = refl;
      };
    }

-- ---- turns behind an item

prefix_behind_item : (st : State) → Prefixes (Next (K.Symbol S.CloseParenthesis)) Fresh (behind_item st)
unfolding behind_item
prefix_behind_item st =
    prefix_when (K.Symbol S.Comma) (λ c. taken (K.Symbol S.Comma) c >>= λ t. Ok (On (further st), t.1)) (λ c. taken (K.Symbol S.CloseParenthesis) c >>= λ t. Ok (closed st.items st.outer st.moves_data, t.1))
    (steady (prefix_bind {F = Fresh} (taken (K.Symbol S.Comma)) (λ t. Ok (On (further st), t.1)) (prefix_symbol S.Comma) (λ t. prefix_ok (On (further st))) (λ w h. tt)))
    (prefix_bind {F = Fresh} (taken (K.Symbol S.CloseParenthesis)) (λ t. Ok (closed st.items st.outer st.moves_data, t.1)) (prefix_symbol S.CloseParenthesis) (λ t. prefix_ok (closed st.items st.outer st.moves_data)) (λ w h. tt))
    (λ w h. next_not (K.Symbol S.Comma) (K.Symbol S.CloseParenthesis) w refl h)

-- ---- all turns, with fuel enough

abbrev Whole : Type 0
Whole = Read (T.Formats × Bool)

abbrev state : Bool → List Item → List Outer → Bool → State
state due items k moves = record { is_due = due; items = items; outer = k; moves_data = moves }

abbrev whole : Direction → State → Cursor → Whole
whole d st c = run (suc (length c.tokens)) d st c

abbrev on : Direction → Turn × Cursor → Whole
on d z = follow (whole d) z.0 z.1

turn_less : (d : Direction) (st : State) (c : Cursor) (z : Turn × Cursor) → turn d st c ≡ Ok z → length z.1.tokens < length c.tokens
turn_less d st c z e = (post_is (turn_post (λ fs rest. Unit {0}) d st c (any_at st c.tokens)) e).shorter

follow_same : (rest rest' : State → Cursor → Whole) (z : Turn) (c : Cursor) → ((st : State) → rest st c ≡ rest' st c) → follow rest z c ≡ follow rest' z c
follow_same rest rest' (On st) c same = same st
follow_same rest rest' (Closed fs moves) c same = refl

run_same : (n n' : ℕ) (d : Direction) (st : State) (c : Cursor) → length c.tokens < n → length c.tokens < n' → run n d st c ≡ run n' d st c
unfolding run
run_same zero n' d st c l l' = absurd (omega (arith, l))
run_same (suc n) zero d st c l l' = absurd (omega (arith, l'))
run_same (suc n) (suc n') d st c l l' =
    bind_same (turn d st c) (λ z. follow (run n d) z.0 z.1) (λ z. follow (run n' d) z.0 z.1) (λ z e. follow_same (run n d) (run n' d) z.0 z.1 (λ st'. run_same n n' d st' z.1 (omega (arith, l, turn_less d st c z e)) (omega (arith, l', turn_less d st c z e))))

unrolled : (d : Direction) (st : State) (c : Cursor) → whole d st c ≡ (turn d st c >>= λ z. on d z)
unfolding run
unrolled d st c =
    bind_same (turn d st c) (λ z. follow (run (length c.tokens) d) z.0 z.1) (λ z. on d z) (λ z e. follow_same (run (length c.tokens) d) (whole d) z.0 z.1 (λ st'. run_same (length c.tokens) (suc (length z.1.tokens)) d st' z.1 (turn_less d st c z e) (omega arith)))

-- ---- where the tokens end

close_read : (st : State) (us : List Token) (m : Marks) → behind_item st (at (made (K.Symbol S.CloseParenthesis) ∷ us) m) ≡ Ok (closed st.items st.outer st.moves_data, at us m)
unfolding behind_item
close_read st us m =
    ap (λ r. r >>= λ t. Ok (closed st.items st.outer st.moves_data, t.1)) (taken_first (K.Symbol S.CloseParenthesis) (made (K.Symbol S.CloseParenthesis)) us m refl)

close_turn : (d : Direction) (items : List Item) (k : List Outer) (moves : Bool) (us : List Token) (m : Marks) → whole d (state false items k moves) (at (made (K.Symbol S.CloseParenthesis) ∷ us) m) ≡ on d (closed items k moves, at us m)
close_turn d items k moves us m =
    unrolled d (state false items k moves) (at (made (K.Symbol S.CloseParenthesis) ∷ us) m) ∙ ap (λ r. r >>= λ z. on d z) (close_read (state false items k moves) us m)

-- a parenthesis for each list that is open
closes_lists : (d : Direction) (items : List Item) (k : List Outer) (moves : Bool) (m : Marks) → Ending anything Fresh Fresh (whole d (state false items k moves)) (at [] m)
closes_lists d items [] moves m =
    record {
      closing = record { more = made (K.Symbol S.CloseParenthesis) ∷ []; given = (listed items, moves); marks = m; reads = λ w h. close_turn d items [] moves w m; leads = λ n w h. (refl, refl) };
      passes = refl;
    }
closes_lists d items (o ∷ k) moves m =
    let h = closes_lists d (record { place = o.place; repetition = o.repetition; format = T.FormatList (listed items) } ∷ o.items) k moves m in
    record {
      closing = record {
        more = made (K.Symbol S.CloseParenthesis) ∷ h.closing.more;
        given = h.closing.given;
        marks = h.closing.marks;
        reads = λ w i. close_turn d items (o ∷ k) moves (h.closing.more ++ w) m ∙ h.closing.reads w i;
        leads = λ n w i. (refl, refl);
      };
      passes = h.passes;
    }

text_read : (d : Direction) (st : State) (p : Place) (n : ℕ) (us : List Token) (m : Marks) → NoOpen us → behind_times d st p (n, at (made (K.Name W.A) ∷ us) m) ≡ Ok (On (with_item st p n (T.TextFormat None)), at us (noted (is_text_width d None) p (noted (is_times n) p m)))
unfolding format_from width_from
text_read d st p n us m h = rw h refl

-- a text, and a parenthesis for each list that is open
closes_due : (d : Direction) (items : List Item) (k : List Outer) (moves : Bool) (m : Marks) → Ending anything Fresh Fresh (whole d (state true items k moves)) (at [] m)
closes_due d items k moves m =
    let t = made (K.Name W.A) in
    let p = place_of t in
    let st = state true items k moves in
    let next = with_item st p 1 (T.TextFormat None) in
    let h = closes_lists d next.items k next.moves_data (noted (is_text_width d None) p (noted (is_times 1) p m)) in
    record {
      closing = record {
        more = t ∷ h.closing.more;
        given = h.closing.given;
        marks = h.closing.marks;
        reads = λ w i. unrolled d st (at (t ∷ (h.closing.more ++ w)) m) ∙ ap (λ r. r >>= λ z. on d z) (item_is d st t (h.closing.more ++ w) m false false refl (no_count t (h.closing.more ++ w) refl) ∙ text_read d st p 1 (h.closing.more ++ w) m (h.closing.leads refl w i).0) ∙ h.closing.reads w i;
        leads = λ n w i. (refl, refl);
      };
      passes = h.passes;
    }

behind_none : (st : State) (m : Marks) → behind_item st (at [] m) ≡ Err Ended
unfolding behind_item taken
behind_none st m = refl

whole_none : (d : Direction) (st : State) (m : Marks) → At anything Fresh Fresh (whole d st) (at [] m)
whole_none d st m = by_due st.is_due
  where
    by_due : (b : Bool) → At anything Fresh Fresh (whole d (state b st.items st.outer st.moves_data)) (at [] m)
    by_due true =
        let x = state true st.items st.outer st.moves_data in
        let e : whole d x (at [] m) ≡ Err Ended = unrolled d x (at [] m) ∙ ap (λ r. r >>= λ z. on d z) (item_none d x m) in
        at_end (whole d x) m (subst Open (sym e) tt) (closes_due d st.items st.outer st.moves_data m)
    by_due false =
        let x = state false st.items st.outer st.moves_data in
        let e : whole d x (at [] m) ≡ Err Ended = unrolled d x (at [] m) ∙ ap (λ r. r >>= λ z. on d z) (behind_none x m) in
        at_end (whole d x) m (subst Open (sym e) tt) (closes_lists d st.items st.outer st.moves_data m)

-- ---- an open parenthesis and a number, which may be a count or begin a list

number_first : (t : Token) (n : ℕ) (us : List Token) (m : Marks) → t.kind ≡ K.Number n → number_from (at (t ∷ us) m) ≡ Ok (n, at us m)
number_first t n us m e = number_read m (record { is = refl; of_kind = e })

times_read : (d : Direction) (st : State) (u : Token) (n : ℕ) (us : List Token) (m : Marks) → u.kind ≡ K.Number n → item_from d st (at (u ∷ us) m) ≡ behind_times d st (place_of u) (n, at us m)
times_read d st u n us m e =
    item_is d st u us m true (is_count (u ∷ us)) (ap (λ k. starts_number (Some k)) e) refl ∙ ap (λ r. r >>= λ x. behind_times d st (place_of u) x) (number_first u n us m e)

times_none : (d : Direction) (st : State) (p : Place) (n : ℕ) (m : Marks) → behind_times d st p (n, at [] m) ≡ Err Ended
unfolding format_from
times_none d st p n m = refl

module _ (d : Direction) (st : State) (due : st.is_due ≡ true) (t u : Token) (n : ℕ) (m : Marks) (no_number : starts_number (Some t.kind) ≡ false) (is_open : is_terminal (K.Symbol S.OpenParenthesis) t.kind ≡ true) (is_number : u.kind ≡ K.Number n) where
  -- inside the list that is opened
  abbrev inside : State
  inside = opened st (place_of t) 1

  abbrev inside_marks : Marks
  inside_marks = noted (is_times 1) (place_of t) m

  abbrev behind_text : State
  behind_text = with_item inside (place_of u) n (T.TextFormat None)

  abbrev text_marks : Marks
  text_marks = noted (is_text_width d None) (place_of u) (noted (is_times n) (place_of u) inside_marks)

  due_turn : (c : Cursor) → turn d st c ≡ item_from d st c
  due_turn c = ap (λ b. if b then item_from d st c else behind_item st c) due

  list_begun : (us : List Token) → is_count (t ∷ u ∷ us) ≡ false → whole d st (at (t ∷ u ∷ us) m) ≡ (behind_times d inside (place_of u) (n, at us inside_marks) >>= λ z. on d z)
  list_begun us i =
      let first = due_turn (at (t ∷ u ∷ us) m) ∙ open_read d st t (u ∷ us) m no_number is_open i in
      let second = times_read d inside u n us inside_marks is_number in
      unrolled d st (at (t ∷ u ∷ us) m) ∙ ap (λ r. r >>= λ z. on d z) first ∙ unrolled d inside (at (u ∷ us) inside_marks) ∙ ap (λ r. r >>= λ z. on d z) second

  begun_ended : whole d st (at (t ∷ u ∷ []) m) ≡ Err Ended
  begun_ended = list_begun [] refl ∙ ap (λ r. r >>= λ z. on d z) (times_none d inside (place_of u) n inside_marks)

  begun_closes : Ending anything Fresh Fresh (whole d st) (at (t ∷ u ∷ []) m)
  begun_closes =
      let h = closes_lists d behind_text.items behind_text.outer behind_text.moves_data text_marks in
      let text = made (K.Name W.A) in
      record {
        closing = record {
          more = text ∷ h.closing.more;
          given = h.closing.given;
          marks = h.closing.marks;
          reads = λ w i. list_begun (text ∷ (h.closing.more ++ w)) (third_word t.kind u.kind W.A) ∙ ap (λ r. r >>= λ z. on d z) (text_read d inside (place_of u) n (h.closing.more ++ w) inside_marks (h.closing.leads refl w i).0) ∙ h.closing.reads w i;
          leads = λ i. absurd (cc i);
        };
        passes = h.passes;
      }

  begun_list : At anything Fresh Fresh (whole d st) (at (t ∷ u ∷ []) m)
  begun_list =
      record {
        stays = λ more. subst (λ r. Stays more r (whole d st (at (t ∷ u ∷ more) m))) (sym begun_ended) tt;
        opens = λ i. absurd (cc i);
        closes = λ o. begun_closes;
      }

-- ---- all turns

module _ (d : Direction) (st : State) (t : Token) (ts : List Token) (m : Marks) (others : (j : State) (c : Cursor) → length c.tokens ≤ length ts → At anything Fresh Fresh (whole d j) c) where
  on_at : (z : Turn) (c : Cursor) → length c.tokens ≤ length ts → At anything Fresh Fresh (λ e. on d (z, e)) c
  on_at (On j) c l = others j c l
  on_at (Closed fs moves) c l = at_ok (fs, moves) c

  on_none : (z : Turn) (k : Marks) → At anything Fresh Fresh (λ e. on d (z, e)) (at [] k)
  on_none (On j) k = whole_none d j k
  on_none (Closed fs moves) k = at_ok (fs, moves) (at [] k)

  turned : At anything Fresh Fresh (turn d st) (at (t ∷ ts) m) → At anything Fresh Fresh (whole d st) (at (t ∷ ts) m)
  turned a =
      at_as (λ c. turn d st c >>= λ z. on d z) (whole d st) (at (t ∷ ts) m) (unrolled d st (at (t ∷ ts) m)) (λ more. unrolled d st (at (t ∷ (ts ++ more)) m)) (at_bind (turn d st) (λ z. on d z) (at (t ∷ ts) m) a (λ z e. on_at z.0 z.1 (omega (arith, turn_less d st (at (t ∷ ts) m) z e))) on_none (λ w h. h))

  item_turned : st.is_due ≡ true → At anything Fresh Fresh (item_from d st) (at (t ∷ ts) m) → At anything Fresh Fresh (whole d st) (at (t ∷ ts) m)
  item_turned due a =
      turned (at_as (item_from d st) (turn d st) (at (t ∷ ts) m) (ap (λ b. if b then item_from d st (at (t ∷ ts) m) else behind_item st (at (t ∷ ts) m)) due) (λ more. ap (λ b. if b then item_from d st (at (t ∷ (ts ++ more)) m) else behind_item st (at (t ∷ (ts ++ more)) m)) due) a)

  behind_turned : st.is_due ≡ false → At anything Fresh Fresh (whole d st) (at (t ∷ ts) m)
  behind_turned due =
      turned (at_as (behind_item st) (turn d st) (at (t ∷ ts) m) (ap (λ b. if b then item_from d st (at (t ∷ ts) m) else behind_item st (at (t ∷ ts) m)) due) (λ more. ap (λ b. if b then item_from d st (at (t ∷ (ts ++ more)) m) else behind_item st (at (t ∷ (ts ++ more)) m)) due) (at_some (behind_item st) t ts m (at_one (prefix_behind_item st) (at (t ∷ ts) m))))

-- behind an open parenthesis: whether a count stands there shows in the three tokens, where there are three
opened_step : (d : Direction) (st : State) (t : Token) (ts : List Token) (m : Marks) → ((j : State) (c : Cursor) → length c.tokens ≤ length ts → At anything Fresh Fresh (whole d j) c) → st.is_due ≡ true → starts_number (Some t.kind) ≡ false → is_terminal (K.Symbol S.OpenParenthesis) t.kind ≡ true → At anything Fresh Fresh (whole d st) (at (t ∷ ts) m)
opened_step d st t [] m others due no_number o = item_turned d st t [] m others due (item_open d st t m no_number o)
opened_step d st t (u ∷ []) m others due no_number o = by_kind u.kind refl
  where
    by_kind : (k : Kind) → u.kind ≡ k → At anything Fresh Fresh (whole d st) (at (t ∷ u ∷ []) m)
    by_kind (K.Number n) e = begun_list d st due t u n m no_number o e
    by_kind k e =
        let no : starts_number (Some u.kind) ≡ false = ap (λ k. starts_number (Some k)) e in
        item_turned d st t (u ∷ []) m others due (item_once d st t (u ∷ []) m no_number refl (λ more. count_fresh t (u ∷ more) no))
opened_step d st t (u ∷ v ∷ ts) m others due no_number o = by_count (are_count t.kind u.kind v.kind) refl
  where
    by_count : (b : Bool) → are_count t.kind u.kind v.kind ≡ b → At anything Fresh Fresh (whole d st) (at (t ∷ u ∷ v ∷ ts) m)
    by_count true e = item_turned d st t (u ∷ v ∷ ts) m others due (item_count d st t (u ∷ v ∷ ts) m no_number e (λ more. e))
    by_count false e = item_turned d st t (u ∷ v ∷ ts) m others due (item_once d st t (u ∷ v ∷ ts) m no_number e (λ more. e))

whole_step : (d : Direction) (st : State) (t : Token) (ts : List Token) (m : Marks) → ((j : State) (c : Cursor) → length c.tokens ≤ length ts → At anything Fresh Fresh (whole d j) c) → At anything Fresh Fresh (whole d st) (at (t ∷ ts) m)
whole_step d st t ts m others = by_due st.is_due refl
  where
    by_open : (b : Bool) → st.is_due ≡ true → starts_number (Some t.kind) ≡ false → is_terminal (K.Symbol S.OpenParenthesis) t.kind ≡ b → At anything Fresh Fresh (whole d st) (at (t ∷ ts) m)
    by_open true due no_number o = opened_step d st t ts m others due no_number o
    by_open false due no_number o =
        item_turned d st t ts m others due (item_once d st t ts m no_number (no_count t ts o) (λ more. no_count t (ts ++ more) o))

    by_number : (b : Bool) → st.is_due ≡ true → starts_number (Some t.kind) ≡ b → At anything Fresh Fresh (whole d st) (at (t ∷ ts) m)
    by_number true due e = item_turned d st t ts m others due (item_number d st t ts m e)
    by_number false due e = by_open (is_terminal (K.Symbol S.OpenParenthesis) t.kind) due e refl

    by_due : (b : Bool) → st.is_due ≡ b → At anything Fresh Fresh (whole d st) (at (t ∷ ts) m)
    by_due true due = by_number (starts_number (Some t.kind)) due refl
    by_due false due = behind_turned d st t ts m others due

-- what stands behind the open parenthesis of a format list
pub prefix_formats : (d : Direction) → Prefixes Fresh Fresh (formats_from d)
unfolding formats_from
prefix_formats d = at_all (loop_at (whole d) (whole_none d) (whole_step d) start)
