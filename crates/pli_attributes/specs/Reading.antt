-- How what stands behind DECLARE is read, rule by rule.
use Rattle.std.specs.Prelude.{ℕ, zero, suc, pos, neg_ℤ, List, [], ◌∷◌, length, Bool, true, false, nat_le, ◌==◌, if◌then◌else◌, Option, Some, None, Ok, Err, slice_range}
use Rattle.pli_language.specs.declared.token.Word.{Word}
use Rattle.pli_language.specs.declared.token.Word.TheVariants as W
use Rattle.pli_language.specs.declared.token.Symbol.{Symbol}
use Rattle.pli_language.specs.declared.token.Symbol.TheVariants as S
use Rattle.pli_language.specs.declared.token.Kind.{Kind}
use Rattle.pli_language.specs.declared.token.Kind.TheVariants as K
use Rattle.pli_language.specs.declared.token.Token.{Token}
use Rattle.pli_language.specs.declared.fault.SourceKind.TheVariants.{TooLarge}
use Rattle.pli_language.specs.Spells.{next_kind, place_of}
use Rattle.pli_language.specs.Marks.{Marks, note_if}
use Rattle.pli_language.specs.Attributes.{ItemFront, plain_attribute, is_left_out_attribute, most_dimensions}
use Rattle.pli_language.specs.Tree as T
use Rattle.pli_phrase.specs.Cursor.{Cursor, Stuck, Ended, LeavesOut, Read, ◌>>=◌, onto}
use Rattle.pli_phrase.specs.Tokens.{begins, taken, starts_name, name_from, number_from, count_from, text_of}
use Rattle.pli_phrase.specs.Reading.{expr_from}
use Rattle.pli_attributes.specs.Lists.{One, enclosed_from, optional_from, list_from}

-- ---- extents and dimensions

abbrev pub extent : T.Expr → Option T.Refer → T.Extent
extent e r = record { value = e; refer = r }

abbrev pub referring : T.Expr → Token → T.Name → T.Extent
referring e t member = extent e (Some (record { member = member; place = place_of t }))

-- behind an expression
abbrev pub refer_from : List ℕ → T.Expr → Cursor → Read T.Extent
refer_from s e c =
    if begins (K.Name W.Refer) c then (taken (K.Name W.Refer) c >>= λ t. enclosed_from (name_from s) t.1 >>= λ member. Ok (referring e t.0 member.0, member.1)) else Ok (extent e None, c)

unfoldable pub extent_from : List ℕ → Cursor → Read T.Extent
extent_from s c = expr_from s c >>= λ e. refer_from s e.0 e.1

-- behind the first extent of a bound
abbrev pub upper_from : List ℕ → T.Extent → Cursor → Read T.Bound
upper_from s e c =
    if begins (K.Symbol S.Colon) c then (taken (K.Symbol S.Colon) c >>= λ t. extent_from s t.1 >>= λ above. Ok (T.Both e above.0, above.1)) else Ok (T.Upper e, c)

unfoldable pub bound_from : List ℕ → Cursor → Read T.Bound
bound_from s c =
    if begins (K.Symbol S.Times) c then (taken (K.Symbol S.Times) c >>= λ t. Ok (T.StarBound (place_of t.0), t.1)) else (extent_from s c >>= λ e. upper_from s e.0 e.1)

-- a dimension at the first token, before which so many stand
abbrev pub dimension_at : ℕ → List Token → Marks → Marks
dimension_at before [] m = m
dimension_at before (t ∷ ts) m = note_if (nat_le most_dimensions before) (place_of t) TooLarge m

abbrev pub dimension_due : ℕ → Cursor → Cursor
dimension_due before c = record { tokens = c.tokens; marks = dimension_at before c.tokens c.marks }

abbrev pub one_bound : List ℕ → One T.Bound
one_bound s before c = bound_from s (dimension_due before c)

unfoldable pub bounds_from : List ℕ → Cursor → Read (List T.Bound)
bounds_from s c = list_from (one_bound s) c

unfoldable pub dimensions_from : List ℕ → Cursor → Read (List T.Bound)
dimensions_from s c = optional_from [] (bounds_from s) c

-- ---- behind an attribute's word

-- where what closes a form leaves it out, no tokens behind make it whole: the tokens don't end inside it
abbrev pub unless_ended : {X : Type 0} → Read X → Read X
unless_ended (Err Ended) = Err Stuck
unless_ended r = r

abbrev pub whole_or_stuck : {X : Type 0} → Bool → Read X → Read X
whole_or_stuck true r = r
whole_or_stuck false r = unless_ended r

-- behind the digits of the attribute whose word is the first of the tokens `at`
unfoldable pub scale_from : List Token → ℕ → Cursor → Read (Option ℕ)
scale_from at n c =
    if begins (K.Symbol S.Comma) c then (taken (K.Symbol S.Comma) c >>= λ comma. number_from comma.1 >>= λ q. whole_or_stuck (q.0 == 0) (taken (K.Symbol S.CloseParenthesis) q.1) >>= λ u. if q.0 == 0 then Ok (Some n, u.1) else Err (LeavesOut (onto at u.1))) else (taken (K.Symbol S.CloseParenthesis) c >>= λ u. Ok (Some n, u.1))

unfoldable pub precision_from : List Token → Cursor → Read (Option ℕ)
precision_from at c =
    if begins (K.Symbol S.OpenParenthesis) c then (taken (K.Symbol S.OpenParenthesis) c >>= λ t. number_from t.1 >>= λ n. scale_from at n.0 n.1) else Ok (None, c)

unfoldable pub bit_from : List Token → Cursor → Read T.Attribute
bit_from at c =
    if begins (K.Symbol S.OpenParenthesis) c then (taken (K.Symbol S.OpenParenthesis) c >>= λ t. number_from t.1 >>= λ n. whole_or_stuck (n.0 == 1) (taken (K.Symbol S.CloseParenthesis) n.1) >>= λ u. if n.0 == 1 then Ok (T.BitOne, u.1) else Err (LeavesOut (onto at u.1))) else Ok (T.BitOne, c)

-- a length or a size, in its parentheses
unfoldable pub length_from : List ℕ → Cursor → Read T.Size
length_from s c =
    if begins (K.Symbol S.Times) c then (taken (K.Symbol S.Times) c >>= λ t. Ok (T.StarSize (place_of t.0), t.1)) else (extent_from s c >>= λ e. Ok (T.Given e.0, e.1))

abbrev pub some_length_from : List ℕ → Cursor → Read (Option T.Size)
some_length_from s c = length_from s c >>= λ n. Ok (Some n.0, n.1)

unfoldable pub size_from : List ℕ → Cursor → Read (Option T.Size)
size_from s c = optional_from None (some_length_from s) c

abbrev pub some_name_from : List ℕ → Cursor → Read (Option T.Name)
some_name_from s c = name_from s c >>= λ n. Ok (Some n.0, n.1)

unfoldable pub owner_from : List ℕ → Cursor → Read (Option T.Name)
owner_from s c = optional_from None (some_name_from s) c

-- ---- initial values

unfoldable pub repetition_from : Cursor → Read ℕ
repetition_from c = optional_from 1 number_from c

-- NULL or EMPTY, with the empty parentheses that may stand behind it
unfoldable pub bare_from : T.InitialValue → Cursor → Read T.InitialValue
bare_from v c =
    if begins (K.Symbol S.OpenParenthesis) c then (taken (K.Symbol S.OpenParenthesis) c >>= λ t. taken (K.Symbol S.CloseParenthesis) t.1 >>= λ u. Ok (v, u.1)) else Ok (v, c)

abbrev pub text_value : Option (List ℕ) → Cursor → Read T.InitialValue
text_value None c = Err Stuck
text_value (Some v) c = Ok (T.InitialText v, c)

abbrev pub text_behind : List ℕ → Token → Cursor → Read T.InitialValue
text_behind s t c = text_value (text_of (slice_range s t.start t.end)) c

-- behind a symbol and a word with which a value begins
abbrev pub symbol_value : Symbol → Cursor → Read T.InitialValue
symbol_value S.Plus c = number_from c >>= λ n. Ok (T.InitialNumber (pos n.0), n.1)
symbol_value S.Minus c = number_from c >>= λ n. Ok (T.InitialNumber (neg_ℤ (pos n.0)), n.1)
symbol_value S.Times c = Ok (T.InitialSkip, c)
symbol_value _ c = Err Stuck

abbrev pub word_value : Word → Cursor → Read T.InitialValue
word_value W.Null c = bare_from T.InitialNull c
word_value W.Empty c = bare_from T.InitialEmpty c
word_value _ c = Err Stuck

-- behind a token of this kind
abbrev pub value_behind : List ℕ → Token → Kind → Cursor → Read T.InitialValue
value_behind s t (K.Number n) c = Ok (T.InitialNumber (pos n), c)
value_behind s t K.Text c = text_behind s t c
value_behind s t (K.Bit b) c = Ok (T.InitialBit b, c)
value_behind s t (K.Symbol y) c = symbol_value y c
value_behind s t (K.Name word) c = word_value word c

abbrev pub value_at : List ℕ → List Token → Cursor → Read T.InitialValue
value_at s [] c = Err Ended
value_at s (t ∷ ts) c = value_behind s t t.kind (onto ts c)

unfoldable pub value_from : List ℕ → Cursor → Read T.InitialValue
value_from s c = value_at s c.tokens c

unfoldable pub initial_item_from : List ℕ → Cursor → Read T.InitialItem
initial_item_from s c =
    repetition_from c >>= λ n. value_from s n.1 >>= λ v. Ok (record { repetition = n.0; value = v.0 }, v.1)

unfoldable pub initial_items_from : List ℕ → Cursor → Read (List T.InitialItem)
initial_items_from s c = list_from (λ before. initial_item_from s) c

-- ---- attributes

-- behind INITIAL
abbrev pub initials_from : List ℕ → Cursor → Read T.Attribute
initials_from s c = enclosed_from (initial_items_from s) c >>= λ is. Ok (T.Initial is.0, is.1)

-- behind the word of an attribute, which is the first of the tokens `at`
abbrev pub worded : List ℕ → List Token → Word → Cursor → Read T.Attribute
worded s at W.Fixed c = precision_from at c >>= λ p. Ok (T.Fixed p.0, p.1)
worded s at W.Binary c = precision_from at c >>= λ p. Ok (T.Binary p.0, p.1)
worded s at W.Character c = size_from s c >>= λ n. Ok (T.Character n.0, n.1)
worded s at W.Bit c = bit_from at c
worded s at W.Offset c = owner_from s c >>= λ n. Ok (T.Offset n.0, n.1)
worded s at W.Area c = size_from s c >>= λ n. Ok (T.Area n.0, n.1)
worded s at W.Based c = owner_from s c >>= λ n. Ok (T.Based n.0, n.1)
worded s at W.Initial c = initials_from s c
worded s at word c = if is_left_out_attribute word then Err (LeavesOut (onto at c)) else Err Stuck

abbrev pub plain_or : Option T.Attribute → Cursor → Read T.Attribute → Read T.Attribute
plain_or (Some a) c other = Ok (a, c)
plain_or None c other = other

abbrev pub attribute_of_kind : List ℕ → List Token → Kind → Cursor → Read T.Attribute
attribute_of_kind s at (K.Name word) c = plain_or (plain_attribute word) c (worded s at word c)
attribute_of_kind s at _ c = Err Stuck

abbrev pub attribute_at : List ℕ → List Token → Cursor → Read T.Attribute
attribute_at s [] c = Err Ended
attribute_at s (t ∷ ts) c = attribute_of_kind s (t ∷ ts) t.kind (onto ts c)

unfoldable pub attribute_from : List ℕ → Cursor → Read T.Attribute
attribute_from s c = attribute_at s c.tokens c

unfoldable pub attributes_at : ℕ → List ℕ → Cursor → Read (List T.Attribute)
attributes_at zero s c = Err Ended
attributes_at (suc n) s c =
    if starts_name (next_kind c.tokens) then (attribute_from s c >>= λ a. attributes_at n s a.1 >>= λ others. Ok (a.0 ∷ others.0, others.1)) else Ok ([], c)

-- attributes, up to a token that is no name
unfoldable pub attributes_from : List ℕ → Cursor → Read (List T.Attribute)
attributes_from s c = attributes_at (suc (length c.tokens)) s c

-- ---- items of DECLARE

unfoldable pub declared_name_from : List ℕ → Cursor → Read T.DeclaredName
declared_name_from s c =
    name_from s c >>= λ n. dimensions_from s n.1 >>= λ bs. Ok (record { name = n.0; dimensions = bs.0 }, bs.1)

unfoldable pub declared_names_from : List ℕ → Cursor → Read (List T.DeclaredName)
declared_names_from s c = list_from (λ before. declared_name_from s) c

abbrev pub starts_number : Option Kind → Bool
starts_number (Some (K.Number n)) = true
starts_number _ = false

unfoldable pub level_from : Cursor → Read (Option ℕ)
level_from c = if starts_number (next_kind c.tokens) then (number_from c >>= λ n. Ok (Some n.0, n.1)) else Ok (None, c)

abbrev pub front : Option ℕ → List T.DeclaredName → List T.Bound → ItemFront
front n ds bs = record { level = n; names = ds; dimensions = bs }

-- behind the level
unfoldable pub names_from : List ℕ → Option ℕ → Cursor → Read ItemFront
names_from s n c =
    if begins (K.Symbol S.OpenParenthesis) c then (enclosed_from (declared_names_from s) c >>= λ ds. dimensions_from s ds.1 >>= λ bs. Ok (front n ds.0 bs.0, bs.1)) else (declared_name_from s c >>= λ d. Ok (front n (d.0 ∷ []) [], d.1))

unfoldable pub front_from : List ℕ → Cursor → Read ItemFront
front_from s c = level_from c >>= λ n. names_from s n.0 n.1

abbrev pub item : ItemFront → List T.Attribute → T.DeclareItem
item f attributes = record { level = f.level; names = f.names; dimensions = f.dimensions; attributes = attributes }

unfoldable pub declare_item_from : List ℕ → Cursor → Read T.DeclareItem
declare_item_from s c = front_from s c >>= λ f. attributes_from s f.1 >>= λ others. Ok (item f.0 others.0, others.1)

unfoldable pub declare_items_from : List ℕ → Cursor → Read (List T.DeclareItem)
declare_items_from s c = list_from (λ before. declare_item_from s) c
