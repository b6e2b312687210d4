-- What reading tells of the beginnings of extents, dimensions and sizes, and of initial values.
use Rattle.std.specs.Prelude.{pos, neg_ℤ, slice_range}
use Rattle.std.proofs.Common.{◌≡◌, ℕ, List, [], Option, Some, None, Bool, true, false, Ok, Err, refl}
use Rattle.pli_language.specs.declared.token.Word.{Word}
use Rattle.pli_language.specs.declared.token.Word.TheVariants as W
use Rattle.pli_language.specs.declared.token.Symbol.{Symbol}
use Rattle.pli_language.specs.declared.token.Symbol.TheVariants as S
use Rattle.pli_language.specs.declared.token.Kind.{Kind}
use Rattle.pli_language.specs.declared.token.Kind.TheVariants as K
use Rattle.pli_language.specs.declared.token.Token.{Token}
use Rattle.pli_language.specs.Spells.{next_kind, place_of}
use Rattle.pli_language.specs.Tree as T
use Rattle.pli_phrase.specs.Cursor.{Cursor, Stuck, Read, ◌>>=◌}
use Rattle.pli_phrase.specs.Tokens.{taken, name_from, number_from, text_of}
use Rattle.pli_phrase.specs.Reading.{expr_from}
use Rattle.pli_phrase.proofs.Tokens.{word_is}
use Rattle.pli_phrase.proofs.Prefixes.{Prefixes, Steady, StartsNot, Next, Allows, Any, prefix_ok, prefix_as, prefix_bind, prefix_taken, steady, steady_err, next_allows}
use Rattle.pli_phrase.proofs.PhrasePrefixes.{stops_expr, allows_not, prefix_name, prefix_number, prefix_symbol, prefix_when}
use Rattle.pli_phrase.proofs.FirstPrefixes.{First, first_not, first_expr, prefix_marked, alike_same, prefix_token}
use Rattle.pli_attributes.specs.Lists.{enclosed_from}
use Rattle.pli_attributes.specs.Reading.{refer_from, extent, referring, extent_from, upper_from, bound_from, dimension_at, one_bound, bounds_from, dimensions_from, length_from, some_length_from, size_from, some_name_from, owner_from, repetition_from, bare_from, text_value, symbol_value, word_value, value_behind, value_at, value_from, initial_item_from, initial_items_from}
use Rattle.pli_attributes.proofs.Posts.{post_is}
use Rattle.pli_attributes.proofs.Extents.{one_bound_post}
use Rattle.pli_attributes.proofs.Initials.{initial_item_post}
use Rattle.pli_attributes.proofs.ListPrefixes.{prefix_enclosed, prefix_optional, prefix_list}

prefix_word : (w : Word) → Prefixes (Next (K.Name w)) Any (taken (K.Name w))
prefix_word w = prefix_taken (K.Name w) (word_is w)

-- whatever may stand behind
pub steady_any : {X : Type 0} {P F : List Token → Type 0} {f : Cursor → Read X} → Prefixes P Any f → Steady F f
steady_any p = steady (prefix_as {P' = Any} (λ w h. tt) (λ w h. tt) p)

-- no open parenthesis stands first
abbrev pub NoParenthesis : List Token → Type 0
NoParenthesis w = StartsNot (K.Symbol S.OpenParenthesis) w

-- ---- extents and dimensions

-- what may stand behind an extent, a bound, and bounds
abbrev pub stops_extent : Option Kind → Bool
stops_extent (Some (K.Name W.Refer)) = false
stops_extent o = stops_expr o

abbrev pub stops_bound : Option Kind → Bool
stops_bound (Some (K.Symbol S.Colon)) = false
stops_bound o = stops_extent o

abbrev pub stops_bounds : Option Kind → Bool
stops_bounds (Some (K.Symbol S.Comma)) = false
stops_bounds o = stops_bound o

extent_expr : (o : Option Kind) → stops_extent o ≡ true → stops_expr o ≡ true
extent_expr (Some (K.Name W.Refer)) e = refl
extent_expr _ e = e

bound_extent : (o : Option Kind) → stops_bound o ≡ true → stops_extent o ≡ true
bound_extent (Some (K.Symbol S.Colon)) e = refl
bound_extent _ e = e

bounds_bound : (o : Option Kind) → stops_bounds o ≡ true → stops_bound o ≡ true
bounds_bound (Some (K.Symbol S.Comma)) e = refl
bounds_bound _ e = e

pub prefix_refer : {F : List Token → Type 0} (s : List ℕ) (e : T.Expr) → ((w : List Token) → F w → StartsNot (K.Name W.Refer) w) → Prefixes F F (refer_from s e)
prefix_refer {F} s e stop =
    prefix_when (K.Name W.Refer) (λ c. taken (K.Name W.Refer) c >>= λ t. enclosed_from (name_from s) t.1 >>= λ member. Ok (referring e t.0 member.0, member.1)) (λ c. Ok (extent e None, c))
    (steady_any ((prefix_bind (taken (K.Name W.Refer)) (λ t. enclosed_from (name_from s) t.1 >>= λ member. Ok (referring e t.0 member.0, member.1)) (prefix_word W.Refer)
    (λ t. prefix_bind (enclosed_from (name_from s)) (λ member. Ok (referring e t member.0, member.1)) (prefix_enclosed (name_from s) (prefix_name s) (λ w h. tt)) (λ member. prefix_ok (referring e t member)) (λ w h. tt))
    (λ w h. tt))))
    (prefix_ok (extent e None)) stop

pub prefix_extent : (s : List ℕ) → Prefixes (First (K.Number 1)) (Allows stops_extent) (extent_from s)
unfolding extent_from
prefix_extent s =
    prefix_bind (expr_from s) (λ e. refer_from s e.0 e.1) (first_expr s) (λ e. prefix_refer s e (λ w h. allows_not stops_extent (K.Name W.Refer) w refl h)) (λ w h. extent_expr (next_kind w) h)

pub prefix_upper : (s : List ℕ) (e : T.Extent) → Prefixes (Allows stops_bound) (Allows stops_bound) (upper_from s e)
prefix_upper s e =
    prefix_when (K.Symbol S.Colon) (λ c. taken (K.Symbol S.Colon) c >>= λ t. extent_from s t.1 >>= λ above. Ok (T.Both e above.0, above.1)) (λ c. Ok (T.Upper e, c))
    (steady (prefix_bind (taken (K.Symbol S.Colon)) (λ t. extent_from s t.1 >>= λ above. Ok (T.Both e above.0, above.1)) (prefix_symbol S.Colon)
    (λ t. prefix_bind (extent_from s) (λ above. Ok (T.Both e above.0, above.1)) (prefix_extent s) (λ above. prefix_ok (T.Both e above)) (λ w h. bound_extent (next_kind w) h))
    (λ w h. tt)))
    (prefix_ok (T.Upper e)) (λ w h. allows_not stops_bound (K.Symbol S.Colon) w refl h)

pub prefix_bound : (s : List ℕ) → Prefixes (First (K.Number 1)) (Allows stops_bound) (bound_from s)
unfolding bound_from
prefix_bound s =
    prefix_when (K.Symbol S.Times) (λ c. taken (K.Symbol S.Times) c >>= λ t. Ok (T.StarBound (place_of t.0), t.1)) (λ c. extent_from s c >>= λ e. upper_from s e.0 e.1)
    (steady (prefix_bind (taken (K.Symbol S.Times)) (λ t. Ok (T.StarBound (place_of t.0), t.1)) (prefix_symbol S.Times) (λ t. prefix_ok (T.StarBound (place_of t))) (λ w h. tt)))
    (prefix_bind (extent_from s) (λ e. upper_from s e.0 e.1) (prefix_extent s) (λ e. prefix_upper s e) (λ w h. bound_extent (next_kind w) h))
    (λ w h. first_not (K.Symbol S.Times) (K.Number 1) w refl h)

one_bound_prefix : (s : List ℕ) (before : ℕ) → Prefixes (First (K.Number 1)) (Allows stops_bound) (one_bound s before)
one_bound_prefix s before = prefix_marked (K.Number 1) (bound_from s) (dimension_at before) (λ t ts us m. refl) (prefix_bound s)

pub prefix_bounds : (s : List ℕ) → Prefixes (First (K.Number 1)) (Allows stops_bounds) (bounds_from s)
unfolding bounds_from
prefix_bounds s =
    prefix_list (one_bound s) (λ before c x e. (post_is (one_bound_post s before c) e).shorter) (one_bound_prefix s) (λ w h. (bounds_bound (next_kind w) h, allows_not stops_bounds (K.Symbol S.Comma) w refl h))

pub prefix_dimensions : {F : List Token → Type 0} (s : List ℕ) → ((w : List Token) → F w → NoParenthesis w) → Prefixes F F (dimensions_from s)
unfolding dimensions_from
prefix_dimensions s stop =
    prefix_optional [] (bounds_from s) (prefix_bounds s) (λ w h. next_allows stops_bounds (K.Symbol S.CloseParenthesis) w refl h) stop

-- ---- what stands behind an attribute's word

pub prefix_length : (s : List ℕ) → Prefixes (First (K.Number 1)) (Allows stops_extent) (length_from s)
unfolding length_from
prefix_length s =
    prefix_when (K.Symbol S.Times) (λ c. taken (K.Symbol S.Times) c >>= λ t. Ok (T.StarSize (place_of t.0), t.1)) (λ c. extent_from s c >>= λ e. Ok (T.Given e.0, e.1))
    (steady (prefix_bind (taken (K.Symbol S.Times)) (λ t. Ok (T.StarSize (place_of t.0), t.1)) (prefix_symbol S.Times) (λ t. prefix_ok (T.StarSize (place_of t))) (λ w h. tt)))
    (prefix_bind (extent_from s) (λ e. Ok (T.Given e.0, e.1)) (prefix_extent s) (λ e. prefix_ok (T.Given e)) (λ w h. h))
    (λ w h. first_not (K.Symbol S.Times) (K.Number 1) w refl h)

pub prefix_size : {F : List Token → Type 0} (s : List ℕ) → ((w : List Token) → F w → NoParenthesis w) → Prefixes F F (size_from s)
unfolding size_from
prefix_size s stop =
    prefix_optional None (some_length_from s) (prefix_bind (length_from s) (λ n. Ok (Some n.0, n.1)) (prefix_length s) (λ n. prefix_ok (Some n)) (λ w h. h)) (λ w h. next_allows stops_extent (K.Symbol S.CloseParenthesis) w refl h) stop

pub prefix_owner : {F : List Token → Type 0} (s : List ℕ) → ((w : List Token) → F w → NoParenthesis w) → Prefixes F F (owner_from s)
unfolding owner_from
prefix_owner s stop =
    prefix_optional None (some_name_from s) (prefix_bind (name_from s) (λ n. Ok (Some n.0, n.1)) (prefix_name s) (λ n. prefix_ok {F = Any} (Some n)) (λ w h. tt)) (λ w h. tt) stop

-- ---- initial values

pub prefix_repetition : {F : List Token → Type 0} → ((w : List Token) → F w → NoParenthesis w) → Prefixes F F repetition_from
unfolding repetition_from
prefix_repetition stop = prefix_optional 1 number_from prefix_number (λ w h. tt) stop

pub prefix_bare : {F : List Token → Type 0} (v : T.InitialValue) → ((w : List Token) → F w → NoParenthesis w) → Prefixes F F (bare_from v)
unfolding bare_from
prefix_bare {F} v stop =
    prefix_when (K.Symbol S.OpenParenthesis) (λ c. taken (K.Symbol S.OpenParenthesis) c >>= λ t. taken (K.Symbol S.CloseParenthesis) t.1 >>= λ u. Ok (v, u.1)) (λ c. Ok (v, c))
    (steady_any ((prefix_bind (taken (K.Symbol S.OpenParenthesis)) (λ t. taken (K.Symbol S.CloseParenthesis) t.1 >>= λ u. Ok (v, u.1)) (prefix_symbol S.OpenParenthesis)
    (λ t. prefix_bind (taken (K.Symbol S.CloseParenthesis)) (λ u. Ok (v, u.1)) (prefix_symbol S.CloseParenthesis) (λ u. prefix_ok v) (λ w h. tt))
    (λ w h. tt))))
    (prefix_ok v) stop

abbrev pub stuck : {X : Type 0} → Cursor → Read X
stuck c = Err Stuck

pub steady_stuck : {X : Type 0} {F : List Token → Type 0} → Steady {X = X} F stuck
steady_stuck = steady_err (λ c. Stuck) (λ c more. refl) (λ c o. o)

steady_text : (o : Option (List ℕ)) → Steady NoParenthesis (text_value o)
steady_text None = steady_stuck
steady_text (Some v) = steady (prefix_ok (T.InitialText v))

steady_number : (f : ℕ → T.InitialValue) → Steady NoParenthesis (λ c. number_from c >>= λ n. Ok (f n.0, n.1))
steady_number f =
    steady_any ((prefix_bind number_from (λ n. Ok (f n.0, n.1)) prefix_number (λ n. prefix_ok {F = Any} (f n)) (λ w h. tt)))

steady_symbol : (y : Symbol) → Steady NoParenthesis (symbol_value y)
steady_symbol S.Plus = steady_number (λ n. T.InitialNumber (pos n))
steady_symbol S.Minus = steady_number (λ n. T.InitialNumber (neg_ℤ (pos n)))
steady_symbol S.Times = steady (prefix_ok T.InitialSkip)
steady_symbol _ = steady_stuck

steady_word : (w : Word) → Steady NoParenthesis (word_value w)
steady_word W.Null = steady (prefix_bare T.InitialNull (λ w h. h))
steady_word W.Empty = steady (prefix_bare T.InitialEmpty (λ w h. h))
steady_word _ = steady_stuck

steady_value : (s : List ℕ) (t : Token) (k : Kind) → Steady NoParenthesis (value_behind s t k)
steady_value s t (K.Number n) = steady (prefix_ok (T.InitialNumber (pos n)))
steady_value s t K.Text = steady_text (text_of (slice_range s t.start t.end))
steady_value s t (K.Bit b) = steady (prefix_ok (T.InitialBit b))
steady_value s t (K.Symbol y) = steady_symbol y
steady_value s t (K.Name word) = steady_word word

pub prefix_value : (s : List ℕ) → Prefixes (First (K.Number 1)) NoParenthesis (value_from s)
unfolding value_from
prefix_value s =
    prefix_token (value_at s) (value_behind s) (K.Number 1) (λ c. refl) (λ t ts m. alike_same (value_behind s t t.kind (record { tokens = ts; marks = m }))) (steady_value s) (λ c e. e)

pub prefix_initial_item : (s : List ℕ) → Prefixes (First (K.Number 1)) NoParenthesis (initial_item_from s)
unfolding initial_item_from
prefix_initial_item s =
    prefix_bind repetition_from (λ n. value_from s n.1 >>= λ v. Ok (record { repetition = n.0; value = v.0 }, v.1)) (prefix_repetition (λ w h. first_not (K.Symbol S.OpenParenthesis) (K.Number 1) w refl h))
    (λ n. prefix_bind (value_from s) (λ v. Ok (record { repetition = n; value = v.0 }, v.1)) (prefix_value s) (λ v. prefix_ok (record { repetition = n; value = v })) (λ w h. h))
    (λ w h. h)

abbrev pub stops_initials : Option Kind → Bool
stops_initials (Some (K.Symbol S.OpenParenthesis)) = false
stops_initials (Some (K.Symbol S.Comma)) = false
stops_initials _ = true

pub prefix_initial_items : (s : List ℕ) → Prefixes (First (K.Number 1)) (Allows stops_initials) (initial_items_from s)
unfolding initial_items_from
prefix_initial_items s =
    prefix_list (λ before. initial_item_from s) (λ before c x e. (post_is (initial_item_post s c) e).shorter) (λ before. prefix_initial_item s) (λ w h. (allows_not stops_initials (K.Symbol S.OpenParenthesis) w refl h, allows_not stops_initials (K.Symbol S.Comma) w refl h))
