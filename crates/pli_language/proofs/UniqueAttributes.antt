-- Declarations are spelled one way.
use Rattle.std.proofs.Common.{◌≡◌, ℕ, pos, neg_ℤ, List, [], ◌∷◌, Option, Some, None, true, refl, sym, ap, ◌∙◌}
use Rattle.std.specs.Prelude.{slice_range}
use Rattle.pli_language.specs.declared.token.Word.{Word}
use Rattle.pli_language.specs.declared.token.Word.TheVariants as W
use Rattle.pli_language.specs.declared.token.Symbol.TheVariants as S
use Rattle.pli_language.specs.declared.token.Kind.{Kind}
use Rattle.pli_language.specs.declared.token.Kind.TheVariants as K
use Rattle.pli_language.specs.declared.token.Token.{Token}
use Rattle.pli_language.specs.Tree as T
use Rattle.pli_language.specs.Spells.{Takes, next_kind, place_of}
use Rattle.pli_language.specs.Attributes as G
use Rattle.pli_language.specs.Attributes.{is_name, plain_attribute, SpellsExtent, SpellsBound, SpellsBounds, SpellsDimensions, SpellsPrecision, SpellsSize, SpellsOwner, SpellsBitLength, SpellsRepetition, SpellsNoArguments, SpellsInitialValue, SpellsInitialItem, SpellsInitialItems, SpellsAttribute, SpellsAttributes, SpellsDeclaredName, SpellsDeclaredNames, SpellsLevel, SpellsFront, SpellsDeclareItem, SpellsDeclareItems}
use Rattle.pli_language.proofs.Unique.{both_same, Same, same_take, next_taken, stops_here, name_same, count_same, text_same, no_expr, at_same}

-- ---- extents and dimensions

pub extent_same : {s : List ℕ} {ts ts' r r' : List Token} {x x' : T.Extent} → ts ≡ ts' → SpellsExtent s ts x r → SpellsExtent s ts' x' r' → Same x x' r r'
extent_same k (G.alone ts rest e of stop) (G.alone ts' rest' e' of' stop') =
    let f = at_same refl k of of' in
    record { value = cc (f.value); rest = f.rest }
extent_same k (G.alone ts rest e of stop) (G.referring ts' mid after inside behind rest' t u v w e' word of' refer o member c) = absurd (stops_here (at_same refl k of of').rest stop refer)
extent_same k (G.referring ts mid after inside behind rest t u v w e word of refer o member c) (G.alone ts' rest' e' of' stop) = absurd (stops_here (sym (at_same refl k of of').rest) stop refer)
extent_same {s} k (G.referring ts mid after inside behind rest t u v w e word of refer o member c) (G.referring ts' mid' after' inside' behind' rest' t' u' v' w' e' word' of' refer' o' member' c') =
    let f = at_same refl k of of' in
    let a = same_take f.rest refer refer' in
    let b = same_take a.rest o o' in
    let d = name_same s b.rest member member' in
    let g = same_take d.rest c c' in
    record { value = cc (f.value, d.value, ap place_of a.token); rest = g.rest }

pub no_extent : {s : List ℕ} {ts ts' r r' : List Token} {x : T.Extent} {t : Token} → ts ≡ ts' → Takes ts (K.Symbol S.Times) t r → SpellsExtent s ts' x r' → ⊥
no_extent k take (G.alone ts rest e of stop) = no_expr k take of refl
no_extent k take (G.referring ts mid after inside behind rest t u v w e word of refer o member c) = no_expr k take of refl

pub bound_same : {s : List ℕ} {ts ts' r r' : List Token} {x x' : T.Bound} → ts ≡ ts' → SpellsBound s ts x r → SpellsBound s ts' x' r' → Same x x' r r'
bound_same k (G.star ts rest t take) (G.star ts' rest' t' take') =
    let a = same_take k take take' in
    record { value = cc (ap place_of a.token); rest = a.rest }
bound_same k (G.star ts rest t take) (G.upper ts' rest' e of stop) = absurd (no_extent k take of)
bound_same k (G.star ts rest t take) (G.both ts' mid after rest' u lower above of colon of') = absurd (no_extent k take of)
bound_same k (G.upper ts rest e of stop) (G.star ts' rest' t take) = absurd (no_extent (sym k) take of)
bound_same k (G.upper ts rest e of stop) (G.upper ts' rest' e' of' stop') =
    let f = extent_same k of of' in
    record { value = ap T.Upper f.value; rest = f.rest }
bound_same k (G.upper ts rest e of stop) (G.both ts' mid after rest' u lower above of' colon more) = absurd (stops_here (extent_same k of of').rest stop colon)
bound_same k (G.both ts mid after rest u lower above of colon more) (G.star ts' rest' t take) = absurd (no_extent (sym k) take of)
bound_same k (G.both ts mid after rest u lower above of colon more) (G.upper ts' rest' e of' stop) = absurd (stops_here (sym (extent_same k of of').rest) stop colon)
bound_same k (G.both ts mid after rest u lower above of colon more) (G.both ts' mid' after' rest' u' lower' above' of' colon' more') =
    let f = extent_same k of of' in
    let c = same_take f.rest colon colon' in
    let g = extent_same c.rest more more' in
    let value : T.Both lower above ≡ T.Both lower' above' = cc (f.value, g.value) in
    record { value = value; rest = g.rest }

pub bounds_same : {s : List ℕ} {ts ts' r r' : List Token} {x x' : List T.Bound} → ts ≡ ts' → SpellsBounds s ts x r → SpellsBounds s ts' x' r' → Same x x' r r'
bounds_same k (G.one_bound ts rest x of stop) (G.one_bound ts' rest' x' of' stop') =
    let f = bound_same k of of' in
    record { value = ap (λ u. u ∷ []) f.value; rest = f.rest }
bounds_same k (G.one_bound ts rest x of stop) (G.further_bounds ts' mid after rest' t x' xs of' comma behind) = absurd (stops_here (bound_same k of of').rest stop comma)
bounds_same k (G.further_bounds ts mid after rest t x xs of comma behind) (G.one_bound ts' rest' x' of' stop) = absurd (stops_here (sym (bound_same k of of').rest) stop comma)
bounds_same k (G.further_bounds ts mid after rest t x xs of comma behind) (G.further_bounds ts' mid' after' rest' t' x' xs' of' comma' behind') =
    let f = bound_same k of of' in
    let c = same_take f.rest comma comma' in
    let g = bounds_same c.rest behind behind' in
    let value : x ∷ xs ≡ x' ∷ xs' = cc (f.value, g.value) in
    record { value = value; rest = g.rest }

pub dimensions_same : {s : List ℕ} {ts ts' r r' : List Token} {x x' : List T.Bound} → ts ≡ ts' → SpellsDimensions s ts x r → SpellsDimensions s ts' x' r' → Same x x' r r'
dimensions_same k (G.no_dimension ts stop) (G.no_dimension ts' stop') = record { value = refl; rest = k }
dimensions_same k (G.no_dimension ts stop) (G.dimensions ts' after mid rest t u bs o of c) = absurd (stops_here k stop o)
dimensions_same k (G.dimensions ts after mid rest t u bs o of c) (G.no_dimension ts' stop) = absurd (stops_here (sym k) stop o)
dimensions_same k (G.dimensions ts after mid rest t u bs o of c) (G.dimensions ts' after' mid' rest' t' u' bs' o' of' c') =
    let a = same_take k o o' in
    let f = bounds_same a.rest of of' in
    let d = same_take f.rest c c' in
    record { value = f.value; rest = d.rest }

-- ---- what stands in parentheses behind an attribute's word

pub precision_same : {ts ts' r r' : List Token} {x x' : Option ℕ} → ts ≡ ts' → SpellsPrecision ts x r → SpellsPrecision ts' x' r' → Same x x' r r'
precision_same k (G.no_precision ts stop) (G.no_precision ts' stop') = record { value = refl; rest = k }
precision_same k (G.no_precision ts stop) (G.digits ts' rest n c) = absurd (stops_here k stop c.opened)
precision_same k (G.no_precision ts stop) (G.digits_and_scale ts' after mid behind inside rest t u v w x n o counted comma scale close) = absurd (stops_here k stop o)
precision_same k (G.digits ts rest n c) (G.no_precision ts' stop) = absurd (stops_here (sym k) stop c.opened)
precision_same k (G.digits ts rest n c) (G.digits ts' rest' n' c') =
    let f = count_same k c c' in
    record { value = ap Some f.value; rest = f.rest }
precision_same k (G.digits ts rest n d) (G.digits_and_scale ts' after mid behind inside rest' t u v w x n' o counted comma scale close) =
    let a = same_take k d.opened o in
    let b = same_take a.rest d.counted counted in
    absurd (cc ((same_take b.rest d.closed comma).kind))
precision_same k (G.digits_and_scale ts after mid behind inside rest t u v w x n o counted comma scale close) (G.no_precision ts' stop) = absurd (stops_here (sym k) stop o)
precision_same k (G.digits_and_scale ts after mid behind inside rest t u v w x n o counted comma scale close) (G.digits ts' rest' n' d) =
    let a = same_take k o d.opened in
    let b = same_take a.rest counted d.counted in
    absurd (cc ((same_take b.rest comma d.closed).kind))
precision_same k (G.digits_and_scale ts after mid behind inside rest t u v w x n o counted comma scale close) (G.digits_and_scale ts' after' mid' behind' inside' rest' t' u' v' w' x' n' o' counted' comma' scale' close') =
    let a = same_take k o o' in
    let b = same_take a.rest counted counted' in
    let c = same_take b.rest comma comma' in
    let d = same_take c.rest scale scale' in
    let e = same_take d.rest close close' in
    let value : n ≡ n' = cc (b.kind) in
    record { value = ap Some value; rest = e.rest }

pub size_same : {s : List ℕ} {ts ts' r r' : List Token} {x x' : Option T.Size} → ts ≡ ts' → SpellsSize s ts x r → SpellsSize s ts' x' r' → Same x x' r r'
size_same k (G.no_size ts stop) (G.no_size ts' stop') = record { value = refl; rest = k }
size_same k (G.no_size ts stop) (G.star_size ts' after mid rest t u v o star c) = absurd (stops_here k stop o)
size_same k (G.no_size ts stop) (G.given_size ts' after mid rest t u e o of c) = absurd (stops_here k stop o)
size_same k (G.star_size ts after mid rest t u v o star c) (G.no_size ts' stop) = absurd (stops_here (sym k) stop o)
size_same k (G.star_size ts after mid rest t u v o star c) (G.star_size ts' after' mid' rest' t' u' v' o' star' c') =
    let a = same_take k o o' in
    let b = same_take a.rest star star' in
    let d = same_take b.rest c c' in
    record { value = cc (ap place_of b.token); rest = d.rest }
size_same k (G.star_size ts after mid rest t u v o star c) (G.given_size ts' after' mid' rest' t' u' e' o' of' c') = absurd (no_extent (same_take k o o').rest star of')
size_same k (G.given_size ts after mid rest t u e o of c) (G.no_size ts' stop) = absurd (stops_here (sym k) stop o)
size_same k (G.given_size ts after mid rest t u e o of c) (G.star_size ts' after' mid' rest' t' u' v' o' star' c') = absurd (no_extent (sym (same_take k o o').rest) star' of)
size_same k (G.given_size ts after mid rest t u e o of c) (G.given_size ts' after' mid' rest' t' u' e' o' of' c') =
    let a = same_take k o o' in
    let f = extent_same a.rest of of' in
    let d = same_take f.rest c c' in
    record { value = ap (λ y. Some (T.Given y)) f.value; rest = d.rest }

pub owner_same : {s : List ℕ} {ts ts' r r' : List Token} {x x' : Option T.Name} → ts ≡ ts' → SpellsOwner s ts x r → SpellsOwner s ts' x' r' → Same x x' r r'
owner_same k (G.no_owner ts stop) (G.no_owner ts' stop') = record { value = refl; rest = k }
owner_same k (G.no_owner ts stop) (G.owner ts' after mid rest t u v word o name c) = absurd (stops_here k stop o)
owner_same k (G.owner ts after mid rest t u v word o name c) (G.no_owner ts' stop) = absurd (stops_here (sym k) stop o)
owner_same {s} k (G.owner ts after mid rest t u v word o name c) (G.owner ts' after' mid' rest' t' u' v' word' o' name' c') =
    let a = same_take k o o' in
    let b = name_same s a.rest name name' in
    let d = same_take b.rest c c' in
    record { value = ap Some b.value; rest = d.rest }

pub bit_length_same : {ts ts' r r' : List Token} → ts ≡ ts' → SpellsBitLength ts r → SpellsBitLength ts' r' → r ≡ r'
bit_length_same k (G.no_bit_length ts stop) (G.no_bit_length ts' stop') = k
bit_length_same k (G.no_bit_length ts stop) (G.bit_length ts' rest c) = absurd (stops_here k stop c.opened)
bit_length_same k (G.bit_length ts rest c) (G.no_bit_length ts' stop) = absurd (stops_here (sym k) stop c.opened)
bit_length_same k (G.bit_length ts rest c) (G.bit_length ts' rest' c') = (count_same k c c').rest

-- ---- initial values

pub repetition_same : {ts ts' r r' : List Token} {n n' : ℕ} → ts ≡ ts' → SpellsRepetition ts n r → SpellsRepetition ts' n' r' → Same n n' r r'
repetition_same k (G.once ts stop) (G.once ts' stop') = record { value = refl; rest = k }
repetition_same k (G.once ts stop) (G.repeated ts' rest n c) = absurd (stops_here k stop c.opened)
repetition_same k (G.repeated ts rest n c) (G.once ts' stop) = absurd (stops_here (sym k) stop c.opened)
repetition_same k (G.repeated ts rest n c) (G.repeated ts' rest' n' c') = count_same k c c'

pub no_arguments_same : {ts ts' r r' : List Token} → ts ≡ ts' → SpellsNoArguments ts r → SpellsNoArguments ts' r' → r ≡ r'
no_arguments_same k (G.bare ts stop) (G.bare ts' stop') = k
no_arguments_same k (G.bare ts stop) (G.empty ts' mid rest t u o c) = absurd (stops_here k stop o)
no_arguments_same k (G.empty ts mid rest t u o c) (G.bare ts' stop) = absurd (stops_here (sym k) stop o)
no_arguments_same k (G.empty ts mid rest t u o c) (G.empty ts' mid' rest' t' u' o' c') = (same_take (same_take k o o').rest c c').rest

-- what an initial value begins with
value_first : {s : List ℕ} {ts r : List Token} {v : T.InitialValue} → SpellsInitialValue s ts v r → Kind
value_first (G.unsigned ts rest t n take) = K.Number n
value_first (G.positive ts mid rest t u n sign take) = K.Symbol S.Plus
value_first (G.negative ts mid rest t u n sign take) = K.Symbol S.Minus
value_first (G.text ts rest t v take of) = K.Text
value_first (G.bit ts rest t b take) = K.Bit b
value_first (G.skipped ts rest t take) = K.Symbol S.Times
value_first (G.null ts mid rest t take bare') = K.Name W.Null
value_first (G.empty_area ts mid rest t take bare') = K.Name W.Empty

value_begins : {s : List ℕ} {ts r : List Token} {v : T.InitialValue} → (d : SpellsInitialValue s ts v r) → next_kind ts ≡ Some (value_first d)
unfolding value_first
value_begins (G.unsigned ts rest t n take) = next_taken take
value_begins (G.positive ts mid rest t u n sign take) = next_taken sign
value_begins (G.negative ts mid rest t u n sign take) = next_taken sign
value_begins (G.text ts rest t v take of) = next_taken take
value_begins (G.bit ts rest t b take) = next_taken take
value_begins (G.skipped ts rest t take) = next_taken take
value_begins (G.null ts mid rest t take bare') = next_taken take
value_begins (G.empty_area ts mid rest t take bare') = next_taken take

value_firsts : {s : List ℕ} {ts ts' r r' : List Token} {v v' : T.InitialValue} → ts ≡ ts' → (a : SpellsInitialValue s ts v r) → (b : SpellsInitialValue s ts' v' r') → value_first a ≡ value_first b
value_firsts k a b = cc (ap next_kind k, value_begins a, value_begins b)

pub value_same : {s : List ℕ} {ts ts' r r' : List Token} {v v' : T.InitialValue} → ts ≡ ts' → SpellsInitialValue s ts v r → SpellsInitialValue s ts' v' r' → Same v v' r r'
unfolding value_first
value_same k (G.unsigned ts rest t n take) (G.unsigned ts' rest' t' n' take') =
    let a = same_take k take take' in
    let value : n ≡ n' = cc (a.kind) in
    record { value = ap (λ y. T.InitialNumber (pos y)) value; rest = a.rest }
value_same k (G.positive ts mid rest t u n sign take) (G.positive ts' mid' rest' t' u' n' sign' take') =
    let a = same_take (same_take k sign sign').rest take take' in
    let value : n ≡ n' = cc (a.kind) in
    record { value = ap (λ y. T.InitialNumber (pos y)) value; rest = a.rest }
value_same k (G.negative ts mid rest t u n sign take) (G.negative ts' mid' rest' t' u' n' sign' take') =
    let a = same_take (same_take k sign sign').rest take take' in
    let value : n ≡ n' = cc (a.kind) in
    record { value = ap (λ y. T.InitialNumber (neg_ℤ (pos y))) value; rest = a.rest }
value_same {s} k (G.text ts rest t v take of) (G.text ts' rest' t' v' take' of') =
    let a = same_take k take take' in
    let w = text_same (ap (λ y. slice_range s y.start y.end) a.token) of of' in
    record { value = ap T.InitialText w; rest = a.rest }
value_same k (G.bit ts rest t b take) (G.bit ts' rest' t' b' take') =
    let a = same_take k take take' in
    let value : b ≡ b' = cc (a.kind) in
    record { value = ap T.InitialBit value; rest = a.rest }
value_same k (G.skipped ts rest t take) (G.skipped ts' rest' t' take') = record { value = refl; rest = (same_take k take take').rest }
value_same k (G.null ts mid rest t take args) (G.null ts' mid' rest' t' take' args') = record { value = refl; rest = no_arguments_same (same_take k take take').rest args args' }
value_same k (G.empty_area ts mid rest t take args) (G.empty_area ts' mid' rest' t' take' args') = record { value = refl; rest = no_arguments_same (same_take k take take').rest args args' }
value_same k a b = absurd (cc (value_firsts k a b))

pub initial_item_same : {s : List ℕ} {ts ts' r r' : List Token} {x x' : T.InitialItem} → ts ≡ ts' → SpellsInitialItem s ts x r → SpellsInitialItem s ts' x' r' → Same x x' r r'
initial_item_same k (G.initial_item ts mid rest n v times of) (G.initial_item ts' mid' rest' n' v' times' of') =
    let a = repetition_same k times times' in
    let f = value_same a.rest of of' in
    record { value = cc (a.value, f.value); rest = f.rest }

pub initial_items_same : {s : List ℕ} {ts ts' r r' : List Token} {x x' : List T.InitialItem} → ts ≡ ts' → SpellsInitialItems s ts x r → SpellsInitialItems s ts' x' r' → Same x x' r r'
initial_items_same k (G.one_value ts rest x of stop) (G.one_value ts' rest' x' of' stop') =
    let f = initial_item_same k of of' in
    record { value = ap (λ u. u ∷ []) f.value; rest = f.rest }
initial_items_same k (G.one_value ts rest x of stop) (G.further_values ts' mid after rest' t x' xs of' comma behind) = absurd (stops_here (initial_item_same k of of').rest stop comma)
initial_items_same k (G.further_values ts mid after rest t x xs of comma behind) (G.one_value ts' rest' x' of' stop) = absurd (stops_here (sym (initial_item_same k of of').rest) stop comma)
initial_items_same k (G.further_values ts mid after rest t x xs of comma behind) (G.further_values ts' mid' after' rest' t' x' xs' of' comma' behind') =
    let f = initial_item_same k of of' in
    let c = same_take f.rest comma comma' in
    let g = initial_items_same c.rest behind behind' in
    let value : x ∷ xs ≡ x' ∷ xs' = cc (f.value, g.value) in
    record { value = value; rest = g.rest }

-- ---- attributes

-- an attribute's word, and what it is where it is a word alone
unfoldable pub attribute_word : {s : List ℕ} {ts r : List Token} {a : T.Attribute} → SpellsAttribute s ts a r → Word
attribute_word (G.plain ts rest t word a take is) = word
attribute_word (G.fixed ts after rest t p take of) = W.Fixed
attribute_word (G.binary ts after rest t p take of) = W.Binary
attribute_word (G.character ts after rest t n take of) = W.Character
attribute_word (G.bit ts after rest t take of) = W.Bit
attribute_word (G.offset ts after rest t x take of) = W.Offset
attribute_word (G.area ts after rest t n take of) = W.Area
attribute_word (G.based ts after rest t x take of) = W.Based
attribute_word (G.initial ts after mid behind rest t u v xs take o of c) = W.Initial

unfoldable pub attribute_plain : {s : List ℕ} {ts r : List Token} {a : T.Attribute} → SpellsAttribute s ts a r → Option T.Attribute
attribute_plain (G.plain ts rest t word a take is) = Some a
attribute_plain d = None

pub attribute_begins : {s : List ℕ} {ts r : List Token} {a : T.Attribute} → (d : SpellsAttribute s ts a r) → next_kind ts ≡ Some (K.Name (attribute_word d))
unfolding attribute_word
attribute_begins (G.plain ts rest t word a take is) = next_taken take
attribute_begins (G.fixed ts after rest t p take of) = next_taken take
attribute_begins (G.binary ts after rest t p take of) = next_taken take
attribute_begins (G.character ts after rest t n take of) = next_taken take
attribute_begins (G.bit ts after rest t take of) = next_taken take
attribute_begins (G.offset ts after rest t x take of) = next_taken take
attribute_begins (G.area ts after rest t n take of) = next_taken take
attribute_begins (G.based ts after rest t x take of) = next_taken take
attribute_begins (G.initial ts after mid behind rest t u v xs take o of c) = next_taken take

pub attribute_is_plain : {s : List ℕ} {ts r : List Token} {a : T.Attribute} → (d : SpellsAttribute s ts a r) → plain_attribute (attribute_word d) ≡ attribute_plain d
unfolding attribute_word attribute_plain
attribute_is_plain (G.plain ts rest t word a take is) = is
attribute_is_plain (G.fixed ts after rest t p take of) = refl
attribute_is_plain (G.binary ts after rest t p take of) = refl
attribute_is_plain (G.character ts after rest t n take of) = refl
attribute_is_plain (G.bit ts after rest t take of) = refl
attribute_is_plain (G.offset ts after rest t x take of) = refl
attribute_is_plain (G.area ts after rest t n take of) = refl
attribute_is_plain (G.based ts after rest t x take of) = refl
attribute_is_plain (G.initial ts after mid behind rest t u v xs take o of c) = refl

pub words_same : {s : List ℕ} {ts ts' r r' : List Token} {a a' : T.Attribute} → ts ≡ ts' → (d : SpellsAttribute s ts a r) → (d' : SpellsAttribute s ts' a' r') → attribute_word d ≡ attribute_word d'
words_same k d d' = cc (ap next_kind k, attribute_begins d, attribute_begins d')

pub plains_same : {s : List ℕ} {ts ts' r r' : List Token} {a a' : T.Attribute} → ts ≡ ts' → (d : SpellsAttribute s ts a r) → (d' : SpellsAttribute s ts' a' r') → attribute_plain d ≡ attribute_plain d'
plains_same k d d' = sym (attribute_is_plain d) ∙ (ap plain_attribute (words_same k d d') ∙ attribute_is_plain d')

pub attribute_same : {s : List ℕ} {ts ts' r r' : List Token} {a a' : T.Attribute} → ts ≡ ts' → SpellsAttribute s ts a r → SpellsAttribute s ts' a' r' → Same a a' r r'
unfolding attribute_word attribute_plain
attribute_same {s} k (G.plain ts rest t word a take is) (G.plain ts' rest' t' word' a' take' is') =
    let b = same_take k take take' in
    let value : a ≡ a' = cc (plains_same {s = s} k (G.plain ts rest t word a take is) (G.plain ts' rest' t' word' a' take' is')) in
    record { value = value; rest = b.rest }
attribute_same k (G.fixed ts after rest t p take of) (G.fixed ts' after' rest' t' p' take' of') =
    let f = precision_same (same_take k take take').rest of of' in
    record { value = ap T.Fixed f.value; rest = f.rest }
attribute_same k (G.binary ts after rest t p take of) (G.binary ts' after' rest' t' p' take' of') =
    let f = precision_same (same_take k take take').rest of of' in
    record { value = ap T.Binary f.value; rest = f.rest }
attribute_same k (G.character ts after rest t p take of) (G.character ts' after' rest' t' p' take' of') =
    let f = size_same (same_take k take take').rest of of' in
    record { value = ap T.Character f.value; rest = f.rest }
attribute_same k (G.bit ts after rest t take of) (G.bit ts' after' rest' t' take' of') = record { value = refl; rest = bit_length_same (same_take k take take').rest of of' }
attribute_same k (G.offset ts after rest t p take of) (G.offset ts' after' rest' t' p' take' of') =
    let f = owner_same (same_take k take take').rest of of' in
    record { value = ap T.Offset f.value; rest = f.rest }
attribute_same k (G.area ts after rest t p take of) (G.area ts' after' rest' t' p' take' of') =
    let f = size_same (same_take k take take').rest of of' in
    record { value = ap T.Area f.value; rest = f.rest }
attribute_same k (G.based ts after rest t p take of) (G.based ts' after' rest' t' p' take' of') =
    let f = owner_same (same_take k take take').rest of of' in
    record { value = ap T.Based f.value; rest = f.rest }
attribute_same k (G.initial ts after mid behind rest t u v xs take o of c) (G.initial ts' after' mid' behind' rest' t' u' v' xs' take' o' of' c') =
    let a = same_take (same_take k take take').rest o o' in
    let f = initial_items_same a.rest of of' in
    let b = same_take f.rest c c' in
    record { value = ap T.Initial f.value; rest = b.rest }
attribute_same k d d' = absurd (cc (both_same (words_same k d d') (plains_same k d d')))

-- an attribute begins with a name
pub attribute_named : {s : List ℕ} {ts r : List Token} {a : T.Attribute} → SpellsAttribute s ts a r → is_name (next_kind ts) ≡ true
attribute_named d = ap is_name (attribute_begins d)

pub attributes_same : {s : List ℕ} {ts ts' r r' : List Token} {x x' : List T.Attribute} → ts ≡ ts' → SpellsAttributes s ts x r → SpellsAttributes s ts' x' r' → Same x x' r r'
attributes_same k (G.no_attribute ts stop) (G.no_attribute ts' stop') = record { value = refl; rest = k }
attributes_same k (G.no_attribute ts stop) (G.attribute ts' mid rest a others first behind) = absurd (cc (ap (λ u. is_name (next_kind u)) k, stop, attribute_named first))
attributes_same k (G.attribute ts mid rest a others first behind) (G.no_attribute ts' stop) = absurd (cc (ap (λ u. is_name (next_kind u)) k, stop, attribute_named first))
attributes_same k (G.attribute ts mid rest a others first behind) (G.attribute ts' mid' rest' a' others' first' behind') =
    let f = attribute_same k first first' in
    let g = attributes_same f.rest behind behind' in
    let value : a ∷ others ≡ a' ∷ others' = cc (f.value, g.value) in
    record { value = value; rest = g.rest }

-- ---- items of DECLARE

pub declared_name_same : {s : List ℕ} {ts ts' r r' : List Token} {d d' : T.DeclaredName} → ts ≡ ts' → SpellsDeclaredName s ts d r → SpellsDeclaredName s ts' d' r' → Same d d' r r'
declared_name_same {s} k (G.declared_name ts after rest t word bs take of) (G.declared_name ts' after' rest' t' word' bs' take' of') =
    let a = name_same s k take take' in
    let f = dimensions_same a.rest of of' in
    record { value = cc (a.value, f.value); rest = f.rest }

pub declared_names_same : {s : List ℕ} {ts ts' r r' : List Token} {x x' : List T.DeclaredName} → ts ≡ ts' → SpellsDeclaredNames s ts x r → SpellsDeclaredNames s ts' x' r' → Same x x' r r'
declared_names_same k (G.one_name ts rest x of stop) (G.one_name ts' rest' x' of' stop') =
    let f = declared_name_same k of of' in
    record { value = ap (λ u. u ∷ []) f.value; rest = f.rest }
declared_names_same k (G.one_name ts rest x of stop) (G.further_names ts' mid after rest' t x' xs of' comma behind) = absurd (stops_here (declared_name_same k of of').rest stop comma)
declared_names_same k (G.further_names ts mid after rest t x xs of comma behind) (G.one_name ts' rest' x' of' stop) = absurd (stops_here (sym (declared_name_same k of of').rest) stop comma)
declared_names_same k (G.further_names ts mid after rest t x xs of comma behind) (G.further_names ts' mid' after' rest' t' x' xs' of' comma' behind') =
    let f = declared_name_same k of of' in
    let c = same_take f.rest comma comma' in
    let g = declared_names_same c.rest behind behind' in
    let value : x ∷ xs ≡ x' ∷ xs' = cc (f.value, g.value) in
    record { value = value; rest = g.rest }

pub level_same : {ts ts' r r' : List Token} {x x' : Option ℕ} → ts ≡ ts' → SpellsLevel ts x r → SpellsLevel ts' x' r' → Same x x' r r'
level_same k (G.no_level ts stop) (G.no_level ts' stop') = record { value = refl; rest = k }
level_same k (G.no_level ts stop) (G.level ts' rest t n take) = absurd (stops_here k (stop n) take)
level_same k (G.level ts rest t n take) (G.no_level ts' stop) = absurd (stops_here (sym k) (stop n) take)
level_same k (G.level ts rest t n take) (G.level ts' rest' t' n' take') =
    let a = same_take k take take' in
    let value : n ≡ n' = cc (a.kind) in
    record { value = ap Some value; rest = a.rest }

pub front_same : {s : List ℕ} {ts ts' r r' : List Token} {x x' : G.ItemFront} → ts ≡ ts' → SpellsFront s ts x r → SpellsFront s ts' x' r' → Same x x' r r'
front_same k (G.single ts mid rest n d of name) (G.single ts' mid' rest' n' d' of' name') =
    let f = level_same k of of' in
    let g = declared_name_same f.rest name name' in
    record { value = cc (f.value, g.value); rest = g.rest }
front_same k (G.single ts mid rest n d of (G.declared_name mid' at rest' t word bs take dims)) (G.factored ts' mid'' after inside behind rest'' u v n' ds bs' of' o names c dims') =
    let f = level_same k of of' in
    absurd (cc ((same_take f.rest take o).kind))
front_same k (G.factored ts mid after inside behind rest u v n ds bs of o names c dims) (G.single ts' mid' rest' n' d of' (G.declared_name mid'' at rest'' t word bs' take dims')) =
    let f = level_same k of of' in
    absurd (cc ((same_take f.rest o take).kind))
front_same k (G.factored ts mid after inside behind rest u v n ds bs of o names c dims) (G.factored ts' mid' after' inside' behind' rest' u' v' n' ds' bs' of' o' names' c' dims') =
    let f = level_same k of of' in
    let a = same_take f.rest o o' in
    let g = declared_names_same a.rest names names' in
    let b = same_take g.rest c c' in
    let h = dimensions_same b.rest dims dims' in
    record { value = cc (f.value, g.value, h.value); rest = h.rest }

item_of : G.ItemFront → List T.Attribute → T.DeclareItem
item_of f attributes = record { level = f.level; names = f.names; dimensions = f.dimensions; attributes = attributes }

pub declare_item_same : {s : List ℕ} {ts ts' r r' : List Token} {d d' : T.DeclareItem} → ts ≡ ts' → SpellsDeclareItem s ts d r → SpellsDeclareItem s ts' d' r' → Same d d' r r'
unfolding item_of
declare_item_same k (G.declare_item ts mid rest f attributes front of) (G.declare_item ts' mid' rest' f' attributes' front' of') =
    let g = front_same k front front' in
    let h = attributes_same g.rest of of' in
    let value : item_of f attributes ≡ item_of f' attributes' = cc (ap item_of g.value, h.value) in
    record { value = value; rest = h.rest }

pub declare_items_same : {s : List ℕ} {ts ts' r r' : List Token} {x x' : List T.DeclareItem} → ts ≡ ts' → SpellsDeclareItems s ts x r → SpellsDeclareItems s ts' x' r' → Same x x' r r'
declare_items_same k (G.one_item ts rest x of stop) (G.one_item ts' rest' x' of' stop') =
    let f = declare_item_same k of of' in
    record { value = ap (λ u. u ∷ []) f.value; rest = f.rest }
declare_items_same k (G.one_item ts rest x of stop) (G.further_items ts' mid after rest' t x' xs of' comma behind) = absurd (stops_here (declare_item_same k of of').rest stop comma)
declare_items_same k (G.further_items ts mid after rest t x xs of comma behind) (G.one_item ts' rest' x' of' stop) = absurd (stops_here (sym (declare_item_same k of of').rest) stop comma)
declare_items_same k (G.further_items ts mid after rest t x xs of comma behind) (G.further_items ts' mid' after' rest' t' x' xs' of' comma' behind') =
    let f = declare_item_same k of of' in
    let c = same_take f.rest comma comma' in
    let g = declare_items_same c.rest behind behind' in
    let value : x ∷ xs ≡ x' ∷ xs' = cc (f.value, g.value) in
    record { value = value; rest = g.rest }
