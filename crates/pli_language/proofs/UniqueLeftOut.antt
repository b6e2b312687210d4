-- What is left out stands at one place, with one set of marks, and no head that holds it is spelled.
use Rattle.std.proofs.Common.{◌≡◌, ◌≢◌, ℕ, List, [], Option, Some, None, Bool, true, false, refl, sym, ap, ◌∙◌, subst}
use Rattle.std.specs.Prelude.{if◌then◌else◌}
use Rattle.pli_language.specs.declared.token.Word.{Word}
use Rattle.pli_language.specs.declared.token.Word.TheVariants as W
use Rattle.pli_language.specs.declared.token.Symbol.TheVariants as S
use Rattle.pli_language.specs.declared.token.Kind.TheVariants as K
use Rattle.pli_language.specs.declared.token.Token.{Token}
use Rattle.pli_language.specs.Tree as T
use Rattle.pli_language.specs.Spells.{Takes, next_kind, SpellsCount}
use Rattle.pli_language.specs.Attributes as A
use Rattle.pli_language.specs.Attributes.{is_name, plain_attribute, is_left_out_attribute, has_precision, attribute_marks, declare_item_marks, front_marks, SpellsPrecision, SpellsBitLength, SpellsAttribute, SpellsAttributes, SpellsDeclareItem, SpellsDeclareItems, LeavesOutAttribute, LeavesOutAttributes, LeavesOutItems}
use Rattle.pli_language.specs.Formats.{Direction}
use Rattle.pli_language.specs.Marks.{Marks}
use Rattle.pli_language.specs.Heads as G
use Rattle.pli_language.specs.Heads.{Opens, is_left_out_head, is_left_out_stream, stream_word, option_marks, parameters_marks, Moves, SpellsOption, SpellsOptions, SpellsStreamOptions, SpellsEdit, SpellsSimple, SpellsHead, LeavesOutOptions, LeavesOut}
use Rattle.pli_language.proofs.Unique.{both_same, same_take, next_taken, stops_here, count_same}
use Rattle.pli_language.proofs.UniqueAttributes.{attribute_word, attribute_plain, attribute_begins, attribute_is_plain, attribute_named, attribute_same, front_same, declare_item_same}
use Rattle.pli_language.proofs.UniqueParts.{parameters_same, option_begins, option_same}
use Rattle.pli_language.proofs.UniqueHeads.{Form, LeavingOut, Keyed, HasForm, form_of, kept_form, form_once, form_some, is_simple, move_form, simple_form, simple_has_form, simple_is_simple, head_form, head_has_form, head_simple, head_is_simple}

-- two readings end at one place and come to the same marks
pub record SamePlace (r r' : List Token) (m m' : Marks) : Type 0 where
  pub rest : r ≡ r'
  pub marks : m ≡ m'

-- ---- attributes

plain_kept : (w : Word) (a : T.Attribute) → plain_attribute w ≡ Some a → is_left_out_attribute w ≡ false
plain_kept W.Varying a e = refl
plain_kept W.Pointer a e = refl
plain_kept W.Ptr a e = refl
plain_kept W.Automatic a e = refl
plain_kept W.Static a e = refl
plain_kept W.Controlled a e = refl
plain_kept W.Builtin a e = refl
plain_kept W.Aligned a e = refl
plain_kept W.Unaligned a e = refl
plain_kept W.Internal a e = refl
plain_kept w a e = absurd (cc e)

precise_not_plain : (w : Word) → has_precision w ≡ true → plain_attribute w ≡ None
precise_not_plain W.Fixed e = refl
precise_not_plain W.Binary e = refl
precise_not_plain w e = absurd (cc e)

attribute_kept : {s : List ℕ} {ts r : List Token} {a : T.Attribute} → (d : SpellsAttribute s ts a r) → is_left_out_attribute (attribute_word d) ≡ false
unfolding attribute_word
attribute_kept (A.plain ts rest t word a take is) = plain_kept word a is
attribute_kept (A.fixed ts after rest t p take of) = refl
attribute_kept (A.binary ts after rest t p take of) = refl
attribute_kept (A.character ts after rest t n take of) = refl
attribute_kept (A.bit ts after rest t take of) = refl
attribute_kept (A.offset ts after rest t x take of) = refl
attribute_kept (A.area ts after rest t n take of) = refl
attribute_kept (A.based ts after rest t x take of) = refl
attribute_kept (A.initial ts after mid behind rest t u v xs take o of c) = refl

-- an attribute that stands where this word is taken is that word's
word_is : {s : List ℕ} {ts ts' r r' : List Token} {t : Token} {w : Word} {a : T.Attribute} → ts ≡ ts' → Takes ts (K.Name w) t r → (d : SpellsAttribute s ts' a r') → w ≡ attribute_word d
word_is k take d = cc (ap next_kind k, next_taken take, attribute_begins d)

plain_is : {s : List ℕ} {ts ts' r r' : List Token} {t : Token} {w : Word} {a : T.Attribute} → ts ≡ ts' → Takes ts (K.Name w) t r → (d : SpellsAttribute s ts' a r') → plain_attribute w ≡ attribute_plain d
plain_is k take d = ap plain_attribute (word_is k take d) ∙ attribute_is_plain d

bits_no_length : {ts ts' r r' : List Token} {n : ℕ} → ts ≡ ts' → SpellsCount ts n r → n ≢ 1 → SpellsBitLength ts' r' → ⊥
bits_no_length k c other (A.no_bit_length ts stop) = stops_here (sym k) stop c.opened
bits_no_length k c other (A.bit_length ts rest c') = other (count_same k c c').value

no_bits : {s : List ℕ} {ts ts' at r r' : List Token} {t : Token} {n : ℕ} {a : T.Attribute} → ts ≡ ts' → Takes ts (K.Name W.Bit) t at → SpellsCount at n r → n ≢ 1 → SpellsAttribute s ts' a r' → ⊥
unfolding attribute_word attribute_plain
no_bits k take c other (A.bit ts after rest t take' of) = bits_no_length (same_take k take take').rest c other of
no_bits k take c other d = cc (both_same (word_is k take d) (plain_is k take d))

-- a scale other than 0
record Scaled (ts : List Token) : Type 0 where
  after : List Token
  mid : List Token
  behind : List Token
  inside : List Token
  u : Token
  v : Token
  w : Token
  x : Token
  n : ℕ
  q : ℕ
  opened : Takes ts (K.Symbol S.OpenParenthesis) u after
  counted : Takes after (K.Number n) v mid
  comma : Takes mid (K.Symbol S.Comma) w behind
  scale : Takes behind (K.Number q) x inside
  other : q ≢ 0

scaled_no_precision : {ts ts' r : List Token} {p : Option ℕ} → ts ≡ ts' → Scaled ts → SpellsPrecision ts' p r → ⊥
scaled_no_precision k c (A.no_precision ts stop) = stops_here (sym k) stop c.opened
scaled_no_precision k c (A.digits ts rest n d) =
    let a = same_take k c.opened d.opened in
    let b = same_take a.rest c.counted d.counted in
    cc ((same_take b.rest c.comma d.closed).kind)
scaled_no_precision k c (A.digits_and_scale ts after mid behind inside rest t u v w x n o counted comma scale close) =
    let a = same_take k c.opened o in
    let b = same_take a.rest c.counted counted in
    let d = same_take b.rest c.comma comma in
    let e = same_take d.rest c.scale scale in
    c.other (cc (e.kind))

no_scale : {s : List ℕ} {ts ts' at r : List Token} {t : Token} {word : Word} {a : T.Attribute} → ts ≡ ts' → Takes ts (K.Name word) t at → has_precision word ≡ true → Scaled at → SpellsAttribute s ts' a r → ⊥
unfolding attribute_word attribute_plain
no_scale k take precise c (A.fixed ts after rest t p take' of) = scaled_no_precision (same_take k take take').rest c of
no_scale k take precise c (A.binary ts after rest t p take' of) = scaled_no_precision (same_take k take take').rest c of
no_scale {word = word} k take precise c d = cc (both_same (sym (ap has_precision (word_is k take d)) ∙ precise) (sym (plain_is k take d) ∙ precise_not_plain word precise))

-- an attribute that is left out is spelled nowhere
pub no_attribute : {s : List ℕ} {ts ts' r : List Token} {a : T.Attribute} → ts ≡ ts' → LeavesOutAttribute ts → SpellsAttribute s ts' a r → ⊥
no_attribute k (A.word ts rest t word take out) d = cc (ap is_left_out_attribute (word_is k take d), out, attribute_kept d)
no_attribute k (A.bits ts after rest t n take c other) d = no_bits k take c other d
no_attribute k (A.scale ts at after mid behind inside rest t u v w x y word n q take precise o counted comma scale other close) d =
    no_scale k take precise (record { after = after; mid = mid; behind = behind; inside = inside; u = u; v = v; w = w; x = x; n = n; q = q; opened = o; counted = counted; comma = comma; scale = scale; other = other }) d

left_out_named : {ts : List Token} → LeavesOutAttribute ts → is_name (next_kind ts) ≡ true
left_out_named (A.word ts rest t word take out) = ap is_name (next_taken take)
left_out_named (A.bits ts after rest t n take c other) = ap is_name (next_taken take)
left_out_named (A.scale ts at after mid behind inside rest t u v w x y word n q take precise o counted comma scale other close) = ap is_name (next_taken take)

pub no_attributes : {s : List ℕ} {ts ts' at r : List Token} {m m' : Marks} {x : List T.Attribute} → ts ≡ ts' → LeavesOutAttributes s ts m at m' → SpellsAttributes s ts' x r → ⊥
no_attributes k (A.here ts m out) (A.no_attribute ts' stop) = cc (ap (λ u. is_name (next_kind u)) k, stop, left_out_named out)
no_attributes k (A.here ts m out) (A.attribute ts' mid rest a others first behind) = no_attribute k out first
no_attributes k (A.later ts mid at m m' a first more) (A.no_attribute ts' stop) = cc (ap (λ u. is_name (next_kind u)) k, stop, attribute_named first)
no_attributes k (A.later ts mid at m m' a first more) (A.attribute ts' mid' rest a' others first' behind) = no_attributes (attribute_same k first first').rest more behind

pub left_out_attributes_same : {s : List ℕ} {ts ts' r r' : List Token} {m m' n n' : Marks} → ts ≡ ts' → m ≡ m' → LeavesOutAttributes s ts m r n → LeavesOutAttributes s ts' m' r' n' → SamePlace r r' n n'
left_out_attributes_same k h (A.here ts m out) (A.here ts' m' out') = record { rest = k; marks = h }
left_out_attributes_same k h (A.here ts m out) (A.later ts' mid at m' n' a first more) = absurd (no_attribute k out first)
left_out_attributes_same k h (A.later ts mid at m n a first more) (A.here ts' m' out) = absurd (no_attribute (sym k) out first)
left_out_attributes_same k h (A.later ts mid at m n a first more) (A.later ts' mid' at' m' n' a' first' more') =
    let f = attribute_same k first first' in
    let marks : attribute_marks a m ≡ attribute_marks a' m' = cc (ap attribute_marks f.value, h) in
    left_out_attributes_same f.rest marks more more'

-- ---- declarations

pub no_item : {s : List ℕ} {ts ts' mid at r : List Token} {f : A.ItemFront} {d : T.DeclareItem} {m m' : Marks} → ts ≡ ts' → A.SpellsFront s ts f mid → LeavesOutAttributes s mid m at m' → SpellsDeclareItem s ts' d r → ⊥
no_item k front out (A.declare_item ts mid rest f attributes front' of) = no_attributes (front_same k front front').rest out of

pub no_items : {s : List ℕ} {ts ts' at r : List Token} {m m' : Marks} {x : List T.DeclareItem} → ts ≡ ts' → LeavesOutItems s ts m at m' → SpellsDeclareItems s ts' x r → ⊥
no_items k (A.in_item ts mid at m m' f front out) (A.one_item ts' rest d of stop) = no_item k front out of
no_items k (A.in_item ts mid at m m' f front out) (A.further_items ts' mid' after rest t d ds of comma behind) = no_item k front out of
no_items k (A.behind_item ts mid after at t m m' d of comma more) (A.one_item ts' rest d' of' stop) = stops_here (sym (declare_item_same k of of').rest) stop comma
no_items k (A.behind_item ts mid after at t m m' d of comma more) (A.further_items ts' mid' after' rest' t' d' ds' of' comma' behind') =
    let f = declare_item_same k of of' in
    no_items (same_take f.rest comma comma').rest more behind'

pub left_out_items_same : {s : List ℕ} {ts ts' r r' : List Token} {m m' n n' : Marks} → ts ≡ ts' → m ≡ m' → LeavesOutItems s ts m r n → LeavesOutItems s ts' m' r' n' → SamePlace r r' n n'
left_out_items_same k h (A.in_item ts mid at m n f front out) (A.in_item ts' mid' at' m' n' f' front' out') =
    let g = front_same k front front' in
    let marks : front_marks f m ≡ front_marks f' m' = cc (ap front_marks g.value, h) in
    left_out_attributes_same g.rest marks out out'
left_out_items_same k h (A.in_item ts mid at m n f front out) (A.behind_item ts' mid' after' at' t' m' n' d' of' comma' more') = absurd (no_item k front out of')
left_out_items_same k h (A.behind_item ts mid after at t m n d of comma more) (A.in_item ts' mid' at' m' n' f' front' out') = absurd (no_item (sym k) front' out' of)
left_out_items_same k h (A.behind_item ts mid after at t m n d of comma more) (A.behind_item ts' mid' after' at' t' m' n' d' of' comma' more') =
    let f = declare_item_same k of of' in
    let c = same_take f.rest comma comma' in
    let marks : declare_item_marks d m ≡ declare_item_marks d' m' = cc (ap declare_item_marks f.value, h) in
    left_out_items_same c.rest marks more more'

-- ---- options of procedures

no_returns : {s : List ℕ} {ts ts' after mid at r : List Token} {t u : Token} {m m' : Marks} {o : T.ProcedureOption} → ts ≡ ts' → Takes ts (K.Name W.Returns) t after → Takes after (K.Symbol S.OpenParenthesis) u mid → LeavesOutAttributes s mid m at m' → SpellsOption s ts' o r → ⊥
no_returns k take o out (G.main ts after mid behind rest t u v w a b c d) = cc ((same_take k take a).kind)
no_returns k take o out (G.recursive ts rest t take') = cc ((same_take k take take').kind)
no_returns k take o out (G.returns ts after mid behind rest t u v a others take' o' of c) =
    let b = same_take k take take' in
    no_attributes (same_take b.rest o o').rest out of

pub no_options : {s : List ℕ} {ts ts' at r : List Token} {m m' : Marks} {x : List T.ProcedureOption} → ts ≡ ts' → LeavesOutOptions s ts m at m' → SpellsOptions s ts' x r → ⊥
no_options k (G.in_returns ts after mid at m m' t u take o out) (G.no_option ts' stop) = cc (ap next_kind k, stop, next_taken take)
no_options k (G.in_returns ts after mid at m m' t u take o out) (G.option ts' mid' rest x others first behind) = no_returns k take o out first
no_options k (G.behind_option ts mid at m m' o first more) (G.no_option ts' stop) = cc (ap next_kind k, stop, option_begins first)
no_options k (G.behind_option ts mid at m m' o first more) (G.option ts' mid' rest x others first' behind) = no_options (option_same k first first').rest more behind

pub left_out_options_same : {s : List ℕ} {ts ts' r r' : List Token} {m m' n n' : Marks} → ts ≡ ts' → m ≡ m' → LeavesOutOptions s ts m r n → LeavesOutOptions s ts' m' r' n' → SamePlace r r' n n'
left_out_options_same k h (G.in_returns ts after mid at m n t u take o out) (G.in_returns ts' after' mid' at' m' n' t' u' take' o' out') =
    let b = same_take k take take' in
    left_out_attributes_same (same_take b.rest o o').rest h out out'
left_out_options_same k h (G.in_returns ts after mid at m n t u take o out) (G.behind_option ts' mid' at' m' n' x' first' more') = absurd (no_returns k take o out first')
left_out_options_same k h (G.behind_option ts mid at m n x first more) (G.in_returns ts' after' mid' at' m' n' t' u' take' o' out') = absurd (no_returns (sym k) take' o' out' first)
left_out_options_same k h (G.behind_option ts mid at m n x first more) (G.behind_option ts' mid' at' m' n' x' first' more') =
    let f = option_same k first first' in
    let marks : option_marks x m ≡ option_marks x' m' = cc (ap option_marks f.value, h) in
    left_out_options_same f.rest marks more more'

-- ---- heads

unfoldable pub left_out_form : {s : List ℕ} {ts r : List Token} {m n : Marks} → LeavesOut s ts m r n → Form
left_out_form (G.head ts rest m t word o out) = LeavingOut
left_out_form (G.stream d ts after rest m t u word o take out) = Keyed W.Get
left_out_form (G.declare ts after at m m' t o out) = Keyed W.Declare
left_out_form (G.procedure ts after mid at m m' t ns o of out) = Keyed W.Procedure

leaving_out : (w : Word) → is_left_out_head w ≡ true → form_of w ≡ LeavingOut
leaving_out w e = ap (λ u. if u then LeavingOut else kept_form w) e

head_left_out : {s : List ℕ} {ts r : List Token} {t : Token} {w : Word} → Opens s ts w t r → is_left_out_head w ≡ true → HasForm s ts LeavingOut
head_left_out {s} {ts} {r} {t} {w} o out = subst (λ u. HasForm s ts u) (leaving_out w out) (HasForm.keyed w t r o)

pub left_out_has_form : {s : List ℕ} {ts r : List Token} {m n : Marks} → (d : LeavesOut s ts m r n) → HasForm s ts (left_out_form d)
unfolding left_out_form
left_out_has_form (G.head ts rest m t word o out) = head_left_out o out
left_out_has_form (G.stream d ts after rest m t u word o take out) = move_form d o
left_out_has_form (G.declare ts after at m m' t o out) = HasForm.keyed W.Declare t after o
left_out_has_form (G.procedure ts after mid at m m' t ns o of out) = HasForm.keyed W.Procedure t after o

pub left_out_some : {s : List ℕ} {ts r : List Token} {m n : Marks} → LeavesOut s ts m r n → ts ≡ [] → ⊥
left_out_some d = form_some (left_out_has_form d)

left_out_forms : {s : List ℕ} {ts ts' r r' : List Token} {m m' n n' : Marks} → ts ≡ ts' → (d : LeavesOut s ts m r n) → (d' : LeavesOut s ts' m' r' n') → left_out_form d ≡ left_out_form d'
left_out_forms k d d' = form_once k (left_out_has_form d) (left_out_has_form d')

pub left_out_same : {s : List ℕ} {ts ts' r r' : List Token} {m m' n n' : Marks} → ts ≡ ts' → m ≡ m' → LeavesOut s ts m r n → LeavesOut s ts' m' r' n' → SamePlace r r' n n'
unfolding left_out_form
left_out_same k h (G.head ts rest m t word o out) (G.head ts' rest' m' t' word' o' out') = record { rest = k; marks = h }
left_out_same k h (G.stream d ts after rest m t u word o take out) (G.stream d' ts' after' rest' m' t' u' word' o' take' out') =
    let b = same_take k o.taken o'.taken in
    record { rest = b.rest; marks = h }
left_out_same k h (G.declare ts after at m n t o out) (G.declare ts' after' at' m' n' t' o' out') = left_out_items_same (same_take k o.taken o'.taken).rest h out out'
left_out_same k h (G.procedure ts after mid at m n t ns o of out) (G.procedure ts' after' mid' at' m' n' t' ns' o' of' out') =
    let f = parameters_same (same_take k o.taken o'.taken).rest of of' in
    let marks : parameters_marks 0 ns m ≡ parameters_marks 0 ns' m' = cc (ap (parameters_marks 0) f.value, h) in
    left_out_options_same f.rest marks out out'
left_out_same k h d d' = absurd (cc (left_out_forms k d d'))

-- ---- no head

no_move : {k : Option T.Skip} {ps : List T.EditPair} → None ≡ k → [] ≡ ps → Moves k ps → ⊥
no_move e f (G.skips k ps) = cc e
no_move e f (G.edits k p ps) = cc f

no_edit : {s : List ℕ} {ts ts' r r' : List Token} {u : Token} {word : Word} {ps : List T.EditPair} {y : Option T.Skip} → ts ≡ ts' → Takes ts (K.Name word) u r → is_left_out_stream word ≡ true → SpellsEdit s ts' ps r' → None ≡ y → Moves y ps → ⊥
no_edit k take out (G.no_edit ts stop) none moves = no_move none refl moves
no_edit {word = word} k take out (G.edit ts after rest t ps take' of) none moves =
    let a = same_take k take take' in
    let e : word ≡ W.Edit = cc (a.kind) in
    cc (ap is_left_out_stream e, out)

no_stream_options : {s : List ℕ} {d : Direction} {b : Bool} {ts ts' mid r r' : List Token} {u : Token} {word : Word} {ps : List T.EditPair} {x y : Option T.Skip} → None ≡ x → ts ≡ ts' → Takes ts (K.Name word) u r → is_left_out_stream word ≡ true → SpellsStreamOptions s d b x ts' y mid → SpellsEdit s mid ps r' → Moves y ps → ⊥
no_stream_options none k take out (G.options_end b y ts no_file no_skip) pairs moves = no_edit k take out pairs none moves
no_stream_options {word = word} none k take out (G.file z y ts after mid behind at rest t u v w take' o name c more) pairs moves =
    let e : word ≡ W.File = cc ((same_take k take take').kind) in
    cc (ap is_left_out_stream e, out)
no_stream_options {word = word} none k take out (G.skip b y ts after mid rest t n take' of more) pairs moves =
    let e : word ≡ W.Skip = cc ((same_take k take take').kind) in
    cc (ap is_left_out_stream e, out)

no_stream : {s : List ℕ} (d : Direction) → {ts ts' after rest r : List Token} {t u : Token} {word : Word} {m n : Marks} {x : T.Stmt} → ts ≡ ts' → Opens s ts (stream_word d) t after → Takes after (K.Name word) u rest → is_left_out_stream word ≡ true → SpellsSimple s ts' m x r n → ⊥
unfolding simple_form
no_stream d k o take out (G.move d' ts' after' mid rest' m t' y ps o' of pairs moves) = no_stream_options refl (same_take k o.taken o'.taken).rest take out of pairs moves
no_stream d k o take out x = cc (form_once k (move_form d o) (simple_has_form x))

forms_meet : {s : List ℕ} {ts ts' r r' : List Token} {m m' n n' : Marks} {x : G.Head} → ts ≡ ts' → (d : LeavesOut s ts m r n) → (h : SpellsHead s ts' m' x r' n') → left_out_form d ≡ head_form h
forms_meet k d h = form_once k (left_out_has_form d) (head_has_form h)

simple_meets : {s : List ℕ} {ts ts' r r' : List Token} {m m' n n' : Marks} {x : G.Head} → ts ≡ ts' → (d : LeavesOut s ts m r n) → (h : SpellsHead s ts' m' x r' n') → is_simple (left_out_form d) ≡ head_simple h
simple_meets k d h = ap is_simple (forms_meet k d h) ∙ head_is_simple h

-- a head that holds something that is left out is spelled nowhere
pub no_head : {s : List ℕ} {ts ts' r r' : List Token} {m m' n n' : Marks} {x : G.Head} → ts ≡ ts' → LeavesOut s ts m r n → SpellsHead s ts' m' x r' n' → ⊥
unfolding left_out_form head_form head_simple
no_head k (G.head ts rest m t word o out) (G.simple ts' mid' rest' m' n' u' x' of' semi') = cc (ap is_simple (form_once k (head_left_out o out) (simple_has_form of')), simple_is_simple of')
no_head k (G.stream d ts after rest m t u word o take out) (G.simple ts' mid' rest' m' n' u' x' of' semi') = no_stream d k o take out of'
no_head k (G.declare ts after at m n t o out) (G.declare ts' after' mid' rest' m' t' u' ds' o' of' semi') = no_items (same_take k o.taken o'.taken).rest out of'
no_head k (G.procedure ts after mid at m n t ns o of out) (G.procedure ts' after' mid' behind' rest' m' t' u' ns' options' o' of' of_options' semi') =
    no_options (parameters_same (same_take k o.taken o'.taken).rest of of').rest out of_options'
no_head k d h = cc (both_same (forms_meet k d h) (simple_meets k d h))
