-- Format lists, and data lists with them, are spelled one way.
use Rattle.std.proofs.Common.{◌≡◌, ℕ, List, [], ◌∷◌, Option, Some, true, refl, sym, ap, ◌∙◌}
use Rattle.pli_language.specs.declared.token.Word.TheVariants as W
use Rattle.pli_language.specs.declared.token.Symbol.TheVariants as S
use Rattle.pli_language.specs.declared.token.Kind.{Kind}
use Rattle.pli_language.specs.declared.token.Kind.TheVariants as K
use Rattle.pli_language.specs.declared.token.Token.{Token}
use Rattle.pli_language.specs.Tree as T
use Rattle.pli_language.specs.Spells.{next_kind, place_of, SpellsCount}
use Rattle.pli_language.specs.Formats as G
use Rattle.pli_language.specs.Formats.{SpellsNumberOrOne, SpellsWidth, SpellsTimes, SpellsFormat, SpellsFormatItems, SpellsFormats, SpellsPair, SpellsPairs}
use Rattle.pli_language.proofs.Unique.{Same, same_take, next_taken, stops_here, count_same, exprs_same}

pub number_or_one_same : {ts ts' r r' : List Token} {n n' : ℕ} → ts ≡ ts' → SpellsNumberOrOne ts n r → SpellsNumberOrOne ts' n' r' → Same n n' r r'
number_or_one_same k (G.one ts stop) (G.one ts' stop') = record { value = refl; rest = k }
number_or_one_same k (G.one ts stop) (G.given ts' rest n c) = absurd (stops_here k stop c.opened)
number_or_one_same k (G.given ts rest n c) (G.one ts' stop) = absurd (stops_here (sym k) stop c.opened)
number_or_one_same k (G.given ts rest n c) (G.given ts' rest' n' c') = count_same k c c'

pub width_same : {ts ts' r r' : List Token} {n n' : Option ℕ} → ts ≡ ts' → SpellsWidth ts n r → SpellsWidth ts' n' r' → Same n n' r r'
width_same k (G.no_width ts stop) (G.no_width ts' stop') = record { value = refl; rest = k }
width_same k (G.no_width ts stop) (G.width ts' rest n c) = absurd (stops_here k stop c.opened)
width_same k (G.width ts rest n c) (G.no_width ts' stop) = absurd (stops_here (sym k) stop c.opened)
width_same k (G.width ts rest n c) (G.width ts' rest' n' c') =
    let f = count_same k c c' in
    record { value = ap Some f.value; rest = f.rest }

pub count_stands : {ts r : List Token} {n : ℕ} → SpellsCount ts n r → G.is_count ts ≡ true
count_stands {ts} {r} {n} c =
    let shape : ts ≡ c.open_token ∷ c.number_token ∷ c.close_token ∷ r = cc in
    let kinds : G.are_count c.open_token.kind c.number_token.kind c.close_token.kind ≡ G.are_count (K.Symbol S.OpenParenthesis) (K.Number n) (K.Symbol S.CloseParenthesis) = cc in
    ap G.is_count shape ∙ kinds

pub times_same : {ts ts' r r' : List Token} {n n' : ℕ} → ts ≡ ts' → SpellsTimes ts n r → SpellsTimes ts' n' r' → Same n n' r r'
times_same k (G.once ts no_number no_count) (G.once ts' no_number' no_count') = record { value = refl; rest = k }
times_same k (G.once ts no_number no_count) (G.number ts' rest t n take) = absurd (no_number n (ap next_kind k ∙ next_taken take))
times_same k (G.once ts no_number no_count) (G.in_parentheses ts' rest n c) = absurd (cc (ap G.is_count k, no_count, count_stands c))
times_same k (G.number ts rest t n take) (G.once ts' no_number no_count) = absurd (no_number n (ap next_kind (sym k) ∙ next_taken take))
times_same k (G.number ts rest t n take) (G.number ts' rest' t' n' take') =
    let a = same_take k take take' in
    record { value = cc (a.kind); rest = a.rest }
times_same k (G.number ts rest t n take) (G.in_parentheses ts' rest' n' c) = absurd (cc ((same_take k take c.opened).kind))
times_same k (G.in_parentheses ts rest n c) (G.once ts' no_number no_count) = absurd (cc (ap G.is_count k, no_count, count_stands c))
times_same k (G.in_parentheses ts rest n c) (G.number ts' rest' t n' take) = absurd (cc ((same_take k c.opened take).kind))
times_same k (G.in_parentheses ts rest n c) (G.in_parentheses ts' rest' n' c') = count_same k c c'

-- what a format begins with
format_first : {ts r : List Token} {f : T.Format} → SpellsFormat ts f r → Kind
format_first (G.nested ts rest fs of) = K.Symbol S.OpenParenthesis
format_first (G.fixed ts after rest t w take of) = K.Name W.F
format_first (G.text ts after rest t w take of) = K.Name W.A
format_first (G.space ts after rest t n take of) = K.Name W.X
format_first (G.skip ts after rest t n take of) = K.Name W.Skip
format_first (G.column ts after rest t n take of) = K.Name W.Column

pub formats_begin : {ts r : List Token} {fs : T.Formats} → SpellsFormats ts fs r → next_kind ts ≡ Some (K.Symbol S.OpenParenthesis)
formats_begin (G.formats ts after rest t fs take of) = next_taken take

format_begins : {ts r : List Token} {f : T.Format} → (d : SpellsFormat ts f r) → next_kind ts ≡ Some (format_first d)
unfolding format_first
format_begins (G.nested ts rest fs of) = formats_begin of
format_begins (G.fixed ts after rest t w take of) = next_taken take
format_begins (G.text ts after rest t w take of) = next_taken take
format_begins (G.space ts after rest t n take of) = next_taken take
format_begins (G.skip ts after rest t n take of) = next_taken take
format_begins (G.column ts after rest t n take of) = next_taken take

first_same : {ts ts' r r' : List Token} {f f' : T.Format} → ts ≡ ts' → (a : SpellsFormat ts f r) → (b : SpellsFormat ts' f' r') → format_first a ≡ format_first b
first_same k a b = cc (ap next_kind k, format_begins a, format_begins b)

mutual
  unfolding format_first

  pub format_same : {ts ts' r r' : List Token} {f f' : T.Format} → ts ≡ ts' → SpellsFormat ts f r → SpellsFormat ts' f' r' → Same f f' r r'
  format_same k (G.nested ts rest fs of) (G.nested ts' rest' fs' of') =
      let f = formats_same k of of' in
      record { value = ap T.FormatList f.value; rest = f.rest }
  format_same k (G.fixed ts after rest t w take of) (G.fixed ts' after' rest' t' w' take' of') =
      let f = count_same (same_take k take take').rest of of' in
      record { value = ap T.FixedFormat f.value; rest = f.rest }
  format_same k (G.text ts after rest t w take of) (G.text ts' after' rest' t' w' take' of') =
      let f = width_same (same_take k take take').rest of of' in
      record { value = ap T.TextFormat f.value; rest = f.rest }
  format_same k (G.space ts after rest t n take of) (G.space ts' after' rest' t' n' take' of') =
      let f = count_same (same_take k take take').rest of of' in
      record { value = ap T.SpaceFormat f.value; rest = f.rest }
  format_same k (G.skip ts after rest t n take of) (G.skip ts' after' rest' t' n' take' of') =
      let f = number_or_one_same (same_take k take take').rest of of' in
      record { value = ap T.SkipFormat f.value; rest = f.rest }
  format_same k (G.column ts after rest t n take of) (G.column ts' after' rest' t' n' take' of') =
      let f = count_same (same_take k take take').rest of of' in
      record { value = ap T.ColumnFormat f.value; rest = f.rest }
  format_same k a b = absurd (cc (first_same k a b))

  pub format_items_same : {ts ts' r r' : List Token} {f f' : T.Formats} → ts ≡ ts' → SpellsFormatItems ts f r → SpellsFormatItems ts' f' r' → Same f f' r r'
  format_items_same k (G.last_item ts behind mid rest t u n f is at times first close) (G.last_item ts' behind' mid' rest' t' u' n' f' is' at' times' first' close') =
      let a = times_same k times times' in
      let b = format_same a.rest first first' in
      let c = same_take b.rest close close' in
      let i : t ≡ t' = cc in
      let value : T.FormatThen (place_of t) n f T.NoFormat ≡ T.FormatThen (place_of t') n' f' T.NoFormat = cc (ap place_of i, a.value, b.value) in
      record { value = value; rest = c.rest }
  format_items_same k (G.last_item ts behind mid rest t u n f is at times first close) (G.further_items ts' behind' mid' after' rest' t' u' n' f' fs' is' at' times' first' comma' more') =
      let a = times_same k times times' in
      let b = format_same a.rest first first' in
      absurd (cc ((same_take b.rest close comma').kind))
  format_items_same k (G.further_items ts behind mid after rest t u n f fs is at times first comma more) (G.last_item ts' behind' mid' rest' t' u' n' f' is' at' times' first' close') =
      let a = times_same k times times' in
      let b = format_same a.rest first first' in
      absurd (cc ((same_take b.rest comma close').kind))
  format_items_same k (G.further_items ts behind mid after rest t u n f fs is at times first comma more) (G.further_items ts' behind' mid' after' rest' t' u' n' f' fs' is' at' times' first' comma' more') =
      let a = times_same k times times' in
      let b = format_same a.rest first first' in
      let c = same_take b.rest comma comma' in
      let d = format_items_same c.rest more more' in
      let i : t ≡ t' = cc in
      let value : T.FormatThen (place_of t) n f fs ≡ T.FormatThen (place_of t') n' f' fs' = cc (ap place_of i, a.value, b.value, d.value) in
      record { value = value; rest = d.rest }

  pub formats_same : {ts ts' r r' : List Token} {f f' : T.Formats} → ts ≡ ts' → SpellsFormats ts f r → SpellsFormats ts' f' r' → Same f f' r r'
  formats_same k (G.formats ts after rest t fs take of) (G.formats ts' after' rest' t' fs' take' of') = format_items_same (same_take k take take').rest of of'

-- ---- data lists with their format lists

pair_of : T.Exprs → T.Formats → Token → T.EditPair
pair_of es fs t = record { items = es; formats = fs; place = place_of t }

pub pair_same : {s : List ℕ} {ts ts' r r' : List Token} {p p' : T.EditPair} → ts ≡ ts' → SpellsPair s ts p r → SpellsPair s ts' p' r' → Same p p' r r'
unfolding pair_of
pair_same k (G.pair ts after mid behind inside rest t u v es fs o inner c is list) (G.pair ts' after' mid' behind' inside' rest' t' u' v' es' fs' o' inner' c' is' list') =
    let a = same_take k o o' in
    let g = exprs_same a.rest inner inner' in
    let b = same_take g.rest c c' in
    let h = formats_same b.rest list list' in
    let i : v ≡ v' = cc (b.rest) in
    let value : pair_of es fs v ≡ pair_of es' fs' v' = cc (g.value, h.value, i) in
    record { value = value; rest = h.rest }

pub pairs_same : {s : List ℕ} {ts ts' r r' : List Token} {p p' : List T.EditPair} → ts ≡ ts' → SpellsPairs s ts p r → SpellsPairs s ts' p' r' → Same p p' r r'
pairs_same k (G.one_pair ts rest p of stop) (G.one_pair ts' rest' p' of' stop') =
    let f = pair_same k of of' in
    record { value = ap (λ u. u ∷ []) f.value; rest = f.rest }
pairs_same k (G.one_pair ts rest p of stop) (G.further_pairs ts' mid rest' p' ps of' go behind) =
    let f = pair_same k of of' in
    absurd (stop (ap next_kind f.rest ∙ go))
pairs_same k (G.further_pairs ts mid rest p ps of go behind) (G.one_pair ts' rest' p' of' stop) =
    let f = pair_same k of of' in
    absurd (stop (ap next_kind (sym f.rest) ∙ go))
pairs_same k (G.further_pairs ts mid rest p ps of go behind) (G.further_pairs ts' mid' rest' p' ps' of' go' behind') =
    let f = pair_same k of of' in
    let g = pairs_same f.rest behind behind' in
    let value : p ∷ ps ≡ p' ∷ ps' = cc (f.value, g.value) in
    record { value = value; rest = g.rest }
