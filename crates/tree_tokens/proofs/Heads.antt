-- The tokens that heads are spelled with.
use Rattle.std.proofs.Common.{◌≡◌, ℕ, zero, suc, ◌+◌, ◌*◌, ◌≤◌, ◌==◌, List, [], ◌∷◌, Option, Some, None, length, Bool}
use Rattle.std.proofs.Common.{true, false, refl, arith, subst, if◌then◌else◌}
use Rattle.pli_language.specs.declared.condition.Condition.{Condition}
use Rattle.pli_language.specs.declared.condition.Condition.TheVariants as C
use Rattle.pli_language.specs.declared.token.Token.{Token}
use Rattle.pli_language.specs.declared.token.Word.{Word}
use Rattle.pli_language.specs.declared.token.Word.TheVariants as W
use Rattle.pli_language.specs.Spells.{Takes, name_at, place_of}
use Rattle.pli_language.specs.Formats as F
use Rattle.pli_language.specs.Formats.{SpellsNumberOrOne, SpellsWidth, SpellsTimes, SpellsFormat, SpellsFormatItems}
use Rattle.pli_language.specs.Formats.{SpellsFormats, SpellsPair, SpellsPairs, Direction, Getting, Putting}
use Rattle.pli_language.specs.Marks.{Marks}
use Rattle.pli_language.specs.Heads as L
use Rattle.pli_language.specs.Heads.{Head, Opens, SpellsCondition, SpellsNames, SpellsParameters, SpellsOption}
use Rattle.pli_language.specs.Heads.{SpellsOptions}
use Rattle.pli_language.specs.Heads.{Range, SpellsRange, SpellsInParentheses, SpellsWhile, SpellsCounting, SpellsInto}
use Rattle.pli_language.specs.Heads.{SpellsPlacing, SpellsAllocation, SpellsAllocations, SpellsFreeing, SpellsFreeings}
use Rattle.pli_language.specs.Heads.{SpellsStreamOptions, SpellsEdit, SpellsGoto, SpellsReturn, SpellsSimple}
use Rattle.pli_language.specs.Heads.{SpellsHead}
use Rattle.pli_language.specs.Heads.{plain_condition}
use Rattle.pli_language.specs.Tree as T
use Rattle.tree_tokens.specs.TreeTokens.{expr_tokens, reference_tokens, arguments_tokens, exprs_tokens, tokens_if}
use Rattle.tree_tokens.specs.TreeTokens.{list_tokens, row_tokens, attribute_tokens, declare_tokens, condition_tokens}
use Rattle.tree_tokens.specs.TreeTokens.{placed_tokens, allocation_tokens, freeing_tokens, format_tokens}
use Rattle.tree_tokens.specs.TreeTokens.{formats_tokens}
use Rattle.tree_tokens.specs.TreeTokens.{pair_tokens, edit_tokens, skip_tokens, moved_tokens, counting_tokens}
use Rattle.tree_tokens.specs.TreeTokens.{parameters_tokens, option_tokens, stmt_tokens}
use Rattle.tree_tokens.proofs.Expressions.{taken, first, counted, expr_spelled, reference_spelled, arguments_spelled}
use Rattle.tree_tokens.proofs.Expressions.{exprs_spelled}
use Rattle.tree_tokens.proofs.Declarations.{comma_most, attributes_spelled, declares_spelled}

-- ---- what a head is spelled with, without its labels

abbrev pub head_tokens : Head → ℕ
head_tokens (L.ProcedureFront place parameters options) =
    2 + (parameters_tokens parameters + row_tokens option_tokens options)
head_tokens (L.Declaring items place) = 2 + list_tokens declare_tokens items
head_tokens (L.Simple x) = stmt_tokens x
head_tokens (L.IfThen condition place) = 2 + expr_tokens condition
head_tokens (L.Else place) = 1
head_tokens (L.DoGroup place) = 2
head_tokens (L.DoWhileGroup condition place) = 5 + expr_tokens condition
head_tokens (L.DoCountGroup counting place) = 2 + counting_tokens counting
head_tokens (L.BeginBlock place) = 2
head_tokens (L.On condition place) = 1 + condition_tokens condition
head_tokens (L.System place) = 2
head_tokens (L.EndOf name place) = 2

opened : {s : List ℕ} {ts rest : List Token} {word : Word} {t : Token} → Opens s ts word t rest
    → length ts ≡ suc (length rest)
opened h = taken h.taken

-- ---- parts

known : (b c : Condition) → Some b ≡ Some c → condition_tokens b ≤ 1 → condition_tokens c ≤ 1
known b c h k = subst (λ x. condition_tokens x ≤ 1) (same b c h) k
  where
    same : (b c : Condition) → Some b ≡ Some c → b ≡ c
    same b c h = cc

plain_one : (word : Word) (c : Condition) → plain_condition word ≡ Some c → condition_tokens c ≤ 1
plain_one W.Area c h = known C.Area c h (omega arith)
plain_one W.FixedOverflow c h = known C.FixedOverflow c h (omega arith)
plain_one W.ZeroDivide c h = known C.ZeroDivide c h (omega arith)
plain_one W.Error c h = known C.Error c h (omega arith)
plain_one _ c h = absurd (cc h)

condition_spelled : {ts rest : List Token} {c : Condition} → SpellsCondition ts c rest
    → condition_tokens c + length rest ≤ length ts
condition_spelled (L.plain ts rest t word c h is) =
    let a = taken h in
    let b = plain_one word c is in
    omega (arith, a, b)
condition_spelled (L.endfile ts after mid behind rest t u v w h mark file closed) =
    let a = taken h in
    let b = taken mark in
    let c = taken file in
    let d = taken closed in
    omega (arith, a, b, c, d)

names_spelled : {s : List ℕ} {ts rest : List Token} {ns : List T.Name} → SpellsNames s ts ns rest
    → list_tokens (λ n. 1) ns + length rest ≤ length ts
names_spelled (L.one_name ts rest t word h none) = let a = taken h in omega (arith, a)
names_spelled {s} (L.further_names ts mid after rest t u word ns h comma more) =
    let a = taken h in
    let b = taken comma in
    let c = names_spelled more in
    let d = comma_most (λ n. 1) (name_at s t word) ns in
    omega (arith, a, b, c, d)

parameters_most : (ns : List T.Name) → parameters_tokens ns ≤ 2 + list_tokens (λ n. 1) ns
parameters_most [] = omega arith
parameters_most (n ∷ ns) = omega arith

parameters_spelled : {s : List ℕ} {ts rest : List Token} {ns : List T.Name} → SpellsParameters s ts ns rest
    → parameters_tokens ns + length rest ≤ length ts
parameters_spelled (L.no_parameter ts none) = omega arith
parameters_spelled (L.parameters ts after mid rest t u ns mark sp closed) =
    let a = taken mark in
    let b = names_spelled sp in
    let c = taken closed in
    let d = parameters_most ns in
    omega (arith, a, b, c, d)

option_spelled : {s : List ℕ} {ts rest : List Token} {o : T.ProcedureOption} → SpellsOption s ts o rest
    → option_tokens o + length rest ≤ length ts
option_spelled (L.main ts after mid behind rest t u v w h mark word closed) =
    let a = taken h in
    let b = taken mark in
    let c = taken word in
    let d = taken closed in
    omega (arith, a, b, c, d)
option_spelled (L.recursive ts rest t h) = let a = taken h in omega (arith, a)
option_spelled (L.returns ts after mid behind rest t u v x others h mark sp closed) =
    let a = taken h in
    let b = taken mark in
    let c = attributes_spelled sp in
    let d = taken closed in
    omega (arith, a, b, c, d)

options_spelled : {s : List ℕ} {ts rest : List Token} {os : List T.ProcedureOption} → SpellsOptions s ts os rest
    → row_tokens option_tokens os + length rest ≤ length ts
options_spelled (L.no_option ts end) = omega arith
options_spelled (L.option ts mid rest o others sp more) =
    let a = option_spelled sp in
    let b = options_spelled more in
    omega (arith, a, b)

abbrev range_tokens : Range → ℕ
range_tokens r = tokens_if (λ e. 1 + expr_tokens e) r.limit + tokens_if (λ e. 1 + expr_tokens e) r.step

range_spelled : {s : List ℕ} {before behind : Range} {ts rest : List Token} {m m' : Marks}
    → SpellsRange s before ts m behind rest m' → range_tokens behind + length rest ≤ range_tokens before + length ts
range_spelled (L.range_ends before ts m end) = omega arith
range_spelled (L.to step behind ts after mid rest m m' t e h sp more) =
    let a = taken h in
    let b = expr_spelled sp in
    let c = range_spelled more in
    omega (arith, a, b, c)
range_spelled (L.by limit behind ts after mid rest m m' t e h sp more) =
    let a = taken h in
    let b = expr_spelled sp in
    let c = range_spelled more in
    omega (arith, a, b, c)

in_parentheses_spelled : {s : List ℕ} {ts rest : List Token} {e : T.Expr} → SpellsInParentheses s ts e rest
    → 2 + expr_tokens e + length rest ≤ length ts
in_parentheses_spelled (L.in_parentheses ts after mid rest t u e mark sp closed) =
    let a = taken mark in
    let b = expr_spelled sp in
    let c = taken closed in
    omega (arith, a, b, c)

while_spelled : {s : List ℕ} {ts rest : List Token} {w : Option T.Expr} → SpellsWhile s ts w rest
    → tokens_if (λ e. 3 + expr_tokens e) w + length rest ≤ length ts
while_spelled (L.no_while ts none) = omega arith
while_spelled (L.while ts after rest t e h sp) =
    let a = taken h in
    let b = in_parentheses_spelled sp in
    omega (arith, a, b)

counting_spelled : {s : List ℕ} {ts rest : List Token} {m m' : Marks} {c : T.Counting}
    → SpellsCounting s ts m c rest m' → counting_tokens c + length rest ≤ length ts
counting_spelled (L.counting ts mid after behind at rest m m' t v e r w sp equal start range while) =
    let a = reference_spelled sp in
    let b = taken equal in
    let c = expr_spelled start in
    let d = range_spelled range in
    let f = while_spelled while in
    omega (arith, a, b, c, d, f)

-- ---- ALLOCATE and FREE

into_spelled : {s : List ℕ} {ts rest : List Token} {r : T.Reference} → SpellsInto s ts r rest
    → 2 + reference_tokens r + length rest ≤ length ts
into_spelled (L.into ts after mid rest t u r mark sp closed) =
    let a = taken mark in
    let b = reference_spelled sp in
    let c = taken closed in
    omega (arith, a, b, c)

placing_spelled : {s : List ℕ} {x y : T.Allocation} {ts rest : List Token} {m m' : Marks}
    → SpellsPlacing s x ts m y rest m' → allocation_tokens y + length rest ≤ allocation_tokens x + length ts
placing_spelled (L.placing_ends x ts m end) = omega arith
placing_spelled (L.in_area n l b ts after mid rest m m' t r h sp more) =
    let a = taken h in
    let c = into_spelled sp in
    let d = placing_spelled more in
    omega (arith, a, c, d)
placing_spelled (L.set_locator n x b ts after mid rest m m' t r h sp more) =
    let a = taken h in
    let c = into_spelled sp in
    let d = placing_spelled more in
    omega (arith, a, c, d)

allocation_spelled : {s : List ℕ} {ts rest : List Token} {m m' : Marks} {x : T.Allocation}
    → SpellsAllocation s ts m x rest m' → allocation_tokens x + length rest ≤ length ts
allocation_spelled (L.allocation ts mid rest m m' t word x h sp) =
    let a = taken h in
    let b = placing_spelled sp in
    omega (arith, a, b)

allocations_spelled : {s : List ℕ} {ts rest : List Token} {m m' : Marks} {xs : List T.Allocation}
    → SpellsAllocations s ts m xs rest m' → list_tokens allocation_tokens xs + length rest ≤ length ts
allocations_spelled (L.one_allocation ts rest m m' x sp none) = let a = allocation_spelled sp in omega (arith, a)
allocations_spelled (L.further_allocations ts mid after rest m m' m'' t x others sp comma more) =
    let a = allocation_spelled sp in
    let b = taken comma in
    let c = allocations_spelled more in
    let d = comma_most allocation_tokens x others in
    omega (arith, a, b, c, d)

freeing_spelled : {s : List ℕ} {ts rest : List Token} {f : T.Freeing} → SpellsFreeing s ts f rest
    → freeing_tokens f + length rest ≤ length ts
freeing_spelled (L.free ts rest r sp none) = let a = reference_spelled sp in omega (arith, a)
freeing_spelled (L.free_in ts mid after rest t r x sp in' more) =
    let a = reference_spelled sp in
    let b = taken in' in
    let c = into_spelled more in
    omega (arith, a, b, c)

freeings_spelled : {s : List ℕ} {ts rest : List Token} {fs : List T.Freeing} → SpellsFreeings s ts fs rest
    → list_tokens freeing_tokens fs + length rest ≤ length ts
freeings_spelled (L.one_freeing ts rest f sp none) = let a = freeing_spelled sp in omega (arith, a)
freeings_spelled (L.further_freeings ts mid after rest t f others sp comma more) =
    let a = freeing_spelled sp in
    let b = taken comma in
    let c = freeings_spelled more in
    let d = comma_most freeing_tokens f others in
    omega (arith, a, b, c, d)

-- ---- GET and PUT

number_spelled : {ts rest : List Token} {n : ℕ} → SpellsNumberOrOne ts n rest
    → (if n == 1 then 0 else 3) + length rest ≤ length ts
number_spelled (F.one ts none) = omega arith
number_spelled (F.given ts rest n h) = by (n == 1)
  where
    by : (q : Bool) → (if q then 0 else 3) + length rest ≤ length ts
    by true = let a = counted h in omega (arith, a)
    by false = let a = counted h in omega (arith, a)

-- a word, and a number behind it unless that is 1
one_or_four : (n : ℕ) → (if n == 1 then 1 else 4) ≡ 1 + (if n == 1 then 0 else 3)
one_or_four n = by (n == 1)
  where
    by : (q : Bool) → (if q then 1 else 4) ≡ 1 + (if q then 0 else 3)
    by true = refl
    by false = refl

width_spelled : {ts rest : List Token} {w : Option ℕ} → SpellsWidth ts w rest
    → tokens_if (λ n. 3) w + length rest ≤ length ts
width_spelled (F.no_width ts none) = omega arith
width_spelled (F.width ts rest n h) = let a = counted h in omega (arith, a)

times_spelled : {ts rest : List Token} {n : ℕ} → SpellsTimes ts n rest
    → (if n == 1 then 0 else 1) + length rest ≤ length ts
times_spelled (F.once ts none count) = omega arith
times_spelled (F.number ts rest t n h) = by (n == 1)
  where
    by : (q : Bool) → (if q then 0 else 1) + length rest ≤ length ts
    by true = let a = taken h in omega (arith, a)
    by false = let a = taken h in omega (arith, a)
times_spelled (F.in_parentheses ts rest n h) = by (n == 1)
  where
    by : (q : Bool) → (if q then 0 else 1) + length rest ≤ length ts
    by true = let a = counted h in omega (arith, a)
    by false = let a = counted h in omega (arith, a)

mutual
  format_spelled : {ts rest : List Token} {f : T.Format} → SpellsFormat ts f rest
      → format_tokens f + length rest ≤ length ts
  format_spelled (F.nested ts rest fs sp) = formats_spelled sp
  format_spelled (F.fixed ts after rest t w h sp) =
      let a = taken h in
      let b = counted sp in
      omega (arith, a, b)
  format_spelled (F.text ts after rest t w h sp) =
      let a = taken h in
      let b = width_spelled sp in
      omega (arith, a, b)
  format_spelled (F.space ts after rest t n h sp) =
      let a = taken h in
      let b = counted sp in
      omega (arith, a, b)
  format_spelled (F.skip ts after rest t n h sp) =
      let a = taken h in
      let b = number_spelled sp in
      let c = one_or_four n in
      omega (arith, a, b, c)
  format_spelled (F.column ts after rest t n h sp) =
      let a = taken h in
      let b = counted sp in
      omega (arith, a, b)

  format_items_spelled : {ts rest : List Token} {fs : T.Formats} → SpellsFormatItems ts fs rest
      → formats_tokens fs + length rest ≤ length ts
  format_items_spelled (F.last_item ts behind mid rest t u n f is at sp more closed) =
      let a = times_spelled sp in
      let b = format_spelled more in
      let c = taken closed in
      omega (arith, a, b, c)
  format_items_spelled (F.further_items ts behind mid after rest t u n f fs is at sp more comma others) =
      let a = times_spelled sp in
      let b = format_spelled more in
      let c = taken comma in
      let d = format_items_spelled others in
      omega (arith, a, b, c, d)

  formats_spelled : {ts rest : List Token} {fs : T.Formats} → SpellsFormats ts fs rest
      → 1 + formats_tokens fs + length rest ≤ length ts
  formats_spelled (F.formats ts after rest t fs mark sp) =
      let a = taken mark in
      let b = format_items_spelled sp in
      omega (arith, a, b)

pair_spelled : {s : List ℕ} {ts rest : List Token} {p : T.EditPair} → SpellsPair s ts p rest
    → pair_tokens p + length rest ≤ length ts
pair_spelled (F.pair ts after mid behind inside rest t u v es fs mark sp closed is more) =
    let a = taken mark in
    let b = exprs_spelled sp in
    let c = taken closed in
    let d = formats_spelled more in
    omega (arith, a, b, c, d)

pairs_spelled : {s : List ℕ} {ts rest : List Token} {ps : List T.EditPair} → SpellsPairs s ts ps rest
    → row_tokens pair_tokens ps + length rest ≤ length ts
pairs_spelled (F.one_pair ts rest p sp none) = let a = pair_spelled sp in omega (arith, a)
pairs_spelled (F.further_pairs ts mid rest p ps sp next more) =
    let a = pair_spelled sp in
    let b = pairs_spelled more in
    omega (arith, a, b)

edit_most : (ps : List T.EditPair) → edit_tokens ps ≤ 1 + row_tokens pair_tokens ps
edit_most [] = omega arith
edit_most (p ∷ ps) = omega arith

edit_spelled : {s : List ℕ} {ts rest : List Token} {ps : List T.EditPair} → SpellsEdit s ts ps rest
    → edit_tokens ps + length rest ≤ length ts
edit_spelled (L.no_edit ts none) = omega arith
edit_spelled (L.edit ts after rest t ps h sp) =
    let a = taken h in
    let b = pairs_spelled sp in
    let c = edit_most ps in
    omega (arith, a, b, c)

stream_options_spelled : {s : List ℕ} {d : Direction} {filed : Bool} {k k' : Option T.Skip} {ts rest : List Token}
    → SpellsStreamOptions s d filed k ts k' rest
    → tokens_if skip_tokens k' + length rest ≤ tokens_if skip_tokens k + length ts
stream_options_spelled (L.options_end filed k ts no_file no_skip) = omega arith
stream_options_spelled (L.file k k' ts after mid behind at rest t u v w h mark word closed more) =
    let a = taken h in
    let b = taken mark in
    let c = taken word in
    let d = taken closed in
    let e = stream_options_spelled more in
    omega (arith, a, b, c, d, e)
stream_options_spelled (L.skip filed k' ts after mid rest t n h sp more) =
    let a = taken h in
    let b = number_spelled sp in
    let c = one_or_four n in
    let e = stream_options_spelled more in
    omega (arith, a, b, c, e)

-- ---- simple statements, with their semicolon

goto_spelled : {s : List ℕ} {ts rest : List Token} {t : Token} → SpellsGoto s ts t rest → 1 + length rest ≤ length ts
goto_spelled (L.goto ts after t h) = let a = opened h in omega (arith, a)
goto_spelled (L.go_to ts after rest t u h to) =
    let a = opened h in
    let b = taken to in
    omega (arith, a, b)

return_spelled : {s : List ℕ} {ts rest : List Token} {e : Option T.Expr} → SpellsReturn s ts e rest
    → tokens_if (λ e. 2 + expr_tokens e) e + length rest ≤ length ts
return_spelled (L.no_value ts none) = omega arith
return_spelled (L.value ts rest e sp) = in_parentheses_spelled sp

moving_is : (d : Direction) (k : Option T.Skip) (ps : List T.EditPair) (t : Token)
    → stmt_tokens (L.moving d k ps (place_of t)) ≡ moved_tokens k ps
moving_is Getting k ps t = refl
moving_is Putting k ps t = refl

simple_spelled : {s : List ℕ} {ts rest : List Token} {m m' : Marks} {x : T.Stmt} → SpellsSimple s ts m x rest m'
    → stmt_tokens x + length rest ≤ 1 + length ts
simple_spelled (L.null ts rest m t is kind) = omega arith
simple_spelled (L.assignment ts behind mid after rest m t u r e is no_if sp equal more) =
    let a = reference_spelled sp in
    let b = taken equal in
    let c = expr_spelled more in
    omega (arith, a, b, c)
simple_spelled (L.call ts after mid rest m t u word x h name sp) =
    let a = opened h in
    let b = taken name in
    let c = arguments_spelled sp in
    omega (arith, a, b, c)
simple_spelled (L.return' ts after rest m t e h sp) =
    let a = opened h in
    let b = return_spelled sp in
    omega (arith, a, b)
simple_spelled (L.goto ts after rest m t u word sp name) =
    let a = goto_spelled sp in
    let b = taken name in
    omega (arith, a, b)
simple_spelled (L.stop ts rest m t h) = let a = opened h in omega (arith, a)
simple_spelled (L.signal ts after rest m t c h sp) =
    let a = opened h in
    let b = condition_spelled sp in
    omega (arith, a, b)
simple_spelled (L.revert ts after rest m t c h sp) =
    let a = opened h in
    let b = condition_spelled sp in
    omega (arith, a, b)
simple_spelled (L.allocate ts after rest m m' t others h sp) =
    let a = opened h in
    let b = allocations_spelled sp in
    omega (arith, a, b)
simple_spelled (L.free ts after rest m t fs h sp) =
    let a = opened h in
    let b = freeings_spelled sp in
    omega (arith, a, b)
simple_spelled (L.move d ts after mid rest m t k ps h sp more moves) =
    let a = opened h in
    let b = stream_options_spelled sp in
    let c = edit_spelled more in
    let e = moving_is d k ps t in
    omega (arith, a, b, c, e)

-- ---- heads

pub head_spelled : {s : List ℕ} {ts rest : List Token} {m m' : Marks} {h : Head} → SpellsHead s ts m h rest m'
    → head_tokens h + length rest ≤ length ts
head_spelled (L.procedure ts after mid behind rest m t u ns options h sp more end) =
    let a = opened h in
    let b = parameters_spelled sp in
    let c = options_spelled more in
    let d = taken end in
    omega (arith, a, b, c, d)
head_spelled (L.declare ts after mid rest m t u ds h sp end) =
    let a = opened h in
    let b = declares_spelled sp in
    let c = taken end in
    omega (arith, a, b, c)
head_spelled (L.simple ts mid rest m m' u x sp end) =
    let a = simple_spelled sp in
    let b = taken end in
    omega (arith, a, b)
head_spelled (L.if_then ts after mid rest m t u e h sp then') =
    let a = opened h in
    let b = expr_spelled sp in
    let c = taken then' in
    omega (arith, a, b, c)
head_spelled (L.else' ts rest m t h) = let a = opened h in omega (arith, a)
head_spelled (L.do_group ts after rest m t u h end) =
    let a = opened h in
    let b = taken end in
    omega (arith, a, b)
head_spelled (L.do_while ts after mid behind rest m t u v e h while sp end) =
    let a = opened h in
    let b = taken while in
    let c = in_parentheses_spelled sp in
    let d = taken end in
    omega (arith, a, b, c, d)
head_spelled (L.do_count ts after mid rest m m' t u c h sp end) =
    let a = opened h in
    let b = counting_spelled sp in
    let d = taken end in
    omega (arith, a, b, d)
head_spelled (L.begin ts after rest m t u h end) =
    let a = opened h in
    let b = taken end in
    omega (arith, a, b)
head_spelled (L.on ts after rest m t c h sp) =
    let a = opened h in
    let b = condition_spelled sp in
    omega (arith, a, b)
head_spelled (L.system ts after rest m t u h end) =
    let a = opened h in
    let b = taken end in
    omega (arith, a, b)
head_spelled (L.unnamed_end ts after rest m t u h end) =
    let a = opened h in
    let b = taken end in
    omega (arith, a, b)
head_spelled (L.named_end ts after mid rest m t u v word h name end) =
    let a = opened h in
    let b = taken name in
    let c = taken end in
    omega (arith, a, b, c)
