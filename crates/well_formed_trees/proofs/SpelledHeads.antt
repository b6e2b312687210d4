-- Heads that fitting tokens spell, and that break no limit, are in range; and what stands behind them fits.
use Rattle.std.proofs.Common.{ℕ, Bool, List, Option}
use Rattle.pli_language.specs.declared.condition.Condition.{Condition}
use Rattle.pli_language.specs.declared.expr.Place.{Place}
use Rattle.pli_language.specs.declared.token.Token.{Token}
use Rattle.pli_language.specs.declared.token.Word.{Word}
use Rattle.pli_language.specs.Formats as F
use Rattle.pli_language.specs.Formats.{SpellsNumberOrOne, SpellsWidth, SpellsTimes, SpellsFormat, SpellsFormatItems}
use Rattle.pli_language.specs.Formats.{SpellsFormats, SpellsPair, SpellsPairs, Direction, Getting, Putting}
use Rattle.pli_language.specs.Formats.{pair_marks, pairs_marks, skip_marks}
use Rattle.pli_language.specs.Heads as H
use Rattle.pli_language.specs.Heads.{Opens, SpellsCondition, SpellsNames, SpellsParameters, SpellsOption}
use Rattle.pli_language.specs.Heads.{SpellsOptions, Range, SpellsRange, SpellsInParentheses, SpellsWhile}
use Rattle.pli_language.specs.Heads.{SpellsCounting, SpellsInto, SpellsPlacing, SpellsAllocation, SpellsAllocations}
use Rattle.pli_language.specs.Heads.{SpellsFreeing, SpellsFreeings, SpellsStreamOptions, SpellsEdit, SpellsGoto}
use Rattle.pli_language.specs.Heads.{SpellsReturn, SpellsSimple, SpellsHead, moving}
use Rattle.pli_language.specs.Marks.{Marks}
use Rattle.pli_language.specs.Tree as T
use Rattle.well_formed_trees.specs.Every.{Every}
use Rattle.well_formed_trees.specs.Ranges.{IsLine}
use Rattle.well_formed_trees.specs.Spelled.{RangedExpr, RangedReference, RangedIf, RangedOption, RangedCounting}
use Rattle.well_formed_trees.specs.Spelled.{RangedAllocation, RangedFreeing, RangedPair, RangedSimple, RangedSkip}
use Rattle.well_formed_trees.proofs.TokensFit.{AllFit, behind, line_of, first_fits}
use Rattle.well_formed_trees.proofs.SpelledExpressions.{expr_fits, reference_fits, arguments_fit, exprs_fit}
use Rattle.well_formed_trees.proofs.SpelledExpressions.{count_fits}
use Rattle.well_formed_trees.proofs.SpelledDeclarations.{attributes_fit}
use Rattle.well_formed_trees.proofs.MarksClean.{IsClean, list_clean, skip_clean}

pub opened_fits : {s : List ℕ} {all ts rest : List Token} {word : Word} {t : Token}
    → Opens s ts word t rest → AllFit s all ts
    → AllFit s all rest
opened_fits o h = behind o.taken h

pub opened_line : {s : List ℕ} {all ts rest : List Token} {word : Word} {t : Token}
    → Opens s ts word t rest → AllFit s all ts
    → IsLine t.line
opened_line o h = line_of o.taken h

-- ---- conditions, parameters and options

pub condition_fits : {s : List ℕ} {all ts rest : List Token} {c : Condition} → SpellsCondition ts c rest
    → AllFit s all ts
    → AllFit s all rest
condition_fits (H.plain ts rest t word c taken is) h = behind taken h
condition_fits (H.endfile ts after mid at rest t u v w taken opened file closed) h =
    behind closed (behind file (behind opened (behind taken h)))

names_fit : {s : List ℕ} {all ts rest : List Token} {ns : List T.Name} → SpellsNames s ts ns rest
    → AllFit s all ts
    → AllFit s all rest
names_fit (H.one_name ts rest t word taken none) h = behind taken h
names_fit (H.further_names ts mid after rest t u word ns taken comma more) h =
    names_fit more (behind comma (behind taken h))

pub parameters_fit : {s : List ℕ} {all ts rest : List Token} {ns : List T.Name}
    → SpellsParameters s ts ns rest → AllFit s all ts
    → AllFit s all rest
parameters_fit (H.no_parameter ts none) h = h
parameters_fit (H.parameters ts after mid rest t u ns opened names closed) h =
    behind closed (names_fit names (behind opened h))

option_fits : {s : List ℕ} {all ts rest : List Token} {o : T.ProcedureOption} → SpellsOption s ts o rest
    → AllFit s all ts
    → RangedOption o × AllFit s all rest
option_fits (H.main ts after mid at rest t u v w taken opened named closed) h =
    (tt, behind closed (behind named (behind opened (behind taken h))))
option_fits (H.recursive ts rest t taken) h = (tt, behind taken h)
option_fits (H.returns ts after mid at rest t u v a others taken opened sp closed) h =
    let b = attributes_fit sp (behind opened (behind taken h)) in
    (b.0, behind closed b.1)

pub options_fit : {s : List ℕ} {all ts rest : List Token} {os : List T.ProcedureOption}
    → SpellsOptions s ts os rest
    → AllFit s all ts → Every RangedOption os × AllFit s all rest
options_fit (H.no_option ts e) h = (tt, h)
options_fit (H.option ts mid rest o others sp more) h =
    let a = option_fits sp h in
    let b = options_fit more a.1 in
    ((a.0, b.0), b.1)

-- ---- DO

abbrev RangedRange : Range → Type 0
RangedRange r = RangedIf RangedExpr r.limit × RangedIf RangedExpr r.step

range_fits : {s : List ℕ} {all : List Token} {before r : Range} {ts rest : List Token} {m m' : Marks}
    → SpellsRange s before ts m r rest m' → RangedRange before → AllFit s all ts → RangedRange r × AllFit s all rest
range_fits (H.range_ends before ts m e) b h = (b, h)
range_fits (H.to step r ts after mid rest m m' t e taken sp more) b h =
    let a = expr_fits sp (behind taken h) in
    range_fits more (a.0, b.1) a.1
range_fits (H.by limit r ts after mid rest m m' t e taken sp more) b h =
    let a = expr_fits sp (behind taken h) in
    range_fits more (b.0, a.0) a.1

pub in_parentheses_fits : {s : List ℕ} {all ts rest : List Token} {e : T.Expr}
    → SpellsInParentheses s ts e rest → AllFit s all ts
    → RangedExpr e × AllFit s all rest
in_parentheses_fits (H.in_parentheses ts after mid rest t u e opened sp closed) h =
    let a = expr_fits sp (behind opened h) in
    (a.0, behind closed a.1)

while_fits : {s : List ℕ} {all ts rest : List Token} {w : Option T.Expr} → SpellsWhile s ts w rest
    → AllFit s all ts
    → RangedIf RangedExpr w × AllFit s all rest
while_fits (H.no_while ts none) h = (tt, h)
while_fits (H.while ts after rest t e taken sp) h = in_parentheses_fits sp (behind taken h)

pub counting_fits : {s : List ℕ} {all ts rest : List Token} {m m' : Marks} {c : T.Counting}
    → SpellsCounting s ts m c rest m'
    → AllFit s all ts → RangedCounting c × AllFit s all rest
counting_fits (H.counting ts mid after at_it at rest m m' t v e r w variable equal start range condition) h =
    let a = reference_fits variable h in
    let b = expr_fits start (behind equal a.1) in
    let c = range_fits range (tt, tt) b.1 in
    let d = while_fits condition c.1 in
    (((a.0, b.0), (c.0.0, (c.0.1, d.0))), d.1)

-- ---- ALLOCATE and FREE

into_fits : {s : List ℕ} {all ts rest : List Token} {r : T.Reference} → SpellsInto s ts r rest
    → AllFit s all ts
    → RangedReference r × AllFit s all rest
into_fits (H.into ts after mid rest t u r opened sp closed) h =
    let a = reference_fits sp (behind opened h) in
    (a.0, behind closed a.1)

placing_fits : {s : List ℕ} {all : List Token} {a b : T.Allocation} {ts rest : List Token} {m m' : Marks}
    → SpellsPlacing s a ts m b rest m' → RangedAllocation a → AllFit s all ts → RangedAllocation b × AllFit s all rest
placing_fits (H.placing_ends a ts m e) r h = (r, h)
placing_fits (H.in_area n l b ts after mid rest m m' t r taken sp more) q h =
    let a = into_fits sp (behind taken h) in
    placing_fits more (a.0, q.1) a.1
placing_fits (H.set_locator n a b ts after mid rest m m' t r taken sp more) q h =
    let c = into_fits sp (behind taken h) in
    placing_fits more (q.0, c.0) c.1

allocation_fits : {s : List ℕ} {all ts rest : List Token} {m m' : Marks} {a : T.Allocation}
    → SpellsAllocation s ts m a rest m' → AllFit s all ts → RangedAllocation a × AllFit s all rest
allocation_fits (H.allocation ts mid rest m m' t word a taken sp) h = placing_fits sp (tt, tt) (behind taken h)

allocations_fit : {s : List ℕ} {all ts rest : List Token} {m m' : Marks} {as' : List T.Allocation}
    → SpellsAllocations s ts m as' rest m' → AllFit s all ts → Every RangedAllocation as' × AllFit s all rest
allocations_fit (H.one_allocation ts rest m m' a sp none) h =
    let b = allocation_fits sp h in
    ((b.0, tt), b.1)
allocations_fit (H.further_allocations ts mid after rest m m' m'' t a others sp comma more) h =
    let b = allocation_fits sp h in
    let c = allocations_fit more (behind comma b.1) in
    ((b.0, c.0), c.1)

freeing_fits : {s : List ℕ} {all ts rest : List Token} {f : T.Freeing} → SpellsFreeing s ts f rest
    → AllFit s all ts
    → RangedFreeing f × AllFit s all rest
freeing_fits (H.free ts rest r sp none) h =
    let a = reference_fits sp h in
    ((a.0, tt), a.1)
freeing_fits (H.free_in ts mid after rest t r a sp taken area) h =
    let b = reference_fits sp h in
    let c = into_fits area (behind taken b.1) in
    ((b.0, c.0), c.1)

freeings_fit : {s : List ℕ} {all ts rest : List Token} {fs : List T.Freeing}
    → SpellsFreeings s ts fs rest → AllFit s all ts
    → Every RangedFreeing fs × AllFit s all rest
freeings_fit (H.one_freeing ts rest f sp none) h =
    let a = freeing_fits sp h in
    ((a.0, tt), a.1)
freeings_fit (H.further_freeings ts mid after rest t f others sp comma more) h =
    let a = freeing_fits sp h in
    let b = freeings_fit more (behind comma a.1) in
    ((a.0, b.0), b.1)

-- ---- GET and PUT

number_or_one_fits : {s : List ℕ} {all ts rest : List Token} {n : ℕ} → SpellsNumberOrOne ts n rest
    → AllFit s all ts
    → AllFit s all rest
number_or_one_fits (F.one ts none) h = h
number_or_one_fits (F.given ts rest n counted) h = count_fits counted h

width_fits : {s : List ℕ} {all ts rest : List Token} {w : Option ℕ} → SpellsWidth ts w rest
    → AllFit s all ts → AllFit s all rest
width_fits (F.no_width ts none) h = h
width_fits (F.width ts rest n counted) h = count_fits counted h

times_fit : {s : List ℕ} {all ts rest : List Token} {n : ℕ} → SpellsTimes ts n rest → AllFit s all ts
    → AllFit s all rest
times_fit (F.once ts none e) h = h
times_fit (F.number ts rest t n taken) h = behind taken h
times_fit (F.in_parentheses ts rest n counted) h = count_fits counted h

mutual
  format_fits : {s : List ℕ} {all ts rest : List Token} {f : T.Format} → SpellsFormat ts f rest
      → AllFit s all ts
      → AllFit s all rest
  format_fits (F.nested ts rest fs sp) h = formats_fit sp h
  format_fits (F.fixed ts after rest t w taken counted) h = count_fits counted (behind taken h)
  format_fits (F.text ts after rest t w taken counted) h = width_fits counted (behind taken h)
  format_fits (F.space ts after rest t n taken counted) h = count_fits counted (behind taken h)
  format_fits (F.skip ts after rest t n taken counted) h = number_or_one_fits counted (behind taken h)
  format_fits (F.column ts after rest t n taken counted) h = count_fits counted (behind taken h)

  format_items_fit : {s : List ℕ} {all ts rest : List Token} {fs : T.Formats}
      → SpellsFormatItems ts fs rest → AllFit s all ts
      → AllFit s all rest
  format_items_fit (F.last_item ts after mid rest t u n f is at times sp closed) h =
      behind closed (format_fits sp (times_fit times h))
  format_items_fit (F.further_items ts at_it mid after rest t u n f fs is at times sp comma more) h =
      format_items_fit more (behind comma (format_fits sp (times_fit times h)))

  formats_fit : {s : List ℕ} {all ts rest : List Token} {fs : T.Formats} → SpellsFormats ts fs rest
      → AllFit s all ts
      → AllFit s all rest
  formats_fit (F.formats ts after rest t fs opened sp) h = format_items_fit sp (behind opened h)

pair_rest : {s : List ℕ} {all ts rest : List Token} {p : T.EditPair} → SpellsPair s ts p rest
    → AllFit s all ts
    → AllFit s all rest
pair_rest (F.pair ts after mid at inside rest t u v es fs opened sp closed is list) h =
    formats_fit list (behind closed (exprs_fit sp (behind opened h)).1)

-- what a pair is, what stands behind it, and that nothing was refused before it
pair_fits : {s : List ℕ} {all ts rest : List Token} {p : T.EditPair} (d : Direction) (m : Marks)
    → SpellsPair s ts p rest
    → IsClean (pair_marks d p m) → AllFit s all ts → RangedPair d p × (AllFit s all rest × IsClean m)
pair_fits d m (F.pair ts after mid at inside rest t u v es fs opened sp closed is list) e h =
    let a = exprs_fit sp (behind opened h) in
    let b = list_clean d es fs _ m list e in
    ((a.0, b.0), (formats_fit list (behind closed a.1), b.1))

pairs_fit : {s : List ℕ} {all ts rest : List Token} {ps : List T.EditPair} (d : Direction) (m : Marks)
    → SpellsPairs s ts ps rest → IsClean (pairs_marks d ps m) → AllFit s all ts
    → Every (RangedPair d) ps × (AllFit s all rest × IsClean m)
pairs_fit d m (F.one_pair ts rest p sp none) e h =
    let a = pair_fits d m sp e h in
    ((a.0, tt), a.1)
pairs_fit d m (F.further_pairs ts mid rest p ps sp opens more) e h =
    let b = pairs_fit d (pair_marks d p m) more e (pair_rest sp h) in
    let a = pair_fits d m sp b.1.1 h in
    ((a.0, b.0), (b.1.0, a.1.1))

edit_fits : {s : List ℕ} {all ts rest : List Token} {ps : List T.EditPair} (d : Direction) (m : Marks)
    → SpellsEdit s ts ps rest → IsClean (pairs_marks d ps m) → AllFit s all ts
    → Every (RangedPair d) ps × (AllFit s all rest × IsClean m)
edit_fits d m (H.no_edit ts none) e h = (tt, (h, e))
edit_fits d m (H.edit ts after rest t ps taken sp) e h = pairs_fit d m sp e (behind taken h)

stream_options_fit : {s : List ℕ} {all : List Token} {d : Direction} {filed : Bool} {k k' : Option T.Skip}
    {ts rest : List Token}
    → SpellsStreamOptions s d filed k ts k' rest → AllFit s all ts → AllFit s all rest
stream_options_fit (H.options_end filed k ts no_file no_skip) h = h
stream_options_fit (H.file k k' ts after mid at_it at rest t u v w taken opened named closed more) h =
    stream_options_fit more (behind closed (behind named (behind opened (behind taken h))))
stream_options_fit (H.skip filed k' ts after mid rest t n taken counted more) h =
    stream_options_fit more (number_or_one_fits counted (behind taken h))

stream_ranged : (d : Direction) (k : Option T.Skip) (ps : List T.EditPair) (p : Place) → RangedIf RangedSkip k
    → Every (RangedPair d) ps → IsLine p.line → RangedSimple (moving d k ps p)
stream_ranged Getting k ps p a b c = (a, (b, c))
stream_ranged Putting k ps p a b c = (a, (b, c))

-- ---- simple statements

return_fits : {s : List ℕ} {all ts rest : List Token} {e : Option T.Expr} → SpellsReturn s ts e rest
    → AllFit s all ts
    → RangedIf RangedExpr e × AllFit s all rest
return_fits (H.no_value ts none) h = (tt, h)
return_fits (H.value ts rest e sp) h = in_parentheses_fits sp h

goto_fits : {s : List ℕ} {all ts rest : List Token} {t : Token} → SpellsGoto s ts t rest
    → AllFit s all ts
    → IsLine t.line × AllFit s all rest
goto_fits (H.goto ts after t o) h = (opened_line o h, opened_fits o h)
goto_fits (H.go_to ts after rest t u o taken) h = (opened_line o h, behind taken (opened_fits o h))

pub simple_fits : {s : List ℕ} {all ts rest : List Token} {m m' : Marks} {x : T.Stmt}
    → SpellsSimple s ts m x rest m'
    → IsClean m' → AllFit s all ts → RangedSimple x × AllFit s all rest
simple_fits (H.null ts rest m t is kind) e h = ((first_fits is h).0.line, h)
simple_fits (H.assignment ts at mid after rest m t u r v is no_if target equal source) e h =
    let a = reference_fits target h in
    let b = expr_fits source (behind equal a.1) in
    (((a.0, b.0), (first_fits is h).0.line), b.1)
simple_fits (H.call ts after mid rest m t u word as' o named sp) e h =
    let a = arguments_fit sp (behind named (opened_fits o h)) in
    ((a.0, opened_line o h), a.1)
simple_fits (H.return' ts after rest m t v o sp) e h =
    let a = return_fits sp (opened_fits o h) in
    ((a.0, opened_line o h), a.1)
simple_fits (H.goto ts after rest m t u word o named) e h =
    let a = goto_fits o h in
    (a.0, behind named a.1)
simple_fits (H.stop ts rest m t o) e h = (opened_line o h, opened_fits o h)
simple_fits (H.signal ts after rest m t c o sp) e h = (opened_line o h, condition_fits sp (opened_fits o h))
simple_fits (H.revert ts after rest m t c o sp) e h = (opened_line o h, condition_fits sp (opened_fits o h))
simple_fits (H.allocate ts after rest m m' t others o sp) e h =
    let a = allocations_fit sp (opened_fits o h) in
    ((a.0, opened_line o h), a.1)
simple_fits (H.free ts after rest m t fs o sp) e h =
    let a = freeings_fit sp (opened_fits o h) in
    ((a.0, opened_line o h), a.1)
simple_fits (H.move d ts after mid rest m t k ps o options sp moves) e h =
    let a = stream_options_fit options (opened_fits o h) in
    let b = edit_fits d (skip_marks k m) sp e a in
    (stream_ranged d k ps _ (skip_clean k m b.1.1) b.0 (opened_line o h), b.1.0)
