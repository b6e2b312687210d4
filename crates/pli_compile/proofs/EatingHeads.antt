-- How many tokens stand before what is left behind a head: at least as many as it will weigh.
use Rattle.std.proofs.Common.{ℕ, ◌+◌, ◌-◌, ◌^◌, ◌<◌, ◌≤◌, List, Option, refl, arith}
use Rattle.pli_language.specs.declared.expr.Place.{Place}
use Rattle.pli_language.specs.declared.token.Token.{Token}
use Rattle.pli_language.specs.Tree as T
use Rattle.pli_language.specs.Formats as F
use Rattle.pli_language.specs.Heads as H
use Rattle.pli_language.specs.Parsing as P
use Rattle.pli_language.specs.Spells as G
use Rattle.pli_headline.specs.FirstPath.{exprs_weight, pairs_weight, stmt_weight, stmt_line, declared_weight}
use Rattle.pli_compile.proofs.Eating.{Small, Eats, small_first, one, take, none, both, least, some, level_eats, reference_eats, arguments_eat, exprs_eat, count_eats}
use Rattle.pli_compile.proofs.EatingDeclarations.{attributes_eat, declare_items_eat}

-- ---- data lists and format lists

number_or_one_eats : {ts rest : List Token} {n : ℕ} → F.SpellsNumberOrOne ts n rest → Eats ts rest 0
number_or_one_eats (F.one ts stop) = none
number_or_one_eats (F.given ts rest n c) = some (count_eats c)

width_eats : {ts rest : List Token} {n : _} → F.SpellsWidth ts n rest → Eats ts rest 0
width_eats (F.no_width ts stop) = none
width_eats (F.width ts rest n c) = some (count_eats c)

times_eat : {ts rest : List Token} {n : ℕ} → F.SpellsTimes ts n rest → Eats ts rest 0
times_eat (F.once ts stop is) = none
times_eat (F.number ts rest t n a) = some (take a)
times_eat (F.in_parentheses ts rest n c) = some (count_eats c)

mutual
  format_eats : {ts rest : List Token} {f : T.Format} → F.SpellsFormat ts f rest → Eats ts rest 0
  format_eats (F.nested ts rest fs part) = formats_eat part
  format_eats (F.fixed ts after rest t w a c) = some (both (take a) (count_eats c))
  format_eats (F.text ts after rest t w a part) = some (both (take a) (width_eats part))
  format_eats (F.space ts after rest t n a c) = some (both (take a) (count_eats c))
  format_eats (F.skip ts after rest t n a part) = some (both (take a) (number_or_one_eats part))
  format_eats (F.column ts after rest t n a c) = some (both (take a) (count_eats c))

  format_items_eat : {ts rest : List Token} {fs : T.Formats} → F.SpellsFormatItems ts fs rest → Eats ts rest 0
  format_items_eat (F.last_item ts behind mid rest t u n f is at times part a) =
      some (both (both (times_eat times) (format_eats part)) (take a))
  format_items_eat (F.further_items ts behind mid after rest t u n f fs is at times part a others) =
      some (both (both (both (times_eat times) (format_eats part)) (take a)) (format_items_eat others))

  formats_eat : {ts rest : List Token} {fs : T.Formats} → F.SpellsFormats ts fs rest → Eats ts rest 0
  formats_eat (F.formats ts after rest t fs a part) = some (both (take a) (format_items_eat part))

pair_eats : {s : List ℕ} {ts rest : List Token} {p : T.EditPair} → F.SpellsPair s ts p rest → Eats ts rest (exprs_weight p.items)
pair_eats (F.pair ts after mid behind inside rest t u v es fs a part b is others) =
    least (omega arith) (both (both (both (take a) (exprs_eat part)) (take b)) (formats_eat others))

pairs_eat : {s : List ℕ} {ts rest : List Token} {ps : List T.EditPair} → F.SpellsPairs s ts ps rest → Eats ts rest (pairs_weight ps)
pairs_eat (F.one_pair ts rest p part stop) = least (omega arith) (pair_eats part)
pairs_eat (F.further_pairs ts mid rest p ps part goes others) = both (pair_eats part) (pairs_eat others)

-- ---- parts of heads

opens_eats : {s : List ℕ} {ts rest : List Token} {word : _} {t : Token} → H.Opens s ts word t rest → Eats ts rest 1
opens_eats o = take o.taken

condition_eats : {ts rest : List Token} {c : _} → H.SpellsCondition ts c rest → Eats ts rest 0
condition_eats (H.plain ts rest t word c a is) = some (take a)
condition_eats (H.endfile ts after mid behind rest t u v w a b c d) = some (both (both (both (take a) (take b)) (take c)) (take d))

parameter_names_eat : {s : List ℕ} {ts rest : List Token} {ns : _} → H.SpellsNames s ts ns rest → Eats ts rest 0
parameter_names_eat (H.one_name ts rest t word a stop) = some (take a)
parameter_names_eat (H.further_names ts mid after rest t u word ns a b others) = some (both (both (take a) (take b)) (parameter_names_eat others))

parameters_eat : {s : List ℕ} {ts rest : List Token} {ns : _} → H.SpellsParameters s ts ns rest → Eats ts rest 0
parameters_eat (H.no_parameter ts stop) = none
parameters_eat (H.parameters ts after mid rest t u ns a part b) = some (both (both (take a) (parameter_names_eat part)) (take b))

option_eats : {s : List ℕ} {ts rest : List Token} {o : T.ProcedureOption} → H.SpellsOption s ts o rest → Eats ts rest 0
option_eats (H.main ts after mid behind rest t u v w a b c d) = some (both (both (both (take a) (take b)) (take c)) (take d))
option_eats (H.recursive ts rest t a) = some (take a)
option_eats (H.returns ts after mid behind rest t u v x others a b part c) =
    some (both (both (both (take a) (take b)) (attributes_eat part)) (take c))

options_eat : {s : List ℕ} {ts rest : List Token} {os : List T.ProcedureOption} → H.SpellsOptions s ts os rest → Eats ts rest 0
options_eat (H.no_option ts stop) = none
options_eat (H.option ts mid rest o others part behind) = both (option_eats part) (options_eat behind)

range_eats : {s : List ℕ} {before behind : H.Range} {ts rest : List Token} {m m' : _} → H.SpellsRange s before ts m behind rest m' → Eats ts rest 0
range_eats (H.range_ends before ts m stop) = none
range_eats (H.to step behind ts after mid rest m m' t e a part others) = some (both (both (take a) (level_eats part)) (range_eats others))
range_eats (H.by limit behind ts after mid rest m m' t e a part others) = some (both (both (take a) (level_eats part)) (range_eats others))

in_parentheses_eats : {s : List ℕ} {ts rest : List Token} {e : T.Expr} → H.SpellsInParentheses s ts e rest → Eats ts rest 0
in_parentheses_eats (H.in_parentheses ts after mid rest t u e a part b) = some (both (both (take a) (level_eats part)) (take b))

while_eats : {s : List ℕ} {ts rest : List Token} {w : _} → H.SpellsWhile s ts w rest → Eats ts rest 0
while_eats (H.no_while ts stop) = none
while_eats (H.while ts after rest t e a part) = some (both (take a) (in_parentheses_eats part))

counting_eats : {s : List ℕ} {ts rest : List Token} {m m' : _} {c : T.Counting} → H.SpellsCounting s ts m c rest m' → Eats ts rest 0
counting_eats (H.counting ts mid after behind at rest m m' t v e r w target a part range behind_all) =
    some (both (both (both (both (reference_eats target) (take a)) (level_eats part)) (range_eats range)) (while_eats behind_all))

into_eats : {s : List ℕ} {ts rest : List Token} {r : T.Reference} → H.SpellsInto s ts r rest → Eats ts rest 0
into_eats (H.into ts after mid rest t u r a part b) = some (both (both (take a) (reference_eats part)) (take b))

placing_eats : {s : List ℕ} {before behind : T.Allocation} {ts rest : List Token} {m m' : _} → H.SpellsPlacing s before ts m behind rest m' → Eats ts rest 0
placing_eats (H.placing_ends a ts m stop) = none
placing_eats (H.in_area n l b ts after mid rest m m' t r a part others) = some (both (both (take a) (into_eats part)) (placing_eats others))
placing_eats (H.set_locator n k b ts after mid rest m m' t r a part others) = some (both (both (take a) (into_eats part)) (placing_eats others))

allocation_eats : {s : List ℕ} {ts rest : List Token} {m m' : _} {x : T.Allocation} → H.SpellsAllocation s ts m x rest m' → Eats ts rest 0
allocation_eats (H.allocation ts mid rest m m' t word x a part) = some (both (take a) (placing_eats part))

allocations_eat : {s : List ℕ} {ts rest : List Token} {m m' : _} {xs : List T.Allocation} → H.SpellsAllocations s ts m xs rest m' → Eats ts rest 0
allocations_eat (H.one_allocation ts rest m m' x part stop) = allocation_eats part
allocations_eat (H.further_allocations ts mid after rest m m' m'' t x xs part a others) =
    some (both (both (allocation_eats part) (take a)) (allocations_eat others))

freeing_eats : {s : List ℕ} {ts rest : List Token} {f : T.Freeing} → H.SpellsFreeing s ts f rest → Eats ts rest 0
freeing_eats (H.free ts rest r part stop) = some (reference_eats part)
freeing_eats (H.free_in ts mid after rest t r area part a other) = some (both (both (reference_eats part) (take a)) (into_eats other))

freeings_eat : {s : List ℕ} {ts rest : List Token} {fs : List T.Freeing} → H.SpellsFreeings s ts fs rest → Eats ts rest 0
freeings_eat (H.one_freeing ts rest f part stop) = freeing_eats part
freeings_eat (H.further_freeings ts mid after rest t f fs part a others) = some (both (both (freeing_eats part) (take a)) (freeings_eat others))

-- ---- GET and PUT

stream_options_eat : {s : List ℕ} {d : _} {filed : _} {k k' : Option T.Skip} {ts rest : List Token} → H.SpellsStreamOptions s d filed k ts k' rest → Eats ts rest 0
stream_options_eat (H.options_end filed k ts no_file no_skip) = none
stream_options_eat (H.file k k' ts after mid behind at rest t u v w a b c d others) =
    some (both (both (both (both (take a) (take b)) (take c)) (take d)) (stream_options_eat others))
stream_options_eat (H.skip filed k' ts after mid rest t n a part others) =
    some (both (both (take a) (number_or_one_eats part)) (stream_options_eat others))

edit_eats : {s : List ℕ} {ts rest : List Token} {ps : List T.EditPair} → H.SpellsEdit s ts ps rest → Eats ts rest (pairs_weight ps)
edit_eats (H.no_edit ts stop) = none
edit_eats (H.edit ts after rest t ps a part) = least (omega arith) (both (take a) (pairs_eat part))

moving_weight : (d : F.Direction) (k : Option T.Skip) (ps : List T.EditPair) (p : Place) → stmt_weight (H.moving d k ps p) ≤ 1 + pairs_weight ps
moving_weight F.Getting k ps p = omega arith
moving_weight F.Putting k ps p = omega arith

moving_line : (d : F.Direction) (k : Option T.Skip) (ps : List T.EditPair) (p : Place) → p.line < 2 ^ 31 → stmt_line (H.moving d k ps p) < 2 ^ 31
moving_line F.Getting k ps p h = omega arith
moving_line F.Putting k ps p h = h

-- ---- simple statements

goto_eats : {s : List ℕ} {ts rest : List Token} {t : Token} → H.SpellsGoto s ts t rest → Eats ts rest 1
goto_eats (H.goto ts after t o) = opens_eats o
goto_eats (H.go_to ts after rest t u o a) = least (omega arith) (both (opens_eats o) (take a))

return_eats : {s : List ℕ} {ts rest : List Token} {e : _} → H.SpellsReturn s ts e rest → Eats ts rest 0
return_eats (H.no_value ts stop) = none
return_eats (H.value ts rest e part) = in_parentheses_eats part

-- at least as many as the statement weighs, but for the semicolon behind it; and its line
record Stands (ts rest : List Token) (x : T.Stmt) : Type 0 where
  eats : Eats ts rest (stmt_weight x - 1)
  line : Small ts → stmt_line x < 2 ^ 31

simple_stands : {s : List ℕ} {ts rest : List Token} {m m' : _} {x : T.Stmt} → H.SpellsSimple s ts m x rest m' → Stands ts rest x
simple_stands (H.null ts rest m t is kind) = record { eats = least (omega arith) none; line = λ h. omega arith }
simple_stands (H.assignment ts behind mid after rest m t u r e is no_if target equal source) =
    record {
      eats = least (omega arith) (both (both (reference_eats target) (take equal)) (level_eats source));
      line = small_first is;
    }
simple_stands (H.call ts after mid rest m t u word a o b part) =
    record { eats = least (omega arith) (both (both (opens_eats o) (take b)) (arguments_eat part)); line = λ h. omega arith }
simple_stands (H.return' ts after rest m t e o part) =
    record { eats = least (omega arith) (both (opens_eats o) (return_eats part)); line = λ h. omega arith }
simple_stands (H.goto ts after rest m t u word part a) =
    record { eats = least (omega arith) (both (goto_eats part) (take a)); line = λ h. omega arith }
simple_stands (H.stop ts rest m t o) = record { eats = least (omega arith) (opens_eats o); line = λ h. omega arith }
simple_stands (H.signal ts after rest m t c o part) =
    record { eats = least (omega arith) (both (opens_eats o) (condition_eats part)); line = λ h. omega arith }
simple_stands (H.revert ts after rest m t c o part) =
    record { eats = least (omega arith) (both (opens_eats o) (condition_eats part)); line = λ h. omega arith }
simple_stands (H.allocate ts after rest m m' t xs o part) =
    record { eats = least (omega arith) (both (opens_eats o) (allocations_eat part)); line = λ h. omega arith }
simple_stands (H.free ts after rest m t fs o part) =
    record { eats = least (omega arith) (both (opens_eats o) (freeings_eat part)); line = λ h. omega arith }
simple_stands (H.move d ts after mid rest m t k ps o options part moves) =
    let w = moving_weight d k ps (G.place_of t) in
    record {
      eats = least (omega (arith, w)) (both (both (opens_eats o) (stream_options_eat options)) (edit_eats part));
      line = λ h. moving_line d k ps (G.place_of t) (small_first o.taken.is h);
    }

-- ---- heads

-- what a head adds to a tree
abbrev pub head_weight : H.Head → ℕ
head_weight (H.Declaring ds p) = declared_weight ds
head_weight (H.Simple x) = stmt_weight x
head_weight (H.ProcedureFront p parameters options) = 0
head_weight (H.Else p) = 0
head_weight (H.System p) = 0
head_weight (H.EndOf name p) = 0
head_weight _ = 1

-- the lines that the code of a head names
abbrev pub HeadLines : H.Head → Type 0
HeadLines (H.ProcedureFront p parameters options) = p.line < 2 ^ 31
HeadLines (H.Simple x) = stmt_line x < 2 ^ 31
HeadLines _ = Unit {0}

pub record Begins (ts rest : List Token) (h : H.Head) : Type 0 where
  pub eats : Eats ts rest (head_weight h)
  pub lines : Small ts → HeadLines h

pub head_begins : {s : List ℕ} {ts rest : List Token} {m m' : _} {h : H.Head} → H.SpellsHead s ts m h rest m' → Begins ts rest h
head_begins (H.procedure ts after mid behind rest m t u ns options o names part a) =
    record {
      eats = some (both (both (both (opens_eats o) (parameters_eat names)) (options_eat part)) (take a));
      lines = small_first o.taken.is;
    }
head_begins (H.declare ts after mid rest m t u ds o part a) =
    record { eats = least (omega arith) (both (both (opens_eats o) (declare_items_eat part)) (take a)); lines = λ h. tt }
head_begins (H.simple ts mid rest m m' u x part a) =
    let p = simple_stands part in
    record { eats = least (omega arith) (both p.eats (take a)); lines = p.line }
head_begins (H.if_then ts after mid rest m t u e o part a) =
    record { eats = least (omega arith) (both (both (opens_eats o) (level_eats part)) (take a)); lines = λ h. tt }
head_begins (H.else' ts rest m t o) = record { eats = some (opens_eats o); lines = λ h. tt }
head_begins (H.do_group ts after rest m t u o a) = record { eats = least (omega arith) (both (opens_eats o) (take a)); lines = λ h. tt }
head_begins (H.do_while ts after mid behind rest m t u v e o a part b) =
    record { eats = least (omega arith) (both (both (both (opens_eats o) (take a)) (in_parentheses_eats part)) (take b)); lines = λ h. tt }
head_begins (H.do_count ts after mid rest m m' t u c o part a) =
    record { eats = least (omega arith) (both (both (opens_eats o) (counting_eats part)) (take a)); lines = λ h. tt }
head_begins (H.begin ts after rest m t u o a) = record { eats = least (omega arith) (both (opens_eats o) (take a)); lines = λ h. tt }
head_begins (H.on ts after rest m t c o part) =
    record { eats = least (omega arith) (both (opens_eats o) (condition_eats part)); lines = λ h. tt }
head_begins (H.system ts after rest m t u o a) = record { eats = some (both (opens_eats o) (take a)); lines = λ h. tt }
head_begins (H.unnamed_end ts after rest m t u o a) = record { eats = some (both (opens_eats o) (take a)); lines = λ h. tt }
head_begins (H.named_end ts after mid rest m t u v word o a b) =
    record { eats = some (both (both (opens_eats o) (take a)) (take b)); lines = λ h. tt }

-- ---- labels

pub labels_eat : {s : List ℕ} {ts rest : List Token} {ls : _} → P.SpellsLabels s ts ls rest → Eats ts rest 0
labels_eat (P.no_label ts stop) = none
labels_eat (P.label ts after rest t u word ls is ahead others) = some (both (both (one is) (one refl)) (labels_eat others))
