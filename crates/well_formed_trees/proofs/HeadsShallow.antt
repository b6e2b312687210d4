-- In each expression of a head of what is spelled no more parentheses are open than may be.
use Rattle.std.proofs.Common.{◌≡◌, ℕ, zero, suc, ◌-◌, Bool, false, List, [], ◌∷◌, ◌++◌, length, take, Option}
use Rattle.std.proofs.Common.{Some, None, refl, sym, ap, ◌∙◌, subst, arith}
use Rattle.std.specs.Prelude.{⊤}
use Rattle.std.proofs.lemmas.List.{length-append, append-nil}
use Rattle.pli_language.specs.declared.condition.Condition.{Condition}
use Rattle.pli_language.specs.declared.fault.SourceFault.{SourceFault}
use Rattle.pli_language.specs.declared.token.Kind.{Kind}
use Rattle.pli_language.specs.declared.token.Kind.TheVariants as K
use Rattle.pli_language.specs.declared.token.Symbol.TheVariants as S
use Rattle.pli_language.specs.declared.token.Token.{Token}
use Rattle.pli_language.specs.declared.token.Word.{Word}
use Rattle.pli_language.specs.declared.token.Word.TheVariants as W
use Rattle.pli_language.specs.Attributes as A
use Rattle.pli_language.specs.Attributes.{SpellsExtent, SpellsBound, SpellsBounds, SpellsDimensions, SpellsPrecision}
use Rattle.pli_language.specs.Attributes.{SpellsSize, SpellsOwner, SpellsBitLength, SpellsRepetition}
use Rattle.pli_language.specs.Attributes.{SpellsNoArguments, SpellsInitialValue, SpellsInitialItem}
use Rattle.pli_language.specs.Attributes.{SpellsInitialItems, plain_attribute, SpellsAttribute, SpellsAttributes}
use Rattle.pli_language.specs.Attributes.{SpellsDeclaredName, SpellsDeclaredNames, SpellsLevel, ItemFront}
use Rattle.pli_language.specs.Attributes.{SpellsFront, SpellsDeclareItem, SpellsDeclareItems}
use Rattle.pli_language.specs.Formats as F
use Rattle.pli_language.specs.Formats.{SpellsNumberOrOne, SpellsWidth, SpellsTimes, SpellsFormat, SpellsFormatItems}
use Rattle.pli_language.specs.Formats.{SpellsFormats, SpellsPair, SpellsPairs, Direction, Getting, Putting}
use Rattle.pli_language.specs.Heads as H
use Rattle.pli_language.specs.Heads.{Opens as IsOpening, SpellsCondition, SpellsNames, SpellsParameters, SpellsOption}
use Rattle.pli_language.specs.Heads.{SpellsOptions, Range, SpellsRange, SpellsInParentheses, SpellsWhile, moving}
use Rattle.pli_language.specs.Heads.{SpellsCounting, SpellsInto, SpellsPlacing, SpellsAllocation, SpellsAllocations}
use Rattle.pli_language.specs.Heads.{SpellsFreeing, SpellsFreeings, SpellsStreamOptions, SpellsEdit, SpellsGoto}
use Rattle.pli_language.specs.Heads.{SpellsReturn, SpellsSimple, SpellsHead, file_word}
use Rattle.pli_language.specs.Marks.{Marks, no_marks, parentheses_marks}
use Rattle.pli_language.specs.Nesting.{Nest, settled, blocks, units, may_return, nest_faults}
use Rattle.pli_language.specs.Parsing as P
use Rattle.pli_language.specs.Parsing.{Reads, before, faults_of}
use Rattle.pli_language.specs.Spells.{Takes, SpellsExpr, SpellsReference, SpellsArguments, SpellsExprs, SpellsCount}
use Rattle.pli_language.specs.Tree as T
use Rattle.well_formed_trees.specs.Every.{Every}
use Rattle.well_formed_trees.specs.Spelled.{RangedIf, StmtHas, ItemsHave}
use Rattle.well_formed_trees.specs.Shallow.{Opens, OpensReference, OpensQualified, OpensArguments, OpensExprs}
use Rattle.well_formed_trees.specs.Shallow.{ShallowBound, ShallowSize, ShallowAttribute, ShallowName, ShallowItem}
use Rattle.well_formed_trees.specs.Shallow.{ShallowOption, ShallowIf, ShallowCounting}
use Rattle.well_formed_trees.specs.Shallow.{ShallowAllocation, ShallowFreeing, ShallowPair, ShallowSimple, ShallowHead}
use Rattle.well_formed_trees.specs.Shallow.{IsShallow, ParenthesesKept}
use Rattle.well_formed_trees.proofs.Places.{same_some}
use Rattle.well_formed_trees.proofs.Lists.{first_empty, second_empty}
use Rattle.well_formed_trees.proofs.Nests.{OptFine}
use Rattle.well_formed_trees.proofs.HeadNests.{HeadHas, NestHas, items_have, entered_has}
use Rattle.well_formed_trees.proofs.MarksClean.{IsClean}
use Rattle.well_formed_trees.proofs.ParenthesesBalanced.{IsPlain, IsRead, nothing_read, both_read, read_by, taken_read}
use Rattle.well_formed_trees.proofs.ParenthesesBalanced.{enclosed_read, expr_read, reference_read, arguments_read}
use Rattle.well_formed_trees.proofs.ParenthesesBalanced.{exprs_read}

-- ---- where fewer are open

mutual
  opens_less : (n : ℕ) (e : T.Expr) → Opens (suc n) e → Opens n e
  opens_less n (T.Parenthesized e p) h = let room = h.0 in (omega (arith, room), opens_less (suc n) e h.1)
  opens_less n (T.Prefix op e p) h = opens_less n e h
  opens_less n (T.Infix op l r) h = (opens_less n l h.0, opens_less n r h.1)
  opens_less n (T.Refers r) h = reference_less n r h
  opens_less n _ h = tt

  reference_less : (n : ℕ) (r : T.Reference) → OpensReference (suc n) r → OpensReference n r
  reference_less n (T.Plain q) h = qualified_less n q h
  reference_less n (T.Located r q) h = (reference_less n r h.0, qualified_less n q h.1)

  qualified_less : (n : ℕ) (q : T.Qualified) → OpensQualified (suc n) q → OpensQualified n q
  qualified_less n (T.Last m a) h = arguments_less n a h
  qualified_less n (T.Of m a q) h = (arguments_less n a h.0, qualified_less n q h.1)

  arguments_less : (n : ℕ) (a : T.Arguments) → OpensArguments (suc n) a → OpensArguments n a
  arguments_less n T.Absent h = tt
  arguments_less n (T.Listed es) h = let room = h.0 in (omega (arith, room), exprs_less (suc n) es h.1)

  exprs_less : (n : ℕ) (es : T.Exprs) → OpensExprs (suc n) es → OpensExprs n es
  exprs_less n T.NoExpr h = tt
  exprs_less n (T.ExprThen e es) h = (opens_less n e h.0, exprs_less n es h.1)

outermost : (P : ℕ → Type 0) → ((n : ℕ) → P (suc n) → P n) → (n : ℕ) → P n → P 0
outermost P less zero h = h
outermost P less (suc n) h = outermost P less n (less n h)

-- ---- what is read

record Has (ts rest : List Token) (C : Type 0) : Type 0 where
  read : IsRead ts rest (λ n. C)

nothing : (ts : List Token) → Has ts ts ⊤
nothing ts = record { read = nothing_read ts }

both : {ts mid rest : List Token} {A B : Type 0} → Has ts mid A → Has mid rest B → Has ts rest (A × B)
both {ts} {mid} {rest} {A} {B} h k = record { read = both_read ts mid rest (λ n. A) (λ n. B) h.read k.read }

turned : {ts rest : List Token} {A B : Type 0} → Has ts rest A → (A → B) → Has ts rest B
turned {ts} {rest} {A} {B} h f = record { read = read_by ts rest (λ n. A) (λ n. B) (λ n a. f a) h.read }

token : {ts rest : List Token} {k : Kind} {t : Token} → Takes ts k t rest → IsPlain k → Has ts rest ⊤
token taken h = record { read = taken_read taken h }

inside : {ts after mid rest : List Token} {t u : Token} {C : Type 0} → Takes ts (K.Symbol S.OpenParenthesis) t after
    → Has after mid C → Takes mid (K.Symbol S.CloseParenthesis) u rest → Has ts rest C
inside {ts} {after} {mid} {rest} {t} {u} {C} opened h closed =
    record { read = read_by ts rest _ (λ n. C) (λ n x. x.1) (enclosed_read (λ n. C) opened h.read closed) }

behind : {ts mid rest : List Token} {C : Type 0} → Has ts mid ⊤ → Has mid rest C → Has ts rest C
behind h k = turned (both h k) (λ x. x.1)

front : {ts mid rest : List Token} {C : Type 0} → Has ts mid C → Has mid rest ⊤ → Has ts rest C
front h k = turned (both h k) (λ x. x.0)

expr : {s : List ℕ} {ts rest : List Token} {e : T.Expr} → SpellsExpr s ts e rest → Has ts rest (Opens 0 e)
expr {s} {ts} {rest} {e} sp =
    record {
      read = read_by ts rest (λ n. Opens n e) (λ n. Opens 0 e)
          (outermost (λ n. Opens n e) (λ n h. opens_less n e h)) (expr_read sp);
    }

referring : {s : List ℕ} {ts rest : List Token} {r : T.Reference} → SpellsReference s ts r rest
    → Has ts rest (OpensReference 0 r)
referring {s} {ts} {rest} {r} sp =
    record {
      read = read_by ts rest (λ n. OpensReference n r) (λ n. OpensReference 0 r)
          (outermost (λ n. OpensReference n r) (λ n h. reference_less n r h)) (reference_read sp);
    }

arguments : {s : List ℕ} {ts rest : List Token} {a : T.Arguments} → SpellsArguments s ts a rest
    → Has ts rest (OpensArguments 0 a)
arguments {s} {ts} {rest} {a} sp =
    record {
      read = read_by ts rest (λ n. OpensArguments n a) (λ n. OpensArguments 0 a)
          (outermost (λ n. OpensArguments n a) (λ n h. arguments_less n a h)) (arguments_read sp);
    }

exprs : {s : List ℕ} {ts rest : List Token} {es : T.Exprs} → SpellsExprs s ts es rest → Has ts rest (OpensExprs 0 es)
exprs {s} {ts} {rest} {es} sp =
    record {
      read = read_by ts rest (λ n. OpensExprs n es) (λ n. OpensExprs 0 es)
          (outermost (λ n. OpensExprs n es) (λ n h. exprs_less n es h)) (exprs_read sp);
    }

count : {ts rest : List Token} {n : ℕ} → SpellsCount ts n rest → Has ts rest ⊤
count c = inside c.opened (token c.counted tt) c.closed

-- ---- declarations

extent : {s : List ℕ} {ts rest : List Token} {e : T.Extent} → SpellsExtent s ts e rest → Has ts rest (Opens 0 e.value)
extent (A.alone ts rest e sp none) = expr sp
extent (A.referring ts mid after within behind_it rest t u v w e word sp refer opened named closed) =
    front (expr sp) (behind (token refer tt) (inside opened (token named tt) closed))

bound : {s : List ℕ} {ts rest : List Token} {b : T.Bound} → SpellsBound s ts b rest → Has ts rest (ShallowBound b)
bound (A.star ts rest t taken) = token taken tt
bound (A.upper ts rest e sp none) = extent sp
bound (A.both ts mid after rest t lower above sp colon more) = both (extent sp) (behind (token colon tt) (extent more))

bounds : {s : List ℕ} {ts rest : List Token} {bs : List T.Bound} → SpellsBounds s ts bs rest
    → Has ts rest (Every ShallowBound bs)
bounds (A.one_bound ts rest b sp none) = turned (bound sp) (λ h. (h, tt))
bounds (A.further_bounds ts mid after rest t b bs sp comma more) =
    both (bound sp) (behind (token comma tt) (bounds more))

dimensions : {s : List ℕ} {ts rest : List Token} {bs : List T.Bound} → SpellsDimensions s ts bs rest
    → Has ts rest (Every ShallowBound bs)
dimensions (A.no_dimension ts none) = nothing ts
dimensions (A.dimensions ts after mid rest t u bs opened sp closed) = inside opened (bounds sp) closed

precision : {ts rest : List Token} {p : Option ℕ} → SpellsPrecision ts p rest → Has ts rest ⊤
precision (A.no_precision ts none) = nothing ts
precision (A.digits ts rest n counted) = count counted
precision (A.digits_and_scale ts after mid behind_it within rest t u v w x n opened digits comma scale closed) =
    inside opened (behind (token digits tt) (behind (token comma tt) (token scale tt))) closed

size : {s : List ℕ} {ts rest : List Token} {n : Option T.Size} → SpellsSize s ts n rest
    → Has ts rest (RangedIf ShallowSize n)
size (A.no_size ts none) = nothing ts
size (A.star_size ts after mid rest t u v opened star closed) = inside opened (token star tt) closed
size (A.given_size ts after mid rest t u e opened sp closed) = inside opened (extent sp) closed

owner : {s : List ℕ} {ts rest : List Token} {n : Option T.Name} → SpellsOwner s ts n rest → Has ts rest ⊤
owner (A.no_owner ts none) = nothing ts
owner (A.owner ts after mid rest t u v word opened named closed) = inside opened (token named tt) closed

bit_length : {ts rest : List Token} → SpellsBitLength ts rest → Has ts rest ⊤
bit_length (A.no_bit_length ts none) = nothing ts
bit_length (A.bit_length ts rest counted) = count counted

repetition : {ts rest : List Token} {n : ℕ} → SpellsRepetition ts n rest → Has ts rest ⊤
repetition (A.once ts none) = nothing ts
repetition (A.repeated ts rest n counted) = count counted

no_arguments : {ts rest : List Token} → SpellsNoArguments ts rest → Has ts rest ⊤
no_arguments (A.bare ts none) = nothing ts
no_arguments (A.empty ts mid rest t u opened closed) = inside opened (nothing mid) closed

value : {s : List ℕ} {ts rest : List Token} {v : T.InitialValue} → SpellsInitialValue s ts v rest → Has ts rest ⊤
value (A.unsigned ts rest t n taken) = token taken tt
value (A.positive ts mid rest t u n sign taken) = behind (token sign tt) (token taken tt)
value (A.negative ts mid rest t u n sign taken) = behind (token sign tt) (token taken tt)
value (A.text ts rest t v taken spelled) = token taken tt
value (A.bit ts rest t b taken) = token taken tt
value (A.skipped ts rest t taken) = token taken tt
value (A.null ts mid rest t taken none) = behind (token taken tt) (no_arguments none)
value (A.empty_area ts mid rest t taken none) = behind (token taken tt) (no_arguments none)

initial : {s : List ℕ} {ts rest : List Token} {i : T.InitialItem} → SpellsInitialItem s ts i rest → Has ts rest ⊤
initial (A.initial_item ts mid rest n v times sp) = behind (repetition times) (value sp)

initials : {s : List ℕ} {ts rest : List Token} {is : List T.InitialItem} → SpellsInitialItems s ts is rest
    → Has ts rest ⊤
initials (A.one_value ts rest i sp none) = initial sp
initials (A.further_values ts mid after rest t i is sp comma more) =
    behind (initial sp) (behind (token comma tt) (initials more))

abbrev IsWord : Option T.Attribute → Type 0
IsWord None = ⊤
IsWord (Some a) = ShallowAttribute a

plain_word : (word : Word) → IsWord (plain_attribute word)
plain_word W.Varying = tt
plain_word W.Pointer = tt
plain_word W.Ptr = tt
plain_word W.Automatic = tt
plain_word W.Static = tt
plain_word W.Controlled = tt
plain_word W.Builtin = tt
plain_word W.Aligned = tt
plain_word W.Unaligned = tt
plain_word W.Internal = tt
plain_word _ = tt

attribute : {s : List ℕ} {ts rest : List Token} {a : T.Attribute} → SpellsAttribute s ts a rest
    → Has ts rest (ShallowAttribute a)
attribute (A.plain ts rest t word a taken is) = turned (token taken tt) (λ x. subst IsWord is (plain_word word))
attribute (A.fixed ts after rest t p taken after_it) = behind (token taken tt) (precision after_it)
attribute (A.binary ts after rest t p taken after_it) = behind (token taken tt) (precision after_it)
attribute (A.character ts after rest t n taken given) = behind (token taken tt) (size given)
attribute (A.bit ts after rest t taken one) = behind (token taken tt) (bit_length one)
attribute (A.offset ts after rest t area taken after_it) = behind (token taken tt) (owner after_it)
attribute (A.area ts after rest t n taken given) = behind (token taken tt) (size given)
attribute (A.based ts after rest t locator taken after_it) = behind (token taken tt) (owner after_it)
attribute (A.initial ts after mid behind_it rest t u v is taken opened sp closed) =
    behind (token taken tt) (inside opened (initials sp) closed)

attributes : {s : List ℕ} {ts rest : List Token} {all : List T.Attribute} → SpellsAttributes s ts all rest
    → Has ts rest (Every ShallowAttribute all)
attributes (A.no_attribute ts none) = nothing ts
attributes (A.attribute ts mid rest a others sp more) = both (attribute sp) (attributes more)

declared_name : {s : List ℕ} {ts rest : List Token} {d : T.DeclaredName} → SpellsDeclaredName s ts d rest
    → Has ts rest (ShallowName d)
declared_name (A.declared_name ts after rest t word bs taken after_it) = behind (token taken tt) (dimensions after_it)

declared_names : {s : List ℕ} {ts rest : List Token} {ds : List T.DeclaredName} → SpellsDeclaredNames s ts ds rest
    → Has ts rest (Every ShallowName ds)
declared_names (A.one_name ts rest d sp none) = turned (declared_name sp) (λ h. (h, tt))
declared_names (A.further_names ts mid after rest t d ds sp comma more) =
    both (declared_name sp) (behind (token comma tt) (declared_names more))

level : {ts rest : List Token} {n : Option ℕ} → SpellsLevel ts n rest → Has ts rest ⊤
level (A.no_level ts none) = nothing ts
level (A.level ts rest t n taken) = token taken tt

item_front : {s : List ℕ} {ts rest : List Token} {f : ItemFront} → SpellsFront s ts f rest
    → Has ts rest (Every ShallowName f.names × Every ShallowBound f.dimensions)
item_front (A.single ts mid rest n d first sp) = turned (behind (level first) (declared_name sp)) (λ h. ((h, tt), tt))
item_front (A.factored ts mid after within behind_it rest t u n ds bs first opened sp closed after_it) =
    behind (level first) (both (inside opened (declared_names sp) closed) (dimensions after_it))

item : {s : List ℕ} {ts rest : List Token} {d : T.DeclareItem} → SpellsDeclareItem s ts d rest
    → Has ts rest (ShallowItem d)
item (A.declare_item ts mid rest f all first sp) = both (item_front first) (attributes sp)

items : {s : List ℕ} {ts rest : List Token} {ds : List T.DeclareItem} → SpellsDeclareItems s ts ds rest
    → Has ts rest (Every ShallowItem ds)
items (A.one_item ts rest d sp none) = turned (item sp) (λ h. (h, tt))
items (A.further_items ts mid after rest t d ds sp comma more) = both (item sp) (behind (token comma tt) (items more))

-- ---- parts of heads

opening : {s : List ℕ} {ts rest : List Token} {word : Word} {t : Token} → IsOpening s ts word t rest → Has ts rest ⊤
opening o = token o.taken tt

condition : {ts rest : List Token} {c : Condition} → SpellsCondition ts c rest → Has ts rest ⊤
condition (H.plain ts rest t word c taken is) = token taken tt
condition (H.endfile ts after mid at_it rest t u v w taken opened file closed) =
    behind (token taken tt) (inside opened (token file tt) closed)

names : {s : List ℕ} {ts rest : List Token} {ns : List T.Name} → SpellsNames s ts ns rest → Has ts rest ⊤
names (H.one_name ts rest t word taken none) = token taken tt
names (H.further_names ts mid after rest t u word ns taken comma more) =
    behind (token taken tt) (behind (token comma tt) (names more))

parameters : {s : List ℕ} {ts rest : List Token} {ns : List T.Name} → SpellsParameters s ts ns rest → Has ts rest ⊤
parameters (H.no_parameter ts none) = nothing ts
parameters (H.parameters ts after mid rest t u ns opened listed closed) = inside opened (names listed) closed

option : {s : List ℕ} {ts rest : List Token} {o : T.ProcedureOption} → SpellsOption s ts o rest
    → Has ts rest (ShallowOption o)
option (H.main ts after mid at_it rest t u v w taken opened named closed) =
    behind (token taken tt) (inside opened (token named tt) closed)
option (H.recursive ts rest t taken) = token taken tt
option (H.returns ts after mid at_it rest t u v a others taken opened sp closed) =
    behind (token taken tt) (inside opened (attributes sp) closed)

options : {s : List ℕ} {ts rest : List Token} {os : List T.ProcedureOption} → SpellsOptions s ts os rest
    → Has ts rest (Every ShallowOption os)
options (H.no_option ts e) = nothing ts
options (H.option ts mid rest o others sp more) = both (option sp) (options more)

in_parentheses : {s : List ℕ} {ts rest : List Token} {e : T.Expr} → SpellsInParentheses s ts e rest
    → Has ts rest (Opens 0 e)
in_parentheses (H.in_parentheses ts after mid rest t u e opened sp closed) = inside opened (expr sp) closed

while_if : {s : List ℕ} {ts rest : List Token} {w : Option T.Expr} → SpellsWhile s ts w rest
    → Has ts rest (ShallowIf w)
while_if (H.no_while ts none) = nothing ts
while_if (H.while ts after rest t e taken sp) = behind (token taken tt) (in_parentheses sp)

-- ---- DO

abbrev ShallowRange : Range → Type 0
ShallowRange r = ShallowIf r.limit × ShallowIf r.step

range : {s : List ℕ} {b r : Range} {ts rest : List Token} {m m' : Marks} → SpellsRange s b ts m r rest m'
    → Has ts rest (ShallowRange b → ShallowRange r)
range (H.range_ends b ts m e) = turned (nothing ts) (λ x h. h)
range (H.to step r ts after mid rest m m' t e taken sp more) =
    turned (behind (token taken tt) (both (expr sp) (range more))) (λ x h. x.1 (x.0, h.1))
range (H.by limit r ts after mid rest m m' t e taken sp more) =
    turned (behind (token taken tt) (both (expr sp) (range more))) (λ x h. x.1 (h.0, x.0))

counting : {s : List ℕ} {ts rest : List Token} {m m' : Marks} {c : T.Counting} → SpellsCounting s ts m c rest m'
    → Has ts rest (ShallowCounting c)
counting (H.counting ts mid after at_it at rest m m' t v e r w variable equal start more last) =
    turned (both (referring variable) (behind (token equal tt) (both (expr start) (both (range more) (while_if last)))))
    (λ x. ((x.0, x.1.0), (x.1.1.0 (tt, tt), x.1.1.1)))

-- ---- ALLOCATE and FREE

into : {s : List ℕ} {ts rest : List Token} {r : T.Reference} → SpellsInto s ts r rest
    → Has ts rest (OpensReference 0 r)
into (H.into ts after mid rest t u r opened sp closed) = inside opened (referring sp) closed

placing : {s : List ℕ} {a b : T.Allocation} {ts rest : List Token} {m m' : Marks} → SpellsPlacing s a ts m b rest m'
    → Has ts rest (ShallowAllocation a → ShallowAllocation b)
placing (H.placing_ends a ts m e) = turned (nothing ts) (λ x h. h)
placing (H.in_area n l b ts after mid rest m m' t r taken sp more) =
    turned (behind (token taken tt) (both (into sp) (placing more))) (λ x h. x.1 (x.0, h.1))
placing (H.set_locator n a b ts after mid rest m m' t r taken sp more) =
    turned (behind (token taken tt) (both (into sp) (placing more))) (λ x h. x.1 (h.0, x.0))

allocation : {s : List ℕ} {ts rest : List Token} {m m' : Marks} {a : T.Allocation} → SpellsAllocation s ts m a rest m'
    → Has ts rest (ShallowAllocation a)
allocation (H.allocation ts mid rest m m' t word a taken sp) =
    turned (behind (token taken tt) (placing sp)) (λ x. x (tt, tt))

allocations : {s : List ℕ} {ts rest : List Token} {m m' : Marks} {all : List T.Allocation}
    → SpellsAllocations s ts m all rest m' → Has ts rest (Every ShallowAllocation all)
allocations (H.one_allocation ts rest m m' a sp none) = turned (allocation sp) (λ h. (h, tt))
allocations (H.further_allocations ts mid after rest m m' m'' t a others sp comma more) =
    both (allocation sp) (behind (token comma tt) (allocations more))

freeing : {s : List ℕ} {ts rest : List Token} {f : T.Freeing} → SpellsFreeing s ts f rest
    → Has ts rest (ShallowFreeing f)
freeing (H.free ts rest r sp none) = turned (referring sp) (λ h. (h, tt))
freeing (H.free_in ts mid after rest t r a sp taken area) =
    both (referring sp) (behind (token taken tt) (into area))

freeings : {s : List ℕ} {ts rest : List Token} {fs : List T.Freeing} → SpellsFreeings s ts fs rest
    → Has ts rest (Every ShallowFreeing fs)
freeings (H.one_freeing ts rest f sp none) = turned (freeing sp) (λ h. (h, tt))
freeings (H.further_freeings ts mid after rest t f others sp comma more) =
    both (freeing sp) (behind (token comma tt) (freeings more))

-- ---- GET and PUT

number_or_one : {ts rest : List Token} {n : ℕ} → SpellsNumberOrOne ts n rest → Has ts rest ⊤
number_or_one (F.one ts none) = nothing ts
number_or_one (F.given ts rest n counted) = count counted

width : {ts rest : List Token} {w : Option ℕ} → SpellsWidth ts w rest → Has ts rest ⊤
width (F.no_width ts none) = nothing ts
width (F.width ts rest n counted) = count counted

times : {ts rest : List Token} {n : ℕ} → SpellsTimes ts n rest → Has ts rest ⊤
times (F.once ts none e) = nothing ts
times (F.number ts rest t n taken) = token taken tt
times (F.in_parentheses ts rest n counted) = count counted

-- what is read up to the parenthesis that closes it
record HasClosed (ts rest : List Token) : Type 0 where
  mid : List Token
  last : Token
  inner : Has ts mid ⊤
  closed : Takes mid (K.Symbol S.CloseParenthesis) last rest

mutual
  format : {ts rest : List Token} {f : T.Format} → SpellsFormat ts f rest → Has ts rest ⊤
  format (F.nested ts rest fs sp) = formats sp
  format (F.fixed ts after rest t w taken counted) = behind (token taken tt) (count counted)
  format (F.text ts after rest t w taken counted) = behind (token taken tt) (width counted)
  format (F.space ts after rest t n taken counted) = behind (token taken tt) (count counted)
  format (F.skip ts after rest t n taken counted) = behind (token taken tt) (number_or_one counted)
  format (F.column ts after rest t n taken counted) = behind (token taken tt) (count counted)

  format_items : {ts rest : List Token} {fs : T.Formats} → SpellsFormatItems ts fs rest → HasClosed ts rest
  format_items (F.last_item ts after mid rest t u n f is at repeated sp closed) =
      record { mid = mid; last = u; inner = behind (times repeated) (format sp); closed = closed }
  format_items (F.further_items ts at_it mid after rest t u n f fs is at repeated sp comma more) =
      let k = format_items more in
      record {
        mid = k.mid;
        last = k.last;
        inner = behind (times repeated) (behind (format sp) (behind (token comma tt) k.inner));
        closed = k.closed;
      }

  formats : {ts rest : List Token} {fs : T.Formats} → SpellsFormats ts fs rest → Has ts rest ⊤
  formats (F.formats ts after rest t fs opened sp) =
      let k = format_items sp in
      inside opened k.inner k.closed

pair : {s : List ℕ} {ts rest : List Token} {p : T.EditPair} → SpellsPair s ts p rest → Has ts rest (ShallowPair p)
pair (F.pair ts after mid at_it within rest t u v es fs opened sp closed is list) =
    front (inside opened (exprs sp) closed) (formats list)

pairs : {s : List ℕ} {ts rest : List Token} {ps : List T.EditPair} → SpellsPairs s ts ps rest
    → Has ts rest (Every ShallowPair ps)
pairs (F.one_pair ts rest p sp none) = turned (pair sp) (λ h. (h, tt))
pairs (F.further_pairs ts mid rest p ps sp opens more) = both (pair sp) (pairs more)

edit : {s : List ℕ} {ts rest : List Token} {ps : List T.EditPair} → SpellsEdit s ts ps rest
    → Has ts rest (Every ShallowPair ps)
edit (H.no_edit ts none) = nothing ts
edit (H.edit ts after rest t ps taken sp) = behind (token taken tt) (pairs sp)

stream_options : {s : List ℕ} {d : Direction} {filed : Bool} {k k' : Option T.Skip} {ts rest : List Token}
    → SpellsStreamOptions s d filed k ts k' rest → Has ts rest ⊤
stream_options (H.options_end filed k ts no_file no_skip) = nothing ts
stream_options (H.file k k' ts after mid at_it at rest t u v w taken opened named closed more) =
    behind (token taken tt) (behind (inside opened (token named tt) closed) (stream_options more))
stream_options (H.skip filed k' ts after mid rest t n taken counted more) =
    behind (token taken tt) (behind (number_or_one counted) (stream_options more))

moved : (d : Direction) (k : Option T.Skip) (ps : List T.EditPair) (p : _) → Every ShallowPair ps
    → ShallowSimple (moving d k ps p)
moved Getting k ps p h = h
moved Putting k ps p h = h

-- ---- simple statements

returned : {s : List ℕ} {ts rest : List Token} {e : Option T.Expr} → SpellsReturn s ts e rest
    → Has ts rest (ShallowIf e)
returned (H.no_value ts none) = nothing ts
returned (H.value ts rest e sp) = in_parentheses sp

goto : {s : List ℕ} {ts rest : List Token} {t : Token} → SpellsGoto s ts t rest → Has ts rest ⊤
goto (H.goto ts after t o) = opening o
goto (H.go_to ts after rest t u o taken) = behind (opening o) (token taken tt)

simple : {s : List ℕ} {ts rest : List Token} {m m' : Marks} {x : T.Stmt} → SpellsSimple s ts m x rest m'
    → Has ts rest (ShallowSimple x)
simple (H.null ts rest m t is kind) = nothing ts
simple (H.assignment ts at mid after rest m t u r v is no_if target equal source) =
    both (referring target) (behind (token equal tt) (expr source))
simple (H.call ts after mid rest m t u word a o named sp) =
    behind (opening o) (behind (token named tt) (arguments sp))
simple (H.return' ts after rest m t v o sp) = behind (opening o) (returned sp)
simple (H.goto ts after rest m t u word o named) = behind (goto o) (token named tt)
simple (H.stop ts rest m t o) = opening o
simple (H.signal ts after rest m t c o sp) = behind (opening o) (condition sp)
simple (H.revert ts after rest m t c o sp) = behind (opening o) (condition sp)
simple (H.allocate ts after rest m m' t others o sp) = behind (opening o) (allocations sp)
simple (H.free ts after rest m t fs o sp) = behind (opening o) (freeings sp)
simple (H.move d ts after mid rest m t k ps o given sp moves) =
    turned (behind (opening o) (behind (stream_options given) (edit sp))) (moved d k ps _)

-- ---- heads

head : {s : List ℕ} {ts rest : List Token} {m m' : Marks} {h : H.Head} → SpellsHead s ts m h rest m'
    → Has ts rest (ShallowHead h)
head (H.procedure ts after mid at rest m t u ns os o named given closed) =
    behind (opening o) (behind (parameters named) (front (options given) (token closed tt)))
head (H.declare ts after mid rest m t u ds o sp closed) = behind (opening o) (front (items sp) (token closed tt))
head (H.simple ts mid rest m m' u x sp closed) = front (simple sp) (token closed tt)
head (H.if_then ts after mid rest m t u e o sp closed) = behind (opening o) (front (expr sp) (token closed tt))
head (H.else' ts rest m t o) = opening o
head (H.do_group ts after rest m t u o closed) = behind (opening o) (token closed tt)
head (H.do_while ts after mid at rest m t u v e o while sp closed) =
    behind (opening o) (behind (token while tt) (front (in_parentheses sp) (token closed tt)))
head (H.do_count ts after mid rest m m' t u c o sp closed) =
    behind (opening o) (front (counting sp) (token closed tt))
head (H.begin ts after rest m t u o closed) = behind (opening o) (token closed tt)
head (H.on ts after rest m t c o sp) = behind (opening o) (condition sp)
head (H.system ts after rest m t u o closed) = behind (opening o) (token closed tt)
head (H.unnamed_end ts after rest m t u o closed) = behind (opening o) (token closed tt)
head (H.named_end ts after mid rest m t u v word o named closed) =
    behind (opening o) (behind (token named tt) (token closed tt))

-- the tokens before the rest are those that were read
read_before : (p rest : List Token) → before (p ++ rest) rest ≡ p
read_before p rest =
    let many = length-append p rest in
    let fewer : length (p ++ rest) - length rest ≡ length p = omega (arith, many) in
    ap (λ n. take n (p ++ rest)) fewer ∙ taken p where
      taken : (p : List Token) → take (length p) (p ++ rest) ≡ p
      taken [] = refl
      taken (x ∷ xs) = ap (λ l. x ∷ l) (taken xs)

head_shallow : {s : List ℕ} {ts rest : List Token} {m' : Marks} {h : H.Head} → SpellsHead s ts no_marks h rest m'
    → IsClean (parentheses_marks 0 (before ts rest) m') → ShallowHead h
head_shallow {ts = ts} {rest = rest} {m' = m'} sp c =
    let k = (head sp).read in
    let own : before ts rest ≡ k.tokens ++ [] =
    ap (λ l. before l rest) k.are ∙ (read_before k.tokens rest ∙ sym (append-nil k.tokens)) in
    (k.balanced 0 m' [] (subst (λ l. IsClean (parentheses_marks 0 l m')) own c)).0

simple_shallow : {s : List ℕ} {ts rest : List Token} {m m' : Marks} {x : T.Stmt} (b u : ℕ) (r : Bool)
    → SpellsSimple s ts m x rest m' → ShallowSimple x → StmtHas IsShallow b u r x
simple_shallow b u r (H.move Getting ts after mid rest m t k ps o given sp moves) h = h
simple_shallow b u r (H.move Putting ts after mid rest m t k ps o given sp moves) h = h
simple_shallow b u r (H.null ts rest m t is kind) h = h
simple_shallow b u r (H.assignment ts at mid after rest m t v x y is no_if target equal source) h = h
simple_shallow b u r (H.call ts after mid rest m t v word a o named sp) h = h
simple_shallow b u r (H.return' ts after rest m t v o sp) h = h
simple_shallow b u r (H.goto ts after rest m t v word o named) h = h
simple_shallow b u r (H.stop ts rest m t o) h = h
simple_shallow b u r (H.signal ts after rest m t c o sp) h = h
simple_shallow b u r (H.revert ts after rest m t c o sp) h = h
simple_shallow b u r (H.allocate ts after rest m m' t others o sp) h = h
simple_shallow b u r (H.free ts after rest m t fs o sp) h = h

head_has : {s : List ℕ} {ts rest : List Token} {m m' : Marks} {h : H.Head} (b u : ℕ) (r : Bool)
    → SpellsHead s ts m h rest m' → ShallowHead h → HeadHas IsShallow b u r h
head_has b u r (H.simple ts mid rest m m' v x sp closed) h = simple_shallow b u r sp h
head_has b u r (H.procedure ts after mid at rest m t v ns os o named given closed) h = h
head_has b u r (H.declare ts after mid rest m t v ds o sp closed) h = h
head_has b u r (H.if_then ts after mid rest m t v e o sp closed) h = h
head_has b u r (H.else' ts rest m t o) h = h
head_has b u r (H.do_group ts after rest m t v o closed) h = h
head_has b u r (H.do_while ts after mid at rest m t v w e o while sp closed) h = h
head_has b u r (H.do_count ts after mid rest m m' t v c o sp closed) h = h
head_has b u r (H.begin ts after rest m t v o closed) h = h
head_has b u r (H.on ts after rest m t c o sp) h = h
head_has b u r (H.system ts after rest m t v o closed) h = h
head_has b u r (H.unnamed_end ts after rest m t v o closed) h = h
head_has b u r (H.named_end ts after mid rest m t v w word o named closed) h = h

-- ---- what is read

none_is : {X : Type 0} (x : X) (Q : Type 0) → None ≡ Some x → Q
none_is x Q e = absurd (cc e)

reads_shallow : {s : List ℕ} {n : Nest} {ts : List Token} {fs : List SourceFault} {found : Option T.Tree}
    → Reads s n ts fs found → fs ≡ [] → NestHas IsShallow n → (tree : T.Tree) → found ≡ Some tree
    → ItemsHave IsShallow 0 0 false tree.procedures
reads_shallow (P.all_read n done) e h tree g =
    subst (λ t. ItemsHave IsShallow 0 0 false t.procedures) (same_some _ tree g)
    (items_have IsShallow 0 0 false n.outer h.outer)
reads_shallow (P.head n n' ts mid rest ls h m fs found sl sh en more) e k tree g =
    let own = faults_of mid rest m in
    let around = settled n.frames in
    let nested = nest_faults around h in
    let shallow = head_shallow sh (first_empty own (nested ++ fs) e) in
    let has = head_has (blocks around) (units around) (may_return around) sh shallow in
    reads_shallow more (second_empty nested fs (second_empty own (nested ++ fs) e))
    (subst (OptFine (NestHas IsShallow)) en (entered_has IsShallow n ls h has k)) tree g
reads_shallow (P.too_early n ts ls sl o) e k tree g = none_is tree _ g
reads_shallow (P.misplaced_head n ts mid rest ls h m t p sl sh en mi) e k tree g = none_is tree _ g
reads_shallow (P.left_out n ts mid rest ls m t sl lo) e k tree g = none_is tree _ g
reads_shallow (P.no_head n ts mid ls t p sl nh nl re) e k tree g = none_is tree _ g

pub parentheses_kept : ParenthesesKept
parentheses_kept s tokens tree h = reads_shallow h refl (record { outer = tt; frames = tt }) tree refl
