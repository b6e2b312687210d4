-- Which tokens spell which head: what the grammar reads at a place up to and with THEN, ELSE, the condition of ON, or a
-- semicolon. What begins with a reference and `=` is an assignment, whatever its words; the one exception is IF with an open
-- parenthesis behind it, which is an IF where the longest expression behind that word is followed by THEN.
use Rattle.std.specs.Prelude.{◌≡◌, ◌≢◌, ℕ, suc, List, [], ◌∷◌, Option, Some, None, Bool, true, false, nat_le}
use Rattle.pli_language.specs.declared.condition.Condition.{Condition}
use Rattle.pli_language.specs.declared.condition.Condition.TheVariants as C
use Rattle.pli_language.specs.declared.expr.Place.{Place}
use Rattle.pli_language.specs.declared.fault.SourceKind.TheVariants.{TooLarge}
use Rattle.pli_language.specs.declared.token.Word.{Word}
use Rattle.pli_language.specs.declared.token.Word.TheVariants as W
use Rattle.pli_language.specs.declared.token.Symbol.TheVariants as S
use Rattle.pli_language.specs.declared.token.Kind.{Kind}
use Rattle.pli_language.specs.declared.token.Kind.TheVariants as K
use Rattle.pli_language.specs.declared.token.Token.{Token}
use Rattle.pli_language.specs.Attributes.{SpellsAttributes, SpellsDeclareItems, LeavesOutAttributes, LeavesOutItems, attributes_marks, declare_items_marks}
use Rattle.pli_language.specs.Formats.{SpellsNumberOrOne, SpellsPairs, Direction, Getting, Putting, pairs_marks, skip_marks}
use Rattle.pli_language.specs.Marks.{Marks, note_if, expr_marks, reference_marks, arguments_marks}
use Rattle.pli_language.specs.Spells.{Takes, next_kind, name_at, place_of, SpellsExpr, SpellsReference, SpellsArguments, BeginsAssignment}
use Rattle.pli_language.specs.Tree.{Name, Expr, Reference, Arguments, Attribute, DeclareItem, Allocation, Freeing, EditPair, Skip, ProcedureOption, Main, Recursive, Returns, Counting, Stmt, Null, Assign, Call, Return, Goto, Stop, Signal, Revert, Allocate, Free, Get, Put}

-- a head: a procedure's, a declaration, a whole simple statement, or the front of another one
pub data Head : Type 0 where
  ProcedureFront : (place : Place) → (parameters : List Name) → (options : List ProcedureOption) → Head
  Declaring : (items : List DeclareItem) → (place : Place) → Head
  Simple : Stmt → Head
  IfThen : (condition : Expr) → (place : Place) → Head
  Else : (place : Place) → Head
  DoGroup : (place : Place) → Head
  DoWhileGroup : (condition : Expr) → (place : Place) → Head
  DoCountGroup : (counting : Counting) → (place : Place) → Head
  BeginBlock : (place : Place) → Head
  On : (condition : Condition) → (place : Place) → Head
  System : (place : Place) → Head
  EndOf : (name : Option Name) → (place : Place) → Head

-- ---- what decides between assignments and words

-- IF, an open parenthesis, and THEN behind the longest expression that begins there
pub record BeginsIf (s : List ℕ) (ts : List Token) : Type 0 where
  pub after : List Token
  pub mid : List Token
  pub word : Token
  pub condition : Expr
  pub is_if : Takes ts (K.Name W.If) word after
  pub opened : next_kind after ≡ Some (K.Symbol S.OpenParenthesis)
  pub spelled : SpellsExpr s after condition mid
  pub then_follows : next_kind mid ≡ Some (K.Name W.Then)

pub record Assigns (s : List ℕ) (ts : List Token) : Type 0 where
  pub begins : BeginsAssignment s ts
  pub no_if : ¬ BeginsIf s ts

-- this word, which begins no assignment
pub record Opens (s : List ℕ) (ts : List Token) (word : Word) (t : Token) (rest : List Token) : Type 0 where
  pub taken : Takes ts (K.Name word) t rest
  pub no_assignment : ¬ Assigns s ts

-- ---- what the limits say

abbrev pub most_parameters : ℕ
most_parameters = 16

-- parameters, before which so many stand
abbrev pub parameters_marks : ℕ → List Name → Marks → Marks
parameters_marks before [] m = m
parameters_marks before (n ∷ ns) m =
    parameters_marks (suc before) ns (note_if (nat_le most_parameters before) n.place TooLarge m)

abbrev pub option_marks : ProcedureOption → Marks → Marks
option_marks (Returns attributes) m = attributes_marks attributes m
option_marks _ m = m

abbrev pub options_marks : List ProcedureOption → Marks → Marks
options_marks [] m = m
options_marks (o ∷ others) m = options_marks others (option_marks o m)

abbrev pub marks_if : {X : Type 0} → (X → Marks → Marks) → Option X → Marks → Marks
marks_if f None m = m
marks_if f (Some x) m = f x m

abbrev pub freeing_marks : Freeing → Marks → Marks
freeing_marks f m = marks_if reference_marks f.area (reference_marks f.generation m)

abbrev pub freeings_marks : List Freeing → Marks → Marks
freeings_marks [] m = m
freeings_marks (f ∷ fs) m = freeings_marks fs (freeing_marks f m)

-- ---- parts of heads

abbrev pub plain_condition : Word → Option Condition
plain_condition W.Area = Some C.Area
plain_condition W.FixedOverflow = Some C.FixedOverflow
plain_condition W.ZeroDivide = Some C.ZeroDivide
plain_condition W.Error = Some C.Error
plain_condition _ = None

pub data SpellsCondition : List Token → Condition → List Token → Type 0 where
  plain : (ts rest : List Token) (t : Token) (word : Word) (c : Condition) → Takes ts (K.Name word) t rest → plain_condition word ≡ Some c → SpellsCondition ts c rest
  endfile : (ts after mid behind rest : List Token) (t u v w : Token) → Takes ts (K.Name W.Endfile) t after → Takes after (K.Symbol S.OpenParenthesis) u mid → Takes mid (K.Name W.Sysin) v behind → Takes behind (K.Symbol S.CloseParenthesis) w rest → SpellsCondition ts C.Endfile rest

pub data SpellsNames (s : List ℕ) : List Token → List Name → List Token → Type 0 where
  one_name : (ts rest : List Token) (t : Token) (word : Word) → Takes ts (K.Name word) t rest → next_kind rest ≢ Some (K.Symbol S.Comma) → SpellsNames s ts (name_at s t word ∷ []) rest
  further_names : (ts mid after rest : List Token) (t u : Token) (word : Word) (ns : List Name) → Takes ts (K.Name word) t mid → Takes mid (K.Symbol S.Comma) u after → SpellsNames s after ns rest → SpellsNames s ts (name_at s t word ∷ ns) rest

pub data SpellsParameters (s : List ℕ) : List Token → List Name → List Token → Type 0 where
  no_parameter : (ts : List Token) → next_kind ts ≢ Some (K.Symbol S.OpenParenthesis) → SpellsParameters s ts [] ts
  parameters : (ts after mid rest : List Token) (t u : Token) (ns : List Name) → Takes ts (K.Symbol S.OpenParenthesis) t after → SpellsNames s after ns mid → Takes mid (K.Symbol S.CloseParenthesis) u rest → SpellsParameters s ts ns rest

pub data SpellsOption (s : List ℕ) : List Token → ProcedureOption → List Token → Type 0 where
  main : (ts after mid behind rest : List Token) (t u v w : Token) → Takes ts (K.Name W.Options) t after → Takes after (K.Symbol S.OpenParenthesis) u mid → Takes mid (K.Name W.Main) v behind → Takes behind (K.Symbol S.CloseParenthesis) w rest → SpellsOption s ts Main rest
  recursive : (ts rest : List Token) (t : Token) → Takes ts (K.Name W.Recursive) t rest → SpellsOption s ts Recursive rest
  returns : (ts after mid behind rest : List Token) (t u v : Token) (a : Attribute) (others : List Attribute) → Takes ts (K.Name W.Returns) t after → Takes after (K.Symbol S.OpenParenthesis) u mid → SpellsAttributes s mid (a ∷ others) behind → Takes behind (K.Symbol S.CloseParenthesis) v rest → SpellsOption s ts (Returns (a ∷ others)) rest

pub data SpellsOptions (s : List ℕ) : List Token → List ProcedureOption → List Token → Type 0 where
  no_option : (ts : List Token) → next_kind ts ≡ Some (K.Symbol S.Semicolon) → SpellsOptions s ts [] ts
  option : (ts mid rest : List Token) (o : ProcedureOption) (others : List ProcedureOption) → SpellsOption s ts o mid → SpellsOptions s mid others rest → SpellsOptions s ts (o ∷ others) rest

-- TO and BY, each at most once, in either order
pub record Range : Type 0 where
  pub limit : Option Expr
  pub step : Option Expr

abbrev pub ends_range : Option Kind → Bool
ends_range (Some (K.Name W.To)) = false
ends_range (Some (K.Name W.By)) = false
ends_range _ = true

abbrev pub no_range : Range
no_range = record { limit = None; step = None }

-- those behind others that stand already
pub data SpellsRange (s : List ℕ) : Range → List Token → Marks → Range → List Token → Marks → Type 0 where
  range_ends : (before : Range) (ts : List Token) (m : Marks) → ends_range (next_kind ts) ≡ true → SpellsRange s before ts m before ts m
  to : (step : Option Expr) (behind : Range) (ts after mid rest : List Token) (m m' : Marks) (t : Token) (e : Expr) → Takes ts (K.Name W.To) t after → SpellsExpr s after e mid → SpellsRange s (record { limit = Some e; step = step }) mid (expr_marks e m) behind rest m' → SpellsRange s (record { limit = None; step = step }) ts m behind rest m'
  by : (limit : Option Expr) (behind : Range) (ts after mid rest : List Token) (m m' : Marks) (t : Token) (e : Expr) → Takes ts (K.Name W.By) t after → SpellsExpr s after e mid → SpellsRange s (record { limit = limit; step = Some e }) mid (expr_marks e m) behind rest m' → SpellsRange s (record { limit = limit; step = None }) ts m behind rest m'

-- an expression in parentheses
pub data SpellsInParentheses (s : List ℕ) : List Token → Expr → List Token → Type 0 where
  in_parentheses : (ts after mid rest : List Token) (t u : Token) (e : Expr) → Takes ts (K.Symbol S.OpenParenthesis) t after → SpellsExpr s after e mid → Takes mid (K.Symbol S.CloseParenthesis) u rest → SpellsInParentheses s ts e rest

pub data SpellsWhile (s : List ℕ) : List Token → Option Expr → List Token → Type 0 where
  no_while : (ts : List Token) → next_kind ts ≢ Some (K.Name W.While) → SpellsWhile s ts None ts
  while : (ts after rest : List Token) (t : Token) (e : Expr) → Takes ts (K.Name W.While) t after → SpellsInParentheses s after e rest → SpellsWhile s ts (Some e) rest

pub data SpellsCounting (s : List ℕ) : List Token → Marks → Counting → List Token → Marks → Type 0 where
  counting : (ts mid after behind at rest : List Token) (m m' : Marks) (t : Token) (v : Reference) (e : Expr) (r : Range) (w : Option Expr) → SpellsReference s ts v mid → Takes mid (K.Symbol S.Equal) t after → SpellsExpr s after e behind → SpellsRange s no_range behind (expr_marks e (reference_marks v m)) r at m' → SpellsWhile s at w rest → SpellsCounting s ts m (record { variable = v; start = e; limit = r.limit; step = r.step; condition = w }) rest (marks_if expr_marks w m')

-- a reference in parentheses
pub data SpellsInto (s : List ℕ) : List Token → Reference → List Token → Type 0 where
  into : (ts after mid rest : List Token) (t u : Token) (r : Reference) → Takes ts (K.Symbol S.OpenParenthesis) t after → SpellsReference s after r mid → Takes mid (K.Symbol S.CloseParenthesis) u rest → SpellsInto s ts r rest

abbrev pub ends_allocation : Option Kind → Bool
ends_allocation (Some (K.Name W.In)) = false
ends_allocation (Some (K.Name W.Set)) = false
ends_allocation _ = true

abbrev pub unplaced : Name → Allocation
unplaced n = record { variable = n; area = None; locator = None }

-- IN and SET, each at most once, behind a variable and those that stand already
pub data SpellsPlacing (s : List ℕ) : Allocation → List Token → Marks → Allocation → List Token → Marks → Type 0 where
  placing_ends : (a : Allocation) (ts : List Token) (m : Marks) → ends_allocation (next_kind ts) ≡ true → SpellsPlacing s a ts m a ts m
  in_area : (n : Name) (l : Option Reference) (b : Allocation) (ts after mid rest : List Token) (m m' : Marks) (t : Token) (r : Reference) → Takes ts (K.Name W.In) t after → SpellsInto s after r mid → SpellsPlacing s (record { variable = n; area = Some r; locator = l }) mid (reference_marks r m) b rest m' → SpellsPlacing s (record { variable = n; area = None; locator = l }) ts m b rest m'
  set_locator : (n : Name) (a : Option Reference) (b : Allocation) (ts after mid rest : List Token) (m m' : Marks) (t : Token) (r : Reference) → Takes ts (K.Name W.Set) t after → SpellsInto s after r mid → SpellsPlacing s (record { variable = n; area = a; locator = Some r }) mid (reference_marks r m) b rest m' → SpellsPlacing s (record { variable = n; area = a; locator = None }) ts m b rest m'

pub data SpellsAllocation (s : List ℕ) : List Token → Marks → Allocation → List Token → Marks → Type 0 where
  allocation : (ts mid rest : List Token) (m m' : Marks) (t : Token) (word : Word) (a : Allocation) → Takes ts (K.Name word) t mid → SpellsPlacing s (unplaced (name_at s t word)) mid m a rest m' → SpellsAllocation s ts m a rest m'

pub data SpellsAllocations (s : List ℕ) : List Token → Marks → List Allocation → List Token → Marks → Type 0 where
  one_allocation : (ts rest : List Token) (m m' : Marks) (a : Allocation) → SpellsAllocation s ts m a rest m' → next_kind rest ≢ Some (K.Symbol S.Comma) → SpellsAllocations s ts m (a ∷ []) rest m'
  further_allocations : (ts mid after rest : List Token) (m m' m'' : Marks) (t : Token) (a : Allocation) (others : List Allocation) → SpellsAllocation s ts m a mid m' → Takes mid (K.Symbol S.Comma) t after → SpellsAllocations s after m' others rest m'' → SpellsAllocations s ts m (a ∷ others) rest m''

pub data SpellsFreeing (s : List ℕ) : List Token → Freeing → List Token → Type 0 where
  free : (ts rest : List Token) (r : Reference) → SpellsReference s ts r rest → next_kind rest ≢ Some (K.Name W.In) → SpellsFreeing s ts (record { generation = r; area = None }) rest
  free_in : (ts mid after rest : List Token) (t : Token) (r a : Reference) → SpellsReference s ts r mid → Takes mid (K.Name W.In) t after → SpellsInto s after a rest → SpellsFreeing s ts (record { generation = r; area = Some a }) rest

pub data SpellsFreeings (s : List ℕ) : List Token → List Freeing → List Token → Type 0 where
  one_freeing : (ts rest : List Token) (f : Freeing) → SpellsFreeing s ts f rest → next_kind rest ≢ Some (K.Symbol S.Comma) → SpellsFreeings s ts (f ∷ []) rest
  further_freeings : (ts mid after rest : List Token) (t : Token) (f : Freeing) (others : List Freeing) → SpellsFreeing s ts f mid → Takes mid (K.Symbol S.Comma) t after → SpellsFreeings s after others rest → SpellsFreeings s ts (f ∷ others) rest

-- ---- GET and PUT

abbrev pub stream_word : Direction → Word
stream_word Getting = W.Get
stream_word Putting = W.Put

abbrev pub file_word : Direction → Word
file_word Getting = W.Sysin
file_word Putting = W.Sysprint

abbrev pub moving : Direction → Option Skip → List EditPair → Place → Stmt
moving Getting k ps p = Get k ps p
moving Putting k ps p = Put k ps p

-- FILE and SKIP, each at most once, up to another token; with what stood before
pub data SpellsStreamOptions (s : List ℕ) (d : Direction) : Bool → Option Skip → List Token → Option Skip → List Token → Type 0 where
  options_end : (filed : Bool) (k : Option Skip) (ts : List Token) → next_kind ts ≢ Some (K.Name W.File) → next_kind ts ≢ Some (K.Name W.Skip) → SpellsStreamOptions s d filed k ts k ts
  file : (k k' : Option Skip) (ts after mid behind at rest : List Token) (t u v w : Token) → Takes ts (K.Name W.File) t after → Takes after (K.Symbol S.OpenParenthesis) u mid → Takes mid (K.Name (file_word d)) v behind → Takes behind (K.Symbol S.CloseParenthesis) w at → SpellsStreamOptions s d true k at k' rest → SpellsStreamOptions s d false k ts k' rest
  skip : (filed : Bool) (k' : Option Skip) (ts after mid rest : List Token) (t : Token) (n : ℕ) → Takes ts (K.Name W.Skip) t after → SpellsNumberOrOne after n mid → SpellsStreamOptions s d filed (Some (record { number = n; place = place_of t })) mid k' rest → SpellsStreamOptions s d filed None ts k' rest

pub data SpellsEdit (s : List ℕ) : List Token → List EditPair → List Token → Type 0 where
  no_edit : (ts : List Token) → next_kind ts ≢ Some (K.Name W.Edit) → SpellsEdit s ts [] ts
  edit : (ts after rest : List Token) (t : Token) (ps : List EditPair) → Takes ts (K.Name W.Edit) t after → SpellsPairs s after ps rest → SpellsEdit s ts ps rest

-- SKIP or EDIT stands
pub data Moves : Option Skip → List EditPair → Type 0 where
  skips : (k : Skip) (ps : List EditPair) → Moves (Some k) ps
  edits : (k : Option Skip) (p : EditPair) (ps : List EditPair) → Moves k (p ∷ ps)

-- ---- heads

-- a label to go to, behind GOTO or GO TO
pub data SpellsGoto (s : List ℕ) : List Token → Token → List Token → Type 0 where
  goto : (ts after : List Token) (t : Token) → Opens s ts W.Goto t after → SpellsGoto s ts t after
  go_to : (ts after rest : List Token) (t u : Token) → Opens s ts W.Go t after → Takes after (K.Name W.To) u rest → SpellsGoto s ts t rest

pub data SpellsReturn (s : List ℕ) : List Token → Option Expr → List Token → Type 0 where
  no_value : (ts : List Token) → next_kind ts ≢ Some (K.Symbol S.OpenParenthesis) → SpellsReturn s ts None ts
  value : (ts rest : List Token) (e : Expr) → SpellsInParentheses s ts e rest → SpellsReturn s ts (Some e) rest

-- a simple statement, up to its semicolon
pub data SpellsSimple (s : List ℕ) : List Token → Marks → Stmt → List Token → Marks → Type 0 where
  null : (ts rest : List Token) (m : Marks) (t : Token) → ts ≡ t ∷ rest → t.kind ≡ K.Symbol S.Semicolon → SpellsSimple s ts m (Null (place_of t)) ts m
  assignment : (ts behind mid after rest : List Token) (m : Marks) (t u : Token) (r : Reference) (e : Expr) → ts ≡ t ∷ behind → ¬ BeginsIf s ts → SpellsReference s ts r mid → Takes mid (K.Symbol S.Equal) u after → SpellsExpr s after e rest → SpellsSimple s ts m (Assign r e (place_of t)) rest (expr_marks e (reference_marks r m))
  call : (ts after mid rest : List Token) (m : Marks) (t u : Token) (word : Word) (a : Arguments) → Opens s ts W.Call t after → Takes after (K.Name word) u mid → SpellsArguments s mid a rest → SpellsSimple s ts m (Call (name_at s u word) a (place_of t)) rest (arguments_marks a m)
  return' : (ts after rest : List Token) (m : Marks) (t : Token) (e : Option Expr) → Opens s ts W.Return t after → SpellsReturn s after e rest → SpellsSimple s ts m (Return e (place_of t)) rest (marks_if expr_marks e m)
  goto : (ts after rest : List Token) (m : Marks) (t u : Token) (word : Word) → SpellsGoto s ts t after → Takes after (K.Name word) u rest → SpellsSimple s ts m (Goto (name_at s u word) (place_of t)) rest m
  stop : (ts rest : List Token) (m : Marks) (t : Token) → Opens s ts W.Stop t rest → SpellsSimple s ts m (Stop (place_of t)) rest m
  signal : (ts after rest : List Token) (m : Marks) (t : Token) (c : Condition) → Opens s ts W.Signal t after → SpellsCondition after c rest → SpellsSimple s ts m (Signal c (place_of t)) rest m
  revert : (ts after rest : List Token) (m : Marks) (t : Token) (c : Condition) → Opens s ts W.Revert t after → SpellsCondition after c rest → SpellsSimple s ts m (Revert c (place_of t)) rest m
  allocate : (ts after rest : List Token) (m m' : Marks) (t : Token) (others : List Allocation) → Opens s ts W.Allocate t after → SpellsAllocations s after m others rest m' → SpellsSimple s ts m (Allocate others (place_of t)) rest m'
  free : (ts after rest : List Token) (m : Marks) (t : Token) (fs : List Freeing) → Opens s ts W.Free t after → SpellsFreeings s after fs rest → SpellsSimple s ts m (Free fs (place_of t)) rest (freeings_marks fs m)
  move : (d : Direction) (ts after mid rest : List Token) (m : Marks) (t : Token) (k : Option Skip) (ps : List EditPair) → Opens s ts (stream_word d) t after → SpellsStreamOptions s d false None after k mid → SpellsEdit s mid ps rest → Moves k ps → SpellsSimple s ts m (moving d k ps (place_of t)) rest (pairs_marks d ps (skip_marks k m))

pub data SpellsHead (s : List ℕ) : List Token → Marks → Head → List Token → Marks → Type 0 where
  procedure : (ts after mid behind rest : List Token) (m : Marks) (t u : Token) (ns : List Name) (options : List ProcedureOption) → Opens s ts W.Procedure t after → SpellsParameters s after ns mid → SpellsOptions s mid options behind → Takes behind (K.Symbol S.Semicolon) u rest → SpellsHead s ts m (ProcedureFront (place_of t) ns options) rest (options_marks options (parameters_marks 0 ns m))
  declare : (ts after mid rest : List Token) (m : Marks) (t u : Token) (ds : List DeclareItem) → Opens s ts W.Declare t after → SpellsDeclareItems s after ds mid → Takes mid (K.Symbol S.Semicolon) u rest → SpellsHead s ts m (Declaring ds (place_of t)) rest (declare_items_marks ds m)
  simple : (ts mid rest : List Token) (m m' : Marks) (u : Token) (x : Stmt) → SpellsSimple s ts m x mid m' → Takes mid (K.Symbol S.Semicolon) u rest → SpellsHead s ts m (Simple x) rest m'
  if_then : (ts after mid rest : List Token) (m : Marks) (t u : Token) (e : Expr) → Opens s ts W.If t after → SpellsExpr s after e mid → Takes mid (K.Name W.Then) u rest → SpellsHead s ts m (IfThen e (place_of t)) rest (expr_marks e m)
  else' : (ts rest : List Token) (m : Marks) (t : Token) → Opens s ts W.Else t rest → SpellsHead s ts m (Else (place_of t)) rest m
  do_group : (ts after rest : List Token) (m : Marks) (t u : Token) → Opens s ts W.Do t after → Takes after (K.Symbol S.Semicolon) u rest → SpellsHead s ts m (DoGroup (place_of t)) rest m
  do_while : (ts after mid behind rest : List Token) (m : Marks) (t u v : Token) (e : Expr) → Opens s ts W.Do t after → Takes after (K.Name W.While) u mid → SpellsInParentheses s mid e behind → Takes behind (K.Symbol S.Semicolon) v rest → SpellsHead s ts m (DoWhileGroup e (place_of t)) rest (expr_marks e m)
  do_count : (ts after mid rest : List Token) (m m' : Marks) (t u : Token) (c : Counting) → Opens s ts W.Do t after → SpellsCounting s after m c mid m' → Takes mid (K.Symbol S.Semicolon) u rest → SpellsHead s ts m (DoCountGroup c (place_of t)) rest m'
  begin : (ts after rest : List Token) (m : Marks) (t u : Token) → Opens s ts W.Begin t after → Takes after (K.Symbol S.Semicolon) u rest → SpellsHead s ts m (BeginBlock (place_of t)) rest m
  on : (ts after rest : List Token) (m : Marks) (t : Token) (c : Condition) → Opens s ts W.On t after → SpellsCondition after c rest → SpellsHead s ts m (On c (place_of t)) rest m
  system : (ts after rest : List Token) (m : Marks) (t u : Token) → Opens s ts W.System t after → Takes after (K.Symbol S.Semicolon) u rest → SpellsHead s ts m (System (place_of t)) rest m
  unnamed_end : (ts after rest : List Token) (m : Marks) (t u : Token) → Opens s ts W.End t after → Takes after (K.Symbol S.Semicolon) u rest → SpellsHead s ts m (EndOf None (place_of t)) rest m
  named_end : (ts after mid rest : List Token) (m : Marks) (t u v : Token) (word : Word) → Opens s ts W.End t after → Takes after (K.Name word) u mid → Takes mid (K.Symbol S.Semicolon) v rest → SpellsHead s ts m (EndOf (Some (name_at s u word)) (place_of t)) rest m

-- ---- left out

-- the words with which heads begin that are left out
abbrev pub is_left_out_head : Word → Bool
is_left_out_head W.Open = true
is_left_out_head W.Close = true
is_left_out_head W.Read = true
is_left_out_head W.Write = true
is_left_out_head W.Rewrite = true
is_left_out_head W.Delete = true
is_left_out_head W.Locate = true
is_left_out_head W.Select = true
is_left_out_head W.Leave = true
is_left_out_head W.Exit = true
is_left_out_head W.Format = true
is_left_out_head W.Default = true
is_left_out_head W.Entry = true
is_left_out_head _ = false

-- the words directly behind GET and PUT that are left out
abbrev pub is_left_out_stream : Word → Bool
is_left_out_stream W.List = true
is_left_out_stream W.Data = true
is_left_out_stream _ = false

pub data LeavesOutOptions (s : List ℕ) : List Token → Marks → List Token → Marks → Type 0 where
  in_returns : (ts after mid at : List Token) (m m' : Marks) (t u : Token) → Takes ts (K.Name W.Returns) t after → Takes after (K.Symbol S.OpenParenthesis) u mid → LeavesOutAttributes s mid m at m' → LeavesOutOptions s ts m at m'
  behind_option : (ts mid at : List Token) (m m' : Marks) (o : ProcedureOption) → SpellsOption s ts o mid → LeavesOutOptions s mid (option_marks o m) at m' → LeavesOutOptions s ts m at m'

-- a form that is left out stands in the head that begins here; with the marks made before it, and the tokens from it on
pub data LeavesOut (s : List ℕ) : List Token → Marks → List Token → Marks → Type 0 where
  head : (ts rest : List Token) (m : Marks) (t : Token) (word : Word) → Opens s ts word t rest → is_left_out_head word ≡ true → LeavesOut s ts m ts m
  stream : (d : Direction) (ts after rest : List Token) (m : Marks) (t u : Token) (word : Word) → Opens s ts (stream_word d) t after → Takes after (K.Name word) u rest → is_left_out_stream word ≡ true → LeavesOut s ts m after m
  declare : (ts after at : List Token) (m m' : Marks) (t : Token) → Opens s ts W.Declare t after → LeavesOutItems s after m at m' → LeavesOut s ts m at m'
  procedure : (ts after mid at : List Token) (m m' : Marks) (t : Token) (ns : List Name) → Opens s ts W.Procedure t after → SpellsParameters s after ns mid → LeavesOutOptions s mid (parameters_marks 0 ns m) at m' → LeavesOut s ts m at m'
