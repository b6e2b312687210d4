-- Conditions, references, calls and expressions of a well-formed program are there, walked over the language.
use Rattle.std.proofs.Common.{◌≡◌, ℕ, ℤ, List, [], ◌∷◌, Option, Some, None, Bool, refl, ap}
use Rattle.std.proofs.Common.{◌∙◌, sym, subst, arith}
use Rattle.std.specs.Prelude.{◌≤◌, ⊤, slice_get, is_some}
use Rattle.pli_language.specs.declared.condition.Condition.{Condition}
use Rattle.pli_language.specs.declared.condition.Condition.TheVariants as C
use Rattle.pli_meaning.specs.declared.outcome.End.TheVariants as E
use Rattle.pli_meaning.specs.World.{raising}
use Rattle.pli_meaning.specs.Numbers.{Checked, Gives, Raises}
use Rattle.pli_typing.specs.TypedTree as Y
use Rattle.pli_typing.specs.Signatures.{Offset}
use Rattle.pli_meaning.specs.BasicValues.{Name, NullName, VariableName, BasedName, BasicValue}
use Rattle.pli_meaning.specs.Contents.{Shape}
use Rattle.pli_meaning.specs.StorageState.{OnUnit, SystemUnit, BlockUnit, Activation, force, ancestor, height_of}
use Rattle.pli_meaning.specs.StorageState.{newest_height, State, Binding, standing_for, named, generation_at}
use Rattle.pli_meaning.specs.Raising as G
use Rattle.pli_meaning.specs.Raising.{Passed}
use Rattle.pli_meaning.specs.DeclaredShapes as D
use Rattle.pli_meaning.specs.Making as K
use Rattle.pli_meaning.specs.Evaluating as V
use Rattle.well_formed_trees.specs.Surroundings as W
use Rattle.well_formed_trees.specs.References.{IsDimension, IsLocated}
use Rattle.well_formed_trees.specs.Declarations.{HoldsArea}
use Rattle.well_formed_trees.specs.Expressions as X
use Rattle.meaning_runs.proofs.Calling as P
use Rattle.meaning_runs.proofs.Demands.{Kept, Anything, There, IsThere, IsForced, force_sound, block_around}
use Rattle.meaning_runs.proofs.Steps.{give_there, bind_there, then_there, looked_there, act_there, finish_there}
use Rattle.meaning_runs.proofs.Steps.{choose_there, found_there, told}
use Rattle.meaning_runs.proofs.Ways.{Ways, demand, around, here, ThereAround, FineProcedure, Expected, unit_entry}
use Rattle.meaning_runs.proofs.Ways.{procedure_passes, procedures_same, procedure_fine, Footing, FootingIf}
use Rattle.meaning_runs.proofs.Ways.{declared_there, listed_unit, TakesPassed, ArePassedAs}
use Rattle.meaning_runs.proofs.Bindings.{standing_shaped}
use Rattle.meaning_runs.proofs.Dimensions.{member_bounds}
use Rattle.meaning_runs.proofs.Shapes.{forms, declared_forms, IsShapedAs, shape_declared, named_forms, IsPartOf}
use Rattle.meaning_runs.proofs.Shapes.{HasBounds, bounds_there, IsOwnName, IsAreaVariable, area_holds, StandsAs}
use Rattle.meaning_runs.proofs.Shapes.{leaves_taken, copied_number, scalar_shaped, type_number, named_given}
use Rattle.meaning_runs.proofs.Values.{IsNumber, IsText, IsBit, IsOfNumber, HasValues, generation_valued}
use Rattle.meaning_runs.proofs.Callees.{Callee, callee}

-- ---- conditions

pub error_unit_there : {R : Type 0} {after : R → Type 0} (code : ℕ) (found : Option (Activation × OnUnit)) (w : Ways)
    → IsForced w.program w.table w.bearing.frames found
    → There (demand w) 0 1 w.left after (G.error_unit_run {R = R} (around w) code found)
unfolding G.error_unit_run
error_unit_there code None w s = finish_there (E.Error code w.line) tt
error_unit_there code (Some (a, SystemUnit)) w s = finish_there (E.Error code w.line) tt
error_unit_there code (Some (a, BlockUnit b)) w s =
    then_there (w.keeps w.bearing (G.unit_entered b a code)
    (unit_entry w.program w.table w.bearing b a code w.opens s))
    (finish_there (E.Error code w.line) tt)

pub error_there : {R : Type 0} {after : R → Type 0} (code : ℕ) → ThereAround {R = R} after (λ a. G.error a code)
unfolding G.error
error_there code w =
    then_there (act_there (raising C.Error code) (λ v. refl))
    (bind_there looked_there (λ s kept. error_unit_there code (force s.activations C.Error) w
    (force_sound w.program w.table w.bearing.frames s.activations C.Error w.opens kept.0.0 kept.1)))

unit_there : (code : ℕ) (found : Option (Activation × OnUnit)) (w : Ways)
    → IsForced w.program w.table w.bearing.frames found
    → There (demand w) 0 1 w.left Anything (G.unit_run (around w) code found)
unfolding G.unit_run
unit_there code None w s = error_there code w
unit_there code (Some (a, SystemUnit)) w s = error_there code w
unit_there code (Some (a, BlockUnit b)) w s =
    then_there (w.keeps w.bearing (G.unit_entered b a code)
    (unit_entry w.program w.table w.bearing b a code w.opens s))
    (give_there tt tt)

pub raised_there : (c : Condition) (code : ℕ) → ThereAround Anything (λ a. G.raised a c code)
unfolding G.raised
raised_there c code w =
    then_there (act_there (raising c code) (λ v. refl))
    (bind_there looked_there (λ s kept. unit_there code (force s.activations c) w
    (force_sound w.program w.table w.bearing.frames s.activations c w.opens kept.0.0 kept.1)))

pub value_of_there : (v : Checked) → ThereAround Anything (λ a. G.value_of a v)
unfolding G.value_of
value_of_there (Gives z) w = give_there z tt
value_of_there (Raises c code after) w = then_there (raised_there c code w) (give_there after tt)

pub or_error_there : {X : Type 0} (code : ℕ) (o : Option X) → ThereAround Anything (λ a. G.or_error a code o)
unfolding G.or_error
or_error_there code None w = error_there code w
or_error_there code (Some x) w = give_there x tt

-- what is given is what there is
pub found_or_error : {X : Type 0} (code : ℕ) (o : Option X) → ThereAround (λ x. o ≡ Some x) (λ a. G.or_error a code o)
unfolding G.or_error
found_or_error code None w = error_there code w
found_or_error code (Some x) w = give_there x refl

pub demanded_there : (code : ℕ) (met : Bool) → ThereAround Anything (λ a. G.demanded a code met)
unfolding G.demanded
demanded_there code met w = choose_there met (give_there tt tt) (error_there code w)

-- ---- references and arguments

-- with the forms of the shape that it was sought with
abbrev pub IsSought : Name → Shape → Y.Part → V.Designated → Type 0
IsSought n shape part x =
    (forms x.generation.shape.signature.leaves ≡ forms shape.signature.leaves)
    × ((x.part ≡ part) × ((x.name ≡ n) × HasValues x.generation))

part_designated_there : (n : Name) (shape : Shape) (part : Y.Part) (is : List ℤ)
    → ThereAround (IsSought n shape part) (λ a. V.part_designated a n shape part is)
unfolding V.part_designated
part_designated_there n shape part is w =
    bind_there looked_there (λ s k. bind_there (found_or_error _ (named s n shape) w) (λ g j.
    bind_there (or_error_there _ _ w) (λ z i. then_there (demanded_there _ _ w)
    (give_there _ (
      named_forms s n shape g j,
      (
        refl,
        (
          refl,
          generation_valued s n g k.0.1.1.0.1 (named_given shape g (generation_at s n) j),
        ),
      ),
    )))))

-- a part of a generation that is as the variable is declared
abbrev pub IsTold : Y.Program → Y.Variable → Y.Part → V.Designated → Type 0
IsTold p v part x =
    ((d : Y.DeclaredVariable) → D.declared_variable p v ≡ Some d → IsPartOf d part x) × HasValues x.generation

-- what a variable of a block around stands for is as it is declared
stands_here : (w : Ways) (s : State) (v : Y.Variable) (d : Y.DeclaredVariable) (b : Binding)
    → Kept (demand w) s → W.IsDeclared (here w) v d → standing_for s v ≡ Some b → StandsAs d b.name b.shape
stands_here w s v d b k h e =
    let fine = declared_there w.program w.table w.whole v d h.found in
    standing_shaped w.program w.table w.bearing.frames w.blocks s v.class v d b w.ground k.1 k.0.1 h.found
    (λ area. subst HoldsArea h.same_class (area_holds d fine.areas area)) h.block_around e

pub told_standing : (w : Ways) (s : State) (v : Y.Variable) (part : Y.Part) (d : Y.DeclaredVariable) (b : Binding)
    → Kept (demand w) s → W.IsDeclared (here w) v d → standing_for s v ≡ Some b → (x : V.Designated)
    → IsSought b.name b.shape part x → IsTold w.program v part x
told_standing w s v part d b k h j x f = (
  λ d' e.
      let same : d ≡ d' = cc (h.found, e) in
      let stands : StandsAs d b.name b.shape = stands_here w s v d b k h j in
      subst (λ y. IsPartOf y part x) same (record {
        shaped = f.0 ∙ stands.0;
        owned = λ area. subst IsOwnName (sym f.1.1.0) (stands.1 area);
        part_is = f.1.0;
      }),
  f.1.1.1,
)

pub told_located : (w : Ways) (v : Y.Variable) (part : Y.Part) (d : Y.DeclaredVariable) (n : Name)
    → W.IsDeclared (here w) v d → (IsAreaVariable d → ⊥) → (x : V.Designated)
    → IsSought n (D.shape_of [] d) part x → IsTold w.program v part x
told_located w v part d n h none x f = (
  λ d' e.
      let same : d ≡ d' = cc (h.found, e) in
      subst (λ y. IsPartOf y part x) same (record {
        shaped = f.0 ∙ shape_declared [] d;
        owned = λ area. absurd (none area);
        part_is = f.1.0;
      }),
  f.1.1.1,
)

variable_designated_there : (v : Y.Variable) (name : Option Name) (part : Y.Part) (is : List ℤ)
    (d : Y.DeclaredVariable) (w : Ways) → W.IsDeclared (here w) v d → (IsAreaVariable d → name ≡ None)
    → There (demand w) 0 1 w.left (IsTold w.program v part) (V.variable_designated (around w) v name part is)
unfolding V.variable_designated
variable_designated_there v None part is d w h located =
    bind_there looked_there (λ s k. bind_there (found_or_error _ (standing_for s v) w)
    (λ b j. told (told_standing w s v part d b k h j) (part_designated_there b.name b.shape part is w)))
variable_designated_there v (Some n) part is d w h located =
    found_there _ d _ _ h.found (told (told_located w v part d n h (λ area. absurd (cc (located area))))
    (part_designated_there n (D.shape_of [] d) part is w))

-- an area isn't located
abbrev pub IsNameBy : Y.Locator → Option Name → Type 0
IsNameBy Y.NotLocated n = n ≡ None
IsNameBy (Y.LocatedBy p) n = ⊤

pub area_unlocated : (class : Y.StorageClass) (locator : Y.Locator) (n : Option Name) → IsLocated class locator
    → IsNameBy locator n → HoldsArea class → n ≡ None
area_unlocated Y.BasedClass locator n h k a = absurd a
area_unlocated Y.ControlledClass locator n h k a = absurd a
area_unlocated Y.AutomaticClass Y.NotLocated n h k a = k
area_unlocated Y.AutomaticClass (Y.LocatedBy p) n h k a = absurd h
area_unlocated Y.ParameterClass Y.NotLocated n h k a = k
area_unlocated Y.ParameterClass (Y.LocatedBy p) n h k a = absurd h
area_unlocated Y.StaticClass Y.NotLocated n h k a = k
area_unlocated Y.StaticClass (Y.LocatedBy p) n h k a = absurd h

pub area_meant_there : (v : Y.Variable) → ThereAround Anything (λ a. V.area_meant a v)
unfolding V.area_meant
area_meant_there v w = bind_there looked_there (λ s k. or_error_there _ _ w)

-- an area has a serial of its own, and none is the heap
pub own_area_there : (v : Y.Variable) (w : Ways) → W.IsArea (here w) v
    → There (demand w) 0 1 w.left (λ x. 1 ≤ x) (V.area_meant (around w) v)
unfolding V.area_meant
own_area_there v w h =
    bind_there looked_there (λ s k. told (λ x e. of_binding s (standing_for s v) refl k x e)
    (found_or_error _ (V.serial_of (standing_for s v)) w))
  where
    of_name : (n : Name) (x : ℕ) → IsOwnName n → V.serial_in n ≡ Some x → 1 ≤ x
    of_name (VariableName serial) x own e = let same : serial ≡ x = cc e in omega (arith, own, same)
    of_name NullName x own e = absurd own
    of_name (BasedName area o) x own e = absurd own

    of_binding : (s : State) (o : Option Binding) → standing_for s v ≡ o → Kept (demand w) s → (x : ℕ)
        → V.serial_of o ≡ Some x → 1 ≤ x
    of_binding s None f k x e = absurd (cc e)
    of_binding s (Some b) f k x e =
        of_name b.name x ((stands_here w s v h.d b k h.declared f).1 (ap declared_forms h.leaf)) e

-- ---- arguments

-- what a parameter takes, as it is evaluated
abbrev pub TakesEvaluated : Y.DeclaredVariable → V.Evaluated → Type 0
TakesEvaluated d (V.EvaluatedArgument x) = TakesPassed d x
TakesEvaluated d (V.NameInParameter n parameter) = IsShapedAs d (K.plain Offset)
TakesEvaluated d (V.NameInAutomatic n) = IsShapedAs d (K.plain Offset)

-- what is stored is of the kind that is due
abbrev pub IsStored : Y.Stored → BasicValue → Type 0
IsStored (Y.StoredNumber precision n) v = IsNumber v
IsStored (Y.StoredText t) v = IsText v
IsStored (Y.StoredBit b) v = IsBit v
IsStored s v = ⊤

pub fits_kind : (type : Y.LeafType) (s : Y.Stored) (v : BasicValue) → X.Fits type s → IsStored s v
    → IsOfNumber (type_number type) v
fits_kind (Y.FixedLeaf p) (Y.StoredNumber q n) v h k = k
fits_kind (Y.CharacterLeaf size) (Y.StoredText t) v h k = k
fits_kind (Y.VaryingLeaf size) (Y.StoredText t) v h k = k
fits_kind Y.BitLeaf (Y.StoredBit x) v h k = k
fits_kind Y.PointerLeaf s v h k = tt
fits_kind (Y.OffsetLeaf area) s v h k = tt
fits_kind (Y.AreaLeaf size) s v h k = tt
fits_kind type s v h k = absurd h

passed_last_there : (all : List V.Evaluated) (x : V.Evaluated)
    → ThereAround (λ y. (d : Y.DeclaredVariable) → TakesEvaluated d x → TakesPassed d y) (λ a. V.passed_last a all x)
unfolding V.passed_last
passed_last_there all (V.EvaluatedArgument x) w = give_there x (λ d h. h)
passed_last_there all (V.NameInParameter n parameter) w =
    bind_there (or_error_there _ _ w) (λ o k. give_there _ (λ d h. (h, tt)))
passed_last_there all (V.NameInAutomatic n) w = bind_there (or_error_there _ _ w) (λ o k. give_there _ (λ d h. (h, tt)))

-- all that are evaluated are passed
abbrev AreLast : List V.Evaluated → List Passed → Type 0
AreLast [] [] = ⊤
AreLast (e ∷ es) (x ∷ xs) = ((d : Y.DeclaredVariable) → TakesEvaluated d e → TakesPassed d x) × AreLast es xs
AreLast _ _ = ⊥

all_passed_there : (all rest : List V.Evaluated)
    → ThereAround (AreLast rest) (λ a. V.all_passed_last a all rest)
unfolding V.all_passed_last
all_passed_there all [] w = give_there [] tt
all_passed_there all (x ∷ xs) w =
    bind_there (passed_last_there all x w) (λ y k. bind_there (all_passed_there all xs w)
    (λ ys e. give_there (y ∷ ys) (k, e)))

-- each parameter takes its argument
abbrev AreTaken : Y.Program → Y.Procedure → List ℕ → List V.Evaluated → Type 0
AreTaken p q [] [] = ⊤
AreTaken p q (i ∷ is) (e ∷ es) =
    ((d : Y.DeclaredVariable) × (W.parameter p q i ≡ Some d) × TakesEvaluated d e) × AreTaken p q is es
AreTaken p q _ _ = ⊥

passed_as : (p : Y.Program) (q : Y.Procedure) (block : ℕ) (is : List ℕ) (es : List V.Evaluated) (xs : List Passed)
    → (W.head_of q.block).number ≡ block → AreTaken p q is es → AreLast es xs → ArePassedAs p block is xs
passed_as p q block [] [] [] same h k = tt
passed_as p q block (i ∷ is) (e ∷ es) (x ∷ xs) same h k = (
  (
    h.0.0,
    subst (λ n. slice_get (D.variables_of_block p n) i ≡ Some h.0.0) same h.0.1,
    k.0 h.0.0 h.0.2,
  ),
  passed_as p q block is es xs same h.1 k.1,
)
passed_as p q block [] (e ∷ es) xs same h k = absurd h
passed_as p q block (i ∷ is) [] xs same h k = absurd h
passed_as p q block [] [] (x ∷ xs) same h k = absurd k
passed_as p q block (i ∷ is) (e ∷ es) [] same h k = absurd k

none_taken : (w : W.Where) (q : Y.Procedure) (is : List ℕ) → X.ArePassed w q is Y.NoArgument
    → AreTaken w.program q is []
none_taken w q [] h = tt
none_taken w q (i ∷ is) h = absurd h

one_taken : (w : W.Where) (q : Y.Procedure) (is : List ℕ) (x : Y.Argument) (xs : Y.Arguments) (e : V.Evaluated)
    (es : List V.Evaluated) → X.ArePassed w q is (Y.ArgumentThen x xs)
    → ((d : Y.DeclaredVariable) → X.IsPassed w q d x → TakesEvaluated d e)
    → ((is : List ℕ) → X.ArePassed w q is xs → AreTaken w.program q is es) → AreTaken w.program q is (e ∷ es)
one_taken w q [] x xs e es h k more = absurd h
one_taken w q (i ∷ is) x xs e es h k more = (
  (h.0.0, h.0.1, k h.0.0 h.0.2),
  more is h.1,
)

-- what a reference designates, as its variable is declared
abbrev pub IsFound : Y.Program → Y.Reference → V.Designated → Type 0
IsFound p (Y.Referring v locator part subscripts) x = IsTold p v part x

reference_taken : (w : W.Where) (r : Y.Reference) (d : Y.DeclaredVariable) (x : V.Designated) → X.Passes w d r
    → IsFound w.program r x → StandsAs d x.name x.generation.shape
reference_taken w (Y.Referring v locator part subscripts) d x h found =
    let a : Y.DeclaredVariable = h.given.designates.d in
    let is = found.0 a h.given.designates.declared.found in
    let same : declared_forms d.leaves ≡ declared_forms a.leaves = leaves_taken d.leaves a.leaves h.taken in
    (is.shaped ∙ sym same, λ area. is.owned (sym same ∙ area))

-- where procedures may be called, it is known which activations are those of the blocks around
footed : (w : Ways) → P.MayCall w.calls → Footing w.table w.bearing.frames w.blocks
footed w may = of_calls w.calls may w.footing
  where
    of_calls : (k : P.Calls) → P.MayCall k → FootingIf k w.table w.bearing.frames w.blocks
        → Footing w.table w.bearing.frames w.blocks
    of_calls P.AnyCall m h = h
    of_calls P.NoCall m h = absurd m

procedure_entered_there : (q : Y.Procedure) (number level : ℕ) (passed : List Passed) (w : Ways)
    (f : FineProcedure w.program w.table q) → P.MayCall w.calls → X.IsProcedure (here w) number level q
    → ArePassedAs w.program f.block.head.number q.parameters passed
    → There (demand w) 0 1 w.left (Expected (is_some q.result)) (V.procedure_entered (around w) (Some q) level passed)
unfolding V.procedure_entered
procedure_entered_there q number level passed w f may i e =
    bind_there looked_there (λ s k.
    let c : Callee w.program w.table w.bearing.frames
    (height_of (ancestor s.activations (newest_height s.activations) level)) q f =
    callee w.program w.table w.bearing.frames s.activations w.blocks w.returning number level q f (footed w may) k.1 i
    in
    w.keeps w.bearing _ (record {
      block = f.block;
      chain = c.chain;
      stands = c.stands;
      opens = w.opens;
      passes = procedure_passes w.program w.table w.bearing.answers q f;
      passed = e;
      listed =
          listed_unit w.table f.block.head (block_around f.block.head f.block.body ∷ f.block.outer) f.block.head.kind
          f.listed;
    }))

pub returned_there : (w : Ways) (v : Option BasicValue) → IsThere v
    → There (demand w) 0 1 w.left Anything (V.returned v)
unfolding V.returned
returned_there w None h = absurd h
returned_there w (Some v) h = give_there v tt

-- ---- what a call gives

abbrev CallGives : Y.Program → Y.Call → Option BasicValue → Type 0
CallGives p (Y.Calling number level as') v =
    (q : Y.Procedure) → W.procedure_numbered number p.procedures ≡ Some q → Expected (is_some q.result) v

value_given : (test : Option Y.LeafType → Type 0) → (test None → ⊥) → (c : Y.Call) (w : Ways)
    → X.Gives test (here w) c → (v : Option BasicValue) → CallGives w.program c v → IsThere v
value_given test never (Y.Calling number level as') w g v h = by_result g.0.result g.2 (h g.0 g.1)
  where
    by_result : (o : Option Y.LeafType) → test o → Expected (is_some o) v → IsThere v
    by_result None t k = absurd (never t)
    by_result (Some x) t k = k

number_given : X.GivesNumber None → ⊥
number_given h = h

bit_given : (type : Y.LeafType) → None ≡ Some type → ⊥
bit_given type e = cc e

same_result : (number : ℕ) (ps : List Y.Procedure) (q q' : Y.Procedure) (v : Option BasicValue)
    → W.procedure_numbered number ps ≡ Some q → W.procedure_numbered number ps ≡ Some q'
    → Expected (is_some q.result) v → Expected (is_some q'.result) v
same_result number ps q q' v e f k =
    let same : q ≡ q' = cc (e, f) in subst (λ x. Expected (is_some x.result) v) same k

-- ---- dimensions

dimension_there : (r : Y.Reference) (dimension : ℕ) (w : Ways) → IsDimension (here w) r dimension
    → (x : V.Designated) → IsFound w.program r x → HasBounds x dimension
dimension_there (Y.Referring v locator part subscripts) dimension w h x found =
    let d = h.designates.d in
    let e = h.designates.declared.found in
    let fine = declared_there w.program w.table w.whole v d e in
    let leaf = member_bounds d part h.designates.dimensions fine.members fine.dimensions h.designates.member in
    let high = h.high in
    let enough = leaf.enough in
    bounds_there d part x leaf.leaf dimension (found.0 d e) leaf.there h.low (omega (arith, high, enough))

-- ---- expressions

mutual
  unfolding V.number V.numbers V.text V.bit V.pointer V.offset V.designated V.located V.called V.arguments
      V.argument V.stored_value

  pub number_there : (x : Y.Number) (w : Ways) → X.SoundNumber (here w) x → P.AllowedNumber w.calls x
      → There (demand w) 0 1 w.left Anything (V.number (around w) x)
  number_there (Y.NumberConstant c) w h p = give_there _ tt
  number_there (Y.NumberIn r) w h p = bind_there (designated_there r w h.1 p) (λ d k. give_there _ tt)
  number_there (Y.NumberFrom c) w h p =
      bind_there (called_there c w h.1 p) (λ v k. bind_there {between = Anything} (returned_there w v
      (value_given X.GivesNumber number_given c w h.0 v k)) (λ y j. give_there _ tt))
  number_there (Y.NumberOfText t) w h p = bind_there (text_there t w h p) (λ y k. or_error_there _ _ w)
  number_there (Y.NumberOfBit b) w h p = bind_there (bit_there b w h p) (λ y k. give_there _ tt)
  number_there (Y.Signed sign x) w h p = bind_there (number_there x w h p) (λ z k. value_of_there _ w)
  number_there (Y.Calculated o x y) w h p =
      bind_there (number_there x w h.0 p.0) (λ u k. bind_there (number_there y w h.1 p.1)
      (λ v j. value_of_there _ w))
  number_there (Y.Absolute x) w h p = bind_there (number_there x w h p) (λ z k. value_of_there _ w)
  number_there (Y.SignOf x) w h p = bind_there (number_there x w h p) (λ z k. give_there _ tt)
  number_there (Y.Extreme o x more) w h p =
      bind_there (number_there x w h.0 p.0) (λ z k. bind_there (numbers_there more w h.1.1 p.1)
      (λ zs j. give_there _ tt))
  number_there (Y.Modulo x y) w h p =
      bind_there (number_there x w h.0 p.0) (λ u k. bind_there (number_there y w h.1 p.1)
      (λ v j. value_of_there _ w))
  number_there (Y.Divided precision x y) w h p =
      bind_there (number_there x w h.1.0 p.0) (λ u k. bind_there (number_there y w h.1.1 p.1)
      (λ v j. value_of_there _ w))
  number_there (Y.LengthOf t) w h p = bind_there (text_there t w h p) (λ y k. give_there _ tt)
  number_there (Y.IndexOf s t) w h p =
      bind_there (text_there s w h.0 p.0) (λ u k. bind_there (text_there t w h.1 p.1) (λ v j. give_there _ tt))
  number_there (Y.VerifyOf s t) w h p =
      bind_there (text_there s w h.0 p.0) (λ u k. bind_there (text_there t w h.1 p.1) (λ v j. give_there _ tt))
  number_there (Y.LowerBound r dimension) w h p =
      bind_there (designated_there r w h.1 p) (λ x f. let b = dimension_there r dimension w h.0 x f in
      found_there _ b.bounds _ _ b.there (give_there _ tt))
  number_there (Y.UpperBound r dimension) w h p =
      bind_there (designated_there r w h.1 p) (λ x f. let b = dimension_there r dimension w h.0 x f in
      found_there _ b.bounds _ _ b.there (give_there _ tt))
  number_there (Y.ElementsOf r dimension) w h p =
      bind_there (designated_there r w h.1 p) (λ x f. let b = dimension_there r dimension w h.0 x f in
      found_there _ b.bounds _ _ b.there (value_of_there _ w))
  number_there (Y.AllocationsOf v) w h p = bind_there looked_there (λ s k. give_there _ tt)
  number_there Y.OnCode w h p = bind_there looked_there (λ s k. give_there _ tt)

  pub numbers_there : (xs : Y.Numbers) (w : Ways) → X.SoundNumbers (here w) xs → P.AllowedNumbers w.calls xs
      → There (demand w) 0 1 w.left Anything (V.numbers (around w) xs)
  numbers_there Y.NoNumber w h p = give_there [] tt
  numbers_there (Y.NumberThen x xs) w h p =
      bind_there (number_there x w h.0 p.0) (λ z k. bind_there (numbers_there xs w h.1 p.1)
      (λ zs j. give_there _ tt))

  pub text_there : (x : Y.Text) (w : Ways) → X.SoundText (here w) x → P.AllowedText w.calls x
      → There (demand w) 0 1 w.left Anything (V.text (around w) x)
  text_there (Y.TextConstant bytes) w h p = give_there bytes tt
  text_there (Y.TextIn r) w h p = bind_there (designated_there r w h.1 p) (λ d k. give_there _ tt)
  text_there (Y.TextFrom c) w h p =
      bind_there (called_there c w h.1 p) (λ v k. bind_there {between = Anything} (returned_there w v
      (value_given X.GivesText (λ z. z) c w h.0 v k)) (λ y j. give_there _ tt))
  text_there (Y.TextOfNumber precision x) w h p =
      bind_there (number_there x w h.1 p) (λ z k. give_there _ tt)
  text_there (Y.TextOfBit b) w h p = bind_there (bit_there b w h p) (λ y k. give_there _ tt)
  text_there (Y.Joined s t) w h p =
      bind_there (text_there s w h.0 p.0) (λ u k. bind_there (text_there t w h.1 p.1)
      (λ v j. or_error_there _ _ w))
  text_there (Y.SubstringFrom t from) w h p =
      bind_there (text_there t w h.0 p.0) (λ u k. bind_there (number_there from w h.1 p.1)
      (λ v j. or_error_there _ _ w))
  text_there (Y.Substring t from size) w h p =
      bind_there (text_there t w h.0 p.0) (λ u k. bind_there (number_there from w h.1.0 p.1.0)
      (λ v j. bind_there (number_there size w h.1.1 p.1.1) (λ x i. or_error_there _ _ w)))

  pub bit_there : (x : Y.Bit) (w : Ways) → X.SoundBit (here w) x → P.AllowedBit w.calls x
      → There (demand w) 0 1 w.left Anything (V.bit (around w) x)
  bit_there (Y.BitConstant b) w h p = give_there b tt
  bit_there (Y.BitIn r) w h p = bind_there (designated_there r w h.1 p) (λ d k. give_there _ tt)
  bit_there (Y.BitFrom c) w h p =
      bind_there (called_there c w h.1 p) (λ v k. bind_there {between = Anything} (returned_there w v
      (value_given (λ t. t ≡ Some Y.BitLeaf) (bit_given Y.BitLeaf) c w h.0 v k)) (λ y j. give_there _ tt))
  bit_there (Y.BitOfText t) w h p = bind_there (text_there t w h p) (λ y k. or_error_there _ _ w)
  bit_there (Y.Negated x) w h p = bind_there (bit_there x w h p) (λ y k. give_there _ tt)
  bit_there (Y.Combined Y.Conjunction x y) w h p =
      bind_there (bit_there x w h.0 p.0) (λ u k. bind_there (bit_there y w h.1 p.1) (λ v j. give_there _ tt))
  bit_there (Y.Combined Y.Disjunction x y) w h p =
      bind_there (bit_there x w h.0 p.0) (λ u k. bind_there (bit_there y w h.1 p.1) (λ v j. give_there _ tt))
  bit_there (Y.NumbersCompared o x y) w h p =
      bind_there (number_there x w h.0 p.0) (λ u k. bind_there (number_there y w h.1 p.1)
      (λ v j. give_there _ tt))
  bit_there (Y.TextsCompared o x y) w h p =
      bind_there (text_there x w h.0 p.0) (λ u k. bind_there (text_there y w h.1 p.1) (λ v j. give_there _ tt))
  bit_there (Y.BitsCompared o x y) w h p =
      bind_there (bit_there x w h.0 p.0) (λ u k. bind_there (bit_there y w h.1 p.1) (λ v j. give_there _ tt))
  bit_there (Y.PointersCompared equal x y) w h p =
      bind_there (pointer_there x w h.0 p.0) (λ u k. bind_there (pointer_there y w h.1 p.1)
      (λ v j. give_there _ tt))
  bit_there (Y.OffsetsCompared equal x y) w h p =
      bind_there (offset_there x w h.0 p.0) (λ u k. bind_there (offset_there y w h.1 p.1)
      (λ v j. give_there _ tt))

  pub pointer_there : (x : Y.Pointer) (w : Ways) → X.SoundPointer (here w) x → P.AllowedPointer w.calls x
      → There (demand w) 0 1 w.left Anything (V.pointer (around w) x)
  pointer_there Y.NullPointer w h p = give_there _ tt
  pointer_there (Y.PointerIn r) w h p = bind_there (designated_there r w h.1 p) (λ d k. give_there _ tt)
  pointer_there (Y.PointerFrom c) w h p =
      bind_there (called_there c w h.1 p) (λ v k. bind_there {between = Anything} (returned_there w v
      (value_given (λ t. t ≡ Some Y.PointerLeaf) (bit_given Y.PointerLeaf) c w h.0 v k))
      (λ y j. give_there _ tt))
  pointer_there (Y.AddressOf r) w h p = bind_there (designated_there r w h.1 p) (λ d k. give_there _ tt)
  pointer_there (Y.PointerInto x area) w h p =
      bind_there (offset_there x w h.1 p) (λ o k. bind_there (area_meant_there area w) (λ b j. give_there _ tt))

  offset_there : (x : Y.Offset) (w : Ways) → X.SoundOffset (here w) x → P.AllowedOffset w.calls x
      → There (demand w) 0 1 w.left Anything (V.offset (around w) x)
  offset_there Y.NullOffset w h p = give_there _ tt
  offset_there (Y.OffsetIn r) w h p = bind_there (designated_there r w h.1 p) (λ d k. give_there _ tt)
  offset_there (Y.OffsetFrom c) w h p =
      bind_there (called_there c w h.1 p) (λ v k. bind_there {between = Anything} (returned_there w v
      (value_given X.GivesOffset (λ z. z) c w h.0 v k)) (λ y j. give_there _ tt))
  offset_there (Y.OffsetInto x area) w h p =
      bind_there (pointer_there x w h.1 p) (λ o k. bind_there (area_meant_there area w)
      (λ b j. or_error_there _ _ w))

  pub designated_there : (x : Y.Reference) (w : Ways) → X.SoundReference (here w) x → P.AllowedReference w.calls x
      → There (demand w) 0 1 w.left (IsFound w.program x) (V.designated (around w) x)
  designated_there (Y.Referring v locator part subscripts) w h p =
      let fine = declared_there w.program w.table w.whole v h.0.d h.0.declared.found in
      bind_there (located_there locator w h.1.1.0 p.0) (λ n k. bind_there (numbers_there subscripts w h.1.1.1 p.1)
      (λ is j. variable_designated_there v n part is h.0.d w h.0.declared
      (λ area. area_unlocated v.class locator n h.1.0 k
      (subst HoldsArea h.0.declared.same_class (area_holds h.0.d fine.areas area)))))

  pub located_there : (x : Y.Locator) (w : Ways) → X.SoundLocator (here w) x → P.AllowedLocator w.calls x
      → There (demand w) 0 1 w.left (IsNameBy x) (V.located (around w) x)
  located_there Y.NotLocated w h p = give_there _ refl
  located_there (Y.LocatedBy x) w h p = bind_there (pointer_there x w h p) (λ n k. give_there _ tt)

  pub called_there : (x : Y.Call) (w : Ways) → X.SoundCall (here w) x → P.AllowedCall w.calls x
      → There (demand w) 0 1 w.left (CallGives w.program x) (V.called (around w) x)
  called_there (Y.Calling number level xs) w h p =
      bind_there (arguments_there xs w h.1 p.1) (λ es e. bind_there (all_passed_there es es w)
      (λ ps f. let q = h.0.procedure in let found = h.0.is.found in
      let fine : FineProcedure w.program w.table q =
      procedure_fine (FineProcedure w.program w.table) number w.program.procedures q w.whole.procedures found in
      subst (λ o. There (demand w) 0 1 w.left (CallGives w.program (Y.Calling number level xs))
      (V.procedure_entered (around w) o level ps))
      (sym (procedures_same number w.program.procedures ∙ found))
      (told (λ v k q' e'. same_result number w.program.procedures q q' v found e' k)
      (procedure_entered_there q number level ps w fine p.0 h.0.is
      (passed_as w.program q fine.block.head.number q.parameters es ps
      (ap (λ b. (W.head_of b).number) fine.block.is) (e q q.parameters h.0.passed) f)))))

  arguments_there : (xs : Y.Arguments) (w : Ways) → X.SoundArguments (here w) xs → P.AllowedArguments w.calls xs
      → There (demand w) 0 1 w.left (λ es. (q : Y.Procedure) (is : List ℕ) → X.ArePassed (here w) q is xs
      → AreTaken w.program q is es) (V.arguments (around w) xs)
  arguments_there Y.NoArgument w h p = give_there [] (λ q is i. none_taken (here w) q is i)
  arguments_there (Y.ArgumentThen x xs) w h p =
      bind_there (argument_there x w h.0 p.0) (λ y k. bind_there (arguments_there xs w h.1 p.1)
      (λ ys e. give_there (y ∷ ys) (λ q is i. one_taken (here w) q is x xs y ys i (k q) (e q))))

  argument_there : (x : Y.Argument) (w : Ways) → X.SoundArgument (here w) x → P.AllowedArgument w.calls x
      → There (demand w) 0 1 w.left (λ y. (q : Y.Procedure) (d : Y.DeclaredVariable) → X.IsPassed (here w) q d x
      → TakesEvaluated d y) (V.argument (around w) x)
  argument_there (Y.ByReference r) w h p =
      bind_there (designated_there r w h p) (λ x k. give_there _ (λ q d i. reference_taken (here w) r d x i k))
  argument_there (Y.ByCopy t x) w h p =
      bind_there (stored_value_there x w h p) (λ v k. give_there _ (λ q d i. (
        scalar_shaped d t _ i.0 (copied_number t v),
        subst (λ n. IsOfNumber n v) (sym (copied_number t v)) (fits_kind t x v i.1 k),
      )))
  argument_there (Y.ByOffsetInParameter x parameter) w h p =
      bind_there (pointer_there x w h p) (λ n k. give_there _ (λ q d i.
      scalar_shaped d (Y.OffsetLeaf (Some i.0.area)) Offset i.0.scalar refl))
  argument_there (Y.ByOffsetInAutomatic x) w h p =
      bind_there (pointer_there x w h p) (λ n k. give_there _ (λ q d i.
      scalar_shaped d (Y.OffsetLeaf (Some i.area)) Offset i.scalar refl))

  pub stored_value_there : (x : Y.Stored) (w : Ways) → X.SoundStored (here w) x → P.AllowedStored w.calls x
      → There (demand w) 0 1 w.left (IsStored x) (V.stored_value (around w) x)
  stored_value_there (Y.StoredNumber precision x) w h p =
      bind_there (number_there x w h.1 p) (λ z k. bind_there (value_of_there _ w) (λ y j. give_there _ tt))
  stored_value_there (Y.StoredText x) w h p = bind_there (text_there x w h p) (λ t k. give_there _ tt)
  stored_value_there (Y.StoredBit x) w h p = bind_there (bit_there x w h p) (λ b k. give_there _ tt)
  stored_value_there (Y.StoredPointer x) w h p = bind_there (pointer_there x w h p) (λ n k. give_there _ tt)
  stored_value_there (Y.StoredOffset x) w h p = bind_there (offset_there x w h p) (λ o k. give_there _ tt)

-- a number, a text or a bit
pub computational_there : (x : Y.Value) (w : Ways) → X.SoundComputational (here w) x → P.AllowedValue w.calls x
    → There (demand w) 0 1 w.left Anything (V.computational (around w) x)
unfolding V.computational
computational_there (Y.NumberValue precision e) w h p = bind_there (number_there e w h.1 p) (λ z k. give_there _ tt)
computational_there (Y.TextValue e) w h p = bind_there (text_there e w h p) (λ t k. give_there _ tt)
computational_there (Y.BitValue e) w h p = bind_there (bit_there e w h p) (λ b k. give_there _ tt)
computational_there (Y.PointerValue e) w h p = absurd h
computational_there (Y.OffsetValue area e) w h p = absurd h
computational_there Y.NullValue w h p = absurd h
