-- No expression of a head is too heavy, by the limits on its parentheses and arguments.
use Rattle.std.proofs.Common.{ℕ, ◌+◌, ◌*◌, ◌≤◌, Bool, false, List, [], ◌∷◌, Option, Some, None, arith}
use Rattle.std.proofs.Common.{mul-le-mul_left}
use Rattle.pli_language.specs.Formats.{Direction, Getting, Putting}
use Rattle.pli_language.specs.Heads as H
use Rattle.pli_language.specs.Tree as T
use Rattle.well_formed_trees.specs.Every.{Every}
use Rattle.well_formed_trees.specs.Counted.{HasFew, arguments_of, arguments_of_reference, arguments_in}
use Rattle.well_formed_trees.specs.Counted.{arguments_of_all, arguments_of_bound, arguments_of_size}
use Rattle.well_formed_trees.specs.Counted.{arguments_of_attribute, arguments_of_item, arguments_of_counting}
use Rattle.well_formed_trees.specs.Counted.{arguments_of_allocation, arguments_of_freeing, arguments_of_pair}
use Rattle.well_formed_trees.specs.Counted.{arguments_of_simple, count_if, total_of}
use Rattle.well_formed_trees.specs.Shallow.{Opens, OpensReference, OpensArguments, OpensExprs, IsShallow}
use Rattle.well_formed_trees.specs.Shallow.{ShallowBound, ShallowSize, ShallowCounting}
use Rattle.well_formed_trees.specs.Shallow.{ShallowAttribute, ShallowName, ShallowItem, ShallowIf, ShallowReferenceIf}
use Rattle.well_formed_trees.specs.Shallow.{ShallowAllocation, ShallowFreeing, ShallowPair, ShallowSimple}
use Rattle.well_formed_trees.specs.Spelled.{RangedExpr, RangedReference, RangedArguments, RangedExprs, RangedIf}
use Rattle.well_formed_trees.specs.Spelled.{RangedBound, RangedCounting}
use Rattle.well_formed_trees.specs.Spelled.{RangedSize, RangedAttribute, RangedName, RangedItem, RangedAllocation}
use Rattle.well_formed_trees.specs.Spelled.{RangedFreeing, RangedPair, RangedSimple, IsRanged}
use Rattle.well_formed_trees.proofs.HeadsInRange.{ranges_kept}
use Rattle.well_formed_trees.proofs.HeadsCounted.{arguments_kept}
use Rattle.well_formed_trees.proofs.HeadsShallow.{parentheses_kept}
use Rattle.small_frames.specs.Weights.{argument_count, weight, reference_weight, heaviest_in, heaviest_of}
use Rattle.small_frames.specs.Weights.{most_weight}
use Rattle.small_frames.specs.Light.{LightIf, LightReferenceIf, LightBound, LightSize}
use Rattle.small_frames.specs.Light.{LightAttribute, LightName, LightItem, LightCounting, LightAllocation}
use Rattle.small_frames.specs.Light.{LightFreeing, LightPair, LightSimple, HasLight, HeadsLight}
use Rattle.small_frames.proofs.WeightBounds.{weights_limited, references_limited, arguments_all_limited}
use Rattle.small_frames.proofs.HeadsZipped.{items_zipped}

-- ---- expressions

few_light : (each n : ℕ) → n ≤ 100 → most_weight each n ≤ most_weight each 100
few_light each n h = let more = mul-le-mul_left each h in omega (arith, more)

expr_light : (each n : ℕ) (e : T.Expr) → Opens 0 e → RangedExpr e → arguments_of e ≤ n → n ≤ 100
    → weight each e ≤ most_weight each 100
expr_light each n e o r h k =
    let limited = weights_limited each e o r in
    let few = few_light each (arguments_of e) (omega (arith, h, k)) in
    omega (arith, limited, few)

reference_light : (each n : ℕ) (r : T.Reference) → OpensReference 0 r → RangedReference r
    → arguments_of_reference r ≤ n → n ≤ 100 → reference_weight each r ≤ most_weight each 100
reference_light each n r o k h l =
    let limited = references_limited each r o k in
    let few = few_light each (arguments_of_reference r) (omega (arith, h, l)) in
    omega (arith, limited, few)

exprs_light : (each n : ℕ) (es : T.Exprs) → OpensExprs 0 es → RangedExprs es → arguments_of_all es ≤ n → n ≤ 100
    → heaviest_of each es ≤ most_weight each 100
exprs_light each n T.NoExpr o r h k = omega arith
exprs_light each n (T.ExprThen e es) o r h k =
    let one = expr_light each n e o.0 r.0 (omega (arith, h)) k in
    let more = exprs_light each n es o.1 r.1 (omega (arith, h)) k in
    omega (arith, one, more)

if_light : (e : Option T.Expr) → ShallowIf e → RangedIf RangedExpr e → count_if arguments_of e ≤ 100 → LightIf e
if_light None o r h = tt
if_light (Some e) o r h = expr_light 6 (arguments_of e) e o r (omega arith) h

reference_if_light : (r : Option T.Reference) → ShallowReferenceIf r → RangedIf RangedReference r
    → count_if arguments_of_reference r ≤ 100 → LightReferenceIf r
reference_if_light None o k h = tt
reference_if_light (Some r) o k h = reference_light 6 (arguments_of_reference r) r o k (omega arith) h

-- ---- lists, of which each element has no more arguments than all

all_light : {X : Type 0} (O R L : X → Type 0) (count : X → ℕ)
    → ((x : X) → O x → R x → count x ≤ 100 → L x) → (xs : List X) → Every O xs → Every R xs
    → total_of count xs ≤ 100 → Every L xs
all_light O R L count f [] o r h = tt
all_light O R L count f (x ∷ xs) o r h =
    (f x o.0 r.0 (omega (arith, h)), all_light O R L count f xs o.1 r.1 (omega (arith, h)))

-- ---- declarations

extent_light : (e : T.Extent) → Opens 0 e.value → RangedExpr e.value → arguments_of e.value ≤ 100
    → weight 1 e.value ≤ most_weight 1 100
extent_light e o r h = expr_light 1 (arguments_of e.value) e.value o r (omega arith) h

bound_light : (b : T.Bound) → ShallowBound b → RangedBound b → arguments_of_bound b ≤ 100 → LightBound b
bound_light (T.StarBound place) o r h = tt
bound_light (T.Upper upper) o r h = extent_light upper o r h
bound_light (T.Both lower upper) o r h =
    (extent_light lower o.0 r.0 (omega (arith, h)), extent_light upper o.1 r.1 (omega (arith, h)))

size_light : (s : T.Size) → ShallowSize s → RangedSize s → arguments_of_size s ≤ 100 → LightSize s
size_light (T.StarSize place) o r h = tt
size_light (T.Given e) o r h = extent_light e o r h

size_if_light : (s : Option T.Size) → RangedIf ShallowSize s → RangedIf RangedSize s
    → count_if arguments_of_size s ≤ 100 → RangedIf LightSize s
size_if_light None o r h = tt
size_if_light (Some s) o r h = size_light s o r h

attribute_light : (a : T.Attribute) → ShallowAttribute a → RangedAttribute a → arguments_of_attribute a ≤ 100
    → LightAttribute a
attribute_light (T.Character size) o r h = size_if_light size o r h
attribute_light (T.Area size) o r h = size_if_light size o r h
attribute_light (T.Fixed digits) o r h = tt
attribute_light (T.Binary digits) o r h = tt
attribute_light T.Varying o r h = tt
attribute_light T.BitOne o r h = tt
attribute_light T.Pointer o r h = tt
attribute_light (T.Offset area) o r h = tt
attribute_light T.Automatic o r h = tt
attribute_light T.Static o r h = tt
attribute_light T.Controlled o r h = tt
attribute_light (T.Based locator) o r h = tt
attribute_light (T.Initial items) o r h = tt
attribute_light T.Builtin o r h = tt
attribute_light T.Aligned o r h = tt
attribute_light T.Unaligned o r h = tt
attribute_light T.Internal o r h = tt

name_light : (d : T.DeclaredName) → ShallowName d → RangedName d
    → total_of arguments_of_bound d.dimensions ≤ 100 → LightName d
name_light d o r h = all_light ShallowBound RangedBound LightBound arguments_of_bound bound_light d.dimensions o r h

item_light : (d : T.DeclareItem) → ShallowItem d → RangedItem d → arguments_of_item d ≤ 100 → LightItem d
item_light d o r h = (
  (
    all_light ShallowName RangedName LightName (λ n. total_of arguments_of_bound n.dimensions) name_light d.names
        o.0.0 r.0.0 (omega (arith, h)),
    all_light ShallowBound RangedBound LightBound arguments_of_bound bound_light d.dimensions o.0.1 r.0.1
        (omega (arith, h)),
  ),
  all_light ShallowAttribute RangedAttribute LightAttribute arguments_of_attribute attribute_light d.attributes o.1
      r.1 (omega (arith, h)),
)

-- ---- heads

counting_light : (c : T.Counting) → ShallowCounting c → RangedCounting c → arguments_of_counting c ≤ 100
    → LightCounting c
counting_light c o r h = (
  (
    reference_light 6 100 c.variable o.0.0 r.0.0 (omega (arith, h)) (omega arith),
    expr_light 6 100 c.start o.0.1 r.0.1 (omega (arith, h)) (omega arith),
  ),
  (
    (
      if_light c.limit o.1.0.0 r.1.0 (omega (arith, h)),
      if_light c.step o.1.0.1 r.1.1.0 (omega (arith, h)),
    ),
    if_light c.condition o.1.1 r.1.1.1 (omega (arith, h)),
  ),
)

allocation_light : (a : T.Allocation) → ShallowAllocation a → RangedAllocation a → arguments_of_allocation a ≤ 100
    → LightAllocation a
allocation_light a o r h = (
  reference_if_light a.area o.0 r.0 (omega (arith, h)),
  reference_if_light a.locator o.1 r.1 (omega (arith, h)),
)

freeing_light : (f : T.Freeing) → ShallowFreeing f → RangedFreeing f → arguments_of_freeing f ≤ 100 → LightFreeing f
freeing_light f o r h = (
  reference_light 6 100 f.generation o.0 r.0 (omega (arith, h)) (omega arith),
  reference_if_light f.area o.1 r.1 (omega (arith, h)),
)

pair_light : (d : Direction) (p : T.EditPair) → ShallowPair p → RangedPair d p → arguments_of_pair p ≤ 100
    → LightPair p
pair_light d p o r h = exprs_light 6 (arguments_of_all p.items) p.items o r.0 (omega arith) h

arguments_light : (a : T.Arguments) → OpensArguments 0 a → RangedArguments a → arguments_in a ≤ 100
    → 6 * argument_count a + heaviest_in 6 a ≤ most_weight 6 100
arguments_light a o r h =
    let limited = arguments_all_limited 6 a o r in
    let few = few_light 6 (arguments_in a) h in
    omega (arith, limited, few)

simple_light : (s : T.Stmt) → ShallowSimple s → RangedSimple s → arguments_of_simple s ≤ 100 → LightSimple s
simple_light (T.Assign target source place) o r h = (
  reference_light 6 100 target o.0 r.0.0 (omega (arith, h)) (omega arith),
  expr_light 6 100 source o.1 r.0.1 (omega (arith, h)) (omega arith),
)
simple_light (T.Call name a place) o r h = arguments_light a o r.0 h
simple_light (T.Return value place) o r h = if_light value o r.0 h
simple_light (T.Allocate allocations place) o r h =
    all_light ShallowAllocation RangedAllocation LightAllocation arguments_of_allocation allocation_light allocations o
    r.0 h
simple_light (T.Free freeings place) o r h =
    all_light ShallowFreeing RangedFreeing LightFreeing arguments_of_freeing freeing_light freeings o r.0 h
simple_light (T.Get skip pairs place) o r h =
    all_light ShallowPair (RangedPair Getting) LightPair arguments_of_pair (pair_light Getting) pairs o r.1.0 h
simple_light (T.Put skip pairs place) o r h =
    all_light ShallowPair (RangedPair Putting) LightPair arguments_of_pair (pair_light Putting) pairs o r.1.0 h
simple_light (T.Null place) o r h = tt
simple_light (T.Goto label place) o r h = tt
simple_light (T.Stop place) o r h = tt
simple_light (T.Signal on place) o r h = tt
simple_light (T.Revert on place) o r h = tt
simple_light (T.If e unit place) o r h = tt
simple_light (T.IfElse e unit otherwise place) o r h = tt
simple_light (T.Do body place) o r h = tt
simple_light (T.DoWhile e body place) o r h = tt
simple_light (T.DoCount c body place) o r h = tt
simple_light (T.Begin body place) o r h = tt
simple_light (T.OnSystem on place) o r h = tt
simple_light (T.OnUnit on unit place) o r h = tt

-- what is shallow, with few arguments
abbrev IsBounded : (blocks units : ℕ) → (returns : Bool) → H.Head → Type 0
IsBounded b u r h = IsShallow b u r h × HasFew b u r h

head_bounded : (b u : ℕ) (r : Bool) (h : H.Head) → IsShallow b u r h → HasFew b u r h → IsBounded b u r h
head_bounded b u r h o k = (o, k)

head_light : (b u : ℕ) (r : Bool) (h : H.Head) → IsBounded b u r h → IsRanged b u r h → HasLight b u r h
head_light b u r (H.ProcedureFront place parameters options) o k = (o.1.1, k.1.1)
head_light b u r (H.Declaring items place) o k =
    all_light ShallowItem RangedItem LightItem arguments_of_item item_light items o.0 k o.1.0
head_light b u r (H.Simple s) o k = simple_light s o.0 k.0 o.1.0
head_light b u r (H.IfThen e place) o k = (expr_light 6 100 e o.0 k.0 o.1.0 (omega arith), k.1.1)
head_light b u r (H.DoGroup place) o k = k.1
head_light b u r (H.DoWhileGroup e place) o k = (expr_light 6 100 e o.0 k.0 o.1.0 (omega arith), k.1.1)
head_light b u r (H.DoCountGroup c place) o k = (counting_light c o.0 k.0 o.1.0, k.1.1)
head_light b u r (H.BeginBlock place) o k = k.1
head_light b u r (H.On on place) o k = k.1
head_light b u r _ o k = tt

pub heads_light : HeadsLight
heads_light s tokens tree t h =
    items_zipped IsBounded IsRanged HasLight head_light 0 0 false tree.procedures
    (items_zipped IsShallow HasFew IsBounded head_bounded 0 0 false tree.procedures (parentheses_kept s tokens tree h)
    (arguments_kept s tokens tree h)) (ranges_kept s tokens tree t h)
