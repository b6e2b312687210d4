-- Each head of what is spelled has no more arguments and parameters than the limits.
use Rattle.std.proofs.Common.{◌≡◌, ℕ, ◌+◌, ◌≤◌, Bool, false, List, [], ◌++◌, length, Option, Some, None}
use Rattle.std.proofs.Common.{refl, subst, arith}
use Rattle.pli_language.specs.declared.fault.SourceFault.{SourceFault}
use Rattle.pli_language.specs.declared.expr.Place.{Place}
use Rattle.pli_language.specs.declared.token.Token.{Token}
use Rattle.pli_language.specs.Formats.{Direction, Getting, Putting, pairs_marks, skip_marks}
use Rattle.pli_language.specs.Heads as H
use Rattle.pli_language.specs.Heads.{Range, SpellsRange, SpellsCounting, SpellsPlacing, SpellsAllocation}
use Rattle.pli_language.specs.Heads.{SpellsAllocations, SpellsSimple, SpellsHead, moving, marks_if, parameters_marks}
use Rattle.pli_language.specs.Heads.{options_marks, most_parameters}
use Rattle.pli_language.specs.Marks.{Marks, no_marks, expr_marks, reference_marks}
use Rattle.pli_language.specs.Nesting.{Nest, settled, blocks, units, may_return, nest_faults}
use Rattle.pli_language.specs.Parsing as P
use Rattle.pli_language.specs.Parsing.{Reads, before, faults_of}
use Rattle.pli_language.specs.Tree as T
use Rattle.well_formed_trees.specs.Spelled.{StmtHas, ItemsHave}
use Rattle.well_formed_trees.specs.Counted.{arguments_of, arguments_of_reference, count_if, total_of}
use Rattle.well_formed_trees.specs.Counted.{arguments_of_counting, arguments_of_allocation, arguments_of_pair}
use Rattle.well_formed_trees.specs.Counted.{arguments_of_option, arguments_of_simple, arguments_of_head}
use Rattle.well_formed_trees.specs.Counted.{parameters_of_head, HasFew, ArgumentsKept}
use Rattle.well_formed_trees.proofs.Places.{same_some}
use Rattle.well_formed_trees.proofs.Lists.{first_empty, second_empty}
use Rattle.well_formed_trees.proofs.Nests.{OptFine}
use Rattle.well_formed_trees.proofs.HeadNests.{HeadHas, NestHas, items_have, entered_has}
use Rattle.well_formed_trees.proofs.MarksClean.{IsClean, parentheses_clean}
use Rattle.well_formed_trees.proofs.MarksSpent.{Takes, takes_none, takes_both, noted_then, expr_takes, reference_takes}
use Rattle.well_formed_trees.proofs.MarksSpent.{arguments_take, marks_if_take, items_take, options_take}
use Rattle.well_formed_trees.proofs.MarksSpent.{parameters_take, parameters_few, freeings_take, pairs_take, skip_takes}

-- ---- DO

abbrev arguments_of_range : Range → ℕ
arguments_of_range r = count_if arguments_of r.limit + count_if arguments_of r.step

-- what is read of a range takes as many as it has more than before
range_takes : {s : List ℕ} {b r : Range} {ts rest : List Token} {m m' : Marks} → SpellsRange s b ts m r rest m'
    → IsClean m' → IsClean m × (arguments_of_range b + m.room ≡ arguments_of_range r + m'.room)
range_takes (H.range_ends b ts m e) c = (c, refl)
range_takes (H.to step r ts after mid rest m m' t e taken sp more) c =
    let later = range_takes more c in
    let first = expr_takes e m later.0 in
    let x = first.1 in
    let y = later.1 in
    (first.0, limit_moved (arguments_of e) (count_if arguments_of step) m.room (expr_marks e m).room _ x y) where
      limit_moved : (n k a b c : ℕ) → a ≡ n + b → (n + k) + b ≡ c → (0 + k) + a ≡ c
      limit_moved n k a b c e f = omega (arith, e, f)
range_takes (H.by limit r ts after mid rest m m' t e taken sp more) c =
    let later = range_takes more c in
    let first = expr_takes e m later.0 in
    let x = first.1 in
    let y = later.1 in
    (first.0, step_moved (arguments_of e) (count_if arguments_of limit) m.room (expr_marks e m).room _ x y) where
      step_moved : (n k a b c : ℕ) → a ≡ n + b → (k + n) + b ≡ c → (k + 0) + a ≡ c
      step_moved n k a b c e f = omega (arith, e, f)

from_none : (a b : ℕ) → 0 + a ≡ b → a ≡ b
from_none a b e = omega (arith, e)

counting_takes : {s : List ℕ} {ts rest : List Token} {m m' : Marks} {c : T.Counting}
    → SpellsCounting s ts m c rest m' → Takes (arguments_of_counting c) m m'
counting_takes (H.counting ts mid after at_it at rest m m' t v e r w variable equal start range condition) =
    let target = reference_marks v m in
    let started = expr_marks e target in
    let front = arguments_of_reference v + arguments_of e in
    let inside : Takes (count_if arguments_of r.limit + count_if arguments_of r.step) started m' =
    λ c. let k = range_takes range c in (k.0, from_none started.room _ k.1) in
    takes_both (front + arguments_of_range r) (count_if arguments_of w) m m' (marks_if expr_marks w m')
    (takes_both front (arguments_of_range r) m started m'
    (takes_both (arguments_of_reference v) (arguments_of e) m target started (reference_takes v m)
    (expr_takes e target))
    inside)
    (marks_if_take expr_marks arguments_of expr_takes w m')

-- ---- ALLOCATE

placing_takes : {s : List ℕ} {a b : T.Allocation} {ts rest : List Token} {m m' : Marks}
    → SpellsPlacing s a ts m b rest m'
    → IsClean m' → IsClean m × (arguments_of_allocation a + m.room ≡ arguments_of_allocation b + m'.room)
placing_takes (H.placing_ends a ts m e) c = (c, refl)
placing_takes (H.in_area n l b ts after mid rest m m' t r taken sp more) c =
    let later = placing_takes more c in
    let first = reference_takes r m later.0 in
    let x = first.1 in
    let y = later.1 in (
      first.0,
      area_moved (arguments_of_reference r) (count_if arguments_of_reference l) m.room (reference_marks r m).room _ x y,
    ) where
      area_moved : (n k a b c : ℕ) → a ≡ n + b → (n + k) + b ≡ c → (0 + k) + a ≡ c
      area_moved n k a b c e f = omega (arith, e, f)
placing_takes (H.set_locator n a b ts after mid rest m m' t r taken sp more) c =
    let later = placing_takes more c in
    let first = reference_takes r m later.0 in
    let x = first.1 in
    let y = later.1 in (
      first.0,
      locator_moved (arguments_of_reference r) (count_if arguments_of_reference a) m.room (reference_marks r m).room _ x
          y,
    ) where
      locator_moved : (n k a b c : ℕ) → a ≡ n + b → (k + n) + b ≡ c → (k + 0) + a ≡ c
      locator_moved n k a b c e f = omega (arith, e, f)

allocation_takes : {s : List ℕ} {ts rest : List Token} {m m' : Marks} {a : T.Allocation}
    → SpellsAllocation s ts m a rest m' → Takes (arguments_of_allocation a) m m'
allocation_takes (H.allocation ts mid rest m m' t word a taken sp) c =
    let k = placing_takes sp c in
    (k.0, from_none m.room _ k.1)

allocations_take : {s : List ℕ} {ts rest : List Token} {m m' : Marks} {as' : List T.Allocation}
    → SpellsAllocations s ts m as' rest m' → Takes (total_of arguments_of_allocation as') m m'
allocations_take (H.one_allocation ts rest m m' a sp none) =
    takes_both (arguments_of_allocation a) 0 m m' m' (allocation_takes sp) (takes_none m')
allocations_take (H.further_allocations ts mid after rest m m' m'' t a others sp comma more) =
    takes_both (arguments_of_allocation a) (total_of arguments_of_allocation others) m m' m'' (allocation_takes sp)
    (allocations_take more)

-- ---- simple statements

moving_takes : (d : Direction) (k : Option T.Skip) (ps : List T.EditPair) (p : Place) (m m' : Marks)
    → Takes (total_of arguments_of_pair ps) m m' → Takes (arguments_of_simple (moving d k ps p)) m m'
moving_takes Getting k ps p m m' h = h
moving_takes Putting k ps p m m' h = h

simple_takes : {s : List ℕ} {ts rest : List Token} {m m' : Marks} {x : T.Stmt} → SpellsSimple s ts m x rest m'
    → Takes (arguments_of_simple x) m m'
simple_takes (H.null ts rest m t is kind) = takes_none m
simple_takes (H.assignment ts at mid after rest m t u r v is no_if target equal source) =
    takes_both (arguments_of_reference r) (arguments_of v) m (reference_marks r m) (expr_marks v (reference_marks r m))
    (reference_takes r m) (expr_takes v (reference_marks r m))
simple_takes (H.call ts after mid rest m t u word as' o named sp) = arguments_take as' m
simple_takes (H.return' ts after rest m t v o sp) = marks_if_take expr_marks arguments_of expr_takes v m
simple_takes (H.goto ts after rest m t u word o named) = takes_none m
simple_takes (H.stop ts rest m t o) = takes_none m
simple_takes (H.signal ts after rest m t c o sp) = takes_none m
simple_takes (H.revert ts after rest m t c o sp) = takes_none m
simple_takes (H.allocate ts after rest m m' t others o sp) = allocations_take sp
simple_takes (H.free ts after rest m t fs o sp) = freeings_take fs m
simple_takes (H.move d ts after mid rest m t k ps o options sp moves) =
    let skipped = skip_marks k m in
    moving_takes d k ps _ m (pairs_marks d ps skipped)
    (noted_then (total_of arguments_of_pair ps) m skipped (pairs_marks d ps skipped) (skip_takes k m)
    (pairs_take d ps skipped))

-- ---- heads

head_takes : {s : List ℕ} {ts rest : List Token} {m m' : Marks} {h : H.Head} → SpellsHead s ts m h rest m'
    → Takes (arguments_of_head h) m m'
head_takes (H.procedure ts after mid at rest m t u ns os o names options closed) =
    let named = parameters_marks 0 ns m in
    noted_then (total_of arguments_of_option os) m named (options_marks os named) (parameters_take 0 ns m)
    (options_take os named)
head_takes (H.declare ts after mid rest m t u ds o sp closed) = items_take ds m
head_takes (H.simple ts mid rest m m' u x sp closed) = simple_takes sp
head_takes (H.if_then ts after mid rest m t u e o sp closed) = expr_takes e m
head_takes (H.else' ts rest m t o) = takes_none m
head_takes (H.do_group ts after rest m t u o closed) = takes_none m
head_takes (H.do_while ts after mid at rest m t u v e o while sp closed) = expr_takes e m
head_takes (H.do_count ts after mid rest m m' t u c o sp closed) = counting_takes sp
head_takes (H.begin ts after rest m t u o closed) = takes_none m
head_takes (H.on ts after rest m t c o sp) = takes_none m
head_takes (H.system ts after rest m t u o closed) = takes_none m
head_takes (H.unnamed_end ts after rest m t u o closed) = takes_none m
head_takes (H.named_end ts after mid rest m t u v word o named closed) = takes_none m

head_parameters : {s : List ℕ} {ts rest : List Token} {m m' : Marks} {h : H.Head} → SpellsHead s ts m h rest m'
    → IsClean m' → length (parameters_of_head h) ≤ most_parameters
head_parameters (H.procedure ts after mid at rest m t u ns os o names options closed) c =
    let few = parameters_few 0 ns m (omega arith) (options_take os (parameters_marks 0 ns m) c).0 in
    omega (arith, few)
head_parameters _ c = omega arith

head_few : {s : List ℕ} {ts rest : List Token} {m' : Marks} {h : H.Head} (b u : ℕ) (r : Bool)
    → SpellsHead s ts no_marks h rest m' → IsClean m' → HasFew b u r h
head_few b u r sp c =
    let all = (head_takes sp c).1 in
    (omega (arith, all), head_parameters sp c)

-- a simple statement has what its head has
simple_few : {s : List ℕ} {ts rest : List Token} {m m' : Marks} {x : T.Stmt} (b u : ℕ) (r : Bool)
    → SpellsSimple s ts m x rest m' → HasFew b u r (H.Simple x) → StmtHas HasFew b u r x
simple_few b u r (H.move Getting ts after mid rest m t k ps o options sp moves) h = h
simple_few b u r (H.move Putting ts after mid rest m t k ps o options sp moves) h = h
simple_few b u r (H.null ts rest m t is kind) h = h
simple_few b u r (H.assignment ts at mid after rest m t u' x v is no_if target equal source) h = h
simple_few b u r (H.call ts after mid rest m t u' word as' o named sp) h = h
simple_few b u r (H.return' ts after rest m t v o sp) h = h
simple_few b u r (H.goto ts after rest m t u' word o named) h = h
simple_few b u r (H.stop ts rest m t o) h = h
simple_few b u r (H.signal ts after rest m t c o sp) h = h
simple_few b u r (H.revert ts after rest m t c o sp) h = h
simple_few b u r (H.allocate ts after rest m m' t others o sp) h = h
simple_few b u r (H.free ts after rest m t fs o sp) h = h

head_has : {s : List ℕ} {ts rest : List Token} {m m' : Marks} {h : H.Head} (b u : ℕ) (r : Bool)
    → SpellsHead s ts m h rest m' → HasFew b u r h → HeadHas HasFew b u r h
head_has b u r (H.simple ts mid rest m m' v x sp closed) h = simple_few b u r sp h
head_has b u r (H.procedure ts after mid at rest m t v ns os o names options closed) h = h
head_has b u r (H.declare ts after mid rest m t v ds o sp closed) h = h
head_has b u r (H.if_then ts after mid rest m t v e o sp closed) h = h
head_has b u r (H.else' ts rest m t o) h = h
head_has b u r (H.do_group ts after rest m t v o closed) h = h
head_has b u r (H.do_while ts after mid at rest m t v w e o while sp closed) h = h
head_has b u r (H.do_count ts after mid rest m m' t v c o sp closed) h = h
head_has b u r (H.begin ts after rest m t v o closed) h = h
head_has b u r (H.on ts after rest m t c o sp) h = h
head_has b u r (H.system ts after rest m t v o closed) h = h
head_has b u r (H.unnamed_end ts after rest m t v o closed) h = h
head_has b u r (H.named_end ts after mid rest m t v w word o named closed) h = h

-- ---- what is read

none_is : {X : Type 0} (x : X) (Q : Type 0) → None ≡ Some x → Q
none_is x Q e = absurd (cc e)

reads_few : {s : List ℕ} {n : Nest} {ts : List Token} {fs : List SourceFault} {found : Option T.Tree}
    → Reads s n ts fs found → fs ≡ [] → NestHas HasFew n → (tree : T.Tree) → found ≡ Some tree
    → ItemsHave HasFew 0 0 false tree.procedures
reads_few (P.all_read n done) e h tree g =
    subst (λ t. ItemsHave HasFew 0 0 false t.procedures) (same_some _ tree g)
    (items_have HasFew 0 0 false n.outer h.outer)
reads_few (P.head n n' ts mid rest ls h m fs found sl sh en more) e k tree g =
    let own = faults_of mid rest m in
    let around = settled n.frames in
    let nested = nest_faults around h in
    let clean = parentheses_clean 0 (before mid rest) m (first_empty own (nested ++ fs) e) in
    let few = head_few (blocks around) (units around) (may_return around) sh clean in
    let has = head_has (blocks around) (units around) (may_return around) sh few in
    reads_few more (second_empty nested fs (second_empty own (nested ++ fs) e))
    (subst (OptFine (NestHas HasFew)) en (entered_has HasFew n ls h has k)) tree g
reads_few (P.too_early n ts ls sl o) e k tree g = none_is tree _ g
reads_few (P.misplaced_head n ts mid rest ls h m t p sl sh en mi) e k tree g = none_is tree _ g
reads_few (P.left_out n ts mid rest ls m t sl lo) e k tree g = none_is tree _ g
reads_few (P.no_head n ts mid ls t p sl nh nl re) e k tree g = none_is tree _ g

pub arguments_kept : ArgumentsKept
arguments_kept s tokens tree h = reads_few h refl (record { outer = tt; frames = tt }) tree refl
