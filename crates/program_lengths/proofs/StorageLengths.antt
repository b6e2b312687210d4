-- ALLOCATE, FREE, GET and PUT come to no more words than their tokens allow, beside what aggregates take more.
use Rattle.std.proofs.Common.{ℕ, ◌+◌, ◌*◌, ◌≤◌, Bool, true, false, ◌||◌, List, [], ◌∷◌, Option, Some}
use Rattle.std.proofs.Common.{None, if◌then◌else◌, arith}
use Rattle.std.specs.Prelude.{⊤, is_some}
use Rattle.pli_language.specs.declared.expr.Place.{Place}
use Rattle.pli_language.specs.declared.scope.Found.{Found}
use Rattle.pli_language.specs.declared.scope.Found.TheVariants as F
use Rattle.pli_language.specs.declared.fault.SourceKind.TheVariants.{Undeclared}
use Rattle.pli_language.specs.Tree as T
use Rattle.pli_language.specs.Declarations.{Held, Block, What, Variable', Label, ProcedureName}
use Rattle.pli_language.specs.Declaring.{is_builtin, stands_alone, class_attributes}
use Rattle.pli_typing.specs.TypedTree as Y
use Rattle.pli_typing.specs.Judging.{Scope, Judged, fine, broken, each}
use Rattle.pli_typing.specs.Variables.{what_at, name_means, variable_meant, locator_name}
use Rattle.pli_typing.specs.Converting.{Designated, Referent, Designates, Gives, GivesUnknown, GivesEmptyArea}
use Rattle.pli_typing.specs.Converting.{GivesNothing, NotKnown, Operand, is_aggregate, scalar_type, operand_value}
use Rattle.pli_typing.specs.Assigning.{holds_fixed, get_designated, get_referent, get_item}
use Rattle.pli_typing.specs.Assigning.{put_scalar, put_aggregate, put_referent, put_item}
use Rattle.pli_typing.specs.Generations.{judged_if, target_with, target_or_mismatch, locator_target, set_target}
use Rattle.pli_typing.specs.Generations.{declared_target, based_target, target_given, Allocating, bad_allocation}
use Rattle.pli_typing.specs.Generations.{no_allocation, allocated_controlled, allocated_class}
use Rattle.pli_typing.specs.Generations.{allocated_what, allocated_found, allocation, in_area, pointer_to, freed_class}
use Rattle.pli_typing.specs.Generations.{freed_whole, freed_reference, freed_referent, freeing, target_or}
use Rattle.pli_typing.specs.References.{locator_found, expressions, referred}
use Rattle.pli_typing.specs.SingleStatements.{allocate_statement, free_statement, get_of, put_of, get_statement}
use Rattle.pli_typing.specs.SingleStatements.{put_statement}
use Rattle.code_sizes.specs.ExpressionSizes.{pointer_size, reference_size, locator_size}
use Rattle.code_sizes.specs.StoringSizes.{target_size, allocation_size, allocations_size, freeing_size, freeings_size}
use Rattle.code_sizes.specs.StreamSizes.{put_item_size, put_items_size, put_pairs_size, get_item_size, get_items_size}
use Rattle.code_sizes.specs.StreamSizes.{get_pairs_size}
use Rattle.code_sizes.specs.StatementSizes.{stmt_size}
use Rattle.tree_tokens.specs.TreeTokens.{expr_tokens, qualified_tokens, reference_tokens, further_tokens, tokens_if}
use Rattle.tree_tokens.specs.TreeTokens.{commas_before}
use Rattle.tree_tokens.specs.TreeTokens.{list_tokens, row_tokens, placed_tokens, allocation_tokens, freeing_tokens}
use Rattle.tree_tokens.specs.TreeTokens.{pair_tokens, moved_tokens}
use Rattle.well_formed_trees.proofs.Lists.{HoldsIf}
use Rattle.source_sizes.specs.Short.{Short, most_words}
use Rattle.source_sizes.proofs.Values.{short_more, OperandShort, operand_short}
use Rattle.source_sizes.proofs.Expressions.{IsPlain, plain_found, references_short, further_most}
use Rattle.program_lengths.specs.StatementLengths.{get_item_beside, get_items_beside, get_pairs_beside}
use Rattle.program_lengths.specs.StatementLengths.{put_item_beside, put_items_beside, put_pairs_beside, stmt_beside}
use Rattle.program_lengths.proofs.SingleLengths.{spelled_operand, record_most, computed_within}

-- ---- ALLOCATE, with the words of its locator

abbrev TargetWithin : (words : ℕ) → Y.LocatorTarget → Type 0
TargetWithin w t = target_size t ≤ w + 26

type_within : (w : ℕ) (r : Y.Reference) (t : Option Y.LeafType) → reference_size r ≤ w
    → HoldsIf (TargetWithin w) (target_with r t)
type_within w r (Some Y.PointerLeaf) h = omega (arith, h)
type_within w r (Some (Y.OffsetLeaf (Some area))) h = omega (arith, h)
type_within w r (Some (Y.OffsetLeaf None)) h = tt
type_within w r (Some (Y.FixedLeaf p)) h = tt
type_within w r (Some (Y.CharacterLeaf n)) h = tt
type_within w r (Some (Y.VaryingLeaf n)) h = tt
type_within w r (Some Y.BitLeaf) h = tt
type_within w r (Some (Y.AreaLeaf n)) h = tt
type_within w r None h = tt

or_within : (w : ℕ) → 62 ≤ w → (place : Place) (t : Option Y.LocatorTarget) → HoldsIf (TargetWithin w) t
    → TargetWithin w (target_or_mismatch place t).value
or_within w l place None h = omega (arith, l)
or_within w l place (Some t) h = h

set_within : (w : ℕ) → 62 ≤ w → (place : Place) (r : Referent) → Short (w + 16) r
    → TargetWithin w (locator_target place r).value
set_within w l place (Designates d) h =
    or_within w l place (target_with d.reference (scalar_type d))
    (type_within w d.reference (scalar_type d) (omega (arith, h)))
set_within w l place (Gives v) h = omega (arith, l)
set_within w l place GivesUnknown h = omega (arith, l)
set_within w l place GivesEmptyArea h = omega (arith, l)
set_within w l place GivesNothing h = omega (arith, l)
set_within w l place NotKnown h = omega (arith, l)

-- the locator in SET, which has four tokens at least
set_short : (scope : Scope) (r : Option T.Reference)
    → HoldsIf (TargetWithin (104 * tokens_if placed_tokens r + 62)) (judged_if (set_target scope) r).value
set_short scope None = tt
set_short scope (Some r) =
    let o = (referred scope r).value in
    let w = 104 * reference_tokens r + 62 in
    let words = set_within w (omega arith) o.place o.referent
    (short_more (most_words (reference_tokens r)) (w + 16) (omega arith) o.referent (references_short scope r)) in
    omega (arith, words)

given_or_within : (w : ℕ) → 62 ≤ w → (t : Option Y.LocatorTarget) → HoldsIf (TargetWithin w) t
    → TargetWithin w (target_or t)
given_or_within w l None h = omega (arith, l)
given_or_within w l (Some t) h = h

-- the locator that the declaration names
declared_within : (w : ℕ) → 62 ≤ w → (o : Option Designated) → HoldsIf IsPlain o → TargetWithin w (declared_target o)
declared_within w l None h = omega (arith, l)
declared_within w l (Some d) h =
    given_or_within w l (target_with d.reference (scalar_type d))
    (type_within w d.reference (scalar_type d) (omega (arith, l, h)))

based_within : (w : ℕ) → 62 ≤ w → (blocks : List Block) (b : ℕ) (place : Place) (name : Option T.Name)
    → TargetWithin w (based_target blocks b place name).value
based_within w l blocks b place None = omega (arith, l)
based_within w l blocks b place (Some name) =
    let f = name_means blocks b name in
    declared_within w l (locator_found blocks f) (plain_found blocks f)

target_within : (w : ℕ) → 62 ≤ w → (blocks : List Block) (b : ℕ) (h : Held) (place : Place)
    (t : Option Y.LocatorTarget) → HoldsIf (TargetWithin w) t
    → TargetWithin w (target_given blocks b h place t).value
target_within w l blocks b h place (Some t) k = k
target_within w l blocks b h place None k = based_within w l blocks b place (locator_name (class_attributes h))

abbrev AllocationWithin : (words : ℕ) → Y.Allocation → Type 0
AllocationWithin w a = allocation_size a ≤ w + 82

none_within : (w : ℕ) → 35 ≤ w + 82
none_within w = omega arith

controlled_within : (w : ℕ) (v : Y.Variable) (a : Allocating)
    → AllocationWithin w (allocated_controlled v a).value
controlled_within w v a = by (is_some a.area || is_some a.target) where
  by : (b : Bool) → AllocationWithin w (if b then bad_allocation a else fine (Y.AllocateControlled v)).value
  by true = none_within w
  by false = none_within w

class_within : (w : ℕ) → 62 ≤ w → (blocks : List Block) (b : ℕ) (h : Held) (class : Y.StorageClass) (a : Allocating)
    → HoldsIf (TargetWithin w) a.target → AllocationWithin w (allocated_class blocks b h class a).value
class_within w l blocks b h Y.BasedClass a k =
    let t = target_within w l blocks b h a.name.place a.target k in
    omega (arith, t)
class_within w l blocks b h Y.ControlledClass a k = controlled_within w (variable_meant blocks b h) a
class_within w l blocks b h Y.AutomaticClass a k = none_within w
class_within w l blocks b h Y.ParameterClass a k = none_within w
class_within w l blocks b h Y.StaticClass a k = none_within w

what_within : (w : ℕ) → 62 ≤ w → (blocks : List Block) (b : ℕ) (o : Option What) (a : Allocating)
    → HoldsIf (TargetWithin w) a.target → AllocationWithin w (allocated_what blocks b o a).value
what_within w l blocks b None a k = none_within w
what_within w l blocks b (Some Label) a k = none_within w
what_within w l blocks b (Some (ProcedureName head)) a k = none_within w
what_within w l blocks b (Some (Variable' h)) a k = by (stands_alone h) where
  by : (x : Bool) → AllocationWithin w
      (if x then allocated_class blocks b h (variable_meant blocks b h).class a else bad_allocation a).value
  by true = class_within w l blocks b h (variable_meant blocks b h).class a k
  by false = none_within w

found_within : (w : ℕ) → 62 ≤ w → (blocks : List Block) (f : Found) (a : Allocating)
    → HoldsIf (TargetWithin w) a.target → AllocationWithin w (allocated_found blocks f a).value
found_within w l blocks (F.One at) a k = what_within w l blocks at.block (what_at blocks at) a k
found_within w l blocks F.None a k = by (is_builtin a.name.word) where
  by : (x : Bool) → AllocationWithin w
      (if x then bad_allocation a else broken a.name.place Undeclared no_allocation).value
  by true = none_within w
  by false = none_within w
found_within w l blocks F.Ambiguous a k = none_within w

allocation_within : (scope : Scope) (place : Place) (a : T.Allocation)
    → allocation_size (allocation scope place a).value ≤ 104 * allocation_tokens a + 40
allocation_within scope place a =
    let words = found_within (104 * tokens_if placed_tokens a.locator + 62) (omega arith) scope.blocks
    (name_means scope.blocks scope.block a.variable)
    (record {
      place = place;
      name = a.variable;
      area = (judged_if (in_area scope) a.area).value;
      target = (judged_if (set_target scope) a.locator).value;
    }) (set_short scope a.locator) in
    omega (arith, words)

further_allocations : (scope : Scope) (place : Place) (as' : List T.Allocation)
    → allocations_size (each (allocation scope place) as').value ≤ 104 * commas_before allocation_tokens as'
further_allocations scope place [] = omega arith
further_allocations scope place (a ∷ as') =
    let one = allocation_within scope place a in
    let more = further_allocations scope place as' in
    omega (arith, one, more)

pub allocate_within : (p : Y.Program) (scope : Scope) (as' : List T.Allocation) (place : Place)
    → stmt_size p (allocate_statement scope as' place).value
    ≤ 104 * (2 + list_tokens allocation_tokens as')
allocate_within p scope [] place = omega arith
allocate_within p scope (a ∷ as') place =
    let one = allocation_within scope place a in
    let more = further_allocations scope place as' in
    omega (arith, one, more)

-- ---- FREE

locator_most : (w : ℕ) → 12 ≤ w → (l : Y.Locator) → locator_size l ≤ w → pointer_size (pointer_to l) ≤ w
locator_most w m Y.NotLocated h = m
locator_most w m (Y.LocatedBy p) h = h

freed_class_within : (w : ℕ) → 12 ≤ w → (place : Place) (v : Y.Variable) (class : Y.StorageClass) (l : Y.Locator)
    (area : Option Y.Variable) → locator_size l ≤ w
    → freeing_size (freed_class place v class l area).value ≤ w + 25
freed_class_within w m place v Y.BasedClass l area h = let p = locator_most w m l h in omega (arith, p)
freed_class_within w m place v Y.ControlledClass l None h = omega arith
freed_class_within w m place v Y.ControlledClass l (Some area) h = omega arith
freed_class_within w m place v Y.AutomaticClass l area h = omega arith
freed_class_within w m place v Y.ParameterClass l area h = omega arith
freed_class_within w m place v Y.StaticClass l area h = omega arith

whole_within : (w : ℕ) → 4 ≤ w → (place reference_place : Place) (b : Bool) (j : Judged Y.Freeing)
    → freeing_size j.value ≤ w → freeing_size (freed_whole place reference_place b j).value ≤ w
whole_within w l place reference_place true j h = h
whole_within w l place reference_place false j h = omega (arith, l)

freed_reference_within : (w : ℕ) → 12 ≤ w → (place : Place) (r : Y.Reference) (area : Option Y.Variable)
    → reference_size r ≤ w + 62 → freeing_size (freed_reference place r area).value ≤ w + 25
freed_reference_within w m place (Y.Referring v l part subscripts) area h =
    freed_class_within w m place v v.class l area (omega (arith, h))

freed_within : (w : ℕ) → 12 ≤ w → (place reference_place : Place) (r : Referent) (area : Option Y.Variable)
    → Short (w + 78) r → freeing_size (freed_referent place reference_place r area).value ≤ w + 25
freed_within w m place reference_place (Designates d) area h =
    whole_within (w + 25) (omega arith) place reference_place d.is_whole (freed_reference place d.reference area)
    (freed_reference_within w m place d.reference area (omega (arith, h)))
freed_within w m place reference_place (Gives v) area h = omega arith
freed_within w m place reference_place GivesUnknown area h = omega arith
freed_within w m place reference_place GivesEmptyArea area h = omega arith
freed_within w m place reference_place GivesNothing area h = omega arith
freed_within w m place reference_place NotKnown area h = omega arith

freeing_within : (scope : Scope) (place : Place) (f : T.Freeing)
    → freeing_size (freeing scope place f).value ≤ 104 * freeing_tokens f + 37
freeing_within scope place f =
    let o = (referred scope f.generation).value in
    let w = 104 * reference_tokens f.generation + 12 in
    let words = freed_within w (omega arith) place o.place o.referent (judged_if (in_area scope) f.area).value
    (short_more (most_words (reference_tokens f.generation)) (w + 78) (omega arith) o.referent
    (references_short scope f.generation)) in
    omega (arith, words)

further_freeings : (scope : Scope) (place : Place) (fs : List T.Freeing)
    → freeings_size (each (freeing scope place) fs).value ≤ 104 * commas_before freeing_tokens fs
further_freeings scope place [] = omega arith
further_freeings scope place (f ∷ fs) =
    let one = freeing_within scope place f in
    let more = further_freeings scope place fs in
    omega (arith, one, more)

pub free_within : (p : Y.Program) (scope : Scope) (fs : List T.Freeing) (place : Place)
    → stmt_size p (free_statement scope fs place).value ≤ 104 * (2 + list_tokens freeing_tokens fs)
free_within p scope [] place = omega arith
free_within p scope (f ∷ fs) place =
    let one = freeing_within scope place f in
    let more = further_freeings scope place fs in
    omega (arith, one, more)

-- ---- items of GET and PUT, each with a comma or a parenthesis behind it

-- a list with so many words for each of its items
abbrev pub ItemsShort : (words : ℕ) → List Operand → Type 0
ItemsShort w [] = ⊤
ItemsShort w (o ∷ os) =
    (b : ℕ) × ((rest : ℕ) × (OperandShort b o × ((157 ≤ b) × (ItemsShort rest os × (b + 51 + rest ≤ w)))))

qualified_least : (q : T.Qualified) → 1 ≤ qualified_tokens q
qualified_least (T.Last name a) = omega arith
qualified_least (T.Of name a q) = omega arith

reference_least : (r : T.Reference) → 1 ≤ reference_tokens r
reference_least (T.Plain q) = qualified_least q
reference_least (T.Located l q) = omega arith

expr_least : (e : T.Expr) → 1 ≤ expr_tokens e
expr_least (T.Number n place) = omega arith
expr_least (T.Text t place) = omega arith
expr_least (T.Bit b place) = omega arith
expr_least (T.Parenthesized e place) = omega arith
expr_least (T.Prefix op e place) = omega arith
expr_least (T.Infix op l r) = omega arith
expr_least (T.Refers r) = reference_least r

items_short : (scope : Scope) (es : T.Exprs) → ItemsShort (104 * further_tokens es) (expressions scope es).value
unfolding expressions
items_short scope T.NoExpr = tt
items_short scope (T.ExprThen e es) =
    let least = expr_least e in (
      most_words (expr_tokens e),
      (
        104 * further_tokens es,
        (spelled_operand scope e, (omega (arith, least), (items_short scope es, omega arith))),
      ),
    )

get_designated_within : (w : ℕ) → 157 ≤ w → (d : Designated) → reference_size d.reference + 16 ≤ w
    → get_item_size (get_designated d) ≤ w + (51 + get_item_beside (get_designated d))
get_designated_within w l d h = by (is_aggregate d) where
  by : (b : Bool)
      → get_item_size (if b then Y.GetAggregate d.reference else Y.GetScalar d.reference)
      ≤ w + (51 + get_item_beside (if b then Y.GetAggregate d.reference else Y.GetScalar d.reference))
  by true = let filled = record_most d.reference in omega (arith, h, l, filled)
  by false = omega (arith, h)

get_within : (w : ℕ) → 157 ≤ w → (b : Bool) (place : Place) (r : Referent) → Short w r
    → get_item_size (get_referent b place r).value ≤ w + (51 + get_item_beside (get_referent b place r).value)
get_within w l b place (Designates d) h = get_designated_within w l d h
get_within w l b place (Gives v) h = omega (arith, l)
get_within w l b place GivesUnknown h = omega (arith, l)
get_within w l b place GivesEmptyArea h = omega (arith, l)
get_within w l b place GivesNothing h = omega (arith, l)
get_within w l b place NotKnown h = omega (arith, l)

gets_within : (w : ℕ) (b : Bool) (os : List Operand) → ItemsShort w os
    → get_items_size (each (get_item b) os).value ≤ w + get_items_beside (each (get_item b) os).value
gets_within w b [] h = omega arith
gets_within w b (o ∷ os) q =
    let x = q.0 in
    let rest = q.1.0 in
    let one = get_within x q.1.1.1.0 b o.place o.referent q.1.1.0.1 in
    let more = gets_within rest b os q.1.1.1.1.0 in
    let most = q.1.1.1.1.1 in
    omega (arith, one, more, most)

put_scalar_within : (w : ℕ) (o : Operand) → OperandShort w o
    → put_item_size (put_scalar o).value ≤ w + (51 + put_item_beside (put_scalar o).value)
put_scalar_within w o h =
    let v = computed_within w o.place (operand_value o).value (operand_short w o h) in
    omega (arith, v)

put_within : (w : ℕ) → 157 ≤ w → (o : Operand) → OperandShort w o → (r : Referent) → Short w r
    → put_item_size (put_referent o r).value ≤ w + (51 + put_item_beside (put_referent o r).value)
put_within w l o h (Designates d) k = by (is_aggregate d) where
  by : (b : Bool) → put_item_size (if b then put_aggregate o.place d else put_scalar o).value
      ≤ w + (51 + put_item_beside (if b then put_aggregate o.place d else put_scalar o).value)
  by true = let filled = record_most d.reference in omega (arith, k, l, filled)
  by false = put_scalar_within w o h
put_within w l o h (Gives v) k = put_scalar_within w o h
put_within w l o h GivesUnknown k = put_scalar_within w o h
put_within w l o h GivesEmptyArea k = put_scalar_within w o h
put_within w l o h GivesNothing k = put_scalar_within w o h
put_within w l o h NotKnown k = put_scalar_within w o h

puts_within : (w : ℕ) (os : List Operand) → ItemsShort w os
    → put_items_size (each put_item os).value ≤ w + put_items_beside (each put_item os).value
puts_within w [] h = omega arith
puts_within w (o ∷ os) q =
    let x = q.0 in
    let rest = q.1.0 in
    let one = put_within x q.1.1.1.0 o q.1.1.0 o.referent q.1.1.0.1 in
    let more = puts_within rest os q.1.1.1.1.0 in
    let most = q.1.1.1.1.1 in
    omega (arith, one, more, most)

get_pairs_within : (scope : Scope) (ps : List T.EditPair)
    → get_pairs_size (each (get_of scope) ps).value
    ≤ 104 * row_tokens pair_tokens ps + (2 + get_pairs_beside (each (get_of scope) ps).value)
get_pairs_within scope [] = omega arith
get_pairs_within scope (p ∷ ps) =
    let one = gets_within (104 * further_tokens p.items) (holds_fixed p.formats) (expressions scope p.items).value
    (items_short scope p.items) in
    let commas = further_most p.items in
    let more = get_pairs_within scope ps in
    omega (arith, one, commas, more)

put_pairs_within : (scope : Scope) (ps : List T.EditPair)
    → put_pairs_size (each (put_of scope) ps).value
    ≤ 104 * row_tokens pair_tokens ps + put_pairs_beside (each (put_of scope) ps).value
put_pairs_within scope [] = omega arith
put_pairs_within scope (p ∷ ps) =
    let one = puts_within (104 * further_tokens p.items) (expressions scope p.items).value
    (items_short scope p.items) in
    let commas = further_most p.items in
    let more = put_pairs_within scope ps in
    omega (arith, one, commas, more)

pub get_statement_within : (p : Y.Program) (scope : Scope) (skip : Option T.Skip) (ps : List T.EditPair)
    (place : Place)
    → stmt_size p (get_statement scope skip ps place).value
    ≤ 104 * moved_tokens skip ps + stmt_beside (get_statement scope skip ps place).value
get_statement_within p scope skip [] place = omega arith
get_statement_within p scope skip (q ∷ ps) place =
    let words = get_pairs_within scope (q ∷ ps) in omega (arith, words)

pub put_statement_within : (p : Y.Program) (scope : Scope) (skip : Option T.Skip) (ps : List T.EditPair)
    (place : Place)
    → stmt_size p (put_statement scope skip ps place).value
    ≤ 104 * moved_tokens skip ps + stmt_beside (put_statement scope skip ps place).value
put_statement_within p scope skip [] place = omega arith
put_statement_within p scope skip (q ∷ ps) place =
    let words = put_pairs_within scope (q ∷ ps) in omega (arith, words)
