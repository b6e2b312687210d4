-- Marks without a refusal had as much more room before as arguments were marked since.
use Rattle.std.proofs.Common.{◌≡◌, ℕ, zero, suc, ◌+◌, ◌≤◌, Bool, true, false, not, List, [], ◌∷◌, length, Option, Some}
use Rattle.std.proofs.Common.{None, refl, arith}
use Rattle.std.specs.Prelude.{nat_le}
use Rattle.std.proofs.lemmas.Bool.Decides.{nat_tests}
use Rattle.pli_language.specs.declared.expr.Place.{Place}
use Rattle.pli_language.specs.declared.fault.SourceKind.{SourceKind}
use Rattle.pli_language.specs.declared.fault.SourceKind.TheVariants.{BadFormat, TooLarge}
use Rattle.pli_language.specs.Attributes.{bound_marks, bound_place, bounds_marks, size_marks}
use Rattle.pli_language.specs.Attributes.{attribute_marks, attributes_marks, declared_names_marks, declare_item_marks}
use Rattle.pli_language.specs.Attributes.{declare_items_marks, most_dimensions}
use Rattle.pli_language.specs.Formats.{Direction, Getting, Putting, is_times, text_marks, width_marks, times_marks}
use Rattle.pli_language.specs.Formats.{format_marks, formats_marks, formats_move_data, pair_marks, pairs_marks}
use Rattle.pli_language.specs.Formats.{skip_marks, is_width}
use Rattle.pli_language.specs.Heads.{most_parameters, parameters_marks, option_marks, options_marks, marks_if}
use Rattle.pli_language.specs.Heads.{freeing_marks, freeings_marks}
use Rattle.pli_language.specs.Marks.{Marks, fault_at, note_if, argument_noted, argument, first_place, expr_marks}
use Rattle.pli_language.specs.Marks.{reference_marks, qualified_marks, arguments_marks, argument_list_marks}
use Rattle.pli_language.specs.Marks.{exprs_marks}
use Rattle.pli_language.specs.Tree as T
use Rattle.well_formed_trees.specs.Counted.{arguments_of, arguments_of_reference, arguments_of_qualified, arguments_in}
use Rattle.well_formed_trees.specs.Counted.{arguments_listed, arguments_of_all, count_if, total_of, arguments_of_bound}
use Rattle.well_formed_trees.specs.Counted.{arguments_of_size, arguments_of_attribute, arguments_of_item}
use Rattle.well_formed_trees.specs.Counted.{arguments_of_option, arguments_of_freeing, arguments_of_pair}
use Rattle.well_formed_trees.proofs.Lists.{second_empty}
use Rattle.well_formed_trees.proofs.MarksClean.{IsClean, note_clean}

-- so many places are taken between these marks
abbrev pub Takes : ℕ → Marks → Marks → Type 0
Takes n m m' = IsClean m' → IsClean m × (m.room ≡ n + m'.room)

pub takes_none : (m : Marks) → Takes 0 m m
takes_none m c = (c, omega arith)

pub takes_both : (a b : ℕ) (m m' m'' : Marks) → Takes a m m' → Takes b m' m'' → Takes (a + b) m m''
takes_both a b m m' m'' h k c =
    let later = k c in
    let first = h later.0 in
    let x = first.1 in
    let y = later.1 in
    (first.0, omega (arith, x, y))

-- what is noted takes none
pub note_takes : (b : Bool) (p : Place) (k : SourceKind) (m : Marks) → Takes 0 m (note_if b p k m)
note_takes false p k m c = (c, omega arith)
note_takes true p k m c = absurd (cc (second_empty m.faults (fault_at p k ∷ []) c))

argument_takes : (p : Place) (m : Marks) → Takes 1 m (argument p m)
argument_takes p m = by m.room refl where
  by : (n : ℕ) → m.room ≡ n → IsClean (argument_noted n p m) → IsClean m × (m.room ≡ 1 + (argument_noted n p m).room)
  by zero e c = absurd (cc (second_empty m.faults (fault_at p TooLarge ∷ []) c))
  by (suc n) e c = (c, omega (arith, e))

-- ---- expressions

mutual
  unfolding expr_marks reference_marks qualified_marks arguments_marks argument_list_marks

  pub expr_takes : (e : T.Expr) (m : Marks) → Takes (arguments_of e) m (expr_marks e m)
  expr_takes (T.Number v p) m = takes_none m
  expr_takes (T.Text v p) m = takes_none m
  expr_takes (T.Bit v p) m = takes_none m
  expr_takes (T.Parenthesized e p) m = expr_takes e m
  expr_takes (T.Prefix op e p) m = expr_takes e m
  expr_takes (T.Infix op l r) m =
      takes_both (arguments_of l) (arguments_of r) m (expr_marks l m) (expr_marks r (expr_marks l m)) (expr_takes l m)
      (expr_takes r (expr_marks l m))
  expr_takes (T.Refers r) m = reference_takes r m

  pub reference_takes : (r : T.Reference) (m : Marks) → Takes (arguments_of_reference r) m (reference_marks r m)
  reference_takes (T.Plain q) m = qualified_takes q m
  reference_takes (T.Located r q) m =
      takes_both (arguments_of_reference r) (arguments_of_qualified q) m (reference_marks r m)
      (qualified_marks q (reference_marks r m)) (reference_takes r m) (qualified_takes q (reference_marks r m))

  qualified_takes : (q : T.Qualified) (m : Marks) → Takes (arguments_of_qualified q) m (qualified_marks q m)
  qualified_takes (T.Last n a) m = arguments_take a m
  qualified_takes (T.Of n a q) m =
      takes_both (arguments_in a) (arguments_of_qualified q) m (arguments_marks a m)
      (qualified_marks q (arguments_marks a m)) (arguments_take a m) (qualified_takes q (arguments_marks a m))

  pub arguments_take : (a : T.Arguments) (m : Marks) → Takes (arguments_in a) m (arguments_marks a m)
  arguments_take T.Absent m = takes_none m
  arguments_take (T.Listed es) m = list_takes es m

  list_takes : (es : T.Exprs) (m : Marks) → Takes (arguments_listed es) m (argument_list_marks es m)
  list_takes T.NoExpr m = takes_none m
  list_takes (T.ExprThen e es) m =
      let noted = argument (first_place e) m in
      takes_both (1 + arguments_of e) (arguments_listed es) m (expr_marks e noted)
      (argument_list_marks es (expr_marks e noted))
      (takes_both 1 (arguments_of e) m noted (expr_marks e noted) (argument_takes (first_place e) m)
      (expr_takes e noted)) (list_takes es (expr_marks e noted))

exprs_take : (es : T.Exprs) (m : Marks) → Takes (arguments_of_all es) m (exprs_marks es m)
unfolding exprs_marks
exprs_take T.NoExpr m = takes_none m
exprs_take (T.ExprThen e es) m =
    takes_both (arguments_of e) (arguments_of_all es) m (expr_marks e m) (exprs_marks es (expr_marks e m))
    (expr_takes e m) (exprs_take es (expr_marks e m))

pub marks_if_take : {X : Type 0} (f : X → Marks → Marks) (n : X → ℕ)
    → ((x : X) (m : Marks) → Takes (n x) m (f x m)) → (o : Option X) (m : Marks)
    → Takes (count_if n o) m (marks_if f o m)
marks_if_take f n h None m = takes_none m
marks_if_take f n h (Some x) m = h x m

-- ---- declarations

bound_takes : (b : T.Bound) (m : Marks) → Takes (arguments_of_bound b) m (bound_marks b m)
bound_takes (T.StarBound p) m = takes_none m
bound_takes (T.Upper u) m = expr_takes u.value m
bound_takes (T.Both l u) m =
    takes_both (arguments_of l.value) (arguments_of u.value) m (expr_marks l.value m)
    (expr_marks u.value (expr_marks l.value m)) (expr_takes l.value m) (expr_takes u.value (expr_marks l.value m))

-- a mark that takes none, before one that takes some
pub noted_then : (n : ℕ) (m m' m'' : Marks) → Takes 0 m m' → Takes n m' m'' → Takes n m m''
noted_then n m m' m'' h k c =
    let later = k c in
    let first = h later.0 in
    let x = first.1 in
    let y = later.1 in
    (first.0, omega (arith, x, y))

bounds_take : (before : ℕ) (bs : List T.Bound) (m : Marks)
    → Takes (total_of arguments_of_bound bs) m (bounds_marks before bs m)
bounds_take before [] m = takes_none m
bounds_take before (b ∷ bs) m =
    let noted = note_if (nat_le most_dimensions before) (bound_place b) TooLarge m in
    takes_both (arguments_of_bound b) (total_of arguments_of_bound bs) m (bound_marks b noted)
    (bounds_marks (suc before) bs (bound_marks b noted))
    (noted_then (arguments_of_bound b) m noted (bound_marks b noted)
    (note_takes (nat_le most_dimensions before) (bound_place b) TooLarge m) (bound_takes b noted))
    (bounds_take (suc before) bs (bound_marks b noted))

size_takes : (size : Option T.Size) (m : Marks) → Takes (count_if arguments_of_size size) m (size_marks size m)
size_takes None m = takes_none m
size_takes (Some (T.StarSize p)) m = takes_none m
size_takes (Some (T.Given e)) m = expr_takes e.value m

attribute_takes : (a : T.Attribute) (m : Marks) → Takes (arguments_of_attribute a) m (attribute_marks a m)
attribute_takes (T.Character size) m = size_takes size m
attribute_takes (T.Area size) m = size_takes size m
attribute_takes _ m = takes_none m

attributes_take : (all : List T.Attribute) (m : Marks)
    → Takes (total_of arguments_of_attribute all) m (attributes_marks all m)
attributes_take [] m = takes_none m
attributes_take (a ∷ all) m =
    takes_both (arguments_of_attribute a) (total_of arguments_of_attribute all) m (attribute_marks a m)
    (attributes_marks all (attribute_marks a m)) (attribute_takes a m) (attributes_take all (attribute_marks a m))

names_take : (ds : List T.DeclaredName) (m : Marks)
    → Takes (total_of (λ n. total_of arguments_of_bound n.dimensions) ds) m (declared_names_marks ds m)
names_take [] m = takes_none m
names_take (d ∷ ds) m =
    takes_both (total_of arguments_of_bound d.dimensions) (total_of (λ n. total_of arguments_of_bound n.dimensions) ds)
    m (bounds_marks 0 d.dimensions m) (declared_names_marks ds (bounds_marks 0 d.dimensions m))
    (bounds_take 0 d.dimensions m) (names_take ds (bounds_marks 0 d.dimensions m))

item_takes : (d : T.DeclareItem) (m : Marks) → Takes (arguments_of_item d) m (declare_item_marks d m)
item_takes d m =
    let names = total_of (λ n. total_of arguments_of_bound n.dimensions) d.names in
    let bounds = total_of arguments_of_bound d.dimensions in
    let named = declared_names_marks d.names m in
    let bounded = bounds_marks 0 d.dimensions named in
    takes_both (names + bounds) (total_of arguments_of_attribute d.attributes) m bounded
    (attributes_marks d.attributes bounded)
    (takes_both names bounds m named bounded (names_take d.names m) (bounds_take 0 d.dimensions named))
    (attributes_take d.attributes bounded)

pub items_take : (ds : List T.DeclareItem) (m : Marks)
    → Takes (total_of arguments_of_item ds) m (declare_items_marks ds m)
items_take [] m = takes_none m
items_take (d ∷ ds) m =
    takes_both (arguments_of_item d) (total_of arguments_of_item ds) m (declare_item_marks d m)
    (declare_items_marks ds (declare_item_marks d m)) (item_takes d m) (items_take ds (declare_item_marks d m))

option_takes : (o : T.ProcedureOption) (m : Marks) → Takes (arguments_of_option o) m (option_marks o m)
option_takes T.Main m = takes_none m
option_takes T.Recursive m = takes_none m
option_takes (T.Returns attributes) m = attributes_take attributes m

pub options_take : (os : List T.ProcedureOption) (m : Marks)
    → Takes (total_of arguments_of_option os) m (options_marks os m)
options_take [] m = takes_none m
options_take (o ∷ os) m =
    takes_both (arguments_of_option o) (total_of arguments_of_option os) m (option_marks o m)
    (options_marks os (option_marks o m)) (option_takes o m) (options_take os (option_marks o m))

-- ---- parameters

parameters_clean : (before : ℕ) (ns : List T.Name) (m : Marks) → IsClean (parameters_marks before ns m) → IsClean m
parameters_clean before [] m c = c
parameters_clean before (n ∷ ns) m c =
    let noted = note_if (nat_le most_parameters before) n.place TooLarge m in
    (note_clean (nat_le most_parameters before) n.place TooLarge m (parameters_clean (suc before) ns noted c)).1

pub parameters_take : (before : ℕ) (ns : List T.Name) (m : Marks) → Takes 0 m (parameters_marks before ns m)
parameters_take before [] m = takes_none m
parameters_take before (n ∷ ns) m =
    let noted = note_if (nat_le most_parameters before) n.place TooLarge m in
    noted_then 0 m noted (parameters_marks (suc before) ns noted)
    (note_takes (nat_le most_parameters before) n.place TooLarge m) (parameters_take (suc before) ns noted)

-- with those before them, no more than the limit
pub parameters_few : (before : ℕ) (ns : List T.Name) (m : Marks) → before ≤ most_parameters
    → IsClean (parameters_marks before ns m) → before + length ns ≤ most_parameters
parameters_few before [] m l c = omega (arith, l)
parameters_few before (n ∷ ns) m l c =
    let noted = note_if (nat_le most_parameters before) n.place TooLarge m in
    let clean = parameters_clean (suc before) ns noted c in
    let room = fewer (note_clean (nat_le most_parameters before) n.place TooLarge m clean).0 in
    let k = parameters_few (suc before) ns noted room c in
    omega (arith, k) where
      fewer : nat_le most_parameters before ≡ false → suc before ≤ most_parameters
      fewer e = grind (arith, nat_tests)

-- ---- statements

freeing_takes : (f : T.Freeing) (m : Marks) → Takes (arguments_of_freeing f) m (freeing_marks f m)
freeing_takes f m =
    let generation = reference_marks f.generation m in
    takes_both (arguments_of_reference f.generation) (count_if arguments_of_reference f.area) m generation
    (marks_if reference_marks f.area generation) (reference_takes f.generation m)
    (marks_if_take reference_marks arguments_of_reference reference_takes f.area generation)

pub freeings_take : (fs : List T.Freeing) (m : Marks)
    → Takes (total_of arguments_of_freeing fs) m (freeings_marks fs m)
freeings_take [] m = takes_none m
freeings_take (f ∷ fs) m =
    takes_both (arguments_of_freeing f) (total_of arguments_of_freeing fs) m (freeing_marks f m)
    (freeings_marks fs (freeing_marks f m)) (freeing_takes f m) (freeings_take fs (freeing_marks f m))

-- ---- GET and PUT

width_takes : (n : ℕ) (p : Place) (m : Marks) → Takes 0 m (width_marks n p m)
width_takes n p m = note_takes (not (is_width n)) p BadFormat m

times_take : (n : ℕ) (p : Place) (m : Marks) → Takes 0 m (times_marks n p m)
times_take n p m = note_takes (not (is_times n)) p BadFormat m

text_takes : (d : Direction) (w : Option ℕ) (p : Place) (m : Marks) → Takes 0 m (text_marks d w p m)
text_takes d (Some w) p m = width_takes w p m
text_takes Getting None p m = note_takes true p BadFormat m
text_takes Putting None p m = takes_none m

mutual
  unfolding format_marks formats_marks

  format_takes : (d : Direction) (f : T.Format) (p : Place) (m : Marks) → Takes 0 m (format_marks d f p m)
  format_takes d (T.FormatList fs) p m = formats_take d fs m
  format_takes d (T.FixedFormat w) p m = width_takes w p m
  format_takes d (T.TextFormat w) p m = text_takes d w p m
  format_takes d (T.SpaceFormat n) p m = times_take n p m
  format_takes d (T.SkipFormat n) p m = times_take n p m
  format_takes d (T.ColumnFormat n) p m = times_take n p m

  formats_take : (d : Direction) (fs : T.Formats) (m : Marks) → Takes 0 m (formats_marks d fs m)
  formats_take d T.NoFormat m = takes_none m
  formats_take d (T.FormatThen p n f fs) m =
      let repeated = times_marks n p m in
      let first = format_marks d f p repeated in
      noted_then 0 m repeated (formats_marks d fs first) (times_take n p m)
      (noted_then 0 repeated first (formats_marks d fs first) (format_takes d f p repeated) (formats_take d fs first))

-- a mark that takes some, before one that takes none
then_noted : (n : ℕ) (m m' m'' : Marks) → Takes n m m' → Takes 0 m' m'' → Takes n m m''
then_noted n m m' m'' h k c =
    let later = k c in
    let first = h later.0 in
    let x = first.1 in
    let y = later.1 in
    (first.0, omega (arith, x, y))

pair_takes : (d : Direction) (p : T.EditPair) (m : Marks) → Takes (arguments_of_pair p) m (pair_marks d p m)
pair_takes d p m =
    let items = exprs_marks p.items m in
    let formats = formats_marks d p.formats items in
    then_noted (arguments_of_pair p) m formats (pair_marks d p m)
    (then_noted (arguments_of_pair p) m items formats (exprs_take p.items m) (formats_take d p.formats items))
    (note_takes (not (formats_move_data p.formats)) p.place BadFormat formats)

pub pairs_take : (d : Direction) (ps : List T.EditPair) (m : Marks)
    → Takes (total_of arguments_of_pair ps) m (pairs_marks d ps m)
pairs_take d [] m = takes_none m
pairs_take d (p ∷ ps) m =
    takes_both (arguments_of_pair p) (total_of arguments_of_pair ps) m (pair_marks d p m)
    (pairs_marks d ps (pair_marks d p m)) (pair_takes d p m) (pairs_take d ps (pair_marks d p m))

pub skip_takes : (k : Option T.Skip) (m : Marks) → Takes 0 m (skip_marks k m)
skip_takes None m = takes_none m
skip_takes (Some k) m = times_take k.number k.place m
