-- The worked row with INITIAL: it is computed from its tree.
use Rattle.std.proofs.Common.{◌≡◌, ℕ, zero, suc, ◌^◌, ◌≤◌, ◌<◌, List, [], ◌∷◌, Some, None, refl, subst, inl, inr}
use Rattle.std.proofs.Common.{arith}
use Rattle.std.specs.Prelude.{pos, slice_get}
use Rattle.pli_language.specs.Formats.{Putting, format_moves_data, formats_move_data}
use Rattle.pli_language.specs.Tree as T
use Rattle.pli_typing.specs.TypedTree as Y
use Rattle.pli_meaning.specs.declared.outcome.End.TheVariants as E
use Rattle.pli_meaning.specs.Control as F
use Rattle.pli_meaning.specs.Evaluating as V
use Rattle.pli_meaning.specs.Executing as M
use Rattle.pli_meaning.specs.Making as K
use Rattle.pli_meaning.specs.Placing as P
use Rattle.pli_meaning.specs.Raising as R
use Rattle.pli_meaning.specs.Streaming as S
use Rattle.pli_coding.specs.Images.{code_of, picture_of}
use Rattle.pli_coding.specs.Linking.{links_of}
use Rattle.well_formed_trees.specs.Blocks.{times}
use Rattle.well_formed_trees.specs.Declarations.{SoundVariable}
use Rattle.well_formed_trees.specs.Expressions.{SoundNumber}
use Rattle.well_formed_trees.specs.Ranges.{IsFormatList}
use Rattle.well_formed_trees.specs.References.{Designates, IsScalar, IsTextScalar}
use Rattle.well_formed_trees.specs.Statements.{SoundStmt}
use Rattle.well_formed_trees.specs.Surroundings.{Around, IsDeclared, Returns, Table, Where}
use Rattle.well_formed_trees.specs.WellFormed.{AreNested, AreNumbered, DeclaresSound, IsBehind, IsEntry, IsWellFormed}
use Rattle.well_formed_trees.specs.WellFormed.{SoundProcedure}
use Rattle.storage_relation.proofs.Holders.{eqb-other}
use Rattle.run_steps.proofs.Linking.{linked_length}
use Rattle.expression_runs.specs.Assignments.{assignment}
use Rattle.expression_runs.specs.Variables.{Spot, number_declared, variable_of, whole}
use Rattle.element_runs.specs.Arrays.{array_declared, array_leaf, element}
use Rattle.scalar_runs.specs.Scalars.{scalar_declared, scalar_leaf}
use Rattle.pli_headline.specs.Headline.{FitsMemory, parts}
use Rattle.number_headlines.specs.CallRows.{head_at}
use Rattle.number_headlines.specs.Headlines.{IsNumberProgram}
use Rattle.number_headlines.specs.InitialRows.{count_body, count_call, count_function, entries_used, entry_at}
use Rattle.number_headlines.specs.InitialRows.{initial_body, initial_main, initial_program, less, local_spot}
use Rattle.number_headlines.specs.InitialRows.{number_items, result_spot}
use Rattle.number_headlines.specs.InitialRows.{table_bounds, table_items, table_spot, title_formats, title_items}
use Rattle.number_headlines.specs.InitialRows.{title_spot, title_type, turn_spot, value_of}

-- ---- it is well formed

abbrev main_entry : Around
main_entry = record { number = 1; level = 0; outermost = []; inner = [] }

abbrev count_entry : Around
count_entry = record { number = 2; level = 1; outermost = []; inner = [] }

abbrev table : Table
table = [] ∷ (main_entry ∷ []) ∷ (count_entry ∷ main_entry ∷ []) ∷ []

abbrev in_main : Where
in_main = record { program = initial_program; table = table; around = main_entry ∷ []; returning = Returns None }

abbrev in_count : Where
in_count =
    record {
      program = initial_program;
      table = table;
      around = count_entry ∷ main_entry ∷ [];
      returning = Returns (Some (Y.FixedLeaf 31));
    }

number_designated :
    (w : Where) (x : Spot) (initial : List T.InitialItem) →
    IsDeclared w (variable_of x) (number_declared initial) → Designates w (whole x)
number_designated w x initial declared = record {
  d = number_declared initial;
  declared = declared;
  dimensions = 0;
  member = record { place = 0; dimensions_are = refl; part_is = refl; some = omega arith; within = omega arith };
  subscripted = inl refl;
}

number_scalar :
    (w : Where) (x : Spot) (initial : List T.InitialItem) →
    IsDeclared w (variable_of x) (number_declared initial) → IsScalar w (Y.FixedLeaf 31) (whole x)
unfolding number_designated
number_scalar w x initial declared = record {
  designates = number_designated w x initial declared;
  leaf = record { type = Y.FixedLeaf 31; bounds = []; initial = initial };
  one = record { one = refl; leaf_is = refl };
  type_is = refl;
  many = refl;
}

number_sound :
    (w : Where) (x : Spot) (initial : List T.InitialItem) →
    IsDeclared w (variable_of x) (number_declared initial) → SoundNumber w (value_of x)
number_sound w x initial declared = (
  record { precision = 31; scalar = number_scalar w x initial declared },
  (number_designated w x initial declared, (tt, (tt, tt))),
)

assigned_sound :
    (w : Where) (x : Spot) (initial : List T.InitialItem) (y : Y.Number) (line : ℕ) →
    IsDeclared w (variable_of x) (number_declared initial) → SoundNumber w y → line < 2 ^ 31 →
    SoundStmt w (assignment x y line)
assigned_sound w x initial y line declared sound few = (
  record { type = Y.FixedLeaf 31; scalar = number_scalar w x initial declared; fits = refl },
  ((number_designated w x initial declared, (tt, (tt, tt))), (((omega arith, omega arith), sound), few)),
)

table_in : IsDeclared in_main (variable_of table_spot) (array_declared table_bounds table_items)
table_in = record { found = refl; same_class = refl; block_around = inl (refl, refl) }

title_in : IsDeclared in_main (variable_of title_spot) (scalar_declared title_type title_items)
title_in = record { found = refl; same_class = refl; block_around = inl (refl, refl) }

result_in : IsDeclared in_main (variable_of result_spot) (number_declared [])
result_in = record { found = refl; same_class = refl; block_around = inl (refl, refl) }

turn_outside : IsDeclared in_count (variable_of turn_spot) (number_declared (number_items 1))
turn_outside = record { found = refl; same_class = refl; block_around = inr (inl (refl, refl)) }

local_in : IsDeclared in_count (variable_of local_spot) (number_declared (number_items 3))
local_in = record { found = refl; same_class = refl; block_around = inl (refl, refl) }

entry_designated : (y : Y.Number) → Designates in_main (element table_spot y)
entry_designated y = record {
  d = array_declared table_bounds table_items;
  declared = table_in;
  dimensions = 1;
  member = record { place = 0; dimensions_are = refl; part_is = refl; some = omega arith; within = omega arith };
  subscripted = inr refl;
}

entry_scalar : (y : Y.Number) → IsScalar in_main (Y.FixedLeaf 31) (element table_spot y)
unfolding entry_designated
entry_scalar y = record {
  designates = entry_designated y;
  leaf = array_leaf table_bounds table_items;
  one = record { one = refl; leaf_is = refl };
  type_is = refl;
  many = refl;
}

entry_sound : (y : Y.Number) → SoundNumber in_main y → SoundNumber in_main (entry_at y)
entry_sound y sound = (
  record { precision = 31; scalar = entry_scalar y },
  (entry_designated y, (tt, (tt, (sound, tt)))),
)

title_designated : Designates in_main (whole title_spot)
title_designated = record {
  d = scalar_declared title_type title_items;
  declared = title_in;
  dimensions = 0;
  member = record { place = 0; dimensions_are = refl; part_is = refl; some = omega arith; within = omega arith };
  subscripted = inl refl;
}

title_scalar : IsScalar in_main title_type (whole title_spot)
unfolding title_designated
title_scalar = record {
  designates = title_designated;
  leaf = scalar_leaf title_type title_items;
  one = record { one = refl; leaf_is = refl };
  type_is = refl;
  many = refl;
}

title_text : IsTextScalar in_main (whole title_spot)
title_text = record { size = Y.ConstantExtent (pos 4); scalar = inr title_scalar }

-- the function is called in the main procedure and by itself
main_call : SoundNumber in_main count_call
main_call = (
  (count_function, refl, tt),
  (
    record {
      procedure = count_function;
      is = record {
        found = refl;
        level_is = refl;
        kind = refl;
        own = count_entry;
        holder = main_entry;
        outer = [];
        entry = refl;
        holder_around = inl (refl, refl);
      };
      passed = tt;
    },
    tt,
  ),
)

own_call : SoundNumber in_count count_call
own_call = (
  (count_function, refl, tt),
  (
    record {
      procedure = count_function;
      is = record {
        found = refl;
        level_is = refl;
        kind = refl;
        own = count_entry;
        holder = main_entry;
        outer = [];
        entry = refl;
        holder_around = inr (inl (refl, refl));
      };
      passed = tt;
    },
    tt,
  ),
)

result_sound : SoundNumber in_main (value_of result_spot)
result_sound = number_sound in_main result_spot [] result_in

local_sound : SoundNumber in_count (value_of local_spot)
local_sound = number_sound in_count local_spot (number_items 3) local_in

turn_sound : SoundNumber in_count (value_of turn_spot)
turn_sound = number_sound in_count turn_spot (number_items 1) turn_outside

entries_sound : SoundNumber in_main entries_used
entries_sound = (
  (
    entry_sound (less result_spot 3) (result_sound, omega arith),
    entry_sound (Y.NumberConstant 3) (omega arith),
  ),
  entry_sound (less result_spot 4) (result_sound, omega arith),
)

formats_sound : IsFormatList Putting title_formats
unfolding formats_move_data format_moves_data
formats_sound = record {
  formats_are = ((omega arith, omega arith), (tt, ((omega arith, omega arith), ((omega arith, omega arith), tt))));
  moves_data = refl;
}

main_sound : SoundProcedure table initial_program initial_main
main_sound = record {
  head = head_at 1 0 1;
  body = initial_body;
  is = refl;
  kind = refl;
  line = omega arith;
  outer = [];
  held = refl;
  listed = refl;
  statements = (
    assigned_sound in_main result_spot [] count_call 9 result_in main_call (omega arith),
    (
      assigned_sound in_main result_spot [] entries_used 10 result_in entries_sound (omega arith),
      (
        (
          tt,
          (
            (
              (
                formats_sound,
                (
                  (title_text, (title_designated, (tt, (tt, tt)))),
                  (((omega arith, omega arith), result_sound), tt),
                ),
              ),
              tt,
            ),
            omega arith,
          ),
        ),
        tt,
      ),
    ),
  );
  labels = (tt, (tt, (tt, (tt, tt))));
  parameters = tt;
  apart = tt;
  result = tt;
}

count_sound : SoundProcedure table initial_program count_function
count_sound = record {
  head = head_at 2 1 4;
  body = count_body;
  is = refl;
  kind = refl;
  line = omega arith;
  outer = main_entry ∷ [];
  held = (refl, refl);
  listed = refl;
  statements = (
    assigned_sound in_count local_spot (number_items 3)
        (Y.Calculated Y.Sum (value_of local_spot) (Y.NumberConstant 1)) 5 local_in (local_sound, omega arith)
        (omega arith),
    (
      (
        (turn_sound, omega arith),
        ((refl, (refl, (((omega arith, omega arith), local_sound), omega arith))), omega arith),
      ),
      (
        assigned_sound in_count turn_spot (number_items 1) (less turn_spot 1) 6 turn_outside
            (turn_sound, omega arith) (omega arith),
        (
          (refl, (refl, (((omega arith, omega arith), (local_sound, own_call)), omega arith))),
          tt,
        ),
      ),
    ),
  );
  labels = (tt, (tt, (tt, (tt, (tt, tt)))));
  parameters = tt;
  apart = tt;
  result = (omega arith, omega arith);
}

initial_entries : (number : ℕ) → 1 ≤ number → number < 3 → IsEntry table number
initial_entries zero low high = absurd (omega (arith, low))
initial_entries (suc zero) low high =
    record { own = main_entry; outer = []; entry = refl; number_is = refl; shallow = omega arith }
initial_entries (suc (suc zero)) low high =
    record { own = count_entry; outer = main_entry ∷ []; entry = refl; number_is = refl; shallow = omega arith }
initial_entries (suc (suc (suc n))) low high = absurd (omega (arith, high))

-- between the main procedure and the function in it stands none
none_between :
    (high m : ℕ) (a : Around) (more : List Around) → high < 3 → 1 < m → m ≤ high →
    slice_get table m ≡ Some (a ∷ more) → 0 < a.level
none_between high zero a more few low within e = absurd (omega (arith, low))
none_between high (suc zero) a more few low within e = absurd (omega (arith, low))
none_between high (suc (suc zero)) a more few low within e =
    let is : count_entry ≡ a = cc e in
    subst (λ (x : Around). 0 < x.level) is (omega arith)
none_between high (suc (suc (suc n))) a more few low within e = absurd (omega (arith, few, within))

initial_nested : AreNested table
initial_nested zero own outer e = absurd (cc e)
initial_nested (suc zero) own outer e =
    let is : [] ≡ outer = cc e in
    subst (λ os. IsBehind table 1 os) is tt
initial_nested (suc (suc zero)) own outer e =
    let is : main_entry ∷ [] ≡ outer = cc e in
    subst (λ os. IsBehind table 2 os) is
    (omega arith, λ m a more low high at. none_between 2 m a more (omega arith) low high at)
initial_nested (suc (suc (suc n))) own outer e = absurd (cc e)

initial_numbers : AreNumbered 3 (1 ∷ 2 ∷ [])
initial_numbers = record { once = once; none = none; not_outermost = refl }
  where
    once : (n : ℕ) → 1 ≤ n → n < 3 → times n (1 ∷ 2 ∷ []) ≡ 1
    once zero low high = absurd (omega (arith, low))
    once (suc zero) low high = refl
    once (suc (suc zero)) low high = refl
    once (suc (suc (suc n))) low high = absurd (omega (arith, high))

    none : (n : ℕ) → 3 ≤ n → times n (1 ∷ 2 ∷ []) ≡ 0
    none n low =
        simp (eqb-other n 1 (λ e. omega (arith, e, low)), eqb-other n 2 (λ e. omega (arith, e, low))) refl

table_declared : (w : Where) → SoundVariable w 0 (array_declared table_bounds table_items)
table_declared w = record {
  members = (refl, tt);
  many = refl;
  dimensions = (refl, tt);
  leaves = (
    record {
      type_is = (omega arith, omega arith);
      bounds_are = (((omega arith, omega arith), ((refl, tt), tt)), tt);
      few = omega arith;
      initial_is = ((omega arith, refl), ((omega arith, refl), ((omega arith, tt), ((omega arith, refl), tt))));
    },
    tt,
  );
  areas = inl (tt, tt);
  refer = tt;
  kept = ((λ k. k, (λ e. absurd (cc e), tt)), tt);
  evaluations = tt;
}

title_declared : (w : Where) → SoundVariable w 1 (scalar_declared title_type title_items)
title_declared w = record {
  members = (refl, tt);
  many = refl;
  dimensions = (refl, tt);
  leaves = (
    record {
      type_is = (omega arith, (omega arith, tt));
      bounds_are = tt;
      few = omega arith;
      initial_is = ((omega arith, omega arith), tt);
    },
    tt,
  );
  areas = inl (tt, tt);
  refer = tt;
  kept = ((λ k. k, tt), tt);
  evaluations = tt;
}

turn_declared : (w : Where) → SoundVariable w 2 (number_declared (number_items 1))
turn_declared w = record {
  members = (refl, tt);
  many = refl;
  dimensions = (refl, tt);
  leaves = (
    record {
      type_is = (omega arith, omega arith);
      bounds_are = tt;
      few = omega arith;
      initial_is = ((omega arith, refl), tt);
    },
    tt,
  );
  areas = inl (tt, tt);
  refer = tt;
  kept = ((λ k. k, tt), tt);
  evaluations = tt;
}

result_declared : (w : Where) → SoundVariable w 3 (number_declared [])
result_declared w = record {
  members = (refl, tt);
  many = refl;
  dimensions = (refl, tt);
  leaves = (record { type_is = (omega arith, omega arith); bounds_are = tt; few = omega arith; initial_is = tt }, tt);
  areas = inl (tt, tt);
  refer = tt;
  kept = ((λ k. k, tt), tt);
  evaluations = tt;
}

local_declared : (w : Where) → SoundVariable w 0 (number_declared (number_items 3))
local_declared w = record {
  members = (refl, tt);
  many = refl;
  dimensions = (refl, tt);
  leaves = (
    record {
      type_is = (omega arith, omega arith);
      bounds_are = tt;
      few = omega arith;
      initial_is = ((omega arith, refl), tt);
    },
    tt,
  );
  areas = inl (tt, tt);
  refer = tt;
  kept = ((λ k. k, tt), tt);
  evaluations = tt;
}

initial_declares : (number : ℕ) → DeclaresSound table initial_program number
initial_declares zero around e = tt
initial_declares (suc zero) around e =
    (table_declared _, (title_declared _, (turn_declared _, (result_declared _, tt))))
initial_declares (suc (suc zero)) around e = (local_declared _, tt)
initial_declares (suc (suc (suc n))) around e = absurd (cc e)

initial_well : IsWellFormed initial_program
initial_well = record {
  table = table;
  main = (refl, (refl, (omega arith, tt)));
  numbers = initial_numbers;
  entries = initial_entries;
  nested = initial_nested;
  procedures = (main_sound, (count_sound, tt));
  lists = refl;
  outermost = refl;
  variables = initial_declares;
}

-- ---- it is of the class

pub initial_program_is : IsNumberProgram initial_program
initial_program_is = record { well_formed = initial_well; numbers = refl }

pub initial_fits : FitsMemory (picture_of parts initial_program)
initial_fits =
    let n = linked_length (links_of (code_of parts initial_program)) 0 (code_of parts initial_program) in
    record { code_fits = omega (arith, n); statics_fit = omega arith }

-- ---- what it comes to

unfoldable flows : Unit {0}
unfolding F.give F.◌>>=◌ F.◌>>◌ F.looked F.stored F.act F.finish F.returns F.jumps F.choose F.given F.list_from
    F.leaving F.repeated_while M.met_after_act
flows = tt

unfoldable values : Unit {0}
unfolding V.number V.bit V.text V.designated V.located V.numbers V.variable_designated V.part_designated V.stored_value
    R.or_error R.demanded R.value_of R.raised R.unit_run R.error R.error_unit_run P.element_stored M.assigned
    V.computational
values = tt

unfoldable writings : Unit {0}
unfolding S.put S.pairs_put S.items_put S.item_put S.next_item S.controls S.control_put S.shown_by
writings = tt

unfoldable calls : Unit {0}
unfolding V.called V.all_passed_last V.procedure_entered V.returned
calls = tt

unfoldable makings : Unit {0}
unfolding K.variables_made K.automatic_made K.extents K.variable_made K.parameters_bound
makings = tt

unfoldable statements : Unit {0}
unfolding M.statement M.statements M.list M.list_with M.block_variables_made M.entry_act M.block_list M.block_body
statements = tt

pub initial_ends :
    (input : List ℕ) →
    M.meaning initial_program input 16
    ≡ Some (record {
      acts = 16;
      output = 70 ∷ 61 ∷ 32 ∷ 32 ∷ 52 ∷ 56 ∷ 10 ∷ [];
      raised = [];
      end = E.Finished;
    })
unfolding M.meaning M.run M.entered M.block_run flows values writings calls makings statements
initial_ends input = refl
