-- The worked row with arrays of two dimensions and of bits: it is computed from its tree.
use Rattle.std.proofs.Common.{◌≡◌, ℕ, zero, suc, ◌≤◌, ◌<◌, ◌^◌, List, [], ◌∷◌, Some, None, refl, ap, subst, inl, inr}
use Rattle.std.proofs.Common.{arith}
use Rattle.std.specs.Prelude.{cond}
use Rattle.pli_language.specs.declared.condition.Condition.TheVariants as C
use Rattle.pli_language.specs.Formats.{Putting, format_moves_data, formats_move_data}
use Rattle.pli_typing.specs.TypedTree as Y
use Rattle.pli_meaning.specs.declared.outcome.End.TheVariants as E
use Rattle.pli_meaning.specs.Control as F
use Rattle.pli_meaning.specs.Evaluating as V
use Rattle.pli_meaning.specs.Executing as M
use Rattle.pli_meaning.specs.Making as K
use Rattle.pli_meaning.specs.Placing as P
use Rattle.pli_meaning.specs.Raising as R
use Rattle.pli_meaning.specs.Streaming as S
use Rattle.pli_coding.specs.Images.{code_of, picture_of}
use Rattle.pli_coding.specs.Linking.{links_of}
use Rattle.well_formed_trees.specs.Blocks.{times}
use Rattle.well_formed_trees.specs.Declarations.{SoundVariable}
use Rattle.well_formed_trees.specs.Expressions.{SoundBit, SoundNumber}
use Rattle.well_formed_trees.specs.Ranges.{IsFormatList}
use Rattle.well_formed_trees.specs.References.{Designates, IsScalar}
use Rattle.well_formed_trees.specs.Statements.{SoundStmt}
use Rattle.well_formed_trees.specs.Surroundings.{Around, Returns, Table, Where}
use Rattle.well_formed_trees.specs.WellFormed.{AreNested, AreNumbered, DeclaresSound, IsBehind, IsEntry, IsWellFormed}
use Rattle.well_formed_trees.specs.WellFormed.{SoundProcedure}
use Rattle.storage_relation.proofs.Holders.{eqb-other}
use Rattle.run_steps.proofs.Linking.{linked_length}
use Rattle.expression_runs.specs.Assignments.{assignment}
use Rattle.expression_runs.specs.Variables.{number_declared, whole}
use Rattle.scalar_runs.specs.Assignments.{number_assignment}
use Rattle.scalar_runs.specs.Scalars.{scalar_declared}
use Rattle.array_runs.specs.Arrays.{element, grid_declared, grid_leaf}
use Rattle.array_runs.specs.Laws.{bit_assigned}
use Rattle.pli_headline.specs.Headline.{FitsMemory, parts}
use Rattle.number_headlines.specs.Headlines.{IsNumberProgram}
use Rattle.number_headlines.specs.GridRows.{column, column_spot, entry_at, entry_formats, entry_given, entry_sum}
use Rattle.number_headlines.specs.GridRows.{first_flag, flag_given, flags_grid, flags_spot, less_than, more_than, one}
use Rattle.number_headlines.specs.GridRows.{row}
use Rattle.number_headlines.specs.GridRows.{first_in, row_limit, row_spot, triangle_body, triangle_grid, triangle_head}
use Rattle.number_headlines.specs.GridRows.{triangle_main}
use Rattle.number_headlines.specs.GridRows.{triangle_program, triangle_spot, two}

-- ---- it is well formed

abbrev triangle_entry : Around
triangle_entry = record { number = 1; level = 0; outermost = []; inner = [] }

abbrev table : Table
table = [] ∷ (triangle_entry ∷ []) ∷ []

-- also in the lists of loops
abbrev here : Where
here =
    record { program = triangle_program; table = table; around = triangle_entry ∷ []; returning = Returns None }

abbrev row_is : Designates here (whole row_spot)
row_is = record {
  d = scalar_declared (Y.FixedLeaf 15) [];
  declared = record { found = refl; same_class = refl; block_around = inl (refl, refl) };
  dimensions = 0;
  member = record { place = 0; dimensions_are = refl; part_is = refl; some = omega arith; within = omega arith };
  subscripted = inl refl;
}

row_scalar : IsScalar here (Y.FixedLeaf 15) (whole row_spot)
row_scalar = record {
  designates = row_is;
  leaf = record { type = Y.FixedLeaf 15; bounds = []; initial = [] };
  one = record { one = refl; leaf_is = refl };
  type_is = refl;
  many = refl;
}

row_sound : SoundNumber here row
row_sound = (record { precision = 15; scalar = row_scalar }, (row_is, (tt, (tt, tt))))

abbrev column_is : Designates here (whole column_spot)
column_is = record {
  d = number_declared [];
  declared = record { found = refl; same_class = refl; block_around = inl (refl, refl) };
  dimensions = 0;
  member = record { place = 0; dimensions_are = refl; part_is = refl; some = omega arith; within = omega arith };
  subscripted = inl refl;
}

column_scalar : IsScalar here (Y.FixedLeaf 31) (whole column_spot)
column_scalar = record {
  designates = column_is;
  leaf = record { type = Y.FixedLeaf 31; bounds = []; initial = [] };
  one = record { one = refl; leaf_is = refl };
  type_is = refl;
  many = refl;
}

column_sound : SoundNumber here column
column_sound = (record { precision = 31; scalar = column_scalar }, (column_is, (tt, (tt, tt))))

-- elements

abbrev entry_is : (x y : Y.Number) → Designates here (element triangle_spot (two x y))
entry_is x y = record {
  d = grid_declared triangle_grid [];
  declared = record { found = refl; same_class = refl; block_around = inl (refl, refl) };
  dimensions = 2;
  member = record { place = 0; dimensions_are = refl; part_is = refl; some = omega arith; within = omega arith };
  subscripted = inr refl;
}

entry_scalar : (x y : Y.Number) → IsScalar here (Y.FixedLeaf 15) (element triangle_spot (two x y))
entry_scalar x y = record {
  designates = entry_is x y;
  leaf = grid_leaf triangle_grid [];
  one = record { one = refl; leaf_is = refl };
  type_is = refl;
  many = refl;
}

entry_sound : (x y : Y.Number) → SoundNumber here x → SoundNumber here y → SoundNumber here (entry_at x y)
entry_sound x y first second = (
  record { precision = 15; scalar = entry_scalar x y },
  (entry_is x y, (tt, (tt, (first, (second, tt))))),
)

given_sound :
    (x y source : Y.Number) (line : ℕ) → SoundNumber here x → SoundNumber here y → SoundNumber here source →
    line < 2 ^ 31 → SoundStmt here (entry_given x y source line)
given_sound x y source line first second value few = (
  record { type = Y.FixedLeaf 15; scalar = entry_scalar x y; fits = refl },
  ((entry_is x y, (tt, (tt, (first, (second, tt))))), (((omega arith, omega arith), value), few)),
)

abbrev flag_is : (x : Y.Number) → Designates here (element flags_spot (one x))
flag_is x = record {
  d = grid_declared flags_grid [];
  declared = record { found = refl; same_class = refl; block_around = inl (refl, refl) };
  dimensions = 1;
  member = record { place = 0; dimensions_are = refl; part_is = refl; some = omega arith; within = omega arith };
  subscripted = inr refl;
}

flag_scalar : (x : Y.Number) → IsScalar here Y.BitLeaf (element flags_spot (one x))
flag_scalar x = record {
  designates = flag_is x;
  leaf = grid_leaf flags_grid [];
  one = record { one = refl; leaf_is = refl };
  type_is = refl;
  many = refl;
}

first_flag_sound : SoundBit here first_flag
first_flag_sound = (flag_scalar (Y.NumberConstant 1), (flag_is (Y.NumberConstant 1), (tt, (tt, (omega arith, tt)))))

flag_given_sound : SoundStmt here flag_given
flag_given_sound = (
  record { type = Y.BitLeaf; scalar = flag_scalar column; fits = tt },
  (
    (flag_is column, (tt, (tt, (column_sound, tt)))),
    ((entry_sound row column row_sound column_sound, omega arith), omega arith),
  ),
)

entry_sum_sound : SoundNumber here entry_sum
entry_sum_sound = (
  entry_sound (less_than row) column (row_sound, omega arith) column_sound,
  entry_sound (less_than row) (less_than column) (row_sound, omega arith) (column_sound, omega arith),
)

-- bounds

abbrev triangle_is : Designates here (whole triangle_spot)
triangle_is = record {
  d = grid_declared triangle_grid [];
  declared = record { found = refl; same_class = refl; block_around = inl (refl, refl) };
  dimensions = 2;
  member = record { place = 0; dimensions_are = refl; part_is = refl; some = omega arith; within = omega arith };
  subscripted = inl refl;
}

first_sound : SoundNumber here (first_in 1)
first_sound = (
  record { designates = triangle_is; none = refl; low = omega arith; high = omega arith },
  (triangle_is, (tt, (tt, tt))),
)

second_sound : SoundNumber here (first_in 2)
second_sound = (
  record { designates = triangle_is; none = refl; low = omega arith; high = omega arith },
  (triangle_is, (tt, (tt, tt))),
)

row_limit_sound : SoundNumber here row_limit
row_limit_sound = (
  (
    record { designates = triangle_is; none = refl; low = omega arith; high = omega arith },
    (triangle_is, (tt, (tt, tt))),
  ),
  (
    record { designates = triangle_is; none = refl; low = omega arith; high = omega arith },
    (triangle_is, (tt, (tt, tt))),
  ),
)

-- statements

row_given_sound :
    (source : Y.Number) (line : ℕ) → SoundNumber here source → line < 2 ^ 31 →
    SoundStmt here (number_assignment row_spot 15 source line)
row_given_sound source line value few = (
  record { type = Y.FixedLeaf 15; scalar = row_scalar; fits = refl },
  ((row_is, (tt, (tt, tt))), (((omega arith, omega arith), value), few)),
)

column_given_sound :
    (source : Y.Number) (line : ℕ) → SoundNumber here source → line < 2 ^ 31 →
    SoundStmt here (assignment column_spot source line)
column_given_sound source line value few = (
  record { type = Y.FixedLeaf 31; scalar = column_scalar; fits = refl },
  ((column_is, (tt, (tt, tt))), (((omega arith, omega arith), value), few)),
)

one_format : IsFormatList Putting entry_formats
unfolding formats_move_data format_moves_data
one_format = record {
  formats_are = ((omega arith, omega arith), ((omega arith, omega arith), tt));
  moves_data = refl;
}

main_sound : SoundProcedure table triangle_program triangle_main
main_sound = record {
  head = triangle_head;
  body = triangle_body;
  is = refl;
  kind = refl;
  line = omega arith;
  outer = [];
  held = refl;
  listed = refl;
  statements = (
    given_sound (first_in 1) (first_in 2) (Y.NumberConstant 1) 3 first_sound second_sound (omega arith) (omega arith),
    (
      row_given_sound (Y.NumberConstant 0) 3 (omega arith) (omega arith),
      (
        (
          (row_sound, row_limit_sound),
          (
            (
              row_given_sound (more_than row) 5 (row_sound, omega arith) (omega arith),
              (
                given_sound row (Y.NumberConstant 0) (Y.NumberConstant 1) 5 row_sound (omega arith) (omega arith)
                    (omega arith),
                (
                  column_given_sound (Y.NumberConstant 0) 6 (omega arith) (omega arith),
                  (
                    (
                      (column_sound, row_sound),
                      (
                        (
                          column_given_sound (more_than column) 8 (column_sound, omega arith) (omega arith),
                          (
                            given_sound row column entry_sum 9 row_sound column_sound entry_sum_sound (omega arith),
                            (
                              (
                                tt,
                                (
                                  (
                                    (
                                      one_format,
                                      (
                                        (
                                          (omega arith, omega arith),
                                          entry_sound row column row_sound column_sound,
                                        ),
                                        tt,
                                      ),
                                    ),
                                    tt,
                                  ),
                                  omega arith,
                                ),
                              ),
                              (flag_given_sound, tt),
                            ),
                          ),
                        ),
                        omega arith,
                      ),
                    ),
                    (
                      (
                        first_flag_sound,
                        (
                          given_sound row (more_than column) (Y.NumberConstant 1) 13 row_sound
                              (column_sound, omega arith) (omega arith) (omega arith),
                          omega arith,
                        ),
                      ),
                      tt,
                    ),
                  ),
                ),
              ),
            ),
            omega arith,
          ),
        ),
        tt,
      ),
    ),
  );
  labels = (tt, (tt, (tt, ((tt, (tt, (tt, ((tt, (tt, (tt, (tt, tt)))), (tt, tt))))), tt))));
  parameters = tt;
  apart = tt;
  result = tt;
}

triangle_entries : (number : ℕ) → 1 ≤ number → number < 2 → IsEntry table number
triangle_entries zero low high = absurd (omega (arith, low))
triangle_entries (suc zero) low high =
    record { own = triangle_entry; outer = []; entry = refl; number_is = refl; shallow = omega arith }
triangle_entries (suc (suc n)) low high = absurd (omega (arith, high))

triangle_nested : AreNested table
triangle_nested zero own outer e = absurd (cc e)
triangle_nested (suc zero) own outer e =
    let none : [] ≡ outer = cc e in
    subst (λ os. IsBehind table 1 os) none tt
triangle_nested (suc (suc n)) own outer e = absurd (cc e)

triangle_numbers : AreNumbered 2 (1 ∷ [])
triangle_numbers = record { once = once; none = none; not_outermost = refl }
  where
    once : (n : ℕ) → 1 ≤ n → n < 2 → times n (1 ∷ []) ≡ 1
    once zero low high = absurd (omega (arith, low))
    once (suc zero) low high = refl
    once (suc (suc n)) low high = absurd (omega (arith, high))

    none : (n : ℕ) → 2 ≤ n → times n (1 ∷ []) ≡ 0
    none n low = ap (λ q. cond q 1 0) (eqb-other n 1 (λ e. omega (arith, e, low)))

triangle_variable : (w : Where) → SoundVariable w 0 (grid_declared triangle_grid [])
triangle_variable w = record {
  members = (refl, tt);
  many = refl;
  dimensions = (refl, tt);
  leaves = (
    record {
      type_is = (omega arith, omega arith);
      bounds_are = (
        ((omega arith, omega arith), ((refl, tt), tt)),
        (((omega arith, omega arith), ((refl, tt), tt)), tt),
      );
      few = omega arith;
      initial_is = tt;
    },
    tt,
  );
  areas = inl (tt, tt);
  refer = tt;
  kept = ((λ k. k, (λ e. absurd (cc e), (λ e. absurd (cc e), tt))), tt);
  evaluations = tt;
}

flags_variable : (w : Where) → SoundVariable w 1 (grid_declared flags_grid [])
flags_variable w = record {
  members = (refl, tt);
  many = refl;
  dimensions = (refl, tt);
  leaves = (
    record {
      type_is = tt;
      bounds_are = (((omega arith, omega arith), ((refl, tt), tt)), tt);
      few = omega arith;
      initial_is = tt;
    },
    tt,
  );
  areas = inl (tt, tt);
  refer = tt;
  kept = ((λ k. k, (λ e. absurd (cc e), tt)), tt);
  evaluations = tt;
}

row_variable : (w : Where) → SoundVariable w 2 (scalar_declared (Y.FixedLeaf 15) [])
row_variable w = record {
  members = (refl, tt);
  many = refl;
  dimensions = (refl, tt);
  leaves = (record { type_is = (omega arith, omega arith); bounds_are = tt; few = omega arith; initial_is = tt }, tt);
  areas = inl (tt, tt);
  refer = tt;
  kept = ((λ k. k, tt), tt);
  evaluations = tt;
}

column_variable : (w : Where) → SoundVariable w 3 (number_declared [])
column_variable w = record {
  members = (refl, tt);
  many = refl;
  dimensions = (refl, tt);
  leaves = (record { type_is = (omega arith, omega arith); bounds_are = tt; few = omega arith; initial_is = tt }, tt);
  areas = inl (tt, tt);
  refer = tt;
  kept = ((λ k. k, tt), tt);
  evaluations = tt;
}

triangle_declares : (number : ℕ) → DeclaresSound table triangle_program number
triangle_declares zero around e = tt
triangle_declares (suc zero) around e =
    (triangle_variable _, (flags_variable _, (row_variable _, (column_variable _, tt))))
triangle_declares (suc (suc n)) around e = absurd (cc e)

triangle_well : IsWellFormed triangle_program
triangle_well = record {
  table = table;
  main = (refl, (refl, tt));
  numbers = triangle_numbers;
  entries = triangle_entries;
  nested = triangle_nested;
  procedures = (main_sound, tt);
  lists = refl;
  outermost = refl;
  variables = triangle_declares;
}

-- ---- it is of the class

pub triangle_program_is : IsNumberProgram triangle_program
triangle_program_is = record { well_formed = triangle_well; numbers = refl }

pub triangle_fits : FitsMemory (picture_of parts triangle_program)
triangle_fits =
    let n = linked_length (links_of (code_of parts triangle_program)) 0 (code_of parts triangle_program) in
    record { code_fits = omega (arith, n); statics_fit = omega arith }

-- ---- what it comes to

unfoldable flows : Unit {0}
unfolding F.give F.◌>>=◌ F.◌>>◌ F.looked F.stored F.act F.finish F.returns F.jumps F.choose F.given F.list_from
    F.leaving F.repeated_while M.met_after_act
flows = tt

unfoldable values : Unit {0}
unfolding V.number V.bit V.designated V.located V.numbers V.variable_designated V.part_designated V.stored_value
    R.or_error R.demanded R.value_of R.raised R.unit_run R.error R.error_unit_run P.element_stored M.assigned
    V.computational
values = tt

unfoldable writings : Unit {0}
unfolding S.put S.pairs_put S.items_put S.item_put S.next_item S.controls S.control_put S.shown_by
writings = tt

unfoldable makings : Unit {0}
unfolding K.variables_made K.automatic_made K.extents K.variable_made K.parameters_bound
makings = tt

unfoldable statements : Unit {0}
unfolding M.statement M.statements M.list M.list_with M.block_variables_made M.entry_act M.block_list M.block_body
statements = tt

pub triangle_ends :
    (input : List ℕ) →
    M.meaning triangle_program input 64
    ≡ Some (record {
      acts = 64;
      output =
          32 ∷ 32 ∷ 49 ∷ 32 ∷ 32 ∷ 50 ∷ 32 ∷ 32 ∷ 49 ∷ 32 ∷ 32 ∷ 51 ∷ 32 ∷ 32 ∷ 51 ∷ 32 ∷ 32 ∷ 49 ∷ 10 ∷ [];
      raised = (C.Error, 102) ∷ [];
      end = E.Error 102 13;
    })
unfolding M.meaning M.run M.entered M.block_run flows values writings makings statements
triangle_ends input = refl
